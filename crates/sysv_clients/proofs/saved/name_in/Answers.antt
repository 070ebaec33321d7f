use Rattle.std.proofs.Common.{◌≡◌, ◌∙◌, ℕ, List, sym, subst}
use Rattle.sysv_clients.specs.Words.{IsHexKey}
use Rattle.sysv_clients.proofs.SavedLemmas.{same_string}
use Rattle.sysv_clients.proofs.saved.name_in.Goals as goal

pub returns-in_default-hex_key : goal.returns-in_default-hex_key
returns-in_default-hex_key c = λ name id rest h.
    c.in_default-hex_key.ensures name
    (subst (λ (word : List ℕ). IsHexKey word name)
    (sym (c.as_bytes.ensures.value ∙ same_string _ _ _ _ _ _ c.in-Some.ensures h.object)) h.has_key)
