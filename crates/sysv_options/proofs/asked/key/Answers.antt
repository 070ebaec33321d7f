use Rattle.std.proofs.Common.{◌≡◌, ◌∙◌, ℕ, ℤ, List, Some, Result, codes, sym, ap, subst}
use Rattle.sysv_clients.specs.Words.{IsKey}
use Rattle.sysv_options.specs.declared.asked.Bad.{Bad}
use Rattle.sysv_options.specs.Words.{Has, IsRead, word_of, words_in}
use Rattle.sysv_options.proofs.WordLemmas.{read_word}
use Rattle.sysv_options.proofs.asked.key.Goals as goal

pub returns-in-Some : goal.returns-in-Some
returns-in-Some c =
    let found = word_of (words_in c.args.words.now) (codes "key") in
    let there : found ≡ Some c.as_bytes.result.now =
    c.in-Some.ensures ∙ ap (λ (w : List ℕ). Some w) (sym c.as_bytes.ensures.value) in
    subst (λ (r : Result ℤ Bad). IsRead r (Has IsKey found)) (sym c.ok_or.ensures.value)
    (read_word IsKey c.as_bytes.result.now found c.key_of.result _ there c.key_of.ensures)
