-- An option has the key of its word, and none if the word is no key.
use Rattle.std.proofs.Common.{◌∙◌, List, ℕ, Some, ap, codes, sym}
use Rattle.sysv_clients.specs.Words.{IsKey}
use Rattle.sysv_options.specs.Words.{word_of, words_in}
use Rattle.sysv_options.proofs.WordLemmas.{has_no_value}
use Rattle.sysv_options.proofs.asked.key_if.Goals as goal

pub returns-in-None-key_of : goal.returns-in-None-key_of
returns-in-None-key_of c =
    has_no_value IsKey c.as_bytes.result.now (word_of (words_in c.args.words.now) (codes "key"))
    (c.in-Some.ensures ∙ ap (λ (w : List ℕ). Some w) (sym c.as_bytes.ensures.value)) c.in-None-key_of.ensures
