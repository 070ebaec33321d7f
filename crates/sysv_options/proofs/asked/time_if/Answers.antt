-- An option has the time of its word, and none if the word is no time.
use Rattle.std.proofs.Common.{◌∙◌, ℕ, List, Some, ap, sym}
use Rattle.sysv_options.specs.Words.{IsTime, word_of, words_in}
use Rattle.sysv_options.proofs.WordLemmas.{has_no_value, has_value}
use Rattle.sysv_options.proofs.asked.time_if.Goals as goal

pub returns-in-Some-milliseconds : goal.returns-in-Some-milliseconds
returns-in-Some-milliseconds c =
    has_value IsTime c.as_bytes.result.now (word_of (words_in c.args.words.now) c.args.id.now)
    (c.in-Some.ensures ∙ ap (λ (w : List ℕ). Some w) (sym c.as_bytes.ensures.value)) c.in-Some-milliseconds.time
    c.in-Some-milliseconds.ensures

pub returns-in-None-milliseconds : goal.returns-in-None-milliseconds
returns-in-None-milliseconds c =
    has_no_value IsTime c.as_bytes.result.now (word_of (words_in c.args.words.now) c.args.id.now)
    (c.in-Some.ensures ∙ ap (λ (w : List ℕ). Some w) (sym c.as_bytes.ensures.value)) c.in-None-milliseconds.ensures
