-- The words of one place among the words of all places.
use Rattle.std.proofs.Common.{◌≡◌, ◌≢◌, ℕ, ◌+◌, ◌*◌, ◌-◌, ◌<◌, List, length, get_or, set, take, drop, ap, ◌∙◌, arith}
use Rattle.std.proofs.Common.{lt_of_not-le}
use mathlib.Core.Logic.{dite}
use native.Mathlib.Decide.{dec_le}
use Rattle.std.proofs.lemmas.List.{get_or-drop, get_or-take, drop-set-add, drop-set-lt, take-set-le, length-take-le}
use Rattle.std.proofs.lemmas.List.{length-drop}
use Rattle.std.proofs.Math.Seq.{take-set-lt}
use Rattle.sysv_gate.specs.Tables.{block}

pub block_length : (place count : ℕ) (words : List ℕ) → length words ≡ 80 * count → place < count →
    length (block place words) ≡ 80
block_length place count words long less =
    length-take-le 80 (drop (80 * place) words) (let rest = length-drop (80 * place) words in omega arith)

pub block_read : (place i d : ℕ) (words : List ℕ) → i < 80 →
    get_or (block place words) i d ≡ get_or words (80 * place + i) d
block_read place i d words less = get_or-take 80 (drop (80 * place) words) i d less ∙ get_or-drop (80 * place) words i d

pub block_set : (place i n : ℕ) (words : List ℕ) → i < 80 →
    block place (set words (80 * place + i) n) ≡ set (block place words) i n
block_set place i n words less =
    ap (take 80) (drop-set-add (80 * place) words i n) ∙ take-set-lt 80 (drop (80 * place) words) i n less

pub block_else : (place other i n : ℕ) (words : List ℕ) → i < 80 → other ≢ place →
    block other (set words (80 * place + i) n) ≡ block other words
block_else place other i n words less apart = dite (dec_le place other)
    (λ le. ap (take 80) (drop-set-lt (80 * other) words (80 * place + i) n (omega arith)))
    (λ no.
    let far : other < place = lt_of_not-le no in
    let k : ℕ = (80 * place + i) - 80 * other in
    let is : 80 * place + i ≡ 80 * other + k = omega arith in
    ap (λ (j : ℕ). take 80 (drop (80 * other) (set words j n))) is ∙ ap (take 80) (drop-set-add (80 * other) words k n)
    ∙ take-set-le 80 (drop (80 * other) words) k n (omega arith))
