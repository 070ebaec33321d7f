-- Bytes without an LF, by the search for the first one.
use Rattle.std.proofs.Common.{◌≡◌, ◌<◌, ◌≤◌, ◌+◌, ◌∙◌, ℕ, true, false, List, ◌∷◌, ◌++◌, length, take, drop}
use Rattle.std.proofs.Common.{None, Some, suc, arith, sym, ap, get_or, get_or-take, subst}
use Rattle.std.proofs.Math.Seq.{drop-cons}
use Rattle.std.proofs.lemmas.Bool.{eq-eqb, eqb-true}
use Rattle.std.proofs.lemmas.List.{get_or_default, length-take-le, take-append-drop, take-append-le}
use Rattle.memchr.specs.Find.{IsFirstByte, Passes, is_byte}
use Rattle.sysv_clients.specs.Lines.{Gives, HasNoEnd}

no_end : (piece : List ℕ) (count : ℕ) → count ≤ length piece
    → ((k : ℕ) → 0 ≤ k → k < count → ¬ Passes (is_byte 10) piece k) → HasNoEnd (take count piece)
no_end piece count fits none k d within is =
    let long = length-take-le count piece fits in
    let inside : k < count = omega (arith, within, long) in
    none k (omega arith) inside (eq-eqb _ _ (sym (get_or-take count piece k 0 inside)
    ∙ get_or_default (take count piece) k 0 d within ∙ is))

-- The first bytes of a piece are those of the whole.
take_within : (bytes : List ℕ) (count room : ℕ) → count ≤ length (take room bytes) →
    take count (take room bytes) ≡ take count bytes
take_within bytes count room fits =
    sym (take-append-le count (take room bytes) (drop room bytes) fits)
    ∙ ap (λ (l : List ℕ). take count l) (take-append-drop room bytes)

-- The bytes up to an LF, and what is after it.
splits_at : (bytes : List ℕ) (count : ℕ) → count < length bytes → get_or bytes count 0 ≡ 10 →
    bytes ≡ take count bytes ++ 10 ∷ drop (count + 1) bytes
splits_at bytes count within is =
    let next : suc count ≡ count + 1 = omega arith in
    sym (take-append-drop count bytes)
    ∙ ap (λ (l : List ℕ). take count bytes ++ l) (drop-cons bytes count 0 within
    ∙ ap (λ (b : ℕ). b ∷ drop (suc count) bytes) is
    ∙ ap (λ (n : ℕ). 10 ∷ drop n bytes) next)

-- A line ends within the piece.
pub ends_line : (most : ℕ) (chunk bytes left line more : List ℕ) (room count : ℕ) → bytes ≡ chunk
    → room ≤ length bytes → length line + room ≤ most + 1
    → IsFirstByte (is_byte 10) (take room bytes) (Some count)
    → more ≡ line ++ take count (take room bytes)
    → left ≡ drop (count + 1) chunk
    → Gives most true chunk left line more
ends_line most chunk bytes left line more room count is fits few first after rest =
    let piece = take room bytes in
    let long : length (take room bytes) ≡ room = length-take-le room bytes fits in
    let high = first.0.high in
    let text = take count piece in
    let short : length (take count (take room bytes)) ≡ count = length-take-le count piece (omega (arith, high)) in
    let same : take count (take room bytes) ≡ take count bytes = take_within bytes count room (omega (arith, high)) in
    let byte : get_or bytes count 0 ≡ 10 =
    sym (get_or-take room bytes count 0 (omega (arith, high, long))) ∙ eqb-true _ _ first.1 in (
      text,
      no_end piece count (omega (arith, high)) first.0.before,
      omega (arith, short, high, long, few),
      subst (λ (l : List ℕ). l ≡ text ++ 10 ∷ left) is
          (splits_at bytes count (omega (arith, high, long, fits)) byte
          ∙ ap (λ (l : List ℕ). l ++ 10 ∷ drop (count + 1) bytes) (sym same)
          ∙ ap (λ (l : List ℕ). text ++ 10 ∷ drop (count + 1) l) is
          ∙ ap (λ (l : List ℕ). text ++ 10 ∷ l) (sym rest)),
      after,
    )

-- No line ends within the piece.
pub ends_none : (most : ℕ) (chunk bytes left line more : List ℕ) (room : ℕ) → bytes ≡ chunk
    → room ≤ length bytes → length line + room ≤ most + 1 → 1 ≤ room
    → IsFirstByte (is_byte 10) (take room bytes) None
    → more ≡ line ++ take room bytes
    → left ≡ drop (length (take room bytes)) chunk
    → Gives most false chunk left line more
ends_none most chunk bytes left line more room is fits few some none after rest =
    let piece = take room bytes in
    let long : length (take room bytes) ≡ room = length-take-le room bytes fits in (
      piece,
      (λ k d within byte.
          none k (omega arith) within (eq-eqb _ _ (get_or_default piece k 0 d within ∙ byte))),
      omega (arith, long, some),
      omega (arith, long, few),
      subst (λ (l : List ℕ). l ≡ piece ++ left) is
          (sym (take-append-drop room bytes)
          ∙ ap (λ (l : List ℕ). piece ++ drop room l) is
          ∙ ap (λ (n : ℕ). piece ++ drop n chunk) (sym long)
          ∙ ap (λ (l : List ℕ). piece ++ l) (sym rest)),
      after,
    )
