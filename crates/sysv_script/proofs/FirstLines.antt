-- The end of the first line of a text whose front contains no LF.
use Rattle.std.proofs.Common.{◌≡◌, ◌+◌, ◌<◌, ℕ, List, ◌++◌, length, take, drop, get_or, sym, ◌∙◌, subst, arith}
use Rattle.std.proofs.Common.{length-drop, inl, inr}
use Rattle.std.proofs.Math.Seq.{take-add}
use Rattle.std.proofs.lemmas.List.{take-append-drop, get_or-drop}
use Rattle.std.proofs.lemmas.List.Elements.{Contains-append_cases}
use Rattle.std.proofs.lemmas.Option.{slice_get_within, slice_get_read, get_or_from_slice_get}
use Rattle.std.specs.Prelude.{refl}
use Rattle.sysv_script.specs.Found.{HasNoEnd, IsFirstLine}

HasNoEnd-append : (front rest : List ℕ) → HasNoEnd front → HasNoEnd rest → HasNoEnd (front ++ rest)
HasNoEnd-append front rest p q h = elim (Contains-append_cases front rest 10 h) [ inl x ↦ p x | inr y ↦ q y ]

pub HasNoEnd-parts : (text : List ℕ) (seen : ℕ) → HasNoEnd (take seen text) → HasNoEnd (drop seen text) → HasNoEnd text
HasNoEnd-parts text seen p q =
    subst HasNoEnd (take-append-drop seen text) (HasNoEnd-append (take seen text) (drop seen text) p q)

pub IsFirstLine-behind : (text : List ℕ) (seen more : ℕ) → HasNoEnd (take seen text) →
    IsFirstLine more (drop seen text) → IsFirstLine (seen + more) text
IsFirstLine-behind text seen more p first =
    let rest = drop seen text in
    let inside : more < length rest = slice_get_within rest more 10 first.ends in
    let fits : seen + more < length text = omega (arith, length-drop seen text) in
    let here : 10 ≡ get_or text (seen + more) 10 =
    sym (get_or_from_slice_get rest more 10 10 first.ends) ∙ get_or-drop seen text more 10 in
    record {
      ends = slice_get_read text (length text) (seen + more) 10 refl fits here;
      one_line = subst HasNoEnd (sym (take-add seen more text))
          (HasNoEnd-append (take seen text) (take more rest) p first.one_line);
    }

-- A text with a first line contains an LF.
pub first_line_ends : (len : ℕ) (text : List ℕ) → IsFirstLine len text → HasNoEnd text → ⊥
first_line_ends len text first none =
    none (len, slice_get_within text len 10 first.ends, get_or_from_slice_get text len 10 10 first.ends)
