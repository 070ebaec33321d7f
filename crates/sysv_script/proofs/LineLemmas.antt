-- A line that was found is within the pending bytes.
use Rattle.std.proofs.Common.{◌≡◌, ◌<◌, ℕ, List, length, arith}
use Rattle.std.proofs.lemmas.Option.{slice_get_within}
use Rattle.std.specs.Prelude.{refl}
use Rattle.std.proofs.Common.{◌≤◌, Option, Bool, true, false}
use Rattle.sysv_script.specs.declared.line_reader.Found.{Found}
use Rattle.sysv_script.specs.Found.{IsNextLine}

pub IsNextLine-behind : (found : Found) (text : List ℕ) (left : Option (List ℕ)) → IsNextLine found text left →
    found.is_last ≡ false → found.len < length text
IsNextLine-behind found text left next whole = slice_get_within text found.len 10 (next.0 whole).ends

IsNextLine-front-by : (last : Bool) (found : Found) (text : List ℕ) (left : Option (List ℕ)) → found.is_last ≡ last →
    IsNextLine found text left → found.len ≤ length text
IsNextLine-front-by false found text left e next = let h = IsNextLine-behind found text left next e in omega arith
IsNextLine-front-by true found text left e next = let h = (next.1 e).whole in omega arith

pub IsNextLine-front : (found : Found) (text : List ℕ) (left : Option (List ℕ)) → IsNextLine found text left →
    found.len ≤ length text
IsNextLine-front found text left next = IsNextLine-front-by found.is_last found text left refl next
