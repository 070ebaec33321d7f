-- The permission bits of a queue as a script writes them (this project's script language): one to
-- four octal digits, at most 0777.
use Rattle.std.specs.Prelude.{◌≡◌, ◌≤◌, ℕ, List, length}
use Rattle.std.specs.Str.Parse.{AllDigits, digits_value}
use Rattle.sysv_words.specs.declared.octal.Octal.{Octal}

pub record IsOctal (word : List ℕ) (mode : Octal) : Type 0 where
  pub least : 1 ≤ length word
  pub most : length word ≤ 4
  pub digits : AllDigits 8 word
  pub value : mode.0 ≡ digits_value 8 word
  pub low : mode.0 ≤ 511
