-- The words of a command line and what they mean (this project's programs).
use Rattle.std.specs.Prelude.{◌≡◌, ◌≢◌, ◌≤◌, ◌≤ℤ◌, ◌⊎◌, ℕ, ℤ, pos, List, ◌∷◌, length}
use Rattle.std.specs.Int.{w32, cast_signed}
use Rattle.std.specs.Str.Parse.{IsNumeral, digits_value}
use Rattle.sysv_words.specs.Words.{IsInt32, IsInt64}

-- An identifier: a decimal numeral, 0 to 2147483647.
abbrev pub IsId : List ℕ → ℤ → Type 0
IsId word id = IsInt32 word id × (pos 0 ≤ℤ id)

-- A type: a decimal numeral, 1 to 9223372036854775807.
abbrev pub IsType : List ℕ → ℤ → Type 0
IsType word mtype = IsInt64 word mtype × (pos 1 ≤ℤ mtype)

-- The 32 bits of a key: 0x and one to eight hexadecimal digits.
abbrev pub IsHexKey : List ℕ → ℤ → Type 0
IsHexKey word key = (digits : List ℕ) × (word ≡ 48 ∷ 120 ∷ digits) × IsNumeral 16 digits × (length digits ≤ 8)
    × (key ≡ cast_signed w32 (digits_value 16 digits))

-- A key, in decimal or by its bits, but not key 0.
abbrev pub IsKey : List ℕ → ℤ → Type 0
IsKey word key = (IsId word key ⊎ IsHexKey word key) × (key ≢ pos 0)

-- The mode of a queue, as its line in a table or a file has it: three octal digits.
abbrev pub IsPerms : List ℕ → ℕ → Type 0
IsPerms word mode = IsNumeral 8 word × (length word ≡ 3) × (mode ≡ digits_value 8 word)
