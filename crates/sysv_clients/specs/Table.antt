-- The table that `ipcs` prints (this project's programs): one line for each live queue, its columns
-- separated by a space.
use Rattle.std.specs.Prelude.{ℕ, ℤ, ◌+◌, ◌-◌, ◌/◌, ◌%◌, List, [], ◌∷◌, ◌++◌, length, replicate, codes, false, flat_map}
use Rattle.std.specs.Fmt.{decimal, signed_decimal, digit_glyph}
use Rattle.std.specs.Int.{w32, cast_unsigned, to_be_bytes}
use Rattle.sysv_model.specs.declared.attributes.Row.{Row}

-- A column: a space, and then the text right-aligned in this width.
unfoldable pub column : ℕ → List ℕ → List ℕ
column width text = 32 ∷ (replicate (width - length text) 32 ++ text)

-- The character of a digit.
abbrev pub glyph : ℕ → ℕ
glyph digit = digit_glyph false digit

-- The two hexadecimal digits of a byte.
abbrev pub hex_byte : ℕ → List ℕ
hex_byte byte = glyph (byte / 16) ∷ glyph (byte % 16) ∷ []

-- A key: the 32 bits of its two's complement, as 0x and eight hexadecimal digits.
unfoldable pub key_text : ℤ → List ℕ
key_text key = codes "0x" ++ flat_map hex_byte (to_be_bytes w32 (cast_unsigned w32 key))

-- A mode: its low nine bits, as three octal digits.
abbrev pub mode_text : ℕ → List ℕ
mode_text mode = (48 + mode / 64 % 8) ∷ (48 + mode / 8 % 8) ∷ (48 + mode % 8) ∷ []

-- A line: key, identifier, owner, mode, bytes and messages.
unfoldable pub row_line : Row → List ℕ
row_line row =
    key_text row.key
    ++ (column 10 (signed_decimal row.id) ++ (column 10 (decimal row.uid) ++ (column 5 (mode_text row.mode)
    ++ (column 6 (decimal row.cbytes) ++ (column 8 (decimal row.qnum) ++ 10 ∷ [])))))

-- The head of the table.
unfoldable pub table_head : List ℕ
table_head = codes "key             msqid      owner perms  bytes messages" ++ 10 ∷ []
