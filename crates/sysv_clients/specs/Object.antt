-- A message as a JSON object (this project's programs): its type, and its body as a string or, if the
-- body is not UTF-8, in base64 under another name. The form is that of RFC 8259, base64 that of RFC 4648
-- with padding.
use Rattle.std.specs.Prelude.{ℕ, ℤ, List, [], ◌∷◌, ◌++◌, ◌==◌, ◌||◌, codes, flat_map, if◌then◌else◌, ltb}
use Rattle.std.specs.Fmt.{signed_decimal}
use Rattle.std.specs.Str.{is_utf8}
use Rattle.base64.specs.Engines.{standard}
use Rattle.base64.specs.GeneralPurpose.{encode_of}
use Rattle.sysv_clients.specs.Table.{hex_byte}

-- A byte in a JSON string: a backslash before `"` and before a backslash, and a control character by
-- its number. Any other byte represents itself.
unfoldable pub json_byte : ℕ → List ℕ
json_byte byte =
    if byte == 34 || byte == 92 then 92 ∷ byte ∷ []
    else if ltb byte 32 then codes "\\u00" ++ hex_byte byte else byte ∷ []

-- The bytes of a JSON string.
abbrev pub json_text : List ℕ → List ℕ
json_text body = flat_map json_byte body

-- The member with the body.
unfoldable pub body_member : List ℕ → List ℕ
body_member body =
    if is_utf8 body then codes ",\"body\":\"" ++ (json_text body ++ codes "\"")
    else codes ",\"base64\":\"" ++ (encode_of standard body ++ codes "\"")

-- The object, and an LF.
unfoldable pub object_line : ℤ → List ℕ → List ℕ
object_line mtype body =
    codes "{\"type\":" ++ (signed_decimal mtype ++ (body_member body ++ 125 ∷ 10 ∷ []))
