-- The worked file has the lines that a save writes.
use Rattle.std.proofs.Common.{◌≡◌, ℕ, ℤ, pos, true, List, [], ◌∷◌, ◌++◌, codes, refl, ap, ap₂}
use Rattle.std.proofs.lemmas.Str.{is_utf8-from_IsUtf8}
use Rattle.std.specs.Fmt.{digits, signed_decimal}
use Rattle.std.specs.Str.{is_utf8}
use Rattle.json.proofs.Printed.Utf8.{IsUtf8-are_ascii}
use Rattle.sysv_clients.specs.Object.{body_member, json_byte, json_text, object_line}
use Rattle.sysv_clients.specs.Restored.{file_of, kept_text}
use Rattle.sysv_clients.specs.Saved.{format_line, number_text, queue_text, saved_counts, saved_perm}
use Rattle.sysv_clients.specs.Table.{key_text}
use Rattle.sysv_clients.specs.WorkedFile.{WorkedFile, first_queue, second_queue, worked_text}

first_line : queue_text (pos 0) first_queue.stat
    ≡ codes "{\"key\":\"0x00000007\",\"msqid\":0,\"uid\":1000,\"gid\":1000,\"cuid\":1000,\"cgid\":1000,"
    ++ (codes "\"perms\":\"600\",\"qbytes\":16384,\"bytes\":5,\"messages\":2}" ++ 10 ∷ [])
unfolding queue_text saved_perm saved_counts number_text key_text digits
first_line = refl

second_line : queue_text (pos 65) second_queue.stat
    ≡ codes "{\"key\":\"0xffffffff\",\"msqid\":65,\"uid\":1001,\"gid\":1002,\"cuid\":1000,\"cgid\":1000,"
    ++ (codes "\"perms\":\"640\",\"qbytes\":100,\"bytes\":2,\"messages\":1}" ++ 10 ∷ [])
unfolding queue_text saved_perm saved_counts number_text key_text digits
second_line = refl

text_line : (mtype : ℤ) (body text : List ℕ) → is_utf8 body ≡ true
    → codes "{\"type\":" ++ (signed_decimal mtype
    ++ ((codes ",\"body\":\"" ++ (json_text body ++ codes "\"")) ++ 125 ∷ 10 ∷ [])) ≡ text
    → object_line mtype body ≡ text
unfolding object_line body_member
text_line mtype body text utf8 is = rw utf8 is

hello_line : object_line (pos 5) (codes "hello") ≡ codes "{\"type\":5,\"body\":\"hello\"}" ++ 10 ∷ []
unfolding json_byte digits
hello_line = text_line (pos 5) (codes "hello") _
    (is_utf8-from_IsUtf8 (codes "hello") (IsUtf8-are_ascii (codes "hello") refl)) refl

empty_line : object_line (pos 9) [] ≡ codes "{\"type\":9,\"body\":\"\"}" ++ 10 ∷ []
unfolding json_byte digits
empty_line = text_line (pos 9) [] _ (is_utf8-from_IsUtf8 [] (IsUtf8-are_ascii [] refl)) refl

escaped_line : object_line (pos 1) (34 ∷ 10 ∷ []) ≡ codes "{\"type\":1,\"body\":\"\\\"\\u000a\"}" ++ 10 ∷ []
unfolding json_byte digits
escaped_line = text_line (pos 1) (34 ∷ 10 ∷ []) _
    (is_utf8-from_IsUtf8 (34 ∷ 10 ∷ []) (IsUtf8-are_ascii (34 ∷ 10 ∷ []) refl)) refl

first_text : kept_text first_queue
    ≡ codes "{\"key\":\"0x00000007\",\"msqid\":0,\"uid\":1000,\"gid\":1000,\"cuid\":1000,\"cgid\":1000,"
    ++ (codes "\"perms\":\"600\",\"qbytes\":16384,\"bytes\":5,\"messages\":2}" ++ 10 ∷ (
    codes "{\"type\":5,\"body\":\"hello\"}" ++ 10 ∷ (codes "{\"type\":9,\"body\":\"\"}" ++ 10 ∷ [])))
first_text =
    ap₂ (λ (a b : List ℕ). a ++ b) first_line
    (ap₂ (λ (a b : List ℕ). a ++ b) hello_line (ap (λ (a : List ℕ). a ++ []) empty_line))

second_text : kept_text second_queue
    ≡ codes "{\"key\":\"0xffffffff\",\"msqid\":65,\"uid\":1001,\"gid\":1002,\"cuid\":1000,\"cgid\":1000,"
    ++ (codes "\"perms\":\"640\",\"qbytes\":100,\"bytes\":2,\"messages\":1}" ++ 10 ∷ (
    codes "{\"type\":1,\"body\":\"\\\"\\u000a\"}" ++ 10 ∷ []))
second_text =
    ap₂ (λ (a b : List ℕ). a ++ b) second_line (ap (λ (a : List ℕ). a ++ []) escaped_line)

whole_text : file_of (first_queue ∷ second_queue ∷ []) ≡ worked_text
unfolding format_line
whole_text =
    ap₂ (λ (a b : List ℕ). format_line ++ (a ++ (b ++ []))) first_text second_text

pub worked : WorkedFile
worked = record { text = whole_text; asks = λ one two. refl }
