-- What clients print of a queue besides a line of the table (this project's programs): a JSON
-- object, an identifier, or all attributes.
use Rattle.std.specs.Prelude.{ℕ, ℤ, List, [], ◌∷◌, ◌++◌, codes}
use Rattle.std.specs.Fmt.{decimal, signed_decimal}
use Rattle.sysv_clients.specs.Table.{key_text, mode_text}
use Rattle.sysv_model.specs.declared.attributes.Perm.{Perm}
use Rattle.sysv_model.specs.declared.attributes.Row.{Row}
use Rattle.sysv_model.specs.declared.attributes.Stat.{Stat}

-- The owner and the mode of a row, in a JSON object.
unfoldable pub json_owner : Row → List ℕ
json_owner row = codes ",\"owner\":" ++ (decimal row.uid ++ (codes ",\"perms\":\"" ++ mode_text row.mode))

-- The queued bytes and messages of a row, in a JSON object, and its end.
unfoldable pub json_counts : Row → List ℕ
json_counts row =
    codes "\",\"bytes\":" ++ (decimal row.cbytes ++ (codes ",\"messages\":" ++ (decimal row.qnum ++ 125 ∷ 10 ∷ [])))

-- A row as a JSON object, and an LF.
unfoldable pub json_line : Row → List ℕ
json_line row =
    codes "{\"key\":\"" ++ (key_text row.key ++ (codes "\",\"msqid\":" ++ (signed_decimal row.id
    ++ (json_owner row ++ json_counts row))))

-- An identifier, and an LF.
abbrev pub id_line : ℤ → List ℕ
id_line id = signed_decimal id ++ 10 ∷ []

-- A line of a name and a number. The name ends with a space.
unfoldable pub field_line : List ℕ → List ℕ → List ℕ
field_line name number = name ++ (number ++ 10 ∷ [])

-- The owner, the creator and the mode.
unfoldable pub owner_lines : Perm → List ℕ
owner_lines p =
    field_line (codes "uid ") (decimal p.uid) ++ (field_line (codes "gid ") (decimal p.gid)
    ++ (field_line (codes "cuid ") (decimal p.cuid) ++ (field_line (codes "cgid ") (decimal p.cgid)
    ++ (codes "mode " ++ (mode_text p.mode ++ 10 ∷ [])))))

-- The queued bytes and messages, the limit, and the processes that sent and received last.
unfoldable pub count_lines : Stat → List ℕ
count_lines s =
    field_line (codes "cbytes ") (decimal s.cbytes) ++ (field_line (codes "qnum ") (decimal s.qnum)
    ++ (field_line (codes "qbytes ") (decimal s.qbytes) ++ (field_line (codes "lspid ") (decimal s.lspid)
    ++ field_line (codes "lrpid ") (decimal s.lrpid))))

-- The times of the last send, the last receive and the last change.
unfoldable pub time_lines : Stat → List ℕ
time_lines s =
    field_line (codes "stime ") (decimal s.stime) ++ (field_line (codes "rtime ") (decimal s.rtime)
    ++ field_line (codes "ctime ") (decimal s.ctime))

-- All attributes of a queue, one per line.
unfoldable pub stat_lines : Stat → List ℕ
stat_lines s =
    codes "key " ++ (key_text s.key ++ (10 ∷ [] ++ (owner_lines s.perm ++ (count_lines s ++ time_lines s))))
