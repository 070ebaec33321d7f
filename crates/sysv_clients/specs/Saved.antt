-- The file that a save writes and a load reads (this project's programs): lines, each of which is a JSON
-- object (RFC 8259). The first line states the format. Each queue has a line, and after it a line for each of its
-- messages, in order, in the form in which a rcv prints one. Files may be joined: such a line may come again.
use Rattle.std.specs.Prelude.{◌≡◌, ℕ, ℤ, List, [], ◌∷◌, ◌++◌, codes}
use Rattle.std.specs.Fmt.{decimal, signed_decimal}
use Rattle.std.specs.Str.{IsUtf8}
use Rattle.json.specs.Lex.{tokens}
use Rattle.json.specs.Token.{Token, begin_object, end_object, key, number, string}
use Rattle.sysv_clients.specs.declared.saved.Entry.{Entry}
use Rattle.sysv_clients.specs.declared.saved.Entry.TheVariants.{Format, Queue, Message}
use Rattle.sysv_clients.specs.declared.saved.SavedQueue.{SavedQueue}
use Rattle.sysv_clients.specs.Stated.{IsObjectOf}
use Rattle.sysv_clients.specs.Table.{key_text, mode_text}
use Rattle.sysv_clients.specs.Words.{IsHexKey, IsId, IsPerms}
use Rattle.sysv_model.specs.declared.attributes.Perm.{Perm}
use Rattle.sysv_model.specs.declared.attributes.Stat.{Stat}
use Rattle.sysv_words.specs.Words.{IsNat32}

-- The line that states the format, and an LF.
unfoldable pub format_line : List ℕ
format_line = codes "{\"format\":\"sysvmsg-queues\",\"version\":1}" ++ 10 ∷ []

-- A member whose value is a number, from what is before it on.
unfoldable pub number_text : List ℕ → List ℕ → List ℕ
number_text name digits = name ++ digits

-- The owner, the creator and the mode of a queue.
unfoldable pub saved_perm : Perm → List ℕ
saved_perm p =
    number_text (codes ",\"uid\":") (decimal p.uid) ++ (number_text (codes ",\"gid\":") (decimal p.gid)
    ++ (number_text (codes ",\"cuid\":") (decimal p.cuid) ++ (number_text (codes ",\"cgid\":") (decimal p.cgid)
    ++ (codes ",\"perms\":\"" ++ mode_text p.mode))))

-- The limit and the counts of a queue, the end of its object, and an LF.
unfoldable pub saved_counts : Stat → List ℕ
saved_counts s =
    number_text (codes "\",\"qbytes\":") (decimal s.qbytes) ++ (number_text (codes ",\"bytes\":") (decimal s.cbytes)
    ++ (number_text (codes ",\"messages\":") (decimal s.qnum) ++ 125 ∷ 10 ∷ []))

-- The line of the queue with this identifier and these attributes, and an LF.
unfoldable pub queue_text : ℤ → Stat → List ℕ
queue_text id s =
    codes "{\"key\":\"" ++ (key_text s.key ++ (codes "\",\"msqid\":" ++ (signed_decimal id
    ++ (saved_perm s.perm ++ saved_counts s))))

-- The tokens of a member whose value is a string, and of one whose value is a number.
abbrev pub string_member : (name text : List ℕ) → List Token
string_member name text = key name ∷ string text ∷ []

abbrev pub number_member : (name digits : List ℕ) → List Token
number_member name digits = key name ∷ number digits ∷ []

-- A key and an identifier come first, and this rest follows.
pub record HasName (name id : ℤ) (all rest : List Token) : Type 0 where
  pub word : List ℕ
  pub digits : List ℕ
  pub has_key : IsHexKey word name
  pub has_id : IsId digits id
  pub object : all ≡ string_member (codes "key") word ++ (number_member (codes "msqid") digits ++ rest)

-- A mode and a limit come first, and this rest follows.
pub record HasLimits (mode qbytes : ℕ) (all rest : List Token) : Type 0 where
  pub word : List ℕ
  pub digits : List ℕ
  pub has_mode : IsPerms word mode
  pub has_qbytes : IsNat32 digits qbytes
  pub object : all ≡ string_member (codes "perms") word ++ (number_member (codes "qbytes") digits ++ rest)

-- Two numbers of 32 bits come first, under these names, and this rest follows.
pub record HasPair (first second : List ℕ) (one two : ℕ) (all rest : List Token) : Type 0 where
  pub digits : List ℕ
  pub others : List ℕ
  pub has_one : IsNat32 digits one
  pub has_two : IsNat32 others two
  pub object : all ≡ number_member first digits ++ (number_member second others ++ rest)

-- The tokens of the line that states the format.
abbrev pub format_tokens : List Token
format_tokens =
    begin_object ∷ (string_member (codes "format") (codes "sysvmsg-queues")
    ++ (number_member (codes "version") (codes "1") ++ end_object ∷ []))

-- The line states this format: it has these tokens.
pub record IsFormatLine (line : List ℕ) : Type 0 where
  pub utf8 : IsUtf8 line
  pub object : tokens line ≡ format_tokens

-- The values of the members of a queue's line, in their order.
pub record Values : Type 0 where
  pub key : List ℕ
  pub msqid : List ℕ
  pub uid : List ℕ
  pub gid : List ℕ
  pub cuid : List ℕ
  pub cgid : List ℕ
  pub perms : List ℕ
  pub qbytes : List ℕ
  pub bytes : List ℕ
  pub messages : List ℕ

-- The tokens of a queue's line with these values.
abbrev pub queue_tokens : Values → List Token
queue_tokens v =
    begin_object ∷ (string_member (codes "key") v.key ++ (number_member (codes "msqid") v.msqid
    ++ (number_member (codes "uid") v.uid ++ (number_member (codes "gid") v.gid
    ++ (number_member (codes "cuid") v.cuid ++ (number_member (codes "cgid") v.cgid
    ++ (string_member (codes "perms") v.perms ++ (number_member (codes "qbytes") v.qbytes
    ++ (number_member (codes "bytes") v.bytes ++ (number_member (codes "messages") v.messages
    ++ end_object ∷ []))))))))))

-- These are the tokens of this queue. Its members have the order in which a save writes them. Its identifier and its
-- counts are numbers, which a load does not use.
pub record IsQueueIn (all : List Token) (queue : SavedQueue) : Type 0 where
  pub values : Values
  pub object : all ≡ queue_tokens values
  pub has_key : IsHexKey values.key queue.key
  pub has_id : IsId values.msqid queue.id
  pub has_uid : IsNat32 values.uid queue.uid
  pub has_gid : IsNat32 values.gid queue.gid
  pub has_cuid : IsNat32 values.cuid queue.cuid
  pub has_cgid : IsNat32 values.cgid queue.cgid
  pub has_mode : IsPerms values.perms queue.mode
  pub has_qbytes : IsNat32 values.qbytes queue.qbytes
  pub has_bytes : IsNat32 values.bytes queue.cbytes
  pub has_messages : IsNat32 values.messages queue.qnum

-- The line states this queue. White space and escapes may be others than those of a save.
abbrev pub IsQueueLine : List ℕ → SavedQueue → Type 0
IsQueueLine line queue = IsUtf8 line × IsQueueIn (tokens line) queue

-- The line states this. The body is that of a message, and nothing is said of it otherwise.
abbrev pub StatesEntry : (line : List ℕ) → Entry → (body : List ℕ) → Type 0
StatesEntry line Format body = IsFormatLine line
StatesEntry line (Queue queue) body = IsQueueLine line queue
StatesEntry line (Message mtype) body = IsObjectOf line mtype body

-- The line states nothing that a file of queues may have.
abbrev pub StatesNothing : List ℕ → Type 0
StatesNothing line = (entry : Entry) (body : List ℕ) → ¬ StatesEntry line entry body
