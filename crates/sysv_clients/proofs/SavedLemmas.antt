-- The queue that a line states.
use Rattle.std.proofs.Common.{◌≡◌, ◌∙◌, ℕ, ℤ, List, [], ◌∷◌, ◌++◌, Option, None, Some, codes, sym, ap}
use Rattle.std.proofs.Common.{Bool, true, false, subst}
use Rattle.std.specs.Bool.{MatchBool}
use Rattle.std.specs.Prelude.{MatchOption}
use Rattle.std.specs.Str.{IsUtf8}
use Rattle.json.specs.Lex.{tokens}
use Rattle.json.specs.Token.{Token, begin_object, end_object}
use Rattle.sysv_clients.specs.declared.saved.SavedQueue.{SavedQueue}
use Rattle.sysv_clients.specs.Saved.{HasLimits, HasName, HasPair, IsFormatLine, IsQueueIn, IsQueueLine, Values}
use Rattle.sysv_clients.specs.Saved.{format_tokens, number_member, queue_tokens, string_member}

-- The tokens of the line state a queue exactly if the line does.
pub queue_or_none : (all : List Token) (own line : List ℕ) (r : Option SavedQueue) → all ≡ tokens own → own ≡ line
    → IsUtf8 line → MatchOption r ((queue : SavedQueue) → ¬ IsQueueIn all queue) (IsQueueIn all)
    → MatchOption r ((queue : SavedQueue) → ¬ IsQueueLine line queue) (IsQueueLine line)
queue_or_none all own line (Some queue) are same utf8 found =
    (utf8, subst (λ (l : List Token). IsQueueIn l queue) (are ∙ ap tokens same) found)
queue_or_none all own line None are same utf8 none =
    λ queue h. none queue (subst (λ (l : List Token). IsQueueIn l queue) (sym (are ∙ ap tokens same)) h.1)

-- The text of a member that is a string.
pub same_string : (name text other : List ℕ) (mid rest all : List Token) → all ≡ string_member name text ++ mid
    → all ≡ string_member name other ++ rest → text ≡ other
same_string name text other mid rest all one two = cc (sym one ∙ two)

-- The parts of a queue's tokens, each with what follows it.
abbrev pub counts_of : Values → List Token
counts_of v = number_member (codes "bytes") v.bytes ++ (number_member (codes "messages") v.messages ++ end_object ∷ [])

abbrev pub limits_of : Values → List Token
limits_of v =
    string_member (codes "perms") v.perms ++ (number_member (codes "qbytes") v.qbytes ++ counts_of v)

abbrev pub creator_of : Values → List Token
creator_of v = number_member (codes "cuid") v.cuid ++ (number_member (codes "cgid") v.cgid ++ limits_of v)

abbrev pub owner_of : Values → List Token
owner_of v = number_member (codes "uid") v.uid ++ (number_member (codes "gid") v.gid ++ creator_of v)

abbrev pub name_of : Values → List Token
name_of v = string_member (codes "key") v.key ++ (number_member (codes "msqid") v.msqid ++ owner_of v)

-- What follows each part that comes first.
at_name : (v : Values) (all first : List Token) → all ≡ begin_object ∷ first → all ≡ queue_tokens v → first ≡ name_of v
at_name v all first opens is = after begin_object first (name_of v) (sym opens ∙ is)
  where
    after : (token : Token) (one two : List Token) → token ∷ one ≡ token ∷ two → one ≡ two
    after token one two same = cc

name_after : (key id : ℤ) (word digits : List ℕ) (all mid rest : List Token) → HasName key id all mid
    → all ≡ string_member (codes "key") word ++ (number_member (codes "msqid") digits ++ rest) → mid ≡ rest
name_after key id word digits all mid rest has is = cc (sym has.object ∙ is)

pair_after : (first second : List ℕ) (a b : ℕ) (one two : List ℕ) (all mid rest : List Token)
    → HasPair first second a b all mid
    → all ≡ number_member first one ++ (number_member second two ++ rest) → mid ≡ rest
pair_after first second a b one two all mid rest has is = cc (sym has.object ∙ is)

limits_after : (mode qbytes : ℕ) (word digits : List ℕ) (all mid rest : List Token) → HasLimits mode qbytes all mid
    → all ≡ string_member (codes "perms") word ++ (number_member (codes "qbytes") digits ++ rest) → mid ≡ rest
limits_after mode qbytes word digits all mid rest has is = cc (sym has.object ∙ is)

-- The parts of a queue that were read, as far as they go.
pub record ToOwner (all rest : List Token) : Type 0 where
  pub key : ℤ
  pub id : ℤ
  pub first : List Token
  pub opens : all ≡ begin_object ∷ first
  pub name : HasName key id first rest

pub record ToCreator (all rest : List Token) : Type 0 where
  pub uid : ℕ
  pub gid : ℕ
  pub mid : List Token
  pub before : ToOwner all mid
  pub owner : HasPair (codes "uid") (codes "gid") uid gid mid rest

pub record ToLimits (all rest : List Token) : Type 0 where
  pub cuid : ℕ
  pub cgid : ℕ
  pub mid : List Token
  pub before : ToCreator all mid
  pub creator : HasPair (codes "cuid") (codes "cgid") cuid cgid mid rest

pub record ToCounts (all rest : List Token) : Type 0 where
  pub mode : ℕ
  pub qbytes : ℕ
  pub mid : List Token
  pub before : ToLimits all mid
  pub limits : HasLimits mode qbytes mid rest

at_owner : (v : Values) (all rest : List Token) → ToOwner all rest → all ≡ queue_tokens v → rest ≡ owner_of v
at_owner v all rest to is =
    name_after to.key to.id v.key v.msqid to.first rest (owner_of v) to.name (at_name v all to.first to.opens is)

at_creator : (v : Values) (all rest : List Token) → ToCreator all rest → all ≡ queue_tokens v → rest ≡ creator_of v
at_creator v all rest to is =
    pair_after (codes "uid") (codes "gid") to.uid to.gid v.uid v.gid to.mid rest (creator_of v) to.owner
    (at_owner v all to.mid to.before is)

at_limits : (v : Values) (all rest : List Token) → ToLimits all rest → all ≡ queue_tokens v → rest ≡ limits_of v
at_limits v all rest to is =
    pair_after (codes "cuid") (codes "cgid") to.cuid to.cgid v.cuid v.cgid to.mid rest (limits_of v) to.creator
    (at_creator v all to.mid to.before is)

at_counts : (v : Values) (all rest : List Token) → ToCounts all rest → all ≡ queue_tokens v → rest ≡ counts_of v
at_counts v all rest to is =
    limits_after to.mode to.qbytes v.perms v.qbytes to.mid rest (counts_of v) to.limits
    (at_limits v all to.mid to.before is)

-- Each part is missing.
pub no_name : (all first : List Token) → all ≡ begin_object ∷ first
    → ((key id : ℤ) (rest : List Token) → HasName key id first rest → ⊥)
    → (queue : SavedQueue) → IsQueueIn all queue → ⊥
no_name all first opens none queue h =
    none queue.key queue.id (owner_of h.values) (record {
      word = h.values.key;
      digits = h.values.msqid;
      has_key = h.has_key;
      has_id = h.has_id;
      object = at_name h.values all first opens h.object;
    })

pub no_owner : (all rest : List Token) → ToOwner all rest
    → ((one two : ℕ) (last : List Token) → HasPair (codes "uid") (codes "gid") one two rest last → ⊥)
    → (queue : SavedQueue) → IsQueueIn all queue → ⊥
no_owner all rest to none queue h =
    none queue.uid queue.gid (creator_of h.values) (record {
      digits = h.values.uid;
      others = h.values.gid;
      has_one = h.has_uid;
      has_two = h.has_gid;
      object = at_owner h.values all rest to h.object;
    })

pub no_creator : (all rest : List Token) → ToCreator all rest
    → ((one two : ℕ) (last : List Token) → HasPair (codes "cuid") (codes "cgid") one two rest last → ⊥)
    → (queue : SavedQueue) → IsQueueIn all queue → ⊥
no_creator all rest to none queue h =
    none queue.cuid queue.cgid (limits_of h.values) (record {
      digits = h.values.cuid;
      others = h.values.cgid;
      has_one = h.has_cuid;
      has_two = h.has_cgid;
      object = at_creator h.values all rest to h.object;
    })

pub no_limits : (all rest : List Token) → ToLimits all rest
    → ((mode qbytes : ℕ) (last : List Token) → HasLimits mode qbytes rest last → ⊥)
    → (queue : SavedQueue) → IsQueueIn all queue → ⊥
no_limits all rest to none queue h =
    none queue.mode queue.qbytes (counts_of h.values) (record {
      word = h.values.perms;
      digits = h.values.qbytes;
      has_mode = h.has_mode;
      has_qbytes = h.has_qbytes;
      object = at_limits h.values all rest to h.object;
    })

pub no_counts : (all rest : List Token) → ToCounts all rest
    → ((one two : ℕ) (last : List Token) → HasPair (codes "bytes") (codes "messages") one two rest last → ⊥)
    → (queue : SavedQueue) → IsQueueIn all queue → ⊥
no_counts all rest to none queue h =
    none queue.cbytes queue.qnum (end_object ∷ []) (record {
      digits = h.values.bytes;
      others = h.values.messages;
      has_one = h.has_bytes;
      has_two = h.has_messages;
      object = at_counts h.values all rest to h.object;
    })

-- More follows.
pub no_end : (cbytes qnum : ℕ) (all mid rest : List Token) → ToCounts all mid
    → HasPair (codes "bytes") (codes "messages") cbytes qnum mid rest → (rest ≡ end_object ∷ [] → ⊥)
    → (queue : SavedQueue) → IsQueueIn all queue → ⊥
no_end cbytes qnum all mid rest to counts none queue h =
    none (pair_after (codes "bytes") (codes "messages") cbytes qnum h.values.bytes h.values.messages mid rest
    (end_object ∷ []) counts (at_counts h.values all mid to h.object))

-- All parts were read.
pub queue_is : (key id : ℤ) (uid gid cuid cgid mode qbytes cbytes qnum : ℕ)
    (all first second third fourth fifth last : List Token) → all ≡ begin_object ∷ first
    → HasName key id first second → HasPair (codes "uid") (codes "gid") uid gid second third
    → HasPair (codes "cuid") (codes "cgid") cuid cgid third fourth → HasLimits mode qbytes fourth fifth
    → HasPair (codes "bytes") (codes "messages") cbytes qnum fifth last → last ≡ end_object ∷ []
    → IsQueueIn all
    (record {
      key = key;
      id = id;
      uid = uid;
      gid = gid;
      cuid = cuid;
      cgid = cgid;
      mode = mode;
      qbytes = qbytes;
      cbytes = cbytes;
      qnum = qnum;
    })
queue_is key id uid gid cuid cgid mode qbytes cbytes qnum all first second third fourth fifth last opens name owner
    creator limits counts ends = record {
      values = record {
        key = name.word;
        msqid = name.digits;
        uid = owner.digits;
        gid = owner.others;
        cuid = creator.digits;
        cgid = creator.others;
        perms = limits.word;
        qbytes = limits.digits;
        bytes = counts.digits;
        messages = counts.others;
      };
      object = opens ∙ ap (λ (l : List Token). begin_object ∷ l) (name.object
          ∙ ap (λ (l : List Token).
          string_member (codes "key") name.word ++ (number_member (codes "msqid") name.digits ++ l))
          (owner.object
          ∙ ap (λ (l : List Token).
          number_member (codes "uid") owner.digits ++ (number_member (codes "gid") owner.others ++ l))
          (creator.object
          ∙ ap (λ (l : List Token).
          number_member (codes "cuid") creator.digits ++ (number_member (codes "cgid") creator.others ++ l))
          (limits.object
          ∙ ap (λ (l : List Token).
          string_member (codes "perms") limits.word ++ (number_member (codes "qbytes") limits.digits ++ l))
          (counts.object
          ∙ ap (λ (l : List Token).
          number_member (codes "bytes") counts.digits ++ (number_member (codes "messages") counts.others ++ l))
          ends)))));
      has_key = name.has_key;
      has_id = name.has_id;
      has_uid = owner.has_one;
      has_gid = owner.has_two;
      has_cuid = creator.has_one;
      has_cgid = creator.has_two;
      has_mode = limits.has_mode;
      has_qbytes = limits.has_qbytes;
      has_bytes = counts.has_one;
      has_messages = counts.has_two;
    }

-- The tokens of the line state the format exactly if the line does.
pub format_or_not : (all : List Token) (own line : List ℕ) (is : Bool) → all ≡ tokens own → own ≡ line → IsUtf8 line
    → MatchBool is (all ≡ format_tokens) (all ≡ format_tokens → ⊥)
    → MatchBool is (IsFormatLine line) (IsFormatLine line → ⊥)
format_or_not all own line true are same utf8 found =
    record { utf8 = utf8; object = sym (are ∙ ap tokens same) ∙ found }
format_or_not all own line false are same utf8 none = λ h. none (are ∙ ap tokens same ∙ h.object)

tail_of : (token : Token) (one two : List Token) → token ∷ one ≡ token ∷ two → one ≡ two
tail_of token one two same = cc

after_string : (name text other : List ℕ) (mid rest all : List Token) → all ≡ string_member name text ++ mid
    → all ≡ string_member name other ++ rest → mid ≡ rest
after_string name text other mid rest all one two = cc (sym one ∙ two)

-- The version of a format is missing.
pub no_version : (text : List ℕ) (all first mid : List Token) → all ≡ begin_object ∷ first
    → first ≡ string_member (codes "format") text ++ mid
    → ((digits : List ℕ) (rest : List Token) → mid ≡ number_member (codes "version") digits ++ rest → ⊥)
    → all ≡ format_tokens → ⊥
no_version text all first mid opens begins none is =
    none (codes "1") (end_object ∷ [])
    (after_string (codes "format") text (codes "sysvmsg-queues") mid
    (number_member (codes "version") (codes "1") ++ end_object ∷ []) first begins
    (tail_of begin_object first
    (string_member (codes "format") (codes "sysvmsg-queues")
    ++ (number_member (codes "version") (codes "1") ++ end_object ∷ [])) (sym opens ∙ is)))
