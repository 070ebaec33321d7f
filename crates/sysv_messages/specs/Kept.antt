-- How the messages of a queue are stored (this profile's): the head of each message under a key,
-- the chain that holds its body at the same place, and an index that knows the key.
use Rattle.std.specs.Prelude.{◌≡◌, ◌≢◌, ℕ, ◌≤◌, List, [], Option, None, Some, length, map, slice_index_or}
use Rattle.std.specs.List.{All, AllPairs, Contains}
use Rattle.slab.specs.Slab.{Slab, get, slab_len, ContainsKey}
use Rattle.sysv_model.specs.Message.{Message}
use Rattle.sysv_model.specs.declared.limits.TheConstants.{QUEUE_MESSAGES, MESSAGE_BYTES as most_bytes}
use Rattle.sysv_pool.specs.Chain.{Chained}
use Rattle.sysv_messages.specs.declared.entry.Entry.{Entry}
use Rattle.sysv_messages.specs.declared.head.Head.{Head}
use Rattle.sysv_messages.specs.Texts.{chain_of, bytes_of, blocks_of, all_blocks}

-- The chain at a place, if there is one.
abbrev pub chain_at : List (Option Chained) → ℕ → Option Chained
chain_at chains place = slice_index_or chains place None

-- The sender in a head, 0 if there is no head.
abbrev pub sender_in : Option Head → ℕ
sender_in None = 0
sender_in (Some head) = head.sender

-- The body in a chain, empty if there is no chain.
abbrev pub text_in : Option Chained → List ℕ
text_in None = []
text_in (Some chain) = chain.bytes

-- The message of an entry, with this head and this chain.
abbrev pub message_of : Option Head → Option Chained → Entry → Message
message_of head chain e = record { number = e.number; sender = sender_in head; mtype = e.mtype; bytes = text_in chain }

-- The message of an entry, whose head and chain are at the entry's place.
abbrev pub message_at : Slab Head → List (Option Chained) → Entry → Message
message_at heads chains e = message_of (get heads e.place) (chain_at chains e.place) e

-- The messages of these entries.
abbrev pub messages_of : Slab Head → List (Option Chained) → List Entry → List Message
messages_of heads chains entries = map (λ (e : Entry). message_at heads chains e) entries

-- The keys of these entries, in their order.
abbrev pub keys_of : List Entry → List ℕ
keys_of entries = map (λ (e : Entry). e.place) entries

-- The head of a message.
abbrev pub head_of : Message → Head
head_of m = record { number = m.number; sender = m.sender; mtype = m.mtype; len = length m.bytes }

-- The head and the chain are those of the message.
pub record IsKeptAs (head : Option Head) (chain : Option Chained) (m : Message) : Type 0 where
  pub known : head ≡ Some (head_of m)
  pub text : chain ≡ Some (chain_of m.bytes)
  pub short : length m.bytes ≤ most_bytes

-- The message of the entry has its head and its chain at the entry's place.
abbrev pub IsKept : Slab Head → List (Option Chained) → Entry → Type 0
IsKept heads chains e = IsKeptAs (get heads e.place) (chain_at chains e.place) (message_at heads chains e)

-- The messages are stored as these heads, chains and entries: every entry's message is stored,
-- every head has its entry, each once, and the sums are right.
pub record IsStore (heads : Slab Head) (chains : List (Option Chained)) (entries : List Entry)
    (bytes : ℕ) : Type 0 where
  pub kept : All (IsKept heads chains) entries
  pub known : (key : ℕ) → ContainsKey heads key → Contains (keys_of entries) key
  pub once : AllPairs (λ (a b : ℕ). a ≢ b) (keys_of entries)
  -- there are as many heads as entries, and no chain without a head
  pub same : slab_len heads ≡ length entries
  pub bare : (place : ℕ) → get heads place ≡ None → chain_at chains place ≡ None
  -- each key has a place for a chain, and there is space for all messages of a queue
  pub wide : length chains ≡ heads.capacity
  pub roomy : QUEUE_MESSAGES ≤ heads.capacity
  pub summed : bytes ≡ bytes_of (messages_of heads chains entries)
  -- the chains have the blocks of the bodies
  pub blocks : all_blocks chains ≡ blocks_of (messages_of heads chains entries)
