-- An actor, a body and a call are read in at most one way, and it is decided whether the words are
-- one.
use Rattle.std.proofs.Common.{◌≡◌, ◌≤◌, ◌⊎◌, ℕ, ℤ, pos, List, [], ◌∷◌, length, replicate, get_or, codes, inl, inr, sym}
use Rattle.std.proofs.Common.{ap, subst, ◌∙◌, arith}
use Rattle.std.proofs.lemmas.List.{length-replicate}
use Rattle.sysv_model.specs.declared.flags.Flags.{Flags}
use Rattle.sysv_words.specs.declared.octal.Octal.{Octal}
use Rattle.sysv_words.specs.Words.{Pair, IsNumeralOf, number_in, IsInt32, IsInt64, IsNat32}
use Rattle.sysv_words.specs.FlagNames.{IsFlagList}
use Rattle.sysv_words.specs.Octal.{IsOctal}
use Rattle.sysv_words.specs.Readings.{SaysOnce, IsDecided, IsReading, WordsAreRead}
use Rattle.sysv_words.specs.ReadingPairs.{pair}
use Rattle.sysv_words.specs.Deciding.{at_most_or_not, same_or_not, behind_or_not, splits_or_not}
use Rattle.sysv_words.specs.Splitting.{splits_once}
use Rattle.sysv_steps.specs.Call.{SystemCall, Msgget, Msgsnd, Msgrcv, MsgctlStat, MsgctlSet, MsgctlRmid}
use Rattle.sysv_script.specs.declared.actor.Actor.{Actor}
use Rattle.sysv_script.specs.declared.blocks.Blocks.{Blocks}
use Rattle.sysv_script.specs.Lines.{IsActor, actor, IsBlocks, of_blocks, SaysText, octal, call_name, SaysArguments}
use Rattle.sysv_script.specs.Lines.{SaysNamed, SaysCall}
use Rattle.sysv_script.proofs.CallNames.{first_bytes, call_named, named_call, call_unsplit}

-- ---- actors

actor_once : SaysOnce IsActor
actor_once word one other h k =
    let e : pos one.0 ≡ pos other.0 = sym h.number.1 ∙ k.number.1 in let same : one.0 ≡ other.0 = cc in ap actor same

in_range : (word : List ℕ) (n : ℕ) → IsNumeralOf word (pos n) →
    ((value : Actor) × IsActor word value) ⊎ ((value : Actor) → ¬ IsActor word value)
in_range word n number = elim (at_most_or_not 1 n) [
  | inl least ↦ elim (at_most_or_not n 16) [
    | inl most ↦ inl (actor n, record { number = number; least = least; most = most })
    | inr over ↦ inr (λ value h.
        let e : pos n ≡ pos value.0 = sym number.1 ∙ h.number.1 in
        let same : n ≡ value.0 = cc in
        over (subst (λ m. m ≤ 16) (sym same) h.most))
  ]
  | inr below ↦ inr (λ value h.
      let e : pos n ≡ pos value.0 = sym number.1 ∙ h.number.1 in
      let same : n ≡ value.0 = cc in
      below (subst (λ m. 1 ≤ m) (sym same) h.least))
]

actor_small : (n : ℕ) → n ≤ 16 → n ≤ 4294967295
actor_small n h = omega (arith, h)

actor_decided : WordsAreRead → IsDecided IsActor
actor_decided w word = elim (w.nat32.decided word) [
  | inl found ↦ in_range word found.0 found.1.0
  | inr none ↦ inr (λ value h. none value.0 (h.number, actor_small value.0 h.most))
]

pub actor_read : WordsAreRead → IsReading IsActor
actor_read w = record { once = actor_once; decided = actor_decided w }

-- ---- the size of a pool

blocks_once : SaysOnce IsBlocks
blocks_once word one other h k =
    let e : pos one.0 ≡ pos other.0 = sym h.number.1 ∙ k.number.1 in
    let same : one.0 ≡ other.0 = cc in
    ap of_blocks same

size_in_range : (word : List ℕ) (n : ℕ) → IsNumeralOf word (pos n) →
    ((value : Blocks) × IsBlocks word value) ⊎ ((value : Blocks) → ¬ IsBlocks word value)
size_in_range word n number = elim (at_most_or_not 128 n) [
  | inl least ↦ elim (at_most_or_not n 65536) [
    | inl most ↦ inl (of_blocks n, record { number = number; least = least; most = most })
    | inr over ↦ inr (λ value h.
        let e : pos n ≡ pos value.0 = sym number.1 ∙ h.number.1 in
        let same : n ≡ value.0 = cc in
        over (subst (λ m. m ≤ 65536) (sym same) h.most))
  ]
  | inr below ↦ inr (λ value h.
      let e : pos n ≡ pos value.0 = sym number.1 ∙ h.number.1 in
      let same : n ≡ value.0 = cc in
      below (subst (λ m. 128 ≤ m) (sym same) h.least))
]

size_small : (n : ℕ) → n ≤ 65536 → n ≤ 4294967295
size_small n h = omega (arith, h)

blocks_decided : WordsAreRead → IsDecided IsBlocks
blocks_decided w word = elim (w.nat32.decided word) [
  | inl found ↦ size_in_range word found.0 found.1.0
  | inr none ↦ inr (λ value h. none value.0 (h.number, size_small value.0 h.most))
]

pub blocks_read : WordsAreRead → IsReading IsBlocks
blocks_read w = record { once = blocks_once; decided = blocks_decided w }

-- ---- texts

text_or_letters : (body a word : List ℕ) → body ≡ 61 ∷ a → body ≡ 42 ∷ word → ⊥
text_or_letters body a word h k = let e : 61 ≡ 42 = ap (λ (l : List ℕ). get_or l 0 0) (sym h ∙ k) in omega (arith, e)

tail_same : (x : ℕ) (body a b : List ℕ) → body ≡ x ∷ a → body ≡ x ∷ b → a ≡ b
tail_same x body a b h k = cc

count_same : (word other : List ℕ) (a b : ℕ) → word ≡ other → IsNumeralOf word (pos a) → IsNumeralOf other (pos b) →
    a ≡ b
count_same word other a b e h k = let same : pos a ≡ pos b = sym h.1 ∙ (ap number_in e ∙ k.1) in cc

text_once : SaysOnce SaysText
text_once body a b (_, inl h) (_, inl k) = tail_same 61 body a b h k
text_once body a b (_, inl h) (_, inr k) = absurd (text_or_letters body a k.word h k.whole)
text_once body a b (_, inr h) (_, inl k) = absurd (text_or_letters body b h.word k h.whole)
text_once body a b (_, inr h) (_, inr k) =
    let word : h.word ≡ k.word = tail_same 42 body h.word k.word h.whole k.whole in
    let long : length a ≡ length b = count_same h.word k.word (length a) (length b) word h.number k.number in
    h.letters ∙ (ap (λ n. replicate n 120) long ∙ sym k.letters)

-- The word is a number of letters.
abbrev Counts : List ℕ → Type 0
Counts word = (count : ℕ) × IsNumeralOf word (pos count) × (count ≤ 8256)

letters_small : (n : ℕ) → n ≤ 8256 → n ≤ 4294967295
letters_small n h = omega (arith, h)

counts_or_not : WordsAreRead → (word : List ℕ) → Counts word ⊎ ¬ Counts word
counts_or_not w word = elim (w.nat32.decided word) [
  | inl found ↦ elim (at_most_or_not found.0 8256) [
    | inl few ↦ inl (found.0, found.1.0, few)
    | inr over ↦ inr (λ h.
        let same = count_same word word found.0 h.0 (λ i. word) found.1.0 h.1 in
        over (subst (λ m. m ≤ 8256) (sym same) h.2))
  ]
  | inr none ↦ inr (λ h. none h.0 (h.1, letters_small h.0 h.2))
]

letters_text : (body word : List ℕ) → body ≡ 42 ∷ word → Counts word → (text : List ℕ) × SaysText body text
letters_text body word e h =
    let long : length (replicate h.0 120) ≡ h.0 = length-replicate h.0 120 in
    let few : h.0 ≤ 8256 = h.2 in (
      replicate h.0 120,
      (
        omega (arith, long, few),
        inr (record {
          word = word;
          whole = e;
          number = subst (λ n. IsNumeralOf word (pos n)) (sym long) h.1;
          letters = ap (λ n. replicate n 120) (sym long);
        }),
      ),
    )

text_decided : WordsAreRead → IsDecided SaysText
text_decided w body =
    elim (behind_or_not (61 ∷ []) (λ text. length text ≤ 8256) (λ text. at_most_or_not (length text) 8256) body) [
      | inl given ↦ inl (given.0, (given.2, inl given.1))
      | inr no_text ↦ elim (behind_or_not (42 ∷ []) Counts (counts_or_not w) body) [
        | inl letters ↦ inl (letters_text body letters.0 letters.1 letters.2)
        | inr no_count ↦ inr (λ text h. elim h.1 [
          | inl given ↦ no_text (text, given, h.0)
          | inr letters ↦ no_count (letters.word, letters.whole, (length text, letters.number, h.0))
        ])
      ]
    ]

text_read : WordsAreRead → IsReading SaysText
text_read w = record { once = text_once; decided = text_decided w }

-- ---- arguments

get_read : WordsAreRead → IsReading (Pair IsInt32 IsFlagList)
get_read w = pair IsInt32 IsFlagList w.int32 w.flags

send_read : WordsAreRead → IsReading (Pair IsInt32 (Pair IsInt64 (Pair IsFlagList SaysText)))
send_read w = pair IsInt32 (Pair IsInt64 (Pair IsFlagList SaysText)) w.int32
    (pair IsInt64 (Pair IsFlagList SaysText) w.int64 (pair IsFlagList SaysText w.flags (text_read w)))

receive_read : WordsAreRead → IsReading (Pair IsInt32 (Pair IsNat32 (Pair IsInt64 IsFlagList)))
receive_read w = pair IsInt32 (Pair IsNat32 (Pair IsInt64 IsFlagList)) w.int32
    (pair IsNat32 (Pair IsInt64 IsFlagList) w.nat32 (pair IsInt64 IsFlagList w.int64 w.flags))

set_read : WordsAreRead → IsReading (Pair IsInt32 (Pair IsNat32 (Pair IsNat32 (Pair IsOctal IsNat32))))
set_read w =
    pair IsInt32 (Pair IsNat32 (Pair IsNat32 (Pair IsOctal IsNat32))) w.int32
    (pair IsNat32 (Pair IsNat32 (Pair IsOctal IsNat32)) w.nat32
    (pair IsNat32 (Pair IsOctal IsNat32) w.nat32 (pair IsOctal IsNat32 w.octal w.nat32)))

abbrev get_made : ℤ × Flags → SystemCall
get_made v = Msgget v.0 v.1

abbrev send_made : ℤ × (ℤ × (Flags × List ℕ)) → SystemCall
send_made v = Msgsnd v.0 v.1.0 v.1.1.0 v.1.1.1

abbrev receive_made : ℤ × (ℕ × (ℤ × Flags)) → SystemCall
receive_made v = Msgrcv v.0 v.1.0 v.1.1.0 v.1.1.1

abbrev set_made : ℤ × (ℕ × (ℕ × (Octal × ℕ))) → SystemCall
set_made v = MsgctlSet v.0 (record { uid = v.1.0; gid = v.1.1.0; mode = v.1.1.1.0.0; qbytes = v.1.1.1.1 })

arguments_once : WordsAreRead → (words : List ℕ) (a b : SystemCall) → call_name a ≡ call_name b →
    SaysArguments words a → SaysArguments words b → a ≡ b
arguments_once w words (Msgget key flags) (Msgget key' flags') e h k = ap get_made ((get_read w).once words _ _ h k)
arguments_once w words (Msgsnd id mtype flags text) (Msgsnd id' mtype' flags' text') e h k =
    ap send_made ((send_read w).once words _ _ h k)
arguments_once w words (Msgrcv id size mtype flags) (Msgrcv id' size' mtype' flags') e h k =
    ap receive_made ((receive_read w).once words _ _ h k)
arguments_once w words (MsgctlStat id) (MsgctlStat id') e h k = ap MsgctlStat (w.int32.once words id id' h k)
arguments_once w words (MsgctlSet id to) (MsgctlSet id' to') e h k = ap set_made ((set_read w).once words _ _ h k)
arguments_once w words (MsgctlRmid id) (MsgctlRmid id') e h k = ap MsgctlRmid (w.int32.once words id id' h k)
arguments_once w words a b e h k = let bytes = ap first_bytes e in absurd (omega (arith, bytes))

call_once : WordsAreRead → SaysOnce SaysCall
call_once w words a b h k =
    let same = splits_once 32 words (call_name a) h.rest (call_name b) k.rest h.split k.split in
    arguments_once w k.rest a b same.0 (subst (λ (r : List ℕ). SaysArguments r a) same.1 h.says) k.says

-- ---- whether words say a call

abbrev NamesSome : List ℕ → List ℕ → Type 0
NamesSome name words =
    ((asked : SystemCall) × SaysNamed name words asked) ⊎ ((asked : SystemCall) → ¬ SaysNamed name words asked)

no_get : (words : List ℕ) → ((v : ℤ × Flags) → ¬ Pair IsInt32 IsFlagList words v) → (asked : SystemCall) →
    ¬ SaysNamed (codes "get") words asked
no_get words none (Msgget key flags) h = none (key, flags) h.arguments
no_get words none asked h = let e = ap first_bytes h.is in omega (arith, e)

no_send : (words : List ℕ) →
    ((v : ℤ × (ℤ × (Flags × List ℕ))) → ¬ Pair IsInt32 (Pair IsInt64 (Pair IsFlagList SaysText)) words v) →
    (asked : SystemCall) → ¬ SaysNamed (codes "snd") words asked
no_send words none (Msgsnd id mtype flags text) h = none (id, (mtype, (flags, text))) h.arguments
no_send words none asked h = let e = ap first_bytes h.is in omega (arith, e)

no_receive : (words : List ℕ) →
    ((v : ℤ × (ℕ × (ℤ × Flags))) → ¬ Pair IsInt32 (Pair IsNat32 (Pair IsInt64 IsFlagList)) words v) →
    (asked : SystemCall) → ¬ SaysNamed (codes "rcv") words asked
no_receive words none (Msgrcv id size mtype flags) h = none (id, (size, (mtype, flags))) h.arguments
no_receive words none asked h = let e = ap first_bytes h.is in omega (arith, e)

no_stat : (words : List ℕ) → ((v : ℤ) → ¬ IsInt32 words v) → (asked : SystemCall) →
    ¬ SaysNamed (codes "stat") words asked
no_stat words none (MsgctlStat id) h = none id h.arguments
no_stat words none asked h = let e = ap first_bytes h.is in omega (arith, e)

no_set : (words : List ℕ) →
    ((v : ℤ × (ℕ × (ℕ × (Octal × ℕ)))) → ¬ Pair IsInt32 (Pair IsNat32 (Pair IsNat32 (Pair IsOctal IsNat32))) words v) →
    (asked : SystemCall) → ¬ SaysNamed (codes "set") words asked
no_set words none (MsgctlSet id to) h = none (id, (to.uid, (to.gid, (octal to.mode, to.qbytes)))) h.arguments
no_set words none asked h = let e = ap first_bytes h.is in omega (arith, e)

no_remove : (words : List ℕ) → ((v : ℤ) → ¬ IsInt32 words v) → (asked : SystemCall) →
    ¬ SaysNamed (codes "rm") words asked
no_remove words none (MsgctlRmid id) h = none id h.arguments
no_remove words none asked h = let e = ap first_bytes h.is in omega (arith, e)

get_or_not : WordsAreRead → (words : List ℕ) → NamesSome (codes "get") words
get_or_not w words = elim ((get_read w).decided words) [
  | inl v ↦ inl (get_made v.0, record { is = λ i. codes "get"; arguments = v.1 })
  | inr none ↦ inr (no_get words none)
]

send_or_not : WordsAreRead → (words : List ℕ) → NamesSome (codes "snd") words
send_or_not w words = elim ((send_read w).decided words) [
  | inl v ↦ inl (send_made v.0, record { is = λ i. codes "snd"; arguments = v.1 })
  | inr none ↦ inr (no_send words none)
]

receive_or_not : WordsAreRead → (words : List ℕ) → NamesSome (codes "rcv") words
receive_or_not w words = elim ((receive_read w).decided words) [
  | inl v ↦ inl (receive_made v.0, record { is = λ i. codes "rcv"; arguments = v.1 })
  | inr none ↦ inr (no_receive words none)
]

stat_or_not : WordsAreRead → (words : List ℕ) → NamesSome (codes "stat") words
stat_or_not w words = elim (w.int32.decided words) [
  | inl v ↦ inl (MsgctlStat v.0, record { is = λ i. codes "stat"; arguments = v.1 })
  | inr none ↦ inr (no_stat words none)
]

set_or_not : WordsAreRead → (words : List ℕ) → NamesSome (codes "set") words
set_or_not w words = elim ((set_read w).decided words) [
  | inl v ↦ inl (set_made v.0, record { is = λ i. codes "set"; arguments = v.1 })
  | inr none ↦ inr (no_set words none)
]

remove_or_not : WordsAreRead → (words : List ℕ) → NamesSome (codes "rm") words
remove_or_not w words = elim (w.int32.decided words) [
  | inl v ↦ inl (MsgctlRmid v.0, record { is = λ i. codes "rm"; arguments = v.1 })
  | inr none ↦ inr (no_remove words none)
]

-- The name is none of the six.
record IsNoName (name : List ℕ) : Type 0 where
  get : ¬ (name ≡ codes "get")
  snd : ¬ (name ≡ codes "snd")
  rcv : ¬ (name ≡ codes "rcv")
  stat : ¬ (name ≡ codes "stat")
  set : ¬ (name ≡ codes "set")
  rm : ¬ (name ≡ codes "rm")

no_name : (name words : List ℕ) → IsNoName name → (asked : SystemCall) → ¬ SaysNamed name words asked
no_name name words apart (Msgget key flags) h = apart.get (sym h.is)
no_name name words apart (Msgsnd id mtype flags text) h = apart.snd (sym h.is)
no_name name words apart (Msgrcv id size mtype flags) h = apart.rcv (sym h.is)
no_name name words apart (MsgctlStat id) h = apart.stat (sym h.is)
no_name name words apart (MsgctlSet id to) h = apart.set (sym h.is)
no_name name words apart (MsgctlRmid id) h = apart.rm (sym h.is)

under_name : (name other words : List ℕ) → name ≡ other → NamesSome other words → NamesSome name words
under_name name other words e h = subst (λ (n : List ℕ). NamesSome n words) (sym e) h

named_or_not : WordsAreRead → (name words : List ℕ) → NamesSome name words
named_or_not w name words = elim (same_or_not name (codes "get")) [
  | inl e ↦ under_name name (codes "get") words e (get_or_not w words)
  | inr a ↦ elim (same_or_not name (codes "snd")) [
    | inl e ↦ under_name name (codes "snd") words e (send_or_not w words)
    | inr b ↦ elim (same_or_not name (codes "rcv")) [
      | inl e ↦ under_name name (codes "rcv") words e (receive_or_not w words)
      | inr c ↦ elim (same_or_not name (codes "stat")) [
        | inl e ↦ under_name name (codes "stat") words e (stat_or_not w words)
        | inr d ↦ elim (same_or_not name (codes "set")) [
          | inl e ↦ under_name name (codes "set") words e (set_or_not w words)
          | inr f ↦ elim (same_or_not name (codes "rm")) [
            | inl e ↦ under_name name (codes "rm") words e (remove_or_not w words)
            | inr g ↦ inr (no_name name words (record { get = a; snd = b; rcv = c; stat = d; set = f; rm = g }))
          ]
        ]
      ]
    ]
  ]
]

call_decided : WordsAreRead → IsDecided SaysCall
call_decided w words = elim (splits_or_not 32 words) [
  | inl s ↦ elim (named_or_not w s.0 s.1) [
    | inl found ↦ inl (found.0, named_call words s.0 s.1 found.0 s.2 found.1)
    | inr none ↦ inr (λ asked h. none asked (call_named words s.0 s.1 asked s.2 h))
  ]
  | inr plain ↦ inr (call_unsplit words plain)
]

pub call_read : WordsAreRead → IsReading SaysCall
call_read w = record { once = call_once w; decided = call_decided w }
