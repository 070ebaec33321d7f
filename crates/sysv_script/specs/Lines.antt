-- The meaning of a line of a script (this project's script language). Its words are separated by
-- one space, and the body of a message is the rest of the line.
use Rattle.std.specs.Prelude.{◌≡◌, ◌≤◌, ◌⊎◌, ℕ, pos, true, false, List, [], ◌∷◌, length, codes, replicate}
use Rattle.sysv_model.specs.declared.limits.TheConstants.{BODY_ROOM, MIN_BLOCKS, MAX_BLOCKS}
use Rattle.sysv_words.specs.Words.{Pair, After, IsNumeralOf, IsInt32, IsInt64, IsNat32, IsNat64}
use Rattle.sysv_words.specs.FlagNames.{IsFlagList}
use Rattle.sysv_words.specs.declared.octal.Octal.{Octal}
use Rattle.sysv_words.specs.Octal.{IsOctal}
use Rattle.sysv_steps.specs.Call.{SystemCall, Msgget, Msgsnd, Msgrcv, MsgctlStat, MsgctlSet, MsgctlRmid}
use Rattle.sysv_script.specs.declared.actor.Actor.{Actor}
use Rattle.sysv_script.specs.declared.blocks.Blocks.{Blocks}
use Rattle.sysv_script.specs.declared.actor.TheConstants.{SCRIPT_ACTORS}
use Rattle.sysv_script.specs.declared.line.TheConstants.{LINE_BYTES}
use Rattle.sysv_script.specs.Heads.{operation_name}
use Rattle.sysv_script.specs.Names.{operation_of}
use Rattle.sysv_script.specs.Said.{Said, Nothing, MakesPreset, GivesCred, GivesMoment, Starts, StepsOnce, Continues}
use Rattle.sysv_script.specs.Said.{AllContinue, GivesBlocks}

-- The word is the number of an actor, 1 to 16.
pub record IsActor (word : List ℕ) (actor : Actor) : Type 0 where
  pub number : IsNumeralOf word (pos actor.0)
  pub least : 1 ≤ actor.0
  pub most : actor.0 ≤ SCRIPT_ACTORS

-- The actor of this number.
abbrev pub actor : ℕ → Actor
actor number = record { 0 = number }

-- The word is a number of blocks that a pool can have.
pub record IsBlocks (word : List ℕ) (blocks : Blocks) : Type 0 where
  pub number : IsNumeralOf word (pos blocks.0)
  pub least : MIN_BLOCKS ≤ blocks.0
  pub most : blocks.0 ≤ MAX_BLOCKS

-- This number of blocks.
abbrev pub of_blocks : ℕ → Blocks
of_blocks number = record { 0 = number }

-- The word is `*` and a number N, and the text is N letters x.
pub record GivesLetters (body text : List ℕ) : Type 0 where
  pub word : List ℕ
  pub whole : body ≡ 42 ∷ word
  pub number : IsNumeralOf word (pos (length text))
  pub letters : text ≡ replicate (length text) 120

-- The word is `=` and the text, or `*` and a number of letters. The text has at most 8,256 bytes.
abbrev pub SaysText : List ℕ → List ℕ → Type 0
SaysText body text = (length text ≤ BODY_ROOM) × ((body ≡ 61 ∷ text) ⊎ GivesLetters body text)

-- ---- calls

-- The name of a call in a script.
abbrev pub call_name : SystemCall → List ℕ
call_name asked = operation_name (operation_of asked)

-- These permission bits.
abbrev pub octal : ℕ → Octal
octal mode = record { 0 = mode }

-- The words after the name: `KEY FLAGS`, `ID MTYPE FLAGS BODY`, `ID SIZE MTYPE FLAGS`, `ID`, `ID
-- UID GID MODE QBYTES`, `ID`.
abbrev pub SaysArguments : List ℕ → SystemCall → Type 0
SaysArguments words (Msgget key flags) = Pair IsInt32 IsFlagList words (key, flags)
SaysArguments words (Msgsnd id mtype flags text) =
    Pair IsInt32 (Pair IsInt64 (Pair IsFlagList SaysText)) words (id, (mtype, (flags, text)))
SaysArguments words (Msgrcv id size mtype flags) =
    Pair IsInt32 (Pair IsNat32 (Pair IsInt64 IsFlagList)) words (id, (size, (mtype, flags)))
SaysArguments words (MsgctlStat id) = IsInt32 words id
SaysArguments words (MsgctlSet id to) =
    Pair IsInt32 (Pair IsNat32 (Pair IsNat32 (Pair IsOctal IsNat32))) words
    (id, (to.uid, (to.gid, (octal to.mode, to.qbytes))))
SaysArguments words (MsgctlRmid id) = IsInt32 words id

-- The call has this name and these arguments.
pub record SaysNamed (name words : List ℕ) (asked : SystemCall) : Type 0 where
  pub is : call_name asked ≡ name
  pub arguments : SaysArguments words asked

-- The words are the name of the call and its arguments.
abbrev pub SaysCall : List ℕ → SystemCall → Type 0
SaysCall words asked = After (call_name asked) SaysArguments words asked

-- ---- lines

-- The line is skipped: it is empty or a comment.
abbrev pub IsSkipped : List ℕ → Type 0
IsSkipped line = (line ≡ []) ⊎ ((comment : List ℕ) × (line ≡ 35 ∷ comment))

-- ---- a line of a name and its arguments

-- The name with which the line begins, if it has one.
abbrev pub order_name : Said → List ℕ
order_name (GivesBlocks blocks) = codes "pool"
order_name (GivesCred who cred) = codes "as"
order_name (GivesMoment moment) = codes "now"
order_name (StepsOnce who) = codes "step"
order_name (Continues who) = codes "go"
order_name Nothing = []
order_name MakesPreset = []
order_name (Starts who asked goes) = []
order_name AllContinue = []

-- The words after the name: `N`, `ACTOR UID GID PID`, `T`, `ACTOR`, `ACTOR`.
abbrev pub SaysOrderArguments : List ℕ → Said → Type 0
SaysOrderArguments words (GivesBlocks blocks) = IsBlocks words (of_blocks blocks)
SaysOrderArguments words (GivesCred who cred) =
    Pair IsActor (Pair IsNat32 (Pair IsNat32 IsNat32)) words (actor who, (cred.uid, (cred.gid, cred.pid)))
SaysOrderArguments words (GivesMoment moment) = IsNat64 words moment
SaysOrderArguments words (StepsOnce who) = IsActor words (actor who)
SaysOrderArguments words (Continues who) = IsActor words (actor who)
SaysOrderArguments words Nothing = ⊥
SaysOrderArguments words MakesPreset = ⊥
SaysOrderArguments words (Starts who asked goes) = ⊥
SaysOrderArguments words AllContinue = ⊥

-- The line has this name and these arguments.
pub record OrderNamed (name words : List ℕ) (said : Said) : Type 0 where
  pub is : order_name said ≡ name
  pub arguments : SaysOrderArguments words said

-- The line is the name and its arguments.
abbrev pub SaysOrder : List ℕ → Said → Type 0
SaysOrder line said = After (order_name said) SaysOrderArguments line said

-- ---- a line that starts a call

-- The words are an actor and a call.
abbrev pub SaysStart : List ℕ → ℕ → SystemCall → Type 0
SaysStart words who asked = Pair IsActor SaysCall words (actor who, asked)

-- The line is a `+`, an actor and a call.
abbrev pub SaysStartOnly : List ℕ → ℕ → SystemCall → Type 0
SaysStartOnly line who asked = (words : List ℕ) × (line ≡ 43 ∷ words) × SaysStart words who asked

-- ---- all of them

-- The meaning of a line of one word.
abbrev pub TellsAlone : List ℕ → Said → Type 0
TellsAlone line MakesPreset = line ≡ codes "preset"
TellsAlone line AllContinue = line ≡ codes "all"
TellsAlone line said = ⊥

-- The meaning of a line of one or more words that has no `+` before it.
abbrev pub TellsInWords : List ℕ → Said → Type 0
TellsInWords line MakesPreset = TellsAlone line MakesPreset
TellsInWords line AllContinue = TellsAlone line AllContinue
TellsInWords line (Starts who asked true) = SaysStart line who asked
TellsInWords line (Starts who asked false) = ⊥
TellsInWords line (GivesBlocks blocks) = SaysOrder line (GivesBlocks blocks)
TellsInWords line (GivesCred who cred) = SaysOrder line (GivesCred who cred)
TellsInWords line (GivesMoment moment) = SaysOrder line (GivesMoment moment)
TellsInWords line (StepsOnce who) = SaysOrder line (StepsOnce who)
TellsInWords line (Continues who) = SaysOrder line (Continues who)
TellsInWords line Nothing = ⊥

-- The meaning of a line, without regard to its length.
abbrev pub Tells : List ℕ → Said → Type 0
Tells line Nothing = IsSkipped line
Tells line (Starts who asked false) = SaysStartOnly line who asked
Tells line said = TellsInWords line said

-- The meaning of a line. The line has at most 9,000 bytes.
abbrev pub Says : List ℕ → Said → Type 0
Says line said = (length line ≤ LINE_BYTES) × Tells line said
