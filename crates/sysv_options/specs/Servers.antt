-- What a `serve` asks for (this project's programs): its socket file and its terms.
use Rattle.std.specs.Prelude.{◌≡◌, ◌≢◌, ◌≤◌, ◌+◌, ⊤, ℕ, Bool, true, false, List, [], ◌∷◌, ◌++◌, codes, length}
use Rattle.std.specs.Prelude.{Contains, is_some, not, unwrap_or, Option, Some, None}
use Rattle.clap.specs.Words.{Row, all_of}
use Rattle.sysv_seats.specs.declared.callers.Callers.TheVariants.{Only}
use Rattle.sysv_server.specs.declared.terms.Terms.{Terms}
use Rattle.sysv_words.specs.Words.{IsNat32, IsNat64, SplitsAt}
use Rattle.sysv_connect.specs.declared.loads.Loading.{Loading}
use Rattle.sysv_connect.specs.declared.saves.Saving.{Saving}
use Rattle.sysv_connect.specs.declared.stats.Looking.{Looking}
use Rattle.sysv_connect.specs.Telling.{has_line, has_sentence}
use Rattle.sysv_options.specs.declared.asked.Serving.{Serving}
use Rattle.sysv_options.specs.declared.sockets.Entrance.{Entrance}
use Rattle.sysv_options.specs.declared.sockets.Entrances.{Entrances}
use Rattle.sysv_options.specs.declared.sockets.SocketFile.{SocketFile}
use Rattle.sysv_options.specs.declared.sockets.TheConstants.{MAX_OTHERS}
use Rattle.sysv_options.specs.Sockets.{listed}
use Rattle.sysv_options.specs.declared.asked.TheConstants.{WORKERS, MAX_PATH, MAX_PATH_WITH_MODE, MODE_ALONE}
use Rattle.sysv_server.specs.declared.serving.TheConstants.{MAX_CLIENTS}
use Rattle.sysv_options.specs.Asked.{AreAtOnce, AreBlocks, AreWorkers}
use Rattle.sysv_clients.specs.Words.{IsKey}
use Rattle.sysv_options.specs.Words.{HasFlag, HasMaybe, HasOr, IsExactly, IsMode, IsOn, IsTime, IsUnsigned, WantsType}
use Rattle.sysv_options.specs.Words.{word_of}

-- A command with these words asks for this number of blocks.
abbrev pub AsksForBlocks : List Row → ℕ → Type 0
AsksForBlocks words blocks = HasOr IsNat32 1024 (word_of words (codes "blocks")) blocks × AreBlocks blocks

-- The word after `--workers` is this number of workers, or there is no such word and there are four.
abbrev pub CountsWorkers : Option (List ℕ) → ℕ → Type 0
CountsWorkers (Some word) workers = IsNat32 word workers × AreWorkers workers
CountsWorkers None workers = workers ≡ WORKERS

-- A command with these words asks for this number of workers.
abbrev pub AsksForWorkers : List Row → ℕ → Type 0
AsksForWorkers words workers = CountsWorkers (word_of words (codes "workers")) workers

-- The word after `--at-once` is this number of sessions at once, or there is no such word and the
-- number is as large as it may be.
abbrev pub CountsAtOnce : Option (List ℕ) → ℕ → Type 0
CountsAtOnce (Some word) at_once = IsNat32 word at_once × AreAtOnce at_once
CountsAtOnce None at_once = at_once ≡ MAX_CLIENTS

-- A command with these words asks for this number of sessions at once.
abbrev pub AsksForAtOnce : List Row → ℕ → Type 0
AsksForAtOnce words at_once = CountsAtOnce (word_of words (codes "at-once")) at_once

-- A `serve` with these words has these terms.
pub record AsksForTerms (words : List Row) (terms : Terms) : Type 0 where
  pub blocks : AsksForBlocks words terms.blocks
  pub workers : AsksForWorkers words terms.workers
  pub at_once : AsksForAtOnce words terms.at_once
  pub sessions : HasOr IsNat64 0 (word_of words (codes "sessions")) terms.sessions
  pub idle : HasOr IsNat32 0 (word_of words (codes "idle")) terms.patience.idle
  pub stall : HasOr IsNat32 0 (word_of words (codes "stall")) terms.patience.stall
  pub drain : HasOr IsNat32 0 (word_of words (codes "drain")) terms.drain
  pub stats : terms.stats ≡ is_some (word_of words (codes "stats"))
  pub hold : HasFlag words (codes "hold") terms.hold
  pub alone : terms.alone ≡ is_some (word_of words (codes "alone"))

-- A command with these words has this path.
abbrev pub HasPath : List Row → List ℕ → Type 0
HasPath words path = (word_of words (codes "path") ≡ Some path) × (1 ≤ length path) × (length path ≤ MAX_PATH)

-- A path with this mode is not too long.
abbrev pub HasRoom : List ℕ → Option ℕ → Type 0
HasRoom path (Some mode) = length path ≤ MAX_PATH_WITH_MODE
HasRoom path None = ⊤

-- A `serve` with these words has a socket file at this path with this mode, and removes a stale one
-- or does not.
pub record AsksForFileAt (words : List Row) (at : List ℕ) (file : SocketFile) : Type 0 where
  pub path : file.path.now ≡ at
  pub mode : IsMode (word_of words (codes "mode")) file.mode
  pub room : HasRoom at file.mode
  pub replace : HasFlag words (codes "replace") file.replace

-- A `serve` with these words has this socket file.
pub record AsksForFile (words : List Row) (served : SocketFile) : Type 0 where
  pub path : HasPath words served.path.now
  pub file : AsksForFileAt words served.path.now served

-- A `serve` with these words shows its state at this socket file, which is not at its own path, or
-- shows it nowhere.
abbrev pub MayAskForStats : List Row → Option SocketFile → Type 0
MayAskForStats words (Some file) =
    (word_of words (codes "stats") ≡ Some file.path.now) × (1 ≤ length file.path.now)
    × (length file.path.now ≤ MAX_PATH) × (word_of words (codes "path") ≢ Some file.path.now)
    × AsksForFileAt words file.path.now file
MayAskForStats words None = word_of words (codes "stats") ≡ None

-- A `serve` with these words serves sessions alone at this socket file, which is not at its own path and which only its
-- user may use, or serves none alone.
abbrev pub MayAskForAlone : List Row → Option SocketFile → Type 0
MayAskForAlone words (Some file) =
    (word_of words (codes "alone") ≡ Some file.path.now) × (1 ≤ length file.path.now)
    × (length file.path.now ≤ MAX_PATH_WITH_MODE) × (word_of words (codes "path") ≢ Some file.path.now)
    × (file.mode ≡ Some MODE_ALONE) × (file.replace ≡ true)
MayAskForAlone words None = word_of words (codes "alone") ≡ None

-- A `stats` with these words shows this.
pub record AsksToLook (words : List Row) (looking : Looking) : Type 0 where
  pub path : HasPath words looking.path.now
  pub json : HasFlag words (codes "json") looking.json
  pub wait : HasMaybe IsTime (word_of words (codes "wait")) looking.wait
  pub line : has_line looking.telling ≡ not (has_sentence looking.telling)
  pub stderr : HasFlag words (codes "stderr") (has_sentence looking.telling)

-- A `save` with these words saves this.
pub record AsksToSave (words : List Row) (saving : Saving) : Type 0 where
  pub path : HasPath words saving.path.now
  pub has_key : HasMaybe IsKey (word_of words (codes "key")) saving.key
  pub has_type : WantsType (word_of words (codes "type")) (word_of words (codes "upto"))
      (word_of words (codes "except")) saving.mtype
  pub has_except : saving.except ≡ is_some (word_of words (codes "except"))
  pub has_nosync : HasFlag words (codes "nosync") saving.nosync
  pub wait : HasMaybe IsTime (word_of words (codes "wait")) saving.wait

-- The word is the number of a line, counted from 1.
abbrev pub IsLineNumber : List ℕ → ℕ → Type 0
IsLineNumber word line = IsNat64 word line × (1 ≤ line)

-- A `load` with these words loads its input like this.
pub record AsksToLoad (words : List Row) (loading : Loading) : Type 0 where
  pub path : HasPath words loading.path.now
  pub from : HasOr IsLineNumber 1 (word_of words (codes "from")) loading.from
  pub into : HasFlag words (codes "into") loading.into
  pub adopt : HasFlag words (codes "adopt") loading.adopt
  pub nowait : HasFlag words (codes "nowait") loading.nowait
  pub wait : HasMaybe IsTime (word_of words (codes "wait")) loading.wait

-- The text is a part, the mark, and a rest without the mark.
pub record SplitsAtLast (mark : ℕ) (text part rest : List ℕ) : Type 0 where
  pub whole : text ≡ part ++ mark ∷ rest
  pub unmarked : Contains rest mark → ⊥

-- The words are the numerals of a user and a group.
abbrev pub AreBoth : (user group : List ℕ) → ℕ × ℕ → Type 0
AreBoth user group ids = IsUnsigned user ids.0 × IsUnsigned group ids.1

-- The text is a user, `:` and a group.
pub record AreIds (text : List ℕ) (ids : ℕ × ℕ) : Type 0 where
  pub user : List ℕ
  pub group : List ℕ
  pub split : SplitsAt 58 text user group
  pub both : AreBoth user group ids

-- The word names this socket: a path, `=`, a user, `:` and a group. It lets in just this user with this group. A
-- `serve` with these words has its file.
pub record IsEntrance (words : List Row) (word : List ℕ) (entrance : Entrance) : Type 0 where
  pub text : List ℕ
  pub uid : ℕ
  pub gid : ℕ
  pub split : word ≡ entrance.file.path.now ++ 61 ∷ text
  pub ids : AreIds text (uid, gid)
  pub callers : entrance.callers ≡ Only uid gid
  pub least : 1 ≤ length entrance.file.path.now
  pub most : length entrance.file.path.now ≤ MAX_PATH
  pub file : AsksForFileAt words entrance.file.path.now entrance.file

-- The words name these sockets, one each.
abbrev pub AreEntrances : List Row → List (List ℕ) → List Entrance → Type 0
AreEntrances words [] [] = ⊤
AreEntrances words [] (entrance ∷ entrances) = ⊥
AreEntrances words (word ∷ more) [] = ⊥
AreEntrances words (word ∷ more) (entrance ∷ entrances) =
    IsEntrance words word entrance × AreEntrances words more entrances

-- These words after `--as` name these sockets, at most 64.
pub record AreOthers (words : List Row) (given : List (List ℕ)) (others : Entrances) : Type 0 where
  pub entrances : AreEntrances words given (listed others)
  pub count : others.count ≡ length (listed others)
  pub most : others.count ≤ MAX_OTHERS

-- A `serve` with these words has these sockets besides its first. Without `--as` it has none.
abbrev pub AsksForOthers : List Row → Entrances → Type 0
AsksForOthers words others = AreOthers words (unwrap_or (all_of (codes "as") words) []) others

-- A server with this number of other sockets has so many sockets. If it has not its first one, it has another. It may
-- have one more, at which sessions are served alone.
abbrev pub CountsSockets : (no_main alone : Bool) (others sockets : ℕ) → Type 0
CountsSockets true false others sockets = (1 ≤ others) × (sockets ≡ others)
CountsSockets true true others sockets = (1 ≤ others) × (sockets ≡ others + 1)
CountsSockets false false others sockets = sockets ≡ others + 1
CountsSockets false true others sockets = sockets ≡ others + 2

-- A `serve` with these words is this one.
pub record AsksToServe (words : List Row) (serving : Serving) : Type 0 where
  pub file : AsksForFile words serving.file
  pub others : AsksForOthers words serving.others
  pub no_main : IsExactly (word_of words (codes "no-main")) serving.no_main
  pub sockets : CountsSockets serving.no_main serving.terms.alone serving.others.count serving.terms.sockets
  pub stats : MayAskForStats words serving.stats
  -- Sessions that are served alone end by the input, and their number is not limited.
  pub alone : MayAskForAlone words serving.alone
  pub lone : serving.terms.alone ≡ true → IsOn (word_of words (codes "until-eof")) × (serving.terms.sessions ≡ 0)
  pub terms : AsksForTerms words serving.terms
  pub until_eof : HasFlag words (codes "until-eof") serving.until_eof
