-- What a client's command asks for (this project's programs): its task, and who makes it.
use Rattle.std.specs.Prelude.{◌≡◌, ◌≤◌, ◌⊎◌, ℕ, ℤ, pos, Bool, true, false, List, [], codes, length, Option, Some}
use Rattle.std.specs.Prelude.{None, is_some, not, unwrap_or}
use Rattle.clap.specs.Words.{Row}
use Rattle.sysv_clients.specs.declared.command.Form.{Form}
use Rattle.sysv_clients.specs.declared.command.Form.TheVariants.{Line, Raw, Zero, Object}
use Rattle.sysv_clients.specs.declared.command.Format.{Format}
use Rattle.sysv_clients.specs.declared.command.Format.TheVariants.{Table as AsTable, Json}
use Rattle.sysv_clients.specs.declared.command.Making.{Making}
use Rattle.sysv_clients.specs.declared.command.Receipt.{Receipt}
use Rattle.sysv_clients.specs.declared.command.Target.{Target}
use Rattle.sysv_clients.specs.declared.command.Target.TheVariants.{Id, Key, All}
use Rattle.sysv_clients.specs.declared.command.Task.{Task}
use Rattle.sysv_clients.specs.declared.command.Task.TheVariants.{List as Table, Show, Remove, Make, Send, Receive}
use Rattle.sysv_clients.specs.declared.stream.TheConstants.{MAX_AHEAD}
use Rattle.sysv_clients.specs.Words.{IsId, IsKey, IsType}
use Rattle.sysv_model.specs.declared.limits.TheConstants.{BODY_ROOM}
use Rattle.sysv_words.specs.Words.{IsNat32}
use Rattle.sysv_connect.specs.declared.how.How.{How}
use Rattle.sysv_connect.specs.Telling.{has_line, has_sentence}
use Rattle.sysv_options.specs.declared.who.Who.{Who}
use Rattle.sysv_options.specs.Words.{Has, HasFlag, HasMaybe, HasOr, IsOctalMode, IsOn, IsTime, WantsType, word_of}

-- The command has a user ID, a group ID and a process ID, or lacks them, and has `--me` or not.
pub record StatesWho (words : List Row) (who : Who) : Type 0 where
  pub me : HasFlag words (codes "me") who.me
  pub uid : HasMaybe IsNat32 (word_of words (codes "uid")) who.uid
  pub gid : HasMaybe IsNat32 (word_of words (codes "gid")) who.gid
  pub pid : HasMaybe IsNat32 (word_of words (codes "pid")) who.pid

-- The word is this number of receives that may be on their way.
abbrev pub IsAhead : List ℕ → ℕ → Type 0
IsAhead word ahead = IsNat32 word ahead × (1 ≤ ahead) × (ahead ≤ MAX_AHEAD)

-- A task of a command with these words is run like this.
pub record HasHow (words : List Row) (how : How) : Type 0 where
  pub from_input : HasFlag words (codes "stdin") how.from_input
  pub lines : HasFlag words (codes "lines") how.lines
  pub objects : HasFlag words (codes "json") how.objects
  pub progress : HasFlag words (codes "progress") how.progress
  pub follow : HasFlag words (codes "follow") how.follow
  pub purge : HasFlag words (codes "purge") how.purge
  pub holds : HasFlag words (codes "hold") how.holds
  pub count : HasMaybe IsNat32 (word_of words (codes "count")) how.count
  pub ahead : HasMaybe IsAhead (word_of words (codes "ahead")) how.ahead
  pub wait : HasMaybe IsTime (word_of words (codes "wait")) how.wait
  pub line : has_line how.telling ≡ not (has_sentence how.telling)
  pub stderr : HasFlag words (codes "stderr") (has_sentence how.telling)

-- The queues are listed as JSON objects.
abbrev pub is_json : Format → Bool
is_json AsTable = false
is_json Json = true

-- The word after `-i` of an `ipcs` is this identifier, or there is none and the queues are listed.
abbrev pub Lists : (id : Option (List ℕ)) → List Row → Task → Type 0
Lists (Some word) words (Show id) = IsId word id
Lists None words (Table format) = HasFlag words (codes "json") (is_json format)
Lists (Some word) words (Table format) = ⊥
Lists None words (Show id) = ⊥
Lists id words (Remove target) = ⊥
Lists id words (Make making) = ⊥
Lists id words (Send key text mtype nowait) = ⊥
Lists id words (Receive receipt) = ⊥

-- An `ipcs` with these words has this task.
abbrev pub AsksToList : List Row → Task → Type 0
AsksToList words task = Lists (word_of words (codes "id")) words task

-- The words after `-q` and `-Q` of an `ipcrm` and its flag `--all` name this queue: that of the
-- identifier, or all queues if there is none and the flag is on, or else that of the key.
abbrev pub NamesTarget : (id key all : Option (List ℕ)) → Target → Type 0
NamesTarget (Some word) key all (Id named) = IsId word named
NamesTarget (Some word) key all (Key named) = ⊥
NamesTarget (Some word) key all All = ⊥
NamesTarget None key all (Id named) = ⊥
NamesTarget None key all (Key named) = ¬ IsOn all × Has IsKey key named
NamesTarget None key all All = IsOn all

-- An `ipcrm` with these words has this task.
abbrev pub AsksToRemove : List Row → Task → Type 0
AsksToRemove words (Remove target) =
    NamesTarget (word_of words (codes "id")) (word_of words (codes "key")) (word_of words (codes "all")) target
AsksToRemove words (Table format) = ⊥
AsksToRemove words (Show id) = ⊥
AsksToRemove words (Make making) = ⊥
AsksToRemove words (Send key text mtype nowait) = ⊥
AsksToRemove words (Receive receipt) = ⊥

-- An `ipcmk` with these words makes this queue.
pub record Makes (words : List Row) (making : Making) : Type 0 where
  pub has_key : HasOr IsKey (pos 0) (word_of words (codes "key")) making.key
  pub has_mode : HasOr IsOctalMode 384 (word_of words (codes "mode")) making.mode
  pub has_qbytes : HasMaybe IsNat32 (word_of words (codes "qbytes")) making.qbytes

-- An `ipcmk` with these words has this task.
abbrev pub AsksToMake : List Row → Task → Type 0
AsksToMake words (Make making) = Makes words making
AsksToMake words (Table format) = ⊥
AsksToMake words (Show id) = ⊥
AsksToMake words (Remove target) = ⊥
AsksToMake words (Send key text mtype nowait) = ⊥
AsksToMake words (Receive receipt) = ⊥

-- A `snd` with these words has this key, this body, this type and this flag.
pub record Sends (words : List Row) (key : ℤ) (text : List ℕ) (mtype : ℤ) (nowait : Bool) : Type 0 where
  pub has_key : Has IsKey (word_of words (codes "key")) key
  pub has_text : text ≡ unwrap_or (word_of words (codes "text")) []
  pub is_short : length text ≤ BODY_ROOM
  pub has_type : HasOr IsType (pos 1) (word_of words (codes "type")) mtype
  pub has_nowait : HasFlag words (codes "nowait") nowait

-- A `snd` with these words has this task.
abbrev pub AsksToSend : List Row → Task → Type 0
AsksToSend words (Send key text mtype nowait) = Sends words key text.now mtype nowait
AsksToSend words (Table format) = ⊥
AsksToSend words (Show id) = ⊥
AsksToSend words (Remove target) = ⊥
AsksToSend words (Make making) = ⊥
AsksToSend words (Receive receipt) = ⊥

-- The flags `--raw`, `--zero` and `--json` of a `rcv`, of which at most one is on, ask for this form.
abbrev pub ShowsIn : (raw zero json : Option (List ℕ)) → Form → Type 0
ShowsIn raw zero json Line = ¬ IsOn raw × ¬ IsOn zero × ¬ IsOn json
ShowsIn raw zero json Raw = IsOn raw × ¬ IsOn zero × ¬ IsOn json
ShowsIn raw zero json Zero = ¬ IsOn raw × IsOn zero × ¬ IsOn json
ShowsIn raw zero json Object = ¬ IsOn raw × ¬ IsOn zero × IsOn json

-- A `rcv` with these words has this receipt.
pub record Receives (words : List Row) (receipt : Receipt) : Type 0 where
  pub has_key : Has IsKey (word_of words (codes "key")) receipt.key
  pub has_create : HasFlag words (codes "create") receipt.create
  pub has_mode : HasOr IsOctalMode 384 (word_of words (codes "mode")) receipt.mode
  pub has_size : HasOr IsNat32 8192 (word_of words (codes "size")) receipt.size
  pub has_type : WantsType (word_of words (codes "type")) (word_of words (codes "upto"))
      (word_of words (codes "except")) receipt.mtype
  pub has_except : receipt.except ≡ is_some (word_of words (codes "except"))
  pub has_nowait : HasFlag words (codes "nowait") receipt.nowait
  pub has_noerror : HasFlag words (codes "noerror") receipt.noerror
  pub has_show_type : HasFlag words (codes "show-type") receipt.show_type
  pub has_form : ShowsIn (word_of words (codes "raw")) (word_of words (codes "zero")) (word_of words (codes "json"))
      receipt.form

-- A `rcv` with these words has this task.
abbrev pub AsksToReceive : List Row → Task → Type 0
AsksToReceive words (Receive receipt) = Receives words receipt
AsksToReceive words (Table format) = ⊥
AsksToReceive words (Show id) = ⊥
AsksToReceive words (Remove target) = ⊥
AsksToReceive words (Make making) = ⊥
AsksToReceive words (Send key text mtype nowait) = ⊥

-- A client's command of this name with these words has this task.
abbrev pub HasTask : List ℕ → List Row → Task → Type 0
HasTask name words task =
    ((name ≡ codes "ipcs") × AsksToList words task) ⊎ ((name ≡ codes "ipcrm") × AsksToRemove words task)
    ⊎ ((name ≡ codes "ipcmk") × AsksToMake words task) ⊎ ((name ≡ codes "snd") × AsksToSend words task)
    ⊎ ((name ≡ codes "rcv") × AsksToReceive words task)
