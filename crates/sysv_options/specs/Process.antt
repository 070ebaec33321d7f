-- What the system tells a process (this project's programs): its words, and where it runs.
use Rattle.std.specs.Prelude.{ℕ, Bool, List, Option, codes}
use Rattle.sysv_options.specs.declared.process.NoWords.{NoWords}
use Rattle.sysv_options.specs.declared.who.Surroundings.{Surroundings}

-- One thing that the system tells a process.
pub data Told : Type 0 where
  -- the words of its command line, the first of which is its name
  Words : (words : List (List ℕ)) → Told
  -- these words cannot be read
  Unread : (why : NoWords) → Told
  -- whether the environment variable of this name has the value 1
  Variable : (name : List ℕ) → (has_one : Bool) → Told
  -- its effective user
  User : (id : ℕ) → Told
  -- its effective group
  Group : (id : ℕ) → Told
  -- its ID
  Number : (id : ℕ) → Told
  -- whether its standard output is a terminal
  Terminal : Bool → Told
  -- the maximum number of files that it may have open, if that is known
  OpenFiles : Option ℕ → Told

-- Each of these is what the system told. `Tells` is what it may tell the process.
abbrev pub AreTold : (Told → Type 0) → Surroundings → Type 0
AreTold Tells around =
    Tells (Variable (codes "SYSVMSG_ME") around.wants_me)
    × Tells (Variable (codes "SYSVMSG_STDERR") around.wants_stderr)
    × Tells (Terminal around.is_terminal)
    × Tells (User around.own.uid) × Tells (Group around.own.gid) × Tells (Number around.own.pid)
    × Tells (OpenFiles around.open_files)
