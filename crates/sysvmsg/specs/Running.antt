-- What the program does by its words and where it runs (this project's programs). Its input had `fed`;
-- standard output had `shown` before and has `after` now, of which `synced` is synced.
use Rattle.std.specs.Prelude.{◌≡◌, ◌⊎◌, ℕ, Bool, List, [], ◌∷◌, ◌++◌, codes, Option, Some, IfSome, bytes_eq}
use Rattle.std.specs.Prelude.{if◌then◌else◌}
use Rattle.std.specs.declared.io.Error.{Error}
use Rattle.std.specs.declared.process.ExitCode.{ExitCode}
use Rattle.clap.specs.Values.{kind_of}
use Rattle.clap.specs.declared.error.Error.{Error as CommandError}
use Rattle.clap.specs.declared.error.kind.ErrorKind.{ErrorKind}
use Rattle.clap.specs.declared.error.kind.ErrorKind.TheVariants.{DisplayHelp, DisplayVersion}
use Rattle.sysv_clients.specs.declared.command.Task.{Task}
use Rattle.sysv_clients.specs.declared.loading.Loading.{Loading as Load}
use Rattle.sysv_clients.specs.declared.saving.Saving.{Saving as ASave}
use Rattle.sysv_connect.specs.declared.contact.Contact.{Contact}
use Rattle.sysv_connect.specs.declared.contact.Contact.TheVariants.{Unused}
use Rattle.sysv_connect.specs.declared.how.How.{How}
use Rattle.sysv_connect.specs.declared.how.Telling.{Telling}
use Rattle.sysv_connect.specs.declared.how.Telling.TheVariants.{Line, Both, Sentence}
use Rattle.sysv_connect.specs.declared.link.Link.{Link}
use Rattle.sysv_connect.specs.Clients.{IsDone, IsUnmade}
use Rattle.sysv_connect.specs.Ends.{Fails, Succeeds}
use Rattle.sysv_connect.specs.Files.{Loads, Saves, loading_of, saving_of}
use Rattle.sysv_connect.specs.Links.{left_by, taken_by}
use Rattle.sysv_connect.specs.Several.{way_by}
use Rattle.sysv_connect.specs.Stats.{HasLooked}
use Rattle.sysv_connect.specs.Telling.{TellsUnmade}
use Rattle.sysv_connect.specs.Visits.{Visited}
use Rattle.sysv_model.specs.declared.cred.Cred.{Cred}
use Rattle.sysv_model.specs.Writing.{AppendsPrefix}
use Rattle.sysv_options.specs.declared.asked.Asked.TheVariants.{Script, Serve, Look, Save, Load as ToLoad, Client}
use Rattle.sysv_options.specs.Asked.{Requested}
use Rattle.sysv_options.specs.declared.process.NoWords.{NoWords}
use Rattle.sysv_options.specs.declared.process.NoWords.TheVariants.{NoMemory, NoText}
use Rattle.sysv_options.specs.declared.who.Surroundings.{Surroundings}
use Rattle.sysv_options.specs.Process.{AreTold, Told, Unread, Words}
use Rattle.sysv_options.specs.Requests.{AreRefused, IsMeant}
use Rattle.sysv_options.specs.Sockets.{callers_let_in}
use Rattle.sysv_options.specs.Who.{stated_by, told_by}
use Rattle.sysvmsg.specs.Ends.{HasServedAll}
use Rattle.sysvmsg.specs.Scripts.{AnswersScript}

-- The words request the help or the version.
abbrev pub IsHelp : ErrorKind → Type 0
IsHelp kind = (kind ≡ DisplayHelp) ⊎ (kind ≡ DisplayVersion)

-- How words ask that faults are told: by a sentence if one before `--` is `--stderr`.
abbrev pub asked_by : List (List ℕ) → Telling
asked_by [] = Line
asked_by (word ∷ more) =
    if bytes_eq word (codes "--") then Line
    else if bytes_eq word (codes "--stderr") then Sentence else asked_by more

-- The line of a fault if memory is refused.
abbrev pub no_memory_line : List ℕ
no_memory_line = codes "sysvmsg: no memory" ++ 10 ∷ []

-- What the screen took of a text, which is this one if that is known: the text, or a prefix of it if the screen
-- failed; or the line of a fault, since memory was refused for the text.
abbrev pub ShowsText : Option (List ℕ) → (shown after : Option (List ℕ)) → Type 0
ShowsText known shown after =
    ((text : List ℕ) × IfSome known (λ bytes. text ≡ bytes) × AppendsPrefix shown after text)
    ⊎ AppendsPrefix shown after no_memory_line

-- What the screen took is some text. The parser of the words states no contract of its texts.
abbrev pub Grows : (shown after : Option (List ℕ)) → Type 0
Grows shown after = (text : List ℕ) × AppendsPrefix shown after text

-- What the screen took of why words are not valid, if faults are told like this.
abbrev pub TellsError : Telling → (shown after : Option (List ℕ)) → Type 0
TellsError Line shown after = Grows shown after
TellsError Both shown after = Grows shown after
TellsError Sentence shown after = (after ≡ shown) ⊎ AppendsPrefix shown after no_memory_line

-- What the screen took of an error of this kind in words, which may be the help or the version.
abbrev pub TellsRefused : Telling → ErrorKind → (shown after : Option (List ℕ)) → Type 0
TellsRefused telling kind shown after = (IsHelp kind × Grows shown after) ⊎ TellsError telling shown after

-- What the screen took of words that cannot be read, by the reason.
abbrev pub TellsNoWords : Surroundings → NoWords → (shown after : Option (List ℕ)) → Type 0
TellsNoWords around NoMemory shown after = AppendsPrefix shown after no_memory_line
TellsNoWords around NoText shown after = TellsError (told_by Line around) shown after

-- How a task is run where faults are told like this.
abbrev pub how_in : How → Surroundings → How
how_in how around = record how { telling = told_by how.telling around }

module _ {P R W : Type 0} (remaining : R → Option (List ℕ)) (contents : W → Option (List ℕ))
    (incoming outgoing : P → List ℕ → Option (List ℕ)) (Refuses : P → List ℕ → Error → Type 0)
    (around : Surroundings) (place : P) (synced : Option (List ℕ)) where
  -- A client ran this task with these credentials at this path, over at most one connection.
  abbrev pub RunsClient : (path : List ℕ) → Cred → Task → How → ExitCode → (fed shown after : Option (List ℕ)) →
      Contact P (Link R W) → Type 0
  RunsClient path cred task how exit fed shown after contact =
      (unfed : Option (List ℕ))
      × Visited (Refuses place path) place
      (λ refused. IsUnmade (way_by cred task how) how exit refused fed unfed shown after)
      (λ link. IsDone (way_by cred task how) cred task how exit (incoming place path) (left_by remaining link)
      (outgoing place path) (taken_by contents link) fed unfed shown after) contact

  -- The state of the server at this path was shown, over at most one connection.
  abbrev pub ShowsState : (path : List ℕ) → Telling → (json : Bool) → ExitCode → (shown after : Option (List ℕ)) →
      Contact P (Link R W) → Type 0
  ShowsState path telling json exit shown after contact =
      Visited (Refuses place path) place (λ refused. Fails exit × TellsUnmade telling refused shown after)
      (λ link. HasLooked telling json exit (incoming place path) (left_by remaining link) (outgoing place path)
      (taken_by contents link) shown after) contact

  -- Queues of the server at this path were saved, over at most one connection.
  abbrev pub SavesQueues : (path : List ℕ) → ASave → ExitCode → (shown after : Option (List ℕ)) →
      Contact P (Link R W) → Type 0
  SavesQueues path saving exit shown after contact =
      Visited (Refuses place path) place (λ _. Fails exit × (after ≡ shown))
      (λ link. Saves saving exit (incoming place path) (left_by remaining link) (outgoing place path)
      (taken_by contents link) shown after synced) contact

  -- The input was loaded into the server at this path, over at most one connection. Nothing is on the screen.
  abbrev pub LoadsQueues : (path : List ℕ) → Load → ExitCode → (fed shown after : Option (List ℕ)) →
      Contact P (Link R W) → Type 0
  LoadsQueues path loading exit fed shown after contact =
      (unfed : Option (List ℕ)) × (after ≡ shown)
      × Visited (Refuses place path) place (λ _. Fails exit × (unfed ≡ fed))
      (λ link. Loads loading exit (incoming place path) (left_by remaining link) (outgoing place path)
      (taken_by contents link) fed unfed) contact

  -- What is asked for was done. A client states the credentials of its words, and for the others those
  -- that its surroundings have for them.
  abbrev pub Answers : Requested → ExitCode → (fed shown after : Option (List ℕ)) → Contact P (Link R W) → Type 0
  Answers Script exit fed shown after contact = (contact ≡ Unused place)
      × ((text : List ℕ) → fed ≡ Some text → (left : Option (List ℕ)) × AnswersScript exit text shown after left)
  Answers (Serve serving) exit fed shown after contact = (contact ≡ Unused place)
      × HasServedAll around.open_files serving.until_eof serving.terms (callers_let_in serving) exit shown after
  Answers (Look looking) exit fed shown after contact =
      ShowsState looking.path.now (told_by looking.telling around) looking.json exit shown after contact
  Answers (Save who saving) exit fed shown after contact =
      SavesQueues saving.path.now (saving_of (stated_by who around) saving) exit shown after contact
  Answers (ToLoad who loading) exit fed shown after contact =
      LoadsQueues loading.path.now (loading_of (stated_by who around) loading) exit fed shown after contact
  Answers (Client path who task how) exit fed shown after contact =
      RunsClient path.now (stated_by who around) task (how_in how around) exit fed shown after contact

  -- These words were refused by an error, and nothing was done but to tell it. The program fails then, unless
  -- they request the help or the version.
  abbrev pub RefusesWords : List (List ℕ) → ExitCode → (shown after : Option (List ℕ)) → Contact P (Link R W) → Type 0
  RefusesWords words exit shown after contact = (error : CommandError) × AreRefused words error
      × (Succeeds exit → IsHelp (kind_of error)) × (contact ≡ Unused place)
      × TellsRefused (told_by (asked_by words) around) (kind_of error) shown after

  -- What these words mean was done; or they were found to mean nothing, or memory was refused.
  abbrev pub AnswersWords : List (List ℕ) → ExitCode → (fed shown after : Option (List ℕ)) →
      Contact P (Link R W) → Type 0
  AnswersWords words exit fed shown after contact =
      ((asked : Requested) × IsMeant words asked × Answers asked exit fed shown after contact)
      ⊎ RefusesWords words exit shown after contact

  -- Either that, for words that can be read; or the words cannot be read, and the program failed and did
  -- nothing but to tell that.
  abbrev pub AnswersTold : (Told → Type 0) → ExitCode → (fed shown after : Option (List ℕ)) →
      Contact P (Link R W) → Type 0
  AnswersTold Tells exit fed shown after contact =
      ((words : List (List ℕ)) × Tells (Words words) × AnswersWords words exit fed shown after contact)
      ⊎ ((why : NoWords) × Tells (Unread why) × Fails exit × (contact ≡ Unused place)
      × TellsNoWords around why shown after)

module _ {P R W : Type 0} (remaining : R → Option (List ℕ)) (contents : W → Option (List ℕ))
    (incoming outgoing : P → List ℕ → Option (List ℕ)) (Refuses : P → List ℕ → Error → Type 0) where
  -- The program ran in a process, which learned its words and its surroundings from the system. `Tells` is
  -- what the system may tell it.
  abbrev pub EndsIn : (Told → Type 0) → P → ExitCode → (fed shown after synced : Option (List ℕ)) → Type 0
  EndsIn Tells place exit fed shown after synced =
      (around : Surroundings) × AreTold Tells around × (contact : Contact P (Link R W))
      × AnswersTold remaining contents incoming outgoing Refuses around place synced Tells exit fed shown after contact
