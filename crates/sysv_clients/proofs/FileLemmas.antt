-- A save writes a file of the queues that it was given.
use Rattle.std.proofs.Common.{◌≡◌, ◌≢◌, ◌≤◌, ◌∙◌, ℕ, zero, suc, ℤ, List, [], ◌∷◌, ◌++◌, flat_map, Option}
use Rattle.std.proofs.Common.{None, Some, Result, Ok, Err, min, inl, inr, refl, sym, ap, subst, append_assoc, fold}
use Rattle.std.proofs.Common.{false, true}
use Rattle.std.proofs.lemmas.Bool.{cases_lt}
use Rattle.std.proofs.lemmas.List.Sums.{fold-append}
use Rattle.std.specs.Prelude.{⊤, slice_get}
use Rattle.std.specs.List.{AllByRecursion}
use Rattle.std.specs.Int.{w32}
use Rattle.std.specs.Int.RustNames.{FitsSigned}
use Rattle.std.specs.Io.KnownBytes.{Appends}
use Rattle.sysv_clients.specs.declared.fault.ClientFault.TheVariants as fault
use Rattle.sysv_clients.specs.declared.holding.Unheld.{Unheld}
use Rattle.sysv_clients.specs.declared.holding.Unheld.TheVariants.{Fault, Screen, Undone}
use Rattle.sysv_clients.specs.declared.saving.Saving.{Saving}
use Rattle.sysv_clients.specs.declared.saving.Stage.{Stage}
use Rattle.sysv_clients.specs.declared.saving.Step.{Step}
use Rattle.sysv_clients.specs.declared.saving.Step.TheVariants as step
use Rattle.sysv_clients.specs.Asks.{flags_to_receive, row_asks}
use Rattle.sysv_clients.specs.Calls.{Call, FollowsPlan}
use Rattle.sysv_clients.specs.Clearing.{id_of_row}
use Rattle.sysv_clients.specs.Copies.{Message, objects_of}
use Rattle.sysv_clients.specs.Dialogue.{slots_after}
use Rattle.sysv_clients.specs.Object.{object_line}
use Rattle.sysv_clients.specs.Restored.{AreKept, AreOfServer, HasMessage, HasNothing, HasQueue, HasScreen, Opens, Part}
use Rattle.sysv_clients.specs.Restored.{RestoresSaved, SavesFile, file_of, first_messages, kept_text, part_of, parts_of}
use Rattle.sysv_clients.specs.Restored.{queues_in, queues_of}
use Rattle.sysv_clients.specs.Saved.{format_line, queue_text}
use Rattle.sysv_clients.specs.Saving.{EndsSave, IsTried, after_find, after_hold, after_row, after_stat, ask_next, begin}
use Rattle.sysv_clients.specs.Saving.{begun, first_ask, key_ask, move, moved, saved_text, saving_plan, text_of_call}
use Rattle.sysv_clients.proofs.RestoreLemmas.{restores_text}
use Rattle.sysv_clients.proofs.RowLemmas.{row_at, row_past}
use Rattle.sysv_model.specs.declared.attributes.Stat.{Stat as Attributes}
use Rattle.sysv_model.specs.declared.errno.Errno.{Errno}
use Rattle.sysv_model.specs.declared.flags.Flags.{Flags}
use Rattle.sysv_model.specs.declared.limits.TheConstants.{MESSAGE_BYTES}
use Rattle.sysv_wire.specs.declared.frame.TheConstants.{MAX_MODE}
use Rattle.sysv_wire.specs.declared.frame.Version.TheVariants.{Three}
use Rattle.sysv_wire.specs.declared.reply.ReplyContent.{ReplyContent}
use Rattle.sysv_wire.specs.declared.reply.ReplyContent.TheVariants as content
use Rattle.sysv_wire.specs.declared.request.Ask.{Ask}
use Rattle.sysv_wire.specs.declared.request.Ask.TheVariants.{Hello, Get, Snd, Rcv, Stat, Set, Rm, Row, Hold, Done, Back}
use Rattle.sysv_wire.specs.Frames.{op_number}
use Rattle.sysv_wire.specs.Replies.{FitsContent, FitsStat, IsAnswer}
use Rattle.sysv_wire.specs.Requests.{op_of}

-- ---- the text of the parts

abbrev part_text : Part → List ℕ
part_text Opens = format_line
part_text HasNothing = []
part_text (HasQueue id stat) = queue_text id stat
part_text (HasMessage message) = object_line message.mtype message.body

stat_is : (id : ℤ) (answer : ReplyContent) (given : List ℕ)
    → text_of_call (Stat id) answer given ≡ part_text (part_of (Stat id) answer given)
stat_is id (content.Stat stat) given = refl
stat_is id answer given = refl

hold_is : (id : ℤ) (size : ℕ) (mtype : ℤ) (flags : Flags) (seconds : ℕ) (answer : ReplyContent) (given : List ℕ)
    → text_of_call (Hold id size mtype flags seconds) answer given
    ≡ part_text (part_of (Hold id size mtype flags seconds) answer given)
hold_is id size mtype flags seconds (content.Hold held) given = refl
hold_is id size mtype flags seconds answer given = refl

part_is : (ask : Ask) (answer : ReplyContent) (given : List ℕ)
    → text_of_call ask answer given ≡ part_text (part_of ask answer given)
part_is (Hello cred) answer given = refl
part_is (Stat id) answer given = stat_is id answer given
part_is (Hold id size mtype flags seconds) answer given = hold_is id size mtype flags seconds answer given
part_is (Get name flags) answer given = refl
part_is (Snd id mtype flags) answer given = refl
part_is (Rcv id size mtype flags) answer given = refl
part_is (Set id to) answer given = refl
part_is (Rm id) answer given = refl
part_is (Row slot) answer given = refl
part_is Done answer given = refl
part_is Back answer given = refl

text_is : (calls : List Call) → saved_text calls ≡ flat_map part_text (parts_of calls)
text_is [] = refl
text_is (call ∷ more) =
    ap (λ (l : List ℕ). l ++ saved_text more) (part_is call.ask call.answer call.given)
    ∙ ap (λ (l : List ℕ). part_text (part_of call.ask call.answer call.given) ++ l) (text_is more)

-- Parts after the first, which opens the file.
abbrev AreLater : List Part → Type 0
AreLater [] = ⊤
AreLater (Opens ∷ more) = ⊥
AreLater (HasNothing ∷ more) = AreLater more
AreLater (HasQueue id stat ∷ more) = AreLater more
AreLater (HasMessage message ∷ more) = AreLater more

grouped : (parts : List Part) → AreLater parts
    → flat_map part_text parts ≡ objects_of (first_messages parts) ++ flat_map kept_text (queues_in parts)
grouped [] later = refl
grouped (Opens ∷ more) later = absurd later
grouped (HasNothing ∷ more) later = grouped more later
grouped (HasQueue id stat ∷ more) later =
    ap (λ (l : List ℕ). queue_text id stat ++ l) (grouped more later)
    ∙ sym (append_assoc (queue_text id stat) (objects_of (first_messages more)) (flat_map kept_text (queues_in more)))
grouped (HasMessage message ∷ more) later =
    ap (λ (l : List ℕ). object_line message.mtype message.body ++ l) (grouped more later)
    ∙ sym (append_assoc (object_line message.mtype message.body) (objects_of (first_messages more))
    (flat_map kept_text (queues_in more)))

-- ---- what the plan of a save leads to

-- A queue in a part has an identifier of 32 bits, and attributes that a reply may have.
abbrev HasFit : Part → Type 0
HasFit Opens = ⊤
HasFit HasNothing = ⊤
HasFit (HasQueue id stat) = FitsSigned w32 id × FitsStat stat × (stat.perm.mode ≤ MAX_MODE)
HasFit (HasMessage message) = ⊤

-- The identifier of the step has 32 bits, if its attributes are next.
abbrev IsStepFit : Step → Type 0
IsStepFit (step.Find key) = ⊤
IsStepFit step.Row = ⊤
IsStepFit (step.Stat id) = FitsSigned w32 id
IsStepFit (step.Hold id) = ⊤
IsStepFit (step.Done id) = ⊤

-- No message comes before a queue, unless one is held.
abbrev BeginsWell : Step → List Part → Type 0
BeginsWell (step.Find key) parts = first_messages parts ≡ []
BeginsWell step.Row parts = first_messages parts ≡ []
BeginsWell (step.Stat id) parts = first_messages parts ≡ []
BeginsWell (step.Hold id) parts = ⊤
BeginsWell (step.Done id) parts = ⊤

-- What follows a step.
record Follows (s : Step) (parts : List Part) : Type 0 where
  later : AreLater parts
  begins : BeginsWell s parts
  fits : AllByRecursion HasFit parts

nothing_follows : (s : Step) → Follows s []
nothing_follows (step.Find key) = record { later = tt; begins = refl; fits = tt }
nothing_follows step.Row = record { later = tt; begins = refl; fits = tt }
nothing_follows (step.Stat id) = record { later = tt; begins = refl; fits = tt }
nothing_follows (step.Hold id) = record { later = tt; begins = tt; fits = tt }
nothing_follows (step.Done id) = record { later = tt; begins = tt; fits = tt }

-- A part without anything.
passes : (s t : Step) (parts : List Part) → (BeginsWell t parts → BeginsWell s (HasNothing ∷ parts)) → Follows t parts
    → Follows s (HasNothing ∷ parts)
passes s t parts leads rest = record { later = rest.later; begins = leads rest.begins; fits = (tt, rest.fits) }

same_ask : (a b : Ask) → (let x : Option Ask = Some a in let y : Option Ask = Some b in x ≡ y) → a ≡ b
same_ask a b same = cc same

no_ask : (P : Type 0) (a : Ask) → (let x : Option Ask = None in let y : Option Ask = Some a in x ≡ y) → P
no_ask P a same = absurd (cc same)

-- The part of a request, if it is this one.
part_at : (s : Step) (ask own : Ask) (answer : ReplyContent) (given : List ℕ) (parts : List Part) → own ≡ ask
    → Follows s (part_of own answer given ∷ parts) → Follows s (part_of ask answer given ∷ parts)
part_at s ask own answer given parts same rest =
    subst (λ (a : Ask). Follows s (part_of a answer given ∷ parts)) same rest

row_ask : (slots slot : ℕ) (ask : Ask) → slice_get (row_asks slots) slot ≡ Some ask → Row slot ≡ ask
row_ask slots slot ask is = elim (cases_lt slot (min slots 32768)) [
  | inl within ↦ same_ask (Row slot) ask (sym (row_at (min slots 32768) slots slot refl within) ∙ is)
  | inr behind ↦ no_ask _ ask (sym (row_past (min slots 32768) slots slot refl behind) ∙ is)
]

-- After a row.
row_begins : (found : Option ℤ) (parts : List Part) → BeginsWell (after_row found) parts → first_messages parts ≡ []
row_begins None parts begins = begins
row_begins (Some id) parts begins = begins

row_fits : (answer : ReplyContent) → FitsContent answer → IsStepFit (after_row (id_of_row answer))
row_fits (content.Row (Some row)) fits = fits.id
row_fits (content.Row None) fits = tt
row_fits (content.Refused why) fits = tt
row_fits content.Hello fits = tt
row_fits (content.HelloSlots slots) fits = tt
row_fits (content.Get id) fits = tt
row_fits content.Snd fits = tt
row_fits (content.Rcv mtype) fits = tt
row_fits (content.Stat stat) fits = tt
row_fits content.Set fits = tt
row_fits content.Rm fits = tt
row_fits content.Done fits = tt
row_fits content.Back fits = tt
row_fits (content.Hold mtype) fits = tt

tried_fits : (call : Call) → IsTried call → FitsContent call.answer
tried_fits call (inl done) = done.fits.1
tried_fits call (inr refused) =
    subst FitsContent (sym refused.3) tt

-- After the attributes of a queue.
stat_follows : (id : ℤ) (answer : ReplyContent) (given : List ℕ) (parts : List Part) → FitsSigned w32 id
    → ((stat : Attributes) → answer ≡ content.Stat stat → FitsStat stat × (stat.perm.mode ≤ MAX_MODE))
    → Follows (after_stat id answer) parts → Follows (step.Stat id) (part_of (Stat id) answer given ∷ parts)
stat_follows id (content.Stat stat) given parts small fits rest =
    let both = fits stat refl in
    record { later = rest.later; begins = refl; fits = ((small, both.0, both.1), rest.fits) }
stat_follows id (content.Refused why) given parts small fits rest = passes (step.Stat id) step.Row parts (λ b. b) rest
stat_follows id (content.Row row) given parts small fits rest = passes (step.Stat id) step.Row parts (λ b. b) rest
stat_follows id content.Hello given parts small fits rest = passes (step.Stat id) step.Row parts (λ b. b) rest
stat_follows id (content.HelloSlots slots) given parts small fits rest =
    passes (step.Stat id) step.Row parts (λ b. b) rest
stat_follows id (content.Get got) given parts small fits rest = passes (step.Stat id) step.Row parts (λ b. b) rest
stat_follows id content.Snd given parts small fits rest = passes (step.Stat id) step.Row parts (λ b. b) rest
stat_follows id (content.Rcv mtype) given parts small fits rest = passes (step.Stat id) step.Row parts (λ b. b) rest
stat_follows id content.Set given parts small fits rest = passes (step.Stat id) step.Row parts (λ b. b) rest
stat_follows id content.Rm given parts small fits rest = passes (step.Stat id) step.Row parts (λ b. b) rest
stat_follows id content.Done given parts small fits rest = passes (step.Stat id) step.Row parts (λ b. b) rest
stat_follows id content.Back given parts small fits rest = passes (step.Stat id) step.Row parts (λ b. b) rest
stat_follows id (content.Hold mtype) given parts small fits rest = passes (step.Stat id) step.Row parts (λ b. b) rest

tried_stat : (call : Call) → IsTried call → (stat : Attributes) → call.answer ≡ content.Stat stat
    → FitsStat stat × (stat.perm.mode ≤ MAX_MODE)
tried_stat call (inl done) stat is =
    (subst FitsContent is done.fits.1, (fits_mode call.answer stat is done.fits.0).1)
  where
    fits_mode : (answer : ReplyContent) (stat : Attributes) → answer ≡ content.Stat stat
        → IsAnswer Three (op_number (op_of call.ask)) answer
        → IsAnswer Three (op_number (op_of call.ask)) (content.Stat stat)
    fits_mode answer stat is fits = subst (IsAnswer Three (op_number (op_of call.ask))) is fits
tried_stat call (inr refused) stat is = not_refused _ refused.1 stat (sym refused.3 ∙ is)
  where
    not_refused : (P : Type 0) (why : Errno) (stat : Attributes) → content.Refused why ≡ content.Stat stat → P
    not_refused P why stat same = absurd (cc same)

-- After a hold.
hold_follows : (id : ℤ) (size : ℕ) (mtype : ℤ) (flags : Flags) (seconds : ℕ) (answer : ReplyContent) (given : List ℕ)
    (parts : List Part) → Follows (after_hold id answer) parts
    → Follows (step.Hold id) (part_of (Hold id size mtype flags seconds) answer given ∷ parts)
hold_follows id size mtype flags seconds (content.Hold held) given parts rest =
    record { later = rest.later; begins = tt; fits = (tt, rest.fits) }
hold_follows id size mtype flags seconds answer given parts rest =
    record { later = rest.later; begins = tt; fits = (tt, rest.fits) }

stat_fit : (id : ℤ) (answer : ReplyContent) → IsStepFit (after_stat id answer)
stat_fit id (content.Stat stat) = tt
stat_fit id answer = tt

hold_fit : (id : ℤ) (answer : ReplyContent) → IsStepFit (after_hold id answer)
hold_fit id (content.Hold held) = tt
hold_fit id answer = tt

-- After the search for a queue.
find_begins : (answer : ReplyContent) (parts : List Part) → BeginsWell (after_find answer) parts
    → first_messages parts ≡ []
find_begins (content.Get id) parts begins = begins
find_begins (content.Row row) parts begins = begins
find_begins (content.Refused why) parts begins = begins
find_begins content.Hello parts begins = begins
find_begins (content.HelloSlots slots) parts begins = begins
find_begins content.Snd parts begins = begins
find_begins (content.Rcv mtype) parts begins = begins
find_begins (content.Stat stat) parts begins = begins
find_begins content.Set parts begins = begins
find_begins content.Rm parts begins = begins
find_begins content.Done parts begins = begins
find_begins content.Back parts begins = begins
find_begins (content.Hold mtype) parts begins = begins

find_fits : (answer : ReplyContent) → FitsContent answer → IsStepFit (after_find answer)
find_fits (content.Get id) fits = fits
find_fits (content.Row row) fits = tt
find_fits (content.Refused why) fits = tt
find_fits content.Hello fits = tt
find_fits (content.HelloSlots slots) fits = tt
find_fits content.Snd fits = tt
find_fits (content.Rcv mtype) fits = tt
find_fits (content.Stat stat) fits = tt
find_fits content.Set fits = tt
find_fits content.Rm fits = tt
find_fits content.Done fits = tt
find_fits content.Back fits = tt
find_fits (content.Hold mtype) fits = tt

-- One more call.
one_more : (saving : Saving) (slots slot owed : ℕ) (s : Step) (call : Call) (parts : List Part) → IsStepFit s
    → ask_next saving slots slot owed s ≡ Some call.ask → IsTried call
    → Follows (move slots slot owed s call.answer).step parts
    → Follows s (part_of call.ask call.answer call.given ∷ parts)
one_more saving slots slot owed (step.Find key) call parts fit asked tried rest =
    part_at (step.Find key) call.ask (key_ask key) call.answer call.given parts
    (same_ask (key_ask key) call.ask asked)
    (passes (step.Find key) (after_find call.answer) parts (find_begins call.answer parts) rest)
one_more saving slots slot owed step.Row call parts fit asked tried rest =
    part_at step.Row call.ask (Row slot) call.answer call.given parts (row_ask slots slot call.ask asked)
    (passes step.Row (after_row (id_of_row call.answer)) parts (row_begins (id_of_row call.answer) parts) rest)
one_more saving slots slot owed (step.Stat id) call parts fit asked tried rest =
    part_at (step.Stat id) call.ask (Stat id) call.answer call.given parts (same_ask (Stat id) call.ask asked)
    (stat_follows id call.answer call.given parts fit (tried_stat call tried) rest)
one_more saving slots slot zero (step.Hold id) call parts fit asked tried rest = no_ask _ call.ask asked
one_more saving slots slot (suc owed) (step.Hold id) call parts fit asked tried rest =
    part_at (step.Hold id) call.ask (first_ask saving id) call.answer call.given parts
    (same_ask (first_ask saving id) call.ask asked)
    (hold_follows id MESSAGE_BYTES saving.mtype (flags_to_receive true false saving.except) 0 call.answer call.given
    parts rest)
one_more saving slots slot owed (step.Done id) call parts fit asked tried rest =
    part_at (step.Done id) call.ask Done call.answer call.given parts (same_ask Done call.ask asked)
    (passes (step.Done id) (step.Hold id) parts (λ b. tt) rest)

fit_next : (slots slot owed : ℕ) (s : Step) (call : Call) → IsTried call
    → IsStepFit (move slots slot owed s call.answer).step
fit_next slots slot owed (step.Find key) call tried = find_fits call.answer (tried_fits call tried)
fit_next slots slot owed step.Row call tried = row_fits call.answer (tried_fits call tried)
fit_next slots slot owed (step.Stat id) call tried = stat_fit id call.answer
fit_next slots slot owed (step.Hold id) call tried = hold_fit id call.answer
fit_next slots slot owed (step.Done id) call tried = tt

-- Where a save is after these calls.
abbrev state : Saving → Call → List Call → Stage
state saving first before =
    fold (λ (stage : Stage) (call : Call). moved stage call.answer) (begun saving first.answer) before

follows_plan : (saving : Saving) (first : Call) (before calls : List Call) → IsStepFit (state saving first before).step
    → FollowsPlan IsTried (saving_plan saving) (first ∷ before) calls
    → Follows (state saving first before).step (parts_of calls)
follows_plan saving first before [] fit plan = nothing_follows (state saving first before).step
follows_plan saving first before (call ∷ more) fit (asked, tried, rest) =
    let s = state saving first before in
    let next : state saving first (before ++ call ∷ []) ≡ moved s call.answer =
    fold-append (λ (stage : Stage) (one : Call). moved stage one.answer) (begun saving first.answer) before
    (call ∷ []) in
    let later = follows_plan saving first (before ++ call ∷ []) more
    (subst (λ (x : Stage). IsStepFit x.step) (sym next) (fit_next s.slots s.slot s.owed s.step call tried)) rest in
    one_more saving s.slots s.slot s.owed s.step call (parts_of more) fit asked tried
    (subst (λ (x : Stage). Follows x.step (parts_of more)) next later)

-- ---- the file

-- What follows the hello.
fit_at : (key : Option ℤ) (slots : ℕ) → IsStepFit (begin key slots).step
fit_at (Some key) slots = tt
fit_at None slots = tt

fit_first : (saving : Saving) (first : Call) → IsStepFit (state saving first []).step
fit_first saving first = fit_at saving.key (slots_after 0 first.answer)

begins_at : (key : Option ℤ) (slots : ℕ) (parts : List Part) → Follows (begin key slots).step parts
    → Follows step.Row parts
begins_at (Some key) slots parts follows =
    record { later = follows.later; begins = follows.begins; fits = follows.fits }
begins_at None slots parts follows = follows

begins_with : (saving : Saving) (first : Call) (more : List Call)
    → Follows (state saving first []).step (parts_of more) → Follows step.Row (parts_of more)
begins_with saving first more follows = begins_at saving.key (slots_after 0 first.answer) (parts_of more) follows

after_hello : (saving : Saving) (first : Call) (more : List Call)
    → FollowsPlan IsTried (saving_plan saving) [] (first ∷ more) → Follows step.Row (parts_of more)
after_hello saving first more (asked, tried, rest) =
    begins_with saving first more (follows_plan saving first [] more (fit_first saving first) rest)

queues_after : (saving : Saving) (first : Call) (more : List Call)
    → FollowsPlan IsTried (saving_plan saving) [] (first ∷ more)
    → queues_of (first ∷ more) ≡ queues_in (parts_of more)
queues_after saving first more (asked, tried, rest) =
    ap (λ (a : Ask). queues_in (part_of a first.answer first.given ∷ parts_of more))
    (sym (same_ask (Hello saving.cred) first.ask asked))

file_is : (saving : Saving) (first : Call) (more : List Call)
    → FollowsPlan IsTried (saving_plan saving) [] (first ∷ more)
    → saved_text (first ∷ more) ≡ file_of (queues_of (first ∷ more))
file_is saving first more plan =
    let follows = after_hello saving first more plan in
    let queues = queues_in (parts_of more) in
    ap (λ (a : Ask). text_of_call a first.answer first.given ++ saved_text more)
    (sym (same_ask (Hello saving.cred) first.ask plan.0))
    ∙ ap (λ (l : List ℕ). format_line ++ l) (text_is more ∙ grouped (parts_of more) follows.later
    ∙ ap (λ (m : List Message). objects_of m ++ flat_map kept_text queues) follows.begins)
    ∙ ap file_of (sym (queues_after saving first more plan))

-- The screen has all text.
has_text : (saving : Saving) (ended : Result ⊤ Unheld) (calls : List Call)
    (left rest taken more shown after : Option (List ℕ)) → HasScreen ended
    → EndsSave saving ended calls left rest taken more shown after → Appends shown after (saved_text calls)
has_text saving (Ok done) calls left rest taken more shown after screen ends = ends.3
has_text saving (Err (Screen unshown)) calls left rest taken more shown after screen ends = absurd screen
has_text saving (Err (Undone why)) calls left rest taken more shown after screen ends = ends.1.1
has_text saving (Err (Fault (fault.Refused error))) calls left rest taken more shown after screen ends = ends.1
has_text saving (Err (Fault fault.NoReply)) calls left rest taken more shown after screen ends = ends.1
has_text saving (Err (Fault fault.NoMemory)) calls left rest taken more shown after screen ends = ends.2

file_of_calls : (saving : Saving) (calls : List Call) → calls ≢ []
    → FollowsPlan IsTried (saving_plan saving) [] calls → saved_text calls ≡ file_of (queues_of calls)
file_of_calls saving [] some plan = absurd (some refl)
file_of_calls saving (first ∷ more) some plan = file_is saving first more plan

pub saves_file : SavesFile
saves_file saving ended left rest taken more bytes before reported save screen some =
    has_text saving ended save.calls save.unread rest save.written more (Some []) (Some bytes) screen save.ends
    ∙ file_of_calls saving save.calls some save.made.follows

-- ---- the queues

served : (parts : List Part) → AllByRecursion HasFit parts → AreOfServer (queues_in parts) → AreKept (queues_in parts)
served [] fits given = tt
served (Opens ∷ more) fits given = served more fits.1 given
served (HasNothing ∷ more) fits given = served more fits.1 given
served (HasMessage message ∷ more) fits given = served more fits.1 given
served (HasQueue id stat ∷ more) fits given = (
  (record { least = given.0.0; most = fits.0.0; fits = fits.0.1; nine = fits.0.2 }, given.0.1),
  served more fits.1 given.1,
)

are_kept : (saving : Saving) (calls : List Call) → calls ≢ [] → FollowsPlan IsTried (saving_plan saving) [] calls
    → AreOfServer (queues_of calls) → AreKept (queues_of calls)
are_kept saving [] some plan given = absurd (some refl)
are_kept saving (first ∷ more) some plan given =
    let same = queues_after saving first more plan in
    subst AreKept (sym same)
    (served (parts_of more) (after_hello saving first more plan).fits (subst AreOfServer same given))

pub restores_saved : RestoresSaved
restores_saved saving saved left rest taken more bytes before reported save screen some given loading ended unheard
    unread
    untaken written unfed load from =
    restores_text (queues_of save.calls) bytes
    (saves_file saving saved left rest taken more bytes before reported save screen some)
    (are_kept saving save.calls some save.made.follows given) loading ended unheard unread untaken written unfed load
    from
