-- The requests of a load leave the queue that was saved.
use Rattle.std.proofs.Common.{◌≡◌, ◌≤◌, ◌∙◌, ◌&&◌, ◌||◌, ◌==◌, ℕ, ℤ, Bool, true, false, not, List, [], ◌∷◌, ◌++◌, map}
use Rattle.std.proofs.Common.{filter, fold, Option, None, Some, inl, inr, refl, sym, ap, ap₂, subst, arith, bit_or}
use Rattle.std.proofs.Common.{if◌then◌else◌}
use Rattle.std.proofs.lemmas.Bool.{and_parts, eqb-true, false≢true}
use Rattle.std.proofs.lemmas.List.Concat.{flat_map-append}
use Rattle.std.proofs.lemmas.List.Sums.{fold-append}
use Rattle.std.proofs.lemmas.Cmp.{int_eq_equiv}
use Rattle.std.specs.Ordering.{int_eq}
use Rattle.sysv_clients.specs.declared.loading.Loading.{Loading}
use Rattle.sysv_clients.specs.Copies.{Message as Copy}
use Rattle.sysv_clients.specs.Asks.{flags_to_make}
use Rattle.sysv_clients.specs.Loading.{MayLoad, plain, send_of}
use Rattle.sysv_clients.specs.Refilled.{AreCarriedOut, IsVacant, Refills, copy_of, only_reads}
use Rattle.sysv_clients.specs.Restored.{Kept, saved_of}
use Rattle.sysv_clients.specs.Sending.{Sent}
use Rattle.sysv_model.specs.declared.attributes.Attributes.{Attributes}
use Rattle.sysv_model.specs.declared.attributes.Perm.{Perm}
use Rattle.sysv_model.specs.declared.attributes.SetTo.{SetTo}
use Rattle.sysv_model.specs.declared.cred.Cred.{Cred}
use Rattle.sysv_model.specs.declared.flags.Flags.{Flags}
use Rattle.sysv_model.specs.declared.flags.TheConstants.Flags.{IPC_CREAT}
use Rattle.sysv_model.specs.History.{Call, Install, Probe, Look, Place, Take, ReadStat, Set, Remove, ReadRow, Reply}
use Rattle.sysv_model.specs.History.{Accepted, Done, Entry, History, Installed}
use Rattle.sysv_model.specs.Live.{changed_to, created, live_after, low_nine, sent_to}
use Rattle.sysv_model.specs.Message.{Message}
use Rattle.sysv_model.specs.Waiting.{accepted, accepted_by, delivered, delivered_by, discarded, discarded_by}
use Rattle.sysv_model.specs.Waiting.{has_number, waiting}
use Rattle.sysv_wire.specs.declared.request.Ask.TheVariants as ask

-- The live queue after these turns, if this one was live before.
abbrev live_from : Option Attributes → History → Option Attributes
live_from before turns = fold (λ (old : Option Attributes) (e : Entry). live_after old e.call e.reply) before turns

-- What some turns leave: this queue, to which this applies, and these messages, which they accepted.
record Leaves (id : ℤ) (before : Option Attributes) (turns : History) (Is : Attributes → Type 0)
    (messages : List Copy) : Type 0 where
  after : Attributes
  leaves : live_from before turns ≡ Some after
  is : Is after
  copies : map copy_of (accepted id turns) ≡ messages
  delivers : delivered id turns ≡ []
  discards : discarded id turns ≡ []

-- What one turn does.
record Does (id : ℤ) (before : Option Attributes) (call : Call) (reply : Reply) (after : Option Attributes)
    (messages : List Message) : Type 0 where
  leaves : live_after before call reply ≡ after
  accepts : accepted_by id call reply ≡ messages
  delivers : delivered_by id call reply ≡ []
  discards : discarded_by id call reply ≡ []

map_append : (first second : List Message) → map copy_of (first ++ second) ≡ map copy_of first ++ map copy_of second
map_append [] second = refl
map_append (one ∷ first) second = ap (λ (l : List Copy). copy_of one ∷ l) (map_append first second)

one_more : (id : ℤ) (before after : Option Attributes) (e : Entry) (rest : History) (Is : Attributes → Type 0)
    (own : List Message) (messages : List Copy) → Does id before e.call e.reply after own
    → Leaves id after rest Is messages → Leaves id before (e ∷ rest) Is (map copy_of own ++ messages)
one_more id before after e rest Is own messages does later = record {
  after = later.after;
  leaves = ap (λ (l : Option Attributes). live_from l rest) does.leaves ∙ later.leaves;
  is = later.is;
  copies = ap (λ (l : List Message). map copy_of (l ++ accepted id rest)) does.accepts
      ∙ map_append own (accepted id rest) ∙ ap (λ (l : List Copy). map copy_of own ++ l) later.copies;
  delivers = ap (λ (l : List Message). l ++ delivered id rest) does.delivers ∙ later.delivers;
  discards = ap (λ (l : List Message). l ++ discarded id rest) does.discards ∙ later.discards;
}

-- A turn that changes nothing.
reads : (id : ℤ) (before : Option Attributes) (call : Call) (reply : Reply) → only_reads call ≡ true
    → Does id before call reply before []
reads id before (Probe at cred flags) reply is =
    record { leaves = refl; accepts = refl; delivers = refl; discards = refl }
reads id before (Look at cred size) reply is =
    record { leaves = refl; accepts = refl; delivers = refl; discards = refl }
reads id before (ReadStat at cred) reply is =
    record { leaves = refl; accepts = refl; delivers = refl; discards = refl }
reads id before ReadRow reply is = record { leaves = refl; accepts = refl; delivers = refl; discards = refl }
reads id before (Install at name cred mode now) reply is = absurd (false≢true is)
reads id before (Place at cred mtype bytes now) reply is = absurd (false≢true is)
reads id before (Take at cred selector size noerror now) reply is = absurd (false≢true is)
reads id before (Set at cred to now) reply is = absurd (false≢true is)
reads id before (Remove at cred) reply is = absurd (false≢true is)

-- The turns of a load.
does_by : (id : ℤ) (before after : Option Attributes) (call own : Call) (reply gives : Reply) (messages : List Message)
    → call ≡ own → reply ≡ gives → Does id before own gives after messages → Does id before call reply after messages
does_by id before after call own reply gives messages same gave does =
    subst (λ (c : Call). Does id before c reply after messages) (sym same)
    (subst (λ (r : Reply). Does id before own r after messages) (sym gave) does)

installs : (id name : ℤ) (cred : Cred) (mode now : ℕ) (before : Option Attributes)
    → Does id before (Install id name cred mode now) (Installed true) (Some (created id name cred mode now)) []
installs id name cred mode now before = record { leaves = refl; accepts = refl; delivers = refl; discards = refl }

sets : (id : ℤ) (cred : Cred) (to : SetTo) (now : ℕ) (a : Attributes)
    → Does id (Some a) (Set id cred to now) Done (Some (changed_to to now a)) []
sets id cred to now a = record { leaves = refl; accepts = refl; delivers = refl; discards = refl }

same_int : (id : ℤ) → int_eq id id ≡ true
same_int id = int_eq_equiv.refl id

places : (id : ℤ) (cred : Cred) (mtype : ℤ) (bytes : List ℕ) (now number : ℕ) (a : Attributes)
    → Does id (Some a) (Place id cred mtype bytes now) (Accepted number) (Some (sent_to cred now a))
    (record { number = number; sender = cred.pid; mtype = mtype; bytes = bytes } ∷ [])
places id cred mtype bytes now number a =
    record {
      leaves = refl;
      accepts = ap (λ (b : Bool).
          if b then record { number = number; sender = cred.pid; mtype = mtype; bytes = bytes } ∷ [] else [])
          (same_int id);
      delivers = refl;
      discards = refl;
    }

-- The same queue, but for the times and the processes.
abbrev IsSame : Attributes → Attributes → Type 0
IsSame a b = (b.id ≡ a.id) × (b.key ≡ a.key) × (b.perm ≡ a.perm) × (b.qbytes ≡ a.qbytes)

abbrev sends : Loading → ℤ → List Copy → List Sent
sends loading id messages = map (λ (m : Copy). send_of loading id m.mtype m.body) messages

sends_leave : (loading : Loading) (id : ℤ) (a : Attributes) (messages : List Copy) (turns : History)
    → AreCarriedOut loading.cred id (sends loading id messages) turns
    → Leaves id (Some a) turns (IsSame a) messages
sends_leave loading id a [] [] carried = record {
  after = a;
  leaves = refl;
  is = (refl, refl, refl, refl);
  copies = refl;
  delivers = refl;
  discards = refl;
}
sends_leave loading id a [] (e ∷ rest) (quiet, carried) =
    one_more id (Some a) (Some a) e rest (IsSame a) [] [] (reads id (Some a) e.call e.reply quiet)
    (sends_leave loading id a [] rest carried)
sends_leave loading id a (message ∷ messages) [] carried = absurd carried
sends_leave loading id a (message ∷ messages) (e ∷ rest) (inl (quiet, carried)) =
    one_more id (Some a) (Some a) e rest (IsSame a) [] (message ∷ messages) (reads id (Some a) e.call e.reply quiet)
    (sends_leave loading id a (message ∷ messages) rest carried)
sends_leave loading id a (message ∷ messages) (e ∷ rest) (inr ((now, number, calls, gives), carried)) =
    let cred = loading.cred in
    let own : List Message =
    record { number = number; sender = cred.pid; mtype = message.mtype; bytes = message.body } ∷ [] in
    one_more id (Some a) (Some (sent_to cred now a)) e rest (IsSame a) own messages
    (does_by id (Some a) (Some (sent_to cred now a)) e.call (Place id cred message.mtype message.body now) e.reply
    (Accepted number) own calls gives (places id cred message.mtype message.body now number a))
    (sends_leave loading id (sent_to cred now a) messages rest carried)

set_leaves : (loading : Loading) (id : ℤ) (to : SetTo) (a : Attributes) (messages : List Copy) (turns : History)
    → AreCarriedOut loading.cred id (plain (ask.Set id to) ∷ sends loading id messages) turns
    → Leaves id (Some a) turns (IsSame (changed_to to 0 a)) messages
set_leaves loading id to a messages [] carried = absurd carried
set_leaves loading id to a messages (e ∷ rest) (inl (quiet, carried)) =
    one_more id (Some a) (Some a) e rest (IsSame (changed_to to 0 a)) [] messages
    (reads id (Some a) e.call e.reply quiet) (set_leaves loading id to a messages rest carried)
set_leaves loading id to a messages (e ∷ rest) (inr ((now, calls, gives), carried)) =
    one_more id (Some a) (Some (changed_to to now a)) e rest (IsSame (changed_to to 0 a)) [] messages
    (does_by id (Some a) (Some (changed_to to now a)) e.call (Set id loading.cred to now) e.reply Done [] calls gives
    (sets id loading.cred to now a))
    (sends_leave loading id (changed_to to now a) messages rest carried)

get_leaves : (loading : Loading) (id name : ℤ) (flags : Flags) (to : SetTo) (messages : List Copy) (turns : History)
    → AreCarriedOut loading.cred id (plain (ask.Get name flags) ∷ plain (ask.Set id to) ∷ sends loading id messages)
    turns
    → Leaves id None turns (IsSame (changed_to to 0 (created id name loading.cred flags.0 0))) messages
get_leaves loading id name flags to messages [] carried = absurd carried
get_leaves loading id name flags to messages (e ∷ rest) (inl (quiet, carried)) =
    one_more id None None e rest (IsSame (changed_to to 0 (created id name loading.cred flags.0 0))) [] messages
    (reads id None e.call e.reply quiet) (get_leaves loading id name flags to messages rest carried)
get_leaves loading id name flags to messages (e ∷ rest) (inr ((now, calls, gives), carried)) =
    let cred = loading.cred in
    one_more id None (Some (created id name cred flags.0 now)) e rest
    (IsSame (changed_to to 0 (created id name cred flags.0 0))) [] messages
    (does_by id None (Some (created id name cred flags.0 now)) e.call (Install id name cred flags.0 now) e.reply
    (Installed true) [] calls gives (installs id name cred flags.0 now None))
    (set_leaves loading id to (created id name cred flags.0 now) messages rest carried)

-- ---- what is queued

all_wait : (messages : List Message) → filter (λ (m : Message). not (has_number m.number [])) messages ≡ messages
all_wait [] = refl
all_wait (one ∷ more) = ap (λ (l : List Message). one ∷ l) (all_wait more)

waiting_is : (id : ℤ) (before turns : History) → IsVacant id before → delivered id turns ≡ []
    → discarded id turns ≡ [] → waiting id (before ++ turns) ≡ accepted id turns
waiting_is id before turns vacant delivers discards =
    let accepts : accepted id (before ++ turns) ≡ accepted id turns =
    flat_map-append (λ (e : Entry). accepted_by id e.call e.reply) before turns
    ∙ ap (λ (l : List Message). l ++ accepted id turns) vacant.accepts in
    let gives : delivered id (before ++ turns) ≡ [] =
    flat_map-append (λ (e : Entry). delivered_by id e.call e.reply) before turns
    ∙ ap₂ (λ (x y : List Message). x ++ y) vacant.delivers delivers in
    let drops : discarded id (before ++ turns) ≡ [] =
    flat_map-append (λ (e : Entry). discarded_by id e.call e.reply) before turns
    ∙ ap₂ (λ (x y : List Message). x ++ y) vacant.discards discards in
    ap₂ (λ (x y : List Message). filter (λ (m : Message). not (has_number m.number (x ++ y)))
    (accepted id (before ++ turns))) gives drops
    ∙ ap (λ (l : List Message). filter (λ (m : Message). not (has_number m.number [])) l) accepts
    ∙ all_wait (accepted id turns)

-- ---- a queue

own_creator : (loading : Loading) (kept : Kept) → loading.adopt ≡ false
    → MayLoad loading (saved_of kept.id kept.stat)
    → (kept.stat.perm.cuid ≡ loading.cred.uid) × (kept.stat.perm.cgid ≡ loading.cred.gid)
own_creator loading kept adopts may =
    let p = kept.stat.perm in
    let is : ((p.cuid == loading.cred.uid) && (p.cgid == loading.cred.gid)) ≡ true =
    sym (ap (λ (b : Bool). b || ((p.cuid == loading.cred.uid) && (p.cgid == loading.cred.gid))) adopts) ∙ may.1 in
    let parts = and_parts (p.cuid == loading.cred.uid) (p.cgid == loading.cred.gid) is in
    (eqb-true p.cuid loading.cred.uid parts.0, eqb-true p.cgid loading.cred.gid parts.1)

-- Rights with these values.
abbrev rights : (uid gid cuid cgid mode : ℕ) → Perm
rights uid gid cuid cgid mode = record { uid = uid; gid = gid; cuid = cuid; cgid = cgid; mode = mode }

low_mode : (mode : ℕ) → mode ≤ 511 → low_nine mode ≡ mode
low_mode mode nine = omega (arith, nine)

same_perm : (p : Perm) (cuid cgid mode : ℕ) (own : Perm) → own ≡ rights p.uid p.gid cuid cgid mode → mode ≡ p.mode
    → p.cuid ≡ cuid → p.cgid ≡ cgid → own ≡ p
same_perm p cuid cgid mode own is same one two =
    is ∙ ap (λ (m : ℕ). rights p.uid p.gid cuid cgid m) same
    ∙ ap (λ (c : ℕ). rights p.uid p.gid c cgid p.mode) (sym one)
    ∙ ap (λ (c : ℕ). rights p.uid p.gid p.cuid c p.mode) (sym two)

-- The flags of a msgget.
abbrev flags_in : Loading → Kept → Flags
flags_in loading kept =
    if loading.into then record { 0 = bit_or IPC_CREAT.0 kept.stat.perm.mode } else flags_to_make kept.stat.perm.mode

pub refills : Refills
refills loading id kept before turns is vacant carried =
    let p = kept.stat.perm in
    let to : SetTo = record { uid = p.uid; gid = p.gid; mode = p.mode; qbytes = kept.stat.qbytes } in
    let left = get_leaves loading id kept.stat.key (flags_in loading kept) to kept.messages turns carried in
    let mode = low_mode p.mode is.0.nine in
    record {
      queue = left.after;
      is_live = fold-append (λ (old : Option Attributes) (e : Entry). live_after old e.call e.reply) None before turns
          ∙ ap (λ (l : Option Attributes). live_from l turns) vacant.none ∙ left.leaves;
      has_id = left.is.0;
      has_key = left.is.1;
      owner = (ap (λ (q : Perm). q.uid) left.is.2, ap (λ (q : Perm). q.gid) left.is.2);
      mode = ap (λ (q : Perm). q.mode) left.is.2 ∙ mode;
      limit = left.is.3;
      creator = (ap (λ (q : Perm). q.cuid) left.is.2, ap (λ (q : Perm). q.cgid) left.is.2);
      same_creator = λ adopts may.
          let own = own_creator loading kept adopts may in
          same_perm p loading.cred.uid loading.cred.gid (low_nine p.mode) left.after.perm left.is.2 mode own.0 own.1;
      messages = ap (map copy_of) (waiting_is id before turns vacant left.delivers left.discards) ∙ left.copies;
    }
