-- An operation of a call and the turn that made it, among all turns; and the entry of that turn in
-- the history of its object.
use Rattle.std.proofs.Common.{◌≡◌, ℕ, Bool, true, false, cond, List, [], ◌∷◌, ◌++◌, refl, ap, subst, ◌∙◌, map}
use Rattle.std.specs.List.{filter}
use Rattle.std.proofs.lemmas.Grind.{flat_map-append}
use Rattle.std.proofs.lemmas.Bool.{eq-eqb}
use Rattle.sysv_model.specs.History.{Who, Call, Reply, Entry}
use Rattle.sysv_model.specs.Registry.{RegistryCall, RegistryReply}
use Rattle.sysv_model.specs.Turn.{Op, AtSlot, AtRegistry, Turn, slot_entry, registry_entry, slot_history}
use Rattle.sysv_model.specs.Turn.{registry_history, is_same, ops_of}
use Rattle.sysv_core.proofs.Histories.{turn_of}

-- The turn of that operation, with the operations of the call before it and after it.
pub record Made (who : Who) (turns : List Turn) (front : List Op) (op : Op) (later : List Op) : Type 0 where
  pub before : List Turn
  pub by : Who
  pub after : List Turn
  pub whole : turns ≡ before ++ turn_of by op ∷ after
  pub own : is_same who by ≡ true
  pub front_is : ops_of who before ≡ front
  pub later_is : ops_of who after ≡ later

-- The operations of a turn, if it is one of the call, and of later ones.
abbrev pub kept : Who → Bool → Turn → List Turn → List Op
kept who b t ts = map (λ (x : Turn). x.op)
    (cond b (t ∷ filter (λ (x : Turn). is_same who x.who) ts) (filter (λ (x : Turn). is_same who x.who) ts))

one_more : (who : Who) (t : Turn) (ts : List Turn) (front : List Op) (op : Op) (later : List Op) (b : Bool) →
    is_same who t.who ≡ b →
    Made who ts front op later → Made who (t ∷ ts) (cond b (t.op ∷ front) front) op later
one_more who t ts front op later b is m = record {
  before = t ∷ m.before;
  by = m.by;
  after = m.after;
  whole = ap (λ xs. t ∷ xs) m.whole;
  own = m.own;
  front_is = ap (λ c. kept who c t m.before) is ∙ still b;
  later_is = m.later_is;
}
  where
    still : (c : Bool) → kept who c t m.before ≡ cond c (t.op ∷ front) front
    still true = ap (λ ds. t.op ∷ ds) m.front_is
    still false = m.front_is

made_here : (who : Who) (t : Turn) (ts : List Turn) (b : Bool) → is_same who t.who ≡ b →
    ((front : List Op) (op : Op) (later : List Op) → ops_of who ts ≡ front ++ op ∷ later →
    Made who ts front op later) →
    (front : List Op) (op : Op) (later : List Op) → kept who b t ts ≡ front ++ op ∷ later →
    Made who (t ∷ ts) front op later
made_here who t ts true is rest [] op later e =
    let same : t.op ≡ op = cc in
    record {
      before = [];
      by = t.who;
      after = ts;
      whole = ap (λ d. turn_of t.who d ∷ ts) same;
      own = is;
      front_is = refl;
      later_is = cc;
    }
made_here who t ts true is rest (f ∷ front) op later e =
    let same : t.op ≡ f = cc in
    subst (λ ds. Made who (t ∷ ts) ds op later) (ap (λ d. d ∷ front) same)
    (one_more who t ts front op later true is (rest front op later cc))
made_here who t ts false is rest front op later e =
    one_more who t ts front op later false is (rest front op later e)

pub made_at : (who : Who) (turns : List Turn) (front : List Op) (op : Op) (later : List Op) →
    ops_of who turns ≡ front ++ op ∷ later → Made who turns front op later
made_at who [] [] op later e = absurd cc
made_at who [] (f ∷ front) op later e = absurd cc
made_at who (t ∷ ts) front op later e =
    made_here who t ts (is_same who t.who) refl (made_at who ts) front op later e

-- The history of a slot around one of its turns.
pub slot_around : (slot : ℕ) (before after : List Turn) (who : Who) (call : Call) (reply : Reply) →
    slot_history slot (before ++ turn_of who (AtSlot slot call reply) ∷ after)
    ≡ slot_history slot before ++ record { who = who; call = call; reply = reply } ∷ slot_history slot after
slot_around slot before after who call reply =
    let e : Entry = record { who = who; call = call; reply = reply } in
    flat_map-append (λ (x : Turn). slot_entry slot x.who x.op) before (turn_of who (AtSlot slot call reply) ∷ after)
    ∙ ap (λ b. slot_history slot before ++ (cond b (e ∷ []) [] ++ slot_history slot after)) (eq-eqb slot slot refl)

-- The history of the registry around one of its turns.
pub registry_around : (before after : List Turn) (who : Who) (call : RegistryCall) (reply : RegistryReply) →
    registry_history (before ++ turn_of who (AtRegistry call reply) ∷ after)
    ≡ registry_history before ++ record { who = who; call = call; reply = reply } ∷ registry_history after
registry_around before after who call reply =
    flat_map-append (λ (x : Turn). registry_entry x.who x.op) before (turn_of who (AtRegistry call reply) ∷ after)
