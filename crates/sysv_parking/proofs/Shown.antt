-- What looks at calls that still wait show stays true.
use Rattle.std.proofs.Common.{◌≡◌, ◌≢◌, ◌∙◌, ℕ, ℤ, ◌⊎◌, Option, None, Some, Bool, true, false, min, inl, inr}
use Rattle.std.proofs.Common.{sym, ap, subst, refl, arith}
use Rattle.std.specs.Prelude.{if◌then◌else◌, List, slice_index_or}
use Rattle.std.specs.Ordering.{int_eq}
use Rattle.std.proofs.lemmas.Bool.{cases_eq}
use Rattle.std.proofs.lemmas.Bool.Decides.{Decides-int_eq}
use Rattle.std.proofs.lemmas.List.{get_or-set_other}
use Rattle.sysv_model.specs.declared.selector.Selector.{Selector}
use Rattle.sysv_parking.specs.declared.barriers.Barriers.{Barriers}
use Rattle.sysv_parking.specs.declared.barriers.Shortage.{Shortage}
use Rattle.sysv_parking.specs.declared.due.Why.{Why}
use Rattle.sysv_parking.specs.declared.found.Found.{Found}
use Rattle.sysv_parking.specs.declared.found.Found.TheVariants as found
use Rattle.sysv_parking.specs.declared.key.Caller.{Caller}
use Rattle.sysv_parking.specs.declared.key.Key.{Key}
use Rattle.sysv_parking.specs.declared.key.Key.TheVariants.{Message, Room, Blocks, Settled}
use Rattle.sysv_parking.specs.Barriers.{IsGranted, IsLacking, learned, least_blocks, least_room}
use Rattle.sysv_parking.specs.Due.{IsGrantedAlike, NeedsNoMore, is_due, not_due}
use Rattle.sysv_parking.specs.Lines.{TakesDue}
use Rattle.sysv_parking.specs.Looks.{IsHeeded, IsStep, IsStop, StillWaits, WasLookedAt, WouldWait, known_after}
use Rattle.sysv_parking.specs.Parking.{Parking, key_at, why_at}

-- The call is a send of this caller.
abbrev pub IsSendOf : Caller → Key → Type 0
IsSendOf caller (Message one selector) = ⊥
IsSendOf caller (Room one length) = one ≡ caller
IsSendOf caller (Blocks one length) = one ≡ caller
IsSendOf caller Settled = ⊥

-- What is known was shown by calls that still wait.
pub record AreShown (W : Key → Type 0) (known : Barriers) : Type 0 where
  pub reads : (caller : Caller) → known.reads ≡ Some caller → (selector : Selector) × W (Message caller selector)
  pub writes : (caller : Caller) → known.writes ≡ Some caller → (key : Key) × W key × IsSendOf caller key
  pub room : (shortage : Shortage) → known.room ≡ Some shortage →
      (caller : Caller) × (caller.id ≡ shortage.id) × W (Room caller shortage.least)
  pub blocks : (least : ℕ) → known.blocks ≡ Some least → (caller : Caller) × W (Blocks caller least)

module _ (W : Key → Type 0) where
  -- Nothing is known at first.
  pub none_shown : (known : Barriers) → known ≡ record { reads = None; writes = None; room = None; blocks = None } →
      AreShown W known
  none_shown known is = record {
    reads = λ caller e. absurd (cc (ap (λ (b : Barriers). b.reads) is, e));
    writes = λ caller e. absurd (cc (ap (λ (b : Barriers). b.writes) is, e));
    room = λ shortage e. absurd (cc (ap (λ (b : Barriers). b.room) is, e));
    blocks = λ least e. absurd (cc (ap (λ (b : Barriers). b.blocks) is, e));
  }

  -- A send like this one still waits.
  alike : (caller : Caller) (key one : Key) → IsSendOf caller one → IsSendOf caller key → IsGrantedAlike one key
  alike caller (Message other s) (Message c t) a b = absurd a
  alike caller (Message other s) (Room c l) a b = absurd b
  alike caller (Message other s) (Blocks c l) a b = absurd b
  alike caller (Message other s) Settled a b = absurd b
  alike caller (Room other l) (Message c t) a b = absurd a
  alike caller (Room other l) (Room c m) a b = a ∙ sym b
  alike caller (Room other l) (Blocks c m) a b = a ∙ sym b
  alike caller (Room other l) Settled a b = absurd a
  alike caller (Blocks other l) (Message c t) a b = absurd a
  alike caller (Blocks other l) (Room c m) a b = a ∙ sym b
  alike caller (Blocks other l) (Blocks c m) a b = a ∙ sym b
  alike caller (Blocks other l) Settled a b = absurd a
  alike caller Settled (Message c t) a b = absurd a
  alike caller Settled (Room c m) a b = absurd b
  alike caller Settled (Blocks c m) a b = absurd b
  alike caller Settled Settled a b = absurd a

  -- Its queue grants a call that is granted.
  pub granted : (known : Barriers) (key : Key) → AreShown W known → IsGranted known key →
      (other : Key) × W other × IsGrantedAlike other key
  granted known (Message caller selector) shown is =
      let one = shown.reads caller is in (Message caller one.0, one.1, refl)
  granted known (Room caller length) shown is =
      let one = shown.writes caller is in (one.0, one.1, alike caller (Room caller length) one.0 one.2 refl)
  granted known (Blocks caller length) shown is =
      let one = shown.writes caller is in (one.0, one.1, alike caller (Blocks caller length) one.0 one.2 refl)
  granted known Settled shown is = absurd is

  pub lacking : (known : Barriers) (key : Key) → AreShown W known → IsLacking known key →
      (other : Key) × W other × NeedsNoMore other key
  lacking known (Message caller selector) shown is = absurd is
  lacking known (Room caller length) shown is =
      let one = shown.room is.0 is.1 in (Room one.0 is.0.least, one.2, (one.1 ∙ is.2, is.3))
  lacking known (Blocks caller length) shown is =
      let one = shown.blocks is.0 is.1 in (Blocks one.0 is.0, one.1, is.2)
  lacking known Settled shown is = absurd is

module _ {W V : Key → Type 0} (more : (key : Key) → W key → V key) where
  -- What was shown stays so.
  pub shown_more : (known : Barriers) → AreShown W known → AreShown V known
  shown_more known shown = record {
    reads = λ caller e. let one = shown.reads caller e in (one.0, more _ one.1);
    writes = λ caller e. let one = shown.writes caller e in (one.0, more _ one.1, one.2);
    room = λ shortage e. let one = shown.room shortage e in (one.0, one.1, more _ one.2);
    blocks = λ least e. let one = shown.blocks least e in (one.0, more _ one.1);
  }

-- One more was looked at and still waits.
least_of : (a b : ℕ) → (min a b ≡ a) ⊎ (min a b ≡ b)
least_of a b = grind arith

module _ (W : Key → Type 0) where
  -- The shortest frame for which there is no room.
  least_at : (shortage : Shortage) (id : ℤ) (length : ℕ) (b : Bool) → int_eq shortage.id id ≡ b →
      ((caller : Caller) × (caller.id ≡ shortage.id) × W (Room caller shortage.least)) →
      ((caller : Caller) × (caller.id ≡ id) × W (Room caller length)) →
      (caller : Caller) × (caller.id ≡ id) × W (Room caller (if b then min shortage.least length else length))
  least_at shortage id length true is was now =
      elim (least_of shortage.least length) [
        | inl e ↦ (
          was.0,
          was.1 ∙ (Decides-int_eq shortage.id id).0 is,
          subst (λ (n : ℕ). W (Room was.0 n)) (sym e) was.2,
        )
        | inr e ↦ (now.0, now.1, subst (λ (n : ℕ). W (Room now.0 n)) (sym e) now.2)
      ]
  least_at shortage id length false is was now = now

  room_shown : (known : Option Shortage) (id : ℤ) (length : ℕ) → ((shortage : Shortage) → known ≡ Some shortage →
      (caller : Caller) × (caller.id ≡ shortage.id) × W (Room caller shortage.least)) →
      ((caller : Caller) × (caller.id ≡ id) × W (Room caller length)) →
      (caller : Caller) × (caller.id ≡ id) × W (Room caller (least_room known id length))
  room_shown None id length shown now = now
  room_shown (Some shortage) id length shown now =
      least_at shortage id length (int_eq shortage.id id) refl (shown shortage refl) now

  blocks_shown : (known : Option ℕ) (length : ℕ) → ((least : ℕ) → known ≡ Some least →
      (caller : Caller) × W (Blocks caller least)) → ((caller : Caller) × W (Blocks caller length)) →
      (caller : Caller) × W (Blocks caller (least_blocks known length))
  blocks_shown None length shown now = now
  blocks_shown (Some least) length shown now =
      let was = shown least refl in
      elim (least_of least length) [
        | inl e ↦ (was.0, subst (λ (n : ℕ). W (Blocks was.0 n)) (sym e) was.1)
        | inr e ↦ (now.0, subst (λ (n : ℕ). W (Blocks now.0 n)) (sym e) now.1)
      ]

  -- One more call was looked at, and still waits.
  pub learned_shown : (key : Key) (known : Barriers) → W key → AreShown W known → AreShown W (learned key known)
  learned_shown (Message caller selector) known one shown = record {
    reads = λ other e. let same : caller ≡ other = cc in (
      selector,
      subst (λ (c : Caller). W (Message c selector)) same one,
    );
    writes = shown.writes;
    room = shown.room;
    blocks = shown.blocks;
  }
  learned_shown (Room caller length) known one shown = record {
    reads = shown.reads;
    writes = λ other e. let same : caller ≡ other = cc in (Room caller length, one, same);
    room = λ shortage e.
        let found = room_shown known.room caller.id length shown.room (caller, refl, one) in
        let same : record { id = caller.id; least = least_room known.room caller.id length } ≡ shortage = cc in (
          found.0,
          found.1 ∙ ap (λ (s : Shortage). s.id) same,
          subst (λ (s : Shortage). W (Room found.0 s.least)) same found.2,
        );
    blocks = shown.blocks;
  }
  learned_shown (Blocks caller length) known one shown = record {
    reads = shown.reads;
    writes = λ other e. let same : caller ≡ other = cc in (Blocks caller length, one, same);
    room = shown.room;
    blocks = λ least e.
        let found = blocks_shown known.blocks length shown.blocks (caller, one) in
        let same : least_blocks known.blocks length ≡ least = cc in (
          found.0,
          subst (λ (n : ℕ). W (Blocks found.0 n)) same found.1,
        );
  }
  learned_shown Settled known one shown = shown

module _ {L M : ℕ → Option Key → Found → Type 0} (kept : (p : ℕ) (k : Option Key) (f : Found) → L p k f → M p k f) where
  waits_on : (key : Key) → StillWaits L key → StillWaits M key
  waits_on key waits = (waits.0, kept waits.0 (Some key) found.Nothing waits.1)

  looked_on : (place : ℕ) → WasLookedAt L place → WasLookedAt M place
  looked_on place looked = (looked.0, looked.1, kept place looked.0 looked.1 looked.2)

  would_on : (why : Why) (key : Key) → WouldWait L why key → WouldWait M why key
  would_on why key would = (
    (λ e. let one = would.0 e in (one.0, waits_on one.0 one.1, one.2)),
    (λ e. let one = would.1 e in (one.0, waits_on one.0 one.1, one.2)),
  )

  -- What is known after a look.
  known_shown : (result : Found) (place : ℕ) (key : Option Key) (known : Barriers) → M place key result →
      AreShown (StillWaits L) known → AreShown (StillWaits M) (known_after result key known)
  known_shown found.Nothing place (Some key) known look shown =
      learned_shown (StillWaits M) key known (place, look) (shown_more waits_on known shown)
  known_shown found.Nothing place None known look shown = shown_more waits_on known shown
  known_shown found.Else place key known look shown = shown_more waits_on known shown
  known_shown found.Message place key known look shown = shown_more waits_on known shown
  known_shown found.Over place key known look shown = shown_more waits_on known shown

module _ {L M : ℕ → Option Key → Found → Type 0} (kept : (p : ℕ) (k : Option Key) (f : Found) → L p k f → M p k f)
    (was before taken after : Parking) (place : ℕ) (why : Why) (known now : Barriers) where
  -- Another call is heeded as before.
  others_heeded : (other : ℕ) → why_at after other ≡ why_at before other → IsHeeded L was before other →
      IsHeeded M was after other
  others_heeded other same heeded =
      elim heeded [
        | inl still ↦ inl (same ∙ still)
        | inr done ↦ inr (elim done [
          | inl looked ↦ inl (looked_on kept other looked)
          | inr would ↦ inr (would.0, would.1, would_on kept (why_at was other) would.0 would.2)
        ])
      ]

  -- The call that was due would still wait.
  stopped_heeded : (key : Option Key) → key_at was place ≡ key → why_at was place ≡ why →
      AreShown (StillWaits M) known → IsStop known why key → IsHeeded M was after place
  stopped_heeded None is due shown stop = absurd stop
  stopped_heeded (Some key) is due shown stop = inr (inr (
    key,
    is,
    (
      (λ e. granted (StillWaits M) known key shown (stop.0 (sym (ap (λ (w : Why). w.changed) due) ∙ e))),
      (λ e. lacking (StillWaits M) known key shown (stop.1 (sym (ap (λ (w : Why). w.raised) due) ∙ e))),
    ),
  ))

  module _ (takes : TakesDue place why before taken) (step : IsStep M taken after known now place why)
      (keys : (q : ℕ) → WasLookedAt L q ⊎ (key_at before q ≡ key_at was q))
      (heeded : (q : ℕ) → is_due (why_at was q) ≡ true → IsHeeded L was before q)
      (shown : AreShown (StillWaits L) known) where
    same_key : (q : ℕ) → key_at taken q ≡ key_at before q
    same_key q = ap (λ (ks : List (Option Key)). slice_index_or ks q None) takes.keys

    other_why : (q : ℕ) → q ≢ place → why_at taken q ≡ why_at before q
    other_why q ne = ap (λ (ws : List Why). slice_index_or ws q not_due) takes.now
        ∙ get_or-set_other before.why place q not_due not_due ne

    after_why : (q : ℕ) → q ≢ place → why_at after q ≡ why_at taken q
    after_why q ne =
        elim step [
          | inl passed ↦ ap (λ (p : Parking). why_at p q) passed.0
          | inr look ↦ look.2.why q ne
        ]

    -- The one that was due, if it was still due as at first.
    due_heeded : why_at before place ≡ why_at was place → IsHeeded M was after place
    due_heeded still =
        elim step [
          | inl passed ↦ elim (keys place) [
            | inl looked ↦ inr (inl (looked_on kept place looked))
            | inr same ↦ stopped_heeded (key_at taken place) (sym same ∙ sym (same_key place))
                (sym still ∙ takes.was) (shown_more (waits_on kept) known shown) passed.2
          ]
          | inr look ↦ inr (inl (key_at taken place, look.0, look.1))
        ]

    here_heeded : IsHeeded L was before place → IsHeeded M was after place
    here_heeded was_heeded =
        elim was_heeded [
          | inl still ↦ due_heeded still
          | inr done ↦ inr (elim done [
            | inl looked ↦ inl (looked_on kept place looked)
            | inr would ↦ inr (would.0, would.1, would_on kept (why_at was place) would.0 would.2)
          ])
        ]

    pub all_heeded : (q : ℕ) → is_due (why_at was q) ≡ true → IsHeeded M was after q
    all_heeded q due =
        elim (cases_eq q place) [
          | inl e ↦ subst (λ (p : ℕ). IsHeeded M was after p) (sym e)
              (here_heeded (subst (λ (p : ℕ). IsHeeded L was before p) e (heeded q due)))
          | inr ne ↦ others_heeded q (after_why q ne ∙ other_why q ne) (heeded q due)
        ]

    here_keys : WasLookedAt M place ⊎ (key_at after place ≡ key_at was place)
    here_keys =
        elim step [
          | inl passed ↦ elim (keys place) [
            | inl looked ↦ inl (looked_on kept place looked)
            | inr same ↦ inr (ap (λ (p : Parking). key_at p place) passed.0 ∙ same_key place ∙ same)
          ]
          | inr look ↦ inl (key_at taken place, look.0, look.1)
        ]

    other_keys : (q : ℕ) → q ≢ place → key_at after q ≡ key_at taken q
    other_keys q ne =
        elim step [
          | inl passed ↦ ap (λ (p : Parking). key_at p q) passed.0
          | inr look ↦ look.2.keys q ne
        ]

    pub all_keys : (q : ℕ) → WasLookedAt M q ⊎ (key_at after q ≡ key_at was q)
    all_keys q =
        elim (cases_eq q place) [
          | inl e ↦ subst (λ (p : ℕ). WasLookedAt M p ⊎ (key_at after p ≡ key_at was p)) (sym e) here_keys
          | inr ne ↦ elim (keys q) [
            | inl looked ↦ inl (looked_on kept q looked)
            | inr same ↦ inr (other_keys q ne ∙ same_key q ∙ same)
          ]
        ]

    pub still_shown : AreShown (StillWaits M) now
    still_shown =
        elim step [
          | inl passed ↦ subst (λ (b : Barriers). AreShown (StillWaits M) b) (sym passed.1)
              (shown_more (waits_on kept) known shown)
          | inr look ↦ subst (λ (b : Barriers). AreShown (StillWaits M) b) (sym look.3)
              (known_shown kept look.0 place (key_at taken place) known look.1 shown)
        ]
