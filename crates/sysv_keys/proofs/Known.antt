-- What a legal history tells of each identifier.
use Rattle.std.proofs.Common.{◌≡◌, ◌≢◌, ℕ, ℤ, ◌+◌, ◌*◌, ◌<◌, true, false, [], ◌∷◌, ◌++◌, inl, inr, refl, arith}
use Rattle.std.proofs.lemmas.Bool.{cases_Bool}
use Rattle.std.proofs.lemmas.Bool.Decides.{nat_tests, Decides-int_eq}
use Rattle.std.proofs.lemmas.Grind.{common_steps}
use Rattle.std.specs.List.{count_by}
use Rattle.sysv_model.specs.declared.limits.TheConstants.{IPC_PRIVATE}
use Rattle.sysv_model.specs.Registry.{RegistryEntry, RegistryHistory, settled}
use Rattle.sysv_keys.specs.declared.identifier.TheConstants.{SLOTS}
use Rattle.sysv_keys.specs.Identifier.{slot_of_id}
use Rattle.sysv_keys.specs.State.{State, state_after, state_of}
use Rattle.sysv_keys.specs.Rows.{Row, HasRow, makes, settles, frees, is_made, is_settled, is_forgotten}
use Rattle.sysv_keys.specs.LegalReply.{Legal, IsLegalHistory}
use Rattle.sysv_keys.specs.RegistryLaw.{LeavesRow, IsIdentifier, is_settle, is_forget}
use Rattle.sysv_keys.proofs.States.{over_legal}
use Rattle.sysv_keys.proofs.Rows.{a_row, IsNew, next_new, was_new, row_comes, row_made, row_settled, row_stays}
use Rattle.sysv_keys.proofs.Rows.{none_opened}

-- The history has no turn that made, settled or forgot the identifier.
pub record IsUntold (h : RegistryHistory) (id : ℤ) : Type 0 where
  pub unmade : (key : ℤ) → is_made id key h ≡ false
  pub unsettled : is_settled id h ≡ false
  pub kept : is_forgotten id h ≡ false

-- A key that is not private has at most one row.
abbrev pub OneOfKey : State → Type 0
OneOfKey r =
    (row twin : Row) → HasRow r row → HasRow r twin → row.key ≢ IPC_PRIVATE → row.key ≡ twin.key → row.id ≡ twin.id

-- What a legal history tells of the state that it leaves.
pub record Known (opening : ℕ) (h : RegistryHistory) (r : State) : Type 0 where
  -- an identifier is not named before its slot comes to its generation
  pub untold : (id : ℤ) → IsNew r id → IsUntold h id
  -- the rows are those of the identifiers that were made and not forgotten
  pub leaves : (row : Row) → HasRow r row → LeavesRow h row
  pub is_left : (row : Row) → LeavesRow h row → HasRow r row
  pub single : OneOfKey r
  pub whole : (id key : ℤ) → is_made id key h ≡ true → IsIdentifier id
  -- a slot's generation counts the forgets in it
  pub aged : (slot : ℕ) → slot < SLOTS →
      (r.places slot).generation ≡ opening + count_by (λ (e : RegistryEntry). frees slot e.call e.reply) h
  pub counted : settled h
      ≡ count_by (λ (e : RegistryEntry). is_settle e.call e.reply) h
      + count_by (λ (e : RegistryEntry). is_forget e.call e.reply) h

module _ (opening : ℕ) (h : RegistryHistory) (r : State) (e : RegistryEntry) (l : Legal r e.call e.reply)
    (k : Known opening h r) where
  abbrev more : RegistryHistory
  more = h ++ e ∷ []

  abbrev after : State
  after = state_after r e.call e.reply

  untold_more : (id : ℤ) → IsNew after id → IsUntold more id
  untold_more id new =
      let was = was_new r e.call e.reply l id new in
      let old = k.untold id was.0 in
      record {
        unmade = λ key. grind (arith, common_steps, was.1 key, old.unmade key);
        unsettled = grind (arith, common_steps);
        kept = grind (arith, common_steps);
      }

  leaves_more : (row : Row) → HasRow after row → LeavesRow more row
  leaves_more row here = elim (row_comes r e.call e.reply l row here) [
    | inl new ↦
        let made = row_made r e.call e.reply l row.id row.key new.0 in
        let old = k.untold row.id (next_new r row.id made.0) in
        grind (arith, common_steps)
    | inr was ↦ elim was [
      | inl settled ↦ let old = k.leaves (a_row row.id row.key false) settled.1 in grind (arith, common_steps)
      | inr stays ↦ let old = k.leaves row stays.2 in grind (arith, common_steps)
    ]
  ]

  left_more : (row : Row) → LeavesRow more row → HasRow after row
  left_more row w = elim (cases_Bool (makes row.id row.key e.call e.reply)) [
    | inl new ↦
        let made = row_made r e.call e.reply l row.id row.key new in
        let old = k.untold row.id (next_new r row.id made.0) in
        let making : row.live ≡ false = grind (arith, common_steps) in
        grind (arith, common_steps)
    | inr unmade ↦
        let was : Row = a_row row.id row.key (is_settled row.id h) in
        let old = k.is_left was (grind (arith, common_steps)) in
        elim (cases_Bool (settles row.id e.call e.reply)) [
          | inl settled ↦
              let now = row_settled r e.call e.reply l row.id row.key was.live old settled in
              let live : row.live ≡ true = grind (arith, common_steps) in
              grind (arith, common_steps)
          | inr unsettled ↦
              let same : is_settled row.id h ≡ row.live = grind (arith, common_steps) in
              row_stays r e.call e.reply l row (rw (← same) old) unsettled (grind (arith, common_steps))
        ]
  ]

  single_more : OneOfKey after
  single_more row twin here there public same = grind (
    arith,
    Decides-int_eq,
    row_comes r e.call e.reply l row here,
    row_comes r e.call e.reply l twin there,
    k.single row twin,
    k.single (a_row row.id row.key false) twin,
    k.single row (a_row twin.id twin.key false),
  )

  whole_more : (id key : ℤ) → is_made id key more ≡ true → IsIdentifier id
  whole_more id key made = elim (cases_Bool (is_made id key h)) [
    | inl old ↦ k.whole id key old
    | inr not ↦
        let new : makes id key e.call e.reply ≡ true = grind (arith, common_steps) in
        let next = (row_made r e.call e.reply l id key new).0 in
        record {
          number = slot_of_id id + SLOTS * (r.places (slot_of_id id)).generation;
          whole = next.1;
          most = omega (arith, next.0.0.there, next.0.0.usable);
        }
  ]

  known_more : Known opening more after
  known_more = record {
    untold = untold_more;
    leaves = leaves_more;
    is_left = left_more;
    single = single_more;
    whole = whole_more;
    aged = λ slot within. let was = k.aged slot within in grind (arith, common_steps, nat_tests);
    counted = let was = k.counted in grind (arith, common_steps);
  }

pub known : (opening : ℕ) (h : RegistryHistory) → IsLegalHistory opening h → Known opening h (state_of opening h)
known opening = over_legal opening (Known opening) (record {
  untold = λ id new. record { unmade = λ key. refl; unsettled = refl; kept = refl };
  leaves = λ row here. absurd (none_opened opening row here);
  is_left = λ row w. let made = w.made in absurd cc;
  single = λ row twin here there public same. absurd (none_opened opening row here);
  whole = λ id key made. absurd cc;
  aged = λ slot within. grind (arith, nat_tests);
  counted = refl;
}) (known_more opening)
