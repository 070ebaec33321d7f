-- How a legal turn changes the rows and the generations.
use Rattle.std.proofs.Common.{◌≡◌, ℕ, ℤ, ◌<◌, ◌≤◌, Bool, true, false, Some, [], ◌⊎◌, arith}
use Rattle.std.proofs.lemmas.Bool.Decides.{nat_tests, Decides-int_eq}
use Rattle.sysv_model.specs.declared.flags.Flags.{Flags}
use Rattle.sysv_model.specs.Registry.{RegistryCall, RegistryReply, Begin, Made}
use Rattle.sysv_keys.specs.declared.identifier.TheConstants.{SLOTS}
use Rattle.sysv_keys.specs.declared.registry.KeyRow.{KeyRow}
use Rattle.sysv_keys.specs.Identifier.{id_of, slot_of_id}
use Rattle.sysv_keys.specs.State.{State, places_after, state_after, state_of}
use Rattle.sysv_keys.specs.Rows.{Row, HasRow, IsLeastVacant, makes, settles, forgets}
use Rattle.sysv_keys.specs.LegalReply.{Legal}
use Rattle.sysv_keys.specs.Kept.{age}

abbrev pub a_row : ℤ → ℤ → Bool → Row
a_row id key live = record { id = id; key = key; live = live }

pub slot-id : (slot generation : ℕ) → slot < SLOTS → slot_of_id (id_of slot generation) ≡ slot
slot-id slot generation within = omega arith

-- The identifier is that of the least vacant slot in its generation.
abbrev pub IsNext : State → ℤ → Type 0
IsNext r id = IsLeastVacant r (slot_of_id id) × (id ≡ id_of (slot_of_id id) (r.places (slot_of_id id)).generation)

-- The identifier is of a generation in which its slot has had none yet.
abbrev pub IsNew : State → ℤ → Type 0
IsNew r id = (generation : ℕ) × (id ≡ id_of (slot_of_id id) generation) × (age (r.places (slot_of_id id)) ≤ generation)

module _ (r : State) where
  pub one_in_slot : (row twin : Row) → HasRow r row → HasRow r twin → slot_of_id row.id ≡ slot_of_id twin.id →
      row ≡ twin
  one_in_slot row twin h k same = cc

  -- The row in a place is a row of the registry.
  pub row_there : (slot : ℕ) (row : KeyRow) → slot < SLOTS → (r.places slot).row ≡ Some row →
      HasRow r (a_row (id_of slot (r.places slot).generation) row.key row.live)
  row_there slot row within held = grind (arith, slot-id slot (r.places slot).generation within)

  pub made_next : (key : ℤ) (flags : Flags) (id : ℤ) → Legal r (Begin key flags) (Made id) → IsNext r id
  made_next key flags id l = grind (arith, slot-id)

  pub next_new : (id : ℤ) → IsNext r id → IsNew r id
  next_new id n = grind arith

  -- A turn never lowers the age of a slot, nor its generation.
  pub ages : (call : RegistryCall) (reply : RegistryReply) (slot : ℕ) →
      (age (r.places slot) ≤ age (places_after r.places call reply slot))
      × ((r.places slot).generation ≤ (places_after r.places call reply slot).generation)
  ages call reply slot = grind (arith, nat_tests)

module _ (r : State) (call : RegistryCall) (reply : RegistryReply) (l : Legal r call reply) where
  -- An identifier that is new after a turn was new before, and the turn does not concern it.
  pub was_new : (id : ℤ) → IsNew (state_after r call reply) id →
      IsNew r id × ((key : ℤ) → makes id key call reply ≡ false) × (settles id call reply ≡ false)
      × (forgets id call reply ≡ false)
  was_new id new =
      let old : IsNew r id = grind (arith, ages r call reply (slot_of_id id)) in (
        old,
        (λ key. grind (arith, nat_tests, Decides-int_eq, made_next r)),
        grind (arith, Decides-int_eq),
        grind (arith, Decides-int_eq),
      )

  -- A row after a turn was made or settled by it, or was there before.
  pub row_comes : (row : Row) → HasRow (state_after r call reply) row →
      ((makes row.id row.key call reply ≡ true) × (row.live ≡ false))
      ⊎ (((settles row.id call reply ≡ true) × HasRow r (a_row row.id row.key false) × (row.live ≡ true))
      ⊎ ((settles row.id call reply ≡ false) × (forgets row.id call reply ≡ false) × HasRow r row))
  row_comes row h = grind (arith, nat_tests, Decides-int_eq, made_next r)

  pub row_made : (id key : ℤ) → makes id key call reply ≡ true →
      IsNext r id × (settles id call reply ≡ false) × (forgets id call reply ≡ false)
      × HasRow (state_after r call reply) (a_row id key false)
  row_made id key made = grind (arith, nat_tests, Decides-int_eq, made_next r)

  pub row_settled : (id key : ℤ) (live : Bool) → HasRow r (a_row id key live) → settles id call reply ≡ true →
      (live ≡ false) × HasRow (state_after r call reply) (a_row id key true)
  row_settled id key live h settled = grind (arith, nat_tests, Decides-int_eq)

  pub row_stays : (row : Row) → HasRow r row → settles row.id call reply ≡ false → forgets row.id call reply ≡ false →
      HasRow (state_after r call reply) row
  row_stays row h unsettled kept = grind (arith, nat_tests, Decides-int_eq, made_next r)

-- A registry that was just opened has no row.
pub none_opened : (opening : ℕ) (row : Row) → HasRow (state_of opening []) row → ⊥
none_opened opening row h = grind (arith, nat_tests)
