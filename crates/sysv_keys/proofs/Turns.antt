-- The turns that the registry's code makes, by its list of places.
use Rattle.std.proofs.Common.{◌≡◌, ◌≢◌, ℕ, ℤ, ◌+◌, ◌*◌, ◌^◌, ◌<◌, ◌≤◌, true, false, List, Some, set, length}
use Rattle.std.proofs.Common.{refl, sym, ap, subst, ◌∙◌, inl, inr, Bool, cond, replicate, get_or, nat_lt, [], arith}
use Rattle.std.proofs.Math.ListN.{length-set, length-replicate}
use Rattle.std.proofs.lemmas.Bool.Decides.{nat_tests}
use Rattle.std.proofs.lemmas.Grind.{common_steps}
use Rattle.std.proofs.lemmas.List.Elements.{All-set, All-weaker}
use Rattle.std.proofs.lemmas.List.Sums.{sum_by-le, sum_by-set}
use Rattle.sysv_model.specs.declared.flags.Flags.{Flags}
use Rattle.sysv_model.specs.declared.limits.TheConstants.{IPC_PRIVATE}
use Rattle.sysv_model.specs.Registry.{RegistryCall, RegistryReply, Begin, Settle, Forget, Found, Busy, Made}
use Rattle.sysv_model.specs.Registry.{Changed}
use Rattle.sysv_keys.specs.declared.identifier.TheConstants.{SLOTS, GENERATION_LAST}
use Rattle.sysv_keys.specs.declared.registry.KeyRow.{KeyRow}
use Rattle.sysv_keys.specs.declared.registry.Place.{Place}
use Rattle.sysv_keys.specs.Identifier.{id_of, slot_of_id}
use Rattle.sysv_keys.specs.State.{Registry, empty, made_in, settled_in, forgotten_in, write, state_after}
use Rattle.sysv_keys.specs.State.{places_in, state_in}
use Rattle.sysv_keys.specs.Rows.{Row, HasRow, IsLeastVacant}
use Rattle.sysv_keys.specs.LegalReply.{Legal, Creates}
use Rattle.sysv_keys.specs.Represents.{Represents, MakesTurn}
use Rattle.sysv_keys.specs.Kept.{is_live, age, changes_in, KeyIndex, IsIndex, IsOnlyAt, IsKept, MayPut, IsPlaceOf}
use Rattle.sysv_keys.proofs.Legality.{legal_empty}
use Rattle.sysv_keys.proofs.States.{makes_turn}
use Rattle.sysv_keys.proofs.Rows.{a_row, row_there, slot-id, one_in_slot}

abbrev pub registry : List Place → ℕ → Registry
registry places count = record { places = places; settled = count }

-- The places after one is put into a slot.
pub written : (places : List Place) (slot : ℕ) (place : Place) → slot < length places →
    places_in (set places slot place) ≡ write (places_in places) slot place
written places slot place within = λ k other. at other k
  where
    at : (other : ℕ) → places_in (set places slot place) other ≡ write (places_in places) slot place other
    at other = grind (arith, common_steps, nat_tests)

-- A registry that was just opened.
pub stands_fresh : (generation : ℕ) → Represents generation [] (registry (replicate SLOTS (empty generation)) 0)
stands_fresh generation = record {
  legal = legal_empty generation;
  wide = length-replicate SLOTS (empty generation);
  seen = λ k. record { places = λ slot. at SLOTS slot k; settled = 0 };
}
  where
    at : (slots slot : ℕ) →
        cond (nat_lt slot slots) (empty generation) (empty 0)
        ≡ get_or (replicate slots (empty generation)) slot (empty 0)
    at slots slot = grind (arith, common_steps, nat_tests)

-- A begin of a key that has a row.
module _ (r : Registry) (slot : ℕ) (place : Place) (row : KeyRow) (within : slot < SLOTS)
    (is : places_in r.places slot ≡ place) (held : place.row ≡ Some row) (key : ℤ) (same : row.key ≡ key)
    (shared : key ≢ IPC_PRIVATE) (flags : Flags) where
  there : (live : Bool) → row.live ≡ live → HasRow (state_in r) (a_row (id_of slot place.generation) key live)
  there live e = rw (← same, ← e, ← is) (row_there (state_in r) slot row within (ap (λ (p : Place). p.row) is ∙ held))

  pub turn_found : row.live ≡ true → MakesTurn r (Begin key flags) (Found (id_of slot place.generation) r.settled) r
  turn_found live = makes_turn _ _ _ _ (shared, there true live, refl) refl refl

  pub turn_busy : row.live ≡ false → MakesTurn r (Begin key flags) (Busy r.settled) r
  turn_busy making =
      makes_turn _ _ _ _ (shared, (id_of slot place.generation, there false making), refl) refl refl

-- A turn that puts a place into a slot.
turn_put : (r : Registry) (slot : ℕ) (place : Place) (changes : ℕ) (call : RegistryCall) (reply : RegistryReply) →
    slot < length r.places → Legal (state_in r) call reply →
    state_after (state_in r) call reply
    ≡ record { places = write (places_in r.places) slot place; settled = r.settled + changes } →
    MakesTurn r call reply (registry (set r.places slot place) (r.settled + changes))
turn_put r slot place changes call reply within legal after =
    makes_turn r call reply (registry (set r.places slot place) (r.settled + changes)) legal
    (length-set r.places slot place)
    (ap (λ (f : ℕ → Place). record { places = f; settled = r.settled + changes }) (written r.places slot place within)
    ∙ sym after)

add_zero : (n : ℕ) → n + 0 ≡ n
add_zero n = omega arith

-- The turn that makes an identifier.
module _ (r : Registry) (slot : ℕ) (place : Place) (key : ℤ) (least : IsLeastVacant (state_in r) slot)
    (is : places_in r.places slot ≡ place) where
  pub turn_made : slot < length r.places → (flags : Flags) → Creates (state_in r) key flags →
      MakesTurn r (Begin key flags) (Made (id_of slot place.generation))
      (registry (set r.places slot (made_in key place)) (r.settled + 0))
  turn_made within flags creates =
      turn_put r slot (made_in key place) 0 (Begin key flags) (Made (id_of slot place.generation)) within
      (creates, (slot, least, ap (λ (p : Place). id_of slot p.generation) (sym is)))
      (rw (slot-id slot place.generation least.0.there, is, add_zero) refl)

-- The turns of an identifier that has a row.
module _ (r : Registry) (id : ℤ) (place : Place) (at : IsPlaceOf r id place) where
  has : (live : Bool) → at.row.live ≡ live → HasRow (state_in r) (a_row id at.row.key live)
  has live same = let row = at.held in let is = at.is in let current = at.current in grind arith

  live_is : (live : Bool) → is_live place.row ≡ live → at.row.live ≡ live
  live_is live same = sym (ap is_live at.held) ∙ same

  pub turn_settled : is_live place.row ≡ false →
      MakesTurn r (Settle id) (Changed true)
      (registry (set r.places (slot_of_id id) (settled_in place)) (r.settled + 1))
  turn_settled making =
      turn_put r (slot_of_id id) (settled_in place) 1 (Settle id) (Changed true) at.there
      (at.row.key, has false (live_is false making))
      (ap (λ p. record { places = write (places_in r.places) (slot_of_id id) (settled_in p); settled = r.settled + 1 })
      at.is)

  pub turn_not_settled : is_live place.row ≡ true → MakesTurn r (Settle id) (Changed false) r
  turn_not_settled live = makes_turn r (Settle id) (Changed false) r
      (λ key h.
      let one = ap (λ (x : Row). x.live) (one_in_slot (state_in r) (a_row id at.row.key true) (a_row id key false)
      (has true (live_is true live)) h refl) in absurd cc) refl refl

  pub turn_forgotten : MakesTurn r (Forget id) (Changed true)
      (registry (set r.places (slot_of_id id) (forgotten_in place)) (r.settled + 1))
  turn_forgotten =
      turn_put r (slot_of_id id) (forgotten_in place) 1 (Forget id) (Changed true) at.there
      (a_row id at.row.key at.row.live, has at.row.live refl, refl)
      (ap (λ p.
      record { places = write (places_in r.places) (slot_of_id id) (forgotten_in p); settled = r.settled + 1 })
      at.is)

-- What the registry keeps when a place is put into a slot.
module _ (places : List Place) (index : KeyIndex) (count : ℕ) (k : IsKept places index count) (slot : ℕ) (place : Place)
    (changes : ℕ) (may : MayPut (registry places count) slot place changes) where
  pub only_at : (row : KeyRow) → place.row ≡ Some row → row.key ≢ IPC_PRIVATE → IsOnlyAt (places_in places) slot row.key
  only_at row is shared other twin within held same = elim (may.only row is shared) [
    | inl w ↦
        let here = k.right.finds slot w.0 may.there w.1 (λ p. shared (sym w.2 ∙ p)) in
        let there = k.right.finds other twin within held (λ p. shared (sym same ∙ p)) in
        let keys : twin.key ≡ w.0.key = same ∙ sym w.2 in
        cc
    | inr unbound ↦
        let row_is = row_there (state_in (registry places count)) other twin within held in
        absurd (unbound (a_row (id_of other (places_in places other).generation) twin.key twin.live, row_is, same))
  ]

  changes_most : (p : Place) → age p ≤ GENERATION_LAST + 1 → changes_in p ≤ 2 * (GENERATION_LAST + 1)
  changes_most p young = grind (arith, nat_tests)

  pub count_small : count + changes < 2 ^ 63
  count_small = omega (
    arith,
    sum_by-le changes_in (2 * (GENERATION_LAST + 1)) places (All-weaker _ _ changes_most places k.young),
    k.wide,
    k.counted,
    may.counted,
    changes_most place may.young,
  )

  pub kept_put : (new : KeyIndex) → IsIndex (write (places_in places) slot place) SLOTS new →
      IsKept (set places slot place) new (count + changes)
  kept_put new right =
      let within : slot < length places = omega (arith, k.wide, may.there) in
      record {
        wide = length-set places slot place ∙ k.wide;
        young = All-set (λ p. age p ≤ GENERATION_LAST + 1) places slot place may.young k.young;
        right = subst (λ f. IsIndex f SLOTS new) (sym (written places slot place within)) right;
        counted = omega (arith, k.counted, may.counted, sum_by-set changes_in places slot place (empty 0) within);
      }
