-- Unused slots.
use Rattle.std.proofs.Common.{◌≡◌, ◌≢◌, ℕ, ℤ, ◌≤◌, pos, true, [], ◌∷◌, ◌++◌, ◌⊎◌, inl, inr, refl, sym, ap, subst, arith}
use Rattle.std.proofs.lemmas.Bool.{cases_Bool}
use Rattle.std.proofs.lemmas.Grind.{common_steps}
use Rattle.std.proofs.lemmas.Bool.Decides.{nat_tests, Decides-int_eq}
use Rattle.sysv_model.specs.declared.flags.Flags.{Flags}
use Rattle.sysv_model.specs.declared.limits.TheConstants.{IPC_PRIVATE}
use Rattle.sysv_model.specs.History.{Who}
use Rattle.sysv_model.specs.Registry.{RegistryCall, RegistryReply, RegistryHistory, Begin, Settle}
use Rattle.sysv_model.specs.Registry.{Made, Changed}
use Rattle.sysv_model.proofs.Snoc.{from_end}
use Rattle.sysv_keys.specs.Identifier.{id_of, slot_of_id}
use Rattle.sysv_keys.specs.State.{State, state_after, places_of, state_of}
use Rattle.sysv_keys.specs.Rows.{IsUnused, IsVacant, makes, is_made}
use Rattle.sysv_keys.specs.LegalReply.{IsLegalReply, IsLegalHistory, Legal}
use Rattle.sysv_keys.specs.Unused.{UnusedSlots}
use Rattle.sysv_keys.specs.Kept.{age}
use Rattle.sysv_keys.proofs.States.{state_of-more}
use Rattle.sysv_keys.proofs.Rows.{ages, row_made}

-- The slot of an identifier that was made has an age above 0.
used : (opening : ℕ) (id key : ℤ) (h : RegistryHistory) → is_made id key h ≡ true →
    1 ≤ age (places_of opening h (slot_of_id id))
used opening id key = from_end (λ (h : RegistryHistory).
    is_made id key h ≡ true → 1 ≤ age (places_of opening h (slot_of_id id))) (λ t. absurd cc)
    (λ h e before t. subst (λ (r : State). 1 ≤ age (r.places (slot_of_id id))) (sym (state_of-more opening h e))
    (elim (cases_Bool (is_made id key h)) [
      | inl old ↦ omega (arith, before old, (ages (state_of opening h) e.call e.reply (slot_of_id id)).0)
      | inr not ↦ used_now (state_of opening h) e.call e.reply (grind (arith, common_steps))
    ]))
  where
    used_now : (r : State) (call : RegistryCall) (reply : RegistryReply) → makes id key call reply ≡ true →
        1 ≤ age ((state_after r call reply).places (slot_of_id id))
    used_now r call reply new = grind (arith, nat_tests, Decides-int_eq)

never_made : (opening slot : ℕ) (h : RegistryHistory) → IsUnused opening h slot → (id key : ℤ) →
    is_made id key h ≡ true → slot_of_id id ≢ slot
never_made opening slot h u id key made here =
    let some = subst (λ n. 1 ≤ age (places_of opening h n)) here (used opening id key h made) in grind arith

makes_zero : (opening : ℕ) (h : RegistryHistory) (flags : Flags) → IsUnused opening h 0 →
    IsLegalReply opening h (Begin IPC_PRIVATE flags) (Made (pos 0))
makes_zero opening h flags u =
    let young = u.first in
    let vacant : IsVacant (state_of opening h) 0 =
    record { there = omega arith; empty = u.empty; usable = omega arith } in
    (inl refl, (0, (vacant, λ lower below. absurd (omega arith)), ap (id_of 0) (sym u.first)))

settles_made : (opening : ℕ) (h : RegistryHistory) (who : Who) (key : ℤ) (flags : Flags) (id : ℤ) →
    IsLegalHistory opening h → IsLegalReply opening h (Begin key flags) (Made id) →
    IsLegalReply opening (h ++ record { who = who; call = Begin key flags; reply = Made id } ∷ []) (Settle id)
    (Changed true)
settles_made opening h who key flags id legal made =
    subst (λ r. Legal r (Settle id) (Changed true))
    (sym (state_of-more opening h (record { who = who; call = Begin key flags; reply = Made id })))
    (key, (row_made (state_of opening h) (Begin key flags) (Made id) made id key (grind (arith, Decides-int_eq))).3)

unused_or_not : (opening slot : ℕ) (h : RegistryHistory) → IsUnused opening h slot ⊎ ¬ IsUnused opening h slot
unused_or_not opening slot h = grind (arith, nat_tests)

pub unused_slots : UnusedSlots
unused_slots = record { either = unused_or_not; never = never_made; zero = makes_zero; settles = settles_made }
