-- What holds of unused slots and of new identifiers (this profile's).
use Rattle.std.specs.Prelude.{◌≡◌, ◌≢◌, ◌⊎◌, ℕ, ℤ, pos, true, [], ◌∷◌, ◌++◌}
use Rattle.sysv_model.specs.declared.flags.Flags.{Flags}
use Rattle.sysv_model.specs.declared.limits.TheConstants.{IPC_PRIVATE}
use Rattle.sysv_model.specs.History.{Who}
use Rattle.sysv_model.specs.Registry.{RegistryHistory, Begin, Settle, Made, Changed}
use Rattle.sysv_keys.specs.Identifier.{slot_of_id}
use Rattle.sysv_keys.specs.Rows.{is_made, IsUnused}
use Rattle.sysv_keys.specs.LegalReply.{IsLegalReply, IsLegalHistory}

-- What holds after every history of the registry. The last clause requires a legal history.
pub record UnusedSlots : Type 0 where
  -- a slot is unused or it is not
  pub either : (opening slot : ℕ) (h : RegistryHistory) → IsUnused opening h slot ⊎ ¬ IsUnused opening h slot
  -- no identifier of an unused slot was made
  pub never : (opening slot : ℕ) (h : RegistryHistory) → IsUnused opening h slot → (id key : ℤ) →
      is_made id key h ≡ true → slot_of_id id ≢ slot
  -- if slot 0 is unused, the legal reply to a begin of a private key makes the identifier 0
  pub zero : (opening : ℕ) (h : RegistryHistory) (flags : Flags) → IsUnused opening h 0 →
      IsLegalReply opening h (Begin IPC_PRIVATE flags) (Made (pos 0))
  -- an identifier that was just made can be settled
  pub settles : (opening : ℕ) (h : RegistryHistory) (who : Who) (key : ℤ) (flags : Flags) (id : ℤ) →
      IsLegalHistory opening h → IsLegalReply opening h (Begin key flags) (Made id) →
      IsLegalReply opening (h ++ record { who = who; call = Begin key flags; reply = Made id } ∷ []) (Settle id)
      (Changed true)
