-- The law that every legal history obeys (this profile's words for what POSIX.1-2017, msgget and
-- 2.7.1 IPC General Description, say of keys and identifiers). No identifier is made twice, a key
-- that is not private has at most one queue, a new queue takes the least vacant slot, and a
-- forgotten identifier is never used again.
use Rattle.std.specs.Prelude.{◌≡◌, ◌≢◌, ◌↔◌, ℕ, ℤ, ◌+◌, ◌<◌, ◌≤◌, ◌⊎◌, Bool, true, false, ◌∷◌, ◌++◌, pos, count_by}
use Rattle.sysv_model.specs.declared.limits.TheConstants.{IPC_PRIVATE}
use Rattle.sysv_model.specs.Registry.{RegistryCall, RegistryReply, RegistryEntry, RegistryHistory, Settle, Forget}
use Rattle.sysv_model.specs.Registry.{Found, Made, Changed, settled}
use Rattle.sysv_keys.specs.declared.identifier.TheConstants.{SLOTS, GENERATION_LAST}
use Rattle.sysv_keys.specs.Identifier.{id_of, slot_of_id}
use Rattle.sysv_keys.specs.State.{places_of, state_of}
use Rattle.sysv_keys.specs.Rows.{Row, IsRow, IsVacant, IsLeastVacant, settles, forgets, frees, is_made, is_settled}
use Rattle.sysv_keys.specs.Rows.{is_forgotten}
use Rattle.sysv_keys.specs.LegalReply.{IsLegalHistory}

-- A settle that changed a row.
abbrev pub is_settle : RegistryCall → RegistryReply → Bool
is_settle (Settle id) (Changed true) = true
is_settle call reply = false

-- A forget that changed a row.
abbrev pub is_forget : RegistryCall → RegistryReply → Bool
is_forget (Forget id) (Changed true) = true
is_forget call reply = false

-- The identifier is at least 0 and at most 2,147,483,647.
pub record IsIdentifier (id : ℤ) : Type 0 where
  pub number : ℕ
  pub whole : id ≡ pos number
  pub most : number ≤ 2147483647

-- The history made the identifier of this row for its key and did not forget it, and settled it if
-- and only if the row is Live.
pub record LeavesRow (h : RegistryHistory) (row : Row) : Type 0 where
  pub made : is_made row.id row.key h ≡ true
  pub kept : is_forgotten row.id h ≡ false
  pub stage : is_settled row.id h ≡ row.live

-- The registry law, if all slots had the generation `opening` when the registry was opened.
pub record RegistryLaw (opening : ℕ) (h : RegistryHistory) : Type 0 where
  -- every reply is legal after the entries before it
  pub legal : IsLegalHistory opening h
  -- the rows are those of the identifiers that were made and not forgotten
  pub rows : (row : Row) → IsRow opening h row ↔ LeavesRow h row
  -- a slot's generation has risen by one for each identifier of the slot that was forgotten
  pub aged : (slot : ℕ) → slot < SLOTS →
      (places_of opening h slot).generation ≡ opening + count_by (λ (e : RegistryEntry). frees slot e.call e.reply) h
  -- an identifier that was made is at least 0 and at most 2,147,483,647
  pub whole : (id key : ℤ) → is_made id key h ≡ true → IsIdentifier id
  -- a new identifier is that of the least vacant slot in its generation
  pub least : (before after : RegistryHistory) (e : RegistryEntry) (id : ℤ) → h ≡ before ++ e ∷ after →
      e.reply ≡ Made id →
      IsLeastVacant (state_of opening before) (slot_of_id id)
      × (id ≡ id_of (slot_of_id id) (places_of opening before (slot_of_id id)).generation)
  -- no identifier is made twice
  pub once : (before middle after : RegistryHistory) (e f : RegistryEntry) (id : ℤ) →
      h ≡ before ++ e ∷ (middle ++ f ∷ after) → e.reply ≡ Made id → f.reply ≢ Made id
  -- a slot has at most one row, and so has a key that is not private
  pub one_in_slot : (row twin : Row) → IsRow opening h row → IsRow opening h twin →
      slot_of_id row.id ≡ slot_of_id twin.id → row ≡ twin
  pub one_of_key : (row twin : Row) → IsRow opening h row → IsRow opening h twin → row.key ≢ IPC_PRIVATE →
      row.key ≡ twin.key → row ≡ twin
  -- a slot whose generation is past the last is never vacant again
  pub retired : (before after : RegistryHistory) (slot : ℕ) → h ≡ before ++ after →
      GENERATION_LAST < (places_of opening before slot).generation → ¬ IsVacant (state_of opening h) slot
  -- the settled count is the number of settles and forgets that returned true
  pub counted : settled h
      ≡ count_by (λ (e : RegistryEntry). is_settle e.call e.reply) h
      + count_by (λ (e : RegistryEntry). is_forget e.call e.reply) h
  -- an identifier that was settled or forgotten with the result true was made before
  pub known : (before after : RegistryHistory) (e : RegistryEntry) (id : ℤ) → h ≡ before ++ e ∷ after →
      (settles id e.call e.reply ≡ true) ⊎ (forgets id e.call e.reply ≡ true) →
      (key : ℤ) × (is_made id key before ≡ true)
  -- an identifier that was forgotten is not made, found, settled or forgotten again
  pub gone : (before middle after : RegistryHistory) (e f : RegistryEntry) (id : ℤ) →
      h ≡ before ++ e ∷ (middle ++ f ∷ after) → forgets id e.call e.reply ≡ true →
      (f.reply ≢ Made id) × ((told : ℕ) → f.reply ≢ Found id told) × (settles id f.call f.reply ≡ false)
      × (forgets id f.call f.reply ≡ false)
