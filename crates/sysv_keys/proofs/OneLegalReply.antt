-- Each call has exactly one legal reply after each legal history.
use Rattle.std.proofs.Common.{◌≡◌, ◌≢◌, ℕ, zero, suc, ℤ, ◌<◌, Bool, true, false, Option, None, Some, refl}
use Rattle.std.proofs.Common.{subst, ◌⊎◌, inl, inr, arith}
use Rattle.std.proofs.lemmas.Bool.{cases_Bool, cases_lt}
use Rattle.std.proofs.lemmas.Bool.Decides.{nat_tests, Decides-int_eq}
use Rattle.std.specs.Option.{option_map}
use Rattle.sysv_model.specs.declared.limits.TheConstants.{IPC_PRIVATE}
use Rattle.sysv_model.specs.declared.flags.Flags.{Flags}
use Rattle.sysv_model.specs.declared.flags.TheConstants.Flags.{IPC_CREAT}
use Rattle.sysv_model.specs.declared.errno.Errno.TheVariants.{ENOENT, ENOSPC}
use Rattle.sysv_model.specs.HasFlag.{has_flag}
use Rattle.sysv_model.specs.Registry.{RegistryReply, Begin, Settle, Forget, Found, Made, Busy, Unbound, Changed}
use Rattle.sysv_keys.specs.declared.identifier.TheConstants.{SLOTS}
use Rattle.sysv_keys.specs.declared.registry.KeyRow.{KeyRow}
use Rattle.sysv_keys.specs.Identifier.{id_of, slot_of_id}
use Rattle.sysv_keys.specs.State.{State, state_of}
use Rattle.sysv_keys.specs.Rows.{Row, row_at, HasRow, IsVacant}
use Rattle.sysv_keys.specs.LegalReply.{Legal, IsBound, Creates}
use Rattle.sysv_keys.specs.OneReply.{SomeReplyIsLegal, NoTwoRepliesAreLegal}
use Rattle.sysv_keys.proofs.Rows.{a_row, row_there}
use Rattle.sysv_keys.proofs.Known.{OneOfKey, known}

-- A property that can be decided of each number holds of a least number below the bound, or of
-- none.
least_or_none : (P : ℕ → Type 0) → ((n : ℕ) → P n ⊎ ¬ P n) → (bound : ℕ) →
    ((n : ℕ) × (n < bound) × P n × ((lower : ℕ) → lower < n → ¬ P lower)) ⊎ ((n : ℕ) → n < bound → ¬ P n)
least_or_none P decide zero = inr (λ n below. absurd (omega arith))
least_or_none P decide (suc bound) = elim (least_or_none P decide bound) [
  | inl w ↦ let below = w.1 in inl (w.0, omega arith, w.2, w.3)
  | inr none ↦ elim (decide bound) [
    | inl p ↦ inl (bound, omega arith, p, none)
    | inr refuted ↦ inr (λ n below. elim (cases_lt n bound) [
      | inl lower ↦ none n lower
      | inr upto ↦ let same : bound ≡ n = omega arith in subst (λ m. ¬ P m) same refuted
    ])
  ]
]

none_or_some : {X : Type 0} (o : Option X) → (o ≡ None) ⊎ ((x : X) × (o ≡ Some x))
none_or_some None = inl refl
none_or_some (Some x) = inr (x, refl)

decided : (a b : ℤ) → (a ≡ b) ⊎ ¬ (a ≡ b)
decided a b = grind (arith, Decides-int_eq)

module _ (r : State) where
  -- A slot has a row of the key.
  abbrev HasKey : ℤ → ℕ → Type 0
  HasKey key slot = option_map (λ (row : KeyRow). row.key) (r.places slot).row ≡ Some key

  key_or_not : (key : ℤ) (slot : ℕ) → HasKey key slot ⊎ ¬ HasKey key slot
  key_or_not key slot = grind (arith, Decides-int_eq)

  vacant_or_not : (slot : ℕ) → IsVacant r slot ⊎ ¬ IsVacant r slot
  vacant_or_not slot = grind (arith, nat_tests)

  reply_creating : (key : ℤ) (flags : Flags) → Creates r key flags →
      (reply : RegistryReply) × Legal r (Begin key flags) reply
  reply_creating key flags creates = elim (least_or_none (IsVacant r) vacant_or_not SLOTS) [
    | inl w ↦ (Made (id_of w.0 (r.places w.0).generation), (creates, (w.0, (w.2, w.3), refl)))
    | inr none ↦ (Unbound ENOSPC, (creates, λ slot v. none slot v.there v))
  ]

  reply_bound : (key : ℤ) (flags : Flags) (id : ℤ) (live : Bool) → key ≢ IPC_PRIVATE → HasRow r (a_row id key live) →
      (reply : RegistryReply) × Legal r (Begin key flags) reply
  reply_bound key flags id true shared is = (Found id r.settled, (shared, is, refl))
  reply_bound key flags id false shared is = (Busy r.settled, (shared, (id, is), refl))

  some_reply_to_begin : (key : ℤ) (flags : Flags) → (reply : RegistryReply) × Legal r (Begin key flags) reply
  some_reply_to_begin key flags = elim (decided key IPC_PRIVATE) [
    | inl private ↦ reply_creating key flags (inl private)
    | inr shared ↦ elim (least_or_none (HasKey key) (key_or_not key) SLOTS) [
      | inl w ↦ elim (none_or_some (r.places w.0).row) [
        | inl none ↦ let has = w.2 in absurd (grind arith)
        | inr some ↦
            let has = w.2 in
            let same : some.0.key ≡ key = grind arith in
            reply_bound key flags (id_of w.0 (r.places w.0).generation) some.0.live shared
            (rw (← same) (row_there r w.0 some.0 w.1 some.1))
      ]
      | inr none ↦
          let unbound : ¬ IsBound r key = λ b. none (slot_of_id b.0.id) (omega arith) (grind arith) in
          elim (cases_Bool (has_flag IPC_CREAT flags)) [
            | inl set ↦ reply_creating key flags (inr (unbound, set))
            | inr unset ↦ (Unbound ENOENT, (shared, unbound, unset))
          ]
    ]
  ]

  -- The row of an identifier, if it has one.
  its_or_none : (id : ℤ) → ((row : Row) × HasRow r row × (row.id ≡ id)) ⊎ ((row : Row) → HasRow r row → row.id ≢ id)
  its_or_none id = elim (none_or_some (row_at (slot_of_id id) (r.places (slot_of_id id)))) [
    | inl none ↦ inr (λ row h same. grind arith)
    | inr some ↦ elim (decided some.0.id id) [
      | inl same ↦ inl (some.0, grind arith, same)
      | inr apart ↦ inr (λ row h same. grind arith)
    ]
  ]

  some_reply_to_settle : (id : ℤ) → (reply : RegistryReply) × Legal r (Settle id) reply
  some_reply_to_settle id = elim (its_or_none id) [
    | inr none ↦ (Changed false, λ key h. none (a_row id key false) h refl)
    | inl w ↦ elim (cases_Bool w.0.live) [
      | inr making ↦ (Changed true, (w.0.key, let has = w.1 in let is = w.2 in grind arith))
      | inl live ↦ (Changed false, λ key h. let has = w.1 in let is = w.2 in grind arith)
    ]
  ]

  some_reply_to_forget : (id : ℤ) → (reply : RegistryReply) × Legal r (Forget id) reply
  some_reply_to_forget id = elim (its_or_none id) [ inr none ↦ (Changed false, none) | inl w ↦ (Changed true, w) ]

pub some_reply_is_legal : SomeReplyIsLegal
some_reply_is_legal opening h (Begin key flags) legal = some_reply_to_begin (state_of opening h) key flags
some_reply_is_legal opening h (Settle id) legal = some_reply_to_settle (state_of opening h) id
some_reply_is_legal opening h (Forget id) legal = some_reply_to_forget (state_of opening h) id

module _ (r : State) (single : OneOfKey r) (key : ℤ) (flags : Flags) where
  bound : (id : ℤ) (live : Bool) → HasRow r (a_row id key live) → IsBound r key
  bound id live h = (a_row id key live, h, refl)

  same_row : (id other : ℤ) (live also : Bool) → key ≢ IPC_PRIVATE → HasRow r (a_row id key live) →
      HasRow r (a_row other key also) → (id ≡ other) × (live ≡ also)
  same_row id other live also shared h k =
      let same = single (a_row id key live) (a_row other key also) h k shared refl in (same, grind arith)

  one_begin : (a b : RegistryReply) → Legal r (Begin key flags) a → Legal r (Begin key flags) b → a ≡ b
  one_begin (Found id n) (Found other m) l k = let same = same_row id other true true l.0 l.1 k.1 in grind arith
  one_begin (Found id n) (Busy m) l k = let same = same_row id k.1.0 true false l.0 l.1 k.1.1 in absurd cc
  one_begin (Found id n) b l k = let row = bound id true l.1 in grind arith
  one_begin (Busy n) (Found other m) l k = let same = same_row l.1.0 other false true l.0 l.1.1 k.1 in absurd cc
  one_begin (Busy n) b l k = let row = bound l.1.0 false l.1.1 in grind arith
  one_begin a (Found other m) l k = let row = bound other true k.1 in grind arith
  one_begin a (Busy m) l k = let row = bound k.1.0 false k.1.1 in grind arith
  one_begin a b l k = grind arith

pub no_two_replies_are_legal : NoTwoRepliesAreLegal
no_two_replies_are_legal opening h (Begin key flags) a b legal l m =
    one_begin (state_of opening h) (known opening h legal).single key flags a b l m
no_two_replies_are_legal opening h (Settle id) a b legal l m = grind arith
no_two_replies_are_legal opening h (Forget id) a b legal l m = grind arith
