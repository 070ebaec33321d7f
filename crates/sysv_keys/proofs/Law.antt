-- Every legal history obeys the registry law.
use Rattle.std.proofs.Common.{◌≡◌, ◌≢◌, ℕ, ℤ, ◌<◌, true, false, ◌∷◌, ◌++◌, refl}
use Rattle.std.proofs.Common.{sym, ap, subst, ◌∙◌, append_assoc, ◌⊎◌, inl, inr, arith}
use Rattle.std.proofs.lemmas.Bool.{false_from_ne_true}
use Rattle.std.proofs.lemmas.Bool.Decides.{Decides-int_eq}
use Rattle.std.proofs.lemmas.Grind.{common_steps}
use Rattle.sysv_model.specs.Registry.{RegistryCall, RegistryReply, RegistryEntry, RegistryHistory, Begin, Settle}
use Rattle.sysv_model.specs.Registry.{Forget, Found, Made, Changed}
use Rattle.sysv_model.proofs.Snoc.{from_front}
use Rattle.sysv_keys.specs.declared.identifier.TheConstants.{GENERATION_LAST}
use Rattle.sysv_keys.specs.Identifier.{slot_of_id}
use Rattle.sysv_keys.specs.State.{State, places_of, state_of}
use Rattle.sysv_keys.specs.Rows.{Row, HasRow, IsVacant, makes, settles, forgets, is_made, is_forgotten}
use Rattle.sysv_keys.specs.LegalReply.{Legal, IsLegalReply, IsLegalHistory}
use Rattle.sysv_keys.specs.RegistryLaw.{RegistryLaw}
use Rattle.sysv_keys.proofs.Legality.{legal_front}
use Rattle.sysv_keys.proofs.States.{state_of-more}
use Rattle.sysv_keys.proofs.Rows.{a_row, IsNext, one_in_slot, made_next, next_new, ages}
use Rattle.sysv_keys.proofs.Known.{IsUntold, known}

-- What a legal reply tells of an identifier.
module _ (r : State) (id : ℤ) where
  made_least : (call : RegistryCall) (reply : RegistryReply) → Legal r call reply → reply ≡ Made id → IsNext r id
  made_least call reply l made = grind (arith, made_next r)

  made_for : (call : RegistryCall) (reply : RegistryReply) → Legal r call reply → reply ≡ Made id →
      (key : ℤ) × (makes id key call reply ≡ true)
  made_for (Begin key flags) reply l made = (key, grind (arith, Decides-int_eq))
  made_for call reply l made = absurd (grind arith)

  abbrev HasIts : Type 0
  HasIts = (row : Row) × HasRow r row × (row.id ≡ id)

  found_row : (told : ℕ) (call : RegistryCall) (reply : RegistryReply) → Legal r call reply → reply ≡ Found id told →
      HasIts
  found_row told (Begin key flags) reply l found = (a_row id key true, grind arith, refl)
  found_row told call reply l found = absurd (grind arith)

  row_of : (call : RegistryCall) (reply : RegistryReply) → Legal r call reply →
      (settles id call reply ≡ true) ⊎ (forgets id call reply ≡ true) → HasIts
  row_of (Settle at) (Changed true) l e = (a_row at l.0 false, l.1, grind (arith, Decides-int_eq))
  row_of (Forget at) (Changed true) l e = (l.0, l.1, grind (arith, Decides-int_eq))
  row_of call reply l e = absurd (grind arith)

retired : (opening slot : ℕ) (before after : RegistryHistory) →
    GENERATION_LAST < (places_of opening before slot).generation → ¬ IsVacant (state_of opening (before ++ after)) slot
retired opening slot before after old v =
    let still = from_front (λ (h : RegistryHistory). GENERATION_LAST < (places_of opening h slot).generation)
    (λ h e past. omega (
      arith,
      (ages (state_of opening h) e.call e.reply slot).1,
      ap (λ (r : State). (r.places slot).generation) (state_of-more opening h e),
    )) before after old in
    absurd (omega (arith, v.usable))

module _ (opening : ℕ) (h : RegistryHistory) (legal : IsLegalHistory opening h) where
  -- A turn in a legal history, and one after it.
  up_to : (before middle after : RegistryHistory) (e f : RegistryEntry) → h ≡ before ++ e ∷ (middle ++ f ∷ after) →
      IsLegalHistory opening (before ++ e ∷ middle) × IsLegalReply opening (before ++ e ∷ middle) f.call f.reply
  up_to before middle after e f same =
      let split : h ≡ (before ++ e ∷ middle) ++ f ∷ after =
      same ∙ sym (append_assoc before (e ∷ middle) (f ∷ after)) in (
        legal_front opening (before ++ e ∷ middle) (f ∷ after) (subst (IsLegalHistory opening) split legal),
        legal (before ++ e ∷ middle) f after split,
      )

  -- An identifier that is made has no earlier turn.
  untold : (k : RegistryHistory) → IsLegalHistory opening k → (call : RegistryCall) (reply : RegistryReply) →
      IsLegalReply opening k call reply → (id : ℤ) → reply ≡ Made id → IsUntold k id
  untold k so call reply l id made =
      let r = state_of opening k in (known opening k so).untold id (next_new r id (made_least r id call reply l made))

  once : (before middle after : RegistryHistory) (e f : RegistryEntry) (id : ℤ) →
      h ≡ before ++ e ∷ (middle ++ f ∷ after) → e.reply ≡ Made id → f.reply ≢ Made id
  once before middle after e f id same made again =
      let part = up_to before middle after e f same in
      let for = made_for (state_of opening before) id e.call e.reply (legal before e (middle ++ f ∷ after) same) made in
      let none = (untold (before ++ e ∷ middle) part.0 f.call f.reply part.1 id again).unmade for.0 in
      grind (arith, common_steps, for.1)

  known_before : (before after : RegistryHistory) (e : RegistryEntry) (id : ℤ) → h ≡ before ++ e ∷ after →
      (settles id e.call e.reply ≡ true) ⊎ (forgets id e.call e.reply ≡ true) →
      (key : ℤ) × (is_made id key before ≡ true)
  known_before before after e id same which =
      let r = state_of opening before in
      let its = row_of r id e.call e.reply (legal before e after same) which in
      let front = legal_front opening before (e ∷ after) (subst (IsLegalHistory opening) same legal) in (
        its.0.key,
        subst (λ i. is_made i its.0.key before ≡ true) its.2 ((known opening before front).leaves its.0 its.1).made,
      )

  gone : (before middle after : RegistryHistory) (e f : RegistryEntry) (id : ℤ) →
      h ≡ before ++ e ∷ (middle ++ f ∷ after) → forgets id e.call e.reply ≡ true →
      (f.reply ≢ Made id) × ((told : ℕ) → f.reply ≢ Found id told) × (settles id f.call f.reply ≡ false)
      × (forgets id f.call f.reply ≡ false)
  gone before middle after e f id same forgot =
      let k : RegistryHistory = before ++ e ∷ middle in
      let r = state_of opening k in
      let part = up_to before middle after e f same in
      let forgotten : is_forgotten id k ≡ true = grind (arith, common_steps) in
      let none : HasIts r id → ⊥ = λ its.
      let kept = ((known opening k part.0).leaves its.0 its.1).kept in let is = its.2 in cc in
      let l = part.1 in (
        (λ made. let new = (untold k part.0 f.call f.reply l id made).kept in cc),
        (λ told found. none (found_row r id told f.call f.reply l found)),
        false_from_ne_true _ (λ t. none (row_of r id f.call f.reply l (inl t))),
        false_from_ne_true _ (λ t. none (row_of r id f.call f.reply l (inr t))),
      )

  pub registry_law : RegistryLaw opening h
  registry_law =
      let r = state_of opening h in
      let all = known opening h legal in
      record {
        legal = legal;
        rows = λ row. (all.leaves row, all.is_left row);
        aged = all.aged;
        whole = all.whole;
        least = λ before after e id same.
            made_least (state_of opening before) id e.call e.reply (legal before e after same);
        once = once;
        one_in_slot = one_in_slot r;
        one_of_key = λ row twin a b public same.
            one_in_slot r row twin a b (ap slot_of_id (all.single row twin a b public same));
        retired = λ before after slot same old v.
            retired opening slot before after old (subst (λ k. IsVacant (state_of opening k) slot) same v);
        counted = all.counted;
        known = known_before;
        gone = gone;
      }
