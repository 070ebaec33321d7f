-- Each queue of an execution is installed in the slot of its identifier, and the identifier is not
-- negative.
use Rattle.std.proofs.Common.{◌≡◌, ◌<◌, ℕ, ℤ, pos, true, false, List, [], ◌∷◌, map}
use Rattle.std.proofs.Common.{refl, sym, ap, subst, ◌∙◌, arith, int_lt, length}
use Rattle.std.specs.List.{All}
use Rattle.std.proofs.Math.ListN.{get_or}
use Rattle.std.proofs.lemmas.Bool.Decides.{nat_tests}
use Rattle.std.proofs.lemmas.List.Elements.{All-nil, All-cons, All-head, All-tail}
use Rattle.std.proofs.lemmas.List.Folds.{list_any_at}
use Rattle.sysv_model.specs.History.{Install, Installed}
use Rattle.sysv_model.specs.Turn.{Op, AtSlot, Turn, registry_history}
use Rattle.sysv_model.specs.Turns.{Numbered}
use Rattle.sysv_keys.specs.RegistryLaw.{RegistryLaw}
use Rattle.sysv_core.specs.Removed.{IsInItsSlot}
use Rattle.sysv_core.proofs.Lifetime.{installing, does, done, same_int, Facts, ordered, made_for}
use Rattle.sysv_thread_laws.specs.OrderIsRun.{Renamed, renamed_turn}
use Rattle.sysv_thread_laws.proofs.RemovalAlone.{IsWellInstalled}

below_none : (n : ℕ) → int_lt (pos n) (pos 0) ≡ false
below_none n = grind (arith, nat_tests)

-- ---- each install

module _ (generation : ℕ) (turns : List Turn) (f : Facts turns)
    (law : RegistryLaw generation (registry_history turns)) where
  not_negative : (id : ℤ) → done (installing id) turns ≡ true → int_lt id (pos 0) ≡ false
  not_negative id installed =
      let made = made_for id turns (ordered turns f (installing id) installed) in
      let whole = law.whole id made.0 made.1 in
      subst (λ i. int_lt i (pos 0) ≡ false) (sym whole.whole) (below_none whole.number)

  one_well : (k : ℕ) (d : Turn) (op : Op) → k < length turns → (get_or turns k d).op ≡ op →
      IsInItsSlot op → IsWellInstalled op
  one_well k d (AtSlot slot (Install id key cred mode now) (Installed true)) low is home = (
    sym home,
    not_negative id (list_any_at (λ (t : Turn). does (installing id) t.op) turns k d low
        (ap (does (installing id)) is ∙ same_int id)),
  )
  one_well k d op low is home = tt

  pub all_well : All (λ (t : Turn). IsWellInstalled t.op) turns
  all_well k d low = one_well k d (get_or turns k d).op low refl (f.home k d low)

-- ---- in the order

abbrev IsWellTurn : Turn → Type 0
IsWellTurn t = IsWellInstalled t.op

abbrev IsWellNumbered : Numbered → Type 0
IsWellNumbered t = IsWellInstalled t.op

pub all_renamed : (rs : List Renamed) → All IsWellTurn (map renamed_turn rs) →
    All IsWellNumbered (map (λ (r : Renamed). r.turn) rs)
all_renamed [] all = All-nil IsWellNumbered
all_renamed (r ∷ rs) all =
    All-cons IsWellNumbered r.turn (map (λ (x : Renamed). x.turn) rs)
    (All-head IsWellTurn (renamed_turn r) (map renamed_turn rs) all)
    (all_renamed rs (All-tail IsWellTurn (renamed_turn r) (map renamed_turn rs) all))
