-- What the places of a worker have had, from what each of its runs adopted.
use Rattle.std.proofs.Common.{◌≡◌, ◌∙◌, List, [], ◌∷◌, ◌++◌, ap, refl, sym, subst, inl, inr}
use Rattle.std.proofs.Common.{append_assoc, arith}
use Rattle.std.specs.List.{FoldsTo, flat_map}
use Rattle.std.specs.List.Sorted.{IsPermutation}
use Rattle.std.proofs.lemmas.Grind.{flat_map-append}
use Rattle.std.proofs.lemmas.List.{append-nil}
use Rattle.std.proofs.lemmas.List.Sorted.{IsPermutation-append_comm, IsPermutation-append_left}
use Rattle.std.proofs.lemmas.List.Sorted.{IsPermutation-append_right, IsPermutation-refl, IsPermutation-trans}
use Rattle.sysv_bank.specs.Banks.{Each2}
use Rattle.sysv_workers.specs.Parts.{IsSubsequenceOf}
use Rattle.sysv_places.specs.Places.{Adopts, Standing, with_one}

moved : {T : Type 0} (a h b : List T) (c : T) → IsPermutation (a ++ ((h ++ c ∷ []) ++ b)) ((a ++ (h ++ b)) ++ c ∷ [])
moved a h b c =
    let to_end : IsPermutation (h ++ (c ∷ [] ++ b)) (h ++ (b ++ c ∷ [])) =
    IsPermutation-append_right h (c ∷ [] ++ b) (b ++ c ∷ []) (IsPermutation-append_comm (c ∷ []) b) in
    let all = IsPermutation-append_right a (h ++ (c ∷ [] ++ b)) (h ++ (b ++ c ∷ [])) to_end in
    let left : a ++ (h ++ (c ∷ [] ++ b)) ≡ a ++ ((h ++ c ∷ []) ++ b) =
    ap (λ l. a ++ l) (sym (append_assoc h (c ∷ []) b)) in
    let right : a ++ (h ++ (b ++ c ∷ [])) ≡ (a ++ (h ++ b)) ++ c ∷ [] =
    ap (λ l. a ++ l) (sym (append_assoc h b (c ∷ []))) ∙ sym (append_assoc a (h ++ b) (c ∷ [])) in
    subst (λ l. IsPermutation (a ++ ((h ++ c ∷ []) ++ b)) l) right
    (subst (λ l. IsPermutation l (a ++ (h ++ (b ++ c ∷ [])))) left all)

skips : {T : Type 0} (c : T) (connections more : List T) → IsSubsequenceOf more connections →
    IsSubsequenceOf more (c ∷ connections)
skips c connections [] sub = tt
skips c connections (x ∷ more) sub = inr sub

module _ {V T : Type 0} where
  abbrev pub AllAdopt : List (Standing V T) → List T → List (Standing V T) → Type 0
  AllAdopt old connections new = FoldsTo Adopts old connections new

  -- All connections that the places have had.
  abbrev pub all_had : List (Standing V T) → List T
  all_had places = flat_map (λ (s : Standing V T). s.had) places

  -- ---- each connection once

  had_in : (before : List (Standing V T)) (s : Standing V T) (after : List (Standing V T)) →
      all_had (before ++ s ∷ after) ≡ all_had before ++ (s.had ++ all_had after)
  had_in before s after = flat_map-append (λ (s : Standing V T). s.had) before (s ∷ after)

  one_more : (old : List (Standing V T)) (c : T) (new : List (Standing V T)) → Adopts old c new →
      IsPermutation (all_had new) (all_had old ++ c ∷ [])
  one_more old c new adopts =
      let p = adopts.place in
      let was = ap all_had adopts.was ∙ had_in adopts.before p adopts.after in
      let now = ap all_had adopts.now ∙ had_in adopts.before (with_one c p) adopts.after in
      let one = moved (all_had adopts.before) p.had (all_had adopts.after) c in
      subst (λ l. IsPermutation (all_had new) (l ++ c ∷ [])) (sym was)
      (subst (λ l. IsPermutation l ((all_had adopts.before ++ (p.had ++ all_had adopts.after)) ++ c ∷ [])) (sym now)
      one)

  pub each_once : (old : List (Standing V T)) (connections : List T) (new : List (Standing V T)) →
      AllAdopt old connections new → IsPermutation (all_had new) (all_had old ++ connections)
  each_once old [] new same =
      subst (λ l. IsPermutation (all_had new) l) (sym (append-nil (all_had old)))
      (subst (λ l. IsPermutation (all_had l) (all_had old)) same (IsPermutation-refl (all_had old)))
  each_once old (c ∷ connections) new all =
      let mid = all.0 in
      let rest = each_once mid connections new all.2 in
      let first = IsPermutation-append_left connections (all_had mid) (all_had old ++ c ∷ [])
      (one_more old c mid all.1) in
      subst (λ l. IsPermutation (all_had new) l) (append_assoc (all_had old) (c ∷ []) connections)
      (IsPermutation-trans (all_had new) (all_had mid ++ connections) ((all_had old ++ c ∷ []) ++ connections) rest
      first)

  -- ---- in order

  -- The place is as it was, and has had some of these connections more, in order.
  pub record HasMore (connections : List T) (old new : Standing V T) : Type 0 where
    pub start : new.start ≡ old.start
    pub more : List T
    pub had : new.had ≡ old.had ++ more
    pub ordered : IsSubsequenceOf more connections

  no_more : (places : List (Standing V T)) → Each2 (HasMore []) places places
  no_more [] = tt
  no_more (s ∷ places) =
      (record { start = refl; more = []; had = sym (append-nil s.had); ordered = tt }, no_more places)

  later : (c : T) (connections : List T) (old new : Standing V T) → HasMore connections old new →
      HasMore (c ∷ connections) old new
  later c connections old new has = record {
    start = has.start;
    more = has.more;
    had = has.had;
    ordered = skips c connections has.more has.ordered;
  }

  all_later : (c : T) (connections : List T) (old new : List (Standing V T)) → Each2 (HasMore connections) old new →
      Each2 (HasMore (c ∷ connections)) old new
  all_later c connections [] [] each = tt
  all_later c connections [] (y ∷ ys) each = absurd each
  all_later c connections (x ∷ xs) [] each = absurd each
  all_later c connections (x ∷ xs) (y ∷ ys) each =
      (later c connections x y each.0, all_later c connections xs ys each.1)

  adopted : (c : T) (connections : List T) (before : List (Standing V T)) (s : Standing V T)
      (after new : List (Standing V T)) → Each2 (HasMore connections) (before ++ with_one c s ∷ after) new →
      Each2 (HasMore (c ∷ connections)) (before ++ s ∷ after) new
  adopted c connections [] s after [] each = absurd each
  adopted c connections [] s after (y ∷ ys) each =
      let has = each.0 in (
        record {
          start = has.start;
          more = c ∷ has.more;
          had = has.had ∙ append_assoc s.had (c ∷ []) has.more;
          ordered = inl (refl, has.ordered);
        },
        all_later c connections after ys each.1,
      )
  adopted c connections (x ∷ before) s after [] each = absurd each
  adopted c connections (x ∷ before) s after (y ∷ ys) each =
      (later c connections x y each.0, adopted c connections before s after ys each.1)

  pub in_order : (old : List (Standing V T)) (connections : List T) (new : List (Standing V T)) →
      AllAdopt old connections new → Each2 (HasMore connections) old new
  in_order old [] new same = subst (λ l. Each2 (HasMore []) old l) same (no_more old)
  in_order old (c ∷ connections) new all =
      let step = all.1 in
      let rest = in_order all.0 connections new all.2 in
      subst (λ l. Each2 (HasMore (c ∷ connections)) l new) (sym step.was)
      (adopted c connections step.before step.place step.after new
      (subst (λ l. Each2 (HasMore connections) l new) step.now rest))

  -- ---- one place alone

  only_at : (s : Standing V T) (c : T) (new before : List (Standing V T)) (place : Standing V T)
      (after : List (Standing V T)) → s ∷ [] ≡ before ++ place ∷ after → new ≡ before ++ with_one c place ∷ after →
      new ≡ with_one c s ∷ []
  only_at s c new [] place after was now = grind arith
  only_at s c new (x ∷ []) place after was now = grind arith
  only_at s c new (x ∷ y ∷ before) place after was now = grind arith

  only : (s : Standing V T) (c : T) (new : List (Standing V T)) → Adopts (s ∷ []) c new → new ≡ with_one c s ∷ []
  only s c new adopts = only_at s c new adopts.before adopts.place adopts.after adopts.was adopts.now

  pub alone : (s : Standing V T) (connections : List T) (new : List (Standing V T)) →
      AllAdopt (s ∷ []) connections new → all_had new ≡ s.had ++ connections
  alone s [] new same = ap all_had (sym same)
  alone s (c ∷ connections) new all =
      let first = only s c all.0 all.1 in
      alone (with_one c s) connections new (subst (λ l. AllAdopt l connections new) first all.2)
      ∙ append_assoc s.had (c ∷ []) connections
