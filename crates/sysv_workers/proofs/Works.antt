-- What a worker does, step by step.
use Rattle.std.proofs.Common.{◌≡◌, ℕ, ◌+◌, ◌≤◌, Bool, false, true, List, [], ◌∷◌, ◌++◌, map, refl, sym, ap, ◌∙◌, subst}
use Rattle.std.proofs.Common.{arith, length-append}
use Rattle.std.specs.Prelude.{min, ◌^◌, ◌-◌}
use Rattle.std.proofs.lemmas.List.{append-nil, map-append}
use Rattle.std.specs.List.{FoldsTo}
use Rattle.std.proofs.lemmas.Fn.{FoldsTo-push}
use mathlib.Core.Bool.{true≢false}
use Rattle.sysv_buffer.specs.Ends.{Buffered}
use Rattle.sysv_buffer.specs.ManyEnds.{Holding, Looks, Takes}
use Rattle.sysv_workers.specs.declared.feed.Feed.{Feed}
use Rattle.sysv_workers.specs.declared.feed.Feed.TheVariants.{Item, End}
use Rattle.sysv_workers.specs.Feeding.{Reads, Rises, items_in, mark}
use Rattle.sysv_workers.specs.Doing.{Doing, Did}
use Rattle.sysv_workers.proofs.Feeds.{reads_longer, reads_both, items_of_worker}
use Rattle.sysv_workers.specs.Parts.{IsSubsequenceOf}
use Rattle.sysv_workers.proofs.InOrder.{rises_push, in_order_put}

-- One more item was taken.
took : {A : Type 0} (x : A) (xs : List A) (h h' : Holding A) → Reads h.seen h.takes xs → Takes x h h' →
    Reads h'.seen h'.takes (xs ++ x ∷ [])
took x xs h h' r t =
    let longer = reads_longer h.seen t.more h.takes xs r in
    let P : List ℕ → Type 0 = λ ks. Reads h'.seen ks (xs ++ x ∷ []) in
    subst P (sym t.takes) (reads_both h'.seen h.takes (t.place ∷ []) xs (x ∷ [])
    (subst (λ l. Reads l h.takes xs) (sym t.seen) longer) (t.at, tt))

-- The places still rise.
takes_rise : {A : Type 0} (x : A) (h h' : Holding A) → Rises h.takes → Takes x h h' → Rises h'.takes
takes_rise x h h' r t = subst Rises (sym t.takes) (rises_push h.takes t.place r t.later)

module _ {W T : Type 0} (runs : W → T → W → Type 0) (fits : W → Type 0) (buffer : Buffered) (before : W) where
  pub began : (h : Holding (Feed T)) → h.buffer ≡ buffer → h.takes ≡ [] → fits before →
      Doing runs fits buffer before before h 0
  began h same none ok = record {
    items = [];
    folds = refl;
    still = ok;
    place = same;
    reads = subst (λ ks. Reads h.seen ks []) (sym none) tt;
    rises = subst Rises (sym none) tt;
    count = refl;
  }

  pub ran_item : (s s' : W) (x : T) (f : Feed T) (h h' : Holding (Feed T)) (n n' : ℕ) →
      Doing runs fits buffer before s h n → f ≡ Item x → Takes f h h' → h'.buffer ≡ buffer → runs s x s' → fits s' →
      n' ≡ min (n + 1) (2 ^ 64 - 1) → Doing runs fits buffer before s' h' n'
  ran_item s s' x f h h' n n' d is t same run ok up = record {
    items = d.items ++ x ∷ [];
    folds = FoldsTo-push runs before d.items s x s' d.folds run;
    still = ok;
    place = same;
    reads = subst (λ l. Reads h'.seen h'.takes l) (sym (map-append Item d.items (x ∷ [])))
        (took (Item x) _ h h' d.reads (subst (λ y. Takes y h h') is t));
    rises = takes_rise f h h' d.rises t;
    count = let c = d.count in let l = length-append d.items (x ∷ []) in omega arith;
  }

  pub ran_end : (s : W) (f : Feed T) (h h' : Holding (Feed T)) (n : ℕ) → Doing runs fits buffer before s h n → f ≡ End →
      Takes f h h' → h'.buffer ≡ buffer → Did runs fits buffer before true s h' n
  ran_end s f h h' n d is t same =
      let reads : Reads h'.seen h'.takes (map Item d.items ++ mark true) =
      took End _ h h' d.reads (subst (λ y. Takes y h h') is t) in
      record {
        items = d.items;
        folds = d.folds;
        still = d.still;
        place = same;
        reads = reads;
        ordered = in_order_put h'.seen h'.takes _ d.items reads (takes_rise f h h' d.rises t)
            (items_of_worker d.items true);
        count = d.count;
        worn = λ e. absurd (true≢false e);
      }

  pub ran_out : (s : W) (h h' : Holding (Feed T)) (n : ℕ) → Doing runs fits buffer before s h n → Looks h h' →
      h'.buffer ≡ buffer → 2 ^ 62 ≤ h'.gone → Did runs fits buffer before false s h' n
  ran_out s h h' n d l same far =
      let reads : Reads h'.seen h'.takes (map Item d.items ++ mark false) =
      subst (λ xs. Reads h'.seen h'.takes xs) (sym (append-nil (map Item d.items)))
      (subst (λ ks. Reads h'.seen ks (map Item d.items)) (sym l.takes)
      (subst (λ m. Reads m h.takes (map Item d.items)) (sym l.seen)
      (reads_longer h.seen l.more h.takes (map Item d.items) d.reads))) in
      record {
        items = d.items;
        folds = d.folds;
        still = d.still;
        place = same;
        reads = reads;
        ordered = in_order_put h'.seen h'.takes _ d.items reads (subst Rises (sym l.takes) d.rises)
            (items_of_worker d.items false);
        count = d.count;
        worn = λ _. far;
      }

  pub same_did : (b b' : Bool) (s s' : W) (h h' : Holding (Feed T)) (n n' : ℕ) →
      (s' ≡ s) × (h' ≡ h) × (n' ≡ n) × (b' ≡ b) → Did runs fits buffer before b s h n →
      Did runs fits buffer before b' s' h' n'
  same_did b b' s s' h h' n n' e d = record {
    items = d.items;
    folds = subst (λ x. FoldsTo runs before d.items x) (sym e.0) d.folds;
    still = subst fits (sym e.0) d.still;
    place = ap (λ (x : Holding (Feed T)). x.buffer) e.1 ∙ d.place;
    reads = subst (λ (x : Holding (Feed T)). Reads x.seen x.takes (map Item d.items ++ mark b')) (sym e.1)
        (subst (λ x. Reads h.seen h.takes (map Item d.items ++ mark x)) (sym e.3) d.reads);
    ordered = subst (λ (x : Holding (Feed T)). IsSubsequenceOf d.items (items_in x.seen)) (sym e.1) d.ordered;
    count = e.2 ∙ d.count;
    worn = λ is. subst (λ (x : Holding (Feed T)). 2 ^ 62 ≤ x.gone) (sym e.1) (d.worn (sym e.3 ∙ is));
  }
