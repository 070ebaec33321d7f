-- How the list of items put grows, and what is read of it.
use Rattle.std.proofs.Common.{◌≡◌, inl, inr, ℕ, zero, suc, ◌+◌, ◌≤◌, Bool, false, true, List, [], ◌∷◌, ◌++◌, length}
use Rattle.std.proofs.Common.{map, replicate, refl, sym, ap, ◌∙◌, arith, add-one, length-append, append_assoc}
use Rattle.std.proofs.lemmas.List.{append-nil, map-append}
use mathlib.Core.Option.{some, some-ne-none}
use lib.ListN.{get_elem?}
use Rattle.sysv_buffer.specs.ManyEnds.{Holding, Puts, Looks}
use Rattle.sysv_workers.specs.declared.feed.Feed.{Feed}
use Rattle.sysv_workers.specs.declared.feed.Feed.TheVariants.{Item, End}
use Rattle.std.specs.Prelude.{◌^◌}
use Rattle.sysv_workers.specs.Feeding.{Reads, items_in, mark, fed, HasFed, IsMarked}

module _ {A : Type 0} where
  pub nil_of : (xs : List A) → length xs ≡ 0 → xs ≡ []
  nil_of [] e = refl
  nil_of (x ∷ xs) e = absurd (omega arith)

  at_longer : (list more : List A) (k : ℕ) (x : A) → get_elem? list k ≡ some x → get_elem? (list ++ more) k ≡ some x
  at_longer [] more k x at = absurd (some-ne-none x (sym at))
  at_longer (y ∷ list) more zero x at = at
  at_longer (y ∷ list) more (suc k) x at = at_longer list more k x at

  -- What is read stays the same as the list grows.
  pub reads_longer : (list more : List A) (ks : List ℕ) (xs : List A) → Reads list ks xs → Reads (list ++ more) ks xs
  reads_longer list more [] [] r = tt
  reads_longer list more [] (x ∷ xs) r = r
  reads_longer list more (k ∷ ks) [] r = r
  reads_longer list more (k ∷ ks) (x ∷ xs) r = (at_longer list more k x r.0, reads_longer list more ks xs r.1)

  pub reads_both : (list : List A) (ks js : List ℕ) (xs ys : List A) → Reads list ks xs → Reads list js ys →
      Reads list (ks ++ js) (xs ++ ys)
  reads_both list [] js [] ys r t = t
  reads_both list [] js (x ∷ xs) ys r t = absurd r
  reads_both list (k ∷ ks) js [] ys r t = absurd r
  reads_both list (k ∷ ks) js (x ∷ xs) ys r t = (r.0, reads_both list ks js xs ys r.1 t)

  pub reads_length : (list : List A) (ks : List ℕ) (xs : List A) → Reads list ks xs → length ks ≡ length xs
  reads_length list [] [] r = refl
  reads_length list [] (x ∷ xs) r = absurd r
  reads_length list (k ∷ ks) [] r = absurd r
  reads_length list (k ∷ ks) (x ∷ xs) r = ap suc (reads_length list ks xs r.1)

  pub replicate_push : (n : ℕ) (x : A) → replicate n x ++ x ∷ [] ≡ x ∷ replicate n x
  replicate_push zero x = refl
  replicate_push (suc n) x = ap (λ l. x ∷ l) (replicate_push n x)

module _ {T : Type 0} where
  pub items_in-append : (fs gs : List (Feed T)) → items_in (fs ++ gs) ≡ items_in fs ++ items_in gs
  items_in-append [] gs = refl
  items_in-append (Item x ∷ fs) gs = ap (λ l. x ∷ l) (items_in-append fs gs)
  items_in-append (End ∷ fs) gs = items_in-append fs gs

  pub items_of_worker : (xs : List T) (b : Bool) → items_in (map Item xs ++ mark b) ≡ xs
  items_of_worker [] true = refl
  items_of_worker [] false = refl
  items_of_worker (x ∷ xs) b = ap (λ l. x ∷ l) (items_of_worker xs b)

  item_at_end : (xs : List T) (x : T) → (fed xs 0 ++ []) ++ Item x ∷ [] ≡ fed (xs ++ x ∷ []) 0
  item_at_end xs x = simp (append-nil, map-append)

  mark_at_end : (xs : List T) (n : ℕ) → (fed xs n ++ []) ++ End ∷ [] ≡ fed xs (n + 1)
  mark_at_end xs n =
      ap (λ l. l ++ End ∷ []) (append-nil (fed xs n))
      ∙ (append_assoc (map Item xs) (replicate n End) (End ∷ [])
      ∙ ap (λ l. map Item xs ++ l) (replicate_push n End ∙ ap (λ k. replicate k End) (sym (add-one n))))

  -- A seat has seen no less afterwards.
  pub grown_longer : (h h' : Holding (Feed T)) (more : List (Feed T)) → h'.seen ≡ h.seen ++ more →
      length h.seen ≤ length h'.seen
  grown_longer h h' more is = let long = ap length is ∙ length-append h.seen more in omega arith

  pub looks_longer : (h h' : Holding (Feed T)) → Looks h h' → length h.seen ≤ length h'.seen
  looks_longer h h' l = let long = ap length l.seen ∙ length-append h.seen l.more in omega arith

  -- One more item was put.
  pub fed_item : (xs : List T) (x : T) (h h' : Holding (Feed T)) → HasFed xs 0 h → Puts (Item x) h h' →
      HasFed (xs ++ x ∷ []) 0 h'
  fed_item xs x h h' f p =
      let long = ap length p.seen ∙ length-append (h.seen ++ p.others) (Item x ∷ []) in
      let before = length-append h.seen p.others in
      let most = f.most in
      let one = length-append xs (x ∷ []) in
      record {
        most = omega arith;
        all = λ e.
            let none : p.others ≡ [] = nil_of p.others (omega arith) in
            let whole : h.seen ≡ fed xs 0 = f.all (omega arith) in
            p.seen
            ∙ (ap (λ l. (h.seen ++ l) ++ Item x ∷ []) none
            ∙ (ap (λ l. (l ++ []) ++ Item x ∷ []) whole ∙ item_at_end xs x));
      }

  -- One more end mark was put.
  pub fed_mark : (xs : List T) (n : ℕ) (h h' : Holding (Feed T)) → HasFed xs n h → Puts End h h' → HasFed xs (n + 1) h'
  fed_mark xs n h h' f p =
      let long = ap length p.seen ∙ length-append (h.seen ++ p.others) (End ∷ []) in
      let before = length-append h.seen p.others in
      let most = f.most in
      record {
        most = omega arith;
        all = λ e.
            let none : p.others ≡ [] = nil_of p.others (omega arith) in
            let whole : h.seen ≡ fed xs n = f.all (omega arith) in
            p.seen
            ∙ (ap (λ l. (h.seen ++ l) ++ End ∷ []) none ∙ (ap (λ l. (l ++ []) ++ End ∷ []) whole ∙ mark_at_end xs n));
      }

  -- The seat has seen more.
  pub fed_longer : (xs : List T) (n : ℕ) (h h' : Holding (Feed T)) (more : List (Feed T)) → h'.seen ≡ h.seen ++ more →
      HasFed xs n h → HasFed xs n h'
  fed_longer xs n h h' more is f =
      let long = ap length is ∙ length-append h.seen more in
      let most = f.most in
      record {
        most = omega arith;
        all = λ e.
            let none : more ≡ [] = nil_of more (omega arith) in
            is ∙ (ap (λ l. h.seen ++ l) none ∙ (append-nil h.seen ∙ f.all (omega arith)));
      }

  -- If no mark was refused, there are as many as were to be put.
  pub marked : (put : Bool) (n : ℕ) (h h' : Holding (Feed T)) →
      (put ≡ true → (given : List T) → HasFed given 0 h → HasFed given n h') → (put ≡ false → 2 ^ 62 ≤ length h'.seen) →
      IsMarked n h'
  marked true n h h' all worn = inl (all refl [] (record { most = omega arith; all = λ e. nil_of h.seen e }))
  marked false n h h' all worn = inr (worn refl)
