-- The running threads: one more, one fewer, and what is collected of them.
use Rattle.std.proofs.Common.{◌≡◌, ℕ, suc, ◌+◌, ◌<◌, ◌&&◌, ◌⊎◌, inl, inr, ⊎_elim, Bool, false, true, List, [], ◌∷◌}
use Rattle.std.proofs.Common.{◌++◌, length, map, reverse, refl, sym, ap, ◌∙◌, subst, arith, length-append, append_assoc}
use Rattle.std.specs.Prelude.{min, ◌^◌, ◌-◌}
use Rattle.std.specs.List.{All, FoldsTo, flat_map, slice_index_or}
use Rattle.std.proofs.lemmas.List.{append-nil, length-reverse, map-append, reverse-append, reverse-reverse}
use Rattle.std.proofs.lemmas.List.{get_or_append_left}
use Rattle.std.proofs.lemmas.List.Concat.{flat_map-append}
use Rattle.std.proofs.lemmas.List.Elements.{All-push}
use Rattle.std.specs.declared.thread.PromisedHandle.{PromisedHandle}
use Rattle.sysv_buffer.specs.Ends.{Buffered}
use Rattle.sysv_buffer.specs.ManyEnds.{Holding, Joins}
use Rattle.sysv_workers.specs.declared.feed.Feed.{Feed}
use Rattle.sysv_workers.specs.declared.feed.Feed.TheVariants.{Item, End}
use Rattle.sysv_workers.specs.declared.worker.Done.{Done}
use Rattle.sysv_workers.specs.declared.worker.Working.{Working}
use Rattle.sysv_workers.specs.Teams.{Assigned, assigned_to, AreOn}
use Rattle.sysv_workers.specs.Doing.{Did, Gathered}
use Rattle.sysv_workers.specs.Feeding.{Reads, items_in, mark}
use Rattle.sysv_workers.specs.Parts.{Part, IsSubsequenceOf}
use Rattle.sysv_workers.proofs.Feeds.{reads_longer, reads_both, items_in-append, items_of_worker}
use Rattle.sysv_workers.proofs.InOrder.{still_in_order}

pub map_length : {A B : Type 0} (f : A → B) (xs : List A) → length (map f xs) ≡ length xs
map_length f [] = refl
map_length f (x ∷ xs) = ap suc (map_length f xs)

module _ {A : Type 0} where
  snocs : (xs ys : List A) (x y : A) → xs ++ x ∷ [] ≡ ys ++ y ∷ [] → (xs ≡ ys) × (x ≡ y)
  snocs xs ys x y same =
      let turned : x ∷ reverse xs ≡ y ∷ reverse ys =
      sym (reverse-append xs (x ∷ [])) ∙ ap reverse same ∙ reverse-append ys (y ∷ []) in
      let heads : x ≡ y = cc in
      let tails : reverse xs ≡ reverse ys = cc in
      (sym (reverse-reverse xs) ∙ ap reverse tails ∙ reverse-reverse ys, heads)

  -- What holds of all elements holds of all but the last.
  pub but_last : (P : A → Type 0) (xs ys : List A) (x : A) → ys ≡ xs ++ x ∷ [] → All P ys → All P xs
  but_last P xs ys x is all k d low =
      let far : k < length (xs ++ x ∷ []) = omega (arith, length-append xs (x ∷ [])) in
      subst P (get_or_append_left xs (x ∷ []) d k low) (subst (All P) is all k d far)

  -- One element moves from one list to another.
  pub moves : (all xs xs' ys : List A) (x : A) → all ≡ xs ++ ys → xs ≡ xs' ++ x ∷ [] → all ≡ xs' ++ x ∷ ys
  moves all xs xs' ys x is one = is ∙ (ap (λ l. l ++ ys) one ∙ append_assoc xs' (x ∷ []) ys)

  pub one_longer : (xs ys : List A) (x : A) → ys ≡ xs ++ x ∷ [] → length ys ≡ length xs + 1
  one_longer xs ys x is = ap length is ∙ length-append xs (x ∷ [])

  at_end : (xs : List A) (x d : A) → slice_index_or (xs ++ x ∷ []) (length xs) d ≡ x
  at_end [] x d = refl
  at_end (y ∷ xs) x d = at_end xs x d

  pub the_last : (P : A → Type 0) (xs ys : List A) (x : A) → ys ≡ xs ++ x ∷ [] → All P ys → P x
  the_last P xs ys x is all =
      let near : length xs < length (xs ++ x ∷ []) = omega (arith, length-append xs (x ∷ [])) in
      subst P (at_end xs x x) (subst (All P) is all (length xs) x near)

module _ {W T J : Type 0} (job : J) (buffer : Buffered) where
  -- One more thread runs.
  pub one_more : (rest : List W) (hs hs' : List (PromisedHandle (Done W T) (Working W T J))) (w : W)
      (h : PromisedHandle (Done W T) (Working W T J)) → AreOn job buffer rest hs → hs' ≡ hs ++ h ∷ []
      → (h.promise.state.value ≡ w) × (h.promise.job.value ≡ job) × (h.promise.buffer.value ≡ buffer)
      → AreOn job buffer (w ∷ rest) hs'
  one_more rest hs hs' w h on is e =
      let same : assigned_to h ≡ record { state = w; job = job; buffer = buffer } = cc in
      ap (map assigned_to) is
      ∙ (map-append assigned_to hs (h ∷ [])
      ∙ (ap (λ l. l ++ assigned_to h ∷ []) on
      ∙ (ap (λ a. map (λ v. record { state = v; job = job; buffer = buffer }) (reverse rest) ++ a ∷ []) same
      ∙ sym
      (ap (map (λ (v : W). record { state = v; job = job; buffer = buffer })) (reverse-append (w ∷ []) rest)
      ∙ map-append (λ (v : W). record { state = v; job = job; buffer = buffer }) (reverse rest) (w ∷ [])))))

  -- One thread fewer runs.
  pub one_fewer : (left : List W) (hs hs' : List (PromisedHandle (Done W T) (Working W T J)))
      (h : PromisedHandle (Done W T) (Working W T J)) → AreOn job buffer left hs → hs ≡ hs' ++ h ∷ []
      → (w : W) × (rest : List W) × (left ≡ w ∷ rest) × AreOn job buffer rest hs' × (h.promise.state.value ≡ w)
      × (h.promise.job.value ≡ job) × (h.promise.buffer.value ≡ buffer)
  one_fewer [] hs hs' h on is =
      let long = ap length is ∙ length-append hs' (h ∷ []) in
      let none = sym (map_length assigned_to hs) ∙ ap length on in absurd (omega arith)
  one_fewer (w ∷ rest) hs hs' h on is =
      let f : W → Assigned W J = λ v. record { state = v; job = job; buffer = buffer } in
      let split : map f (reverse (w ∷ rest)) ≡ map f (reverse rest) ++ f w ∷ [] =
      ap (map f) (reverse-append (w ∷ []) rest) ∙ map-append f (reverse rest) (w ∷ []) in
      let both = snocs (map assigned_to hs') (map f (reverse rest)) (assigned_to h) (f w)
      (sym (map-append assigned_to hs' (h ∷ [])) ∙ (ap (map assigned_to) (sym is) ∙ (on ∙ split))) in (
        w,
        rest,
        refl,
        both.0,
        ap (λ (a : Assigned W J). a.state) both.1,
        ap (λ (a : Assigned W J). a.job) both.1,
        ap (λ (a : Assigned W J). a.buffer) both.1,
      )

  pub on_length : (left : List W) (hs : List (PromisedHandle (Done W T) (Working W T J))) → AreOn job buffer left hs →
      length hs ≡ length left
  on_length left hs on = sym (map_length assigned_to hs)
      ∙ (ap length on
      ∙ (map_length (λ (v : W). record { state = v; job = job; buffer = buffer }) (reverse left) ∙ length-reverse left))

  pub none_left : (left : List W) (hs : List (PromisedHandle (Done W T) (Working W T J))) → AreOn job buffer left hs →
      hs ≡ [] → left ≡ []
  none_left [] hs on is = refl
  none_left (w ∷ left) hs on is =
      let long = on_length (w ∷ left) hs on in let none = ap length is in absurd (omega arith)

-- If two are not both true, one of them is false.
either_false : (a b : Bool) → (a && b) ≡ false → (a ≡ false) ⊎ (b ≡ false)
either_false true b is = inr is
either_false false b is = inl refl

both_true : (a b : Bool) → (a && b) ≡ true → (a ≡ true) × (b ≡ true)
both_true true true is = (refl, refl)
both_true true false is = cc
both_true false b is = cc

module _ {T : Type 0} where
  feeds_of_worker : (xs : List T) (b : Bool) → b ≡ true → length (map Item xs ++ mark b) ≡ length xs + 1
  feeds_of_worker xs b is = ap (λ (v : Bool). length (map Item xs ++ mark v)) is
      ∙ (length-append (map Item xs) (End ∷ []) ∙ ap (λ n. n + 1) (map_length Item xs))

module _ {W T : Type 0} where
  -- The part of one more worker is collected.
  pub gathers : (runs : W → T → W → Type 0) (fits : W → Type 0) (buffer : Buffered) (others : List W)
      (parts : List (Part W T)) (h theirs h' : Holding (Feed T)) (states states' : List W) (ran ran' its : ℕ)
      (ended ended' end : Bool) (before after : W)
      → Gathered runs fits others parts h states ran ended → Did runs fits buffer before end after theirs its
      → Joins h theirs h' → states' ≡ states ++ after ∷ []
      → (ran' ≡ min (ran + its) (2 ^ 64 - 1)) × (ended' ≡ (ended && end))
      → (part : Part W T) × (part.before ≡ before)
      × Gathered runs fits others (parts ++ part ∷ []) h' states' ran' ended'
  gathers runs fits buffer others parts h theirs h' states states' ran ran' its ended ended' end before after g d j more
      tally =
      let part : Part W T = record { before = before; items = d.items; after = after } in
      let own : List (Feed T) = map Item d.items ++ mark end in
      let ran_by : Part W T → Type 0 = λ p. FoldsTo runs p.before p.items p.after in
      let kept : Part W T → Type 0 = λ p. IsSubsequenceOf p.items (items_in h'.seen) in
      let flat : flat_map (λ (p : Part W T). p.items) (parts ++ part ∷ [])
      ≡ flat_map (λ (p : Part W T). p.items) parts ++ d.items =
      flat_map-append (λ (p : Part W T). p.items) parts (part ∷ [])
      ∙ ap (λ l. flat_map (λ (p : Part W T). p.items) parts ++ l) (append-nil d.items) in
      let long = ap length flat ∙ length-append (flat_map (λ (p : Part W T). p.items) parts) d.items in
      let P : List (Feed T) → List ℕ → Type 0 = λ l ks. Reads l ks (g.feeds ++ own) in
      let first : Reads h'.seen h.takes g.feeds = subst (λ (l : List (Feed T)). Reads l h.takes g.feeds)
      (sym j.begins_one.1) (reads_longer h.seen j.begins_one.0 h.takes g.feeds g.reads) in
      let second : Reads h'.seen theirs.takes own = subst (λ (l : List (Feed T)). Reads l theirs.takes own)
      (sym j.begins_two.1) (reads_longer theirs.seen j.begins_two.0 theirs.takes own d.reads) in (
        part,
        refl,
        record {
          left = more
              ∙ (ap (λ l. l ++ after ∷ []) g.left
              ∙ (append_assoc others (map (λ (p : Part W T). p.after) parts) (after ∷ [])
              ∙ ap (λ l. others ++ l) (sym (map-append (λ (p : Part W T). p.after) parts (part ∷ [])))));
          folds = All-push ran_by parts part g.folds d.folds;
          still = subst (All fits) (sym more) (All-push fits states after g.still d.still);
          feeds = g.feeds ++ own;
          reads = subst (λ (ks : List ℕ). Reads h'.seen ks (g.feeds ++ own)) (sym j.takes)
              (reads_both h'.seen h.takes theirs.takes g.feeds own first second);
          items = items_in-append g.feeds own
              ∙ (ap (λ l. l ++ items_in own) g.items
              ∙ (ap (λ l. flat_map (λ (p : Part W T). p.items) parts ++ l) (items_of_worker d.items end) ∙ sym flat));
          ordered = All-push kept parts part
              (λ k p low. still_in_order _ h.seen h'.seen j.begins_one (g.ordered k p low))
              (still_in_order d.items theirs.seen h'.seen j.begins_two d.ordered);
          count = λ is.
              let t = both_true ended end (sym tally.1 ∙ is) in
              let a = g.count t.0 in
              let b = feeds_of_worker d.items end t.1 in
              omega (arith, length-append g.feeds own, length-append parts (part ∷ []));
          worn = λ is. ⊎_elim
              (λ one.
              let far = g.worn one in
              let long = ap length j.begins_one.1 ∙ length-append h.seen j.begins_one.0 in
              omega arith)
              (λ two. let far = d.worn two in let low = j.gone_two in omega arith)
              (either_false ended end (sym tally.1 ∙ is));
          total = let a = g.total in let b = d.count in let t = tally.0 in omega arith;
        },
      )

module _ {W T J : Type 0} (runs : J → W → T → W → Type 0) (fits : J → W → Type 0) (buffer : Buffered) (job : J)
    (others : List W) (parts : List (Part W T)) (rest : List W) where
  -- Some of the threads on these states were joined, and the others are left.
  pub record Joining (hs : List (PromisedHandle (Done W T) (Working W T J))) (h : Holding (Feed T)) (states : List W)
      (ran : ℕ) (ended : Bool) : Type 0 where
    pub more : List (Part W T)
    pub left : List W
    pub all : rest ≡ map (λ p. p.before) more ++ left
    pub on : AreOn job buffer left hs
    pub so : Gathered (runs job) (fits job) others (parts ++ more) h states ran ended

  pub none_joined : (hs : List (PromisedHandle (Done W T) (Working W T J))) (h : Holding (Feed T)) (states : List W)
      (ran : ℕ) (ended : Bool) → AreOn job buffer rest hs →
      Gathered (runs job) (fits job) others parts h states ran ended → Joining hs h states ran ended
  none_joined hs h states ran ended on so = record {
    more = [];
    left = rest;
    all = refl;
    on = on;
    so = subst (λ (ps : List (Part W T)). Gathered (runs job) (fits job) others ps h states ran ended)
        (sym (append-nil parts)) so;
  }

  pub one_joined : (hs hs' : List (PromisedHandle (Done W T) (Working W T J)))
      (p : PromisedHandle (Done W T) (Working W T J)) (h theirs h' : Holding (Feed T)) (states states' : List W)
      (ran ran' its : ℕ) (ended ended' end : Bool) (after : W)
      → Joining hs h states ran ended → hs ≡ hs' ++ p ∷ []
      → Did (runs p.promise.job.value) (fits p.promise.job.value) p.promise.buffer.value p.promise.state.value end after
      theirs its
      → Joins h theirs h' → states' ≡ states ++ after ∷ []
      → (ran' ≡ min (ran + its) (2 ^ 64 - 1)) × (ended' ≡ (ended && end)) → Joining hs' h' states' ran' ended'
  one_joined hs hs' p h theirs h' states states' ran ran' its ended ended' end after i is d j more tally =
      let one = one_fewer job buffer i.left hs hs' p i.on is in
      let P : Assigned W J → Type 0 = λ a. Did (runs a.job) (fits a.job) a.buffer a.state end after theirs its in
      let same : assigned_to p ≡ record { state = one.0; job = job; buffer = buffer } =
      (let a = one.4 in let b = one.5 in let c = one.6 in cc) in
      let did : Did (runs job) (fits job) buffer one.0 end after theirs its = subst P same d in
      let go = gathers (runs job) (fits job) buffer others (parts ++ i.more) h theirs h' states states' ran ran' its
      ended ended' end one.0 after i.so did j more tally in
      record {
        more = i.more ++ go.0 ∷ [];
        left = one.1;
        all =
            i.all
            ∙ (ap (λ l. map (λ (q : Part W T). q.before) i.more ++ l) one.2
            ∙ (ap (λ w. map (λ (q : Part W T). q.before) i.more ++ w ∷ one.1) (sym go.1)
            ∙ (sym (append_assoc (map (λ (q : Part W T). q.before) i.more) (go.0.before ∷ []) one.1)
            ∙ ap (λ l. l ++ one.1) (sym (map-append (λ (q : Part W T). q.before) i.more (go.0 ∷ []))))));
        on = one.3;
        so = subst (λ (ps : List (Part W T)). Gathered (runs job) (fits job) others ps h' states' ran' ended')
            (append_assoc parts i.more (go.0 ∷ [])) go.2;
      }

  pub all_joined : (hs : List (PromisedHandle (Done W T) (Working W T J))) (h : Holding (Feed T)) (states : List W)
      (ran : ℕ) (ended : Bool) → Joining hs h states ran ended → hs ≡ []
      → (more : List (Part W T)) × (map (λ p. p.before) more ≡ rest)
      × Gathered (runs job) (fits job) others (parts ++ more) h states ran ended
  all_joined hs h states ran ended i is =
      let none = none_left job buffer i.left hs i.on is in (
        i.more,
        sym (i.all
            ∙ (ap (λ l. map (λ (q : Part W T). q.before) i.more ++ l) none
            ∙ append-nil (map (λ (q : Part W T). q.before) i.more))),
        i.so,
      )
