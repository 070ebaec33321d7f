-- What is known of a run after all workers have ended.
use Rattle.std.proofs.Common.{◌≡◌, ◌≢◌, ◌⊎◌, inl, inr, ⊎_elim, ℕ, ◌+◌, ◌≤◌, true, false, Bool, Option, Some, None, List}
use Rattle.std.proofs.Common.{[], ◌∷◌, ◌++◌, length, map, refl, sym, ap, ◌∙◌, subst, arith, length-append}
use Rattle.std.specs.Prelude.{min, ◌^◌, ◌-◌, IfSome, IfNone}
use mathlib.Core.Bool.{true≢false}
use Rattle.std.specs.List.{All, FoldsTo, flat_map}
use Rattle.std.specs.List.Sorted.{IsPermutation}
use Rattle.std.proofs.lemmas.List.{append-nil, map-append}
use Rattle.std.proofs.lemmas.List.Elements.{All-append, All-cons, All-tail}
use Rattle.sysv_buffer.specs.ManyEnds.{Holding, HasItsOwn, Looks}
use Rattle.sysv_workers.specs.declared.feed.Feed.{Feed}
use Rattle.sysv_workers.specs.Doing.{Gathered}
use Rattle.sysv_workers.specs.Feeding.{counted, Reads, items_in, HasFed}
use Rattle.sysv_workers.specs.Parts.{Part, Leads, AreInOrder}
use Rattle.sysv_workers.specs.Causes.{Told, HasCause}
use Rattle.sysv_workers.specs.Running.{GivesBack, LeavesSource, Ends, Fails}
use Rattle.sysv_workers.specs.Sources.{GivesAll, Returned}
use Rattle.sysv_workers.specs.declared.refusals.WorkersFault.{WorkersFault}
use Rattle.sysv_workers.specs.declared.refusals.WorkersFault.TheVariants.{BadCount, NoMemory, Thread, Worn, Missed}
use Rattle.sysv_workers.proofs.Feeds.{reads_longer, reads_length, looks_longer}
use Rattle.sysv_workers.proofs.RunningThreads.{map_length}
use Rattle.sysv_workers.proofs.AllPlacesRead.{apart, all_dealt, items_fed}
use Rattle.sysv_workers.proofs.InOrder.{still_in_order, one_in_order}

pub at_some : {A : Type 0} (P : A → Type 0) (o : Option A) (x : A) → o ≡ Some x → IfSome o P → P x
at_some P o x is p = subst (λ (r : Option _). IfSome r P) is p

pub at_none : {A : Type 0} (P : Type 0) (o : Option A) → o ≡ None → IfNone o P → P
at_none P o is p = subst (λ (r : Option _). IfNone r P) is p

module _ {W T : Type 0} (runs : W → T → W → Type 0) (fits : W → Type 0) where
  RanBy : Part W T → Type 0
  RanBy p = FoldsTo runs p.before p.items p.after

  -- No worker has ended yet.
  pub none_gathered : (others : List W) (h : Holding (Feed T)) (states : List W) (ran : ℕ) (ended : Bool) →
      h.takes ≡ [] → states ≡ others → All fits others → ran ≡ 0 → ended ≡ true →
      Gathered runs fits others [] h states ran ended
  none_gathered others h states ran ended none same all zero not = record {
    left = same ∙ sym (append-nil others);
    folds = λ k d low. absurd (omega arith);
    still = subst (All fits) (sym same) all;
    feeds = [];
    reads = subst (λ (ks : List ℕ). Reads h.seen ks []) (sym none) tt;
    items = refl;
    ordered = λ k p low. absurd (omega arith);
    count = λ _. refl;
    worn = λ e. absurd (true≢false (sym not ∙ e));
    total = zero;
  }

  -- The seat sees more.
  pub gathered_looks : (others : List W) (parts : List (Part W T)) (h h' : Holding (Feed T)) (states : List W) (ran : ℕ)
      (ended : Bool) → Gathered runs fits others parts h states ran ended → Looks h h' →
      Gathered runs fits others parts h' states ran ended
  gathered_looks others parts h h' states ran ended g l = record {
    left = g.left;
    folds = g.folds;
    still = g.still;
    feeds = g.feeds;
    reads = subst (λ (ks : List ℕ). Reads h'.seen ks g.feeds) (sym l.takes)
        (subst (λ (m : List (Feed T)). Reads m h.takes g.feeds) (sym l.seen)
        (reads_longer h.seen l.more h.takes g.feeds g.reads));
    items = g.items;
    ordered = λ k p low. still_in_order _ h.seen h'.seen (l.more, l.seen) (g.ordered k p low);
    count = g.count;
    worn = λ e. let far = g.worn e in let low = looks_longer h h' l in omega arith;
    total = g.total;
  }

  -- All items of the source were run, each once. Each worker ran its items in the order of the
  -- source.
  pub dealt : (parts : List (Part W T)) (h : Holding (Feed T)) (states : List W) (ran : ℕ) (ended : Bool)
      (given : List T) (n put : ℕ) → Gathered runs fits [] parts h states ran ended → HasFed given n h → HasItsOwn h
      → ended ≡ true → length parts ≡ n → 1 ≤ n → ran ≡ counted (length given) → put ≡ length h.seen
      → put ≡ min (ran + n) (2 ^ 64 - 1)
      → IsPermutation (flat_map (λ p. p.items) parts) given × AreInOrder given parts
  dealt parts h states ran ended given n put g f own all parts_n some same is most =
      let flat : List T = flat_map (λ (p : Part W T). p.items) parts in
      let fed_most = f.most in
      let total = g.total in
      let long : length h.seen ≡ length given + n = omega arith in
      let whole = f.all long in
      let feeds : length g.feeds ≡ length flat + length parts = g.count all in
      let read = reads_length h.seen h.takes g.feeds g.reads in
      let apart' = apart h.takes own.1.once in
      let p : IsPermutation (items_in g.feeds) (items_in h.seen) =
      all_dealt g.feeds h.seen h.takes g.reads apart' (omega arith) in
      let same : items_in h.seen ≡ given = ap items_in whole ∙ items_fed given n in (
        subst (λ (l : List T). IsPermutation flat l) same
            (subst (λ (l : List T). IsPermutation l (items_in h.seen)) g.items p),
        subst (λ (l : List T). AreInOrder l parts) same g.ordered,
      )

  -- If no item was run, no state has changed.
  unchanged : (parts : List (Part W T)) → length (flat_map (λ p. p.items) parts) ≡ 0 → All RanBy parts →
      map (λ p. p.after) parts ≡ map (λ p. p.before) parts
  unfolding RanBy
  unchanged [] none all = refl
  unchanged (p ∷ ps) none all =
      let long = length-append p.items (flat_map (λ (q : Part W T). q.items) ps) in
      let same : p.after ≡ p.before = idle p.items p.before p.after (omega arith) (all 0 p (omega arith)) in
      ap (λ w. w ∷ map (λ (q : Part W T). q.after) ps) same
      ∙ ap (λ l. p.before ∷ l) (unchanged ps (omega arith) (All-tail RanBy p ps all))
    where
      idle : (xs : List T) (v w : W) → length xs ≡ 0 → FoldsTo runs v xs w → w ≡ v
      idle [] v w none f = sym f
      idle (x ∷ xs) v w none f = absurd (omega arith)

  pub all_unchanged : (others : List W) (parts : List (Part W T)) (h : Holding (Feed T)) (states : List W) (ran : ℕ)
      (ended : Bool) (rest : List W) → Gathered runs fits others parts h states ran ended → ran ≡ 0 →
      map (λ p. p.before) parts ≡ rest → states ≡ others ++ rest
  unfolding RanBy
  all_unchanged others parts h states ran ended rest g zero began =
      let total = g.total in
      g.left ∙ ap (λ l. others ++ l) (unchanged parts (omega arith) g.folds ∙ began)

  still_one : W → Part W T
  still_one w = record { before = w; items = []; after = w }

  befores : (ws : List W) → map (λ p. p.before) (map still_one ws) ≡ ws
  unfolding still_one
  befores [] = refl
  befores (w ∷ ws) = ap (λ l. w ∷ l) (befores ws)

  afters : (ws : List W) → map (λ p. p.after) (map still_one ws) ≡ ws
  unfolding still_one
  afters [] = refl
  afters (w ∷ ws) = ap (λ l. w ∷ l) (afters ws)

  rans : (ws : List W) → All RanBy (map still_one ws)
  unfolding RanBy still_one
  rans [] = λ k d low. absurd (omega arith)
  rans (w ∷ ws) = All-cons RanBy (still_one w) (map still_one ws) refl (rans ws)

  flats : (ws : List W) (ps : List (Part W T)) →
      flat_map (λ (p : Part W T). p.items) (map still_one ws ++ ps) ≡ flat_map (λ (p : Part W T). p.items) ps
  unfolding still_one
  flats [] ps = refl
  flats (w ∷ ws) ps = flats ws ps

  -- The parts of the workers that were started follow the states of those that were not.
  pub leads : (others : List W) (parts : List (Part W T)) (h : Holding (Feed T)) (states : List W) (ran : ℕ)
      (ended : Bool) (rest : List W)
      → Gathered runs fits others parts h states ran ended → map (λ p. p.before) parts ≡ rest
      → (all : List (Part W T)) × Leads runs (others ++ rest) all states
      × (length (flat_map (λ p. p.items) all) ≡ length (flat_map (λ p. p.items) parts))
  unfolding RanBy
  leads others parts h states ran ended rest g began = (
    map still_one others ++ parts,
    record {
      began = map-append (λ (p : Part W T). p.before) (map still_one others) parts
          ∙ (ap (λ l. l ++ map (λ (p : Part W T). p.before) parts) (befores others) ∙ ap (λ l. others ++ l) began);
      left = map-append (λ (p : Part W T). p.after) (map still_one others) parts
          ∙ (ap (λ l. l ++ map (λ (p : Part W T). p.after) parts) (afters others) ∙ sym g.left);
      ran = All-append RanBy (map still_one others) parts (rans others) g.folds;
    },
    ap length (flats others parts),
  )

  -- The causes of a refusal after threads were started.
  pub fails_early : {S : Type 0} (gives : S → Option T → S → Type 0) (before after : List W) (source : S)
      (why : WorkersFault) → (why ≡ Thread) ⊎ (why ≡ Missed) → GivesBack {T = T} runs before why after →
      All fits after → Fails {T = T} runs fits gives before source why after source
  fails_early gives before after source why cause back all = record {
    back = back;
    still = all;
    asked = ⊎_elim (λ (e : why ≡ Thread).
        subst (λ (y : WorkersFault). LeavesSource gives (length before) source y source) (sym e) refl)
        (λ (e : why ≡ Missed).
        subst (λ (y : WorkersFault). LeavesSource gives (length before) source y source) (sym e) ([], inr (refl, refl)))
        cause;
    count = λ is.
        ⊎_elim (λ (e : why ≡ Thread). let z : Thread ≡ BadCount = sym e ∙ is in cc)
        (λ (e : why ≡ Missed). let z : Missed ≡ BadCount = sym e ∙ is in cc) cause;
    memory = λ is.
        ⊎_elim (λ (e : why ≡ Thread). let z : Thread ≡ NoMemory = sym e ∙ is in cc)
        (λ (e : why ≡ Missed). let z : Missed ≡ NoMemory = sym e ∙ is in cc) cause;
  }

  pub fails_late : {S : Type 0} (gives : S → Option T → S → Type 0) (before after : List W) (source source' : S)
      (why : WorkersFault) (m : ℕ) → length before ≡ m →
      ((why ≡ Worn) × ((given : List T) × Returned gives source given source' × (2 ^ 62 ≤ length given + m)))
      ⊎ ((why ≡ Missed) × ((given : List T) × GivesAll gives source given source')) →
      (parts : List (Part W T)) × Leads runs before parts after → All fits after →
      Fails {T = T} runs fits gives before source why after source'
  fails_late gives before after source source' why m long cause led all = record {
    back = ⊎_elim (λ e. subst (λ (y : WorkersFault). GivesBack {T = T} runs before y after) (sym e.0) led)
        (λ e. subst (λ (y : WorkersFault). GivesBack {T = T} runs before y after) (sym e.0) led) cause;
    still = all;
    asked = ⊎_elim
        (λ e. subst (λ (y : WorkersFault). LeavesSource gives (length before) source y source') (sym e.0)
        (let far = e.1.2 in (e.1.0, e.1.1, omega arith)))
        (λ e. subst (λ (y : WorkersFault). LeavesSource gives (length before) source y source') (sym e.0)
        (e.1.0, inl e.1.1)) cause;
    count = λ is.
        ⊎_elim (λ e. let z : Worn ≡ BadCount = sym e.0 ∙ is in cc) (λ e. let z : Missed ≡ BadCount = sym e.0 ∙ is in cc)
        cause;
    memory = λ is.
        ⊎_elim (λ e. let z : Worn ≡ NoMemory = sym e.0 ∙ is in cc) (λ e. let z : Missed ≡ NoMemory = sym e.0 ∙ is in cc)
        cause;
  }

  module _ {S : Type 0} (gives : S → Option T → S → Type 0) (before after : List W) (source source' : S)
      (seat : Holding (Feed T)) (marks : ℕ) where
    -- The cause, if a thread was refused.
    pub cause_early : (why : WorkersFault) → source' ≡ source → (why ≡ Thread) ⊎ (why ≡ Missed)
        → (why ≡ Missed
        → (parts : List (Part W T)) × Leads runs before parts after × (1 ≤ length (flat_map (λ p. p.items) parts)))
        → HasCause runs gives before source marks why after source' seat
    cause_early why still which ran = ⊎_elim
        (λ e. subst (λ (y : WorkersFault). HasCause runs gives before source marks y after source' seat) (sym e) tt)
        (λ e.
        let m = ran e in
        let low = m.2 in
        subst (λ (y : WorkersFault). HasCause runs gives before source marks y after source' seat) (sym e)
        (record { parts = m.0; given = []; leads = m.1; gave = inr (refl, still); differs = inl (λ q. omega arith) }))
        which

    -- The cause, after all workers have ended.
    pub cause_late : (why : WorkersFault) (items : Option ℕ) (marked ended : Bool) (ran put m : ℕ)
        (parts : List (Part W T)) → m ≡ marks → Told items marked ended ran put m why
        → (items ≡ None → 2 ^ 62 ≤ length seat.seen) → (marked ≡ false → 2 ^ 62 ≤ length seat.seen)
        → (ended ≡ false → 2 ^ 62 ≤ length seat.seen)
        → ((n : ℕ) → items ≡ Some n
        → (given : List T) × GivesAll gives source given source' × (n ≡ counted (length given)))
        → put ≡ length seat.seen → ran ≡ counted (length (flat_map (λ p. p.items) parts))
        → Leads runs before parts after
        → HasCause runs gives before source marks why after source' seat
    cause_late BadCount items marked ended ran put m parts same told a b c gave is all led = told
    cause_late NoMemory items marked ended ran put m parts same told a b c gave is all led = told
    cause_late Thread items marked ended ran put m parts same told a b c gave is all led = absurd told
    cause_late Worn items marked ended ran put m parts same told a b c gave is all led =
        ⊎_elim a (λ t. ⊎_elim b c t.3) told
    cause_late Missed items marked ended ran put m parts same told a b c gave is all led =
        let s = gave told.0 told.1 in
        let n = s.2 in
        record {
          parts = parts;
          given = s.0;
          leads = led;
          gave = inl s.1;
          differs = ⊎_elim
              (λ t. ⊎_elim (λ d. inl (λ e. d (omega arith))) (λ d. inr (λ e. d (omega arith))) t.2)
              (λ t. inr (λ e. let few = t.0 in let far = ⊎_elim b c t.1 in absurd (omega arith))) told.2;
        }

    -- The items that the source returned if the buffer was worn out, before all of them were put or
    -- after that.
    returned : (items : Option ℕ) (marked ended : Bool) (m : ℕ)
        → (items ≡ None) ⊎ ((n : ℕ) × (items ≡ Some n) × (2 ^ 62 ≤ n + m) × ((marked ≡ false) ⊎ (ended ≡ false)))
        → (items ≡ None
        → (given : List T) × FoldsTo (λ s x s'. gives s (Some x) s') source given source' × (2 ^ 62 ≤ length given))
        → ((n : ℕ) → items ≡ Some n
        → (given : List T) × GivesAll gives source given source' × (n ≡ counted (length given)))
        → (given : List T) × Returned gives source given source' × (2 ^ 62 ≤ length given + m)
    returned items marked ended m (inl none) early gave =
        let e = early none in let far = e.2 in (e.0, inl e.1, omega arith)
    returned items marked ended m (inr some) early gave =
        let s = gave some.0 some.1 in let n = s.2 in let far = some.2 in (s.0, inr s.1, omega arith)

    -- What is known of the source after all workers have ended.
    pub late : (why : WorkersFault) (items : Option ℕ) (marked ended : Bool) (ran put m : ℕ)
        → Told items marked ended ran put m why
        → (items ≡ None
        → (given : List T) × FoldsTo (λ s x s'. gives s (Some x) s') source given source' × (2 ^ 62 ≤ length given))
        → ((n : ℕ) → items ≡ Some n
        → (given : List T) × GivesAll gives source given source' × (n ≡ counted (length given)))
        → ((why ≡ Worn) × ((given : List T) × Returned gives source given source' × (2 ^ 62 ≤ length given + m)))
        ⊎ ((why ≡ Missed) × ((given : List T) × GivesAll gives source given source'))
    late BadCount items marked ended ran put m told early gave = absurd told
    late NoMemory items marked ended ran put m told early gave = absurd told
    late Thread items marked ended ran put m told early gave = absurd told
    late Worn items marked ended ran put m told early gave = inl (refl, returned items marked ended m told early gave)
    late Missed items marked ended ran put m told early gave = let s = gave told.0 told.1 in inr (refl, (s.0, s.1))

  -- A thread could not be started.
  pub gives_up : (others rest : List W) (state : W) (part : Part W T) (more : List (Part W T)) (h : Holding (Feed T))
      (states : List W) (ran : ℕ) (ended : Bool)
      → part.before ≡ state → map (λ p. p.before) more ≡ rest
      → Gathered runs fits others (part ∷ more) h states ran ended
      → (ran ≡ 0 → states ≡ others ++ state ∷ rest)
      × ((all : List (Part W T)) × Leads runs (others ++ state ∷ rest) all states
      × (ran ≢ 0 → 1 ≤ length (flat_map (λ p. p.items) all)))
  gives_up others rest state part more h states ran ended one two g =
      let began : map (λ (p : Part W T). p.before) (part ∷ more) ≡ state ∷ rest =
      ap (λ w. w ∷ map (λ (p : Part W T). p.before) more) one ∙ ap (λ l. state ∷ l) two in
      let led = leads others (part ∷ more) h states ran ended (state ∷ rest) g began in
      let total = g.total in (
        (λ zero. all_unchanged others (part ∷ more) h states ran ended (state ∷ rest) g zero began),
        (led.0, led.1, λ some. let long = led.2 in omega (arith, some)),
      )

  -- All items were run.
  pub ends : {S : Type 0} (gives : S → Option T → S → Type 0) (before after : List W) (source source' : S)
      (parts : List (Part W T)) (given : List T) (h : Holding (Feed T)) (ran : ℕ) (ended : Bool) (n put : ℕ)
      → Gathered runs fits [] parts h after ran ended → map (λ p. p.before) parts ≡ before → length before ≡ n → 1 ≤ n
      → GivesAll gives source given source' → HasFed given n h → HasItsOwn h
      → ended ≡ true → ran ≡ counted (length given) → put ≡ length h.seen → put ≡ min (ran + n) (2 ^ 64 - 1)
      → Ends runs fits gives before source after source'
  ends gives before after source source' parts given h ran ended n put g began long some gave fed own all ran_all is
      most =
      let count : length parts ≡ n = sym (map_length (λ (p : Part W T). p.before) parts) ∙ (ap length began ∙ long) in
      let deal = dealt parts h after ran ended given n put g fed own all count some ran_all is most in
      record {
        all = record {
          parts = parts;
          given = given;
          leads = record { began = began; left = sym g.left; ran = g.folds };
          gave = gave;
          dealt = deal.0;
          ordered = deal.1;
          alone = λ one. one_in_order given parts (omega arith) deal.0 deal.1;
        };
        still = g.still;
      }
