-- A run of workers that have several places each is a run over all their places.
use Rattle.std.proofs.Common.{◌≡◌, ◌∙◌, ℕ, ◌≤◌, ◌+◌, List, [], ◌∷◌, ◌++◌, Option, map, length, ap, refl, sym, subst}
use Rattle.std.proofs.Common.{arith, inl, inr, length-append, suc}
use Rattle.std.specs.List.{All, FoldsTo, flat_map}
use Rattle.std.specs.List.Sorted.{IsPermutation}
use Rattle.std.proofs.lemmas.Grind.{flat_map-append}
use Rattle.std.proofs.lemmas.List.{append-nil, length-map, map-append}
use Rattle.std.proofs.lemmas.List.Elements.{All-head, All-tail, All-cons}
use Rattle.std.proofs.lemmas.List.Sorted.{IsPermutation-append, IsPermutation-refl, IsPermutation-trans}
use Rattle.sysv_bank.specs.Banks.{Each2}
use Rattle.sysv_workers.specs.Parts.{AreInOrder, IsSubsequenceOf, Leads, Part}
use Rattle.sysv_workers.specs.Running.{GivesBack, RunsAll}
use Rattle.sysv_workers.specs.declared.refusals.WorkersFault.{WorkersFault}
use Rattle.sysv_workers.specs.declared.refusals.WorkersFault.TheVariants.{BadCount, NoMemory, Thread, Worn, Missed}
use Rattle.sysv_places.specs.Places.{Serves, Standing}
use Rattle.sysv_engine.proofs.Adopting.{AllAdopt, HasMore, all_had, alone, each_once, in_order}

sub_trans : {T : Type 0} (xs ys zs : List T) → IsSubsequenceOf xs ys → IsSubsequenceOf ys zs → IsSubsequenceOf xs zs
sub_trans [] ys zs one two = tt
sub_trans (x ∷ xs) [] zs one two = absurd one
sub_trans (x ∷ xs) (y ∷ ys) [] one two = absurd two
sub_trans (x ∷ xs) (y ∷ ys) (z ∷ zs) (inl one) (inl two) = inl (one.0 ∙ two.0, sub_trans xs ys zs one.1 two.1)
sub_trans (x ∷ xs) (y ∷ ys) (z ∷ zs) (inr one) (inl two) = inr (sub_trans (x ∷ xs) ys zs one two.1)
sub_trans (x ∷ xs) (y ∷ ys) (z ∷ zs) one (inr two) = inr (sub_trans (x ∷ xs) (y ∷ ys) zs one two)

each2_append : {A B : Type 0} (P : A → B → Type 0) (ls : List A) (ms : List B) (ns : List A) (os : List B) →
    Each2 P ls ms → Each2 P ns os → Each2 P (ls ++ ns) (ms ++ os)
each2_append P [] [] ns os one two = two
each2_append P [] (b ∷ ms) ns os one two = absurd one
each2_append P (a ∷ ls) [] ns os one two = absurd one
each2_append P (a ∷ ls) (b ∷ ms) ns os one two = (one.0, each2_append P ls ms ns os one.1 two)

each2_length : {A B : Type 0} (P : A → B → Type 0) (ls : List A) (ms : List B) → Each2 P ls ms → length ls ≡ length ms
each2_length P [] [] each = refl
each2_length P [] (b ∷ ms) each = absurd each
each2_length P (a ∷ ls) [] each = absurd each
each2_length P (a ∷ ls) (b ∷ ms) each = ap suc (each2_length P ls ms each.1)

all_append : {A : Type 0} (P : A → Type 0) (xs ys : List A) → All P xs → All P ys → All P (xs ++ ys)
all_append P [] ys one two = two
all_append P (x ∷ xs) ys one two =
    All-cons P x (xs ++ ys) (All-head P x xs one) (all_append P xs ys (All-tail P x xs one) two)

flat_of_map : {X Y A : Type 0} (g : X → Y) (f : Y → List A) (xs : List X) →
    flat_map f (map g xs) ≡ flat_map (λ x. f (g x)) xs
flat_of_map g f [] = refl
flat_of_map g f (x ∷ xs) = ap (λ l. f (g x) ++ l) (flat_of_map g f xs)

empty : {A : Type 0} (xs : List A) → length xs ≡ 0 → xs ≡ []
empty [] none = refl
empty (x ∷ xs) none = absurd (omega arith)

one_in_all : (a b : ℕ) → 1 ≤ a → a + b ≡ 1 → (a ≡ 1) × (b ≡ 0)
one_in_all a b some all = (omega arith, omega arith)

module _ {W P V T : Type 0} (places : W → List P) (view : P → V) (Stands : Standing V T → P → Type 0) where
  -- A worker adopted a connection and served its clients.
  abbrev pub Runs : W → T → W → Type 0
  Runs old connection new = Serves Stands (places old) connection (places new)

  -- These places, as a server begins with them.
  abbrev pub begun : List P → List (Standing V T)
  begun ps = map (λ (p : P). record { start = view p; had = [] }) ps

  -- The worker has places, and has served none of them.
  abbrev pub IsFresh : W → Type 0
  IsFresh w = (1 ≤ length (places w)) × Each2 Stands (begun (places w)) (places w)

  none_had : (ps : List P) → all_had (begun ps) ≡ []
  none_had [] = refl
  none_had (p ∷ ps) = none_had ps

  starts_of : (ps : List P) → map (λ (s : Standing V T). s.start) (begun ps) ≡ map view ps
  starts_of [] = refl
  starts_of (p ∷ ps) = ap (λ l. view p ∷ l) (starts_of ps)

  -- ---- one worker

  record Worked (was : List (Standing V T)) (items : List T) (w' : W) : Type 0 where
    now : List (Standing V T)
    stands : Each2 Stands now (places w')
    adopts : AllAdopt was items now

  worked : (items : List T) (w w' : W) (was : List (Standing V T)) → FoldsTo Runs w items w' →
      Each2 Stands was (places w) → Worked was items w'
  worked [] w w' was same stands = record {
    now = was;
    stands = subst (λ x. Each2 Stands was (places x)) same stands;
    adopts = refl;
  }
  worked (c ∷ items) w w' was all stands =
      let run = all.1 was stands in
      let rest = worked items all.0 w' run.0 all.2 run.2 in
      record { now = rest.now; stands = rest.stands; adopts = (run.0, run.1, rest.adopts) }

  same_starts : (items : List T) (old new : List (Standing V T)) → Each2 (HasMore items) old new →
      map (λ (s : Standing V T). s.start) new ≡ map (λ (s : Standing V T). s.start) old
  same_starts items [] [] each = refl
  same_starts items [] (y ∷ ys) each = absurd each
  same_starts items (x ∷ xs) [] each = absurd each
  same_starts items (x ∷ xs) (y ∷ ys) each =
      ap (λ v. v ∷ map (λ (s : Standing V T). s.start) ys) each.0.start
      ∙ ap (λ l. x.start ∷ l) (same_starts items xs ys each.1)

  parts_of_given : (items given : List T) → IsSubsequenceOf items given → (ps : List P) (new : List (Standing V T)) →
      Each2 (HasMore items) (begun ps) new → All (λ (s : Standing V T). IsSubsequenceOf s.had given) new
  parts_of_given items given sub [] [] each = λ k d low. absurd (omega arith)
  parts_of_given items given sub [] (y ∷ ys) each = absurd each
  parts_of_given items given sub (p ∷ ps) [] each = absurd each
  parts_of_given items given sub (p ∷ ps) (y ∷ ys) each =
      All-cons (λ (s : Standing V T). IsSubsequenceOf s.had given) y ys
      (subst (λ l. IsSubsequenceOf l given) (sym each.0.had)
      (sub_trans each.0.more items given each.0.ordered sub))
      (parts_of_given items given sub ps ys each.1)

  alone_in : (items : List T) (ps : List P) (new : List (Standing V T)) → AllAdopt (begun ps) items new →
      length ps ≡ 1 → all_had new ≡ items
  alone_in items [] new adopts one = absurd (omega arith)
  alone_in items (p ∷ []) new adopts one = alone (record { start = view p; had = [] }) items new adopts
  alone_in items (p ∷ q ∷ ps) new adopts one = absurd (omega arith)

  -- ---- all workers

  abbrev before_in : List (Part W T) → List P
  before_in parts = flat_map (λ (p : Part W T). places p.before) parts

  abbrev after_in : List (Part W T) → List P
  after_in parts = flat_map (λ (p : Part W T). places p.after) parts

  abbrev items_of : List (Part W T) → List T
  items_of parts = flat_map (λ (p : Part W T). p.items) parts

  record Placed (parts : List (Part W T)) : Type 0 where
    now : List (Standing V T)
    stands : Each2 Stands now (after_in parts)
    starts : map (λ (s : Standing V T). s.start) now ≡ map view (before_in parts)
    once : IsPermutation (all_had now) (items_of parts)
    ordered : (given : List T) → AreInOrder given parts → All (λ (s : Standing V T). IsSubsequenceOf s.had given) now
    least : length parts ≤ length now
    lone : length now ≡ 1 → all_had now ≡ items_of parts

  placed : (parts : List (Part W T)) → All (λ (p : Part W T). FoldsTo Runs p.before p.items p.after) parts →
      All (λ (p : Part W T). IsFresh p.before) parts → Placed parts
  placed [] ran fresh = record {
    now = [];
    stands = tt;
    starts = refl;
    once = IsPermutation-refl [];
    ordered = λ given all k d low. absurd (omega arith);
    least = omega arith;
    lone = λ one. refl;
  }
  placed (p ∷ parts) ran fresh =
      let new = All-head (λ (p : Part W T). IsFresh p.before) p parts fresh in
      let ps = places p.before in
      let one = worked p.items p.before p.after (begun ps)
      (All-head (λ (p : Part W T). FoldsTo Runs p.before p.items p.after) p parts ran) new.1 in
      let rest = placed parts (All-tail (λ (p : Part W T). FoldsTo Runs p.before p.items p.after) p parts ran)
      (All-tail (λ (p : Part W T). IsFresh p.before) p parts fresh) in
      let more = in_order (begun ps) p.items one.now one.adopts in
      let size : length one.now ≡ length ps =
      sym (each2_length (HasMore p.items) (begun ps) one.now more) ∙ length-map ps _ in
      let had = flat_map-append (λ (s : Standing V T). s.had) one.now rest.now in
      let mine : IsPermutation (all_had one.now) p.items = subst (λ l. IsPermutation (all_had one.now) (l ++ p.items))
      (none_had ps) (each_once (begun ps) p.items one.now one.adopts) in
      record {
        now = one.now ++ rest.now;
        stands = each2_append Stands one.now (places p.after) rest.now (after_in parts) one.stands rest.stands;
        starts = map-append (λ (s : Standing V T). s.start) one.now rest.now
            ∙ (ap (λ l. l ++ map (λ (s : Standing V T). s.start) rest.now)
            (same_starts p.items (begun ps) one.now more ∙ starts_of ps)
            ∙ (ap (λ l. map view ps ++ l) rest.starts ∙ sym (map-append view ps (before_in parts))));
        once = subst (λ l. IsPermutation l (p.items ++ items_of parts)) (sym had)
            (IsPermutation-append (all_had one.now) p.items (all_had rest.now) (items_of parts) mine rest.once);
        ordered = λ given all.
            all_append (λ (s : Standing V T). IsSubsequenceOf s.had given) one.now rest.now
            (parts_of_given p.items given
            (All-head (λ (p : Part W T). IsSubsequenceOf p.items given) p parts all) ps one.now more)
            (rest.ordered given (All-tail (λ (p : Part W T). IsSubsequenceOf p.items given) p parts all));
        least = let some = new.0 in let others = rest.least in let total = length-append one.now rest.now in
            omega arith;
        lone = λ all.
            let some = new.0 in
            let each = one_in_all (length one.now) (length rest.now) (omega arith)
            (sym (length-append one.now rest.now) ∙ all) in
            let none : parts ≡ [] = empty parts (let others = rest.least in let zero = each.1 in omega arith) in
            let nothing : rest.now ≡ [] = empty rest.now each.1 in
            had
            ∙ (ap (λ l. all_had one.now ++ all_had l) nothing
            ∙ (append-nil (all_had one.now)
            ∙ (alone_in p.items ps one.now one.adopts (sym size ∙ each.0)
            ∙ (sym (append-nil p.items) ∙ ap (λ l. p.items ++ items_of l) (sym none)))));
      }

  all_unmap : (parts : List (Part W T)) → All IsFresh (map (λ (p : Part W T). p.before) parts) →
      All (λ (p : Part W T). IsFresh p.before) parts
  all_unmap [] all = λ k d low. absurd (omega arith)
  all_unmap (p ∷ parts) all =
      All-cons (λ (p : Part W T). IsFresh p.before) p parts
      (All-head IsFresh p.before (map (λ (p : Part W T). p.before) parts) all)
      (all_unmap parts (All-tail IsFresh p.before (map (λ (p : Part W T). p.before) parts) all))

  -- A run keeps the number of places.
  pub as_many : (ws ws' : List W) (parts : List (Part W T)) → Leads Runs ws parts ws' → All IsFresh ws →
      length (flat_map places ws') ≡ length (flat_map places ws)
  as_many ws ws' parts leads fresh =
      let all = placed parts leads.ran (all_unmap parts (subst (All IsFresh) (sym leads.began) fresh)) in
      let first : before_in parts ≡ flat_map places ws =
      sym (flat_of_map (λ (p : Part W T). p.before) places parts) ∙ ap (λ l. flat_map places l) leads.began in
      let last : after_in parts ≡ flat_map places ws' =
      sym (flat_of_map (λ (p : Part W T). p.after) places parts) ∙ ap (λ l. flat_map places l) leads.left in
      ap length (sym last)
      ∙ (sym (each2_length Stands all.now (after_in parts) all.stands)
      ∙ (sym (length-map all.now (λ (s : Standing V T). s.start))
      ∙ (ap length all.starts ∙ (length-map (before_in parts) view ∙ ap length first))))

  -- ---- once nothing is left to do at any place

  -- What the places are then is not what they began as: `begins` and `ends` say what of a place is compared.
  module _ {V' : Type 0} (begins : V → V') (ends : P → V') (RunsView : V' → T → V' → Type 0) where
    -- Nothing is left to do at the place: what it has had is over.
    abbrev pub IsOver : Standing V T → P → Type 0
    IsOver s place = FoldsTo RunsView (begins s.start) s.had (ends place)

    -- Once nothing is left to do at the places, all that they have had is over.
    abbrev pub Vacates : List P → List P → Type 0
    Vacates old new = (ss : List (Standing V T)) → Each2 Stands ss old → Each2 IsOver ss new

    record Parted (now : List (Standing V T)) (ps : List P) : Type 0 where
      parts : List (Part V' T)
      began : map (λ (p : Part V' T). p.before) parts ≡ map begins (map (λ (s : Standing V T). s.start) now)
      left : map (λ (p : Part V' T). p.after) parts ≡ map ends ps
      ran : All (λ (p : Part V' T). FoldsTo RunsView p.before p.items p.after) parts
      items : flat_map (λ (p : Part V' T). p.items) parts ≡ all_had now
      ordered : (given : List T) → All (λ (s : Standing V T). IsSubsequenceOf s.had given) now → AreInOrder given parts

    parted : (now : List (Standing V T)) (ps : List P) → Each2 IsOver now ps → Parted now ps
    parted [] [] each = record {
      parts = [];
      began = refl;
      left = refl;
      ran = λ k d low. absurd (omega arith);
      items = refl;
      ordered = λ given all k d low. absurd (omega arith);
    }
    parted [] (p ∷ ps) each = absurd each
    parted (s ∷ now) [] each = absurd each
    parted (s ∷ now) (p ∷ ps) each =
        let rest = parted now ps each.1 in
        let one : Part V' T = record { before = begins s.start; items = s.had; after = ends p } in
        record {
          parts = one ∷ rest.parts;
          began = ap (λ l. begins s.start ∷ l) rest.began;
          left = ap (λ l. ends p ∷ l) rest.left;
          ran = All-cons (λ (p : Part V' T). FoldsTo RunsView p.before p.items p.after) one rest.parts each.0 rest.ran;
          items = ap (λ l. s.had ++ l) rest.items;
          ordered = λ given all.
              All-cons (λ (p : Part V' T). IsSubsequenceOf p.items given) one rest.parts
              (All-head (λ (s : Standing V T). IsSubsequenceOf s.had given) s now all)
              (rest.ordered given (All-tail (λ (s : Standing V T). IsSubsequenceOf s.had given) s now all));
        }

    abbrev pub all_places : List W → List P
    all_places ws = flat_map places ws

    -- The places, as they are compared before a run.
    abbrev pub at_first : List P → List V'
    at_first ps = map begins (map view ps)

    -- What the places of workers with these parts have had, once nothing is left to do at them.
    pub record Vacant (before after : List V') (parts : List (Part W T)) : Type 0 where
      pub each : List (Part V' T)
      pub leads : Leads RunsView before each after
      pub once : IsPermutation (flat_map (λ (p : Part V' T). p.items) each) (items_of parts)
      pub ordered : (given : List T) → AreInOrder given parts → AreInOrder given each
      pub lone : length before ≡ 1 → flat_map (λ (p : Part V' T). p.items) each ≡ items_of parts
      pub least : length parts ≤ length before

    pub vacant : (ws ws' : List W) (parts : List (Part W T)) (ps : List P) → Leads Runs ws parts ws' → All IsFresh ws →
        Vacates (all_places ws') ps → Vacant (at_first (all_places ws)) (map ends ps) parts
    vacant ws ws' parts ps leads fresh vacated =
        let all = placed parts leads.ran (all_unmap parts (subst (All IsFresh) (sym leads.began) fresh)) in
        let first : before_in parts ≡ all_places ws =
        sym (flat_of_map (λ (p : Part W T). p.before) places parts) ∙ ap all_places leads.began in
        let last : after_in parts ≡ all_places ws' =
        sym (flat_of_map (λ (p : Part W T). p.after) places parts) ∙ ap all_places leads.left in
        let done = parted all.now ps (subst (λ l. Vacates l ps) (sym last) vacated all.now all.stands) in
        let size : length (at_first (all_places ws)) ≡ length all.now =
        length-map (map view (all_places ws)) begins
        ∙ (ap (λ l. length (map view l)) (sym first)
        ∙ (ap length (sym all.starts) ∙ length-map all.now (λ (s : Standing V T). s.start))) in
        record {
          each = done.parts;
          leads = record {
            began = done.began ∙ ap (map begins) (all.starts ∙ ap (map view) first);
            left = done.left;
            ran = done.ran;
          };
          once = subst (λ l. IsPermutation l (items_of parts)) (sym done.items) all.once;
          ordered = λ given order. done.ordered given (all.ordered given order);
          lone = λ one. done.items ∙ all.lone (sym size ∙ one);
          least = let some = all.least in omega arith;
        }

    one_worker : (ws : List W) → length (at_first (all_places ws)) ≡ 1 → length ws ≤ 1 → length ws ≡ 1
    one_worker [] one few = absurd (omega arith)
    one_worker (w ∷ []) one few = refl
    one_worker (w ∷ v ∷ ws) one few = absurd (omega arith)

    pub all_run : {S : Type 0} (gives : S → Option T → S → Type 0) (ws ws' : List W) (source source' : S)
        (ps : List P) → RunsAll Runs gives ws source ws' source' → All IsFresh ws →
        Vacates (all_places ws') ps →
        RunsAll RunsView gives (at_first (all_places ws)) source (map ends ps) source'
    all_run gives ws ws' source source' ps ran fresh vacated =
        let all = vacant ws ws' ran.parts ps ran.leads fresh vacated in
        let count : length ran.parts ≡ length ws =
        sym (length-map ran.parts (λ (p : Part W T). p.before)) ∙ ap length ran.leads.began in
        record {
          parts = all.each;
          given = ran.given;
          leads = all.leads;
          gave = ran.gave;
          dealt = IsPermutation-trans (flat_map (λ (p : Part V' T). p.items) all.each) (items_of ran.parts) ran.given
              all.once ran.dealt;
          ordered = all.ordered ran.given ran.ordered;
          alone = λ one. all.lone one ∙ ran.alone (one_worker ws one (let few = all.least in omega arith));
        }

    -- ---- a refused run

    unmoved : (ps qs : List P) → Each2 IsOver (begun ps) qs → map ends qs ≡ at_first ps
    unmoved [] [] each = refl
    unmoved [] (q ∷ qs) each = absurd each
    unmoved (p ∷ ps) [] each = absurd each
    unmoved (p ∷ ps) (q ∷ qs) each =
        let same : begins (view p) ≡ ends q = each.0 in
        ap (λ v. v ∷ map ends qs) (sym same) ∙ ap (λ l. begins (view p) ∷ l) (unmoved ps qs each.1)

    each_begun : (ws : List W) → All IsFresh ws → Each2 Stands (begun (all_places ws)) (all_places ws)
    each_begun [] fresh = tt
    each_begun (w ∷ ws) fresh =
        subst (λ l. Each2 Stands l (places w ++ all_places ws))
        (sym (map-append (λ (p : P). record { start = view p; had = [] }) (places w) (all_places ws)))
        (each2_append Stands (begun (places w)) (places w) (begun (all_places ws)) (all_places ws)
        (All-head IsFresh w ws fresh).1 (each_begun ws (All-tail IsFresh w ws fresh)))

    same_again : (ws ws' : List W) (ps : List P) → ws' ≡ ws → All IsFresh ws → Vacates (all_places ws') ps →
        map ends ps ≡ at_first (all_places ws)
    same_again ws ws' ps is fresh vacated =
        unmoved (all_places ws) ps
        (subst (λ l. Vacates (all_places l) ps) is vacated (begun (all_places ws)) (each_begun ws fresh))

    led_on : (ws ws' : List W) (ps : List P) → All IsFresh ws → Vacates (all_places ws') ps →
        (parts : List (Part W T)) × Leads Runs ws parts ws' →
        (parts : List (Part V' T)) × Leads RunsView (at_first (all_places ws)) parts (map ends ps)
    led_on ws ws' ps fresh vacated led =
        let all = vacant ws ws' led.0 ps led.1 fresh vacated in
        (all.each, all.leads)

    pub given_back : (why : WorkersFault) (ws ws' : List W) (ps : List P) → GivesBack Runs ws why ws' → All IsFresh ws →
        Vacates (all_places ws') ps → GivesBack RunsView (at_first (all_places ws)) why (map ends ps)
    given_back BadCount ws ws' ps back fresh vacated = same_again ws ws' ps back fresh vacated
    given_back NoMemory ws ws' ps back fresh vacated = same_again ws ws' ps back fresh vacated
    given_back Thread ws ws' ps back fresh vacated = same_again ws ws' ps back fresh vacated
    given_back Worn ws ws' ps back fresh vacated = led_on ws ws' ps fresh vacated back
    given_back Missed ws ws' ps back fresh vacated = led_on ws ws' ps fresh vacated back
