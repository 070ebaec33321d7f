-- What each pass did in calls, as far as its own order shows, is what its calls did, because no
-- number belongs to two passes.
use Rattle.std.proofs.Common.{◌≡◌, ◌≢◌, inl, inr, ℕ, ◌+◌, ◌≤◌, ◌==◌, ◌&&◌, Bool, true, false, cond, not, List, [], ◌∷◌}
use Rattle.std.proofs.Common.{◌++◌, map, slice_index_or, refl, sym, ap, subst, ◌∙◌, arith, append_assoc}
use Rattle.std.specs.List.{All, filter, flat_map}
use Rattle.std.proofs.lemmas.Grind.{flat_map-append}
use Rattle.std.proofs.lemmas.List.{map-append, append-nil}
use Rattle.std.proofs.lemmas.List.Elements.{All-nil, All-head, All-tail, All-push, filter-append}
use Rattle.sysv_lists.specs.Numbers.{times, NoneTwice}
use Rattle.sysv_lists.proofs.Counting.{times-append, times-same, the-one}
use Rattle.sysv_model.specs.History.{ReadRow}
use Rattle.sysv_model.specs.Turn.{Op, AtSlot}
use Rattle.sysv_model.specs.Turns.{Numbered}
use Rattle.sysv_thread_laws.specs.Order.{Called, IsPlayed, AreAll, shows_row, is_in_call_of, ops_by, ops_in}
use Rattle.sysv_thread_laws.specs.OrderIsRun.{EveryOrderIsARun}
use Rattle.sysv_thread_laws.specs.AtRest.{OrdersAtRest}
use Rattle.sysv_model.specs.Members.{Member, under, AreWhole, AreOfOthers, AreOwn, Does, starts, sees, makes, Splits}
use Rattle.sysv_model.specs.Members.{Joins, Closes}
use Rattle.sysv_thread_laws.specs.Team.{IsTeam, opens, calls, reads, goes_on, splits, joins, turns_to}
use Rattle.sysv_thread_laws.specs.Team.{EveryServiceIsARun}
use Rattle.sysv_thread_laws.proofs.Places.{number_other, none_or_some}
use Rattle.sysv_thread_laws.proofs.RowsApart.{no_call_reads_a_row}
use Rattle.sysv_thread_laws.proofs.SharesAreWhole.{all_have_the_whole}

-- ---- turns in calls

-- The operation reads no row.
abbrev is_quiet : Op → Bool
is_quiet op = not (shows_row op)

abbrev quiet : List Op → List Op
quiet ops = filter is_quiet ops

abbrev op_in : Numbered → Op
op_in t = t.op

all_quiet : (ops : List Op) → All (λ (op : Op). shows_row op ≡ false) ops → quiet ops ≡ ops
all_quiet [] a = refl
all_quiet (d ∷ ds) a =
    let first : shows_row d ≡ false = All-head (λ (op : Op). shows_row op ≡ false) d ds a in
    ap (λ b. cond (not b) (d ∷ quiet ds) (quiet ds)) first
    ∙ ap (λ es. d ∷ es) (all_quiet ds (All-tail (λ (op : Op). shows_row op ≡ false) d ds a))

ops_by-append : (x : ℕ) (xs ys : List Numbered) → ops_by x (xs ++ ys) ≡ ops_by x xs ++ ops_by x ys
ops_by-append x xs ys =
    ap (map op_in) (filter-append (is_in_call_of x) xs ys)
    ∙ map-append op_in (filter (is_in_call_of x) xs) (filter (is_in_call_of x) ys)

-- One turn.
kept_if : (t : Numbered) (a b : Bool) → map op_in (cond (a && b) (t ∷ []) []) ≡ cond a (cond b (t.op ∷ []) []) []
kept_if t true true = refl
kept_if t true false = refl
kept_if t false b = refl

ops_by-one : (x number : ℕ) (op : Op) →
    ops_by x (record { by = number; op = op } ∷ []) ≡ cond (number == x) (quiet (op ∷ [])) []
ops_by-one x number op = kept_if (record { by = number; op = op }) (number == x) (is_quiet op)

-- The turns made under a number are enough to know what was done under it in calls.
skipped : (t : Numbered) (a : Bool) (ts : List Numbered) →
    filter (λ (s : Numbered). is_quiet s.op) (cond a (t ∷ ts) ts)
    ≡ cond a
    (cond (is_quiet t.op) (t ∷ filter (λ (s : Numbered). is_quiet s.op) ts)
    (filter (λ (s : Numbered). is_quiet s.op) ts)) (filter (λ (s : Numbered). is_quiet s.op) ts)
skipped t true ts = refl
skipped t false ts = refl

both_kept : (a b : Bool) (t : Numbered) (ts : List Numbered) →
    cond (a && b) (t ∷ ts) ts ≡ cond a (cond b (t ∷ ts) ts) ts
both_kept true b t ts = refl
both_kept false b t ts = refl

in_calls_under : (x : ℕ) (order : List Numbered) →
    filter (is_in_call_of x) order ≡ filter (λ (s : Numbered). is_quiet s.op) (under x order)
in_calls_under x [] = refl
in_calls_under x (t ∷ ts) =
    ap (λ us. cond (is_in_call_of x t) (t ∷ us) us) (in_calls_under x ts)
    ∙ (both_kept (t.by == x) (is_quiet t.op) t (filter (λ (s : Numbered). is_quiet s.op) (under x ts))
    ∙ sym (skipped t (t.by == x) (under x ts)))

same_under : (x : ℕ) (xs ys : List Numbered) → under x xs ≡ under x ys → ops_by x xs ≡ ops_by x ys
same_under x xs ys e =
    ap (map op_in)
    (in_calls_under x xs ∙ (ap (filter (λ (s : Numbered). is_quiet s.op)) e ∙ sym (in_calls_under x ys)))

-- No turn was made under this number.
none_of_them : (x : ℕ) (order : List Numbered) → All (λ (t : Numbered). t.by ≢ x) order → ops_by x order ≡ []
none_of_them x [] a = refl
none_of_them x (t ∷ ts) a =
    let apart : (t.by == x) ≡ false = number_other t.by x (All-head (λ (s : Numbered). s.by ≢ x) t ts a) in
    ap (λ b. map op_in (cond (b && is_quiet t.op) (t ∷ filter (is_in_call_of x) ts) (filter (is_in_call_of x) ts)))
    apart
    ∙ none_of_them x ts (All-tail (λ (s : Numbered). s.by ≢ x) t ts a)

none_of_others : (x : ℕ) (numbers : List ℕ) (order : List Numbered) → AreOfOthers numbers order → 1 ≤ times x numbers →
    ops_by x order ≡ []
none_of_others x numbers order a has =
    none_of_them x order
    (λ k d less e.
    let absent : times (slice_index_or order k d).by numbers ≡ 0 = a k d less in
    let same : times (slice_index_or order k d).by numbers ≡ times x numbers = ap (λ n. times n numbers) e in
    omega arith)

none_of_own : (x : ℕ) (numbers : List ℕ) (order : List Numbered) → AreOwn numbers order → times x numbers ≡ 0 →
    ops_by x order ≡ []
none_of_own x numbers order a absent =
    none_of_them x order
    (λ k d less e.
    let has : 1 ≤ times (slice_index_or order k d).by numbers = a k d less in
    let same : times (slice_index_or order k d).by numbers ≡ times x numbers = ap (λ n. times n numbers) e in
    omega arith)

-- ---- what a pass did

abbrev no_ops : List Op
no_ops = []

nothing : (b : Bool) → cond b no_ops [] ≡ []
nothing true = refl
nothing false = refl

cond_append : (b : Bool) (xs ys : List Op) → cond b xs [] ++ cond b ys [] ≡ cond b (xs ++ ys) []
cond_append true xs ys = refl
cond_append false xs ys = refl

-- The pass still has its number and its numbers, and made these turns under its number.
pub record Did (before : Member) (ops : List Op) (after : Member) : Type 0 where
  pub number : after.number ≡ before.number
  pub numbers : after.numbers ≡ before.numbers
  pub order : (x : ℕ) → 1 ≤ times x before.numbers →
      ops_by x after.order ≡ ops_by x before.order ++ cond (before.number == x) (quiet ops) []

did : {before after : Member} {ops : List Op} → Does before ops after → Did before ops after
did {before = before} starts = record {
  number = refl;
  numbers = refl;
  order = λ x has.
      sym (ap (λ es. ops_by x before.order ++ es) (nothing (before.number == x))
      ∙ append-nil (ops_by x before.order));
}
did {before = before} (sees {ops = ops} {mid = mid} after done s) =
    let d = did done in
    record {
      number = ap (λ (p : Member). p.number) s.goes_on ∙ d.number;
      numbers = ap (λ (p : Member). p.numbers) s.goes_on ∙ d.numbers;
      order = λ x has.
          let none : ops_by x s.others ≡ [] =
          none_of_others x mid.numbers s.others s.apart (subst (λ ns. 1 ≤ times x ns) (sym d.numbers) has) in
          ap (λ (p : Member). ops_by x p.order) s.goes_on
          ∙ (ops_by-append x mid.order s.others
          ∙ (ap (λ es. ops_by x mid.order ++ es) none ∙ (append-nil (ops_by x mid.order) ∙ d.order x has)));
    }
did {before = before} (makes {ops = ops} {mid = mid} op after done m) =
    let d = did done in
    record {
      number = ap (λ (p : Member). p.number) m.goes_on ∙ d.number;
      numbers = ap (λ (p : Member). p.numbers) m.goes_on ∙ d.numbers;
      order = λ x has.
          let none : ops_by x m.others ≡ [] =
          none_of_others x mid.numbers m.others m.apart (subst (λ ns. 1 ≤ times x ns) (sym d.numbers) has) in
          let earlier : ops_by x (mid.order ++ m.others)
          ≡ ops_by x before.order ++ cond (before.number == x) (quiet ops) [] =
          ops_by-append x mid.order m.others
          ∙ (ap (λ es. ops_by x mid.order ++ es) none ∙ (append-nil (ops_by x mid.order) ∙ d.order x has)) in
          let last : ops_by x (record { by = mid.number; op = op } ∷ [])
          ≡ cond (before.number == x) (quiet (op ∷ [])) [] =
          ops_by-one x mid.number op ∙ ap (λ n. cond (n == x) (quiet (op ∷ [])) []) d.number in
          ap (λ (p : Member). ops_by x p.order) m.goes_on
          ∙ (ops_by-append x (mid.order ++ m.others) (record { by = mid.number; op = op } ∷ [])
          ∙ (ap (λ es. es ++ ops_by x (record { by = mid.number; op = op } ∷ [])) earlier
          ∙ (ap (λ es. (ops_by x before.order ++ cond (before.number == x) (quiet ops) []) ++ es) last
          ∙ (append_assoc (ops_by x before.order) (cond (before.number == x) (quiet ops) [])
          (cond (before.number == x) (quiet (op ∷ [])) [])
          ∙ (ap (λ es. ops_by x before.order ++ es)
          (cond_append (before.number == x) (quiet ops) (quiet (op ∷ [])))
          ∙ ap (λ es. ops_by x before.order ++ cond (before.number == x) es [])
          (sym (filter-append is_quiet ops (op ∷ []))))))));
    }

-- ---- the passes that are there

abbrev numbers_of : List Member → List ℕ
numbers_of passes = flat_map (λ (p : Member). p.numbers) passes

-- A pass has its number, and its order has the turns of the calls that were made under its numbers.
pub record Knows (made : List Called) (p : Member) : Type 0 where
  pub named : 1 ≤ times p.number p.numbers
  pub own : (x : ℕ) → 1 ≤ times x p.numbers → ops_by x p.order ≡ ops_in x made

abbrev AllKnow : List Called → List Member → Type 0
AllKnow made [] = Unit {0}
AllKnow made (p ∷ ps) = Knows made p × AllKnow made ps

pub record IsSound (passes : List Member) (made : List Called) : Type 0 where
  pub each : AllKnow made passes
  pub none : (x : ℕ) → times x (numbers_of passes) ≡ 0 → ops_in x made ≡ []
  pub played : All IsPlayed made

know_left : (made : List Called) (xs ys : List Member) → AllKnow made (xs ++ ys) → AllKnow made xs
know_left made [] ys a = tt
know_left made (x ∷ xs) ys a = (a.0, know_left made xs ys a.1)

know_right : (made : List Called) (xs ys : List Member) → AllKnow made (xs ++ ys) → AllKnow made ys
know_right made [] ys a = a
know_right made (x ∷ xs) ys a = know_right made xs ys a.1

know_both : (made : List Called) (xs ys : List Member) → AllKnow made xs → AllKnow made ys → AllKnow made (xs ++ ys)
know_both made [] ys a b = b
know_both made (x ∷ xs) ys a b = (a.0, know_both made xs ys a.1 b)

numbers-cons : (x : ℕ) (p : Member) (ps : List Member) →
    times x (numbers_of (p ∷ ps)) ≡ times x p.numbers + times x (numbers_of ps)
numbers-cons x p ps = times-append x p.numbers (numbers_of ps)

numbers-append : (x : ℕ) (ps qs : List Member) →
    times x (numbers_of (ps ++ qs)) ≡ times x (numbers_of ps) + times x (numbers_of qs)
numbers-append x ps qs =
    ap (times x) (flat_map-append (λ (p : Member). p.numbers) ps qs) ∙ times-append x (numbers_of ps) (numbers_of qs)

-- ---- a step of the first pass

-- The calls that were made have these additional turns of that number.
abbrev HaveMore : ℕ → List Op → List Called → List Called → Type 0
HaveMore number ops made then_made =
    (x : ℕ) → ops_in x then_made ≡ ops_in x made ++ cond (number == x) (quiet ops) []

module _ (number : ℕ) (ops : List Op) (made then_made : List Called)
    (more : HaveMore number ops made then_made) where
  no_more : (x : ℕ) → number ≢ x → ops_in x then_made ≡ ops_in x made
  no_more x apart =
      more x
      ∙ (ap (λ b. ops_in x made ++ cond b (quiet ops) []) (number_other number x apart)
      ∙ append-nil (ops_in x made))

  others_know : (ps : List Member) → times number (numbers_of ps) ≡ 0 → AllKnow made ps → AllKnow then_made ps
  others_know [] absent a = tt
  others_know (p ∷ ps) absent a =
      let both = numbers-cons number p ps in
      let not_here : times number p.numbers ≡ 0 = omega arith in (
        record {
          named = a.0.named;
          own = λ x has.
              a.0.own x has
              ∙ sym (no_more x (λ e.
              let same : times number p.numbers ≡ times x p.numbers = ap (λ n. times n p.numbers) e in omega arith));
        },
        others_know ps (omega arith) a.1,
      )

first_step : (one after : Member) (rest : List Member) (ops : List Op) (made then_made : List Called) →
    Did one ops after → HaveMore one.number ops made then_made →
    All IsPlayed then_made → NoneTwice (numbers_of (one ∷ rest)) → IsSound (one ∷ rest) made →
    IsSound (after ∷ rest) then_made
first_step one after rest ops made then_made d more played apart s =
    let own_named : 1 ≤ times one.number one.numbers = s.each.0.named in
    let both = numbers-cons one.number one rest in
    let at_most = apart one.number in
    let not_there : times one.number (numbers_of rest) ≡ 0 = omega arith in
    record {
      each = (
        record {
          named = subst (λ ns. 1 ≤ times after.number ns) (sym d.numbers)
              (subst (λ n. 1 ≤ times n one.numbers) (sym d.number) own_named);
          own = λ x has.
              let had : 1 ≤ times x one.numbers = subst (λ ns. 1 ≤ times x ns) d.numbers has in
              d.order x had
              ∙ (ap (λ es. es ++ cond (one.number == x) (quiet ops) []) (s.each.0.own x had) ∙ sym (more x));
        },
        others_know one.number ops made then_made more rest not_there s.each.1,
      );
      none = λ x absent.
          let same : times x (numbers_of (after ∷ rest)) ≡ times x (numbers_of (one ∷ rest)) =
          ap (λ ns. times x (ns ++ numbers_of rest)) d.numbers in
          let was_absent : times x (numbers_of (one ∷ rest)) ≡ 0 = sym same ∙ absent in
          no_more one.number ops made then_made more x
          (λ e.
          let it : times one.number (numbers_of (one ∷ rest)) ≡ times x (numbers_of (one ∷ rest)) =
          ap (λ n. times n (numbers_of (one ∷ rest))) e in
          omega arith)
          ∙ s.none x was_absent;
      played = played;
    }

-- One more call adds just its turns.
more_by_call : (call : Called) (made : List Called) (number : ℕ) → call.by ≡ number → quiet call.ops ≡ call.ops →
    HaveMore number call.ops made (made ++ call ∷ [])
more_by_call call made number by all x =
    flat_map-append (λ (c : Called). cond (c.by == x) c.ops []) made (call ∷ [])
    ∙ ap (λ es. ops_in x made ++ es)
    (append-nil (cond (call.by == x) call.ops [])
    ∙ (ap (λ n. cond (n == x) call.ops []) by ∙ ap (λ es. cond (number == x) es []) (sym all)))

-- Turns that belong to no call add nothing.
more_by_none : (number : ℕ) (ops : List Op) (made : List Called) → quiet ops ≡ [] →
    HaveMore number ops made made
more_by_none number ops made none x =
    sym (ap (λ es. ops_in x made ++ cond (number == x) es []) none
    ∙ (ap (λ es. ops_in x made ++ es) (nothing (number == x)) ∙ append-nil (ops_in x made)))

-- If the pass has the same numbers as before and no number is given to two passes afterwards, none
-- was given to two passes before.
same_numbers : (one after : Member) (rest : List Member) → after.numbers ≡ one.numbers →
    NoneTwice (numbers_of (after ∷ rest)) → NoneTwice (numbers_of (one ∷ rest))
same_numbers one after rest e apart = subst (λ ns. NoneTwice (ns ++ numbers_of rest)) e apart

-- ---- splits and joins

split_sound : (one kept new : Member) (rest : List Member) (made : List Called) → Splits one kept new →
    NoneTwice (numbers_of (kept ∷ new ∷ rest)) →
    (NoneTwice (numbers_of (one ∷ rest)) → IsSound (one ∷ rest) made) → IsSound (kept ∷ new ∷ rest) made
split_sound one kept new rest made s apart before =
    let kept_numbers : kept.numbers ≡ one.numbers = ap (λ (p : Member). p.numbers) s.parent in
    let new_numbers : new.numbers ≡ new.number ∷ [] = ap (λ (p : Member). p.numbers) s.child in
    let grown : (x : ℕ) →
    times x (numbers_of (kept ∷ new ∷ rest)) ≡ times x (numbers_of (one ∷ rest)) + times x (new.number ∷ []) =
    (λ x. omega (
      arith,
      numbers-cons x kept (new ∷ rest),
      numbers-cons x new rest,
      numbers-cons x one rest,
      ap (times x) kept_numbers,
      ap (times x) new_numbers,
    )) in
    let was : NoneTwice (numbers_of (one ∷ rest)) = (λ x. omega (arith, grown x, apart x)) in
    let sound = before was in
    let fresh : times new.number (numbers_of (one ∷ rest)) ≡ 0 =
    omega (arith, grown new.number, apart new.number, times-same new.number) in
    record {
      each = (
        record {
          named = subst (λ (p : Member). 1 ≤ times p.number p.numbers) (sym s.parent) sound.each.0.named;
          own = λ x has.
              ap (λ (p : Member). ops_by x p.order) s.parent
              ∙ sound.each.0.own x (subst (λ ns. 1 ≤ times x ns) kept_numbers has);
        },
        (
          record {
            named = subst (λ ns. 1 ≤ times new.number ns) (sym new_numbers) (times-same new.number);
            own = λ x has.
                let one_of : 1 ≤ times x (new.number ∷ []) = subst (λ ns. 1 ≤ times x ns) new_numbers has in
                let it : new.number ≡ x = the-one x new.number one_of in
                ap (λ (p : Member). ops_by x p.order) s.child
                ∙ (none_of_others x (new.number ∷ []) one.order s.apart one_of
                ∙ sym (sound.none x (subst (λ n. times n (numbers_of (one ∷ rest)) ≡ 0) it fresh)));
          },
          sound.each.1,
        ),
      );
      none = λ x absent. sound.none x (omega (arith, grown x));
      played = sound.played;
    }

join_sound : (one two after : Member) (rest : List Member) (made : List Called) → Joins one two after →
    NoneTwice (numbers_of (after ∷ rest)) →
    (NoneTwice (numbers_of (one ∷ two ∷ rest)) → IsSound (one ∷ two ∷ rest) made) → IsSound (after ∷ rest) made
join_sound one two after rest made j apart before =
    let numbers : after.numbers ≡ one.numbers ++ two.numbers = ap (λ (p : Member). p.numbers) j.joined in
    let here : (x : ℕ) → times x after.numbers ≡ times x one.numbers + times x two.numbers =
    (λ x. ap (times x) numbers ∙ times-append x one.numbers two.numbers) in
    let same : (x : ℕ) → times x (numbers_of (after ∷ rest)) ≡ times x (numbers_of (one ∷ two ∷ rest)) =
    (λ x. omega (arith, numbers-cons x after rest, numbers-cons x one (two ∷ rest), numbers-cons x two rest, here x)) in
    let sound = before (λ x. omega (arith, same x, apart x)) in
    let order : (x : ℕ) → ops_by x after.order ≡ ops_by x j.order =
    (λ x. ap (λ (p : Member). ops_by x p.order) j.joined) in
    record {
      each = (
        record {
          named =
              subst (λ n. 1 ≤ times n after.numbers) (sym (ap (λ (p : Member). p.number) j.joined))
              (omega (arith, here one.number, sound.each.0.named));
          own = λ x has. elim (none_or_some (times x one.numbers)) [
            | inl absent ↦
                let its : 1 ≤ times x two.numbers = omega (arith, here x) in
                order x ∙ (same_under x j.order two.order (j.own_two x its) ∙ sound.each.1.0.own x its)
            | inr its ↦ order x ∙ (same_under x j.order one.order (j.own_one x its) ∙ sound.each.0.own x its)
          ];
        },
        sound.each.1.1,
      );
      none = λ x absent. sound.none x (sym (same x) ∙ absent);
      played = sound.played;
    }

turn_sound : (one : Member) (before rest : List Member) (made : List Called) →
    NoneTwice (numbers_of (one ∷ before ++ rest)) →
    (NoneTwice (numbers_of (before ++ one ∷ rest)) → IsSound (before ++ one ∷ rest) made) →
    IsSound (one ∷ before ++ rest) made
turn_sound one before rest made apart earlier =
    let same : (x : ℕ) → times x (numbers_of (one ∷ before ++ rest)) ≡ times x (numbers_of (before ++ one ∷ rest)) =
    (λ x. omega (
      arith,
      numbers-cons x one (before ++ rest),
      numbers-append x before rest,
      numbers-append x before (one ∷ rest),
      numbers-cons x one rest,
    )) in
    let sound = earlier (λ x. omega (arith, same x, apart x)) in
    let ends = know_right made before (one ∷ rest) sound.each in
    record {
      each = (ends.0, know_both made before rest (know_left made before (one ∷ rest) sound.each) ends.1);
      none = λ x absent. sound.none x (sym (same x) ∙ absent);
      played = sound.played;
    }

-- ---- all that was done

pub all_sound : {passes : List Member} {made : List Called} → IsTeam passes made → NoneTwice (numbers_of passes) →
    IsSound passes made
all_sound (opens number) apart = record {
  each = (record { named = times-same number; own = λ x has. refl }, tt);
  none = λ x absent. refl;
  played = All-nil IsPlayed;
}
all_sound (calls {one = one} {rest = rest} {made = made} call after team by played done) apart =
    let d = did done in
    let was = same_numbers one after rest d.numbers apart in
    let sound = all_sound team was in
    first_step one after rest call.ops made (made ++ call ∷ []) d
    (more_by_call call made one.number by (all_quiet call.ops (no_call_reads_a_row call played)))
    (All-push IsPlayed made call sound.played played) was sound
all_sound (reads {one = one} {rest = rest} {made = made} slot reply after team turn) apart =
    let d = did (makes (AtSlot slot ReadRow reply) after starts turn) in
    let was = same_numbers one after rest d.numbers apart in
    let sound = all_sound team was in
    first_step one after rest (AtSlot slot ReadRow reply ∷ []) made made d
    (more_by_none one.number (AtSlot slot ReadRow reply ∷ []) made refl) sound.played was sound
all_sound (goes_on {one = one} {rest = rest} {made = made} after team more) apart =
    let d = did (sees after starts more) in
    let was = same_numbers one after rest d.numbers apart in
    let sound = all_sound team was in
    first_step one after rest [] made made d (more_by_none one.number [] made refl) sound.played was sound
all_sound (splits {one = one} {rest = rest} {made = made} kept new team s) apart =
    split_sound one kept new rest made s apart (all_sound team)
all_sound (joins {one = one} {two = two} {rest = rest} {made = made} after team j) apart =
    join_sound one two after rest made j apart (all_sound team)
all_sound (turns_to {one = one} {made = made} before rest team) apart =
    turn_sound one before rest made apart (all_sound team)

pub last_is_whole : (last : Member) (made : List Called) → IsTeam (last ∷ []) made → AreWhole last.shares
last_is_whole last made team = subst AreWhole (append-nil last.shares) (all_have_the_whole team)

pub all_home : (last : Member) (made : List Called) (order : List Numbered) → IsTeam (last ∷ []) made →
    Closes last order → AreAll order made
all_home last made order team c =
    let sound : IsSound (last ∷ []) made = all_sound team (subst NoneTwice (sym (append-nil last.numbers)) c.apart) in
    let own = c.all (last_is_whole last made team) in
    record {
      played = sound.played;
      whole = λ x. elim (none_or_some (times x last.numbers)) [
        | inl absent ↦
            none_of_own x last.numbers order own.1 absent
            ∙ sym (sound.none x (ap (times x) (append-nil last.numbers) ∙ absent))
        | inr has ↦ ap (ops_by x) own.0 ∙ sound.each.0.own x has
      ];
    }

pub every_service_is_a_run : EveryOrderIsARun → OrdersAtRest → EveryServiceIsARun
every_service_is_a_run runs rests generation blocks last made order team c legal =
    let all = all_home last made order team c in
    record {
      all = all;
      run = runs generation blocks order made legal all;
      at_rest = rests generation blocks order made legal all;
    }
