-- Proves that the passes of a service keep no chain if no call found a gate worn out: the pool
-- refuses none.
use Rattle.std.proofs.Common.{◌≡◌, ◌≢◌, ℕ, ◌+◌, ◌==◌, inl, inr, Bool, true, false, cond, List, [], ◌∷◌, ◌++◌, map}
use Rattle.std.proofs.Common.{Option, Result, Ok, Err, if◌then◌else◌, refl, sym, ap, subst, ◌∙◌, arith}
use Rattle.std.specs.List.{All, filter, sum_by}
use Rattle.std.proofs.lemmas.Bool.Decides.{nat_tests}
use Rattle.std.proofs.lemmas.List.Elements.{All-nil, All-cons, All-head, All-tail}
use Rattle.std.proofs.lemmas.List.Sums.{sum_by-cons, sum_by-append}
use Rattle.sysv_model.specs.declared.attributes.Row.{Row}
use Rattle.sysv_model.specs.declared.errno.Errno.{Errno}
use Rattle.sysv_model.specs.History.{Who}
use Rattle.sysv_model.specs.Pool.{Release, Foreign, PoolEntry}
use Rattle.sysv_model.specs.Turn.{Op, AtPool, pool_entry, pool_history}
use Rattle.sysv_steps.specs.Call.{Kind}
use Rattle.sysv_steps.specs.State.{State, Goes, Waits}
use Rattle.sysv_steps.specs.Begin.{begin}
use Rattle.sysv_model.specs.Turns.{Numbered}
use Rattle.sysv_thread_laws.specs.Order.{Called, is_in_call_of, ops_by, ops_in}
use Rattle.sysv_thread_laws.specs.OrderIsRun.{Renamed, renamed_turn}
use Rattle.sysv_thread_laws.specs.Team.{IsServed}
use Rattle.sysv_service.specs.Seats.{Gates}
use Rattle.sysv_steps.specs.Stepping.{refused_blocks}
use Rattle.sysv_service.specs.Ran.{Pass, Ran, FindsTurns, begins, steps, turns_back, reads, resumes, gives_up}
use Rattle.sysv_service.specs.Told.{TellsRow}
use Rattle.sysv_thread_laws.specs.Lifetime as lifetime
use Rattle.sysv_thread_laws.specs.Lifetime.{any_moment, call_of, Lives}

-- ---- what turns leave with the passes

abbrev left_in : List Op → ℕ
left_in ops = sum_by refused_blocks ops

abbrev left_by_call : Called → ℕ
left_by_call c = left_in c.ops

abbrev left_in_all : List Called → ℕ
left_in_all calls = sum_by left_by_call calls

abbrev held_of : Pass → ℕ
held_of pass = pass.held

abbrev held_by : List Pass → ℕ
held_by passes = sum_by held_of passes

none_left : left_in [] ≡ 0
none_left = refl

no_call_left : left_in_all [] ≡ 0
no_call_left = refl

none_held : held_by [] ≡ 0
none_held = refl

module _ {kind : Kind} (from : State kind) (old : Pass) where
  call_keeps : (ops : List Op) (state : State kind) (new : Pass) (ran : Ran any_moment from old ops state new) →
      FindsTurns ran → new.held ≡ old.held + left_in ops
  call_keeps _ _ _ begins found = omega (arith, none_left)
  call_keeps _ _ _ (steps {ops} {phase} {mid} state new ran step) found =
      omega (
        arith,
        call_keeps ops (Goes phase) mid ran found,
        step.makes.held,
        sum_by-append refused_blocks ops (step.op ∷ []),
        sum_by-cons refused_blocks step.op [],
        none_left,
      )
  call_keeps _ _ _ (turns_back {ops} {phase} {mid} state new ran step) found = absurd found
  call_keeps _ _ _ (reads {ops} {state} {mid} count value new ran r same) found =
      same ∙ call_keeps ops state mid ran found
  call_keeps _ _ _ (resumes {ops} {wait} {mid} value new ran reached r same) found =
      same ∙ call_keeps ops (Waits wait) mid ran found
  call_keeps _ _ _ (gives_up {ops} {wait} {mid} value new ran below r same) found = absurd found

row_keeps : (slot : ℕ) (one : Pass) (result : Result (Option Row) Errno) (after : Pass) →
    TellsRow slot one result after → after.held ≡ one.held
row_keeps slot one (Ok row) after told = omega (arith, told.1.held)
row_keeps slot one (Err why) after (inl none) = ap held_of none.2
row_keeps slot one (Err why) after (inr worn) = worn.3

module _ (generation blocks first : ℕ) (gates : Gates) where
  passes_keep : (passes : List Pass) (made : List Called) → Lives generation blocks first gates passes made →
      held_by passes ≡ left_in_all made
  passes_keep _ _ (lifetime.opens fresh) = refl
  passes_keep _ _ (lifetime.calls {one} {rest} {made} cred asked released ops state after lives ran found) =
      let call : Called = call_of one cred asked released ops state in
      let last = call_keeps (begin cred asked released) one ops state after ran found in
      omega (
        arith,
        last,
        passes_keep (one ∷ rest) made lives,
        sum_by-cons held_of one rest,
        sum_by-cons held_of after rest,
        sum_by-append left_by_call made (call ∷ []),
        sum_by-cons left_by_call call [],
        no_call_left,
      )
  passes_keep _ _ (lifetime.reads_count {one} {rest} {made} count value after lives r same) =
      omega (
        arith,
        same,
        passes_keep (one ∷ rest) made lives,
        sum_by-cons held_of one rest,
        sum_by-cons held_of after rest,
      )
  passes_keep _ _ (lifetime.asks_row {one} {rest} {made} slot result after lives told) =
      omega (
        arith,
        row_keeps slot one result after told,
        passes_keep (one ∷ rest) made lives,
        sum_by-cons held_of one rest,
        sum_by-cons held_of after rest,
      )
  passes_keep _ _ (lifetime.splits {one} {rest} {made} kept new lives split held empty) =
      omega (
        arith,
        held,
        empty,
        passes_keep (one ∷ rest) made lives,
        sum_by-cons held_of one rest,
        sum_by-cons held_of kept (new ∷ rest),
        sum_by-cons held_of new rest,
      )
  passes_keep _ _ (lifetime.joins {one} {two} {rest} {made} after lives joined held) =
      omega (
        arith,
        held,
        passes_keep (one ∷ two ∷ rest) made lives,
        sum_by-cons held_of one (two ∷ rest),
        sum_by-cons held_of two rest,
        sum_by-cons held_of after rest,
      )
  passes_keep _ _ (lifetime.turns_to {one} {made} before rest lives) =
      omega (
        arith,
        passes_keep (before ++ one ∷ rest) made lives,
        sum_by-append held_of before (one ∷ rest),
        sum_by-cons held_of one rest,
        sum_by-cons held_of one (before ++ rest),
        sum_by-append held_of before rest,
      )

-- ---- no chain is refused

abbrev IsTaken : PoolEntry → Type 0
IsTaken e = e.reply ≢ Foreign

all_front : (xs ys : List PoolEntry) → All IsTaken (xs ++ ys) → All IsTaken xs
all_front [] ys a = All-nil IsTaken
all_front (x ∷ xs) ys a =
    All-cons IsTaken x xs (All-head IsTaken x (xs ++ ys) a) (all_front xs ys (All-tail IsTaken x (xs ++ ys) a))

all_back : (xs ys : List PoolEntry) → All IsTaken (xs ++ ys) → All IsTaken ys
all_back [] ys a = a
all_back (x ∷ xs) ys a = all_back xs ys (All-tail IsTaken x (xs ++ ys) a)

not_refused : (who : Who) (op : Op) → All IsTaken (pool_entry who op) → refused_blocks op ≡ 0
not_refused who (AtPool (Release blocks) Foreign) a =
    absurd (All-head IsTaken (record { who = who; call = Release blocks; reply = Foreign }) [] a refl)
not_refused who op a = refl

abbrev left_by_turn : Numbered → ℕ
left_by_turn t = refused_blocks t.op

abbrev turn_in : Renamed → Numbered
turn_in r = r.turn

none_refused : (rs : List Renamed) → All IsTaken (pool_history (map renamed_turn rs)) →
    sum_by left_by_turn (map turn_in rs) ≡ 0
none_refused [] a = refl
none_refused (r ∷ rs) a =
    let here =
    not_refused r.name r.turn.op (all_front (pool_entry r.name r.turn.op) (pool_history (map renamed_turn rs)) a) in
    let rest = none_refused rs (all_back (pool_entry r.name r.turn.op) (pool_history (map renamed_turn rs)) a) in
    omega (arith, here, rest, sum_by-cons left_by_turn r.turn (map turn_in rs))

-- ---- so the calls leave none

abbrev op_in : Numbered → Op
op_in t = t.op

one_or_none : (t : Numbered) (kept : List Numbered) (b : Bool) → refused_blocks t.op ≡ 0 →
    left_in (map op_in kept) ≡ 0 → left_in (map op_in (cond b (t ∷ kept) kept)) ≡ 0
one_or_none t kept true here rest = omega (arith, here, rest, sum_by-cons refused_blocks t.op (map op_in kept))
one_or_none t kept false here rest = rest

none_by : (number : ℕ) (order : List Numbered) → sum_by left_by_turn order ≡ 0 → left_in (ops_by number order) ≡ 0
none_by number [] none = refl
none_by number (t ∷ ts) none =
    let parts = sum_by-cons left_by_turn t ts in
    one_or_none t (filter (is_in_call_of number) ts) (is_in_call_of number t) (omega (arith, none, parts))
    (none_by number ts (omega (arith, none, parts)))

abbrev own_ops : Called → ℕ → List Op
own_ops c number = if c.by == number then c.ops else []

none_in : (calls : List Called) → ((number : ℕ) → left_in (ops_in number calls) ≡ 0) → left_in_all calls ≡ 0
none_in [] each = refl
none_in (c ∷ cs) each =
    let parts : (number : ℕ) →
    left_in (ops_in number (c ∷ cs)) ≡ left_in (own_ops c number) + left_in (ops_in number cs) = λ number.
    sum_by-append refused_blocks (own_ops c number) (ops_in number cs) in
    let rest = none_in cs (λ number. omega (arith, each number, parts number)) in
    let same : (c.by == c.by) ≡ true = grind (arith, nat_tests) in
    let own : left_in (own_ops c c.by) ≡ 0 = omega (arith, each c.by, parts c.by) in
    let its : left_in c.ops ≡ 0 = subst (λ (b : Bool). left_in (if b then c.ops else []) ≡ 0) same own in
    omega (arith, its, rest, sum_by-cons left_by_call c cs)

pub none_kept : (generation blocks first : ℕ) (gates : Gates) (last : Pass) (calls : List Called)
    (order : List Numbered) → Lives generation blocks first gates (last ∷ []) calls →
    IsServed generation blocks order calls → last.held ≡ 0
none_kept generation blocks first gates last calls order lives served =
    let turns = served.run.turns in
    let taken =
    subst (λ ts. All IsTaken (pool_history ts)) (sym turns.in_world) served.run.obeys.objects.conserved.taken_back in
    let none : sum_by left_by_turn order ≡ 0 =
    subst (λ ts. sum_by left_by_turn ts ≡ 0) turns.in_order (none_refused turns.renamed taken) in
    let left =
    none_in calls (λ number. subst (λ ds. left_in ds ≡ 0) (served.all.whole number) (none_by number order none)) in
    omega (
      arith,
      left,
      passes_keep generation blocks first gates (last ∷ []) calls lives,
      sum_by-cons held_of last [],
      none_held,
    )
