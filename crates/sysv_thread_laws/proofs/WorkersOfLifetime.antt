-- Proves that the workers of a service are passes of its lifetime.
use Rattle.std.specs.List.{AllByRecursion, FoldsTo, sum_by}
use Rattle.std.proofs.Common.{◌≡◌, ℕ, ◌+◌, Bool, List, [], ◌∷◌, ◌++◌, reverse, Some, None, Ok, Err, refl, sym, ap}
use Rattle.std.proofs.Common.{subst, ◌∙◌, add-zero}
use Rattle.std.proofs.lemmas.List.{append_assoc, append-nil}
use Rattle.std.proofs.lemmas.Grind.{reverse_onto}
use Rattle.std.proofs.lemmas.List.Sums.{sum_by_push}
use Rattle.sysv_model.specs.declared.errno.Errno.TheVariants.{EOVERFLOW}
use Rattle.sysv_steps.specs.Begin.{begin}
use Rattle.sysv_steps.specs.Call.{MsgctlRmid}
use Rattle.sysv_steps.specs.State.{Over}
use Rattle.sysv_thread_laws.specs.Order.{Called}
use Rattle.sysv_bank.specs.Banks.{Each3}
use Rattle.sysv_service.specs.Opened.{AreOpen}
use Rattle.sysv_service.specs.Seats.{Gates}
use Rattle.sysv_thread_laws.specs.Hiring.{first_pass, Hires, Gives, TakesIn, all_of, EveryHiringObeys, IsRemoval}
use Rattle.sysv_thread_laws.specs.Hiring.{removed_at, EveryStopRemoves}
use Rattle.sysv_thread_laws.specs.Lifetime as lifetime
use Rattle.sysv_thread_laws.specs.Lifetime.{any_moment, EachRunIsAtAnyMoment, call_of, Lives, EveryServiceObeys}
use Rattle.sysv_service.specs.Marks.{IsUnmarked}
use Rattle.sysv_steps.specs.Stepping.{no_moment}
use Rattle.sysv_service.specs.Ran.{Pass}
use Rattle.sysv_service.specs.Stopped as stop
use Rattle.sysv_service.specs.Stopped.{Stops, StopsAt, removed_by, superuser}
use Rattle.sysv_thread_laws.specs.Working as working
use Rattle.sysv_thread_laws.specs.Working.{Works}
use Rattle.sysv_service.proofs.MarkStays.{no_mark_by_read, no_mark_by_row, no_mark_by_join, finds_turns}
use Rattle.sysv_service.proofs.UnwornAtTheEnd.{unmarked_at_the_end}
use Rattle.sysv_thread_laws.proofs.Whole.{last_is_whole}

-- ---- one pass

-- If a pass is unmarked after it worked, it was unmarked before.
unmarked_before : (old : Pass) (made : List Called) (new : Pass) → Works old made new → IsUnmarked new.seats →
    IsUnmarked old.seats
unmarked_before old _ _ working.begins none = none
unmarked_before old _ _ (working.calls {made} {mid} cred asked released ops state new works ran) none =
    unmarked_before old made mid works
    (finds_turns any_moment (begin cred asked released) mid ops state new ran none).1
unmarked_before old _ _ (working.reads_count {made} {mid} count value new works r same) none =
    unmarked_before old made mid works (no_mark_by_read mid.seats new.seats none count value r)
unmarked_before old _ _ (working.asks_row {made} {mid} slot result new works told) none =
    unmarked_before old made mid works (no_mark_by_row slot mid result new none told)

module _ (generation blocks first : ℕ) (gates : Gates) where
  abbrev Live : List Pass → List Called → Type 0
  Live passes made = Lives generation blocks first gates passes made

  -- A part of the list moves to its front.
  forward : (made : List Called) (bs xs rest : List Pass) → Live (xs ++ (bs ++ rest)) made →
      Live (bs ++ (xs ++ rest)) made
  forward made [] xs rest lives = lives
  forward made (b ∷ bs) xs rest lives =
      let there = subst (λ ps. Live ps made) (sym (append_assoc xs (b ∷ []) (bs ++ rest))) lives in
      let moved = forward made bs (xs ++ b ∷ []) rest there in
      let named : bs ++ ((xs ++ b ∷ []) ++ rest) ≡ (bs ++ xs) ++ b ∷ rest =
      ap (λ ps. bs ++ ps) (append_assoc xs (b ∷ []) rest) ∙ sym (append_assoc bs xs (b ∷ rest)) in
      subst (λ ps. Live (b ∷ ps) made) (append_assoc bs xs rest)
      (lifetime.turns_to (bs ++ xs) rest (subst (λ ps. Live ps made) named moved))

  module _ (before rest : List Pass) where
    -- What the first pass does may be done by a pass anywhere in the list.
    anywhere : (made more : List Called) (one after : Pass) →
        (Live (one ∷ before ++ rest) made → Live (after ∷ before ++ rest) more) → Live (before ++ one ∷ rest) made →
        Live (before ++ after ∷ rest) more
    anywhere made more one after does lives =
        forward more before (after ∷ []) rest (does (lifetime.turns_to before rest lives))

    works_there : (made : List Called) (one : Pass) (calls : List Called) (after : Pass) → Works one calls after →
        IsUnmarked after.seats → Live (before ++ one ∷ rest) made → Live (before ++ after ∷ rest) (made ++ calls)
    works_there made one _ _ working.begins none lives =
        subst (Live (before ++ one ∷ rest)) (sym (append-nil made)) lives
    works_there made one _ _ (working.calls {made = calls} {mid} cred asked released ops state new works ran) none
        lives =
        let found = finds_turns any_moment (begin cred asked released) mid ops state new ran none in
        let call = call_of mid cred asked released ops state in
        subst (Live (before ++ new ∷ rest)) (append_assoc made calls (call ∷ []))
        (anywhere (made ++ calls) ((made ++ calls) ++ call ∷ []) mid new
        (λ here. lifetime.calls cred asked released ops state new here ran found.0)
        (works_there made one calls mid works found.1 lives))
    works_there made one _ _ (working.reads_count {made = calls} {mid} count value new works r same) none lives =
        anywhere (made ++ calls) (made ++ calls) mid new (λ here. lifetime.reads_count count value new here r same)
        (works_there made one calls mid works (no_mark_by_read mid.seats new.seats none count value r) lives)
    works_there made one _ _ (working.asks_row {made = calls} {mid} slot result new works told) none lives =
        anywhere (made ++ calls) (made ++ calls) mid new (λ here. lifetime.asks_row slot result new here told)
        (works_there made one calls mid works (no_mark_by_row slot mid result new none told) lives)

  -- ---- all workers

  gives_all : (theirs rest : List Pass) (own kept : Pass) → FoldsTo Gives own theirs kept → Live (own ∷ rest) [] →
      Live (kept ∷ (reverse theirs ++ rest)) []
  gives_all [] rest own kept gives lives = subst (λ (p : Pass). Live (p ∷ rest) []) gives lives
  gives_all (t ∷ theirs) rest own kept gives lives =
      let split = gives.1 in
      let more =
      gives_all theirs (t ∷ rest) gives.0 kept gives.2 (lifetime.splits gives.0 t lives split.0 split.1 split.2) in
      let named : reverse theirs ++ (t ∷ rest) ≡ reverse (t ∷ theirs) ++ rest =
      sym (append_assoc (reverse theirs) (t ∷ []) rest) ∙ ap (λ ps. ps ++ rest) (sym (reverse_onto theirs t [])) in
      subst (λ ps. Live (kept ∷ ps) []) named more

  works_all : (theirs : List Pass) (each : List (List Called)) (left rest : List Pass) (kept : Pass)
      (made : List Called) → Each3 Works theirs each left → AllByRecursion (λ (p : Pass). IsUnmarked p.seats) left →
      Live (kept ∷ (reverse theirs ++ rest)) made → Live (kept ∷ (reverse left ++ rest)) (made ++ all_of each)
  works_all [] [] [] rest kept made works none lives = subst (Live (kept ∷ rest)) (sym (append-nil made)) lives
  works_all [] [] (z ∷ zs) rest kept made works none lives = absurd works
  works_all [] (y ∷ ys) zs rest kept made works none lives = absurd works
  works_all (x ∷ xs) [] zs rest kept made works none lives = absurd works
  works_all (x ∷ xs) (y ∷ ys) [] rest kept made works none lives = absurd works
  works_all (t ∷ theirs) (calls ∷ each) (l ∷ left) rest kept made works none lives =
      let named : reverse (t ∷ theirs) ++ rest ≡ reverse theirs ++ (t ∷ rest) =
      ap (λ ps. ps ++ rest) (reverse_onto theirs t []) ∙ append_assoc (reverse theirs) (t ∷ []) rest in
      let named_after : reverse left ++ (l ∷ rest) ≡ reverse (l ∷ left) ++ rest =
      sym (append_assoc (reverse left) (l ∷ []) rest) ∙ ap (λ ps. ps ++ rest) (sym (reverse_onto left l [])) in
      let worked = works_there (kept ∷ reverse theirs) rest made t calls l works.0 none.0
      (subst (λ ps. Live (kept ∷ ps) made) named lives) in
      let more = works_all theirs each left (l ∷ rest) kept (made ++ calls) works.1 none.1 worked in
      subst (λ ps. Live (kept ∷ ps) (made ++ all_of (calls ∷ each))) named_after
      (subst (Live (kept ∷ (reverse left ++ (l ∷ rest)))) (append_assoc made calls (all_of each)) more)

  takes_all : (made : List Called) (back : List Pass) (own home : Pass) → FoldsTo TakesIn own back home →
      Live (own ∷ back) made → Live (home ∷ []) made
  takes_all made [] own home takes lives = subst (λ (p : Pass). Live (p ∷ []) made) takes lives
  takes_all made (b ∷ back) own home takes lives =
      takes_all made back takes.0 home takes.2 (lifetime.joins takes.0 lives takes.1.0 takes.1.1)

-- All passes that were taken back are unmarked if the pass that took them is.
taken_unmarked : (back : List Pass) (own home : Pass) → FoldsTo TakesIn own back home → IsUnmarked home.seats →
    IsUnmarked own.seats × AllByRecursion (λ (p : Pass). IsUnmarked p.seats) back
taken_unmarked [] own home takes none = (subst (λ (p : Pass). IsUnmarked p.seats) (sym takes) none, tt)
taken_unmarked (b ∷ back) own home takes none =
    let rest = taken_unmarked back takes.0 home takes.2 none in
    let here = no_mark_by_join own.seats takes.0.seats rest.0 b.seats takes.1.0 in
    (here.0, (here.1, rest.1))

module _ (P : Pass → Type 0) where
  all_and_one : (xs : List Pass) (y : Pass) → AllByRecursion P (xs ++ y ∷ []) → AllByRecursion P xs × P y
  all_and_one [] y all = (tt, all.0)
  all_and_one (x ∷ xs) y all = let rest = all_and_one xs y all.1 in ((all.0, rest.0), rest.1)

  all_reversed : (xs : List Pass) → AllByRecursion P (reverse xs) → AllByRecursion P xs
  all_reversed [] all = tt
  all_reversed (x ∷ xs) all =
      let parts = all_and_one (reverse xs) x (subst (AllByRecursion P) (reverse_onto xs x []) all) in
      (parts.1, all_reversed xs parts.0)

-- The lifetime of such a service.
pub hired : (generation blocks first : ℕ) (gates : Gates) (theirs left : List Pass) (home last : Pass)
    (each : List (List Called)) (calls : List Called) →
    AreOpen generation blocks first gates → Hires (first_pass gates) theirs left home → Each3 Works theirs each left →
    Works home calls last → IsUnmarked last.seats →
    Lives generation blocks first gates (last ∷ []) (all_of each ++ calls)
hired generation blocks first gates theirs left home last each calls opened hires works removes none =
    let at_home = unmarked_before home calls last removes none in
    let taken = taken_unmarked (reverse left) hires.kept home hires.takes at_home in
    let fresh = all_reversed (λ (p : Pass). IsUnmarked p.seats) left taken.1 in
    let responses =
    gives_all generation blocks first gates theirs [] (first_pass gates) hires.kept hires.gives
    (lifetime.opens opened) in
    let worked = works_all generation blocks first gates theirs each left [] hires.kept [] works fresh responses in
    let back = takes_all generation blocks first gates (all_of each) (reverse left) hires.kept home hires.takes
    (subst (λ ps. Lives generation blocks first gates (hires.kept ∷ ps) (all_of each)) (append-nil (reverse left))
    worked) in
    works_there generation blocks first gates [] [] (all_of each) home calls last removes none back

pub every_hiring : EveryServiceObeys → EveryHiringObeys
every_hiring law generation blocks first gates theirs left home last each calls closed opened hires works removes fits
    end turns_left =
    let whole = last_is_whole gates theirs left home last each calls hires works removes in
    let none = unmarked_at_the_end generation blocks first gates last.seats end.parts opened fits end.all whole
    turns_left in
    law generation blocks first gates last (all_of each ++ calls) closed
    (hired generation blocks first gates theirs left home last each calls opened hires works removes none) fits end

-- ---- the stop

abbrev removed_of : Called → ℕ
removed_of call = removed_at call.state

abbrev Removes : Pass → ℕ → Pass → Type 0
Removes old removed new =
    (calls : List Called) × Works old calls new × AllByRecursion IsRemoval calls × (sum_by removed_of calls ≡ removed)

one_more : (xs : List Called) (y : Called) → AllByRecursion IsRemoval xs → IsRemoval y →
    AllByRecursion IsRemoval (xs ++ y ∷ [])
one_more [] y all is = (is, tt)
one_more (x ∷ xs) y all is = (all.0, one_more xs y all.1 is)

slot_removes : EachRunIsAtAnyMoment no_moment → (slot here sofar : ℕ) (worn : Bool) (old mid new : Pass) →
    StopsAt slot mid here worn new → Removes old sofar mid → Removes old (sofar + here) new
slot_removes any slot _ sofar _ old mid _ (stop.is_vacant new told) done =
    (done.0, working.asks_row slot (Ok None) new done.1 told, done.2, done.3 ∙ sym (add-zero sofar))
slot_removes any slot _ sofar _ old mid _ (stop.is_worn new told) done =
    (done.0, working.asks_row slot (Err EOVERFLOW) new done.1 told, done.2, done.3 ∙ sym (add-zero sofar))
slot_removes any slot _ sofar _ old mid _ (stop.tries row there ending new told ran) done =
    let from = begin superuser (MsgctlRmid row.id) 0 in
    let call = call_of there superuser (MsgctlRmid row.id) 0 ran.0 (Over ending) in
    let works = working.calls superuser (MsgctlRmid row.id) 0 ran.0 (Over ending) new
    (working.asks_row slot (Ok (Some row)) there done.1 told) (any _ from there ran.0 (Over ending) new ran.1).0 in (
      done.0 ++ call ∷ [],
      works,
      one_more done.0 call done.2 (refl, (row.id, refl), (ending, refl)),
      sum_by_push removed_of done.0 call ∙ ap (λ n. n + removed_by ending) done.3,
    )

module _ (any : EachRunIsAtAnyMoment no_moment) (old : Pass) where
  stop_removes : (slots removed : ℕ) (worn : Bool) (new : Pass) → Stops old slots removed worn new →
      Removes old removed new
  stop_removes _ _ _ _ stop.begins = ([], working.begins, tt, refl)
  stop_removes _ _ _ _ (stop.goes_on {slot} {removed} {worn} {mid} here found new stops at) =
      slot_removes any slot here removed found old mid new at (stop_removes slot removed worn mid stops)

pub every_stop : EachRunIsAtAnyMoment no_moment → EveryStopRemoves
every_stop any slots removed worn old new = stop_removes any old slots removed worn new
