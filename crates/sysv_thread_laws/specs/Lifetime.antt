-- The lifetime of a service, as the contracts of its functions state it. The service is opened; its
-- passes make calls, read rows and counts, are split and joined; and the service is closed with the
-- last pass. This project's profile.
use Rattle.std.specs.Prelude.{◌≡◌, ◌+◌, ⊤, ℕ, List, [], ◌∷◌, ◌++◌, Option, Result}
use Rattle.sysv_model.specs.declared.attributes.Row.{Row}
use Rattle.sysv_model.specs.declared.cred.Cred.{Cred}
use Rattle.sysv_model.specs.declared.errno.Errno.{Errno}
use Rattle.sysv_model.specs.Turn.{Op}
use Rattle.sysv_steps.specs.Call.{SystemCall, Kind, kind_of}
use Rattle.sysv_steps.specs.State.{State}
use Rattle.sysv_steps.specs.Begin.{begin}
use Rattle.sysv_steps.specs.Resume.{Count}
use Rattle.sysv_thread_laws.specs.Order.{Called}
use Rattle.sysv_thread_laws.specs.Team.{IsServed}
use Rattle.sysv_service.specs.Opened.{AreOpen, all_opened}
use Rattle.sysv_service.specs.Reading.{Reads}
use Rattle.sysv_service.specs.Seats.{Gates, AreOf}
use Rattle.sysv_service.specs.Sharing.{AreSplit, AreJoined}
use Rattle.sysv_service.specs.declared.closing.Closed.{Closed}
use Rattle.sysv_service.specs.Closing.{IsCounted}
use Rattle.sysv_service.specs.Ran.{Pass, Ran, FindsTurns}
use Rattle.sysv_service.specs.Told.{TellsRow}

-- ---- calls of several clocks

-- Any clock may return any time.
abbrev pub any_moment : ℕ → Type 0
any_moment now = ⊤

-- The steps of a call hold too if nothing is stated of its clock. So the calls of a service may
-- have several clocks.
abbrev pub EachRunIsAtAnyMoment : (ℕ → Type 0) → Type 0
EachRunIsAtAnyMoment may = (kind : Kind) (from : State kind) (old : Pass) (ops : List Op) (state : State kind)
    (new : Pass) (ran : Ran may from old ops state new) →
    (at : Ran any_moment from old ops state new) × (FindsTurns ran → FindsTurns at)

-- ---- the lifetime

-- The call that this pass makes.
abbrev pub call_of : Pass → Cred → (asked : SystemCall) → ℕ → List Op → State (kind_of asked) → Called
call_of one cred asked released ops state =
    record {
      by = one.seats.member.number;
      cred = cred;
      asked = asked;
      released = released;
      ops = ops;
      state = state;
    }

-- These passes exist now, and these calls were made. The first pass in the list does what is done
-- next.
pub data Lives (generation blocks first : ℕ) (gates : Gates) : List Pass → List Called → Type 0 where
  -- The service was opened.
  opens : AreOpen generation blocks first gates →
      Lives generation blocks first gates (record { seats = all_opened gates; held = 0 } ∷ []) []
  -- The pass made a call, which is over or was left at a wait, and which found no gate worn out.
  calls : {one : Pass} {rest : List Pass} {made : List Called} (cred : Cred) (asked : SystemCall) (released : ℕ)
      (ops : List Op) (state : State (kind_of asked)) (after : Pass) →
      Lives generation blocks first gates (one ∷ rest) made →
      (ran : Ran any_moment (begin cred asked released) one ops state after) → FindsTurns ran →
      Lives generation blocks first gates (after ∷ rest) (made ++ call_of one cred asked released ops state ∷ [])
  -- The pass read a count, as each send does before it starts.
  reads_count : {one : Pass} {rest : List Pass} {made : List Called} (count : Count) (value : ℕ) (after : Pass) →
      Lives generation blocks first gates (one ∷ rest) made → Reads count value one.seats after.seats →
      after.held ≡ one.held → Lives generation blocks first gates (after ∷ rest) made
  -- The pass read the row of a slot, which is no call.
  asks_row : {one : Pass} {rest : List Pass} {made : List Called} (slot : ℕ) (result : Result (Option Row) Errno)
      (after : Pass) →
      Lives generation blocks first gates (one ∷ rest) made → TellsRow slot one result after →
      Lives generation blocks first gates (after ∷ rest) made
  -- Another pass was split off.
  splits : {one : Pass} {rest : List Pass} {made : List Called} (kept new : Pass) →
      Lives generation blocks first gates (one ∷ rest) made →
      AreSplit one.seats kept.seats new.seats → kept.held ≡ one.held → new.held ≡ 0 →
      Lives generation blocks first gates (kept ∷ new ∷ rest) made
  -- The next pass was joined into the first.
  joins : {one two : Pass} {rest : List Pass} {made : List Called} (after : Pass) →
      Lives generation blocks first gates (one ∷ two ∷ rest) made →
      AreJoined one.seats two.seats after.seats → after.held ≡ one.held + two.held →
      Lives generation blocks first gates (after ∷ rest) made
  -- Another pass becomes the first in the list.
  turns_to : {one : Pass} {made : List Called} (before rest : List Pass) →
      Lives generation blocks first gates (before ++ one ∷ rest) made →
      Lives generation blocks first gates (one ∷ before ++ rest) made

-- ---- the law

-- If one pass is left and the service was closed with it, the calls of all passes are all that made
-- the order that was found there, and the order is a run of a world with them, which obeys the
-- headline of threads.
abbrev pub EveryServiceObeys : Type 0
EveryServiceObeys =
    (generation blocks first : ℕ) (gates : Gates) (last : Pass) (calls : List Called) (closed : Closed) →
    Lives generation blocks first gates (last ∷ []) calls → AreOf gates last.seats →
    (end : IsCounted last.seats last.held closed) →
    IsServed generation blocks end.all.order calls
