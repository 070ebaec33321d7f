-- What is left of a closed service if all passes have been joined, and each of their calls is over or
-- was left at a wait. No gate is held, and all blocks are free: the pool's own, and those of the
-- queued messages. This project's profile.
use Rattle.std.specs.Prelude.{◌≡◌, ℕ, List, [], ◌∷◌, ◌++◌, All}
use Rattle.sysv_thread_laws.specs.Order.{Called}
use Rattle.sysv_thread_laws.specs.AtRest.{Rests}
use Rattle.sysv_bank.specs.Banks.{Each3}
use Rattle.sysv_service.specs.Opened.{AreOpen}
use Rattle.sysv_service.specs.Seats.{Gates, AreOf}
use Rattle.sysv_service.specs.declared.closing.Closed.{Closed}
use Rattle.sysv_service.specs.Closing.{IsCounted}
use Rattle.sysv_thread_laws.specs.Hiring.{first_pass, Hires, all_of}
use Rattle.sysv_thread_laws.specs.Lifetime.{Lives}
use Rattle.sysv_service.specs.Ran.{Pass}
use Rattle.sysv_service.specs.TurnsLeft.{EachGateHasTurnsLeft}
use Rattle.sysv_thread_laws.specs.Working.{Works}

-- No gate is held, and the pool has all its blocks.
pub record IsWholeAgain (blocks : ℕ) (closed : Closed) : Type 0 where
  pub held : closed.held ≡ 0
  pub free : closed.free ≡ blocks

-- No gate is held after the close of a service whose first pass gave a pass to each worker and took
-- all of them back, also if gates were found worn out.
abbrev pub NoHiringLeavesAGateHeld : Type 0
NoHiringLeavesAGateHeld = (gates : Gates) (theirs left : List Pass) (home last : Pass) (each : List (List Called))
    (calls : List Called) (closed : Closed) →
    Hires (first_pass gates) theirs left home → Each3 Works theirs each left → Works home calls last →
    IsCounted last.seats last.held closed → closed.held ≡ 0

-- All blocks are free too after the close of every service with the one pass that was left, if no
-- call found a gate worn out.
abbrev pub EveryPoolIsWhole : Type 0
EveryPoolIsWhole = (generation blocks first : ℕ) (gates : Gates) (last : Pass) (calls : List Called) (closed : Closed) →
    Lives generation blocks first gates (last ∷ []) calls → AreOf gates last.seats →
    IsCounted last.seats last.held closed →
    All (λ (c : Called). Rests c.state) calls → IsWholeAgain blocks closed

-- The same of a service whose first pass gave a pass to each worker and took all of them back, if
-- each gate has turns left after the order that was found at the close.
abbrev pub EveryHiringLeavesThePoolWhole : Type 0
EveryHiringLeavesThePoolWhole = (generation blocks first : ℕ) (gates : Gates) (theirs left : List Pass)
    (home last : Pass) (each : List (List Called)) (calls : List Called) (closed : Closed) →
    AreOpen generation blocks first gates → Hires (first_pass gates) theirs left home → Each3 Works theirs each left →
    Works home calls last →
    AreOf gates last.seats → (end : IsCounted last.seats last.held closed) →
    EachGateHasTurnsLeft first end.all.order →
    All (λ (c : Called). Rests c.state) (all_of each ++ calls) → IsWholeAgain blocks closed
