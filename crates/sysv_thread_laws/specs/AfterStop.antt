-- What a stop leaves. The first pass of a service gave a pass to each worker and took all of them
-- back. It may have made calls since, and then made a stop, and the service was closed with it. No
-- turn of another pass lies between the turns of the stop, or after them. So the stop removed each
-- queue that was left: no slot has a live queue, and no message is queued. This holds if each gate
-- has turns left at the close, since then the stop found no gate worn out (this project's profile).
use Rattle.std.specs.Prelude.{◌≡◌, ◌<◌, ℕ, Bool, false, List, None}
use Rattle.sysv_model.specs.Live.{live}
use Rattle.sysv_model.specs.Turn.{slot_history}
use Rattle.sysv_model.specs.Turns.{Numbered, turns_of}
use Rattle.sysv_keys.specs.declared.identifier.TheConstants.{SLOTS}
use Rattle.sysv_bank.specs.Banks.{Each3}
use Rattle.sysv_service.specs.Opened.{AreOpen}
use Rattle.sysv_service.specs.Seats.{Gates, AreOf}
use Rattle.sysv_service.specs.declared.closing.Closed.{Closed}
use Rattle.sysv_service.specs.Closing.{IsCounted}
use Rattle.sysv_service.specs.Ran.{Pass}
use Rattle.sysv_service.specs.Stopped.{Stops}
use Rattle.sysv_service.specs.TurnsLeft.{EachGateHasTurnsLeft}
use Rattle.sysv_thread_laws.specs.Order.{Called}
use Rattle.sysv_thread_laws.specs.Hiring.{first_pass, Hires}
use Rattle.sysv_thread_laws.specs.Working.{Works}

-- The service is empty after the order that was found at its close.
pub record IsEmpty (order : List Numbered) (closed : Closed) : Type 0 where
  -- No slot has a live queue.
  pub vacant : (slot : ℕ) → slot < SLOTS → live (slot_history slot (turns_of order)) ≡ None
  -- No message is queued.
  pub waiting : closed.waiting ≡ 0

-- This holds of each service that was closed after such a stop, and the stop found no gate worn
-- out.
abbrev pub EveryStopEmpties : Type 0
EveryStopEmpties = (generation blocks first : ℕ) (gates : Gates) (theirs left : List Pass) (home before last : Pass)
    (each : List (List Called)) (calls : List Called) (removed : ℕ) (worn : Bool) (closed : Closed) →
    AreOpen generation blocks first gates → Hires (first_pass gates) theirs left home → Each3 Works theirs each left →
    Works home calls before → Stops before SLOTS removed worn last →
    AreOf gates last.seats → (end : IsCounted last.seats last.held closed) →
    EachGateHasTurnsLeft first end.all.order →
    IsEmpty end.all.order closed × (worn ≡ false)
