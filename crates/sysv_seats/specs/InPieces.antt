-- The pieces of a request, one after another, are the request. This project's profile.
use Rattle.std.proofs.Common.{ℕ, ℤ, List, [], Result, inl, inr, refl, sym, subst}
use Rattle.std.specs.Prelude.{⊤}
use Rattle.sysv_model.specs.declared.cred.Cred.{Cred}
use Rattle.sysv_model.specs.declared.errno.Errno.{Errno}
use Rattle.sysv_model.specs.declared.flags.Flags.{Flags}
use Rattle.sysv_queue.specs.Delivery.{Given}
use Rattle.sysv_session.specs.declared.handler.RequestOutcome.{RequestOutcome}
use Rattle.sysv_session.specs.declared.handler.RequestOutcome.TheVariants.{Left}
use Rattle.sysv_service.specs.declared.progress.Progress.{Progress}
use Rattle.sysv_service.specs.declared.progress.Progress.TheVariants as progress
use Rattle.sysv_steps.specs.declared.get.GetWait.{GetWait}
use Rattle.sysv_steps.specs.declared.receive.ReceiveWait.{ReceiveWait}
use Rattle.sysv_steps.specs.declared.send.SendWait.{SendWait}
use Rattle.sysv_service.specs.Pieces.{gets_on, sends_on, receives_on, comes_to_goal, comes_to_wait}
use Rattle.sysv_service.specs.Ran.{Pass}
use Rattle.sysv_steps.specs.Seen.{get_wait, receive_wait, send_wait}
use Rattle.sysv_service.specs.Pending.{GetsOn, ReceivesOn, SendsOn, IsReached, StillWaits}
use Rattle.sysv_steps.specs.Begin.{begin}
use Rattle.sysv_steps.specs.Call.{Msgget, Msgsnd, Msgrcv}
use Rattle.sysv_steps.specs.State.{Phase, Goes}
use Rattle.sysv_wire.specs.declared.frame.Version.{Version}
use Rattle.sysv_wire.specs.declared.request.Ask.{Ask}
use Rattle.sysv_wire.specs.declared.request.Ask.TheVariants.{Hello, Get as AskGet, Snd, Rcv, Stat, Set, Rm, Row, Hold}
use Rattle.sysv_wire.specs.declared.request.Ask.TheVariants.{Done, Back}
use Rattle.sysv_steps.specs.declared.pending.Waiting.{Waiting}
use Rattle.sysv_steps.specs.declared.pending.Waiting.TheVariants.{Send, Receive, Get}
use Rattle.sysv_seats.specs.Asked.{Asks, ReadsReleased}
use Rattle.sysv_seats.specs.Parked.{IsParked, HasBegun, GoesOn, Proceeds, get_progress, send_progress}
use Rattle.sysv_seats.specs.Parked.{receive_progress, kind_in}
use Rattle.sysv_seats.specs.Parked.{wait_in}

module _ (may : ℕ → Type 0) (version : Version) (cred : Cred) where
  -- ---- the beginning

  -- A send that has read the released count and made its steps.
  pub send_begins : (id mtype : ℤ) (flags : Flags) (text : List ℕ) (released : ℕ) (before mid : Pass)
      (came : Progress SendWait (Result ⊤ Errno)) (after : Pass) → ReadsReleased released before mid →
      SendsOn may (begin cred (Msgsnd id mtype flags text) released) mid came text after →
      HasBegun may version cred (Snd id mtype flags) text before (send_progress version came) [] after
  send_begins id mtype flags text released before mid (progress.Waits w) after read on =
      ((released, mid, read, on.0, on.1), refl)
  send_begins id mtype flags text released before mid (progress.Over told) after read on =
      ((released, mid, read, inl (told, on.0, on.1, on.2, refl)), refl)

  -- A receive that has made its steps.
  pub receive_begins : (id : ℤ) (size : ℕ) (mtype : ℤ) (flags : Flags) (text : List ℕ) (before : Pass)
      (came : Progress ReceiveWait (Result Given Errno)) (given : List ℕ) (after : Pass) →
      ReceivesOn may (begin cred (Msgrcv id size mtype flags) 0) before came given after →
      HasBegun may version cred (Rcv id size mtype flags) text before (receive_progress version came) given after
  receive_begins id size mtype flags text before (progress.Waits w) given after on = (on.0, on.1)
  receive_begins id size mtype flags text before (progress.Over told) given after on =
      inl (told, on.0.0, on.0.1, on.0.2, refl)

  -- A get that has made its steps.
  pub get_begins : (key : ℤ) (flags : Flags) (text : List ℕ) (before : Pass)
      (came : Progress GetWait (Result ℤ Errno)) (after : Pass) →
      GetsOn may (begin cred (Msgget key flags) 0) before came after →
      HasBegun may version cred (AskGet key flags) text before (get_progress version came) [] after
  get_begins key flags text before (progress.Waits w) after on = (on, refl)
  get_begins key flags text before (progress.Over told) after on = (inl (told, on.0, on.1, on.2, refl), refl)

  -- ---- a parked call goes on

  -- It still waits.
  pub still_parked : (ask : Ask) (text : List ℕ) (start : Pass) (waiting : Waiting) (before after : Pass) →
      IsParked may cred ask text start waiting before → StillWaits (wait_in waiting text) before after →
      IsParked may cred ask text start waiting after
  still_parked (Snd id mtype flags) text start (Send w) before after parked still = (
    parked.0,
    parked.1,
    parked.2,
    comes_to_wait may (begin cred (Msgsnd id mtype flags text) parked.0) parked.1 (send_wait w text) before after
        parked.3 still,
    parked.4,
  )
  still_parked (Rcv id size mtype flags) text start (Receive w) before after parked still =
      comes_to_wait may (begin cred (Msgrcv id size mtype flags) 0) start (receive_wait w) before after parked still
  still_parked (AskGet key flags) text start (Get w) before after parked still =
      comes_to_wait may (begin cred (Msgget key flags) 0) start (get_wait w) before after parked still
  still_parked ask text start waiting before after parked still = absurd parked

  -- It is at its goal and makes its steps.
  pub proceeds : (ask : Ask) (text : List ℕ) (start : Pass) (waiting : Waiting) (before : Pass)
      (result : Progress Waiting RequestOutcome) (given : List ℕ) (after : Pass) →
      IsParked may cred ask text start waiting before → (phase : Phase (kind_in waiting)) (mid : Pass) →
      IsReached (wait_in waiting text) before phase mid →
      Proceeds may version waiting text phase mid result given after →
      HasBegun may version cred ask text start result given after
  proceeds (Snd id mtype flags) text start (Send w) before result given after parked phase mid reached on =
      let from = begin cred (Msgsnd id mtype flags text) parked.0 in
      let came = comes_to_goal may from parked.1 (send_wait w text) before phase mid parked.3 reached in
      let whole = sends_on may from parked.1 (Goes phase) mid on.0 text after came on.1 in
      let begun = send_begins id mtype flags text parked.0 start parked.1 on.0 after parked.2 whole in
      subst (λ g. HasBegun may version cred (Snd id mtype flags) text start result g after) (sym on.3)
      (subst (λ r. HasBegun may version cred (Snd id mtype flags) text start r [] after) (sym on.2) begun)
  proceeds (Rcv id size mtype flags) text start (Receive w) before result given after parked phase mid reached on =
      let from = begin cred (Msgrcv id size mtype flags) 0 in
      let came = comes_to_goal may from start (receive_wait w) before phase mid parked reached in
      let whole = receives_on may from start (Goes phase) mid on.0 given after came on.1 in
      let begun = receive_begins id size mtype flags text start on.0 given after whole in
      subst (λ r. HasBegun may version cred (Rcv id size mtype flags) text start r given after) (sym on.2) begun
  proceeds (AskGet key flags) text start (Get w) before result given after parked phase mid reached on =
      let from = begin cred (Msgget key flags) 0 in
      let came = comes_to_goal may from start (get_wait w) before phase mid parked reached in
      let whole = gets_on may from start (Goes phase) mid on.0 after came on.1 in
      let begun = get_begins key flags text start on.0 after whole in
      subst (λ g. HasBegun may version cred (AskGet key flags) text start result g after) (sym on.3)
      (subst (λ r. HasBegun may version cred (AskGet key flags) text start r [] after) (sym on.2) begun)
  proceeds ask text start waiting before result given after parked phase mid reached on = absurd parked

  -- It looked at its count once.
  pub goes_on : (ask : Ask) (text : List ℕ) (start : Pass) (waiting : Waiting) (before : Pass)
      (result : Progress Waiting RequestOutcome) (given : List ℕ) (after : Pass) →
      IsParked may cred ask text start waiting before →
      GoesOn may version waiting text before result given after →
      HasBegun may version cred ask text start result given after
  goes_on ask text start waiting before result given after parked (inl still) =
      subst (λ r. HasBegun may version cred ask text start r given after) (sym still.1)
      (still_parked ask text start waiting before after parked still.0, still.2)
  goes_on ask text start waiting before result given after parked (inr goes) =
      proceeds ask text start waiting before result given after parked goes.0 goes.1 goes.2 goes.3

  -- ---- the end

  -- What a caller that does not leave may be told, any caller may be told.
  pub asks_any : (may_leave : Type 0) (ask : Ask) (text : List ℕ) (before : Pass) (outcome : RequestOutcome)
      (given : List ℕ) (after : Pass) → Asks may ⊥ version cred ask text before outcome given after →
      Asks may may_leave version cred ask text before outcome given after
  asks_any may_leave (Hello other) text before outcome given after asked = absurd asked
  asks_any may_leave (AskGet key flags) text before outcome given after (inl over, none) = (inl over, none)
  asks_any may_leave (AskGet key flags) text before outcome given after (inr left, none) = absurd left.0.0
  asks_any may_leave (Snd id mtype flags) text before outcome given after
      ((released, mid, read, inl over), none) = ((released, mid, read, inl over), none)
  asks_any may_leave (Snd id mtype flags) text before outcome given after
      ((released, mid, read, inr left), none) = absurd left.0.0
  asks_any may_leave (Rcv id size mtype flags) text before outcome given after (inl over) = inl over
  asks_any may_leave (Rcv id size mtype flags) text before outcome given after (inr left) = absurd left.0.0
  asks_any may_leave (Stat id) text before outcome given after asked = asked
  asks_any may_leave (Set id to) text before outcome given after asked = asked
  asks_any may_leave (Rm id) text before outcome given after asked = asked
  asks_any may_leave (Row slot) text before outcome given after asked = asked
  asks_any may_leave (Hold id size mtype flags seconds) text before outcome given after asked = asked
  asks_any may_leave Done text before outcome given after asked = asked
  asks_any may_leave Back text before outcome given after asked = asked

  -- A parked call can be left, if its caller may leave.
  pub left : (may_leave : Type 0) (ask : Ask) (text : List ℕ) (before : Pass) (waiting : Waiting) (after : Pass) →
      may_leave → IsParked may cred ask text before waiting after →
      Asks may may_leave version cred ask text before Left [] after
  left may_leave (Snd id mtype flags) text before (Send w) after leaves parked = (
    (parked.0, parked.1, parked.2, inr ((leaves, send_wait w text, parked.3), refl)),
    refl,
  )
  left may_leave (Rcv id size mtype flags) text before (Receive w) after leaves parked =
      inr ((leaves, receive_wait w, parked), refl, refl)
  left may_leave (AskGet key flags) text before (Get w) after leaves parked =
      (inr ((leaves, get_wait w, parked), refl), refl)
  left may_leave ask text before waiting after leaves parked = absurd parked
