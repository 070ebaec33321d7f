-- Proves that the passes of a service are a team.
use Rattle.std.proofs.Common.{ℕ, inl, inr, List, [], ◌∷◌, ◌++◌, map, Option, Result, Ok, Err, refl, sym, subst}
use Rattle.std.proofs.lemmas.List.{map-append}
use Rattle.sysv_model.specs.declared.attributes.Row.{Row}
use Rattle.sysv_model.specs.declared.errno.Errno.{Errno}
use Rattle.sysv_model.specs.History.{ReadRow, Shown}
use Rattle.sysv_model.specs.Turn.{OfSlot, AtSlot}
use Rattle.sysv_steps.specs.Call.{Kind}
use Rattle.sysv_steps.specs.State.{Phase, State, Goes, Waits}
use Rattle.sysv_steps.specs.Begin.{begin}
use Rattle.sysv_model.specs.Members.{Member}
use Rattle.sysv_thread_laws.specs.Order.{Called}
use Rattle.sysv_thread_laws.specs.Team as team
use Rattle.sysv_thread_laws.specs.Team.{IsTeam, EveryServiceIsARun}
use Rattle.sysv_service.specs.Opened.{AreOpen}
use Rattle.sysv_service.specs.Seats.{Gates}
use Rattle.sysv_service.specs.Ran.{Pass, Steps, FindsNoTurn, begins, steps, turns_back, reads, resumes, gives_up}
use Rattle.sysv_service.specs.Told.{TellsRow}
use Rattle.sysv_thread_laws.specs.Lifetime as lifetime
use Rattle.sysv_thread_laws.specs.Lifetime.{any_moment, EachRunIsAtAnyMoment, call_of, Lives, EveryServiceObeys}
use Rattle.sysv_service.proofs.DoneByPass.{turn_is_made, worn_is_seen, read_is_seen, does}
use Rattle.sysv_service.proofs.PlaysOwnTurns.{plays}

-- ---- a call of any clock

module _ (may : ℕ → Type 0) where
  abbrev step_at : {kind : Kind} (phase : Phase kind) (before : Pass) (state : State kind) (after : Pass) →
      Steps may phase before state after → Steps any_moment phase before state after
  step_at phase before state after s =
      record { op = s.op; now = s.now; moment = λ e. tt; asked = s.asked; goes = s.goes; makes = s.makes }

  abbrev back_at : {kind : Kind} (phase : Phase kind) (before : Pass) (state : State kind) (after : Pass) →
      FindsNoTurn may phase before state after → FindsNoTurn any_moment phase before state after
  back_at phase before state after s =
      record { ops = s.ops; now = s.now; moment = λ e. tt; there = s.there; worn = s.worn; back = s.back }

  pub at_any : EachRunIsAtAnyMoment may
  at_any kind from old _ _ _ begins = (begins, λ found. tt)
  at_any kind from old _ _ _ (steps {ops} {phase} {mid} state new ran step) =
      let so = at_any kind from old ops (Goes phase) mid ran in
      (steps state new so.0 (step_at phase mid state new step), so.1)
  at_any kind from old _ _ _ (turns_back {ops} {phase} {mid} state new ran step) =
      let so = at_any kind from old ops (Goes phase) mid ran in
      (turns_back state new so.0 (back_at phase mid state new step), λ found. absurd found)
  at_any kind from old _ _ _ (reads {ops} {state} {mid} count value new ran r same) =
      let so = at_any kind from old ops state mid ran in
      (reads count value new so.0 r same, so.1)
  at_any kind from old _ _ _ (resumes {ops} {wait} {mid} value new ran reached r same) =
      let so = at_any kind from old ops (Waits wait) mid ran in
      (resumes value new so.0 reached r same, so.1)
  at_any kind from old _ _ _ (gives_up {ops} {wait} {mid} value new ran below r same) =
      let so = at_any kind from old ops (Waits wait) mid ran in
      (gives_up value new so.0 below r same, λ found. absurd found)

-- ---- the passes

abbrev member : Pass → Member
member pass = pass.seats.member

abbrev members : List Pass → List Member
members passes = map member passes

row_in_team : (slot : ℕ) (one : Pass) (rest : List Member) (made : List Called) (result : Result (Option Row) Errno)
    (after : Pass) →
    IsTeam (one.seats.member ∷ rest) made → TellsRow slot one result after → IsTeam (after.seats.member ∷ rest) made
row_in_team slot one rest made (Ok row) after so told = team.reads slot (Shown row) after.seats.member so
    (turn_is_made one.seats after.seats (AtSlot slot ReadRow (Shown row)) told.1.turn)
row_in_team slot one rest made (Err why) after so (inl none) =
    subst (λ (p : Pass). IsTeam (p.seats.member ∷ rest) made) (sym none.2) so
row_in_team slot one rest made (Err why) after so (inr worn) =
    team.goes_on after.seats.member so (worn_is_seen one.seats after.seats (OfSlot slot ReadRow) worn.2)

module _ (generation blocks first : ℕ) (gates : Gates) where
  pub team_of : (passes : List Pass) (made : List Called) → Lives generation blocks first gates passes made →
      IsTeam (members passes) made
  team_of _ _ (lifetime.opens fresh) = team.opens 0
  team_of _ _ (lifetime.calls {one} {rest} {made} cred asked released ops state after lives ran found) =
      team.calls (call_of one cred asked released ops state) after.seats.member (team_of (one ∷ rest) made lives) refl
      (plays any_moment (begin cred asked released) one ops state after ran found)
      (does any_moment (begin cred asked released) one ops state after ran)
  team_of _ _ (lifetime.reads_count {one} {rest} {made} count value after lives r same) =
      team.goes_on after.seats.member (team_of (one ∷ rest) made lives)
      (read_is_seen one.seats after.seats count value r)
  team_of _ _ (lifetime.asks_row {one} {rest} {made} slot result after lives told) =
      row_in_team slot one (members rest) made result after (team_of (one ∷ rest) made lives) told
  team_of _ _ (lifetime.splits {one} {rest} {made} kept new lives split held empty) =
      team.splits kept.seats.member new.seats.member (team_of (one ∷ rest) made lives) split.member
  team_of _ _ (lifetime.joins {one} {two} {rest} {made} after lives joined held) =
      team.joins after.seats.member (team_of (one ∷ two ∷ rest) made lives) joined.member
  team_of _ _ (lifetime.turns_to {one} {made} before rest lives) =
      let there = subst (λ ms. IsTeam ms made) (map-append member before (one ∷ rest))
      (team_of (before ++ one ∷ rest) made lives) in
      subst (λ ms. IsTeam (one.seats.member ∷ ms) made) (sym (map-append member before rest))
      (team.turns_to (members before) (members rest) there)

  pub opened_so : (passes : List Pass) (made : List Called) → Lives generation blocks first gates passes made →
      AreOpen generation blocks first gates
  opened_so _ _ (lifetime.opens fresh) = fresh
  opened_so _ _ (lifetime.calls {one} {rest} {made} cred asked released ops state after lives ran found) =
      opened_so (one ∷ rest) made lives
  opened_so _ _ (lifetime.reads_count {one} {rest} {made} count value after lives r same) =
      opened_so (one ∷ rest) made lives
  opened_so _ _ (lifetime.asks_row {one} {rest} {made} slot result after lives told) = opened_so (one ∷ rest) made lives
  opened_so _ _ (lifetime.splits {one} {rest} {made} kept new lives split held empty) =
      opened_so (one ∷ rest) made lives
  opened_so _ _ (lifetime.joins {one} {two} {rest} {made} after lives joined held) =
      opened_so (one ∷ two ∷ rest) made lives
  opened_so _ _ (lifetime.turns_to {one} {made} before rest lives) = opened_so (before ++ one ∷ rest) made lives

pub every_service : EveryServiceIsARun → EveryServiceObeys
every_service law generation blocks first gates last calls closed lives fits end =
    let passes = team_of generation blocks first gates (last ∷ []) calls lives in
    law generation blocks last.seats.member calls end.all.order passes end.all.member
    (end.all.legal generation blocks first gates (opened_so generation blocks first gates (last ∷ []) calls lives) fits)
