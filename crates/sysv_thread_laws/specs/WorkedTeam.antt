-- A worked service whose order is the worked one. Pass 0 opens the service, and splits off pass 1
-- and then pass 2. Each pass makes its turns, as far as it must see those of the others. Pass 1 is
-- joined into pass 2, and pass 2 into pass 0, which closes the service. At the end are a list in
-- which a call is missing, and a team that has not been joined.
use Rattle.std.specs.Prelude.{ℕ, List, [], ◌∷◌, take, pos}
use Rattle.sysv_steps.specs.State.{Got, Over}
use Rattle.sysv_thread_laws.specs.Order.{Called}
use Rattle.sysv_model.specs.Members.{Member, AreWhole, Closes}
use Rattle.sysv_thread_laws.specs.Team.{IsTeam, IsServed}
use Rattle.sysv_thread_laws.specs.WorkedOrder.{hello, the_order, the_get, the_send, the_receive, the_left, the_removal}
use Rattle.sysv_thread_laws.specs.WorkedOrder.{the_refused}

-- A pass under this number alone, with this share, that has seen this many turns.
abbrev pub seen : (number depth count : ℕ) → Member
seen number depth count =
    record { number = number; numbers = number ∷ []; shares = depth ∷ []; order = take count the_order }

-- Pass 2, with pass 1 joined into it.
abbrev pub with_one : Member
with_one = record { number = 2; numbers = 2 ∷ 1 ∷ []; shares = 2 ∷ 1 ∷ []; order = take 12 the_order }

-- Pass 0, with both joined into it.
abbrev pub with_all : Member
with_all = record { number = 0; numbers = 0 ∷ 2 ∷ 1 ∷ []; shares = 2 ∷ 2 ∷ 1 ∷ []; order = the_order }

-- The calls in the order in which the team makes them.
abbrev pub calls_of_team : List Called
calls_of_team = the_get ∷ the_send ∷ the_left ∷ the_removal ∷ the_receive (Over (Got (pos 5) hello)) ∷ the_refused ∷ []

-- What holds of this service.
pub record WorkedTeam : Type 0 where
  -- All passes are joined, the service is closed, and its order is a run with the calls.
  pub home : IsTeam (with_all ∷ []) calls_of_team
  pub closes : Closes with_all the_order
  pub served : IsServed 0 128 the_order calls_of_team
  -- No team is joined into one pass with that order and without the send.
  pub left_out : ¬ IsTeam (with_all ∷ [])
      (the_get ∷ the_left ∷ the_removal ∷ the_receive (Over (Got (pos 5) hello)) ∷ the_refused ∷ [])
  -- Pass 0 alone does not have the whole service.
  pub parted : ¬ AreWhole ((seen 0 2 15).shares)
