-- The headline. For every list of atomic steps of any number of senders and receivers: every
-- accepted message is delivered exactly once, discarded when its queue is removed, or still queued;
-- each receive takes the message that its selector names; messages of one type leave in the order
-- of acceptance; every result follows from the call's arguments and from that call's own turns; a
-- receive waits only while no message is named, a send only while there is no room or too few
-- blocks are free, a get only while another call is creating or removing the queue of its key;
-- after a removal nothing is accepted or delivered under that identifier, for good; sends and
-- receives that had reached the queue before then fail with EIDRM, and later ones fail with EINVAL
-- (what POSIX.1-2017 says of msgget, msgsnd, msgrcv and msgctl, in the steps of this project's
-- profile).
--
-- EveryRunObeys is this statement. A world of the code represents the list of what has happened in
-- it. A step, a preset and a run of events lead from the world of a list to the world of the longer
-- list, with the answers of that run and no others.
use Rattle.std.specs.Prelude.{◌≡◌, ◌≢◌, ◌⊎◌, ℕ, ◌≤◌, List, [], ◌∷◌, ◌++◌, map, All, AllPairs, Contains}
use Rattle.sysv_model.specs.declared.limits.TheConstants.{WORN}
use Rattle.sysv_model.specs.Turn.{Turn, slot_history, registry_history, pool_history, ops_of}
use Rattle.sysv_pool.specs.PoolLaw.{PoolLaw}
use Rattle.sysv_queue.specs.QueueLaw.{QueueLaw}
use Rattle.sysv_keys.specs.RegistryLaw.{RegistryLaw}
use Rattle.sysv_steps.specs.Answers.{IsRightAnswer}
use Rattle.sysv_steps.specs.Effects.{effects}
use Rattle.sysv_core.specs.declared.event.Event.{Event}
use Rattle.sysv_core.specs.declared.event.Answer.{Answer}
use Rattle.sysv_core.specs.declared.event.Stepped.{Stepped}
use Rattle.sysv_core.specs.World.{World, Opening, Invocation, Response, Transition, Preset, opening}
use Rattle.sysv_core.specs.Run.{Leads}
use Rattle.sysv_core.specs.AnswerLaw.{Outcome, AreInTheirCalls, IsMade, AsksAsItWasAsked}
use Rattle.sysv_core.specs.Conserved.{AreConserved}
use Rattle.sysv_core.specs.Parked.{AreParkedRightly}
use Rattle.sysv_core.specs.Removed.{AreRemovedForGood}
use Rattle.sysv_core.specs.Vacant.{AllFindVacant}
use Rattle.sysv_core.specs.Forgotten.{AllTakeTheirRows}
use Rattle.sysv_core.specs.LastWords.{AreToldOfRemovals}
use Rattle.sysv_core.specs.Tending.{AreTended}
use Rattle.sysv_core.specs.Seen.{Seen, Represents, transition_of, TellAll, Gives}

-- The laws of the objects.
pub record ObjectsAreLawful (o : Opening) (w : World) : Type 0 where
  -- The history of each slot obeys the queue law.
  pub queues : (slot : ℕ) → QueueLaw (slot_history slot w.turns)
  -- The history of the registry obeys the registry law: no identifier is made twice.
  pub registry : RegistryLaw o.generation (registry_history w.turns)
  -- The history of the pool obeys the pool law: each block is free, or in a chain that is reserved
  -- and not yet back.
  pub pool : PoolLaw o.blocks (pool_history w.turns)
  -- Each block is free, under a queued message, or held by a call, and the pool takes back every
  -- chain.
  pub conserved : AreConserved o.blocks w.turns w.actors

-- The laws of the calls, and of the turns that they make. Whose a turn may be differs between
-- worlds with presets and worlds with threads, so it is a parameter: `owned` holds of the turns of
-- these calls, and of those that need no call.
pub record CallsAreLawful (owned : List Invocation → Turn → Type 0) (w : World)
    (responses : List Response) : Type 0 where
  -- Each call plays its own turns, and has one ending if it is over.
  pub outcomes : All (Outcome w responses) w.calls
  -- No two calls have the same name.
  pub apart : AllPairs (λ (c d : Invocation). c.who ≢ d.who) w.calls
  -- Each turn is owned.
  pub made : All (owned w.calls) w.turns
  -- Each turn of a call requests what the call's arguments name, also if the call is pending.
  pub asked : All (AsksAsItWasAsked w) w.calls
  -- Each call, also one pending, has had at most one effect: one identifier made, one message
  -- accepted, one taken, one queue changed, or one removed.
  pub once : All (λ (c : Invocation). effects (ops_of c.who w.turns) ≤ 1) w.calls
  -- Each actor that is in a call is in one that it started, and that is one of the calls.
  pub pending : AreInTheirCalls w

-- The laws of the answers, which are the endings of the calls.
pub record AnswersAreLawful (w : World) (responses : List Response) : Type 0 where
  -- Each ending belongs to one of the calls.
  pub known : All (λ (g : Response). Contains w.calls g.call) responses
  -- Each ending is right for the arguments of its call and for the turns of that call.
  pub right : All
      (λ (g : Response). IsRightAnswer g.call.asked (ops_of g.call.who w.turns) g.ending) responses
  -- Sends and receives of a removed queue fail with EIDRM if they had reached it before, else with
  -- EINVAL.
  pub told : AreToldOfRemovals w responses

-- The laws of the lifetime of an identifier, from its making to its forgetting.
pub record LivesAreLawful (w : World) : Type 0 where
  -- A row that is not settled, or whose queue is not live, is to be settled or forgotten by some
  -- actor's call.
  pub tended : AreTended w
  -- Each msgget finds the slot of its new identifier vacant.
  pub vacant : AllFindVacant w.turns
  -- The forget of each removal takes the row of its identifier away.
  pub forgets : AllTakeTheirRows w.turns
  -- A removal is for good.
  pub removed : AreRemovedForGood w.turns

-- The laws of a world that was opened in this way, and of the endings on the way to it, without the
-- law of waits.
pub record IsLawful (owned : List Invocation → Turn → Type 0)
    (o : Opening) (w : World) (responses : List Response) : Type 0 where
  pub objects : ObjectsAreLawful o w
  pub calls : CallsAreLawful owned w responses
  pub answers : AnswersAreLawful w responses
  pub lives : LivesAreLawful w

-- All laws of a world that was opened in this way, and of the endings on the way to it.
pub record Obeys (o : Opening) (w : World) (responses : List Response) : Type 0 where
  -- All laws above hold. Each turn is made by one of the calls, or is one of the three turns of a
  -- preset.
  pub lawful : IsLawful IsMade o w responses
  -- Each call that waits below its goal has a reason to.
  pub parked : AreParkedRightly w

-- Every list of transitions leads from every opening only to worlds that obey the laws.
abbrev pub EveryRunObeys : Type 0
EveryRunObeys = (o : Opening) (list : List Transition) (responses : List Response) (w : World) →
    Leads (opening o) list responses w → Obeys o w responses

-- For every list for which the world stood, it now represents that list and a preset.
abbrev pub StandsWithPreset : Seen → Seen → Type 0
StandsWithPreset old new = (o : Opening) (list : List Transition) (responses : List Response) →
    Represents o list responses old → Represents o (list ++ Preset ∷ []) responses new

-- For every list for which the world stood, it now represents that list and the event, and the
-- result of the event is that of the run.
abbrev pub StandsWithEvent : Seen → Event → Stepped → Seen → Type 0
StandsWithEvent old event result new =
    (o : Opening) (list : List Transition) (responses : List Response) (s : Represents o list responses old) →
    (more : List Response) × Gives s.world more result
    × Represents o (list ++ transition_of event ∷ []) (responses ++ more) new

-- The world continues from that list by the events, all of them or up to the first that finds it
-- worn out at step number 2^62. The answers are those of the endings on the way, in order.
pub record RunsOn (o : Opening) (list : List Transition) (responses : List Response) (events : List Event)
    (answers : List Answer) (new : Seen) : Type 0 where
  pub done : List Event
  pub left : List Event
  pub more : List Response
  pub split : events ≡ done ++ left
  pub worn : (left ≡ []) ⊎ (WORN ≤ new.steps)
  pub told : TellAll more answers
  pub stands : Represents o (list ++ map transition_of done) (responses ++ more) new

-- For every list for which the world stood, it now represents that list and the events that
-- happened, with the answers of that run in order.
abbrev pub StandsWithEvents : Seen → List Event → List Answer → Seen → Type 0
StandsWithEvents old events answers new = (o : Opening) (list : List Transition) (responses : List Response) →
    Represents o list responses old → RunsOn o list responses events answers new

-- For every list for which the world stands, the world to which it leads obeys the laws.
abbrev pub LawsHold : Seen → Type 0
LawsHold seen = (o : Opening) (list : List Transition) (responses : List Response)
    (s : Represents o list responses seen) → Obeys o s.world responses
