-- What a script prints for calls (this project's script language): a line for the result of each
-- call that is over, and between these, lines for calls that have no result yet.
use Rattle.std.specs.Prelude.{◌≡◌, ◌⊎◌, ℕ, List, [], ◌∷◌, ◌++◌, unwrap_or}
use Rattle.sysv_steps.specs.Call.{Kind}
use Rattle.sysv_steps.specs.State.{State}
use Rattle.sysv_core.specs.World.{World, Opening, Transition, Response, opening}
use Rattle.sysv_core.specs.Run.{Leads}
use Rattle.sysv_core.specs.Seen.{Tells}
use Rattle.sysv_core.specs.declared.event.Answer.{Answer}
use Rattle.sysv_script.specs.declared.head.Head.TheVariants as head
use Rattle.sysv_script.specs.Heads.{head_text}
use Rattle.sysv_script.specs.Names.{operation_of, standing_text}

-- The line for the result of a call that is over: its actor, its kind, its outcome, and the bytes
-- of the message that it returned.
abbrev pub IsResultOf : Response → List ℕ → Type 0
IsResultOf g line = (a : Answer) × Tells g a
    × (line ≡ head_text (head.Answers a.actor (operation_of g.call.asked) a.result) ++ (unwrap_or a.body [] ++ 10 ∷ []))

-- A line for an actor without a result: its call is before a step or waits, it is in another call,
-- it is idle, or the world is worn out.
abbrev pub IsWithoutResult : List ℕ → Type 0
IsWithoutResult line = (actor : ℕ)
    × (((kind : Kind) × (state : State kind) × (line ≡ standing_text actor state ++ 10 ∷ []))
    ⊎ ((line ≡ head_text (head.Busy actor) ++ 10 ∷ [])
    ⊎ ((line ≡ head_text (head.Idle actor) ++ 10 ∷ []) ⊎ (line ≡ head_text (head.Worn actor) ++ 10 ∷ []))))

-- The text has a line for the result of each of these calls, in their order, and no line for
-- another result.
pub data HasResults : List Response → List ℕ → Type 0 where
  Empty : HasResults [] []
  Result : (g : Response) (given : List Response) (line rest : List ℕ) → IsResultOf g line → HasResults given rest →
      HasResults (g ∷ given) (line ++ rest)
  Without : (given : List Response) (line rest : List ℕ) → IsWithoutResult line → HasResults given rest →
      HasResults given (line ++ rest)

-- A run leads from one world to the other, and the text has the results of the calls that end on
-- the way, and no other results.
abbrev pub LeadsPrinting : World → List ℕ → World → Type 0
LeadsPrinting w out after =
    (list : List Transition) × (given : List Response) × Leads w list given after × HasResults given out

-- A run leads to the world from an opening, and the text has the results of its calls, and no other
-- results.
abbrev pub IsOfRunPrinting : List ℕ → World → Type 0
IsOfRunPrinting out w = (o : Opening) × LeadsPrinting (opening o) out w
