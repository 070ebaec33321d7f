-- The runs of a world: the worlds to which a list of transitions leads, with the calls that end on
-- the way (this project's profile).
use Rattle.std.specs.Prelude.{◌≡◌, List, [], ◌∷◌, ◌++◌}
use Rattle.sysv_core.specs.World.{World, Transition, Response, Makes}

-- A list of transitions leads from one world to another, with these endings in order.
abbrev pub Leads : World → List Transition → List Response → World → Type 0
Leads w [] responses after = (responses ≡ []) × (after ≡ w)
Leads w (x ∷ xs) responses after = (mid : World) × (one : List Response) × (rest : List Response) × Makes w x one mid
    × Leads mid xs rest after × (responses ≡ one ++ rest)
