use Rattle.std.proofs.Common.{◌≡◌, ◌+◌, ℕ, suc, ◌<◌, List, Option, Some, None, length, get_or, option_map, sym, refl}
use Rattle.std.proofs.Common.{ap, subst}
use Rattle.std.proofs.Common.{◌∙◌, arith}
use Rattle.sysv_core.specs.declared.actor.Doing.{Doing}
use Rattle.sysv_core.specs.Standing.{doing_state, state_at, StandsNowhere, StandsThere}
use Rattle.sysv_core.specs.Seen.{Seen}
use Rattle.sysv_core.proofs.world.World.doing.Goals as goal
use Rattle.sysv_core.proofs.KeptActors.{seen_at}

-- What is seen at an actor's place is what is kept there.
stands_there : (actors doings : List (Option Doing)) (actor place : ℕ) (here doing : Option Doing) →
    actors ≡ doings → (actor ≡ place + 1) × (place < length doings) → here ≡ get_or actors place here →
    here ≡ doing → state_at doings actor ≡ Some (option_map doing_state doing)
stands_there actors doings actor place here doing view there is same =
    let number : actor ≡ suc place = there.0 ∙ omega arith in
    ap (state_at doings) number
    ∙ ap (option_map (λ d. option_map doing_state d))
    (seen_at actors doings view place there.1 here is ∙ ap (λ x. Some x) same)

pub returns-in-Some : goal.returns-in-Some
returns-in-Some c =
    let doing = c.in-Some.doing in
    let there = stands_there c.self.inside.actors.items c.args.self.now.doings c.args.actor c.in_ok-place.place
    c.index.result.now (Some doing)
    (ap (λ (v : Seen). v.doings) c.self.view_is) c.in_ok-place.ensures c.index.ensures c.in-Some.is in
    subst (λ s. StandsThere s doing) (sym there) refl

pub returns-in-None : goal.returns-in-None
returns-in-None c =
    let there = stands_there c.self.inside.actors.items c.args.self.now.doings c.args.actor c.in_ok-place.place
    c.index.result.now None
    (ap (λ (v : Seen). v.doings) c.self.view_is) c.in_ok-place.ensures c.index.ensures c.in-None.is in
    subst StandsNowhere (sym there) tt
