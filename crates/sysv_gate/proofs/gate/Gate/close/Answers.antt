use Rattle.sysv_gate.specs.History.{Moves}
use Rattle.sysv_gate.proofs.OneLock.{closes, served_first}
use Rattle.sysv_gate.proofs.gate.Gate.close.Goals as goal

pub close_place-closing-requires-clause-served : goal.close_place-closing-requires-clause-served
close_place-closing-requires-clause-served g c served at =
    served_first (Moves g.O.Object.meaning g.O.Object.counted) c.self.inside c.into_token.ensures.0 _ _ c.self.invariant
    c.into_token.ensures.2 c.self.view_is c.into_token.ensures.1 c.requires g.O.Object.counted c.into_token.result _ _
    served c.close_with-closed.ensures.values.2 at

pub returns : goal.returns
returns g c =
    closes (Moves g.O.Object.meaning g.O.Object.counted) c.self.inside c.into_token.ensures.0 _ _ c.self.invariant
    c.into_token.ensures.2 c.self.view_is c.into_token.ensures.1 c.requires g.O.Object.counted c.into_token.result _ _ _
    c.into_token.ensures.3 c.close_with-closed.ensures.values.2 c.close_place-closing.ensures.read
