-- What was taken is joined to the changes.
use Rattle.std.proofs.Common.{List, ℕ, ◌≡◌, ◌≤◌, ◌∙◌, arith, sym, subst, length, ap}
use Rattle.sysv_bells.specs.Seats.{joined}
use Rattle.sysv_parking.specs.Changes.{AreHeld, HoldsOn}
use Rattle.sysv_parking.proofs.Told.{are_held, hold_on}
use Rattle.sysv_parking.proofs.changes.Changes.take_told.Goals as goal

pub returns-clause-taken : goal.returns-clause-taken
returns-clause-taken c =
    let more = c.take_changes.ensures.0 in
    let words : c.self.inside.words ≡ c.args.self.now = c.self.view_is in
    let enough : 9 ≤ length c.self.inside.words = omega (arith, c.self.told) in
    let now = c.take_changes.ensures.2 in (
      more,
      c.take_changes.ensures.1,
      now ∙ ap (λ (ws : List ℕ). joined more ws) words,
      subst (λ (ws : List ℕ). AreHeld more ws) (sym now) (are_held more c.self.inside.words enough),
    )

pub returns-clause-kept : goal.returns-clause-kept
returns-clause-kept c =
    subst (λ (ws : List ℕ). HoldsOn c.args.self.now ws) (sym c.take_changes.ensures.2)
    (subst (λ (ws : List ℕ). HoldsOn ws (joined c.take_changes.ensures.0 c.self.inside.words)) c.self.view_is
    (hold_on c.take_changes.ensures.0 c.self.inside.words))
