-- Each place is passed, and made due if it has a key.
use Rattle.std.proofs.Common.{◌≡◌, ◌∙◌, None, length, get_or, refl, sym, ap, arith}
use Rattle.std.specs.Prelude.{is_some}
use Rattle.sysv_parking.specs.Due.{both, by_all}
use Rattle.sysv_parking.specs.Parking.{key_at, why_at}
use Rattle.sysv_parking.proofs.Marks.{all_none, all_more, all_keep, all_noted, is_none, all_twice}
use Rattle.sysv_parking.proofs.lines.Lines.note_everything.Goals as goal
use Rattle.sysv_parking.proofs.lines.Lines.note_everything.Goals.{then-is_some, else-is_some}

pub loop-place-init : goal.loop-place-init
loop-place-init c = all_none c.args.self.now c.args.self.now refl
    (ap (λ p. length p.why) (sym c.self.view_is) ∙ c.self.invariant.places ∙ ap (λ p. length p.keys) c.self.view_is)

module _ (c : goal.Joined-is_some) where
  is : key_at c.args.self.now c.loop-place.place ≡ c.key.result
  is = ap (λ ks. get_or ks c.loop-place.place None) (sym c.loop-place.invariant.keys) ∙ sym c.key.ensures.key

pub loop-place-preserved : goal.loop-place-preserved
loop-place-preserved c = elim c.if-is_some.branch [
  | then-is_some w ↦ rw w.self-is (all_more c.loop-place.place c.args.self.now c.loop-place.self w.make_due.new.self
      (both (why_at c.loop-place.self c.loop-place.place) by_all) w.make_due.ensures.same.0
      w.make_due.ensures.same.1 w.make_due.ensures.why (all_twice (why_at c.loop-place.self c.loop-place.place))
      (ap is_some (is c) ∙ sym c.is_some.ensures ∙ w.if-is_some.true)
      c.loop-place.invariant)
  | else-is_some w ↦ rw w.self-is (all_keep c.loop-place.place c.args.self.now c.loop-place.self
      (is c ∙ is_none c.key.result (sym c.is_some.ensures ∙ w.if-is_some.false))
      c.loop-place.invariant)
]

pub returns : goal.returns
returns c = all_noted c.loop-place.place c.args.self.now c.loop-place.self
    (let e : length c.self.inside.keys.items ≡ length c.args.self.now.keys = ap (λ p. length p.keys) c.self.view_is in
    omega (arith, c.self.inside.keys.ok)) c.loop-place.invariant
