-- Each place is passed, and made due if its call is at the slot.
use Rattle.std.proofs.Common.{◌≡◌, ◌∙◌, List, None, Some, length, get_or, set, refl, sym, ap, arith}
use Rattle.std.proofs.lemmas.Bool.{false≢true}
use Rattle.sysv_parking.specs.Keys.{slot_in}
use Rattle.sysv_parking.specs.declared.due.Why.{Why}
use Rattle.sysv_parking.specs.Due.{both}
use Rattle.sysv_parking.specs.Parking.{key_at, why_at}
use Rattle.sysv_parking.proofs.Marks.{slot_none, slot_more, slot_keep, slot_noted}
use Rattle.sysv_parking.proofs.lines.Lines.note_change.Goals as goal
use Rattle.sysv_parking.proofs.lines.Lines.note_change.Goals.{then-is_at, else-is_at}

pub loop-place-init : goal.loop-place-init
loop-place-init c = slot_none c.args.slot c.args.self.now c.args.self.now refl
    (ap (λ p. length p.why) (sym c.self.view_is) ∙ c.self.invariant.places ∙ ap (λ p. length p.keys) c.self.view_is)

-- Why each place is due, after this one was made due for these reasons too.
module _ (c : goal.Joined-is_at) where
  abbrev marked : Why → List Why
  marked more =
      set c.loop-place.self.why c.loop-place.place (both (why_at c.loop-place.self c.loop-place.place) more)

pub loop-place-preserved : goal.loop-place-preserved
loop-place-preserved c =
    let is : key_at c.args.self.now c.loop-place.place ≡ Some c.in-Some.key =
    ap (λ ks. get_or ks c.loop-place.place None) (sym c.loop-place.invariant.keys)
    ∙ sym c.key.ensures.key ∙ c.in-Some.is in
    elim c.if-is_at.branch [
      | then-is_at w ↦ rw w.self-is (slot_more c.args.slot c.loop-place.place c.in-Some.key c.args.self.now
          c.loop-place.self w.make_due.new.self w.make_due.ensures.same.0 w.make_due.ensures.same.1
          (w.make_due.ensures.why ∙ ap (marked c) w.changed.ensures)
          is (c.is_at.ensures.0 w.if-is_at.true) c.loop-place.invariant)
      | else-is_at w ↦ rw w.self-is (slot_keep c.args.slot c.loop-place.place c.args.self.now c.loop-place.self
          (λ key some at. let same : c.in-Some.key ≡ key = cc (is, some) in
          false≢true (sym w.if-is_at.false ∙ c.is_at.ensures.1 (ap slot_in same ∙ at))) c.loop-place.invariant)
    ]

pub returns : goal.returns
returns c = slot_noted c.args.slot c.loop-place.place c.args.self.now c.loop-place.self
    (let e : length c.self.inside.keys.items ≡ length c.args.self.now.keys = ap (λ p. length p.keys) c.self.view_is in
    omega (arith, c.self.inside.keys.ok)) c.loop-place.invariant
