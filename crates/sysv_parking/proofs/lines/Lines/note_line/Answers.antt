-- Each place in the line is passed, and made due.
use Rattle.std.proofs.Common.{◌≡◌, ◌∙◌, [], length, get_or, refl, sym, subst, ap, arith}
use Rattle.sysv_parking.specs.Parking.{AreInLines, item_at, line_at}
use Rattle.sysv_parking.proofs.Marks.{line_none, line_more, line_keep, line_noted}
use Rattle.sysv_parking.proofs.lines.Lines.note_line.Goals as goal
use Rattle.sysv_parking.proofs.lines.Lines.note_line.Goals.{in-Some, in_default}

pub loop-index-init : goal.loop-index-init
loop-index-init c = line_none c.args.line c.args.self.now c.args.self.now refl
    (ap (λ p. length p.why) (sym c.self.view_is) ∙ c.self.invariant.places ∙ ap (λ p. length p.keys) c.self.view_is)
    (subst AreInLines c.self.view_is c.self.invariant.in_lines)

module _ (c : goal.Joined-at) where
  is : item_at (line_at c.args.self.now c.args.line) c.loop-index.index ≡ c.at.result
  is =
      ap (λ ls. item_at (get_or ls c.args.line []) c.loop-index.index) (sym c.loop-index.invariant.lines)
      ∙ sym c.at.ensures.item

pub loop-index-preserved : goal.loop-index-preserved
loop-index-preserved c = elim c.match-at.branch [
  | in-Some w ↦ rw w.self-is (line_more c.args.line c.loop-index.index w.in-Some.place c.args.self.now c.loop-index.self
      w.make_due.new.self w.make_due.ensures.same.0 w.make_due.ensures.same.1 w.make_due.ensures.why
      (is c ∙ w.in-Some.is) c.loop-index.invariant)
  | in_default w ↦ rw w.self-is (line_keep c.args.line c.loop-index.index c.args.self.now c.loop-index.self
      (is c ∙ w.in_default.is) c.loop-index.invariant)
]

pub returns : goal.returns
returns c =
    line_noted c.args.line c.loop-index.index c.args.self.now c.loop-index.self (omega arith) c.loop-index.invariant
