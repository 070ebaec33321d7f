-- The place is taken out of the line of its key.
use Rattle.std.proofs.Common.{◌≡◌, ◌∙◌, List, ℕ, None, Some, length, get_or, set, ◌-◌, sym, ap, subst}
use Rattle.std.proofs.lemmas.List.{length-set}
use Rattle.sysv_parking.specs.Keys.{line_of}
use Rattle.sysv_parking.specs.Parking.{Parking, key_at}
use Rattle.sysv_parking.specs.Places.{Removes, places_in}
use Rattle.sysv_parking.proofs.Counts.{counted_less}
use Rattle.sysv_parking.proofs.Marks.{within}
use Rattle.sysv_parking.proofs.Places.{left_in_lines}
use Rattle.sysv_parking.proofs.lines.Lines.leave.Goals as goal

module _ (c : goal.After-count_less) where
  removes : Removes (line_of c.in-Some.key) c.args.place (places_in c.self.inside.lines) (places_in c.remove.new.lines)
  removes = subst
      (λ (n : ℕ). Removes n c.args.place (places_in c.self.inside.lines) (places_in c.remove.new.lines))
      c.line.ensures c.remove.ensures

  -- The counts, with one place less of a word.
  abbrev counted : ℕ → List ℕ
  counted word = set c.self.inside.counts.items word (get_or c.self.inside.counts.items word 0 - 1)

  some : get_or c.self.inside.keys.items c.args.place None ≡ Some c.in-Some.key
  some = ap (λ (p : Parking). key_at p c.args.place) c.self.view_is ∙ sym c.in-Some.ensures.key

pub invariant_of-self : goal.invariant_of-self
invariant_of-self c = record {
  in_lines = left_in_lines c.self.inside.keys.items (places_in c.self.inside.lines) (places_in c.remove.new.lines)
      c.args.place c.in-Some.key (removes c)
      (within c.self.inside.keys.items c.args.place c.in-Some.key (some c)) (some c)
      c.self.invariant.in_lines;
  places = c.self.invariant.places ∙ sym (length-set c.self.inside.keys.items c.args.place None);
  words = ap length c.count_less.ensures ∙ length-set c.self.inside.counts.items c.word.result
      (get_or c.self.inside.counts.items c.word.result 0 - 1) ∙ c.self.invariant.words;
  counts = λ word. ap (λ ns. get_or ns word 0) (c.count_less.ensures ∙ ap (counted c) c.word.ensures)
      ∙ counted_less c.self.inside.keys.items c.self.inside.counts.items c.args.place c.in-Some.key
      (within c.self.inside.keys.items c.args.place c.in-Some.key (some c)) (some c)
      c.self.invariant.words c.self.invariant.counts word;
  due = c.self.invariant.due;
}
