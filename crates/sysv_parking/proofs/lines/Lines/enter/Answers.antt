-- The place is put into the line of its key.
use Rattle.std.proofs.Common.{◌≡◌, ◌∙◌, List, ◌<◌, ℕ, None, Some, [], length, get_or, set, sym, ap, subst, arith}
use Rattle.std.proofs.lemmas.List.{length-set}
use Rattle.sysv_lists.specs.Numbers.{times}
use Rattle.sysv_parking.specs.Keys.{bounded_sum, line_of}
use Rattle.sysv_parking.specs.Parking.{Parking, key_at, line_at, why_at, without}
use Rattle.sysv_parking.specs.Places.{Appends, places_in}
use Rattle.sysv_parking.proofs.Counts.{counted_more}
use Rattle.sysv_parking.proofs.Marks.{is_none}
use Rattle.sysv_parking.proofs.Places.{entered_in_lines, entered_without, set_elsewhere}
use Rattle.sysv_parking.proofs.lines.Lines.enter.Goals as goal

module _ (c : goal.After-count_more) where
  appends : Appends (line_of c.args.key) c.args.place (places_in c.self.inside.lines) (places_in c.append.new.lines)
  appends = subst
      (λ (n : ℕ). Appends n c.args.place (places_in c.self.inside.lines) (places_in c.append.new.lines))
      c.line.ensures (c.append.ensures.appended c.if-not-append.false)

  -- The counts, with one place more of a word.
  abbrev counted : ℕ → List ℕ
  counted word = set c.self.inside.counts.items word (bounded_sum (get_or c.self.inside.counts.items word 0) 1)

  none : get_or c.self.inside.keys.items c.args.place None ≡ None
  none = ap (λ (p : Parking). key_at p c.args.place) c.self.view_is ∙ sym c.key.ensures.key
      ∙ is_none c.key.result (sym c.is_some.ensures ∙ c.if-is_some.false)

  low : c.args.place < length c.self.inside.keys.items
  low = omega (arith, c.self.inside.keys.ok, c.len.ensures, c.if-place-len.false)

pub invariant_of-self-2 : goal.invariant_of-self-2
invariant_of-self-2 c = record {
  in_lines = λ line p. ap (λ ls. times p (get_or ls line [])) (appends c).lines
      ∙ entered_in_lines c.self.inside.keys.items (places_in c.self.inside.lines) c.args.place c.args.key (low c)
      (appends c).there (none c) c.self.invariant.in_lines line p;
  places = c.self.invariant.places ∙ sym (length-set c.self.inside.keys.items c.args.place (Some c.args.key));
  words = ap length c.count_more.ensures ∙ length-set c.self.inside.counts.items c.word.result
      (bounded_sum (get_or c.self.inside.counts.items c.word.result 0) 1) ∙ c.self.invariant.words;
  counts = λ word. ap (λ ns. get_or ns word 0) (c.count_more.ensures ∙ ap (counted c) c.word.ensures)
      ∙ counted_more c.self.inside.keys.items c.self.inside.counts.items c.args.place c.args.key (low c) (none c)
      (omega (arith, c.self.inside.keys.ok, c.self.inside.keys.small))
      c.self.invariant.words c.self.invariant.counts word;
  due = c.self.invariant.due;
}

pub returns-clause-moves : goal.returns-clause-moves
returns-clause-moves c = record {
  keys = λ other differ. set_elsewhere c.self.inside.keys.items c.args.place other (Some c.args.key) None differ
      ∙ ap (λ (p : Parking). key_at p other) c.self.view_is;
  lines = λ line. ap (λ ls. without c.args.place (get_or ls line [])) (appends c).lines
      ∙ entered_without c.self.inside.keys.items (places_in c.self.inside.lines) c.args.place c.args.key line
      (appends c).there
      ∙ ap (λ (p : Parking). without c.args.place (line_at p line)) c.self.view_is;
  why = λ other differ. ap (λ (p : Parking). why_at p other) c.self.view_is;
}
