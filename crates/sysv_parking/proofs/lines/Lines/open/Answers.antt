-- No line has a place, and no place has a key or is due.
use Rattle.std.proofs.Common.{◌∙◌, ℕ, None, length, sym, ap}
use Rattle.sysv_parking.specs.Due.{not_due}
use Rattle.sysv_parking.specs.Places.{places_in}
use Rattle.sysv_parking.specs.declared.key.TheConstants.{WORDS}
use Rattle.sysv_parking.proofs.Counts.{none_parked}
use Rattle.sysv_parking.proofs.Places.{all_default, empty_in_lines, none_counted}
use Rattle.std.proofs.lemmas.List.{length-replicate}
use Rattle.sysv_parking.specs.declared.key.Key.{Key}
use Rattle.std.proofs.Common.{Option}
use Rattle.sysv_parking.proofs.lines.Lines.open.Goals as goal

pub invariant_of-result : goal.invariant_of-result
invariant_of-result c = record {
  in_lines = empty_in_lines c.in_ok-no_keys.field-0.items (places_in c.in_ok-empty_lines.field-0) c.args.places
      c.in_ok-no_keys.ensures c.in_ok-empty_lines.ensures;
  places = ap length c.in_ok-none_due.ensures ∙ length-replicate c.args.places not_due
      ∙ sym (ap length c.in_ok-no_keys.ensures ∙ length-replicate {A = Option Key} c.args.places None);
  words = ap length c.in_ok-no_counts.ensures ∙ length-replicate {A = ℕ} WORDS 0;
  counts = λ word. all_default c.in_ok-no_counts.field-0.items WORDS word 0 c.in_ok-no_counts.ensures
      ∙ none_parked word c.in_ok-no_keys.field-0.items c.args.places c.in_ok-no_keys.ensures;
  due = none_counted c.in_ok-none_due.field-0.items c.args.places c.in_ok-none_due.ensures;
}

pub returns-clause-empty : goal.returns-clause-empty
returns-clause-empty c = record {
  keys = λ place. all_default c.in_ok-no_keys.field-0.items c.args.places place None c.in_ok-no_keys.ensures;
  lines = c.in_ok-empty_lines.ensures;
  why = λ place. all_default c.in_ok-none_due.field-0.items c.args.places place not_due c.in_ok-none_due.ensures;
}

pub returns-clause-places : goal.returns-clause-places
returns-clause-places c = (
  ap length c.in_ok-no_keys.ensures ∙ length-replicate {A = Option Key} c.args.places None,
  ap length c.in_ok-none_due.ensures ∙ length-replicate c.args.places not_due,
)
