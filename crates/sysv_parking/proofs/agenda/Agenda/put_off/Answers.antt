-- The other envelopes are kept.
use Rattle.std.proofs.Common.{◌≡◌, Bool, true, false, List, [], ◌∷◌, ap, sym, subst}
use Rattle.std.specs.Prelude.{if◌then◌else◌}
use Rattle.std.specs.List.{Contains}
use Rattle.std.proofs.lemmas.List.Elements.{Contains-append_right}
use Rattle.sysv_parking.specs.declared.envelope.Envelope.{Envelope}
use Rattle.sysv_parking.specs.Agenda.{Agenda}
use Rattle.sysv_parking.specs.Changes.{Holds}
use Rattle.sysv_parking.proofs.agenda.Agenda.put_off.Goals as goal

still_kept : (fits : Bool) (first : Envelope) (old new : List Envelope) → new ≡ (if fits then first ∷ old else old) →
    (envelope : Envelope) → Contains old envelope → Contains new envelope
still_kept true first old new e envelope is =
    subst (λ (es : List Envelope). Contains es envelope) (sym e) (Contains-append_right (first ∷ []) old envelope is)
still_kept false first old new e envelope is = subst (λ (es : List Envelope). Contains es envelope) (sym e) is

pub returns-clause-work : goal.returns-clause-work
returns-clause-work c = record {
  number = ap (λ (a : Agenda). a.number) c.self.view_is;
  changes = λ change holds. subst (λ (a : Agenda). Holds a.changes change) (sym c.self.view_is) holds;
  envelopes = λ envelope is. still_kept _ c.args.envelope c.self.inside.envelopes.items c.push_front.new.self.items
      c.push_front.ensures.items envelope
      (subst (λ (a : Agenda). Contains a.envelopes envelope) (sym c.self.view_is) is);
}
