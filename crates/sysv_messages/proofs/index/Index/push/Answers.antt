use Rattle.std.proofs.Common.{◌<◌, ◌++◌, ◌∷◌, [], length, sym, ap, subst, ◌∙◌, arith}
use Rattle.std.specs.List.{All}
use Rattle.sysv_model.specs.declared.limits.TheConstants.{QUEUE_MESSAGES}
use Rattle.sysv_messages.specs.declared.entry.Entry.{Entry}
use Rattle.sysv_messages.specs.Entries.{IsIndex}
use Rattle.sysv_messages.proofs.Changes.{pushed}
use Rattle.sysv_messages.proofs.index.Index.push.Goals as goal

pub invariant_of-self : goal.invariant_of-self
invariant_of-self c =
    let entries = c.self.inside.by_number.entries.items in
    let room : length entries < QUEUE_MESSAGES = omega (arith, c.requires.room, ap length c.self.view_is) in
    let last =
    subst (λ es. All (λ (o : Entry). o.number < c.args.entry.number) es) (sym c.self.view_is) c.requires.last in
    let kept = pushed entries c.self.inside.by_type.entries.items c.self.invariant.0 c.args.entry
    c.insert.new.self.entries.items room last c.insert.ensures.inserted in (
      subst (λ es. IsIndex es c.insert.new.self.entries.items) (sym c.push.ensures.pushed) kept,
      omega (arith, c.push.ensures.roomy, c.self.invariant.1),
      omega (arith, c.insert.ensures.roomy, c.self.invariant.2),
    )

pub returns : goal.returns
returns c = c.push.ensures.pushed ∙ ap (λ es. es ++ c.args.entry ∷ []) c.self.view_is
