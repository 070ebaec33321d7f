use Rattle.std.proofs.Common.{◌≡◌, ◌<◌, ◌++◌, ◌∷◌, [], length, length-append, vec_len, vec_capacity, sym, ap, subst}
use Rattle.std.proofs.Common.{◌∙◌, rules, arith, refl, append_assoc, add-zero, inl, inr}
use Rattle.std.proofs.lemmas.List.{append-nil, length_push, nil_from_length}
use Rattle.sysv_core.specs.declared.event.Stepped.TheVariants.{Nothing, Answer}
use Rattle.sysv_core.specs.Tallying.{messages_in}
use Rattle.sysv_core.proofs.Runs.{laws_hold, messages_more, Pending, pending, goes_on, runs_on}
use Rattle.sysv_core.proofs.world.World.run.Goals as goal
use Rattle.sysv_core.proofs.world.World.run.Goals.{in-None, in-Some+in-Worn}

pub loop-event-init : goal.loop-event-init
loop-event-init c =
    let made = c.into_iter-event-iterator.ensures.into_iter_gives in
    record {
      split = sym made.0;
      few = omega (arith, c.in-Ok.ensures.len);
      room = omega (arith, c.in-Ok.ensures.capacity, c.args.events.ok.0);
      written = omega (arith, ap messages_in c.in-Ok.ensures.items);
      lost = refl;
      going =
          subst (Pending c.args.self.now c.args.self.now []) (sym c.in-Ok.ensures.items) (pending c.args.self.now);
    }

pub loop-event-preserved-in-Nothing : goal.loop-event-preserved-in-Nothing
loop-event-preserved-in-Nothing c =
    let next = c.in-Some.ensures.steps in
    let i = c.loop-event.invariant in
    record {
      split = i.split
          ∙ (ap (λ xs. c.loop-event.yielded ++ xs) next.0
          ∙ sym (append_assoc c.loop-event.yielded (c.in-Some.event ∷ []) c.next.new.self.rest.items));
      few = omega (arith, i.few, length_push c.loop-event.yielded c.in-Some.event);
      room = i.room;
      written = c.in-Nothing.ensures.written ∙ (add-zero c.loop-event.self.tally.written ∙ i.written);
      lost = c.in-Nothing.ensures.lost ∙ i.lost;
      going = subst (Pending c.args.self.now c.step.new.self (c.loop-event.yielded ++ c.in-Some.event ∷ []))
          (append-nil c.loop-event.answers.items)
          (goes_on c.args.self.now c.loop-event.self c.step.new.self c.loop-event.yielded c.loop-event.answers.items
          c.in-Some.event Nothing i.going c.in-Nothing.ensures.stands);
    }

pub unwrap-requires : goal.unwrap-requires
unwrap-requires c =
    let next = c.in-Some.ensures.steps in
    let i = c.loop-event.invariant in
    let long = ap length i.split ∙ length-append c.loop-event.yielded c.loop-event.event-iterator.rest.items in
    let more = ap length next.0 in
    let room : vec_len c.loop-event.answers < vec_capacity c.loop-event.answers = omega (arith, i.few, i.room) in
    search (rules, c.push.ensures.succeeds)

pub loop-event-preserved : goal.loop-event-preserved
loop-event-preserved c =
    let next = c.in-Some.ensures.steps in
    let i = c.loop-event.invariant in
    let pushed = rw c.unwrap.ensures at c.push.ensures.items in
    let longer = rw c.unwrap.ensures at c.push.ensures.len in
    record {
      split = i.split
          ∙ (ap (λ xs. c.loop-event.yielded ++ xs) next.0
          ∙ sym (append_assoc c.loop-event.yielded (c.in-Some.event ∷ []) c.next.new.self.rest.items));
      few = omega (arith, i.few, longer, length_push c.loop-event.yielded c.in-Some.event);
      room = omega (arith, i.room, c.push.ensures.capacity);
      written = omega (
        arith,
        i.written,
        c.in-Answer.ensures.written,
        ap messages_in pushed,
        messages_more c.loop-event.answers.items c.in-Answer.answer,
      );
      lost = c.in-Answer.ensures.lost ∙ i.lost;
      going =
          subst (Pending c.args.self.now c.step.new.self (c.loop-event.yielded ++ c.in-Some.event ∷ [])) (sym pushed)
          (goes_on c.args.self.now c.loop-event.self c.step.new.self c.loop-event.yielded c.loop-event.answers.items
          c.in-Some.event (Answer c.in-Answer.answer) i.going c.in-Answer.ensures.stands);
    }

pub returns-clause-stands : goal.returns-clause-stands
returns-clause-stands c =
    let i = c.loop-event.invariant in
    elim c.match-next.branch [
      | in-None w ↦
          let over : c.loop-event.event-iterator.rest.items ≡ [] =
          nil_from_length c.loop-event.event-iterator.rest.items
          (omega (arith, w.in-None.ensures.steps.0, c.loop-event.event-iterator.rest.ok.0)) in
          rw w.self-is
          (runs_on c.args.self.now c.loop-event.self c.args.events.items c.loop-event.yielded []
          c.loop-event.answers.items i.going (i.split ∙ ap (λ xs. c.loop-event.yielded ++ xs) over) (inl refl))
      | in-Some+in-Worn w ↦
          let same = w.in-Worn.ensures.unchanged refl in
          let worn = w.in-Worn.ensures.worn.0 refl in
          rw w.self-is
          (rw same
          (runs_on c.args.self.now c.loop-event.self c.args.events.items c.loop-event.yielded
          c.loop-event.event-iterator.rest.items c.loop-event.answers.items i.going i.split (inr worn)))
    ]

pub returns-in_default-clause-law : goal.returns-in_default-clause-law
returns-in_default-clause-law c = laws_hold c.every_run_obeys.ensures _

pub returns-clause-law : goal.returns-clause-law
returns-clause-law c = laws_hold c.every_run_obeys.ensures _
