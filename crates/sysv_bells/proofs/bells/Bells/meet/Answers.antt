use Rattle.std.proofs.Common.{rules, arith, ap, ◌∙◌, ◌*◌, ◌%◌, ◌^◌, [], ◌∷◌, ◌++◌, refl}
use Rattle.sysv_bells.specs.declared.view.Telling.{Telling}
use Rattle.sysv_bells.proofs.OneBit.{has_bit, was_set}
use Rattle.sysv_bells.proofs.StepKeepsRule.{meets, tells}
use Rattle.sysv_bells.proofs.bells.Bells.meet.Goals as goal

pub load_new_seat-found-requires : goal.load_new_seat-found-requires
load_new_seat-found-requires c =
    let words = ap (λ z. z.words) c.self.view_is in
    let place = c.requires.0 in
    let within = c.requires.1 in
    (omega arith, meets _ _ _ (omega arith))

pub fetch_or-requires : goal.fetch_or-requires
fetch_or-requires c =
    let words = ap (λ z. z.words) c.self.view_is in
    let many = c.self.invariant in
    let place = c.requires.0 in
    let within = c.requires.1 in (
      search rules,
      omega arith,
      tells _ _ _ _ _ _ (ap (λ m. m.0.stage) c.load_new_seat-found.ensures.2.1) (omega arith) (omega arith),
    )

pub returns-clause-told : goal.returns-clause-told
returns-clause-told c =
    let load = c.load_new_seat-found.ensures.2 in
    let set = c.fetch_or.ensures.2 in
    let look : Telling = record { word = c.args.word; bits = c.load_new_seat-found.result.0; since = load.0 } in
    let telling : Telling =
    record { word = c.args.word; bits = 1 * 2 ^ (c.args.number % 64) % 2 ^ 64; since = set.0 } in
    record {
      earlier = look ∷ [];
      telling = telling;
      longer = (look ∷ [], refl);
      is = ap (λ m. m.0.told) set.1 ∙ ap (λ m. m.0.told ++ telling ∷ []) load.1;
      word = c.requires.0;
      bit = has_bit (c.args.number % 64) (omega arith);
    }

pub returns-then-found-mark-ne0-clause-told : goal.returns-then-found-mark-ne0-clause-told
returns-then-found-mark-ne0-clause-told c =
    let load = c.load_new_seat-found.ensures.2 in
    record {
      earlier = [];
      telling = record { word = c.args.word; bits = c.load_new_seat-found.result.0; since = load.0 };
      longer = ([], refl);
      is = ap (λ m. m.0.told) load.1;
      word = c.requires.0;
      bit = was_set c.load_new_seat-found.result.0 (c.args.number % 64) (omega arith) c.if-found-mark-ne0.true;
    }
