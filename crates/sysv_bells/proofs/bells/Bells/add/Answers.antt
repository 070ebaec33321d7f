use Rattle.std.proofs.Common.{rules, arith, ap, ◌∙◌, ◌+◌, ◌*◌, ◌/◌, ◌%◌, ◌^◌, ℕ, [], ◌∷◌, ◌++◌, refl, sym}
use Rattle.std.proofs.lemmas.List.{append-nil}
use Rattle.sysv_bells.specs.declared.view.Telling.{Telling}
use Rattle.sysv_bells.specs.Rule.{is_teller}
use Rattle.sysv_bells.proofs.OneBit.{has_bit, was_set}
use Rattle.sysv_bells.proofs.StepKeepsRule.{looks, tells}
use Rattle.sysv_bells.proofs.bells.Bells.add.Goals as goal

pub load-requires : goal.load-requires
load-requires c = (search rules, search rules, looks _ _ _ _ _ (ap is_teller c.requires.idle) (omega arith))

pub fetch_or-requires : goal.fetch_or-requires
fetch_or-requires c =
    let idle = ap (λ m. m.0.stage) c.load.ensures.2.1 ∙ c.requires.idle in
    let within = c.if-word-word_count.false in
    let counted = c.word_count.ensures in
    let many = c.self.invariant in
    (search rules, search rules, tells _ _ _ _ _ _ idle (omega arith) (omega arith))

pub returns-then-load-bit-eq0-clause-told : goal.returns-then-load-bit-eq0-clause-told
returns-then-load-bit-eq0-clause-told c within =
    let load = c.load.ensures.2 in
    let set = c.fetch_or.ensures.2 in
    let word : ℕ = c.args.number / 64 + 2 in
    let look : Telling = record { word = word; bits = c.load.result; since = load.0 } in
    let telling : Telling = record { word = word; bits = 1 * 2 ^ (c.args.number % 64) % 2 ^ 64; since = set.0 } in
    record {
      earlier = c.args.token.now.me.0.told ++ look ∷ [];
      telling = telling;
      longer = (look ∷ [], refl);
      is = ap (λ m. m.0.told) set.1 ∙ ap (λ m. m.0.told ++ telling ∷ []) load.1;
      word = refl;
      bit = has_bit (c.args.number % 64) (omega arith);
    }

pub returns-else-load-bit-eq0-clause-told : goal.returns-else-load-bit-eq0-clause-told
returns-else-load-bit-eq0-clause-told c within =
    let load = c.load.ensures.2 in
    record {
      earlier = c.args.token.now.me.0.told;
      telling = record { word = c.args.number / 64 + 2; bits = c.load.result; since = load.0 };
      longer = ([], sym (append-nil c.args.token.now.me.0.told));
      is = ap (λ m. m.0.told) load.1;
      word = refl;
      bit = was_set c.load.result (c.args.number % 64) (omega arith) c.if-load-bit-eq0.false;
    }
