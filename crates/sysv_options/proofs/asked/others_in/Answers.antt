-- One word more names a socket, or names none.
use Rattle.std.proofs.Common.{◌∙◌, ◌∷◌, [], ap, arith, length, length-append, ℕ}
use Rattle.std.specs.Borrow.{Bor}
use Rattle.std.specs.Prelude.{List}
use Rattle.std.proofs.lemmas.List.{length-map}
use Rattle.sysv_options.specs.declared.sockets.Entrance.{Entrance}
use Rattle.sysv_options.specs.Sockets.{listed}
use Rattle.sysv_options.specs.Words.{words_in}
use Rattle.sysv_options.proofs.EntranceLemmas.{as_many, goes_on, named_in}
use Rattle.sysv_options.proofs.asked.others_in.Goals as goal

pub returns-in-Err : goal.returns-in-Err
returns-in-Err c = λ value are.
    let named = named_in (words_in c.args.words.now) c.args.given.now c.loop-number.number _ (listed value)
    c.loop-number-test.true are.entrances in
    c.in-Err.ensures named.0 named.1

pub returns-then-not-add : goal.returns-then-not-add
returns-then-not-add c = λ value are.
    let many = as_many (words_in c.args.words.now) _ (listed value) are.entrances in
    let long = length-map c.args.given.now (λ (word : Bor (List ℕ)). word.now) in
    absurd (omega (
      arith,
      many,
      long,
      are.count,
      are.most,
      c.loop-number.invariant.2,
      c.loop-number-test.true,
      c.if-not-add.ensures.added.1,
    ))

pub loop-number-preserved : goal.loop-number-preserved
loop-number-preserved c =
    let added = c.if-not-add.ensures.added in
    let before = c.loop-number.invariant in
    let long = ap (length {A = Entrance}) added.0
    ∙ length-append (listed c.loop-number.others) (c.in-Ok.entrance ∷ []) in (
      goes_on (words_in c.args.words.now) c.args.given.now c.loop-number.number _ (listed c.loop-number.others)
          (listed c.add.new.self) c.in-Ok.entrance c.loop-number-test.true before.0 c.in-Ok.ensures added.0,
      omega (arith, added.1, before.1, long),
      omega (arith, added.1, before.2),
      omega (arith, added.1, added.2),
      c.add.ensures.room,
    )
