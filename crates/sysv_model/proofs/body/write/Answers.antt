use Rattle.std.proofs.Common.{◌≡◌, ◌+◌, ◌++◌, length, take, arith, ap, sym, ◌∙◌}
use Rattle.std.proofs.lemmas.List.{take_all}
use Rattle.sysv_model.proofs.body.write.Goals as goal

-- A piece as long as a block replaces all of its bytes.
pub returns-in-Some-clause-text : goal.returns-in-Some-clause-text
returns-in-Some-clause-text c =
    let piece = c.args.piece.now in
    let chunk = rw c.in-Some.is at c.as_array.ensures.cases in
    let long : length piece ≡ 64 = chunk.long in
    let start : c.args.offset ≡ 0 = omega (arith, long, c.requires) in
    let all = take_all (c.args.offset + length piece) c.in-Some.whole.now (omega (arith, ap length chunk.same)) in
    all ∙ (chunk.same ∙ ap (λ n. take n c.args.block.now ++ piece) (sym start))
