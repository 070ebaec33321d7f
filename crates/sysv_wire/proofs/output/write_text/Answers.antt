use Rattle.std.proofs.Common.{◌*◌, subst, sym, ◌∙◌, take, drop}
use Rattle.std.specs.Io.KnownBytes.{Appends}
use Rattle.std.proofs.KnownBytes.{Appends-trans}
use Rattle.sysv_model.specs.Writing.{AppendsPrefix}
use Rattle.sysv_wire.proofs.StreamLemmas.{AppendsPrefix-after, OnErr-from, block_more, block_parts}
use Rattle.sysv_wire.proofs.output.write_text.Goals as goal

pub returns-in_err-write_out-clause-err : goal.returns-in_err-write_out-clause-err
returns-in_err-write_out-clause-err g c =
    let text = c.args.text.now in
    let k = c.loop-k.k in
    OnErr-from c.from_residual.result
    (subst (AppendsPrefix _ _) (sym (block_parts k text))
    (AppendsPrefix-after _ _ _ (take (k * 64) text) (take 64 (drop (k * 64) text)) (drop 64 (drop (k * 64) text))
    c.loop-k.invariant.so_far (subst (AppendsPrefix _ _) c.block.ensures c.in_err-write_out.ensures.err)))

pub loop-k-preserved : goal.loop-k-preserved
loop-k-preserved g c =
    let text = c.args.text.now in
    let k = c.loop-k.k in
    record {
      so_far = subst (Appends _ _) (block_more k text)
          (Appends-trans _ _ _ _ _ c.loop-k.invariant.so_far
          (subst (Appends _ _) c.block.ensures c.in_ok-write_out.ensures.ok));
      same = c.in_ok-write_out.ensures.same ∙ c.loop-k.invariant.same;
      failed = c.in_ok-write_out.ensures.failed ∙ c.loop-k.invariant.failed;
    }
