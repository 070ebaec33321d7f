use Rattle.std.proofs.Common.{◌≤◌, length, sym, subst, ◌∙◌}
use Rattle.std.specs.Io.KnownBytes.{Consumes}
use Rattle.std.proofs.KnownBytes.{Consumes-trans}
use Rattle.sysv_wire.proofs.StreamLemmas.{came, length_came}
use Rattle.sysv_wire.proofs.input.fill.Goals as goal

pub loop-count-preserved : goal.loop-count-preserved
loop-count-preserved g c =
    let bytes = c.loop-count.bytes in
    let fits : c.in-Ok.more ≤ length c.read.new.buf = c.in-Ok.ensures.bound.0 in
    record {
      within = length_came c.loop-count.count c.in-Ok.more _ bytes c.read.new.buf c.loop-count.invariant.within fits;
      so_far = subst (Consumes _ _)
          (sym (came c.loop-count.count c.in-Ok.more _ bytes c.read.new.buf c.loop-count.invariant.within fits))
          (Consumes-trans _ _ _ _ _ c.loop-count.invariant.so_far c.in-Ok.ensures.bytes.0);
      same = c.in-Ok.ensures.same ∙ c.loop-count.invariant.same;
      failed = c.in-Ok.ensures.failed ∙ c.loop-count.invariant.failed;
    }
