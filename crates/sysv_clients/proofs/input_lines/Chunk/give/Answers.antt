use Rattle.std.proofs.Common.{arith, ap, length}
use Rattle.sysv_clients.proofs.LineLemmas.{ends_line, ends_none}
use Rattle.sysv_clients.proofs.input_lines.Chunk.give.Goals as goal

pub returns-in-Some : goal.returns-in-Some
returns-in-Some c =
    let long = ap length c.bytes-bytes.ensures in
    ends_line c.args.most c.args.self.now c.bytes-bytes.result.now c.skip.new.self c.args.line.now c.put.new.self
    c.min.result c.in-Some.count c.bytes-bytes.ensures
    (omega (arith, c.min.ensures, long))
    (omega (arith, c.min.ensures, c.len.ensures, c.requires.fits))
    c.in-Some.ensures c.put.ensures c.skip.ensures

pub returns-in-None : goal.returns-in-None
returns-in-None c =
    let long = ap length c.bytes-bytes.ensures in
    ends_none c.args.most c.args.self.now c.bytes-bytes.result.now c.skip-in-None.new.self c.args.line.now
    c.put-in-None.new.self c.min.result c.bytes-bytes.ensures
    (omega (arith, c.min.ensures, long))
    (omega (arith, c.min.ensures, c.len.ensures, c.requires.fits))
    (omega (arith, c.min.ensures, c.len.ensures, c.requires.fits, c.requires.some, long))
    c.in-None.ensures c.put-in-None.ensures c.skip-in-None.ensures
