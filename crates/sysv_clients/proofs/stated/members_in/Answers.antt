use Rattle.sysv_clients.proofs.StatedLemmas.{no_first, no_second}
use Rattle.sysv_clients.proofs.stated.members_in.Goals as goal

pub returns-in_default : goal.returns-in_default
returns-in_default c = no_first c.args.reader.now c.opens.new.reader c.if-not-opens.ensures c.in_default.ensures

pub returns-in_default-member : goal.returns-in_default-member
returns-in_default-member c =
    no_second c.args.reader.now c.opens.new.reader c.member.new.reader c.in-Some.first c.if-not-opens.ensures
    c.in-Some.ensures c.in_default-member.ensures
