use Rattle.std.proofs.Common.{FitsSigned, rules, w32}
use Rattle.std.proofs.lemmas.Int.{to_z-of_z}
use Rattle.sysv_clients.proofs.SavedLemmas.{ToCounts, ToCreator, ToLimits, ToOwner, no_counts, no_creator, no_limits}
use Rattle.sysv_clients.proofs.SavedLemmas.{no_name, no_owner, queue_is}
use Rattle.sysv_clients.proofs.saved.queue_in.Goals as goal

pub returns-in_default : goal.returns-in_default
returns-in_default c = no_name c.args.reader.now c.opens.new.reader c.if-not-opens.ensures c.in_default.ensures

pub returns-in_default-pair_in : goal.returns-in_default-pair_in
returns-in_default-pair_in c =
    let to : ToOwner c.args.reader.now c.name_in.new.reader = record {
      key = c.in-Some.name.0;
      id = c.in-Some.name.1;
      first = c.opens.new.reader;
      opens = c.if-not-opens.ensures;
      name = c.in-Some.ensures;
    } in
    no_owner c.args.reader.now c.name_in.new.reader to c.in_default-pair_in.ensures

pub returns-in_default-pair_in-2 : goal.returns-in_default-pair_in-2
returns-in_default-pair_in-2 c =
    let to : ToOwner c.args.reader.now c.name_in.new.reader = record {
      key = c.in-Some.name.0;
      id = c.in-Some.name.1;
      first = c.opens.new.reader;
      opens = c.if-not-opens.ensures;
      name = c.in-Some.ensures;
    } in
    let then : ToCreator c.args.reader.now c.pair_in.new.reader = record {
      uid = c.in-Some-pair_in.owner.0;
      gid = c.in-Some-pair_in.owner.1;
      mid = c.name_in.new.reader;
      before = to;
      owner = c.in-Some-pair_in.ensures;
    } in
    no_creator c.args.reader.now c.pair_in.new.reader then c.in_default-pair_in-2.ensures

pub returns-in_default-limits_in : goal.returns-in_default-limits_in
returns-in_default-limits_in c =
    let to : ToOwner c.args.reader.now c.name_in.new.reader = record {
      key = c.in-Some.name.0;
      id = c.in-Some.name.1;
      first = c.opens.new.reader;
      opens = c.if-not-opens.ensures;
      name = c.in-Some.ensures;
    } in
    let then : ToCreator c.args.reader.now c.pair_in.new.reader = record {
      uid = c.in-Some-pair_in.owner.0;
      gid = c.in-Some-pair_in.owner.1;
      mid = c.name_in.new.reader;
      before = to;
      owner = c.in-Some-pair_in.ensures;
    } in
    let there : ToLimits c.args.reader.now c.pair_in-2.new.reader = record {
      cuid = c.in-Some-pair_in-2.creator.0;
      cgid = c.in-Some-pair_in-2.creator.1;
      mid = c.pair_in.new.reader;
      before = then;
      creator = c.in-Some-pair_in-2.ensures;
    } in
    no_limits c.args.reader.now c.pair_in-2.new.reader there c.in_default-limits_in.ensures

pub returns-in_default-pair_in-3 : goal.returns-in_default-pair_in-3
returns-in_default-pair_in-3 c =
    let to : ToOwner c.args.reader.now c.name_in.new.reader = record {
      key = c.in-Some.name.0;
      id = c.in-Some.name.1;
      first = c.opens.new.reader;
      opens = c.if-not-opens.ensures;
      name = c.in-Some.ensures;
    } in
    let then : ToCreator c.args.reader.now c.pair_in.new.reader = record {
      uid = c.in-Some-pair_in.owner.0;
      gid = c.in-Some-pair_in.owner.1;
      mid = c.name_in.new.reader;
      before = to;
      owner = c.in-Some-pair_in.ensures;
    } in
    let there : ToLimits c.args.reader.now c.pair_in-2.new.reader = record {
      cuid = c.in-Some-pair_in-2.creator.0;
      cgid = c.in-Some-pair_in-2.creator.1;
      mid = c.pair_in.new.reader;
      before = then;
      creator = c.in-Some-pair_in-2.ensures;
    } in
    let last : ToCounts c.args.reader.now c.limits_in.new.reader = record {
      mode = c.in-Some-limits_in.limits.0;
      qbytes = c.in-Some-limits_in.limits.1;
      mid = c.pair_in-2.new.reader;
      before = there;
      limits = c.in-Some-limits_in.ensures;
    } in
    no_counts c.args.reader.now c.limits_in.new.reader last c.in_default-pair_in-3.ensures

pub returns : goal.returns
returns c =
    let key_fits : FitsSigned w32 c.in-Some.name.0 = search rules in
    let id_fits : FitsSigned w32 c.in-Some.name.1 = search rules in
    rw (to_z-of_z w32 c.in-Some.name.0 key_fits, to_z-of_z w32 c.in-Some.name.1 id_fits)
    (queue_is c.in-Some.name.0 c.in-Some.name.1 c.in-Some-pair_in.owner.0 c.in-Some-pair_in.owner.1
    c.in-Some-pair_in-2.creator.0 c.in-Some-pair_in-2.creator.1 c.in-Some-limits_in.limits.0
    c.in-Some-limits_in.limits.1 c.in-Some-pair_in-3.counts.0 c.in-Some-pair_in-3.counts.1 c.args.reader.now
    c.opens.new.reader c.name_in.new.reader c.pair_in.new.reader c.pair_in-2.new.reader c.limits_in.new.reader
    c.pair_in-3.new.reader c.if-not-opens.ensures c.in-Some.ensures c.in-Some-pair_in.ensures
    c.in-Some-pair_in-2.ensures c.in-Some-limits_in.ensures c.in-Some-pair_in-3.ensures c.if-not-closes.ensures)
