use Rattle.sysv_objects.proofs.Legality.{Laws, none_legal, more_legal}
use Rattle.sysv_objects.proofs.laws.legal_turns.Goals as goal

pub returns : goal.returns
returns c =
    let l : Laws = record {
      slot_none = c.legal_history.ensures.empty;
      slot_more = c.legal_history.ensures.more;
      registry_none = c.legal_history-2.ensures.empty;
      registry_next = c.legal_history-2.ensures.more;
      pool_none = c.legal_history-3.ensures.empty;
      pool_next = c.legal_history-3.ensures.more;
    } in
    record { none = none_legal l; more = more_legal l }
