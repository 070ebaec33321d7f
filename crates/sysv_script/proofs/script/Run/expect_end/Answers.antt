use Rattle.std.proofs.Common.{rules}
use Rattle.sysv_script.proofs.FaultLemmas.{LeavesBadLine-stream}
use Rattle.sysv_script.proofs.RunSofar.{takes_more, hands_all, read_none, ends_text, stops_part, stops_read}
use Rattle.sysv_script.proofs.RunSofar.{no_end_in_none, exceeds_at}
use Rattle.sysv_script.proofs.ScriptEnds.{at_stream_fault}
use Rattle.sysv_script.proofs.StreamLemmas.{Grows-part}
use Rattle.sysv_script.proofs.script.Run.expect_end.Goals as goal

pub returns-then-not-is_empty-clause-runs : goal.returns-then-not-is_empty-clause-runs
returns-then-not-is_empty-clause-runs g c = λ s text old number many on.
    exceeds_at _ _ _ _ _ _ _ _ _ many (search rules) on

pub returns-in-Err-clause-runs : goal.returns-in-Err-clause-runs
returns-in-Err-clause-runs g c = λ s text old number many on.
    at_stream_fault c.in-Err.fault s text _ _ _ _ c.in-Err.ensures.fault
    (λ reads.
    stops_read _ _ _ _ _ _ _ _ _ _ _ (no_end_in_none _ _ (search rules) c.in-Err.ensures.kept)
    (c.in-Err.ensures.read_last reads) c.in-Err.ensures.none_left
    (takes_more _ _ _ _ _ _ _ _ _ _ _ c.in-Err.ensures.text on))
    (stops_part _ _ _ _ _ _ _ _ _ _ _ c.in-Err.ensures.err c.in-Err.ensures.none_left on)

pub returns-in-Err-clause-grows : goal.returns-in-Err-clause-grows
returns-in-Err-clause-grows g c = Grows-part _ _ _ c.in-Err.ensures.err

pub returns-in-Err-clause-bad : goal.returns-in-Err-clause-bad
returns-in-Err-clause-bad g c = LeavesBadLine-stream c.in-Err.fault _ c.in-Err.ensures.fault

pub returns-in-Ok-eq0-clause-runs : goal.returns-in-Ok-eq0-clause-runs
returns-in-Ok-eq0-clause-runs g c = λ s text old number many on.
    ends_text _ _ _ _ _ _ _ _ _ (
      read_none _ _ _ (search rules) c.in-Ok-eq0.ensures.count c.in-Ok-eq0.field-0-test,
      c.in-Ok-eq0.ensures.end c.in-Ok-eq0.field-0-test,
    )
    (hands_all _ _ _ _ _ _ _ _ _ _ _ c.in-Ok-eq0.ensures.answers c.in-Ok-eq0.ensures.none_left
    (takes_more _ _ _ _ _ _ _ _ _ _ _ c.in-Ok-eq0.ensures.text on))

pub returns-in-Ok-eq0-clause-grows : goal.returns-in-Ok-eq0-clause-grows
returns-in-Ok-eq0-clause-grows g c = (_, c.in-Ok-eq0.ensures.answers)

pub returns-in-Ok-clause-runs : goal.returns-in-Ok-clause-runs
returns-in-Ok-clause-runs g c = λ s text old number many on.
    exceeds_at _ _ _ _ _ _ _ _ _ many (search rules)
    (hands_all _ _ _ _ _ _ _ _ _ _ _ c.in-Ok.ensures.answers c.in-Ok.ensures.none_left
    (takes_more _ _ _ _ _ _ _ _ _ _ _ c.in-Ok.ensures.text on))

pub returns-in-Ok-clause-grows : goal.returns-in-Ok-clause-grows
returns-in-Ok-clause-grows g c = (_, c.in-Ok.ensures.answers)
