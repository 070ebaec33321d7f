use Rattle.std.proofs.Common.{◌≡◌, ℕ, List, Option, Some, rules, subst}
use Rattle.sysv_model.specs.Instrumented.{stream_of}
use Rattle.sysv_script.specs.declared.line_reader.Found.{Found}
use Rattle.sysv_script.specs.Found.{FindsLine, IsNextLine}
use Rattle.sysv_script.proofs.LineLemmas.{IsNextLine-front, IsNextLine-behind}
use Rattle.sysv_script.proofs.FaultLemmas.{IfErr-stream}
use Rattle.sysv_script.proofs.RunSofar.{takes_more, hands_more, runs_line, runs_last, ends_text, stops_part}
use Rattle.sysv_script.proofs.RunSofar.{stops_read}
use Rattle.sysv_script.proofs.ScriptEnds.{at_stream_fault, at_write_fault, at_line_fault, RunsNext-passed}
use Rattle.sysv_script.proofs.ScriptEnds.{RunsNext-line}
use Rattle.sysv_script.proofs.StreamLemmas.{Grows-trans, Grows-handed, Grows-part}
use Rattle.sysv_script.proofs.script.Run.run_next.Goals as goal

next_found : (line : Option Found) (found : Found) (text : List ℕ) (left : Option (List ℕ)) → line ≡ Some found →
    FindsLine line text left → IsNextLine found text left
next_found line found text left e finds = subst (λ (l : Option Found). FindsLine l text left) e finds

pub returns-in_err-found-clause-grows : goal.returns-in_err-found-clause-grows
returns-in_err-found-clause-grows g c = Grows-part _ _ _ c.in_err-found.ensures.err

pub returns-in_err-found-clause-bad : goal.returns-in_err-found-clause-bad
returns-in_err-found-clause-bad g c =
    IfErr-stream c.from_residual.result c.in_err-found.field-0.0 _ c.from_residual.ensures.1
    c.in_err-found.ensures.fault

pub returns-in_default-clause-grows : goal.returns-in_default-clause-grows
returns-in_default-clause-grows g c = Grows-handed _ _ _ _ c.in_ok-found.ensures.answers

pub returns-in_err-make_room-clause-grows : goal.returns-in_err-make_room-clause-grows
returns-in_err-make_room-clause-grows g c =
    Grows-trans _ _ _ (Grows-handed _ _ _ _ c.in_ok-found.ensures.answers)
    (Grows-part _ _ _ c.in_err-make_room.ensures.err)

pub returns-in_err-make_room-clause-bad : goal.returns-in_err-make_room-clause-bad
returns-in_err-make_room-clause-bad g c =
    IfErr-stream c.from_residual-in_err-make_room.result c.in_err-make_room.field-0.0 _
    c.from_residual-in_err-make_room.ensures.1 (search rules)

pub run_found-requires-clause-front : goal.run_found-requires-clause-front
run_found-requires-clause-front g c =
    IsNextLine-front _ _ _ (next_found _ _ _ _ c.in-Some.is c.in_ok-found.ensures.found)

pub run_found-requires-clause-behind : goal.run_found-requires-clause-behind
run_found-requires-clause-behind g c =
    IsNextLine-behind _ _ _ (next_found _ _ _ _ c.in-Some.is c.in_ok-found.ensures.found)

pub returns-in_err-run_found-clause-grows : goal.returns-in_err-run_found-clause-grows
returns-in_err-run_found-clause-grows g c =
    Grows-trans _ _ _ (Grows-handed _ _ _ _ c.in_ok-found.ensures.answers)
    (Grows-handed _ _ _ _ c.in_ok-make_room.ensures.ok)

pub returns-clause-grows : goal.returns-clause-grows
returns-clause-grows g c =
    Grows-trans _ _ _ (Grows-handed _ _ _ _ c.in_ok-found.ensures.answers)
    (Grows-handed _ _ _ _ c.in_ok-make_room.ensures.ok)

pub returns-in_err-found-clause-runs : goal.returns-in_err-found-clause-runs
returns-in_err-found-clause-runs g c = λ s text old on.
    RunsNext-passed c.from_residual.result c.in_err-found.field-0.0 s text _ _ _ _ _ _ _ c.from_residual.ensures.1
    (at_stream_fault c.in_err-found.field-0.0 s text _ _ _ _ c.in_err-found.ensures.fault
    (λ reads.
    stops_read _ _ _ _ _ _ _ _ _ _ _ c.in_err-found.ensures.endless (c.in_err-found.ensures.read_last reads)
    c.in_err-found.ensures.none_left
    (takes_more _ _ _ _ _ _ _ _ _ _ _ c.in_err-found.ensures.text on))
    (stops_part _ _ _ _ _ _ _ _ _ _ _ c.in_err-found.ensures.err c.in_err-found.ensures.none_left on))

pub returns-in_default-clause-runs : goal.returns-in_default-clause-runs
returns-in_default-clause-runs g c = λ s text old on.
    let none = subst (λ (l : Option Found).
    FindsLine l c.next_line.new.input (g.R.Read.remaining (stream_of c.next_line.new.reader)))
    c.in_default.is c.in_ok-found.ensures.found in
    ends_text _ _ _ _ _ _ _ _ _ none
    (hands_more _ _ _ _ _ _ _ _ _ _ _ c.in_ok-found.ensures.answers
    (takes_more _ _ _ _ _ _ _ _ _ _ _ c.in_ok-found.ensures.text on))

pub returns-in_err-make_room-clause-runs : goal.returns-in_err-make_room-clause-runs
returns-in_err-make_room-clause-runs g c = λ s text old on.
    RunsNext-passed c.from_residual-in_err-make_room.result c.in_err-make_room.field-0.0 s text _ _ _ _ _ _ _
    c.from_residual-in_err-make_room.ensures.1
    (at_write_fault c.in_err-make_room.field-0.0 s text _ _ _ _ c.in_err-make_room.ensures.fault
    (stops_part _ _ _ _ _ _ _ _ _ _ _ c.in_err-make_room.ensures.err c.in_err-make_room.ensures.none_left
    (hands_more _ _ _ _ _ _ _ _ _ _ _ c.in_ok-found.ensures.answers
    (takes_more _ _ _ _ _ _ _ _ _ _ _ c.in_ok-found.ensures.text on))))

pub returns-in_err-run_found-clause-runs : goal.returns-in_err-run_found-clause-runs
returns-in_err-run_found-clause-runs g c = λ s text old on.
    RunsNext-passed c.from_residual-in_err-run_found.result c.in_err-run_found.field-0.0 s text _ _ _ _ _ _ _
    c.from_residual-in_err-run_found.ensures.1
    (at_line_fault c.one_split.ensures c.in_err-run_found.field-0.0 s text _ _ _ _ _ _ _ _ c.in-Some.found
    c.in_err-run_found.ensures.fault c.in_err-run_found.ensures.bad c.requires.last
    (next_found _ _ _ _ c.in-Some.is c.in_ok-found.ensures.found)
    (hands_more _ _ _ _ _ _ _ _ _ _ _ c.in_ok-make_room.ensures.ok
    (hands_more _ _ _ _ _ _ _ _ _ _ _ c.in_ok-found.ensures.answers
    (takes_more _ _ _ _ _ _ _ _ _ _ _ c.in_ok-found.ensures.text on))))

pub returns-clause-runs : goal.returns-clause-runs
returns-clause-runs g c = λ s text old on.
    let next = next_found _ _ _ _ c.in-Some.is c.in_ok-found.ensures.found in
    let before = hands_more _ _ _ _ _ _ _ _ _ _ _ c.in_ok-make_room.ensures.ok
    (hands_more _ _ _ _ _ _ _ _ _ _ _ c.in_ok-found.ensures.answers
    (takes_more _ _ _ _ _ _ _ _ _ _ _ c.in_ok-found.ensures.text on)) in
    RunsNext-line c.in-Some.found.is_last _ _ _ _ _ _ _ _ _
    (λ more.
    runs_line _ _ _ _ _ _ _ _ _ _ _ _ c.in-Some.found.len c.requires.last (next.0 more)
    (c.in_ok-run_found.ensures.rest more) c.in_ok-run_found.ensures.does before)
    (λ last.
    runs_last _ _ _ _ _ _ _ _ _ _ _ c.in-Some.found.len c.requires.last (next.1 last) c.in_ok-run_found.ensures.short
    c.in_ok-run_found.ensures.does before)
