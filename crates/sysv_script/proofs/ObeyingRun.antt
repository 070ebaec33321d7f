-- What a script writes are the results of a run that obeys the laws.
use Rattle.std.specs.Prelude.{ℕ, List, Option, Ok, Err}
use Rattle.sysv_core.specs.Headline.{EveryRunObeys}
use Rattle.sysv_core.specs.World.{World}
use Rattle.sysv_script.specs.declared.fault.ScriptFault.{ScriptFault}
use Rattle.sysv_script.specs.declared.fault.ScriptFault.TheVariants.{Line, Read, Write, NoMemory, Bound}
use Rattle.sysv_script.specs.Results.{IsOfRunPrinting}
use Rattle.sysv_script.specs.ScriptRun.{EachScriptIsARun}
use Rattle.sysv_script.specs.ScriptText.{Ending, ScriptPrints}
use Rattle.sysv_script.specs.Written.{WritesAll, WritesPrefix, WritesRead, WritesAtFault}
use Rattle.sysv_script.specs.ObeyingRun.{IsOfObeyingRun, PrintsRun, WritesRunWhole, WritesRunPrefix, WritesRunSofar}
use Rattle.sysv_script.specs.ObeyingRun.{WritesRunAtFault, EachScriptObeys}

module _ (every : EveryRunObeys) (is_run : EachScriptIsARun) where
  obeying : (out : List ℕ) (w : World) → IsOfRunPrinting out w → IsOfObeyingRun out w
  obeying out w (o, (list, given, leads, results)) = record {
    opened = o;
    list = list;
    given = given;
    leads = leads;
    obeys = every o list given w leads;
    results = results;
  }

  prints_run : (text out : List ℕ) (ending : Ending) → ScriptPrints text out ending → PrintsRun text out ending
  prints_run text out ending prints =
      let run = is_run.whole text out ending prints in
      record { prints = prints; told = run.0; w = run.1; whole = run.2; run = obeying run.0 run.1 run.3 }

  whole_run : (text : List ℕ) (ending : Ending) (old new : Option (List ℕ)) → WritesAll text ending old new →
      WritesRunWhole text ending old new
  whole_run text ending old new (out, prints, appends) = (out, prints_run text out ending prints, appends)

  prefix_run : (text : List ℕ) (old new : Option (List ℕ)) → WritesPrefix text old new → WritesRunPrefix text old new
  prefix_run text old new (ending, out, prints, appends) = (ending, out, prints_run text out ending prints, appends)

  sofar_run : (text : List ℕ) (old new left : Option (List ℕ)) → WritesRead text old new left →
      WritesRunSofar text old new left
  sofar_run text old new left (out, rest, there, sofar, unended, appends) =
      (out, rest, there, sofar, unended, obeying out there.world (is_run.sofar text out rest there sofar), appends)

  fault_obeys : (fault : ScriptFault) (text : List ℕ) (old new left : Option (List ℕ)) →
      WritesAtFault fault text old new left → WritesRunAtFault fault text old new left
  fault_obeys (Line n) text old new left w = whole_run text _ old new w
  fault_obeys Bound text old new left w = whole_run text _ old new w
  fault_obeys Read text old new left w = (sofar_run text old new left w.0, prefix_run text old new w.1)
  fault_obeys Write text old new left w = prefix_run text old new w
  fault_obeys NoMemory text old new left w = prefix_run text old new w

  pub each_script_obeys : EachScriptObeys
  each_script_obeys (Ok done) text old new left w = whole_run text _ old new w
  each_script_obeys (Err fault) text old new left w = fault_obeys fault text old new left w
