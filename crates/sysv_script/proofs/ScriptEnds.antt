-- How a run of a script that is pending ends, by the fault that ends it.
use Rattle.std.proofs.Common.{◌≡◌, ◌+◌, ◌≤◌, ℕ, List, [], ◌++◌, Option, Some, Result, Ok, Err, take, refl, sym, ap}
use Rattle.std.proofs.Common.{subst}
use Rattle.std.specs.Prelude.{IsErrAnd, IfErr, OnOk, OnErr, ⊤, Bool, true, false, not}
use Rattle.std.specs.Result.{result_and}
use Rattle.std.specs.Io.KnownBytes.{Appends}
use Rattle.std.proofs.KnownBytes.{Appends-nil, Appends-trans}
use Rattle.sysv_script.specs.ScriptState.{ScriptState, opening_script_state}
use Rattle.sysv_script.specs.declared.stage.Stage.{Stage}
use Rattle.sysv_script.specs.Staged.{IsScriptStateOf}
use Rattle.sysv_lists.specs.Prefix.{IsPrefixOf}
use Rattle.sysv_lists.proofs.Prefixes.{prefix_self, prefix_trans}
use Rattle.sysv_model.specs.Writing.{AppendsPrefix}
use Rattle.sysv_script.proofs.Prefixed.{prefix_after}
use Rattle.sysv_script.specs.Found.{IsNextLine}
use Rattle.sysv_script.specs.Faults.{IsStreamFault, IsLineFault, EndsAtLine}
use Rattle.sysv_script.specs.ScriptText.{IsBad, Ending, Whole, BadLine, TooMany, ScriptPrints}
use Rattle.sysv_script.specs.Written.{WritesScript, WritesAll, WritesPrefix, WritesRead, WritesAtFault}
use Rattle.sysv_words.specs.OneSplit.{OneSplit}
use Rattle.sysv_script.specs.OneText.{OneText}
use Rattle.sysv_script.specs.EachText.{EachTextPrints}
use Rattle.sysv_script.specs.ScriptSofar.{Halt, AtEnd, Before, Runs, IsText, RunsOn, RunsNext, LeavesAll, LeavesPrefix}
use Rattle.sysv_script.specs.ScriptSofar.{LeavesRead, LeavesAtFault, Leaves}
use Rattle.sysv_script.specs.declared.line_reader.Found.{Found}
use Rattle.sysv_script.specs.declared.fault.ScriptFault.{ScriptFault}
use Rattle.sysv_script.specs.declared.fault.ScriptFault.TheVariants.{Line, Read, Write, NoMemory, Bound}
use Rattle.sysv_script.proofs.RunSofar.{fails_at, stops_front}

-- A fault of a stream.
pub at_stream_fault : (fault : ScriptFault) (s : ScriptState) (text : List ℕ) (old new : Option (List ℕ))
    (composed : List ℕ)
    (left : Option (List ℕ)) → IsStreamFault fault →
    (fault ≡ Read → LeavesRead s text old new composed left) → LeavesPrefix s text old new composed →
    LeavesAtFault fault s text old new composed left
at_stream_fault Read s text old new composed left h all part = all refl
at_stream_fault Write s text old new composed left h all part = part
at_stream_fault (Line n) s text old new composed left h all part = absurd h
at_stream_fault NoMemory s text old new composed left h all part = absurd h
at_stream_fault Bound s text old new composed left h all part = absurd h

pub at_write_fault : (fault : ScriptFault) (s : ScriptState) (text : List ℕ) (old new : Option (List ℕ))
    (composed : List ℕ)
    (left : Option (List ℕ)) → fault ≡ Write →
    LeavesPrefix s text old new composed → LeavesAtFault fault s text old new composed left
at_write_fault fault s text old new composed left e part =
    subst (λ f. LeavesAtFault f s text old new composed left) (sym e) part

-- A fault at a line.
pub at_line_fault : OneSplit →
    (fault : ScriptFault) (s : ScriptState) (text : List ℕ) (old : Option (List ℕ)) (n : ℕ) (now : Stage)
    (waiting : List ℕ)
    (left new : Option (List ℕ)) (composed told : List ℕ) (found : Found) →
    EndsAtLine fault n composed told →
    (IsLineFault fault → (m : ScriptState) → IsScriptStateOf m now → IsBad m (take found.len waiting)) → n ≤ 1000000 →
    IsNextLine found waiting left →
    RunsOn s text old n now waiting left new composed → LeavesAtFault fault s text old new told left
at_line_fault split (Line k) s text old n now waiting left new composed told found ends bad few next on =
    let same : k ≡ n = ends.0 in
    subst (λ i. LeavesAtFault (Line i) s text old new told left) (sym same)
    (fails_at split s text old n now waiting left new composed told found few next (bad tt) ends.1 on)
at_line_fault split NoMemory s text old n now waiting left new composed told found ends bad few next on =
    stops_front s text old n now waiting left new composed told ends on
at_line_fault split Read s text old n now waiting left new composed told found ends bad few next on = absurd ends
at_line_fault split Write s text old n now waiting left new composed told found ends bad few next on = absurd ends
at_line_fault split Bound s text old n now waiting left new composed told found ends bad few next on = absurd ends

pub RunsNext-passed : (r : Result Bool ScriptFault) (fault : ScriptFault) (s : ScriptState) (text : List ℕ)
    (old : Option (List ℕ)) (n : ℕ) (now : Stage) (waiting : List ℕ) (left new : Option (List ℕ)) (composed : List ℕ) →
    IsErrAnd r (λ y. y ≡ fault) → LeavesAtFault fault s text old new composed left →
    RunsNext r s text old n now waiting left new composed
RunsNext-passed (Ok x) fault s text old n now waiting left new composed e at = absurd e
RunsNext-passed (Err y) fault s text old n now waiting left new composed e at =
    subst (λ f. LeavesAtFault f s text old new composed left) (sym e) at

-- A line was run, and may have been the last one.
pub RunsNext-line : (last : Bool) (s : ScriptState) (text : List ℕ) (old : Option (List ℕ)) (n : ℕ) (now : Stage)
    (waiting : List ℕ) (left new : Option (List ℕ)) (composed : List ℕ) →
    (last ≡ false → RunsOn s text old (n + 1) now waiting left new composed) →
    (last ≡ true → LeavesAll s text Whole old new composed) →
    RunsNext (Ok (not last)) s text old n now waiting left new composed
RunsNext-line false s text old n now waiting left new composed on ends = on refl
RunsNext-line true s text old n now waiting left new composed on ends = ends refl

pub RunsNext-on : (more : Bool) (s : ScriptState) (text : List ℕ) (old : Option (List ℕ)) (n : ℕ) (now : Stage)
    (waiting : List ℕ) (left new : Option (List ℕ)) (composed : List ℕ) →
    more ≡ true → RunsNext (Ok more) s text old n now waiting left new composed →
    RunsOn s text old (n + 1) now waiting left new composed
RunsNext-on more s text old n now waiting left new composed e next =
    subst (λ b. RunsNext (Ok b) s text old n now waiting left new composed) e next

pub RunsNext-end : (more : Bool) (s : ScriptState) (text : List ℕ) (old : Option (List ℕ)) (n : ℕ) (now : Stage)
    (waiting : List ℕ) (left new : Option (List ℕ)) (composed : List ℕ) →
    more ≡ false → RunsNext (Ok more) s text old n now waiting left new composed →
    LeavesAll s text Whole old new composed
RunsNext-end more s text old n now waiting left new composed e next =
    subst (λ b. RunsNext (Ok b) s text old n now waiting left new composed) e next

-- The writer took a prefix of what the script prints, or of what it has printed before a line.
abbrev WritesSome : List ℕ → Option (List ℕ) → Option (List ℕ) → Type 0
WritesSome text old new =
    (halt : Halt) × (out : List ℕ) × Runs opening_script_state 1 text out halt × AppendsPrefix old new out

-- ---- what is composed at the end is written

-- The whole run of a script, from the stage and the input that were opened.
pub script_runs : (r : Result ⊤ ScriptFault) (stage : Stage) (input text : List ℕ) (left old new : Option (List ℕ))
    (composed : List ℕ) (unread : Option (List ℕ)) → IsScriptStateOf opening_script_state stage → input ≡ [] →
    left ≡ Some text →
    ((s : ScriptState) → IsScriptStateOf s stage → (t : List ℕ) → IsText input left t →
    Leaves r s t old new composed unread) →
    Leaves r opening_script_state text old new composed unread
script_runs r stage input text left old new composed unread opened none known runs =
    runs opening_script_state opened text (text, known, sym (ap (λ l. l ++ text) none))

all_out : (ending : Ending) (text : List ℕ) (old mid new : Option (List ℕ)) (composed : List ℕ) →
    LeavesAll opening_script_state text ending old mid composed → Appends mid new composed →
    WritesAll text ending old new
all_out ending text old mid new composed left all =
    let handed = left.2 in
    (left.0, left.1, subst (Appends old new) (sym handed.2) (Appends-trans old mid new handed.0 composed handed.1 all))

front_out : (text : List ℕ) (old mid new : Option (List ℕ)) (composed : List ℕ) →
    LeavesPrefix opening_script_state text old mid composed → Appends mid new composed → WritesSome text old new
front_out text old mid new composed left all =
    let handed = left.4 in (
      Before left.1 left.2,
      left.0,
      left.3,
      (handed.0 ++ composed, handed.2, Appends-trans old mid new handed.0 composed handed.1 all),
    )

-- What was composed when the reader failed is written.
read_out : (text : List ℕ) (old mid new : Option (List ℕ)) (composed : List ℕ) (unread : Option (List ℕ)) →
    LeavesRead opening_script_state text old mid composed unread → Appends mid new composed →
    WritesRead text old new unread
read_out text old mid new composed unread left all =
    let handed = left.5 in (
      left.0,
      left.1,
      left.2,
      left.3,
      left.4,
      subst (Appends old new) (sym handed.2) (Appends-trans old mid new handed.0 composed handed.1 all),
    )

read_some : (text : List ℕ) (old new unread : Option (List ℕ)) → WritesRead text old new unread →
    WritesSome text old new
read_some text old new unread taken =
    (Before taken.1 taken.2, taken.0, taken.3, (taken.0, prefix_self taken.0, taken.5))

-- ---- what is composed at the end is written in part

part_out : (halt : Halt) (out text : List ℕ) (old mid new : Option (List ℕ)) (handed composed : List ℕ) →
    Runs opening_script_state 1 text out halt → Appends old mid handed → IsPrefixOf (handed ++ composed) out →
    AppendsPrefix mid new composed → WritesSome text old new
part_out halt out text old mid new handed composed printed grown front part =
    let prefix : IsPrefixOf (handed ++ part.0) (handed ++ composed) = prefix_after handed part.0 composed part.1 in (
      halt,
      out,
      printed,
      (
        handed ++ part.0,
        prefix_trans (handed ++ part.0) (handed ++ composed) out prefix front,
        Appends-trans old mid new handed part.0 grown part.2,
      ),
    )

all_cut : (ending : Ending) (text : List ℕ) (old mid new : Option (List ℕ)) (composed : List ℕ) →
    LeavesAll opening_script_state text ending old mid composed → AppendsPrefix mid new composed →
    WritesSome text old new
all_cut ending text old mid new composed left part =
    let handed = left.2 in
    part_out (AtEnd ending) left.0 text old mid new handed.0 composed left.1 handed.1
    (subst (IsPrefixOf (handed.0 ++ composed)) (sym handed.2) (prefix_self (handed.0 ++ composed))) part

front_cut : (text : List ℕ) (old mid new : Option (List ℕ)) (composed : List ℕ) →
    LeavesPrefix opening_script_state text old mid composed → AppendsPrefix mid new composed → WritesSome text old new
front_cut text old mid new composed left part =
    let handed = left.4 in
    part_out (Before left.1 left.2) left.0 text old mid new handed.0 composed left.3 handed.1 handed.2 part

read_cut : (text : List ℕ) (old mid new : Option (List ℕ)) (composed : List ℕ) (unread : Option (List ℕ)) →
    LeavesRead opening_script_state text old mid composed unread → AppendsPrefix mid new composed →
    WritesSome text old new
read_cut text old mid new composed unread left part =
    let handed = left.5 in
    part_out (Before left.1 left.2) left.0 text old mid new handed.0 composed left.3 handed.1
    (subst (IsPrefixOf (handed.0 ++ composed)) (sym handed.2) (prefix_self (handed.0 ++ composed))) part

fault_cut : (fault : ScriptFault) (text : List ℕ) (old mid new : Option (List ℕ)) (composed : List ℕ)
    (unread : Option (List ℕ)) → LeavesAtFault fault opening_script_state text old mid composed unread →
    AppendsPrefix mid new composed → WritesSome text old new
fault_cut (Line n) text old mid new composed unread left part = all_cut (BadLine n) text old mid new composed left part
fault_cut Bound text old mid new composed unread left part = all_cut TooMany text old mid new composed left part
fault_cut NoMemory text old mid new composed unread left part = front_cut text old mid new composed left part
fault_cut Read text old mid new composed unread left part = read_cut text old mid new composed unread left part
fault_cut Write text old mid new composed unread left part = front_cut text old mid new composed left part

any_cut : (r : Result ⊤ ScriptFault) (text : List ℕ) (old mid new : Option (List ℕ)) (composed : List ℕ)
    (unread : Option (List ℕ)) → Leaves r opening_script_state text old mid composed unread →
    AppendsPrefix mid new composed →
    WritesSome text old new
any_cut (Ok done) text old mid new composed unread left part = all_cut Whole text old mid new composed left part
any_cut (Err fault) text old mid new composed unread left part =
    fault_cut fault text old mid new composed unread left part

-- ---- a prefix of what was printed before a line is one of what the text prints

front_of_part : (text out whole : List ℕ) (ending : Ending) (old new : Option (List ℕ)) →
    ScriptPrints text whole ending → IsPrefixOf out whole → AppendsPrefix old new out → WritesPrefix text old new
front_of_part text out whole ending old new printed front part =
    (ending, whole, printed, (part.0, prefix_trans part.0 out whole part.1 front, part.2))

module _ (one : OneText) (each : EachTextPrints) where
  in_whole : (text : List ℕ) (old new : Option (List ℕ)) → WritesSome text old new → WritesPrefix text old new
  in_whole text old new (AtEnd ending, out, printed, part) = (ending, out, printed, part)
  in_whole text old new (Before left there, out, printed, part) =
      let all = each text in
      front_of_part text out all.0 all.1 old new all.2
      (one.sofar opening_script_state 1 text out left all.0 there all.1 one.sound printed all.2) part

  fault_out : (fault : ScriptFault) (text : List ℕ) (old mid new : Option (List ℕ)) (composed : List ℕ)
      (unread : Option (List ℕ)) → LeavesAtFault fault opening_script_state text old mid composed unread →
      Appends mid new composed → WritesAtFault fault text old new unread
  fault_out (Line n) text old mid new composed unread left all = all_out (BadLine n) text old mid new composed left all
  fault_out Bound text old mid new composed unread left all = all_out TooMany text old mid new composed left all
  fault_out NoMemory text old mid new composed unread left all =
      in_whole text old new (front_out text old mid new composed left all)
  fault_out Read text old mid new composed unread left all =
      let taken = read_out text old mid new composed unread left all in
      (taken, in_whole text old new (read_some text old new unread taken))
  fault_out Write text old mid new composed unread left all =
      in_whole text old new (front_out text old mid new composed left all)

  writes_out : (r : Result ⊤ ScriptFault) (text : List ℕ) (old mid new : Option (List ℕ)) (composed : List ℕ)
      (unread : Option (List ℕ)) → Leaves r opening_script_state text old mid composed unread →
      Appends mid new composed →
      WritesScript r text old new unread
  writes_out (Ok done) text old mid new composed unread left all = all_out Whole text old mid new composed left all
  writes_out (Err fault) text old mid new composed unread left all =
      fault_out fault text old mid new composed unread left all

  -- What is composed at the end is written, or a prefix of it is.
  pub writes_end : (handed ended : Result ⊤ ScriptFault) (text : List ℕ) (old mid new : Option (List ℕ))
      (composed : List ℕ) (unread : Option (List ℕ)) →
      OnOk handed (Appends mid new composed) → OnErr handed (AppendsPrefix mid new composed) →
      IfErr handed (λ y. y ≡ Write) →
      Leaves ended opening_script_state text old mid composed unread →
      WritesScript (result_and handed ended) text old new unread
  writes_end (Ok x) ended text old mid new composed unread all part fault left =
      writes_out ended text old mid new composed unread left all
  writes_end (Err y) ended text old mid new composed unread all part fault left =
      subst (λ f. WritesAtFault f text old new unread) (sym fault)
      (in_whole text old new (any_cut ended text old mid new composed unread left part))

  -- Nothing was run.
  pub writes_none : (text : List ℕ) (old : Option (List ℕ)) → WritesPrefix text old old
  writes_none text old = let all = each text in (all.1, all.0, all.2, ([], (all.0, refl), Appends-nil old))
