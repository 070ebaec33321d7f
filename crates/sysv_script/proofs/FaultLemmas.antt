-- What a fault leaves when it is passed on.
use Rattle.std.proofs.Common.{◌≡◌, ℕ, true, false, List, [], ◌++◌, Result, Ok, Err, Option, ap, sym, subst, ◌∙◌}
use Rattle.std.proofs.Common.{append_assoc}
use Rattle.std.specs.Prelude.{IfErr, IsOk, OnOk, OnErr, IsErrAnd, ⊤}
use Rattle.std.specs.Result.{result_and}
use Rattle.std.specs.Io.KnownBytes.{Appends}
use Rattle.std.proofs.KnownBytes.{Appends-trans}
use Rattle.sysv_script.specs.declared.fault.ScriptFault.{ScriptFault}
use Rattle.sysv_script.specs.declared.fault.ScriptFault.TheVariants.{Line, Read, Write, NoMemory, Bound}
use Rattle.sysv_model.specs.Instrumented.{failures_after}
use Rattle.sysv_model.specs.Writing.{AppendsPrefix}
use Rattle.sysv_script.proofs.StreamLemmas.{Grows-trans, Grows-part}
use Rattle.sysv_script.specs.Faults.{Grows, IsStreamFault, LeavesBadLine, TellsBadLine, bad_line_text, is_read_fault}
use Rattle.sysv_script.specs.Faults.{is_write_fault}

-- A fault of a stream states nothing about a line.
pub LeavesBadLine-stream : (fault : ScriptFault) (composed : List ℕ) → IsStreamFault fault →
    LeavesBadLine fault composed
LeavesBadLine-stream Read composed h = tt
LeavesBadLine-stream Write composed h = tt
LeavesBadLine-stream (Line n) composed h = absurd h
LeavesBadLine-stream NoMemory composed h = absurd h
LeavesBadLine-stream Bound composed h = absurd h

pub IfErr-stream : {T : Type 0} (r : Result T ScriptFault) (fault : ScriptFault) (composed : List ℕ) →
    IsErrAnd r (λ y. y ≡ fault) → IsStreamFault fault → IfErr r (λ f. LeavesBadLine f composed)
IfErr-stream (Ok x) fault composed e h = tt
IfErr-stream (Err y) fault composed e h = LeavesBadLine-stream y composed (subst IsStreamFault (sym e) h)

-- What was composed is written last.
TellsBadLine-handed : (fault : ScriptFault) (a b c : Option (List ℕ)) (composed : List ℕ) → Grows a b →
    Appends b c composed → LeavesBadLine fault composed → TellsBadLine fault a c
TellsBadLine-handed (Line n) a b c composed grown all left =
    let last = left.2 in
    let joined : grown.0 ++ composed ≡ (grown.0 ++ last.0) ++ bad_line_text n =
    ap (λ l. grown.0 ++ l) last.1 ∙ sym (append_assoc grown.0 last.0 (bad_line_text n)) in
    (left.0, left.1, (grown.0 ++ last.0, subst (Appends a c) joined (Appends-trans a b c grown.0 composed grown.1 all)))
TellsBadLine-handed Read a b c composed grown all left = tt
TellsBadLine-handed Write a b c composed grown all left = tt
TellsBadLine-handed NoMemory a b c composed grown all left = tt
TellsBadLine-handed Bound a b c composed grown all left = tt

IfErr-handed : (r : Result ⊤ ScriptFault) (a b c : Option (List ℕ)) (composed : List ℕ) → Grows a b →
    Appends b c composed → IfErr r (λ f. LeavesBadLine f composed) → IfErr r (λ f. TellsBadLine f a c)
IfErr-handed (Ok x) a b c composed grown all left = tt
IfErr-handed (Err y) a b c composed grown all left = TellsBadLine-handed y a b c composed grown all left

pub tells_end : (handed ended : Result ⊤ ScriptFault) (a b c : Option (List ℕ)) (composed : List ℕ) → Grows a b →
    OnOk handed (Appends b c composed) → IfErr handed (λ f. f ≡ Write) →
    IfErr ended (λ f. LeavesBadLine f composed) → IfErr (result_and handed ended) (λ f. TellsBadLine f a c)
tells_end (Ok x) ended a b c composed grown all fault left = IfErr-handed ended a b c composed grown all left
tells_end (Err y) ended a b c composed grown all fault left = subst (λ f. TellsBadLine f a c) (sym fault) tt

pub grows_end : (handed : Result ⊤ ScriptFault) (a b c : Option (List ℕ)) (composed : List ℕ) → Grows a b →
    OnOk handed (Appends b c composed) → OnErr handed (AppendsPrefix b c composed) → Grows a c
grows_end (Ok x) a b c composed grown all part = Grows-trans a b c grown (composed, all)
grows_end (Err y) a b c composed grown all part = Grows-trans a b c grown (Grows-part b c composed part)

-- After a fault of a stream nothing is composed, so no later fault of the writer hides it.
pub reader_ended : (handed ended : Result ⊤ ScriptFault) (was now : ℕ) (composed : List ℕ) →
    IfErr handed (λ f. f ≡ Write) → (composed ≡ [] → IsOk handed) →
    IfErr ended (λ f. IsStreamFault f → composed ≡ []) → now ≡ failures_after (is_read_fault ended) was →
    now ≡ failures_after (is_read_fault (result_and handed ended)) was
reader_ended (Ok x) ended was now composed fault empty left is = is
reader_ended (Err y) (Ok x) was now composed fault empty left is =
    subst (λ f. now ≡ failures_after (is_read_fault {T = ⊤} (Err f)) was) (sym fault) is
reader_ended (Err y) (Err Read) was now composed fault empty left is =
    let never : false ≡ true = empty (left tt) in absurd cc
reader_ended (Err y) (Err Write) was now composed fault empty left is =
    let never : false ≡ true = empty (left tt) in absurd cc
reader_ended (Err y) (Err (Line n)) was now composed fault empty left is =
    subst (λ f. now ≡ failures_after (is_read_fault {T = ⊤} (Err f)) was) (sym fault) is
reader_ended (Err y) (Err NoMemory) was now composed fault empty left is =
    subst (λ f. now ≡ failures_after (is_read_fault {T = ⊤} (Err f)) was) (sym fault) is
reader_ended (Err y) (Err Bound) was now composed fault empty left is =
    subst (λ f. now ≡ failures_after (is_read_fault {T = ⊤} (Err f)) was) (sym fault) is

-- The writer failed in the run or at its end, but not in both.
pub writer_ended : (handed ended : Result ⊤ ScriptFault) (was mid now : ℕ) (composed : List ℕ) →
    (composed ≡ [] → IsOk handed) → IfErr ended (λ f. IsStreamFault f → composed ≡ []) →
    mid ≡ failures_after (is_write_fault ended) was → now ≡ failures_after (is_write_fault handed) mid →
    now ≡ failures_after (is_write_fault (result_and handed ended)) was
writer_ended (Ok x) ended was mid now composed empty left first second = second ∙ first
writer_ended (Err y) (Ok x) was mid now composed empty left first second =
    second ∙ ap (failures_after (is_write_fault {T = ⊤} (Err y))) first
writer_ended (Err y) (Err Read) was mid now composed empty left first second =
    let never : false ≡ true = empty (left tt) in absurd cc
writer_ended (Err y) (Err Write) was mid now composed empty left first second =
    let never : false ≡ true = empty (left tt) in absurd cc
writer_ended (Err y) (Err (Line n)) was mid now composed empty left first second =
    second ∙ ap (failures_after (is_write_fault {T = ⊤} (Err y))) first
writer_ended (Err y) (Err NoMemory) was mid now composed empty left first second =
    second ∙ ap (failures_after (is_write_fault {T = ⊤} (Err y))) first
writer_ended (Err y) (Err Bound) was mid now composed empty left first second =
    second ∙ ap (failures_after (is_write_fault {T = ⊤} (Err y))) first
