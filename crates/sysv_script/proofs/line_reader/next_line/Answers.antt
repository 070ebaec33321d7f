use Rattle.std.proofs.Common.{rules, ◌≡◌, length, take, sym, ap, subst, ◌∙◌, arith}
use Rattle.std.proofs.Math.Seq.{take-append_seam}
use Rattle.sysv_script.specs.Found.{HasNoEnd, IsFirstLine}
use Rattle.sysv_script.proofs.Prefixed.{HandsOn-all, HandsOn-part, HandsOn-whole, TakesIn-trans}
use Rattle.sysv_script.proofs.FirstLines.{first_line_ends}
use Rattle.sysv_script.proofs.line_reader.next_line.Goals as goal

pub returns-in-Err-clause-err : goal.returns-in-Err-clause-err
returns-in-Err-clause-err g c =
    HandsOn-part _ _ _ _ _ c.loop-found.invariant.answers c.in-Err.ensures.err

pub returns-in-Err-clause-text : goal.returns-in-Err-clause-text
returns-in-Err-clause-text g c =
    TakesIn-trans _ _ _ _ _ _ c.loop-found.invariant.text c.in-Err.ensures.text

pub returns-in-Err-clause-read_last : goal.returns-in-Err-clause-read_last
returns-in-Err-clause-read_last g c = λ reads.
    HandsOn-whole _ _ _ _ _ c.loop-found.invariant.answers (c.in-Err.ensures.read_last reads)

pub returns-in-Err-clause-at_once : goal.returns-in-Err-clause-at_once
returns-in-Err-clause-at_once g c = λ len first.
    let none : HasNoEnd c.loop-found.input = search rules in
    absurd (first_line_ends len c.loop-found.input
    (subst (IsFirstLine len) (sym (c.loop-found.invariant.at_once len first).0) first) none)

pub returns-in-Some-clause-at_once : goal.returns-in-Some-clause-at_once
returns-in-Some-clause-at_once g c = c.loop-found.invariant.at_once

pub returns-in-Ok-eq0-clause-at_once : goal.returns-in-Ok-eq0-clause-at_once
returns-in-Ok-eq0-clause-at_once g c = λ len first.
    let none : HasNoEnd c.loop-found.input = search rules in
    absurd (first_line_ends len c.loop-found.input
    (subst (IsFirstLine len) (sym (c.loop-found.invariant.at_once len first).0) first) none)

pub returns-in-Ok-eq0-clause-text : goal.returns-in-Ok-eq0-clause-text
returns-in-Ok-eq0-clause-text g c =
    TakesIn-trans _ _ _ _ _ _ c.loop-found.invariant.text c.in-Ok-eq0.ensures.text

pub returns-in-Ok-eq0-clause-answers : goal.returns-in-Ok-eq0-clause-answers
returns-in-Ok-eq0-clause-answers g c =
    HandsOn-all _ _ _ _ _ _ c.loop-found.invariant.answers c.in-Ok-eq0.ensures.answers c.in-Ok-eq0.ensures.none_left

pub loop-found-preserved : goal.loop-found-preserved
loop-found-preserved g c =
    let old = c.loop-found.input in
    let same : c.waiting-seen.result.now ≡ old = search rules in
    let none : HasNoEnd old = search rules in
    let taken = c.in-Ok.ensures.text in
    let front : take (length c.waiting-seen.result.now) c.read_on.new.input ≡ old =
    ap (λ n. take n c.read_on.new.input) (ap length same) ∙ ap (take (length old)) taken.1
    ∙ take-append_seam old taken.0 in
    record {
      within = omega (arith, ap length same, c.in-Ok.ensures.count);
      before = subst HasNoEnd (sym front) none;
      at_once = λ len first.
          absurd (first_line_ends len old
          (subst (IsFirstLine len) (sym (c.loop-found.invariant.at_once len first).0) first) none);
      text = TakesIn-trans _ _ _ _ _ _ c.loop-found.invariant.text taken;
      answers =
          HandsOn-all _ _ _ _ _ _ c.loop-found.invariant.answers c.in-Ok.ensures.answers c.in-Ok.ensures.none_left;
      same_reader = c.in-Ok.ensures.reader.same ∙ c.loop-found.invariant.same_reader;
      same_writer = c.in-Ok.ensures.writer.same ∙ c.loop-found.invariant.same_writer;
      reader_failed = c.in-Ok.ensures.reader.failed ∙ c.loop-found.invariant.reader_failed;
      writer_failed = c.in-Ok.ensures.writer.failed ∙ c.loop-found.invariant.writer_failed;
    }
