use Rattle.std.proofs.Common.{[], ◌∙◌, arith, refl, rules, sym}
use Rattle.std.proofs.lemmas.Result.{err_from_is_err_and}
use Rattle.sysv_clients.proofs.SendLemmas.{begins, begins_there, ends_unread, is_next, none_after, none_left, not_ahead}
use Rattle.sysv_clients.proofs.SendLemmas.{ends_unstated, fails_so, has_space, next_send, same_ahead}
use Rattle.sysv_clients.proofs.SendLemmas.{unopened}
use Rattle.sysv_clients.proofs.sending.Sender.send_all.Goals as goal

pub returns-in_err-window-clause-sends : goal.returns-in_err-window-clause-sends
returns-in_err-window-clause-sends g c =
    let p = err_from_is_err_and c.from_residual.result c.from_residual.ensures.1 in
    rw (p.1, p.2) (
      [],
      not_ahead c.args.sending.now _ [] _ _ _ _ _ _ refl
          (unopened c.args.sending.now c.in_err-window.field-0.0 _ _ _ _ _ c.in_err-window.ensures.opens),
    )

pub returns-in_err-window-clause-failed : goal.returns-in_err-window-clause-failed
returns-in_err-window-clause-failed g c =
    let p = err_from_is_err_and c.from_residual.result c.from_residual.ensures.1 in rw (p.1, p.2) tt

pub returns-in_err-window-clause-same_input : goal.returns-in_err-window-clause-same_input
returns-in_err-window-clause-same_input g c = refl

pub returns-in_err-window-clause-same_reader : goal.returns-in_err-window-clause-same_reader
returns-in_err-window-clause-same_reader g c = c.find.ensures.same_reader

pub returns-in_err-window-clause-same_writer : goal.returns-in_err-window-clause-same_writer
returns-in_err-window-clause-same_writer g c = c.find.ensures.same_writer

pub loop-lines-init : goal.loop-lines-init
loop-lines-init g c =
    let opened = c.in_ok-window.ensures.opens in
    record {
      sends = begins_there c.args.sending.now _ _ _ _ _ _ c.in_ok-window.window
          (c.find.ensures.chunk ∙ c.requires.chunk)
          (begins c.args.sending.now c.in_ok-window.window _ _ _ _ _ opened);
      lines = omega (arith, opened.4, opened.5);
      room = has_space _ c.args.sending.now opened.5;
      same_input = refl;
      same_reader = c.find.ensures.same_reader;
      same_writer = c.find.ensures.same_writer;
    }

pub returns-in-Err-clause-sends : goal.returns-in-Err-clause-sends
returns-in-Err-clause-sends g c = (
  c.fetch.new.self.chunk,
  c.finish.ensures.ends c.args.sending.now _ _ _ _ _ c.loop-lines.invariant.sends
      (ends_unread c.args.sending.now.wording c.in-Err.why _ _ _ _ c.fetch.new.self.line
      (sym c.loop-lines.invariant.lines) c.in-Err.ensures.fetches),
)

pub returns-in-Err-clause-same_input : goal.returns-in-Err-clause-same_input
returns-in-Err-clause-same_input g c = c.fetch.ensures.same ∙ c.loop-lines.invariant.same_input

pub returns-in-Err-clause-same_reader : goal.returns-in-Err-clause-same_reader
returns-in-Err-clause-same_reader g c = c.finish.ensures.same_reader ∙ c.loop-lines.invariant.same_reader

pub returns-in-Err-clause-same_writer : goal.returns-in-Err-clause-same_writer
returns-in-Err-clause-same_writer g c = c.finish.ensures.same_writer ∙ c.loop-lines.invariant.same_writer

pub returns-then-is_nothing-clause-sends : goal.returns-then-is_nothing-clause-sends
returns-then-is_nothing-clause-sends g c = (
  c.fetch.new.self.chunk,
  c.finish-then-is_nothing.ensures.ends c.args.sending.now _ _ _ _ _ c.loop-lines.invariant.sends
      (none_left _ c.loop-lines.lines c.in-Ok.fetched _ _ c.fetch.new.self.line
      (sym c.is_nothing.ensures ∙ c.if-is_nothing.true)
      c.in-Ok.ensures.fetches),
)

pub returns-then-is_nothing-clause-failed : goal.returns-then-is_nothing-clause-failed
returns-then-is_nothing-clause-failed g c = fails_so _ _ _ c.finish-then-is_nothing.ensures.same_end tt

pub returns-then-is_nothing-clause-same_input : goal.returns-then-is_nothing-clause-same_input
returns-then-is_nothing-clause-same_input g c = c.fetch.ensures.same ∙ c.loop-lines.invariant.same_input

pub returns-then-is_nothing-clause-same_reader : goal.returns-then-is_nothing-clause-same_reader
returns-then-is_nothing-clause-same_reader g c =
    c.finish-then-is_nothing.ensures.same_reader ∙ c.loop-lines.invariant.same_reader

pub returns-then-is_nothing-clause-same_writer : goal.returns-then-is_nothing-clause-same_writer
returns-then-is_nothing-clause-same_writer g c =
    c.finish-then-is_nothing.ensures.same_writer ∙ c.loop-lines.invariant.same_writer

pub returns-in-Err-read-clause-sends : goal.returns-in-Err-read-clause-sends
returns-in-Err-read-clause-sends g c = (
  c.fetch.new.self.chunk,
  c.finish-in-Err-read.ensures.ends c.args.sending.now _ _ _ _ _ c.loop-lines.invariant.sends
      (ends_unstated c.args.sending.now.wording c.in-Err-read.why _ _ c.fetch.new.self.line c.read.new.self.text _ _
      (sym c.loop-lines.invariant.lines)
      (is_next _ c.loop-lines.lines c.in-Ok.fetched _ _ c.fetch.new.self.line
      (sym c.is_nothing.ensures ∙ c.if-is_nothing.false) c.in-Ok.ensures.fetches)
      c.in-Err-read.ensures.reads),
)

pub returns-in_err-send-clause-sends : goal.returns-in_err-send-clause-sends
returns-in_err-send-clause-sends g c =
    let p = err_from_is_err_and c.from_residual-in_err-send.result c.from_residual-in_err-send.ensures.1 in
    rw (p.1, p.2) (
      c.fetch.new.self.chunk,
      c.in_err-send.ensures.sends c.args.sending.now _ _ _ _ _ _ c.loop-lines.invariant.sends
          (next_send c.args.sending.now c.loop-lines.window.id c.in-Ok-read.mtype c.send-ask.result
          c.fetch.new.self.line c.read.new.self.text _ _
          (is_next _ c.loop-lines.lines c.in-Ok.fetched _ _ c.fetch.new.self.line
          (sym c.is_nothing.ensures ∙ c.if-is_nothing.false) c.in-Ok.ensures.fetches)
          c.in-Ok-read.ensures.reads (search rules) (search rules) c.send-ask.ensures)
          c.loop-lines.invariant.room _,
    )

pub returns-in_err-send-clause-same_input : goal.returns-in_err-send-clause-same_input
returns-in_err-send-clause-same_input g c = c.fetch.ensures.same ∙ c.loop-lines.invariant.same_input

pub returns-in_err-send-clause-same_reader : goal.returns-in_err-send-clause-same_reader
returns-in_err-send-clause-same_reader g c = c.loop-lines.invariant.same_reader

pub returns-in_err-send-clause-same_writer : goal.returns-in_err-send-clause-same_writer
returns-in_err-send-clause-same_writer g c = c.send.ensures.same_writer ∙ c.loop-lines.invariant.same_writer

pub returns-then-not-is_line-clause-sends : goal.returns-then-not-is_line-clause-sends
returns-then-not-is_line-clause-sends g c =
    let some = sym c.is_nothing.ensures ∙ c.if-is_nothing.false in
    let sent = c.in_ok-send.ensures.sends c.args.sending.now _ _ _ _ _ _ c.loop-lines.invariant.sends
    (next_send c.args.sending.now c.loop-lines.window.id c.in-Ok-read.mtype c.send-ask.result
    c.fetch.new.self.line c.read.new.self.text _ _
    (is_next _ c.loop-lines.lines c.in-Ok.fetched _ _ c.fetch.new.self.line some c.in-Ok.ensures.fetches)
    c.in-Ok-read.ensures.reads (search rules) (search rules) c.send-ask.ensures)
    c.loop-lines.invariant.room in (
      c.fetch.new.self.chunk,
      c.finish-then-not-is_line.ensures.ends c.args.sending.now _ _ _ _ _ sent.0
          (none_after _ c.loop-lines.lines c.in-Ok.fetched _ _ c.fetch.new.self.line some
          (sym c.is_line.ensures ∙ c.if-not-is_line.true)
          c.in-Ok.ensures.fetches),
    )

pub returns-then-not-is_line-clause-failed : goal.returns-then-not-is_line-clause-failed
returns-then-not-is_line-clause-failed g c = fails_so _ _ _ c.finish-then-not-is_line.ensures.same_end tt

pub returns-then-not-is_line-clause-same_input : goal.returns-then-not-is_line-clause-same_input
returns-then-not-is_line-clause-same_input g c = c.fetch.ensures.same ∙ c.loop-lines.invariant.same_input

pub returns-then-not-is_line-clause-same_reader : goal.returns-then-not-is_line-clause-same_reader
returns-then-not-is_line-clause-same_reader g c =
    c.finish-then-not-is_line.ensures.same_reader ∙ c.loop-lines.invariant.same_reader

pub returns-then-not-is_line-clause-same_writer : goal.returns-then-not-is_line-clause-same_writer
returns-then-not-is_line-clause-same_writer g c =
    c.finish-then-not-is_line.ensures.same_writer ∙ c.send.ensures.same_writer ∙ c.loop-lines.invariant.same_writer

pub returns-in_err-drain-clause-sends : goal.returns-in_err-drain-clause-sends
returns-in_err-drain-clause-sends g c =
    let p = err_from_is_err_and c.from_residual-in_err-drain.result c.from_residual-in_err-drain.ensures.1 in
    let some = sym c.is_nothing.ensures ∙ c.if-is_nothing.false in
    let sent = c.in_ok-send.ensures.sends c.args.sending.now _ _ _ _ _ _ c.loop-lines.invariant.sends
    (next_send c.args.sending.now c.loop-lines.window.id c.in-Ok-read.mtype c.send-ask.result
    c.fetch.new.self.line c.read.new.self.text _ _
    (is_next _ c.loop-lines.lines c.in-Ok.fetched _ _ c.fetch.new.self.line some c.in-Ok.ensures.fetches)
    c.in-Ok-read.ensures.reads (search rules) (search rules) c.send-ask.ensures)
    c.loop-lines.invariant.room in
    rw (p.1, p.2)
    (c.fetch.new.self.chunk, c.in_err-drain.ensures.drains c.args.sending.now _ _ _ _ sent.0 _)

pub returns-in_err-drain-clause-same_input : goal.returns-in_err-drain-clause-same_input
returns-in_err-drain-clause-same_input g c = c.fetch.ensures.same ∙ c.loop-lines.invariant.same_input

pub returns-in_err-drain-clause-same_reader : goal.returns-in_err-drain-clause-same_reader
returns-in_err-drain-clause-same_reader g c = c.drain.ensures.same_reader ∙ c.loop-lines.invariant.same_reader

pub returns-in_err-drain-clause-same_writer : goal.returns-in_err-drain-clause-same_writer
returns-in_err-drain-clause-same_writer g c =
    c.drain.ensures.same_writer ∙ c.send.ensures.same_writer ∙ c.loop-lines.invariant.same_writer

pub loop-lines-preserved : goal.loop-lines-preserved
loop-lines-preserved g c =
    let some = sym c.is_nothing.ensures ∙ c.if-is_nothing.false in
    let sent = c.in_ok-send.ensures.sends c.args.sending.now _ _ _ _ _ _ c.loop-lines.invariant.sends
    (next_send c.args.sending.now c.loop-lines.window.id c.in-Ok-read.mtype c.send-ask.result
    c.fetch.new.self.line c.read.new.self.text _ _
    (is_next _ c.loop-lines.lines c.in-Ok.fetched _ _ c.fetch.new.self.line some c.in-Ok.ensures.fetches)
    c.in-Ok-read.ensures.reads (search rules) (search rules) c.send-ask.ensures)
    c.loop-lines.invariant.room in
    let drained = c.in_ok-drain.ensures.drains c.args.sending.now _ _ _ _ sent.0 in
    record {
      sends = same_ahead c.args.sending.now _ c.fetch.new.self.chunk _ _ _ _ _ _ c.drain.new.window
          (c.drain.ensures.chunk ∙ c.send.ensures.chunk ∙ c.read.ensures.chunk) drained.0;
      lines = omega (
        arith,
        c.in_ok-drain.ensures.len,
        c.in_ok-send.ensures.len.0,
        c.in_ok-send.ensures.len.1,
        c.loop-lines.invariant.lines,
      );
      room = omega (arith, c.in_ok-drain.ensures.few, c.kept-keep.ensures);
      same_input = c.fetch.ensures.same ∙ c.loop-lines.invariant.same_input;
      same_reader = c.drain.ensures.same_reader ∙ c.loop-lines.invariant.same_reader;
      same_writer = c.drain.ensures.same_writer ∙ c.send.ensures.same_writer
          ∙ c.loop-lines.invariant.same_writer;
    }

pub returns-clause-sends : goal.returns-clause-sends
returns-clause-sends g c =
    let fits = c.loop-lines.auto.lines-fits in (
      c.loop-lines.self.chunk,
      c.finish-2.ensures.ends c.args.sending.now _ _ _ _ _ c.loop-lines.invariant.sends
          (refl, omega (arith, c.loop-lines-test.false, c.loop-lines.invariant.lines, fits)),
    )

pub returns-clause-failed : goal.returns-clause-failed
returns-clause-failed g c = fails_so _ _ _ c.finish-2.ensures.same_end tt

pub returns-clause-same_input : goal.returns-clause-same_input
returns-clause-same_input g c = c.loop-lines.invariant.same_input

pub returns-clause-same_reader : goal.returns-clause-same_reader
returns-clause-same_reader g c = c.finish-2.ensures.same_reader ∙ c.loop-lines.invariant.same_reader

pub returns-clause-same_writer : goal.returns-clause-same_writer
returns-clause-same_writer g c = c.finish-2.ensures.same_writer ∙ c.loop-lines.invariant.same_writer
