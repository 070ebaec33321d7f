-- What one read returned is taken up, or stops the client.
use Rattle.std.proofs.Common.{◌≡◌, ◌++◌, ◌∙◌, ℕ, List, Option, Some, ap, arith, length, refl, subst, sym, take}
use Rattle.std.proofs.Math.Seq.{take-append_seam}
use Rattle.std.specs.Io.KnownBytes.{Consumes}
use Rattle.sysv_seats.specs.declared.non_blocking.Over.{Over}
use Rattle.sysv_seats.specs.Sits.{Sitting}
use Rattle.sysv_session.specs.declared.served.End.TheVariants.{Fault, Reset}
use Rattle.sysv_wire.specs.declared.fault.Fault.TheVariants.{Read}
use Rattle.sysv_seats.proofs.ClientLemmas.{filled, filled_last, filled_none, filled_not, stops_reading}
use Rattle.sysv_seats.proofs.ClientLemmas.{stops_resetting}
use Rattle.sysv_seats.proofs.Said.{said_end, said_failed, said_filled, said_nothing, said_reset}
use Rattle.sysv_seats.specs.Breaking.{Breaks}
use Rattle.sysv_seats.specs.Untold.{lets_in}
use Rattle.sysv_seats.proofs.client.Client.fill.Goals as goal

abbrev some_over : Over → Option Over
some_over why = Some why

-- The whole buffer.
all_taken : (bytes buffer more : List ℕ) (n : ℕ) → bytes ≡ take n (buffer ++ more) → n ≡ length buffer → bytes ≡ buffer
all_taken bytes buffer more n is size =
    is ∙ ap (λ (k : ℕ). take k (buffer ++ more)) size ∙ take-append_seam buffer more

pub returns-in-Bytes-clause-keeps : goal.returns-in-Bytes-clause-keeps
returns-in-Bytes-clause-keeps g c =
    let size : c.args.tools.now.arrived.len ≡ length c.fill.new.buf =
    omega (arith, c.fill.auto.buf, c.deref_mut.ensures.len) in
    let same = all_taken _ c.fill.new.buf _ c.args.tools.now.arrived.len c.deref.ensures.value size in
    filled g.T.NonBlocking.incoming g.T.NonBlocking.outgoing (lets_in g.T.NonBlocking.closes) _ _ c.arrive.new.self _
    c.fill.new.self _ _ _
    c.self.view_is c.requires.free
    (subst (λ (l : List ℕ). Consumes (g.T.NonBlocking.incoming c.self.inside.connection)
    (g.T.NonBlocking.incoming c.fill.new.self) (take c.in-Bytes.count l)) (sym same) c.in-Bytes.ensures.bytes.2)
    c.fill.ensures.untold (c.fill.ensures.written, ap (λ (b : Breaks). b.callers) c.fill.ensures.breaks)
    c.arrive.ensures.arrives c.take_share.ensures.keeps

pub returns-in-Bytes-clause-said : goal.returns-in-Bytes-clause-said
returns-in-Bytes-clause-said g c =
    said_filled g.T.NonBlocking.closes _ _ c.arrive.new.self _ c.fill.new.self _ c.self.view_is c.requires.free
    c.in-Bytes.ensures.said c.arrive.ensures.arrives c.take_share.ensures.said

pub returns-in-NothingNow-clause-said : goal.returns-in-NothingNow-clause-said
returns-in-NothingNow-clause-said g c =
    said_nothing g.T.NonBlocking.closes _ _ c.fill.new.self c.self.view_is c.in-NothingNow.ensures.said

pub returns-in-Over-End-clause-said : goal.returns-in-Over-End-clause-said
returns-in-Over-End-clause-said g c =
    said_end g.T.NonBlocking.closes _ _ _ c.fill.new.self c.self.view_is c.requires.free
    (c.in-Over-End.ensures.said ∙ ap some_over c.in-Over-End.field-0-is) c.take_up.ensures.said

pub returns-in-NothingNow-clause-keeps : goal.returns-in-NothingNow-clause-keeps
returns-in-NothingNow-clause-keeps g c =
    filled_none g.T.NonBlocking.incoming g.T.NonBlocking.outgoing (lets_in g.T.NonBlocking.closes) _ _ c.fill.new.self _
    c.self.view_is
    c.in-NothingNow.ensures.bytes c.fill.ensures.untold (
      c.fill.ensures.written,
      ap (λ (b : Breaks). b.callers)
          c.fill.ensures.breaks,
    )

pub returns-in-Over-End-clause-keeps : goal.returns-in-Over-End-clause-keeps
returns-in-Over-End-clause-keeps g c =
    filled_last g.T.NonBlocking.incoming g.T.NonBlocking.outgoing (lets_in g.T.NonBlocking.closes) _ _ _ c.fill.new.self
    _ _ c.self.view_is
    c.in-Over-End.ensures.bytes.0 c.fill.ensures.untold (
      c.fill.ensures.written,
      ap (λ (b : Breaks). b.callers)
          c.fill.ensures.breaks,
    ) c.take_up.ensures.keeps

pub returns-in-Over-Reset : goal.returns-in-Over-Reset
returns-in-Over-Reset g c = record {
  keeps = filled_not g.T.NonBlocking.incoming g.T.NonBlocking.outgoing (lets_in g.T.NonBlocking.closes) Reset
      (stops_resetting g.T.NonBlocking.incoming g.T.NonBlocking.outgoing (lets_in g.T.NonBlocking.closes)) _ _
      c.stop.new.self c.fill.new.self _
      c.self.view_is c.requires.free c.in-Over-Reset.ensures.bytes.0 c.fill.ensures.untold (
        c.fill.ensures.written,
        ap
            (λ (b : Breaks). b.callers) c.fill.ensures.breaks,
      )
      c.stop.ensures;
  handles = (refl, refl);
  beside = (refl, refl);
  breaks = ap (λ (s : Sitting g.row.T.Denot). g.T.NonBlocking.closes.breaks s.connection) c.stop.ensures
      ∙ (c.fill.ensures.breaks
      ∙ ap (λ (s : Sitting g.row.T.Denot). g.T.NonBlocking.closes.breaks s.connection) c.self.view_is);
  said = said_reset g.T.NonBlocking.closes _ _ c.stop.new.self c.fill.new.self c.self.view_is c.requires.free
      (c.in-Over-Reset.ensures.said ∙ ap some_over c.in-Over-Reset.field-0-is)
      c.stop.ensures;
}

pub returns-in-Over-Failed : goal.returns-in-Over-Failed
returns-in-Over-Failed g c = record {
  keeps = filled_not g.T.NonBlocking.incoming g.T.NonBlocking.outgoing (lets_in g.T.NonBlocking.closes) (Fault Read)
      (stops_reading g.T.NonBlocking.incoming g.T.NonBlocking.outgoing (lets_in g.T.NonBlocking.closes)) _ _
      c.stop-in-Over-Failed.new.self
      c.fill.new.self _
      c.self.view_is c.requires.free c.in-Over-Failed.ensures.bytes.0 c.fill.ensures.untold (
        c.fill.ensures.written,
        ap
            (λ (b : Breaks). b.callers) c.fill.ensures.breaks,
      )
      c.stop-in-Over-Failed.ensures;
  handles = (refl, refl);
  beside = (refl, refl);
  breaks = ap (λ (s : Sitting g.row.T.Denot). g.T.NonBlocking.closes.breaks s.connection) c.stop-in-Over-Failed.ensures
      ∙ (c.fill.ensures.breaks
      ∙ ap (λ (s : Sitting g.row.T.Denot). g.T.NonBlocking.closes.breaks s.connection) c.self.view_is);
  said = said_failed g.T.NonBlocking.closes _ _ c.stop-in-Over-Failed.new.self c.fill.new.self c.self.view_is
      c.requires.free (c.in-Over-Failed.ensures.said
      ∙ ap some_over c.in-Over-Failed.field-0-is) c.stop-in-Over-Failed.ensures;
}
