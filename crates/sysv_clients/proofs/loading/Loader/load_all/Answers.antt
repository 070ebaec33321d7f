use Rattle.std.proofs.Common.{◌≡◌, ◌+◌, [], ◌∙◌, Err, arith, refl}
use Rattle.sysv_clients.specs.declared.loading.Unloaded.TheVariants.{Fault}
use Rattle.sysv_clients.proofs.LoadLemmas.{begins_there, fails_so, has_room, no_hello, not_ahead, stops_fit}
use Rattle.sysv_clients.proofs.loading.Loader.load_all.Goals as goal

pub returns-in-Err-clause-loads : goal.returns-in-Err-clause-loads
returns-in-Err-clause-loads g c = (
  [],
  not_ahead c.args.loading.now (Err (Fault c.in-Err.fault)) [] _ _ _ _ _ _ refl
      (no_hello c.args.loading.now c.in-Err.fault c.request.new.self.sender.given _ _ _ _ _
      c.in-Err.ensures.exchanges),
)

pub loop-self-init : goal.loop-self-init
loop-self-init g c =
    let place = c.request.ensures.place ∙ c.requires.place in
    let window = c.request.ensures.window ∙ c.requires.window in
    record {
      loads = begins_there c.args.loading.now c.in_default.field-0 c.request.new.self.sender.given
          c.request.new.self.sender.chunk c.request.new.self.place c.request.new.self.window _ _ _ _ _ place window
          (c.request.ensures.chunk ∙ c.requires.chunk) c.in_default.ensures.exchanges;
      many = rw (window, place) refl;
      room = rw window (has_room c.args.loading.now);
      bound = rw place (omega arith);
      none = c.request.ensures.none ∙ c.requires.none;
      same_input = refl;
      same_reader = c.request.ensures.same_reader;
      same_writer = c.request.ensures.same_writer;
    }

pub loop-self-preserved : goal.loop-self-preserved
loop-self-preserved g c =
    let takes = c.in-Ok-true.ensures.takes _ _ _ c.loop-self.invariant.loads in
    record {
      loads = rw c.in-Ok-true.field-0-test at takes;
      many = c.in-Ok-true.ensures.many;
      room = c.in-Ok-true.ensures.room;
      bound = omega (arith, c.load_next.ensures.bound, c.loop-self-test.true);
      none = c.load_next.ensures.none ∙ c.loop-self.invariant.none;
      same_input = c.load_next.ensures.same_input ∙ c.loop-self.invariant.same_input;
      same_reader = c.load_next.ensures.same_reader ∙ c.loop-self.invariant.same_reader;
      same_writer = c.load_next.ensures.same_writer ∙ c.loop-self.invariant.same_writer;
    }

pub end-requires : goal.end-requires
end-requires g c = omega (arith, c.in-Ok-false.ensures.many, c.load_next.ensures.bound, c.loop-self-test.true)

pub returns-in-Ok-false-clause-loads : goal.returns-in-Ok-false-clause-loads
returns-in-Ok-false-clause-loads g c =
    let takes = c.in-Ok-false.ensures.takes _ _ _ c.loop-self.invariant.loads in
    let stops = rw c.in-Ok-false.field-0-test at takes in
    (c.load_next.new.self.sender.chunk, c.end.ensures.ends c.args.loading.now _ _ _ _ stops)

pub stop-requires : goal.stop-requires
stop-requires g c = λ still.
    let many : c.load_next.new.self.window.done + c.load_next.new.self.window.waiting
    ≡ c.load_next.new.self.place.lines = stops_fit c.args.loading.now _ _ _ _ _ _ _ _ _ still
    (c.in-Err-load_next.ensures.takes _ _ _ c.loop-self.invariant.loads) in
    omega (arith, many, c.load_next.ensures.bound, c.loop-self-test.true)

pub returns-in-Err-load_next-clause-loads : goal.returns-in-Err-load_next-clause-loads
returns-in-Err-load_next-clause-loads g c = (
  c.load_next.new.self.sender.chunk,
  c.stop.ensures.stops c.args.loading.now _ _ _ _
      (c.in-Err-load_next.ensures.takes _ _ _ c.loop-self.invariant.loads),
)

pub returns-in-Err-load_next-clause-failed : goal.returns-in-Err-load_next-clause-failed
returns-in-Err-load_next-clause-failed g c = fails_so _ _ _ c.stop.ensures.same_end c.in-Err-load_next.ensures.failed

pub end-requires-2 : goal.end-requires-2
end-requires-2 g c = omega (arith, c.loop-self.invariant.many, c.loop-self.invariant.bound)

pub returns-clause-loads : goal.returns-clause-loads
returns-clause-loads g c = (
  c.loop-self.self.sender.chunk,
  c.end-2.ensures.ends c.args.loading.now _ _ _ _ (
    c.loop-self.invariant.loads,
    omega (arith, c.loop-self-test.false, c.loop-self.invariant.bound),
  ),
)
