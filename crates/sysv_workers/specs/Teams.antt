-- The threads that run, by the states on which they were started. This project's profile.
use Rattle.std.specs.Prelude.{◌≡◌, ◌≤◌, ℕ, List, [], map, reverse}
use Rattle.std.specs.List.{All}
use Rattle.std.specs.Mem.{manually_drop_value}
use Rattle.std.specs.declared.thread.PromisedHandle.{PromisedHandle}
use Rattle.sysv_buffer.specs.Ends.{Buffered}
use Rattle.sysv_buffer.specs.ManyEnds.{Holding}
use Rattle.sysv_workers.specs.Doing.{Did}
use Rattle.sysv_workers.specs.declared.feed.Feed.{Feed}
use Rattle.sysv_workers.specs.declared.worker.Done.{Done}
use Rattle.sysv_workers.specs.declared.worker.Working.{Working}
use Rattle.sysv_workers.specs.declared.workers.TheConstants.{MAX_WORKERS}

-- What a thread works on: its state, its job and its buffer.
pub record Assigned (W J : Type 0) : Type 0 where
  pub state : W
  pub job : J
  pub buffer : Buffered

module _ {W T J : Type 0} where
  -- What the thread of this handle works on.
  abbrev pub assigned_to : PromisedHandle (Done W T) (Working W T J) → Assigned W J
  assigned_to h = record { state = h.promise.state.value; job = h.promise.job.value; buffer = h.promise.buffer.value }

  -- The threads run this job on these states with this buffer. The thread that was started last has
  -- the first state.
  abbrev pub AreOn : J → Buffered → List W → List (PromisedHandle (Done W T) (Working W T J)) → Type 0
  AreOn job buffer states handles =
      map assigned_to handles ≡ map (λ w. record { state = w; job = job; buffer = buffer }) (reverse states)

-- Threads can be started on these states: the seat is one of the buffer, with which nothing was
-- taken, and the list of threads has room for as many as there are states, of which there are 1 to
-- 16.
abbrev pub CanStart : {W T : Type 0} → (W → Type 0) → Buffered → Holding (Feed T) → List W → (count room : ℕ) → Type 0
CanStart fits buffer seat states count room =
    (seat.buffer ≡ buffer) × (seat.takes ≡ []) × All fits states × (1 ≤ count) × (count ≤ MAX_WORKERS) × (count ≤ room)

-- A worker that began with this state leaves what it did.
abbrev pub HasDone : {W T : Type 0} → (W → T → W → Type 0) → (W → Type 0) → Buffered → W → Done W T → Type 0
HasDone runs fits buffer before done =
    Did runs fits buffer before done.ended (manually_drop_value done.state) done.seat done.ran
