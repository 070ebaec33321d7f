-- Proves that what a call does is what its pass does, as a member of a team.
use Rattle.std.proofs.Common.{◌≡◌, ℕ, ℤ, inl, inr, List, [], ◌++◌, sym, subst}
use Rattle.std.proofs.lemmas.List.{append-nil}
use Rattle.sysv_model.specs.Registry.{Forget, Changed}
use Rattle.sysv_model.specs.Turn.{Ask, OfSlot, OfRegistry, OfPool, Op, AtSlot, AtRegistry, AtPool}
use Rattle.sysv_steps.specs.Call.{Kind}
use Rattle.sysv_steps.specs.State.{Phase, AtInstall, State, Goes, Waits}
use Rattle.sysv_steps.specs.Asks.{asks}
use Rattle.sysv_steps.specs.Resume.{Count, ArrivedOf, FreedOf, Settled, Released, awaited}
use Rattle.sysv_model.specs.Members.{Member, SeesMore, MakesTurn, Does, starts, sees, makes}
use Rattle.sysv_service.specs.Seats.{Seats, MakesTurnAt, FindsWorn}
use Rattle.sysv_service.specs.Reading.{Reads, GivesUp}
use Rattle.sysv_service.specs.Ran.{Pass, Forgets, TurnsBack, Ran, begins, steps, turns_back, reads, resumes, gives_up}

-- ---- one action at an object

module _ (before after : Seats) where
  pub turn_is_made : (op : Op) → MakesTurnAt before op after → MakesTurn before.member op after.member
  turn_is_made (AtSlot slot call reply) makes_it = makes_it.3
  turn_is_made (AtRegistry call reply) makes_it = makes_it.3
  turn_is_made (AtPool call reply) makes_it = makes_it.3

  pub worn_is_seen : (ask : Ask) → FindsWorn before ask after → SeesMore before.member after.member
  worn_is_seen (OfSlot slot call) finds = finds.3
  worn_is_seen (OfRegistry call) finds = finds.3
  worn_is_seen (OfPool call) finds = finds.3

  pub read_is_seen : (count : Count) (value : ℕ) → Reads count value before after → SeesMore before.member after.member
  read_is_seen (ArrivedOf slot) value r = r.3
  read_is_seen (FreedOf slot) value r = r.3
  read_is_seen Settled value r = r.3
  read_is_seen Released value r = r.3

  pub end_is_seen : (count : Count) (value : ℕ) → GivesUp count value before after → SeesMore before.member after.member
  end_is_seen (ArrivedOf slot) value r = r.3
  end_is_seen (FreedOf slot) value r = r.3
  end_is_seen Settled value r = r.3
  end_is_seen Released value r = r.3

-- ---- a step whose gate is worn out

module _ (start : Member) (done : List Op) (before after : Pass) (so : Does start done before.seats.member) where
  forgets_does : (id : ℤ) (ops : List Op) → Forgets id before ops after →
      Does start (done ++ ops) after.seats.member
  forgets_does id ops (inl f) =
      let op : Op = AtRegistry (Forget id) (Changed f.0) in
      subst (λ ds. Does start (done ++ ds) after.seats.member) (sym f.1)
      (makes op after.seats.member so (turn_is_made before.seats after.seats op f.2.turn))
  forgets_does id ops (inr f) =
      let seen : Does start done after.seats.member =
      sees after.seats.member so (worn_is_seen before.seats after.seats (OfRegistry (Forget id)) f.1) in
      subst (λ ds. Does start (done ++ ds) after.seats.member) (sym f.0)
      (subst (λ ds. Does start ds after.seats.member) (sym (append-nil done)) seen)

  nothing_does : (ops : List Op) → ops ≡ [] → after.seats ≡ before.seats →
      Does start (done ++ ops) after.seats.member
  nothing_does ops none same =
      let still : Does start done after.seats.member = subst (λ (s : Seats). Does start done s.member) (sym same) so in
      subst (λ ds. Does start (done ++ ds) after.seats.member) (sym none)
      (subst (λ ds. Does start ds after.seats.member) (sym (append-nil done)) still)

  back_does : {kind : Kind} (phase : Phase kind) (ops : List Op) (state : State kind) →
      TurnsBack phase before ops state after → Does start (done ++ ops) after.seats.member
  back_does (AtInstall get id) ops state back = forgets_does id ops back.1
  back_does phase ops state back = nothing_does ops back.1 back.2

-- ---- a call

module _ {kind : Kind} (may : ℕ → Type 0) (from : State kind) (old : Pass) where
  pub does : (ops : List Op) (state : State kind) (new : Pass) → Ran may from old ops state new →
      Does old.seats.member ops new.seats.member
  does _ _ _ begins = starts
  does _ _ _ (steps {ops} {phase} {mid} state new ran step) =
      makes step.op new.seats.member (does ops (Goes phase) mid ran)
      (turn_is_made mid.seats new.seats step.op step.makes.turn)
  does _ _ _ (turns_back {ops} {phase} {mid} state new ran step) =
      let seen = sees step.there.member (does ops (Goes phase) mid ran)
      (worn_is_seen mid.seats step.there (asks phase step.now) step.worn) in
      back_does old.seats.member ops (record mid { seats = step.there }) new seen phase step.ops state step.back
  does _ _ _ (reads {ops} {state} {mid} count value new ran r same) =
      sees new.seats.member (does ops state mid ran) (read_is_seen mid.seats new.seats count value r)
  does _ _ _ (resumes {ops} {wait} {mid} value new ran reached r same) =
      sees new.seats.member (does ops (Waits wait) mid ran) (read_is_seen mid.seats new.seats (awaited wait) value r)
  does _ _ _ (gives_up {ops} {wait} {mid} value new ran below r same) =
      sees new.seats.member (does ops (Waits wait) mid ran) (end_is_seen mid.seats new.seats (awaited wait) value r)
