-- One step of a call, from the reply to its turn.
use Rattle.std.specs.Prelude.{⊤}
use Rattle.std.proofs.Common.{◌≡◌, ℕ, ◌+◌, inl, inr, true, false, [], Some, Result, refl, sym, subst, ◌∙◌, arith}
use Rattle.sysv_model.specs.Pool.{Release}
use Rattle.sysv_model.specs.Registry.{Forget, Changed}
use Rattle.sysv_model.specs.Turn.{Ask, Op, AtRegistry, AtPool, OfPool, OfRegistry, asked_by}
use Rattle.sysv_pool.specs.Chain.{Chained}
use Rattle.sysv_pool.specs.Replies.{release_reply}
use Rattle.sysv_steps.specs.Call.{Kind}
use Rattle.sysv_steps.specs.State.{Phase, State}
use Rattle.sysv_steps.specs.Asks.{asks}
use Rattle.sysv_steps.specs.Next.{next}
use Rattle.sysv_steps.specs.Stepping.{is_stamped, refused_blocks, StepsOn, TurnsBack, GivesBack}
use Rattle.sysv_steps.specs.Stepping.{AsksToForget}

module _ {P : Type 0} (takes : P → Op → P → Type 0) (misses : P → Ask → P → Type 0) where
  module _ {kind : Kind} (may : ℕ → Type 0) (phase : Phase kind) (before : P) (state : State kind) (after : P) where
    -- The turn of the step was made.
    pub stepped : (op : Op) (now : ℕ) → (is_stamped phase ≡ true → may now) → asked_by op ≡ asks phase now →
        next phase op ≡ Some state → takes before op after → refused_blocks op ≡ 0 →
        (kept : ℕ) → StepsOn takes misses may phase before kept state after kept
    stepped op now moment asked goes made none kept = inl (record {
      op = op;
      now = now;
      moment = moment;
      asked = asked;
      goes = goes;
      makes = record { turn = made; held = omega (arith, none) };
    })

    -- The gate of the step's object is worn out.
    pub met : (now : ℕ) → (is_stamped phase ≡ true → may now) → (there : P) → misses before (asks phase now) there →
        (kept : ℕ) → TurnsBack takes misses phase there kept [] state after kept →
        StepsOn takes misses may phase before kept state after kept
    met now moment there worn kept back =
        inr (record { ops = []; now = now; moment = moment; there = there; worn = worn; back = back })

    -- The step requested the registry to forget an identifier.
    pub forgot : (id : _) → is_stamped phase ≡ false → asks phase 0 ≡ OfRegistry (Forget id) →
        ((done : _) → next phase (AtRegistry (Forget id) (Changed done)) ≡ Some state) →
        ((kept : ℕ) → TurnsBack takes misses phase after kept [] state after kept) →
        AsksToForget takes misses id before after → (kept : ℕ) →
        StepsOn takes misses may phase before kept state after kept
    forgot id unstamped asks_it goes back (inl done) kept =
        stepped (AtRegistry (Forget id) (Changed done.0)) 0
        (λ e. let no : true ≡ false = sym e ∙ unstamped in absurd cc) (sym asks_it) (goes done.0) done.1 refl kept
    forgot id unstamped asks_it goes back (inr worn) kept =
        met 0 (λ e. let no : true ≡ false = sym e ∙ unstamped in absurd cc) after
        (subst (λ a. misses before a after) (sym asks_it) worn) kept (back kept)

    -- The step released a chain.
    pub given : (blocks kept keeps : ℕ) → is_stamped phase ≡ false → asks phase 0 ≡ OfPool (Release blocks) →
        ((done : Result ⊤ Chained) → next phase (AtPool (Release blocks) (release_reply done)) ≡ Some state) →
        (keeps ≡ kept + blocks → TurnsBack takes misses phase after kept [] state after keeps) →
        GivesBack takes misses blocks before kept after keeps →
        StepsOn takes misses may phase before kept state after keeps
    given blocks kept keeps unstamped asks_it goes back (inl done) =
        inl (record {
          op = AtPool (Release blocks) (release_reply done.0);
          now = 0;
          moment = λ e. let no : true ≡ false = sym e ∙ unstamped in absurd cc;
          asked = sym asks_it;
          goes = goes done.0;
          makes = done.1;
        })
    given blocks kept keeps unstamped asks_it goes back (inr worn) =
        inr (record {
          ops = [];
          now = 0;
          moment = λ e. let no : true ≡ false = sym e ∙ unstamped in absurd cc;
          there = after;
          worn = subst (λ a. misses before a after) (sym asks_it) worn.0;
          back = back worn.1;
        })
