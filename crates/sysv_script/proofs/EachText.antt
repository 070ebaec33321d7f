-- A text prints something as a whole: each of its lines does something or is bad.
use Rattle.std.proofs.Common.{◌≡◌, ◌+◌, ◌-◌, ◌≤◌, ◌<◌, ◌⊎◌, ℕ, zero, suc, inl, inr, Bool, true, false, List, [], ◌∷◌}
use Rattle.std.proofs.Common.{◌++◌, Option, Some, None, length, get_or, refl, ap, ◌∙◌, arith}
use Rattle.std.proofs.Common.{subst, if◌then◌else◌}
use Rattle.std.proofs.lemmas.List.{length-set}
use Rattle.sysv_lists.proofs.Orders.{at_most}
use Rattle.sysv_model.specs.declared.cred.Cred.{Cred}
use Rattle.std.specs.List.{range_with_len}
use Rattle.sysv_steps.specs.Call.{SystemCall}
use Rattle.sysv_script.specs.declared.names.Operation.{Operation}
use Rattle.sysv_core.specs.declared.event.Event.{Event}
use Rattle.sysv_core.specs.declared.event.Event.TheVariants.{Start, Step}
use Rattle.sysv_core.specs.declared.event.Stepped.{Stepped}
use Rattle.sysv_core.specs.declared.event.Stepped.TheVariants as stepped
use Rattle.sysv_core.specs.World.{World, actor_at, Presets}
use Rattle.sysv_core.specs.Sound.{IsSound, OpensSound}
use Rattle.sysv_core.specs.SomeRun.{SomeStep, SomePreset}
use Rattle.sysv_script.specs.Faults.{bad_line_text}
use Rattle.sysv_script.specs.Heads.{head_text}
use Rattle.sysv_script.specs.declared.head.Head.TheVariants as head
use Rattle.sysv_script.specs.Lines.{Says}
use Rattle.sysv_script.specs.Said.{Said, Nothing, MakesPreset, GivesCred, GivesMoment, Starts, StepsOnce, Continues}
use Rattle.sysv_script.specs.Said.{AllContinue, GivesBlocks}
use Rattle.sysv_script.specs.ScriptState.{ScriptState, opening_script_state, opening_world, begun_script_state}
use Rattle.sysv_script.specs.ScriptState.{first_cred, in_world, cred_at}
use Rattle.sysv_script.specs.ScriptState.{with_cred, Advances, GoesOn, call_for, most_steps, CallRuns, StartRuns}
use Rattle.sysv_script.specs.ScriptState.{StepsRun}
use Rattle.sysv_script.specs.ScriptState.{OneRuns, AllRun, LineRuns, pending, printed}
use Rattle.sysv_script.specs.Names.{operation_of}
use Rattle.sysv_script.specs.ScriptText.{BeginsWith, LineDoes, IsBad, Ending, Whole, BadLine, TooMany, Prints, Ends}
use Rattle.sysv_script.specs.ScriptText.{Exceeds, Fails, Goes}
use Rattle.sysv_script.specs.EachText.{EachTextPrints}
use Rattle.sysv_script.specs.CredHeld.{cred_held}
use Rattle.sysv_script.proofs.EmptyWorldSound.{opening_sound}
use Rattle.sysv_words.specs.OneSplit.{OneSplit}
use Rattle.sysv_script.specs.OneLine.{EachLineIsDecided}

-- ---- the first line of a text

-- The text begins with a line, and a shorter text is left after it.
record FirstLine (text : List ℕ) : Type 0 where
  line : List ℕ
  rest : List ℕ
  begins : BeginsWith text line rest
  shorter : length rest < length text

-- A text that is not empty begins with a line.
first_line : OneSplit → (text : List ℕ) → 0 < length text → FirstLine text
first_line split text some = elim (split.either 10 text) [
  | inl s ↦ record { line = s.0; rest = s.1; begins = inl s.2; shorter = split.shorter 10 text s.0 s.1 s.2 }
  | inr none ↦ record { line = text; rest = []; begins = inr (none, some, refl, refl); shorter = some }
]

-- ---- a line

-- Each of the 16 actors has credentials, and the world is sound.
abbrev IsManned : ScriptState → Type 0
IsManned s = (length s.creds ≡ 16) × IsSound s.world

-- The line does something and leaves a script state of 16 actors.
record LineDone (s : ScriptState) (line : List ℕ) : Type 0 where
  out : List ℕ
  after : ScriptState
  does : LineDoes s line out after
  manned : IsManned after

-- A preset makes the queue, or comes too late.
presets_or_not : (s : ScriptState) (line : List ℕ) (made : Bool) (after : World) → Presets s.world made after →
    IsSound after → IsManned s → Says line MakesPreset → LineDone s line ⊎ IsBad s line
presets_or_not s line true after p there manned says =
    inl (record {
      out = [];
      after = in_world (begun_script_state s) after;
      does = (MakesPreset, says, (p, refl, refl));
      manned = (manned.0, there);
    })
presets_or_not s line false after p there manned says =
    inr (inr (MakesPreset, [], in_world (begun_script_state s) after, says, (p, refl, refl)))

-- The text prints something as a whole.
abbrev PrintsWhole : ScriptState → ℕ → List ℕ → Type 0
PrintsWhole s n text = (out : List ℕ) × (ending : Ending) × Prints s n text out ending

-- If the first line of a text does something and the rest prints something as a whole, so does the
-- text.
goes_first : (s : ScriptState) (n : ℕ) (text : List ℕ) (first : FirstLine text) → n ≤ 1000000 →
    (does : LineDone s first.line) → PrintsWhole does.after (n + 1) first.rest → PrintsWhole s n text
goes_first s n text first few does more = (
  does.out ++ more.0,
  more.1,
  Goes s n text first.line first.rest does.out does.after more.0 more.1 few first.begins does.does more.2,
)

module _ (split : OneSplit) (decided : EachLineIsDecided) (some : SomeStep) (preset : SomePreset)
    (opens : OpensSound) where
  -- The script state afterwards has the credentials of the script state before, and a sound world.
  abbrev IsKept : ScriptState → ScriptState → Type 0
  IsKept s after = (after.creds ≡ s.creds) × IsSound after.world

  manned_after : (s after : ScriptState) → IsManned s → IsKept s after → IsManned after
  manned_after s after manned kept = (ap length kept.0 ∙ manned.0, kept.1)

  -- An event leaves such a script state.
  advances : (s : ScriptState) (event : Event) → IsSound s.world →
      (given : Stepped) × (after : ScriptState) × Advances s event given after × IsKept s after
  advances s event sound =
      let step = some s.world event sound in
      (step.0, in_world s step.1, (step.2, refl), (refl, step.3))

  -- A call continues for at most `n` steps.
  goes_on : (n : ℕ) (s : ScriptState) (actor : ℕ) (first : Stepped) → IsSound s.world →
      (given : Stepped) × (after : ScriptState) × GoesOn n s actor first given after × IsKept s after
  goes_on zero s actor stepped.Nothing sound = (stepped.Nothing, s, (refl, refl), (refl, sound))
  goes_on zero s actor (stepped.Answer answer) sound = (stepped.Answer answer, s, (refl, refl), (refl, sound))
  goes_on zero s actor stepped.Worn sound = (stepped.Worn, s, (refl, refl), (refl, sound))
  goes_on (suc n) s actor stepped.Nothing sound =
      let step = advances s (Step actor s.moment) sound in
      let more = goes_on n step.1 actor step.0 step.3.1 in
      (more.0, more.1, (step.1, step.0, step.2, more.2), (more.3.0 ∙ step.3.0, more.3.1))
  goes_on (suc n) s actor (stepped.Answer answer) sound = (stepped.Answer answer, s, (refl, refl), (refl, sound))
  goes_on (suc n) s actor stepped.Worn sound = (stepped.Worn, s, (refl, refl), (refl, sound))

  -- A call of an actor that has credentials runs.
  call_runs : (s : ScriptState) (actor : ℕ) (asked : SystemCall) (goes : Bool) (cred : Cred) → IsSound s.world →
      cred_at s.creds actor ≡ Some cred →
      (given : Stepped) × (after : ScriptState) × CallRuns s actor asked goes given after × IsKept s after
  call_runs s actor asked goes cred sound held =
      let start = advances s (Start actor cred (call_for asked)) sound in
      let more = goes_on (most_steps goes) start.1 actor start.0 start.3.1 in
      (more.0, more.1, (start.1, start.0, (cred, held, start.2), more.2), (more.3.0 ∙ start.3.0, more.3.1))

  -- What a line of calls prints and leaves.
  abbrev Done : (ScriptState → List ℕ → ScriptState → Type 0) → ScriptState → Type 0
  Done Runs s = (out : List ℕ) × (after : ScriptState) × Runs s out after × IsKept s after

  -- A line starts a call, or finds the actor in one.
  start_runs : (s : ScriptState) (actor : ℕ) (asked : SystemCall) (goes : Bool) (o : Option Operation) → IsManned s →
      1 ≤ actor → actor ≤ 16 → Done (λ m out after. StartRuns m actor asked goes o out after) s
  start_runs s actor asked goes (Some operation) manned least most =
      (head_text (head.Busy actor) ++ 10 ∷ [], s, (refl, refl), (refl, manned.1))
  start_runs s actor asked goes None manned least most =
      let cred : Cred = get_or s.creds (actor - 1) (first_cred 0) in
      let held = cred_held s.creds actor (first_cred 0) least (omega (arith, most, manned.0)) in
      let run = call_runs s actor asked goes cred manned.1 held in
      (printed run.1.world actor (operation_of asked) run.0, run.1, (run.0, run.2, refl), run.3)

  steps_run : (n : ℕ) (s : ScriptState) (actor : ℕ) (o : Option Operation) → IsSound s.world →
      Done (λ m out after. StepsRun n m actor o out after) s
  steps_run n s actor None sound = (head_text (head.Idle actor) ++ 10 ∷ [], s, (refl, refl), (refl, sound))
  steps_run n s actor (Some operation) sound =
      let run = goes_on n s actor stepped.Nothing sound in
      (printed run.1.world actor operation run.0, run.1, (run.0, run.2, refl), run.3)

  one_runs : (s : ScriptState) (actor : ℕ) (o : Option Operation) → IsSound s.world →
      Done (λ m out after. OneRuns m actor o out after) s
  one_runs s actor None sound = ([], s, (refl, refl), (refl, sound))
  one_runs s actor (Some operation) sound = steps_run 16 s actor (Some operation) sound

  all_run : (actors : List ℕ) (s : ScriptState) → IsSound s.world → Done (λ m out after. AllRun actors m out after) s
  all_run [] s sound = ([], s, (refl, refl), (refl, sound))
  all_run (actor ∷ actors) s sound =
      let one = one_runs s actor (pending (actor_at s.world.actors actor)) sound in
      let more = all_run actors one.1 one.3.1 in
      (one.0 ++ more.0, more.1, (one.1, one.0, more.0, one.2, more.2, refl), (more.3.0 ∙ one.3.0, more.3.1))

  line_done : (s : ScriptState) (line : List ℕ) (said : Said) (out : List ℕ) (after : ScriptState) → IsManned s →
      Says line said →
      LineRuns s said true out after → IsKept s after → LineDone s line ⊎ IsBad s line
  line_done s line said out after manned says runs kept =
      inl (record { out = out; after = after; does = (said, says, runs); manned = manned_after s after manned kept })

  -- The size of the pool is set, or comes too late.
  pool_goes : (s : ScriptState) (line : List ℕ) (blocks : ℕ) (fresh : Bool) → fresh ≡ s.fresh → IsManned s →
      Says line (GivesBlocks blocks) → LineDone s line ⊎ IsBad s line
  pool_goes s line blocks true e manned says =
      let after = in_world (begun_script_state s) (opening_world blocks) in
      inl (record {
        out = [];
        after = after;
        does = (GivesBlocks blocks, says, (refl, (e, subst (λ b. after ≡ (if b then after else s)) e refl)));
        manned = (manned.0, opening_sound opens blocks);
      })
  pool_goes s line blocks false e manned says =
      let opened = in_world (begun_script_state s) (opening_world blocks) in
      inr (inr (GivesBlocks blocks, [], s, says, (refl, (e, subst (λ b. s ≡ (if b then opened else s)) e refl))))

  -- A line with a meaning does it, or is a preset or a size of the pool that comes too late.
  line_goes : (s : ScriptState) (line : List ℕ) (said : Said) → IsManned s → Says line said →
      LineDone s line ⊎ IsBad s line
  line_goes s line Nothing manned says =
      inl (record { out = []; after = s; does = (Nothing, says, (refl, refl, refl)); manned = manned })
  line_goes s line MakesPreset manned says =
      let made = preset s.world manned.1 in presets_or_not s line made.0 made.1 made.2 made.3 manned says
  line_goes s line (GivesBlocks blocks) manned says = pool_goes s line blocks s.fresh (λ i. s.fresh) manned says
  line_goes s line (GivesCred actor cred) manned says =
      inl (record {
        out = [];
        after = record s { creds = with_cred s.creds actor cred; fresh = false };
        does = (GivesCred actor cred, says, (refl, refl, refl));
        manned = (length-set s.creds (actor - 1) cred ∙ manned.0, manned.1);
      })
  line_goes s line (GivesMoment moment) manned says =
      inl (record {
        out = [];
        after = record s { moment = moment; fresh = false };
        does = (GivesMoment moment, says, (refl, refl, refl));
        manned = manned;
      })
  line_goes s line (Starts actor asked true) manned says =
      let run = start_runs (begun_script_state s) actor asked true (pending (actor_at s.world.actors actor)) manned
      says.1.one.least says.1.one.most in
      line_done s line (Starts actor asked true) run.0 run.1 manned says (refl, run.2) run.3
  line_goes s line (Starts actor asked false) manned says =
      let run = start_runs (begun_script_state s) actor asked false (pending (actor_at s.world.actors actor)) manned
      says.1.2.one.least says.1.2.one.most in
      line_done s line (Starts actor asked false) run.0 run.1 manned says (refl, run.2) run.3
  line_goes s line (StepsOnce actor) manned says =
      let run = steps_run 1 (begun_script_state s) actor (pending (actor_at s.world.actors actor)) manned.1 in
      line_done s line (StepsOnce actor) run.0 run.1 manned says (refl, run.2) run.3
  line_goes s line (Continues actor) manned says =
      let run = steps_run 16 (begun_script_state s) actor (pending (actor_at s.world.actors actor)) manned.1 in
      line_done s line (Continues actor) run.0 run.1 manned says (refl, run.2) run.3
  line_goes s line AllContinue manned says =
      let run = all_run (range_with_len 1 16) (begun_script_state s) manned.1 in
      line_done s line AllContinue run.0 run.1 manned says (refl, run.2) run.3

  -- A line does something, or it is bad.
  does_or_bad : (s : ScriptState) (line : List ℕ) → IsManned s → LineDone s line ⊎ IsBad s line
  does_or_bad s line manned = elim (decided line) [
    | inl says ↦ line_goes s line says.0 manned says.1
    | inr none ↦ inr (inl none)
  ]

  -- ---- a text

  -- A text of at most `bound` bytes prints something as a whole.
  prints_bounded : (bound n : ℕ) (s : ScriptState) (text : List ℕ) → length text ≤ bound → IsManned s →
      PrintsWhole s n text
  prints_bounded bound n s [] short manned = ([], Whole, Ends s n)
  prints_bounded zero n s (x ∷ xs) short manned = absurd (omega (arith, short))
  prints_bounded (suc bound) n s (x ∷ xs) short manned = elim (at_most n 1000000) [
    | inr many ↦ ([], TooMany, Exceeds s n (x ∷ xs) many (omega arith))
    | inl few ↦
        let first = first_line split (x ∷ xs) (omega arith) in
        let shorter = first.shorter in
        elim (does_or_bad s first.line manned) [
          | inr bad ↦ (bad_line_text n, BadLine n, Fails s n (x ∷ xs) first.line first.rest few first.begins bad)
          | inl does ↦ goes_first s n (x ∷ xs) first few does
              (prints_bounded bound (n + 1) does.after first.rest (omega (arith, short, shorter)) does.manned)
        ]
  ]

  pub each_text_prints : EachTextPrints
  each_text_prints text =
      prints_bounded (length text) 1 opening_script_state text (omega arith) (refl, opening_sound opens 1024)
