-- A text prints one thing only: each of its lines does, and so does the whole.
use Rattle.std.proofs.Common.{◌≡◌, ℕ, zero, suc, ◌+◌, ◌<◌, ◌≤◌, ◌⊎◌, inl, inr, true, false, Option, None, Some, List}
use Rattle.std.proofs.Common.{[], ◌∷◌, ◌++◌, length, length-append, refl, sym, ap, subst, ◌∙◌, append_assoc, arith}
use Rattle.std.specs.List.{range_with_len}
use Rattle.std.proofs.Common.{Bool, if◌then◌else◌}
use Rattle.sysv_steps.specs.Call.{SystemCall}
use Rattle.sysv_script.specs.declared.names.Operation.{Operation}
use Rattle.sysv_steps.specs.declared.call.Call.{Call}
use Rattle.sysv_core.specs.Seen.{transition_of}
use Rattle.sysv_core.specs.Sound.{IsSound, OpensSound, StaysSound}
use Rattle.sysv_script.proofs.EmptyWorldSound.{opening_sound}
use Rattle.sysv_core.specs.declared.event.Event.{Event}
use Rattle.sysv_core.specs.declared.event.Event.TheVariants.{Start, Step}
use Rattle.sysv_core.specs.declared.event.Stepped.{Stepped}
use Rattle.sysv_core.specs.declared.event.Stepped.TheVariants as stepped
use Rattle.sysv_model.specs.declared.cred.Cred.{Cred}
use Rattle.sysv_core.specs.World.{World, Preset, actor_at, Presets}
use Rattle.sysv_script.specs.Said.{Said, Nothing, MakesPreset, GivesCred, GivesMoment, Starts, StepsOnce, Continues}
use Rattle.sysv_script.specs.Said.{AllContinue, GivesBlocks}
use Rattle.sysv_script.specs.ScriptState.{ScriptState, in_world, begun_script_state, opening_world, LineActs, Advances}
use Rattle.sysv_script.specs.ScriptState.{GoesOn, StartsAs}
use Rattle.sysv_script.specs.ScriptState.{call_for, most_steps, CallRuns, StartRuns, StepsRun, OneRuns, AllRun}
use Rattle.sysv_script.specs.ScriptState.{LineRuns}
use Rattle.sysv_script.specs.ScriptState.{pending, printed}
use Rattle.sysv_script.specs.Names.{operation_of}
use Rattle.sysv_lists.specs.Prefix.{IsPrefixOf}
use Rattle.sysv_script.specs.Faults.{bad_line_text}
use Rattle.sysv_script.specs.ScriptText.{BeginsWith, LineDoes, IsBad, Ending, Whole, BadLine, TooMany, Prints, Ends}
use Rattle.sysv_script.specs.ScriptText.{Exceeds, Fails, Goes}
use Rattle.sysv_script.specs.Sofar.{PrintsSofar, Here, Past}
use Rattle.sysv_script.specs.OneText.{OneText}
use Rattle.sysv_words.specs.OneSplit.{OneSplit}
use Rattle.sysv_script.specs.OneLine.{OneSaying}
use Rattle.sysv_core.specs.OneRun.{OneStep, OnePreset}

module _ (split : OneSplit) (saying : OneSaying) where
  -- A text begins with one line.
  begins_once : (text line other rest behind : List ℕ) → BeginsWith text line rest → BeginsWith text other behind →
      (line ≡ other) × (rest ≡ behind)
  begins_once text line other rest behind (inl h) (inl k) = split.once 10 text line rest other behind h k
  begins_once text line other rest behind (inl h) (inr k) = absurd (k.0 (split.marked 10 text line rest h))
  begins_once text line other rest behind (inr h) (inl k) = absurd (h.0 (split.marked 10 text other behind k))
  begins_once text line other rest behind (inr h) (inr k) = (h.2 ∙ sym k.2, h.3 ∙ sym k.3)

  begins_filled : (text line rest : List ℕ) → BeginsWith text line rest → 0 < length text
  begins_filled text line rest (inl h) =
      let whole : length text ≡ length line + length (10 ∷ rest) = ap length h.whole ∙ length-append line (10 ∷ rest) in
      let some : length (10 ∷ rest) ≡ suc (length rest) = refl in
      omega (arith, whole, some)
  begins_filled text line rest (inr h) = h.1

  presets_apart : (w a b : World) → Presets w true a → Presets w false b → ⊥
  presets_apart w a b (inl h) (inl k) = let never : false ≡ true = k.1 in cc
  presets_apart w a b (inl h) (inr k) = k.0 h.0
  presets_apart w a b (inr h) k = let never : true ≡ false = h.1 in cc

  -- A meaning cannot both be done and be bad.
  acts_apart : (s : ScriptState) (said : Said) (out other : List ℕ) (a b : ScriptState) → LineActs s said true out a →
      LineActs s said false other b → ⊥
  acts_apart s Nothing out other a b h k = let never : false ≡ true = k.0 in cc
  acts_apart s (GivesBlocks blocks) out other a b h k = let never : true ≡ false = h.0 in cc
  acts_apart s MakesPreset out other a b h k = presets_apart s.world a.world b.world h.0 k.0
  acts_apart s (GivesCred actor cred) out other a b h k = let never : false ≡ true = k.0 in cc
  acts_apart s (GivesMoment moment) out other a b h k = let never : false ≡ true = k.0 in cc
  acts_apart s (Starts actor asked goes) out other a b h k = let never : false ≡ true = k.0 in cc
  acts_apart s (StepsOnce actor) out other a b h k = let never : false ≡ true = k.0 in cc
  acts_apart s (Continues actor) out other a b h k = let never : false ≡ true = k.0 in cc
  acts_apart s AllContinue out other a b h k = let never : false ≡ true = k.0 in cc

  runs_apart : (s : ScriptState) (said : Said) (out other : List ℕ) (a b : ScriptState) → LineRuns s said true out a →
      LineRuns s said false other b → ⊥
  runs_apart s Nothing out other a b h k = acts_apart s Nothing out other a b h k
  runs_apart s (GivesBlocks blocks) out other a b h k = let never : true ≡ false = h.1.0 ∙ sym k.1.0 in cc
  runs_apart s MakesPreset out other a b h k = acts_apart (begun_script_state s) MakesPreset out other a b h k
  runs_apart s (GivesCred actor cred) out other a b h k =
      acts_apart (begun_script_state s) (GivesCred actor cred) out other a b h k
  runs_apart s (GivesMoment moment) out other a b h k =
      acts_apart (begun_script_state s) (GivesMoment moment) out other a b h k
  runs_apart s (Starts actor asked goes) out other a b h k =
      acts_apart (begun_script_state s) (Starts actor asked goes) out other a b h k
  runs_apart s (StepsOnce actor) out other a b h k =
      acts_apart (begun_script_state s) (StepsOnce actor) out other a b h k
  runs_apart s (Continues actor) out other a b h k =
      acts_apart (begun_script_state s) (Continues actor) out other a b h k
  runs_apart s AllContinue out other a b h k = acts_apart (begun_script_state s) AllContinue out other a b h k

  -- A bad line does nothing.
  bad_idle : (s : ScriptState) (line out : List ℕ) (after : ScriptState) → IsBad s line → LineDoes s line out after → ⊥
  bad_idle s line out after (inl none) d = none d.0 d.1
  bad_idle s line out after (inr late) d =
      let same : d.0 ≡ late.0 = saying line d.0 late.0 d.1 late.3 in
      runs_apart s late.0 out late.1 after late.2 (subst (λ said. LineRuns s said true out after) same d.2) late.4

  -- The text begins with a bad line.
  abbrev HasBadLine : ScriptState → List ℕ → Type 0
  HasBadLine s text = (line : List ℕ) × (rest : List ℕ) × BeginsWith text line rest × IsBad s line

  bad_filled : (s : ScriptState) (text : List ℕ) → HasBadLine s text → 0 < length text
  bad_filled s text h = begins_filled text h.0 h.1 h.2

  bad_or_does : (s : ScriptState) (text line rest out : List ℕ) (after : ScriptState) → HasBadLine s text →
      BeginsWith text line rest → LineDoes s line out after → ⊥
  bad_or_does s text line rest out after h b d =
      let same = begins_once text h.0 line h.1 rest h.2 b in
      bad_idle s line out after (subst (λ l. IsBad s l) same.0 h.3) d

  -- The run passes over a line.
  record OnLine (s : ScriptState) (n : ℕ) (text out : List ℕ) (ending : Ending) : Type 0 where
    line : List ℕ
    rest : List ℕ
    first : List ℕ
    after : ScriptState
    more : List ℕ
    few : n ≤ 1000000
    begins : BeginsWith text line rest
    does : LineDoes s line first after
    prints : Prints after (n + 1) rest more ending
    whole : out ≡ first ++ more

  -- What a run does first if it does not stop.
  abbrev Opens : ScriptState → ℕ → List ℕ → List ℕ → Ending → Type 0
  Opens s n text out ending =
      ((text ≡ []) × (out ≡ []) × (ending ≡ Whole))
      ⊎ (((1000000 < n) × (0 < length text) × (out ≡ []) × (ending ≡ TooMany))
      ⊎ (((n ≤ 1000000) × HasBadLine s text × (out ≡ bad_line_text n) × (ending ≡ BadLine n))
      ⊎ OnLine s n text out ending))

  opens : (s : ScriptState) (n : ℕ) (text out : List ℕ) (ending : Ending) → Prints s n text out ending →
      Opens s n text out ending
  opens s n text out ending (Ends _ _) = inl (refl, refl, refl)
  opens s n text out ending (Exceeds _ _ _ many some) = inr (inl (many, some, refl, refl))
  opens s n text out ending (Fails _ _ _ line rest few begins bad) =
      inr (inr (inl (few, (line, rest, begins, bad), refl, refl)))
  opens s n text out ending (Goes _ _ _ line rest first after more _ few begins does p) =
      inr (inr (inr (record {
        line = line;
        rest = rest;
        first = first;
        after = after;
        more = more;
        few = few;
        begins = begins;
        does = does;
        prints = p;
        whole = refl;
      })))

  -- The run is at the end of the text.
  end_agrees : (s : ScriptState) (n : ℕ) (text other : List ℕ) (end : Ending) → text ≡ [] → Opens s n text other end →
      ([] ≡ other) × (Whole ≡ end)
  end_agrees s n text other end e (inl k) = (sym k.1, sym k.2)
  end_agrees s n text other end e (inr (inl k)) = let some = k.1 in absurd (omega (arith, some, ap length e))
  end_agrees s n text other end e (inr (inr (inl k))) = absurd (omega (arith, bad_filled s text k.1, ap length e))
  end_agrees s n text other end e (inr (inr (inr k))) =
      absurd (omega (arith, begins_filled text k.line k.rest k.begins, ap length e))

  -- The run is after line 1,000,000.
  over_agrees : (s : ScriptState) (n : ℕ) (text other : List ℕ) (end : Ending) → 1000000 < n → 0 < length text →
      Opens s n text other end → ([] ≡ other) × (TooMany ≡ end)
  over_agrees s n text other end many some (inl k) = absurd (omega (arith, some, ap length k.0))
  over_agrees s n text other end many some (inr (inl k)) = (sym k.2, sym k.3)
  over_agrees s n text other end many some (inr (inr (inl k))) = let few = k.0 in absurd (omega (arith, many, few))
  over_agrees s n text other end many some (inr (inr (inr k))) = let few = k.few in absurd (omega (arith, many, few))

  -- The run is at a bad line.
  bad_agrees : (s : ScriptState) (n : ℕ) (text other : List ℕ) (end : Ending) → n ≤ 1000000 → HasBadLine s text →
      Opens s n text other end → (bad_line_text n ≡ other) × (BadLine n ≡ end)
  bad_agrees s n text other end few bad (inl k) = absurd (omega (arith, bad_filled s text bad, ap length k.0))
  bad_agrees s n text other end few bad (inr (inl k)) = let many = k.0 in absurd (omega (arith, many, few))
  bad_agrees s n text other end few bad (inr (inr (inl k))) = (sym k.2, sym k.3)
  bad_agrees s n text other end few bad (inr (inr (inr k))) =
      absurd (bad_or_does s text k.line k.rest k.first k.after bad k.begins k.does)

  one_cred : (a b : Cred) → Some a ≡ Some b → a ≡ b
  one_cred a b e = cc

  module _ (one : OneStep) (preset : OnePreset) (stays : StaysSound) (openings : OpensSound) where
    advances_once : (s : ScriptState) (event : Event) (result given : Stepped) (a b : ScriptState) → IsSound s.world →
        Advances s event result a → Advances s event given b → (result ≡ given) × (a ≡ b)
    advances_once s event result given a b sound h k =
        let here = one s.world a.world b.world event result given sound h.0 k.0 in
        (here.0, h.1 ∙ (ap (in_world s) here.1 ∙ sym k.1))

    advances_sound : (s : ScriptState) (event : Event) (given : Stepped) (a : ScriptState) → IsSound s.world →
        Advances s event given a → IsSound a.world
    advances_sound s event given a sound h = stays s.world a.world (transition_of event) h.0.0 sound h.0.1

    goes_on_sound : (n : ℕ) (s : ScriptState) (actor : ℕ) (first given : Stepped) (a : ScriptState) → IsSound s.world →
        GoesOn n s actor first given a → IsSound a.world
    goes_on_sound zero s actor stepped.Nothing given a sound h =
        subst (λ (m : ScriptState). IsSound m.world) (sym h.1) sound
    goes_on_sound zero s actor (stepped.Answer answer) given a sound h =
        subst (λ (m : ScriptState). IsSound m.world) (sym h.1) sound
    goes_on_sound zero s actor stepped.Worn given a sound h =
        subst (λ (m : ScriptState). IsSound m.world) (sym h.1) sound
    goes_on_sound (suc n) s actor stepped.Nothing given a sound h =
        goes_on_sound n h.0 actor h.1 given a (advances_sound s (Step actor s.moment) h.1 h.0 sound h.2) h.3
    goes_on_sound (suc n) s actor (stepped.Answer answer) given a sound h =
        subst (λ (m : ScriptState). IsSound m.world) (sym h.1) sound
    goes_on_sound (suc n) s actor stepped.Worn given a sound h =
        subst (λ (m : ScriptState). IsSound m.world) (sym h.1) sound

    goes_on_once : (n : ℕ) (s : ScriptState) (actor : ℕ) (first given told : Stepped) (a b : ScriptState) →
        IsSound s.world →
        GoesOn n s actor first given a → GoesOn n s actor first told b → (given ≡ told) × (a ≡ b)
    goes_on_once zero s actor stepped.Nothing given told a b sound h k = (h.0 ∙ sym k.0, h.1 ∙ sym k.1)
    goes_on_once zero s actor (stepped.Answer answer) given told a b sound h k = (h.0 ∙ sym k.0, h.1 ∙ sym k.1)
    goes_on_once zero s actor stepped.Worn given told a b sound h k = (h.0 ∙ sym k.0, h.1 ∙ sym k.1)
    goes_on_once (suc n) s actor stepped.Nothing given told a b sound h k =
        let here = advances_once s (Step actor s.moment) h.1 k.1 h.0 k.0 sound h.2 k.2 in
        let onward : GoesOn n h.0 actor h.1 told b = subst (λ m. GoesOn n m actor h.1 told b) (sym here.1)
        (subst (λ last. GoesOn n k.0 actor last told b) (sym here.0) k.3) in
        goes_on_once n h.0 actor h.1 given told a b (advances_sound s (Step actor s.moment) h.1 h.0 sound h.2) h.3
        onward
    goes_on_once (suc n) s actor (stepped.Answer answer) given told a b sound h k = (h.0 ∙ sym k.0, h.1 ∙ sym k.1)
    goes_on_once (suc n) s actor stepped.Worn given told a b sound h k = (h.0 ∙ sym k.0, h.1 ∙ sym k.1)

    starts_once : (s : ScriptState) (actor : ℕ) (call : Call (List ℕ) (List ℕ)) (given told : Stepped)
        (a b : ScriptState) →
        IsSound s.world → StartsAs s actor call given a → StartsAs s actor call told b → (given ≡ told) × (a ≡ b)
    starts_once s actor call given told a b sound h k =
        let who : k.0 ≡ h.0 = one_cred k.0 h.0 (sym k.1 ∙ h.1) in
        advances_once s (Start actor h.0 call) given told a b sound h.2
        (subst (λ cred. Advances s (Start actor cred call) told b) who k.2)

    starts_sound : (s : ScriptState) (actor : ℕ) (call : Call (List ℕ) (List ℕ)) (given : Stepped) (a : ScriptState) →
        IsSound s.world → StartsAs s actor call given a → IsSound a.world
    starts_sound s actor call given a sound h = advances_sound s (Start actor h.0 call) given a sound h.2

    call_once : (s : ScriptState) (actor : ℕ) (asked : SystemCall) (goes : Bool) (given told : Stepped)
        (a b : ScriptState) →
        IsSound s.world →
        CallRuns s actor asked goes given a → CallRuns s actor asked goes told b → (given ≡ told) × (a ≡ b)
    call_once s actor asked goes given told a b sound h k =
        let here = starts_once s actor (call_for asked) h.1 k.1 h.0 k.0 sound h.2 k.2 in
        let n = most_steps goes in
        let onward : GoesOn n h.0 actor h.1 told b = subst (λ m. GoesOn n m actor h.1 told b) (sym here.1)
        (subst (λ last. GoesOn n k.0 actor last told b) (sym here.0) k.3) in
        goes_on_once n h.0 actor h.1 given told a b (starts_sound s actor (call_for asked) h.1 h.0 sound h.2) h.3 onward

    line_same : (actor : ℕ) (operation : Operation) (given told : Stepped) (out other : List ℕ) (a b : ScriptState) →
        (given ≡ told) × (a ≡ b) →
        out ≡ printed a.world actor operation given → other ≡ printed b.world actor operation told →
        (out ≡ other) × (a ≡ b)
    line_same actor operation given told out other a b same e f = (
      e
          ∙ (ap (λ (m : ScriptState). printed m.world actor operation given) same.1
          ∙ (ap (printed b.world actor operation) same.0 ∙ sym f)),
      same.1,
    )

    start_once : (s : ScriptState) (actor : ℕ) (asked : SystemCall) (goes : Bool) (o : Option Operation)
        (out other : List ℕ)
        (a b : ScriptState) → IsSound s.world →
        StartRuns s actor asked goes o out a → StartRuns s actor asked goes o other b → (out ≡ other) × (a ≡ b)
    start_once s actor asked goes (Some operation) out other a b sound h k = (h.0 ∙ sym k.0, h.1 ∙ sym k.1)
    start_once s actor asked goes None out other a b sound h k =
        line_same actor (operation_of asked) h.0 k.0 out other a b
        (call_once s actor asked goes h.0 k.0 a b sound h.1 k.1) h.2 k.2

    steps_once : (n : ℕ) (s : ScriptState) (actor : ℕ) (o : Option Operation) (out other : List ℕ) (a b : ScriptState) →
        IsSound s.world →
        StepsRun n s actor o out a → StepsRun n s actor o other b → (out ≡ other) × (a ≡ b)
    steps_once n s actor None out other a b sound h k = (h.0 ∙ sym k.0, h.1 ∙ sym k.1)
    steps_once n s actor (Some operation) out other a b sound h k =
        line_same actor operation h.0 k.0 out other a b
        (goes_on_once n s actor stepped.Nothing h.0 k.0 a b sound h.1 k.1) h.2 k.2

    steps_sound : (n : ℕ) (s : ScriptState) (actor : ℕ) (o : Option Operation) (out : List ℕ) (a : ScriptState) →
        IsSound s.world →
        StepsRun n s actor o out a → IsSound a.world
    steps_sound n s actor None out a sound h = subst (λ (m : ScriptState). IsSound m.world) (sym h.1) sound
    steps_sound n s actor (Some operation) out a sound h = goes_on_sound n s actor stepped.Nothing h.0 a sound h.1

    one_once : (s : ScriptState) (actor : ℕ) (o : Option Operation) (out other : List ℕ) (a b : ScriptState) →
        IsSound s.world →
        OneRuns s actor o out a → OneRuns s actor o other b → (out ≡ other) × (a ≡ b)
    one_once s actor None out other a b sound h k = (h.0 ∙ sym k.0, h.1 ∙ sym k.1)
    one_once s actor (Some operation) out other a b sound h k =
        steps_once 16 s actor (Some operation) out other a b sound h k

    one_sound : (s : ScriptState) (actor : ℕ) (o : Option Operation) (out : List ℕ) (a : ScriptState) →
        IsSound s.world →
        OneRuns s actor o out a → IsSound a.world
    one_sound s actor None out a sound h = subst (λ (m : ScriptState). IsSound m.world) (sym h.1) sound
    one_sound s actor (Some operation) out a sound h = steps_sound 16 s actor (Some operation) out a sound h

    all_once : (actors : List ℕ) (s : ScriptState) (out other : List ℕ) (a b : ScriptState) → IsSound s.world →
        AllRun actors s out a → AllRun actors s other b → (out ≡ other) × (a ≡ b)
    all_once [] s out other a b sound h k = (h.0 ∙ sym k.0, h.1 ∙ sym k.1)
    all_once (actor ∷ actors) s out other a b sound h k =
        let here = one_once s actor (pending (actor_at s.world.actors actor)) h.1 k.1 h.0 k.0 sound h.3 k.3 in
        let onward : AllRun actors h.0 k.2 b = subst (λ m. AllRun actors m k.2 b) (sym here.1) k.4 in
        let more = all_once actors h.0 h.2 k.2 a b
        (one_sound s actor (pending (actor_at s.world.actors actor)) h.1 h.0 sound h.3) h.4 onward in
        (h.5 ∙ (ap (λ l. l ++ h.2) here.0 ∙ (ap (λ l. k.1 ++ l) more.0 ∙ sym k.5)), more.1)

    all_sound : (actors : List ℕ) (s : ScriptState) (out : List ℕ) (a : ScriptState) → IsSound s.world →
        AllRun actors s out a →
        IsSound a.world
    all_sound [] s out a sound h = subst (λ (m : ScriptState). IsSound m.world) (sym h.1) sound
    all_sound (actor ∷ actors) s out a sound h =
        all_sound actors h.0 h.2 a (one_sound s actor (pending (actor_at s.world.actors actor)) h.1 h.0 sound h.3) h.4

    act_once : (s : ScriptState) (said : Said) (out other : List ℕ) (a b : ScriptState) → IsSound s.world →
        LineActs s said true out a → LineActs s said true other b → (out ≡ other) × (a ≡ b)
    act_once s Nothing out other a b sound h k = (h.1 ∙ sym k.1, h.2 ∙ sym k.2)
    act_once s (GivesBlocks blocks) out other a b sound h k = (h.1 ∙ sym k.1, h.2 ∙ sym k.2)
    act_once s MakesPreset out other a b sound h k =
        (h.1 ∙ sym k.1, h.2 ∙ (ap (in_world s) (preset s.world a.world b.world true true h.0 k.0).1 ∙ sym k.2))
    act_once s (GivesCred actor cred) out other a b sound h k = (h.1 ∙ sym k.1, h.2 ∙ sym k.2)
    act_once s (GivesMoment moment) out other a b sound h k = (h.1 ∙ sym k.1, h.2 ∙ sym k.2)
    act_once s (Starts actor asked goes) out other a b sound h k =
        start_once s actor asked goes (pending (actor_at s.world.actors actor)) out other a b sound h.1 k.1
    act_once s (StepsOnce actor) out other a b sound h k =
        steps_once 1 s actor (pending (actor_at s.world.actors actor)) out other a b sound h.1 k.1
    act_once s (Continues actor) out other a b sound h k =
        steps_once 16 s actor (pending (actor_at s.world.actors actor)) out other a b sound h.1 k.1
    act_once s AllContinue out other a b sound h k = all_once (range_with_len 1 16) s out other a b sound h.1 k.1

    line_once : (s : ScriptState) (said : Said) (out other : List ℕ) (a b : ScriptState) → IsSound s.world →
        LineRuns s said true out a → LineRuns s said true other b → (out ≡ other) × (a ≡ b)
    line_once s Nothing out other a b sound h k = act_once s Nothing out other a b sound h k
    line_once s (GivesBlocks blocks) out other a b sound h k = (h.0 ∙ sym k.0, h.1.1 ∙ sym k.1.1)
    line_once s MakesPreset out other a b sound h k =
        act_once (begun_script_state s) MakesPreset out other a b sound h k
    line_once s (GivesCred actor cred) out other a b sound h k =
        act_once (begun_script_state s) (GivesCred actor cred) out other a b sound h k
    line_once s (GivesMoment moment) out other a b sound h k =
        act_once (begun_script_state s) (GivesMoment moment) out other a b sound h k
    line_once s (Starts actor asked goes) out other a b sound h k =
        act_once (begun_script_state s) (Starts actor asked goes) out other a b sound h k
    line_once s (StepsOnce actor) out other a b sound h k =
        act_once (begun_script_state s) (StepsOnce actor) out other a b sound h k
    line_once s (Continues actor) out other a b sound h k =
        act_once (begun_script_state s) (Continues actor) out other a b sound h k
    line_once s AllContinue out other a b sound h k =
        act_once (begun_script_state s) AllContinue out other a b sound h k

    start_sound : (s : ScriptState) (actor : ℕ) (asked : SystemCall) (goes : Bool) (o : Option Operation) (out : List ℕ)
        (a : ScriptState) → IsSound s.world → StartRuns s actor asked goes o out a → IsSound a.world
    start_sound s actor asked goes (Some operation) out a sound h =
        subst (λ (m : ScriptState). IsSound m.world) (sym h.1) sound
    start_sound s actor asked goes None out a sound h =
        goes_on_sound (most_steps goes) h.1.0 actor h.1.1 h.0 a
        (starts_sound s actor (call_for asked) h.1.1 h.1.0 sound h.1.2) h.1.3

    act_sound : (s : ScriptState) (said : Said) (out : List ℕ) (a : ScriptState) → IsSound s.world →
        LineActs s said true out a →
        IsSound a.world
    act_sound s Nothing out a sound h = subst (λ (m : ScriptState). IsSound m.world) (sym h.2) sound
    act_sound s (GivesBlocks blocks) out a sound h = subst (λ (m : ScriptState). IsSound m.world) (sym h.2) sound
    act_sound s MakesPreset out a sound h = stays s.world a.world Preset [] sound (refl, (true, h.0))
    act_sound s (GivesCred actor cred) out a sound h = subst (λ (m : ScriptState). IsSound m.world) (sym h.2) sound
    act_sound s (GivesMoment moment) out a sound h = subst (λ (m : ScriptState). IsSound m.world) (sym h.2) sound
    act_sound s (Starts actor asked goes) out a sound h =
        start_sound s actor asked goes (pending (actor_at s.world.actors actor)) out a sound h.1
    act_sound s (StepsOnce actor) out a sound h =
        steps_sound 1 s actor (pending (actor_at s.world.actors actor)) out a sound h.1
    act_sound s (Continues actor) out a sound h =
        steps_sound 16 s actor (pending (actor_at s.world.actors actor)) out a sound h.1
    act_sound s AllContinue out a sound h = all_sound (range_with_len 1 16) s out a sound h.1

    pool_sound : (s : ScriptState) (blocks : ℕ) (fresh : Bool) (a : ScriptState) → IsSound s.world →
        a ≡ (if fresh then in_world (begun_script_state s) (opening_world blocks) else s) → IsSound a.world
    pool_sound s blocks true a sound e =
        subst (λ (m : ScriptState). IsSound m.world) (sym e) (opening_sound openings blocks)
    pool_sound s blocks false a sound e = subst (λ (m : ScriptState). IsSound m.world) (sym e) sound

    line_sound : (s : ScriptState) (said : Said) (out : List ℕ) (a : ScriptState) → IsSound s.world →
        LineRuns s said true out a →
        IsSound a.world
    line_sound s Nothing out a sound h = act_sound s Nothing out a sound h
    line_sound s (GivesBlocks blocks) out a sound h = pool_sound s blocks s.fresh a sound h.1.1
    line_sound s MakesPreset out a sound h = act_sound (begun_script_state s) MakesPreset out a sound h
    line_sound s (GivesCred actor cred) out a sound h =
        act_sound (begun_script_state s) (GivesCred actor cred) out a sound h
    line_sound s (GivesMoment moment) out a sound h =
        act_sound (begun_script_state s) (GivesMoment moment) out a sound h
    line_sound s (Starts actor asked goes) out a sound h =
        act_sound (begun_script_state s) (Starts actor asked goes) out a sound h
    line_sound s (StepsOnce actor) out a sound h = act_sound (begun_script_state s) (StepsOnce actor) out a sound h
    line_sound s (Continues actor) out a sound h = act_sound (begun_script_state s) (Continues actor) out a sound h
    line_sound s AllContinue out a sound h = act_sound (begun_script_state s) AllContinue out a sound h

    does_once : (s : ScriptState) (line out other : List ℕ) (a b : ScriptState) → IsSound s.world →
        LineDoes s line out a →
        LineDoes s line other b → (out ≡ other) × (a ≡ b)
    does_once s line out other a b sound h k =
        let same : k.0 ≡ h.0 = saying line k.0 h.0 k.1 h.1 in
        line_once s h.0 out other a b sound h.2 (subst (λ said. LineRuns s said true other b) same k.2)

    does_sound : (s : ScriptState) (line out : List ℕ) (a : ScriptState) → IsSound s.world → LineDoes s line out a →
        IsSound a.world
    does_sound s line out a sound h = line_sound s h.0 out a sound h.2

    -- Another run passes over the same line, and continues from the same script state.
    record OnSame (after : ScriptState) (n : ℕ) (rest out other : List ℕ) (end : Ending) : Type 0 where
      behind : List ℕ
      prints : Prints after (n + 1) rest behind end
      whole : other ≡ out ++ behind

    goes_same : (s : ScriptState) (n : ℕ) (text line rest out : List ℕ) (after : ScriptState) (other : List ℕ)
        (end : Ending) →
        IsSound s.world → n ≤ 1000000 → BeginsWith text line rest → LineDoes s line out after →
        Opens s n text other end → OnSame after n rest out other end
    goes_same s n text line rest out after other end sound few begins does (inl k) =
        absurd (omega (arith, begins_filled text line rest begins, ap length k.0))
    goes_same s n text line rest out after other end sound few begins does (inr (inl k)) =
        let many = k.0 in absurd (omega (arith, many, few))
    goes_same s n text line rest out after other end sound few begins does (inr (inr (inl k))) =
        absurd (bad_or_does s text line rest out after k.1 begins does)
    goes_same s n text line rest out after other end sound few begins does (inr (inr (inr k))) =
        let parts = begins_once text k.line line k.rest rest k.begins begins in
        let did = does_once s line out k.first after k.after sound does
        (subst (λ l. LineDoes s l k.first k.after) parts.0 k.does) in
        record {
          behind = k.more;
          prints = subst (λ m. Prints m (n + 1) rest k.more end) (sym did.1)
              (subst (λ l. Prints k.after (n + 1) l k.more end) parts.1 k.prints);
          whole = k.whole ∙ ap (λ l. l ++ k.more) (sym did.0);
        }

    agrees : (s : ScriptState) (n : ℕ) (text out other : List ℕ) (ending end : Ending) → IsSound s.world →
        Prints s n text out ending → Prints s n text other end → (out ≡ other) × (ending ≡ end)
    agrees s n text out other ending end sound (Ends _ _) k =
        end_agrees s n [] other end refl (opens s n [] other end k)
    agrees s n text out other ending end sound (Exceeds _ _ _ many some) k =
        over_agrees s n text other end many some (opens s n text other end k)
    agrees s n text out other ending end sound (Fails _ _ _ line rest few begins bad) k =
        bad_agrees s n text other end few (line, rest, begins, bad) (opens s n text other end k)
    agrees s n text out other ending end sound (Goes _ _ _ line rest first after more _ few begins does p) k =
        let on =
        goes_same s n text line rest first after other end sound few begins does (opens s n text other end k) in
        let same =
        agrees after (n + 1) rest more on.behind ending end (does_sound s line first after sound does) p on.prints in
        (ap (λ l. first ++ l) same.0 ∙ sym on.whole, same.1)

    -- What was printed before a line is a prefix of all that is printed.
    prefix_of : (s : ScriptState) (n : ℕ) (text out left other : List ℕ) (there : ScriptState) (end : Ending) →
        IsSound s.world →
        PrintsSofar s n text out left there → Prints s n text other end → IsPrefixOf out other
    prefix_of s n text out left other there end sound (Here _ _ _) k = (other, refl)
    prefix_of s n text out left other there end sound (Past _ _ _ line rest first after more _ _ few begins does p) k =
        let on =
        goes_same s n text line rest first after other end sound few begins does (opens s n text other end k) in
        let behind = prefix_of after (n + 1) rest more left on.behind there end
        (does_sound s line first after sound does) p on.prints in
        (behind.0, on.whole ∙ (ap (λ l. first ++ l) behind.1 ∙ sym (append_assoc first more behind.0)))

pub one_text : OneSplit → OneSaying → OneStep → OnePreset → StaysSound → OpensSound → OneText
one_text split saying one preset stays openings = record {
  sound = opening_sound openings 1024;
  once = λ s n text out other ending end sound h k.
      agrees split saying one preset stays openings s n text out other ending end sound h k;
  sofar = λ s n text out left other there end sound h k.
      prefix_of split saying one preset stays openings s n text out left other there end sound h k;
}
