-- A list that leads to a world is extended by one more transition.
use Rattle.std.proofs.Common.{◌≡◌, ◌≤◌, ◌⊎◌, inl, ℕ, ◌+◌, cond, zero-add, Bool, List, [], ◌∷◌, ◌++◌, refl, sym, ap}
use Rattle.std.proofs.Common.{subst, ◌∙◌, append_assoc, map}
use Rattle.std.proofs.lemmas.List.{append-nil, map-append}
use Rattle.std.proofs.lemmas.List.Sums.{sum_by-append}
use Rattle.sysv_model.specs.declared.limits.TheConstants.{WORN}
use Rattle.sysv_core.specs.declared.event.Event.{Event}
use Rattle.sysv_core.specs.declared.event.Event.TheVariants.{Start, Step}
use Rattle.sysv_core.specs.declared.event.Answer.{Answer}
use Rattle.sysv_core.specs.declared.event.Stepped.{Stepped}
use Rattle.sysv_core.specs.declared.event.Stepped.TheVariants as stepped
use Rattle.sysv_core.specs.World.{World, Opening, Response, Transition, Preset, opening, Makes}
use Rattle.sysv_core.specs.Run.{Leads}
use Rattle.sysv_core.specs.Seen.{Seen, Represents, transition_of, Tells, TellAll, Gives, PresetsSeen, StepsSeen}
use Rattle.sysv_steps.specs.Answered.{is_got}
use Rattle.sysv_core.specs.Tallying.{messages_given, messages_in}
use Rattle.sysv_core.specs.Headline.{StandsWithEvent, RunsOn, LawsHold, EveryRunObeys}

pub leads_more : (w : World) (xs : List Transition) (x : Transition) (responses more : List Response)
    (mid after : World) →
    Leads w xs responses mid → Makes mid x more after → Leads w (xs ++ x ∷ []) (responses ++ more) after
leads_more w [] x responses more mid after l g =
    let none : responses ≡ [] = l.0 in
    let here = subst (λ (v : World). Makes v x more after) l.1 g in
    (after, more, [], here, (refl, refl), ap (λ gs. gs ++ more) none ∙ sym (append-nil more))
leads_more w (y ∷ xs) x responses more mid after l g =
    let rest = leads_more l.0 xs x l.2 more mid after l.4 g in
    (l.0, l.1, l.2 ++ more, l.3, rest, ap (λ gs. gs ++ more) l.5 ∙ append_assoc l.1 l.2 more)

pub stands_preset : (o : Opening) (es : List Transition) (responses : List Response) (old new : Seen) (made : Bool) →
    Represents o es responses old → PresetsSeen old made new → Represents o (es ++ Preset ∷ []) responses new
stands_preset o es responses old new made s goes =
    let g = goes s.world s.sight in
    record {
      world = g.0;
      led = subst (λ gs. Leads (opening o) (es ++ Preset ∷ []) gs g.0) (append-nil responses)
          (leads_more (opening o) es Preset responses [] s.world g.0 s.led (refl, (made, g.1)));
      sight = g.2;
    }

pub stands_step : (old new : Seen) (event : Event) (result : Stepped) → StepsSeen old event result new →
    StandsWithEvent old event result new
stands_step old new event result goes = λ o es responses s.
    let g = goes s.world s.sight in (
      g.1.0,
      g.1.2,
      record {
        world = g.0;
        led = leads_more (opening o) es (transition_of event) responses g.1.0 s.world g.0 s.led g.1.1;
        sight = g.2;
      },
    )

-- An event that finds the world worn out.
pub worn_makes : (w : World) (event : Event) → WORN ≤ w.steps → Makes w (transition_of event) [] w
worn_makes w (Start actor cred call) worn = inl (worn, (refl, refl))
worn_makes w (Step actor now) worn = inl (worn, (refl, refl))

pub worn_step : (seen : Seen) (event : Event) → WORN ≤ seen.steps → StepsSeen seen event stepped.Worn seen
worn_step seen event worn = λ w s.
    let old : WORN ≤ w.steps = subst (λ n. WORN ≤ n) (sym s.steps) worn in
    (w, ([], worn_makes w event old, (old, refl)), s)

-- The messages that one more answer returns.
pub messages_more : (answers : List Answer) (a : Answer) →
    messages_in (answers ++ a ∷ []) ≡ messages_in answers + messages_given (stepped.Answer a)
messages_more answers a =
    let one : Answer → ℕ = λ x. cond (is_got x.result) 1 0 in
    sum_by-append one answers (a ∷ []) ∙ ap (λ n. messages_in answers + n) (zero-add _)

-- From one list for which a world stood to that list and the events since then, with their answers.
pub record Pending (start now : Seen) (done : List Event) (answers : List Answer) : Type 0 where
  pub goes : (o : Opening) (es : List Transition) (responses : List Response) → Represents o es responses start →
      (more : List Response) × TellAll more answers
      × Represents o (es ++ map transition_of done) (responses ++ more) now

pub pending : (start : Seen) → Pending start start [] []
pending start = record {
  goes = λ o es responses s. (
    [],
    tt,
    subst (λ gs. Represents o (es ++ []) gs start) (sym (append-nil responses))
        (subst (λ xs. Represents o xs responses start) (sym (append-nil es)) s),
  );
}

one_told : (responses : List Response) (answers : List Answer) (g : Response) (a : Answer) → TellAll responses answers →
    Tells g a →
    TellAll (responses ++ g ∷ []) (answers ++ a ∷ [])
one_told [] [] g a all one = (one, tt)
one_told [] (b ∷ answers) g a all one = absurd all
one_told (h ∷ responses) [] g a all one = absurd all
one_told (h ∷ responses) (b ∷ answers) g a all one = (all.0, one_told responses answers g a all.1 one)

-- The result of an event, as answers.
abbrev pub answers_in : Stepped → List Answer
answers_in (stepped.Answer answer) = answer ∷ []
answers_in stepped.Nothing = []
answers_in stepped.Worn = []

more_told : (w : World) (responses more : List Response) (answers : List Answer) (result : Stepped) →
    TellAll responses answers →
    Gives w more result → TellAll (responses ++ more) (answers ++ answers_in result)
more_told w responses more answers (stepped.Answer a) all g =
    subst (λ xs. TellAll (responses ++ xs) (answers ++ a ∷ [])) (sym g.1.1)
    (one_told responses answers g.1.0 a all g.1.2)
more_told w responses more answers stepped.Nothing all g =
    subst (λ xs. TellAll (responses ++ xs) (answers ++ [])) (sym g.1)
    (subst (λ xs. TellAll xs (answers ++ [])) (sym (append-nil responses))
    (subst (TellAll responses) (sym (append-nil answers)) all))
more_told w responses more answers stepped.Worn all g =
    subst (λ xs. TellAll (responses ++ xs) (answers ++ [])) (sym g.1)
    (subst (λ xs. TellAll xs (answers ++ [])) (sym (append-nil responses))
    (subst (TellAll responses) (sym (append-nil answers)) all))

pub goes_on : (start now new : Seen) (done : List Event) (answers : List Answer) (event : Event) (result : Stepped) →
    Pending start now done answers → StandsWithEvent now event result new →
    Pending start new (done ++ event ∷ []) (answers ++ answers_in result)
goes_on start now new done answers event result u step = record {
  goes = λ o es responses s.
      let one = u.goes o es responses s in
      let two = step o (es ++ map transition_of done) (responses ++ one.0) one.2 in (
        one.0 ++ two.0,
        more_told one.2.world one.0 two.0 answers result one.1 two.1,
        subst (λ gs. Represents o (es ++ map transition_of (done ++ event ∷ [])) gs new)
            (append_assoc responses one.0 two.0)
            (subst (λ xs. Represents o xs ((responses ++ one.0) ++ two.0) new)
            (append_assoc es (map transition_of done) (transition_of event ∷ [])
            ∙ ap (λ xs. es ++ xs) (sym (map-append transition_of done (event ∷ [])))) two.2),
      );
}

pub runs_on : (start new : Seen) (events done left : List Event) (answers : List Answer) →
    Pending start new done answers → events ≡ done ++ left → (left ≡ []) ⊎ (WORN ≤ new.steps) →
    (o : Opening) (es : List Transition) (responses : List Response) → Represents o es responses start →
    RunsOn o es responses events answers new
runs_on start new events done left answers u split worn o es responses s =
    let g = u.goes o es responses s in
    record { done = done; left = left; more = g.0; split = split; worn = worn; told = g.1; stands = g.2 }

-- The world of each list obeys the laws.
pub laws_hold : EveryRunObeys → (seen : Seen) → LawsHold seen
laws_hold obeys seen = λ o list responses s. obeys o list responses s.world s.led
