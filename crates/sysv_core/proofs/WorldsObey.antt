-- Every list of transitions leads only to worlds that obey the laws.
use Rattle.std.proofs.Common.{◌≡◌, ◌≢◌, ℕ, zero, suc, ◌+◌, ◌<◌, ◌≤◌, ◌⊎◌, inl, inr, Bool, true, false, cond, List, []}
use Rattle.std.proofs.Common.{◌∷◌, ◌++◌, Option, None, Some, refl, sym, ap, subst, ◌∙◌, arith, slice_get, slice_set}
use Rattle.std.proofs.Common.{append_assoc, map}
use Rattle.std.specs.List.{All, AllPairs, Contains, filter}
use Rattle.std.proofs.Math.ListN.{get_or}
use Rattle.std.proofs.lemmas.List.{append-nil}
use Rattle.std.proofs.lemmas.List.Elements.{All-weaker, All-push, All-contains_itself, All-contains, Contains-get_or}
use Rattle.std.proofs.lemmas.List.Elements.{Contains-append_left, Contains-push, Contains-push_cases}
use Rattle.std.proofs.lemmas.List.Quantifiers.{all_pairs_push}
use Rattle.std.proofs.lemmas.Bool.{cases_Bool}
use Rattle.sysv_model.specs.History.{Who, Actor, History}
use Rattle.sysv_model.specs.Pool.{PoolHistory}
use Rattle.sysv_model.specs.Turn.{Op, Turn, slot_history, registry_history, pool_history, is_same, ops_of}
use Rattle.sysv_pool.specs.LegalReply.{IsLegalHistory as IsLegalPoolHistory}
use Rattle.sysv_pool.specs.PoolLaw.{PoolLaw}
use Rattle.sysv_queue.specs.LegalReply.{IsLegalHistory}
use Rattle.sysv_queue.specs.QueueLaw.{QueueLaw}
use Rattle.sysv_queue.specs.StaysRight.{NoMatchStays, FullStays, FullStaysForLook, CountsNeverFall}
use Rattle.sysv_queue.specs.ForGood.{RemovedForGood}
use Rattle.sysv_keys.specs.RegistryLaw.{RegistryLaw}
use Rattle.sysv_objects.specs.LegalOp.{AreLegal}
use Rattle.sysv_steps.specs.Call.{kind_of}
use Rattle.sysv_steps.specs.State.{Phase, Ending, State, Goes, Waits, Over}
use Rattle.sysv_steps.specs.Resume.{awaited, resume}
use Rattle.sysv_steps.specs.Played.{Plays, begins, steps, resumes}
use Rattle.sysv_steps.specs.AsksFor.{EachOpIsAskedFor}
use Rattle.sysv_steps.specs.Answers.{IsRightAnswer, EachAnswerIsRight}
use Rattle.sysv_steps.specs.Effects.{effects, EachHasOneEffect}
use Rattle.sysv_steps.specs.HoldsAsked.{EachHoldsWhatItWasAsked}
use Rattle.sysv_steps.specs.WaitsFor.{EachWaitsForItsRefusal}
use Rattle.sysv_steps.specs.AfterRemoval.{EachIsToldOfRemoval}
use Rattle.sysv_core.specs.World.{World, Opening, Invocation, Doing, Response, Transition, opening, doing_in}
use Rattle.sysv_core.specs.World.{response_in}
use Rattle.sysv_core.specs.World.{StaysWith, starting, begun, Turns, value_of, preset_who, preset_begin, preset_install}
use Rattle.sysv_core.specs.World.{preset_settle, with_preset_turns, with_preset}
use Rattle.sysv_core.specs.Run.{Leads}
use Rattle.sysv_core.specs.AnswerLaw.{endings_of, stands_in, standing_of, ended, Outcome, IsOfPreset, IsMade}
use Rattle.sysv_core.specs.AnswerLaw.{AsksAsItWasAsked}
use Rattle.sysv_core.specs.Headline.{IsLawful, Obeys}
use Rattle.sysv_core.specs.Conserved.{AreConserved}
use Rattle.sysv_core.specs.Sound.{IsSound, StaysSound}
use Rattle.sysv_core.proofs.Histories.{turn_of, begun_turns, installed_turns}
use Rattle.sysv_core.proofs.SoundStays.{opening_sound, does, moved, other}
use Rattle.sysv_core.proofs.WaitsForBlocks.{are_short}
use Rattle.sysv_core.proofs.SendIsWoken.{AllWoken, move_woken, opening_woken, are_to_be_woken}
use Rattle.sysv_core.proofs.ParkedRightly.{parked_rightly}
use Rattle.sysv_core.proofs.Moves.{Move, stood, began, turned, awoke, preset_made, moves}
use Rattle.sysv_core.proofs.Lifetime.{jobs_of, resumed_none, begun_none}
use Rattle.sysv_core.proofs.LifetimeGoesOn.{EachObeys, Lives, lives_turn, lives_stand, opening_lives}
use Rattle.sysv_core.proofs.LifetimeGoesOn.{preset_lives}
use Rattle.sysv_core.proofs.LifetimeLaws.{are_tended, good_of, settled_once_installed}
use Rattle.sysv_core.proofs.ToldAfterRemoval.{told_so}
use Rattle.sysv_core.proofs.Lists.{none_busy}
use Rattle.sysv_core.proofs.PartsOfOneCall.{same_who, same_itself, not_same, own_op, other_op}
use Rattle.sysv_core.proofs.PartsOfOneCall.{own_endings, other_endings, IsIn, at_actor, own_standing, other_standing}

-- The call was started by an actor before this step number.
abbrev pub IsBefore : ℕ → Invocation → Type 0
IsBefore n call = (place : ℕ) × (start : ℕ) × (call.who ≡ Actor (suc place) start) × (start < n)

-- The turn is one of those that need no call, or it is made by a call that was started.
abbrev pub HasMaker : (Turn → Type 0) → List Invocation → Turn → Type 0
HasMaker P calls t = P t ⊎ ((call : Invocation) × Contains calls call × (t.who ≡ call.who))

-- The actor at that place is in a call that it started.
abbrev pub IsOwn : List Invocation → ℕ → Doing → Type 0
IsOwn calls place d = Contains calls d.call × ((start : ℕ) × (d.call.who ≡ Actor (suc place) start))

abbrev pub AreOwn : List Invocation → List (Option Doing) → Type 0
AreOwn calls actors = (place : ℕ) (d : Doing) → slice_get actors place ≡ Some (Some d) → IsOwn calls place d

-- What a run keeps, whose turns need no call where P holds.
pub record Inv (P : Turn → Type 0) (w : World) (responses : List Response) : Type 0 where
  pub sound : IsSound w
  pub lifetime : Lives w.turns w.actors
  pub outcomes : (c : Invocation) → Contains w.calls c → Outcome w responses c
  pub before : (c : Invocation) → Contains w.calls c → IsBefore w.steps c
  pub apart : AllPairs (λ (c d : Invocation). c.who ≢ d.who) w.calls
  pub named : (c d : Invocation) → Contains w.calls c → Contains w.calls d → c.who ≡ d.who → c ≡ d
  pub made : All (HasMaker P w.calls) w.turns
  pub known : All (λ (g : Response). Contains w.calls g.call) responses
  pub doing : AreOwn w.calls w.actors

-- ---- one call moves

-- The world after the call came to this state, with these turns and calls.
abbrev pub went : World → List Turn → List Invocation → ℕ → (call : Invocation) → State (kind_of call.asked) → World
went w turns calls place call state = record {
  turns = turns;
  calls = calls;
  actors = slice_set w.actors place (doing_in call state);
  steps = w.steps + 1;
  blocks = w.blocks;
  generation = w.generation;
}

-- After these turns the call is in that state, and had no ending.
pub record Stands (turns : List Turn) (responses : List Response) (call : Invocation)
    (state : State (kind_of call.asked)) : Type 0 where
  pub plays : Plays (begun call) (ops_of call.who turns) state
  pub quiet : endings_of call.who responses ≡ []

-- The turns of all other calls are the same.
abbrev pub OthersStay : Who → List Turn → List Turn → Type 0
OthersStay who turns more = (other : Who) → is_same other who ≡ false → ops_of other more ≡ ops_of other turns

module _ (w : World) (responses : List Response) (turns : List Turn) (calls : List Invocation) (place : ℕ)
    (was : Option Doing) (call : Invocation) (state : State (kind_of call.asked))
    (there : slice_get w.actors place ≡ Some was) (within : IsIn call.who was)
    (stay : OthersStay call.who w.turns turns) where
  abbrev then_world : World
  then_world = went w turns calls place call state

  other_outcome : (c : Invocation) → is_same c.who call.who ≡ false → Outcome w responses c →
      Outcome then_world (responses ++ response_in call state) c
  other_outcome c apart f = record {
    state = f.state;
    plays = subst (λ ds. Plays (begun c) ds f.state) (sym (stay c.who apart)) f.plays;
    answered = other_endings c.who responses call state apart ∙ f.answered;
    stands = other_standing c.who w.actors place was call state apart there within ∙ f.stands;
  }

  own_outcome : (start : ℕ) → call.who ≡ Actor (suc place) start → Stands turns responses call state →
      Outcome then_world (responses ++ response_in call state) call
  own_outcome start who s = record {
    state = state;
    plays = s.plays;
    answered = own_endings responses call state (same_itself place start call.who who) s.quiet;
    stands = own_standing w.actors place start was call state who there;
  }

  -- An actor is in a call that it started.
  now_doing : (start : ℕ) → call.who ≡ Actor (suc place) start → Contains calls call →
      ((c : Invocation) → Contains w.calls c → Contains calls c) → AreOwn w.calls w.actors →
      AreOwn calls (slice_set w.actors place (doing_in call state))
  now_doing start who has more own = λ p d at. elim (does w.actors place was call state p d there at) [
    | moved same is ↦ (
      subst (λ (x : Doing). Contains calls x.call) (sym is) has,
      (start, ap (λ (x : Doing). x.call.who) is ∙ (who ∙ ap (λ n. Actor (suc n) start) same)),
    )
    | other old ↦ let mine = own p d old in (more d.call mine.0, mine.1)
  ]

known_more : (calls : List Invocation) (responses : List Response) (call : Invocation)
    (state : State (kind_of call.asked)) →
    Contains calls call →
    All (λ (g : Response). Contains calls g.call) responses →
    All (λ (g : Response). Contains calls g.call) (responses ++ response_in call state)
known_more calls responses call (Goes phase) has all =
    subst (All (λ (g : Response). Contains calls g.call)) (sym (append-nil responses)) all
known_more calls responses call (Waits wait) has all =
    subst (All (λ (g : Response). Contains calls g.call)) (sym (append-nil responses)) all
known_more calls responses call (Over ending) has all =
    All-push (λ (g : Response). Contains calls g.call) responses (record { call = call; ending = ending }) all has

-- ---- a call that is pending goes on

sooner : (n : ℕ) (c : Invocation) → IsBefore n c → IsBefore (n + 1) c
sooner n c b = (b.0, b.1, b.2, omega (arith, b.3))

-- If an actor is in a call, the call is in that state and has no ending.
module _ {P : Turn → Type 0} (w : World) (responses : List Response) (i : Inv P w responses) (place : ℕ) (d : Doing)
    (there : slice_get w.actors place ≡ Some (Some d)) where
  has_it : Contains w.calls d.call
  has_it = (i.doing place d there).0

  its_name : (start : ℕ) × (d.call.who ≡ Actor (suc place) start)
  its_name = (i.doing place d there).1

  standing_is : (o : Option (Option Doing)) → o ≡ Some (Some d) → stands_in d.call.who o ≡ Some d
  standing_is o e = ap (stands_in d.call.who) e
      ∙ ap (λ b. cond b (Some d) None) (same_itself place its_name.0 d.call.who its_name.1)

  where_it_stands : standing_of d.call.who w.actors ≡ Some d
  where_it_stands =
      at_actor d.call.who place its_name.0 w.actors its_name.1 ∙ standing_is (slice_get w.actors place) there

  its_state : (s : State (kind_of d.call.asked)) → doing_in d.call s ≡ Some d →
      (d ≡ record { call = d.call; state = s }) × (ended s ≡ [])
  its_state (Goes phase) e = (cc, refl)
  its_state (Waits wait) e = (cc, refl)
  its_state (Over ending) e = absurd cc

  pub stands_there : Stands w.turns responses d.call d.state
  stands_there =
      let f = i.outcomes d.call has_it in
      let s = its_state f.state (sym f.stands ∙ where_it_stands) in
      record {
        plays = subst (λ (x : Doing). Plays (begun x.call) (ops_of x.call.who w.turns) x.state) (sym s.0) f.plays;
        quiet = f.answered ∙ s.1;
      }

  pub goes_on : (turns : List Turn) (state : State (kind_of d.call.asked)) →
      IsSound (went w turns w.calls place d.call state) →
      Lives turns (slice_set w.actors place (doing_in d.call state)) → OthersStay d.call.who w.turns turns →
      Stands turns responses d.call state → All (HasMaker P w.calls) turns →
      Inv P (went w turns w.calls place d.call state) (responses ++ response_in d.call state)
  goes_on turns state sound lifetime stay s made = record {
    sound = sound;
    lifetime = lifetime;
    outcomes = λ c has. elim (cases_Bool (is_same c.who d.call.who)) [
      | inl same ↦
          let one : d.call ≡ c = i.named d.call c has_it has (sym (same_who c.who d.call.who same)) in
          subst (Outcome _ (responses ++ response_in d.call state)) one
          (own_outcome w responses turns w.calls place (Some d) d.call state there refl stay its_name.0 its_name.1 s)
      | inr apart ↦
          other_outcome w responses turns w.calls place (Some d) d.call state there refl stay c apart (i.outcomes c has)
    ];
    before = λ c has. sooner w.steps c (i.before c has);
    apart = i.apart;
    named = i.named;
    made = made;
    known = known_more w.calls responses d.call state has_it i.known;
    doing = now_doing w responses turns w.calls place (Some d) d.call state there refl stay its_name.0 its_name.1 has_it
        (λ c has. has) i.doing;
  }

-- ---- the start of a call

number_of : (p q s t : ℕ) → Actor (suc p) s ≡ Actor (suc q) t → s ≡ t
number_of p q s t e = cc

not_new : (n place : ℕ) (c : Invocation) (name : Who) → name ≡ Actor (suc place) n → IsBefore n c → c.who ≢ name
not_new n place c name is b = λ same. omega (arith, b.3, number_of b.0 place b.1 n (sym b.2 ∙ (same ∙ is)))

none_pass : {X : Type 0} (p : X → Bool) (xs : List X) → ((x : X) → Contains xs x → p x ≡ false) → filter p xs ≡ []
none_pass p [] f = refl
none_pass p (x ∷ xs) f = ap (λ b. cond b (x ∷ filter p xs) (filter p xs)) (f x (0, omega arith, refl))
    ∙ none_pass p xs (λ y has. f y (suc has.0, omega (arith, has.1), has.2))

module _ {P : Turn → Type 0} (nobody : (t : Turn) → P t → t.who ≡ preset_who) (w : World) (responses : List Response)
    (i : Inv P w responses) (place : ℕ) (there : slice_get w.actors place ≡ Some None) (call : Invocation)
    (name : call.who ≡ Actor (suc place) w.steps) where
  is_new : (c : Invocation) → Contains w.calls c → c.who ≢ call.who
  is_new c has = not_new w.steps place c call.who name (i.before c has)

  no_preset : call.who ≢ Actor 0 0
  no_preset e = let bad : Actor (suc place) w.steps ≡ Actor 0 0 = sym name ∙ e in cc

  new_turns : (t : Turn) → Contains w.turns t → is_same call.who t.who ≡ false
  new_turns t has = elim (All-contains (HasMaker P w.calls) w.turns t i.made has) [
    | inl none ↦ not_same call.who t.who (λ e. no_preset (e ∙ nobody t none))
    | inr by ↦ not_same call.who t.who (λ e. is_new by.0 by.1 (sym (e ∙ by.2)))
  ]

  stands_new : Stands w.turns responses call (begun call)
  stands_new = record {
    plays = subst (λ ds. Plays (begun call) ds (begun call))
        (sym (ap (map (λ (x : Turn). x.op)) (none_pass (λ (x : Turn). is_same call.who x.who) w.turns new_turns)))
        begins;
    quiet = ap (map (λ (x : Response). x.ending))
        (none_pass (λ (x : Response). is_same call.who x.call.who) responses (λ g has.
        not_same call.who g.call.who
        (λ e.
        is_new g.call (All-contains (λ (x : Response). Contains w.calls x.call) responses g i.known has) (sym e))));
  }

  pub starts : IsSound (went w w.turns (w.calls ++ call ∷ []) place call (begun call)) →
      Inv P (went w w.turns (w.calls ++ call ∷ []) place call (begun call)) (responses ++ response_in call (begun call))
  starts sound =
      let calls = w.calls ++ call ∷ [] in
      let stay : OthersStay call.who w.turns w.turns = λ other apart. refl in
      record {
        sound = sound;
        lifetime = lives_stand w.turns w.actors place None call (begun call) there refl
            (begun_none call.cred call.asked call.released) i.lifetime;
        outcomes = λ c has. elim (Contains-push_cases w.calls call c has) [
          | inl old ↦ other_outcome w responses w.turns calls place None call (begun call) there tt stay c
              (not_same c.who call.who (is_new c old)) (i.outcomes c old)
          | inr same ↦ subst (Outcome _ (responses ++ response_in call (begun call))) same
              (own_outcome w responses w.turns calls place None call (begun call) there tt stay w.steps name stands_new)
        ];
        before = λ c has. elim (Contains-push_cases w.calls call c has) [
          | inl old ↦ sooner w.steps c (i.before c old)
          | inr same ↦ subst (IsBefore (w.steps + 1)) same (place, w.steps, name, omega arith)
        ];
        apart = all_pairs_push (λ (c d : Invocation). c.who ≢ d.who) w.calls call i.apart
            (λ k d low. is_new (get_or w.calls k d) (Contains-get_or w.calls k d low));
        named = λ c d has also same. elim (Contains-push_cases w.calls call c has) [
          | inl old ↦ elim (Contains-push_cases w.calls call d also) [
            | inl older ↦ i.named c d old older same
            | inr new ↦ absurd (is_new c old (same ∙ sym (ap (λ (x : Invocation). x.who) new)))
          ]
          | inr new ↦ elim (Contains-push_cases w.calls call d also) [
            | inl older ↦ absurd (is_new d older (sym same ∙ sym (ap (λ (x : Invocation). x.who) new)))
            | inr newer ↦ sym new ∙ newer
          ]
        ];
        made = All-weaker (HasMaker P w.calls) (HasMaker P calls) (λ t m.
            elim m [ inl p ↦ inl p | inr by ↦ inr (by.0, Contains-append_left w.calls (call ∷ []) by.0 by.1, by.2) ])
            w.turns i.made;
        known = known_more calls responses call (begun call) (Contains-push w.calls call)
            (All-weaker (λ (g : Response). Contains w.calls g.call) (λ (g : Response). Contains calls g.call)
            (λ g has. Contains-append_left w.calls (call ∷ []) g.call has) responses i.known);
        doing = now_doing w responses w.turns calls place None call (begun call) there tt stay w.steps name
            (Contains-push w.calls call)
            (λ c has. Contains-append_left w.calls (call ∷ []) c has) i.doing;
      }

-- ---- answers

abbrev IsAmong : Ending → List Ending → Type 0
IsAmong e [] = ⊥
IsAmong e (x ∷ xs) = (x ≡ e) ⊎ IsAmong e xs

also_before : (who : Who) (e : Ending) (x : Response) (rest : List Response) (b : Bool) →
    IsAmong e (map (λ (g : Response). g.ending) rest) →
    IsAmong e (map (λ (g : Response). g.ending) (cond b (x ∷ rest) rest))
also_before who e x rest true h = inr h
also_before who e x rest false h = h

-- An ending that a call had is among its endings.
given_is : (who : Who) (responses : List Response) (g : Response) → Contains responses g →
    is_same who g.call.who ≡ true →
    IsAmong g.ending (endings_of who responses)
given_is who [] g (k, low, is) same = absurd (omega (arith, low))
given_is who (x ∷ responses) g (zero, low, is) same =
    let here : is_same who x.call.who ≡ true = ap (λ (y : Response). is_same who y.call.who) is ∙ same in
    subst (λ b.
    IsAmong g.ending
    (map (λ (y : Response). y.ending)
    (cond b (x ∷ filter (λ (y : Response). is_same who y.call.who) responses)
    (filter (λ (y : Response). is_same who y.call.who) responses)))) (sym here)
    (inl (ap (λ (y : Response). y.ending) is))
given_is who (x ∷ responses) g (suc k, low, is) same =
    also_before who g.ending x (filter (λ (y : Response). is_same who y.call.who) responses) (is_same who x.call.who)
    (given_is who responses g (k, omega (arith, low), is) same)

-- An ending that a call had is that of its state, and is right.
is_right : EachAnswerIsRight →
    (call : Invocation) (ops : List Op) (state : State (kind_of call.asked)) (ending : Ending) →
    Plays (begun call) ops state → IsAmong ending (ended state) → IsRightAnswer call.asked ops ending
is_right right call ops (Goes phase) ending plays among = absurd among
is_right right call ops (Waits wait) ending plays among = absurd among
is_right right call ops (Over e) ending plays (inl is) =
    subst (IsRightAnswer call.asked ops) is (right call.cred call.asked call.released ops e plays)
is_right right call ops (Over e) ending plays (inr none) = absurd none

pub right_now : {P : Turn → Type 0} (w : World) (responses : List Response) → Inv P w responses → EachAnswerIsRight →
    (g : Response) →
    Contains responses g → IsRightAnswer g.call.asked (ops_of g.call.who w.turns) g.ending
right_now w responses i right g has =
    let one = All-contains (λ (x : Response). Contains w.calls x.call) responses g i.known has in
    let name = i.before g.call one in
    let f = i.outcomes g.call one in
    is_right right g.call (ops_of g.call.who w.turns) f.state g.ending f.plays
    (subst (IsAmong g.ending) f.answered
    (given_is g.call.who responses g has (same_itself name.0 name.1 g.call.who name.2)))

-- ---- the laws that need no waits

-- The laws of the objects and of the calls, from which those of a world follow.
pub record Laws : Type 0 where
  pub queue : (h : History) → IsLegalHistory h → QueueLaw h
  pub registry : EachObeys
  pub pool : (size : ℕ) (h : PoolHistory) → IsLegalPoolHistory size h → PoolLaw size h
  pub for_good : RemovedForGood
  pub asked : EachOpIsAskedFor
  pub right : EachAnswerIsRight
  pub one_effect : EachHasOneEffect
  pub told : EachIsToldOfRemoval

module _ {P : Turn → Type 0} (laws : Laws) (o : Opening) (w : World) (responses : List Response) (i : Inv P w responses)
    (generation : w.generation ≡ o.generation) (blocks : w.blocks ≡ o.blocks) where
  registry_lawful : RegistryLaw o.generation (registry_history w.turns)
  registry_lawful = subst (λ g. RegistryLaw g (registry_history w.turns)) generation
      (laws.registry w.generation (registry_history w.turns) i.sound.legal.registry)

  ops_asked : (c : Invocation) → Contains w.calls c → AsksAsItWasAsked w c
  ops_asked c has =
      let f = i.outcomes c has in
      laws.asked c.cred c.asked c.released (ops_of c.who w.turns) f.state f.plays

  few_effects : (c : Invocation) → Contains w.calls c → effects (ops_of c.who w.turns) ≤ 1
  few_effects c has =
      let f = i.outcomes c has in
      laws.one_effect c.cred c.asked c.released (ops_of c.who w.turns) f.state f.plays

  -- The laws hold of each turn's owner that is known.
  pub lawful : (owned : List Invocation → Turn → Type 0) → All (owned w.calls) w.turns → IsLawful owned o w responses
  lawful owned made =
      let slots = i.sound.legal.slots in
      let good = good_of laws.for_good w.turns i.lifetime.facts slots in
      record {
        objects = record {
          queues = λ slot. laws.queue (slot_history slot w.turns) (slots slot);
          registry = registry_lawful;
          pool = subst (λ n. PoolLaw n (pool_history w.turns)) blocks
              (laws.pool w.blocks (pool_history w.turns) i.sound.legal.pool);
          conserved = subst (λ n. AreConserved n w.turns w.actors) blocks i.sound.blocks;
        };
        calls = record {
          outcomes =
              All-weaker (Contains w.calls) (Outcome w responses) i.outcomes w.calls (All-contains_itself w.calls);
          apart = i.apart;
          made = made;
          asked = All-weaker (Contains w.calls) (AsksAsItWasAsked w) ops_asked w.calls
              (All-contains_itself w.calls);
          once = All-weaker (Contains w.calls) (λ (c : Invocation). effects (ops_of c.who w.turns) ≤ 1)
              few_effects w.calls (All-contains_itself w.calls);
          pending = i.doing;
        };
        answers = record {
          known = i.known;
          right = All-weaker (Contains responses)
              (λ (g : Response). IsRightAnswer g.call.asked (ops_of g.call.who w.turns) g.ending)
              (λ g has. right_now w responses i laws.right g has) responses (All-contains_itself responses);
          told = λ id before after t call whole removal has q.
              let f = i.outcomes call has in
              told_so w responses call f laws.told (ops_asked call has) good id before after t whole removal q;
        };
        lives = record {
          tended =
              are_tended w (laws.registry w.generation (registry_history w.turns) i.sound.legal.registry) i.lifetime;
          vacant = i.lifetime.facts.vacant;
          forgets = i.lifetime.facts.taken;
          removed = good;
        };
      }

-- ---- what happens

stays : {P : Turn → Type 0} (w after : World) (responses one : List Response) → StaysWith w one after →
    Inv P w responses →
    Inv P after (responses ++ one)
stays {P} w after responses one s i =
    subst (λ gs. Inv P after (responses ++ gs)) (sym s.0)
    (subst (λ v. Inv P v (responses ++ [])) (sym s.1) (subst (Inv P w) (sym (append-nil responses)) i))

-- ---- what a world was opened with

abbrev IsOpenedAs : World → World → Type 0
IsOpenedAs w after = (after.generation ≡ w.generation) × (after.blocks ≡ w.blocks)

opened_so : (w after then : World) → after ≡ then → IsOpenedAs w then → IsOpenedAs w after
opened_so w after then e o = subst (IsOpenedAs w) (sym e) o

pub move_opened : (w after : World) (responses : List Response) → Move w responses after → IsOpenedAs w after
move_opened w after responses (stood s) = opened_so w after w s.1 (refl, refl)
move_opened w after responses (began place cred asked there t) = opened_so w after _ t.1 (refl, refl)
move_opened w after responses (turned place now call phase there t) = opened_so w after _ t.6 (refl, refl)
move_opened w after responses (awoke place call wait there reached gave is) = opened_so w after _ is (refl, refl)
move_opened w after responses (preset_made unused gave is) = opened_so w after _ is (refl, refl)

pub leads_opened : (w after : World) (xs : List Transition) (responses : List Response) → Leads w xs responses after →
    IsOpenedAs w after
leads_opened w after [] responses l = opened_so w after w l.1 (refl, refl)
leads_opened w after (x ∷ xs) responses l =
    let first = move_opened w l.0 l.1 (moves w l.0 x l.1 l.3) in
    let rest = leads_opened l.0 after xs l.2 l.4 in
    (rest.0 ∙ first.0, rest.1 ∙ first.1)

module _ (law : EachObeys) where
  pub turns_keep : {P : Turn → Type 0} (w after : World) (responses one : List Response) (place : ℕ) (call : Invocation)
      (phase : Phase (kind_of call.asked)) (now : ℕ) → Inv P w responses →
      slice_get w.actors place ≡ Some (Some record { call = call; state = Goes phase }) →
      Turns w (suc place) call phase now one after → IsSound after → Inv P after (responses ++ one)
  turns_keep {P} w after responses one place call phase now i there t ok =
      let d : Doing = record { call = call; state = Goes phase } in
      let op = t.0 in
      let state = t.1 in
      let made : Turn = record { who = call.who; op = op } in
      let here = stands_there w responses i place d there in
      let name = its_name w responses i place d there in
      let own = own_op call.who w.turns made (same_itself place name.0 call.who name.1) in
      let sound = subst IsSound t.6 ok in
      subst (λ gs. Inv P after (responses ++ gs)) (sym t.5)
      (subst (λ v. Inv P v (responses ++ response_in call state)) (sym t.6)
      (goes_on w responses i place d there (w.turns ++ made ∷ []) state sound
      (lives_turn law w.generation w.blocks w.turns w.actors place call phase now op state there t.2 i.sound.legal
      t.3 sound.legal t.4 i.lifetime)
      (λ other apart. other_op other w.turns made apart)
      (record {
        plays = subst (λ ds. Plays (begun call) ds state) (sym own) (steps op now state here.plays t.2 t.4);
        quiet = here.quiet;
      })
      (All-push (HasMaker P w.calls) w.turns made i.made (inr (call, has_it w responses i place d there, refl)))))

  preset_keeps : (w : World) (responses : List Response) → Inv IsOfPreset w responses → IsSound (with_preset w) →
      Inv IsOfPreset (with_preset w) responses
  preset_keeps w responses i ok =
      let calls_apart : (c : Invocation) → Contains w.calls c → is_same c.who preset_who ≡ false = λ c has.
      not_same c.who preset_who
      (λ e. let b = i.before c has in let bad : Actor (suc b.0) b.1 ≡ Actor 0 0 = sym b.2 ∙ e in cc) in
      let first = begun_turns w.turns in
      let second = installed_turns w.turns in
      let same : (c : Invocation) → Contains w.calls c →
      ops_of c.who (with_preset_turns w.turns) ≡ ops_of c.who w.turns = λ c has.
      other_op c.who second (turn_of preset_who preset_settle) (calls_apart c has)
      ∙ (other_op c.who first (turn_of preset_who preset_install) (calls_apart c has)
      ∙ other_op c.who w.turns (turn_of preset_who preset_begin) (calls_apart c has)) in
      record {
        sound = ok;
        lifetime = preset_lives law w.generation w.blocks w.turns (jobs_of w.actors) ok.legal i.lifetime;
        outcomes = λ c has.
            let f = i.outcomes c has in
            record {
              state = f.state;
              plays = subst (λ ds. Plays (begun c) ds f.state) (sym (same c has)) f.plays;
              answered = f.answered;
              stands = f.stands;
            };
        before = i.before;
        apart = i.apart;
        named = i.named;
        made = All-push (HasMaker IsOfPreset w.calls) second (turn_of preset_who preset_settle)
            (All-push (HasMaker IsOfPreset w.calls) first (turn_of preset_who preset_install)
            (All-push (HasMaker IsOfPreset w.calls) w.turns (turn_of preset_who preset_begin) i.made
            (inl (refl, inl refl))) (inl (refl, inr (inl refl)))) (inl (refl, inr (inr refl)));
        known = i.known;
        doing = i.doing;
      }

  move_keeps : (w after : World) (responses one : List Response) → Inv IsOfPreset w responses → IsSound after →
      Move w one after →
      Inv IsOfPreset after (responses ++ one)
  move_keeps w after responses one i ok (stood s) = stays w after responses one s i
  move_keeps w after responses one i ok (began place cred asked there t) =
      let call = starting w (suc place) cred asked in
      subst (λ gs. Inv IsOfPreset after (responses ++ gs)) (sym t.0)
      (subst (λ v. Inv IsOfPreset v (responses ++ response_in call (begun call))) (sym t.1)
      (starts (λ x p. p.0) w responses i place there call refl (subst IsSound t.1 ok)))
  move_keeps w after responses one i ok (turned place now call phase there t) =
      turns_keep w after responses one place call phase now i there t ok
  move_keeps w after responses one i ok (awoke place call wait there reached gave is) =
      let d : Doing = record { call = call; state = Waits wait } in
      let value = value_of w.turns (awaited wait) in
      let state = Goes (resume wait value) in
      let here = stands_there w responses i place d there in
      subst (λ gs. Inv IsOfPreset after (responses ++ gs)) (sym gave)
      (subst (λ v. Inv IsOfPreset v (responses ++ response_in call state)) (sym is)
      (goes_on w responses i place d there w.turns state (subst IsSound is ok)
      (lives_stand w.turns w.actors place (Some d) call state there refl (resumed_none wait value) i.lifetime)
      (λ other apart. refl) (record { plays = resumes value here.plays reached; quiet = here.quiet }) i.made))
  move_keeps w after responses one i ok (preset_made unused gave is) =
      subst (λ gs. Inv IsOfPreset after (responses ++ gs)) (sym gave)
      (subst (Inv IsOfPreset after) (sym (append-nil responses))
      (subst (λ v. Inv IsOfPreset v responses) (sym is) (preset_keeps w responses i (subst IsSound is ok))))

  -- What a run of a world keeps.
  record Kept (w : World) (responses : List Response) : Type 0 where
    inv : Inv IsOfPreset w responses
    woken : AllWoken w

  leads_keep : StaysSound → EachHoldsWhatItWasAsked → (w after : World) (xs : List Transition)
      (responses more : List Response) → Kept w responses →
      Leads w xs more after → Kept after (responses ++ more)
  leads_keep sound holds w after [] responses more k l =
      record { inv = stays w after responses more l k.inv; woken = subst AllWoken (sym l.1) k.woken }
  leads_keep sound holds w after (x ∷ xs) responses more k l =
      let ok = sound w l.0 x l.1 k.inv.sound l.3 in
      let m = moves w l.0 x l.1 l.3 in
      subst (λ gs. Kept after (responses ++ gs)) (sym l.5) (subst (Kept after) (append_assoc responses l.1 l.2)
      (leads_keep sound holds l.0 after xs (responses ++ l.1) l.2 (record {
        inv = move_keeps w l.0 responses l.1 k.inv ok m;
        woken = move_woken w l.0 l.1 (λ place d there.
            holds d.call.cred d.call.asked d.call.released (ops_of d.call.who w.turns) d.state
            (stands_there w responses k.inv place d there).plays) k.woken ok m;
      }) l.4))

nothing_in : {X : Type 0} (x : X) → Contains [] x → ⊥
nothing_in x has = omega (arith, has.1)

pub opens : {P : Turn → Type 0} (o : Opening) → AreLegal o.generation o.blocks [] → Inv P (opening o) []
opens o legal = record {
  sound = opening_sound o legal;
  lifetime = opening_lives o.actors;
  outcomes = λ c has. absurd (nothing_in c has);
  before = λ c has. absurd (nothing_in c has);
  apart = λ i j d low high. absurd (omega (arith, low, high));
  named = λ c d has also same. absurd (nothing_in c has);
  made = λ k d low. absurd (omega (arith, low));
  known = λ k d low. absurd (omega (arith, low));
  doing = λ place d e. absurd (none_busy o.actors place e);
}

-- ---- all laws

pub run_obeys : StaysSound → ((generation blocks : ℕ) → AreLegal generation blocks []) → Laws → NoMatchStays →
    FullStays → FullStaysForLook → CountsNeverFall → EachWaitsForItsRefusal → EachHoldsWhatItWasAsked →
    (o : Opening) (list : List Transition) (responses : List Response) (w : World) →
    Leads (opening o) list responses w →
    Obeys o w responses
run_obeys sound none laws no_match full full_for_look counts refused holds o list responses w led =
    let start : Kept laws.registry (opening o) [] =
    record { inv = opens o (none o.generation o.blocks); woken = opening_woken o } in
    let k = leads_keep laws.registry sound holds (opening o) w list [] responses start led in
    let i = k.inv in
    let opened = leads_opened (opening o) w list responses led in
    let shared = lawful laws o w responses i opened.0 opened.1 IsMade i.made in
    record {
      lawful = shared;
      parked = parked_rightly laws.registry w i.sound.legal
          (λ place d there. (stands_there w responses i place d there).plays) no_match full full_for_look counts refused
          holds
          shared.lives.tended shared.lives.removed
          (settled_once_installed w.turns i.lifetime.facts) (are_short w k.woken.right) (are_to_be_woken w k.woken);
    }
