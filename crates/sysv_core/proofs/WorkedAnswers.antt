-- What the answer law admits and refuses at the send of the worked run.
use Rattle.std.proofs.Common.{◌≡◌, zero, suc, pos, true, inl, inr, List, [], ◌∷◌, None, Some, refl, sym, ap, subst}
use Rattle.std.proofs.Common.{arith, false}
use Rattle.std.specs.List.{All, Contains, list_any}
use Rattle.std.proofs.lemmas.Bool.{both_ways}
use Rattle.std.proofs.lemmas.List.Folds.{list_any-from_Any}
use Rattle.sysv_model.specs.declared.errno.Errno.TheVariants.{EAGAIN}
use Rattle.sysv_model.specs.Message.{Message}
use Rattle.sysv_model.specs.History.{Actor, Remove, Discarded, Who}
use Rattle.sysv_model.specs.Turn.{OfSlot, Op, AtSlot, ops_of, is_same}
use Rattle.sysv_steps.specs.Call.{Sends}
use Rattle.sysv_steps.specs.State.{AtPlace, Ending, Zero, Refused, State, Goes, Waits, Over}
use Rattle.sysv_steps.specs.Played.{Plays, begins, steps}
use Rattle.sysv_steps.specs.AsksFor.{AsksFor, EachOpIsAskedFor}
use Rattle.sysv_steps.specs.Answers.{EachAnswerIsRight}
use Rattle.sysv_core.specs.World.{Invocation, Doing, doing_in, begun, preset_who, preset_cred, preset_begin}
use Rattle.sysv_core.specs.World.{preset_install}
use Rattle.sysv_core.specs.World.{preset_settle}
use Rattle.sysv_core.specs.AnswerLaw.{AreInTheirCalls, IsMade, ended}
use Rattle.sysv_core.specs.WorkedRun.{hello, the_calls, look_for}
use Rattle.sysv_core.specs.WorkedAnswers.{the_send, the_end, still_reserving, looking, looked_by, look_fits}
use Rattle.sysv_core.specs.WorkedAnswers.{gets_a_block, accepts, WorkedAnswers}
use Rattle.sysv_core.proofs.Lists.{none_busy}

abbrev placing : State Sends
placing = Goes (AtPlace record {
  cred = the_send.cred;
  id = pos 0;
  mtype = pos 5;
  text = hello;
  nowait = true;
  released = 0;
  seen = true;
} 1)

its_play : Plays (begun the_send) (look_fits ∷ gets_a_block ∷ accepts 0 ∷ []) (Over Zero)
its_play = steps (accepts 0) 0 (Over Zero)
    (steps gets_a_block 0 placing (steps look_fits 0 still_reserving begins refl refl) refl refl) refl refl

no_answer : (state : State Sends) → [] ≡ ended state → None ≡ doing_in the_send state → ⊥
no_answer (Goes phase) e f = cc
no_answer (Waits wait) e f = cc
no_answer (Over ending) e f = cc

one_answer : (x : Ending) (state : State Sends) → x ∷ [] ≡ ended state → state ≡ Over x
one_answer x (Goes phase) e = absurd cc
one_answer x (Waits wait) e = absurd cc
one_answer x (Over ending) e = let same : ending ≡ x = cc in ap Over same

two_answers : (x y : Ending) (state : State Sends) → x ∷ y ∷ [] ≡ ended state → ⊥
two_answers x y (Goes phase) e = cc
two_answers x y (Waits wait) e = cc
two_answers x y (Over ending) e = cc

over_and_going : (x : Ending) (d : Doing) (state : State Sends) → x ∷ [] ≡ ended state →
    Some d ≡ doing_in the_send state → ⊥
over_and_going x d (Goes phase) e f = cc
over_and_going x d (Waits wait) e f = cc
over_and_going x d (Over ending) e f = cc

-- Some names are not those of calls of the run.
never_called : (who : Who) → list_any (λ (c : Invocation). is_same who c.who) the_calls ≡ false →
    is_same who who ≡ true → (call : Invocation) × Contains the_calls call × (who ≡ call.who) → ⊥
never_called who none same (call, has, name) =
    both_ways _ none (list_any-from_Any (λ (c : Invocation). is_same who c.who) the_calls
    (has.0, call, has.1, has.2, subst (λ x. is_same who x ≡ true) name same))

nobody : (op : Op) → ¬ IsMade the_calls (record { who = Actor 3 0; op = op })
nobody op (inl preset) = let who = preset.0 in cc
nobody op (inr by) = never_called (Actor 3 0) refl refl by

three_of_preset : All (λ (op : Op). IsMade [] (record { who = preset_who; op = op }))
    (preset_begin ∷ preset_install ∷ preset_settle ∷ [])
three_of_preset zero d low = inl (refl, inl refl)
three_of_preset (suc zero) d low = inl (refl, inr (inl refl))
three_of_preset (suc (suc zero)) d low = inl (refl, inr (inr refl))
three_of_preset (suc (suc (suc k))) d low = absurd (omega (arith, low))

no_look : ¬ IsMade the_calls (record { who = preset_who; op = look_fits })
no_look (inl (who, inl is)) = cc
no_look (inl (who, inr (inl is))) = cc
no_look (inl (who, inr (inr is))) = cc
no_look (inr by) = never_called preset_who refl refl by

no_removal : (messages : List Message) →
    ¬ IsMade the_calls (record { who = preset_who; op = AtSlot 0 (Remove (pos 0) preset_cred) (Discarded messages) })
no_removal messages (inl (who, inl is)) = cc
no_removal messages (inl (who, inr (inl is))) = cc
no_removal messages (inl (who, inr (inr is))) = cc
no_removal messages (inr by) = never_called preset_who refl refl by

-- A send of 5 bytes does not request room for 6.
other_size : AsksFor the_send.cred the_send.asked (OfSlot 0 (look_for 6)) → ⊥
other_size (inl is) = cc
other_size (inr (inl is)) = cc
other_size (inr (inr (inl (now, is)))) = cc
other_size (inr (inr (inr (blocks, is)))) = cc

-- Actor 1 is in the send, and all others are idle.
in_its_own : AreInTheirCalls (looking 5)
in_its_own zero d there =
    let same : d.call ≡ the_send = cc in
    ((0, omega arith, sym same), (2, ap (λ (c : Invocation). c.who) same))
in_its_own (suc place) d there = absurd (none_busy 15 place there)

not_started_there : ¬ AreInTheirCalls (record (looking 5) { calls = [] })
not_started_there own = omega (arith, (own 0 _ refl).0.1)

of_another_there : ¬ AreInTheirCalls (looked_by 2)
of_another_there own = let who = (own 1 _ refl).1.1 in cc

pub worked_answers : EachOpIsAskedFor → EachAnswerIsRight → WorkedAnswers
worked_answers asked right = record {
  plays = its_play;
  admitted = record { state = Over Zero; plays = its_play; answered = refl; stands = refl };
  full_sent = λ p. let r = right the_send.cred the_send.asked 0 _ _ p in let accepted = r.zero.0 refl in cc;
  unanswered = λ f. no_answer f.state f.answered f.stands;
  answered_wrongly = λ f.
      let is = one_answer (Refused EAGAIN) f.state f.answered in
      let p = subst (Plays (begun the_send) (ops_of the_send.who the_end.turns)) is f.plays in
      let r = right the_send.cred the_send.asked 0 _ _ p in
      let full = (r.again.0 refl).1 in
      cc;
  answered_twice = λ f. two_answers Zero Zero f.state f.answered;
  goes_on = λ f. over_and_going Zero _ f.state f.answered f.stands;
  looks = record {
    state = still_reserving;
    plays = steps look_fits 0 still_reserving begins refl refl;
    answered = refl;
    stands = refl;
  };
  looks_otherwise = λ f.
      other_size ((asked the_send.cred the_send.asked 0 (ops_of the_send.who (looking 6).turns) f.state f.plays) 0
      look_fits (omega arith));
  its_own = in_its_own;
  not_started = not_started_there;
  of_another = of_another_there;
  by_nobody = nobody;
  by_preset = three_of_preset;
  by_no_preset = no_look;
  removed_by_no_preset = no_removal;
}
