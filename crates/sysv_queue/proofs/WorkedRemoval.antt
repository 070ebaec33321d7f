-- The worked history with a removal, turn by turn, and the replies at its turns.
use Rattle.std.proofs.Common.{◌≡◌, inl, inr, List, [], ◌∷◌, refl, arith}
use Rattle.sysv_model.specs.declared.selector.Selector.TheVariants.{Any}
use Rattle.sysv_model.specs.Message.{Message}
use Rattle.sysv_model.specs.Live.{live}
use Rattle.sysv_queue.specs.Granted.{MayRead, MayWrite, MayControl}
use Rattle.sysv_queue.specs.Named.{IsNamed}
use Rattle.sysv_queue.specs.LegalReply.{IsLegalHistory}
use Rattle.sysv_queue.specs.WorkedRemoval.{owner, stranger, user_zero, first_message, second_message, the_turns}
use Rattle.sysv_queue.specs.WorkedRemoval.{after_turns, WorkedRemoval, OtherReplies, NoWrongReply}
use Rattle.sysv_queue.proofs.Legality.{legal_empty, legal_more}

may_write : MayWrite owner (live (after_turns 1))
may_write = inr (inl (inl refl, λ none. cc))

may_read : MayRead owner (live (after_turns 1))
may_read = inr (inl (inl refl, λ none. cc))

may_control : MayControl owner (live (after_turns 4))
may_control = inr (inl refl)

zero_may : MayControl user_zero (live (after_turns 4))
zero_may = inl refl

stranger_may_not : ¬ MayControl stranger (live (after_turns 4))
stranger_may_not may = elim may [ inl e ↦ omega arith | inr w ↦ elim w [ inl e ↦ omega arith | inr e ↦ omega arith ] ]

first_is_named : (m : Message) (ms : List Message) → IsNamed Any (m ∷ ms) 0
first_is_named m ms = ((omega arith, tt), λ earlier below q. omega arith)

-- ---- the history

legal_1 : IsLegalHistory (after_turns 1)
legal_1 = legal_more (after_turns 0) _ legal_empty refl

legal_2 : IsLegalHistory (after_turns 2)
legal_2 = legal_more (after_turns 1) _ legal_1 (refl, may_write, (omega arith, omega arith), refl)

legal_3 : IsLegalHistory (after_turns 3)
legal_3 = legal_more (after_turns 2) _ legal_2 (refl, may_write, (omega arith, omega arith), refl)

legal_4 : IsLegalHistory (after_turns 4)
legal_4 = legal_more (after_turns 3) _ legal_3
    (refl, may_read, (0, first_is_named first_message (second_message ∷ []), refl), inl (omega arith))

legal_5 : IsLegalHistory (after_turns 5)
legal_5 = legal_more (after_turns 4) _ legal_4 (refl, may_control, refl)

legal_6 : IsLegalHistory (after_turns 6)
legal_6 = legal_more (after_turns 5) _ legal_5 refl

legal_7 : IsLegalHistory the_turns
legal_7 = legal_more (after_turns 6) _ legal_6 (refl, may_write, (omega arith, omega arith), refl)

pub worked_removal : WorkedRemoval
worked_removal = record {
  legal = legal_7;
  accepted_before = refl;
  delivered_before = refl;
  discarded_before = refl;
  waiting_before = refl;
  accepted_now = refl;
  delivered_now = refl;
  discarded_now = refl;
  waiting_now = refl;
  slot_holds = refl;
  arrived_is = refl;
  freed_is = refl;
}

-- ---- the replies

pub other_replies : OtherReplies
other_replies = record {
  stranger_sets = inl (refl, stranger_may_not);
  above_the_most = inr (refl, may_control, λ within. omega arith);
  above_the_most_by_zero = inr (refl, zero_may, λ within. omega arith);
  raise =
      inr (refl, may_control, omega arith, λ limit. elim limit [ inl no_raise ↦ omega arith | inr zero ↦ omega arith ]);
  raise_by_zero = (refl, zero_may, omega arith, inr refl);
  same_limit = (refl, may_control, omega arith, inl (omega arith));
  stranger_removes = (refl, stranger_may_not);
  gone_take = λ lives. lives;
  gone_set = inl (λ lives. lives);
  gone_removal = λ lives. lives;
  still_gone = λ lives. cc;
}

pub no_wrong_reply : NoWrongReply
no_wrong_reply = record {
  message_left_out = λ l. let whole : [] ≡ second_message ∷ [] = l.2 in cc;
  delivered_too = λ l. let whole = l.2 in cc;
  owner_refused = λ l. l.1 may_control;
  raise_before_limit = λ l. elim l [ inl w ↦ w.1 may_control | inr w ↦ omega (arith, w.2) ];
  limit_before_owner = λ l. elim l [ inl gone ↦ gone refl | inr w ↦ stranger_may_not w.1 ];
  raise_done = λ l. elim (l.3) [ inl no_raise ↦ omega arith | inr zero ↦ omega arith ];
  raise_by_zero_refused = λ l. elim l [ inl w ↦ w.1 zero_may | inr w ↦ w.3 (inr refl) ];
  no_message = λ l. l.0;
  removed_twice = λ l. l.0;
  handed_on = λ l. let lives = l.0 in cc;
  number_given_again = λ l. omega (arith, l.3);
}
