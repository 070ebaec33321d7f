-- The replies after that of a send that was refused.
use Rattle.std.proofs.Common.{◌≡◌, ℕ, List, [], ◌∷◌, ◌++◌, Option, inl, inr, refl, sym, ap, subst}
use Rattle.std.proofs.Common.{◌∙◌, length, suc, ◌+◌, append_assoc, append-nil, arith}
use Rattle.std.specs.Prelude.{◌⊎◌}
use Rattle.std.specs.Io.KnownBytes.{Consumes}
use Rattle.std.proofs.KnownBytes.{Consumes-trans}
use Rattle.sysv_clients.specs.declared.fault.ClientFault.{ClientFault}
use Rattle.sysv_clients.specs.declared.fault.ClientFault.TheVariants as fault
use Rattle.sysv_clients.specs.declared.sending.Cut.{Cut as ACut}
use Rattle.sysv_clients.specs.declared.sending.Window.{Window}
use Rattle.sysv_clients.specs.Calls.{Call, Each, read_by}
use Rattle.sysv_clients.specs.Dialogue.{HasNoReply, reply_to}
use Rattle.sysv_clients.specs.Sending.{HasReply, IsCutBy, Refuses, Sent, a_send, accepted_in, accepts, sent_by}
use Rattle.sysv_clients.specs.Window.{AreSnds, HearsCut, IsSnd}
use Rattle.sysv_clients.proofs.CallLemmas.{call_of, read_more}
use Rattle.sysv_clients.proofs.WindowLemmas.{each_more, first_of, replied_so, sent_more}
use Rattle.sysv_model.specs.declared.errno.Errno.{Errno}
use Rattle.sysv_model.specs.declared.errno.Errno.TheVariants as errors
use Rattle.sysv_wire.specs.declared.reply.ReplyContent.{ReplyContent}
use Rattle.sysv_wire.specs.declared.reply.ReplyContent.TheVariants as content
use Rattle.sysv_wire.specs.declared.request.Ask.{Ask}
use Rattle.sysv_wire.specs.Replies.{error_number, reply_encoding}

-- Of these sends, which were on their way, the first was refused, and some replies after it were read. The cut counts
-- them.
pub record Refusing (error : Errno) (waiting : List Sent) (left rest : Option (List ℕ)) (cut : ACut) : Type 0 where
  pub one : Call
  pub later : List Call
  pub others : List Sent
  pub split : waiting ≡ sent_by (one ∷ later) ++ others
  pub snds : AreSnds others
  pub refused : Refuses error one
  pub answered : Each HasReply later
  pub reads : Consumes left rest (read_by (one ∷ later))
  pub after : cut.after ≡ accepted_in later
  pub is_fault : cut.fault ≡ fault.Refused error
  pub unknown : cut.unknown ≡ length others

-- The reply of the send that was refused was read.
pub refuses : (error : Errno) (waiting : List Sent) (left rest : Option (List ℕ)) (window : Window) (fewer : ℕ)
    → AreSnds waiting → window.waiting ≡ length waiting → window.waiting ≡ fewer + 1
    → Consumes left rest (reply_encoding (reply_to a_send (content.Refused error)) [])
    → Refusing error waiting left rest
    (record { before = window.done; fault = fault.Refused error; after = 0; unknown = fewer })
refuses error waiting left rest window fewer snds waits some read =
    let first = first_of waiting window.waiting waits (omega (arith, some)) in
    let one = call_of first.one.ask first.one.text (content.Refused error) [] in
    let all : AreSnds (first.one ∷ first.others) = subst (λ (l : List Sent). AreSnds l) first.split snds in
    let long : window.waiting ≡ suc (length first.others) =
    waits ∙ ap (λ (l : List Sent). length l) first.split in
    record {
      one = one;
      later = [];
      others = first.others;
      split = first.split;
      snds = all.1;
      refused = (refl, refl);
      answered = tt;
      reads = subst (Consumes left rest)
          (sym (append-nil (reply_encoding (reply_to first.one.ask (content.Refused error)) [])))
          (replied_so first.one.ask (content.Refused error) [] left rest all.0 read);
      after = refl;
      is_fault = refl;
      unknown = omega (arith, long, some);
    }

accepted_more : (calls : List Call) (one : Call) →
    accepted_in (calls ++ one ∷ []) ≡ accepted_in calls + accepts one.answer
accepted_more [] one = omega arith
accepted_more (first ∷ others) one =
    let rest = accepted_more others one in
    omega (arith, rest)

-- One more reply was read.
pub refuses_more : (error : Errno) (answer : ReplyContent) (given : List ℕ) (waiting : List Sent)
    (left mid rest : Option (List ℕ)) (cut : ACut) (after fewer : ℕ)
    → Refusing error waiting left mid cut
    → cut.unknown ≡ fewer + 1 → after ≡ cut.after + accepts answer
    → Consumes mid rest (reply_encoding (reply_to a_send answer) given)
    → ((ask : Ask) (text : List ℕ) → IsSnd ask → HasReply (call_of ask text answer given))
    → Refusing error waiting left rest
    (record { before = cut.before; fault = cut.fault; after = after; unknown = fewer })
refuses_more error answer given waiting left mid rest cut after fewer so_far some counts read replied =
    let first = first_of so_far.others cut.unknown so_far.unknown (omega (arith, some)) in
    let one = call_of first.one.ask first.one.text answer given in
    let all : AreSnds (first.one ∷ first.others) =
    subst (λ (l : List Sent). AreSnds l) first.split so_far.snds in
    let long : cut.unknown ≡ suc (length first.others) =
    so_far.unknown ∙ ap (λ (l : List Sent). length l) first.split in
    record {
      one = so_far.one;
      later = so_far.later ++ one ∷ [];
      others = first.others;
      split = so_far.split ∙ ap (λ (l : List Sent). sent_by (so_far.one ∷ so_far.later) ++ l) first.split
          ∙ sent_more (so_far.one ∷ so_far.later) one first.others;
      snds = all.1;
      refused = so_far.refused;
      answered = each_more HasReply so_far.later one so_far.answered (replied first.one.ask first.one.text all.0);
      reads = subst (Consumes left rest) (sym (read_more (so_far.one ∷ so_far.later) one))
          (Consumes-trans left mid rest _ _ so_far.reads
          (replied_so first.one.ask answer given mid rest all.0 read));
      after = counts ∙ ap (λ (n : ℕ). n + accepts answer) so_far.after ∙ sym (accepted_more so_far.later one);
      is_fault = so_far.is_fault;
      unknown = omega (arith, long, some);
    }

number_not_zero : (error : Errno) → error_number (content.Refused error) ≡ 0 → ⊥
number_not_zero errors.EPERM is = absurd (omega (arith, is))
number_not_zero errors.ENOENT is = absurd (omega (arith, is))
number_not_zero errors.E2BIG is = absurd (omega (arith, is))
number_not_zero errors.EAGAIN is = absurd (omega (arith, is))
number_not_zero errors.EACCES is = absurd (omega (arith, is))
number_not_zero errors.EEXIST is = absurd (omega (arith, is))
number_not_zero errors.EINVAL is = absurd (omega (arith, is))
number_not_zero errors.ENOSPC is = absurd (omega (arith, is))
number_not_zero errors.ENOMSG is = absurd (omega (arith, is))
number_not_zero errors.EIDRM is = absurd (omega (arith, is))
number_not_zero errors.EOVERFLOW is = absurd (omega (arith, is))

-- A send that was done was accepted.
pub done_accepts : (answer : ReplyContent) → error_number answer ≡ 0 → accepts answer ≡ 1
done_accepts (content.Refused error) is = absurd (number_not_zero error is)
done_accepts content.Hello is = refl
done_accepts (content.HelloSlots slots) is = refl
done_accepts (content.Get id) is = refl
done_accepts content.Snd is = refl
done_accepts (content.Rcv mtype) is = refl
done_accepts (content.Stat stat) is = refl
done_accepts content.Set is = refl
done_accepts content.Rm is = refl
done_accepts content.Done is = refl
done_accepts content.Back is = refl
done_accepts (content.Hold mtype) is = refl
done_accepts (content.Row row) is = refl

-- How the session ends after the replies that were read.
pub refuses_cut : (error : Errno) (waiting : List Sent) (left mid rest : Option (List ℕ)) (window : Window)
    (cut : ACut)
    → Refusing error waiting left mid cut → cut.before ≡ window.done
    → (rest ≡ mid) ⊎ HasNoReply a_send mid rest
    → HearsCut waiting left rest window cut
refuses_cut error waiting left mid rest window cut so_far before ends = record {
  calls = so_far.one ∷ so_far.later;
  others = so_far.others;
  split = so_far.split;
  answered = (inr (error, so_far.refused), so_far.answered);
  unread = mid;
  reads = so_far.reads;
  own = 0;
  by = subst (λ (f : ClientFault). IsCutBy f (record cut { before = 0 }) (so_far.one ∷ so_far.later))
      (sym so_far.is_fault)
      (record {
        first = [];
        one = so_far.one;
        later = so_far.later;
        split = refl;
        done = tt;
        refused = so_far.refused;
        before = refl;
        after = so_far.after;
      });
  counted = omega (arith, before);
  unknown = so_far.unknown;
  ends = ends;
}
