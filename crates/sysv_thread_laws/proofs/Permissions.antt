-- Each legal reply is allowed, and each request of a call is made with its credentials.
use Rattle.std.proofs.Common.{◌≡◌, inl, inr, ℕ, List, Some, ap, length}
use Rattle.std.specs.List.{All}
use Rattle.std.proofs.Math.ListN.{get_or}
use Rattle.sysv_model.specs.declared.cred.Cred.{Cred}
use Rattle.sysv_model.specs.declared.flags.TheConstants.Flags.{MSG_NOERROR}
use Rattle.sysv_model.specs.HasFlag.{has_flag}
use Rattle.sysv_model.specs.Selector.{selector_for}
use Rattle.sysv_model.specs.History.{Call, Install, Probe, Look, Place, Take, ReadStat, Set, Remove, Reply}
use Rattle.sysv_model.specs.History.{Granted, Accepted, Taken, Told, Done, Discarded, History}
use Rattle.sysv_model.specs.Turn.{Op, AtSlot, AtRegistry, AtPool, OfSlot, slot_history, ops_of, asked_by}
use Rattle.sysv_model.specs.Turns.{turns_of}
use Rattle.sysv_queue.specs.LegalReply.{IsLegalReply, IsLegalHistory}
use Rattle.sysv_steps.specs.Call.{SystemCall, Msgget, Msgsnd, Msgrcv, MsgctlStat, MsgctlSet, MsgctlRmid}
use Rattle.sysv_steps.specs.AsksFor.{AsksFor, AllAskFor, EachOpIsAskedFor}
use Rattle.sysv_core.specs.World.{Invocation}
use Rattle.sysv_core.specs.Headline.{EveryRunObeys}
use Rattle.sysv_thread_laws.specs.OnThreads.{EveryThreadedRunObeys}
use Rattle.sysv_thread_laws.specs.Order.{Called}
use Rattle.sysv_thread_laws.specs.Permitted.{IsAllowed, AreAllowed, credentials_of, IsUnder, EveryRunIsPermitted}
use Rattle.sysv_thread_laws.specs.Permitted.{EveryThreadedRunIsPermitted, EveryOrderIsPermitted}

-- ---- one turn

is_allowed : (h : History) (call : Call) (reply : Reply) → IsLegalReply h call reply → IsAllowed h call reply
is_allowed h (Place id cred mtype bytes now) (Accepted number) legal = (legal.0, legal.1)
is_allowed h (Take id cred selector size noerror now) (Taken m) legal = (legal.0, legal.1)
is_allowed h (ReadStat id cred) (Told stat) legal = (legal.0, legal.1)
is_allowed h (Probe id cred flags) Granted legal = legal
is_allowed h (Set id cred to now) Done legal = (legal.0, legal.1, legal.3)
is_allowed h (Remove id cred) (Discarded messages) legal = (legal.0, legal.1)
is_allowed h call reply legal = tt

are_allowed : (h : History) → IsLegalHistory h → AreAllowed h
are_allowed h legal before e after whole = is_allowed before e.call e.reply (legal before e after whole)

-- ---- the caller

under_at_slot : (cred : Cred) (asked : SystemCall) (slot : ℕ) (call : Call) → AsksFor cred asked (OfSlot slot call) →
    credentials_of call ≡ Some cred
under_at_slot cred (Msgget key flags) slot call (inl e) = absurd cc
under_at_slot cred (Msgget key flags) slot call (inr (inl (id, now, e))) =
    let same : call ≡ Install id key cred flags.0 now = cc in ap credentials_of same
under_at_slot cred (Msgget key flags) slot call (inr (inr (inl (id, e)))) = absurd cc
under_at_slot cred (Msgget key flags) slot call (inr (inr (inr (inl (id, e))))) =
    let same : call ≡ Probe id cred flags = cc in ap credentials_of same
under_at_slot cred (Msgget key flags) slot call (inr (inr (inr (inr (id, e))))) = absurd cc
under_at_slot cred (Msgsnd id mtype flags text) slot call (inl e) =
    let same : call ≡ Look id cred (length text) = cc in ap credentials_of same
under_at_slot cred (Msgsnd id mtype flags text) slot call (inr (inl e)) = absurd cc
under_at_slot cred (Msgsnd id mtype flags text) slot call (inr (inr (inl (now, e)))) =
    let same : call ≡ Place id cred mtype text now = cc in ap credentials_of same
under_at_slot cred (Msgsnd id mtype flags text) slot call (inr (inr (inr (blocks, e)))) = absurd cc
under_at_slot cred (Msgrcv id size mtype flags) slot call (inl (now, e)) =
    let same : call ≡ Take id cred (selector_for mtype flags) size (has_flag MSG_NOERROR flags) now = cc in
    ap credentials_of same
under_at_slot cred (Msgrcv id size mtype flags) slot call (inr (blocks, e)) = absurd cc
under_at_slot cred (MsgctlStat id) slot call e =
    let same : call ≡ ReadStat id cred = cc in ap credentials_of same
under_at_slot cred (MsgctlSet id to) slot call (inl (now, e)) =
    let same : call ≡ Set id cred to now = cc in ap credentials_of same
under_at_slot cred (MsgctlSet id to) slot call (inr (blocks, e)) = absurd cc
under_at_slot cred (MsgctlRmid id) slot call (inl e) =
    let same : call ≡ Remove id cred = cc in ap credentials_of same
under_at_slot cred (MsgctlRmid id) slot call (inr (inl e)) = absurd cc
under_at_slot cred (MsgctlRmid id) slot call (inr (inr (blocks, e))) = absurd cc

is_under : (cred : Cred) (asked : SystemCall) (op : Op) → AsksFor cred asked (asked_by op) → IsUnder cred op
is_under cred asked (AtSlot slot call reply) asks = under_at_slot cred asked slot call asks
is_under cred asked (AtRegistry call reply) asks = tt
is_under cred asked (AtPool call reply) asks = tt

all_under : (cred : Cred) (asked : SystemCall) (ops : List Op) → AllAskFor cred asked ops →
    All (IsUnder cred) ops
all_under cred asked ops all k d low = is_under cred asked (get_or ops k d) (all k d low)

-- ---- the laws

pub each_run : EveryRunObeys → EveryRunIsPermitted
each_run law o list responses w led =
    let lawful = (law o list responses w led).lawful in
    record {
      allowed = λ slot. are_allowed (slot_history slot w.turns) (lawful.objects.queues slot).legal;
      own = λ k d low.
          let c : Invocation = get_or w.calls k d in
          all_under c.cred c.asked (ops_of c.who w.turns) (lawful.calls.asked k d low);
    }

pub each_threaded_run : EveryThreadedRunObeys → EveryThreadedRunIsPermitted
each_threaded_run law o list responses w led =
    let lawful = law o list responses w led in
    record {
      allowed = λ slot. are_allowed (slot_history slot w.turns) (lawful.objects.queues slot).legal;
      own = λ k d low.
          let c : Invocation = get_or w.calls k d in
          all_under c.cred c.asked (ops_of c.who w.turns) (lawful.calls.asked k d low);
    }

pub each_order : EachOpIsAskedFor → EveryOrderIsPermitted
each_order asks generation blocks order calls legal all = record {
  allowed = λ slot. are_allowed (slot_history slot (turns_of order)) (legal.slots slot);
  own = λ k d low.
      let c : Called = get_or calls k d in
      all_under c.cred c.asked c.ops (asks c.cred c.asked c.released c.ops c.state (all.played k d low));
}
