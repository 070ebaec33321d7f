-- Every legal history obeys the queue law.
use Rattle.std.proofs.Common.{◌≡◌, Some, subst, slice_get}
use Rattle.sysv_model.specs.History.{Take, Taken, History}
use Rattle.sysv_model.specs.Live.{live}
use Rattle.sysv_model.specs.Waiting.{accepted, held, waiting}
use Rattle.sysv_queue.specs.Slot.{slot_of}
use Rattle.sysv_queue.specs.Named.{IsNamed}
use Rattle.sysv_queue.specs.LegalReply.{LegalTake, IsLegalHistory}
use Rattle.sysv_queue.specs.QueueLaw.{QueueLaw, TakesNamed}
use Rattle.sysv_queue.proofs.Ids.{waiting_on-id}
use Rattle.sysv_queue.proofs.Facts.{facts}
use Rattle.sysv_queue.proofs.Order.{apart_where_rising}
use Rattle.sysv_queue.proofs.Conserved.{conserved, all_accepted, each_once}
use Rattle.sysv_queue.proofs.OneOwner.{one_owner}
use Rattle.sysv_queue.proofs.InOrder.{leaves_in_order}
use Rattle.sysv_queue.proofs.Final.{removal_final}

takes_named : (h : History) → IsLegalHistory h → TakesNamed h
takes_named h legal = λ before after who id cred selector size noerror now m whole.
    let reply : LegalTake (slot_of before) id cred selector size noerror (Taken m) =
    legal before (record { who = who; call = Take id cred selector size noerror now; reply = Taken m }) after whole in
    let here : held before ≡ waiting id before = waiting_on-id (live before) id before reply.0 in (
      reply.2.0,
      subst (λ ms. IsNamed selector ms reply.2.0) here reply.2.1,
      subst (λ ms. slice_get ms reply.2.0 ≡ Some m) here reply.2.2,
    )

pub queue_law : (h : History) → IsLegalHistory h → QueueLaw h
queue_law h legal =
    let f = facts h legal in
    let c = conserved h legal in
    record {
      legal = legal;
      conserved = c;
      numbered = λ id. apart_where_rising (accepted id h) (f.rises id);
      apart = one_owner h legal;
      once = each_once h f c;
      known = all_accepted h c;
      gone = f.others;
      named = takes_named h legal;
      ordered = leaves_in_order h legal;
      final = removal_final h legal;
    }
