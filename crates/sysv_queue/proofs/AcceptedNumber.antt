-- The number of a message that a turn accepted, and the turns that discard.
use Rattle.std.proofs.Common.{◌≡◌, ℤ, Bool, true, false, cond, List, [], ◌∷◌, ◌++◌, refl, ap, ◌∙◌}
use Rattle.std.specs.Ordering.{int_eq}
use Rattle.std.specs.List.{All, AllByRecursion}
use Rattle.std.proofs.lemmas.List.{append-nil}
use Rattle.std.proofs.lemmas.Grind.{flat_map-append}
use Rattle.std.proofs.lemmas.List.Concat.{flat_map-cons}
use Rattle.std.proofs.lemmas.List.Elements.{recursion_from_All}
use Rattle.sysv_model.specs.Message.{Message}
use Rattle.sysv_model.specs.History.{Call, Place, Take, Remove, Reply, Accepted, Taken, Discarded, Entry, History}
use Rattle.sysv_model.specs.Waiting.{discarded, accepted_by, delivered_by, discarded_by}
use Rattle.sysv_queue.specs.Slot.{Slot}
use Rattle.sysv_queue.specs.LegalReply.{Legal}
use Rattle.sysv_queue.specs.QueueLaw.{removes}

number_with : (t : Bool) (x m : Message) → cond t (x ∷ []) [] ≡ m ∷ [] → x.number ≡ m.number
number_with true x m e = let same : x ≡ m = cc in ap (λ (y : Message). y.number) same
number_with false x m e = absurd cc

-- The number of an accepted message is the arrived count before the turn.
pub accepts_number : (s : Slot) (id : ℤ) (call : Call) (reply : Reply) (m : Message) → Legal s call reply →
    accepted_by id call reply ≡ m ∷ [] → s.arrived ≡ m.number
accepts_number s id (Place at cred mtype bytes now) (Accepted number) m l e =
    let is =
    number_with (int_eq at id) (record { number = number; sender = cred.pid; mtype = mtype; bytes = bytes }) m e in
    let counted : number ≡ s.arrived = l.3 in
    cc
accepts_number s id call reply m l e = absurd cc

-- A turn that accepts a message delivers and discards none.
pub accepts_alone : (id : ℤ) (call : Call) (reply : Reply) (m : Message) → accepted_by id call reply ≡ m ∷ [] →
    (delivered_by id call reply ≡ []) × (discarded_by id call reply ≡ [])
accepts_alone id (Take at cred selector size noerror now) (Taken n) m e = absurd cc
accepts_alone id (Remove at cred) (Discarded messages) m e = absurd cc
accepts_alone id call reply m e = (refl, refl)

-- Only a removal discards.
keeps_all : (id : ℤ) (call : Call) (reply : Reply) → removes id call reply ≡ false → discarded_by id call reply ≡ []
keeps_all id (Remove at cred) (Discarded messages) e = ap (λ t. cond t messages []) e
keeps_all id call reply e = refl

none_discarded : (id : ℤ) (middle : List Entry) →
    AllByRecursion (λ (t : Entry). removes id t.call t.reply ≡ false) middle → discarded id middle ≡ []
none_discarded id [] a = refl
none_discarded id (t ∷ middle) a =
    flat_map-cons (λ (e : Entry). discarded_by id e.call e.reply) t middle
    ∙ (ap (λ ms. ms ++ discarded id middle) (keeps_all id t.call t.reply a.0) ∙ none_discarded id middle a.1)

-- If there was no removal since a turn that accepted a message, nothing was discarded since then.
pub discarded_before : (id : ℤ) (before middle : History) (e : Entry) (m : Message) →
    accepted_by id e.call e.reply ≡ m ∷ [] →
    All (λ (t : Entry). removes id t.call t.reply ≡ false) middle →
    discarded id (before ++ e ∷ middle) ≡ discarded id before
discarded_before id before middle e m one none =
    let by : Entry → List Message = λ (t : Entry). discarded_by id t.call t.reply in
    flat_map-append by before (e ∷ middle)
    ∙ (ap (λ ms. discarded id before ++ ms)
    (flat_map-cons by e middle
    ∙ (ap (λ ms. ms ++ discarded id middle) (accepts_alone id e.call e.reply m one).1
    ∙ none_discarded id middle (recursion_from_All (λ (t : Entry). removes id t.call t.reply ≡ false) middle none)))
    ∙ append-nil (discarded id before))
