-- How one more turn changes the blocks of the queued messages.
use Rattle.std.proofs.Common.{◌≡◌, ℕ, ℤ, ◌+◌, cond, List, [], ◌∷◌, ◌++◌, Some, length, refl, sym, ap, subst, ◌∙◌, arith}
use Rattle.std.proofs.Common.{remove, slice_get}
use Rattle.std.proofs.lemmas.List.Sums.{sum_by_push, sum_by-remove}
use Rattle.std.proofs.lemmas.Option.{slice_get_within, get_or_from_slice_get}
use Rattle.sysv_model.specs.Message.{Message}
use Rattle.sysv_model.specs.Pool.{blocks_for}
use Rattle.sysv_model.specs.History.{Who, Call, Place, Take, Remove, Reply, Accepted, Taken, Discarded, History}
use Rattle.sysv_model.specs.History.{then_turn}
use Rattle.sysv_model.specs.Waiting.{held, waiting_on, accepted_by, delivered_by, discarded_by}
use Rattle.sysv_queue.specs.Slot.{Slot, slot_of}
use Rattle.sysv_queue.specs.LegalReply.{Legal, IsLegalReply, IsLegalHistory}
use Rattle.sysv_queue.specs.Blocks.{blocks_of}
use Rattle.sysv_queue.specs.BlocksKept.{blocks_put, blocks_off, TurnKeepsBlocks, SlotKeepsBlocks}
use Rattle.sysv_queue.proofs.Ids.{same_id}
use Rattle.sysv_queue.proofs.Turns.{Kind, Quiet, Makes, Accepts, Takes, Changes, Discards, kind_of}
use Rattle.sysv_queue.proofs.Stands.{after_quiet, after_made, after_sent, after_taken, after_changed, after_removed}

-- A turn that accepts nothing puts no blocks on the queue, and a turn that delivers and discards
-- nothing takes none off it.
put_none : (call : Call) (reply : Reply) → ((id : ℤ) → accepted_by id call reply ≡ []) → blocks_put call reply ≡ 0
put_none (Place id cred mtype bytes now) (Accepted number) none =
    let m : Message = record { number = number; sender = cred.pid; mtype = mtype; bytes = bytes } in
    let one : m ∷ [] ≡ [] = ap (λ t. cond t (m ∷ []) []) (sym (same_id id id refl)) ∙ none id in
    absurd cc
put_none call reply none = refl

off_none : (call : Call) (reply : Reply) → ((id : ℤ) → delivered_by id call reply ≡ []) →
    ((id : ℤ) → discarded_by id call reply ≡ []) → blocks_off call reply ≡ 0
off_none (Take id cred selector size noerror now) (Taken m) delivered discarded =
    let one : m ∷ [] ≡ [] = ap (λ t. cond t (m ∷ []) []) (sym (same_id id id refl)) ∙ delivered id in
    absurd cc
off_none (Remove id cred) (Discarded messages) delivered discarded =
    let none : messages ≡ [] = ap (λ t. cond t messages []) (sym (same_id id id refl)) ∙ discarded id in
    ap blocks_of none
off_none call reply delivered discarded = refl

pub blocks_of-remove : (ms : List Message) (place : ℕ) (m : Message) → slice_get ms place ≡ Some m →
    blocks_of (remove ms place) + blocks_for (length m.bytes) ≡ blocks_of ms
blocks_of-remove ms place m there =
    subst (λ (x : Message). blocks_of (remove ms place) + blocks_for (length x.bytes) ≡ blocks_of ms)
    (get_or_from_slice_get ms place m m there)
    (sum_by-remove (λ (x : Message). blocks_for (length x.bytes)) ms place m (slice_get_within ms place m there))

blocks_of-push : (ms : List Message) (m : Message) →
    blocks_of (ms ++ m ∷ []) ≡ blocks_of ms + blocks_for (length m.bytes)
blocks_of-push ms m = sum_by_push (λ (x : Message). blocks_for (length x.bytes)) ms m

abbrev messages_in : Slot → List Message
messages_in s = s.messages

kind_keeps : (h : History) (who : Who) (call : Call) (reply : Reply) → Kind call reply → IsLegalHistory h →
    IsLegalReply h call reply →
    blocks_of (held (then_turn h who call reply)) + blocks_off call reply ≡ blocks_of (held h) + blocks_put call reply
kind_keeps h who call reply (Quiet q) legal l =
    let same : held (then_turn h who call reply) ≡ held h = ap messages_in (after_quiet h who call reply q) in
    omega (
      arith,
      ap blocks_of same,
      put_none call reply q.still.accepted,
      off_none call reply q.still.delivered q.still.discarded,
    )
kind_keeps h who call reply (Makes id key cred mode now) legal l =
    let after : held (then_turn h who call reply) ≡ [] =
    ap messages_in (after_made h who id key cred mode now legal l) in
    let before : held h ≡ [] = ap (λ a. waiting_on a h) l in
    ap (λ ms. blocks_of ms + 0) (after ∙ sym before)
kind_keeps h who call reply (Changes id cred to now) legal l =
    ap (λ ms. blocks_of ms + 0) (ap messages_in (after_changed h who id cred to now))
kind_keeps h who call reply (Discards id cred messages) legal l =
    let after : held (then_turn h who call reply) ≡ [] = ap messages_in (after_removed h who id cred messages) in
    omega (arith, ap blocks_of after, ap blocks_of l.2)
kind_keeps h who call reply (Accepts id cred mtype bytes now number) legal l =
    let m : Message = record { number = number; sender = cred.pid; mtype = mtype; bytes = bytes } in
    let after : held (then_turn h who call reply) ≡ held h ++ m ∷ [] =
    ap messages_in (after_sent h who id cred mtype bytes now number legal l.0 l.3) in
    omega (arith, ap blocks_of after, blocks_of-push (held h) m)
kind_keeps h who call reply (Takes id cred selector size noerror now m) legal l =
    let place : ℕ = l.2.0 in
    let after : held (then_turn h who call reply) ≡ remove (held h) place =
    ap messages_in (after_taken h who id cred selector size noerror now m place legal l.0 l.2.2) in
    omega (arith, ap blocks_of after, blocks_of-remove (held h) place m l.2.2)

pub turn_keeps_blocks : TurnKeepsBlocks
turn_keeps_blocks h who call reply legal l = kind_keeps h who call reply (kind_of (slot_of h) call reply l) legal l

pub slot_keeps_blocks : SlotKeepsBlocks
slot_keeps_blocks h who old new call reply st turn =
    let l : IsLegalReply h call reply = subst (λ (s : Slot). Legal s call reply) (sym st.seen) turn.legal in
    let kept = turn_keeps_blocks h who call reply st.legal l in
    let before : held h ≡ old.messages = ap messages_in st.seen in
    let after : held (then_turn h who call reply) ≡ new.messages = ap messages_in (turn.stands h who st).seen in
    omega (arith, kept, ap blocks_of before, ap blocks_of after)
