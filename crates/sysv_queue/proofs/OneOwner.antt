-- No two identifiers share an acceptance number.
use Rattle.std.proofs.Common.{◌≡◌, ℕ, ℤ, inl, inr, true, List, sym, ap, subst, ◌∙◌, arith}
use Rattle.std.specs.Ordering.{int_eq}
use Rattle.std.specs.List.{Contains}
use Rattle.std.proofs.lemmas.Bool.Decides.{Decides-int_eq}
use Rattle.sysv_model.specs.declared.cred.Cred.{Cred}
use Rattle.sysv_model.specs.Message.{Message}
use Rattle.sysv_model.specs.History.{Who, Call, Install, Place, Set, Reply, Installed, Accepted, Done, Entry, History}
use Rattle.sysv_model.specs.History.{then_turn, arrived}
use Rattle.sysv_model.specs.Waiting.{accepted}
use Rattle.sysv_queue.specs.Slot.{slot_of}
use Rattle.sysv_queue.specs.LegalReply.{IsLegalReply, IsLegalHistory}
use Rattle.sysv_model.proofs.Snoc.{from_end}
use Rattle.sysv_queue.proofs.Legality.{legal_front, legal_last}
use Rattle.sysv_queue.proofs.Filters.{below_of}
use Rattle.sysv_queue.proofs.Turns.{Kind, Quiet, Makes, Accepts, Takes, Changes, Discards, accepted-more}
use Rattle.sysv_queue.proofs.Turns.{accepted-still, still_install, still_set, kind_of}
use Rattle.sysv_queue.proofs.Facts.{Facts, facts, accepted-taken, accepted-removed}
use Rattle.sysv_queue.proofs.Order.{nothing_in, old_or_new}

abbrev pub OneOwner : History → Type 0
OneOwner h = (id other : ℤ) (m n : Message) → Contains (accepted id h) m → Contains (accepted other h) n →
    m.number ≡ n.number → id ≡ other

-- A turn that accepts nothing.
owner_kept : (h k : History) → ((id : ℤ) → accepted id k ≡ accepted id h) → OneOwner h → OneOwner k
owner_kept h k all o = λ id other m n a b same.
    o id other m n (subst (λ ms. Contains ms m) (all id) a) (subst (λ ms. Contains ms n) (all other) b) same

owner_sent : (h : History) (who : Who) (f : Facts h) (at : ℤ) (cred : Cred) (mtype : ℤ) (bytes : List ℕ)
    (now number : ℕ) → number ≡ arrived h → OneOwner h →
    OneOwner (then_turn h who (Place at cred mtype bytes now) (Accepted number))
owner_sent h who f at cred mtype bytes now number numbered o = λ id other m n a b same.
    let e : Entry = record { who = who; call = Place at cred mtype bytes now; reply = Accepted number } in
    let sent : Message = record { number = number; sender = cred.pid; mtype = mtype; bytes = bytes } in
    let one = old_or_new (int_eq at id) (accepted id h) sent m (subst (λ ms. Contains ms m) (accepted-more id h e) a) in
    let two =
    old_or_new (int_eq at other) (accepted other h) sent n (subst (λ ms. Contains ms n) (accepted-more other h e) b) in
    elim one [
      | inl old ↦ elim two [
        | inl older ↦ o id other m n old older same
        | inr new ↦
            let low = below_of (arrived h) (accepted id h) m (f.low id) old in
            let number_is = ap (λ (x : Message). x.number) new.1 in
            absurd (omega arith)
      ]
      | inr new ↦ elim two [
        | inl old ↦
            let low = below_of (arrived h) (accepted other h) n (f.low other) old in
            let number_is = ap (λ (x : Message). x.number) new.1 in
            absurd (omega arith)
        | inr newer ↦ sym ((Decides-int_eq at id).0 new.0) ∙ (Decides-int_eq at other).0 newer.0
      ]
    ]

owner_more : (h : History) (who : Who) (call : Call) (reply : Reply) → Kind call reply → Facts h →
    IsLegalReply h call reply → OneOwner h → OneOwner (then_turn h who call reply)
owner_more h who call reply (Quiet q) f l o = owner_kept h (then_turn h who call reply)
    (accepted-still h (record { who = who; call = call; reply = reply }) q.still) o
owner_more h who call reply (Makes id key cred mode now) f l o =
    owner_kept h (then_turn h who call reply)
    (accepted-still h (record { who = who; call = Install id key cred mode now; reply = Installed true })
    (still_install id key cred mode now true)) o
owner_more h who call reply (Accepts id cred mtype bytes now number) f l o =
    owner_sent h who f id cred mtype bytes now number l.3 o
owner_more h who call reply (Takes id cred selector size noerror now m) f l o =
    owner_kept h (then_turn h who call reply)
    (accepted-taken h who f id cred selector size noerror now m l.2.0 l.0 l.2.2) o
owner_more h who call reply (Changes id cred to now) f l o =
    owner_kept h (then_turn h who call reply)
    (accepted-still h (record { who = who; call = Set id cred to now; reply = Done }) (still_set id cred to now Done)) o
owner_more h who call reply (Discards id cred messages) f l o =
    owner_kept h (then_turn h who call reply) (accepted-removed h who f id cred messages l.0 l.2) o

pub one_owner : (h : History) → IsLegalHistory h → OneOwner h
one_owner =
    from_end (λ (h : History). IsLegalHistory h → OneOwner h) (λ _ id other m n a b same. absurd (nothing_in m a))
    (λ h e before legal.
    owner_more h e.who e.call e.reply (kind_of (slot_of h) e.call e.reply (legal_last h e legal))
    (facts h (legal_front h e legal)) (legal_last h e legal) (before (legal_front h e legal)))
