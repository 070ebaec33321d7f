-- The turns of a slot that represents a history.
use Rattle.std.proofs.Common.{◌≡◌, ℕ, ℤ, ◌+◌, Bool, true, List, [], ◌∷◌, ◌++◌, Option, None, Some, refl, sym, ap, subst}
use Rattle.std.proofs.Common.{◌∙◌, option_map, remove, slice_get}
use Rattle.sysv_model.specs.declared.cred.Cred.{Cred}
use Rattle.sysv_model.specs.declared.attributes.Attributes.{Attributes}
use Rattle.sysv_model.specs.declared.attributes.SetTo.{SetTo}
use Rattle.sysv_model.specs.Message.{Message}
use Rattle.sysv_model.specs.declared.selector.Selector.{Selector}
use Rattle.sysv_model.specs.History.{Who, Call, Install, Place, Take, Set, Remove, Reply, Installed, Accepted, Taken}
use Rattle.sysv_model.specs.History.{Done, Discarded, Entry, History, then_turn, arrived, freed}
use Rattle.sysv_model.specs.Live.{live, HasId, created, sent_to, received_from, changed_to}
use Rattle.sysv_model.specs.Waiting.{waiting_on, waiting, held}
use Rattle.sysv_queue.specs.Slot.{Slot, slot_of}
use Rattle.sysv_queue.specs.LegalReply.{Legal, IsLegalHistory}
use Rattle.sysv_queue.specs.Represents.{Represents, MakesTurn}
use Rattle.sysv_queue.proofs.Legality.{legal_empty, legal_more}
use Rattle.sysv_queue.proofs.Turns.{IsStill, IsQuiet, live-more, arrived-more, freed-more, arrived-still, freed-still}
use Rattle.sysv_queue.proofs.Turns.{waiting-still, still_install, silent_install, still_set}
use Rattle.sysv_queue.proofs.Ids.{waiting_on-id, keeps_id}
use Rattle.sysv_queue.proofs.Facts.{facts, waiting-sent, arrived-sent, waiting-taken, arrived-taken}
use Rattle.std.proofs.Common.{add-zero}

pub stands_empty : Represents [] record { live = None; messages = []; arrived = 0; freed = 0 }
stands_empty = record { legal = legal_empty; seen = refl }

abbrev pub slot : Option Attributes → List Message → ℕ → ℕ → Slot
slot l ms a f = record { live = l; messages = ms; arrived = a; freed = f }

pub same_slot : (l l' : Option Attributes) (ms ms' : List Message) (a a' f f' : ℕ) → l ≡ l' → ms ≡ ms' → a ≡ a' →
    f ≡ f' → slot l ms a f ≡ slot l' ms' a' f'
same_slot l l' ms ms' a a' f f' e1 e2 e3 e4 =
    ap (λ x. slot x ms a f) e1
    ∙ (ap (λ x. slot l' x a f) e2 ∙ (ap (λ x. slot l' ms' x f) e3 ∙ ap (λ x. slot l' ms' a' x) e4))

-- The messages of the live queue after a turn that leaves every message where it is.
held_still : (h : History) (e : Entry) (l : Option Attributes) → IsStill e.call e.reply →
    waiting_on l (h ++ e ∷ []) ≡ waiting_on l h
held_still h e None s = refl
held_still h e (Some a) s = waiting-still h e s a.id

-- A change that keeps the identifier keeps the queued messages.
held_changed : (f : Attributes → Attributes) → ((a : Attributes) → (f a).id ≡ a.id) → (l : Option Attributes)
    (h : History) → waiting_on (option_map f l) h ≡ waiting_on l h
held_changed f same None h = refl
held_changed f same (Some a) h = ap (λ i. waiting i h) (same a)

pub after_quiet : (h : History) (who : Who) (call : Call) (reply : Reply) → IsQuiet call reply →
    slot_of (then_turn h who call reply) ≡ slot_of h
after_quiet h who call reply q =
    let e : Entry = record { who = who; call = call; reply = reply } in
    let same_live : live (h ++ e ∷ []) ≡ live h = live-more h e ∙ q.live (live h) in
    same_slot _ _ _ _ _ _ _ _ same_live
    (ap (λ l. waiting_on l (h ++ e ∷ [])) same_live ∙ held_still h e (live h) q.still) (arrived-still h e q.silent)
    (freed-still h e q.silent)

pub after_made : (h : History) (who : Who) (id key : ℤ) (cred : Cred) (mode now : ℕ) → IsLegalHistory h →
    live h ≡ None →
    slot_of (then_turn h who (Install id key cred mode now) (Installed true))
    ≡ slot (Some (created id key cred mode now)) [] (arrived h) (freed h)
after_made h who id key cred mode now legal vacant =
    let e : Entry = record { who = who; call = Install id key cred mode now; reply = Installed true } in
    let s = still_install id key cred mode now true in
    let silent = silent_install id key cred mode now true in
    let none : waiting id h ≡ [] = (facts h legal).others id (λ lives. subst (λ l. HasId l id) vacant lives) in
    same_slot _ _ _ _ _ _ _ _ (live-more h e)
    (ap (λ l. waiting_on l (h ++ e ∷ [])) (live-more h e) ∙ (waiting-still h e s id ∙ none))
    (arrived-still h e silent) (freed-still h e silent)

pub after_sent : (h : History) (who : Who) (id : ℤ) (cred : Cred) (mtype : ℤ) (bytes : List ℕ) (now number : ℕ) →
    IsLegalHistory h → HasId (live h) id → number ≡ arrived h →
    slot_of (then_turn h who (Place id cred mtype bytes now) (Accepted number))
    ≡ slot (option_map (sent_to cred now) (live h))
    (held h ++ record { number = number; sender = cred.pid; mtype = mtype; bytes = bytes } ∷ []) (arrived h + 1)
    (freed h)
after_sent h who id cred mtype bytes now number legal lives numbered =
    let f = facts h legal in
    let e : Entry = record { who = who; call = Place id cred mtype bytes now; reply = Accepted number } in
    let m : Message = record { number = number; sender = cred.pid; mtype = mtype; bytes = bytes } in
    let after : waiting_on (live (h ++ e ∷ [])) (h ++ e ∷ []) ≡ held h ++ m ∷ [] =
    ap (λ l. waiting_on l (h ++ e ∷ [])) (live-more h e)
    ∙ (waiting_on-id (option_map (sent_to cred now) (live h)) id (h ++ e ∷ [])
    (keeps_id (sent_to cred now) (λ a. refl) (live h) id lives)
    ∙ (waiting-sent h who f id cred mtype bytes now number lives numbered
    ∙ ap (λ ms. ms ++ m ∷ []) (sym (waiting_on-id (live h) id h lives)))) in
    same_slot _ _ _ _ _ _ _ _ (live-more h e) after (arrived-sent h who f id cred mtype bytes now number lives numbered)
    (freed-more h e ∙ add-zero _)

pub after_taken : (h : History) (who : Who) (id : ℤ) (cred : Cred) (selector : Selector) (size : ℕ) (noerror : Bool)
    (now : ℕ) (m : Message) (place : ℕ) → IsLegalHistory h → HasId (live h) id → slice_get (held h) place ≡ Some m →
    slot_of (then_turn h who (Take id cred selector size noerror now) (Taken m))
    ≡ slot (option_map (received_from cred now) (live h)) (remove (held h) place) (arrived h) (freed h + 1)
after_taken h who id cred selector size noerror now m place legal lives there =
    let f = facts h legal in
    let e : Entry = record { who = who; call = Take id cred selector size noerror now; reply = Taken m } in
    let after : waiting_on (live (h ++ e ∷ [])) (h ++ e ∷ []) ≡ remove (held h) place =
    ap (λ l. waiting_on l (h ++ e ∷ [])) (live-more h e)
    ∙ (waiting_on-id (option_map (received_from cred now) (live h)) id (h ++ e ∷ [])
    (keeps_id (received_from cred now) (λ a. refl) (live h) id lives)
    ∙ (waiting-taken h who f id cred selector size noerror now m place lives there
    ∙ ap (λ ms. remove ms place) (sym (waiting_on-id (live h) id h lives)))) in
    same_slot _ _ _ _ _ _ _ _ (live-more h e) after
    (arrived-taken h who f id cred selector size noerror now m place lives there) (freed-more h e)

pub after_changed : (h : History) (who : Who) (id : ℤ) (cred : Cred) (to : SetTo) (now : ℕ) →
    slot_of (then_turn h who (Set id cred to now) Done)
    ≡ slot (option_map (changed_to to now) (live h)) (held h) (arrived h + 1) (freed h + 1)
after_changed h who id cred to now =
    let e : Entry = record { who = who; call = Set id cred to now; reply = Done } in
    same_slot _ _ _ _ _ _ _ _ (live-more h e)
    (ap (λ l. waiting_on l (h ++ e ∷ [])) (live-more h e)
    ∙ (held_still h e (option_map (changed_to to now) (live h)) (still_set id cred to now Done)
    ∙ held_changed (changed_to to now) (λ a. refl) (live h) h))
    (arrived-more h e) (freed-more h e)

pub after_removed : (h : History) (who : Who) (id : ℤ) (cred : Cred) (messages : List Message) →
    slot_of (then_turn h who (Remove id cred) (Discarded messages)) ≡ slot None [] (arrived h + 1) (freed h + 1)
after_removed h who id cred messages =
    let e : Entry = record { who = who; call = Remove id cred; reply = Discarded messages } in
    same_slot _ _ _ _ _ _ _ _ (live-more h e) (ap (λ l. waiting_on l (h ++ e ∷ [])) (live-more h e)) (arrived-more h e)
    (freed-more h e)

-- A call makes a turn if its reply is legal and the slot changes as each history does.
makes_turn : (old new : Slot) (call : Call) (reply : Reply) → Legal old call reply →
    ((h : History) (who : Who) → Represents h old → slot_of (then_turn h who call reply) ≡ new) →
    MakesTurn old call reply new
makes_turn old new call reply legal goes_on = record {
  legal = legal;
  stands = λ h who s. record {
    legal = legal_more h (record { who = who; call = call; reply = reply }) s.legal
        (subst (λ x. Legal x call reply) (sym s.seen) legal);
    seen = goes_on h who s;
  };
}

pub turn_quiet : (s : Slot) (call : Call) (reply : Reply) → IsQuiet call reply → Legal s call reply →
    MakesTurn s call reply s
turn_quiet s call reply q legal = makes_turn s s call reply legal (λ h who st. after_quiet h who call reply q ∙ st.seen)

-- Nothing is queued in a vacant slot.
vacant_holds : (s : Slot) (h : History) → Represents h s → s.live ≡ None → s.messages ≡ []
vacant_holds s h st vacant =
    sym (ap (λ (x : Slot). x.messages) st.seen) ∙ ap (λ l. waiting_on l h) (ap (λ (x : Slot). x.live) st.seen ∙ vacant)

pub turn_made : (s : Slot) (id key : ℤ) (cred : Cred) (mode now : ℕ) → s.live ≡ None →
    MakesTurn s (Install id key cred mode now) (Installed true)
    (slot (Some (created id key cred mode now)) s.messages s.arrived s.freed)
turn_made s id key cred mode now vacant = makes_turn s _ _ _ vacant
    (λ h who st. after_made h who id key cred mode now st.legal (ap (λ (x : Slot). x.live) st.seen ∙ vacant)
    ∙ (ap (λ (x : Slot). slot (Some (created id key cred mode now)) [] x.arrived x.freed) st.seen
    ∙ ap (λ ms. slot (Some (created id key cred mode now)) ms s.arrived s.freed) (sym (vacant_holds s h st vacant))))

pub turn_sent : (s : Slot) (id : ℤ) (cred : Cred) (mtype : ℤ) (bytes : List ℕ) (now number : ℕ) →
    Legal s (Place id cred mtype bytes now) (Accepted number) →
    MakesTurn s (Place id cred mtype bytes now) (Accepted number)
    (slot (option_map (sent_to cred now) s.live)
    (s.messages ++ record { number = number; sender = cred.pid; mtype = mtype; bytes = bytes } ∷ []) (s.arrived + 1)
    s.freed)
turn_sent s id cred mtype bytes now number legal = makes_turn s _ _ _ legal
    (λ h who st. after_sent h who id cred mtype bytes now number st.legal
    (subst (λ (x : Slot). HasId x.live id) (sym st.seen) legal.0) (legal.3 ∙ sym (ap (λ (x : Slot). x.arrived) st.seen))
    ∙ ap (λ (x : Slot).
    slot (option_map (sent_to cred now) x.live)
    (x.messages ++ record { number = number; sender = cred.pid; mtype = mtype; bytes = bytes } ∷ []) (x.arrived + 1)
    x.freed) st.seen)

pub turn_taken : (s : Slot) (id : ℤ) (cred : Cred) (selector : Selector) (size : ℕ) (noerror : Bool) (now : ℕ)
    (m : Message) (place : ℕ) → slice_get s.messages place ≡ Some m →
    Legal s (Take id cred selector size noerror now) (Taken m) →
    MakesTurn s (Take id cred selector size noerror now) (Taken m)
    (slot (option_map (received_from cred now) s.live) (remove s.messages place) s.arrived (s.freed + 1))
turn_taken s id cred selector size noerror now m place there legal = makes_turn s _ _ _ legal
    (λ h who st. after_taken h who id cred selector size noerror now m place st.legal
    (subst (λ (x : Slot). HasId x.live id) (sym st.seen) legal.0)
    (subst (λ (x : Slot). slice_get x.messages place ≡ Some m) (sym st.seen) there)
    ∙ ap (λ (x : Slot).
    slot (option_map (received_from cred now) x.live) (remove x.messages place) x.arrived (x.freed + 1)) st.seen)

pub turn_changed : (s : Slot) (id : ℤ) (cred : Cred) (to : SetTo) (now : ℕ) → Legal s (Set id cred to now) Done →
    MakesTurn s (Set id cred to now) Done
    (slot (option_map (changed_to to now) s.live) s.messages (s.arrived + 1) (s.freed + 1))
turn_changed s id cred to now legal = makes_turn s _ _ _ legal
    (λ h who st. after_changed h who id cred to now
    ∙ ap (λ (x : Slot). slot (option_map (changed_to to now) x.live) x.messages (x.arrived + 1) (x.freed + 1)) st.seen)

pub turn_removed : (s : Slot) (id : ℤ) (cred : Cred) → Legal s (Remove id cred) (Discarded s.messages) →
    MakesTurn s (Remove id cred) (Discarded s.messages) (slot None [] (s.arrived + 1) (s.freed + 1))
turn_removed s id cred legal = makes_turn s _ _ _ legal
    (λ h who st.
    after_removed h who id cred s.messages ∙ ap (λ (x : Slot). slot None [] (x.arrived + 1) (x.freed + 1)) st.seen)
