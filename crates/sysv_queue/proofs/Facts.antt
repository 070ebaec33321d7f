-- What holds of every legal history. The lemmas about one more turn use it.
use Rattle.std.proofs.Common.{◌≡◌, ℕ, zero, suc, ℤ, ◌+◌, ◌<◌, ◌≤◌, inl, inr, append_assoc, Bool, true, false, cond}
use Rattle.std.proofs.Common.{List, [], ◌∷◌, ◌++◌, Option, None, Some, refl, sym, ap, subst, ◌∙◌, arith, slice_get}
use Rattle.std.proofs.Common.{remove, add-zero}
use Rattle.std.specs.Ordering.{int_eq}
use Rattle.std.specs.List.{AllByRecursion}
use Rattle.std.proofs.lemmas.List.{append-nil}
use Rattle.sysv_model.specs.declared.cred.Cred.{Cred}
use Rattle.sysv_model.specs.declared.attributes.Attributes.{Attributes}
use Rattle.sysv_model.specs.Message.{Message}
use Rattle.sysv_model.specs.declared.selector.Selector.{Selector}
use Rattle.sysv_model.specs.History.{Who, Call, Install, Place, Take, Remove, Reply, Installed, Accepted, Taken, Done}
use Rattle.sysv_model.specs.History.{Discarded, Entry, History, then_turn, arrived}
use Rattle.sysv_model.specs.Live.{live, HasId, IsLive, sent_to, received_from, changed_to}
use Rattle.sysv_model.specs.Waiting.{accepted, delivered, discarded, waiting, held, has_number}
use Rattle.sysv_queue.specs.Slot.{slot_of}
use Rattle.sysv_queue.specs.LegalReply.{IsLegalReply, IsLegalHistory}
use Rattle.sysv_model.proofs.Snoc.{from_end}
use Rattle.sysv_queue.proofs.Legality.{legal_front, legal_last}
use Rattle.sysv_queue.proofs.Filters.{Rises, AreBelow, weaker, pushed, filtered, rises_push, rises_filter, below_append}
use Rattle.sysv_queue.proofs.Filters.{waiting_from, is_new, waiting-accepted, waiting_less, waiting_swapped, none_left}
use Rattle.sysv_queue.proofs.Filters.{filter-remove}
use Rattle.sysv_queue.proofs.Turns.{Kind, Quiet, Makes, Accepts, Takes, Changes, Discards, IsStill, accepted-more}
use Rattle.sysv_queue.proofs.Turns.{delivered-more, discarded-more, live-more, arrived-more, arrived_grows}
use Rattle.sysv_queue.proofs.Turns.{accepted-still, delivered-still, discarded-still, waiting-still, still_install}
use Rattle.sysv_queue.proofs.Turns.{still_set, kind_of}
use Rattle.sysv_queue.proofs.Ids.{same_id, other_id, one_id, decided, waiting_on-id, keeps_id}

pub record Facts (h : History) : Type 0 where
  -- acceptance numbers are below the arrived count, and rise
  pub low : (id : ℤ) → AreBelow (arrived h) (accepted id h)
  pub rises : (id : ℤ) → Rises (accepted id h)
  -- the numbers of delivered and of discarded messages are below it too
  pub gone_low : (id : ℤ) → AreBelow (arrived h) (delivered id h)
  pub lost_low : (id : ℤ) → AreBelow (arrived h) (discarded id h)
  -- nothing is queued under an identifier that is not live
  pub others : (id : ℤ) → ¬ IsLive h id → waiting id h ≡ []

pub facts_empty : Facts []
facts_empty =
    record { low = λ id. tt; rises = λ id. tt; gone_low = λ id. tt; lost_low = λ id. tt; others = λ id f. refl }

pub at_place : {X : Type 0} (P : X → Type 0) (xs : List X) (place : ℕ) (x : X) → AllByRecursion P xs →
    slice_get xs place ≡ Some x → P x
at_place P [] place x a e = absurd cc
at_place P (y ∷ xs) zero x a e = let same : y ≡ x = cc in subst P same a.0
at_place P (y ∷ xs) (suc place) x a e = at_place P xs place x a.1 e

pub later : (m n : ℕ) (xs : List Message) → m ≤ n → AreBelow m xs → AreBelow n xs
later m n xs le a = weaker (λ (x : Message). x.number < m) (λ (x : Message). x.number < n) (λ x p. omega arith) xs a

-- The numbers of the queued messages are below the arrived count, and rise.
pub waiting_low : (h : History) (id : ℤ) → Facts h → AreBelow (arrived h) (waiting id h)
waiting_low h id f = filtered _ (λ (x : Message). x.number < arrived h) (accepted id h) (f.low id)

-- Nothing that was delivered or discarded has the arrived count as its number.
pub none_gone : (h : History) (id : ℤ) → Facts h → has_number (arrived h) (delivered id h ++ discarded id h) ≡ false
none_gone h id f = is_new (arrived h) (delivered id h ++ discarded id h)
    (below_append (arrived h) (delivered id h) (discarded id h) (f.gone_low id) (f.lost_low id))

pub waiting_rises : (h : History) (id : ℤ) → Facts h → Rises (waiting id h)
waiting_rises h id f = rises_filter _ (accepted id h) (f.rises id)

module _ (h : History) (who : Who) (f : Facts h) where
  still_facts : (call : Call) (reply : Reply) → IsStill call reply →
      ((id : ℤ) → ¬ IsLive (then_turn h who call reply) id → waiting id h ≡ []) → Facts (then_turn h who call reply)
  still_facts call reply s others =
      let e : Entry = record { who = who; call = call; reply = reply } in
      let k : History = h ++ e ∷ [] in
      let grows : arrived h ≤ arrived k = arrived_grows h e in
      record {
        low = λ id.
            subst (AreBelow (arrived k)) (sym (accepted-still h e s id))
            (later (arrived h) (arrived k) (accepted id h) grows (f.low id));
        rises = λ id. subst Rises (sym (accepted-still h e s id)) (f.rises id);
        gone_low = λ id.
            subst (AreBelow (arrived k)) (sym (delivered-still h e s id))
            (later (arrived h) (arrived k) (delivered id h) grows (f.gone_low id));
        lost_low = λ id.
            subst (AreBelow (arrived k)) (sym (discarded-still h e s id))
            (later (arrived h) (arrived k) (discarded id h) grows (f.lost_low id));
        others = λ id g. waiting-still h e s id ∙ others id g;
      }

  made_facts : (id key : ℤ) (cred : Cred) (mode now : ℕ) → live h ≡ None →
      Facts (then_turn h who (Install id key cred mode now) (Installed true))
  made_facts id key cred mode now vacant =
      still_facts (Install id key cred mode now) (Installed true) (still_install id key cred mode now true)
      (λ i g. f.others i (λ lives. subst (λ l. HasId l i) vacant lives))

low_with : (b : Bool) (n : ℕ) (xs : List Message) (m : Message) → AreBelow n xs → m.number ≡ n →
    AreBelow (n + 1) (xs ++ cond b (m ∷ []) [])
low_with true n xs m a e =
    pushed (λ (x : Message). x.number < n + 1) xs m (later n (n + 1) xs (omega arith) a) (omega (arith, e))
low_with false n xs m a e = subst (λ ys. AreBelow (n + 1) ys) (sym (append-nil xs)) (later n (n + 1) xs (omega arith) a)

rises_with : (b : Bool) (xs : List Message) (m : Message) → Rises xs → AreBelow m.number xs →
    Rises (xs ++ cond b (m ∷ []) [])
rises_with true xs m r a = rises_push xs m r a
rises_with false xs m r a = subst Rises (sym (append-nil xs)) r

below_with : (b : Bool) (n : ℕ) (xs : List Message) (m : Message) → AreBelow n xs → m.number < n →
    AreBelow n (xs ++ cond b (m ∷ []) [])
below_with true n xs m a l = pushed (λ (x : Message). x.number < n) xs m a l
below_with false n xs m a l = subst (λ ys. AreBelow n ys) (sym (append-nil xs)) a

pub none_with : (b : Bool) (xs : List Message) (m : Message) → b ≡ false → xs ++ cond b (m ∷ []) [] ≡ xs
none_with b xs m e = ap (λ t. xs ++ cond t (m ∷ []) []) e ∙ append-nil xs

-- A turn that accepts a message.
module _ (h : History) (who : Who) (f : Facts h) (at : ℤ) (cred : Cred) (mtype : ℤ) (bytes : List ℕ) (now number : ℕ)
    (live_at : HasId (live h) at) (numbered : number ≡ arrived h) where
  abbrev pub sent_message : Message
  sent_message = record { number = number; sender = cred.pid; mtype = mtype; bytes = bytes }

  abbrev pub sent_turn : Entry
  sent_turn = record { who = who; call = Place at cred mtype bytes now; reply = Accepted number }

  pub delivered-sent : (id : ℤ) → delivered id (h ++ sent_turn ∷ []) ≡ delivered id h
  delivered-sent id = delivered-more id h sent_turn ∙ append-nil _

  pub discarded-sent : (id : ℤ) → discarded id (h ++ sent_turn ∷ []) ≡ discarded id h
  discarded-sent id = discarded-more id h sent_turn ∙ append-nil _

  low_number : (id : ℤ) → AreBelow number (accepted id h)
  low_number id = subst (λ n. AreBelow n (accepted id h)) (sym numbered) (f.low id)

  pub accepted-sent : accepted at (h ++ sent_turn ∷ []) ≡ accepted at h ++ sent_message ∷ []
  accepted-sent =
      accepted-more at h sent_turn ∙ ap (λ t. accepted at h ++ cond t (sent_message ∷ []) []) (same_id at at refl)

  pub accepted_else : (id : ℤ) → ¬ (at ≡ id) → accepted id (h ++ sent_turn ∷ []) ≡ accepted id h
  accepted_else id other =
      accepted-more id h sent_turn ∙ none_with (int_eq at id) (accepted id h) sent_message (other_id at id other)

  pub waiting_else : (id : ℤ) → ¬ (at ≡ id) → waiting id (h ++ sent_turn ∷ []) ≡ waiting id h
  waiting_else id other =
      let e = sent_turn in
      ap (λ ms. waiting_from ms (delivered id (h ++ e ∷ []) ++ discarded id (h ++ e ∷ []))) (accepted_else id other)
      ∙ (ap (λ ms. waiting_from (accepted id h) (ms ++ discarded id (h ++ e ∷ []))) (delivered-sent id)
      ∙ ap (λ ms. waiting_from (accepted id h) (delivered id h ++ ms)) (discarded-sent id))

  pub waiting-sent : waiting at (h ++ sent_turn ∷ []) ≡ waiting at h ++ sent_message ∷ []
  waiting-sent =
      let e = sent_turn in
      let gone : List Message = delivered at h ++ discarded at h in
      let new : has_number number gone ≡ false = ap (λ n. has_number n gone) numbered ∙ none_gone h at f in
      ap (λ ms. waiting_from ms (delivered at (h ++ e ∷ []) ++ discarded at (h ++ e ∷ []))) accepted-sent
      ∙ (ap (λ ms. waiting_from (accepted at h ++ sent_message ∷ []) (ms ++ discarded at (h ++ e ∷ [])))
      (delivered-sent at)
      ∙ (ap (λ ms. waiting_from (accepted at h ++ sent_message ∷ []) (delivered at h ++ ms)) (discarded-sent at)
      ∙ waiting-accepted (accepted at h) gone sent_message new))

  pub arrived-sent : arrived (h ++ sent_turn ∷ []) ≡ arrived h + 1
  arrived-sent = arrived-more h sent_turn

  sent_facts : Facts (h ++ sent_turn ∷ [])
  sent_facts =
      let e = sent_turn in
      let k : History = h ++ e ∷ [] in
      record {
        low = λ id. subst (λ n. AreBelow n (accepted id k)) (sym arrived-sent)
            (subst (λ ms. AreBelow (arrived h + 1) ms) (sym (accepted-more id h e))
            (low_with (int_eq at id) (arrived h) (accepted id h) sent_message (f.low id) numbered));
        rises = λ id.
            subst Rises (sym (accepted-more id h e))
            (rises_with (int_eq at id) (accepted id h) sent_message (f.rises id) (low_number id));
        gone_low = λ id. subst (λ n. AreBelow n (delivered id k)) (sym arrived-sent)
            (subst (λ ms. AreBelow (arrived h + 1) ms) (sym (delivered-sent id))
            (later (arrived h) (arrived h + 1) (delivered id h) (omega arith) (f.gone_low id)));
        lost_low = λ id. subst (λ n. AreBelow n (discarded id k)) (sym arrived-sent)
            (subst (λ ms. AreBelow (arrived h + 1) ms) (sym (discarded-sent id))
            (later (arrived h) (arrived h + 1) (discarded id h) (omega arith) (f.lost_low id)));
        others = λ id g.
            let still_live : HasId (live h) id → HasId (live k) id = λ l.
            subst (λ q. HasId q id) (sym (live-more h e)) (keeps_id (sent_to cred now) (λ a. refl) (live h) id l) in
            waiting_else id (λ same. g (still_live (subst (λ i. HasId (live h) i) same live_at)))
            ∙ f.others id (λ l. g (still_live l));
      }

-- A turn that delivers the message at a place.
module _ (h : History) (who : Who) (f : Facts h) (at : ℤ) (cred : Cred) (selector : Selector) (size : ℕ)
    (noerror : Bool) (now : ℕ) (m : Message) (place : ℕ) (live_at : HasId (live h) at)
    (there : slice_get (held h) place ≡ Some m) where
  abbrev pub taken_turn : Entry
  taken_turn = record { who = who; call = Take at cred selector size noerror now; reply = Taken m }

  pub accepted-taken : (id : ℤ) → accepted id (h ++ taken_turn ∷ []) ≡ accepted id h
  accepted-taken id = accepted-more id h taken_turn ∙ append-nil _

  pub discarded-taken : (id : ℤ) → discarded id (h ++ taken_turn ∷ []) ≡ discarded id h
  discarded-taken id = discarded-more id h taken_turn ∙ append-nil _

  pub arrived-taken : arrived (h ++ taken_turn ∷ []) ≡ arrived h
  arrived-taken = arrived-more h taken_turn ∙ add-zero _

  pub there_at : slice_get (waiting at h) place ≡ Some m
  there_at = subst (λ ms. slice_get ms place ≡ Some m) (waiting_on-id (live h) at h live_at) there

  pub taken_low : m.number < arrived h
  taken_low = at_place (λ (x : Message). x.number < arrived h) (waiting at h) place m (waiting_low h at f) there_at

  pub delivered-taken : delivered at (h ++ taken_turn ∷ []) ≡ delivered at h ++ m ∷ []
  delivered-taken = delivered-more at h taken_turn ∙ ap (λ t. delivered at h ++ cond t (m ∷ []) []) (same_id at at refl)

  pub delivered_else : (id : ℤ) → ¬ (at ≡ id) → delivered id (h ++ taken_turn ∷ []) ≡ delivered id h
  delivered_else id other =
      delivered-more id h taken_turn ∙ none_with (int_eq at id) (delivered id h) m (other_id at id other)

  pub untouched : (id : ℤ) → ¬ (at ≡ id) → waiting id (h ++ taken_turn ∷ []) ≡ waiting id h
  untouched id other =
      let e = taken_turn in
      ap (λ ms. waiting_from ms (delivered id (h ++ e ∷ []) ++ discarded id (h ++ e ∷ []))) (accepted-taken id)
      ∙ (ap (λ ms. waiting_from (accepted id h) (ms ++ discarded id (h ++ e ∷ []))) (delivered_else id other)
      ∙ ap (λ ms. waiting_from (accepted id h) (delivered id h ++ ms)) (discarded-taken id))

  taken_facts : Facts (h ++ taken_turn ∷ [])
  taken_facts =
      let e = taken_turn in
      let k : History = h ++ e ∷ [] in
      record {
        low = λ id.
            subst (λ n. AreBelow n (accepted id k)) (sym arrived-taken)
            (subst (λ ms. AreBelow (arrived h) ms) (sym (accepted-taken id)) (f.low id));
        rises = λ id. subst Rises (sym (accepted-taken id)) (f.rises id);
        gone_low = λ id. subst (λ n. AreBelow n (delivered id k)) (sym arrived-taken)
            (subst (λ ms. AreBelow (arrived h) ms) (sym (delivered-more id h e))
            (below_with (int_eq at id) (arrived h) (delivered id h) m (f.gone_low id) taken_low));
        lost_low = λ id.
            subst (λ n. AreBelow n (discarded id k)) (sym arrived-taken)
            (subst (λ ms. AreBelow (arrived h) ms) (sym (discarded-taken id)) (f.lost_low id));
        others = λ id g.
            let still_live : HasId (live h) id → HasId (live k) id = λ l.
            subst (λ q. HasId q id) (sym (live-more h e))
            (keeps_id (received_from cred now) (λ a. refl) (live h) id l) in
            untouched id (λ same. g (still_live (subst (λ i. HasId (live h) i) same live_at)))
            ∙ f.others id (λ l. g (still_live l));
      }

  pub waiting-taken : waiting at (h ++ taken_turn ∷ []) ≡ remove (waiting at h) place
  waiting-taken =
      let e = taken_turn in
      let gone_after : delivered at (h ++ e ∷ []) ++ discarded at (h ++ e ∷ [])
      ≡ (delivered at h ++ m ∷ []) ++ discarded at h =
      ap (λ ms. delivered at (h ++ e ∷ []) ++ ms) (discarded-taken at)
      ∙ ap (λ ms. ms ++ discarded at h) delivered-taken in
      ap (λ ms. waiting_from ms (delivered at (h ++ e ∷ []) ++ discarded at (h ++ e ∷ []))) (accepted-taken at)
      ∙ (ap (waiting_from (accepted at h)) gone_after
      ∙ (waiting_swapped (accepted at h) (delivered at h) (m ∷ []) (discarded at h)
      ∙ (waiting_less (accepted at h) (delivered at h ++ discarded at h) (m ∷ [])
      ∙ filter-remove (waiting at h) place m (waiting_rises h at f) there_at)))

-- A turn that discards all queued messages.
module _ (h : History) (who : Who) (f : Facts h) (at : ℤ) (cred : Cred) (messages : List Message)
    (live_at : HasId (live h) at) (whole : messages ≡ held h) where
  abbrev pub removed_turn : Entry
  removed_turn = record { who = who; call = Remove at cred; reply = Discarded messages }

  pub accepted-removed : (id : ℤ) → accepted id (h ++ removed_turn ∷ []) ≡ accepted id h
  accepted-removed id = accepted-more id h removed_turn ∙ append-nil _

  pub delivered-removed : (id : ℤ) → delivered id (h ++ removed_turn ∷ []) ≡ delivered id h
  delivered-removed id = delivered-more id h removed_turn ∙ append-nil _

  pub discarded-removed : discarded at (h ++ removed_turn ∷ []) ≡ discarded at h ++ waiting at h
  discarded-removed =
      discarded-more at h removed_turn
      ∙ (ap (λ t. discarded at h ++ cond t messages []) (same_id at at refl)
      ∙ ap (λ ms. discarded at h ++ ms) (whole ∙ waiting_on-id (live h) at h live_at))

  pub discarded_else : (id : ℤ) → ¬ (at ≡ id) → discarded id (h ++ removed_turn ∷ []) ≡ discarded id h
  discarded_else id other = discarded-more id h removed_turn
      ∙ (ap (λ t. discarded id h ++ cond t messages []) (other_id at id other) ∙ append-nil _)

  pub left_else : (id : ℤ) → ¬ (at ≡ id) → waiting id (h ++ removed_turn ∷ []) ≡ waiting id h
  left_else id other =
      let e = removed_turn in
      ap (λ ms. waiting_from ms (delivered id (h ++ e ∷ []) ++ discarded id (h ++ e ∷ []))) (accepted-removed id)
      ∙ (ap (λ ms. waiting_from (accepted id h) (ms ++ discarded id (h ++ e ∷ []))) (delivered-removed id)
      ∙ ap (λ ms. waiting_from (accepted id h) (delivered id h ++ ms)) (discarded_else id other))

  pub none_waits : waiting at (h ++ removed_turn ∷ []) ≡ []
  none_waits =
      let e = removed_turn in
      ap (λ ms. waiting_from ms (delivered at (h ++ e ∷ []) ++ discarded at (h ++ e ∷ []))) (accepted-removed at)
      ∙ (ap (λ ms. waiting_from (accepted at h) (ms ++ discarded at (h ++ e ∷ []))) (delivered-removed at)
      ∙ (ap (λ ms. waiting_from (accepted at h) (delivered at h ++ ms)) discarded-removed
      ∙ (ap (waiting_from (accepted at h)) (sym (append_assoc (delivered at h) (discarded at h) (waiting at h)))
      ∙ (waiting_less (accepted at h) (delivered at h ++ discarded at h) (waiting at h) ∙ none_left (waiting at h)))))

  -- A discarded message was queued.
  lost_with : (id : ℤ) → AreBelow (arrived h) (discarded id (h ++ removed_turn ∷ []))
  lost_with id = elim (decided at id) [
    | inl same ↦ subst (λ i. AreBelow (arrived h) (discarded i (h ++ removed_turn ∷ []))) same
        (subst (AreBelow (arrived h)) (sym discarded-removed)
        (below_append (arrived h) (discarded at h) (waiting at h) (f.lost_low at) (waiting_low h at f)))
    | inr other ↦ subst (AreBelow (arrived h)) (sym (discarded_else id other)) (f.lost_low id)
  ]

  removed_facts : Facts (h ++ removed_turn ∷ [])
  removed_facts =
      let e = removed_turn in
      let k : History = h ++ e ∷ [] in
      let grows : arrived h ≤ arrived k = arrived_grows h e in
      record {
        low = λ id.
            subst (AreBelow (arrived k)) (sym (accepted-removed id))
            (later (arrived h) (arrived k) (accepted id h) grows (f.low id));
        rises = λ id. subst Rises (sym (accepted-removed id)) (f.rises id);
        gone_low = λ id.
            subst (AreBelow (arrived k)) (sym (delivered-removed id))
            (later (arrived h) (arrived k) (delivered id h) grows (f.gone_low id));
        lost_low = λ id. later (arrived h) (arrived k) (discarded id k) grows (lost_with id);
        others = λ id g. elim (decided at id) [
          | inl same ↦ subst (λ i. waiting i k ≡ []) same none_waits
          | inr other ↦ left_else id other ∙ f.others id (λ lives. other (one_id (live h) at id live_at lives))
        ];
      }

kind_facts : (h : History) (who : Who) (call : Call) (reply : Reply) → Kind call reply → Facts h →
    IsLegalReply h call reply → Facts (then_turn h who call reply)
kind_facts h who call reply (Quiet q) f l =
    still_facts h who f call reply q.still (λ id g.
    f.others id (λ lives.
    g (subst (λ (a : Option Attributes). HasId a id)
    (sym (live-more h (record { who = who; call = call; reply = reply }) ∙ q.live (live h))) lives)))
kind_facts h who call reply (Makes id key cred mode now) f l = made_facts h who f id key cred mode now l
kind_facts h who call reply (Changes id cred to now) f l =
    still_facts h who f call reply (still_set id cred to now Done) (λ i g.
    f.others i (λ lives.
    g (subst (λ (a : Option Attributes). HasId a i)
    (sym (live-more h (record { who = who; call = call; reply = reply })))
    (keeps_id (changed_to to now) (λ a. refl) (live h) i lives))))
kind_facts h who call reply (Discards id cred messages) f l = removed_facts h who f id cred messages l.0 l.2
kind_facts h who call reply (Accepts id cred mtype bytes now number) f l =
    sent_facts h who f id cred mtype bytes now number l.0 l.3
kind_facts h who call reply (Takes id cred selector size noerror now m) f l =
    taken_facts h who f id cred selector size noerror now m l.2.0 l.0 l.2.2

pub facts : (h : History) → IsLegalHistory h → Facts h
facts = from_end (λ (h : History). IsLegalHistory h → Facts h) (λ _. facts_empty)
    (λ h e before legal.
    kind_facts h e.who e.call e.reply (kind_of (slot_of h) e.call e.reply (legal_last h e legal))
    (before (legal_front h e legal)) (legal_last h e legal))
