-- Messages of one type leave in the order of acceptance, because a receive takes the first of its
-- type and a removal discards all queued messages.
use Rattle.std.proofs.Common.{◌≡◌, ℕ, ℤ, ◌<◌, inl, inr, Bool, true, false, List, [], ◌∷◌, ◌++◌, Some, refl, sym, ap}
use Rattle.std.proofs.Common.{subst, ◌∙◌, arith, slice_get, remove, length, append_assoc}
use Rattle.std.specs.List.{All, Contains}
use Rattle.std.proofs.lemmas.Option.{slice_get_read, slice_get_within, get_or_from_slice_get}
use Rattle.std.proofs.lemmas.List.{append-nil}
use Rattle.std.proofs.lemmas.List.Sorted.{Contains-permutation, IsPermutation-remove, IsPermutation-sym}
use Rattle.std.proofs.lemmas.List.Elements.{Contains-append_left, Contains-append_right, Contains-append_cases}
use Rattle.std.proofs.lemmas.List.Elements.{Contains-push_cases}
use Rattle.sysv_model.specs.declared.cred.Cred.{Cred}
use Rattle.sysv_model.specs.Message.{Message}
use Rattle.sysv_model.specs.declared.selector.Selector.{Selector}
use Rattle.sysv_model.specs.History.{Who, Call, Place, Take, Remove, Reply, Accepted, Taken, Done, Discarded, Entry}
use Rattle.sysv_model.specs.History.{History, then_turn, arrived}
use Rattle.sysv_model.specs.Live.{live, HasId}
use Rattle.sysv_model.specs.Waiting.{accepted, delivered, discarded, waiting, held, accepted_by}
use Rattle.sysv_queue.specs.Slot.{slot_of}
use Rattle.sysv_queue.specs.Named.{IsNamed, types_of}
use Rattle.sysv_queue.specs.LegalReply.{IsLegalReply, IsLegalHistory}
use Rattle.sysv_queue.specs.QueueLaw.{StandsBefore, LeavesInOrder, removes}
use Rattle.sysv_model.proofs.Snoc.{from_front}
use Rattle.sysv_queue.proofs.Legality.{legal_front, legal_last, legal_start}
use Rattle.sysv_queue.proofs.Filters.{Rises, below_of}
use Rattle.sysv_queue.proofs.Turns.{Kind, Quiet, Makes, Accepts, Takes, Changes, Discards, IsStill, delivered-more}
use Rattle.sysv_queue.proofs.Turns.{discarded-more, accepted-still, delivered-still, discarded-still, waiting-still}
use Rattle.sysv_queue.proofs.Turns.{still_install, still_set, kind_of}
use Rattle.sysv_queue.proofs.Ids.{decided, waiting_on-id}
use Rattle.sysv_queue.proofs.Facts.{Facts, facts, waiting_rises, accepted-sent, accepted_else, delivered-sent}
use Rattle.sysv_queue.proofs.Facts.{discarded-sent, waiting-sent, waiting_else, accepted-taken, delivered-taken}
use Rattle.sysv_queue.proofs.Facts.{delivered_else, discarded-taken, waiting-taken, untouched, there_at}
use Rattle.sysv_queue.proofs.Facts.{accepted-removed, delivered-removed, discarded_else, left_else, none_waits}
use Rattle.sysv_queue.proofs.NamedMessage.{type_of_place, first_of_type}
use Rattle.sysv_queue.proofs.Order.{nothing_in, earlier_place, rises_across, stands_more, stands_last, accepted_around}
use Rattle.sysv_queue.proofs.AcceptedNumber.{accepts_number, accepts_alone, discarded_before}
use Rattle.sysv_queue.proofs.Conserved.{IsConserved, conserved}

-- Two messages of the same type and identifier, of which the first has the lower number.
module _ (id : ℤ) (m n : Message) (earlier : m.number < n.number) (one_type : m.mtype ≡ n.mtype) where
  -- Both were accepted under this identifier. The second is not queued once the first was
  -- discarded, and was not delivered before the first.
  record Follows (i : ℤ) (h : History) : Type 0 where
    first : Contains (accepted i h) m
    second : Contains (accepted i h) n
    together : Contains (discarded i h) m → ¬ Contains (waiting i h) n
    ordered : Contains (delivered i h) n → StandsBefore (delivered i h) m n

  -- A turn that leaves the messages of the identifier unchanged.
  follows_same : (i : ℤ) (h k : History) → accepted i k ≡ accepted i h → delivered i k ≡ delivered i h →
      discarded i k ≡ discarded i h → waiting i k ≡ waiting i h → Follows i h → Follows i k
  follows_same i h k all taken lost left p = record {
    first = subst (λ ms. Contains ms m) (sym all) p.first;
    second = subst (λ ms. Contains ms n) (sym all) p.second;
    together = λ gone waits.
        p.together (subst (λ ms. Contains ms m) lost gone) (subst (λ ms. Contains ms n) left waits);
    ordered = λ has. subst (λ ms. StandsBefore ms m n) (sym taken) (p.ordered (subst (λ ms. Contains ms n) taken has));
  }

  follows_still : (h : History) (e : Entry) → IsStill e.call e.reply → Follows id h → Follows id (h ++ e ∷ [])
  follows_still h e s p = follows_same id h (h ++ e ∷ []) (accepted-still h e s id) (delivered-still h e s id)
      (discarded-still h e s id) (waiting-still h e s id) p

  -- A turn that accepts a message, whose number is above both.
  module _ (h : History) (who : Who) (f : Facts h) (at : ℤ) (cred : Cred) (mtype : ℤ) (bytes : List ℕ) (now number : ℕ)
      (live_at : HasId (live h) at) (numbered : number ≡ arrived h) where
    sent_here : Follows at h → Follows at (then_turn h who (Place at cred mtype bytes now) (Accepted number))
    sent_here p =
        let sent : Message = record { number = number; sender = cred.pid; mtype = mtype; bytes = bytes } in
        let all = accepted-sent h who f at cred mtype bytes now number live_at numbered in
        let taken = delivered-sent h who f at cred mtype bytes now number live_at numbered at in
        let lost = discarded-sent h who f at cred mtype bytes now number live_at numbered at in
        let left = waiting-sent h who f at cred mtype bytes now number live_at numbered in
        let low = below_of (arrived h) (accepted at h) n (f.low at) p.second in
        record {
          first = subst (λ ms. Contains ms m) (sym all) (Contains-append_left (accepted at h) (sent ∷ []) m p.first);
          second = subst (λ ms. Contains ms n) (sym all) (Contains-append_left (accepted at h) (sent ∷ []) n p.second);
          together = λ gone waits.
              elim (Contains-push_cases (waiting at h) sent n (subst (λ ms. Contains ms n) left waits)) [
                | inl old ↦ p.together (subst (λ ms. Contains ms m) lost gone) old
                | inr new ↦ let number_is = ap (λ (x : Message). x.number) new in omega arith
              ];
          ordered = λ has.
              subst (λ ms. StandsBefore ms m n) (sym taken) (p.ordered (subst (λ ms. Contains ms n) taken has));
        }

    follows_sent : Follows id h → Follows id (then_turn h who (Place at cred mtype bytes now) (Accepted number))
    follows_sent p = elim (decided at id) [
      | inl same ↦ subst (λ i.
          Follows i h → Follows i (then_turn h who (Place at cred mtype bytes now) (Accepted number))) same sent_here p
      | inr other ↦ follows_same id h _ (accepted_else h who f at cred mtype bytes now number live_at numbered id other)
          (delivered-sent h who f at cred mtype bytes now number live_at numbered id)
          (discarded-sent h who f at cred mtype bytes now number live_at numbered id)
          (waiting_else h who f at cred mtype bytes now number live_at numbered id other) p
    ]

  -- A turn that delivers the message x at a named place.
  module _ (h : History) (who : Who) (f : Facts h) (at : ℤ) (cred : Cred) (selector : Selector) (size : ℕ)
      (noerror : Bool) (now : ℕ) (x : Message) (place : ℕ) (live_at : HasId (live h) at)
      (named : IsNamed selector (held h) place) (there : slice_get (held h) place ≡ Some x) where
    -- If x is the second message, the first is not queued: it would be before x and of the same
    -- type.
    never_waits : x ≡ n → ¬ Contains (waiting at h) m
    never_waits same (i, within, e) =
        let left = waiting at h in
        let m_there : slice_get left i ≡ Some m = slice_get_read left (length left) i m refl within (sym e) in
        let x_there : slice_get left place ≡ Some x =
        there_at h who f at cred selector size noerror now x place live_at there in
        let number_is = ap (λ (y : Message). y.number) same in
        let type_is : x.mtype ≡ n.mtype = ap (λ (y : Message). y.mtype) same in
        let less = earlier_place left i place m x (waiting_rises h at f) m_there x_there (omega arith) in
        let among : IsNamed selector left place =
        subst (λ ms. IsNamed selector ms place) (waiting_on-id (live h) at h live_at) named in
        first_of_type selector (types_of left) place i among less
        (type_of_place left i m m_there ∙ (one_type ∙ sym (type_of_place left place x x_there ∙ type_is)))

    -- So the first was delivered already.
    comes_last : IsConserved h → Follows at h → x ≡ n → StandsBefore (delivered at h ++ x ∷ []) m n
    comes_last c p same =
        let x_there : slice_get (waiting at h) place ≡ Some x =
        there_at h who f at cred selector size noerror now x place live_at there in
        let waits : Contains (waiting at h) n = subst (Contains (waiting at h)) same (
          place,
          slice_get_within (waiting at h) place x x_there,
          get_or_from_slice_get (waiting at h) place x x x_there,
        ) in
        let whole =
        Contains-permutation (accepted at h) (delivered at h ++ (discarded at h ++ waiting at h)) m (c at) p.first in
        subst (λ y. StandsBefore (delivered at h ++ y ∷ []) m n) (sym same)
        (elim (Contains-append_cases (delivered at h) (discarded at h ++ waiting at h) m whole) [
          | inl taken ↦ stands_last (delivered at h) m n taken
          | inr rest ↦ elim (Contains-append_cases (discarded at h) (waiting at h) m rest) [
            | inl gone ↦ absurd (p.together gone waits)
            | inr left ↦ absurd (never_waits same left)
          ]
        ])

    taken_here : IsConserved h → Follows at h →
        Follows at (then_turn h who (Take at cred selector size noerror now) (Taken x))
    taken_here c p =
        let all = accepted-taken h who f at cred selector size noerror now x place live_at there at in
        let taken = delivered-taken h who f at cred selector size noerror now x place live_at there in
        let lost = discarded-taken h who f at cred selector size noerror now x place live_at there at in
        let left = waiting-taken h who f at cred selector size noerror now x place live_at there in
        let x_there : slice_get (waiting at h) place ≡ Some x =
        there_at h who f at cred selector size noerror now x place live_at there in
        let out = IsPermutation-remove (waiting at h) place x (slice_get_within (waiting at h) place x x_there)
        (sym (get_or_from_slice_get (waiting at h) place x x x_there)) in
        record {
          first = subst (λ ms. Contains ms m) (sym all) p.first;
          second = subst (λ ms. Contains ms n) (sym all) p.second;
          together = λ gone waits.
              let rest : Contains (remove (waiting at h) place) n = subst (λ ms. Contains ms n) left waits in
              p.together (subst (λ ms. Contains ms m) lost gone)
              (Contains-permutation (x ∷ remove (waiting at h) place) (waiting at h) n
              (IsPermutation-sym (waiting at h) (x ∷ remove (waiting at h) place) out)
              (Contains-append_right (x ∷ []) (remove (waiting at h) place) n rest));
          ordered = λ has.
              subst (λ ms. StandsBefore ms m n) (sym taken)
              (elim (Contains-push_cases (delivered at h) x n (subst (λ ms. Contains ms n) taken has)) [
                | inl old ↦ stands_more (delivered at h) (x ∷ []) m n (p.ordered old)
                | inr new ↦ comes_last c p new
              ]);
        }

    follows_taken : IsConserved h → Follows id h →
        Follows id (then_turn h who (Take at cred selector size noerror now) (Taken x))
    follows_taken c p = elim (decided at id) [
      | inl same ↦
          subst (λ i. Follows i h → Follows i (then_turn h who (Take at cred selector size noerror now) (Taken x))) same
          (taken_here c) p
      | inr other ↦
          follows_same id h _ (accepted-taken h who f at cred selector size noerror now x place live_at there id)
          (delivered_else h who f at cred selector size noerror now x place live_at there id other)
          (discarded-taken h who f at cred selector size noerror now x place live_at there id)
          (untouched h who f at cred selector size noerror now x place live_at there id other) p
    ]

  -- A turn that discards all queued messages.
  module _ (h : History) (who : Who) (f : Facts h) (at : ℤ) (cred : Cred) (messages : List Message)
      (live_at : HasId (live h) at) (whole : messages ≡ held h) where
    removed_here : Follows at h → Follows at (then_turn h who (Remove at cred) (Discarded messages))
    removed_here p =
        let all = accepted-removed h who f at cred messages live_at whole at in
        let taken = delivered-removed h who f at cred messages live_at whole at in
        record {
          first = subst (λ ms. Contains ms m) (sym all) p.first;
          second = subst (λ ms. Contains ms n) (sym all) p.second;
          together = λ gone waits.
              nothing_in n (subst (λ ms. Contains ms n) (none_waits h who f at cred messages live_at whole) waits);
          ordered = λ has.
              subst (λ ms. StandsBefore ms m n) (sym taken) (p.ordered (subst (λ ms. Contains ms n) taken has));
        }

    follows_removed : Follows id h → Follows id (then_turn h who (Remove at cred) (Discarded messages))
    follows_removed p = elim (decided at id) [
      | inl same ↦ subst (λ i. Follows i h → Follows i (then_turn h who (Remove at cred) (Discarded messages))) same
          removed_here p
      | inr other ↦ follows_same id h _ (accepted-removed h who f at cred messages live_at whole id)
          (delivered-removed h who f at cred messages live_at whole id)
          (discarded_else h who f at cred messages live_at whole id other)
          (left_else h who f at cred messages live_at whole id other) p
    ]

  follows_more : (h : History) (who : Who) (call : Call) (reply : Reply) → Kind call reply → Facts h → IsConserved h →
      IsLegalReply h call reply → Follows id h → Follows id (then_turn h who call reply)
  follows_more h who call reply (Quiet q) f c l p =
      follows_still h (record { who = who; call = call; reply = reply }) q.still p
  follows_more h who call reply (Makes id key cred mode now) f c l p =
      follows_still h (record { who = who; call = call; reply = reply }) (still_install id key cred mode now true) p
  follows_more h who call reply (Accepts id cred mtype bytes now number) f c l p =
      follows_sent h who f id cred mtype bytes now number l.0 l.3 p
  follows_more h who call reply (Takes id cred selector size noerror now x) f c l p =
      follows_taken h who f id cred selector size noerror now x l.2.0 l.0 l.2.1 l.2.2 c p
  follows_more h who call reply (Changes id cred to now) f c l p =
      follows_still h (record { who = who; call = call; reply = reply }) (still_set id cred to now Done) p
  follows_more h who call reply (Discards id cred messages) f c l p = follows_removed h who f id cred messages l.0 l.2 p

  -- So the second never leaves before the first, however the history goes on.
  follows_on : (h after : History) → IsLegalHistory (h ++ after) → Follows id h → Follows id (h ++ after)
  follows_on h after legal p =
      from_front (λ (k : History). IsLegalHistory k → Follows id k)
      (λ k e before whole.
      let front = legal_front k e whole in
      follows_more k e.who e.call e.reply (kind_of (slot_of k) e.call e.reply (legal_last k e whole)) (facts k front)
      (conserved k front) (legal_last k e whole) (before front))
      h after (λ start. p) legal

-- Right after the second was accepted, with no removal since the first was accepted.
follows_first : (id : ℤ) (before middle : History) (e f : Entry) (m n : Message) (earlier : m.number < n.number)
    (one_type : m.mtype ≡ n.mtype) → IsLegalHistory ((before ++ e ∷ middle) ++ f ∷ []) →
    accepted_by id e.call e.reply ≡ m ∷ [] → accepted_by id f.call f.reply ≡ n ∷ [] →
    All (λ (t : Entry). removes id t.call t.reply ≡ false) middle →
    Contains (accepted id ((before ++ e ∷ middle) ++ f ∷ [])) m →
    Contains (accepted id ((before ++ e ∷ middle) ++ f ∷ [])) n →
    Follows id m n earlier one_type id ((before ++ e ∷ middle) ++ f ∷ [])
follows_first id before middle e f m n earlier one_type legal one two none first second =
    let g : History = before ++ e ∷ middle in
    let k : History = g ++ f ∷ [] in
    let legal_g : IsLegalHistory g = legal_front g f legal in
    let m_number : arrived before ≡ m.number =
    accepts_number (slot_of before) id e.call e.reply m (legal_g before e middle refl) one in
    let n_number : arrived g ≡ n.number = accepts_number (slot_of g) id f.call f.reply n (legal_last g f legal) two in
    let lost : discarded id k ≡ discarded id before =
    discarded-more id g f
    ∙ (ap (λ ms. discarded id g ++ ms) (accepts_alone id f.call f.reply n two).1
    ∙ (append-nil _ ∙ discarded_before id before middle e m one none)) in
    let taken : delivered id k ≡ delivered id g = delivered-more id g f
    ∙ (ap (λ ms. delivered id g ++ ms) (accepts_alone id f.call f.reply n two).0 ∙ append-nil _) in
    record {
      first = first;
      second = second;
      together = λ gone waits.
          let low = below_of (arrived before) (discarded id before) m
          ((facts before (legal_start before (e ∷ middle) legal_g)).lost_low id)
          (subst (λ ms. Contains ms m) lost gone) in
          omega arith;
      ordered = λ has.
          let low = below_of (arrived g) (delivered id g) n ((facts g legal_g).gone_low id)
          (subst (λ ms. Contains ms n) taken has) in
          absurd (omega arith);
    }

pub leaves_in_order : (h : History) → IsLegalHistory h → LeavesInOrder h
leaves_in_order h legal = λ id before middle after e f m n whole one two same_type none has.
    let g : History = before ++ e ∷ middle in
    let k : History = g ++ f ∷ [] in
    let split : h ≡ k ++ after =
    whole ∙ sym (append_assoc g (f ∷ []) after ∙ append_assoc before (e ∷ middle) (f ∷ after)) in
    let legal_k : IsLegalHistory k = legal_start k after (subst IsLegalHistory split legal) in
    let a = accepted id before in
    let b = accepted id middle in
    let around : accepted id k ≡ a ++ m ∷ (b ++ n ∷ []) = ap (accepted id) (append_assoc before (e ∷ middle) (f ∷ []))
    ∙ accepted_around id before middle [] e f m n one two in
    let first : Contains (a ++ m ∷ (b ++ n ∷ [])) m =
    Contains-append_right a (m ∷ (b ++ n ∷ [])) m (0, omega arith, refl) in
    let second : Contains (a ++ m ∷ (b ++ n ∷ [])) n =
    Contains-append_right a (m ∷ (b ++ n ∷ [])) n (Contains-append_right (m ∷ b) (n ∷ []) n (0, omega arith, refl)) in
    let earlier : m.number < n.number = rises_across a b [] m n (subst Rises around ((facts k legal_k).rises id)) in
    let begun : Follows id m n earlier same_type id k =
    follows_first id before middle e f m n earlier same_type legal_k one two none
    (subst (λ ms. Contains ms m) (sym around) first) (subst (λ ms. Contains ms n) (sym around) second) in
    let ended : Follows id m n earlier same_type id (k ++ after) =
    follows_on id m n earlier same_type k after (subst IsLegalHistory split legal) begun in
    subst (λ (x : History). StandsBefore (delivered id x) m n) (sym split)
    (ended.ordered (subst (λ (x : History). Contains (delivered id x) n) split has))
