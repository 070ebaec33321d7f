-- The accepted messages are, each once, those delivered, discarded or still queued.
use Rattle.std.proofs.Common.{◌≡◌, ◌≢◌, ℕ, ℤ, inl, inr, Bool, true, List, [], ◌∷◌, ◌++◌, Some, IsPermutation, sym, ap}
use Rattle.std.proofs.Common.{subst, ◌∙◌, slice_get, remove, append_assoc}
use Rattle.std.specs.List.{AllPairs, All, Contains}
use Rattle.std.proofs.lemmas.List.{append-nil}
use Rattle.std.proofs.lemmas.Option.{slice_get_within, get_or_from_slice_get}
use Rattle.std.proofs.lemmas.List.Sorted.{IsPermutation-refl, IsPermutation-sym, IsPermutation-trans}
use Rattle.std.proofs.lemmas.List.Sorted.{IsPermutation-append_left, IsPermutation-append_right, IsPermutation-middle}
use Rattle.std.proofs.lemmas.List.Sorted.{IsPermutation-remove, IsPermutation-pop_more, Contains-permutation}
use Rattle.std.proofs.lemmas.List.Elements.{All-contains_itself, All-weaker, Contains-append_left}
use Rattle.sysv_model.specs.declared.cred.Cred.{Cred}
use Rattle.sysv_model.specs.Message.{Message}
use Rattle.sysv_model.specs.declared.selector.Selector.{Selector}
use Rattle.sysv_model.specs.History.{Who, Call, Install, Place, Take, Set, Remove, Reply, Installed, Accepted, Taken}
use Rattle.sysv_model.specs.History.{Done, Discarded, Entry, History, then_turn, arrived}
use Rattle.sysv_model.specs.Live.{live, HasId}
use Rattle.sysv_model.specs.Waiting.{accepted, delivered, discarded, waiting, held}
use Rattle.sysv_queue.specs.Slot.{slot_of}
use Rattle.sysv_queue.specs.LegalReply.{IsLegalReply, IsLegalHistory}
use Rattle.sysv_model.proofs.Snoc.{from_end}
use Rattle.sysv_queue.proofs.Legality.{legal_front, legal_last}
use Rattle.sysv_queue.proofs.Turns.{Kind, Quiet, Makes, Accepts, Takes, Changes, Discards, IsStill, accepted-still}
use Rattle.sysv_queue.proofs.Turns.{delivered-still, discarded-still, waiting-still, still_install, still_set, kind_of}
use Rattle.sysv_queue.proofs.Ids.{decided}
use Rattle.sysv_queue.proofs.Facts.{Facts, facts, accepted-sent, accepted_else, delivered-sent, discarded-sent}
use Rattle.sysv_queue.proofs.Facts.{waiting-sent, waiting_else, accepted-taken, delivered-taken, delivered_else}
use Rattle.sysv_queue.proofs.Facts.{discarded-taken, waiting-taken, untouched, there_at, accepted-removed}
use Rattle.sysv_queue.proofs.Facts.{delivered-removed, discarded-removed, discarded_else, left_else, none_waits}
use Rattle.sysv_queue.proofs.Order.{apart_where_rising}
use Rattle.sysv_queue.proofs.Distinct.{distinct_permuted, distinct_front}

-- All messages of the first list are, each once, those taken, gone or left.
abbrev Splits : List Message → List Message → List Message → List Message → Type 0
Splits all taken gone left = IsPermutation all (taken ++ (gone ++ left))

splits_as : (a b d e g k w v : List Message) → b ≡ a → e ≡ d → k ≡ g → v ≡ w → Splits a d g w → Splits b e k v
splits_as a b d e g k w v all taken gone left s =
    subst (λ ms. Splits ms e k v) (sym all)
    (subst (λ ms. Splits a ms k v) (sym taken)
    (subst (λ ms. Splits a d ms v) (sym gone) (subst (λ ms. Splits a d g ms) (sym left) s)))

-- One more message is accepted and left.
splits_sent : (a d g w : List Message) (m : Message) → Splits a d g w → Splits (a ++ m ∷ []) d g (w ++ m ∷ [])
splits_sent a d g w m s =
    subst (IsPermutation (a ++ m ∷ []))
    (append_assoc d (g ++ w) (m ∷ []) ∙ ap (λ ms. d ++ ms) (append_assoc g w (m ∷ [])))
    (IsPermutation-append_left (m ∷ []) a (d ++ (g ++ w)) s)

-- The message at a place of those left is taken.
splits_taken : (a d g w : List Message) (place : ℕ) (m : Message) → slice_get w place ≡ Some m → Splits a d g w →
    Splits a (d ++ m ∷ []) g (remove w place)
splits_taken a d g w place m there s =
    let out =
    IsPermutation-remove w place m (slice_get_within w place m there) (sym (get_or_from_slice_get w place m m there)) in
    IsPermutation-pop_more a d (g ++ w) (g ++ remove w place) m s
    (IsPermutation-trans _ _ _ (IsPermutation-append_right g w (m ∷ remove w place) out)
    (IsPermutation-middle g m (remove w place)))

-- All messages that are left are discarded.
splits_lost : (a d g w : List Message) → Splits a d g w → Splits a d (g ++ w) []
splits_lost a d g w s = subst (λ ms. IsPermutation a (d ++ ms)) (sym (append-nil (g ++ w))) s

abbrev pub IsConserved : History → Type 0
IsConserved h = (id : ℤ) → IsPermutation (accepted id h) (delivered id h ++ (discarded id h ++ waiting id h))

conserved_still : (h : History) (e : Entry) → IsStill e.call e.reply → IsConserved h → IsConserved (h ++ e ∷ [])
conserved_still h e s c = λ id.
    splits_as _ _ _ _ _ _ _ _ (accepted-still h e s id) (delivered-still h e s id) (discarded-still h e s id)
    (waiting-still h e s id) (c id)

conserved_sent : (h : History) (who : Who) (f : Facts h) (at : ℤ) (cred : Cred) (mtype : ℤ) (bytes : List ℕ)
    (now number : ℕ) (live_at : HasId (live h) at) (numbered : number ≡ arrived h) → IsConserved h →
    IsConserved (then_turn h who (Place at cred mtype bytes now) (Accepted number))
conserved_sent h who f at cred mtype bytes now number live_at numbered c =
    let k : History = then_turn h who (Place at cred mtype bytes now) (Accepted number) in
    let sent : Message = record { number = number; sender = cred.pid; mtype = mtype; bytes = bytes } in
    let taken : (id : ℤ) → delivered id k ≡ delivered id h =
    delivered-sent h who f at cred mtype bytes now number live_at numbered in
    let gone : (id : ℤ) → discarded id k ≡ discarded id h =
    discarded-sent h who f at cred mtype bytes now number live_at numbered in
    let here : Splits (accepted at k) (delivered at k) (discarded at k) (waiting at k) =
    splits_as _ _ _ _ _ _ _ _ (accepted-sent h who f at cred mtype bytes now number live_at numbered) (taken at)
    (gone at) (waiting-sent h who f at cred mtype bytes now number live_at numbered)
    (splits_sent (accepted at h) (delivered at h) (discarded at h) (waiting at h) sent (c at)) in
    λ id. elim (decided at id) [
      | inl same ↦ subst (λ i. Splits (accepted i k) (delivered i k) (discarded i k) (waiting i k)) same here
      | inr other ↦ splits_as _ _ _ _ _ _ _ _
          (accepted_else h who f at cred mtype bytes now number live_at numbered id other) (taken id) (gone id)
          (waiting_else h who f at cred mtype bytes now number live_at numbered id other) (c id)
    ]

conserved_taken : (h : History) (who : Who) (f : Facts h) (at : ℤ) (cred : Cred) (selector : Selector) (size : ℕ)
    (noerror : Bool) (now : ℕ) (m : Message) (place : ℕ) (live_at : HasId (live h) at)
    (there : slice_get (held h) place ≡ Some m) → IsConserved h →
    IsConserved (then_turn h who (Take at cred selector size noerror now) (Taken m))
conserved_taken h who f at cred selector size noerror now m place live_at there c =
    let k : History = then_turn h who (Take at cred selector size noerror now) (Taken m) in
    let all : (id : ℤ) → accepted id k ≡ accepted id h =
    accepted-taken h who f at cred selector size noerror now m place live_at there in
    let gone : (id : ℤ) → discarded id k ≡ discarded id h =
    discarded-taken h who f at cred selector size noerror now m place live_at there in
    let here : Splits (accepted at k) (delivered at k) (discarded at k) (waiting at k) =
    splits_as _ _ _ _ _ _ _ _ (all at) (delivered-taken h who f at cred selector size noerror now m place live_at there)
    (gone at) (waiting-taken h who f at cred selector size noerror now m place live_at there)
    (splits_taken (accepted at h) (delivered at h) (discarded at h) (waiting at h) place m
    (there_at h who f at cred selector size noerror now m place live_at there) (c at)) in
    λ id. elim (decided at id) [
      | inl same ↦ subst (λ i. Splits (accepted i k) (delivered i k) (discarded i k) (waiting i k)) same here
      | inr other ↦ splits_as _ _ _ _ _ _ _ _ (all id)
          (delivered_else h who f at cred selector size noerror now m place live_at there id other) (gone id)
          (untouched h who f at cred selector size noerror now m place live_at there id other) (c id)
    ]

conserved_removed : (h : History) (who : Who) (f : Facts h) (at : ℤ) (cred : Cred) (messages : List Message)
    (live_at : HasId (live h) at) (whole : messages ≡ held h) → IsConserved h →
    IsConserved (then_turn h who (Remove at cred) (Discarded messages))
conserved_removed h who f at cred messages live_at whole c =
    let k : History = then_turn h who (Remove at cred) (Discarded messages) in
    let all : (id : ℤ) → accepted id k ≡ accepted id h = accepted-removed h who f at cred messages live_at whole in
    let taken : (id : ℤ) → delivered id k ≡ delivered id h = delivered-removed h who f at cred messages live_at whole in
    let here : Splits (accepted at k) (delivered at k) (discarded at k) (waiting at k) =
    splits_as _ _ _ _ _ _ _ _ (all at) (taken at) (discarded-removed h who f at cred messages live_at whole)
    (none_waits h who f at cred messages live_at whole)
    (splits_lost (accepted at h) (delivered at h) (discarded at h) (waiting at h) (c at)) in
    λ id. elim (decided at id) [
      | inl same ↦ subst (λ i. Splits (accepted i k) (delivered i k) (discarded i k) (waiting i k)) same here
      | inr other ↦
          splits_as _ _ _ _ _ _ _ _ (all id) (taken id) (discarded_else h who f at cred messages live_at whole id other)
          (left_else h who f at cred messages live_at whole id other) (c id)
    ]

conserved_more : (h : History) (who : Who) (call : Call) (reply : Reply) → Kind call reply → Facts h →
    IsLegalReply h call reply → IsConserved h → IsConserved (then_turn h who call reply)
conserved_more h who call reply (Quiet q) f l c =
    conserved_still h (record { who = who; call = call; reply = reply }) q.still c
conserved_more h who call reply (Makes id key cred mode now) f l c =
    conserved_still h (record { who = who; call = Install id key cred mode now; reply = Installed true })
    (still_install id key cred mode now true) c
conserved_more h who call reply (Accepts id cred mtype bytes now number) f l c =
    conserved_sent h who f id cred mtype bytes now number l.0 l.3 c
conserved_more h who call reply (Takes id cred selector size noerror now m) f l c =
    conserved_taken h who f id cred selector size noerror now m l.2.0 l.0 l.2.2 c
conserved_more h who call reply (Changes id cred to now) f l c =
    conserved_still h (record { who = who; call = Set id cred to now; reply = Done }) (still_set id cred to now Done) c
conserved_more h who call reply (Discards id cred messages) f l c = conserved_removed h who f id cred messages l.0 l.2 c

pub conserved : (h : History) → IsLegalHistory h → IsConserved h
conserved = from_end (λ (h : History). IsLegalHistory h → IsConserved h) (λ _ id. IsPermutation-refl [])
    (λ h e before legal.
    conserved_more h e.who e.call e.reply (kind_of (slot_of h) e.call e.reply (legal_last h e legal))
    (facts h (legal_front h e legal)) (legal_last h e legal) (before (legal_front h e legal)))

-- What was delivered or discarded had been accepted.
pub had_accepted : (h : History) → IsConserved h → (id : ℤ) (m : Message) →
    Contains (delivered id h ++ discarded id h) m → Contains (accepted id h) m
had_accepted h c id m has =
    let taken = delivered id h in
    let gone = discarded id h in
    let left = waiting id h in
    Contains-permutation (taken ++ (gone ++ left)) (accepted id h) m
    (IsPermutation-sym (accepted id h) (taken ++ (gone ++ left)) (c id))
    (subst (λ ms. Contains ms m) (append_assoc taken gone left) (Contains-append_left (taken ++ gone) left m has))

pub all_accepted : (h : History) → IsConserved h → (id : ℤ) →
    All (Contains (accepted id h)) (delivered id h ++ discarded id h)
all_accepted h c id =
    All-weaker (Contains (delivered id h ++ discarded id h)) (Contains (accepted id h)) (had_accepted h c id)
    (delivered id h ++ discarded id h) (All-contains_itself (delivered id h ++ discarded id h))

-- No two messages that were delivered or discarded have the same number.
pub each_once : (h : History) → Facts h → IsConserved h → (id : ℤ) →
    AllPairs (λ (m n : Message). m.number ≢ n.number) (delivered id h ++ discarded id h)
each_once h f c id =
    let taken = delivered id h in
    let gone = discarded id h in
    let left = waiting id h in
    distinct_front (taken ++ gone) left
    (distinct_permuted (accepted id h) ((taken ++ gone) ++ left)
    (subst (IsPermutation (accepted id h)) (sym (append_assoc taken gone left)) (c id))
    (apart_where_rising (accepted id h) (f.rises id)))
