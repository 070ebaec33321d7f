-- A call is told that its identifier is not live if and only if it is not live, and an identifier
-- that is installed once is never live again after its removal.
use Rattle.std.proofs.Common.{◌≡◌, ℤ, inl, inr, Bool, true, false, List, [], ◌∷◌, ◌++◌, Option, refl, sym, ap, subst}
use Rattle.std.proofs.Common.{◌∙◌, append_assoc}
use Rattle.std.specs.List.{AllByRecursion, flat_map}
use Rattle.std.proofs.lemmas.List.Concat.{flat_map-cons}
use Rattle.std.proofs.lemmas.List.Elements.{All-from_recursion, recursion_from_All}
use Rattle.std.proofs.lemmas.List.{append-nil}
use Rattle.std.proofs.lemmas.Bool.Decides.{Decides-int_eq}
use Rattle.sysv_model.specs.Message.{Message}
use Rattle.sysv_model.specs.History.{Call, Install, Probe, Look, Place, Take, ReadStat, Set, Remove, Reply, Installed}
use Rattle.sysv_model.specs.History.{Accepted, Taken, Done, Discarded, Entry, History}
use Rattle.sysv_model.specs.declared.attributes.Attributes.{Attributes}
use Rattle.sysv_model.specs.Live.{live, HasId, IsLive, live_after, sent_to, received_from, changed_to}
use Rattle.sysv_model.specs.Waiting.{accepted_by, delivered_by}
use Rattle.sysv_queue.specs.Slot.{Slot, slot_of}
use Rattle.sysv_queue.specs.LegalReply.{Legal, IsLegalHistory}
use Rattle.sysv_queue.specs.OneReply.{NoTwoRepliesAreLegal}
use Rattle.sysv_queue.specs.QueueLaw.{removes, installs}
use Rattle.sysv_queue.specs.ForGood.{NamesId, not_live_reply, IsWithinMost, ToldNotLive, FoundLive, FoundNotLive}
use Rattle.sysv_queue.specs.ForGood.{LivesTillRemoved, IsInstalledOnce, IsGoneSince, RemovedForGood}
use Rattle.sysv_model.proofs.Snoc.{from_end}
use Rattle.sysv_queue.proofs.Legality.{legal_last, legal_start}
use Rattle.sysv_queue.proofs.Turns.{live-more}
use Rattle.sysv_queue.proofs.Ids.{same_id, one_id, keeps_id, is_live}
use Rattle.sysv_queue.proofs.Facts.{facts}
use Rattle.sysv_queue.proofs.Final.{stays_dead, dead_since, neither}

not_live_legal : (s : Slot) (id : ℤ) (call : Call) → NamesId id call → ¬ HasId s.live id →
    Legal s call (not_live_reply call)
not_live_legal s id (Probe at cred flags) same dead = λ lives. dead (subst (HasId s.live) same lives)
not_live_legal s id (Look at cred size) same dead = λ lives. dead (subst (HasId s.live) same lives)
not_live_legal s id (Place at cred mtype bytes now) same dead = λ lives. dead (subst (HasId s.live) same lives)
not_live_legal s id (Take at cred selector size noerror now) same dead = λ lives. dead (subst (HasId s.live) same lives)
not_live_legal s id (ReadStat at cred) same dead = λ lives. dead (subst (HasId s.live) same lives)
not_live_legal s id (Set at cred to now) same dead = inl (λ lives. dead (subst (HasId s.live) same lives))
not_live_legal s id (Remove at cred) same dead = λ lives. dead (subst (HasId s.live) same lives)
not_live_legal s id call same dead = absurd same

not_live_found : (s : Slot) (id : ℤ) (call : Call) → NamesId id call → IsWithinMost call →
    Legal s call (not_live_reply call) → ¬ HasId s.live id
not_live_found s id (Probe at cred flags) same within l = λ lives. l (subst (HasId s.live) (sym same) lives)
not_live_found s id (Look at cred size) same within l = λ lives. l (subst (HasId s.live) (sym same) lives)
not_live_found s id (Place at cred mtype bytes now) same within l = λ lives. l (subst (HasId s.live) (sym same) lives)
not_live_found s id (Take at cred selector size noerror now) same within l = λ lives.
    l (subst (HasId s.live) (sym same) lives)
not_live_found s id (ReadStat at cred) same within l = λ lives. l (subst (HasId s.live) (sym same) lives)
not_live_found s id (Set at cred to now) same within l = λ lives.
    elim l [ inl gone ↦ gone (subst (HasId s.live) (sym same) lives) | inr w ↦ w.2 within ]
not_live_found s id (Remove at cred) same within l = λ lives. l (subst (HasId s.live) (sym same) lives)
not_live_found s id call same within l = absurd same

pub found_not_live : FoundNotLive
found_not_live h id call names within l = not_live_found (slot_of h) id call names within l

-- ---- lists

each_of : {X : Type 0} (P : X → Type 0) (xs : List X) →
    ((middle rest : List X) (x : X) → xs ≡ middle ++ x ∷ rest → P x) → AllByRecursion P xs
each_of P [] f = tt
each_of P (x ∷ xs) f =
    (f [] xs x refl, each_of P xs (λ middle rest y same. f (x ∷ middle) rest y (ap (λ ys. x ∷ ys) same)))

front_of : {X : Type 0} (P : X → Type 0) (xs ys : List X) → AllByRecursion P (xs ++ ys) → AllByRecursion P xs
front_of P [] ys a = tt
front_of P (x ∷ xs) ys a = (a.0, front_of P xs ys a.1)

none_by : (by : Entry → List Message) (ts : List Entry) → AllByRecursion (λ t. by t ≡ []) ts → flat_map by ts ≡ []
none_by by [] a = refl
none_by by (t ∷ ts) a = flat_map-cons by t ts ∙ (ap (λ ms. ms ++ flat_map by ts) a.0 ∙ none_by by ts a.1)

-- ---- from its install to its removal

live_made : (old : Option Attributes) (id : ℤ) (call : Call) (reply : Reply) → installs id call reply ≡ true →
    HasId (live_after old call reply) id
live_made old id (Install at key cred mode now) (Installed true) e = (Decides-int_eq at id).0 e
live_made old id call reply e = absurd cc

-- A legal turn that does not remove an identifier keeps it live.
stays_live : (s : Slot) (id : ℤ) (call : Call) (reply : Reply) → Legal s call reply → removes id call reply ≡ false →
    HasId s.live id → HasId (live_after s.live call reply) id
stays_live s id (Install at key cred mode now) (Installed true) l e lives = absurd (subst (λ a. HasId a id) l lives)
stays_live s id (Place at cred mtype bytes now) (Accepted number) l e lives =
    keeps_id (sent_to cred now) (λ a. refl) s.live id lives
stays_live s id (Take at cred selector size noerror now) (Taken m) l e lives =
    keeps_id (received_from cred now) (λ a. refl) s.live id lives
stays_live s id (Set at cred to now) Done l e lives = keeps_id (changed_to to now) (λ a. refl) s.live id lives
stays_live s id (Remove at cred) (Discarded messages) l e lives =
    let t = same_id at id (one_id s.live at id l.0 lives) in
    let bad : true ≡ false = sym t ∙ e in
    cc
stays_live s id call reply l e lives = lives

lives_along : (h : History) (id : ℤ) (since : List Entry) → IsLegalHistory (h ++ since) →
    AllByRecursion (λ (t : Entry). removes id t.call t.reply ≡ false) since → IsLive h id → IsLive (h ++ since) id
lives_along h id [] legal a lives = subst (λ (k : History). IsLive k id) (sym (append-nil h)) lives
lives_along h id (t ∷ since) legal a lives =
    let path = append_assoc h (t ∷ []) since in
    let whole : IsLegalHistory ((h ++ t ∷ []) ++ since) = subst IsLegalHistory (sym path) legal in
    let reply = legal_last h t (legal_start (h ++ t ∷ []) since whole) in
    subst (λ (k : History). IsLive k id) path
    (lives_along (h ++ t ∷ []) id since whole a.1
    (subst (λ l. HasId l id) (sym (live-more h t)) (stays_live (slot_of h) id t.call t.reply reply a.0 lives)))

pub lives_till_removed : LivesTillRemoved
lives_till_removed h id legal before since e whole made none =
    let path = append_assoc before (e ∷ []) since in
    let lives : IsLive (before ++ e ∷ []) id =
    subst (λ l. HasId l id) (sym (live-more before e)) (live_made (live before) id e.call e.reply made) in
    subst (λ (k : History). IsLive k id) (path ∙ sym whole)
    (lives_along (before ++ e ∷ []) id since (subst IsLegalHistory (whole ∙ sym path) legal)
    (recursion_from_All (λ (t : Entry). removes id t.call t.reply ≡ false) since none) lives)

-- ---- a removal

-- A removal found the identifier live.
removal_found : (s : Slot) (id : ℤ) (call : Call) (reply : Reply) → Legal s call reply → removes id call reply ≡ true →
    HasId s.live id
removal_found s id (Remove at cred) (Discarded messages) l e = subst (HasId s.live) ((Decides-int_eq at id).0 e) l.0
removal_found s id call reply l e = absurd cc

-- A turn that installs the identifier.
record Installing (id : ℤ) (h : History) : Type 0 where
  before : History
  turn : Entry
  after : History
  is : h ≡ before ++ turn ∷ after
  makes : installs id turn.call turn.reply ≡ true

installing_more : (id : ℤ) (h : History) (e : Entry) (t : Bool) → installs id e.call e.reply ≡ t →
    (IsLive h id → Installing id h) → IsLive (h ++ e ∷ []) id → Installing id (h ++ e ∷ [])
installing_more id h e true made before lives = record { before = h; turn = e; after = []; is = refl; makes = made }
installing_more id h e false other before lives = elim (is_live (live h) id) [
  | inl lived ↦ let was : Installing id h = before lived in
      record {
        before = was.before;
        turn = was.turn;
        after = was.after ++ e ∷ [];
        is = ap (λ (k : History). k ++ e ∷ []) was.is ∙ append_assoc was.before (was.turn ∷ was.after) (e ∷ []);
        makes = was.makes;
      }
  | inr dead ↦ absurd (stays_dead (live h) id e.call e.reply other dead (subst (λ l. HasId l id) (live-more h e) lives))
]

-- An identifier that is live was installed.
was_installed : (id : ℤ) (h : History) → IsLive h id → Installing id h
was_installed id = from_end (λ (h : History). IsLive h id → Installing id h) (λ lives. absurd lives)
    (λ h e before. installing_more id h e (installs id e.call e.reply) refl before)

module _ (one : NoTwoRepliesAreLegal) where
  pub told_not_live : ToldNotLive
  told_not_live h id call reply names l dead =
      one h call reply (not_live_reply call) l (not_live_legal (slot_of h) id call names dead)

  pub found_live : FoundLive
  found_live h id call reply names l other = elim (is_live (live h) id) [
    | inl lives ↦ lives
    | inr dead ↦ absurd (other (told_not_live h id call reply names l dead))
  ]

  module _ (h : History) (id : ℤ) (legal : IsLegalHistory h) (once : IsInstalledOnce id h) (before after : History)
      (e : Entry) (whole : h ≡ before ++ e ∷ after) (removed : removes id e.call e.reply ≡ true) where
    found : IsLive before id
    found = removal_found (slot_of before) id e.call e.reply (legal before e after whole) removed

    -- It was installed before, so it is not installed since then.
    never_again : AllByRecursion (λ (t : Entry). installs id t.call t.reply ≡ false) after
    never_again =
        let made : Installing id before = was_installed id before found in
        each_of (λ (t : Entry). installs id t.call t.reply ≡ false) after (λ middle rest t same.
        let split : h ≡ made.before ++ made.turn ∷ ((made.after ++ e ∷ middle) ++ t ∷ rest) =
        whole
        ∙ (ap (λ (k : History). k ++ e ∷ after) made.is
        ∙ (append_assoc made.before (made.turn ∷ made.after) (e ∷ after)
        ∙ (ap (λ (k : History). made.before ++ made.turn ∷ (made.after ++ e ∷ k)) same
        ∙ ap (λ (k : History). made.before ++ made.turn ∷ k)
        (sym (append_assoc made.after (e ∷ middle) (t ∷ rest)))))) in
        once made.before (made.after ++ e ∷ middle) rest made.turn t split made.makes)

    -- A turn since then finds it not live.
    finds_dead : (middle rest : History) (t : Entry) → after ≡ middle ++ t ∷ rest → ¬ IsLive (before ++ e ∷ middle) id
    finds_dead middle rest t same =
        dead_since id before middle e removed
        (front_of (λ (x : Entry). installs id x.call x.reply ≡ false) middle (t ∷ rest)
        (subst (AllByRecursion (λ (x : Entry). installs id x.call x.reply ≡ false)) same never_again))

    legal_since : (middle rest : History) (t : Entry) → after ≡ middle ++ t ∷ rest →
        Legal (slot_of (before ++ e ∷ middle)) t.call t.reply
    legal_since middle rest t same =
        legal (before ++ e ∷ middle) t rest
        (whole ∙ (ap (λ (k : History). before ++ e ∷ k) same ∙ sym (append_assoc before (e ∷ middle) (t ∷ rest))))

    pub gone_since : IsGoneSince id after h
    gone_since =
        let dead : ¬ IsLive h id =
        subst (λ (k : History). ¬ IsLive k id) (sym whole) (dead_since id before after e removed never_again) in
        record {
          accepts_none = none_by (λ (t : Entry). accepted_by id t.call t.reply) after
              (each_of (λ (t : Entry). accepted_by id t.call t.reply ≡ []) after
              (λ middle rest t same.
              (neither (slot_of (before ++ e ∷ middle)) id t.call t.reply (legal_since middle rest t same)
              (finds_dead middle rest t same)).0));
          delivers_none = none_by (λ (t : Entry). delivered_by id t.call t.reply) after
              (each_of (λ (t : Entry). delivered_by id t.call t.reply ≡ []) after
              (λ middle rest t same.
              (neither (slot_of (before ++ e ∷ middle)) id t.call t.reply (legal_since middle rest t same)
              (finds_dead middle rest t same)).1));
          not_live = dead;
          none_waits = (facts h legal).others id dead;
          told = All-from_recursion (λ (t : Entry). NamesId id t.call → t.reply ≡ not_live_reply t.call) after
              (each_of (λ (t : Entry). NamesId id t.call → t.reply ≡ not_live_reply t.call) after
              (λ middle rest t same names.
              told_not_live (before ++ e ∷ middle) id t.call t.reply names (legal_since middle rest t same)
              (finds_dead middle rest t same)));
        }

  pub removed_for_good : RemovedForGood
  removed_for_good h id legal once before after e whole removed =
      gone_since h id legal once before after e whole removed
