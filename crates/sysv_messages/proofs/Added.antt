-- A message is added.
use Rattle.std.proofs.Common.{◌≡◌, ◌≢◌, ℕ, ◌+◌, ◌<◌, ◌≤◌, List, [], ◌∷◌, ◌++◌, Option, None, Some, IsSome, length, set}
use Rattle.std.proofs.Common.{sym, ap, subst, ◌∙◌, inl, inr, arith}
use Rattle.std.specs.List.{All, AllPairs, Contains}
use Rattle.std.proofs.lemmas.Bool.{cases_eq}
use Rattle.std.proofs.lemmas.List.{length_push, length-set, get_or-set_same, get_or-set_other, map-append}
use Rattle.std.proofs.lemmas.List.Elements.{All-push, All-weaker, All-map, Contains-push, Contains-append_left}
use Rattle.std.proofs.lemmas.List.Quantifiers.{all_pairs_push}
use Rattle.std.proofs.lemmas.List.Sums.{sum_by_push, sum_by-set}
use Rattle.slab.specs.Slab.{Slab, get, slab_len, ContainsKey, Updates}
use Rattle.sysv_model.specs.Message.{Message}
use Rattle.sysv_model.specs.Pool.{blocks_for}
use Rattle.sysv_model.specs.declared.limits.TheConstants.{MESSAGE_BYTES as most_bytes}
use Rattle.sysv_pool.specs.Chain.{Chained}
use Rattle.sysv_messages.specs.declared.entry.Entry.{Entry}
use Rattle.sysv_messages.specs.declared.head.Head.{Head}
use Rattle.sysv_messages.specs.Texts.{chain_of, bytes_of, blocks_of, blocks_in, all_blocks}
use Rattle.sysv_messages.specs.Kept.{chain_at, head_of, message_of, message_at, messages_of, keys_of, IsKeptAs, IsKept}
use Rattle.sysv_messages.specs.Kept.{IsStore}
use Rattle.sysv_messages.proofs.Lists.{never_none}
use Rattle.sysv_messages.proofs.Seen.{all_kept, all_seen}

module _ (heads heads' : Slab Head) (chains chains' : List (Option Chained)) (entries : List Entry) (bytes : ℕ)
    (e : Entry) (m : Message) (s : IsStore heads chains entries bytes)
    (vacant : get heads e.place ≡ None) (updates : Updates heads heads' e.place (Some (head_of m)))
    (counted : slab_len heads' ≡ slab_len heads + 1) (capacity : heads'.capacity ≡ heads.capacity)
    (within : e.place < length chains) (put : chains' ≡ set chains e.place (Some (chain_of m.bytes)))
    (number : e.number ≡ m.number) (mtype : e.mtype ≡ m.mtype) (short : length m.bytes ≤ most_bytes) where
  at_it : chain_at chains' e.place ≡ Some (chain_of m.bytes)
  at_it = ap (λ cs. chain_at cs e.place) put ∙ get_or-set_same chains e.place (Some (chain_of m.bytes)) None within

  elsewhere : (other : ℕ) → other ≢ e.place → chain_at chains' other ≡ chain_at chains other
  elsewhere other apart =
      ap (λ cs. chain_at cs other) put ∙ get_or-set_other chains e.place other (Some (chain_of m.bytes)) None apart

  apart : All (λ (o : Entry). o.place ≢ e.place) entries
  apart = All-weaker (IsKept heads chains) (λ (o : Entry). o.place ≢ e.place)
      (λ o kept same. never_none (get heads o.place) _ kept.known (ap (get heads) same ∙ vacant)) entries s.kept

  is : message_at heads' chains' e ≡ m
  is = ap (λ h. message_of h (chain_at chains' e.place) e) updates.changed
      ∙ (ap (λ c. message_of (Some (head_of m)) c e) at_it
      ∙ (ap (λ n. record { number = n; sender = m.sender; mtype = e.mtype; bytes = m.bytes }) number
      ∙ ap (λ t. record { number = m.number; sender = m.sender; mtype = t; bytes = m.bytes }) mtype))

  kept : IsKept heads' chains' e
  kept = subst (λ x. IsKeptAs (get heads' e.place) (chain_at chains' e.place) x) (sym is)
      (record { known = updates.changed; text = at_it; short = short })

  pub seen_put : messages_of heads' chains' (entries ++ e ∷ []) ≡ messages_of heads chains entries ++ m ∷ []
  seen_put =
      map-append (λ (o : Entry). message_at heads' chains' o) entries (e ∷ [])
      ∙ (ap (λ ms. ms ++ message_at heads' chains' e ∷ [])
      (all_seen heads heads' chains chains' e.place updates.others elsewhere entries apart)
      ∙ ap (λ x. messages_of heads chains entries ++ x ∷ []) is)

  blocks_put : all_blocks chains' ≡ all_blocks chains + blocks_for (length m.bytes)
  blocks_put =
      let more =
      sum_by-set (λ (c : Option Chained). blocks_in c) chains e.place (Some (chain_of m.bytes)) None within in
      omega (arith, more, ap all_blocks put, ap blocks_in (s.bare e.place vacant))

  bare_put : (place : ℕ) → get heads' place ≡ None → chain_at chains' place ≡ None
  bare_put place none = elim (cases_eq place e.place) [
    | inl same ↦ absurd (never_none (get heads' e.place) _ updates.changed (sym (ap (get heads') same) ∙ none))
    | inr other ↦ elsewhere place other ∙ s.bare place (sym (updates.others place other) ∙ none)
  ]

  known_put : (key : ℕ) → ContainsKey heads' key → Contains (keys_of (entries ++ e ∷ [])) key
  known_put key there =
      let long : keys_of (entries ++ e ∷ []) ≡ keys_of entries ++ e.place ∷ [] =
      map-append (λ (o : Entry). o.place) entries (e ∷ []) in
      subst (λ keys. Contains keys key) (sym long)
      (elim (cases_eq key e.place) [
        | inl same ↦ subst (λ k. Contains (keys_of entries ++ e.place ∷ []) k) (sym same)
            (Contains-push (keys_of entries) e.place)
        | inr other ↦ Contains-append_left (keys_of entries) (e.place ∷ []) key
            (s.known key (subst IsSome (updates.others key other) there))
      ])

  once_put : AllPairs (λ (a b : ℕ). a ≢ b) (keys_of (entries ++ e ∷ []))
  once_put =
      let long : keys_of (entries ++ e ∷ []) ≡ keys_of entries ++ e.place ∷ [] =
      map-append (λ (o : Entry). o.place) entries (e ∷ []) in
      subst (λ keys. AllPairs (λ (a b : ℕ). a ≢ b) keys) (sym long)
      (all_pairs_push (λ (a b : ℕ). a ≢ b) (keys_of entries) e.place s.once
      (All-map (λ (k : ℕ). k ≢ e.place) (λ (o : Entry). o.place) entries apart))

  pub store_put : IsStore heads' chains' (entries ++ e ∷ []) (bytes + length m.bytes)
  store_put = record {
    kept = All-push (IsKept heads' chains') entries e
        (all_kept heads heads' chains chains' e.place updates.others elsewhere entries apart s.kept) kept;
    known = known_put;
    once = once_put;
    same = omega (arith, counted, s.same, length_push entries e);
    bare = bare_put;
    wide = ap length put ∙ (length-set chains e.place (Some (chain_of m.bytes)) ∙ (s.wide ∙ sym capacity));
    roomy = omega (arith, s.roomy, capacity);
    summed = omega (
      arith,
      s.summed,
      ap bytes_of seen_put,
      sum_by_push (λ (x : Message). length x.bytes) (messages_of heads chains entries) m,
    );
    blocks = omega (
      arith,
      s.blocks,
      blocks_put,
      ap blocks_of seen_put,
      sum_by_push (λ (x : Message). blocks_for (length x.bytes)) (messages_of heads chains entries) m,
    );
  }
