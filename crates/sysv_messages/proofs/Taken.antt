-- A message is removed.
use Rattle.std.proofs.Common.{◌≡◌, ◌≢◌, ℕ, ◌+◌, ◌-◌, ◌<◌, ◌≤◌, ◌==◌, true, not, sum_by, List, ◌∷◌, Option, None, Some}
use Rattle.std.proofs.Common.{IsSome, length, set, refl, sym, ap, subst, ◌∙◌, inl, inr, arith}
use Rattle.std.specs.List.{All, AllPairs, Contains, filter, remove, slice_get}
use Rattle.std.proofs.lemmas.Bool.{cases_eq}
use Rattle.std.proofs.lemmas.List.{length-set, get_or-set_same, get_or-set_other}
use Rattle.std.proofs.lemmas.List.Edits.{length-remove}
use Rattle.std.proofs.lemmas.List.Elements.{All-filter, filter_passes}
use Rattle.std.proofs.lemmas.List.Quantifiers.{all_pairs_remove}
use Rattle.std.proofs.lemmas.List.Sorted.{IsPermutation-remove, Contains-permutation}
use Rattle.std.proofs.lemmas.List.Sums.{sum_by-remove, sum_by-set}
use Rattle.std.proofs.lemmas.Option.{slice_get_within, get_or_from_slice_get, same_Some, slice_get-map}
use Rattle.slab.specs.Slab.{Slab, get, slab_len, ContainsKey, Updates}
use Rattle.slab.proofs.SlabLemmas.{Contains-cons_cases}
use Rattle.sysv_model.specs.Message.{Message}
use Rattle.sysv_model.specs.Pool.{blocks_for}
use Rattle.sysv_pool.specs.Chain.{Chained}
use Rattle.sysv_messages.specs.declared.entry.Entry.{Entry}
use Rattle.sysv_messages.specs.declared.head.Head.{Head}
use Rattle.sysv_messages.specs.Texts.{bytes_of, blocks_of, blocks_in, all_blocks}
use Rattle.sysv_messages.specs.Kept.{chain_at, head_of, message_at, messages_of, keys_of, IsKept, IsStore}
use Rattle.sysv_messages.proofs.Lists.{map_remove, at_place, all_both, other_number, place_within, no_some}
use Rattle.sysv_messages.proofs.Seen.{seen_at, all_kept, all_seen}

-- How much a sum over messages falls.
pub sum_less : (f : Message → ℕ) (ms : List Message) (position : ℕ) (m : Message) → slice_get ms position ≡ Some m →
    sum_by f (remove ms position) + f m ≡ sum_by f ms
sum_less f ms position m there =
    subst (λ (x : Message). sum_by f (remove ms position) + f x ≡ sum_by f ms)
    (get_or_from_slice_get ms position m m there) (sum_by-remove f ms position m (slice_get_within ms position m there))

module _ (heads : Slab Head) (chains : List (Option Chained)) (entries : List Entry) (bytes : ℕ) (e : Entry)
    (s : IsStore heads chains entries bytes) (position : ℕ) (there : slice_get entries position ≡ Some e) where
  abbrev pub its : Message
  its = message_at heads chains e

  pub kept_there : IsKept heads chains e
  kept_there = at_place (IsKept heads chains) entries position e s.kept there

  pub message_there : slice_get (messages_of heads chains entries) position ≡ Some its
  message_there = seen_at heads chains entries position e there

  pub bytes_there : length its.bytes ≤ bytes
  bytes_there = omega (
    arith,
    s.summed,
    sum_less (λ (m : Message). length m.bytes) (messages_of heads chains entries) position its message_there,
  )

  module _ (heads' : Slab Head) (chains' : List (Option Chained)) (entries' : List Entry)
      (updates : Updates heads heads' e.place None) (counted : slab_len heads' + 1 ≡ slab_len heads)
      (capacity : heads'.capacity ≡ heads.capacity) (left : chains' ≡ set chains e.place None)
      (others : entries' ≡ filter (λ (o : Entry). not (o.number == e.number)) entries)
      (removed : entries' ≡ remove entries position) where
    elsewhere : (other : ℕ) → other ≢ e.place → chain_at chains' other ≡ chain_at chains other
    elsewhere other apart = ap (λ cs. chain_at cs other) left ∙ get_or-set_other chains e.place other None None apart

    kept_still : All (IsKept heads chains) entries'
    kept_still = subst (λ es. All (IsKept heads chains) es) (sym others)
        (All-filter (λ (o : Entry). not (o.number == e.number)) (IsKept heads chains) entries s.kept)

    passed : All (λ (o : Entry). not (o.number == e.number) ≡ true) entries'
    passed = subst (λ es. All (λ (o : Entry). not (o.number == e.number) ≡ true) es) (sym others)
        (filter_passes (λ (o : Entry). not (o.number == e.number)) entries)

    -- Heads at the same place are the same head, and so have the same number.
    apart_from : (o : Entry) → not (o.number == e.number) ≡ true → IsKept heads chains o → o.place ≢ e.place
    apart_from o other kept same =
        let one : head_of (message_at heads chains o) ≡ head_of its =
        same_Some _ _ (sym kept.known ∙ (ap (get heads) same ∙ kept_there.known)) in
        other_number o.number e.number other (ap (λ (h : Head). h.number) one)

    apart : All (λ (o : Entry). o.place ≢ e.place) entries'
    apart = all_both (λ (o : Entry). not (o.number == e.number) ≡ true) (IsKept heads chains)
        (λ (o : Entry). o.place ≢ e.place) entries' apart_from passed kept_still

    pub seen_left : messages_of heads' chains' entries' ≡ remove (messages_of heads chains entries) position
    seen_left =
        all_seen heads heads' chains chains' e.place updates.others elsewhere entries' apart
        ∙ (ap (λ es. messages_of heads chains es) removed
        ∙ map_remove (λ (o : Entry). message_at heads chains o) entries position)

    within : e.place < length chains
    within = place_within chains e.place _ kept_there.text

    blocks_left : all_blocks chains' + blocks_for (length its.bytes) ≡ all_blocks chains
    blocks_left =
        let less = sum_by-set (λ (c : Option Chained). blocks_in c) chains e.place None None within in
        omega (arith, less, ap all_blocks left, ap blocks_in kept_there.text)

    bare_left : (place : ℕ) → get heads' place ≡ None → chain_at chains' place ≡ None
    bare_left place none = elim (cases_eq place e.place) [
      | inl same ↦ ap (λ p. chain_at chains' p) same
          ∙ (ap (λ cs. chain_at cs e.place) left ∙ get_or-set_same chains e.place None None within)
      | inr other ↦ elsewhere place other ∙ s.bare place (sym (updates.others place other) ∙ none)
    ]

    keys_left : keys_of entries' ≡ remove (keys_of entries) position
    keys_left = ap keys_of removed ∙ map_remove (λ (o : Entry). o.place) entries position

    key_there : slice_get (keys_of entries) position ≡ Some e.place
    key_there = rw (slice_get-map (λ (o : Entry). o.place) entries position, there) refl

    key_within : position < length (keys_of entries)
    key_within = slice_get_within (keys_of entries) position e.place key_there

    known_left : (key : ℕ) → ContainsKey heads' key → Contains (keys_of entries') key
    known_left key some = elim (cases_eq key e.place) [
      | inl same ↦ absurd (no_some (get heads' e.place) updates.changed (subst (λ k. ContainsKey heads' k) same some))
      | inr other ↦
          let had : Contains (keys_of entries) key = s.known key (subst IsSome (updates.others key other) some) in
          let out = IsPermutation-remove (keys_of entries) position e.place key_within
          (sym (get_or_from_slice_get (keys_of entries) position e.place e.place key_there)) in
          elim (Contains-cons_cases e.place key (remove (keys_of entries) position)
          (Contains-permutation (keys_of entries) (e.place ∷ remove (keys_of entries) position) key out had)) [
            | inl it ↦ absurd (other (sym it))
            | inr stays ↦ subst (λ keys. Contains keys key) (sym keys_left) stays
          ]
    ]

    once_left : AllPairs (λ (a b : ℕ). a ≢ b) (keys_of entries')
    once_left = subst (λ keys. AllPairs (λ (a b : ℕ). a ≢ b) keys) (sym keys_left)
        (all_pairs_remove (λ (a b : ℕ). a ≢ b) (keys_of entries) position key_within s.once)

    pub store_left : IsStore heads' chains' entries' (bytes - length its.bytes)
    store_left = record {
      kept = all_kept heads heads' chains chains' e.place updates.others elsewhere entries' apart kept_still;
      known = known_left;
      once = once_left;
      same = omega (
        arith,
        counted,
        s.same,
        ap length removed,
        length-remove entries position (slice_get_within entries position e there),
      );
      bare = bare_left;
      wide = ap length left ∙ (length-set chains e.place None ∙ (s.wide ∙ sym capacity));
      roomy = omega (arith, s.roomy, capacity);
      summed = omega (
        arith,
        s.summed,
        ap bytes_of seen_left,
        sum_less (λ (m : Message). length m.bytes) (messages_of heads chains entries) position its message_there,
      );
      blocks = omega (
        arith,
        s.blocks,
        blocks_left,
        ap blocks_of seen_left,
        sum_less (λ (m : Message). blocks_for (length m.bytes)) (messages_of heads chains entries) position its
            message_there,
      );
    }
