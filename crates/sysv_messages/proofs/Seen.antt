-- What is seen of an entry whose place is not changed when another message is added or removed.
use Rattle.std.proofs.Common.{◌≡◌, ◌≢◌, ℕ, ◌<◌, List, [], ◌∷◌, Option, Some, refl, sym, ap, subst, ◌∙◌, arith}
use Rattle.std.specs.List.{All, slice_get}
use Rattle.std.proofs.lemmas.List.{get_or-map, length-map}
use Rattle.std.proofs.lemmas.List.Elements.{All-weaker}
use Rattle.std.proofs.lemmas.Option.{slice_get-map}
use Rattle.slab.specs.Slab.{Slab, get}
use Rattle.sysv_model.specs.Message.{Message}
use Rattle.sysv_pool.specs.Chain.{Chained}
use Rattle.sysv_messages.specs.declared.entry.Entry.{Entry}
use Rattle.sysv_messages.specs.Entries.{types_of as types_in}
use Rattle.sysv_messages.specs.declared.head.Head.{Head}
use Rattle.sysv_messages.specs.Texts.{types_of}
use Rattle.sysv_messages.specs.Kept.{chain_at, message_of, message_at, messages_of, IsKeptAs, IsKept}
use Rattle.sysv_messages.proofs.Lists.{map_same, all_both}

pub types_seen : (heads : Slab Head) (chains : List (Option Chained)) (entries : List Entry) →
    types_of (messages_of heads chains entries) ≡ types_in entries
types_seen heads chains [] = refl
types_seen heads chains (e ∷ es) = ap (λ types. e.mtype ∷ types) (types_seen heads chains es)

pub seen_at : (heads : Slab Head) (chains : List (Option Chained)) (entries : List Entry) (position : ℕ) (e : Entry) →
    slice_get entries position ≡ Some e →
    slice_get (messages_of heads chains entries) position ≡ Some (message_at heads chains e)
seen_at heads chains entries position e there =
    rw (slice_get-map (λ (e : Entry). message_at heads chains e) entries position, there) refl

pub numbers_seen : (heads : Slab Head) (chains : List (Option Chained)) (entries : List Entry) (n : ℕ) →
    All (λ (m : Message). m.number < n) (messages_of heads chains entries) → All (λ (e : Entry). e.number < n) entries
numbers_seen heads chains entries n low k d within =
    let f : Entry → Message = λ (e : Entry). message_at heads chains e in
    subst (λ (m : Message). m.number < n) (get_or-map f entries k d (f d) within)
    (low k (f d) (omega (arith, length-map entries f)))

-- Heads and chains that are unchanged except at one place.
module _ (heads heads' : Slab Head) (chains chains' : List (Option Chained)) (place : ℕ)
    (same_heads : (other : ℕ) → other ≢ place → get heads' other ≡ get heads other)
    (same_chains : (other : ℕ) → other ≢ place → chain_at chains' other ≡ chain_at chains other) where
  pub message_elsewhere : (e : Entry) → e.place ≢ place → message_at heads' chains' e ≡ message_at heads chains e
  message_elsewhere e other =
      ap (λ h. message_of h (chain_at chains' e.place) e) (same_heads e.place other)
      ∙ ap (λ c. message_of (get heads e.place) c e) (same_chains e.place other)

  kept_elsewhere : (e : Entry) → e.place ≢ place → IsKept heads chains e → IsKept heads' chains' e
  kept_elsewhere e other kept =
      subst (λ h. IsKeptAs h (chain_at chains' e.place) (message_of h (chain_at chains' e.place) e))
      (sym (same_heads e.place other))
      (subst (λ c. IsKeptAs (get heads e.place) c (message_of (get heads e.place) c e))
      (sym (same_chains e.place other)) kept)

  pub all_kept : (es : List Entry) → All (λ (e : Entry). e.place ≢ place) es → All (IsKept heads chains) es →
      All (IsKept heads' chains') es
  all_kept es others kept = all_both (λ (e : Entry). e.place ≢ place) (IsKept heads chains) (IsKept heads' chains') es
      kept_elsewhere others kept

  pub all_seen : (es : List Entry) → All (λ (e : Entry). e.place ≢ place) es →
      messages_of heads' chains' es ≡ messages_of heads chains es
  all_seen es others =
      map_same (λ (e : Entry). message_at heads' chains' e) (λ (e : Entry). message_at heads chains e) es
      (All-weaker (λ (e : Entry). e.place ≢ place)
      (λ (e : Entry). message_at heads' chains' e ≡ message_at heads chains e) message_elsewhere es others)
