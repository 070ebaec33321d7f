-- What a selection among the entries implies for the messages.
use Rattle.std.proofs.Common.{◌≡◌, ℕ, ◌+◌, ◌-◌, ◌≤◌, ◌<◌, ◌==◌, not, None, set, List, Option, Some, length, sym, ap}
use Rattle.std.proofs.Common.{subst, ◌∙◌, arith}
use Rattle.std.specs.List.{filter, remove, slice_get}
use Rattle.std.proofs.lemmas.Option.{same_Some}
use Rattle.slab.specs.Slab.{Slab, get, slab_len, Updates}
use Rattle.sysv_model.specs.Message.{Message}
use Rattle.sysv_model.specs.declared.limits.TheConstants.{MESSAGE_BYTES as most_bytes}
use Rattle.sysv_model.specs.declared.selector.Selector.{Selector}
use Rattle.sysv_rules.specs.Named.{IsNamed}
use Rattle.sysv_rules.specs.Qualifies.{NoneQualifies}
use Rattle.sysv_pool.specs.Chain.{Chained}
use Rattle.sysv_messages.specs.declared.entry.Entry.{Entry}
use Rattle.sysv_messages.specs.Entries.{types_of as types_in}
use Rattle.sysv_messages.specs.Selected.{IsSelected}
use Rattle.sysv_messages.specs.declared.head.Head.{Head}
use Rattle.sysv_messages.specs.Texts.{chain_of, types_of}
use Rattle.sysv_messages.specs.Taking.{IsTaken, IsTooLong}
use Rattle.sysv_messages.specs.Kept.{chain_at, head_of, message_at, messages_of, IsKept, IsStore}
use Rattle.sysv_messages.proofs.Seen.{types_seen}
use Rattle.sysv_messages.proofs.Taken.{kept_there, message_there, bytes_there, seen_left, store_left}

pub types_are : (heads : Slab Head) (chains : List (Option Chained)) (entries : List Entry) (messages : List Message) →
    messages_of heads chains entries ≡ messages → types_of messages ≡ types_in entries
types_are heads chains entries messages view = ap types_of (sym view) ∙ types_seen heads chains entries

pub none_there : (heads : Slab Head) (chains : List (Option Chained)) (entries : List Entry) (messages : List Message)
    (sel : Selector) → messages_of heads chains entries ≡ messages →
    NoneQualifies sel (types_in entries) → NoneQualifies sel (types_of messages)
none_there heads chains entries messages sel view none =
    subst (λ types. NoneQualifies sel types) (sym (types_are heads chains entries messages view)) none

module _ (heads : Slab Head) (chains : List (Option Chained)) (entries : List Entry) (bytes : ℕ)
    (s : IsStore heads chains entries bytes)
    (messages : List Message) (view : messages_of heads chains entries ≡ messages) (sel : Selector) (found : Entry)
    (x : IsSelected sel entries found) where
  abbrev pub its_message : Message
  its_message = message_at heads chains found

  pub kept_it : IsKept heads chains found
  kept_it = kept_there heads chains entries bytes found s x.position x.there

  pub head_is : (head : Head) → get heads found.place ≡ Some head → head ≡ head_of its_message
  head_is head there = same_Some _ _ (sym there ∙ kept_it.known)

  pub chain_is : (chain : Chained) → chain_at chains found.place ≡ Some chain → chain ≡ chain_of its_message.bytes
  chain_is chain there = same_Some _ _ (sym there ∙ kept_it.text)

  named : IsNamed sel (types_of messages) x.position
  named = subst (λ types. IsNamed sel types x.position) (sym (types_are heads chains entries messages view)) x.named

  there_seen : slice_get messages x.position ≡ Some its_message
  there_seen = subst (λ ms. slice_get ms x.position ≡ Some its_message) view
      (message_there heads chains entries bytes found s x.position x.there)

  pub too_long : (most : ℕ) → most < length its_message.bytes → IsTooLong sel most messages
  too_long most longer = record {
    position = x.position;
    message = its_message;
    named = named;
    there = there_seen;
    longer = longer;
    short = kept_it.short;
  }

  -- The head and the chain at the entry's place are removed, and so is the entry.
  module _ (heads' : Slab Head) (chains' : List (Option Chained)) (entries' : List Entry) (head : Head)
      (chain : Chained)
      (known : get heads found.place ≡ Some head) (given : chain_at chains found.place ≡ Some chain)
      (updates : Updates heads heads' found.place None) (counted : slab_len heads' + 1 ≡ slab_len heads)
      (capacity : heads'.capacity ≡ heads.capacity)
      (left : chains' ≡ set chains found.place None)
      (others : entries' ≡ filter (λ (o : Entry). not (o.number == head.number)) entries)
      (removed : (position : ℕ) (entry : Entry) → slice_get entries position ≡ Some entry → entry.number ≡ head.number →
      entries' ≡ remove entries position) where
    head_it : head ≡ head_of its_message
    head_it = head_is head known

    chain_it : chain ≡ chain_of its_message.bytes
    chain_it = chain_is chain given

    number_it : head.number ≡ found.number
    number_it = ap (λ (h : Head). h.number) head_it

    len_it : head.len ≡ length its_message.bytes
    len_it = ap (λ (h : Head). h.len) head_it

    without : entries' ≡ filter (λ (o : Entry). not (o.number == found.number)) entries
    without = others ∙ ap (λ n. filter (λ (o : Entry). not (o.number == n)) entries) number_it

    gone : entries' ≡ remove entries x.position
    gone = removed x.position found x.there (sym number_it)

    pub len_below : head.len ≤ bytes
    len_below = omega (arith, len_it, bytes_there heads chains entries bytes found s x.position x.there)

    pub len_short : head.len ≤ most_bytes
    len_short = omega (arith, len_it, kept_it.short)

    pub kept_as : (head.len ≡ length chain.bytes) × (head.len ≤ most_bytes) × (chain ≡ chain_of chain.bytes)
    kept_as =
        let texts : chain.bytes ≡ its_message.bytes = ap (λ (c : Chained). c.bytes) chain_it in
        (len_it ∙ ap length (sym texts), len_short, chain_it ∙ ap chain_of (sym texts))

    pub store_without : IsStore heads' chains' entries' (bytes - head.len)
    store_without =
        subst (λ n. IsStore heads' chains' entries' (bytes - n)) (sym len_it)
        (store_left heads chains entries bytes found s x.position x.there heads' chains' entries' updates counted
        capacity left without gone)

    message_it : record { number = head.number; sender = head.sender; mtype = head.mtype; bytes = chain.bytes }
        ≡ its_message
    message_it =
        ap (λ (h : Head). record { number = h.number; sender = h.sender; mtype = h.mtype; bytes = chain.bytes }) head_it
        ∙ ap (λ (c : Chained).
        record { number = its_message.number; sender = its_message.sender; mtype = its_message.mtype; bytes = c.bytes })
        chain_it

    pub taken_it : (most : ℕ) (m : Message) →
        m ≡ record { number = head.number; sender = head.sender; mtype = head.mtype; bytes = chain.bytes } →
        head.len ≤ most →
        IsTaken sel most messages m (messages_of heads' chains' entries')
    taken_it most m same fits = record {
      position = x.position;
      named = named;
      there = there_seen ∙ ap Some (sym (same ∙ message_it));
      fits = subst (λ (y : Message). length y.bytes ≤ most) (sym (same ∙ message_it)) (omega (arith, len_it, fits));
      left = seen_left heads chains entries bytes found s x.position x.there heads' chains' entries' updates counted
          capacity left without gone ∙ ap (λ ms. remove ms x.position) view;
    }
