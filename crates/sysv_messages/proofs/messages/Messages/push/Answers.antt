use Rattle.std.proofs.Common.{◌≡◌, ℕ, ◌+◌, ◌<◌, [], ◌∷◌, ◌++◌, Some, length, sym, ap, subst, ◌∙◌, arith, refl}
use Rattle.std.proofs.Common.{slice_set, w64, ◌≤◌}
use Rattle.std.proofs.lemmas.Int.{to_z-of_z}
use Rattle.sysv_model.specs.declared.limits.TheConstants.{MESSAGE_BYTES as most_bytes}
use Rattle.std.specs.List.{All}
use Rattle.slab.specs.Slab.{Updates}
use Rattle.sysv_model.specs.Message.{Message}
use Rattle.sysv_model.specs.Pool.{blocks_for}
use Rattle.sysv_pool.specs.Chain.{Chained}
use Rattle.sysv_messages.specs.declared.entry.Entry.{Entry}
use Rattle.sysv_messages.specs.Texts.{chain_of}
use Rattle.sysv_messages.specs.Kept.{messages_of, head_of, IsStore}
use Rattle.sysv_messages.proofs.Seen.{numbers_seen}
use Rattle.sysv_messages.proofs.Added.{seen_put, store_put}
use Rattle.sysv_messages.proofs.messages.Messages.push.Goals as goal

pub push-requires-clause-last : goal.push-requires-clause-last
push-requires-clause-last c =
    numbers_seen c.self.inside.heads c.self.inside.chains.items c.self.inside.index c.args.number
    (subst (λ ms. All (λ (m : Message). m.number < c.args.number) ms) (sym c.self.view_is) c.requires.last)

its_chain : (chain : Chained) (len : ℕ) → length chain.bytes ≡ len → chain.blocks ≡ blocks_for len →
    chain ≡ chain_of chain.bytes
its_chain chain len text blocks =
    ap (λ n. record { blocks = n; bytes = chain.bytes }) (blocks ∙ ap blocks_for (sym text))

module _ (c : goal.After-self-1) where
  abbrev its_message : Message
  its_message =
      record { number = c.args.number; sender = c.args.sender; mtype = c.args.mtype; bytes = c.args.chain.bytes }

  abbrev its_entry : Entry
  its_entry = record { mtype = c.args.mtype; number = c.args.number; place = c.insert_reserved-place.result }

  pushed : c.push.new.self ≡ c.self.inside.index ++ its_entry ∷ []
  pushed = rw (to_z-of_z w64 c.args.mtype c.ranges.mtype) at c.push.ensures

  updates : Updates c.self.inside.heads c.insert_reserved-place.new.self c.insert_reserved-place.result
      (Some (head_of its_message))
  updates =
      let raw = rw (to_z-of_z w64 c.args.mtype c.ranges.mtype) at c.insert_reserved-place.ensures.updates in
      subst (λ n. Updates c.self.inside.heads c.insert_reserved-place.new.self c.insert_reserved-place.result
      (Some (record { number = c.args.number; sender = c.args.sender; mtype = c.args.mtype; len = n })))
      (sym c.requires.text) raw

  put : c.put.new.chains.items
      ≡ slice_set c.self.inside.chains.items c.insert_reserved-place.result (Some (chain_of c.args.chain.bytes))
  put = c.put.ensures
      ∙ ap (λ chain. slice_set c.self.inside.chains.items c.insert_reserved-place.result (Some chain))
      (its_chain c.args.chain c.args.len c.requires.text c.requires.blocks)

  within : c.insert_reserved-place.result < length c.self.inside.chains.items
  within = omega (
    arith,
    c.insert_reserved-place.ensures.key_in_range,
    c.insert_reserved-place.ensures.capacity,
    c.self.invariant.wide,
  )

  short : length c.args.chain.bytes ≤ most_bytes
  short = omega (arith, c.requires.text, c.requires.short)

  pub stored : IsStore c.insert_reserved-place.new.self c.put.new.chains.items c.push.new.self
      (c.self.inside.bytes + c.args.len)
  stored =
      subst (λ n.
      IsStore c.insert_reserved-place.new.self c.put.new.chains.items c.push.new.self (c.self.inside.bytes + n))
      c.requires.text
      (subst (λ es.
      IsStore c.insert_reserved-place.new.self c.put.new.chains.items es
      (c.self.inside.bytes + length c.args.chain.bytes)) (sym pushed)
      (store_put c.self.inside.heads c.insert_reserved-place.new.self c.self.inside.chains.items c.put.new.chains.items
      c.self.inside.index c.self.inside.bytes its_entry its_message c.self.invariant
      c.insert_reserved-place.ensures.was_vacant updates c.insert_reserved-place.ensures.len
      c.insert_reserved-place.ensures.capacity within put refl refl short))

  pub seen : messages_of c.insert_reserved-place.new.self c.put.new.chains.items c.push.new.self
      ≡ c.args.self.now ++ its_message ∷ []
  seen =
      ap (λ es. messages_of c.insert_reserved-place.new.self c.put.new.chains.items es) pushed
      ∙ (seen_put c.self.inside.heads c.insert_reserved-place.new.self c.self.inside.chains.items c.put.new.chains.items
      c.self.inside.index c.self.inside.bytes its_entry its_message c.self.invariant
      c.insert_reserved-place.ensures.was_vacant updates c.insert_reserved-place.ensures.len
      c.insert_reserved-place.ensures.capacity within put refl refl short
      ∙ ap (λ ms. ms ++ its_message ∷ []) c.self.view_is)

pub invariant_of-self : goal.invariant_of-self
invariant_of-self c = stored c

pub returns : goal.returns
returns c = seen c
