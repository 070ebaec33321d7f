use Rattle.std.proofs.Common.{sym, subst, ◌∙◌, arith}
use Rattle.sysv_messages.specs.Kept.{IsStore}
use Rattle.sysv_messages.proofs.Bare.{store_bare}
use Rattle.sysv_messages.proofs.messages.Messages.take_all.Goals as goal

pub invariant_of-self : goal.invariant_of-self
invariant_of-self c =
    subst (λ es. IsStore c.clear.new.self c.take_all-chain.new.chains.items es 0) (sym c.clear-2.ensures)
    (store_bare c.clear.new.self c.take_all-chain.new.chains.items c.clear.ensures.empty c.take_all-chain.ensures.bare
    (c.take_all-chain.ensures.places ∙ (c.self.invariant.wide ∙ sym c.clear.ensures.capacity))
    (omega (arith, c.self.invariant.roomy, c.clear.ensures.capacity)))
