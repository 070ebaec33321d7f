use Rattle.std.proofs.Common.{ap, arith, rules, w64, FitsSigned}
use Rattle.std.proofs.lemmas.Int.{to_z-of_z}
use Rattle.sysv_messages.specs.declared.head.Head.{Head}
use Rattle.sysv_messages.proofs.Lists.{some_is}
use Rattle.sysv_messages.proofs.SelectedMessage.{none_there, kept_it, head_is, too_long, len_below, len_short, kept_as}
use Rattle.sysv_messages.proofs.SelectedMessage.{store_without, taken_it}
use Rattle.sysv_messages.proofs.messages.Messages.take.Goals as goal

pub returns-in_default-clause-refused : goal.returns-in_default-clause-refused
returns-in_default-clause-refused g c =
    none_there c.self.inside.heads c.self.inside.chains.items c.self.inside.index c.args.self.now c.args.sel
    c.self.view_is c.in_default.ensures.selected

pub index-requires : goal.index-requires
index-requires g c =
    let s = c.self in
    let kept = kept_it s.inside.heads s.inside.chains.items s.inside.index s.inside.bytes s.invariant c.args.self.now
    s.view_is c.args.sel c.in-Some.found c.in-Some.ensures.selected in
    some_is _ _ kept.known

pub returns-then-index-most-clause-refused : goal.returns-then-index-most-clause-refused
returns-then-index-most-clause-refused g c =
    let s = c.self in
    let x = c.in-Some.ensures.selected in
    let is = head_is s.inside.heads s.inside.chains.items s.inside.index s.inside.bytes s.invariant c.args.self.now
    s.view_is c.args.sel c.in-Some.found x c.index.result.now c.index.ensures in
    too_long s.inside.heads s.inside.chains.items s.inside.index s.inside.bytes s.invariant c.args.self.now s.view_is
    c.args.sel c.in-Some.found x c.args.most
    (omega (arith, ap (λ (h : Head). h.len) is, c.if-index-most.true))

pub take-chain-requires : goal.take-chain-requires
take-chain-requires g c =
    let s = c.self in
    let kept = kept_it s.inside.heads s.inside.chains.items s.inside.index s.inside.bytes s.invariant c.args.self.now
    s.view_is c.args.sel c.in-Some.found c.in-Some.ensures.selected in
    some_is _ _ kept.text

pub overflow_cast-self : goal.overflow_cast-self
overflow_cast-self g c =
    let s = c.self in
    let short = len_short s.inside.heads s.inside.chains.items s.inside.index s.inside.bytes s.invariant c.args.self.now
    s.view_is c.args.sel c.in-Some.found c.in-Some.ensures.selected
    c.remove-head.new.self c.take-chain.new.chains.items c.remove.new.self c.remove-head.result c.take-chain.result
    c.remove-head.ensures.value c.take-chain.ensures.given
    c.remove-head.ensures.updates c.remove-head.ensures.len c.remove-head.ensures.capacity c.take-chain.ensures.left
    c.remove.ensures.others c.remove.ensures.removed in
    omega arith

pub overflow_sub-self : goal.overflow_sub-self
overflow_sub-self g c =
    let s = c.self in
    len_below s.inside.heads s.inside.chains.items s.inside.index s.inside.bytes s.invariant c.args.self.now s.view_is
    c.args.sel c.in-Some.found c.in-Some.ensures.selected
    c.remove-head.new.self c.take-chain.new.chains.items c.remove.new.self c.remove-head.result c.take-chain.result
    c.remove-head.ensures.value c.take-chain.ensures.given
    c.remove-head.ensures.updates c.remove-head.ensures.len c.remove-head.ensures.capacity c.take-chain.ensures.left
    c.remove.ensures.others c.remove.ensures.removed

pub invariant_of-result : goal.invariant_of-result
invariant_of-result g c =
    let s = c.self in
    kept_as s.inside.heads s.inside.chains.items s.inside.index s.inside.bytes s.invariant c.args.self.now s.view_is
    c.args.sel c.in-Some.found c.in-Some.ensures.selected
    c.remove-head.new.self c.take-chain.new.chains.items c.remove.new.self c.remove-head.result c.take-chain.result
    c.remove-head.ensures.value c.take-chain.ensures.given
    c.remove-head.ensures.updates c.remove-head.ensures.len c.remove-head.ensures.capacity c.take-chain.ensures.left
    c.remove.ensures.others c.remove.ensures.removed

pub invariant_of-self : goal.invariant_of-self
invariant_of-self g c =
    let s = c.self in
    store_without s.inside.heads s.inside.chains.items s.inside.index s.inside.bytes s.invariant c.args.self.now
    s.view_is c.args.sel c.in-Some.found c.in-Some.ensures.selected
    c.remove-head.new.self c.take-chain.new.chains.items c.remove.new.self c.remove-head.result c.take-chain.result
    c.remove-head.ensures.value c.take-chain.ensures.given
    c.remove-head.ensures.updates c.remove-head.ensures.len c.remove-head.ensures.capacity c.take-chain.ensures.left
    c.remove.ensures.others c.remove.ensures.removed

pub returns-clause-taken : goal.returns-clause-taken
returns-clause-taken g c =
    let s = c.self in
    let f : FitsSigned w64 c.remove-head.result.mtype = search rules in
    let now = head_is s.inside.heads s.inside.chains.items s.inside.index s.inside.bytes s.invariant c.args.self.now
    s.view_is c.args.sel c.in-Some.found c.in-Some.ensures.selected c.index.result.now c.index.ensures in
    let then = head_is s.inside.heads s.inside.chains.items s.inside.index s.inside.bytes s.invariant c.args.self.now
    s.view_is c.args.sel c.in-Some.found c.in-Some.ensures.selected c.remove-head.result c.remove-head.ensures.value in
    taken_it s.inside.heads s.inside.chains.items s.inside.index s.inside.bytes s.invariant c.args.self.now s.view_is
    c.args.sel c.in-Some.found c.in-Some.ensures.selected
    c.remove-head.new.self c.take-chain.new.chains.items c.remove.new.self c.remove-head.result c.take-chain.result
    c.remove-head.ensures.value c.take-chain.ensures.given
    c.remove-head.ensures.updates c.remove-head.ensures.len c.remove-head.ensures.capacity c.take-chain.ensures.left
    c.remove.ensures.others c.remove.ensures.removed
    c.args.most _
    (ap (λ t. record {
      number = c.remove-head.result.number;
      sender = c.remove-head.result.sender;
      mtype = t;
      bytes = c.take-chain.result.bytes;
    }) (to_z-of_z w64 c.remove-head.result.mtype f))
    (omega (arith, ap (λ (h : Head). h.len) now, ap (λ (h : Head). h.len) then, c.if-index-most.false))
