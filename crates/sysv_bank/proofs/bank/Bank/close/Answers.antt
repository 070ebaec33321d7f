use Rattle.std.proofs.Common.{◌≡◌, ◌+◌, ◌*◌, set, ap, sym, subst, refl, ◌∙◌, ◌∷◌, [], length, false, get_or, arith}
use Rattle.std.proofs.Common.{length-append, get_or-set_other}
use mathlib.Core.Logic.{dite}
use native.Mathlib.Decide.{ℕ_discrete}
use mathlib.Core.Option.{some}
use lib.ListN.{get_elem?}
use Rattle.std.specs.Mem.Slots.{slots_len, slots_items, slots_filled, IsFull}
use Rattle.atomic_table.specs.Table.{Final, Seen}
use Rattle.sysv_gate.specs.History.{Moves}
use Rattle.sysv_gate.specs.Closings.{Closes}
use Rattle.sysv_gate.specs.Tables.{InOrder}
use Rattle.sysv_gate.specs.Ending.{IsReadAt}
use Rattle.sysv_bank.specs.Banks.{Each2}
use Rattle.sysv_bank.specs.Closing.{ClosesInOrder}
use Rattle.sysv_gate.proofs.AtTheEnd.{served_from}
use Rattle.sysv_bank.proofs.Passes.{same_table}
use Rattle.sysv_bank.proofs.ClosedBank.{emptied, none_read, one_read, closes_all, closes_order}
use Rattle.sysv_bank.proofs.bank.Bank.close.Goals as goal

pub close_with-closed-requires : goal.close_with-closed-requires
close_with-closed-requires g c =
    let moves = Moves g.O.Object.meaning g.O.Object.counted in
    let counted = g.O.Object.counted in
    let tok = c.into_token.ensures in
    let u = tok.0 in
    let same = same_table moves _ _ u _ _ c.self.invariant tok.2 c.self.view_is tok.1 c.requires in
    ap (λ t. t.table_id) (sym tok.3) ∙ same.0

pub loop-place-init : goal.loop-place-init
loop-place-init g c =
    let slots = c.self.invariant.slots in
    let room = c.self.invariant.room in
    let counts = c.close_with-closed.ensures.counts in
    record {
      words = refl;
      slots = refl;
      many = refl;
      filled = λ k from less. c.close_with-closed.ensures.values.1 k from less;
      empty = λ k less. absurd (omega arith);
      read = none_read _ _ _ _ c.self.invariant.none_yet;
      count = ap length c.self.invariant.none_yet;
      room = omega arith;
    }

pub close_place-requires-clause-words : goal.close_place-requires-clause-words
close_place-requires-clause-words g c =
    let inv = c.loop-place.invariant in
    let words = c.self.invariant.words in
    let slots = c.self.invariant.slots in
    let few = c.self.invariant.few in
    let counts = c.close_with-closed.ensures.counts in
    let end = c.slot_count-place-end.ensures in
    let many = inv.many in
    let inside = c.loop-place-test.true in
    let wide = ap slots_len inv.words in
    (omega arith, omega arith, subst IsFull (sym inv.words) c.close_with-closed.ensures.values.0)

pub close_place-requires-clause-slot : goal.close_place-requires-clause-slot
close_place-requires-clause-slot g c =
    let inv = c.loop-place.invariant in
    let words = c.self.invariant.words in
    let slots = c.self.invariant.slots in
    let few = c.self.invariant.few in
    let counts = c.close_with-closed.ensures.counts in
    let end = c.slot_count-place-end.ensures in
    let many = inv.many in
    let inside = c.loop-place-test.true in
    (omega arith, inv.filled c.loop-place.place (omega arith) (omega arith))

pub close_place-requires-clause-served : goal.close_place-requires-clause-served
close_place-requires-clause-served g c served at =
    let moves = Moves g.O.Object.meaning g.O.Object.counted in
    let counted = g.O.Object.counted in
    let tok = c.into_token.ensures in
    let u = tok.0 in
    let same = same_table moves _ _ u _ _ c.self.invariant tok.2 c.self.view_is tok.1 c.requires in
    let closed = c.close_with-closed.result in
    let key = c.self.inside.key in
    let final = subst (λ k.
    Final (Seen (InOrder moves counted k.openings.value.items k.first) c.into_token.result.id c.into_token.result.me.0)
    (slots_items closed.words) (slots_items closed.slots)) c.self.invariant.key c.close_with-closed.ensures.values.2 in
    let inv = c.loop-place.invariant in
    let words = c.self.invariant.words in
    let slots = c.self.invariant.slots in
    let few = c.self.invariant.few in
    let counts = c.close_with-closed.ensures.counts in
    let end = c.slot_count-place-end.ensures in
    let many = inv.many in
    let inside = c.loop-place-test.true in
    served_from moves counted key.openings.value.items key.first _ _ _ _ final c.loop-place.place served (omega arith)
    (subst (λ ws. get_elem? (slots_items ws) (80 * c.loop-place.place + 16) ≡ some served) inv.words at)

pub push_reserved-requires : goal.push_reserved-requires
push_reserved-requires g c =
    let inv = c.loop-place.invariant in
    let words = c.self.invariant.words in
    let slots = c.self.invariant.slots in
    let few = c.self.invariant.few in
    let counts = c.close_with-closed.ensures.counts in
    let end = c.slot_count-place-end.ensures in
    let many = inv.many in
    let inside = c.loop-place-test.true in
    let count = inv.count in
    let room = inv.room in
    let long = c.loop-place.closings.ok.0 in
    omega arith

pub loop-place-preserved : goal.loop-place-preserved
loop-place-preserved g c =
    let inv = c.loop-place.invariant in
    let went = c.close_place.ensures in
    let place = c.loop-place.place in
    let before = slots_filled c.loop-place.closed.slots in
    let count = inv.count in
    let longer =
    ap length c.push_reserved.ensures.items ∙ length-append c.loop-place.closings.items (c.close_place.result ∷ []) in
    record {
      words = went.words ∙ inv.words;
      slots = went.slots.0 ∙ inv.slots;
      many = went.slots.2 ∙ inv.many;
      filled = λ k from less.
          ap (λ fs. get_or fs k false) went.slots.1 ∙ get_or-set_other before place k false false (λ e. omega arith)
          ∙ inv.filled k (omega arith) less;
      empty = λ k less.
          ap (λ fs. get_or fs k false) went.slots.1
          ∙ dite (ℕ_discrete k place)
          (λ e. subst (λ n. get_or (set before place false) n false ≡ false) (sym e) (emptied before place))
          (λ ne. get_or-set_other before place k false false ne ∙ inv.empty k (omega arith));
      read = one_read _ _ _ _ _ _ _ inv.read inv.count c.push_reserved.ensures.items
          (subst (λ xs.
          IsReadAt c.self.inside.key.first (slots_items c.close_with-closed.result.words) xs place c.close_place.result)
          inv.slots
          (subst (λ ws.
          IsReadAt c.self.inside.key.first (slots_items ws) (slots_items c.loop-place.closed.slots) place
          c.close_place.result) inv.words went.read));
      count = omega arith;
      room = let same = c.push_reserved.ensures.capacity in let room = inv.room in omega arith;
    }

pub free-requires : goal.free-requires
free-requires g c k less =
    let inv = c.loop-place.invariant in
    let words = c.self.invariant.words in
    let slots = c.self.invariant.slots in
    let few = c.self.invariant.few in
    let counts = c.close_with-closed.ensures.counts in
    let end = c.slot_count-place-end.ensures in
    let many = inv.many in
    let over = c.loop-place-test.false in
    inv.empty k (omega arith)

pub returns-clause-closed : goal.returns-clause-closed
returns-clause-closed g c =
    let moves = Moves g.O.Object.meaning g.O.Object.counted in
    let counted = g.O.Object.counted in
    let tok = c.into_token.ensures in
    let u = tok.0 in
    let same = same_table moves _ _ u _ _ c.self.invariant tok.2 c.self.view_is tok.1 c.requires in
    let closed = c.close_with-closed.result in
    let key = c.self.inside.key in
    let final = subst (λ k.
    Final (Seen (InOrder moves counted k.openings.value.items k.first) c.into_token.result.id c.into_token.result.me.0)
    (slots_items closed.words) (slots_items closed.slots)) c.self.invariant.key c.close_with-closed.ensures.values.2 in
    let inv = c.loop-place.invariant in
    let words = c.self.invariant.words in
    let slots = c.self.invariant.slots in
    let few = c.self.invariant.few in
    let counts = c.close_with-closed.ensures.counts in
    let end = c.slot_count-place-end.ensures in
    let many = inv.many in
    let over = c.loop-place-test.false in
    let most = c.loop-place.auto.place-end in
    let count = inv.count in
    subst (λ p. Each2 (Closes moves) p.seats c.loop-place.closings.items) tok.1
    (closes_all moves counted key.openings.value.items key.first _ _ _ _ final u tok.2 same.1 same.2
    (ap (λ t. t.id) tok.3) (ap (λ t. t.me.0) tok.3) c.loop-place.closings.items inv.read (omega arith))

pub returns-clause-order : goal.returns-clause-order
returns-clause-order g c =
    let moves = Moves g.O.Object.meaning g.O.Object.counted in
    let counted = g.O.Object.counted in
    let tok = c.into_token.ensures in
    let u = tok.0 in
    let same = same_table moves _ _ u _ _ c.self.invariant tok.2 c.self.view_is tok.1 c.requires in
    let closed = c.close_with-closed.result in
    let key = c.self.inside.key in
    let final = subst (λ k.
    Final (Seen (InOrder moves counted k.openings.value.items k.first) c.into_token.result.id c.into_token.result.me.0)
    (slots_items closed.words) (slots_items closed.slots)) c.self.invariant.key c.close_with-closed.ensures.values.2 in
    let inv = c.loop-place.invariant in
    let words = c.self.invariant.words in
    let slots = c.self.invariant.slots in
    let few = c.self.invariant.few in
    let counts = c.close_with-closed.ensures.counts in
    let end = c.slot_count-place-end.ensures in
    let many = inv.many in
    let over = c.loop-place-test.false in
    let most = c.loop-place.auto.place-end in
    let count = inv.count in
    subst (λ p. ClosesInOrder moves p c.loop-place.closings.items) tok.1
    (closes_order moves counted key.openings.value.items key.first _ _ _ _ final u tok.2 same.1 same.2
    (ap (λ t. t.id) tok.3) (ap (λ t. t.me.0) tok.3) c.loop-place.closings.items inv.read (omega arith)
    c.self.invariant.some_place)
