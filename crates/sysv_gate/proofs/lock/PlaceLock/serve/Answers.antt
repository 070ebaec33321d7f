use Rattle.std.proofs.Common.{rules, arith, ap, refl, sym, subst, ◌∙◌, ◌∷◌, ◌^◌, ◌+◌, ◌%◌, cond, [], length}
use Rattle.atomic_table.specs.Table.{rest}
use Rattle.sysv_gate.specs.Rule.{put}
use Rattle.sysv_gate.specs.History.{after_all, Moves, AreUpTo, AreBelow}
use Rattle.sysv_gate.specs.Counts.{of_count}
use Rattle.sysv_gate.specs.Steps.{announced_by, after_turn, Ends}
use Rattle.sysv_gate.specs.Tables.{view_at, me_at}
use Rattle.sysv_gate.specs.Plays.{turns_told}
use Rattle.sysv_gate.specs.declared.count.Count.TheVariants.{Arrived, Freed}
use Rattle.sysv_gate.proofs.StepAtPlace.{lifted_told}
use Rattle.sysv_gate.proofs.PassUnchanged.{only_trans, stepped_only}
use Rattle.sysv_gate.proofs.SlotToOrder.{out_there, lent_there, written_there, refilled_only, ends_told, ends_order}
use Rattle.sysv_gate.proofs.LearnedInCall.{made_turn, counts_low, handed, told_move, announced_all}
use Rattle.sysv_gate.proofs.lock.PlaceLock.serve.Goals as goal

pub slot_mut-spot-requires : goal.slot_mut-spot-requires
slot_mut-spot-requires g c =
    let p = c.args.self.now.place in
    let m = c.args.token.now.me in
    let v = view_at p m.0 in
    let o = c.args.self.now.opening in
    let out = c.requires.turn.out in
    let s = put (after_all o v.seen) out.0 in
    let same = ap (λ d. d.place) c.self.view_is in
    let there = out_there p m s c.requires.at.3 out.1 ∙ ap (λ k. (k, s) ∷ []) (sym same) in
    (search rules, (s, there ∙ ap (λ xs. (c.self.inside.place, s) ∷ rest xs) (sym there)))

pub apply_in-reply-requires : goal.apply_in-reply-requires
apply_in-reply-requires g c =
    let counted = g.O.Object.counted in
    let p = c.args.self.now.place in
    let m = c.args.token.now.me in
    let v = view_at p m.0 in
    let o = c.args.self.now.opening in
    let out = c.requires.turn.out in
    let s = put (after_all o v.seen) out.0 in
    let same = ap (λ d. d.place) c.self.view_is in
    let there = out_there p m s c.requires.at.3 out.1 ∙ ap (λ k. (k, s) ∷ []) (sym same) in
    let low = subst (λ q. AreUpTo (2 ^ 61) (counted q)) (ap (λ d. d.opening) c.self.view_is) c.self.invariant.3 in
    let below = counts_low g.O.Object.meaning counted o v.seen c.requires.turn.legal low c.requires.room in
    record {
      full = (
        after_all o v.seen,
        out.0,
        lent_there _ _ _ _ s c.slot_mut-spot.ensures.value there,
        below,
        c.requires.fits v.seen c.requires.turn.legal,
      );
    }

pub announce-requires-clause-low : goal.announce-requires-clause-low
announce-requires-clause-low g c =
    let counted = g.O.Object.counted in
    let p = c.args.self.now.place in
    let m = c.args.token.now.me in
    let v = view_at p m.0 in
    let o = c.args.self.now.opening in
    let out = c.requires.turn.out in
    let s = put (after_all o v.seen) out.0 in
    let same = ap (λ d. d.place) c.self.view_is in
    let there = out_there p m s c.requires.at.3 out.1 ∙ ap (λ k. (k, s) ∷ []) (sym same) in
    let low = subst (λ q. AreUpTo (2 ^ 61) (counted q)) (ap (λ d. d.opening) c.self.view_is) c.self.invariant.3 in
    let below = counts_low g.O.Object.meaning counted o v.seen c.requires.turn.legal low c.requires.room in
    let left = c.apply_in-reply.new.spot in
    let filled = written_there c.self.inside.place m s left there ∙ ap (λ k. (m.0, (k, left) ∷ [])) same in
    let now = subst (λ n. AreBelow (2 ^ 63) (counted (after_all o (view_at p n.0).seen))) (sym filled) below in
    now.0

pub announce-requires-2-clause-quiet : goal.announce-requires-2-clause-quiet
announce-requires-2-clause-quiet g c =
    let p = c.args.self.now.place in
    let m = c.args.token.now.me in
    let v = view_at p m.0 in
    let o = c.args.self.now.opening in
    let out = c.requires.turn.out in
    let s = put (after_all o v.seen) out.0 in
    let same = ap (λ d. d.place) c.self.view_is in
    let there = out_there p m s c.requires.at.3 out.1 ∙ ap (λ k. (k, s) ∷ []) (sym same) in
    let left = c.apply_in-reply.new.spot in
    let filled = written_there c.self.inside.place m s left there ∙ ap (λ k. (m.0, (k, left) ∷ [])) same in
    ap (λ n. of_count Freed n.0.announced) c.announce.ensures.announced
    ∙ ap (λ n. of_count Freed (view_at p n.0).announced) filled ∙ c.requires.turn.quiet Freed

pub announce-requires-2-clause-low : goal.announce-requires-2-clause-low
announce-requires-2-clause-low g c =
    let counted = g.O.Object.counted in
    let p = c.args.self.now.place in
    let m = c.args.token.now.me in
    let v = view_at p m.0 in
    let o = c.args.self.now.opening in
    let out = c.requires.turn.out in
    let s = put (after_all o v.seen) out.0 in
    let same = ap (λ d. d.place) c.self.view_is in
    let there = out_there p m s c.requires.at.3 out.1 ∙ ap (λ k. (k, s) ∷ []) (sym same) in
    let low = subst (λ q. AreUpTo (2 ^ 61) (counted q)) (ap (λ d. d.opening) c.self.view_is) c.self.invariant.3 in
    let below = counts_low g.O.Object.meaning counted o v.seen c.requires.turn.legal low c.requires.room in
    let left = c.apply_in-reply.new.spot in
    let filled = written_there c.self.inside.place m s left there ∙ ap (λ k. (m.0, (k, left) ∷ [])) same in
    let now = subst (λ n. AreBelow (2 ^ 63) (counted (after_all o n.0.seen))) (sym c.announce.ensures.announced)
    (subst (λ n. AreBelow (2 ^ 63) (counted (after_all o (view_at p n.0).seen))) (sym filled) below) in
    now.1

pub fetch_add-requires : goal.fetch_add-requires
fetch_add-requires g c =
    let counted = g.O.Object.counted in
    let moves = Moves g.O.Object.meaning counted in
    let p = c.args.self.now.place in
    let m = c.args.token.now.me in
    let v = view_at p m.0 in
    let o = c.args.self.now.opening in
    let out = c.requires.turn.out in
    let s = put (after_all o v.seen) out.0 in
    let same = ap (λ d. d.place) c.self.view_is in
    let there = out_there p m s c.requires.at.3 out.1 ∙ ap (λ k. (k, s) ∷ []) (sym same) in
    let left = c.apply_in-reply.new.spot in
    let filled = written_there c.self.inside.place m s left there ∙ ap (λ k. (m.0, (k, left) ∷ [])) same in
    let lent = lent_there _ _ _ _ s c.slot_mut-spot.ensures.value there in
    let served = c.apply_in-reply.ensures (after_all o v.seen) out.0 lent in
    let rose = c.apply_in-reply.result.1 in
    let one = c.announce.ensures.announced
    ∙ ap (λ n. (announced_by Arrived (cond rose.arrived 1 0) (me_at p n).0, (me_at p n).1)) filled in
    let two = c.announce-2.ensures.announced ∙ ap (λ n. (announced_by Freed (cond rose.freed 1 0) n.0, n.1)) one in
    let v' = announced_by Freed (cond rose.freed 1 0) (announced_by Arrived (cond rose.arrived 1 0) v) in
    let has = two ∙ ap (λ x. (v', (0, x) ∷ [])) (served.1 ∙ handed moves counted _ _ _ _ _ served.2) in
    let move = told_move moves counted _ _ _ _ _ _ served.2 refl in
    let at = c.announce-2.ensures.same.2 in (
      search rules,
      omega (arith, c.word.ensures, c.requires.lock.1),
      lifted_told _ counted _ _ p _ turns_told Ends _ _ _ 16 _ 1 0 (λ n. (n + 1) % 2 ^ 64) c.word.ensures
          c.requires.lock.0 (omega arith)
          (omega (arith, c.requires.at.1, at.many, c.announce.ensures.same.2.many, ap (λ n. length n.0.views) filled))
          at.carries
          (λ log.
          ends_told _ counted _ _ log _ _ _ v' o _ _ served.2.last has c.requires.at.2 c.requires.ticket.1
          c.requires.ticket.2 c.requires.named move (announced_all moves counted o v _ _ _ _ _ served.2 refl)),
    )

pub returns-clause-same : goal.returns-clause-same
returns-clause-same g c =
    let p = c.args.self.now.place in
    let m = c.args.token.now.me in
    let v = view_at p m.0 in
    let o = c.args.self.now.opening in
    let out = c.requires.turn.out in
    let s = put (after_all o v.seen) out.0 in
    let same = ap (λ d. d.place) c.self.view_is in
    let there = out_there p m s c.requires.at.3 out.1 ∙ ap (λ k. (k, s) ∷ []) (sym same) in
    let left = c.apply_in-reply.new.spot in
    let filled = written_there c.self.inside.place m s left there ∙ ap (λ k. (m.0, (k, left) ∷ [])) same in
    let went = c.fetch_add.ensures.2.0 p 16 c.word.ensures (omega arith) in (
      search rules,
      search rules,
      only_trans p _ _ _ (refilled_only p m _ _ filled c.requires.at.4)
          (only_trans p _ _ _ c.announce.ensures.same.2
          (only_trans p _ _ _ c.announce-2.ensures.same.2 (stepped_only p _ _ _ _ went))),
    )

pub returns-clause-order : goal.returns-clause-order
returns-clause-order g c =
    let counted = g.O.Object.counted in
    let moves = Moves g.O.Object.meaning counted in
    let p = c.args.self.now.place in
    let m = c.args.token.now.me in
    let v = view_at p m.0 in
    let o = c.args.self.now.opening in
    let out = c.requires.turn.out in
    let s = put (after_all o v.seen) out.0 in
    let same = ap (λ d. d.place) c.self.view_is in
    let there = out_there p m s c.requires.at.3 out.1 ∙ ap (λ k. (k, s) ∷ []) (sym same) in
    let left = c.apply_in-reply.new.spot in
    let filled = written_there c.self.inside.place m s left there ∙ ap (λ k. (m.0, (k, left) ∷ [])) same in
    let lent = lent_there _ _ _ _ s c.slot_mut-spot.ensures.value there in
    let served = c.apply_in-reply.ensures (after_all o v.seen) out.0 lent in
    let rose = c.apply_in-reply.result.1 in
    let one = c.announce.ensures.announced
    ∙ ap (λ n. (announced_by Arrived (cond rose.arrived 1 0) (me_at p n).0, (me_at p n).1)) filled in
    let two = c.announce-2.ensures.announced ∙ ap (λ n. (announced_by Freed (cond rose.freed 1 0) n.0, n.1)) one in
    let v' = announced_by Freed (cond rose.freed 1 0) (announced_by Arrived (cond rose.arrived 1 0) v) in
    let has = two ∙ ap (λ x. (v', (0, x) ∷ [])) (served.1 ∙ handed moves counted _ _ _ _ _ served.2) in
    let went = c.fetch_add.ensures.2.0 p 16 c.word.ensures (omega arith) in
    let only = only_trans p _ _ _ (refilled_only p m _ _ filled c.requires.at.4)
    (only_trans p _ _ _ c.announce.ensures.same.2 c.announce-2.ensures.same.2) in
    ends_order p m _ _ _ v' _ _ _ _ only went (ap turns_told has) (ap (λ n. n.0) has) c.requires.ticket.2
    (went.there.0 ∙ ap (λ n. (after_turn n.0 n.1, rest n.1)) has)

pub returns-clause-made : goal.returns-clause-made
returns-clause-made g c =
    let counted = g.O.Object.counted in
    let moves = Moves g.O.Object.meaning counted in
    let p = c.args.self.now.place in
    let m = c.args.token.now.me in
    let v = view_at p m.0 in
    let o = c.args.self.now.opening in
    let out = c.requires.turn.out in
    let s = put (after_all o v.seen) out.0 in
    let same = ap (λ d. d.place) c.self.view_is in
    let there = out_there p m s c.requires.at.3 out.1 ∙ ap (λ k. (k, s) ∷ []) (sym same) in
    let left = c.apply_in-reply.new.spot in
    let filled = written_there c.self.inside.place m s left there ∙ ap (λ k. (m.0, (k, left) ∷ [])) same in
    let lent = lent_there _ _ _ _ s c.slot_mut-spot.ensures.value there in
    let served = c.apply_in-reply.ensures (after_all o v.seen) out.0 lent in
    let rose = c.apply_in-reply.result.1 in
    let one = c.announce.ensures.announced
    ∙ ap (λ n. (announced_by Arrived (cond rose.arrived 1 0) (me_at p n).0, (me_at p n).1)) filled in
    let two = c.announce-2.ensures.announced ∙ ap (λ n. (announced_by Freed (cond rose.freed 1 0) n.0, n.1)) one in
    let v' = announced_by Freed (cond rose.freed 1 0) (announced_by Arrived (cond rose.arrived 1 0) v) in
    let has = two ∙ ap (λ x. (v', (0, x) ∷ [])) (served.1 ∙ handed moves counted _ _ _ _ _ served.2) in
    let went = c.fetch_add.ensures.2.0 p 16 c.word.ensures (omega arith) in
    let made = made_turn moves o v' _ _ _ served.2.last _ _ has served.2.asked served.2.answered went.there.0
    went.there.1 c.requires.turn.legal served.2.move in
    record { object = made.object; is = made.is; legal = made.legal; own = made.own }

pub returns-clause-reads : goal.returns-clause-reads
returns-clause-reads g c = c.fetch_add.ensures.2.1
