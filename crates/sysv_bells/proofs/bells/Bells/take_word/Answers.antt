use Rattle.std.proofs.Common.{rules, arith, ap, ◌∙◌, sym, inr, refl, [], ◌∷◌, ◌+◌, List}
use Rattle.sysv_bells.specs.declared.view.Taking.{Taking}
use Rattle.sysv_bells.specs.Seats.{SleeperEnd, read_to}
use Rattle.sysv_bells.proofs.SleeperKeepsRule.{passes, takes}
use Rattle.sysv_bells.proofs.TakenWords.{took, still_next}
use Rattle.sysv_bells.proofs.bells.Bells.take_word.Goals as goal

pub load-requires : goal.load-requires
load-requires c =
    let stage = ap (λ h. h.stage) c.seat.view_is ∙ c.requires.awake in
    let next = ap (λ h. h.from) c.seat.view_is ∙ c.requires.next in
    (search rules, search rules, passes _ _ _ _ _ stage (sym next))

pub swap-requires : goal.swap-requires
swap-requires c =
    let stage = ap (λ h. h.stage) c.seat.view_is ∙ c.requires.awake in
    let next = ap (λ h. h.from) c.seat.view_is ∙ c.requires.next in
    let words = ap (λ z. z.words) c.self.view_is in
    let many = c.self.invariant in
    let within = c.requires.within.1 in
    let same = still_next _ _ c.if-load-eq0.false in (
      search rules,
      search rules,
      takes _ _ _ _ _ (ap (λ m. m.0.stage) c.load.ensures.2 ∙ stage)
          (sym (ap (λ m. m.0.from) c.load.ensures.2 ∙ same ∙ next)) c.requires.within.0 (omega arith),
    )

pub returns : goal.returns
returns c =
    let next = ap (λ h. h.from) c.seat.view_is ∙ c.requires.next in
    let more : List Taking = record { word = c.args.word; bits = c.swap.result } ∷ [] in (
      more,
      took _ _ _ _ _ _ _ _ (ap (λ m. m.0) c.load.ensures.2) c.if-load-eq0.false (ap (λ m. m.0) c.swap.ensures.2) next
          (c.swap.ensures.0 ∙ c.load.ensures.0)
          ∙ ap (λ (h : SleeperEnd). read_to (c.args.word + 1) more h) c.seat.view_is,
      inr refl,
    )
