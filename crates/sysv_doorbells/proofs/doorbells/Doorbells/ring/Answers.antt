use Rattle.std.proofs.Common.{rules, ap, refl, arith, ◌∙◌}
use Rattle.sysv_doorbells.proofs.RingerKeepsRule.{looks, rings_out}
use Rattle.sysv_doorbells.proofs.Counts.{found_some, found_nobody, same_trace}
use Rattle.sysv_doorbells.proofs.doorbells.Doorbells.ring.Goals as goal

pub load_new_seat-found-requires : goal.load_new_seat-found-requires
load_new_seat-found-requires c =
    let many = c.self.invariant.0 in
    let words = ap (λ z. z.words) c.self.view_is in
    let within = c.requires.within in
    (omega arith, looks _ _ _ (c.args.bell, omega arith, refl))

pub fetch_add-requires : goal.fetch_add-requires
fetch_add-requires c =
    let many = c.self.invariant.0 in
    let words = ap (λ z. z.words) c.self.view_is in
    let within = c.requires.within in
    let me = c.load_new_seat-found.ensures.2 in (
      search rules,
      omega arith,
      rings_out _ _ _ _ _ (c.args.bell, omega arith, refl)
          (ap (λ m. m.0.stage) me ∙ found_some _ c.if-found-eq0.false) (ap (λ m. m.0.at) me),
    )

pub returns-then-found-eq0 : goal.returns-then-found-eq0
returns-then-found-eq0 c =
    let me = c.load_new_seat-found.ensures.2 in
    same_trace _ _ _ _ _ _ (c.load_new_seat-found.ensures.0 ∙ c.self.view_is)
    (ap (λ m. m.0.stage) me ∙ (found_nobody _ c.if-found-eq0.true).0) (ap (λ m. m.0.at) me)

pub returns : goal.returns
returns c =
    let me = c.load_new_seat-found.ensures.2 in
    let made = c.fetch_add.ensures.2 in
    same_trace _ _ _ _ _ _ (c.fetch_add.ensures.0 ∙ c.load_new_seat-found.ensures.0 ∙ c.self.view_is)
    (ap (λ m. m.0.stage) made) (ap (λ m. m.0.at) made ∙ ap (λ m. m.0.at) me)
