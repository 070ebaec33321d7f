use Rattle.std.proofs.Common.{◌≡◌, rules, w32, FitsSigned, [], ◌∷◌, inl, inr, refl, ap, arith}
use Rattle.std.proofs.lemmas.Int.{to_z-of_z}
use Rattle.sysv_model.specs.Registry.{Forget, Changed}
use Rattle.sysv_model.specs.Turn.{AtRegistry}
use Rattle.sysv_steps.specs.Seen.{get_state}
use Rattle.sysv_steps.proofs.get.install.Goals as goal

pub returns-in-Err-clause-steps : goal.returns-in-Err-clause-steps
returns-in-Err-clause-steps g c = λ kept.
    let id = c.ranges.id in
    let ends = ap get_state c.overflow.ensures in
    let bits : c.bits.result ≡ c.args.get.flags.0 = search rules in
    let key : FitsSigned w32 c.args.get.key = search rules in
    let missed = c.in-Err.ensures.missed.1 in
    let worn = simp (to_z-of_z, bits) at missed in
    let asked = c.forget.ensures.asks in
    let asks = simp to_z-of_z at asked in
    elim asks [
      | inl done ↦ inr (record {
        ops = AtRegistry (Forget c.args.id) (Changed done.0) ∷ [];
        now = c.now.result;
        moment = λ e. c.now.ensures;
        there = c.make.new.at;
        worn = worn;
        back = (ends, inl (done.0, refl, record { turn = done.1; held = omega arith }));
      })
      | inr missed ↦ inr (record {
        ops = [];
        now = c.now.result;
        moment = λ e. c.now.ensures;
        there = c.make.new.at;
        worn = worn;
        back = (ends, inr (refl, missed, refl));
      })
    ]
