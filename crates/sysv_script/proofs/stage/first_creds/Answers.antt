use Rattle.std.proofs.Common.{◌≡◌, [], ◌∷◌, refl, subst, ◌∙◌, arith}
use Rattle.std.proofs.lemmas.List.{length-set}
use Rattle.sysv_script.proofs.CredLemmas.{AreFirst, AreFirst-one, AreFirst-more, AreFirst-all}
use Rattle.sysv_script.proofs.stage.first_creds.Goals as goal

pub loop-place-init : goal.loop-place-init
loop-place-init c =
    let x = c.first_cred-creds.result in
    (refl, AreFirst-one x (x ∷ x ∷ x ∷ x ∷ x ∷ x ∷ x ∷ x ∷ x ∷ x ∷ x ∷ x ∷ x ∷ x ∷ x ∷ []) c.first_cred-creds.ensures)

pub loop-place-preserved : goal.loop-place-preserved
loop-place-preserved c =
    let long = c.loop-place.invariant.0 in
    let last = c.loop-place-test.true in (
      length-set c.loop-place.creds c.loop-place.place c.first_cred.result ∙ long,
      AreFirst-more c.loop-place.creds c.loop-place.place c.first_cred.result (omega (arith, long, last))
          c.first_cred.ensures c.loop-place.invariant.1,
    )

pub returns : goal.returns
returns c =
    let end : c.loop-place.place ≡ 16 = omega (arith, c.loop-place-test.false, c.loop-place.auto.place-end) in
    AreFirst-all c.loop-place.creds c.loop-place.invariant.0
    (subst (AreFirst c.loop-place.creds) end c.loop-place.invariant.1)
