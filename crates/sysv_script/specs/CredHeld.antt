-- Each actor of a script state has credentials: those at its place (this project's script language).
use Rattle.std.specs.Prelude.{◌≡◌, ◌-◌, ◌≤◌, ℕ, zero, suc, List, Some, length}
use Rattle.std.proofs.Common.{get_or, sym, ap, ◌∙◌, arith}
use Rattle.std.proofs.lemmas.Option.{slice_get-get_or}
use Rattle.sysv_model.specs.declared.cred.Cred.{Cred}
use Rattle.sysv_script.specs.ScriptState.{cred_at}

pub cred_held : (creds : List Cred) (actor : ℕ) (d : Cred) → 1 ≤ actor → actor ≤ length creds →
    cred_at creds actor ≡ Some (get_or creds (actor - 1) d)
cred_held creds zero d least most = absurd (omega (arith, least))
cred_held creds (suc place) d least most =
    let same : suc place - 1 ≡ place = omega arith in
    slice_get-get_or creds place d (omega (arith, most)) ∙ ap (λ i. Some (get_or creds i d)) (sym same)
