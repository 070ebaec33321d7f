use Rattle.std.proofs.Common.{◌≡◌, ◌≢◌, None, Ok, Err, Option, sym, ap, subst, ◌∙◌, rules, FitsSigned, w32}
use Rattle.std.proofs.lemmas.Int.{to_z-of_z}
use Rattle.sysv_model.specs.declared.attributes.Row.{Row}
use Rattle.sysv_model.specs.declared.errno.Errno.TheVariants.{EOVERFLOW}
use Rattle.sysv_service.proofs.SlotBySlot.{worn_at, vacant_at, removed_at, overflowed_at, refused_at}
use Rattle.sysv_service.specs.Stopped.{StopsSlot}
use Rattle.sysv_service.proofs.service.Service.stop_slot.Goals as goal

pub returns-in_err-row-clause-stopped : goal.returns-in_err-row-clause-stopped
returns-in_err-row-clause-stopped g c =
    let worn = worn_at c.args.slot c.args.pass.now c.list_row.result c.in_err-row.field-0.0 c.list_row.new.pass
    c.requires.slot c.in_err-row.was c.list_row.ensures.told in
    let is : c.from_residual.result ≡ Err c.in_err-row.field-0.0 = search rules in
    subst (λ r. StopsSlot c.args.slot c.args.pass.now r c.list_row.new.pass) (sym is) worn

pub returns-in_default-clause-stopped : goal.returns-in_default-clause-stopped
returns-in_default-clause-stopped g c =
    let none : c.in_ok-row.field-0 ≡ None = search rules in
    vacant_at c.args.slot c.args.pass.now c.list_row.result c.list_row.new.pass
    (c.in_ok-row.was ∙ ap (λ (x : Option Row). Ok x) none) c.list_row.ensures.told

pub returns-in-Ok-clause-stopped : goal.returns-in-Ok-clause-stopped
returns-in-Ok-clause-stopped g c =
    let id : FitsSigned w32 c.in-Some.row.id = search rules in
    let told = c.msgctl_rmid.ensures.ran in
    let ran = simp to_z-of_z at told in
    removed_at c.args.slot c.args.pass.now c.list_row.result c.in-Some.row c.list_row.new.pass
    (c.in_ok-row.was ∙ ap (λ (x : Option Row). Ok x) c.in-Some.is) c.list_row.ensures.told c.msgctl_rmid.result
    c.msgctl_rmid.new.pass c.in-Ok.is ran

pub returns-in-Err-clause-stopped : goal.returns-in-Err-clause-stopped
returns-in-Err-clause-stopped g c =
    let id : FitsSigned w32 c.in-Some.row.id = search rules in
    let told = c.msgctl_rmid.ensures.ran in
    let ran = simp to_z-of_z at told in
    let is : c.msgctl_rmid.result ≡ Err EOVERFLOW = search rules in
    overflowed_at c.args.slot c.args.pass.now c.list_row.result c.in-Some.row c.list_row.new.pass
    (c.in_ok-row.was ∙ ap (λ (x : Option Row). Ok x) c.in-Some.is) c.list_row.ensures.told c.msgctl_rmid.result
    c.msgctl_rmid.new.pass is ran

pub returns-in-Err-2-clause-stopped : goal.returns-in-Err-2-clause-stopped
returns-in-Err-2-clause-stopped g c =
    let id : FitsSigned w32 c.in-Some.row.id = search rules in
    let told = c.msgctl_rmid.ensures.ran in
    let ran = simp to_z-of_z at told in
    let other : c.in-Err-2.field-0 ≢ EOVERFLOW = search rules in
    refused_at c.args.slot c.args.pass.now c.list_row.result c.in-Some.row c.list_row.new.pass
    (c.in_ok-row.was ∙ ap (λ (x : Option Row). Ok x) c.in-Some.is) c.list_row.ensures.told c.msgctl_rmid.result
    c.in-Err-2.field-0 c.msgctl_rmid.new.pass c.in-Err-2.is other ran
