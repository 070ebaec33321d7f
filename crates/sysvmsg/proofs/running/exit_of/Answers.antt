-- The words and the surroundings that the program used are those that its process was told.
use Rattle.std.proofs.Common.{inl, inr, refl, subst, sym}
use Rattle.std.specs.Prelude.{map, string_bytes}
use Rattle.sysv_connect.specs.declared.contact.Contact.TheVariants.{Unused}
use Rattle.sysv_options.specs.Process.{Words}
use Rattle.sysvmsg.proofs.running.exit_of.Goals as goal

pub returns-in-Ok : goal.returns-in-Ok
returns-in-Ok g c = (
  c.surroundings-around.result,
  c.surroundings-around.ensures,
  c.run.result.contact,
  inl (
    map string_bytes c.as_slice.result.now,
    subst (λ words. g.Own.Process.tells c.args.process.now (Words (map string_bytes words)))
        (sym c.as_slice.ensures.value) c.in-Ok.ensures.ok,
    c.run.ensures,
  ),
)

pub returns-in-Err : goal.returns-in-Err
returns-in-Err g c = (
  c.surroundings-around.result,
  c.surroundings-around.ensures,
  Unused c.args.place,
  inr (c.in-Err.why, c.in-Err.ensures.err, c.refuse.ensures.fails, refl, c.refuse.ensures.told),
)
