use Rattle.sysv_steps.specs.Asked.{asked_of}
use Rattle.sysv_steps.specs.Begin.{begin}
use Rattle.sysv_steps.specs.Call.{kind_of}
use Rattle.sysv_core.proofs.actor_steps.begin.Goals as goal

pub returns : goal.returns
returns c =
    let asked = asked_of c.args.call in
    c.led_by.ensures (kind_of asked) (begin c.args.cred asked c.args.released) c.begin-begun.ensures.comes
