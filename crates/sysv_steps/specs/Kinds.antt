-- What becomes of the body that a call brings (this project's profile): a receive brings a body to
-- fill and returns it, and no other call returns one.
use Rattle.std.specs.Prelude.{Bool, true, false}
use Rattle.sysv_steps.specs.Call.{Kind, Receives}

-- A call of this kind returns its body.
abbrev pub gives_back : Kind → Bool
gives_back Receives = true
gives_back kind = false
