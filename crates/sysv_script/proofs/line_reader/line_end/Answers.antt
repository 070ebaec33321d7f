use Rattle.std.proofs.Common.{◌≡◌, ◌-◌, ℕ, List, length, take, drop, subst, take_all, arith, length-drop}
use Rattle.sysv_script.specs.Found.{HasNoEnd, IsFirstLine}
use Rattle.sysv_script.proofs.FirstLines.{HasNoEnd-parts, IsFirstLine-behind}
use Rattle.sysv_script.proofs.line_reader.line_end.Goals as goal

-- A slice from this place to the end.
from_here : (text : List ℕ) (seen : ℕ) → take (length text - seen) (drop seen text) ≡ drop seen text
from_here text seen = take_all (length text - seen) (drop seen text) (omega (arith, length-drop seen text))

pub returns-in-Some : goal.returns-in-Some
returns-in-Some c =
    let text = c.args.waiting.now in
    IsFirstLine-behind text c.args.seen c.in-Some.more c.requires.before
    (subst (IsFirstLine c.in-Some.more) (from_here text c.args.seen) c.in-Some.ensures)

pub returns-in-None : goal.returns-in-None
returns-in-None c =
    let text = c.args.waiting.now in
    HasNoEnd-parts text c.args.seen c.requires.before (subst HasNoEnd (from_here text c.args.seen) c.in-None.ensures)
