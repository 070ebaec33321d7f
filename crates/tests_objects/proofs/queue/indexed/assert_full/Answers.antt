use Rattle.std.proofs.Common.{◌≡◌, List, Option, None, Some, length, option_map, ap, arith}
use Rattle.sysv_model.specs.declared.attributes.Attributes.{Attributes}
use Rattle.sysv_model.specs.declared.attributes.Row.{Row}
use Rattle.sysv_model.specs.Message.{Message}
use Rattle.sysv_queue.specs.Shown.{row_of}
use Rattle.tests_objects.proofs.queue.indexed.assert_full.Goals as goal

many_shown : (messages : List Message) (live : Option Attributes) (row : Row) →
    Some row ≡ option_map (row_of messages) live → row.qnum ≡ length messages
many_shown messages None row is = absurd cc
many_shown messages (Some a) row is = let same : row ≡ row_of messages a = cc in ap (λ (r : Row). r.qnum) same

pub returns : goal.returns
returns g c =
    let shown = many_shown c.args.slot.now.messages c.args.slot.now.live c.in-Some.row c.in-Some.ensures.turn.legal in
    omega arith
