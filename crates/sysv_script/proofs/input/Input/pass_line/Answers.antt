use Rattle.std.proofs.Common.{◌≡◌, ◌+◌, ◌-◌, ◌≤◌, length, drop, slice_range, ap, ◌∙◌, arith, length-take}
use Rattle.sysv_script.proofs.InputLemmas.{passed_over}
use Rattle.sysv_script.proofs.input.Input.pass_line.Goals as goal

pub returns : goal.returns
returns c =
    let items = c.self.inside.buffer.items in
    let start = c.self.inside.start in
    let end = c.self.inside.end in
    let len = c.args.len in
    let seen : slice_range items start end ≡ c.args.self.now = c.self.view_is in
    let inside : start + (len + 1) ≤ end =
    omega (arith, c.requires, ap length seen, length-take (end - start) (drop start items)) in
    let sum : start + len + 1 ≡ start + (len + 1) = omega arith in
    ap (λ from. slice_range items from end) sum ∙ passed_over items start end (len + 1) inside
    ∙ ap (drop (len + 1)) seen
