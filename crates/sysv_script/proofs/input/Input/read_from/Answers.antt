use Rattle.std.proofs.Common.{◌≡◌, ◌+◌, ◌-◌, ◌≤◌, length, take, slice_range, ap, ◌∙◌, arith, rules}
use Rattle.std.proofs.lemmas.List.{with_items_is, places}
use borrow.Rule.Slice.PartMut.{put_mid}
use Rattle.sysv_script.proofs.InputLemmas.{moved_to_front, came_behind}
use Rattle.sysv_script.proofs.input.Input.read_from.Goals as goal

pub returns-in-Ok-clause-text : goal.returns-in-Ok-clause-text
returns-in-Ok-clause-text g c =
    let was = c.self.inside.buffer.items in
    let start = c.self.inside.start in
    let end = c.self.inside.end in
    let len = end - start in
    let count = c.in-Ok.count in
    let moved = c.deref_mut.result.now in
    let read = c.read.new.buf in
    let now = put_mid len (length moved - len) moved read in
    let held : take len moved ≡ c.args.self.now =
    ap (take len) c.deref_mut.ensures.value ∙ ap (take len) c.copy_within.ensures.items
    ∙ moved_to_front was start end (omega arith) (omega arith) ∙ c.self.view_is in
    let within : len ≤ length moved = omega (arith, ap length c.deref_mut.ensures.value) in (
      take count read,
      ap (λ items. slice_range items 0 (len + count))
          (with_items_is c.copy_within.new.self now (search (rules, places)))
          ∙ came_behind c.args.self.now moved read len count _ within c.in-Ok.ensures.bound.0 held,
      c.in-Ok.ensures.bytes.0,
    )
