-- Proves what a take leaves of a seat of a `ManyBuffer`.
use Rattle.std.proofs.Common.{◌≡◌, ℕ, ◌++◌, ap, sym, ◌∙◌, refl, arith, Some, ◌∷◌, []}
use mathlib.Core.Option.{some}
use lib.ListN.{get_elem?}
use Rattle.sysv_lists.specs.Numbers.{times}
use Rattle.sysv_lists.proofs.Counting.{has}
use Rattle.sysv_buffer.specs.declared.many_view.Sight.{Sight}
use Rattle.sysv_buffer.specs.ManyEnds.{Holding, Takes}
use Rattle.sysv_buffer.specs.ManySteps.{Own}
use Rattle.sysv_buffer.specs.ManyTurns.{Keeps, HasItem, HasTaken}
use Rattle.sysv_buffer.proofs.ConsumerAfterTake.{same_item}

module _ {T : Type 0} where
  pub taken_from : (before after : Holding T) (item : T) (v : Sight T) (slots cell place : ℕ) (m m' : Own T)
      → v.seen ≡ before.seen → v.puts ≡ before.puts → v.takes ≡ before.takes
      → after.seen ≡ m'.0.seen → after.puts ≡ m'.0.puts → after.takes ≡ m'.0.takes
      → Keeps v m.0 → HasItem slots cell m → m.1 ≡ (place, Some item) ∷ [] → HasTaken item m.0 m'
      → Takes item before after
  taken_from before after item v slots cell place m m' seen puts takes seen' puts' takes' k h was t =
      let same = same_item m.1 m.1 item h.item _ _ refl was h.out in
      let own = k.takes ∙ takes in
      let all = seen' ∙ t.seen in
      record {
        more = k.more;
        seen = all ∙ (k.seen ∙ ap (λ l. l ++ k.more) seen);
        puts = puts' ∙ (t.puts ∙ (k.puts ∙ puts));
        place = h.place;
        takes = takes'
            ∙ (t.takes ∙ (ap (λ l. l ++ m.0.take_ticket) own ∙ ap (λ l. before.takes ++ l) h.take_ticket));
        later = λ j low.
            t.later j h.place (let e = ap (times j) own in omega arith)
            (has h.place m.0.take_ticket h.take_ticket);
        at = ap (λ l. get_elem? l h.place) all ∙ (h.at ∙ ap some (sym same));
      }
