use Rattle.std.proofs.Common.{ap, ◌∙◌, ◌++◌, ◌∷◌, [], length}
use Rattle.sysv_buffer.proofs.many.ManyBuffer.put.Goals as goal

pub returns-clause-ok : goal.returns-clause-ok
returns-clause-ok g c =
    let k = c.await_room.ensures.keeps in
    let p = c.place.ensures.put in
    let r = c.await_room.new.token.me.0 in
    let before = c.args.seat.now in
    let seen = k.seen ∙ ap (λ h. h.seen ++ k.more) c.seat.view_is in
    record {
      others = k.more;
      seen = p.seen ∙ ap (λ l. l ++ c.args.item ∷ []) seen;
      puts = p.puts
          ∙ (ap (λ l. l ++ length r.seen ∷ []) (k.puts ∙ ap (λ h. h.puts) c.seat.view_is)
          ∙ ap (λ l. before.puts ++ length l ∷ []) seen);
      takes = p.takes ∙ (k.takes ∙ ap (λ h. h.takes) c.seat.view_is);
    }
