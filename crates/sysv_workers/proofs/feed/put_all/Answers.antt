use Rattle.std.proofs.Common.{◌++◌, ◌∷◌, [], ◌∙◌, arith, length-append}
use Rattle.std.proofs.lemmas.Fn.{FoldsTo-push}
use Rattle.sysv_workers.proofs.Feeds.{fed_item}
use Rattle.sysv_workers.proofs.feed.put_all.Goals as goal

pub loop-preserved : goal.loop-preserved
loop-preserved g c =
    let i = c.loop.invariant in
    let put = c.put_item.ensures.put c.if-not-put_item.false in
    let given = i.4.0 in
    let x = c.in-Some-next.item in (
      tt,
      tt,
      c.put_item.ensures.buffer,
      c.put_item.ensures.takes ∙ i.3,
      (
        given ++ x ∷ [],
        FoldsTo-push _ _ given _ x _ i.4.1 c.in-Some-next.ensures,
        fed_item given x _ _ i.4.2 put,
        let n = i.4.3 in omega (arith, length-append given (x ∷ [])),
      ),
    )

pub returns-then-not-put_item-clause-returned : goal.returns-then-not-put_item-clause-returned
returns-then-not-put_item-clause-returned g c =
    let given = c.loop.invariant.4 in
    let x = c.in-Some-next.item in
    let worn = c.put_item.ensures.worn c.if-not-put_item.true in
    let far = worn.0 in
    let n = given.3 in (
      given.0 ++ x ∷ [],
      FoldsTo-push _ _ given.0 _ x _ given.1 c.in-Some-next.ensures,
      omega (arith, length-append given.0 (x ∷ [])),
    )
