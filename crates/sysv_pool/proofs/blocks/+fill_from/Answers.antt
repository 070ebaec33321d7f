use Rattle.std.proofs.Common.{◌≡◌, ◌≤◌, ◌∷◌, ◌+◌, ◌∙◌, ap, arith, length, length-drop, take, drop}
use Rattle.std.specs.List.{concat}
use Rattle.sysv_model.specs.Blocks.{block_of}
use Rattle.sysv_model.specs.Pool.{blocks_for}
use Rattle.sysv_pool.specs.Blocks.{contents_of}
use Rattle.sysv_pool.proofs.Texts.{length-block_of, one_more}
use Rattle.sysv_pool.proofs.blocks.+fill_from.Goals as goal

pub write-requires : goal.write-requires
write-requires t c = omega (arith, ap length c.block.ensures, length-block_of c.args.k c.args.body.now)

pub overflow_add-k : goal.overflow_add-k
overflow_add-k t c =
    let small : c.args.k ≤ 129 = omega (arith, c.requires.all, c.requires.room) in
    omega arith

pub fill_from-requires : goal.fill_from-requires
fill_from-requires t c =
    let wrote = c.write.ensures.text in
    let text = wrote.0 in
    let was : contents_of c.args.link.now ≡ c.in-Some.block.value = ap contents_of c.in-Some.is in
    let value : c.deref_mut.result.now ≡ c.in-Some.block.value = c.deref_mut.ensures.value in
    let now : c.behind-block.inside.bytes ∷ contents_of c.behind-block.inside.next
    ≡ text ∷ drop 1 c.deref_mut.result.now = c.behind-block.view_is ∙ (c.deref_mut-in-Some.ensures.value ∙ wrote.1) in
    let behind : contents_of c.behind-block.inside.next ≡ drop 1 c.deref_mut.result.now = cc in
    let some : 1 ≤ length c.deref_mut.result.now = omega (arith, c.write.ensures.blocks, ap length wrote.1) in
    let next : c.args.k + 1 + length (contents_of c.behind-block.inside.next) ≡ blocks_for (length c.args.body.now) =
    omega (
      arith,
      ap length behind,
      length-drop 1 c.deref_mut.result.now,
      some,
      ap length value,
      ap length was,
      c.requires.all,
    ) in
    (omega (arith, c.decreases, next), (next, c.requires.room))

pub returns-in-Some-clause-blocks : goal.returns-in-Some-clause-blocks
returns-in-Some-clause-blocks t c =
    let wrote = c.write.ensures.text in
    let text = wrote.0 in
    let was : contents_of c.args.link.now ≡ c.in-Some.block.value = ap contents_of c.in-Some.is in
    let value : c.deref_mut.result.now ≡ c.in-Some.block.value = c.deref_mut.ensures.value in
    let now : c.behind-block.inside.bytes ∷ contents_of c.behind-block.inside.next
    ≡ text ∷ drop 1 c.deref_mut.result.now = c.behind-block.view_is ∙ (c.deref_mut-in-Some.ensures.value ∙ wrote.1) in
    let behind : contents_of c.behind-block.inside.next ≡ drop 1 c.deref_mut.result.now = cc in
    let some : 1 ≤ length c.deref_mut.result.now = omega (arith, c.write.ensures.blocks, ap length wrote.1) in
    omega (
      arith,
      some,
      c.fill_from.ensures.blocks,
      ap length behind,
      length-drop 1 c.deref_mut.result.now,
      ap length value,
      ap length was,
    )

pub returns-in-Some-clause-text : goal.returns-in-Some-clause-text
returns-in-Some-clause-text t c =
    let body = c.args.body.now in
    let wrote = c.write.ensures.text in
    let text = wrote.0 in
    let now : c.behind-block.inside.bytes ∷ contents_of c.behind-block.inside.next
    ≡ text ∷ drop 1 c.deref_mut.result.now = c.behind-block.view_is ∙ (c.deref_mut-in-Some.ensures.value ∙ wrote.1) in
    let written : c.behind-block.inside.bytes ≡ text = cc in
    let piece : take (length (block_of c.args.k body)) text ≡ block_of c.args.k body = rw c.block.ensures at wrote.3 in
    rw written
    (one_more text body (concat (contents_of c.fill_from.new.link)) c.args.k wrote.2 piece c.fill_from.ensures.text)
