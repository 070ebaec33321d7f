use Rattle.std.proofs.Common.{◌≡◌, None, ap, ◌∙◌, arith}
use Rattle.std.specs.List.{All}
use Rattle.sysv_messages.specs.Texts.{all_blocks}
use Rattle.sysv_messages.proofs.Bare.{no_blocks}
use Rattle.sysv_messages.proofs.chains.take_all.Goals as goal

pub returns-clause-chain : goal.returns-clause-chain
returns-clause-chain c =
    let chains = c.loop-place.chains in
    let i = c.loop-place.invariant in
    let bare : All (λ chain. chain ≡ None) chains.items = λ k d within.
    i.bare k d (omega arith) (omega (arith, c.len-place-end.ensures, c.args.chains.now.ok.0, i.places)) in
    let blocks : c.loop-place.all.blocks ≡ all_blocks c.args.chains.now.items =
    omega (arith, i.all, no_blocks chains.items bare) in
    ap (λ n. record { blocks = n; bytes = c.loop-place.all.bytes }) blocks
    ∙ ap (λ bs. record { blocks = all_blocks c.args.chains.now.items; bytes = bs }) i.text
