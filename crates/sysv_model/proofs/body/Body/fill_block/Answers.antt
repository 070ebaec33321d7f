use Rattle.std.proofs.Common.{◌≡◌, ℕ, List, ◌+◌, ◌-◌, ◌*◌, ◌/◌, ◌%◌, ◌<◌, ◌++◌, min, length, take, drop, arith, ap, sym}
use Rattle.std.proofs.Common.{◌∙◌, append_assoc, length-take, take-append-drop}
use Rattle.std.proofs.Math.ListN.{set, length-set}
use Rattle.std.proofs.lemmas.List.{take_rest}
use Rattle.std.specs.Box.{with_value}
use Rattle.sysv_model.specs.Body.{bytes_of}
use Rattle.sysv_model.proofs.Boxed.{AreWhole-set, length_kept, put_at}
use Rattle.sysv_model.proofs.body.Body.fill_block.Goals as goal

pub index_mut-requires : goal.index_mut-requires
index_mut-requires c =
    let b = c.self.inside in
    let kept = c.self.invariant in
    let long : length c.args.self.now ≡ b.len =
    ap length (sym c.self.view_is) ∙ length_kept b.blocks.items b.len kept in
    omega (arith, long, b.blocks.ok.0, kept.room, c.requires.some, c.requires.room)

pub invariant_of-self : goal.invariant_of-self
invariant_of-self c =
    let b = c.self.inside in
    let kept = c.self.invariant in
    let now = with_value c.index_mut.result.now c.write.new.block in
    let long : length c.args.self.now ≡ b.len =
    ap length (sym c.self.view_is) ∙ length_kept b.blocks.items b.len kept in
    record {
      whole = AreWhole-set (b.len / 64) b.blocks.items now kept.whole c.write.ensures.whole;
      room = ap (λ n. n * 64) (length-set b.blocks.items (b.len / 64) now) ∙ kept.room;
      within = omega (arith, c.min-count.ensures, long, c.requires.room);
    }

pub returns-clause-text : goal.returns-clause-text
returns-clause-text c =
    let b = c.self.inside in
    let kept = c.self.invariant in
    let piece = c.args.piece.now in
    let i = b.len / 64 in
    let offset = b.len % 64 in
    let count = c.min-count.result in
    let fragment = take count piece in
    let now = with_value c.index_mut.result.now c.write.new.block in
    let blocks = set b.blocks.items i now in
    let least : count ≡ min (length piece) (64 - offset) = c.min-count.ensures in
    let fits : offset + length fragment < 65 = omega (arith, least, length-take count piece) in
    let long : length c.args.self.now ≡ b.len =
    ap length (sym c.self.view_is) ∙ length_kept b.blocks.items b.len kept in
    let within : i < length b.blocks.items = omega (arith, long, kept.room, c.requires.some, c.requires.room) in
    let was = c.deref_mut-block.ensures.value ∙ ap (λ block. block.value) c.index_mut.ensures.value in
    let put = c.write.ensures.text ∙ ap (λ (t : List ℕ). take offset t ++ fragment) was in
    let there = put_at i offset b.blocks.items now c.index_mut.result.now fragment kept.whole within
    c.write.ensures.whole (omega (arith, fits)) put in
    let start : i * 64 + offset ≡ b.len = omega arith in
    let end : b.len + count ≡ i * 64 + offset + length fragment =
    omega (arith, start, length-take count piece, least) in
    let before : take (b.len + count) (bytes_of blocks) ≡ c.args.self.now ++ fragment =
    ap (λ n. take n (bytes_of blocks)) end
    ∙ (there
    ∙ ap (λ (t : List ℕ). t ++ fragment) (ap (λ n. take n (bytes_of b.blocks.items)) start ∙ c.self.view_is)) in
    ap (λ (t : List ℕ). t ++ take (length piece - count) (drop count piece)) before
    ∙ (append_assoc c.args.self.now fragment (take (length piece - count) (drop count piece))
    ∙ ap (λ (t : List ℕ). c.args.self.now ++ t)
    (ap (λ t. fragment ++ t) (take_rest piece count) ∙ take-append-drop count piece))
