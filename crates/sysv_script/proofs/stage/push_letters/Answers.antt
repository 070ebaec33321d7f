use Rattle.std.proofs.Common.{◌≡◌, ◌+◌, ◌≤◌, ◌++◌, ℕ, List, Bool, true, if◌then◌else◌, replicate, take, length, ap, ◌∙◌}
use Rattle.std.proofs.Common.{rules, arith}
use Rattle.std.proofs.lemmas.List.{take-replicate, length-replicate}
use Rattle.sysv_model.specs.declared.limits.TheConstants.{BLOCK_BYTES, BODY_ROOM}
use Rattle.sysv_script.proofs.stage.push_letters.Goals as goal

-- What is appended, if there is room.
came_in : (fits : Bool) (old new piece : List ℕ) (count : ℕ) → count ≤ BLOCK_BYTES → length old + count ≤ BODY_ROOM →
    piece ≡ take count (replicate BLOCK_BYTES 120) →
    (length old + length piece ≤ BODY_ROOM → fits ≡ true) → new ≡ (if fits then old ++ piece else old) →
    new ≡ old ++ replicate count 120
came_in fits old new piece count block room is told after =
    let letter : ℕ = 120 in
    let same : piece ≡ replicate count letter = is ∙ take-replicate count BLOCK_BYTES letter block in
    let long = ap length same ∙ length-replicate count letter in
    after ∙ (ap (λ b. if b then old ++ piece else old) (told (omega arith)) ∙ ap (λ xs. old ++ xs) same)

pub returns : goal.returns
returns c = came_in c.push_piece-fits.result c.args.body.now c.push_piece-fits.new.self _ c.args.count c.requires.block
    c.requires.room (search rules) c.push_piece-fits.ensures.fits c.push_piece-fits.ensures.after
