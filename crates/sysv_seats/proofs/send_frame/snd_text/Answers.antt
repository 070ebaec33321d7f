-- The body follows the fields, and fits in the cleared `Body`.
use Rattle.std.proofs.Common.{◌≡◌, ap, arith, length, true}
use Rattle.sysv_seats.proofs.SendFrame.{body_begins, rest_is_body}
use Rattle.sysv_seats.proofs.send_frame.snd_text.Goals as goal

pub returns-in-Some : goal.returns-in-Some
returns-in-Some c = λ request body is short encoded.
    let cut = c.in-Some.ensures.lookup.0.2 in
    let rest = rest_is_body request body c.args.frame.now c.in-Some.body.now is encoded cut in
    let cleared = ap length c.clear.ensures in
    let kept : c.push_piece.result ≡ true =
    c.push_piece.ensures.fits (omega (arith, cleared, ap length rest, short)) in
    rw c.push_piece.ensures.after (rw kept (rw c.clear.ensures rest))

pub returns-in_default : goal.returns-in_default
returns-in_default c = λ request body is short encoded.
    let begins = body_begins request body is in
    let short_frame = c.in_default.ensures.lookup.0 in
    absurd (omega (arith, begins.1, ap length encoded, short_frame))
