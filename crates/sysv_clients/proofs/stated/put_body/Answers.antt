use Rattle.std.proofs.Common.{◌∙◌, ◌<◌, ◌≤◌, ◌≡◌, List, ℕ, ap, length, subst, sym}
use Rattle.base64.specs.Engines.{standard}
use Rattle.base64.specs.GeneralPurpose.{decode_of}
use Rattle.std.specs.Bool.{MatchBool}
use Rattle.sysv_model.specs.declared.limits.TheConstants.{MESSAGE_BYTES}
use Rattle.sysv_clients.proofs.StatedLemmas.{not_coded, put_coded, strict}
use Rattle.sysv_clients.proofs.stated.put_body.Goals as goal

pub returns-in-Ok : goal.returns-in-Ok
returns-in-Ok c =
    let bytes = c.in-Ok.bytes.items in
    let text = c.put-in-Ok.new.text in
    rw c.in-Coded.is
    (put_coded c.put-in-Ok.result c.in-Coded.coded.now bytes text
    (sym c.as_bytes-in-Coded.ensures.value ∙ c.in-Ok.ensures.exact strict) c.in-Ok.ensures.bytes
    (subst (λ (l : List ℕ). MatchBool c.put-in-Ok.result ((text ≡ l) × (length text ≤ MESSAGE_BYTES))
    (MESSAGE_BYTES < length l)) c.deref.ensures.value c.put-in-Ok.ensures))

pub returns-in-Err-DecodeError : goal.returns-in-Err-DecodeError
returns-in-Err-DecodeError c = λ other.
    rw c.in-Coded.is
    (not_coded _ c.in-Coded.coded.now other c.in-Err-DecodeError.field-0-0
    (ap (decode_of standard) (sym c.as_bytes-in-Coded.ensures.value)
    ∙ rw c.in-Err-DecodeError.field-0-is at c.in-Err-DecodeError.ensures.err))
