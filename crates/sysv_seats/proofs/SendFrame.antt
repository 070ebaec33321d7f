-- The body in the frame of a send begins after 22 bytes.
use Rattle.std.proofs.Common.{◌≡◌, ◌∙◌, ℕ, ◌+◌, ◌-◌, List, ◌∷◌, ◌++◌, length, take, drop, ap, refl, sym, subst, arith}
use Rattle.std.proofs.lemmas.List.{take_all}
use Rattle.std.specs.List.{slice_range}
use Rattle.std.specs.Prelude.{⊤}
use Rattle.sysv_wire.specs.declared.frame.Op.{Op}
use Rattle.sysv_wire.specs.declared.frame.Op.TheVariants as op
use Rattle.sysv_wire.specs.declared.frame.Version.{Version}
use Rattle.sysv_wire.specs.declared.request.Ask.{Ask}
use Rattle.sysv_wire.specs.declared.request.Ask.TheVariants.{Hello, Get, Snd, Rcv, Stat, Set, Rm, Row, Hold, Done, Back}
use Rattle.sysv_wire.specs.declared.request.Request.{Request}
use Rattle.sysv_wire.specs.Frames.{frame, op_number, version_number}
use Rattle.sysv_wire.specs.Numbers.{u32_bytes, i32_bytes, i64_bytes}
use Rattle.sysv_wire.specs.Requests.{ask_fields, ask_text, op_of, request_encoding}

-- The operation is a send.
abbrev IsSnd : Op → Type 0
IsSnd op.Snd = ⊤
IsSnd o = ⊥

-- A frame whose length field states this number of bytes.
abbrev frame_of : ℕ → Version → Ask → List ℕ → List ℕ
frame_of n version ask body =
    u32_bytes n ++ (version_number version ∷ op_number (op_of ask) ∷ (ask_fields ask ++ ask_text (op_of ask) body))

after_fields : (n : ℕ) (version : Version) (ask : Ask) (body : List ℕ) → IsSnd (op_of ask) →
    (drop 22 (frame_of n version ask body) ≡ body) × (length (frame_of n version ask body) ≡ 22 + length body)
unfolding ask_fields u32_bytes i32_bytes i64_bytes
after_fields n version (Snd id mtype flags) body is = (refl, omega arith)
after_fields n version (Hello cred) body is = absurd is
after_fields n version (Get key flags) body is = absurd is
after_fields n version (Rcv id size mtype flags) body is = absurd is
after_fields n version (Stat id) body is = absurd is
after_fields n version (Set id to) body is = absurd is
after_fields n version (Rm id) body is = absurd is
after_fields n version (Row slot) body is = absurd is
after_fields n version (Hold id size mtype flags seconds) body is = absurd is
after_fields n version Done body is = absurd is
after_fields n version Back body is = absurd is

pub body_begins : (request : Request) (body : List ℕ) → op_of request.ask ≡ op.Snd →
    (drop 22 (request_encoding request body) ≡ body) × (length (request_encoding request body) ≡ 22 + length body)
unfolding frame
body_begins request body is = after_fields _ request.version request.ask body (subst IsSnd (sym is) tt)

-- What follows the first 22 bytes of such a frame is the body.
pub rest_is_body : (request : Request) (body encoded rest : List ℕ) → op_of request.ask ≡ op.Snd →
    encoded ≡ request_encoding request body → rest ≡ slice_range encoded 22 (length encoded) → rest ≡ body
rest_is_body request body encoded rest is same cut =
    let begins = body_begins request body is in
    let long : length encoded ≡ 22 + length body = ap length same ∙ begins.1 in
    let after : drop 22 encoded ≡ body = ap (drop 22) same ∙ begins.0 in
    cut ∙ ap (take (length encoded - 22)) after ∙ take_all (length encoded - 22) body (omega (arith, long))
