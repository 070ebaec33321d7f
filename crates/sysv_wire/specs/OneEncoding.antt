-- Each encoding is that of one request, or of one reply, and none is a prefix of another's (this
-- project's profile). So at most one of them begins a list of bytes, and what follows it is unique
-- too.
use Rattle.std.specs.Prelude.{◌≡◌, List, ℕ, ◌++◌}
use Rattle.sysv_wire.specs.declared.reply.Reply.{Reply}
use Rattle.sysv_wire.specs.declared.request.Request.{Request}
use Rattle.sysv_wire.specs.Replies.{FitsReply, content_text, reply_encoding}
use Rattle.sysv_wire.specs.Requests.{FitsRequest, ask_text, op_of, request_encoding}

-- If the encodings of two requests begin the same bytes, the requests are equal, and so are their
-- bodies and the bytes that follow.
abbrev pub OneRequest : Type 0
OneRequest = (a b : Request) (text other behind rest : List ℕ) → FitsRequest a text → FitsRequest b other
    → request_encoding a text ++ behind ≡ request_encoding b other ++ rest
    → (a ≡ b) × (ask_text (op_of a.ask) text ≡ ask_text (op_of b.ask) other) × (behind ≡ rest)

-- If the encodings of two replies begin the same bytes, the replies are equal, and so are their
-- bodies and the bytes that follow.
abbrev pub OneReply : Type 0
OneReply = (a b : Reply) (text other behind rest : List ℕ) → FitsReply a text → FitsReply b other
    → reply_encoding a text ++ behind ≡ reply_encoding b other ++ rest
    → (a ≡ b) × (content_text a.result text ≡ content_text b.result other) × (behind ≡ rest)
