-- Bytes with the head of a request, and as many after it as its length says, are its encoding.
use Rattle.std.proofs.Common.{◌≡◌, ◌⊎◌, ℕ, ◌+◌, ◌-◌, ◌^◌, ◌<◌, ◌≤◌, List, [], ◌∷◌, ◌++◌, length, get_or, take, drop}
use Rattle.std.proofs.Common.{refl, sym, subst, ap, ◌∙◌, append_assoc, append-nil, arith, length-append, length-drop}
use Rattle.std.proofs.Common.{inl, inr}
use Rattle.std.specs.Int.{w32, w64, from_be_bytes, to_be_bytes, cast_signed}
use Rattle.std.specs.Int.RustNames.{FitsSigned}
use Rattle.std.proofs.Math.Facts.{Fits-of_lt, sfits_to_z}
use Rattle.std.proofs.lemmas.Bool.{cases_lt}
use Rattle.std.proofs.lemmas.Int.{of_z-to_z}
use Rattle.std.proofs.lemmas.List.{take-append-drop, get_or-drop, length-take-le, take_at, drop_at, nil_from_length}
use Rattle.sysv_model.specs.declared.limits.TheConstants.{BODY_ROOM}
use Rattle.sysv_wire.specs.declared.frame.Op.{Op}
use Rattle.sysv_wire.specs.declared.frame.Op.TheVariants as op
use Rattle.sysv_wire.specs.declared.frame.TheConstants.{MAX_REQUEST}
use Rattle.sysv_wire.specs.declared.frame.Version.{Version}
use Rattle.sysv_wire.specs.declared.request.Ask.{Ask}
use Rattle.sysv_wire.specs.declared.request.Ask.TheVariants.{Hello, Get, Snd, Rcv, Stat, Set, Rm, Row, Hold, Done, Back}
use Rattle.sysv_wire.specs.Arrived.{EndsWithin, HoldsRequest}
use Rattle.sysv_wire.specs.Frames.{HasOp, Knows, op_number, version_number, frame}
use Rattle.sysv_wire.specs.Numbers.{u32_bytes, u64_bytes, i32_bytes, i64_bytes}
use Rattle.sysv_wire.specs.Requests.{FitsAsk, IsRequestLength, ask_fields, ask_text, fields_len, op_of}
use Rattle.sysv_wire.specs.Requests.{request_encoding}
use Rattle.sysv_wire.proofs.NumberLemmas.{IsBytes, IsBytes-take, u32_front, u64_front}
use Rattle.sysv_wire.proofs.OneRequest.{asked, cred, flags, to}
use Rattle.sysv_wire.proofs.RequestLemmas.{frame_whole}

pub IsBytes-drop : (n : ℕ) (bytes : List ℕ) → IsBytes bytes → IsBytes (drop n bytes)
IsBytes-drop n bytes h i = rw get_or-drop (h (n + i))

-- A number at the start of some bytes, and the other bytes.
abbrev At : {T : Type 0} → (T → Type 0) → (T → List ℕ) → List ℕ → ℕ → Type 0
At {T} Fits encoded bytes m =
    (n : T) × (rest : List ℕ) × Fits n × IsBytes rest × (length rest ≡ m) × (bytes ≡ encoded n ++ rest)

u32_at : (m : ℕ) (bytes : List ℕ) → IsBytes bytes → length bytes ≡ 4 + m → At (λ n. n < 2 ^ 32) u32_bytes bytes m
u32_at m bytes fits len =
    let front = IsBytes-take 4 bytes fits in (
      from_be_bytes w32 (take 4 bytes),
      drop 4 bytes,
      omega (arith, front 0, front 1, front 2, front 3),
      IsBytes-drop 4 bytes fits,
      omega (arith, len, length-drop 4 bytes),
      u32_front bytes (take 4 bytes) (drop 4 bytes) (from_be_bytes w32 (take 4 bytes)) (omega (arith, len)) fits refl
          refl refl,
    )

i32_at : (m : ℕ) (bytes : List ℕ) → IsBytes bytes → length bytes ≡ 4 + m → At (λ z. FitsSigned w32 z) i32_bytes bytes m
unfolding u32_bytes i32_bytes
i32_at m bytes fits len =
    let u = u32_at m bytes fits len in (
      cast_signed w32 u.0,
      u.1,
      sfits_to_z (Fits-of_lt {w = w32} u.2),
      u.3,
      u.4,
      u.5 ∙ ap (λ n. to_be_bytes w32 n ++ u.1) (sym (of_z-to_z w32 u.0 u.2)),
    )

i64_at : (m : ℕ) (bytes : List ℕ) → IsBytes bytes → length bytes ≡ 8 + m → At (λ z. FitsSigned w64 z) i64_bytes bytes m
unfolding u64_bytes i64_bytes
i64_at m bytes fits len =
    let front = IsBytes-take 8 bytes fits in
    let n = from_be_bytes w64 (take 8 bytes) in
    let small : n < 2 ^ 64 =
    omega (arith, front 0, front 1, front 2, front 3, front 4, front 5, front 6, front 7) in (
      cast_signed w64 n,
      drop 8 bytes,
      sfits_to_z (Fits-of_lt {w = w64} small),
      IsBytes-drop 8 bytes fits,
      omega (arith, len, length-drop 8 bytes),
      u64_front bytes (take 8 bytes) (drop 8 bytes) n (omega (arith, len)) fits refl refl refl
          ∙ ap (λ k. to_be_bytes w64 k ++ drop 8 bytes) (sym (of_z-to_z w64 n small)),
    )

-- A number that is all of some bytes.
abbrev Only : {T : Type 0} → (T → Type 0) → (T → List ℕ) → List ℕ → Type 0
Only {T} Fits encoded bytes = (n : T) × Fits n × (bytes ≡ encoded n)

only_at : {T : Type 0} (Fits : T → Type 0) (encoded : T → List ℕ) (bytes : List ℕ) → At Fits encoded bytes 0 →
    Only Fits encoded bytes
only_at Fits encoded bytes h =
    (h.0, h.2, h.5 ∙ ap (λ l. encoded h.0 ++ l) (nil_from_length h.1 h.4) ∙ append-nil (encoded h.0))

u32_only : (bytes : List ℕ) → IsBytes bytes → length bytes ≡ 4 → Only (λ n. n < 2 ^ 32) u32_bytes bytes
u32_only bytes fits len = only_at (λ n. n < 2 ^ 32) u32_bytes bytes (u32_at 0 bytes fits len)

i32_only : (bytes : List ℕ) → IsBytes bytes → length bytes ≡ 4 → Only (λ z. FitsSigned w32 z) i32_bytes bytes
i32_only bytes fits len = only_at (λ z. FitsSigned w32 z) i32_bytes bytes (i32_at 0 bytes fits len)

-- The request's fields that some bytes of the right number spell.
abbrev Asks : Op → List ℕ → Type 0
Asks o fields = (a : Ask) × (op_of a ≡ o) × FitsAsk a × (fields ≡ ask_fields a)

-- Two lists, and what the second is.
next : (bytes front rest other : List ℕ) → bytes ≡ front ++ rest → rest ≡ other → bytes ≡ front ++ other
next bytes front rest other e f = e ∙ ap (λ l. front ++ l) f

ask_at : (o : Op) (fields : List ℕ) → IsBytes fields → length fields ≡ fields_len o → Asks o fields
unfolding ask_fields
ask_at op.Hello fields fits len =
    let a = u32_at 8 fields fits len in
    let b = u32_at 4 a.1 a.3 a.4 in
    let c = u32_only b.1 b.3 b.4 in
    (Hello (cred a.0 b.0 c.0), refl {a = op.Hello}, (a.2, b.2, c.1), next _ _ _ _ a.5 (next _ _ _ _ b.5 c.2))
ask_at op.Get fields fits len =
    let a = i32_at 4 fields fits len in
    let b = u32_only a.1 a.3 a.4 in
    (Get a.0 (flags b.0), refl {a = op.Get}, (a.2, b.1), next _ _ _ _ a.5 b.2)
ask_at op.Snd fields fits len =
    let a = i32_at 12 fields fits len in
    let b = i64_at 4 a.1 a.3 a.4 in
    let c = u32_only b.1 b.3 b.4 in
    (Snd a.0 b.0 (flags c.0), refl {a = op.Snd}, (a.2, b.2, c.1), next _ _ _ _ a.5 (next _ _ _ _ b.5 c.2))
ask_at op.Rcv fields fits len =
    let a = i32_at 16 fields fits len in
    let b = u32_at 12 a.1 a.3 a.4 in
    let c = i64_at 4 b.1 b.3 b.4 in
    let d = u32_only c.1 c.3 c.4 in (
      Rcv a.0 b.0 c.0 (flags d.0),
      refl {a = op.Rcv},
      (a.2, b.2, c.2, d.1),
      next _ _ _ _ a.5 (next _ _ _ _ b.5 (next _ _ _ _ c.5 d.2)),
    )
ask_at op.Stat fields fits len = let a = i32_only fields fits len in (Stat a.0, refl {a = op.Stat}, a.1, a.2)
ask_at op.Set fields fits len =
    let a = i32_at 16 fields fits len in
    let b = u32_at 12 a.1 a.3 a.4 in
    let c = u32_at 8 b.1 b.3 b.4 in
    let d = u32_at 4 c.1 c.3 c.4 in
    let e = u32_only d.1 d.3 d.4 in (
      Set a.0 (to b.0 c.0 d.0 e.0),
      refl {a = op.Set},
      (a.2, b.2, c.2, d.2, e.1),
      next _ _ _ _ a.5 (next _ _ _ _ b.5 (next _ _ _ _ c.5 (next _ _ _ _ d.5 e.2))),
    )
ask_at op.Rm fields fits len = let a = i32_only fields fits len in (Rm a.0, refl {a = op.Rm}, a.1, a.2)
ask_at op.Row fields fits len = let a = u32_only fields fits len in (Row a.0, refl {a = op.Row}, a.1, a.2)
ask_at op.Hold fields fits len =
    let a = i32_at 20 fields fits len in
    let b = u32_at 16 a.1 a.3 a.4 in
    let c = i64_at 8 b.1 b.3 b.4 in
    let d = u32_at 4 c.1 c.3 c.4 in
    let e = u32_only d.1 d.3 d.4 in (
      Hold a.0 b.0 c.0 (flags d.0) e.0,
      refl {a = op.Hold},
      (a.2, b.2, c.2, d.2, e.1),
      next _ _ _ _ a.5 (next _ _ _ _ b.5 (next _ _ _ _ c.5 (next _ _ _ _ d.5 e.2))),
    )
ask_at op.Done fields fits len = (Done, refl {a = op.Done}, tt, nil_from_length fields len)
ask_at op.Back fields fits len = (Back, refl {a = op.Back}, tt, nil_from_length fields len)

-- The length of the body.
text_fits : (o : Op) (n : ℕ) → n ≤ MAX_REQUEST → IsRequestLength o n →
    (2 + fields_len o ≤ n) × (n - (2 + fields_len o) ≤ BODY_ROOM)
text_fits op.Hello n most h = (omega (arith, h), omega (arith, h))
text_fits op.Get n most h = (omega (arith, h), omega (arith, h))
text_fits op.Snd n most h = (omega (arith, h), omega (arith, h, most))
text_fits op.Rcv n most h = (omega (arith, h), omega (arith, h))
text_fits op.Stat n most h = (omega (arith, h), omega (arith, h))
text_fits op.Set n most h = (omega (arith, h), omega (arith, h))
text_fits op.Rm n most h = (omega (arith, h), omega (arith, h))
text_fits op.Row n most h = (omega (arith, h), omega (arith, h))
text_fits op.Hold n most h = (omega (arith, h), omega (arith, h))
text_fits op.Done n most h = (omega (arith, h), omega (arith, h))
text_fits op.Back n most h = (omega (arith, h), omega (arith, h))

none_left : (n m : ℕ) (text : List ℕ) → n ≡ m → length text ≡ n - m → [] ≡ text
none_left n m text h len = sym (nil_from_length text (omega (arith, h, len)))

-- All of it is the body of an operation that has one, and nothing of another.
text_kept : (o : Op) (n : ℕ) (text : List ℕ) → IsRequestLength o n → length text ≡ n - (2 + fields_len o) →
    ask_text o text ≡ text
text_kept op.Hello n text h len = none_left n _ text h len
text_kept op.Get n text h len = none_left n _ text h len
text_kept op.Snd n text h len = refl
text_kept op.Rcv n text h len = none_left n _ text h len
text_kept op.Stat n text h len = none_left n _ text h len
text_kept op.Set n text h len = none_left n _ text h len
text_kept op.Rm n text h len = none_left n _ text h len
text_kept op.Row n text h len = none_left n _ text h len
text_kept op.Hold n text h len = none_left n _ text h len
text_kept op.Done n text h len = none_left n _ text h len
text_kept op.Back n text h len = none_left n _ text h len

-- The fields, the body and what follows them.
parts : (k m : ℕ) (behind : List ℕ) → behind ≡ (take k behind ++ take m (drop k behind)) ++ drop m (drop k behind)
parts k m behind =
    sym (take-append-drop k behind) ∙ ap (λ l. take k behind ++ l) (sym (take-append-drop m (drop k behind)))
    ∙ sym (append_assoc (take k behind) (take m (drop k behind)) (drop m (drop k behind)))

-- The content of a frame that is as long as its length field says.
taken_frame : (n : ℕ) (content rest : List ℕ) → n ≡ length content →
    take (4 + n) (u32_bytes n ++ (content ++ rest)) ≡ frame content
unfolding u32_bytes
taken_frame n content rest len =
    ap (take (4 + n)) (sym (append_assoc (u32_bytes n) content rest))
    ∙ take_at (u32_bytes n ++ content) rest (4 + n) (omega (arith, len, length-append (u32_bytes n) content))
    ∙ frame_whole n content len

-- The head of a request and its fields and body, whatever follows them.
encoded_at : (version : Version) (a : Ask) (o : Op) (fields text : List ℕ) → op_of a ≡ o → fields ≡ ask_fields a →
    ask_text o text ≡ text
    → frame (version_number version ∷ op_number o ∷ (fields ++ text)) ≡ request_encoding (asked version a) text
encoded_at version a o fields text same encoded kept =
    ap (λ l. frame (version_number version ∷ op_number o ∷ (l ++ text))) encoded
    ∙ ap (λ l. frame (version_number version ∷ op_number o ∷ (ask_fields a ++ l))) (sym kept)
    ∙ ap (λ x. frame (version_number version ∷ op_number x ∷ (ask_fields a ++ ask_text x text))) (sym same)

-- The first two bytes of at least two.
pub pair_then : (l : List ℕ) → 2 ≤ length l → l ≡ get_or l 0 0 ∷ get_or l 1 0 ∷ drop 2 l
pair_then [] h = absurd (omega (arith, h))
pair_then (a ∷ []) h = absurd (omega (arith, h))
pair_then (a ∷ b ∷ rest) h = refl

-- The bytes after the length field.
pub content_is : (n : ℕ) (bytes content : List ℕ) → bytes ≡ u32_bytes n ++ content → IsBytes bytes → IsBytes content
unfolding u32_bytes
content_is n bytes content e fits =
    subst IsBytes (ap (drop 4) e ∙ drop_at (u32_bytes n) content 4 refl) (IsBytes-drop 4 bytes fits)

-- The requests of a reader with this newest version.
module _ (newest : Version) where
  whole_at : (n : ℕ) (version : Version) (o : Op) (behind : List ℕ) → IsBytes behind → n ≤ MAX_REQUEST
      → IsRequestLength o n → Knows newest version o → n ≤ 2 + length behind
      → HoldsRequest newest (4 + n) (u32_bytes n ++ (version_number version ∷ op_number o ∷ behind))
  unfolding u32_bytes
  whole_at n version o behind fits most wanted known enough =
      let k = fields_len o in
      let m = n - (2 + k) in
      let sizes = text_fits o n most wanted in
      let fields = take k behind in
      let text = take m (drop k behind) in
      let rest = drop m (drop k behind) in
      let fields_is : length fields ≡ k = length-take-le k behind (omega (arith, sizes.0, enough)) in
      let text_is : length text ≡ m =
      length-take-le m (drop k behind) (omega (arith, sizes.0, enough, length-drop k behind)) in
      let ask = ask_at o fields (IsBytes-take k behind fits) fields_is in
      let content = version_number version ∷ op_number o ∷ (fields ++ text) in
      let len : n ≡ length content = omega (arith, sizes.0, fields_is, text_is, length-append fields text) in
      let bytes = u32_bytes n ++ (version_number version ∷ op_number o ∷ behind) in
      let split : bytes ≡ u32_bytes n ++ (content ++ rest) =
      ap (λ l. u32_bytes n ++ (version_number version ∷ op_number o ∷ l)) (parts k m behind) in (
        omega (arith, enough, length-append (u32_bytes n) (version_number version ∷ op_number o ∷ behind)),
        (
          asked version ask.0,
          text,
          (ask.2, omega (arith, sizes.1, text_is), subst (HasOp version) (sym ask.1) known.1),
          ap (take (4 + n)) split ∙ taken_frame n content rest len
              ∙ encoded_at version ask.0 o fields text ask.1 ask.3 (text_kept o n text wanted text_is),
          known.0,
        ),
      )

  -- A head that was checked: the bytes end within its request, or hold it.
  checked_at : (n : ℕ) (version : Version) (o : Op) (behind : List ℕ) → IsBytes behind → n ≤ MAX_REQUEST
      → IsRequestLength o n → Knows newest version o
      → EndsWithin newest (4 + n) (u32_bytes n ++ (version_number version ∷ op_number o ∷ behind))
      ⊎ HoldsRequest newest (4 + n) (u32_bytes n ++ (version_number version ∷ op_number o ∷ behind))
  checked_at n version o behind fits most wanted known =
      elim (cases_lt (2 + length behind) n) [
        | inl lt ↦ inl (inr (inr ((n, version, o, behind, most, wanted, lt, refl, known), refl)))
        | inr le ↦ inr (whole_at n version o behind fits most wanted known le)
      ]

  pub checked : (n : ℕ) (version : Version) (o : Op) (bytes content : List ℕ) → bytes ≡ u32_bytes n ++ content
      → IsBytes bytes → 2 ≤ length content → version_number version ≡ get_or content 0 0
      → op_number o ≡ get_or content 1 0 → n ≤ MAX_REQUEST → IsRequestLength o n
      → Knows newest version o → EndsWithin newest (4 + n) bytes ⊎ HoldsRequest newest (4 + n) bytes
  checked n version o bytes content e fits two v number most wanted known =
      let whole : bytes ≡ u32_bytes n ++ (version_number version ∷ op_number o ∷ drop 2 content) =
      e ∙ ap (λ l. u32_bytes n ++ l) (pair_then content two)
      ∙ ap (λ x. u32_bytes n ++ (x ∷ get_or content 1 0 ∷ drop 2 content)) (sym v)
      ∙ ap (λ x. u32_bytes n ++ (version_number version ∷ x ∷ drop 2 content)) (sym number) in
      subst (λ l. EndsWithin newest (4 + n) l ⊎ HoldsRequest newest (4 + n) l) (sym whole)
      (checked_at n version o (drop 2 content) (IsBytes-drop 2 content (content_is n bytes content e fits)) most wanted
      known)
