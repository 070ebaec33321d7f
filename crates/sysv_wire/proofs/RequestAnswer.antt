-- Four numbers of an input determine which kind of result fits it: its length, the length field at
-- its start, and the two bytes after that.
use Rattle.std.proofs.Common.{◌≡◌, ◌⊎◌, ◌≢◌, ℕ, ◌+◌, ◌^◌, ◌<◌, ◌≤◌, Bool, true, false, cond, eqb, ltb, leb, List, []}
use Rattle.std.proofs.Common.{◌∷◌, ◌++◌, length, get_or, take, Option, None, Some, Result, Ok, Err, refl, sym, subst}
use Rattle.std.proofs.Common.{ap, ◌∙◌, append_assoc, append-nil, arith, length-append, inl, inr}
use Rattle.std.specs.Int.{w32, from_be_bytes}
use Rattle.std.proofs.lemmas.Bool.Decides.{nat_tests}
use Rattle.std.proofs.lemmas.List.{take_at}
use Rattle.std.proofs.lemmas.Nat.{from_be_bytes-to_be_bytes_4}
use Rattle.sysv_wire.specs.declared.fault.Fault.{Fault}
use Rattle.sysv_wire.specs.declared.fault.Fault.TheVariants.{Truncated, TooLong, BadOp, BadField, Read}
use Rattle.sysv_wire.specs.declared.frame.Op.{Op}
use Rattle.sysv_wire.specs.declared.frame.Op.TheVariants as op
use Rattle.sysv_wire.specs.declared.request.Ask.{Ask}
use Rattle.sysv_wire.specs.declared.request.Ask.TheVariants.{Hello, Get, Snd, Rcv, Stat, Set, Rm, Row, Hold, Done, Back}
use Rattle.sysv_wire.specs.declared.request.Request.{Request}
use Rattle.sysv_wire.specs.declared.frame.Version.{Version}
use Rattle.sysv_wire.specs.declared.frame.Version.TheVariants.{One, Two, Three}
use Rattle.sysv_wire.specs.Faults.{RequestFault}
use Rattle.sysv_wire.specs.Frames.{HasOp, IsNoVersion, IsUpTo, last_op, op_number, version_number, frame}
use Rattle.sysv_wire.specs.Numbers.{u32_bytes}
use Rattle.sysv_wire.specs.OneAnswer.{RequestAt, OneAnswerToRequests}
use Rattle.sysv_wire.specs.Reading.{ReadsRequest}
use Rattle.sysv_wire.specs.Requests.{IsRequestLength, ask_fields, ask_text, fields_len, has_text, op_of}
use Rattle.sysv_wire.specs.Requests.{FitsRequest, request_encoding}
use Rattle.sysv_wire.proofs.OneRequest.{op_at, op_back, version_at, version_back, one_request}
use Rattle.sysv_wire.proofs.RequestLemmas.{length-ask_fields}

data Verdict : Type 0 where
  Whole : Verdict
  End : Verdict
  Told : Fault → Verdict

fits_op : Op → ℕ → Bool
fits_op o n = cond (has_text o) (leb (2 + fields_len o) n) (eqb n (2 + fields_len o))

-- Whether a version up to the newest has this number.
pub has_version : Version → ℕ → Bool
has_version One v = eqb v 1
has_version Two v = cond (eqb v 1) true (eqb v 2)
has_version Three v = cond (eqb v 1) true (cond (eqb v 2) true (eqb v 3))

pub version_known : (newest version : Version) (v : ℕ) → version_number version ≡ v → IsUpTo newest version →
    has_version newest v ≡ true
unfolding has_version
version_known One One v e h = ap (has_version One) (sym e)
version_known One Two v e h = absurd (omega (arith, h))
version_known One Three v e h = absurd (omega (arith, h))
version_known Two One v e h = ap (has_version Two) (sym e)
version_known Two Two v e h = ap (has_version Two) (sym e)
version_known Two Three v e h = absurd (omega (arith, h))
version_known Three One v e h = ap (has_version Three) (sym e)
version_known Three Two v e h = ap (has_version Three) (sym e)
version_known Three Three v e h = ap (has_version Three) (sym e)

pub version_unknown : (newest : Version) (v : ℕ) → IsNoVersion newest v → has_version newest v ≡ false
unfolding has_version
version_unknown One v h =
    let a : v ≢ 1 = h in
    grind (arith, nat_tests)
version_unknown Two v h =
    let a : v ≢ 1 = h.0 in
    let b : v ≢ 2 = h.1 in
    grind (arith, nat_tests)
version_unknown Three v h =
    let a : v ≢ 1 = h.0 in
    let b : v ≢ 2 = h.1 in
    let c : v ≢ 3 = h.2 in
    grind (arith, nat_tests)

-- The number of the last operation of the version with this number.
pub last_at : ℕ → ℕ
last_at v = last_op (version_at v)

pub last_at_is : (version : Version) (v : ℕ) → version_number version ≡ v → last_at v ≡ last_op version
unfolding last_at
last_at_is version v e = ap (λ n. last_op (version_at n)) (sym e) ∙ ap last_op (version_back version)

pub op_within : (version : Version) (v : ℕ) (o : Op) → version_number version ≡ v → HasOp version o →
    op_number o ≤ last_at v
op_within version v o e h = omega (arith, h, last_at_is version v e)

pub at_least : (m n : ℕ) → m ≤ n → leb m n ≡ true
at_least m n h = grind (arith, nat_tests)

pub not_at_least : (m n : ℕ) → ¬ (m ≤ n) → leb m n ≡ false
not_at_least m n h = grind (arith, nat_tests)

pub the_same : (m n : ℕ) → m ≡ n → eqb m n ≡ true
the_same m n h = grind (arith, nat_tests)

pub not_the_same : (m n : ℕ) → ¬ (m ≡ n) → eqb m n ≡ false
not_the_same m n h = grind (arith, nat_tests)

fits_is : (o : Op) (n : ℕ) → IsRequestLength o n → fits_op o n ≡ true
unfolding fits_op
fits_is op.Hello n h = the_same n _ h
fits_is op.Get n h = the_same n _ h
fits_is op.Snd n h = at_least 18 n h
fits_is op.Rcv n h = the_same n _ h
fits_is op.Stat n h = the_same n _ h
fits_is op.Set n h = the_same n _ h
fits_is op.Rm n h = the_same n _ h
fits_is op.Row n h = the_same n _ h
fits_is op.Hold n h = the_same n _ h
fits_is op.Done n h = the_same n _ h
fits_is op.Back n h = the_same n _ h

fits_is_not : (o : Op) (n : ℕ) → ¬ IsRequestLength o n → fits_op o n ≡ false
unfolding fits_op
fits_is_not op.Hello n h = not_the_same n _ h
fits_is_not op.Get n h = not_the_same n _ h
fits_is_not op.Snd n h = not_at_least 18 n h
fits_is_not op.Rcv n h = not_the_same n _ h
fits_is_not op.Stat n h = not_the_same n _ h
fits_is_not op.Set n h = not_the_same n _ h
fits_is_not op.Rm n h = not_the_same n _ h
fits_is_not op.Row n h = not_the_same n _ h
fits_is_not op.Hold n h = not_the_same n _ h
fits_is_not op.Done n h = not_the_same n _ h
fits_is_not op.Back n h = not_the_same n _ h

fits_when : (o : Op) (n : ℕ) → IsRequestLength o n → fits_op (op_at (op_number o)) n ≡ true
fits_when o n h = ap (λ x. fits_op x n) (op_back o) ∙ fits_is o n h

fits_not : (o : Op) (n : ℕ) → ¬ IsRequestLength o n → fits_op (op_at (op_number o)) n ≡ false
fits_not o n h = ap (λ x. fits_op x n) (op_back o) ∙ fits_is_not o n h

request_length : (a : Ask) (text : List ℕ) → length text ≤ 8256 →
    IsRequestLength (op_of a) (2 + length (ask_fields a ++ ask_text (op_of a) text))
    × (2 + length (ask_fields a ++ ask_text (op_of a) text) ≤ 8274)
request_length (Hello c) text h =
    let l = length-append (ask_fields (Hello c)) [] in
    let m = length-ask_fields (Hello c) in
    (omega (arith, l, m), omega (arith, l, m))
request_length (Get k f) text h =
    let l = length-append (ask_fields (Get k f)) [] in
    let m = length-ask_fields (Get k f) in
    (omega (arith, l, m), omega (arith, l, m))
request_length (Snd i t f) text h =
    let l = length-append (ask_fields (Snd i t f)) text in
    let m = length-ask_fields (Snd i t f) in
    (omega (arith, l, m), omega (arith, l, m))
request_length (Rcv i s t f) text h =
    let l = length-append (ask_fields (Rcv i s t f)) [] in
    let m = length-ask_fields (Rcv i s t f) in
    (omega (arith, l, m), omega (arith, l, m))
request_length (Stat i) text h =
    let l = length-append (ask_fields (Stat i)) [] in
    let m = length-ask_fields (Stat i) in
    (omega (arith, l, m), omega (arith, l, m))
request_length (Set i t) text h =
    let l = length-append (ask_fields (Set i t)) [] in
    let m = length-ask_fields (Set i t) in
    (omega (arith, l, m), omega (arith, l, m))
request_length (Rm i) text h =
    let l = length-append (ask_fields (Rm i)) [] in
    let m = length-ask_fields (Rm i) in
    (omega (arith, l, m), omega (arith, l, m))
request_length (Row i) text h =
    let l = length-append (ask_fields (Row i)) [] in
    let m = length-ask_fields (Row i) in
    (omega (arith, l, m), omega (arith, l, m))
request_length (Hold i s t f x) text h =
    let l = length-append (ask_fields (Hold i s t f x)) [] in
    let m = length-ask_fields (Hold i s t f x) in
    (omega (arith, l, m), omega (arith, l, m))
request_length Done text h =
    let l = length-append (ask_fields Done) [] in
    let m = length-ask_fields Done in
    (omega (arith, l, m), omega (arith, l, m))
request_length Back text h =
    let l = length-append (ask_fields Back) [] in
    let m = length-ask_fields Back in
    (omega (arith, l, m), omega (arith, l, m))

code : Result (Option Request) Fault → Verdict
code (Ok (Some r)) = Whole
code (Ok None) = End
code (Err f) = Told f

-- What follows a length, a version and an operation.
pub behind_head : (n v o : ℕ) (taken rest : List ℕ) → taken ≡ u32_bytes n ++ (v ∷ o ∷ []) →
    taken ++ rest ≡ u32_bytes n ++ (v ∷ o ∷ rest)
behind_head n v o taken rest e = ap (λ l. l ++ rest) e ∙ append_assoc (u32_bytes n) (v ∷ o ∷ []) rest

abbrev refused : Fault → Result (Option Request) Fault
refused f = Err f

-- The results of a reader with this newest version.
module _ (newest : Version) where
  verdict_of : ℕ → ℕ → ℕ → ℕ → Verdict
  verdict_of len n v o =
      cond (eqb len 0) End
      (cond (ltb len 4) (Told Truncated)
      (cond (ltb 8274 n) (Told TooLong) (cond (ltb n 2) (Told BadField) (cond (ltb len 6) (Told Truncated)
      (cond (has_version newest v)
      (cond (ltb (last_at v) o) (Told BadOp)
      (cond (fits_op (op_at o) n) (cond (ltb len (4 + n)) (Told Truncated) Whole) (Told BadField))) (Told BadField))))))

  v_part : (len n v o : ℕ) → 0 < len → len < 4 → verdict_of len n v o ≡ Told Truncated
  unfolding verdict_of
  v_part len n v o a b = grind (arith, nat_tests)

  v_long : (len n v o : ℕ) → 4 ≤ len → 8274 < n → verdict_of len n v o ≡ Told TooLong
  unfolding verdict_of
  v_long len n v o a b = grind (arith, nat_tests)

  v_short : (len n v o : ℕ) → 4 ≤ len → n < 2 → verdict_of len n v o ≡ Told BadField
  unfolding verdict_of
  v_short len n v o a b = grind (arith, nat_tests)

  v_head : (len n v o : ℕ) → 4 ≤ len → 2 ≤ n → n ≤ 8274 → len < 6 → verdict_of len n v o ≡ Told Truncated
  unfolding verdict_of
  v_head len n v o a b c d = grind (arith, nat_tests)

  v_version : (len n v o : ℕ) → 6 ≤ len → 2 ≤ n → n ≤ 8274 → has_version newest v ≡ false →
      verdict_of len n v o ≡ Told BadField
  unfolding verdict_of
  v_version len n v o a b c d = grind (arith, nat_tests)

  v_op : (len n v o : ℕ) → 6 ≤ len → 2 ≤ n → n ≤ 8274 → has_version newest v ≡ true → last_at v < o →
      verdict_of len n v o ≡ Told BadOp
  unfolding verdict_of
  v_op len n v o a b c d e = grind (arith, nat_tests)

  v_length : (len n v o : ℕ) → 6 ≤ len → 2 ≤ n → n ≤ 8274 → has_version newest v ≡ true → o ≤ last_at v →
      fits_op (op_at o) n ≡ false →
      verdict_of len n v o ≡ Told BadField
  unfolding verdict_of
  v_length len n v o a b c d e f = grind (arith, nat_tests)

  v_rest : (len n v o : ℕ) → 6 ≤ len → 2 ≤ n → n ≤ 8274 → has_version newest v ≡ true → o ≤ last_at v →
      fits_op (op_at o) n ≡ true →
      len < 4 + n → verdict_of len n v o ≡ Told Truncated
  unfolding verdict_of
  v_rest len n v o a b c d e f g = grind (arith, nat_tests)

  v_whole : (len n v o : ℕ) → 6 ≤ len → 2 ≤ n → n ≤ 8274 → has_version newest v ≡ true → o ≤ last_at v →
      fits_op (op_at o) n ≡ true →
      4 + n ≤ len → verdict_of len n v o ≡ Whole
  unfolding verdict_of
  v_whole len n v o a b c d e f g = grind (arith, nat_tests)

  verdict : List ℕ → Verdict
  verdict input = verdict_of (length input) (from_be_bytes w32 (take 4 input)) (get_or input 4 0) (get_or input 5 0)

  verdict_head : (n : ℕ) (rest : List ℕ) → n < 2 ^ 32 →
      verdict (u32_bytes n ++ rest) ≡ verdict_of (4 + length rest) n (get_or rest 0 0) (get_or rest 1 0)
  unfolding verdict u32_bytes
  verdict_head n rest small =
      let number : from_be_bytes w32 (take 4 (u32_bytes n ++ rest)) ≡ n =
      ap (from_be_bytes w32) (take_at (u32_bytes n) rest 4 refl) ∙ from_be_bytes-to_be_bytes_4 n small in
      let len : length (u32_bytes n ++ rest) ≡ 4 + length rest = length-append (u32_bytes n) rest in
      ap (λ m. verdict_of (length (u32_bytes n ++ rest)) m (get_or rest 0 0) (get_or rest 1 0)) number
      ∙ ap (λ l. verdict_of l n (get_or rest 0 0) (get_or rest 1 0)) len

  -- The verdict on a head with these numbers and the bytes after it.
  verdict_op : (n v o : ℕ) (rest : List ℕ) → n ≤ 8274 →
      verdict (u32_bytes n ++ (v ∷ o ∷ rest)) ≡ verdict_of (6 + length rest) n v o
  verdict_op n v o rest most =
      let len : 4 + length (v ∷ o ∷ rest) ≡ 6 + length rest = omega arith in
      verdict_head n (v ∷ o ∷ rest) (omega arith) ∙ ap (λ l. verdict_of l n v o) len

  whole_verdict : (r : Request) (text rest : List ℕ) → FitsRequest r text → IsUpTo newest r.version →
      verdict (request_encoding r text ++ rest) ≡ Whole
  unfolding frame
  whole_verdict r text rest h known =
      let v = version_number r.version in
      let o = op_number (op_of r.ask) in
      let behind = ask_fields r.ask ++ ask_text (op_of r.ask) text in
      let n = 2 + length behind in
      let sizes = request_length r.ask text h.1 in
      let len : length (v ∷ o ∷ behind) ≡ n = omega arith in
      let parts : request_encoding r text ++ rest ≡ u32_bytes n ++ (v ∷ o ∷ (behind ++ rest)) =
      append_assoc (u32_bytes (length (v ∷ o ∷ behind))) (v ∷ o ∷ behind) rest
      ∙ ap (λ m. u32_bytes m ++ (v ∷ o ∷ (behind ++ rest))) len in
      ap verdict parts ∙ verdict_op n v o (behind ++ rest) sizes.1
      ∙ v_whole (6 + length (behind ++ rest)) n v o (omega arith) (omega arith) sizes.1
      (version_known newest r.version v refl known) (op_within r.version v (op_of r.ask) refl h.2)
      (fits_when (op_of r.ask) n sizes.0)
      (omega (arith, length-append behind rest))

  broken_verdict : (input : List ℕ) → RequestFault newest Truncated input → verdict input ≡ Told Truncated
  unfolding verdict
  broken_verdict input (inl (inl h)) = v_part (length input) _ _ _ h.0 h.1
  broken_verdict input (inl (inr h)) =
      let n = h.0 in
      let part = h.1 in
      ap verdict h.5 ∙ verdict_head n part (omega (arith, h.3))
      ∙ v_head (4 + length part) n (get_or part 0 0) (get_or part 1 0) (omega arith) h.2 h.3 (omega (arith, h.4))
  broken_verdict input (inr h) =
      let n = h.0 in
      let v = version_number h.1 in
      let o = h.2 in
      let part = h.3 in
      ap verdict h.7 ∙ verdict_op n v (op_number o) part h.4
      ∙ v_rest (6 + length part) n v (op_number o) (omega arith) (omega (arith, h.6)) h.4
      (version_known newest h.1 v refl h.8.0)
      (op_within h.1 v o refl h.8.1) (fits_when o n h.5) (omega (arith, h.6))

  long_verdict : (input taken rest : List ℕ) → RequestFault newest TooLong taken → input ≡ taken ++ rest →
      verdict input ≡ Told TooLong
  long_verdict input taken rest h e =
      let n = h.0 in
      ap verdict (e ∙ ap (λ l. l ++ rest) h.3) ∙ verdict_head n rest h.1
      ∙ v_long (4 + length rest) n (get_or rest 0 0) (get_or rest 1 0) (omega arith) h.2

  op_verdict : (input taken rest : List ℕ) → RequestFault newest BadOp taken → input ≡ taken ++ rest →
      verdict input ≡ Told BadOp
  op_verdict input taken rest h e =
      let n = h.0 in
      let v = h.1 in
      let o = h.2 in
      let head = h.3 in
      ap verdict (e ∙ behind_head n v o taken rest head.2) ∙ verdict_op n v o rest head.1
      ∙ v_op (6 + length rest) n v o (omega arith) head.0 head.1 (version_known newest h.4.0 v h.4.1 h.4.2)
      (omega (arith, h.4.3, last_at_is h.4.0 v h.4.1))

  field_verdict : (input taken rest : List ℕ) → RequestFault newest BadField taken → input ≡ taken ++ rest →
      verdict input ≡ Told BadField
  field_verdict input taken rest (inl h) e =
      let n = h.0 in
      ap verdict (e ∙ ap (λ l. l ++ rest) h.3) ∙ verdict_head n rest h.1
      ∙ v_short (4 + length rest) n (get_or rest 0 0) (get_or rest 1 0) (omega arith) h.2
  field_verdict input taken rest (inr (n, v, o, head, inl other)) e =
      ap verdict (e ∙ behind_head n v o taken rest head.2) ∙ verdict_op n v o rest head.1
      ∙ v_version (6 + length rest) n v o (omega arith) head.0 head.1 (version_unknown newest v other)
  field_verdict input taken rest (inr (n, v, o, head, inr (version, same, (named, number, wrong, known)))) e =
      ap verdict (e ∙ behind_head n v o taken rest head.2) ∙ verdict_op n v o rest head.1
      ∙ v_length (6 + length rest) n v o (omega arith) head.0 head.1 (version_known newest version v same known.0)
      (omega (arith, number, op_within version v named same known.1))
      (ap (λ x. fits_op (op_at x) n) (sym number) ∙ fits_not named n wrong)

  answer_verdict : (input : List ℕ) (a : Result (Option Request) Fault) → RequestAt newest input a →
      verdict input ≡ code a
  unfolding verdict verdict_of code
  answer_verdict input (Ok (Some r)) h = ap verdict h.3 ∙ whole_verdict r h.0 h.1 h.2 h.4
  answer_verdict input (Ok None) h = ap verdict h
  answer_verdict input (Err Truncated) h = broken_verdict input h
  answer_verdict input (Err TooLong) h = long_verdict input h.0 h.1 h.2 h.3
  answer_verdict input (Err BadOp) h = op_verdict input h.0 h.1 h.2 h.3
  answer_verdict input (Err BadField) h = field_verdict input h.0 h.1 h.2 h.3
  answer_verdict input (Err Read) h = absurd h

  same_answer : (input : List ℕ) (a b : Result (Option Request) Fault) → RequestAt newest input a →
      RequestAt newest input b →
      code a ≡ code b → a ≡ b
  unfolding code
  same_answer input (Ok (Some r)) (Ok (Some s)) h k e =
      ap (λ x. Ok (Some x)) (one_request r s h.0 k.0 h.1 k.1 h.2 k.2 (sym h.3 ∙ k.3)).0
  same_answer input (Ok None) (Ok None) h k e = refl
  same_answer input (Err f) (Err g) h k e = let faults : f ≡ g = cc (e) in ap refused faults
  same_answer input (Ok (Some r)) (Ok None) h k e = absurd cc
  same_answer input (Ok (Some r)) (Err g) h k e = absurd cc
  same_answer input (Ok None) (Ok (Some s)) h k e = absurd cc
  same_answer input (Ok None) (Err g) h k e = absurd cc
  same_answer input (Err f) (Ok (Some s)) h k e = absurd cc
  same_answer input (Err f) (Ok None) h k e = absurd cc

  pub one_answer : OneAnswerToRequests newest
  one_answer input a b h k = same_answer input a b h k (sym (answer_verdict input a h) ∙ answer_verdict input b k)

  -- What was read fits the input, or the reader failed.
  pub request_only : (input : List ℕ) (new : Option (List ℕ)) (result answer : Result (Option Request) Fault)
      (text : List ℕ) → ReadsRequest newest (Some input) new result text → RequestAt newest input answer
      → (result ≡ answer) ⊎ (result ≡ Err Read)
  request_only input None (Ok (Some r)) answer text h k = absurd h.0
  request_only input None (Ok None) answer text h k = absurd h.0
  request_only input None (Err f) answer text h k = absurd h.1
  request_only input (Some rest) (Ok (Some r)) answer text h k =
      inl (one_answer input (Ok (Some r)) answer (text, rest, h.1, h.0, h.3) k)
  request_only input (Some rest) (Ok None) answer text h k = inl (one_answer input (Ok None) answer (h.0 ∙ h.1) k)
  request_only input (Some rest) (Err Truncated) answer text h k =
      inl (one_answer input (Err Truncated) answer
      (subst (RequestFault newest Truncated) (sym (h.1 ∙ ap (λ l. h.0 ++ l) h.3 ∙ append-nil h.0)) h.2) k)
  request_only input (Some rest) (Err TooLong) answer text h k =
      inl (one_answer input (Err TooLong) answer (h.0, rest, h.2, h.1) k)
  request_only input (Some rest) (Err BadOp) answer text h k =
      inl (one_answer input (Err BadOp) answer (h.0, rest, h.2, h.1) k)
  request_only input (Some rest) (Err BadField) answer text h k =
      inl (one_answer input (Err BadField) answer (h.0, rest, h.2, h.1) k)
  request_only input (Some rest) (Err Read) answer text h k = inr refl
