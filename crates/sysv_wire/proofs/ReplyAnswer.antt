-- Five numbers of an input determine which kind of result fits it: its length, the length field at
-- its start, and the three bytes after that. If these allow a whole reply, its fields decide.
use Rattle.std.proofs.Common.{◌≡◌, ◌≢◌, ◌⊎◌, ℕ, ◌+◌, ◌-◌, ◌^◌, ◌<◌, ◌≤◌, Bool, true, false, cond, eqb, ltb, leb}
use Rattle.std.proofs.Common.{MatchBool, List, [], ◌∷◌, ◌++◌, length, get_or, take, Option, None, Some, Result, Ok, Err}
use Rattle.std.proofs.Common.{refl, sym, ap, subst, ◌∙◌, append_assoc, append-nil, arith, length-append, inl, inr}
use Rattle.std.specs.Int.{w32, from_be_bytes}
use Rattle.std.proofs.lemmas.Bool.Decides.{nat_tests}
use Rattle.std.proofs.lemmas.List.{take_at}
use Rattle.std.proofs.lemmas.Nat.{from_be_bytes-to_be_bytes_4}
use Rattle.sysv_model.specs.Errors.{number_of}
use Rattle.sysv_model.specs.declared.attributes.Row.{Row as Line}
use Rattle.sysv_wire.specs.declared.fault.Fault.{Fault}
use Rattle.sysv_wire.specs.declared.fault.Fault.TheVariants.{Truncated, TooLong, BadOp, BadField, Read}
use Rattle.sysv_wire.specs.declared.frame.Op.{Op}
use Rattle.sysv_wire.specs.declared.frame.Op.TheVariants as op
use Rattle.sysv_wire.specs.declared.frame.Version.{Version}
use Rattle.sysv_wire.specs.declared.frame.Version.TheVariants.{One, Two, Three}
use Rattle.sysv_wire.specs.declared.reply.ReplyContent.{ReplyContent}
use Rattle.sysv_wire.specs.declared.reply.ReplyContent.TheVariants.{Refused, Hello, HelloSlots, Get, Snd, Rcv, Stat}
use Rattle.sysv_wire.specs.declared.reply.ReplyContent.TheVariants.{Set, Rm, Row, Hold, Done, Back}
use Rattle.sysv_wire.specs.declared.reply.Reply.{Reply}
use Rattle.sysv_wire.specs.Frames.{IsUpTo, op_number, version_number, frame}
use Rattle.sysv_wire.specs.Numbers.{u16_bytes, u32_bytes, u64_bytes, i32_bytes, i64_bytes}
use Rattle.sysv_wire.specs.OneAnswer.{ReplyAt, OneAnswerToReplies}
use Rattle.sysv_wire.specs.Reading.{ReadsReply}
use Rattle.sysv_wire.specs.Replies.{FitsReply, FitsContent, IsAnswer, IsAnswerLength, IsRestLength, error_number}
use Rattle.sysv_wire.specs.Replies.{hello_len, perm_fields, count_fields, time_fields, stat_fields, row_fields}
use Rattle.sysv_wire.specs.Replies.{content_fields, content_text, reply_encoding}
use Rattle.sysv_wire.specs.ReplyFaults.{IsNoError, IsWideAt, IsBadMark, IsBadAnswer, IsReplyRest, ReplyFault}
use Rattle.sysv_wire.proofs.Apart.{rests_alike, frames_alike, u16_step}
use Rattle.sysv_wire.proofs.OneRequest.{op_at, op_back, version_at, version_back}
use Rattle.sysv_wire.proofs.OneReply.{some_error, row_number, short_reply, one_reply}
use Rattle.sysv_wire.proofs.ReplyLemmas.{HasModeAt, row_mode, stat_mode}
use Rattle.sysv_wire.proofs.RequestLemmas.{frame_whole}
use Rattle.sysv_wire.proofs.RequestAnswer.{has_version, version_known, version_unknown, at_least, not_at_least}
use Rattle.sysv_wire.proofs.RequestAnswer.{the_same, not_the_same, last_at, last_at_is, op_within}

data Verdict : Type 0 where
  Whole : Verdict
  End : Verdict
  Told : Fault → Verdict

fits_answer : Version → Op → ℕ → Bool
fits_answer v op.Hello n = eqb n (hello_len v)
fits_answer v op.Get n = eqb n 4
fits_answer v op.Snd n = eqb n 0
fits_answer v op.Rcv n = leb 8 n
fits_answer v op.Stat n = eqb n 66
fits_answer v op.Set n = eqb n 0
fits_answer v op.Rm n = eqb n 0
fits_answer v op.Row n = cond (eqb n 1) true (eqb n 23)
fits_answer v op.Hold n = leb 8 n
fits_answer v op.Done n = eqb n 0
fits_answer v op.Back n = eqb n 0

fits_rest : Version → Op → ℕ → ℕ → Bool
fits_rest v o e n = cond (eqb e 0) (fits_answer v o n) (eqb n 0)

one_of : (n : ℕ) → (n ≡ 1) ⊎ (n ≡ 23) → cond (eqb n 1) true (eqb n 23) ≡ true
one_of n h = grind (arith, nat_tests)

none_of : (n : ℕ) → ¬ ((n ≡ 1) ⊎ (n ≡ 23)) → cond (eqb n 1) true (eqb n 23) ≡ false
none_of n h =
    let a : n ≢ 1 = λ e. h (inl e) in
    let b : n ≢ 23 = λ e. h (inr e) in
    grind (arith, nat_tests)

answer_fits : (v : Version) (o : Op) (n : ℕ) → IsAnswerLength v o n → fits_answer v o n ≡ true
unfolding fits_answer
answer_fits v op.Hello n h = the_same n (hello_len v) h
answer_fits v op.Get n h = the_same n 4 h
answer_fits v op.Snd n h = the_same n 0 h
answer_fits v op.Rcv n h = at_least 8 n h
answer_fits v op.Stat n h = the_same n 66 h
answer_fits v op.Set n h = the_same n 0 h
answer_fits v op.Rm n h = the_same n 0 h
answer_fits v op.Row n h = one_of n h
answer_fits v op.Hold n h = at_least 8 n h
answer_fits v op.Done n h = the_same n 0 h
answer_fits v op.Back n h = the_same n 0 h

answer_fits_not : (v : Version) (o : Op) (n : ℕ) → ¬ IsAnswerLength v o n → fits_answer v o n ≡ false
unfolding fits_answer
answer_fits_not v op.Hello n h = not_the_same n (hello_len v) h
answer_fits_not v op.Get n h = not_the_same n 4 h
answer_fits_not v op.Snd n h = not_the_same n 0 h
answer_fits_not v op.Rcv n h = not_at_least 8 n h
answer_fits_not v op.Stat n h = not_the_same n 66 h
answer_fits_not v op.Set n h = not_the_same n 0 h
answer_fits_not v op.Rm n h = not_the_same n 0 h
answer_fits_not v op.Row n h = none_of n h
answer_fits_not v op.Hold n h = not_at_least 8 n h
answer_fits_not v op.Done n h = not_the_same n 0 h
answer_fits_not v op.Back n h = not_the_same n 0 h

rest_fits_by : (b : Bool) (v : Version) (o : Op) (n : ℕ) → MatchBool b (IsAnswerLength v o n) (n ≡ 0) →
    cond b (fits_answer v o n) (eqb n 0) ≡ true
rest_fits_by true v o n h = answer_fits v o n h
rest_fits_by false v o n h = the_same n 0 h

rest_fits_not_by : (b : Bool) (v : Version) (o : Op) (n : ℕ) → ¬ MatchBool b (IsAnswerLength v o n) (n ≡ 0) →
    cond b (fits_answer v o n) (eqb n 0) ≡ false
rest_fits_not_by true v o n h = answer_fits_not v o n h
rest_fits_not_by false v o n h = not_the_same n 0 h

-- Whether the operation with this number may have this length, in the version with this number.
rest_at : ℕ → ℕ → ℕ → ℕ → Bool
rest_at v o e n = fits_rest (version_at v) (op_at o) e n

rest_at_is : (v : Version) (o : Op) (e n : ℕ) → rest_at (version_number v) (op_number o) e n ≡ fits_rest v o e n
unfolding rest_at
rest_at_is v o e n =
    ap (λ x. fits_rest x (op_at (op_number o)) e n) (version_back v) ∙ ap (λ x. fits_rest v x e n) (op_back o)

rest_fits : (v : Version) (o : Op) (e n : ℕ) → IsRestLength v o e n →
    rest_at (version_number v) (op_number o) e n ≡ true
unfolding fits_rest
rest_fits v o e n h = rest_at_is v o e n ∙ rest_fits_by (eqb e 0) v o n h

rest_fits_not : (v : Version) (o : Op) (e n : ℕ) → ¬ IsRestLength v o e n →
    rest_at (version_number v) (op_number o) e n ≡ false
unfolding fits_rest
rest_fits_not v o e n h = rest_at_is v o e n ∙ rest_fits_not_by (eqb e 0) v o n h

-- A reply has a length that its operation may have with its error.
reply_fits : (v : Version) (m : ℕ) (a : ReplyContent) (text : List ℕ) → IsAnswer v m a → length text ≤ 8192 →
    fits_rest v (op_at m) (error_number a) (length (content_fields a ++ content_text a text)) ≡ true
unfolding fits_rest fits_answer stat_fields perm_fields count_fields time_fields row_fields u16_bytes u32_bytes
    u64_bytes i32_bytes i64_bytes
reply_fits v m (Refused e) text h k =
    ap (λ b. cond b (fits_answer v (op_at m) 0) true) (not_the_same (number_of e) 0 (some_error e))
reply_fits v m Hello text h k = ap (λ w. fits_rest w (op_at m) 0 0) h.0 ∙ ap (λ x. fits_rest One (op_at x) 0 0) h.1
reply_fits One m (HelloSlots i) text h k = absurd (h.0 refl)
reply_fits Two m (HelloSlots i) text h k = ap (λ x. fits_rest Two (op_at x) 0 4) h.1
reply_fits Three m (HelloSlots i) text h k = ap (λ x. fits_rest Three (op_at x) 0 4) h.1
reply_fits v m (Get i) text h k = ap (λ x. fits_rest v (op_at x) 0 4) h
reply_fits v m Snd text h k = ap (λ x. fits_rest v (op_at x) 0 0) h
reply_fits v m (Rcv t) text h k =
    let n = length (i64_bytes t ++ text) in
    ap (λ x. fits_rest v (op_at x) 0 n) h ∙ at_least 8 n (omega (arith, length-append (i64_bytes t) text))
reply_fits v m (Stat s) text h k = ap (λ x. fits_rest v (op_at x) 0 66) h.0
reply_fits v m Set text h k = ap (λ x. fits_rest v (op_at x) 0 0) h
reply_fits v m Rm text h k = ap (λ x. fits_rest v (op_at x) 0 0) h
reply_fits v m (Row None) text h k = ap (λ x. fits_rest v (op_at x) 0 1) h
reply_fits v m (Row (Some r)) text h k = ap (λ x. fits_rest v (op_at x) 0 23) h.0
reply_fits v m (Hold t) text h k =
    let n = length (i64_bytes t ++ text) in
    ap (λ x. fits_rest v (op_at x) 0 n) h ∙ at_least 8 n (omega (arith, length-append (i64_bytes t) text))
reply_fits v m Done text h k = ap (λ x. fits_rest v (op_at x) 0 0) h
reply_fits v m Back text h k = ap (λ x. fits_rest v (op_at x) 0 0) h

reply_small : (a : ReplyContent) (text : List ℕ) → length text ≤ 8192 →
    length (content_fields a ++ content_text a text) ≤ 8200
unfolding stat_fields perm_fields count_fields time_fields row_fields u16_bytes u32_bytes u64_bytes i32_bytes i64_bytes
reply_small (Rcv t) text k = omega (arith, k)
reply_small (Hold t) text k = omega (arith, k)
reply_small (HelloSlots i) text k = omega arith
reply_small (Row None) text k = omega arith
reply_small (Row (Some r)) text k = omega arith
reply_small a text k = omega arith

whole_fits : (r : Reply) (text : List ℕ) (n : ℕ) → n ≡ length (content_fields r.result ++ content_text r.result text)
    → FitsReply r text
    → rest_at (version_number r.version) r.op (error_number r.result) n ≡ true
unfolding rest_at
whole_fits r text n left h =
    ap (λ w. fits_rest w (op_at r.op) (error_number r.result) n) (version_back r.version)
    ∙ ap (fits_rest r.version (op_at r.op) (error_number r.result)) left
    ∙ reply_fits r.version r.op r.result text h.0 h.2

-- ---- fields that no reply has

mode_same : (place : ℕ) (fields : List ℕ) (m n : ℕ) → HasModeAt place fields m → HasModeAt place fields n → m < 2 ^ 16 →
    n < 2 ^ 16 → m ≡ n
mode_same place fields m n h k p q =
    let both : h.0 ++ (u16_bytes m ++ h.1) ≡ k.0 ++ (u16_bytes n ++ k.1) = sym h.2 ∙ k.2 in
    (u16_step m n h.1 k.1 p q (rests_alike h.0 k.0 _ _ (h.3 ∙ sym k.3) both)).0

wide_not : (place : ℕ) (fields : List ℕ) (mode : ℕ) → HasModeAt place fields mode → mode ≤ 511 → mode < 2 ^ 16 →
    IsWideAt place fields → ⊥
wide_not place fields mode h low fits wide =
    let same = mode_same place fields mode wide.1 h (wide.0, wide.2, wide.3, wide.4) fits wide.6 in
    let high = wide.5 in
    omega (arith, same, high)

mark_not : (row : Line) → IsBadMark (1 ∷ (row_fields row ++ [])) → ⊥
unfolding row_fields i32_bytes
mark_not row bad = bad refl

short_not : IsWideAt 13 (0 ∷ []) → ⊥
short_not wide =
    let all = ap length wide.3 in
    let len = wide.4 in
    omega (arith, all, len, length-append wide.0 (u16_bytes wide.1 ++ wide.2))

bad_not : (v : Version) (o : Op) (a : ReplyContent) (text bytes : List ℕ) → IsAnswer v (op_number o) a → FitsContent a →
    error_number a ≡ 0 → bytes ≡ content_fields a ++ content_text a text → IsBadAnswer o bytes → ⊥
bad_not v op.Hello a text bytes h fits err same bad = bad
bad_not v op.Get a text bytes h fits err same bad = bad
bad_not v op.Snd a text bytes h fits err same bad = bad
bad_not v op.Rcv a text bytes h fits err same bad = bad
bad_not v op.Set a text bytes h fits err same bad = bad
bad_not v op.Rm a text bytes h fits err same bad = bad
bad_not v op.Hold a text bytes h fits err same bad = bad
bad_not v op.Done a text bytes h fits err same bad = bad
bad_not v op.Back a text bytes h fits err same bad = bad
bad_not v op.Stat (Stat s) text bytes h fits err same bad =
    wide_not 20 bytes s.perm.mode (stat_mode s bytes (same ∙ append-nil (stat_fields s))) h.1 fits.perm.mode bad
bad_not v op.Stat (Refused e) text bytes h fits err same bad = some_error e err
bad_not v op.Stat (Row r) text bytes h fits err same bad = absurd (omega (arith, row_number v 4 r h))
bad_not v op.Stat a text bytes h fits err same bad = absurd (omega (arith, h))
bad_not v op.Row (Refused e) text bytes h fits err same bad = some_error e err
bad_not v op.Row (Row None) text bytes h fits err same (inl mark) = subst IsBadMark same mark refl
bad_not v op.Row (Row None) text bytes h fits err same (inr wide) = short_not (subst (IsWideAt 13) same wide)
bad_not v op.Row (Row (Some r)) text bytes h fits err same (inl mark) = mark_not r (subst IsBadMark same mark)
bad_not v op.Row (Row (Some r)) text bytes h fits err same (inr wide) =
    wide_not 13 (1 ∷ (row_fields r ++ [])) r.mode (row_mode r 1 (row_fields r ++ []) (append-nil (row_fields r))) h.1
    fits.mode (subst (IsWideAt 13) same wide)
bad_not v op.Row a text bytes h fits err same bad = absurd (omega (arith, h))

no_error_not : (a : ReplyContent) (e : ℕ) → e ≡ error_number a → IsNoError e → ⊥
no_error_not (Refused f) e same h = h.1 f (sym same)
no_error_not a e same h = h.0 same

late_case : (v : Version) (o : Op) (e : ℕ) (a : ReplyContent) (text bytes : List ℕ) → IsAnswer v (op_number o) a
    → FitsContent a → e ≡ error_number a → bytes ≡ content_fields a ++ content_text a text
    → IsNoError e ⊎ ((e ≡ 0) × IsBadAnswer o bytes) → ⊥
late_case v o e a text bytes h fits errors fields (inl unknown) = no_error_not a e errors unknown
late_case v o e a text bytes h fits errors fields (inr bad) =
    bad_not v o a text bytes h fits (sym errors ∙ bad.0) fields bad.1

-- ---- the results

code : Result (Option Reply) Fault → Verdict
code (Ok (Some r)) = Whole
code (Ok None) = End
code (Err f) = Told f

-- What follows a length, a version, an operation and an error.
behind_head : (n v o x : ℕ) (taken rest : List ℕ) → taken ≡ u32_bytes n ++ (v ∷ o ∷ x ∷ []) →
    taken ++ rest ≡ u32_bytes n ++ (v ∷ o ∷ x ∷ rest)
behind_head n v o x taken rest e = ap (λ l. l ++ rest) e ∙ append_assoc (u32_bytes n) (v ∷ o ∷ x ∷ []) rest

abbrev refused : Fault → Result (Option Reply) Fault
refused f = Err f

-- The results of a reader with this newest version.
module _ (newest : Version) where
  verdict_of : ℕ → ℕ → ℕ → ℕ → ℕ → Verdict
  verdict_of len n v o e =
      cond (eqb len 0) End
      (cond (ltb len 4) (Told Truncated)
      (cond (ltb 8203 n) (Told TooLong) (cond (ltb n 3) (Told BadField) (cond (ltb len 7) (Told Truncated)
      (cond (has_version newest v)
      (cond (ltb (last_at v) o) (Told BadOp)
      (cond (rest_at v o e (n - 3)) (cond (ltb len (4 + n)) (Told Truncated) Whole) (Told BadField)))
      (Told BadField))))))

  v_part : (len n v o e : ℕ) → 0 < len → len < 4 → verdict_of len n v o e ≡ Told Truncated
  unfolding verdict_of
  v_part len n v o e a b = grind (arith, nat_tests)

  v_long : (len n v o e : ℕ) → 4 ≤ len → 8203 < n → verdict_of len n v o e ≡ Told TooLong
  unfolding verdict_of
  v_long len n v o e a b = grind (arith, nat_tests)

  v_short : (len n v o e : ℕ) → 4 ≤ len → n < 3 → verdict_of len n v o e ≡ Told BadField
  unfolding verdict_of
  v_short len n v o e a b = grind (arith, nat_tests)

  v_head : (len n v o e : ℕ) → 4 ≤ len → 3 ≤ n → n ≤ 8203 → len < 7 → verdict_of len n v o e ≡ Told Truncated
  unfolding verdict_of
  v_head len n v o e a b c d = grind (arith, nat_tests)

  v_version : (len n v o e : ℕ) → 7 ≤ len → 3 ≤ n → n ≤ 8203 → has_version newest v ≡ false →
      verdict_of len n v o e ≡ Told BadField
  unfolding verdict_of
  v_version len n v o e a b c d = grind (arith, nat_tests)

  v_op : (len n v o e : ℕ) → 7 ≤ len → 3 ≤ n → n ≤ 8203 → has_version newest v ≡ true → last_at v < o →
      verdict_of len n v o e ≡ Told BadOp
  unfolding verdict_of
  v_op len n v o e a b c d f = grind (arith, nat_tests)

  v_length : (len n v o e : ℕ) → 7 ≤ len → 3 ≤ n → n ≤ 8203 → has_version newest v ≡ true → o ≤ last_at v →
      rest_at v o e (n - 3) ≡ false → verdict_of len n v o e ≡ Told BadField
  unfolding verdict_of
  v_length len n v o e a b c d f g = grind (arith, nat_tests)

  v_rest : (len n v o e : ℕ) → 7 ≤ len → 3 ≤ n → n ≤ 8203 → has_version newest v ≡ true → o ≤ last_at v →
      rest_at v o e (n - 3) ≡ true →
      len < 4 + n → verdict_of len n v o e ≡ Told Truncated
  unfolding verdict_of
  v_rest len n v o e a b c d f g h = grind (arith, nat_tests)

  v_whole : (len n v o e : ℕ) → 7 ≤ len → 3 ≤ n → n ≤ 8203 → has_version newest v ≡ true → o ≤ last_at v →
      rest_at v o e (n - 3) ≡ true →
      4 + n ≤ len → verdict_of len n v o e ≡ Whole
  unfolding verdict_of
  v_whole len n v o e a b c d f g h = grind (arith, nat_tests)

  verdict : List ℕ → Verdict
  verdict input = verdict_of (length input) (from_be_bytes w32 (take 4 input)) (get_or input 4 0) (get_or input 5 0)
      (get_or input 6 0)

  verdict_head : (n : ℕ) (rest : List ℕ) → n < 2 ^ 32 →
      verdict (u32_bytes n ++ rest)
      ≡ verdict_of (4 + length rest) n (get_or rest 0 0) (get_or rest 1 0) (get_or rest 2 0)
  unfolding verdict u32_bytes
  verdict_head n rest small =
      let number : from_be_bytes w32 (take 4 (u32_bytes n ++ rest)) ≡ n =
      ap (from_be_bytes w32) (take_at (u32_bytes n) rest 4 refl) ∙ from_be_bytes-to_be_bytes_4 n small in
      let len : length (u32_bytes n ++ rest) ≡ 4 + length rest = length-append (u32_bytes n) rest in
      ap (λ m. verdict_of (length (u32_bytes n ++ rest)) m (get_or rest 0 0) (get_or rest 1 0) (get_or rest 2 0)) number
      ∙ ap (λ l. verdict_of l n (get_or rest 0 0) (get_or rest 1 0) (get_or rest 2 0)) len

  verdict_op : (n v o e : ℕ) (rest : List ℕ) → n ≤ 8203 →
      verdict (u32_bytes n ++ (v ∷ o ∷ e ∷ rest)) ≡ verdict_of (7 + length rest) n v o e
  verdict_op n v o e rest most =
      let len : 4 + length (v ∷ o ∷ e ∷ rest) ≡ 7 + length rest = omega arith in
      verdict_head n (v ∷ o ∷ e ∷ rest) (omega arith) ∙ ap (λ l. verdict_of l n v o e) len

  whole_verdict : (r : Reply) (text rest : List ℕ) → FitsReply r text → IsUpTo newest r.version →
      verdict (reply_encoding r text ++ rest) ≡ Whole
  unfolding frame
  whole_verdict r text rest h known =
      let v = version_number r.version in
      let e = error_number r.result in
      let behind = content_fields r.result ++ content_text r.result text in
      let n = 3 + length behind in
      let len : length (v ∷ r.op ∷ e ∷ behind) ≡ n = omega arith in
      let most : n ≤ 8203 = omega (arith, reply_small r.result text h.2) in
      let left : n - 3 ≡ length behind = omega arith in
      let parts : reply_encoding r text ++ rest ≡ u32_bytes n ++ (v ∷ r.op ∷ e ∷ (behind ++ rest)) =
      append_assoc (u32_bytes (length (v ∷ r.op ∷ e ∷ behind))) (v ∷ r.op ∷ e ∷ behind) rest
      ∙ ap (λ m. u32_bytes m ++ (v ∷ r.op ∷ e ∷ (behind ++ rest))) len in
      ap verdict parts ∙ verdict_op n v r.op e (behind ++ rest) most
      ∙ v_whole (7 + length (behind ++ rest)) n v r.op e (omega arith) (omega arith) most
      (version_known newest r.version v refl known)
      (omega (arith, h.3, last_at_is r.version v refl))
      (whole_fits r text (n - 3) left h) (omega (arith, length-append behind rest))

  late_not : (r : Reply) (text rest taken behind : List ℕ) → FitsReply r text → IsReplyRest newest BadField taken →
      taken ++ behind ≡ reply_encoding r text ++ rest → ⊥
  late_not r text rest taken behind fits (n, v, o, e, bytes, low, high, wanted, why, encoded, known) both =
      let len : n ≡ length (version_number v ∷ op_number o ∷ e ∷ bytes) = omega (arith, why.0) in
      let whole : taken ≡ frame (version_number v ∷ op_number o ∷ e ∷ bytes) =
      encoded ∙ frame_whole n (version_number v ∷ op_number o ∷ e ∷ bytes) len in
      let f = frames_alike (version_number v ∷ op_number o ∷ e ∷ bytes)
      (version_number r.version ∷ r.op ∷ error_number r.result
      ∷ (content_fields r.result ++ content_text r.result text))
      behind rest
      (omega (arith, len, high)) (short_reply r.version r.op r.result text fits.2)
      (sym (ap (λ l. l ++ behind) whole) ∙ both) in
      let ops : op_number o ≡ r.op = cc (f.0) in
      let errors : e ≡ error_number r.result = cc (f.0) in
      let fields : bytes ≡ content_fields r.result ++ content_text r.result text = cc (f.0) in
      late_case r.version o e r.result text bytes (subst (λ (x : ℕ). IsAnswer r.version x r.result) (sym ops) fits.0)
      fits.1 errors fields why.1

  broken_verdict : (input : List ℕ) → ReplyFault newest Truncated input → verdict input ≡ Told Truncated
  unfolding verdict
  broken_verdict input (inl (inl h)) = v_part (length input) _ _ _ _ h.0 h.1
  broken_verdict input (inl (inr h)) =
      let n = h.0 in
      let part = h.1 in
      ap verdict h.5 ∙ verdict_head n part (omega (arith, h.3))
      ∙ v_head (4 + length part) n (get_or part 0 0) (get_or part 1 0) (get_or part 2 0) (omega arith) h.2 h.3
      (omega (arith, h.4))
  broken_verdict input (inr (n, v, o, e, part, low, high, wanted, why, encoded, known)) =
      ap verdict encoded ∙ verdict_op n (version_number v) (op_number o) e part high
      ∙ v_rest (7 + length part) n (version_number v) (op_number o) e (omega arith) low high
      (version_known newest v (version_number v) refl known.0)
      (op_within v (version_number v) o refl known.1) (rest_fits v o e (n - 3) wanted) (omega (arith, why))

  long_verdict : (input taken rest : List ℕ) → ReplyFault newest TooLong taken → input ≡ taken ++ rest →
      verdict input ≡ Told TooLong
  long_verdict input taken rest h e =
      let n = h.0 in
      ap verdict (e ∙ ap (λ l. l ++ rest) h.3) ∙ verdict_head n rest h.1
      ∙ v_long (4 + length rest) n (get_or rest 0 0) (get_or rest 1 0) (get_or rest 2 0) (omega arith) h.2

  op_verdict : (input taken rest : List ℕ) → ReplyFault newest BadOp taken → input ≡ taken ++ rest →
      verdict input ≡ Told BadOp
  op_verdict input taken rest (n, v, o, x, head, (version, is, known, why)) e =
      ap verdict (e ∙ behind_head n v o x taken rest head.2) ∙ verdict_op n v o x rest head.1
      ∙ v_op (7 + length rest) n v o x (omega arith) head.0 head.1 (version_known newest version v is known)
      (omega (arith, why, last_at_is version v is))

  -- All of a reply is in the input, and its fields have no meaning.
  record Late (input : List ℕ) : Type 0 where
    taken : List ℕ
    rest : List ℕ
    why : IsReplyRest newest BadField taken
    parts : input ≡ taken ++ rest
    told : verdict input ≡ Whole

  late_verdict : (input taken rest : List ℕ) → IsReplyRest newest BadField taken → input ≡ taken ++ rest →
      verdict input ≡ Whole
  late_verdict input taken rest (n, v, o, x, bytes, low, high, wanted, why, encoded, known) e =
      let parts : taken ++ rest ≡ u32_bytes n ++ (version_number v ∷ op_number o ∷ x ∷ (bytes ++ rest)) =
      ap (λ l. l ++ rest) encoded ∙ append_assoc (u32_bytes n) (version_number v ∷ op_number o ∷ x ∷ bytes) rest in
      ap verdict (e ∙ parts) ∙ verdict_op n (version_number v) (op_number o) x (bytes ++ rest) high
      ∙ v_whole (7 + length (bytes ++ rest)) n (version_number v) (op_number o) x (omega arith) low high
      (version_known newest v (version_number v) refl known.0)
      (op_within v (version_number v) o refl known.1) (rest_fits v o x (n - 3) wanted)
      (omega (arith, why.0, length-append bytes rest))

  field_verdict : (input taken rest : List ℕ) → ReplyFault newest BadField taken → input ≡ taken ++ rest →
      (verdict input ≡ Told BadField) ⊎ Late input
  field_verdict input taken rest (inl (inl h)) e =
      let n = h.0 in
      inl (ap verdict (e ∙ ap (λ l. l ++ rest) h.3) ∙ verdict_head n rest h.1
      ∙ v_short (4 + length rest) n (get_or rest 0 0) (get_or rest 1 0) (get_or rest 2 0) (omega arith) h.2)
  field_verdict input taken rest (inl (inr (n, v, o, x, head, inl other))) e =
      inl (ap verdict (e ∙ behind_head n v o x taken rest head.2) ∙ verdict_op n v o x rest head.1
      ∙ v_version (7 + length rest) n v o x (omega arith) head.0 head.1 (version_unknown newest v other))
  field_verdict input taken rest (inl (inr (n, v, o, x, head, inr (w, same, (named, number, wrong, known))))) e =
      inl (ap verdict (e ∙ behind_head n v o x taken rest head.2) ∙ verdict_op n v o x rest head.1
      ∙ v_length (7 + length rest) n v o x (omega arith) head.0 head.1 (version_known newest w v same known.0)
      (omega (arith, number, op_within w v named same known.1))
      (ap (λ y. rest_at y o x (n - 3)) (sym same) ∙ ap (λ y. rest_at (version_number w) y x (n - 3)) (sym number)
      ∙ rest_fits_not w named x (n - 3) wrong))
  field_verdict input taken rest (inr late) e =
      inr (record { taken = taken; rest = rest; why = late; parts = e; told = late_verdict input taken rest late e })

  -- If fields have no meaning, no other result fits.
  bad_alone : (input : List ℕ) (b : Result (Option Reply) Fault) → (verdict input ≡ Told BadField) ⊎ Late input →
      ReplyAt newest input b → b ≡ Err BadField
  unfolding verdict verdict_of
  bad_alone input (Ok (Some r)) (inl e) k =
      let x : Whole ≡ Told BadField = sym (ap verdict k.3 ∙ whole_verdict r k.0 k.1 k.2 k.4) ∙ e in absurd cc
  bad_alone input (Ok (Some r)) (inr late) k =
      absurd (late_not r k.0 k.1 late.taken late.rest k.2 late.why (sym late.parts ∙ k.3))
  bad_alone input (Ok None) (inl e) k = let x : End ≡ Told BadField = sym (ap verdict k) ∙ e in absurd cc
  bad_alone input (Ok None) (inr late) k = let x : End ≡ Whole = sym (ap verdict k) ∙ late.told in absurd cc
  bad_alone input (Err BadField) h k = refl
  bad_alone input (Err Truncated) (inl e) k =
      let x : Told Truncated ≡ Told BadField = sym (broken_verdict input k) ∙ e in absurd cc
  bad_alone input (Err Truncated) (inr late) k =
      let x : Told Truncated ≡ Whole = sym (broken_verdict input k) ∙ late.told in absurd cc
  bad_alone input (Err TooLong) (inl e) k =
      let x : Told TooLong ≡ Told BadField = sym (long_verdict input k.0 k.1 k.2 k.3) ∙ e in absurd cc
  bad_alone input (Err TooLong) (inr late) k =
      let x : Told TooLong ≡ Whole = sym (long_verdict input k.0 k.1 k.2 k.3) ∙ late.told in absurd cc
  bad_alone input (Err BadOp) (inl e) k =
      let x : Told BadOp ≡ Told BadField = sym (op_verdict input k.0 k.1 k.2 k.3) ∙ e in absurd cc
  bad_alone input (Err BadOp) (inr late) k =
      let x : Told BadOp ≡ Whole = sym (op_verdict input k.0 k.1 k.2 k.3) ∙ late.told in absurd cc
  bad_alone input (Err Read) h k = absurd k

  -- The five numbers determine the result, except for a field without meaning.
  answer_verdict : (input : List ℕ) (a : Result (Option Reply) Fault) → ReplyAt newest input a →
      (verdict input ≡ code a) ⊎ (a ≡ Err BadField)
  unfolding verdict verdict_of code
  answer_verdict input (Ok (Some r)) h = inl (ap verdict h.3 ∙ whole_verdict r h.0 h.1 h.2 h.4)
  answer_verdict input (Ok None) h = inl (ap verdict h)
  answer_verdict input (Err Truncated) h = inl (broken_verdict input h)
  answer_verdict input (Err TooLong) h = inl (long_verdict input h.0 h.1 h.2 h.3)
  answer_verdict input (Err BadOp) h = inl (op_verdict input h.0 h.1 h.2 h.3)
  answer_verdict input (Err BadField) h = inr refl
  answer_verdict input (Err Read) h = absurd h

  same_code : (input : List ℕ) (a b : Result (Option Reply) Fault) → ReplyAt newest input a → ReplyAt newest input b →
      code a ≡ code b →
      a ≡ b
  unfolding code
  same_code input (Ok (Some r)) (Ok (Some s)) h k e =
      ap (λ x. Ok (Some x)) (one_reply r s h.0 k.0 h.1 k.1 h.2 k.2 (sym h.3 ∙ k.3)).0
  same_code input (Ok None) (Ok None) h k e = refl
  same_code input (Err f) (Err g) h k e = let faults : f ≡ g = cc (e) in ap refused faults
  same_code input (Ok (Some r)) (Ok None) h k e = absurd cc
  same_code input (Ok (Some r)) (Err g) h k e = absurd cc
  same_code input (Ok None) (Ok (Some s)) h k e = absurd cc
  same_code input (Ok None) (Err g) h k e = absurd cc
  same_code input (Err f) (Ok (Some s)) h k e = absurd cc
  same_code input (Err f) (Ok None) h k e = absurd cc

  -- A bad field is determined by the numbers, or is a field of a whole reply.
  bad_of : (input : List ℕ) → ReplyAt newest input (Err BadField) → (verdict input ≡ Told BadField) ⊎ Late input
  bad_of input h = field_verdict input h.0 h.1 h.2 h.3

  same_answer : (input : List ℕ) (a b : Result (Option Reply) Fault) → ReplyAt newest input a → ReplyAt newest input b →
      (verdict input ≡ code a) ⊎ (a ≡ Err BadField) → (verdict input ≡ code b) ⊎ (b ≡ Err BadField) → a ≡ b
  same_answer input a b h k (inl e) (inl f) = same_code input a b h k (sym e ∙ f)
  same_answer input a b h k (inr e) v = e ∙ sym (bad_alone input b (bad_of input (subst (ReplyAt newest input) e h)) k)
  same_answer input a b h k u (inr f) = bad_alone input a (bad_of input (subst (ReplyAt newest input) f k)) h ∙ sym f

  pub one_answer : OneAnswerToReplies newest
  one_answer input a b h k = same_answer input a b h k (answer_verdict input a h) (answer_verdict input b k)

  -- What was read fits the input, or the reader failed.
  pub reply_only : (input : List ℕ) (new : Option (List ℕ)) (result answer : Result (Option Reply) Fault)
      (text : List ℕ)
      → ReadsReply newest (Some input) new result text → ReplyAt newest input answer
      → (result ≡ answer) ⊎ (result ≡ Err Read)
  reply_only input None (Ok (Some r)) answer text h k = absurd h.0
  reply_only input None (Ok None) answer text h k = absurd h.0
  reply_only input None (Err f) answer text h k = absurd h.1
  reply_only input (Some rest) (Ok (Some r)) answer text h k =
      inl (one_answer input (Ok (Some r)) answer (text, rest, h.1, h.0, h.3) k)
  reply_only input (Some rest) (Ok None) answer text h k = inl (one_answer input (Ok None) answer (h.0 ∙ h.1) k)
  reply_only input (Some rest) (Err Truncated) answer text h k =
      inl (one_answer input (Err Truncated) answer
      (subst (ReplyFault newest Truncated) (sym (h.1 ∙ ap (λ l. h.0 ++ l) h.3 ∙ append-nil h.0)) h.2) k)
  reply_only input (Some rest) (Err TooLong) answer text h k =
      inl (one_answer input (Err TooLong) answer (h.0, rest, h.2, h.1) k)
  reply_only input (Some rest) (Err BadOp) answer text h k =
      inl (one_answer input (Err BadOp) answer (h.0, rest, h.2, h.1) k)
  reply_only input (Some rest) (Err BadField) answer text h k =
      inl (one_answer input (Err BadField) answer (h.0, rest, h.2, h.1) k)
  reply_only input (Some rest) (Err Read) answer text h k = inr refl
