-- What bytes that have arrived hold is one thing, and stays the same if bytes follow.
use Rattle.std.proofs.Common.{◌≡◌, ◌⊎◌, ℕ, ◌+◌, ◌<◌, ◌≤◌, List, [], ◌∷◌, ◌++◌, length, get_or, take, drop}
use Rattle.std.proofs.Common.{Option, None, Some, Result, Ok, Err, refl, sym, subst, ap, ◌∙◌, append_assoc, append-nil}
use Rattle.std.proofs.Common.{arith, length-append, length-drop, inl, inr}
use Rattle.std.proofs.lemmas.List.{take-append-drop, length-take-le, take-append-le, take_all}
use Rattle.sysv_wire.specs.declared.fault.Fault.{Fault}
use Rattle.sysv_wire.specs.declared.fault.Fault.TheVariants.{Truncated, TooLong, BadOp, BadField, Read}
use Rattle.sysv_wire.specs.declared.frame.TheConstants.{MIN_REQUEST, MAX_REQUEST}
use Rattle.sysv_wire.specs.declared.arrived.FrameIn.{FrameIn}
use Rattle.sysv_wire.specs.declared.arrived.FrameIn.TheVariants.{Whole, Refused, More}
use Rattle.sysv_wire.specs.declared.frame.Version.{Version}
use Rattle.sysv_wire.specs.declared.request.Request.{Request}
use Rattle.sysv_wire.specs.Arrived.{EndsWithin, FrameAlone, FrameAt, FrameStays, FrameTaken, HoldsFault}
use Rattle.sysv_wire.specs.Arrived.{HoldsRequest, OneFrame, ReadsAs}
use Rattle.sysv_wire.specs.Faults.{OpFault, RequestFault}
use Rattle.sysv_wire.specs.Frames.{op_number, version_number}
use Rattle.sysv_wire.specs.Numbers.{u32_bytes}
use Rattle.sysv_wire.specs.OneAnswer.{RequestAt}
use Rattle.sysv_wire.proofs.Apart.{u32_step}
use Rattle.sysv_wire.proofs.OneRequest.{one_request}
use Rattle.sysv_wire.proofs.RequestAnswer.{one_answer}
use Rattle.sysv_wire.proofs.WholeRequest.{pair_then}

abbrev found : Request → Result (Option Request) Fault
found r = Ok (Some r)

abbrev nothing : Result (Option Request) Fault
nothing = Ok None

abbrev refused : Fault → Result (Option Request) Fault
refused f = Err f

-- The bytes of a whole frame, and those after it.
whole_parts : (n : ℕ) (bytes encoding : List ℕ) → take n bytes ≡ encoding → bytes ≡ encoding ++ drop n bytes
whole_parts n bytes encoding e = sym (take-append-drop n bytes) ∙ ap (λ l. l ++ drop n bytes) e

later : (bytes taken behind rest : List ℕ) → bytes ≡ taken ++ behind → bytes ++ rest ≡ taken ++ (behind ++ rest)
later bytes taken behind rest e = ap (λ l. l ++ rest) e ∙ append_assoc taken behind rest

-- The bytes after a length field.
length_behind : (n : ℕ) (bytes behind : List ℕ) → bytes ≡ u32_bytes n ++ behind → length bytes ≡ 4 + length behind
unfolding u32_bytes
length_behind n bytes behind e = ap length e ∙ length-append (u32_bytes n) behind

-- The number of bytes up to the end of what ends alike.
same_behind : (n m : ℕ) (bytes : List ℕ) → n ≤ length bytes → m ≤ length bytes → drop n bytes ≡ drop m bytes → n ≡ m
same_behind n m bytes a b e =
    let len = ap length e in omega (arith, a, b, len, length-drop n bytes, length-drop m bytes)

head_parts : (n v o : ℕ) (bytes behind : List ℕ) → bytes ≡ u32_bytes n ++ behind → 2 ≤ length behind
    → v ≡ get_or behind 0 0 → o ≡ get_or behind 1 0 → bytes ≡ (u32_bytes n ++ v ∷ o ∷ []) ++ drop 2 behind
head_parts n v o bytes behind e two first second =
    e ∙ ap (λ l. u32_bytes n ++ l) (pair_then behind two)
    ∙ ap (λ x. u32_bytes n ++ (x ∷ get_or behind 1 0 ∷ drop 2 behind)) (sym first)
    ∙ ap (λ x. u32_bytes n ++ (v ∷ x ∷ drop 2 behind)) (sym second)
    ∙ sym (append_assoc (u32_bytes n) (v ∷ o ∷ []) (drop 2 behind))

-- What bytes hold for a reader with this newest version.
module _ (newest : Version) where
  whole_answer : (n : ℕ) (bytes : List ℕ) (h : HoldsRequest newest n bytes) → RequestAt newest bytes (found h.1.0)
  whole_answer n bytes h = (h.1.1, drop n bytes, h.1.2, whole_parts n bytes _ h.1.3, h.1.4)

  fault_answer : (fault : Fault) (bytes : List ℕ) → HoldsFault newest fault bytes →
      RequestAt newest bytes (refused fault)
  fault_answer Truncated bytes h = absurd h
  fault_answer TooLong bytes h = h
  fault_answer BadOp bytes h = h
  fault_answer BadField bytes h = h
  fault_answer Read bytes h = absurd h

  part_length : (bytes : List ℕ) → length bytes < 4 →
      RequestAt newest bytes nothing ⊎ RequestAt newest bytes (refused Truncated)
  part_length [] short = inl refl
  part_length (b ∷ bytes) short = inr (inl (inl (omega arith, short)))

  part_answer : (n : ℕ) (bytes : List ℕ) → EndsWithin newest n bytes →
      RequestAt newest bytes nothing ⊎ RequestAt newest bytes (refused Truncated)
  part_answer n bytes (inl h) = part_length bytes h.0
  part_answer n bytes (inr (inl h)) = inr (inl (inr h.0))
  part_answer n bytes (inr (inr h)) = inr (inr h.0)

  -- ---- bytes that follow

  whole_stays : (n : ℕ) (bytes rest : List ℕ) → HoldsRequest newest n bytes → HoldsRequest newest n (bytes ++ rest)
  whole_stays n bytes rest h = (
    omega (arith, h.0, length-append bytes rest),
    (h.1.0, h.1.1, h.1.2, take-append-le n bytes rest h.0 ∙ h.1.3, h.1.4),
  )

  fault_stays : (fault : Fault) (bytes rest : List ℕ) → HoldsFault newest fault bytes →
      HoldsFault newest fault (bytes ++ rest)
  fault_stays Truncated bytes rest h = absurd h
  fault_stays TooLong bytes rest h = (h.0, h.1 ++ rest, h.2, later bytes h.0 h.1 rest h.3)
  fault_stays BadOp bytes rest h = (h.0, h.1 ++ rest, h.2, later bytes h.0 h.1 rest h.3)
  fault_stays BadField bytes rest h = (h.0, h.1 ++ rest, h.2, later bytes h.0 h.1 rest h.3)
  fault_stays Read bytes rest h = absurd h

  part_stays : (n : ℕ) (bytes rest : List ℕ) → EndsWithin newest n bytes → length (bytes ++ rest) < n
      → EndsWithin newest n (bytes ++ rest)
  part_stays n bytes rest (inl h) short = inl (omega (arith, h.1, short), h.1)
  part_stays n bytes rest (inr (inl h)) short =
      let later = later bytes (u32_bytes h.0.0) h.0.1 rest h.0.5 in
      let len = length_behind h.0.0 (bytes ++ rest) (h.0.1 ++ rest) later in
      inr (inl ((h.0.0, h.0.1 ++ rest, h.0.2, h.0.3, omega (arith, len, h.1, short), later), h.1))
  part_stays n bytes rest (inr (inr ((m, v, o, part, most, wanted, within, e, known), is))) short =
      let later = later bytes (u32_bytes m) (version_number v ∷ op_number o ∷ part) rest e in
      let len = length_behind m (bytes ++ rest) (version_number v ∷ op_number o ∷ (part ++ rest)) later in
      inr (inr ((m, v, o, part ++ rest, most, wanted, omega (arith, len, is, short), later, known), is))

  pub frame_stays : FrameStays newest
  frame_stays bytes rest (Whole n) h settled = whole_stays n bytes rest h
  frame_stays bytes rest (Refused fault) h settled = fault_stays fault bytes rest h
  frame_stays bytes rest (More least) h settled = part_stays least bytes rest h settled

  pub frame_alone : FrameAlone newest
  frame_alone bytes n h =
      let len = length-take-le n bytes h.0 in
      (omega (arith, len), (h.1.0, h.1.1, h.1.2, take_all n (take n bytes) (omega (arith, len)) ∙ h.1.3, h.1.4))

  pub frame_reads : (bytes : List ℕ) (is : FrameIn) → FrameAt newest bytes is → ReadsAs newest bytes is
  unfolding frame_alone whole_stays
  frame_reads bytes (Whole n) h = (
    h.1.0,
    whole_answer n (take n bytes) (frame_alone bytes n h),
    λ rest. whole_answer n (bytes ++ rest) (whole_stays n bytes rest h),
  )
  frame_reads bytes (Refused fault) h = λ rest. fault_answer fault (bytes ++ rest) (fault_stays fault bytes rest h)
  frame_reads bytes (More least) h = part_answer least bytes h

  -- ---- one at most

  same_whole : (n m : ℕ) (bytes : List ℕ) → HoldsRequest newest n bytes → HoldsRequest newest m bytes → n ≡ m
  same_whole n m bytes h k =
      same_behind n m bytes h.0 k.0
      (one_request h.1.0 k.1.0 h.1.1 k.1.1 (drop n bytes) (drop m bytes) h.1.2 k.1.2
      (sym (whole_parts n bytes _ h.1.3) ∙ whole_parts m bytes _ k.1.3)).2

  same_part : (n m : ℕ) (bytes : List ℕ) → EndsWithin newest n bytes → EndsWithin newest m bytes → n ≡ m
  same_part n m bytes (inl h) (inl k) = h.1 ∙ sym k.1
  same_part n m bytes (inl h) (inr (inl k)) =
      absurd (omega (arith, h.0, length_behind k.0.0 bytes k.0.1 k.0.5))
  same_part n m bytes (inl h) (inr (inr k)) = absurd (omega (arith, h.0, length_behind k.0.0 bytes _ k.0.7))
  same_part n m bytes (inr (inl h)) (inl k) =
      absurd (omega (arith, k.0, length_behind h.0.0 bytes h.0.1 h.0.5))
  same_part n m bytes (inr (inl h)) (inr (inl k)) = h.1 ∙ sym k.1
  same_part n m bytes (inr (inl h)) (inr (inr k)) =
      absurd (omega (arith, h.0.4, length_behind h.0.0 bytes h.0.1 h.0.5, length_behind k.0.0 bytes _ k.0.7))
  same_part n m bytes (inr (inr h)) (inl k) = absurd (omega (arith, k.0, length_behind h.0.0 bytes _ h.0.7))
  same_part n m bytes (inr (inr h)) (inr (inl k)) =
      absurd (omega (arith, k.0.4, length_behind k.0.0 bytes k.0.1 k.0.5, length_behind h.0.0 bytes _ h.0.7))
  same_part n m bytes (inr (inr h)) (inr (inr k)) =
      let same = u32_step h.0.0 k.0.0 _ _ (omega (arith, h.0.4)) (omega (arith, k.0.4)) (sym h.0.7 ∙ k.0.7) in
      h.1 ∙ ap (λ x. 4 + x) same.0 ∙ sym k.1

  -- Bytes that end within a part have none of the results of those that do not.
  not_ended : (bytes : List ℕ) (r : Request) → RequestAt newest bytes (found r)
      → RequestAt newest bytes nothing ⊎ RequestAt newest bytes (refused Truncated) → ⊥
  not_ended bytes r h (inl k) = let same = one_answer newest bytes (found r) nothing h k in absurd cc
  not_ended bytes r h (inr k) = let same = one_answer newest bytes (found r) (refused Truncated) h k in absurd cc

  not_told : (bytes : List ℕ) (fault : Fault) → HoldsFault newest fault bytes
      → RequestAt newest bytes nothing ⊎ RequestAt newest bytes (refused Truncated) → ⊥
  not_told bytes Truncated h k = h
  not_told bytes Read h k = h
  not_told bytes TooLong h (inl k) = let same = one_answer newest bytes (refused TooLong) nothing h k in absurd cc
  not_told bytes TooLong h (inr k) =
      let same = one_answer newest bytes (refused TooLong) (refused Truncated) h k in absurd cc
  not_told bytes BadOp h (inl k) = let same = one_answer newest bytes (refused BadOp) nothing h k in absurd cc
  not_told bytes BadOp h (inr k) =
      let same = one_answer newest bytes (refused BadOp) (refused Truncated) h k in absurd cc
  not_told bytes BadField h (inl k) = let same = one_answer newest bytes (refused BadField) nothing h k in absurd cc
  not_told bytes BadField h (inr k) =
      let same = one_answer newest bytes (refused BadField) (refused Truncated) h k in absurd cc

  not_both : (n : ℕ) (bytes : List ℕ) (fault : Fault) → HoldsRequest newest n bytes → HoldsFault newest fault bytes → ⊥
  not_both n bytes fault h k =
      let same =
      one_answer newest bytes (found h.1.0) (refused fault) (whole_answer n bytes h) (fault_answer fault bytes k) in
      absurd cc

  same_fault : (a b : Fault) (bytes : List ℕ) → HoldsFault newest a bytes → HoldsFault newest b bytes → a ≡ b
  same_fault a b bytes h k =
      let same = one_answer newest bytes (refused a) (refused b) (fault_answer a bytes h) (fault_answer b bytes k) in
      cc (same)

  pub one_frame : OneFrame newest
  one_frame bytes (Whole n) (Whole m) h k = ap Whole (same_whole n m bytes h k)
  one_frame bytes (Whole n) (Refused fault) h k = absurd (not_both n bytes fault h k)
  one_frame bytes (Whole n) (More least) h k =
      absurd (not_ended bytes h.1.0 (whole_answer n bytes h) (part_answer least bytes k))
  one_frame bytes (Refused fault) (Whole n) h k = absurd (not_both n bytes fault k h)
  one_frame bytes (Refused fault) (Refused other) h k = ap Refused (same_fault fault other bytes h k)
  one_frame bytes (Refused fault) (More least) h k = absurd (not_told bytes fault h (part_answer least bytes k))
  one_frame bytes (More least) (Whole n) h k =
      absurd (not_ended bytes k.1.0 (whole_answer n bytes k) (part_answer least bytes h))
  one_frame bytes (More least) (Refused fault) h k = absurd (not_told bytes fault k (part_answer least bytes h))
  one_frame bytes (More least) (More other) h k = ap More (same_part least other bytes h k)

  -- ---- what reading takes

  not_read : (n : ℕ) (bytes : List ℕ) (fault : Fault) → HoldsRequest newest n bytes →
      RequestAt newest bytes (refused fault) → ⊥
  not_read n bytes fault h k =
      let same = one_answer newest bytes (found h.1.0) (refused fault) (whole_answer n bytes h) k in absurd cc

  pub frame_taken : FrameTaken newest
  frame_taken bytes n None (Ok (Some r)) text h k = absurd k.0
  frame_taken bytes n None (Ok None) text h k = absurd k.0
  frame_taken bytes n None (Err f) text h k = absurd k.1
  frame_taken bytes n (Some rest) (Ok (Some r)) text h k =
      inl (ap (λ l. Some l)
      (one_request r h.1.0 text h.1.1 rest (drop n bytes) k.1 h.1.2 (sym k.0 ∙ whole_parts n bytes _ h.1.3)).2)
  frame_taken bytes n (Some rest) (Ok None) text h k =
      absurd (not_ended bytes h.1.0 (whole_answer n bytes h) (inl (k.0 ∙ k.1)))
  frame_taken bytes n (Some rest) (Err Truncated) text h k =
      absurd (not_read n bytes Truncated h
      (subst (RequestFault newest Truncated) (sym (k.1 ∙ ap (λ l. k.0 ++ l) k.3 ∙ append-nil k.0)) k.2))
  frame_taken bytes n (Some rest) (Err TooLong) text h k = absurd (not_read n bytes TooLong h (k.0, rest, k.2, k.1))
  frame_taken bytes n (Some rest) (Err BadOp) text h k = absurd (not_read n bytes BadOp h (k.0, rest, k.2, k.1))
  frame_taken bytes n (Some rest) (Err BadField) text h k = absurd (not_read n bytes BadField h (k.0, rest, k.2, k.1))
  frame_taken bytes n (Some rest) (Err Read) text h k = inr refl

  -- ---- why a head is refused

  pub op_refused : (n v o : ℕ) (bytes behind : List ℕ) (fault : Fault) → bytes ≡ u32_bytes n ++ behind
      → 2 ≤ length behind → v ≡ get_or behind 0 0 → o ≡ get_or behind 1 0 → MIN_REQUEST ≤ n → n ≤ MAX_REQUEST
      → OpFault newest n v o fault → HoldsFault newest fault bytes
  op_refused n v o bytes behind BadOp e two first second low high why =
      (_, drop 2 behind, (n, v, o, (low, high, refl), why), head_parts n v o bytes behind e two first second)
  op_refused n v o bytes behind BadField e two first second low high why =
      (_, drop 2 behind, inr (n, v, o, (low, high, refl), why), head_parts n v o bytes behind e two first second)
  op_refused n v o bytes behind Truncated e two first second low high why = absurd why
  op_refused n v o bytes behind TooLong e two first second low high why = absurd why
  op_refused n v o bytes behind Read e two first second low high why = absurd why

  -- ---- where the bytes end

  -- The number of bytes that are needed is more than those that are there.
  pub part_short : (n : ℕ) (bytes : List ℕ) → EndsWithin newest n bytes → length bytes < n
  part_short n bytes (inl h) = omega (arith, h.0, h.1)
  part_short n bytes (inr (inl h)) = omega (arith, h.0.4, h.1, length_behind h.0.0 bytes h.0.1 h.0.5)
  part_short n bytes (inr (inr h)) = omega (arith, h.0.6, h.1, length_behind h.0.0 bytes _ h.0.7)

  pub ends_within : (n : ℕ) (bytes : List ℕ) → EndsWithin newest n bytes ⊎ HoldsRequest newest n bytes
      → length bytes < n
      → EndsWithin newest n bytes
  ends_within n bytes (inl h) short = h
  ends_within n bytes (inr h) short = absurd (omega (arith, h.0, short))

  pub holds_request : (n : ℕ) (bytes : List ℕ) → EndsWithin newest n bytes ⊎ HoldsRequest newest n bytes
      → n ≤ length bytes
      → HoldsRequest newest n bytes
  holds_request n bytes (inl h) enough = absurd (omega (arith, part_short n bytes h, enough))
  holds_request n bytes (inr h) enough = h
