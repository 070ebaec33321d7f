-- How an outbox keeps its bytes and its marks.
use Rattle.std.proofs.Common.{◌≡◌, ℕ, suc, ◌+◌, ◌-◌, ◌^◌, ◌<◌, ◌≤◌, Bool, true, false, cond, nat_le, List, [], ◌∷◌}
use Rattle.std.proofs.Common.{◌++◌, length, map, take, drop, Result, Ok, Err, refl, sym, ap, ap₂, subst, ◌∙◌, arith}
use Rattle.std.proofs.Common.{subst₂}
use Rattle.std.proofs.Common.{append_assoc, append-nil, length-append, le_refl}
use Rattle.std.proofs.Common.{le_of_suc-le-suc}
use Rattle.std.proofs.Math.Seq.{drop-length, take-length}
use Rattle.std.proofs.lemmas.Bool.Decides.{nat_tests}
use Rattle.std.proofs.lemmas.List.{drop-append-le, drop-drop, length-drop, length-map, map-append, take-append-le}
use Rattle.std.specs.Prelude.{OnOk, OnErr, is_err}
use Rattle.sysv_queue.specs.Delivery.{Given}
use Rattle.sysv_queue.specs.Tally.{Tallied, taken_in}
use Rattle.sysv_session.specs.Layout.{InOrder, IsAscending, begins_passed, unspent}
use Rattle.sysv_session.specs.Outbox.{Mark, Unsent, at_end, beyond, mark_at, more_lost, more_written, nearer}
use Rattle.sysv_session.specs.Outbox.{with_frame}
use Rattle.sysv_session.specs.Outbox.{passed, with_message, within, without}
use Rattle.sysv_session.proofs.OutboxLemmas.{first_passed, first_within}

pub in_order_le : (least most : ℕ) (marks : List Mark) → InOrder least marks most → least ≤ most
in_order_le least most [] order = order
in_order_le least most (x ∷ xs) order = omega (arith, order.0, in_order_le x.ends most xs order.1)

pub in_order_more : (least most more : ℕ) (marks : List Mark) → most ≤ more → InOrder least marks most →
    InOrder least marks more
in_order_more least most more [] le order = omega (arith, le, order)
in_order_more least most more (x ∷ xs) le order = (order.0, in_order_more x.ends most more xs le order.1)

-- One more mark, at the end.
pub in_order_push : (least most more : ℕ) (marks : List Mark) (given : Given) → most ≤ more →
    InOrder least marks most → InOrder least (marks ++ mark_at more given ∷ []) more
in_order_push least most more [] given le order = (omega (arith, le, order), le_refl more)
in_order_push least most more (x ∷ xs) given le order = (order.0, in_order_push x.ends most more xs given le order.1)

-- The marks, n bytes nearer.
pub in_order_nearer : (n least most : ℕ) (marks : List Mark) → InOrder least marks most →
    InOrder (least - n) (map (nearer n) marks) (most - n)
in_order_nearer n least most [] order = omega (arith, order)
in_order_nearer n least most (x ∷ xs) order = (omega (arith, order.0), in_order_nearer n x.ends most xs order.1)

unspent_at : (b : Bool) (n : ℕ) (x : Mark) (xs : List Mark) → nat_le (1 + x.ends) n ≡ b →
    unspent n (x ∷ xs) ≡ cond b (unspent n xs) (x ∷ unspent n xs)
unspent_at true n x xs is = rw is
unspent_at false n x xs is = rw is

-- If the first mark is not passed, none is.
pub all_unspent : (n least most : ℕ) (marks : List Mark) → n ≤ least → InOrder least marks most →
    unspent n marks ≡ marks
all_unspent n least most [] le order = refl
all_unspent n least most (x ∷ xs) le order =
    let is : nat_le (1 + x.ends) n ≡ false = grind (arith, nat_tests, order.0) in
    unspent_at false n x xs is
    ∙ ap (λ (l : List Mark). x ∷ l) (all_unspent n x.ends most xs (omega (arith, le, order.0)) order.1)

pub none_passed : (n least most : ℕ) (marks : List Mark) → n ≤ least → InOrder least marks most → passed n marks ≡ 0
none_passed n least most [] le order = refl
none_passed n least most (x ∷ xs) le order =
    let is : nat_le (1 + x.ends) n ≡ false = grind (arith, nat_tests, order.0) in
    omega (arith, first_passed false n x xs is, none_passed n x.ends most xs (omega (arith, le, order.0)) order.1)

in_order_unspent_at : (b : Bool) (n least most : ℕ) (x : Mark) (xs : List Mark) → nat_le (1 + x.ends) n ≡ b → n ≤ most →
    InOrder least (x ∷ xs) most → InOrder n (unspent n xs) most → InOrder n (unspent n (x ∷ xs)) most
in_order_unspent_at true n least most x xs is le order more =
    subst (λ (l : List Mark). InOrder n l most) (sym (unspent_at true n x xs is)) more
in_order_unspent_at false n least most x xs is le order more =
    let behind : n ≤ x.ends = grind (arith, nat_tests) in
    subst (λ (l : List Mark). InOrder n l most)
    (sym (unspent_at false n x xs is ∙ ap (λ (l : List Mark). x ∷ l) (all_unspent n x.ends most xs behind order.1)))
    (behind, order.1)

-- The marks that are left do not end before the last of the first n bytes.
pub in_order_unspent : (n least most : ℕ) (marks : List Mark) → n ≤ most → InOrder least marks most →
    InOrder n (unspent n marks) most
in_order_unspent n least most [] le order = le
in_order_unspent n least most (x ∷ xs) le order =
    in_order_unspent_at (nat_le (1 + x.ends) n) n least most x xs refl le order
    (in_order_unspent n x.ends most xs le order.1)

-- The marks of an outbox of which k bytes were taken.
pub beyond_nearer : (k n least most : ℕ) (marks : List Mark) → k ≤ least → InOrder least marks most →
    beyond n (map (nearer k) marks) ≡ beyond (k + n) marks
beyond_nearer k n least most [] le order = refl
beyond_nearer k n least most (x ∷ xs) le order =
    let behind : k ≤ x.ends = omega (arith, le, order.0) in
    grind (arith, nat_tests, beyond_nearer k n x.ends most xs behind order.1)

passed_nearer_at : (b : Bool) (k n : ℕ) (x : Mark) (xs : List Mark) → k ≤ x.ends → nat_le (1 + x.ends) (k + n) ≡ b →
    passed n (map (nearer k) xs) ≡ passed (k + n) xs → passed n (map (nearer k) (x ∷ xs)) ≡ passed (k + n) (x ∷ xs)
passed_nearer_at b k n x xs behind is more =
    let same : nat_le (1 + (x.ends - k)) n ≡ b = grind (arith, nat_tests, is) in
    omega (arith, first_passed b (k + n) x xs is, first_passed b n (nearer k x) (map (nearer k) xs) same, more)

pub passed_nearer : (k n least most : ℕ) (marks : List Mark) → k ≤ least → InOrder least marks most →
    passed n (map (nearer k) marks) ≡ passed (k + n) marks
passed_nearer k n least most [] le order = refl
passed_nearer k n least most (x ∷ xs) le order =
    let behind : k ≤ x.ends = omega (arith, le, order.0) in
    passed_nearer_at (nat_le (1 + x.ends) (k + n)) k n x xs behind refl
    (passed_nearer k n x.ends most xs behind order.1)

whole_nearer_at : (b : Bool) (k : ℕ) (x : Mark) (xs : List Mark) → nat_le (1 + x.ends) (k + 1) ≡ b →
    within 0 (map (nearer k) xs) ≡ passed (k + 1) xs → within 0 (map (nearer k) (x ∷ xs)) ≡ passed (k + 1) (x ∷ xs)
whole_nearer_at b k x xs is more =
    let same : nat_le (x.ends - k) 0 ≡ b = grind (arith, nat_tests, is) in
    omega (arith, first_passed b (k + 1) x xs is, first_within b 0 (nearer k x) (map (nearer k) xs) same, more)

-- The frames that were taken whole, of an outbox of which k bytes were taken.
pub whole_nearer : (k : ℕ) (marks : List Mark) → within 0 (map (nearer k) marks) ≡ passed (k + 1) marks
whole_nearer k [] = refl
whole_nearer k (x ∷ xs) = whole_nearer_at (nat_le (1 + x.ends) (k + 1)) k x xs refl (whole_nearer k xs)

pub nearer_none : (marks : List Mark) → map (nearer 0) marks ≡ marks
nearer_none [] = refl
nearer_none (x ∷ xs) =
    let same : x.ends - 0 ≡ x.ends = omega arith in
    ap₂ (λ (n : ℕ) (l : List Mark). mark_at n x.given ∷ l) same (nearer_none xs)

-- What the contracts see of the fields.
abbrev pub view_of : ℕ → List ℕ → List Mark → Unsent
view_of taken bytes marks = record { bytes = drop taken bytes; marks = map (nearer taken) marks }

-- A frame is appended, or the bytes stay the same.
module _ {T E : Type 0} (taken : ℕ) (marks : List Mark) (old new frame : List ℕ) where
  pub put_order : (result : Result T E) → OnOk result (new ≡ old ++ frame) → OnErr result (new ≡ old) →
      InOrder taken marks (length old) → InOrder taken marks (length new)
  put_order (Ok done) ok err order =
      in_order_more taken (length old) (length new) marks
      (omega (arith, ap (length {A = ℕ}) ok, length-append old frame)) order
  put_order (Err failed) ok err order =
      subst (λ (l : List ℕ). InOrder taken marks (length l)) (sym err) order

  pub put_view : (result : Result T E) (box : Unsent) → OnOk result (new ≡ old ++ frame) → taken ≤ length old →
      view_of taken old marks ≡ box → OnOk result (view_of taken new marks ≡ with_frame frame box)
  put_view (Ok done) box ok le is =
      ap₂ (λ (l : List ℕ) (ms : List Mark). let b : Unsent = record { bytes = l; marks = ms } in b)
      (ap (drop taken) ok ∙ drop-append-le taken old frame le ∙ ap (λ (b : Unsent). b.bytes ++ frame) is)
      (ap (λ (b : Unsent). b.marks) is)
  put_view (Err failed) box ok le is = tt

-- A frame is appended that ends with a message.
module _ (taken ends : ℕ) (marks marks' : List Mark) (old new frame : List ℕ) (given : Given)
    (grown : new ≡ old ++ frame) (at : ends ≡ length new) (pushed : marks' ≡ marks ++ mark_at ends given ∷ [])
    (order : InOrder taken marks (length old)) where
  pub message_order : InOrder taken marks' (length new)
  message_order =
      subst (λ (ms : List Mark). InOrder taken ms (length new))
      (ap (λ (n : ℕ). marks ++ mark_at n given ∷ []) (sym at) ∙ sym pushed)
      (in_order_push taken (length old) (length new) marks given
      (omega (arith, ap (length {A = ℕ}) grown, length-append old frame)) order)

  pub message_view : (box : Unsent) → view_of taken old marks ≡ box →
      view_of taken new marks' ≡ with_message frame given box
  message_view box is =
      let le : taken ≤ length old = in_order_le taken (length old) marks order in
      let bytes : drop taken new ≡ box.bytes ++ frame =
      ap (drop taken) grown ∙ drop-append-le taken old frame le ∙ ap (λ (b : Unsent). b.bytes ++ frame) is in
      let place : ends - taken ≡ length (box.bytes ++ frame) =
      ap (λ (n : ℕ). n - taken) at ∙ sym (length-drop taken new) ∙ ap (length {A = ℕ}) bytes in
      ap₂ (λ (l : List ℕ) (ms : List Mark). let b : Unsent = record { bytes = l; marks = ms } in b) bytes
      (ap (map (nearer taken)) pushed ∙ map-append (nearer taken) marks (mark_at ends given ∷ [])
      ∙ ap₂ (λ (ms : List Mark) (n : ℕ). ms ++ mark_at n given ∷ []) (ap (λ (b : Unsent). b.marks) is) place)

pub ok_of : {T E : Type 0} {P : Type 0} (result : Result T E) → is_err result ≡ false → OnOk result P → P
ok_of (Ok done) is ok = ok
ok_of (Err failed) is ok = absurd (grind (arith, is))

-- The connection takes n bytes more.
module _ (taken n : ℕ) (bytes : List ℕ) (marks : List Mark) where
  pub passed_view : (box : Unsent) → view_of taken bytes marks ≡ box → InOrder taken marks (length bytes) →
      passed (taken + n) marks ≡ passed n box.marks
  passed_view box is order =
      sym (passed_nearer taken n taken (length bytes) marks (le_refl taken) order)
      ∙ ap (λ (b : Unsent). passed n b.marks) is

  pub sent_view : (marks' : List Mark) (box : Unsent) → view_of taken bytes marks ≡ box →
      InOrder taken marks (length bytes) → marks' ≡ unspent (taken + n) marks →
      view_of (taken + n) bytes marks' ≡ without n box
  sent_view marks' box is order left =
      ap₂ (λ (l : List ℕ) (ms : List Mark). let b : Unsent = record { bytes = l; marks = ms } in b)
      (sym (drop-drop n taken bytes) ∙ ap (λ (b : Unsent). drop n b.bytes) is)
      (ap (map (nearer (taken + n))) left
      ∙ sym (beyond_nearer taken n taken (length bytes) marks (le_refl taken) order)
      ∙ ap (λ (b : Unsent). beyond n b.marks) is)

  pub sent_marks : (marks' : List Mark) (box : Unsent) → view_of taken bytes marks ≡ box → n ≤ length box.bytes →
      marks' ≡ unspent (taken + n) marks → InOrder taken marks (length bytes) →
      InOrder (taken + n) marks' (length bytes)
  sent_marks marks' box is some left order =
      let fits : taken + n ≤ length bytes =
      omega (
        arith,
        some,
        ap (λ (b : Unsent). length b.bytes) is,
        length-drop taken bytes,
        in_order_le taken (length bytes) marks order,
      ) in
      subst (λ (ms : List Mark). InOrder (taken + n) ms (length bytes)) (sym left)
      (in_order_unspent (taken + n) taken (length bytes) marks fits order)

-- The bytes that were taken are removed.
pub removed_view : (taken : ℕ) (bytes bytes' : List ℕ) (marks marks' : List Mark) → bytes' ≡ drop taken bytes →
    marks' ≡ map (nearer taken) marks → view_of 0 bytes' marks' ≡ view_of taken bytes marks
removed_view taken bytes bytes' marks marks' rest near =
    ap₂ (λ (l : List ℕ) (ms : List Mark). let b : Unsent = record { bytes = l; marks = ms } in b) rest
    (nearer_none marks' ∙ near)

pub removed_order : (taken : ℕ) (bytes bytes' : List ℕ) (marks marks' : List Mark) → bytes' ≡ drop taken bytes →
    marks' ≡ map (nearer taken) marks → InOrder taken marks (length bytes) → InOrder 0 marks' (length bytes')
removed_order taken bytes bytes' marks marks' rest near order =
    let none : taken - taken ≡ 0 = omega arith in
    let long : length bytes - taken ≡ length bytes' =
    sym (length-drop taken bytes) ∙ ap (length {A = ℕ}) (sym rest) in
    subst (λ (ms : List Mark). InOrder 0 ms (length bytes')) (sym near)
    (subst₂ (λ (l m : ℕ). InOrder l (map (nearer taken) marks) m) none long
    (in_order_nearer taken taken (length bytes) marks order))

pub in_order_rest : (x : Mark) (xs : List Mark) (least most : ℕ) → InOrder least (x ∷ xs) most → IsAscending xs
in_order_rest x xs least most order = (x.ends, most, order.1)

-- Marks are spent from the front.
pub record Spending (n : ℕ) (all : List Mark) (before : Tallied) (marks : List Mark) (tally : Tallied) : Type 0 where
  pub order : IsAscending marks
  pub kept : unspent n marks ≡ unspent n all
  pub spent : tally.written + passed n marks ≡ before.written + passed n all
  pub lost : tally.lost ≡ before.lost
  pub few : tally.written + length marks ≡ before.written + length all

pub spending_starts : (n : ℕ) (all : List Mark) (before : Tallied) → IsAscending all → Spending n all before all before
spending_starts n all before order = record { order = order; kept = refl; spent = refl; lost = refl; few = refl }

module _ (n : ℕ) (all : List Mark) (before : Tallied) (x : Mark) (rest : List Mark) (marks : List Mark)
    (tally : Tallied) (first : marks ≡ x ∷ rest) (old : Spending n all before marks tally) where
  opened : Spending n all before (x ∷ rest) tally
  opened = subst (λ (m : List Mark). Spending n all before m tally) first old

  pub spending_room : taken_in before + length all < 2 ^ 64 → taken_in tally < 2 ^ 64 - 1
  spending_room room = omega (arith, room, opened.few, opened.lost)

  pub spending_on : (marks' : List Mark) (tally' : Tallied) → begins_passed n marks ≡ true → marks' ≡ rest →
      tally' ≡ more_written 1 tally → Spending n all before marks' tally'
  spending_on marks' tally' begun same one =
      let is : nat_le (1 + x.ends) n ≡ true = sym (ap (begins_passed n) first) ∙ begun in
      subst₂ (λ (m : List Mark) (t : Tallied). Spending n all before m t) (sym same) (sym one) (record {
        order = in_order_rest x rest opened.order.0 opened.order.1 opened.order.2;
        kept = sym (unspent_at true n x rest is) ∙ opened.kept;
        spent = omega (arith, first_passed true n x rest is, opened.spent);
        lost = opened.lost;
        few = omega (arith, opened.few);
      })

all_kept : (n : ℕ) (marks : List Mark) → IsAscending marks → begins_passed n marks ≡ false → unspent n marks ≡ marks
all_kept n [] order is = refl
all_kept n (x ∷ xs) order is =
    let behind : n ≤ x.ends = grind (arith, nat_tests, is) in
    unspent_at false n x xs is
    ∙ ap (λ (l : List Mark). x ∷ l) (all_unspent n x.ends order.1 xs behind order.2.1)

none_spent : (n : ℕ) (marks : List Mark) → IsAscending marks → begins_passed n marks ≡ false → passed n marks ≡ 0
none_spent n [] order is = refl
none_spent n (x ∷ xs) order is =
    let behind : n ≤ x.ends = grind (arith, nat_tests, is) in
    omega (arith, first_passed false n x xs is, none_passed n x.ends order.1 xs behind order.2.1)

-- No more marks are within.
pub spending_ends : (n : ℕ) (all : List Mark) (before : Tallied) (marks : List Mark) (tally : Tallied) →
    begins_passed n marks ≡ false → Spending n all before marks tally →
    (marks ≡ unspent n all) × (tally ≡ more_written (passed n all) before)
spending_ends n all before marks tally is old =
    let written : tally.written ≡ before.written + passed n all =
    omega (arith, old.spent, none_spent n marks old.order is) in (
      sym (all_kept n marks old.order is) ∙ old.kept,
      ap₂ (λ (w l : ℕ). record { written = w; lost = l }) written old.lost,
    )

none_at_start : (marks : List Mark) → passed 0 marks ≡ 0
none_at_start [] = refl
none_at_start (x ∷ xs) =
    let is : nat_le (1 + x.ends) 0 ≡ false = grind (arith, nat_tests) in
    omega (arith, first_passed false 0 x xs is, none_at_start xs)

unspent_length_at : (b : Bool) (n : ℕ) (x : Mark) (xs : List Mark) → nat_le (1 + x.ends) n ≡ b →
    passed n xs + length (unspent n xs) ≡ length xs →
    passed n (x ∷ xs) + length (unspent n (x ∷ xs)) ≡ length (x ∷ xs)
unspent_length_at true n x xs is more =
    omega (arith, first_passed true n x xs is, ap (length {A = Mark}) (unspent_at true n x xs is), more)
unspent_length_at false n x xs is more =
    omega (arith, first_passed false n x xs is, ap (length {A = Mark}) (unspent_at false n x xs is), more)

-- Each mark is passed or unspent.
unspent_length : (n : ℕ) (marks : List Mark) → passed n marks + length (unspent n marks) ≡ length marks
unspent_length n [] = refl
unspent_length n (x ∷ xs) = unspent_length_at (nat_le (1 + x.ends) n) n x xs refl (unspent_length n xs)

-- An outbox ends of which `taken` bytes were taken, after a reset or not.
module _ (taken : ℕ) (bytes : List ℕ) (marks marks' : List Mark) (before mid after : Tallied) (box : Unsent)
    (view : view_of taken bytes marks ≡ box) where
  marks_seen : length box.marks ≡ length marks
  marks_seen = ap (λ (b : Unsent). length b.marks) (sym view) ∙ length-map marks (nearer taken)

  ended_at : (is_reset : Bool) → marks' ≡ unspent (cond is_reset 0 (taken + 1)) marks →
      mid ≡ more_written (passed (cond is_reset 0 (taken + 1)) marks) before → after ≡ more_lost (length marks') mid →
      after ≡ at_end is_reset box.marks before
  ended_at true left written lost =
      let none = none_at_start marks in
      let w : after.written ≡ before.written =
      omega (arith, ap (λ (t : Tallied). t.written) lost, ap (λ (t : Tallied). t.written) written, none) in
      let l : after.lost ≡ before.lost + length box.marks =
      omega (
        arith,
        ap (λ (t : Tallied). t.lost) lost,
        ap (λ (t : Tallied). t.lost) written,
        ap (length {A = Mark}) left,
        unspent_length 0 marks,
        none,
        marks_seen,
      ) in
      ap₂ (λ (a b : ℕ). let t : Tallied = record { written = a; lost = b } in t) w l
  ended_at false left written lost =
      let whole : within 0 box.marks ≡ passed (taken + 1) marks =
      ap (λ (b : Unsent). within 0 b.marks) (sym view) ∙ whole_nearer taken marks in
      let w : after.written ≡ before.written + within 0 box.marks =
      omega (arith, ap (λ (t : Tallied). t.written) lost, ap (λ (t : Tallied). t.written) written, whole) in
      let l : after.lost ≡ before.lost + (length box.marks - within 0 box.marks) =
      omega (
        arith,
        ap (λ (t : Tallied). t.lost) lost,
        ap (λ (t : Tallied). t.lost) written,
        ap (length {A = Mark}) left,
        unspent_length (taken + 1) marks,
        whole,
        marks_seen,
      ) in
      ap₂ (λ (a b : ℕ). let t : Tallied = record { written = a; lost = b } in t) w l

pub ended_view : (is_reset : Bool) (taken : ℕ) (bytes : List ℕ) (marks marks' : List Mark)
    (before mid after : Tallied) (box : Unsent) (place : ℕ) → view_of taken bytes marks ≡ box →
    place ≡ cond is_reset 0 (taken + 1) → marks' ≡ unspent place marks →
    mid ≡ more_written (passed place marks) before → after ≡ more_lost (length marks') mid →
    after ≡ at_end is_reset box.marks before
ended_view is_reset taken bytes marks marks' before mid after box place view is left written lost =
    ended_at taken bytes marks marks' before mid after box view is_reset
    (left ∙ ap (λ (n : ℕ). unspent n marks) is) (written ∙ ap (λ (n : ℕ). more_written (passed n marks) before) is) lost

-- The tally has room for the deliveries that are left.
pub ended_room : (taken : ℕ) (bytes : List ℕ) (marks marks' : List Mark) (before mid : Tallied) (box : Unsent)
    (place : ℕ) → view_of taken bytes marks ≡ box → taken_in before + length box.marks < 2 ^ 64 →
    marks' ≡ unspent place marks → mid ≡ more_written (passed place marks) before →
    taken_in mid + length marks' < 2 ^ 64
ended_room taken bytes marks marks' before mid box place view room left written =
    omega (
      arith,
      room,
      marks_seen taken bytes marks marks' before mid mid box view,
      ap (length {A = Mark}) left,
      ap taken_in written,
      unspent_length place marks,
    )

-- Marks are brought nearer, from the front to the back: all were but the first `left`.
pub record Nearing (n left : ℕ) (all marks : List Mark) : Type 0 where
  pub few : left ≤ length marks
  pub moved : drop left marks ++ map (nearer n) (take left marks) ≡ map (nearer n) all

pub nearing_starts : (n : ℕ) (all : List Mark) → Nearing n (length all) all all
nearing_starts n all = record {
  few = le_refl (length all);
  moved = ap₂ (λ (back front : List Mark). back ++ map (nearer n) front) (drop-length all) (take-length all);
}

nearing : (n left : ℕ) (all : List Mark) (x : Mark) (xs : List Mark) → Nearing n (suc left) all (x ∷ xs) →
    Nearing n left all (xs ++ nearer n x ∷ [])
nearing n left all x xs old =
    let few : left ≤ length xs = le_of_suc-le-suc old.few in
    let front : take left (xs ++ nearer n x ∷ []) ≡ take left xs = take-append-le left xs (nearer n x ∷ []) few in
    let back : drop left (xs ++ nearer n x ∷ []) ≡ drop left xs ++ nearer n x ∷ [] =
    drop-append-le left xs (nearer n x ∷ []) few in
    record {
      few = omega (arith, few, length-append xs (nearer n x ∷ []));
      moved = ap₂ (λ (b f : List Mark). b ++ map (nearer n) f) back front
          ∙ append_assoc (drop left xs) (nearer n x ∷ []) (map (nearer n) (take left xs)) ∙ old.moved;
    }

pub nearing_on : (n few less : ℕ) (all marks marks' rest : List Mark) (x : Mark) → marks ≡ x ∷ rest → few ≡ suc less →
    marks' ≡ rest ++ nearer n x ∷ [] → Nearing n few all marks → Nearing n less all marks'
nearing_on n few less all marks marks' rest x first next back old =
    subst (Nearing n less all) (sym back)
    (nearing n less all x rest
    (subst (λ (m : List Mark). Nearing n (suc less) all m) first
    (subst (λ (k : ℕ). Nearing n k all marks) next old)))

pub nearing_ends : (n : ℕ) (all marks : List Mark) → Nearing n 0 all marks → marks ≡ map (nearer n) all
nearing_ends n all marks old = sym (append-nil marks) ∙ old.moved
