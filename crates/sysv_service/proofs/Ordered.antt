-- What a bank promises of its passes, in turns of the world.
use Rattle.std.proofs.Common.{◌≡◌, ◌≢◌, ℕ, zero, suc, ◌≤◌, ◌==◌, false, cond, List, [], ◌∷◌, ◌++◌, length, refl, sym}
use Rattle.std.proofs.Common.{ap, subst, ◌∙◌, arith, append_assoc}
use Rattle.std.proofs.lemmas.Bool.Decides.{nat_tests}
use Rattle.std.proofs.lemmas.List.{append-nil, length-map}
use Rattle.std.proofs.lemmas.List.Elements.{All-cons, All-nil, All-head, All-tail, filter-append}
use Rattle.std.specs.List.{All}
use mathlib.Core.Option.{some, some-injective, some-ne-none}
use lib.ListN.{get_elem?}
use Rattle.sysv_lists.specs.Numbers.{times}
use Rattle.sysv_lists.specs.Prefix.{IsPrefixOf}
use Rattle.sysv_lists.proofs.Places.{at_below, there}
use Rattle.sysv_model.specs.Turns.{Numbered}
use Rattle.sysv_model.specs.Members.{under, AreWhole, AreOfOthers, AreOwn, first_with, SeesMore, MakesTurn, Splits}
use Rattle.sysv_model.specs.Members.{Joins, Closes}
use Rattle.sysv_model.proofs.Sharing.{AtMost, whole_in_any}
use Rattle.sysv_gate.specs.declared.gate.closing.Closing.{Closing}
use Rattle.sysv_gate.specs.History.{Moves, IsLegal}
use Rattle.sysv_gate.specs.Gates.{Gateway, Holding}
use Rattle.sysv_gate.specs.Shares.{AreWithin, IsWhole}
use Rattle.sysv_gate.specs.Orders.{AreBelow, NoneMadeUnder, AllMadeUnder, GoesOnWithout}
use Rattle.sysv_bank.specs.Banks.{gates_of}
use Rattle.sysv_bank.specs.Passes.{GoesOn, AddsToOrder, SplitsOff, JoinsOrders}
use Rattle.sysv_bank.specs.Closing.{ClosesInOrder}
use Rattle.sysv_service.specs.declared.kinds.Gated.{Gated}
use Rattle.sysv_objects.specs.declared.object.ObjectCall.{ObjectCall}
use Rattle.sysv_objects.specs.declared.object.ObjectReply.{ObjectReply}
use Rattle.sysv_service.specs.Gated.{GatedMoves, gated_counts}
use Rattle.sysv_service.specs.Order.{GatedPlaced, GatedPass, object_at, op_at, ops_after, ops_of, member_of}
use Rattle.sysv_service.specs.Ordered.{op_added, IsLegalOrder}

-- ---- numbers

number_other : (n x : ℕ) → n ≢ x → (n == x) ≡ false
number_other n x apart = grind (arith, nat_tests)

abbrev IsOther : List ℕ → Numbered → Type 0
IsOther numbers t = times t.by numbers ≡ 0

abbrev IsOwn : List ℕ → Numbered → Type 0
IsOwn numbers t = 1 ≤ times t.by numbers

-- No turn of others was made under a number of one's own.
under_none : (x : ℕ) (numbers : List ℕ) (ts : List Numbered) → AreOfOthers numbers ts → 1 ≤ times x numbers →
    under x ts ≡ []
under_none x numbers [] others has = refl
under_none x numbers (t ∷ ts) others has =
    let first : times t.by numbers ≡ 0 = All-head (IsOther numbers) t ts others in
    let apart : (t.by == x) ≡ false =
    number_other t.by x (λ e. let same = ap (λ n. times n numbers) e in omega arith) in
    ap (λ b. cond b (t ∷ under x ts) (under x ts)) apart
    ∙ under_none x numbers ts (All-tail (IsOther numbers) t ts others) has

-- ---- shares

all_within : (depth : ℕ) (shares : List ℕ) → AreWithin depth shares → All (AtMost depth) shares
all_within depth [] within = All-nil (AtMost depth)
all_within depth (d ∷ ds) within = All-cons (AtMost depth) d ds within.0 (all_within depth ds within.1)

pub whole : (shares : List ℕ) → AreWhole shares → IsWhole shares
whole shares w depth within = whole_in_any shares w depth (all_within depth shares within)

-- ---- orders

module _ (gates : List (Gateway Gated)) where
  abbrev pub op_after : List GatedPlaced → GatedPlaced → Numbered
  op_after earlier t = record { by = t.turn.by; op = op_at t.place (object_at gates t.place earlier) t.turn }

  pub ops_after-append : (earlier xs ys : List GatedPlaced) →
      ops_after gates earlier (xs ++ ys) ≡ ops_after gates earlier xs ++ ops_after gates (earlier ++ xs) ys
  ops_after-append earlier [] ys = ap (λ l. ops_after gates l ys) (sym (append-nil earlier))
  ops_after-append earlier (x ∷ xs) ys =
      ap (λ l. op_after earlier x ∷ l)
      (ops_after-append (earlier ++ x ∷ []) xs ys
      ∙ ap (λ l. ops_after gates (earlier ++ x ∷ []) xs ++ ops_after gates l ys) (append_assoc earlier (x ∷ []) xs))

  pub ops_of-append : (xs ys : List GatedPlaced) →
      ops_of gates (xs ++ ys) ≡ ops_of gates xs ++ ops_after gates xs ys
  ops_of-append xs ys = ops_after-append [] xs ys

  others_of : (numbers : List ℕ) (earlier ts : List GatedPlaced) → NoneMadeUnder numbers ts →
      AreOfOthers numbers (ops_after gates earlier ts)
  others_of numbers earlier [] none = All-nil (IsOther numbers)
  others_of numbers earlier (t ∷ ts) none =
      All-cons (IsOther numbers) (op_after earlier t) (ops_after gates (earlier ++ t ∷ []) ts) none.0
      (others_of numbers (earlier ++ t ∷ []) ts none.1)

  own_of : (numbers : List ℕ) (earlier ts : List GatedPlaced) → AllMadeUnder numbers ts →
      AreOwn numbers (ops_after gates earlier ts)
  own_of numbers earlier [] all = All-nil (IsOwn numbers)
  own_of numbers earlier (t ∷ ts) all =
      All-cons (IsOwn numbers) (op_after earlier t) (ops_after gates (earlier ++ t ∷ []) ts) all.0
      (own_of numbers (earlier ++ t ∷ []) ts all.1)

  abbrev longer_of : (xs ys : List GatedPlaced) → IsPrefixOf xs ys → IsPrefixOf (ops_of gates xs) (ops_of gates ys)
  longer_of xs ys longer = (ops_after gates xs longer.0, ap (ops_of gates) longer.1 ∙ ops_of-append xs longer.0)

  -- An order that goes on without a turn under one of the numbers has no more turns under it.
  under_of : (numbers : List ℕ) (xs ys : List GatedPlaced) → GoesOnWithout numbers xs ys → (x : ℕ) →
      1 ≤ times x numbers → under x (ops_of gates ys) ≡ under x (ops_of gates xs)
  under_of numbers xs ys goes x has =
      let more : List Numbered = ops_after gates xs goes.0.0 in
      ap (under x) (longer_of xs ys goes.0).1
      ∙ (filter-append (λ (t : Numbered). t.by == x) (ops_of gates xs) more
      ∙ (ap (λ l. under x (ops_of gates xs) ++ l)
      (under_none x numbers more (others_of numbers xs goes.0.0 goes.1) has)
      ∙ append-nil (under x (ops_of gates xs))))

  -- ---- what passes do

  pub opens : (pass : GatedPass) → (pass.order ≡ []) × (pass.number ≡ 0) × (pass.numbers ≡ 0 ∷ []) →
      pass.shares ≡ 0 ∷ [] → member_of gates pass ≡ first_with 0
  opens pass first shares = λ i.
      record { number = first.1 i; numbers = first.2 i; shares = shares i; order = ops_of gates (first.0 i) }

  pub sees : (before after : GatedPass) → GoesOn before after →
      SeesMore (member_of gates before) (member_of gates after)
  sees before after g =
      let longer = longer_of before.order after.order g.order.0 in
      record {
        others = longer.0;
        apart = others_of before.numbers before.order g.order.0.0 g.order.1;
        goes_on = λ i. record { number = g.number i; numbers = g.numbers i; shares = g.shares i; order = longer.1 i };
      }

  pub makes : (place : ℕ) (before after : GatedPass) (adds : AddsToOrder place before after) →
      MakesTurn (member_of gates before) (op_added gates place before after adds) (member_of gates after)
  makes place before after adds =
      let t : GatedPlaced = record { place = place; turn = adds.turn } in
      let others : List Numbered = ops_after gates before.order adds.others in
      let order : ops_of gates after.order
      ≡ (ops_of gates before.order ++ others)
      ++ record { by = before.number; op = op_added gates place before after adds } ∷ [] =
      ap (ops_of gates) adds.order
      ∙ (ops_of-append (before.order ++ adds.others) (t ∷ [])
      ∙ (ap (λ l. l ++ ops_after gates (before.order ++ adds.others) (t ∷ []))
      (ops_of-append before.order adds.others)
      ∙ ap (λ (n : ℕ).
      (ops_of gates before.order ++ others) ++ record { by = n; op = op_added gates place before after adds }
      ∷ []) adds.by)) in
      record {
        others = others;
        apart = others_of before.numbers before.order adds.others adds.strangers;
        goes_on = λ i.
            record { number = adds.number i; numbers = adds.numbers i; shares = adds.shares i; order = order i };
      }

  pub splits : (before kept new : GatedPass) → SplitsOff before kept new →
      Splits (member_of gates before) (member_of gates kept) (member_of gates new)
  splits before kept new s = record {
    apart =
        others_of (new.number ∷ []) [] before.order
        (subst (λ ns. NoneMadeUnder ns before.order) s.new_numbers
        (subst (λ (l : List GatedPlaced). NoneMadeUnder new.numbers l) s.new_order s.no_turn));
    parent = λ i.
        record { number = s.number i; numbers = s.numbers i; shares = s.shares i; order = ops_of gates (s.order i) };
    child = λ i. record {
      number = new.number;
      numbers = s.new_numbers i;
      shares = s.new_shares i;
      order = ops_of gates (s.new_order i);
    };
  }

  pub joins : (one two after : GatedPass) → JoinsOrders one two after →
      Joins (member_of gates one) (member_of gates two) (member_of gates after)
  joins one two after j = record {
    order = ops_of gates after.order;
    begins_one = longer_of one.order after.order j.begins_one.0;
    begins_two = longer_of two.order after.order j.begins_two.0;
    own_one = under_of one.numbers one.order after.order j.begins_one;
    own_two = under_of two.numbers two.order after.order j.begins_two;
    joined = λ i.
        record { number = j.number i; numbers = j.numbers i; shares = j.shares i; order = ops_of gates after.order };
  }

  pub closes : (last : GatedPass) (closings : List (Closing Gated)) →
      (c : ClosesInOrder (Moves GatedMoves gated_counts) last closings) →
      Closes (member_of gates last) (ops_of gates c.order)
  closes last closings c = record {
    longer = longer_of last.order c.order c.longer;
    apart = c.apart;
    all = λ w.
        let home = c.home (whole last.shares w) in (ap (ops_of gates) home.0, own_of last.numbers [] c.order home.1);
  }

-- ---- the end

seat_there : (seats : List (Holding Gated ObjectCall ObjectReply)) (place : ℕ) (gate : Gateway Gated)
    → get_elem? (gates_of seats) place ≡ some gate
    → (h : Holding Gated ObjectCall ObjectReply) × (get_elem? seats place ≡ some h) × (h.gate ≡ gate)
seat_there [] place gate at = absurd (some-ne-none gate (sym at))
seat_there (h ∷ hs) zero gate at = (h, refl, some-injective h.gate gate at)
seat_there (h ∷ hs) (suc place) gate at = seat_there hs place gate at

pub ends : (last : GatedPass) (closings : List (Closing Gated)) → length closings ≡ length last.seats →
    (c : ClosesInOrder (Moves GatedMoves gated_counts) last closings) → IsLegalOrder (gates_of last.seats) c.order
ends last closings many c = record {
  below = subst (λ n. AreBelow n c.order)
      (sym (length-map last.seats (λ (h : Holding Gated ObjectCall ObjectReply). h.gate))) c.below;
  each = λ place gate at.
      let seat = seat_there last.seats place gate at in
      let less = at_below last.seats place seat.0 seat.1 in
      let closing = there closings place (omega arith) in
      let known = c.each place seat.0 closing.0 seat.1 closing.1 in
      subst (λ ts. IsLegal (Moves GatedMoves gated_counts) gate.opening ts) known.1
      (subst (λ (g : Gateway Gated). IsLegal (Moves GatedMoves gated_counts) g.opening known.0.log) seat.2
      known.0.legal);
}
