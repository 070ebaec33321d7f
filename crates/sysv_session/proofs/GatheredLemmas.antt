-- What an outbox represents, after each of its calls.
use Rattle.std.proofs.Common.{◌≡◌, ℕ, ◌+◌, ◌-◌, ◌<◌, ◌≤◌, true, false, not, nat_le, List, [], ◌∷◌, ◌++◌}
use Rattle.std.proofs.Common.{Option, length, take, drop, map, refl, sym, ap, ap₂, ◌∙◌, arith, append_assoc, append-nil}
use Rattle.std.proofs.Common.{length-append, length-take-le, take-append-drop, zero-add}
use Rattle.std.proofs.KnownBytes.{Appends-trans}
use Rattle.std.proofs.lemmas.Bool.Decides.{nat_tests}
use Rattle.std.proofs.lemmas.List.{map-append}
use Rattle.std.proofs.lemmas.List.Concat.{flat_map-append}
use Rattle.std.proofs.lemmas.List.Elements.{filter-append}
use Rattle.std.specs.List.{concat, filter}
use Rattle.sysv_queue.specs.Delivery.{Given}
use Rattle.sysv_session.specs.Gathered.{BreaksOffWithin, ClosesAll, Gathered, GathersMessage, GathersNone}
use Rattle.sysv_session.specs.Gathered.{GathersOn, GathersReply, all_bytes, marks_at, marks_from, message_frame}
use Rattle.sysv_session.specs.Gathered.{message_of, plain}
use Rattle.sysv_session.specs.Outbox.{Mark, beyond, is_passed, is_within, mark_at, nearer, passed}
use Rattle.sysv_session.specs.Outbox.{within}
use Rattle.sysv_session.specs.Output.{BreaksOff}
use Rattle.sysv_session.proofs.ListLemmas.{concat_more}
use Rattle.sysv_session.proofs.OutboxLemmas.{beyond-add, each_once, few_within, passed-add, within-beyond}
use Rattle.sysv_wire.specs.declared.frame.Version.{Version}
use Rattle.sysv_wire.specs.Frames.{frame}
use Rattle.sysv_wire.specs.Numbers.{u32_bytes}

pub gathers_none : GathersNone
gathers_none tally = record { bytes = refl; marks = refl; written = omega arith; lost = refl }

pub all_more : (replies : List Gathered) (reply : Gathered) →
    all_bytes (replies ++ reply ∷ []) ≡ all_bytes replies ++ reply.frame
all_more replies reply =
    flat_map-append (λ (r : Gathered). r.frame) replies (reply ∷ [])
    ∙ ap (λ l. all_bytes replies ++ l) (append-nil reply.frame)

-- The marks of one more reply, which ends where all frames end.
pub marks_more : (start : ℕ) (replies : List Gathered) (reply : Gathered) →
    marks_from start (replies ++ reply ∷ [])
    ≡ marks_from start replies ++ marks_at (start + length (all_bytes (replies ++ reply ∷ []))) reply.message
marks_more start [] reply =
    append-nil (marks_at (start + length reply.frame) reply.message)
    ∙ ap (λ (l : List ℕ). marks_at (start + length l) reply.message) (sym (append-nil reply.frame))
marks_more start (first ∷ more) reply =
    let place : start + length first.frame + length (all_bytes (more ++ reply ∷ []))
    ≡ start + length (all_bytes (first ∷ (more ++ reply ∷ []))) =
    omega (arith, length-append first.frame (all_bytes (more ++ reply ∷ []))) in
    ap (λ l. marks_at (start + length first.frame) first.message ++ l)
    (marks_more (start + length first.frame) more reply)
    ∙ sym (append_assoc (marks_at (start + length first.frame) first.message)
    (marks_from (start + length first.frame) more)
    (marks_at (start + length first.frame + length (all_bytes (more ++ reply ∷ []))) reply.message))
    ∙ ap (λ (n : ℕ). marks_from start (first ∷ more) ++ marks_at n reply.message) place

pub beyond-append : (n : ℕ) (xs ys : List Mark) → beyond n (xs ++ ys) ≡ beyond n xs ++ beyond n ys
beyond-append n xs ys =
    ap (map (nearer n)) (filter-append (λ (mark : Mark). not (is_passed n mark)) xs ys)
    ∙ map-append (nearer n) (filter (λ (mark : Mark). not (is_passed n mark)) xs)
    (filter (λ (mark : Mark). not (is_passed n mark)) ys)

pub within-append : (n : ℕ) (xs ys : List Mark) → within n (xs ++ ys) ≡ within n xs + within n ys
within-append n xs ys =
    ap (length {A = Mark}) (filter-append (is_within n) xs ys)
    ∙ length-append (filter (is_within n) xs) (filter (is_within n) ys)

pub passed-append : (n : ℕ) (xs ys : List Mark) → passed n (xs ++ ys) ≡ passed n xs + passed n ys
passed-append n xs ys =
    ap (length {A = Mark}) (filter-append (is_passed n) xs ys)
    ∙ length-append (filter (is_passed n) xs) (filter (is_passed n) ys)

-- A mark that ends behind the first n bytes.
one_beyond : (n place : ℕ) (given : Given) → n < place →
    beyond n (mark_at place given ∷ []) ≡ mark_at (place - n) given ∷ []
one_beyond n place given lt = let is : nat_le (1 + place) n ≡ false = grind (arith, nat_tests) in rw is

none_passed : (n place : ℕ) (given : Given) → n < place → passed n (mark_at place given ∷ []) ≡ 0
none_passed n place given lt = let is : nat_le (1 + place) n ≡ false = grind (arith, nat_tests) in rw is

-- Where the frames end, once one more was put in.
ends_at : (replies : List Gathered) (reply : Gathered) (taken bytes : List ℕ) → all_bytes replies ≡ taken ++ bytes →
    all_bytes (replies ++ reply ∷ []) ≡ taken ++ (bytes ++ reply.frame)
ends_at replies reply taken bytes old =
    all_more replies reply ∙ ap (λ l. l ++ reply.frame) old ∙ append_assoc taken bytes reply.frame

pub gathers_reply : GathersReply
gathers_reply start replies taken box tally frame old =
    let same : marks_from 0 (replies ++ plain frame ∷ []) ≡ marks_from 0 replies =
    marks_more 0 replies (plain frame) ∙ append-nil (marks_from 0 replies) in
    record {
      bytes = ends_at replies (plain frame) taken box.bytes old.bytes;
      marks = old.marks ∙ ap (beyond (length taken)) (sym same);
      written = old.written ∙ ap (λ (ms : List Mark). start.written + passed (length taken) ms) (sym same);
      lost = old.lost;
    }

some_bytes : (version : Version) (given : Given) (text : List ℕ) → 0 < length (message_frame version given text)
unfolding frame u32_bytes
some_bytes version given text = omega arith

pub gathers_message : GathersMessage
gathers_message start replies taken box tally version given text old =
    let reply = message_of version given text in
    let k = length taken in
    let bytes = ends_at replies reply taken box.bytes old.bytes in
    let place = length (all_bytes (replies ++ reply ∷ [])) in
    let all : place ≡ k + length (box.bytes ++ reply.frame) =
    ap (length {A = ℕ}) bytes ∙ length-append taken (box.bytes ++ reply.frame) in
    let behind : k < place =
    omega (arith, all, length-append box.bytes reply.frame, some_bytes version given text) in
    let left : place - k ≡ length (box.bytes ++ reply.frame) = omega (arith, all) in
    let more : marks_from 0 (replies ++ reply ∷ []) ≡ marks_from 0 replies ++ mark_at place given ∷ [] =
    marks_more 0 replies reply ∙ ap (λ (n : ℕ). marks_from 0 replies ++ mark_at n given ∷ []) (zero-add place) in
    record {
      bytes = bytes;
      marks = ap₂ (λ (ms : List Mark) (n : ℕ). ms ++ mark_at n given ∷ []) old.marks (sym left)
          ∙ ap (λ (ms : List Mark). beyond k (marks_from 0 replies) ++ ms) (sym (one_beyond k place given behind))
          ∙ sym (beyond-append k (marks_from 0 replies) (mark_at place given ∷ [])) ∙ ap (beyond k) (sym more);
      written = omega (
        arith,
        old.written,
        ap (passed k) more,
        passed-append k (marks_from 0 replies) (mark_at place given ∷ []),
        none_passed k place given behind,
      );
      lost = old.lost;
    }

pub gathers_on : GathersOn
gathers_on start replies taken box tally n fits old =
    let len : length (taken ++ take n box.bytes) ≡ length taken + n =
    omega (arith, length-append taken (take n box.bytes), length-take-le n box.bytes fits) in
    record {
      bytes = old.bytes ∙ ap (λ l. taken ++ l) (sym (take-append-drop n box.bytes))
          ∙ sym (append_assoc taken (take n box.bytes) (drop n box.bytes));
      marks = ap (beyond n) old.marks ∙ beyond-add (length taken) n (marks_from 0 replies)
          ∙ ap (λ (k : ℕ). beyond k (marks_from 0 replies)) (sym len);
      written = omega (
        arith,
        old.written,
        ap (passed n) old.marks,
        passed-add (length taken) n (marks_from 0 replies),
        ap (λ (k : ℕ). passed k (marks_from 0 replies)) len,
      );
      lost = old.lost;
    }

pub closes : ClosesAll
closes true start replies taken box tally old = record {
  rest = box.bytes;
  prefix = old.bytes;
  written = old.written;
  all = omega (
    arith,
    old.written,
    old.lost,
    ap (length {A = Mark}) old.marks,
    each_once (length taken) (marks_from 0 replies),
  );
}
closes false start replies taken box tally old = record {
  rest = box.bytes;
  prefix = old.bytes;
  written = omega (
    arith,
    old.written,
    ap (within 0) old.marks,
    within-beyond (length taken) (marks_from 0 replies),
  );
  all = omega (
    arith,
    old.written,
    old.lost,
    few_within 0 box.marks,
    ap (length {A = Mark}) old.marks,
    each_once (length taken) (marks_from 0 replies),
  );
}

pub breaks_off : BreaksOffWithin
breaks_off frames old new broken =
    let done = concat broken.0 in
    let part = broken.5 in
    let whole : concat frames ≡ (done ++ part.0) ++ part.1.0 =
    ap concat broken.3 ∙ concat_more broken.0 broken.1 ∙ ap (λ l. done ++ l) part.1.1
    ∙ sym (append_assoc done part.0 part.1.0) in
    (done ++ part.0, (part.1.0, whole), Appends-trans old broken.2 new done part.0 broken.4 part.2)

-- What was taken holds all frames but the last.
pub breaks_off_far : (frames : List (List ℕ)) (old new : Option (List ℕ)) (broken : BreaksOff frames old new) →
    length (concat broken.0) ≤ length (breaks_off frames old new broken).0
unfolding breaks_off
breaks_off_far frames old new broken = omega (arith, length-append (concat broken.0) broken.5.0)
