-- Consecutive reads and writes.
use Rattle.std.proofs.Common.{◌≡◌, ℕ, ◌+◌, ◌*◌, ◌≤◌, List, ◌++◌, length, take, drop, Option, Result, Ok, Err, sym, ap}
use Rattle.std.proofs.Common.{subst, ◌∙◌, append_assoc, arith, length-append, take-append-drop}
use borrow.Rule.Slice.PartMut.{put_mid, post_of}
use lib.Seq.{take-append-add, take-add}
use Rattle.std.proofs.lemmas.List.{length-take-le, take-append-le}
use Rattle.std.specs.Io.KnownBytes.{Appends, Consumes}
use Rattle.std.specs.Prelude.{OnOk, OnErr}
use Rattle.std.proofs.KnownBytes.{Appends-trans, Consumes-trans}
use Rattle.sysv_wire.specs.declared.fault.Fault.{Fault}
use Rattle.sysv_wire.specs.Faults.{Faults}
use Rattle.sysv_lists.proofs.Prefixes.{prefix_longer}
use Rattle.sysv_model.specs.Writing.{AppendsPrefix}

-- Some bytes were appended, and then a prefix of the next bytes, which more may follow.
pub AppendsPrefix-after : (a b c : Option (List ℕ)) (done bytes more : List ℕ) → Appends a b done →
    AppendsPrefix b c bytes → AppendsPrefix a c (done ++ (bytes ++ more))
AppendsPrefix-after a b c done bytes more first second =
    let whole : done ++ (bytes ++ more) ≡ (done ++ second.0) ++ (second.1.0 ++ more) =
    ap (λ l. done ++ (l ++ more)) second.1.1 ∙ ap (λ l. done ++ l) (append_assoc second.0 second.1.0 more)
    ∙ sym (append_assoc done second.0 (second.1.0 ++ more)) in
    (done ++ second.0, (second.1.0 ++ more, whole), Appends-trans a b c done second.0 first second.2)

-- The bytes at the start, after `n` more bytes were put in after the first `a`.
pub came : (a n k : ℕ) (xs ys : List ℕ) → a ≤ length xs → n ≤ length ys →
    take (a + n) (put_mid a k xs ys) ≡ take a xs ++ take n ys
came a n k xs ys within fits =
    let len : length (take a xs) ≡ a = length-take-le a xs within in
    ap (λ m. take (m + n) (put_mid a k xs ys)) (sym len) ∙ take-append-add (take a xs) (ys ++ post_of a k xs) n
    ∙ ap (λ l. take a xs ++ l) (take-append-le n ys (post_of a k xs) fits)

pub length_came : (a n k : ℕ) (xs ys : List ℕ) → a ≤ length xs → n ≤ length ys → a + n ≤ length (put_mid a k xs ys)
length_came a n k xs ys within fits =
    omega (
      arith,
      length-take-le a xs within,
      length-append (take a xs) (ys ++ post_of a k xs),
      length-append ys (post_of a k xs),
    )

pub OnErr-from : {T E P : Type 0} (r : Result T E) → P → OnErr r P
OnErr-from (Ok x) p = tt
OnErr-from (Err e) p = p

-- Some bytes were taken, and then there is a fault.
pub Faults-after : (IsWhy IsWhole : Fault → List ℕ → Type 0) (fault : Fault) (a b c : Option (List ℕ)) (done : List ℕ)
    → Consumes a b done → Faults IsWhy fault b c
    → ((taken : List ℕ) → IsWhy fault taken → IsWhole fault (done ++ taken)) → Faults IsWhole fault a c
Faults-after IsWhy IsWhole fault a b c done first second lift =
    (done ++ second.0, Consumes-trans a b c done second.0 first second.1, lift second.0 second.2, second.3)

-- The blocks so far and the next block.
pub block_more : (k : ℕ) (text : List ℕ) → take (k * 64) text ++ take 64 (drop (k * 64) text) ≡ take ((k + 1) * 64) text
block_more k text =
    let more : k * 64 + 64 ≡ (k + 1) * 64 = omega arith in sym (take-add (k * 64) 64 text) ∙ ap (λ n. take n text) more

-- The blocks so far, the next block and the others.
pub block_parts : (k : ℕ) (text : List ℕ) →
    text ≡ take (k * 64) text ++ (take 64 (drop (k * 64) text) ++ drop 64 (drop (k * 64) text))
block_parts k text =
    sym (ap (λ l. take (k * 64) text ++ l) (take-append-drop 64 (drop (k * 64) text)) ∙ take-append-drop (k * 64) text)

-- A prefix of some bytes is also a prefix of those bytes with more after them.
pub AppendsPrefix-longer : (a b : Option (List ℕ)) (bytes more : List ℕ) → AppendsPrefix a b bytes →
    AppendsPrefix a b (bytes ++ more)
AppendsPrefix-longer a b bytes more first = (first.0, prefix_longer first.0 bytes more first.1, first.2)

-- Some bytes were appended, and then a prefix of others.
pub AppendsPrefix-next : {T E : Type 0} (r : Result T E) (a b c : Option (List ℕ)) (done bytes : List ℕ) →
    Appends a b done → OnErr r (AppendsPrefix b c bytes) → OnErr r (AppendsPrefix a c (done ++ bytes))
AppendsPrefix-next (Ok x) a b c done bytes first second = tt
AppendsPrefix-next (Err e) a b c done bytes first second = (
  done ++ second.0,
  (second.1.0, ap (λ l. done ++ l) second.1.1 ∙ sym (append_assoc done second.0 second.1.0)),
  Appends-trans a b c done second.0 first second.2,
)

pub Appends-next : {T E : Type 0} (r : Result T E) (a b c : Option (List ℕ)) (done bytes : List ℕ) → Appends a b done →
    OnOk r (Appends b c bytes) → OnOk r (Appends a c (done ++ bytes))
Appends-next (Ok x) a b c done bytes first second = Appends-trans a b c done bytes first second
Appends-next (Err e) a b c done bytes first second = tt

-- The bytes that were written, in an equal form.
pub Appends-as : {T E : Type 0} (r : Result T E) (a b : Option (List ℕ)) (bytes other : List ℕ) → bytes ≡ other →
    OnOk r (Appends a b bytes) → OnOk r (Appends a b other)
Appends-as r a b bytes other e first = subst (λ l. OnOk r (Appends a b l)) e first

pub AppendsPrefix-as : {T E : Type 0} (r : Result T E) (a b : Option (List ℕ)) (bytes other : List ℕ) → bytes ≡ other →
    OnErr r (AppendsPrefix a b bytes) → OnErr r (AppendsPrefix a b other)
AppendsPrefix-as r a b bytes other e first = subst (λ l. OnErr r (AppendsPrefix a b l)) e first
