-- Bodies in blocks of 64 bytes, each block in a box of its own.
use Rattle.std.proofs.Common.{◌≡◌, ℕ, ◌+◌, ◌-◌, ◌*◌, ◌<◌, ◌≤◌, min, inl, inr, zero, suc, List, [], ◌∷◌, ◌++◌, length}
use Rattle.std.proofs.Common.{take, drop, refl, sym, ap, ◌∙◌, arith, append_assoc, length-append, length-take}
use Rattle.std.proofs.Math.ListN.{get_or, set}
use Rattle.std.proofs.Math.Seq.{take-append-add, take-append_seam, drop-append-add}
use Rattle.std.proofs.lemmas.List.{take-append-le, take-take, take_all, drop-take, get_or-take, get_or-drop}
use Rattle.std.specs.declared.alloc.Global.{Global}
use Rattle.std.specs.declared.boxed.Box.{Box}
use Rattle.sysv_lists.proofs.Orders.{at_most}
use Rattle.sysv_model.specs.Body.{bytes_of, AreWhole, HasRoom}

abbrev pub Boxed : Type 0
Boxed = Box (List ℕ) Global

pub AreWhole-snoc : (blocks : List Boxed) (block : Boxed) → AreWhole blocks → length block.value ≡ 64 →
    AreWhole (blocks ++ block ∷ [])
AreWhole-snoc [] block w full = (full, tt)
AreWhole-snoc (b ∷ bs) block w full = (w.0, AreWhole-snoc bs block w.1 full)

pub AreWhole-set : (i : ℕ) (blocks : List Boxed) (block : Boxed) → AreWhole blocks → length block.value ≡ 64 →
    AreWhole (set blocks i block)
AreWhole-set i [] block w full = tt
AreWhole-set zero (b ∷ bs) block w full = (full, w.1)
AreWhole-set (suc i) (b ∷ bs) block w full = (w.0, AreWhole-set i bs block w.1 full)

pub length-bytes_of : (blocks : List Boxed) → AreWhole blocks → length (bytes_of blocks) ≡ length blocks * 64
length-bytes_of [] w = refl
length-bytes_of (b ∷ bs) w =
    let behind = length-bytes_of bs w.1 in
    let full = w.0 in
    omega (arith, length-append b.value (bytes_of bs), full, behind)

-- Each block, by its number.
pub block_at : (i : ℕ) (blocks : List Boxed) (d : Boxed) → AreWhole blocks → i < length blocks →
    take 64 (drop (i * 64) (bytes_of blocks)) ≡ (get_or blocks i d).value
block_at i [] d w within = absurd (omega arith)
block_at zero (b ∷ bs) d w within =
    ap (λ n. take n (b.value ++ bytes_of bs)) (sym w.0) ∙ take-append_seam b.value (bytes_of bs)
block_at (suc i) (b ∷ bs) d w within =
    let full = w.0 in
    let on : suc i * 64 ≡ length b.value + i * 64 = omega (arith, full) in
    ap (λ n. take 64 (drop n (b.value ++ bytes_of bs))) on
    ∙ (ap (λ t. take 64 t) (drop-append-add b.value (bytes_of bs) (i * 64)) ∙ block_at i bs d w.1 (omega arith))

-- Each byte, by its block and its index there.
pub byte_at : (i j : ℕ) (blocks : List Boxed) (d : Boxed) → AreWhole blocks → i < length blocks → j < 64 →
    get_or (bytes_of blocks) (i * 64 + j) 0 ≡ get_or (get_or blocks i d).value j 0
byte_at i j blocks d w within small =
    sym (get_or-drop (i * 64) (bytes_of blocks) j 0)
    ∙ (sym (get_or-take 64 (drop (i * 64) (bytes_of blocks)) j 0 small)
    ∙ ap (λ t. get_or t j 0) (block_at i blocks d w within))

-- A piece that is written into a block follows the bytes before it.
pub put_at : (i offset : ℕ) (blocks : List Boxed) (block d : Boxed) (fragment : List ℕ) → AreWhole blocks →
    i < length blocks →
    length block.value ≡ 64 → offset + length fragment ≤ 64 →
    take (offset + length fragment) block.value ≡ take offset (get_or blocks i d).value ++ fragment →
    take (i * 64 + offset + length fragment) (bytes_of (set blocks i block))
    ≡ take (i * 64 + offset) (bytes_of blocks) ++ fragment
put_at i offset [] block d fragment w within full fits put = absurd (omega arith)
put_at zero offset (b ∷ bs) block d fragment w within full fits put =
    let was = w.0 in
    let none : 0 * 64 + offset ≡ offset = omega arith in
    ap (λ n. take (n + length fragment) (block.value ++ bytes_of bs)) none
    ∙ (take-append-le (offset + length fragment) block.value (bytes_of bs) (omega arith)
    ∙ (put
    ∙ ap (λ t. t ++ fragment)
    (sym (ap (λ n. take n (b.value ++ bytes_of bs)) none
    ∙ take-append-le offset b.value (bytes_of bs) (omega (arith, was))))))
put_at (suc i) offset (b ∷ bs) block d fragment w within full fits put =
    let was = w.0 in
    let old = bytes_of bs in
    let new = bytes_of (set bs i block) in
    let on : suc i * 64 + offset ≡ length b.value + (i * 64 + offset) = omega (arith, was) in
    let beyond : suc i * 64 + offset + length fragment ≡ length b.value + (i * 64 + offset + length fragment) =
    omega (arith, was) in
    ap (λ n. take n (b.value ++ new)) beyond
    ∙ (take-append-add b.value new (i * 64 + offset + length fragment)
    ∙ (ap (λ t. b.value ++ t) (put_at i offset bs block d fragment w.1 (omega arith) full fits put)
    ∙ (sym (append_assoc b.value (take (i * 64 + offset) old) fragment)
    ∙ ap (λ t. t ++ fragment)
    (sym (ap (λ n. take n (b.value ++ old)) on ∙ take-append-add b.value old (i * 64 + offset))))))

-- A body that is no longer than its blocks has its full length.
pub length_kept : (blocks : List Boxed) (len : ℕ) → HasRoom blocks len → length (take len (bytes_of blocks)) ≡ len
length_kept blocks len kept =
    let all = length-bytes_of blocks kept.whole in
    let room = kept.room in
    let within = kept.within in
    omega (arith, length-take len (bytes_of blocks), all, room, within)

front_of_front : (m : ℕ) (bytes : List ℕ) → take (min 64 m) (take 64 bytes) ≡ take 64 (take m bytes)
front_of_front m bytes = elim (at_most 64 m) [
  | inl whole ↦
      let all : min 64 m ≡ 64 = omega arith in
      take-take (min 64 m) 64 bytes (omega arith) ∙ (ap (λ n. take n bytes) all ∙ sym (take-take 64 m bytes whole))
  | inr part ↦
      let all : min 64 m ≡ m = omega arith in
      take-take (min 64 m) 64 bytes (omega arith)
      ∙ (ap (λ n. take n bytes) all ∙ sym (take_all 64 (take m bytes) (omega (arith, length-take m bytes))))
]

-- The part of a block that a body of this length uses is the block of the body.
pub block_kept : (i len : ℕ) (blocks : List Boxed) (d : Boxed) → AreWhole blocks → i < length blocks → i * 64 < len →
    take (min 64 (len - i * 64)) (get_or blocks i d).value ≡ take 64 (drop (i * 64) (take len (bytes_of blocks)))
block_kept i len blocks d w within more =
    let rest = len - i * 64 in
    let parts : len ≡ i * 64 + rest = omega arith in
    ap (λ t. take (min 64 rest) t) (sym (block_at i blocks d w within))
    ∙ (front_of_front rest (drop (i * 64) (bytes_of blocks))
    ∙ ap (λ t. take 64 t)
    (sym (ap (λ n. drop (i * 64) (take n (bytes_of blocks))) parts ∙ drop-take (i * 64) rest (bytes_of blocks))))
