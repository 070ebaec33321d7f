-- The credentials in a hello begin after 6, 10 and 14 bytes.
use Rattle.std.proofs.Common.{◌≡◌, ◌∙◌, ℕ, ◌+◌, ◌≤◌, ◌<◌, ◌^◌, List, ◌++◌, length, take, drop, ap, refl, sym, subst}
use Rattle.std.proofs.Common.{arith}
use Rattle.std.specs.Int.{w32, from_be_bytes}
use Rattle.std.proofs.lemmas.Nat.{from_be_bytes-to_be_bytes_4}
use Rattle.sysv_model.specs.declared.cred.Cred.{Cred}
use Rattle.sysv_session.specs.Input.{hello_encoding}
use Rattle.sysv_wire.specs.declared.frame.Version.{Version}
use Rattle.sysv_wire.specs.declared.request.Ask.TheVariants.{Hello}
use Rattle.sysv_wire.specs.Frames.{frame}
use Rattle.sysv_wire.specs.Numbers.{u32_bytes}
use Rattle.sysv_wire.specs.Requests.{FitsAsk, ask_fields}

-- A number in four bytes is the number that they spell.
number_is : (n : ℕ) → n < 2 ^ 32 → from_be_bytes w32 (u32_bytes n) ≡ n
unfolding u32_bytes
number_is n fits = from_be_bytes-to_be_bytes_4 n fits

uid_at : (version : Version) (cred : Cred) (later : List ℕ) →
    take 4 (drop 6 (hello_encoding version cred ++ later)) ≡ u32_bytes cred.uid
unfolding frame ask_fields u32_bytes
uid_at version cred later = refl

gid_at : (version : Version) (cred : Cred) (later : List ℕ) →
    take 4 (drop 10 (hello_encoding version cred ++ later)) ≡ u32_bytes cred.gid
unfolding frame ask_fields u32_bytes
gid_at version cred later = refl

pid_at : (version : Version) (cred : Cred) (later : List ℕ) →
    take 4 (drop 14 (hello_encoding version cred ++ later)) ≡ u32_bytes cred.pid
unfolding frame ask_fields u32_bytes
pid_at version cred later = refl

long : (version : Version) (cred : Cred) (later : List ℕ) → 18 ≤ length (hello_encoding version cred ++ later)
unfolding frame ask_fields u32_bytes
long version cred later = omega arith

-- The number that is read at a place is the one that stands there.
read_at : (at n value : ℕ) (bytes encoded : List ℕ) → bytes ≡ encoded → at + 4 ≤ length encoded →
    take 4 (drop at encoded) ≡ u32_bytes n → n < 2 ^ 32 →
    (at + 4 ≤ length bytes → value ≡ from_be_bytes w32 (take 4 (drop at bytes))) → value ≡ n
read_at at n value bytes encoded is fits there small read =
    read (subst (λ (l : List ℕ). at + 4 ≤ length l) (sym is) fits)
    ∙ (ap (λ (l : List ℕ). from_be_bytes w32 (take 4 (drop at l))) is
    ∙ (ap (from_be_bytes w32) there ∙ number_is n small))

-- What is read of the frame of a hello is its credentials.
pub hello_is : (version : Version) (cred : Cred) (later bytes : List ℕ) (uid gid pid : ℕ) → FitsAsk (Hello cred) →
    bytes ≡ hello_encoding version cred ++ later →
    (10 ≤ length bytes → uid ≡ from_be_bytes w32 (take 4 (drop 6 bytes))) →
    (14 ≤ length bytes → gid ≡ from_be_bytes w32 (take 4 (drop 10 bytes))) →
    (18 ≤ length bytes → pid ≡ from_be_bytes w32 (take 4 (drop 14 bytes))) →
    record { uid = uid; gid = gid; pid = pid } ≡ cred
hello_is version cred later bytes uid gid pid fits is u g p =
    let encoded = hello_encoding version cred ++ later in
    let all = long version cred later in
    let first = read_at 6 cred.uid uid bytes encoded is (omega (arith, all)) (uid_at version cred later) fits.0 u in
    let second = read_at 10 cred.gid gid bytes encoded is (omega (arith, all)) (gid_at version cred later) fits.1 g in
    let third = read_at 14 cred.pid pid bytes encoded is (omega (arith, all)) (pid_at version cred later) fits.2 p in
    ap (λ (n : ℕ). let c : Cred = record { uid = n; gid = gid; pid = pid } in c) first
    ∙ (ap (λ (n : ℕ). let c : Cred = record { uid = cred.uid; gid = n; pid = pid } in c) second
    ∙ ap (λ (n : ℕ). let c : Cred = record { uid = cred.uid; gid = cred.gid; pid = n } in c) third)
