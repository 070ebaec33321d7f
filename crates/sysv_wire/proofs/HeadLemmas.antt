-- Why a head is refused, and where it breaks off.
use Rattle.std.proofs.Common.{ℕ, ◌^◌, ◌<◌, ◌≤◌, List, ◌++◌, Option, refl, inr}
use Rattle.std.specs.Io.KnownBytes.{Consumes}
use Rattle.sysv_wire.specs.declared.fault.Fault.{Fault}
use Rattle.sysv_wire.specs.declared.fault.Fault.TheVariants.{Truncated, TooLong, BadOp, BadField, Read}
use Rattle.sysv_wire.specs.Faults.{Faults, Breaks, IsShorter, LengthFault, HeadFault}
use Rattle.sysv_wire.specs.Numbers.{u32_bytes}
use Rattle.sysv_wire.proofs.StreamLemmas.{Faults-after}

pub head_refused : (least most n : ℕ) (fault : Fault) (a b : Option (List ℕ)) → n < 2 ^ 32 →
    Consumes a b (u32_bytes n) → LengthFault least most n fault → Faults (HeadFault least most) fault a b
head_refused least most n TooLong a b small first why = (u32_bytes n, first, (n, small, why, refl), tt)
head_refused least most n BadField a b small first why = (u32_bytes n, first, (n, small, why, refl), tt)
head_refused least most n Truncated a b small first why = absurd why
head_refused least most n BadOp a b small first why = absurd why
head_refused least most n Read a b small first why = absurd why

breaks_head : (least most n : ℕ) (fault : Fault) → least ≤ n → n ≤ most → (taken : List ℕ) →
    Breaks (IsShorter least) fault taken → HeadFault least most fault (u32_bytes n ++ taken)
breaks_head least most n Truncated low high taken why = inr (n, taken, low, high, why, refl)
breaks_head least most n Read low high taken why = tt
breaks_head least most n TooLong low high taken why = absurd why
breaks_head least most n BadOp low high taken why = absurd why
breaks_head least most n BadField low high taken why = absurd why

pub head_broken : (least most n : ℕ) (fault : Fault) (a b c : Option (List ℕ)) → least ≤ n → n ≤ most →
    Consumes a b (u32_bytes n) → Faults (Breaks (IsShorter least)) fault b c → Faults (HeadFault least most) fault a c
head_broken least most n fault a b c low high first second =
    Faults-after (Breaks (IsShorter least)) (HeadFault least most) fault a b c (u32_bytes n) first second
    (breaks_head least most n fault low high)
