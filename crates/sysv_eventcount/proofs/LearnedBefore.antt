-- What a value teaches a seat that had seen less.
use Rattle.std.proofs.Common.{◌≡◌, ℕ, ◌≤◌, subst, arith}
use Rattle.sysv_eventcount.specs.Counter.{Holding, saw, Learns}

-- What a seat learns from a value after it has seen another value, it also learns before.
pub learns_before : (h k : Holding) (n : ℕ) → k ≡ saw k.seen h → h.seen ≤ k.seen → Learns k n → Learns h n
learns_before h k n is le told =
    let same : Learns (saw k.seen h) n = subst (λ (x : Holding). Learns x n) is told in
    let since = told.since in
    record {
      since = omega arith;
      own_additions = same.own_additions;
      none_twice = same.none_twice;
      alone = same.alone;
      within = same.within;
    }
