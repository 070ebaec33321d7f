-- Proves that all seats of a `ManyBuffer` agree.
use Rattle.std.proofs.Common.{arith}
use Rattle.sysv_buffer.specs.ManyRing.{put_at, taken_at}
use Rattle.sysv_buffer.specs.ManyLaws.{OneList, NoPlaceTwice}
use Rattle.sysv_lists.proofs.Sums.{at-le-sum_by, two-le-sum_by}

module _ (T : Type 0) where
  pub one_list : OneList T
  one_list s g = (
    g.put,
    g.taken,
    g.runs.order,
    g.runs.within,
    λ i v at. let fit = g.seats.each i v at in (fit.seen, fit.own_put, fit.own_taken),
  )

  pub no_place_twice : NoPlaceTwice T
  no_place_twice s g = (
    λ i v at place.
        let put = at-le-sum_by (put_at place) s.views i v at in
        let taken = at-le-sum_by (taken_at place) s.views i v at in
        let most = g.seats.put_once place in
        let most' = g.seats.taken_once place in (omega arith, omega arith),
    λ i k v w apart at there place.
        let put = two-le-sum_by (put_at place) s.views i k v w apart at there in
        let taken = two-le-sum_by (taken_at place) s.views i k v w apart at there in
        let most = g.seats.put_once place in
        let most' = g.seats.taken_once place in (omega arith, omega arith),
  )
