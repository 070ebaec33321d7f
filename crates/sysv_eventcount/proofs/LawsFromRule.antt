-- Proves the two laws from the rule.
use Rattle.std.proofs.Common.{sym, arith}
use Rattle.sysv_eventcount.specs.declared.view.View.{View}
use Rattle.sysv_lists.specs.Numbers.{times}
use Rattle.sysv_eventcount.specs.Laws.{NoNumberInTwoSeats, NoValueIsInvented}
use Rattle.sysv_lists.proofs.Sums.{two-le-sum_by}
use Rattle.sysv_lists.proofs.Counting.{once_between-le}

pub one_seat : NoNumberInTwoSeats
one_seat first n views kept i j v w apart at there x =
    let all = kept.once x in
    let two = two-le-sum_by (λ (u : View). times x u.own) views i j v w (λ e. apart (sym e)) at there in
    omega (arith, once_between-le first n x)

pub seen_first : NoValueIsInvented
seen_first first n views kept i v at = (kept.each i v at).seen
