-- Each call has exactly one legal reply, because there are enough blocks or there are not.
use Rattle.std.proofs.Common.{◌≡◌, ◌+◌, inl, inr, refl, sym, ap, ◌∙◌, arith}
use Rattle.sysv_lists.proofs.Orders.{at_most}
use Rattle.sysv_model.specs.Pool.{blocks_for, PoolCall, Reserve, Release, PoolReply, Reserved, TooFew, Released}
use Rattle.sysv_model.specs.Pool.{Foreign}
use Rattle.sysv_pool.specs.State.{State, state_of}
use Rattle.sysv_pool.specs.LegalReply.{Legal}
use Rattle.sysv_pool.specs.OneReply.{SomeReplyIsLegal, NoTwoRepliesAreLegal}

some_reply : (pool : State) (call : PoolCall) → (reply : PoolReply) × Legal pool call reply
some_reply pool (Reserve size) = elim (at_most (blocks_for size) pool.free) [
  | inl enough ↦ (Reserved (blocks_for size), (enough, refl))
  | inr few ↦ (TooFew, few)
]
some_reply pool (Release blocks) = elim (at_most (pool.free + blocks) pool.size) [
  | inl fits ↦ (Released, fits)
  | inr over ↦ (Foreign, over)
]

pub some_reply_is_legal : SomeReplyIsLegal
some_reply_is_legal size h call = some_reply (state_of size h) call

one_reply : (pool : State) (call : PoolCall) (a b : PoolReply) → Legal pool call a → Legal pool call b → a ≡ b
one_reply pool (Reserve size) (Reserved m) (Reserved n) la lb = ap Reserved (la.1 ∙ sym lb.1)
one_reply pool (Reserve size) (Reserved m) TooFew la lb = absurd (omega (arith, la.0))
one_reply pool (Reserve size) (Reserved m) Released la lb = absurd lb
one_reply pool (Reserve size) (Reserved m) Foreign la lb = absurd lb
one_reply pool (Reserve size) TooFew (Reserved n) la lb = absurd (omega (arith, lb.0))
one_reply pool (Reserve size) TooFew TooFew la lb = refl
one_reply pool (Reserve size) TooFew Released la lb = absurd lb
one_reply pool (Reserve size) TooFew Foreign la lb = absurd lb
one_reply pool (Reserve size) Released b la lb = absurd la
one_reply pool (Reserve size) Foreign b la lb = absurd la
one_reply pool (Release blocks) (Reserved m) b la lb = absurd la
one_reply pool (Release blocks) TooFew b la lb = absurd la
one_reply pool (Release blocks) Released (Reserved n) la lb = absurd lb
one_reply pool (Release blocks) Released TooFew la lb = absurd lb
one_reply pool (Release blocks) Released Released la lb = refl
one_reply pool (Release blocks) Released Foreign la lb = absurd (omega arith)
one_reply pool (Release blocks) Foreign (Reserved n) la lb = absurd lb
one_reply pool (Release blocks) Foreign TooFew la lb = absurd lb
one_reply pool (Release blocks) Foreign Released la lb = absurd (omega arith)
one_reply pool (Release blocks) Foreign Foreign la lb = refl

pub no_two_replies_are_legal : NoTwoRepliesAreLegal
no_two_replies_are_legal size h call a b la lb = one_reply (state_of size h) call a b la lb
