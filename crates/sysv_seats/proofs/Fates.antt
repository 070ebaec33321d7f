-- Each message that a hold gave is spent or held.
use Rattle.std.proofs.Common.{◌≡◌, ◌∙◌, ◌+◌, ℕ, ℤ, List, [], ◌∷◌, Option, None, Some, Result, Ok, Err, inl, inr}
use Rattle.std.proofs.Common.{ap, ap₂, refl, subst, sym, arith}
use Rattle.std.proofs.Common.{length, length-append}
use Rattle.std.specs.Prelude.{⊤}
use Rattle.std.specs.List.{FoldsTo}
use Rattle.sysv_model.specs.declared.attributes.Row.{Row as Line}
use Rattle.sysv_model.specs.declared.attributes.Stat.{Stat as Attributes}
use Rattle.sysv_model.specs.declared.cred.Cred.{Cred}
use Rattle.sysv_model.specs.declared.errno.Errno.{Errno}
use Rattle.sysv_queue.specs.Delivery.{Given}
use Rattle.sysv_session.specs.declared.handler.RequestOutcome.{RequestOutcome}
use Rattle.sysv_session.specs.declared.handler.RequestOutcome.TheVariants.{Left}
use Rattle.sysv_service.specs.Ran.{Pass}
use Rattle.sysv_wire.specs.declared.frame.Op.TheVariants as op
use Rattle.sysv_wire.specs.declared.frame.Version.{Version}
use Rattle.sysv_wire.specs.declared.frame.Version.TheVariants.{Three}
use Rattle.sysv_wire.specs.declared.reply.ReplyContent.TheVariants as content
use Rattle.sysv_wire.specs.declared.request.Ask.{Ask}
use Rattle.sysv_wire.specs.declared.request.Ask.TheVariants.{Hello, Get, Snd, Rcv, Stat, Set, Rm, Row, Hold, Done, Back}
use Rattle.sysv_service.specs.Told.{TellsRow}
use Rattle.sysv_wire.specs.declared.reply.Reply.{Reply as Answer}
use Rattle.sysv_wire.specs.Frames.{op_number}
use Rattle.sysv_seats.specs.Asked.{Asks, ComesFrom, ReadsReleased}
use Rattle.sysv_seats.specs.Fates.{EachMessageIsSpentOrHeld, given_by, held_count, returned_by, spent_by}
use Rattle.sysv_seats.specs.Held.{HoldAsks}
use Rattle.sysv_seats.specs.Holding as holding
use Rattle.sysv_seats.specs.Holding.{Holder, Message, Timed, back_outcome, done_outcome, held_by, hold_outcome, kept_by}
use Rattle.sysv_seats.specs.Holding.{late_by}
use Rattle.sysv_seats.specs.Sits.{zero_moment}
use Rattle.sysv_seats.specs.Replies.{done_reply, given_reply, id_reply, row_reply, stat_reply}
use Rattle.sysv_seats.proofs.HeldPieces.{none_held}

-- The outcome is neither a message to hold nor the reply that one was spent.
abbrev IsNeither : RequestOutcome → Type 0
IsNeither outcome = (given_by outcome ≡ 0) × (spent_by outcome ≡ 0)

id_is : (version : Version) (answer : Result ℤ Errno) → IsNeither (id_reply version answer)
id_is version (Ok id) = (refl, refl)
id_is version (Err why) = (refl, refl)

sent_is : (version : Version) (answer : Result ⊤ Errno) → IsNeither (done_reply version op.Snd content.Snd answer)
sent_is version (Ok zero) = (refl, refl)
sent_is version (Err why) = (refl, refl)

set_is : (version : Version) (answer : Result ⊤ Errno) → IsNeither (done_reply version op.Set content.Set answer)
set_is version (Ok zero) = (refl, refl)
set_is version (Err why) = (refl, refl)

removed_is : (version : Version) (answer : Result ⊤ Errno) → IsNeither (done_reply version op.Rm content.Rm answer)
removed_is version (Ok zero) = (refl, refl)
removed_is version (Err why) = (refl, refl)

got_is : (version : Version) (answer : Result Given Errno) → IsNeither (given_reply version answer)
got_is version (Ok delivery) = (refl, refl)
got_is version (Err why) = (refl, refl)

stat_is : (version : Version) (answer : Result Attributes Errno) → IsNeither (stat_reply version answer)
stat_is version (Ok stat) = (refl, refl)
stat_is version (Err why) = (refl, refl)

row_is : (version : Version) (answer : Result (Option Line) Errno) → IsNeither (row_reply version answer)
row_is version (Ok row) = (refl, refl)
row_is version (Err why) = (refl, refl)

module _ (may : ℕ → Type 0) (may_leave : Type 0) (version : Version) (cred : Cred) where
  -- Any other call has neither.
  neither : (ask : Ask) (text : List ℕ) (before : Pass) (outcome : RequestOutcome) (given : List ℕ) (after : Pass) →
      (ask ≡ Done → ⊥) → Asks may may_leave version cred ask text before outcome given after → IsNeither outcome
  neither (Hello other) text before outcome given after unspent asked = absurd asked
  neither (Get key flags) text before outcome given after unspent (inl over, none) =
      subst IsNeither (sym over.4) (id_is version over.0)
  neither (Get key flags) text before outcome given after unspent (inr left, none) = subst IsNeither (sym left.1)
      (refl, refl)
  neither (Snd id mtype flags) text before outcome given after unspent ((released, mid, read, inl over), none) =
      subst IsNeither (sym over.4) (sent_is version over.0)
  neither (Snd id mtype flags) text before outcome given after unspent ((released, mid, read, inr left), none) =
      subst IsNeither (sym left.1) (refl, refl)
  neither (Rcv id size mtype flags) text before outcome given after unspent (inl over) =
      subst IsNeither (sym over.4) (got_is version over.0)
  neither (Rcv id size mtype flags) text before outcome given after unspent (inr left) =
      subst IsNeither (sym left.2) (refl, refl)
  neither (Stat id) text before outcome given after unspent asked =
      subst IsNeither (sym asked.0.4) (stat_is version asked.0.0)
  neither (Set id to) text before outcome given after unspent asked =
      subst IsNeither (sym asked.0.4) (set_is version asked.0.0)
  neither (Rm id) text before outcome given after unspent asked =
      subst IsNeither (sym asked.0.4) (removed_is version asked.0.0)
  neither (Row slot) text before outcome given after unspent asked =
      subst IsNeither (sym asked.0.2) (row_is version asked.0.0)
  neither (Hold id size mtype flags seconds) text before outcome given after unspent asked =
      subst IsNeither (sym asked.0.1) (refl, refl)
  neither Done text before outcome given after unspent asked = absurd (unspent refl)
  neither Back text before outcome given after unspent asked = subst IsNeither (sym asked.0.1) (refl, refl)

  -- What a hold takes is held.
  holds_one : (id : ℤ) (seconds : ℕ) (answer : Result Given Errno) (given : List ℕ) →
      given_by (hold_outcome version (given_reply version answer))
      ≡ spent_by (hold_outcome version (given_reply version answer))
      + held_count (held_by cred id seconds (given_reply version answer) given)
  holds_one id seconds (Ok delivery) given = refl
  holds_one id seconds (Err why) given = refl

  spends_one : (message : Option Message) → held_count message + given_by (done_outcome version message)
      ≡ spent_by (done_outcome version message)
  spends_one None = refl
  spends_one (Some message) = refl

  -- After a call that neither gave nor spent a message the same is held.
  same_count : (outcome : RequestOutcome) (old new : Option Message) → IsNeither outcome → new ≡ old →
      held_count old + given_by outcome ≡ spent_by outcome + held_count new
  same_count outcome old new is same = omega (arith, is.0, is.1, ap held_count same)

  -- A back gives back what is held, and its outcome neither gives nor spends a message.
  backs_one : (message : Message) (outcome : RequestOutcome) (answer : Result ⊤ Errno) →
      outcome ≡ done_reply Three op.Snd content.Snd answer →
      IsNeither (back_outcome version outcome)
      × (1 ≡ returned_by Back (back_outcome version outcome) (Some message)
      + held_count (kept_by (Some message) outcome))
  backs_one message outcome (Ok zero) is = rw is ((refl, refl), refl)
  backs_one message outcome (Err why) is = rw is ((refl, refl), refl)

  -- What was sent again is given back, and what was left at its wait is held.
  back : (old : Holder Pass) (outcome : RequestOutcome) (new : Holder Pass) (message : Message)
      (came : RequestOutcome) → old.message ≡ Some message → outcome ≡ back_outcome version came →
      new.message ≡ kept_by old.message came → IsNeither (back_outcome version came) →
      1 ≡ returned_by Back (back_outcome version came) (Some message) + held_count (kept_by (Some message) came) →
      held_count old.message + given_by outcome
      ≡ spent_by outcome + returned_by Back outcome old.message + held_count new.message
  back old outcome new message came is told held neither counts =
      let kept : new.message ≡ kept_by (Some message) came =
      held ∙ ap (λ (h : Option Message). kept_by h came) is in
      let returned : returned_by Back outcome old.message
      ≡ returned_by Back (back_outcome version came) (Some message) =
      ap₂ (returned_by Back) told is in
      omega (
        arith,
        ap held_count is,
        ap given_by told,
        ap spent_by told,
        neither.0,
        neither.1,
        returned,
        counts,
        ap held_count kept,
      )

  one : (ask : Ask) (text : List ℕ) (old : Holder Pass) (outcome : RequestOutcome) (given : List ℕ)
      (new : Holder Pass) → HoldAsks may may_leave version cred ask text old outcome given new →
      held_count old.message + given_by outcome
      ≡ spent_by outcome + returned_by ask outcome old.message + held_count new.message
  one (Hold id size mtype flags seconds) text old outcome given new (inl refused) =
      let counts = same_count outcome old.message new.message (subst IsNeither (sym refused.2) (refl, refl))
      (ap (λ (h : Holder Pass). h.message) refused.0) in
      omega (arith, counts)
  one (Hold id size mtype flags seconds) text old outcome given new (inr (inl (can, why, asks, is, same, none))) =
      let counts = same_count outcome old.message new.message (subst IsNeither (sym is) (refl, refl)) same in
      omega (arith, counts)
  one (Hold id size mtype flags seconds) text old outcome given new
      (inr (inr (can, came, granted, asks, inl over, is, held))) =
      let none = none_held flags old.message can in
      let whole : came ≡ given_reply version over.0 = over.4 in
      let counts = subst (λ (o : RequestOutcome). given_by (hold_outcome version o)
      ≡ spent_by (hold_outcome version o) + held_count (held_by cred id seconds o given)) (sym whole)
      (holds_one id seconds over.0 given) in
      omega (
        arith,
        counts,
        ap held_count none,
        ap held_count held,
        ap given_by is,
        ap spent_by is,
      )
  one (Hold id size mtype flags seconds) text old outcome given new
      (inr (inr (can, came, granted, asks, inr left, is, held))) =
      let none = none_held flags old.message can in
      let gone : outcome ≡ Left = is ∙ ap (hold_outcome version) left.2 in
      let nothing : new.message ≡ None =
      held ∙ ap (λ (o : RequestOutcome). held_by cred id seconds o given) left.2 in
      omega (arith, ap held_count none, ap held_count nothing, ap given_by gone, ap spent_by gone)
  one Done text old outcome given new asked =
      let none : new.message ≡ None = ap (λ (h : Holder Pass). h.message) asked.0 in
      omega (
        arith,
        spends_one old.message,
        ap held_count none,
        ap given_by asked.1,
        ap spent_by asked.1,
      )
  one Back text old outcome given new (inl (none, same, told, empty)) =
      let nothing : returned_by Back outcome old.message ≡ 0 =
      ap₂ (returned_by Back) told none in
      let counts = same_count outcome old.message new.message (subst IsNeither (sym told) (refl, refl))
      (ap (λ (h : Holder Pass). h.message) same) in
      omega (arith, nothing, counts)
  one Back text old outcome given new
      (inr (message, is, came, (released, mid, read, inl over), told, held, empty)) =
      let ends = backs_one message came over.0 over.4 in
      back old outcome new message came is told held ends.0 ends.1
  one Back text old outcome given new
      (inr (message, is, came, (released, mid, read, inr left), told, held, empty)) =
      let gone : came ≡ Left = left.1 in
      back old outcome new message came is told held
      (subst (λ (o : RequestOutcome). IsNeither (back_outcome version o)) (sym gone) (refl, refl))
      (subst (λ (o : RequestOutcome). 1 ≡ returned_by Back (back_outcome version o) (Some message)
      + held_count (kept_by (Some message) o)) (sym gone) refl)
  one ask text old outcome given new asked =
      let counts = same_count outcome old.message new.message
      (neither ask text old.at outcome given new.at (λ is. cc is) asked.0) asked.1 in
      omega (arith, counts)

-- ---- the time of what is held

-- A message whose time was over has a reply to its send, or is still held.
replied_one : (message : Message) (late : List Answer) (answer : Result ⊤ Errno) →
    1 + length late ≡ length (late_by late (done_reply Three op.Snd content.Snd answer))
    + held_count (kept_by (Some message) (done_reply Three op.Snd content.Snd answer))
replied_one message late (Ok zero) =
    let answer : Answer = record { version = Three; op = op_number op.Snd; result = content.Snd } in
    omega (arith, length-append late (answer ∷ []))
replied_one message late (Err why) =
    let answer : Answer = record { version = Three; op = op_number op.Snd; result = content.Refused why } in
    omega (arith, length-append late (answer ∷ []))

lapse_one : (message : Message) (late : List Answer) (before : Pass) (outcome : RequestOutcome) (after : Pass) →
    holding.SendsAgain ComesFrom ReadsReleased TellsRow zero_moment ⊤ message before outcome after →
    1 + length late ≡ length (late_by late outcome) + held_count (kept_by (Some message) outcome)
lapse_one message late before outcome after (released, mid, read, inl over) =
    subst (λ (o : RequestOutcome). 1 + length late ≡ length (late_by late o) + held_count (kept_by (Some message) o))
    (sym over.4) (replied_one message late over.0)
lapse_one message late before outcome after (released, mid, read, inr left) =
    subst (λ (o : RequestOutcome). 1 + length late ≡ length (late_by late o) + held_count (kept_by (Some message) o))
    (sym left.1) (omega arith)

-- The number of messages that are held or were sent again.
abbrev counted : Timed Pass → ℕ
counted state = held_count state.holder.message + length state.late

lapses_keep : (before : Timed Pass) (outcome : RequestOutcome) (after : Timed Pass) →
    holding.Lapses ComesFrom ReadsReleased TellsRow zero_moment before outcome after → counted before ≡ counted after
lapses_keep before outcome after (message, is, limited, sends, kept, late) =
    omega (
      arith,
      lapse_one message before.late before.holder.at outcome after.holder.at sends,
      ap held_count is,
      ap held_count (kept ∙ ap (λ (h : Option Message). kept_by h outcome) is),
      ap (length {A = Answer}) late,
    )

lapsed_keep : (before : Timed Pass) (outcomes : List RequestOutcome) (after : Timed Pass) →
    FoldsTo (holding.Lapses ComesFrom ReadsReleased TellsRow zero_moment) before outcomes after →
    counted before ≡ counted after
lapsed_keep before [] after is = ap counted is
lapsed_keep before (outcome ∷ outcomes) after (mid, one, more) =
    lapses_keep before outcome mid one ∙ lapsed_keep mid outcomes after more

pub each_message : EachMessageIsSpentOrHeld
each_message cred old [] settled new is lapsed =
    let kept = lapsed_keep settled lapsed.0 new lapsed.1 in omega (arith, ap counted is, kept)
each_message cred old (call ∷ calls) settled new leads lapsed =
    let asks = leads.1 in
    omega (
      arith,
      lapsed_keep old asks.1.0 asks.0 asks.1.1,
      one zero_moment ⊤ call.request.version cred call.request.ask call.text asks.0.holder call.outcome call.given
          leads.0.holder asks.2,
      ap (length {A = Answer}) asks.3,
      each_message cred leads.0 calls settled new leads.2 lapsed,
    )
