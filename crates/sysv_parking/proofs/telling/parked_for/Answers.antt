-- Each word is one of those that were read.
use Rattle.std.proofs.Common.{◌∙◌, ℕ, bit_or, inl, inr, sym, subst}
use Rattle.sysv_parking.specs.declared.changes.Change.{Change}
use Rattle.sysv_parking.specs.Agenda.{IsWordOf}
use Rattle.sysv_parking.proofs.Bits.{or_more, or_second}
use Rattle.sysv_parking.proofs.telling.parked_for.Goals as goal

pub returns-in-Queue : goal.returns-in-Queue
returns-in-Queue g c = λ word is.
    let one = c.word.result in
    let two = c.word-in-Queue.result in
    let three = c.word-in-Queue-2.result in
    elim (subst (λ (change : Change). IsWordOf change word) c.in-Queue.is is) [
      | inl e ↦ (
        one,
        subst (λ (w : ℕ). g.C.Tells.read w one) (sym e) c.word.ensures,
        λ worker bit. or_more (bit_or one two) three worker (or_more one two worker bit),
      )
      | inr more ↦ elim more [
        | inl e ↦ (
          two,
          subst (λ (w : ℕ). g.C.Tells.read w two) (c.room_word.ensures ∙ sym e) c.word-in-Queue.ensures,
          λ worker bit. or_more (bit_or one two) three worker (or_second one two worker bit),
        )
        | inr e ↦ (
          three,
          subst (λ (w : ℕ). g.C.Tells.read w three) (sym e) c.word-in-Queue-2.ensures,
          λ worker bit. or_second (bit_or one two) three worker bit,
        )
      ]
    ]
