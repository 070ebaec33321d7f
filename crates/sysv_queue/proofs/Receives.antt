-- The turns of a receive that reached its queue, by the result of the store of messages.
use Rattle.std.proofs.Common.{◌≡◌, ℕ, ℤ, ◌+◌, ◌<◌, ◌≤◌, Bool, true, false, inl, inr, length, option_map, remove, refl}
use Rattle.std.proofs.Common.{sym, ap, subst, ◌∙◌, arith}
use Rattle.sysv_model.specs.declared.cred.Cred.{Cred}
use Rattle.sysv_model.specs.declared.limits.TheConstants.{MESSAGE_BYTES as most_bytes}
use Rattle.sysv_model.specs.declared.selector.Selector.{Selector}
use Rattle.sysv_model.specs.Message.{Message}
use Rattle.sysv_model.specs.History.{Take, NoMatch, TooLong, Taken}
use Rattle.sysv_model.specs.Live.{HasId, received_from}
use Rattle.sysv_rules.specs.Qualifies.{NoneQualifies}
use Rattle.sysv_messages.specs.Taking.{IsTaken, IsTooLong}
use Rattle.sysv_queue.specs.Slot.{Slot}
use Rattle.sysv_queue.specs.Granted.{MayRead}
use Rattle.sysv_queue.specs.Named.{types_of}
use Rattle.sysv_queue.specs.LegalReply.{IsGivable}
use Rattle.sysv_queue.specs.Represents.{MakesTurn}
use Rattle.sysv_queue.proofs.NamedMessage.{never_given, none_named}
use Rattle.sysv_queue.proofs.Turns.{quiet_take_no_match, quiet_take_too_long}
use Rattle.sysv_queue.proofs.Stands.{slot, turn_quiet, turn_taken}

-- A body longer than a receive may take is not received, and a body of at most that length is.
never_fits : (size most : ℕ) (noerror : Bool) (m : Message) → (noerror ≡ false → most ≡ size) →
    (noerror ≡ true → most ≡ most_bytes) →
    most < length m.bytes → length m.bytes ≤ most_bytes → ¬ IsGivable size noerror m
never_fits size most false m whole cut longer short = let is = whole refl in never_given size false m (omega arith) refl
never_fits size most true m whole cut longer short = let is = cut refl in absurd (omega arith)

fits : (size most : ℕ) (noerror : Bool) (m : Message) → (noerror ≡ false → most ≡ size) → length m.bytes ≤ most →
    IsGivable size noerror m
fits size most false m whole within = let is = whole refl in inl (omega arith)
fits size most true m whole within = inr refl

module _ (s : Slot) (id : ℤ) (cred : Cred) (sel : Selector) (size most : ℕ) (noerror : Bool) (now : ℕ)
    (lives : HasId s.live id) (may : MayRead cred s.live)
    (whole : noerror ≡ false → most ≡ size) (cut : noerror ≡ true → most ≡ most_bytes) where
  pub receives_none : (arrived : ℕ) → arrived ≡ s.arrived → NoneQualifies sel (types_of s.messages) →
      MakesTurn s (Take id cred sel size noerror now) (NoMatch arrived) s
  receives_none arrived is none = turn_quiet s _ _ (quiet_take_no_match id cred sel size noerror now arrived)
      (lives, may, none_named sel s.messages none, is)

  pub finds_too_long : IsTooLong sel most s.messages → MakesTurn s (Take id cred sel size noerror now) TooLong s
  finds_too_long long =
      turn_quiet s _ _ (quiet_take_too_long id cred sel size noerror now) (
        lives,
        may,
        (
          long.message,
          (long.position, long.named, long.there),
          never_fits size most noerror long.message whole cut long.longer long.short,
        ),
      )

  pub receives : (m : Message) (new : Slot) → IsTaken sel most s.messages m new.messages →
      new ≡ slot (option_map (received_from cred now) s.live) new.messages s.arrived (s.freed + 1) →
      MakesTurn s (Take id cred sel size noerror now) (Taken m) new
  receives m new taken after =
      let left : slot (option_map (received_from cred now) s.live) (remove s.messages taken.position) s.arrived
      (s.freed + 1) ≡ new =
      ap (λ ms. slot (option_map (received_from cred now) s.live) ms s.arrived (s.freed + 1)) (sym taken.left)
      ∙ sym after in
      subst (λ (x : Slot). MakesTurn s (Take id cred sel size noerror now) (Taken m) x) left
      (turn_taken s id cred sel size noerror now m taken.position taken.there
      (lives, may, (taken.position, taken.named, taken.there), fits size most noerror m whole taken.fits))
