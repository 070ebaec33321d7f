-- What a call has to do at the registry (this project's profile). A call has to settle or give up
-- each identifier that the registry made for it, and to forget the identifier of a queue that it
-- removed. A later operation of the call does so, or the call is still before that operation.
use Rattle.std.specs.Prelude.{◌≡◌, ℕ, ℤ, ◌⊎◌, List, ◌∷◌, ◌++◌, Contains}
use Rattle.sysv_model.specs.declared.cred.Cred.{Cred}
use Rattle.sysv_model.specs.Message.{Message}
use Rattle.sysv_model.specs.History.{Remove, Discarded}
use Rattle.sysv_model.specs.Registry.{RegistryCall, Settle, Forget, RegistryReply, Made}
use Rattle.sysv_model.specs.Turn.{Op, AtSlot, AtRegistry}
use Rattle.sysv_steps.specs.Call.{Kind, kind_of}
use Rattle.sysv_steps.specs.Call.{SystemCall}
use Rattle.sysv_steps.specs.State.{AtInstall, AtSettle, AtUnmake, AtForget, State, Goes}
use Rattle.sysv_steps.specs.Begin.{begin}
use Rattle.sysv_steps.specs.Played.{Plays}

-- The call still has to settle this identifier or to give it up.
abbrev pub HasToSettle : {kind : Kind} → State kind → ℤ → Type 0
HasToSettle (Goes (AtInstall get made)) id = made ≡ id
HasToSettle (Goes (AtSettle made)) id = made ≡ id
HasToSettle (Goes (AtUnmake made)) id = made ≡ id
HasToSettle state id = ⊥

-- The call still has to forget this identifier, whose queue it removed.
abbrev pub HasToForget : {kind : Kind} → State kind → ℤ → Type 0
HasToForget (Goes (AtForget removed blocks)) id = removed ≡ id
HasToForget state id = ⊥

-- One of the operations settles this identifier.
abbrev pub Settles : List Op → ℤ → Type 0
Settles ops id = (reply : RegistryReply) × Contains ops (AtRegistry (Settle id) reply)

-- One of the operations forgets this identifier.
abbrev pub Forgets : List Op → ℤ → Type 0
Forgets ops id = (reply : RegistryReply) × Contains ops (AtRegistry (Forget id) reply)

-- Each identifier that was made, and each whose queue was removed, is dealt with by a later
-- operation or still has to be.
pub record IsTended {kind : Kind} (ops : List Op) (state : State kind) : Type 0 where
  pub made : (before after : List Op) (call : RegistryCall) (id : ℤ) →
      ops ≡ before ++ AtRegistry call (Made id) ∷ after →
      HasToSettle state id ⊎ Settles after id ⊎ Forgets after id
  pub removed : (before after : List Op) (slot : ℕ) (cred : Cred) (messages : List Message) (id : ℤ) →
      ops ≡ before ++ AtSlot slot (Remove id cred) (Discarded messages) ∷ after →
      HasToForget state id ⊎ Forgets after id

-- This holds in each state to which a call plays.
abbrev pub EachIsTended : Type 0
EachIsTended = (cred : Cred) (asked : SystemCall) (released : ℕ) (ops : List Op) (state : State (kind_of asked)) →
    Plays (begin cred asked released) ops state → IsTended ops state
