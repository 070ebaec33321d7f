-- What the reply to one call shows of another one that is made at the same moment (this profile's). If
-- one caller waits, another one that would get the same reply has to wait too.
use Rattle.std.specs.Prelude.{◌≡◌, ◌≤◌, ◌⊎◌, ℕ, ℤ, Bool}
use Rattle.sysv_model.specs.declared.cred.Cred.{Cred}
use Rattle.sysv_model.specs.declared.selector.Selector.{Selector}
use Rattle.sysv_model.specs.Message.{Message}
use Rattle.sysv_model.specs.History.{Look, Take, Gone, Denied, Full, Fits, NoMatch, History}
use Rattle.sysv_model.specs.Live.{live}
use Rattle.sysv_rules.specs.Qualifies.{Qualifies}
use Rattle.sysv_queue.specs.Slot.{slot_of}
use Rattle.sysv_queue.specs.Granted.{MayWrite}
use Rattle.sysv_queue.specs.LegalReply.{IsLegalReply, Names}

-- Both callers have the same user and group.
abbrev pub IsSameUser : Cred → Cred → Type 0
IsSameUser one other = (other.uid ≡ one.uid) × (other.gid ≡ one.gid)

-- If there is no room for a message, there is none for a longer one, whoever may write to the queue.
abbrev pub LongerIsFull : Type 0
LongerIsFull = (h : History) (id : ℤ) (one other : Cred) (size longer count : ℕ) → size ≤ longer →
    MayWrite other (live h) → IsLegalReply h (Look id one size) (Full count) →
    IsLegalReply h (Look id other longer) (Full count)

-- If a receive finds no match, it requests no message of the queue, whatever other selectors name.
abbrev pub NoneIsLeft : Type 0
NoneIsLeft = (h : History) (id : ℤ) (cred : Cred) (selector other : Selector) (size : ℕ) (noerror : Bool)
    (now count : ℕ) (m : Message) → IsLegalReply h (Take id cred selector size noerror now) (NoMatch count) →
    Names (slot_of h) other m → ¬ Qualifies selector m.mtype

-- If a receive finds no match, one of the same user and group finds the queue too, and may read it.
abbrev pub ReadersAreAlike : Type 0
ReadersAreAlike = (h : History) (id : ℤ) (one other : Cred) (selector wanted : Selector) (size bytes : ℕ)
    (noerror cut : Bool) (now again count : ℕ) → IsSameUser one other →
    IsLegalReply h (Take id one selector size noerror now) (NoMatch count) →
    ¬ IsLegalReply h (Take id other wanted bytes cut again) Gone
    × ¬ IsLegalReply h (Take id other wanted bytes cut again) Denied

-- If a send finds the queue full, or finds room and then waits for blocks, one of the same user and group
-- finds the queue too, and may write to it.
abbrev pub WritersAreAlike : Type 0
WritersAreAlike = (h : History) (id : ℤ) (one other : Cred) (size bytes count : ℕ) → IsSameUser one other →
    IsLegalReply h (Look id one size) (Full count) ⊎ IsLegalReply h (Look id one size) Fits →
    ¬ IsLegalReply h (Look id other bytes) Gone × ¬ IsLegalReply h (Look id other bytes) Denied
