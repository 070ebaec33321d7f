-- A refusal stays right until its count has risen (this profile's). If a receive finds no match, it
-- still finds none while the arrived count is the same. If a send finds the queue full, it still
-- does while the freed count is the same. Nothing else that happens at the slot changes this, so a
-- caller that waits for the count misses nothing.
use Rattle.std.specs.Prelude.{◌≡◌, ◌≤◌, ℕ, ℤ, Bool, List, ◌++◌, length}
use Rattle.sysv_model.specs.declared.cred.Cred.{Cred}
use Rattle.sysv_model.specs.declared.selector.Selector.{Selector}
use Rattle.sysv_model.specs.History.{Look, Place, Take, Full, NoMatch, History, arrived, freed}
use Rattle.sysv_queue.specs.LegalReply.{IsLegalReply, IsLegalHistory}

-- NoMatch stays right while the arrived count is the same, at whatever times the receive is made.
abbrev pub NoMatchStays : Type 0
NoMatchStays = (h more : History) (id : ℤ) (cred : Cred) (selector : Selector) (size : ℕ) (noerror : Bool)
    (first again count : ℕ) →
    IsLegalHistory (h ++ more) → arrived (h ++ more) ≡ arrived h →
    IsLegalReply h (Take id cred selector size noerror first) (NoMatch count) →
    IsLegalReply (h ++ more) (Take id cred selector size noerror again) (NoMatch count)

-- The Full of a look stays right while the freed count is the same.
abbrev pub FullStays : Type 0
FullStays = (h more : History) (id : ℤ) (cred : Cred) (size count : ℕ) →
    IsLegalHistory (h ++ more) → freed (h ++ more) ≡ freed h →
    IsLegalReply h (Look id cred size) (Full count) → IsLegalReply (h ++ more) (Look id cred size) (Full count)

-- After the Full of a place, made at any time, a look still replies Full while the freed count is
-- the same.
abbrev pub FullStaysForLook : Type 0
FullStaysForLook = (h more : History) (id : ℤ) (cred : Cred) (mtype : ℤ) (bytes : List ℕ) (now count : ℕ) →
    IsLegalHistory (h ++ more) → freed (h ++ more) ≡ freed h →
    IsLegalReply h (Place id cred mtype bytes now) (Full count) →
    IsLegalReply (h ++ more) (Look id cred (length bytes)) (Full count)

-- Neither count falls as a history goes on.
abbrev pub CountsNeverFall : Type 0
CountsNeverFall = (h more : History) → (arrived h ≤ arrived (h ++ more)) × (freed h ≤ freed (h ++ more))
