-- What the replies of calls that name a queue say about it, and what its removal means for good
-- (this profile's: POSIX.1-2017, msgctl, IPC_RMID defines the removal, but does not say whether an
-- identifier is used again). A call is told that its identifier is not live if and only if it is
-- not live; only a set of a limit above the maximum fails with the same errno for another reason.
-- An identifier is live from its install to its removal. If it is installed once, then after its
-- removal it accepts and delivers nothing more, and each call that names it is told that it is not
-- live.
use Rattle.std.specs.Prelude.{◌≡◌, ◌≤◌, ℤ, true, false, [], ◌∷◌, ◌++◌, All, ⊤}
use Rattle.sysv_model.specs.declared.errno.Errno.TheVariants.{EINVAL}
use Rattle.sysv_model.specs.declared.limits.TheConstants.{MAX_QBYTES}
use Rattle.sysv_model.specs.History.{Call, Probe, Look, Place, Take, ReadStat, Set, Remove, Reply, Gone, Refused, Entry}
use Rattle.sysv_model.specs.History.{History}
use Rattle.sysv_model.specs.Live.{IsLive}
use Rattle.sysv_model.specs.Waiting.{accepted, delivered, waiting}
use Rattle.sysv_queue.specs.LegalReply.{IsLegalReply, IsLegalHistory}
use Rattle.sysv_queue.specs.QueueLaw.{removes, installs}

-- The call names a queue by this identifier. An install creates a queue, and a row names none.
abbrev pub NamesId : ℤ → Call → Type 0
NamesId id (Probe at cred flags) = at ≡ id
NamesId id (Look at cred size) = at ≡ id
NamesId id (Place at cred mtype bytes now) = at ≡ id
NamesId id (Take at cred selector size noerror now) = at ≡ id
NamesId id (ReadStat at cred) = at ≡ id
NamesId id (Set at cred to now) = at ≡ id
NamesId id (Remove at cred) = at ≡ id
NamesId id call = ⊥

-- The reply to a call whose identifier is not live.
abbrev pub not_live_reply : Call → Reply
not_live_reply (ReadStat id cred) = Refused EINVAL
not_live_reply (Set id cred to now) = Refused EINVAL
not_live_reply (Remove id cred) = Refused EINVAL
not_live_reply call = Gone

-- The call is not a set of a limit above the maximum, which fails with the same errno.
abbrev pub IsWithinMost : Call → Type 0
IsWithinMost (Set id cred to now) = to.qbytes ≤ MAX_QBYTES
IsWithinMost call = ⊤

-- A call whose identifier is not live is told that it is not.
abbrev pub ToldNotLive : Type 0
ToldNotLive = (h : History) (id : ℤ) (call : Call) (reply : Reply) → NamesId id call → IsLegalReply h call reply →
    ¬ IsLive h id → reply ≡ not_live_reply call

-- If a call has any other reply, its identifier is live.
abbrev pub FoundLive : Type 0
FoundLive = (h : History) (id : ℤ) (call : Call) (reply : Reply) → NamesId id call → IsLegalReply h call reply →
    ¬ (reply ≡ not_live_reply call) → IsLive h id

-- If a call is told that its identifier is not live, it is not live. A set of a limit above the
-- maximum is excepted.
abbrev pub FoundNotLive : Type 0
FoundNotLive = (h : History) (id : ℤ) (call : Call) → NamesId id call → IsWithinMost call →
    IsLegalReply h call (not_live_reply call) → ¬ IsLive h id

-- An identifier that was installed and not removed since is live.
abbrev pub LivesTillRemoved : Type 0
LivesTillRemoved = (h : History) (id : ℤ) → IsLegalHistory h → (before since : History) (e : Entry) →
    h ≡ before ++ e ∷ since → installs id e.call e.reply ≡ true →
    All (λ (t : Entry). removes id t.call t.reply ≡ false) since → IsLive h id

-- No two turns install the identifier.
abbrev pub IsInstalledOnce : ℤ → History → Type 0
IsInstalledOnce id h = (before middle after : History) (e f : Entry) → h ≡ before ++ e ∷ (middle ++ f ∷ after) →
    installs id e.call e.reply ≡ true → installs id f.call f.reply ≡ false

-- What holds of an identifier after its removal, for the turns since then and the whole history.
pub record IsGoneSince (id : ℤ) (after h : History) : Type 0 where
  pub accepts_none : accepted id after ≡ []
  pub delivers_none : delivered id after ≡ []
  pub not_live : ¬ IsLive h id
  pub none_waits : waiting id h ≡ []
  pub told : All (λ (t : Entry). NamesId id t.call → t.reply ≡ not_live_reply t.call) after

-- An identifier that is installed once is gone for good after its removal.
abbrev pub RemovedForGood : Type 0
RemovedForGood =
    (h : History) (id : ℤ) → IsLegalHistory h → IsInstalledOnce id h → (before after : History) (e : Entry) →
    h ≡ before ++ e ∷ after → removes id e.call e.reply ≡ true → IsGoneSince id after h
