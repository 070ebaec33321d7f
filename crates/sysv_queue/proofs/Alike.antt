-- What the reply to one call shows of another one.
use Rattle.std.proofs.Common.{◌≤◌, ℕ, ℤ, inl, inr, List, Option, None, Some, MatchOption, sym, subst, arith}
use Rattle.sysv_model.specs.declared.cred.Cred.{Cred}
use Rattle.sysv_model.specs.declared.attributes.Attributes.{Attributes}
use Rattle.sysv_model.specs.declared.attributes.Perm.{Perm}
use Rattle.sysv_model.specs.Message.{Message}
use Rattle.sysv_model.specs.Live.{live}
use Rattle.sysv_model.specs.Waiting.{held}
use Rattle.sysv_rules.specs.declared.permission.Want.{Want}
use Rattle.sysv_rules.specs.declared.permission.Want.TheVariants.{Read, Write}
use Rattle.sysv_rules.specs.Permission.{IsPermitted}
use Rattle.sysv_rules.specs.Qualifies.{Qualifies, NoneQualifies}
use Rattle.sysv_queue.specs.Alike.{IsSameUser, LongerIsFull, NoneIsLeft, ReadersAreAlike, WritersAreAlike}
use Rattle.sysv_queue.specs.Fits.{Fits as FitsOn}
use Rattle.sysv_queue.specs.Granted.{IsGranted}
use Rattle.sysv_queue.specs.Named.{types_of}
use Rattle.sysv_queue.proofs.NamedMessage.{named_qualifies, type_of_place}
use Rattle.sysv_queue.proofs.Rules.{NamedOrNone}

-- Where a longer message fits, a shorter one fits.
less_room : (l : Option Attributes) (ms : List Message) (size longer : ℕ) → size ≤ longer →
    MatchOption l ⊥ (λ (a : Attributes). FitsOn a.qbytes ms longer) →
    MatchOption l ⊥ (λ (a : Attributes). FitsOn a.qbytes ms size)
less_room None ms size longer less room = room
less_room (Some a) ms size longer less room = (omega (arith, less, room.0), room.1)

pub longer_is_full : LongerIsFull
longer_is_full h id one other size longer count less may full =
    (full.0, may, λ room. full.2 (less_room (live h) (held h) size longer less room), full.3)

pub none_is_left : NamedOrNone → NoneIsLeft
none_is_left named_or_none h id cred selector other size noerror now count m none named qualifies =
    let types = types_of (held h) in
    let left : NoneQualifies selector types =
    elim (named_or_none selector types) [ inl at ↦ absurd (none.2 at.0 at.1) | inr q ↦ q ] in
    left named.0 (
      (named_qualifies other types named.0 named.1).0,
      subst (λ (t : ℤ). Qualifies selector t) (sym (type_of_place (held h) named.0 m named.2)) qualifies,
    )

-- The access of a caller with this user and group.
abbrev Permits : Perm → Want → ℕ → ℕ → Type 0
Permits perm want user group = IsPermitted (record { uid = user; gid = group; pid = 0 }) perm want

-- Permission depends on user and group alone.
granted_alike : (want : Want) (one other : Cred) (l : Option Attributes) → IsSameUser one other →
    IsGranted want one l → IsGranted want other l
granted_alike want one other None same granted = granted
granted_alike want one other (Some a) same granted =
    subst (λ (user : ℕ). Permits a.perm want user other.gid) (sym same.0)
    (subst (λ (group : ℕ). Permits a.perm want one.uid group) (sym same.1) granted)

pub readers_are_alike : ReadersAreAlike
readers_are_alike h id one other selector wanted size bytes noerror cut now again count same none =
    (λ gone. gone none.0, λ denied. denied.1 (granted_alike Read one other (live h) same none.1))

pub writers_are_alike : WritersAreAlike
writers_are_alike h id one other size bytes count same (inl full) =
    (λ gone. gone full.0, λ denied. denied.1 (granted_alike Write one other (live h) same full.1))
writers_are_alike h id one other size bytes count same (inr fits) =
    (λ gone. gone fits.0, λ denied. denied.1 (granted_alike Write one other (live h) same fits.1))
