-- Notifications are kept one after another, or that there was no room for one.
use Rattle.std.proofs.Common.{◌≡◌, ◌∙◌, ◌⊎◌, ◌≤◌, ◌||◌, ℤ, inl, inr, Bool, true, false, List, [], ◌∷◌, ◌++◌, ap}
use Rattle.std.proofs.Common.{append_assoc, append-nil, arith, length, length-append, refl, sym, subst}
use Rattle.std.specs.Prelude.{vec_capacity}
use Rattle.std.specs.List.{Contains, list_any}
use Rattle.std.proofs.lemmas.List.Elements.{Contains-append_cases, Contains-append_left, Contains-append_right}
use Rattle.sysv_seats.specs.declared.notification.Notification.{Notification}
use Rattle.sysv_seats.specs.declared.notification.Notification.TheVariants as notifications
use Rattle.sysv_seats.specs.declared.tools.Tools.{Tools}
use Rattle.sysv_seats.specs.Notification.{Keeps, is_taken, notifications_in, with_missed}

-- Nothing was kept.
pub keeps_none : (tools : Tools) → Keeps [] tools tools
keeps_none tools = (
  refl,
  refl,
  λ fits. (sym (append-nil tools.notifications.items), refl),
  λ it is. inl (subst (λ (l : List Notification). Contains l it) (append-nil (notifications_in tools)) is),
  λ missed. missed,
)

-- Some were kept, and then more.
pub keeps_both : (some more : List Notification) (old mid new : Tools) → Keeps some old mid → Keeps more mid new →
    Keeps (some ++ more) old new
keeps_both some more old mid new first second = (
  subst (λ (t : Tools). new ≡ record t { notifications = new.notifications; missed = new.missed }) first.0 second.0,
  second.1 ∙ first.1,
  λ fits.
      let there = old.notifications.items in
      let all = length-append there (some ++ more) in
      let both = length-append some more in
      let few = length-append there some in
      let one = first.2 (omega (arith, fits, all, both, few)) in
      let long = length-append mid.notifications.items more in
      let two = second.2 (omega (arith, fits, all, both, few, long, first.1, ap (length {A = Notification}) one.0)) in (
        two.0 ∙ (ap (λ (l : List Notification). l ++ more) one.0 ∙ append_assoc there some more),
        two.1 ∙ one.1,
      ),
  λ it is.
      let seen = notifications_in old in
      let early = subst (λ (l : List Notification). Contains l it) (sym (append_assoc seen some more)) is in
      elim (Contains-append_cases (seen ++ some) more it early) [
        | inl before ↦ elim (first.3 it before) [
          | inl there ↦ second.3 it (Contains-append_left (notifications_in mid) more it there)
          | inr missed ↦ inr (second.4 missed)
        ]
        | inr late ↦ second.3 it (Contains-append_right (notifications_in mid) more it late)
      ],
  λ missed. second.4 (first.4 missed),
)

kept_one : (missed : Bool) (kept : List Notification) (one it : Notification) →
    Contains (with_missed missed kept ++ one ∷ []) it →
    Contains (with_missed missed (kept ++ one ∷ [])) it ⊎ (missed ≡ true)
kept_one true kept one it is = inr refl
kept_one false kept one it is = inl is

-- One was kept.
pub keeps_one : (one : Notification) (old new : Tools) → new ≡ record old { notifications = new.notifications } →
    vec_capacity new.notifications ≡ vec_capacity old.notifications →
    new.notifications.items ≡ old.notifications.items ++ one ∷ [] → Keeps (one ∷ []) old new
keeps_one one old new rest room items =
    let missed : new.missed ≡ old.missed = ap (λ (t : Tools). t.missed) rest in (
      subst (λ (m : Bool). new ≡ record old { notifications = new.notifications; missed = m }) (sym missed) rest,
      room,
      λ fits. (items, missed),
      λ it is.
          let kept : Contains (with_missed old.missed (old.notifications.items ++ one ∷ [])) it
          ⊎ (old.missed ≡ true) = kept_one old.missed old.notifications.items one it is in
          elim kept [
            | inl there ↦ inl (subst (λ (l : List Notification). Contains (with_missed new.missed l) it) (sym items)
                (subst (λ (m : Bool). Contains (with_missed m (old.notifications.items ++ one ∷ [])) it) (sym missed)
                there))
            | inr was ↦ inr (missed ∙ was)
          ],
      λ was. missed ∙ was,
    )

-- There was no room for one.
pub keeps_missed : (one : Notification) (old new : Tools) → new ≡ record old { missed = true } →
    vec_capacity old.notifications ≤ length old.notifications.items → Keeps (one ∷ []) old new
keeps_missed one old new rest full =
    let missed : new.missed ≡ true = ap (λ (t : Tools). t.missed) rest in (
      subst (λ (t : Tools). new ≡ record old { notifications = t.notifications; missed = t.missed }) (sym rest) rest,
      ap (λ (t : Tools). vec_capacity t.notifications) rest,
      λ fits. absurd (let more = length-append old.notifications.items (one ∷ []) in omega (arith, fits, full, more)),
      λ it is. inr missed,
      λ was. missed,
    )

-- That there was no room for a notification does not tell that a message was taken.
pub taken_among : (mtype : ℤ) (missed : Bool) (kept : List Notification) →
    list_any (is_taken mtype) (with_missed missed kept) ≡ list_any (is_taken mtype) kept
taken_among mtype false kept = refl
taken_among mtype true [] = refl
taken_among mtype true (it ∷ kept) = ap (λ (b : Bool). is_taken mtype it || b) (taken_among mtype true kept)
