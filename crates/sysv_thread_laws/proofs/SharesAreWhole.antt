-- The shares of all passes together are always the whole.
use Rattle.std.proofs.Common.{◌≡◌, ℕ, suc, List, ◌∷◌, ◌++◌, map, sym, ap, subst, append_assoc}
use Rattle.std.specs.List.{flat_map}
use Rattle.std.proofs.lemmas.Grind.{flat_map-append}
use Rattle.sysv_model.specs.Members.{Member, AreWhole}
use Rattle.sysv_model.proofs.Sharing.{all_at_first, split_whole, turned_whole, does_shares}
use Rattle.sysv_thread_laws.specs.Order.{Called}
use Rattle.sysv_thread_laws.specs.Team.{IsTeam, opens, calls, reads, goes_on, splits, joins, turns_to}

abbrev pub shares_of : List Member → List ℕ
shares_of passes = flat_map (λ (p : Member). p.shares) passes

same_shares : (before after : Member) (rest : List Member) → after.shares ≡ before.shares →
    AreWhole (shares_of (before ∷ rest)) → AreWhole (shares_of (after ∷ rest))
same_shares before after rest e w = subst (λ ss. AreWhole (ss ++ shares_of rest)) (sym e) w

pub all_have_the_whole : {passes : List Member} {made : List Called} → IsTeam passes made → AreWhole (shares_of passes)
all_have_the_whole (opens number) = all_at_first
all_have_the_whole (calls {one = one} {rest = rest} call after team by played done) =
    same_shares one after rest (does_shares done) (all_have_the_whole team)
all_have_the_whole (reads {one = one} {rest = rest} slot reply after team turn) =
    same_shares one after rest (ap (λ (p : Member). p.shares) turn.goes_on) (all_have_the_whole team)
all_have_the_whole (goes_on {one = one} {rest = rest} after team s) =
    same_shares one after rest (ap (λ (p : Member). p.shares) s.goes_on) (all_have_the_whole team)
all_have_the_whole (splits {one = one} {rest = rest} kept new team s) =
    subst (λ ss. AreWhole (ss ++ (new.shares ++ shares_of rest))) (sym (ap (λ (p : Member). p.shares) s.parent))
    (subst (λ ss. AreWhole (map suc one.shares ++ (ss ++ shares_of rest))) (sym (ap (λ (p : Member). p.shares) s.child))
    (split_whole one.shares (shares_of rest) (all_have_the_whole team)))
all_have_the_whole (joins {one = one} {two = two} {rest = rest} after team j) =
    subst (λ ss. AreWhole (ss ++ shares_of rest)) (sym (ap (λ (p : Member). p.shares) j.joined))
    (subst AreWhole (sym (append_assoc one.shares two.shares (shares_of rest))) (all_have_the_whole team))
all_have_the_whole (turns_to {one = one} before rest team) =
    let w : AreWhole (shares_of before ++ (one.shares ++ shares_of rest)) =
    subst AreWhole (flat_map-append (λ (p : Member). p.shares) before (one ∷ rest)) (all_have_the_whole team) in
    subst (λ ss. AreWhole (one.shares ++ ss)) (sym (flat_map-append (λ (p : Member). p.shares) before rest))
    (turned_whole (shares_of before) one.shares (shares_of rest) w)
