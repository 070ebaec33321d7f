-- Proves that the last pass of a service has the whole of it, also if gates were found worn out.
use Rattle.std.specs.List.{FoldsTo, flat_map}
use Rattle.std.proofs.Common.{◌≡◌, ℕ, suc, inl, inr, List, [], ◌∷◌, ◌++◌, map, reverse, Option, Result, Ok, Err, refl}
use Rattle.std.proofs.Common.{sym, ap, subst, ◌∙◌}
use Rattle.std.proofs.lemmas.List.{append_assoc, append-nil}
use Rattle.std.proofs.lemmas.Grind.{reverse_onto}
use Rattle.sysv_model.specs.declared.attributes.Row.{Row}
use Rattle.sysv_model.specs.declared.errno.Errno.{Errno}
use Rattle.sysv_model.specs.History.{ReadRow, Shown}
use Rattle.sysv_model.specs.Turn.{OfSlot, AtSlot}
use Rattle.sysv_steps.specs.Begin.{begin}
use Rattle.sysv_model.specs.Members.{Member, AreWhole}
use Rattle.sysv_model.proofs.Sharing.{all_at_first, split_whole, does_shares}
use Rattle.sysv_thread_laws.specs.Order.{Called}
use Rattle.sysv_bank.specs.Banks.{Each3}
use Rattle.sysv_service.specs.Seats.{Gates}
use Rattle.sysv_thread_laws.specs.Hiring.{first_pass, Gives, TakesIn, Hires}
use Rattle.sysv_thread_laws.specs.Lifetime.{any_moment}
use Rattle.sysv_service.specs.Ran.{Pass}
use Rattle.sysv_service.specs.Told.{TellsRow}
use Rattle.sysv_thread_laws.specs.Working as working
use Rattle.sysv_thread_laws.specs.Working.{Works}
use Rattle.sysv_service.proofs.DoneByPass.{turn_is_made, worn_is_seen, read_is_seen, does}

abbrev shares : Pass → List ℕ
shares pass = pass.seats.member.shares

abbrev share_in : Member → List ℕ
share_in member = member.shares

abbrev all_shares : List Pass → List ℕ
all_shares passes = flat_map shares passes

-- ---- one pass

row_shares : (slot : ℕ) (before : Pass) (result : Result (Option Row) Errno) (after : Pass) →
    TellsRow slot before result after → shares after ≡ shares before
row_shares slot before (Ok row) after told =
    ap share_in (turn_is_made before.seats after.seats (AtSlot slot ReadRow (Shown row)) told.1.turn).goes_on
row_shares slot before (Err why) after (inl none) = ap shares none.2
row_shares slot before (Err why) after (inr worn) =
    ap share_in (worn_is_seen before.seats after.seats (OfSlot slot ReadRow) worn.2).goes_on

works_shares : (old : Pass) (made : List Called) (new : Pass) → Works old made new → shares new ≡ shares old
works_shares old _ _ working.begins = refl
works_shares old _ _ (working.calls {made} {mid} cred asked released ops state new works ran) =
    does_shares (does any_moment (begin cred asked released) mid ops state new ran) ∙ works_shares old made mid works
works_shares old _ _ (working.reads_count {made} {mid} count value new works r same) =
    ap share_in (read_is_seen mid.seats new.seats count value r).goes_on ∙ works_shares old made mid works
works_shares old _ _ (working.asks_row {made} {mid} slot result new works told) =
    row_shares slot mid result new told ∙ works_shares old made mid works

-- ---- all passes

replaced : (before rest : List Pass) (t l : Pass) → shares l ≡ shares t →
    all_shares (before ++ t ∷ rest) ≡ all_shares (before ++ l ∷ rest)
replaced [] rest t l same = ap (λ ss. ss ++ all_shares rest) (sym same)
replaced (b ∷ before) rest t l same = ap (λ ss. shares b ++ ss) (replaced before rest t l same)

turned : (xs rest : List Pass) (x : Pass) → reverse xs ++ (x ∷ rest) ≡ reverse (x ∷ xs) ++ rest
turned xs rest x = sym (append_assoc (reverse xs) (x ∷ []) rest) ∙ ap (λ ps. ps ++ rest) (sym (reverse_onto xs x []))

given_whole : (theirs rest : List Pass) (own kept : Pass) → FoldsTo Gives own theirs kept →
    AreWhole (all_shares (own ∷ rest)) → AreWhole (all_shares (kept ∷ (reverse theirs ++ rest)))
given_whole [] rest own kept gives w = subst (λ (p : Pass). AreWhole (all_shares (p ∷ rest))) gives w
given_whole (t ∷ theirs) rest own kept gives w =
    let split = gives.1.0.member in
    let halves = split_whole (shares own) (all_shares rest) w in
    let next : AreWhole (all_shares (gives.0 ∷ t ∷ rest)) =
    subst (λ ss. AreWhole (ss ++ (shares t ++ all_shares rest))) (sym (ap share_in split.parent))
    (subst (λ ss. AreWhole (map suc (shares own) ++ (ss ++ all_shares rest))) (sym (ap share_in split.child)) halves) in
    subst (λ ps. AreWhole (all_shares (kept ∷ ps))) (turned theirs rest t)
    (given_whole theirs (t ∷ rest) gives.0 kept gives.2 next)

worked_whole : (theirs : List Pass) (each : List (List Called)) (left rest : List Pass) (kept : Pass) →
    Each3 Works theirs each left → AreWhole (all_shares (kept ∷ (reverse theirs ++ rest))) →
    AreWhole (all_shares (kept ∷ (reverse left ++ rest)))
worked_whole [] [] [] rest kept works w = w
worked_whole [] [] (z ∷ zs) rest kept works w = absurd works
worked_whole [] (y ∷ ys) zs rest kept works w = absurd works
worked_whole (x ∷ xs) [] zs rest kept works w = absurd works
worked_whole (x ∷ xs) (y ∷ ys) [] rest kept works w = absurd works
worked_whole (t ∷ theirs) (calls ∷ each) (l ∷ left) rest kept works w =
    let there = subst (λ ps. AreWhole (all_shares (kept ∷ ps))) (sym (turned theirs rest t)) w in
    let done = subst AreWhole (replaced (kept ∷ reverse theirs) rest t l (works_shares t calls l works.0)) there in
    subst (λ ps. AreWhole (all_shares (kept ∷ ps))) (turned left rest l)
    (worked_whole theirs each left (l ∷ rest) kept works.1 done)

taken_whole : (back : List Pass) (own home : Pass) → FoldsTo TakesIn own back home →
    AreWhole (all_shares (own ∷ back)) → AreWhole (all_shares (home ∷ []))
taken_whole [] own home takes w = subst (λ (p : Pass). AreWhole (all_shares (p ∷ []))) takes w
taken_whole (b ∷ back) own home takes w =
    taken_whole back takes.0 home takes.2
    (subst (λ ss. AreWhole (ss ++ all_shares back)) (sym (ap share_in takes.1.0.member.joined))
    (subst AreWhole (sym (append_assoc (shares own) (shares b) (all_shares back))) w))

pub last_is_whole : (gates : Gates) (theirs left : List Pass) (home last : Pass) (each : List (List Called))
    (calls : List Called) →
    Hires (first_pass gates) theirs left home → Each3 Works theirs each left → Works home calls last →
    AreWhole last.seats.member.shares
last_is_whole gates theirs left home last each calls hires works more =
    let responses = given_whole theirs [] (first_pass gates) hires.kept hires.gives all_at_first in
    let worked = worked_whole theirs each left [] hires.kept works responses in
    let back = taken_whole (reverse left) hires.kept home hires.takes
    (subst (λ ps. AreWhole (all_shares (hires.kept ∷ ps))) (append-nil (reverse left)) worked) in
    subst AreWhole (sym (works_shares home calls last more)) (subst AreWhole (append-nil (shares home)) back)
