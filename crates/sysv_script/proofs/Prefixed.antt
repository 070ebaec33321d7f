-- What two reads return, and what two writes take, one after the other.
use Rattle.std.proofs.Common.{◌≡◌, ℕ, List, [], ◌++◌, Option, Result, Ok, Err, sym, ap, subst, ◌∙◌, append_assoc}
use Rattle.std.proofs.Common.{append-nil}
use Rattle.std.specs.Prelude.{OnErr}
use Rattle.std.specs.Io.KnownBytes.{Appends}
use Rattle.std.proofs.KnownBytes.{Appends-trans, Consumes-trans}
use Rattle.sysv_lists.specs.Prefix.{IsPrefixOf}
use Rattle.sysv_lists.proofs.Prefixes.{prefix_self}
use Rattle.sysv_model.specs.Writing.{AppendsPrefix}
use Rattle.sysv_script.specs.Streams.{HandsOn, TakesIn}

pub prefix_none : (none text : List ℕ) → none ≡ [] → IsPrefixOf none text
prefix_none none text e = (text, ap (λ l. l ++ text) (sym e))

-- A prefix, after the same bytes in front of both.
pub prefix_after : (front part whole : List ℕ) → IsPrefixOf part whole → IsPrefixOf (front ++ part) (front ++ whole)
prefix_after front part whole b = (b.0, ap (λ l. front ++ l) b.1 ∙ sym (append_assoc front part b.0))

pub HandsOn-all : (a b c : Option (List ℕ)) (waiting rest none : List ℕ) → HandsOn a waiting b rest → Appends b c rest →
    none ≡ [] → HandsOn a waiting c none
HandsOn-all a b c waiting rest none before all e = (
  waiting,
  sym (ap (λ l. waiting ++ l) e ∙ append-nil waiting),
  subst (Appends a c) (sym before.1) (Appends-trans a b c before.0 rest before.2 all),
)

-- Some bytes are written, and then the rest of them.
pub HandsOn-whole : (a b c : Option (List ℕ)) (waiting rest : List ℕ) → HandsOn a waiting b rest → Appends b c rest →
    Appends a c waiting
HandsOn-whole a b c waiting rest before all =
    subst (Appends a c) (sym before.1) (Appends-trans a b c before.0 rest before.2 all)

pub HandsOn-part : (a b c : Option (List ℕ)) (waiting rest : List ℕ) → HandsOn a waiting b rest →
    AppendsPrefix b c rest → AppendsPrefix a c waiting
HandsOn-part a b c waiting rest before part =
    let joined : IsPrefixOf (before.0 ++ part.0) (before.0 ++ rest) = prefix_after before.0 part.0 rest part.1 in (
      before.0 ++ part.0,
      subst (IsPrefixOf (before.0 ++ part.0)) (sym before.1) joined,
      Appends-trans a b c before.0 part.0 before.2 part.2,
    )

pub AppendsPrefix-all : (a b : Option (List ℕ)) (bytes : List ℕ) → Appends a b bytes → AppendsPrefix a b bytes
AppendsPrefix-all a b bytes all = (bytes, prefix_self bytes, all)

pub TakesIn-trans : (a b c : Option (List ℕ)) (x y z : List ℕ) → TakesIn a x b y → TakesIn b y c z → TakesIn a x c z
TakesIn-trans a b c x y z first second = (
  first.0 ++ second.0,
  second.1 ∙ ap (λ l. l ++ second.0) first.1 ∙ append_assoc x first.0 second.0,
  Consumes-trans a b c first.0 second.0 first.2 second.2,
)

pub OnErr-from : {T E P : Type 0} (r : Result T E) → P → OnErr r P
OnErr-from (Ok x) p = tt
OnErr-from (Err e) p = p
