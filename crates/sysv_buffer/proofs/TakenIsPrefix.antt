-- Proves that the items taken are a prefix of the items put.
use Rattle.std.proofs.Common.{◌≡◌, ◌++◌, take, drop, sym, ap, ◌∙◌, arith, length-drop}
use Rattle.std.proofs.lemmas.List.{take-append-drop, take-append-le}
use mathlib.Core.Option.{some, some-injective}
use lib.ListN.{get_elem?}
use Rattle.sysv_buffer.specs.declared.view.View.{View}
use Rattle.sysv_buffer.specs.Laws.{TakenIsABeginning}
use Rattle.sysv_buffer.proofs.StepKeepsRule.{at_producer, at_consumer}

module _ (T : Type 0) where
  pub taken_is_a_beginning : TakenIsABeginning T
  taken_is_a_beginning s held i k p c at one at' two =
      let w = at_producer s i p held at one in
      let g = w.0 in
      let r = g.runs in
      let u = at_consumer s k c held at' two in
      let second : some g.c ≡ some c =
      ap (λ l. get_elem? l 1) (sym g.ends) ∙ (ap (λ j. get_elem? s.views j) (sym u.1) ∙ at') in
      let is : g.c ≡ c = some-injective g.c c second in
      let t = g.taken in
      let put : p.put ≡ g.put = ap (λ (v : View T). v.put) (sym w.2) ∙ r.puts in
      let taken : c.taken ≡ t = ap (λ (v : View T). v.taken) (sym is) ∙ r.takes in
      let begins : take t g.put ≡ take t g.c.put = ap (take t) r.seen.1 ∙ take-append-le t g.c.put r.seen.0 r.known in
      let same : take c.taken c.put ≡ take t g.put =
      ap (λ n. take n c.put) taken ∙ (ap (λ (v : View T). take t v.put) (sym is) ∙ sym begins) in (
        drop t g.put,
        put ∙ (sym (take-append-drop t g.put) ∙ ap (λ l. l ++ drop t g.put) (sym same)),
        omega (arith, length-drop t g.put, r.within),
      )
