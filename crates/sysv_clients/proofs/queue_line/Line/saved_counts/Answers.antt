use Rattle.std.proofs.Common.{◌≡◌, ◌∷◌, ◌++◌, ℕ, List, [], ap, codes, ◌∙◌, append_assoc}
use Rattle.std.specs.Fmt.{decimal}
use Rattle.sysv_clients.specs.Saved.{number_text, saved_counts}
use Rattle.sysv_clients.proofs.queue_line.Line.saved_counts.Goals as goal

in_parts : (old a b c d : List ℕ) → (((old ++ a) ++ b) ++ c) ++ d ≡ old ++ (a ++ (b ++ (c ++ d)))
in_parts old a b c d = simp append_assoc

pub returns-clause-after : goal.returns-clause-after
unfolding saved_counts
returns-clause-after c =
    let stat = c.args.stat.now in
    let old = c.args.self.now in
    c.put.ensures.after ∙ ap (λ (l : List ℕ). l ++ 125 ∷ 10 ∷ []) (c.member-3.ensures.after
    ∙ ap (λ (l : List ℕ). l ++ number_text (codes ",\"messages\":") (decimal stat.qnum)) (c.member-2.ensures.after
    ∙ ap (λ (l : List ℕ). l ++ number_text (codes ",\"bytes\":") (decimal stat.cbytes)) c.member.ensures.after))
    ∙ in_parts old (number_text (codes "\",\"qbytes\":") (decimal stat.qbytes))
    (number_text (codes ",\"bytes\":") (decimal stat.cbytes))
    (number_text (codes ",\"messages\":") (decimal stat.qnum)) (125 ∷ 10 ∷ [])
