use Rattle.std.proofs.Common.{◌≡◌, ◌++◌, ℕ, List, ap, codes, ◌∙◌, append_assoc}
use Rattle.std.specs.Fmt.{decimal}
use Rattle.sysv_clients.specs.Queue.{json_owner}
use Rattle.sysv_clients.specs.Table.{mode_text}
use Rattle.sysv_clients.proofs.queue_line.Line.json_owner.Goals as goal

in_parts : (old a b c d : List ℕ) → (((old ++ a) ++ b) ++ c) ++ d ≡ old ++ (a ++ (b ++ (c ++ d)))
in_parts old a b c d = simp append_assoc

pub returns-clause-after : goal.returns-clause-after
unfolding json_owner
returns-clause-after c =
    let row = c.args.row.now in
    let old = c.args.self.now in
    c.put-3.ensures.after ∙ ap (λ (l : List ℕ). c.put-2.new.self ++ l) c.octal_digits.ensures
    ∙ ap (λ (l : List ℕ). l ++ mode_text row.mode) (c.put-2.ensures.after
    ∙ ap (λ (l : List ℕ). l ++ codes ",\"perms\":\"") (c.digits.ensures.after
    ∙ ap (λ (l : List ℕ). l ++ decimal row.uid) c.put.ensures.after))
    ∙ in_parts old (codes ",\"owner\":") (decimal row.uid) (codes ",\"perms\":\"") (mode_text row.mode)
