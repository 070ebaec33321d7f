use Rattle.std.proofs.Common.{◌≡◌, ◌++◌, ℕ, List, ap, codes, ◌∙◌, append_assoc}
use Rattle.std.specs.Fmt.{decimal}
use Rattle.sysv_clients.specs.Saved.{number_text, saved_perm}
use Rattle.sysv_clients.specs.Table.{mode_text}
use Rattle.sysv_clients.proofs.queue_line.Line.saved_perm.Goals as goal

in_parts : (old a b c d e f : List ℕ) →
    (((((old ++ a) ++ b) ++ c) ++ d) ++ e) ++ f ≡ old ++ (a ++ (b ++ (c ++ (d ++ (e ++ f)))))
in_parts old a b c d e f = simp append_assoc

pub returns-clause-after : goal.returns-clause-after
unfolding saved_perm
returns-clause-after c =
    let perm = c.args.perm.now in
    let old = c.args.self.now in
    c.put-2.ensures.after ∙ ap (λ (l : List ℕ). c.put.new.self ++ l) c.octal_digits.ensures
    ∙ ap (λ (l : List ℕ). l ++ mode_text perm.mode) (c.put.ensures.after
    ∙ ap (λ (l : List ℕ). l ++ codes ",\"perms\":\"") (c.member-4.ensures.after
    ∙ ap (λ (l : List ℕ). l ++ number_text (codes ",\"cgid\":") (decimal perm.cgid)) (c.member-3.ensures.after
    ∙ ap (λ (l : List ℕ). l ++ number_text (codes ",\"cuid\":") (decimal perm.cuid)) (c.member-2.ensures.after
    ∙ ap (λ (l : List ℕ). l ++ number_text (codes ",\"gid\":") (decimal perm.gid)) c.member.ensures.after))))
    ∙ in_parts old (number_text (codes ",\"uid\":") (decimal perm.uid))
    (number_text (codes ",\"gid\":") (decimal perm.gid)) (number_text (codes ",\"cuid\":") (decimal perm.cuid))
    (number_text (codes ",\"cgid\":") (decimal perm.cgid)) (codes ",\"perms\":\"") (mode_text perm.mode)
