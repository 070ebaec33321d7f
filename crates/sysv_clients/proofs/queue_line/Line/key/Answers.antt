use Rattle.std.proofs.Common.{◌≡◌, ℕ, ℤ, List, [], ◌++◌, get_or, ap, ◌∙◌, append_assoc, append-nil, codes}
use Rattle.std.specs.Int.{w32, cast_unsigned, to_be_bytes}
use Rattle.std.proofs.lemmas.Int.{to_z-of_z}
use Rattle.sysv_clients.specs.Table.{hex_byte, key_text}
use Rattle.sysv_clients.proofs.queue_line.Line.key.Goals as goal

in_parts : (old mark a b c d : List ℕ) →
    ((((old ++ mark) ++ a) ++ b) ++ c) ++ d ≡ old ++ (mark ++ (a ++ (b ++ (c ++ (d ++ [])))))
in_parts old mark a b c d = simp (append_assoc, append-nil)

pub returns-clause-after : goal.returns-clause-after
unfolding key_text
returns-clause-after c =
    let bytes = c.to_be_bytes.result in
    let old = c.args.self.now in
    let digits = λ (bytes : List ℕ).
    old
    ++ (codes "0x"
    ++ (hex_byte (get_or bytes 0 0)
    ++ (hex_byte (get_or bytes 1 0) ++ (hex_byte (get_or bytes 2 0) ++ (hex_byte (get_or bytes 3 0) ++ []))))) in
    c.byte-4.ensures.after
    ∙ ap (λ l. l ++ hex_byte (get_or bytes 3 0)) (c.byte-3.ensures.after
    ∙ ap (λ l. l ++ hex_byte (get_or bytes 2 0)) (c.byte-2.ensures.after
    ∙ ap (λ l. l ++ hex_byte (get_or bytes 1 0))
    (c.byte.ensures.after ∙ ap (λ l. l ++ hex_byte (get_or bytes 0 0)) c.put.ensures.after)))
    ∙ in_parts old (codes "0x") (hex_byte (get_or bytes 0 0)) (hex_byte (get_or bytes 1 0))
    (hex_byte (get_or bytes 2 0)) (hex_byte (get_or bytes 3 0))
    ∙ ap digits
    (c.to_be_bytes.ensures
    ∙ ap (λ (key : ℤ). to_be_bytes w32 (cast_unsigned w32 key)) (to_z-of_z w32 c.args.key c.ranges.key))
