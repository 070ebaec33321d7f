use Rattle.std.proofs.Common.{◌≡◌, ◌+◌, ◌-◌, ◌≤◌, ◌++◌, ℕ, List, replicate, ap, ◌∙◌, rules, arith, append_assoc}
use Rattle.std.proofs.lemmas.List.{replicate-append-replicate}
use Rattle.sysv_script.proofs.stage.fill.Goals as goal

abbrev letters : ℕ → List ℕ
letters n = replicate n 120

-- Some of the letters that are left are appended to the body.
letters_moved : (body : List ℕ) (p left count : ℕ) → p ≤ left → body ++ letters left ≡ letters count →
    (body ++ letters p) ++ letters (left - p) ≡ letters count
letters_moved body p left count within all =
    let sum : p + (left - p) ≡ left = omega arith in
    append_assoc body (letters p) (letters (left - p))
    ∙ (ap (λ xs. body ++ xs) (replicate-append-replicate p (left - p) 120) ∙ (ap (λ n. body ++ letters n) sum ∙ all))

pub loop-left-preserved : goal.loop-left-preserved
loop-left-preserved c =
    let left = c.loop-left.left in
    let p = c.min-piece.result in
    let within : p ≤ left = search rules in
    ap (λ xs. xs ++ letters (left - p)) c.push_letters.ensures
    ∙ letters_moved c.loop-left.body p left c.in-Letters.count within c.loop-left.invariant
