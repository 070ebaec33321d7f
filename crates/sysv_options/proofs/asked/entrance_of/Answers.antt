-- The parts of a word that names a socket are those that were found.
use Rattle.std.proofs.Common.{◌≤◌, List, ℕ, length, subst, sym}
use Rattle.sysv_options.specs.declared.asked.TheConstants.{MAX_PATH}
use Rattle.sysv_options.specs.Servers.{AreIds, AsksForFileAt}
use Rattle.sysv_options.specs.Words.{words_in}
use Rattle.sysv_options.proofs.EntranceLemmas.{ids_are, parts_of, unmarked_is_none}
use Rattle.sysv_options.proofs.asked.entrance_of.Goals as goal

pub returns-in_default : goal.returns-in_default
returns-in_default c = λ value is.
    unmarked_is_none (words_in c.args.words.now) c.args.word.now c.in_default.ensures value is

pub returns-in_default-ids_in : goal.returns-in_default-ids_in
returns-in_default-ids_in c = λ value is.
    c.in_default-ids_in.ensures (is.uid, is.gid) (subst (λ (l : List ℕ). AreIds l (is.uid, is.gid))
    (sym c.as_bytes.ensures.value) (ids_are (words_in c.args.words.now) c.args.word.now c.in-Some.path.now
    c.in-Some.ids.now c.in-Some.ensures value is))

pub returns-then-not-is_path : goal.returns-then-not-is_path
returns-then-not-is_path c = λ value is.
    let same = parts_of (words_in c.args.words.now) c.args.word.now c.in-Some.path.now c.in-Some.ids.now
    c.in-Some.ensures value is in
    c.is_path.ensures.none c.if-not-is_path.true
    (subst (λ (p : List ℕ). (1 ≤ length p) × (length p ≤ MAX_PATH)) (sym same.0) (is.least, is.most))

pub returns-in-Err : goal.returns-in-Err
returns-in-Err c = λ value is.
    let same = parts_of (words_in c.args.words.now) c.args.word.now c.in-Some.path.now c.in-Some.ids.now
    c.in-Some.ensures value is in
    c.in-Err.ensures value.file (
      sym same.0,
      subst (λ (p : List ℕ). AsksForFileAt (words_in c.args.words.now) p
          value.file) (sym same.0) is.file,
    )
