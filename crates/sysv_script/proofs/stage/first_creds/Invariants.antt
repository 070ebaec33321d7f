use Rattle.std.proofs.Common.{◌≡◌, length}
use Rattle.sysv_script.proofs.CredLemmas.{AreFirst}
use Rattle.sysv_script.proofs.stage.first_creds.Given as goal

abbrev pub invariant-loop-place : goal.invariant-loop-place
invariant-loop-place l = (length l.creds ≡ 16) × AreFirst l.creds l.place
