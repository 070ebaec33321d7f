-- What the screen took of words that are not valid.
use Rattle.std.proofs.Common.{◌≡◌, ◌≢◌, ◌∙◌, ◌⊎◌, ℕ, List, Option, inl, inr, sym}
use Rattle.clap.specs.declared.error.kind.ErrorKind.{ErrorKind}
use Rattle.clap.specs.declared.error.kind.ErrorKind.TheVariants.{DisplayHelp, DisplayVersion, InvalidValue, OutOfMemory}
use Rattle.sysv_connect.specs.declared.how.Telling.{Telling}
use Rattle.sysvmsg.specs.Running.{TellsError, TellsRefused}

-- An error that is not the help or the version is told as one.
pub no_help : (telling : Telling) (kind : ErrorKind) (shown after : Option (List ℕ))
    → (kind ≡ InvalidValue) ⊎ (kind ≡ OutOfMemory) → TellsRefused telling kind shown after
    → TellsError telling shown after
no_help telling kind shown after is (inr told) = told
no_help telling kind shown after (inl is) (inl (inl help, grown)) = absurd (apart (sym is ∙ help))
  where
    apart : InvalidValue ≢ DisplayHelp
    apart same = cc
no_help telling kind shown after (inl is) (inl (inr version, grown)) = absurd (apart (sym is ∙ version))
  where
    apart : InvalidValue ≢ DisplayVersion
    apart same = cc
no_help telling kind shown after (inr is) (inl (inl help, grown)) = absurd (apart (sym is ∙ help))
  where
    apart : OutOfMemory ≢ DisplayHelp
    apart same = cc
no_help telling kind shown after (inr is) (inl (inr version, grown)) = absurd (apart (sym is ∙ version))
  where
    apart : OutOfMemory ≢ DisplayVersion
    apart same = cc
