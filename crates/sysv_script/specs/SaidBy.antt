-- The meanings of the code's lines, calls and bodies (this project's script language).
use Rattle.std.specs.Prelude.{◌≤◌, ⊤, ℕ, List, length, replicate}
use Rattle.sysv_model.specs.declared.limits.TheConstants.{BODY_ROOM, MIN_BLOCKS, MAX_BLOCKS}
use Rattle.sysv_steps.specs.declared.call.Call.{Call}
use Rattle.sysv_steps.specs.declared.call.Call.TheVariants as call
use Rattle.sysv_steps.specs.Call.{SystemCall}
use Rattle.sysv_steps.specs.Asked.{asked_by}
use Rattle.sysv_script.specs.declared.actor.TheConstants.{SCRIPT_ACTORS}
use Rattle.sysv_script.specs.Said.{Said, Nothing, MakesPreset, GivesCred, GivesMoment, Starts, StepsOnce, Continues}
use Rattle.sysv_script.specs.Said.{AllContinue, GivesBlocks}
use Rattle.sysv_script.specs.declared.call.Text.{Text}
use Rattle.sysv_script.specs.declared.call.Text.TheVariants.{Given, Letters}
use Rattle.sysv_script.specs.declared.line.Line.{Line}
use Rattle.sysv_script.specs.declared.line.Line.TheVariants as line

-- The bytes of a body.
abbrev pub text_bytes : Text → List ℕ
text_bytes (Given bytes) = bytes.now
text_bytes (Letters count) = replicate count 120

-- The call that a line starts.
abbrev pub call_asked : Call Text ⊤ → SystemCall
call_asked = asked_by text_bytes

-- The meaning of a line.
abbrev pub said_of : Line → Said
said_of line.Skipped = Nothing
said_of line.Preset = MakesPreset
said_of (line.Pool blocks) = GivesBlocks blocks
said_of (line.Cred actor cred) = GivesCred actor cred
said_of (line.Moment moment) = GivesMoment moment
said_of (line.Start actor call goes) = Starts actor (call_asked call) goes
said_of (line.Step actor) = StepsOnce actor
said_of (line.Go actor) = Continues actor
said_of line.All = AllContinue

-- The number is that of an actor, 1 to 16.
pub record IsOfActors (actor : ℕ) : Type 0 where
  pub least : 1 ≤ actor
  pub most : actor ≤ SCRIPT_ACTORS

-- A pool can have this number of blocks.
pub record IsPoolSize (blocks : ℕ) : Type 0 where
  pub least : MIN_BLOCKS ≤ blocks
  pub most : blocks ≤ MAX_BLOCKS

-- The bytes are at most 8,256.
abbrev pub FitsBody : Text → Type 0
FitsBody text = length (text_bytes text) ≤ BODY_ROOM

-- The body of the call, if it has one, has at most 8,256 bytes.
abbrev pub CallFits : Call Text ⊤ → Type 0
CallFits (call.Send id mtype flags body) = FitsBody body
CallFits (call.Get key flags) = ⊤
CallFits (call.Receive id size mtype flags body) = ⊤
CallFits (call.Stat id) = ⊤
CallFits (call.Set id to) = ⊤
CallFits (call.Remove id) = ⊤

-- An actor of the line is one of 16, the body of a call has at most 8,256 bytes, and a number of
-- blocks is one that a pool can have.
abbrev pub LineFits : Line → Type 0
LineFits line.Skipped = ⊤
LineFits line.Preset = ⊤
LineFits (line.Pool blocks) = IsPoolSize blocks
LineFits (line.Cred actor cred) = IsOfActors actor
LineFits (line.Moment moment) = ⊤
LineFits (line.Start actor call goes) = IsOfActors actor × CallFits call
LineFits (line.Step actor) = IsOfActors actor
LineFits (line.Go actor) = IsOfActors actor
LineFits line.All = ⊤
