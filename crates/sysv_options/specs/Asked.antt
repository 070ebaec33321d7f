-- The requests that a command line may make (this project's programs).
use Rattle.std.specs.Prelude.{ℕ, ◌≤◌, ⊤}
use Rattle.sysv_options.specs.declared.asked.Asked.{Asked}
use Rattle.sysv_options.specs.declared.asked.Asked.TheVariants.{Script, Serve, Look, Save, Load, Client}
use Rattle.sysv_options.specs.declared.asked.Serving.{Serving}
use Rattle.sysv_server.specs.declared.serving.TheConstants.{MAX_CLIENTS}
use Rattle.sysv_server.specs.declared.terms.Terms.{Terms}
use Rattle.sysv_clients.specs.Run.{HasShortText}
use Rattle.sysv_model.specs.declared.limits.TheConstants.{MIN_BLOCKS, MAX_BLOCKS}

-- The requests of command lines.
abbrev pub Requested : Type 0
Requested = Asked Serving

-- A pool may have this number of blocks.
abbrev pub AreBlocks : ℕ → Type 0
AreBlocks n = (MIN_BLOCKS ≤ n) × (n ≤ MAX_BLOCKS)

-- `--workers` may ask for this number of workers.
abbrev pub AreWorkers : ℕ → Type 0
AreWorkers n = (1 ≤ n) × (n ≤ 16)

-- A server may have this number of sessions at once.
abbrev pub AreAtOnce : ℕ → Type 0
AreAtOnce n = (1 ≤ n) × (n ≤ MAX_CLIENTS)

-- The terms have a number of blocks that a pool may have, and numbers of workers and of sessions at
-- once that a server may have.
abbrev pub AreTerms : Terms → Type 0
AreTerms terms = AreBlocks terms.blocks × AreWorkers terms.workers × AreAtOnce terms.at_once

-- The terms of the server are within the limits.
abbrev pub HasLimits : Serving → Type 0
HasLimits serving = AreTerms serving.terms

-- The request is within the limits of the server or the client: the terms of a server, and the body
-- of a `snd`.
abbrev pub IsWithinLimits : Requested → Type 0
IsWithinLimits Script = ⊤
IsWithinLimits (Serve serving) = HasLimits serving
IsWithinLimits (Look looking) = ⊤
IsWithinLimits (Save who saving) = ⊤
IsWithinLimits (Load who loading) = ⊤
IsWithinLimits (Client path who task how) = HasShortText task
