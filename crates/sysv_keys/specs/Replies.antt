-- The results of the registry's calls, as replies in its history (this profile's).
use Rattle.std.specs.Prelude.{◌≡◌, ⊤}
use Rattle.sysv_model.specs.Registry.{RegistryReply, Found, Made, Busy, Unbound}
use Rattle.sysv_keys.specs.declared.registry.Begun.{Begun}
use Rattle.sysv_keys.specs.declared.registry.Begun.TheVariants as begun
use Rattle.sysv_keys.specs.State.{Registry}

-- The result of begin.
abbrev pub begun_reply : Begun → RegistryReply
begun_reply (begun.Found id told) = Found id told
begun_reply (begun.Made id) = Made id
begun_reply (begun.Busy told) = Busy told
begun_reply (begun.Refused why) = Unbound why

-- A begin that makes no identifier leaves the registry unchanged.
abbrev pub ChangesOnlyIfMade : Begun → Registry → Registry → Type 0
ChangesOnlyIfMade (begun.Made id) old new = ⊤
ChangesOnlyIfMade answer old new = new ≡ old
