-- What is refused as any request is refused is also refused after the hello.
use Rattle.std.proofs.Common.{ℕ, List, Option, inl}
use Rattle.sysv_session.specs.Input.{LaterFault}
use Rattle.sysv_wire.specs.declared.fault.Fault.{Fault}
use Rattle.sysv_wire.specs.declared.fault.Fault.TheVariants.{Truncated, TooLong, BadOp, BadField, Read}
use Rattle.sysv_wire.specs.declared.frame.Version.{Version}
use Rattle.sysv_wire.specs.Faults.{Faults, RequestFault}

pub refused_later : (newest version : Version) (fault : Fault) (old new : Option (List ℕ)) →
    Faults (RequestFault newest) fault old new → Faults (LaterFault newest version) fault old new
refused_later newest version Truncated old new found = found
refused_later newest version TooLong old new found = found
refused_later newest version BadOp old new found = (found.0, found.1, inl found.2, found.3)
refused_later newest version BadField old new found = (found.0, found.1, inl found.2, found.3)
refused_later newest version Read old new found = found
