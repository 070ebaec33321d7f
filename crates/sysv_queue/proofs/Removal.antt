-- The types that are left when one message is removed from the list.
use Rattle.std.proofs.Common.{◌≡◌, ℕ, zero, suc, List, [], ◌∷◌, refl, ap, remove}
use Rattle.sysv_model.specs.Message.{Message}
use Rattle.sysv_queue.specs.Named.{types_of}

pub types_of-remove : (ms : List Message) (place : ℕ) → types_of (remove ms place) ≡ remove (types_of ms) place
types_of-remove [] zero = refl
types_of-remove [] (suc place) = refl
types_of-remove (m ∷ ms) zero = refl
types_of-remove (m ∷ ms) (suc place) = ap (λ types. m.mtype ∷ types) (types_of-remove ms place)
