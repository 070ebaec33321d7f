-- A history is legal if the history before its last turn is legal and the last reply is legal.
use Rattle.std.proofs.Common.{ℕ, [], ◌∷◌, ◌++◌, inl, inr, ap, ◌∙◌, append_assoc}
use Rattle.sysv_model.specs.Registry.{RegistryEntry, RegistryHistory}
use Rattle.sysv_keys.specs.LegalReply.{IsLegalReply, IsLegalHistory}
use Rattle.sysv_model.proofs.Snoc.{at_end}

pub legal_empty : (opening : ℕ) → IsLegalHistory opening []
legal_empty opening [] e after h = absurd cc
legal_empty opening (b ∷ before) e after h = absurd cc

pub legal_more : (opening : ℕ) (h : RegistryHistory) (e : RegistryEntry) → IsLegalHistory opening h →
    IsLegalReply opening h e.call e.reply → IsLegalHistory opening (h ++ e ∷ [])
legal_more opening h e legal last before f after same =
    elim (at_end h before after e f same) [
      | inl w ↦ rw (w.1, w.2) last
      | inr w ↦ legal before f w.0 w.2
    ]

-- The first part of a legal history is legal.
pub legal_front : (opening : ℕ) (h rest : RegistryHistory) → IsLegalHistory opening (h ++ rest) →
    IsLegalHistory opening h
legal_front opening h rest legal before f after same =
    legal before f (after ++ rest) (ap (λ (k : RegistryHistory). k ++ rest) same ∙ append_assoc before (f ∷ after) rest)
