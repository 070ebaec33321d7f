-- A history is legal if the history before its last turn is legal and the last reply is legal.
use Rattle.std.proofs.Common.{◌≡◌, [], ◌∷◌, ◌++◌, inl, inr, refl, sym, subst, ap, ◌∙◌, append_assoc}
use Rattle.sysv_model.specs.History.{Entry, History}
use Rattle.sysv_queue.specs.LegalReply.{IsLegalReply, IsLegalHistory}
use Rattle.sysv_model.proofs.Snoc.{at_end}

no_entry : (before after : History) (e : Entry) → [] ≡ before ++ e ∷ after → ⊥
no_entry [] after e h = cc
no_entry (b ∷ before) after e h = cc

pub legal_empty : IsLegalHistory []
legal_empty before e after h = absurd (no_entry before after e h)

pub legal_more : (h : History) (e : Entry) → IsLegalHistory h → IsLegalReply h e.call e.reply →
    IsLegalHistory (h ++ e ∷ [])
legal_more h e legal last before f after same =
    elim (at_end h before after e f same) [
      | inl w ↦ let front : before ≡ h = w.1 in let entry : f ≡ e = w.2 in
          subst (λ (k : History). IsLegalReply k f.call f.reply) (sym front)
          (subst (λ (g : Entry). IsLegalReply h g.call g.reply) (sym entry) last)
      | inr w ↦ legal before f w.0 w.2
    ]

pub legal_front : (h : History) (e : Entry) → IsLegalHistory (h ++ e ∷ []) → IsLegalHistory h
legal_front h e legal before f after same =
    legal before f (after ++ e ∷ []) (ap (λ (k : History). k ++ e ∷ []) same ∙ append_assoc before (f ∷ after) (e ∷ []))

-- The first part of a legal history is legal.
pub legal_start : (h k : History) → IsLegalHistory (h ++ k) → IsLegalHistory h
legal_start h k legal before f after same =
    legal before f (after ++ k) (ap (λ (x : History). x ++ k) same ∙ append_assoc before (f ∷ after) k)

pub legal_last : (h : History) (e : Entry) → IsLegalHistory (h ++ e ∷ []) → IsLegalReply h e.call e.reply
legal_last h e legal = legal h e [] refl
