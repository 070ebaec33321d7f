-- A history is legal if the history before its last turn is legal and the last reply is legal.
use Rattle.std.proofs.Common.{◌≡◌, ℕ, [], ◌∷◌, ◌++◌, inl, inr, refl, sym, subst, ap, ◌∙◌, append_assoc}
use Rattle.sysv_model.specs.Pool.{PoolEntry, PoolHistory}
use Rattle.sysv_pool.specs.LegalReply.{IsLegalReply, IsLegalHistory}
use Rattle.sysv_model.proofs.Snoc.{at_end}

no_entry : (before after : PoolHistory) (e : PoolEntry) → [] ≡ before ++ e ∷ after → ⊥
no_entry [] after e h = cc
no_entry (b ∷ before) after e h = cc

module _ (size : ℕ) where
  pub legal_empty : IsLegalHistory size []
  legal_empty before e after h = absurd (no_entry before after e h)

  pub legal_more : (h : PoolHistory) (e : PoolEntry) → IsLegalHistory size h → IsLegalReply size h e.call e.reply →
      IsLegalHistory size (h ++ e ∷ [])
  legal_more h e legal last before f after same =
      elim (at_end h before after e f same) [
        | inl w ↦ let front : before ≡ h = w.1 in let entry : f ≡ e = w.2 in
            subst (λ (k : PoolHistory). IsLegalReply size k f.call f.reply) (sym front)
            (subst (λ (g : PoolEntry). IsLegalReply size h g.call g.reply) (sym entry) last)
        | inr w ↦ legal before f w.0 w.2
      ]

  pub legal_front : (h : PoolHistory) (e : PoolEntry) → IsLegalHistory size (h ++ e ∷ []) → IsLegalHistory size h
  legal_front h e legal before f after same =
      legal before f (after ++ e ∷ [])
      (ap (λ (k : PoolHistory). k ++ e ∷ []) same ∙ append_assoc before (f ∷ after) (e ∷ []))

  pub legal_last : (h : PoolHistory) (e : PoolEntry) → IsLegalHistory size (h ++ e ∷ []) →
      IsLegalReply size h e.call e.reply
  legal_last h e legal = legal h e [] refl
