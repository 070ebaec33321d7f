-- The state of a registry after one more turn, and induction over legal histories.
use Rattle.std.proofs.Common.{◌≡◌, ℕ, ◌+◌, cond, [], ◌∷◌, ◌++◌, length, refl, sym, ap, subst, ◌∙◌, arith}
use Rattle.std.proofs.lemmas.Grind.{common_steps}
use Rattle.std.proofs.lemmas.List.Sums.{fold-append}
use Rattle.sysv_model.specs.Registry.{RegistryCall, RegistryReply, RegistryEntry, RegistryHistory, changes_row, settled}
use Rattle.sysv_model.proofs.Snoc.{from_end}
use Rattle.sysv_keys.specs.declared.registry.Place.{Place}
use Rattle.sysv_keys.specs.State.{State, Registry, places_after, state_after, opened, state_of, state_in}
use Rattle.sysv_keys.specs.LegalReply.{Legal, IsLegalHistory}
use Rattle.sysv_keys.specs.Represents.{MakesTurn}
use Rattle.sysv_keys.proofs.Legality.{legal_more, legal_front}

settled-more : (h : RegistryHistory) (e : RegistryEntry) →
    settled (h ++ e ∷ []) ≡ cond (changes_row e.reply) (settled h + 1) (settled h)
settled-more h e = grind (arith, common_steps)

pub state_of-more : (opening : ℕ) (h : RegistryHistory) (e : RegistryEntry) →
    state_of opening (h ++ e ∷ []) ≡ state_after (state_of opening h) e.call e.reply
state_of-more opening h e = λ k. record {
  places = fold-append (λ (old : ℕ → Place) (x : RegistryEntry). places_after old x.call x.reply) (opened opening) h
      (e ∷ []) k;
  settled = settled-more h e k;
}

-- A call makes a turn if its reply is legal and the registry has as many places as before and
-- changes as the state does.
pub makes_turn : (old : Registry) (call : RegistryCall) (reply : RegistryReply) (new : Registry) →
    Legal (state_in old) call reply → length new.places ≡ length old.places →
    state_in new ≡ state_after (state_in old) call reply → MakesTurn old call reply new
makes_turn old call reply new legal long same = record {
  legal = legal;
  stands = λ opening h who st.
      let e : RegistryEntry = record { who = who; call = call; reply = reply } in
      record {
        legal = legal_more opening h e st.legal (subst (λ r. Legal r call reply) (sym st.seen) legal);
        wide = long ∙ st.wide;
        seen = state_of-more opening h e ∙ (ap (λ r. state_after r call reply) st.seen ∙ sym same);
      };
}

-- What holds of the empty history and is kept by one more legal turn holds of every legal history.
pub over_legal : (opening : ℕ) (P : RegistryHistory → State → Type 0) → P [] (state_of opening []) →
    ((h : RegistryHistory) (r : State) (e : RegistryEntry) → Legal r e.call e.reply → P h r →
    P (h ++ e ∷ []) (state_after r e.call e.reply)) →
    (h : RegistryHistory) → IsLegalHistory opening h → P h (state_of opening h)
over_legal opening P empty more =
    from_end (λ (h : RegistryHistory). IsLegalHistory opening h → P h (state_of opening h))
    (λ l. empty)
    (λ h e before l. subst (P (h ++ e ∷ [])) (sym (state_of-more opening h e))
    (more h (state_of opening h) e (l h e [] refl) (before (legal_front opening h (e ∷ []) l))))
