-- The three turns of the preset queue.
use Rattle.std.proofs.Common.{◌≡◌, ℕ, ℤ, pos, ◌+◌, Bool, true, false, List, [], ◌∷◌, ◌++◌, Option, None, Some, IsSome}
use Rattle.std.proofs.Common.{refl, sym, ap, subst, ◌∙◌, arith}
use Rattle.std.proofs.lemmas.Grind.{flat_map-append}
use Rattle.std.proofs.lemmas.List.{append-nil}
use Rattle.sysv_model.specs.declared.attributes.Attributes.{Attributes}
use Rattle.sysv_model.specs.declared.flags.Flags.{Flags}
use Rattle.sysv_model.specs.declared.limits.TheConstants.{IPC_PRIVATE}
use Rattle.sysv_model.specs.History.{Install, Installed}
use Rattle.sysv_model.specs.Live.{live}
use Rattle.sysv_model.specs.Registry.{RegistryReply, Begin, Settle, Made, Changed}
use Rattle.sysv_model.specs.Turn.{AtSlot, AtRegistry, Turn, slot_entry, registry_entry, slot_history, registry_history}
use Rattle.sysv_queue.specs.LegalReply.{IsLegalReply}
use Rattle.sysv_keys.specs.Identifier.{slot_of_id}
use Rattle.sysv_keys.specs.Rows.{IsUnused}
use Rattle.sysv_keys.specs.LegalReply.{IsLegalReply as IsLegalRegistryReply}
use Rattle.sysv_keys.specs.OneReply.{NoTwoRepliesAreLegal}
use Rattle.sysv_keys.specs.Unused.{UnusedSlots}
use Rattle.sysv_keys.specs.Replies.{begun_reply}
use Rattle.sysv_keys.specs.declared.registry.Begun.{Begun}
use Rattle.sysv_keys.specs.declared.registry.Begun.TheVariants as begun
use Rattle.sysv_objects.specs.Objects.{Objects, CountsUpTo}
use Rattle.sysv_objects.specs.Represents.{Represents, MakesTurn}
use Rattle.sysv_core.specs.World.{preset_who, preset_cred, preset_flags, preset_begin, preset_install, preset_settle}
use Rattle.sysv_core.specs.Preset.{PresetMade}
use Rattle.sysv_core.proofs.Histories.{turn_of}

-- A begin whose reply is an identifier made that identifier.
made_of : (b : Begun) (id : ℤ) → begun_reply b ≡ Made id → b ≡ begun.Made id
made_of (begun.Made made) id e = let same : made ≡ id = cc in ap begun.Made same
made_of (begun.Found made told) id e = absurd cc
made_of (begun.Busy told) id e = absurd cc
made_of (begun.Refused why) id e = absurd cc

these_flags : (flags : Flags) → flags.0 ≡ 384 → flags ≡ preset_flags
these_flags flags e = let make : ℕ → Flags = λ n. record { 0 = n } in ap make e

same_id : (a b : ℤ) → Made a ≡ Made b → a ≡ b
same_id a b e = cc

same_change : (a b : Bool) → Changed a ≡ Changed b → a ≡ b
same_change a b e = cc

-- A queue can be installed in a slot without a live queue.
is_installed : (o : Option Attributes) (b : Bool) → o ≡ None → (b ≡ false → IsSome o) → b ≡ true
is_installed o true none taken = refl
is_installed None false none taken = absurd (let bad = taken refl in cc)
is_installed (Some a) false none taken = absurd cc

no_zero : (bound : ℕ) (o : Objects) → CountsUpTo (bound + 0) o → CountsUpTo bound o
no_zero bound o up =
    (λ number slot here. let u = up.0 number slot here in (omega (arith, u.0), omega (arith, u.1)), omega (arith, up.1))

module _ (one : NoTwoRepliesAreLegal) (unused : UnusedSlots) (generation : ℕ) (turns : List Turn) (old : Objects)
    (st : Represents generation turns old) (u : IsUnused generation (registry_history turns) 0) where
  begins_zero : (flags : Flags) (reply : RegistryReply) (new : Objects) → flags ≡ preset_flags →
      MakesTurn old (AtRegistry (Begin IPC_PRIVATE flags) reply) new → reply ≡ Made (pos 0)
  begins_zero flags reply new e turn =
      one generation (registry_history turns) (Begin IPC_PRIVATE flags) reply (Made (pos 0)) st.registry.legal
      (turn.legal generation turns st) (unused.zero generation (registry_history turns) flags u)

  pub never_refused : (flags : Flags) (b : Begun) (new : Objects) → flags.0 ≡ 384 →
      MakesTurn old (AtRegistry (Begin IPC_PRIVATE flags) (begun_reply b)) new → b ≡ begun.Made (pos 0)
  never_refused flags b new e turn =
      made_of b (pos 0) (begins_zero flags (begun_reply b) new (these_flags flags e) turn)

  module _ (flags : Flags) (bits : flags.0 ≡ 384) (mode : ℕ) (moded : mode ≡ 384) (id : ℤ) (first second new : Objects)
      (installed settled : Bool)
      (begins : MakesTurn old (AtRegistry (Begin IPC_PRIVATE flags) (Made id)) first)
      (installs : MakesTurn first
      (AtSlot (slot_of_id id) (Install id IPC_PRIVATE preset_cred mode 0) (Installed installed)) second)
      (settles : MakesTurn second (AtRegistry (Settle id) (Changed settled)) new)
      (vacant : live (slot_history 0 turns) ≡ None) where
    is_zero : id ≡ pos 0
    is_zero = same_id id (pos 0) (begins_zero flags (Made id) first (these_flags flags bits) begins)

    begins_so : MakesTurn old preset_begin first
    begins_so =
        subst (λ f. MakesTurn old (AtRegistry (Begin IPC_PRIVATE f) (Made (pos 0))) first) (these_flags flags bits)
        (subst (λ i. MakesTurn old (AtRegistry (Begin IPC_PRIVATE flags) (Made i)) first) is_zero begins)

    stands_1 : Represents generation (turns ++ turn_of preset_who preset_begin ∷ []) first
    stands_1 = begins_so.stands generation turns preset_who st

    installs_so : MakesTurn first
        (AtSlot 0 (Install (pos 0) IPC_PRIVATE preset_cred preset_flags.0 0) (Installed installed)) second
    installs_so =
        subst (λ m.
        MakesTurn first (AtSlot 0 (Install (pos 0) IPC_PRIVATE preset_cred m 0) (Installed installed)) second) moded
        (subst (λ i.
        MakesTurn first (AtSlot (slot_of_id i) (Install i IPC_PRIVATE preset_cred mode 0) (Installed installed)) second)
        is_zero installs)

    still_vacant : live (slot_history 0 (turns ++ turn_of preset_who preset_begin ∷ [])) ≡ None
    still_vacant =
        ap live
        (flat_map-append (λ (x : Turn). slot_entry 0 x.who x.op) turns (turn_of preset_who preset_begin ∷ [])
        ∙ append-nil (slot_history 0 turns)) ∙ vacant

    legal_install : (b : Bool) →
        IsLegalReply (slot_history 0 (turns ++ turn_of preset_who preset_begin ∷ []))
        (Install (pos 0) IPC_PRIVATE preset_cred preset_flags.0 0) (Installed b) →
        b ≡ false → IsSome (live (slot_history 0 (turns ++ turn_of preset_who preset_begin ∷ [])))
    legal_install true l e = absurd cc
    legal_install false l e = l

    pub installed_is : installed ≡ true
    installed_is =
        is_installed _ installed still_vacant (legal_install installed (installs_so.legal generation _ stands_1))

    installs_true : MakesTurn first preset_install second
    installs_true = subst (λ b.
        MakesTurn first (AtSlot 0 (Install (pos 0) IPC_PRIVATE preset_cred preset_flags.0 0) (Installed b)) second)
        installed_is installs_so

    stands_2 : Represents generation
        ((turns ++ turn_of preset_who preset_begin ∷ []) ++ turn_of preset_who preset_install ∷ []) second
    stands_2 = installs_true.stands generation _ preset_who stands_1

    registry_is : registry_history ((turns ++ turn_of preset_who preset_begin ∷ []) ++ turn_of preset_who preset_install
        ∷ []) ≡ registry_history turns ++ registry_entry preset_who preset_begin
    registry_is =
        flat_map-append (λ (x : Turn). registry_entry x.who x.op) (turns ++ turn_of preset_who preset_begin ∷ [])
        (turn_of preset_who preset_install ∷ [])
        ∙ (append-nil (registry_history (turns ++ turn_of preset_who preset_begin ∷ []))
        ∙ flat_map-append (λ (x : Turn). registry_entry x.who x.op) turns (turn_of preset_who preset_begin ∷ []))

    settles_zero : MakesTurn second (AtRegistry (Settle (pos 0)) (Changed settled)) new
    settles_zero = subst (λ i. MakesTurn second (AtRegistry (Settle i) (Changed settled)) new) is_zero settles

    legal_settle : IsLegalRegistryReply generation
        (registry_history ((turns ++ turn_of preset_who preset_begin ∷ []) ++ turn_of preset_who preset_install ∷ []))
        (Settle (pos 0)) (Changed true)
    legal_settle =
        subst (λ h. IsLegalRegistryReply generation h (Settle (pos 0)) (Changed true)) (sym registry_is)
        (unused.settles generation (registry_history turns) preset_who IPC_PRIVATE preset_flags (pos 0)
        st.registry.legal (unused.zero generation (registry_history turns) preset_flags u))

    settled_is : settled ≡ true
    settled_is = same_change settled true
        (one generation _ (Settle (pos 0)) (Changed settled) (Changed true) stands_2.registry.legal
        (settles_zero.legal generation _ stands_2) legal_settle)

    settles_true : MakesTurn second preset_settle new
    settles_true = subst (λ b. MakesTurn second (AtRegistry (Settle (pos 0)) (Changed b)) new) settled_is settles_zero

    pub preset_made : PresetMade generation turns old settled new
    preset_made = record {
      made = settled_is;
      stands = settles_true.stands generation _ preset_who stands_2;
      size = settles_true.size ∙ (installs_true.size ∙ begins_so.size);
      counts = λ bound up.
          no_zero bound new
          (settles_true.counts bound
          (no_zero bound second (installs_true.counts bound (no_zero bound first (begins_so.counts bound up)))));
    }
