-- What a reply of some kind states about its turn.
use Rattle.std.proofs.Common.{◌≡◌, ap, subst, ◌∙◌}
use Rattle.sysv_model.specs.Turn.{Op, AtSlot, AtRegistry}
use Rattle.sysv_queue.specs.Slot.{Slot}
use Rattle.sysv_objects.specs.declared.slot.SlotCall.{SlotCall}
use Rattle.sysv_objects.specs.declared.slot.SlotReply.{SlotReply}
use Rattle.sysv_objects.specs.declared.registry.RegistryCall.{RegistryCall}
use Rattle.sysv_objects.specs.declared.registry.RegistryReply.{RegistryReply}
use Rattle.sysv_objects.specs.declared.object.ObjectCall.TheVariants as called
use Rattle.sysv_objects.specs.declared.object.ObjectReply.{ObjectReply}
use Rattle.sysv_objects.specs.declared.object.ObjectReply.TheVariants as told
use Rattle.sysv_objects.specs.SlotTurns.{slot_asked, slot_call, slot_reply, FitsSlotCall}
use Rattle.sysv_objects.specs.RegistryTurns.{registry_call, registry_reply}
use Rattle.sysv_objects.specs.Turns.{Takes}

module _ {P : Type 0} (takes : P → Op → P → Type 0) (before after : P) where
  pub slot_told : (call : SlotCall) (r : ObjectReply) (s reply : SlotReply) → r ≡ told.Slot s → s ≡ reply →
      Takes takes before (called.Slot call) r after →
      (slot : Slot) × takes before (AtSlot (slot_asked call) (slot_call call) (slot_reply slot reply)) after
      × FitsSlotCall slot call reply
  slot_told call r s reply one two so =
      subst (λ x. Takes takes before (called.Slot call) x after) (one ∙ ap told.Slot two) so

  pub registry_told : (call : RegistryCall) (r : ObjectReply) (s reply : RegistryReply) → r ≡ told.Registry s →
      s ≡ reply → Takes takes before (called.Registry call) r after →
      takes before (AtRegistry (registry_call call) (registry_reply reply)) after
  registry_told call r s reply one two so =
      (subst (λ x. Takes takes before (called.Registry call) x after) (one ∙ ap told.Registry two) so).0
