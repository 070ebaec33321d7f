-- Legal turns, and the one legal reply after them.
use Rattle.std.proofs.Common.{◌≡◌, ◌≢◌, ◌⊎◌, inl, inr, ℕ, true, false, List, [], ◌∷◌, ◌++◌, refl, sym, subst}
use Rattle.std.proofs.Math.Dec.{eqb}
use Rattle.std.proofs.lemmas.Bool.Decides.{eqb_tells}
use Rattle.sysv_model.specs.History.{Who, Call, Reply, Entry, History}
use Rattle.sysv_model.specs.Registry.{RegistryEntry, RegistryHistory}
use Rattle.sysv_model.specs.Pool.{PoolEntry, PoolHistory}
use Rattle.sysv_model.specs.Turn.{OfSlot, OfRegistry, OfPool, Op, AtSlot, AtRegistry, AtPool, Turn, slot_history}
use Rattle.sysv_model.specs.Turn.{registry_history, pool_history}
use Rattle.sysv_queue.specs.LegalReply.{IsLegalReply, IsLegalHistory}
use Rattle.sysv_queue.specs.OneReply.{SomeReplyIsLegal, NoTwoRepliesAreLegal}
use Rattle.sysv_keys.specs.LegalReply.{IsLegalReply as IsLegalRegistryReply, IsLegalHistory as IsLegalRegistryHistory}
use Rattle.sysv_keys.specs.OneReply.{SomeReplyIsLegal as SomeRegistryReply}
use Rattle.sysv_keys.specs.OneReply.{NoTwoRepliesAreLegal as NoTwoRegistryReplies}
use Rattle.sysv_pool.specs.LegalReply.{IsLegalReply as IsLegalPoolReply, IsLegalHistory as IsLegalPoolHistory}
use Rattle.sysv_pool.specs.OneReply.{SomeReplyIsLegal as SomePoolReply, NoTwoRepliesAreLegal as NoTwoPoolReplies}
use Rattle.sysv_objects.specs.LegalOp.{IsLegalOp, AreLegal}
use Rattle.sysv_objects.specs.OneOp.{SomeOpIsLegal, NoTwoOpsAreLegal}
use Rattle.sysv_objects.proofs.Histories.{turn_of, at_its_slot, at_another, registry_more, pool_more, not_at_registry}
use Rattle.sysv_objects.proofs.Histories.{not_at_slot, slot_not_at_pool, registry_not_at_pool, pool_not_at_slot}
use Rattle.sysv_objects.proofs.Histories.{pool_not_at_registry}

-- The laws of the slots, of the registry and of the pool about legal histories.
pub record Laws : Type 0 where
  pub slot_none : IsLegalHistory []
  pub slot_more : (h : History) (e : Entry) → IsLegalHistory h → IsLegalReply h e.call e.reply →
      IsLegalHistory (h ++ e ∷ [])
  pub registry_none : (opening : ℕ) → IsLegalRegistryHistory opening []
  pub registry_next : (opening : ℕ) (h : RegistryHistory) (e : RegistryEntry) → IsLegalRegistryHistory opening h →
      IsLegalRegistryReply opening h e.call e.reply → IsLegalRegistryHistory opening (h ++ e ∷ [])
  pub pool_none : (size : ℕ) → IsLegalPoolHistory size []
  pub pool_next : (size : ℕ) (h : PoolHistory) (e : PoolEntry) → IsLegalPoolHistory size h →
      IsLegalPoolReply size h e.call e.reply → IsLegalPoolHistory size (h ++ e ∷ [])

module _ (l : Laws) where
  pub none_legal : (generation blocks : ℕ) → AreLegal generation blocks []
  none_legal generation blocks =
      record { slots = λ slot. l.slot_none; registry = l.registry_none generation; pool = l.pool_none blocks }

  at_this : (turns : List Turn) (who : Who) (slot at : ℕ) (call : Call) (reply : Reply) →
      ((eqb at slot ≡ true) × (at ≡ slot)) ⊎ ((eqb at slot ≡ false) × (at ≢ slot)) →
      IsLegalHistory (slot_history slot turns) → IsLegalReply (slot_history at turns) call reply →
      IsLegalHistory (slot_history slot (turns ++ turn_of who (AtSlot at call reply) ∷ []))
  at_this turns who slot at call reply (inl same) legal here =
      subst (λ n. IsLegalHistory (slot_history slot (turns ++ turn_of who (AtSlot n call reply) ∷ []))) (sym same.1)
      (subst IsLegalHistory (sym (at_its_slot slot turns who call reply))
      (l.slot_more (slot_history slot turns) (record { who = who; call = call; reply = reply }) legal
      (subst (λ n. IsLegalReply (slot_history n turns) call reply) same.1 here)))
  at_this turns who slot at call reply (inr other) legal here =
      subst IsLegalHistory (sym (at_another slot at turns who call reply other.1)) legal

  pub more_legal : (generation blocks : ℕ) (turns : List Turn) (who : Who) (op : Op) →
      AreLegal generation blocks turns → IsLegalOp generation blocks turns op →
      AreLegal generation blocks (turns ++ turn_of who op ∷ [])
  more_legal generation blocks turns who (AtSlot at call reply) a here = record {
    slots = λ slot. at_this turns who slot at call reply (eqb_tells at slot) (a.slots slot) here;
    registry = subst (IsLegalRegistryHistory generation) (sym (not_at_registry turns who at call reply)) a.registry;
    pool = subst (IsLegalPoolHistory blocks) (sym (slot_not_at_pool turns who at call reply)) a.pool;
  }
  more_legal generation blocks turns who (AtRegistry call reply) a here = record {
    slots = λ slot. subst IsLegalHistory (sym (not_at_slot slot turns who call reply)) (a.slots slot);
    registry =
        subst (IsLegalRegistryHistory generation) (sym (registry_more turns (turn_of who (AtRegistry call reply))))
        (l.registry_next generation (registry_history turns) (record { who = who; call = call; reply = reply })
        a.registry here);
    pool = subst (IsLegalPoolHistory blocks) (sym (registry_not_at_pool turns who call reply)) a.pool;
  }
  more_legal generation blocks turns who (AtPool call reply) a here = record {
    slots = λ slot. subst IsLegalHistory (sym (pool_not_at_slot slot turns who call reply)) (a.slots slot);
    registry = subst (IsLegalRegistryHistory generation) (sym (pool_not_at_registry turns who call reply)) a.registry;
    pool = subst (IsLegalPoolHistory blocks) (sym (pool_more turns (turn_of who (AtPool call reply))))
        (l.pool_next blocks (pool_history turns) (record { who = who; call = call; reply = reply }) a.pool here);
  }

pub some_op : SomeReplyIsLegal → SomeRegistryReply → SomePoolReply → SomeOpIsLegal
some_op slots registry pool generation blocks turns (OfSlot slot call) a =
    let r = slots (slot_history slot turns) call in (AtSlot slot call r.0, refl, r.1)
some_op slots registry pool generation blocks turns (OfRegistry call) a =
    let r = registry generation (registry_history turns) call a.registry in (AtRegistry call r.0, refl, r.1)
some_op slots registry pool generation blocks turns (OfPool call) a =
    let r = pool blocks (pool_history turns) call in (AtPool call r.0, refl, r.1)

module _ (slots : NoTwoRepliesAreLegal) (registry : NoTwoRegistryReplies) (pool : NoTwoPoolReplies) where
  one_of_slot : (turns : List Turn) (slot at : ℕ) (call other : Call) (reply answer : Reply) → slot ≡ at →
      call ≡ other →
      IsLegalReply (slot_history slot turns) call reply → IsLegalReply (slot_history at turns) other answer →
      reply ≡ answer
  one_of_slot turns slot at call other reply answer e f l m =
      slots (slot_history slot turns) call reply answer l
      (subst (λ n. IsLegalReply (slot_history n turns) call answer) (sym e)
      (subst (λ c. IsLegalReply (slot_history at turns) c answer) (sym f) m))

  pub one_op : NoTwoOpsAreLegal
  one_op generation blocks turns (AtSlot slot call reply) (AtSlot at other answer) a same l m =
      let places : slot ≡ at = cc in
      let calls : call ≡ other = cc in
      let replies = one_of_slot turns slot at call other reply answer places calls l m in
      cc
  one_op generation blocks turns (AtRegistry call reply) (AtRegistry other answer) a same l m =
      let calls : call ≡ other = cc in
      let replies = registry generation (registry_history turns) call reply answer a.registry l
      (subst (λ c. IsLegalRegistryReply generation (registry_history turns) c answer) (sym calls) m) in
      cc
  one_op generation blocks turns (AtSlot slot call reply) (AtRegistry other answer) a same l m = absurd cc
  one_op generation blocks turns (AtRegistry call reply) (AtSlot at other answer) a same l m = absurd cc
  one_op generation blocks turns (AtPool call reply) (AtPool other answer) a same l m =
      let calls : call ≡ other = cc in
      let replies = pool blocks (pool_history turns) call reply answer l
      (subst (λ c. IsLegalPoolReply blocks (pool_history turns) c answer) (sym calls) m) in
      cc
  one_op generation blocks turns (AtPool call reply) (AtSlot at other answer) a same l m = absurd cc
  one_op generation blocks turns (AtPool call reply) (AtRegistry other answer) a same l m = absurd cc
  one_op generation blocks turns (AtSlot slot call reply) (AtPool other answer) a same l m = absurd cc
  one_op generation blocks turns (AtRegistry call reply) (AtPool other answer) a same l m = absurd cc
