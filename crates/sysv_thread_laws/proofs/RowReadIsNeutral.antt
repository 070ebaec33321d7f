-- The turn that reads a row moves no block, does no job of an identifier, and belongs to no call.
use Rattle.std.proofs.Common.{◌≡◌, ◌≢◌, inl, ℕ, suc, ◌+◌, Bool, true, false, cond, List, [], ◌∷◌, ◌++◌, Option}
use Rattle.std.proofs.Common.{refl, sym, ap, subst, ◌∙◌, arith}
use Rattle.std.specs.List.{All, Contains}
use Rattle.std.proofs.Math.Dec.{eqb}
use Rattle.std.proofs.lemmas.Bool.{eqb-true}
use Rattle.std.proofs.lemmas.List.{append-nil}
use Rattle.std.proofs.lemmas.List.Elements.{All-push}
use Rattle.sysv_model.specs.History.{Who, Actor, ReadRow, Reply, Entry}
use Rattle.sysv_model.specs.Waiting.{held as waiting_in}
use Rattle.sysv_model.specs.Pool.{Foreign, PoolEntry, PoolHistory}
use Rattle.sysv_model.specs.Turn.{Op, AtSlot, Turn, registry_history, pool_history, slot_history, ops_of}
use Rattle.sysv_pool.specs.State.{free_after}
use Rattle.sysv_queue.specs.Slot.{slot_of}
use Rattle.sysv_queue.specs.Blocks.{blocks_of}
use Rattle.sysv_queue.specs.BlocksKept.{TurnKeepsBlocks}
use Rattle.sysv_queue.specs.LegalReply.{Legal, IsLegalHistory}
use Rattle.sysv_keys.specs.declared.identifier.TheConstants.{SLOTS}
use Rattle.sysv_keys.specs.Identifier.{slot_of_id}
use Rattle.sysv_objects.specs.LegalOp.{IsLegalOp, AreLegal}
use Rattle.sysv_steps.specs.Played.{Plays}
use Rattle.sysv_core.specs.World.{World, Invocation, Doing, Response, begun}
use Rattle.sysv_core.specs.Conserved.{blocks_waiting, blocks_in_calls, AreConserved}
use Rattle.sysv_core.specs.Sound.{IsSound, IsMadeIn}
use Rattle.sysv_core.proofs.Histories.{turn_of, slot_more, registry_more, pool_stays}
use Rattle.sysv_core.proofs.BlocksConserved.{waiting_at, is_sum, same_sum}
use Rattle.sysv_core.proofs.SoundStays.{all_made, still_made}
use Rattle.sysv_core.proofs.Lifetime.{does, jobs_of, not_both, no_job}
use Rattle.sysv_core.proofs.LifetimeGoesOn.{lifetime_apart}
use Rattle.sysv_core.proofs.WorldsObey.{HasMaker, Inv}
use Rattle.sysv_core.proofs.PartsOfOneCall.{not_same, other_op}
use Rattle.sysv_thread_laws.specs.Execution.{nobody}
use Rattle.sysv_thread_laws.specs.OnThreads.{IsRowRead}

module _ (turns : List Turn) (slot : ℕ) (reply : Reply) where
  abbrev pub row_op : Op
  row_op = AtSlot slot ReadRow reply

  abbrev pub with_row : List Turn
  with_row = turns ++ turn_of nobody row_op ∷ []

  same_registry : registry_history with_row ≡ registry_history turns
  same_registry = registry_more turns (turn_of nobody row_op) ∙ append-nil (registry_history turns)

  same_pool : pool_history with_row ≡ pool_history turns
  same_pool = pool_stays turns nobody row_op refl

  -- No block moves in a slot.
  module _ (kept : TurnKeepsBlocks) (slots : (other : ℕ) → IsLegalHistory (slot_history other turns))
      (legal : Legal (slot_of (slot_history slot turns)) ReadRow reply) where
    abbrev entry : Entry
    entry = record { who = nobody; call = ReadRow; reply = reply }

    in_slot : (other : ℕ) (b : Bool) → (b ≡ true → slot ≡ other) →
        blocks_of (waiting_in (slot_history other turns ++ cond b (entry ∷ []) []))
        ≡ blocks_of (waiting_in (slot_history other turns))
    in_slot other true here =
        let now : Legal (slot_of (slot_history other turns)) ReadRow reply =
        subst (λ n. Legal (slot_of (slot_history n turns)) ReadRow reply) (here refl) legal in
        let moved = kept (slot_history other turns) nobody ReadRow reply (slots other) now in
        omega (arith, moved)
    in_slot other false here = ap (λ h. blocks_of (waiting_in h)) (append-nil (slot_history other turns))

    each_slot : (other : ℕ) → waiting_at with_row other ≡ waiting_at turns other
    each_slot other =
        ap (λ h. blocks_of (waiting_in h)) (slot_more other turns (turn_of nobody row_op))
        ∙ in_slot other (eqb slot other) (λ e. eqb-true slot other e)

    same_waiting : blocks_waiting with_row ≡ blocks_waiting turns
    same_waiting = is_sum with_row
        ∙ (same_sum (waiting_at with_row) (waiting_at turns) 0 SLOTS (λ other low. each_slot other)
        ∙ sym (is_sum turns))

    pub row_conserves : (size : ℕ) (actors : List (Option Doing)) → AreConserved size turns actors →
        AreConserved size with_row actors
    row_conserves size actors all = record {
      whole = ap (λ (h : PoolHistory). free_after size h + (blocks_waiting with_row + blocks_in_calls actors)) same_pool
          ∙ (ap (λ n. free_after size (pool_history turns) + (n + blocks_in_calls actors)) same_waiting ∙ all.whole);
      taken_back = subst (All (λ (e : PoolEntry). e.reply ≢ Foreign)) (sym same_pool) all.taken_back;
    }

module _
    (more : (generation blocks : ℕ) (turns : List Turn) (who : Who) (op : Op) → AreLegal generation blocks turns →
    IsLegalOp generation blocks turns op → AreLegal generation blocks (turns ++ turn_of who op ∷ []))
    (kept : TurnKeepsBlocks)
    (w : World) (slot : ℕ) (reply : Reply) (legal : Legal (slot_of (slot_history slot w.turns)) ReadRow reply) where
  abbrev pub read : World
  read = record w { turns = with_row w.turns slot reply }

  pub row_sound : IsSound w → IsSound read
  row_sound s = record {
    legal = more w.generation w.blocks w.turns nobody (AtSlot slot ReadRow reply) s.legal legal;
    own = s.own;
    installs = λ place d id there is. still (slot_of_id id) (s.installs place d id there is);
    lives =
        all_made w.turns nobody (AtSlot slot ReadRow reply) s.lives (λ at c r is i. let asks = i.asks_it in absurd cc);
    blocks = row_conserves w.turns slot reply kept s.legal.slots legal w.blocks w.actors s.blocks;
  }
    where
      still : (at : ℕ) → IsMadeIn w.turns at → IsMadeIn (with_row w.turns slot reply) at
      still at m = still_made w.turns (turn_of nobody (AtSlot slot ReadRow reply)) at m

  -- The calls remain in their states.
  pub row_keeps : (responses : List Response) → Inv IsRowRead w responses → Inv IsRowRead read responses
  row_keeps responses i = record {
    sound = row_sound i.sound;
    lifetime = lifetime_apart w.turns nobody (AtSlot slot ReadRow reply) (jobs_of w.actors) i.lifetime (record {
      seemly = (tt, tt, tt);
      legal = legal;
      next = λ j does_it.
          not_both (does j (AtSlot slot ReadRow reply)) does_it (no_job j (AtSlot slot ReadRow reply) refl);
    }) refl;
    outcomes = λ c has.
        let f = i.outcomes c has in
        record {
          state = f.state;
          plays = subst (λ ds. Plays (begun c) ds f.state) (sym (same c has)) f.plays;
          answered = f.answered;
          stands = f.stands;
        };
    before = i.before;
    apart = i.apart;
    named = i.named;
    made = All-push (HasMaker IsRowRead w.calls) w.turns (turn_of nobody (AtSlot slot ReadRow reply)) i.made
        (inl (refl, (slot, reply, refl)));
    known = i.known;
    doing = i.doing;
  }
    where
      same : (c : Invocation) → Contains w.calls c → ops_of c.who (with_row w.turns slot reply) ≡ ops_of c.who w.turns
      same c has = other_op c.who w.turns (turn_of nobody (AtSlot slot ReadRow reply))
          (not_same c.who nobody
          (λ e. let b = i.before c has in let bad : Actor (suc b.0) b.1 ≡ Actor 0 0 = sym b.2 ∙ e in cc))
