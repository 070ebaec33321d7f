-- The blocks in the slots and the pool of the code, and those that its calls hold, are all blocks
-- of the world.
use Rattle.std.proofs.Common.{◌≡◌, ℕ, suc, ◌+◌, ◌≤◌, List, [], ◌∷◌, Option, None, Some, refl, sym, ap, ◌∙◌, arith}
use Rattle.std.proofs.Common.{length, map, slice_get}
use Rattle.std.specs.List.{sum_by, range_with_len}
use Rattle.std.proofs.lemmas.List.Sums.{sum_by-cons}
use Rattle.sysv_model.specs.Turn.{pool_history}
use Rattle.sysv_pool.specs.State.{State as Pool, free_after}
use Rattle.sysv_queue.specs.Slot.{Slot}
use Rattle.sysv_queue.specs.Blocks.{blocks_of}
use Rattle.sysv_objects.specs.Objects.{blocks_in}
use Rattle.sysv_core.specs.World.{World, Opening, Doing, Response, Transition, opening}
use Rattle.sysv_steps.specs.Pending.{Pending, pending}
use Rattle.sysv_core.specs.declared.actor.Doing.{Doing as DoingKept}
use Rattle.sysv_steps.specs.HeldBlocks.{held as held_at}
use Rattle.sysv_core.specs.Kept.{state_kept, states_kept, blocks_kept_by, blocks_kept}
use Rattle.sysv_core.specs.Seen.{Seen, state_in, IsSeenAs, Represents}
use Rattle.sysv_core.specs.Conserved.{blocks_waiting, blocks_in_call, blocks_in_calls}
use Rattle.sysv_core.proofs.BlocksConserved.{waiting_at, is_sum}
use Rattle.sysv_core.proofs.WorldsObey.{leads_opened}

in_slots : (f : ℕ → ℕ) (slots : List Slot) (from : ℕ) →
    ((i : ℕ) (s : Slot) → slice_get slots i ≡ Some s → blocks_of s.messages ≡ f (from + i)) →
    blocks_in slots ≡ sum_by f (range_with_len from (length slots))
in_slots f [] from h = refl
in_slots f (s ∷ slots) from h =
    let here : blocks_of s.messages ≡ f from = h 0 s refl ∙ ap f (omega arith) in
    omega (
      arith,
      here,
      sum_by-cons (λ (x : Slot). blocks_of x.messages) s slots,
      sum_by-cons f from (range_with_len (from + 1) (length slots)),
      in_slots f slots (from + 1) (λ i x e. h (suc i) x e ∙ ap f (omega arith)),
    )

abbrev blocks_at : Option Pending → ℕ
blocks_at None = 0
blocks_at (Some p) = held_at p.state

in_calls : (actors : List (Option Doing)) → sum_by blocks_at (map state_in actors) ≡ blocks_in_calls actors
in_calls [] = refl
in_calls (None ∷ actors) = omega (
  arith,
  sum_by-cons blocks_at None (map state_in actors),
  sum_by-cons blocks_in_call None actors,
  in_calls actors,
)
in_calls (Some d ∷ actors) = omega (
  arith,
  sum_by-cons blocks_at (Some (pending d.state)) (map state_in actors),
  sum_by-cons blocks_in_call (Some d) actors,
  in_calls actors,
)

one_kept : (x : Option DoingKept) → blocks_kept_by x ≡ blocks_at (state_kept x)
one_kept None = refl
one_kept (Some d) = refl

all_kept : (doings : List (Option DoingKept)) → blocks_kept doings ≡ sum_by blocks_at (states_kept doings)
all_kept [] = refl
all_kept (x ∷ doings) = omega (
  arith,
  sum_by-cons blocks_kept_by x doings,
  sum_by-cons blocks_at (state_kept x) (states_kept doings),
  one_kept x,
  all_kept doings,
)

module _ (w : World) (seen : Seen) (s : IsSeenAs w seen) where
  waiting : blocks_in seen.objects.slots ≡ blocks_waiting w.turns
  waiting =
      in_slots (waiting_at w.turns) seen.objects.slots 0 (λ i slot there.
      ap (λ (x : Slot). blocks_of x.messages) (sym (s.objects.slots i slot there).seen)
      ∙ ap (waiting_at w.turns) (omega arith))
      ∙ (ap (λ n. sum_by (waiting_at w.turns) (range_with_len 0 n)) s.objects.many ∙ sym (is_sum w.turns))

  free : seen.objects.pool.free ≡ free_after w.blocks (pool_history w.turns)
  free = sym (ap (λ n. free_after n (pool_history w.turns)) s.blocks ∙ ap (λ (p : Pool). p.free) s.objects.pool.seen)

  held : blocks_kept seen.doings ≡ blocks_in_calls w.actors
  held = all_kept seen.doings ∙ (ap (sum_by blocks_at) (sym s.states) ∙ in_calls w.actors)

  all_there : seen.objects.pool.free + (blocks_in seen.objects.slots + blocks_kept seen.doings) ≡ w.blocks
  all_there = omega (arith, waiting, free, held, s.sound.blocks.whole)

-- The sum of these blocks is the size of the pool with which the world was opened, if all of them
-- can be put back.
pub all_free : (o : Opening) (list : List Transition) (responses : List Response) (seen : Seen) (blocks : ℕ) →
    (seen.objects.pool.free + (blocks_in seen.objects.slots + blocks_kept seen.doings) ≤ seen.objects.pool.size →
    blocks ≡ seen.objects.pool.free + (blocks_in seen.objects.slots + blocks_kept seen.doings)) →
    Represents o list responses seen → blocks ≡ o.blocks
all_free o list responses seen blocks put s =
    let all = all_there s.world seen s.sight in
    put (omega (arith, all, s.sight.blocks)) ∙ (all ∙ (leads_opened (opening o) s.world list responses s.led).1)
