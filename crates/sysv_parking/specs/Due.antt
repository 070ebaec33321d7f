-- Why parked calls are due (this project's profile). A change makes those calls due whose wait it
-- may end. A call that is due is looked at, unless a look at another call has shown that it would
-- wait again: one that still waits although what this call waits for, too, would have ended it. That this
-- is so of a slot and of the pool is the law `shown_of_others` of sysv_queue and of sysv_pool.
use Rattle.std.specs.Prelude.{◌≡◌, ◌≤◌, Bool, true, false, ◌||◌}
use Rattle.sysv_parking.specs.declared.due.Why.{Why}
use Rattle.sysv_parking.specs.declared.key.Key.{Key}
use Rattle.sysv_parking.specs.declared.key.Key.TheVariants.{Message, Room, Blocks}

abbrev pub is_due : Why → Bool
is_due why = why.changed || why.raised

abbrev pub not_due : Why
not_due = record { changed = false; raised = false }

abbrev pub both : Why → Why → Why
both why more = record { changed = why.changed || more.changed; raised = why.raised || more.raised }

abbrev pub by_change : Why
by_change = record { changed = true; raised = false }

abbrev pub by_raise : Why
by_raise = record { changed = false; raised = true }

abbrev pub by_all : Why
by_all = record { changed = true; raised = true }

-- Why a call is due if its queue was set or removed: a set may make room on the queue.
abbrev pub why_changed : Key → Why
why_changed (Room caller length) = by_all
why_changed key = by_change

-- Both calls are at the same queue, of the same user and group, and both read or both write. So
-- their queue is there for both or for neither, and grants both or neither.
abbrev pub IsGrantedAlike : Key → Key → Type 0
IsGrantedAlike (Message one selector) (Message other selector') = one ≡ other
IsGrantedAlike (Room one length) (Room other length') = one ≡ other
IsGrantedAlike (Room one length) (Blocks other length') = one ≡ other
IsGrantedAlike (Blocks one length) (Room other length') = one ≡ other
IsGrantedAlike (Blocks one length) (Blocks other length') = one ≡ other
IsGrantedAlike one other = ⊥

-- Both are sends that wait for room on the same queue, or both wait for blocks, and the first one's
-- frame is not longer. So if there is too little for the first, there is too little for the second.
abbrev pub NeedsNoMore : Key → Key → Type 0
NeedsNoMore (Room one length) (Room other length') = (one.id ≡ other.id) × (length ≤ length')
NeedsNoMore (Blocks one length) (Blocks other length') = length ≤ length'
NeedsNoMore one other = ⊥
