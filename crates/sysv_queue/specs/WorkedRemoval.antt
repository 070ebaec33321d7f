-- A worked history with a removal (this profile's). The owner creates queue 0, sends two messages
-- and receives the first; the removal discards the second. Then a queue is installed under the
-- next identifier of slot 0, 256, and a message is sent to it. The history shows that there are
-- legal histories with removals, and what each identifier of this one has accepted, delivered,
-- discarded and still holds.
--
-- After the history there are legal replies to other calls at its turns, and replies that are not
-- legal there.
use Rattle.std.specs.Prelude.{◌≡◌, ℕ, ℤ, pos, List, [], ◌∷◌, true, false, take, codes}
use Rattle.sysv_model.specs.declared.cred.Cred.{Cred}
use Rattle.sysv_model.specs.declared.errno.Errno.TheVariants.{EPERM, EINVAL}
use Rattle.sysv_model.specs.declared.selector.Selector.TheVariants.{Any}
use Rattle.sysv_model.specs.Message.{Message}
use Rattle.sysv_model.specs.History.{Actor, Call, Install, Place, Take, Set, Remove, Reply, Installed, Gone, Accepted}
use Rattle.sysv_model.specs.History.{NoMatch, Taken, Done, Discarded, Refused, Entry, History, arrived, freed}
use Rattle.sysv_model.specs.Waiting.{accepted, delivered, discarded, waiting, held}
use Rattle.sysv_queue.specs.LegalReply.{IsLegalReply, IsLegalHistory}

-- The caller that creates the queue.
abbrev pub owner : Cred
owner = record { uid = 1000; gid = 1000; pid = 101 }

-- A caller without permission.
abbrev pub stranger : Cred
stranger = record { uid = 2000; gid = 2000; pid = 102 }

-- A caller with appropriate privileges.
abbrev pub user_zero : Cred
user_zero = record { uid = 0; gid = 0; pid = 103 }

-- The messages, by their acceptance numbers. The removal raises the arrived count, so the third
-- message has number 3.
abbrev pub first_message : Message
first_message = record { number = 0; sender = 101; mtype = pos 5; bytes = codes "hello" }

abbrev pub second_message : Message
second_message = record { number = 1; sender = 101; mtype = pos 2; bytes = [] }

abbrev pub third_message : Message
third_message = record { number = 3; sender = 101; mtype = pos 5; bytes = codes "next" }

-- The owner's install.
abbrev pub installs_queue : (id : ℤ) (now : ℕ) → Call
installs_queue id now = Install id (pos 7) owner 0o600 now

-- The owner's send.
abbrev pub places : (id mtype : ℤ) → List ℕ → (now : ℕ) → Call
places id mtype text now = Place id owner mtype text now

-- The owner's receive of any message.
abbrev pub takes_any : ℤ → Call
takes_any id = Take id owner Any 100 false 70

-- A set of the limit of queue 0.
abbrev pub sets_limit : Cred → ℕ → Call
sets_limit cred qbytes = Set (pos 0) cred record { uid = 1000; gid = 1000; mode = 0o600; qbytes = qbytes } 75

-- A removal of queue 0.
abbrev pub removes_as : Cred → Call
removes_as cred = Remove (pos 0) cred

-- A turn of actor 1.
abbrev pub by_actor_1 : Call → Reply → Entry
by_actor_1 call reply = record { who = Actor 1 0; call = call; reply = reply }

-- The worked history.
abbrev pub the_turns : History
the_turns =
    by_actor_1 (installs_queue (pos 0) 50) (Installed true)
    ∷ by_actor_1 (places (pos 0) (pos 5) (codes "hello") 60) (Accepted 0)
    ∷ by_actor_1 (places (pos 0) (pos 2) [] 61) (Accepted 1)
    ∷ by_actor_1 (takes_any (pos 0)) (Taken first_message)
    ∷ by_actor_1 (removes_as owner) (Discarded (second_message ∷ []))
    ∷ by_actor_1 (installs_queue (pos 256) 80) (Installed true)
    ∷ by_actor_1 (places (pos 256) (pos 5) (codes "next") 90) (Accepted 3) ∷ []

-- Its first turns.
abbrev pub after_turns : ℕ → History
after_turns count = take count the_turns

-- The worked history is legal and leaves what is listed here.
pub record WorkedRemoval : Type 0 where
  pub legal : IsLegalHistory the_turns
  -- of the removed queue
  pub accepted_before : accepted (pos 0) the_turns ≡ first_message ∷ second_message ∷ []
  pub delivered_before : delivered (pos 0) the_turns ≡ first_message ∷ []
  pub discarded_before : discarded (pos 0) the_turns ≡ second_message ∷ []
  pub waiting_before : waiting (pos 0) the_turns ≡ []
  -- of the queue that is live now
  pub accepted_now : accepted (pos 256) the_turns ≡ third_message ∷ []
  pub delivered_now : delivered (pos 256) the_turns ≡ []
  pub discarded_now : discarded (pos 256) the_turns ≡ []
  pub waiting_now : waiting (pos 256) the_turns ≡ third_message ∷ []
  -- of the slot: two messages were accepted before the removal and one after it; one was taken
  pub slot_holds : held the_turns ≡ third_message ∷ []
  pub arrived_is : arrived the_turns ≡ 4
  pub freed_is : freed the_turns ≡ 2

-- Legal replies to other calls, before the removal (after four turns) and after it.
pub record OtherReplies : Type 0 where
  -- the causes of a set in their order: EPERM for a stranger, EINVAL for a limit above the maximum,
  -- EPERM for a raise by a caller other than user 0
  pub stranger_sets : IsLegalReply (after_turns 4) (sets_limit stranger 70000) (Refused EPERM)
  pub above_the_most : IsLegalReply (after_turns 4) (sets_limit owner 70000) (Refused EINVAL)
  pub above_the_most_by_zero : IsLegalReply (after_turns 4) (sets_limit user_zero 70000) (Refused EINVAL)
  pub raise : IsLegalReply (after_turns 4) (sets_limit owner 16385) (Refused EPERM)
  pub raise_by_zero : IsLegalReply (after_turns 4) (sets_limit user_zero 16385) Done
  pub same_limit : IsLegalReply (after_turns 4) (sets_limit owner 16384) Done
  pub stranger_removes : IsLegalReply (after_turns 4) (removes_as stranger) (Refused EPERM)
  pub gone_take : IsLegalReply (after_turns 5) (takes_any (pos 0)) Gone
  pub gone_set : IsLegalReply (after_turns 5) (sets_limit stranger 70000) (Refused EINVAL)
  pub gone_removal : IsLegalReply (after_turns 5) (removes_as stranger) (Refused EINVAL)
  pub still_gone : IsLegalReply (after_turns 7) (takes_any (pos 0)) Gone

-- Replies that are not legal at its turns.
pub record NoWrongReply : Type 0 where
  -- a removal that leaves a message out, one that also discards a delivered message, and one that
  -- is refused to the owner
  pub message_left_out : ¬ IsLegalReply (after_turns 4) (removes_as owner) (Discarded [])
  pub delivered_too : ¬ IsLegalReply (after_turns 4) (removes_as owner)
      (Discarded (first_message ∷ second_message ∷ []))
  pub owner_refused : ¬ IsLegalReply (after_turns 4) (removes_as owner) (Refused EPERM)
  -- EPERM in place of EINVAL and the reverse, a raise that is granted to the owner, and one that is
  -- refused to user 0
  pub raise_before_limit : ¬ IsLegalReply (after_turns 4) (sets_limit owner 70000) (Refused EPERM)
  pub limit_before_owner : ¬ IsLegalReply (after_turns 4) (sets_limit stranger 70000) (Refused EINVAL)
  pub raise_done : ¬ IsLegalReply (after_turns 4) (sets_limit owner 16385) Done
  pub raise_by_zero_refused : ¬ IsLegalReply (after_turns 4) (sets_limit user_zero 16385) (Refused EPERM)
  -- after the removal, replies as if an empty queue were live
  pub no_message : ¬ IsLegalReply (after_turns 5) (takes_any (pos 0)) (NoMatch 3)
  pub removed_twice : ¬ IsLegalReply (after_turns 5) (removes_as owner) (Discarded [])
  -- the next queue's message under the removed identifier
  pub handed_on : ¬ IsLegalReply (after_turns 7) (takes_any (pos 0)) (Taken third_message)
  -- an acceptance number that does not count the removal
  pub number_given_again : ¬ IsLegalReply (after_turns 6) (places (pos 256) (pos 5) (codes "next") 90) (Accepted 2)
