-- Replies at one point of the worked run, worked by hand from POSIX.1-2017 (msgrcv, msgsnd, and
-- 2.7.1 IPC General Description). After both sends two messages are queued: "hello" of type 5, and
-- after it an empty one of type 2. The queue belongs to user and group 1000 and has mode 0600.
use Rattle.std.specs.Prelude.{ℕ, pos, ◌^◌, true, false}
use Rattle.sysv_model.specs.declared.cred.Cred.{Cred}
use Rattle.sysv_model.specs.declared.selector.Selector.{Selector}
use Rattle.sysv_model.specs.declared.selector.Selector.TheVariants.{Any, Exactly, Except, UpTo}
use Rattle.sysv_model.specs.History.{Call, Look, Take, Reply, Denied, Full, Fits, NoMatch, TooLong, Taken}
use Rattle.sysv_queue.specs.LegalReply.{IsLegalReply}
use Rattle.sysv_core.specs.WorkedRun.{receiver, hello_message, empty_message, after_turns}

-- The reply to the request is legal after both sends.
abbrev pub IsReply : Call → Reply → Type 0
IsReply call reply = IsLegalReply (after_turns 6) call reply

-- A take of at most this number of bytes, without MSG_NOERROR.
abbrev pub takes : Cred → Selector → ℕ → Call
takes cred selector size = Take (pos 0) cred selector size false 0

-- The same with MSG_NOERROR.
abbrev pub takes_cut : Cred → Selector → ℕ → Call
takes_cut cred selector size = Take (pos 0) cred selector size true 0

-- A member of the queue's group who is not its owner.
abbrev pub stranger : Cred
stranger = record { uid = 2000; gid = 1000; pid = 9 }

-- User 0, who is not in that group.
abbrev pub root : Cred
root = record { uid = 0; gid = 2000; pid = 1 }

-- The replies that are legal, and some that are not.
pub record WorkedSelection : Type 0 where
  -- The lowest of the types up to a bound, even though it was sent later.
  pub up_to_four : IsReply (takes receiver (UpTo 4) 100) (Taken empty_message)
  pub up_to_all : IsReply (takes receiver (UpTo (2 ^ 63)) 100) (Taken empty_message)
  pub not_earliest : ¬ IsReply (takes receiver (UpTo (2 ^ 63)) 100) (Taken hello_message)
  -- Exactly this type, and no message if none has it or all types are above the bound.
  pub exactly_five : IsReply (takes receiver (Exactly (pos 5)) 100) (Taken hello_message)
  pub exactly_two : IsReply (takes receiver (Exactly (pos 2)) 100) (Taken empty_message)
  pub exactly_three : IsReply (takes receiver (Exactly (pos 3)) 100) (NoMatch 2)
  pub up_to_one : IsReply (takes receiver (UpTo 1) 100) (NoMatch 2)
  -- The earliest message of every type but one, and none of that type.
  pub except_five : IsReply (takes receiver (Except (pos 5)) 100) (Taken empty_message)
  pub except_two : IsReply (takes receiver (Except (pos 2)) 100) (Taken hello_message)
  pub except_three : IsReply (takes receiver (Except (pos 3)) 100) (Taken hello_message)
  pub not_excepted : ¬ IsReply (takes receiver (Except (pos 5)) 100) (Taken hello_message)
  pub not_later : ¬ IsReply (takes receiver (Except (pos 3)) 100) (Taken empty_message)
  -- A body that is too long stays queued; it is taken only with MSG_NOERROR.
  pub too_long : IsReply (takes receiver Any 4) TooLong
  pub not_cut : ¬ IsReply (takes receiver Any 4) (Taken hello_message)
  pub cut : IsReply (takes_cut receiver Any 4) (Taken hello_message)
  -- The group's member has no permission, and that is checked before a match, the size and the
  -- room. User 0 needs no permission.
  pub no_read : IsReply (takes stranger Any 100) Denied
  pub no_match_unread : (arrived : ℕ) → ¬ IsReply (takes stranger (Exactly (pos 3)) 100) (NoMatch arrived)
  pub no_size_unread : ¬ IsReply (takes stranger Any 4) TooLong
  pub no_write : IsReply (Look (pos 0) stranger 0) Denied
  pub no_room_unwritten : (freed : ℕ) → ¬ IsReply (Look (pos 0) stranger 16384) (Full freed)
  pub all_to_root : IsReply (Look (pos 0) root 0) Fits
  pub all_read_by_root : IsReply (takes root Any 100) (Taken hello_message)
