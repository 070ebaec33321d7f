-- A file of two queues with three messages, worked by hand, and the requests of a load for it.
use Rattle.std.specs.Prelude.{◌≡◌, ℕ, ℤ, pos, negsuc, false, List, [], ◌∷◌, ◌++◌, codes}
use Rattle.sysv_clients.specs.declared.loading.Loading.{Loading}
use Rattle.sysv_clients.specs.Loading.{plain}
use Rattle.sysv_clients.specs.Restored.{Kept, file_of, loads_of}
use Rattle.sysv_clients.specs.Asks.{flags_to_make, no_flags}
use Rattle.sysv_clients.specs.Sending.{Sent}
use Rattle.sysv_model.specs.declared.limits.TheConstants.{QBYTES_AT_CREATION}
use Rattle.sysv_wire.specs.declared.request.Ask.TheVariants.{Get, Set, Snd}

-- The mode 0600.
abbrev pub mode_600 : ℕ
mode_600 = 384

-- A queue of user and group 1000 with key 7, the message "hello" of type 5, and an empty one of type 9.
abbrev pub first_queue : Kept
first_queue = record {
  id = pos 0;
  stat = record {
    key = pos 7;
    perm = record { uid = 1000; gid = 1000; cuid = 1000; cgid = 1000; mode = mode_600 };
    cbytes = 5;
    qnum = 2;
    qbytes = QBYTES_AT_CREATION;
    lspid = 1;
    lrpid = 0;
    stime = 10;
    rtime = 0;
    ctime = 9;
  };
  messages = record { mtype = pos 5; body = codes "hello" } ∷ record { mtype = pos 9; body = [] } ∷ [];
}

-- One with another owner, whose key has 32 bits, and a message of two characters.
abbrev pub second_queue : Kept
second_queue = record {
  id = pos 65;
  stat = record {
    key = negsuc 0;
    perm = record { uid = 1001; gid = 1002; cuid = 1000; cgid = 1000; mode = 416 };
    cbytes = 2;
    qnum = 1;
    qbytes = 100;
    lspid = 1;
    lrpid = 0;
    stime = 10;
    rtime = 0;
    ctime = 9;
  };
  messages = record { mtype = pos 1; body = 34 ∷ 10 ∷ [] } ∷ [];
}

abbrev pub worked_text : List ℕ
worked_text =
    codes "{\"format\":\"sysvmsg-queues\",\"version\":1}" ++ 10 ∷ (
    codes "{\"key\":\"0x00000007\",\"msqid\":0,\"uid\":1000,\"gid\":1000,\"cuid\":1000,\"cgid\":1000,"
    ++ (codes "\"perms\":\"600\",\"qbytes\":16384,\"bytes\":5,\"messages\":2}" ++ 10 ∷ (
    codes "{\"type\":5,\"body\":\"hello\"}" ++ 10 ∷ (
    codes "{\"type\":9,\"body\":\"\"}" ++ 10 ∷ (
    codes "{\"key\":\"0xffffffff\",\"msqid\":65,\"uid\":1001,\"gid\":1002,\"cuid\":1000,\"cgid\":1000,"
    ++ (codes "\"perms\":\"640\",\"qbytes\":100,\"bytes\":2,\"messages\":1}" ++ 10 ∷ (
    codes "{\"type\":1,\"body\":\"\\\"\\u000a\"}" ++ 10 ∷ [])))))))

-- A load as user and group 1000, which waits for room.
abbrev pub worked_loading : Loading
worked_loading = record {
  cred = record { uid = 1000; gid = 1000; pid = 5 };
  from = 1;
  into = false;
  adopt = false;
  nowait = false;
}

-- Its requests, if the queues get these identifiers.
abbrev pub worked_asks : (one two : ℤ) → List Sent
worked_asks one two =
    plain (Get (pos 7) (flags_to_make mode_600))
    ∷ plain (Set one (record { uid = 1000; gid = 1000; mode = mode_600; qbytes = QBYTES_AT_CREATION }))
    ∷ record { ask = Snd one (pos 5) no_flags; text = codes "hello" }
    ∷ record { ask = Snd one (pos 9) no_flags; text = [] }
    ∷ plain (Get (negsuc 0) (flags_to_make 416))
    ∷ plain (Set two (record { uid = 1001; gid = 1002; mode = 416; qbytes = 100 }))
    ∷ record { ask = Snd two (pos 1) no_flags; text = 34 ∷ 10 ∷ [] } ∷ []

pub record WorkedFile : Type 0 where
  pub text : file_of (first_queue ∷ second_queue ∷ []) ≡ worked_text
  pub asks : (one two : ℤ) →
      loads_of worked_loading (one ∷ two ∷ []) (first_queue ∷ second_queue ∷ []) ≡ worked_asks one two
