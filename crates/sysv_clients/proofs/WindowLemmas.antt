-- Sends on their way, and the replies to them.
use Rattle.std.proofs.Common.{◌≡◌, ℕ, List, [], ◌∷◌, ◌++◌, Option, None, Some, inl, inr, refl, sym, ap, subst, ◌∙◌}
use Rattle.std.proofs.Common.{length, suc, ◌+◌, ◌<◌, append_assoc, append-nil, arith, length-append}
use Rattle.std.proofs.lemmas.List.{map-append}
use Rattle.std.proofs.lemmas.List.Concat.{flat_map-append}
use Rattle.std.specs.Prelude.{◌⊎◌}
use Rattle.std.specs.Io.KnownBytes.{Appends, Consumes, Keeps, append_known}
use Rattle.std.proofs.KnownBytes.{Consumes-nil, Consumes-trans}
use Rattle.sysv_clients.specs.declared.fault.ClientFault.{ClientFault}
use Rattle.sysv_clients.specs.declared.fault.ClientFault.TheVariants.{Refused, NoReply, NoMemory}
use Rattle.sysv_clients.specs.declared.sending.Cut.{Cut as ACut}
use Rattle.sysv_clients.specs.declared.sending.Window.{Window}
use Rattle.sysv_clients.specs.Asks.{request_of}
use Rattle.sysv_clients.specs.Calls.{Call, Each, IsCallDone, read_by, written_by}
use Rattle.sysv_clients.specs.Dialogue.{HasNoReply, IsDone, reply_to}
use Rattle.sysv_clients.specs.Sending.{EndsReplies, HasReply, IsCutBy, Sent, a_send, frames_of, sent_by}
use Rattle.sysv_clients.specs.Window.{AreSnds, HearsCut, HearsDone, IsSnd, lost}
use Rattle.sysv_clients.proofs.CallLemmas.{call_of, read_more}
use Rattle.sysv_wire.specs.declared.reply.ReplyContent.{ReplyContent}
use Rattle.sysv_wire.specs.declared.request.Ask.{Ask}
use Rattle.sysv_wire.specs.Replies.{reply_encoding}
use Rattle.sysv_wire.specs.Requests.{request_encoding}

-- The first of the sends on their way, and the others.
pub record First (sents : List Sent) : Type 0 where
  pub one : Sent
  pub others : List Sent
  pub split : sents ≡ one ∷ others

pub first_of : (sents : List Sent) (n : ℕ) → n ≡ length sents → 0 < n → First sents
first_of [] n is some = absurd (omega (arith, is, some))
first_of (one ∷ others) n is some = record { one = one; others = others; split = refl }

-- The request of a call.
abbrev pub sent_of : Call → Sent
sent_of call = record { ask = call.ask; text = call.text }

pub sent_more : (sends : List Call) (one : Call) (others : List Sent) →
    sent_by sends ++ sent_of one ∷ others ≡ sent_by (sends ++ one ∷ []) ++ others
sent_more sends one others =
    sym (append_assoc (sent_by sends) (sent_of one ∷ []) others)
    ∙ ap (λ l. l ++ others) (sym (map-append (λ (c : Call). sent_of c) sends (one ∷ [])))

pub sent_both : (first second : List Call) → sent_by (first ++ second) ≡ sent_by first ++ sent_by second
sent_both first second = map-append (λ (c : Call). sent_of c) first second

pub length_sent : (calls : List Call) → length (sent_by calls) ≡ length calls
length_sent [] = refl
length_sent (one ∷ more) = ap suc (length_sent more)

pub read_both : (first second : List Call) → read_by (first ++ second) ≡ read_by first ++ read_by second
read_both first second =
    flat_map-append (λ (e : Call). reply_encoding (reply_to e.ask e.answer) e.given) first second

pub read_so : (opened sends : List Call) (one : Call) →
    read_by (opened ++ (sends ++ one ∷ []))
    ≡ read_by (opened ++ sends) ++ reply_encoding (reply_to one.ask one.answer) one.given
read_so opened sends one =
    ap read_by (sym (append_assoc opened sends (one ∷ []))) ∙ read_more (opened ++ sends) one

pub written_both : (first second : List Call) → written_by (first ++ second) ≡ written_by first ++ written_by second
written_both first second =
    flat_map-append (λ (e : Call). request_encoding (request_of e.ask) e.text) first second

pub frames_both : (first second : List Sent) → frames_of (first ++ second) ≡ frames_of first ++ frames_of second
frames_both first second =
    flat_map-append (λ (sent : Sent). request_encoding (request_of sent.ask) sent.text) first second

-- The frames of the requests of calls.
pub frames_of_calls : (calls : List Call) → frames_of (sent_by calls) ≡ written_by calls
frames_of_calls [] = refl
frames_of_calls (one ∷ more) =
    ap (λ l. request_encoding (request_of one.ask) one.text ++ l) (frames_of_calls more)

pub each_more : (Passes : Call → Type 0) (calls : List Call) (one : Call) → Each Passes calls → Passes one →
    Each Passes (calls ++ one ∷ [])
each_more Passes [] one each passes = (passes, tt)
each_more Passes (first ∷ others) one each passes = (each.0, each_more Passes others one each.1 passes)

pub each_both : (Passes : Call → Type 0) (first second : List Call) → Each Passes first → Each Passes second →
    Each Passes (first ++ second)
each_both Passes [] second each also = also
each_both Passes (one ∷ others) second each also = (each.0, each_both Passes others second each.1 also)

pub all_answered : (sends : List Call) → Each IsCallDone sends → Each HasReply sends
all_answered [] each = tt
all_answered (one ∷ others) each = (inl each.0, all_answered others each.1)

-- The later ones of some sends.
pub snds_after : (first second : List Sent) → AreSnds (first ++ second) → AreSnds second
snds_after [] second all = all
snds_after (one ∷ others) second all = snds_after others second all.1

pub snds_before : (first second : List Sent) → AreSnds (first ++ second) → AreSnds first
snds_before [] second all = tt
snds_before (one ∷ others) second all = (all.0, snds_before others second all.1)

pub snds_both : (first second : List Sent) → AreSnds first → AreSnds second → AreSnds (first ++ second)
snds_both [] second all also = also
snds_both (one ∷ others) second all also = (all.0, snds_both others second all.1 also)

-- The reply to a send is one to this send.
pub replied_so : (ask : Ask) (answer : ReplyContent) (given : List ℕ) (left rest : Option (List ℕ)) → IsSnd ask
    → Consumes left rest (reply_encoding (reply_to a_send answer) given)
    → Consumes left rest (reply_encoding (reply_to ask answer) given)
replied_so ask answer given left rest send read =
    subst (λ (a : Ask). Consumes left rest (reply_encoding (reply_to a answer) given)) (sym send.3) read

-- A send was done.
pub done_so : (ask : Ask) (answer : ReplyContent) (given : List ℕ) → IsSnd ask → IsDone a_send answer given
    → IsDone ask answer given
done_so ask answer given send done =
    subst (λ (a : Ask). IsDone a answer given) (sym send.3)
    (record { fits = done.fits; text = done.text; done = done.done })

-- What a writer had taken between two parts.
abbrev pub between : Option (List ℕ) → List ℕ → Option (List ℕ)
between taken first = append_known taken first

pub between_first : (taken : Option (List ℕ)) (first : List ℕ) → Appends taken (between taken first) first
between_first None first = tt
between_first (Some bytes) first = refl

pub between_second : (taken more : Option (List ℕ)) (first second : List ℕ) → Appends taken more (first ++ second) →
    Appends (between taken first) more second
between_second None more first second both = tt
between_second (Some bytes) None first second both = absurd both
between_second (Some bytes) (Some all) first second both = both ∙ sym (append_assoc bytes first second)

pub keeps_appends : (a b : Option (List ℕ)) → Keeps a b → Appends a b []
keeps_appends None b kept = tt
keeps_appends (Some bytes) None kept = absurd kept
keeps_appends (Some bytes) (Some same) kept = kept ∙ sym (append-nil bytes)

-- Why there is no reply to some sends, all of which were written.
pub no_replies : (others : List Sent) (left rest taken more : Option (List ℕ))
    → (rest ≡ left) ⊎ HasNoReply a_send left rest
    → Appends taken more (frames_of others) → EndsReplies others left rest taken more
no_replies others left rest taken more (inl same) wrote =
    inr (inl ((frames_of others, ([], sym (append-nil (frames_of others))), wrote), same))
no_replies others left rest taken more (inr none) wrote = inr (inr (wrote, none))

-- No reply was read yet.
pub hears_none : (waiting : List Sent) (left : Option (List ℕ)) (window : Window) → AreSnds waiting
    → window.waiting ≡ length waiting → HearsDone waiting left left window window
hears_none waiting left window snds waits = record {
  calls = [];
  others = waiting;
  split = refl;
  snds = snds;
  done = tt;
  reads = Consumes-nil left;
  id = refl;
  many = omega arith;
  waits = waits;
}

-- One more reply was read, and the send was done.
pub hears_more : (waiting : List Sent) (answer : ReplyContent) (given : List ℕ) (left mid rest : Option (List ℕ))
    (before window : Window) (fewer : ℕ)
    → HearsDone waiting left mid before window → window.waiting ≡ fewer + 1
    → Consumes mid rest (reply_encoding (reply_to a_send answer) given) → IsDone a_send answer given
    → HearsDone waiting left rest before (record { id = window.id; done = window.done + 1; waiting = fewer })
hears_more waiting answer given left mid rest before window fewer so_far some read done =
    let first = first_of so_far.others window.waiting so_far.waits (omega (arith, some)) in
    let one = call_of first.one.ask first.one.text answer given in
    let snds : AreSnds (first.one ∷ first.others) =
    subst (λ (l : List Sent). AreSnds l) first.split so_far.snds in
    let long : window.waiting ≡ suc (length first.others) =
    so_far.waits ∙ ap (λ (l : List Sent). length l) first.split in
    record {
      calls = so_far.calls ++ one ∷ [];
      others = first.others;
      split = so_far.split ∙ ap (λ (l : List Sent). sent_by so_far.calls ++ l) first.split
          ∙ sent_more so_far.calls one first.others;
      snds = snds.1;
      done = each_more IsCallDone so_far.calls one so_far.done (done_so first.one.ask answer given snds.0 done);
      reads = subst (Consumes left rest) (sym (read_more so_far.calls one))
          (Consumes-trans left mid rest _ _ so_far.reads
          (replied_so first.one.ask answer given mid rest snds.0 read));
      id = so_far.id;
      many = ap (λ (n : ℕ). n + 1) so_far.many
          ∙ (let more = length-append so_far.calls (one ∷ []) in omega (arith, more));
      waits = omega (arith, long, some);
    }

-- A cut counts the sends of this reading, and those before it.
cut_later : (why : ClientFault) (cut : ACut) (first calls : List Call) (own : ℕ) → Each IsCallDone first
    → IsCutBy why (record cut { before = own }) calls
    → IsCutBy why (record cut { before = length first + own }) (first ++ calls)
cut_later (Refused error) cut first calls own done by = record {
  first = first ++ by.first;
  one = by.one;
  later = by.later;
  split = ap (λ l. first ++ l) by.split ∙ sym (append_assoc first by.first (by.one ∷ by.later));
  done = each_both IsCallDone first by.first done by.done;
  refused = by.refused;
  before = ap (λ (n : ℕ). length first + n) by.before ∙ sym (length-append first by.first);
  after = by.after;
}
cut_later NoReply cut first calls own done by = (
  each_both IsCallDone first calls done by.0,
  ap (λ (n : ℕ). length first + n) by.1 ∙ sym (length-append first calls),
  by.2,
  by.3,
)
cut_later NoMemory cut first calls own done by = absurd by

-- The same with the sends that were done before.
pub cut_by : (why : ClientFault) (cut : ACut) (first calls : List Call) (n own : ℕ) → Each IsCallDone first
    → n ≡ length first + own
    → IsCutBy why (record cut { before = own }) calls
    → IsCutBy why (record cut { before = n }) (first ++ calls)
cut_by why cut first calls n own done same by =
    subst (λ (k : ℕ). IsCutBy why (record cut { before = k }) (first ++ calls)) (sym same)
    (cut_later why cut first calls own done by)

-- Some sends were done, and then one ends the session.
pub cut_after : (waiting : List Sent) (left mid rest : Option (List ℕ)) (before window : Window) (cut : ACut)
    (so_far : HearsDone waiting left mid before window) → HearsCut so_far.others mid rest window cut
    → HearsCut waiting left rest before cut
cut_after waiting left mid rest before window cut so_far ends = record {
  calls = so_far.calls ++ ends.calls;
  others = ends.others;
  split = so_far.split ∙ ap (λ (l : List Sent). sent_by so_far.calls ++ l) ends.split
      ∙ sym (append_assoc (sent_by so_far.calls) (sent_by ends.calls) ends.others)
      ∙ ap (λ (l : List Sent). l ++ ends.others) (sym (sent_both so_far.calls ends.calls));
  answered = each_both HasReply so_far.calls ends.calls (all_answered so_far.calls so_far.done) ends.answered;
  unread = ends.unread;
  reads = subst (Consumes left ends.unread) (sym (read_both so_far.calls ends.calls))
      (Consumes-trans left mid ends.unread _ _ so_far.reads ends.reads);
  own = length so_far.calls + ends.own;
  by = cut_later cut.fault cut so_far.calls ends.calls ends.own so_far.done ends.by;
  counted = omega (arith, ends.counted, so_far.many);
  unknown = ends.unknown;
  ends = ends.ends;
}

-- What was read is no reply.
pub loses_reply : (waiting : List Sent) (left rest : Option (List ℕ)) (window : Window)
    → window.waiting ≡ length waiting → 0 < window.waiting → HasNoReply a_send left rest
    → HearsCut waiting left rest window (lost window)
loses_reply waiting left rest window waits some none = record {
  calls = [];
  others = waiting;
  split = refl;
  answered = tt;
  unread = left;
  reads = Consumes-nil left;
  own = 0;
  by = (tt, refl, refl, some);
  counted = omega arith;
  unknown = waits;
  ends = inr none;
}

-- The writer failed as the sends were flushed.
pub loses_flush : (waiting : List Sent) (left : Option (List ℕ)) (window : Window)
    → window.waiting ≡ length waiting → 0 < window.waiting
    → HearsCut waiting left left window (lost window)
loses_flush waiting left window waits some = record {
  calls = [];
  others = waiting;
  split = refl;
  answered = tt;
  unread = left;
  reads = Consumes-nil left;
  own = 0;
  by = (tt, refl, refl, some);
  counted = omega arith;
  unknown = waits;
  ends = inl refl;
}
