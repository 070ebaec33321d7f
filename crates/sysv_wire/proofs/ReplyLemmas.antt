-- Replies whose fields have no meaning, replies that break off, and whole replies.
use Rattle.std.proofs.Common.{◌≡◌, ℕ, ℤ, ◌+◌, ◌-◌, ◌^◌, ◌<◌, ◌≤◌, List, [], ◌∷◌, ◌++◌, length, get_or, Option, Some, Ok}
use Rattle.std.proofs.Common.{cond, true, false, refl, sym, ap, subst, ◌∙◌, append_assoc, append-nil, arith}
use Rattle.std.proofs.Common.{length-append, inl, inr}
use Rattle.std.specs.Io.KnownBytes.{Consumes}
use Rattle.std.proofs.KnownBytes.{Consumes-trans}
use Rattle.sysv_wire.specs.declared.fault.Fault.{Fault}
use Rattle.sysv_wire.specs.declared.fault.Fault.TheVariants.{Truncated, TooLong, BadOp, BadField, Read}
use Rattle.sysv_wire.specs.declared.frame.Op.{Op}
use Rattle.sysv_wire.specs.declared.reply.ReplyContent.{ReplyContent}
use Rattle.sysv_wire.specs.declared.reply.ReplyContent.TheVariants.{Refused, Hello, HelloSlots, Get, Snd, Rcv, Stat}
use Rattle.sysv_wire.specs.declared.reply.ReplyContent.TheVariants.{Set, Rm, Row, Hold, Done, Back}
use Rattle.sysv_wire.specs.Faults.{Faults, Breaks, IsShorter}
use Rattle.sysv_wire.specs.Frames.{Knows, op_number, version_number, frame}
use Rattle.sysv_wire.specs.Reading.{ReadsReply}
use Rattle.sysv_model.specs.declared.attributes.Row.{Row as Line}
use Rattle.sysv_model.specs.declared.attributes.Stat.{Stat as Attributes}
use Rattle.sysv_wire.specs.declared.frame.TheConstants.{MAX_REPLY, MAX_MODE}
use Rattle.sysv_wire.specs.declared.frame.Version.{Version}
use Rattle.sysv_wire.specs.Numbers.{u16_bytes, u32_bytes, i32_bytes, i64_bytes}
use Rattle.sysv_wire.specs.Replies.{FitsContent, IsAnswer, IsRestLength, perm_fields, count_fields, time_fields}
use Rattle.sysv_wire.specs.Replies.{stat_fields, row_fields, content_fields, content_text, gives_text, error_number}
use Rattle.sysv_wire.specs.Replies.{reply_encoding}
use Rattle.sysv_wire.specs.ReplyFaults.{AnswerFault, IsWideAt, RestFault, ReplyFault}
use Rattle.sysv_wire.proofs.RequestLemmas.{frame_whole}
use Rattle.sysv_wire.proofs.StreamLemmas.{Faults-after}

pub length-u32_bytes : (n : ℕ) → length (u32_bytes n) ≡ 4
unfolding u32_bytes
length-u32_bytes n = refl

pub length-i32_bytes : (z : ℤ) → length (i32_bytes z) ≡ 4
unfolding i32_bytes
length-i32_bytes z = refl

-- After this number of bytes there is this mode.
abbrev pub HasModeAt : ℕ → List ℕ → ℕ → Type 0
HasModeAt place fields mode =
    (before : List ℕ) × (after : List ℕ) × (fields ≡ before ++ (u16_bytes mode ++ after)) × (length before ≡ place)

pub row_mode : (row : Line) (mark : ℕ) (rest : List ℕ) → rest ≡ row_fields row → HasModeAt 13 (mark ∷ rest) row.mode
unfolding row_fields
row_mode row mark rest e =
    let front = i32_bytes row.id ++ (i32_bytes row.key ++ u32_bytes row.uid) in
    let after = u32_bytes row.cbytes ++ u32_bytes row.qnum in
    let parts : rest ≡ front ++ (u16_bytes row.mode ++ after) = e ∙ simp append_assoc in
    let len : length front ≡ 12 = omega (
      arith,
      length-append (i32_bytes row.id) (i32_bytes row.key ++ u32_bytes row.uid),
      length-append (i32_bytes row.key) (u32_bytes row.uid),
      length-i32_bytes row.id,
      length-i32_bytes row.key,
      length-u32_bytes row.uid,
    ) in
    (mark ∷ front, after, ap (λ l. mark ∷ l) parts, omega (arith, len))

pub stat_mode : (stat : Attributes) (fields : List ℕ) → fields ≡ stat_fields stat → HasModeAt 20 fields stat.perm.mode
unfolding stat_fields perm_fields
stat_mode stat fields e =
    let perm = stat.perm in
    let front = i32_bytes stat.key
    ++ (u32_bytes perm.uid ++ (u32_bytes perm.gid ++ (u32_bytes perm.cuid ++ u32_bytes perm.cgid))) in
    let after = count_fields stat ++ time_fields stat in
    let parts : fields ≡ front ++ (u16_bytes perm.mode ++ after) = e ∙ simp append_assoc in
    let len : length front ≡ 20 = omega (
      arith,
      length-append (i32_bytes stat.key)
          (u32_bytes perm.uid ++ (u32_bytes perm.gid ++ (u32_bytes perm.cuid ++ u32_bytes perm.cgid))),
      length-append (u32_bytes perm.uid) (u32_bytes perm.gid ++ (u32_bytes perm.cuid ++ u32_bytes perm.cgid)),
      length-append (u32_bytes perm.gid) (u32_bytes perm.cuid ++ u32_bytes perm.cgid),
      length-append (u32_bytes perm.cuid) (u32_bytes perm.cgid),
      length-i32_bytes stat.key,
      length-u32_bytes perm.uid,
      length-u32_bytes perm.gid,
      length-u32_bytes perm.cuid,
      length-u32_bytes perm.cgid,
    ) in
    (front, after, parts, len)

wide_at : (place : ℕ) (fields : List ℕ) (mode : ℕ) → HasModeAt place fields mode → MAX_MODE < mode → mode < 2 ^ 16 →
    IsWideAt place fields
wide_at place fields mode h wide fits = (h.0, mode, h.1, h.2, h.3, wide, fits)

pub wide_row : (row : Line) (mark : ℕ) (rest : List ℕ) → rest ≡ row_fields row → MAX_MODE < row.mode →
    row.mode < 2 ^ 16 → IsWideAt 13 (mark ∷ rest)
wide_row row mark rest e wide fits = wide_at 13 (mark ∷ rest) row.mode (row_mode row mark rest e) wide fits

pub wide_stat : (stat : Attributes) (fields : List ℕ) → fields ≡ stat_fields stat → MAX_MODE < stat.perm.mode →
    stat.perm.mode < 2 ^ 16 → IsWideAt 20 fields
wide_stat stat fields e wide fits = wide_at 20 fields stat.perm.mode (stat_mode stat fields e) wide fits

-- A part of the rest that is too short is a rest that is too short.
breaks_rest : (op : Op) (error n m : ℕ) (done : List ℕ) (fault : Fault) → length done + n ≤ m → (taken : List ℕ) →
    Breaks (IsShorter n) fault taken → RestFault op error m fault (done ++ taken)
breaks_rest op error n m done Truncated fits taken why = omega (arith, length-append done taken)
breaks_rest op error n m done Read fits taken why = tt
breaks_rest op error n m done TooLong fits taken why = absurd why
breaks_rest op error n m done BadOp fits taken why = absurd why
breaks_rest op error n m done BadField fits taken why = absurd why

pub rest_broken : (op : Op) (error n m : ℕ) (done : List ℕ) (fault : Fault) (a b c : Option (List ℕ)) →
    length done + n ≤ m → Consumes a b done → Faults (Breaks (IsShorter n)) fault b c →
    Faults (RestFault op error m) fault a c
rest_broken op error n m done fault a b c fits first second =
    Faults-after (Breaks (IsShorter n)) (RestFault op error m) fault a b c done first second
    (breaks_rest op error n m done fault fits)

-- A head of three bytes, and the bytes after it.
head_then : (n : ℕ) (version : Version) (op : Op) (byte number error : ℕ) (head taken : List ℕ)
    → head ≡ byte ∷ number ∷ error ∷ [] → version_number version ≡ byte → op_number op ≡ number
    → (u32_bytes n ++ head) ++ taken ≡ u32_bytes n ++ (version_number version ∷ op_number op ∷ error ∷ taken)
head_then n version op byte number error head taken h v o =
    append_assoc (u32_bytes n) head taken
    ∙ ap (λ l. u32_bytes n ++ (l ++ taken))
    (h ∙ ap (λ x. x ∷ number ∷ error ∷ []) (sym v) ∙ ap (λ x. version_number version ∷ x ∷ error ∷ []) (sym o))

faults_reply : (newest : Version) (n : ℕ) (version : Version) (op : Op) (error : ℕ) (fault : Fault) → 3 ≤ n
    → n ≤ MAX_REPLY
    → IsRestLength version op error (n - 3) → Knows newest version op → (taken : List ℕ)
    → RestFault op error (n - 3) fault taken
    → ReplyFault newest fault (u32_bytes n ++ (version_number version ∷ op_number op ∷ error ∷ taken))
faults_reply newest n version op error Truncated low high wanted known taken why =
    inr (n, version, op, error, taken, low, high, wanted, why, refl, known)
faults_reply newest n version op error BadField low high wanted known taken why =
    inr (n, version, op, error, taken, low, high, wanted, why, refl, known)
faults_reply newest n version op error Read low high wanted known taken why = tt
faults_reply newest n version op error TooLong low high wanted known taken why = absurd why
faults_reply newest n version op error BadOp low high wanted known taken why = absurd why

pub reply_broken : (newest : Version) (n rest : ℕ) (version : Version) (op : Op) (byte number error : ℕ) (head : List ℕ)
    (fault : Fault)
    (a b c : Option (List ℕ))
    → head ≡ byte ∷ number ∷ error ∷ [] → version_number version ≡ byte → op_number op ≡ number
    → 3 ≤ n → n ≤ MAX_REPLY → rest ≡ n - 3 → IsRestLength version op error rest
    → Knows newest version op → Consumes a b (u32_bytes n ++ head)
    → Faults (RestFault op error rest) fault b c → Faults (ReplyFault newest) fault a c
reply_broken newest n rest version op byte number error head fault a b c h v o low high e wanted known first second =
    Faults-after (RestFault op error rest) (ReplyFault newest) fault a b c (u32_bytes n ++ head) first second
    (λ taken why. subst (ReplyFault newest fault) (sym (head_then n version op byte number error head taken h v o))
    (faults_reply newest n version op error fault low high (subst (IsRestLength version op error) e wanted) known taken
    (subst (λ (k : ℕ). RestFault op error k fault taken) e why)))

-- A head that is refused.
pub reply_refused : (newest : Version) (n byte number error : ℕ) (head : List ℕ) (fault : Fault) (a b : Option (List ℕ))
    → head ≡ byte ∷ number ∷ error ∷ [] → 3 ≤ n → n ≤ MAX_REPLY → AnswerFault newest n byte number error fault
    → Consumes a b (u32_bytes n ++ head) → Faults (ReplyFault newest) fault a b
reply_refused newest n byte number error head BadOp a b h low high why first =
    (u32_bytes n ++ head, first, (n, byte, number, error, (low, high, ap (λ l. u32_bytes n ++ l) h), why), tt)
reply_refused newest n byte number error head BadField a b h low high why first =
    (u32_bytes n ++ head, first, inl (inr (n, byte, number, error, (low, high, ap (λ l. u32_bytes n ++ l) h), why)), tt)
reply_refused newest n byte number error head Truncated a b h low high why first = absurd why
reply_refused newest n byte number error head TooLong a b h low high why first = absurd why
reply_refused newest n byte number error head Read a b h low high why first = absurd why

-- A list of length three is its three bytes.
pub triple_is : (head : List ℕ) → length head ≡ 3 → head ≡ get_or head 0 0 ∷ get_or head 1 0 ∷ get_or head 2 0 ∷ []
triple_is [] e = absurd (omega (arith, e))
triple_is (a ∷ []) e = absurd (omega (arith, e))
triple_is (a ∷ b ∷ []) e = absurd (omega (arith, e))
triple_is (a ∷ b ∷ d ∷ []) e = refl
triple_is (a ∷ b ∷ d ∷ x ∷ rest) e = absurd (omega (arith, e))

-- The body in a reply is one that a message may have.
text_short : (a : ReplyContent) (text : List ℕ) (n : ℕ) → text ≡ content_text a text →
    n ≡ length (content_fields a ++ content_text a text) → n ≤ 8200 → length text ≤ 8192
unfolding i64_bytes
text_short (Rcv t) text n empty len most = omega (arith, len, most, length-append (i64_bytes t) text)
text_short (Refused e) text n empty len most = let none = ap length empty in omega (arith, none)
text_short (HelloSlots k) text n empty len most = let none = ap length empty in omega (arith, none)
text_short Hello text n empty len most = let none = ap length empty in omega (arith, none)
text_short (Get i) text n empty len most = let none = ap length empty in omega (arith, none)
text_short Snd text n empty len most = let none = ap length empty in omega (arith, none)
text_short (Stat s) text n empty len most = let none = ap length empty in omega (arith, none)
text_short Set text n empty len most = let none = ap length empty in omega (arith, none)
text_short Rm text n empty len most = let none = ap length empty in omega (arith, none)
text_short (Row r) text n empty len most = let none = ap length empty in omega (arith, none)
text_short (Hold t) text n empty len most = omega (arith, len, most, length-append (i64_bytes t) text)
text_short Done text n empty len most = let none = ap length empty in omega (arith, none)
text_short Back text n empty len most = let none = ap length empty in omega (arith, none)

-- A reply that was read is encoded by what was taken.
pub reply_read : (newest : Version) (result : ReplyContent) (n rest : ℕ) (version : Version) (op : Op)
    (byte number error told : ℕ)
    (head text : List ℕ) (a b c : Option (List ℕ))
    → head ≡ byte ∷ number ∷ error ∷ [] → version_number version ≡ byte → op_number op ≡ number
    → 3 ≤ n → n ≤ MAX_REPLY → rest ≡ n - 3 → told ≡ op_number op
    → rest ≡ length (content_fields result ++ content_text result text) → IsAnswer version (op_number op) result
    → FitsContent result → error_number result ≡ error → text ≡ content_text result text
    → Consumes a b (u32_bytes n ++ head) → Consumes b c (content_fields result ++ content_text result text)
    → Knows newest version op
    → ReadsReply newest a c (Ok (Some record { version = version; op = told; result = result })) text
reply_read newest result n rest version op byte number error told head text a b c h v o low high e t len answer fits err
    empty first second known =
    let behind = content_fields result ++ content_text result text in
    let whole : (u32_bytes n ++ head) ++ behind ≡ frame (version_number version ∷ told ∷ error_number result ∷ behind) =
    head_then n version op byte number error head behind h v o
    ∙ ap (λ x. u32_bytes n ++ (version_number version ∷ op_number op ∷ x ∷ behind)) (sym err)
    ∙ ap (λ x. u32_bytes n ++ (version_number version ∷ x ∷ error_number result ∷ behind)) (sym t)
    ∙ frame_whole n (version_number version ∷ told ∷ error_number result ∷ behind) (omega arith) in (
      subst (Consumes a c) whole (Consumes-trans a b c (u32_bytes n ++ head) behind first second),
      (
        subst (λ (x : ℕ). IsAnswer version x result) (sym t) answer,
        fits,
        text_short result text rest empty len (omega (arith, e, high)),
        omega (arith, t, known.1),
      ),
      empty,
      known.0,
    )

-- The head of a reply and its fields, and then its body.
encoded_head : (version number error : ℕ) (fields text : List ℕ) →
    (u32_bytes (3 + length fields + length text) ++ (version ∷ number ∷ error ∷ fields)) ++ text
    ≡ frame (version ∷ number ∷ error ∷ (fields ++ text))
encoded_head version number error fields text =
    append_assoc (u32_bytes (3 + length fields + length text)) (version ∷ number ∷ error ∷ fields) text
    ∙ frame_whole (3 + length fields + length text) (version ∷ number ∷ error ∷ (fields ++ text))
    (omega (arith, length-append fields text))

reply_is : (version : Version) (number : ℕ) (result : ReplyContent) (fields text head : List ℕ)
    → fields ≡ content_fields result
    → head
    ≡ u32_bytes (3 + length fields + length (content_text result text))
    ++ (version_number version ∷ number ∷ error_number result ∷ fields)
    → head ++ content_text result text ≡ reply_encoding record { version = version; op = number; result = result } text
reply_is version number result fields text head f h =
    ap (λ l. l ++ content_text result text) h
    ∙ encoded_head (version_number version) number (error_number result) fields (content_text result text)
    ∙ ap (λ l. frame (version_number version ∷ number ∷ error_number result ∷ (l ++ content_text result text))) f

pub reply_with_text : (version : Version) (number : ℕ) (result : ReplyContent) (fields text head bytes : List ℕ)
    (size : ℕ) → fields ≡ content_fields result → gives_text result ≡ true
    → bytes ≡ head → size ≡ length text
    → head ≡ u32_bytes (3 + length fields + size) ++ (version_number version ∷ number ∷ error_number result ∷ fields)
    → bytes ++ text ≡ reply_encoding record { version = version; op = number; result = result } text
reply_with_text version number result fields text head bytes size f has b s h =
    let kept : content_text result text ≡ text = ap (λ x. cond x text []) has in
    let all : head
    ≡ u32_bytes (3 + length fields + length (content_text result text))
    ++ (version_number version ∷ number ∷ error_number result ∷ fields) = rw kept (rw (← s) h) in
    ap (λ l. l ++ text) b ∙ ap (λ l. head ++ l) (sym kept) ∙ reply_is version number result fields text head f all

pub reply_without_text : (version : Version) (number : ℕ) (result : ReplyContent) (fields text head bytes : List ℕ)
    → fields ≡ content_fields result → gives_text result ≡ false
    → bytes ≡ head
    → head ≡ u32_bytes (3 + length fields + 0) ++ (version_number version ∷ number ∷ error_number result ∷ fields)
    → bytes ≡ reply_encoding record { version = version; op = number; result = result } text
reply_without_text version number result fields text head bytes f has b h =
    let none : content_text result text ≡ [] = ap (λ x. cond x text []) has in
    let all : head
    ≡ u32_bytes (3 + length fields + length (content_text result text))
    ++ (version_number version ∷ number ∷ error_number result ∷ fields) = rw none h in
    b ∙ sym (append-nil head) ∙ ap (λ l. head ++ l) (sym none) ∙ reply_is version number result fields text head f all
