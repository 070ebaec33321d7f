-- Replies with the same encoding are equal.
use Rattle.std.proofs.Common.{◌≡◌, ℕ, ◌^◌, ◌<◌, ◌≤◌, true, false, cond, eqb, List, [], ◌∷◌, ◌++◌, length, Option, None}
use Rattle.std.proofs.Common.{Some, refl, sym, ap, subst, ◌∙◌, append-nil, arith, length-append}
use Rattle.std.specs.Prelude.{ℤ}
use Rattle.sysv_model.specs.Errors.{number_of}
use Rattle.sysv_model.specs.declared.attributes.Perm.{Perm}
use Rattle.sysv_model.specs.declared.attributes.Row.{Row as Line}
use Rattle.sysv_model.specs.declared.attributes.Stat.{Stat as Attributes}
use Rattle.sysv_model.specs.declared.errno.Errno.{Errno}
use Rattle.sysv_model.specs.declared.errno.Errno.TheVariants.{EPERM, ENOENT, E2BIG, EAGAIN, EACCES, EEXIST, EINVAL}
use Rattle.sysv_model.specs.declared.errno.Errno.TheVariants.{ENOSPC, ENOMSG, EIDRM, EOVERFLOW}
use Rattle.sysv_wire.specs.declared.frame.Version.{Version}
use Rattle.sysv_wire.specs.Frames.{version_number}
use Rattle.sysv_wire.specs.declared.reply.ReplyContent.{ReplyContent}
use Rattle.sysv_wire.specs.declared.reply.ReplyContent.TheVariants.{Refused, Hello, HelloSlots, Get, Snd, Rcv, Stat}
use Rattle.sysv_wire.specs.declared.reply.ReplyContent.TheVariants.{Set, Rm, Row, Hold, Done, Back}
use Rattle.sysv_wire.specs.declared.reply.Reply.{Reply}
use Rattle.sysv_wire.specs.Numbers.{u16_bytes, u32_bytes, u64_bytes, i32_bytes, i64_bytes}
use Rattle.sysv_wire.specs.OneEncoding.{OneReply}
use Rattle.sysv_wire.specs.Replies.{FitsPerm, FitsStat, FitsRow, FitsContent, IsAnswer, error_number, perm_fields}
use Rattle.sysv_wire.specs.Replies.{count_fields, time_fields, stat_fields, row_fields, content_fields, content_text}
use Rattle.sysv_wire.specs.Replies.{gives_text}
use Rattle.sysv_wire.proofs.OneRequest.{version_same}
use Rattle.sysv_wire.proofs.Apart.{fronts_alike, rests_alike, frames_alike, u16_same, u32_same, u64_same, u16_step}
use Rattle.sysv_wire.proofs.Apart.{u32_step, u64_step, i32_step, i64_step}

errno_at : ℕ → Errno
errno_at n =
    cond (eqb n 1) EPERM
    (cond (eqb n 2) ENOENT
    (cond (eqb n 7) E2BIG
    (cond (eqb n 11) EAGAIN (cond (eqb n 13) EACCES (cond (eqb n 17) EEXIST (cond (eqb n 22) EINVAL
    (cond (eqb n 28) ENOSPC (cond (eqb n 42) ENOMSG (cond (eqb n 43) EIDRM EOVERFLOW)))))))))

errno_back : (e : Errno) → errno_at (number_of e) ≡ e
unfolding errno_at
errno_back EPERM = refl
errno_back ENOENT = refl
errno_back E2BIG = refl
errno_back EAGAIN = refl
errno_back EACCES = refl
errno_back EEXIST = refl
errno_back EINVAL = refl
errno_back ENOSPC = refl
errno_back ENOMSG = refl
errno_back EIDRM = refl
errno_back EOVERFLOW = refl

errno_same : (e f : Errno) → number_of e ≡ number_of f → e ≡ f
errno_same e f h = sym (errno_back e) ∙ ap errno_at h ∙ errno_back f

pub some_error : (e : Errno) → number_of e ≡ 0 → ⊥
some_error EPERM h = omega (arith, h)
some_error ENOENT h = omega (arith, h)
some_error E2BIG h = omega (arith, h)
some_error EAGAIN h = omega (arith, h)
some_error EACCES h = omega (arith, h)
some_error EEXIST h = omega (arith, h)
some_error EINVAL h = omega (arith, h)
some_error ENOSPC h = omega (arith, h)
some_error ENOMSG h = omega (arith, h)
some_error EIDRM h = omega (arith, h)
some_error EOVERFLOW h = omega (arith, h)

abbrev perm : ℕ → ℕ → ℕ → ℕ → ℕ → Perm
perm u g c d m = record { uid = u; gid = g; cuid = c; cgid = d; mode = m }

abbrev told : ℤ → Perm → ℕ → ℕ → ℕ → ℕ → ℕ → ℕ → ℕ → ℕ → Attributes
told k p cb qn qb ls lr st rt ct = record {
  key = k;
  perm = p;
  cbytes = cb;
  qnum = qn;
  qbytes = qb;
  lspid = ls;
  lrpid = lr;
  stime = st;
  rtime = rt;
  ctime = ct;
}

abbrev line : ℤ → ℤ → ℕ → ℕ → ℕ → ℕ → Line
line i k u m cb qn = record { id = i; key = k; uid = u; mode = m; cbytes = cb; qnum = qn }

length-perm_fields : (p q : Perm) → length (perm_fields p) ≡ length (perm_fields q)
unfolding perm_fields u32_bytes u16_bytes
length-perm_fields p q = refl

length-count_fields : (s t : Attributes) → length (count_fields s) ≡ length (count_fields t)
unfolding count_fields u32_bytes
length-count_fields s t = refl

perm_same : (a b : Perm) → FitsPerm a → FitsPerm b → perm_fields a ≡ perm_fields b → a ≡ b
unfolding perm_fields
perm_same a b p q e =
    let v = u32_step a.uid b.uid _ _ p.uid q.uid e in
    let w = u32_step a.gid b.gid _ _ p.gid q.gid v.1 in
    let x = u32_step a.cuid b.cuid _ _ p.cuid q.cuid w.1 in
    let y = u32_step a.cgid b.cgid _ _ p.cgid q.cgid x.1 in
    let z = u16_same a.mode b.mode p.mode q.mode y.1 in
    ap (λ n. perm n a.gid a.cuid a.cgid a.mode) v.0 ∙ ap (λ n. perm b.uid n a.cuid a.cgid a.mode) w.0
    ∙ ap (λ n. perm b.uid b.gid n a.cgid a.mode) x.0
    ∙ ap (λ n. perm b.uid b.gid b.cuid n a.mode) y.0 ∙ ap (λ n. perm b.uid b.gid b.cuid b.cgid n) z

record Counts (s t : Attributes) : Type 0 where
  cbytes : s.cbytes ≡ t.cbytes
  qnum : s.qnum ≡ t.qnum
  qbytes : s.qbytes ≡ t.qbytes
  lspid : s.lspid ≡ t.lspid
  lrpid : s.lrpid ≡ t.lrpid

counts_same : (s t : Attributes) → FitsStat s → FitsStat t → count_fields s ≡ count_fields t → Counts s t
unfolding count_fields
counts_same s t p q e =
    let v = u32_step s.cbytes t.cbytes _ _ p.cbytes q.cbytes e in
    let w = u32_step s.qnum t.qnum _ _ p.qnum q.qnum v.1 in
    let x = u32_step s.qbytes t.qbytes _ _ p.qbytes q.qbytes w.1 in
    let y = u32_step s.lspid t.lspid _ _ p.lspid q.lspid x.1 in
    record { cbytes = v.0; qnum = w.0; qbytes = x.0; lspid = y.0; lrpid = u32_same s.lrpid t.lrpid p.lrpid q.lrpid y.1 }

record Times (s t : Attributes) : Type 0 where
  stime : s.stime ≡ t.stime
  rtime : s.rtime ≡ t.rtime
  ctime : s.ctime ≡ t.ctime

times_same : (s t : Attributes) → FitsStat s → FitsStat t → time_fields s ≡ time_fields t → Times s t
unfolding time_fields
times_same s t p q e =
    let v = u64_step s.stime t.stime _ _ p.stime q.stime e in
    let w = u64_step s.rtime t.rtime _ _ p.rtime q.rtime v.1 in
    record { stime = v.0; rtime = w.0; ctime = u64_same s.ctime t.ctime p.ctime q.ctime w.1 }

stat_same : (s t : Attributes) → FitsStat s → FitsStat t → stat_fields s ≡ stat_fields t → s ≡ t
unfolding stat_fields
stat_same s t p q e =
    let k = i32_step s.key t.key _ _ p.key q.key e in
    let len = length-perm_fields s.perm t.perm in
    let m =
    perm_same s.perm t.perm p.perm q.perm (fronts_alike (perm_fields s.perm) (perm_fields t.perm) _ _ len k.1) in
    let behind = rests_alike (perm_fields s.perm) (perm_fields t.perm) _ _ len k.1 in
    let sizes = length-count_fields s t in
    let c = counts_same s t p q (fronts_alike (count_fields s) (count_fields t) _ _ sizes behind) in
    let d = times_same s t p q (rests_alike (count_fields s) (count_fields t) _ _ sizes behind) in
    ap (λ x. told x s.perm s.cbytes s.qnum s.qbytes s.lspid s.lrpid s.stime s.rtime s.ctime) k.0
    ∙ ap (λ x. told t.key x s.cbytes s.qnum s.qbytes s.lspid s.lrpid s.stime s.rtime s.ctime) m
    ∙ ap (λ x. told t.key t.perm x s.qnum s.qbytes s.lspid s.lrpid s.stime s.rtime s.ctime) c.cbytes
    ∙ ap (λ x. told t.key t.perm t.cbytes x s.qbytes s.lspid s.lrpid s.stime s.rtime s.ctime) c.qnum
    ∙ ap (λ x. told t.key t.perm t.cbytes t.qnum x s.lspid s.lrpid s.stime s.rtime s.ctime) c.qbytes
    ∙ ap (λ x. told t.key t.perm t.cbytes t.qnum t.qbytes x s.lrpid s.stime s.rtime s.ctime) c.lspid
    ∙ ap (λ x. told t.key t.perm t.cbytes t.qnum t.qbytes t.lspid x s.stime s.rtime s.ctime) c.lrpid
    ∙ ap (λ x. told t.key t.perm t.cbytes t.qnum t.qbytes t.lspid t.lrpid x s.rtime s.ctime) d.stime
    ∙ ap (λ x. told t.key t.perm t.cbytes t.qnum t.qbytes t.lspid t.lrpid t.stime x s.ctime) d.rtime
    ∙ ap (λ x. told t.key t.perm t.cbytes t.qnum t.qbytes t.lspid t.lrpid t.stime t.rtime x) d.ctime

row_same : (r s : Line) → FitsRow r → FitsRow s → row_fields r ≡ row_fields s → r ≡ s
unfolding row_fields
row_same r s p q e =
    let v = i32_step r.id s.id _ _ p.id q.id e in
    let w = i32_step r.key s.key _ _ p.key q.key v.1 in
    let x = u32_step r.uid s.uid _ _ p.uid q.uid w.1 in
    let y = u16_step r.mode s.mode _ _ p.mode q.mode x.1 in
    let z = u32_step r.cbytes s.cbytes _ _ p.cbytes q.cbytes y.1 in
    let u = u32_same r.qnum s.qnum p.qnum q.qnum z.1 in
    ap (λ n. line n r.key r.uid r.mode r.cbytes r.qnum) v.0 ∙ ap (λ n. line s.id n r.uid r.mode r.cbytes r.qnum) w.0
    ∙ ap (λ n. line s.id s.key n r.mode r.cbytes r.qnum) x.0
    ∙ ap (λ n. line s.id s.key s.uid n r.cbytes r.qnum) y.0 ∙ ap (λ n. line s.id s.key s.uid s.mode n r.qnum) z.0
    ∙ ap (λ n. line s.id s.key s.uid s.mode s.cbytes n) u

pub row_number : (v : Version) (n : ℕ) (r : Option Line) → IsAnswer v n (Row r) → n ≡ 7
row_number v n None h = h
row_number v n (Some r) h = h.0

-- A reply's operation, its error and the bytes after it determine the result and the body.
content_same : (v : Version) (n : ℕ) (a b : ReplyContent) (text other : List ℕ) → IsAnswer v n a → IsAnswer v n b
    → FitsContent a → FitsContent b → error_number a ≡ error_number b
    → content_fields a ++ content_text a text ≡ content_fields b ++ content_text b other
    → (a ≡ b) × (content_text a text ≡ content_text b other)
content_same v n (Refused e) (Refused f) text other h k p q err same = (ap Refused (errno_same e f err), refl)
content_same v n (Refused e) b text other h k p q err same = absurd (some_error e err)
content_same v n a (Refused f) text other h k p q err same = absurd (some_error f (sym err))
content_same v n Hello Hello text other h k p q err same = (refl, refl)
content_same v n (HelloSlots i) (HelloSlots j) text other h k p q err same =
    (ap HelloSlots (u32_step i j [] [] p q same).0, refl)
content_same v n Hello (HelloSlots j) text other h k p q err same = absurd (k.0 h.0)
content_same v n (HelloSlots i) Hello text other h k p q err same = absurd (h.0 k.0)
content_same v n (Get i) (Get j) text other h k p q err same = (ap Get (i32_step i j [] [] p q same).0, refl)
content_same v n Snd Snd text other h k p q err same = (refl, refl)
content_same v n (Rcv i) (Rcv j) text other h k p q err same =
    let s = i64_step i j text other p q same in (ap Rcv s.0, s.1)
content_same v n (Stat s) (Stat t) text other h k p q err same =
    (ap Stat (stat_same s t p q (sym (append-nil (stat_fields s)) ∙ same ∙ append-nil (stat_fields t))), refl)
content_same v n Set Set text other h k p q err same = (refl, refl)
content_same v n Rm Rm text other h k p q err same = (refl, refl)
content_same v n (Row None) (Row None) text other h k p q err same = (refl, refl)
content_same v n (Row (Some r)) (Row (Some s)) text other h k p q err same =
    let tails : row_fields r ++ [] ≡ row_fields s ++ [] = cc (same) in (
      ap (λ x. Row (Some x)) (row_same r s p q (sym (append-nil (row_fields r)) ∙ tails ∙ append-nil (row_fields s))),
      refl,
    )
content_same v n (Row None) (Row (Some s)) text other h k p q err same =
    let marks : ◌≡◌ {A = ℕ} 0 1 = cc (same) in absurd (omega (arith, marks))
content_same v n (Row (Some r)) (Row None) text other h k p q err same =
    let marks : ◌≡◌ {A = ℕ} 1 0 = cc (same) in absurd (omega (arith, marks))
content_same v n (Row r) b text other h k p q err same = let w = row_number v n r h in absurd (omega (arith, w, k))
content_same v n a (Row s) text other h k p q err same = let w = row_number v n s k in absurd (omega (arith, h, w))
content_same v n (Hold i) (Hold j) text other h k p q err same =
    let s = i64_step i j text other p q same in (ap Hold s.0, s.1)
content_same v n Done Done text other h k p q err same = (refl, refl)
content_same v n Back Back text other h k p q err same = (refl, refl)
content_same v n a b text other h k p q err same = absurd (omega (arith, h, k))

short_text : (a : ReplyContent) (text : List ℕ) → length text ≤ 8192 → length (content_text a text) ≤ 8192
short_text a text h = elim (gives_text a) as (λ b. length (cond b text []) ≤ 8192) [ true ↦ h | false ↦ omega arith ]

short_fields : (a : ReplyContent) → length (content_fields a) ≤ 66
unfolding stat_fields perm_fields count_fields time_fields row_fields u16_bytes u32_bytes u64_bytes i32_bytes i64_bytes
short_fields (Refused e) = omega arith
short_fields Hello = omega arith
short_fields (HelloSlots k) = omega arith
short_fields (Get i) = omega arith
short_fields Snd = omega arith
short_fields (Rcv m) = omega arith
short_fields (Stat s) = omega arith
short_fields Set = omega arith
short_fields Rm = omega arith
short_fields (Row None) = omega arith
short_fields (Row (Some r)) = omega arith
short_fields (Hold m) = omega arith
short_fields Done = omega arith
short_fields Back = omega arith

pub short_reply : (v : Version) (n : ℕ) (a : ReplyContent) (text : List ℕ) → length text ≤ 8192 →
    length (version_number v ∷ n ∷ error_number a ∷ (content_fields a ++ content_text a text)) < 2 ^ 32
short_reply v n a text h =
    omega (arith, length-append (content_fields a) (content_text a text), short_fields a, short_text a text h)

abbrev replied : Version → ℕ → ReplyContent → Reply
replied v n a = record { version = v; op = n; result = a }

pub one_reply : OneReply
one_reply a b text other behind rest p q e =
    let f = frames_alike (version_number a.version ∷ a.op ∷ error_number a.result
    ∷ (content_fields a.result ++ content_text a.result text))
    (version_number b.version ∷ b.op ∷ error_number b.result ∷ (content_fields b.result ++ content_text b.result other))
    behind rest
    (short_reply a.version a.op a.result text p.2) (short_reply b.version b.op b.result other q.2) e in
    let versions : a.version ≡ b.version = version_same a.version b.version (cc (f.0)) in
    let ops : a.op ≡ b.op = cc (f.0) in
    let errors : error_number a.result ≡ error_number b.result = cc (f.0) in
    let contents : content_fields a.result ++ content_text a.result text
    ≡ content_fields b.result ++ content_text b.result other = cc (f.0) in
    let answers : IsAnswer a.version a.op b.result = subst (λ (n : ℕ). IsAnswer a.version n b.result) (sym ops)
    (subst (λ (v : Version). IsAnswer v b.op b.result) (sym versions) q.0) in
    let same = content_same a.version a.op a.result b.result text other p.0 answers p.1 q.1 errors contents in (
      ap (λ (v : Version). replied v a.op a.result) versions ∙ ap (λ (n : ℕ). replied b.version n a.result) ops
          ∙ ap (λ x. replied b.version b.op x) same.0,
      same.1,
      f.1,
    )
