-- Requests with the same encoding are equal.
use Rattle.std.proofs.Common.{◌≡◌, ℕ, ◌^◌, ◌<◌, ◌≤◌, true, false, cond, eqb, List, [], ◌∷◌, ◌++◌, length, refl, sym, ap}
use Rattle.std.proofs.Common.{◌∙◌, arith, length-append}
use Rattle.sysv_model.specs.declared.attributes.SetTo.{SetTo}
use Rattle.sysv_model.specs.declared.cred.Cred.{Cred}
use Rattle.sysv_model.specs.declared.flags.Flags.{Flags}
use Rattle.sysv_wire.specs.declared.frame.Op.{Op}
use Rattle.sysv_wire.specs.declared.frame.Op.TheVariants as op
use Rattle.sysv_wire.specs.declared.frame.Version.{Version}
use Rattle.sysv_wire.specs.declared.frame.Version.TheVariants.{One, Two, Three}
use Rattle.sysv_wire.specs.declared.request.Ask.{Ask}
use Rattle.sysv_wire.specs.declared.request.Ask.TheVariants.{Hello, Get, Snd, Rcv, Stat, Set, Rm, Row, Hold, Done, Back}
use Rattle.sysv_wire.specs.declared.request.Request.{Request}
use Rattle.sysv_wire.specs.Frames.{op_number, version_number}
use Rattle.sysv_wire.specs.OneEncoding.{OneRequest}
use Rattle.sysv_wire.specs.Requests.{FitsAsk, ask_fields, ask_text, fields_len, has_text, op_of}
use Rattle.sysv_wire.proofs.RequestLemmas.{length-ask_fields}
use Rattle.sysv_wire.proofs.Apart.{fronts_alike, rests_alike, frames_alike, u32_same, i32_same, u32_step, i32_step}
use Rattle.sysv_wire.proofs.Apart.{i64_step}

abbrev pub op_at : ℕ → Op
op_at n =
    cond (eqb n 0) op.Hello
    (cond (eqb n 1) op.Get
    (cond (eqb n 2) op.Snd
    (cond (eqb n 3) op.Rcv (cond (eqb n 4) op.Stat (cond (eqb n 5) op.Set (cond (eqb n 6) op.Rm
    (cond (eqb n 7) op.Row (cond (eqb n 8) op.Hold (cond (eqb n 9) op.Done op.Back)))))))))

abbrev pub asked : Version → Ask → Request
asked v a = record { version = v; ask = a }

pub op_back : (o : Op) → op_at (op_number o) ≡ o
op_back op.Hello = refl
op_back op.Get = refl
op_back op.Snd = refl
op_back op.Rcv = refl
op_back op.Stat = refl
op_back op.Set = refl
op_back op.Rm = refl
op_back op.Row = refl
op_back op.Hold = refl
op_back op.Done = refl
op_back op.Back = refl

pub version_at : ℕ → Version
version_at n = cond (eqb n 1) One (cond (eqb n 2) Two Three)

pub version_back : (v : Version) → version_at (version_number v) ≡ v
unfolding version_at
version_back One = refl
version_back Two = refl
version_back Three = refl

-- Versions with the same number are equal.
pub version_same : (v other : Version) → version_number v ≡ version_number other → v ≡ other
version_same v other e = sym (version_back v) ∙ ap version_at e ∙ version_back other

-- Operations with the same number are equal.
pub op_same : (o other : Op) → op_number o ≡ op_number other → o ≡ other
op_same o other e = sym (op_back o) ∙ ap op_at e ∙ op_back other

abbrev pub cred : ℕ → ℕ → ℕ → Cred
cred u g p = record { uid = u; gid = g; pid = p }

abbrev pub flags : ℕ → Flags
flags n = record { 0 = n }

abbrev pub to : ℕ → ℕ → ℕ → ℕ → SetTo
to u g m q = record { uid = u; gid = g; mode = m; qbytes = q }

pub ask_same : (a b : Ask) → FitsAsk a → FitsAsk b → op_of a ≡ op_of b → ask_fields a ≡ ask_fields b → a ≡ b
unfolding ask_fields
ask_same (Hello c) (Hello d) p q o e =
    let s = u32_step c.uid d.uid _ _ p.0 q.0 e in
    let t = u32_step c.gid d.gid _ _ p.1 q.1 s.1 in
    let u = u32_same c.pid d.pid p.2 q.2 t.1 in
    ap (λ x. Hello (cred x c.gid c.pid)) s.0 ∙ ap (λ x. Hello (cred d.uid x c.pid)) t.0
    ∙ ap (λ x. Hello (cred d.uid d.gid x)) u
ask_same (Get k f) (Get l g) p q o e =
    let s = i32_step k l _ _ p.0 q.0 e in
    let t = u32_same f.0 g.0 p.1 q.1 s.1 in
    ap (λ x. Get x f) s.0 ∙ ap (λ x. Get l (flags x)) t
ask_same (Snd i m f) (Snd j n g) p q o e =
    let s = i32_step i j _ _ p.0 q.0 e in
    let t = i64_step m n _ _ p.1 q.1 s.1 in
    let u = u32_same f.0 g.0 p.2 q.2 t.1 in
    ap (λ x. Snd x m f) s.0 ∙ ap (λ x. Snd j x f) t.0 ∙ ap (λ x. Snd j n (flags x)) u
ask_same (Rcv i k m f) (Rcv j l n g) p q o e =
    let s = i32_step i j _ _ p.0 q.0 e in
    let r = u32_step k l _ _ p.1 q.1 s.1 in
    let t = i64_step m n _ _ p.2 q.2 r.1 in
    let u = u32_same f.0 g.0 p.3 q.3 t.1 in
    ap (λ x. Rcv x k m f) s.0 ∙ ap (λ x. Rcv j x m f) r.0 ∙ ap (λ x. Rcv j l x f) t.0 ∙ ap (λ x. Rcv j l n (flags x)) u
ask_same (Stat i) (Stat j) p q o e = ap Stat (i32_same i j p q e)
ask_same (Set i c) (Set j d) p q o e =
    let s = i32_step i j _ _ p.0 q.0 e in
    let t = u32_step c.uid d.uid _ _ p.1 q.1 s.1 in
    let u = u32_step c.gid d.gid _ _ p.2 q.2 t.1 in
    let v = u32_step c.mode d.mode _ _ p.3 q.3 u.1 in
    let w = u32_same c.qbytes d.qbytes p.4 q.4 v.1 in
    ap (λ x. Set x c) s.0 ∙ ap (λ x. Set j (to x c.gid c.mode c.qbytes)) t.0
    ∙ ap (λ x. Set j (to d.uid x c.mode c.qbytes)) u.0
    ∙ ap (λ x. Set j (to d.uid d.gid x c.qbytes)) v.0 ∙ ap (λ x. Set j (to d.uid d.gid d.mode x)) w
ask_same (Rm i) (Rm j) p q o e = ap Rm (i32_same i j p q e)
ask_same (Row i) (Row j) p q o e = ap Row (u32_same i j p q e)
ask_same (Hold i k m f x) (Hold j l n g y) p q o e =
    let s = i32_step i j _ _ p.0 q.0 e in
    let r = u32_step k l _ _ p.1 q.1 s.1 in
    let t = i64_step m n _ _ p.2 q.2 r.1 in
    let u = u32_step f.0 g.0 _ _ p.3 q.3 t.1 in
    let v = u32_same x y p.4 q.4 u.1 in
    ap (λ z. Hold z k m f x) s.0 ∙ ap (λ z. Hold j z m f x) r.0 ∙ ap (λ z. Hold j l z f x) t.0
    ∙ ap (λ z. Hold j l n (flags z) x) u.0 ∙ ap (λ z. Hold j l n g z) v
ask_same Done Done p q o e = refl
ask_same Back Back p q o e = refl
ask_same a b p q o e = absurd cc

short_text : (o : Op) (text : List ℕ) → length text ≤ 8256 → length (ask_text o text) ≤ 8256
short_text o text h = elim (has_text o) as (λ b. length (cond b text []) ≤ 8256) [ true ↦ h | false ↦ omega arith ]

short_fields : (o : Op) → fields_len o ≤ 24
short_fields op.Hello = omega arith
short_fields op.Get = omega arith
short_fields op.Snd = omega arith
short_fields op.Rcv = omega arith
short_fields op.Stat = omega arith
short_fields op.Set = omega arith
short_fields op.Rm = omega arith
short_fields op.Row = omega arith
short_fields op.Hold = omega arith
short_fields op.Done = omega arith
short_fields op.Back = omega arith

short_request : (v : Version) (a : Ask) (text : List ℕ) → length text ≤ 8256 →
    length (version_number v ∷ op_number (op_of a) ∷ (ask_fields a ++ ask_text (op_of a) text)) < 2 ^ 32
short_request v a text h =
    omega (
      arith,
      length-append (ask_fields a) (ask_text (op_of a) text),
      length-ask_fields a,
      short_fields (op_of a),
      short_text (op_of a) text h,
    )

pub one_request : OneRequest
one_request a b text other behind rest p q e =
    let f = frames_alike (version_number a.version ∷ op_number (op_of a.ask)
    ∷ (ask_fields a.ask ++ ask_text (op_of a.ask) text))
    (version_number b.version ∷ op_number (op_of b.ask) ∷ (ask_fields b.ask ++ ask_text (op_of b.ask) other)) behind
    rest
    (short_request a.version a.ask text p.1) (short_request b.version b.ask other q.1) e in
    let versions : a.version ≡ b.version = version_same a.version b.version (cc (f.0)) in
    let numbers : op_number (op_of a.ask) ≡ op_number (op_of b.ask) = cc (f.0) in
    let ops : op_of a.ask ≡ op_of b.ask = op_same (op_of a.ask) (op_of b.ask) numbers in
    let contents : ask_fields a.ask ++ ask_text (op_of a.ask) text ≡ ask_fields b.ask ++ ask_text (op_of b.ask) other =
    cc (f.0) in
    let len : length (ask_fields a.ask) ≡ length (ask_fields b.ask) =
    length-ask_fields a.ask ∙ ap fields_len ops ∙ sym (length-ask_fields b.ask) in
    let asks =
    ask_same a.ask b.ask p.0 q.0 ops (fronts_alike (ask_fields a.ask) (ask_fields b.ask) _ _ len contents) in (
      ap (λ v. asked v a.ask) versions ∙ ap (asked b.version) asks,
      rests_alike (ask_fields a.ask) (ask_fields b.ask) _ _ len contents,
      f.1,
    )
