-- A line has at most one meaning, and it is decided whether it has one.
use Rattle.std.proofs.Common.{◌≡◌, ◌⊎◌, ℕ, List, [], ◌∷◌, length, codes, inl, inr, true, false, sym, ap, subst, ◌∙◌}
use Rattle.std.proofs.Common.{arith}
use Rattle.std.proofs.lemmas.Bool.{cases_eq}
use Rattle.sysv_words.specs.Words.{Pair, IsNat32, IsNat64}
use Rattle.sysv_words.specs.Readings.{IsReading, WordsAreRead}
use Rattle.sysv_words.specs.ReadingPairs.{pair}
use Rattle.sysv_words.specs.Deciding.{at_most_or_not, same_or_not, splits_or_not}
use Rattle.sysv_words.specs.Splitting.{splits_once}
use Rattle.sysv_steps.specs.Call.{SystemCall}
use Rattle.sysv_script.specs.declared.actor.Actor.{Actor}
use Rattle.sysv_script.specs.declared.blocks.Blocks.{Blocks}
use Rattle.sysv_script.specs.Said.{Said, Nothing, MakesPreset, GivesCred, GivesMoment, Starts, StepsOnce, Continues}
use Rattle.sysv_script.specs.Said.{AllContinue, GivesBlocks}
use Rattle.sysv_script.specs.Lines.{IsActor, actor, IsBlocks, of_blocks, IsSkipped, SaysCall, SaysStart, order_name}
use Rattle.sysv_script.specs.Lines.{SaysOrderArguments, OrderNamed, SaysOrder, TellsAlone, TellsInWords, Tells, Says}
use Rattle.sysv_script.proofs.CallNames.{first_bytes}
use Rattle.sysv_script.proofs.LineKinds.{kind, kind_said, in_words, words_alone, alone_in_words, order_in_words}
use Rattle.sysv_script.proofs.LineKinds.{nothing_in_words, in_words_only, tail_same}
use Rattle.sysv_script.proofs.CallsReadOnce.{actor_read, blocks_read, call_read}

abbrev SaysCredWords : List ℕ → Actor × (ℕ × (ℕ × ℕ)) → Type 0
SaysCredWords = Pair IsActor (Pair IsNat32 (Pair IsNat32 IsNat32))

cred_read : WordsAreRead → IsReading SaysCredWords
cred_read w = pair IsActor (Pair IsNat32 (Pair IsNat32 IsNat32)) (actor_read w)
    (pair IsNat32 (Pair IsNat32 IsNat32) w.nat32 (pair IsNat32 IsNat32 w.nat32 w.nat32))

start_read : WordsAreRead → IsReading (Pair IsActor SaysCall)
start_read w = pair IsActor SaysCall (actor_read w) (call_read w)

-- ---- one thing

abbrev cred_made : Actor × (ℕ × (ℕ × ℕ)) → Said
cred_made v = GivesCred v.0.0 (record { uid = v.1.0; gid = v.1.1.0; pid = v.1.1.1 })

abbrev start_made : Actor × SystemCall → Said
start_made v = Starts v.0.0 v.1 true

abbrev start_only_made : Actor × SystemCall → Said
start_only_made v = Starts v.0.0 v.1 false

abbrev step_made : Actor → Said
step_made a = StepsOnce a.0

abbrev pool_made : Blocks → Said
pool_made b = GivesBlocks b.0

abbrev go_made : Actor → Said
go_made a = Continues a.0

-- If two meanings of a line have the same name, the arguments of one are those of the other.
arguments_of : (line : List ℕ) (a b : Said) → (h : SaysOrder line a) (k : SaysOrder line b) →
    SaysOrderArguments k.rest a
arguments_of line a b h k =
    let same = splits_once 32 line (order_name a) h.rest (order_name b) k.rest h.split k.split in
    subst (λ (r : List ℕ). SaysOrderArguments r a) same.1 h.says

tells_once : WordsAreRead → (line : List ℕ) (a b : Said) → kind a ≡ kind b → Tells line a → Tells line b → a ≡ b
tells_once w line Nothing Nothing e h k = λ i. Nothing
tells_once w line MakesPreset MakesPreset e h k = λ i. MakesPreset
tells_once w line AllContinue AllContinue e h k = λ i. AllContinue
tells_once w line (GivesCred who cred) (GivesCred other given) e h k =
    ap cred_made
    ((cred_read w).once k.rest _ _ (arguments_of line (GivesCred who cred) (GivesCred other given) h k) k.says)
tells_once w line (GivesBlocks blocks) (GivesBlocks other) e h k =
    ap pool_made
    ((blocks_read w).once k.rest _ _ (arguments_of line (GivesBlocks blocks) (GivesBlocks other) h k) k.says)
tells_once w line (GivesMoment moment) (GivesMoment other) e h k =
    ap GivesMoment
    (w.nat64.once k.rest moment other (arguments_of line (GivesMoment moment) (GivesMoment other) h k) k.says)
tells_once w line (StepsOnce who) (StepsOnce other) e h k =
    ap step_made ((actor_read w).once k.rest _ _ (arguments_of line (StepsOnce who) (StepsOnce other) h k) k.says)
tells_once w line (Continues who) (Continues other) e h k =
    ap go_made ((actor_read w).once k.rest _ _ (arguments_of line (Continues who) (Continues other) h k) k.says)
tells_once w line (Starts who asked true) (Starts other called true) e h k =
    ap start_made ((start_read w).once line _ _ h k)
tells_once w line (Starts who asked false) (Starts other called false) e h k =
    let same = tail_same 43 line h.0 k.0 h.1 k.1 in
    ap start_only_made ((start_read w).once k.0 _ _ (subst (λ (l : List ℕ). SaysStart l who asked) same h.2) k.2)
tells_once w line (Starts who asked true) b e h k = absurd (omega (arith, e))
tells_once w line (Starts who asked false) b e h k = absurd (omega (arith, e))
tells_once w line a (Starts other called true) e h k = absurd (omega (arith, e))
tells_once w line a (Starts other called false) e h k = absurd (omega (arith, e))
tells_once w line a b e h k = absurd (omega (arith, e))

-- A line has at most one meaning.
pub says_once : WordsAreRead → (line : List ℕ) (a b : Said) → Says line a → Says line b → a ≡ b
says_once w line a b h k = tells_once w line a b (sym (kind_said line a h.1) ∙ kind_said line b k.1) h.1 k.1

-- ---- something or nothing

abbrev Orders : List ℕ → List ℕ → Type 0
Orders name words = ((said : Said) × OrderNamed name words said) ⊎ ((said : Said) → ¬ OrderNamed name words said)

no_cred : (words : List ℕ) → ((v : Actor × (ℕ × (ℕ × ℕ))) → ¬ SaysCredWords words v) → (said : Said) →
    ¬ OrderNamed (codes "as") words said
no_cred words none (GivesCred who cred) h = none (actor who, (cred.uid, (cred.gid, cred.pid))) h.arguments
no_cred words none said h = let e = ap first_bytes h.is in omega (arith, e)

no_moment : (words : List ℕ) → ((v : ℕ) → ¬ IsNat64 words v) → (said : Said) → ¬ OrderNamed (codes "now") words said
no_moment words none (GivesMoment moment) h = none moment h.arguments
no_moment words none said h = let e = ap first_bytes h.is in omega (arith, e)

no_step : (words : List ℕ) → ((a : Actor) → ¬ IsActor words a) → (said : Said) → ¬ OrderNamed (codes "step") words said
no_step words none (StepsOnce who) h = none (actor who) h.arguments
no_step words none said h = let e = ap first_bytes h.is in omega (arith, e)

no_go : (words : List ℕ) → ((a : Actor) → ¬ IsActor words a) → (said : Said) → ¬ OrderNamed (codes "go") words said
no_go words none (Continues who) h = none (actor who) h.arguments
no_go words none said h = let e = ap first_bytes h.is in omega (arith, e)

no_pool : (words : List ℕ) → ((b : Blocks) → ¬ IsBlocks words b) → (said : Said) →
    ¬ OrderNamed (codes "pool") words said
no_pool words none (GivesBlocks blocks) h = none (of_blocks blocks) h.arguments
no_pool words none said h = let e = ap first_bytes h.is in omega (arith, e)

pool_or_not : WordsAreRead → (words : List ℕ) → Orders (codes "pool") words
pool_or_not w words = elim ((blocks_read w).decided words) [
  | inl v ↦ inl (pool_made v.0, record { is = λ i. codes "pool"; arguments = v.1 })
  | inr none ↦ inr (no_pool words none)
]

cred_or_not : WordsAreRead → (words : List ℕ) → Orders (codes "as") words
cred_or_not w words = elim ((cred_read w).decided words) [
  | inl v ↦ inl (cred_made v.0, record { is = λ i. codes "as"; arguments = v.1 })
  | inr none ↦ inr (no_cred words none)
]

moment_or_not : WordsAreRead → (words : List ℕ) → Orders (codes "now") words
moment_or_not w words = elim (w.nat64.decided words) [
  | inl v ↦ inl (GivesMoment v.0, record { is = λ i. codes "now"; arguments = v.1 })
  | inr none ↦ inr (no_moment words none)
]

step_or_not : WordsAreRead → (words : List ℕ) → Orders (codes "step") words
step_or_not w words = elim ((actor_read w).decided words) [
  | inl v ↦ inl (step_made v.0, record { is = λ i. codes "step"; arguments = v.1 })
  | inr none ↦ inr (no_step words none)
]

go_or_not : WordsAreRead → (words : List ℕ) → Orders (codes "go") words
go_or_not w words = elim ((actor_read w).decided words) [
  | inl v ↦ inl (go_made v.0, record { is = λ i. codes "go"; arguments = v.1 })
  | inr none ↦ inr (no_go words none)
]

-- The name is none of the five.
record IsNoOrder (name : List ℕ) : Type 0 where
  pool_name : ¬ (name ≡ codes "pool")
  as_name : ¬ (name ≡ codes "as")
  now_name : ¬ (name ≡ codes "now")
  step_name : ¬ (name ≡ codes "step")
  go_name : ¬ (name ≡ codes "go")

no_order : (name words : List ℕ) → IsNoOrder name → (said : Said) → ¬ OrderNamed name words said
no_order name words apart (GivesBlocks blocks) h = apart.pool_name (sym h.is)
no_order name words apart (GivesCred who cred) h = apart.as_name (sym h.is)
no_order name words apart (GivesMoment moment) h = apart.now_name (sym h.is)
no_order name words apart (StepsOnce who) h = apart.step_name (sym h.is)
no_order name words apart (Continues who) h = apart.go_name (sym h.is)
no_order name words apart Nothing h = elim h.arguments [ ]
no_order name words apart MakesPreset h = elim h.arguments [ ]
no_order name words apart (Starts who asked goes) h = elim h.arguments [ ]
no_order name words apart AllContinue h = elim h.arguments [ ]

under_name : (name other words : List ℕ) → name ≡ other → Orders other words → Orders name words
under_name name other words e h = subst (λ (n : List ℕ). Orders n words) (sym e) h

order_or_not : WordsAreRead → (name words : List ℕ) → Orders name words
order_or_not w name words = elim (same_or_not name (codes "pool")) [
  | inl e ↦ under_name name (codes "pool") words e (pool_or_not w words)
  | inr f ↦ elim (same_or_not name (codes "as")) [
    | inl e ↦ under_name name (codes "as") words e (cred_or_not w words)
    | inr a ↦ elim (same_or_not name (codes "now")) [
      | inl e ↦ under_name name (codes "now") words e (moment_or_not w words)
      | inr b ↦ elim (same_or_not name (codes "step")) [
        | inl e ↦ under_name name (codes "step") words e (step_or_not w words)
        | inr c ↦ elim (same_or_not name (codes "go")) [
          | inl e ↦ under_name name (codes "go") words e (go_or_not w words)
          | inr d ↦ inr (no_order name words
              (record { pool_name = f; as_name = a; now_name = b; step_name = c; go_name = d }))
        ]
      ]
    ]
  ]
]

abbrev Found : (List ℕ → Said → Type 0) → List ℕ → Type 0
Found T line = ((said : Said) × T line said) ⊎ ((said : Said) → ¬ T line said)

starts_none : (line : List ℕ) → ((v : Actor × SystemCall) → ¬ Pair IsActor SaysCall line v) → (who : ℕ)
    (asked : SystemCall) → ¬ SaysStart line who asked
starts_none line none who asked h = none (actor who, asked) h

none_alone : (line : List ℕ) → ¬ (line ≡ codes "preset") → ¬ (line ≡ codes "all") → (said : Said) →
    ¬ TellsAlone line said
none_alone line a b MakesPreset h = a h
none_alone line a b AllContinue h = b h
none_alone line a b Nothing h = elim h [ ]
none_alone line a b (GivesCred who cred) h = elim h [ ]
none_alone line a b (GivesMoment moment) h = elim h [ ]
none_alone line a b (GivesBlocks blocks) h = elim h [ ]
none_alone line a b (Starts who asked goes) h = elim h [ ]
none_alone line a b (StepsOnce who) h = elim h [ ]
none_alone line a b (Continues who) h = elim h [ ]

alone_or_not : (line : List ℕ) → Found TellsAlone line
alone_or_not line = elim (same_or_not line (codes "preset")) [
  | inl e ↦ inl (MakesPreset, e)
  | inr a ↦ elim (same_or_not line (codes "all")) [
    | inl e ↦ inl (AllContinue, e)
    | inr b ↦ inr (none_alone line a b)
  ]
]

words_or_not : WordsAreRead → (line : List ℕ) → Found TellsInWords line
words_or_not w line = elim (splits_or_not 32 line) [
  | inl s ↦ elim (order_or_not w s.0 s.1) [
    | inl order ↦ inl (order.0, order_in_words line s.0 s.1 order.0 s.2 order.1)
    | inr no_orders ↦ elim ((start_read w).decided line) [
      | inl start ↦ inl (start_made start.0, start.1)
      | inr no_starts ↦ inr (nothing_in_words line s.0 s.1 s.2 no_orders (starts_none line no_starts))
    ]
  ]
  | inr plain ↦ elim (alone_or_not line) [
    | inl one ↦ inl (one.0, alone_in_words line one.0 one.1)
    | inr none ↦ inr (λ said h. none said (words_alone line said plain h))
  ]
]

nothing_tells : (words : List ℕ) → ((who : ℕ) (asked : SystemCall) → ¬ SaysStart words who asked) → (said : Said) →
    ¬ Tells (43 ∷ words) said
nothing_tells words none (Starts who asked false) h = none who asked
    (subst (λ (l : List ℕ). SaysStart l who asked) (tail_same 43 (43 ∷ words) h.0 words h.1 (λ i. 43 ∷ words)) h.2)
nothing_tells words none said h = let k = kind_said (43 ∷ words) said h in omega (arith, k)

plus_or_not : WordsAreRead → (words : List ℕ) → Found Tells (43 ∷ words)
plus_or_not w words = elim ((start_read w).decided words) [
  | inl start ↦ inl (start_only_made start.0, (words, (λ i. 43 ∷ words), start.1))
  | inr none ↦ inr (nothing_tells words (starts_none words none))
]

kept_here : (x : ℕ) (rest : List ℕ) → ¬ (x ≡ 35) → ¬ IsSkipped (x ∷ rest)
kept_here x rest other (inl e) = cc
kept_here x rest other (inr (comment, e)) = other (cc)

plain_here : (x : ℕ) (rest : List ℕ) → ¬ (x ≡ 43) → (words : List ℕ) → ¬ (x ∷ rest ≡ 43 ∷ words)
plain_here x rest other words e = other (cc)

tells_or_not : WordsAreRead → (line : List ℕ) → Found Tells line
tells_or_not w [] = inl (Nothing, inl (λ i. []))
tells_or_not w (x ∷ rest) = elim (cases_eq x 35) [
  | inl comment ↦ inl (Nothing, inr (rest, ap (λ b. b ∷ rest) comment))
  | inr kept ↦ elim (cases_eq x 43) [
    | inl plus ↦ subst (λ b. Found Tells (b ∷ rest)) (sym plus) (plus_or_not w rest)
    | inr plain ↦ elim (words_or_not w (x ∷ rest)) [
      | inl said ↦ inl (said.0, in_words (x ∷ rest) said.0 said.1)
      | inr none ↦
          inr (λ said h. none said (in_words_only (x ∷ rest) said (kept_here x rest kept) (plain_here x rest plain) h))
    ]
  ]
]

-- A line has a meaning, or it has none.
pub says_or_not : WordsAreRead → (line : List ℕ) → ((said : Said) × Says line said) ⊎ ((said : Said) → ¬ Says line said)
says_or_not w line = elim (at_most_or_not (length line) 9000) [
  | inl short ↦ elim (tells_or_not w line) [
    | inl said ↦ inl (said.0, (short, said.1))
    | inr none ↦ inr (λ said h. none said h.1)
  ]
  | inr over ↦ inr (λ said h. over h.0)
]
