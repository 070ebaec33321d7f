-- A call, and a line of a name and arguments, is recognized by its name, and the words after the
-- name are its arguments.
use Rattle.std.proofs.Common.{◌≡◌, ◌≤◌, ◌+◌, ◌-◌, ◌*◌, ℕ, ℤ, pos, List, [], ◌∷◌, take, drop, take_all, Option, Some}
use Rattle.std.proofs.Common.{None, MatchOption, length, get_or, codes, inl, inr, sym, ap, subst, ◌∙◌, arith}
use Rattle.std.specs.Prelude.{⊤, Contains}
use Rattle.sysv_model.specs.declared.flags.Flags.{Flags}
use Rattle.sysv_words.specs.Words.{SplitsAt, Pair, SaysFirst, SaysNoFirst, IsNumeralOf, IsInt32, IsInt64}
use Rattle.sysv_words.specs.FlagNames.{IsFlagList}
use Rattle.sysv_words.specs.Splitting.{splits_once, SplitsAt-marked}
use Rattle.sysv_steps.specs.Call.{SystemCall, Msgsnd}
use Rattle.sysv_script.specs.declared.actor.Actor.{Actor}
use Rattle.sysv_script.specs.declared.blocks.Blocks.{Blocks}
use Rattle.sysv_script.specs.Said.{Said, StepsOnce, Continues, GivesBlocks}
use Rattle.sysv_script.specs.Lines.{IsActor, actor, IsBlocks, of_blocks, SaysText, call_name, SaysArguments, SaysNamed}
use Rattle.sysv_script.specs.Lines.{SaysCall, SaysStart, order_name, SaysOrderArguments, OrderNamed, SaysOrder}
use Rattle.sysv_steps.specs.declared.call.Call.{Call}
use Rattle.sysv_script.specs.declared.call.Text.{Text}
use Rattle.sysv_script.specs.SaidBy.{call_asked}

-- The first two bytes of a name, as one number.
abbrev pub first_bytes : List ℕ → ℕ
first_bytes name = 256 * get_or name 0 0 + get_or name 1 0

-- ---- orders

pub no_step : (words : List ℕ) → ((a : Actor) → ¬ IsActor words a) → (said : Said) →
    ¬ OrderNamed (codes "step") words said
no_step words none (StepsOnce who) h = none (actor who) h.arguments
no_step words none said h = let e = ap first_bytes h.is in omega (arith, e)

pub no_pool : (words : List ℕ) → ((b : Blocks) → ¬ IsBlocks words b) → (said : Said) →
    ¬ OrderNamed (codes "pool") words said
no_pool words none (GivesBlocks blocks) h = none (of_blocks blocks) h.arguments
no_pool words none said h = let e = ap first_bytes h.is in omega (arith, e)

pub no_go : (words : List ℕ) → ((a : Actor) → ¬ IsActor words a) → (said : Said) → ¬ OrderNamed (codes "go") words said
no_go words none (Continues who) h = none (actor who) h.arguments
no_go words none said h = let e = ap first_bytes h.is in omega (arith, e)

-- ---- the words of a send

pub no_send : (words : List ℕ) →
    ((id mtype : ℤ) (flags : Flags) (text : List ℕ) → ¬ SaysArguments words (Msgsnd id mtype flags text)) →
    (asked : SystemCall) → ¬ SaysNamed (codes "snd") words asked
no_send words none (Msgsnd id mtype flags text) h = none id mtype flags text h.arguments
no_send words none asked h = let e = ap first_bytes h.is in omega (arith, e)

rest_once : {A : Type 0} (Says : List ℕ → A → Type 0) (text rest word more : List ℕ) (value : A) →
    SaysFirst Says text value rest → SplitsAt 32 text word more → more ≡ rest
rest_once Says text rest word more value found split = (splits_once 32 text word more found.0 rest split found.1).1

pub send_without_id : (words : List ℕ) → SaysNoFirst IsInt32 words → (asked : SystemCall) →
    ¬ SaysNamed (codes "snd") words asked
send_without_id words none = no_send words (λ id mtype flags text h. none h.word h.rest id h.split h.one)

pub send_without_type : (words : List ℕ) (id : ℤ) (rest : List ℕ) → SaysFirst IsInt32 words id rest →
    SaysNoFirst IsInt64 rest → (asked : SystemCall) → ¬ SaysNamed (codes "snd") words asked
send_without_type words one rest first none = no_send words (λ id mtype flags text h.
    let e = rest_once IsInt32 words rest h.word h.rest one first h.split in
    let more = subst (λ (r : List ℕ). Pair IsInt64 (Pair IsFlagList SaysText) r (mtype, (flags, text))) e h.other in
    none more.word more.rest mtype more.split more.one)

pub send_without_flags : (words : List ℕ) (id : ℤ) (rest : List ℕ) (mtype : ℤ) (more : List ℕ) →
    SaysFirst IsInt32 words id rest → SaysFirst IsInt64 rest mtype more →
    SaysNoFirst IsFlagList more → (asked : SystemCall) → ¬ SaysNamed (codes "snd") words asked
send_without_flags words one rest two more first second none = no_send words (λ id mtype flags text h.
    let e = rest_once IsInt32 words rest h.word h.rest one first h.split in
    let behind = subst (λ (r : List ℕ). Pair IsInt64 (Pair IsFlagList SaysText) r (mtype, (flags, text))) e h.other in
    let f = rest_once IsInt64 rest more behind.word behind.rest two second behind.split in
    let last = subst (λ (r : List ℕ). Pair IsFlagList SaysText r (flags, text)) f behind.other in
    none last.word last.rest flags last.split last.one)

pub send_without_text : (words : List ℕ) (id : ℤ) (rest : List ℕ) (mtype : ℤ) (more : List ℕ) (flags : Flags)
    (body : List ℕ) →
    SaysFirst IsInt32 words id rest → SaysFirst IsInt64 rest mtype more → SaysFirst IsFlagList more flags body →
    ((text : List ℕ) → SaysText body text → ⊥) → (asked : SystemCall) → ¬ SaysNamed (codes "snd") words asked
send_without_text words one rest two more three body first second third none = no_send words (λ id mtype flags text h.
    let e = rest_once IsInt32 words rest h.word h.rest one first h.split in
    let behind = subst (λ (r : List ℕ). Pair IsInt64 (Pair IsFlagList SaysText) r (mtype, (flags, text))) e h.other in
    let f = rest_once IsInt64 rest more behind.word behind.rest two second behind.split in
    let last = subst (λ (r : List ℕ). Pair IsFlagList SaysText r (flags, text)) f behind.other in
    let g = rest_once IsFlagList more body last.word last.rest three third last.split in
    none text (subst (λ (r : List ℕ). SaysText r text) g last.other))

pub says_send : (words : List ℕ) (id : ℤ) (rest : List ℕ) (mtype : ℤ) (more : List ℕ) (flags : Flags)
    (body text : List ℕ) →
    SaysFirst IsInt32 words id rest → SaysFirst IsInt64 rest mtype more → SaysFirst IsFlagList more flags body →
    SaysText body text →
    SaysNamed (codes "snd") words (Msgsnd id mtype flags text)
says_send words id rest mtype more flags body text first second third says = record {
  is = λ i. codes "snd";
  arguments = record {
    word = first.0;
    rest = rest;
    split = first.1;
    one = first.2;
    other = record {
      word = second.0;
      rest = more;
      split = second.1;
      one = second.2;
      other = record { word = third.0; rest = body; split = third.1; one = third.2; other = says };
    };
  };
}

-- ---- texts

pub no_letters : (body word : List ℕ) → body ≡ 42 ∷ word →
    ((count : ℕ) → ¬ (IsNumeralOf word (pos count) × (count ≤ 8256))) → (text : List ℕ) → SaysText body text → ⊥
no_letters body word e none text (short, inl given) =
    let same : 42 ≡ 61 = ap (λ (l : List ℕ). get_or l 0 0) (sym e ∙ given) in omega (arith, same)
no_letters body word e none text (short, inr letters) =
    let same : letters.word ≡ word = cc in
    none (length text) (subst (λ (w : List ℕ). IsNumeralOf w (pos (length text))) same letters.number, short)

-- ---- calls and orders by their names

pub call_named : (words name rest : List ℕ) (asked : SystemCall) → SplitsAt 32 words name rest → SaysCall words asked →
    SaysNamed name rest asked
call_named words name rest asked split h =
    let same = splits_once 32 words (call_name asked) h.rest name rest h.split split in
    record { is = same.0; arguments = subst (λ (r : List ℕ). SaysArguments r asked) same.1 h.says }

pub named_call : (words name rest : List ℕ) (asked : SystemCall) → SplitsAt 32 words name rest →
    SaysNamed name rest asked → SaysCall words asked
named_call words name rest asked split h = record {
  rest = rest;
  split = subst (λ (n : List ℕ). SplitsAt 32 words n rest) (sym h.is) split;
  says = h.arguments;
}

pub call_found : (words name rest : List ℕ) (r : Option (Call Text ⊤)) → SplitsAt 32 words name rest →
    MatchOption r ((asked : SystemCall) → ¬ SaysNamed name rest asked) (λ call. SaysNamed name rest (call_asked call)) →
    MatchOption r ((asked : SystemCall) → ¬ SaysCall words asked) (λ call. SaysCall words (call_asked call))
call_found words name rest None split none = λ asked h. none asked (call_named words name rest asked split h)
call_found words name rest (Some call) split says = named_call words name rest (call_asked call) split says

pub call_unsplit : (words : List ℕ) → ¬ Contains words 32 → (asked : SystemCall) → ¬ SaysCall words asked
call_unsplit words plain asked h = plain (SplitsAt-marked 32 words (call_name asked) h.rest h.split)

pub order_named : (line name rest : List ℕ) (said : Said) → SplitsAt 32 line name rest → SaysOrder line said →
    OrderNamed name rest said
order_named line name rest said split h =
    let same = splits_once 32 line (order_name said) h.rest name rest h.split split in
    record { is = same.0; arguments = subst (λ (r : List ℕ). SaysOrderArguments r said) same.1 h.says }

pub named_order : (line name rest : List ℕ) (said : Said) → SplitsAt 32 line name rest → OrderNamed name rest said →
    SaysOrder line said
named_order line name rest said split h =
    record { rest = rest; split = subst (λ (n : List ℕ). SplitsAt 32 line n rest) (sym h.is) split; says = h.arguments }

-- ---- the start of a call

pub start_without_actor : (words : List ℕ) → SaysNoFirst IsActor words → (who : ℕ) (asked : SystemCall) →
    ¬ SaysStart words who asked
start_without_actor words none who asked h = none h.word h.rest (actor who) h.split h.one

pub start_without_call : (words : List ℕ) (found : Actor) (rest : List ℕ) → SaysFirst IsActor words found rest →
    ((asked : SystemCall) → ¬ SaysCall rest asked) →
    (who : ℕ) (asked : SystemCall) → ¬ SaysStart words who asked
start_without_call words found rest first none who asked h =
    none asked
    (subst (λ (r : List ℕ). SaysCall r asked) (rest_once IsActor words rest h.word h.rest found first h.split) h.other)

-- ---- a line that begins with a mark

pub begins : (mark : ℕ) (line : List ℕ) → 1 ≤ length line → get_or line 0 0 ≡ mark →
    line ≡ mark ∷ take (length line - 1) (drop 1 line)
begins mark [] long e = absurd (omega (arith, long))
begins mark (x ∷ rest) long e =
    ap (λ b. b ∷ rest) e ∙ ap (λ l. mark ∷ l) (sym (take_all (length (x ∷ rest) - 1) rest (omega arith)))
