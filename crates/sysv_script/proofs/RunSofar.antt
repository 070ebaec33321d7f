-- The run of a pending script: what was written and composed so far, and what the rest of the
-- text adds to it.
use Rattle.std.proofs.Common.{◌≡◌, ◌+◌, ◌<◌, ◌≤◌, ℕ, suc, Bool, true, false, List, [], ◌∷◌, ◌++◌, Option, Some, None}
use Rattle.std.proofs.Common.{length, length-append, take, drop, refl, sym, ap, subst, ◌∙◌, append_assoc, append-nil}
use Rattle.std.proofs.Common.{arith, inl, inr, take_all}
use Rattle.std.proofs.Math.Seq.{drop-cons}
use Rattle.std.proofs.lemmas.List.{take-append-drop}
use Rattle.std.proofs.lemmas.Option.{slice_get_within, get_or_from_slice_get}
use Rattle.std.specs.Io.KnownBytes.{Appends, Consumes, IsAtEnd}
use Rattle.std.proofs.KnownBytes.{Appends-nil, Appends-trans}
use Rattle.sysv_script.specs.ScriptState.{ScriptState}
use Rattle.sysv_script.specs.declared.stage.Stage.{Stage}
use Rattle.sysv_script.specs.Staged.{IsScriptStateOf}
use Rattle.std.proofs.lemmas.List.Elements.{Contains-append_cases}
use Rattle.sysv_words.specs.Words.{SplitsAt}
use Rattle.sysv_words.specs.OneSplit.{OneSplit}
use Rattle.sysv_script.specs.Streams.{HandsOn, TakesIn}
use Rattle.sysv_script.specs.Found.{HasNoEnd, IsFirstLine, IsLastLine, IsNextLine, HasNoLine}
use Rattle.sysv_script.specs.Faults.{bad_line_text}
use Rattle.sysv_script.proofs.Prefixed.{prefix_after}
use Rattle.sysv_lists.specs.Prefix.{IsPrefixOf}
use Rattle.sysv_model.specs.Writing.{AppendsPrefix}
use Rattle.sysv_script.specs.ScriptText.{BeginsWith, LineDoes, IsBad, Whole, BadLine, TooMany, Prints, Ends, Exceeds}
use Rattle.sysv_script.specs.ScriptText.{Fails, Goes}
use Rattle.sysv_script.specs.Sofar.{PrintsSofar, Here, Past}
use Rattle.sysv_script.specs.ScriptSofar.{Halt, AtEnd, Before, Runs, IsText, RunsOn, LeavesAll, LeavesPrefix}
use Rattle.sysv_script.specs.ScriptSofar.{LeavesRead}
use Rattle.sysv_script.specs.declared.line_reader.Found.{Found}

pub begins_text : (s : ScriptState) (now : Stage) (text waiting : List ℕ) (left old : Option (List ℕ))
    (composed : List ℕ) →
    composed ≡ [] → IsScriptStateOf s now → IsText waiting left text →
    RunsOn s text old 1 now waiting left old composed
begins_text s now text waiting left old composed none seen t = record {
  mid = s;
  rest = text;
  handed = [];
  sight = seen;
  text_is = t;
  grown = Appends-nil old;
  prints = λ more halt p. subst (λ l. Runs s 1 text (l ++ more) halt) (sym none) p;
}

text_behind : (waiting read behind : List ℕ) (left : Option (List ℕ)) → Consumes (Some behind) left read →
    (b : List ℕ) × (left ≡ Some b) × (waiting ++ behind ≡ (waiting ++ read) ++ b)
text_behind waiting read behind None c = absurd c
text_behind waiting read behind (Some b) c = (b, refl, ap (λ l. waiting ++ l) c ∙ sym (append_assoc waiting read b))

text_taken : (waiting more text : List ℕ) (left rest : Option (List ℕ)) → TakesIn left waiting rest more →
    IsText waiting left text → IsText more rest text
text_taken waiting more text left rest taken t =
    let read = taken.0 in
    let found = text_behind waiting read t.0 rest (subst (λ l. Consumes l rest read) t.1 taken.2) in
    (found.0, found.1, t.2 ∙ found.2 ∙ ap (λ l. l ++ found.0) (sym taken.1))

pub takes_more : (s : ScriptState) (text : List ℕ) (old : Option (List ℕ)) (n : ℕ) (now : Stage) (waiting more : List ℕ)
    (left rest new : Option (List ℕ)) (composed : List ℕ) →
    TakesIn left waiting rest more → RunsOn s text old n now waiting left new composed →
    RunsOn s text old n now more rest new composed
takes_more s text old n now waiting more left rest new composed taken on =
    record {
      mid = on.mid;
      rest = on.rest;
      handed = on.handed;
      sight = on.sight;
      text_is = text_taken waiting more on.rest left rest taken on.text_is;
      grown = on.grown;
      prints = on.prints;
    }

pub hands_more : (s : ScriptState) (text : List ℕ) (old : Option (List ℕ)) (n : ℕ) (now : Stage) (waiting : List ℕ)
    (left new newer : Option (List ℕ)) (composed fewer : List ℕ) →
    HandsOn new composed newer fewer → RunsOn s text old n now waiting left new composed →
    RunsOn s text old n now waiting left newer fewer
hands_more s text old n now waiting left new newer composed fewer given on =
    let front = given.0 in
    let same : on.handed ++ composed ≡ (on.handed ++ front) ++ fewer =
    ap (λ l. on.handed ++ l) given.1 ∙ sym (append_assoc on.handed front fewer) in
    record {
      mid = on.mid;
      rest = on.rest;
      handed = on.handed ++ front;
      sight = on.sight;
      text_is = on.text_is;
      grown = Appends-trans old new newer on.handed front on.grown given.2;
      prints = λ more halt p. subst (λ l. Runs s 1 text (l ++ more) halt) same (on.prints more halt p);
    }

pub hands_all : (s : ScriptState) (text : List ℕ) (old : Option (List ℕ)) (n : ℕ) (now : Stage) (waiting : List ℕ)
    (left new newer : Option (List ℕ)) (composed none : List ℕ) →
    Appends new newer composed → none ≡ [] → RunsOn s text old n now waiting left new composed →
    RunsOn s text old n now waiting left newer none
hands_all s text old n now waiting left new newer composed none all e on =
    hands_more s text old n now waiting left new newer composed none
    (composed, sym (ap (λ l. composed ++ l) e ∙ append-nil composed), all) on

pub read_none : (old new : List ℕ) (count : ℕ) → length old ≤ 0 → length new ≡ length old + count → count ≡ 0 → new ≡ []
read_none old [] count e l z = refl
read_none old (x ∷ xs) count e l z = absurd (omega (arith, e, l, z))

splits : (len : ℕ) (waiting behind : List ℕ) → IsFirstLine len waiting →
    SplitsAt 10 (waiting ++ behind) (take len waiting) (drop (len + 1) waiting ++ behind)
splits len waiting behind first =
    let inside : len < length waiting = slice_get_within waiting len 10 first.ends in
    let next : suc len ≡ len + 1 = omega arith in
    let tail : drop len waiting ≡ 10 ∷ drop (len + 1) waiting =
    drop-cons waiting len 10 inside
    ∙ ap (λ x. x ∷ drop (suc len) waiting) (get_or_from_slice_get waiting len 10 10 first.ends)
    ∙ ap (λ k. 10 ∷ drop k waiting) next in
    record {
      whole = ap (λ l. l ++ behind) (sym (take-append-drop len waiting) ∙ ap (λ l. take len waiting ++ l) tail)
          ∙ append_assoc (take len waiting) (10 ∷ drop (len + 1) waiting) behind;
      unmarked = first.one_line;
    }

joined_more : (handed composed out more : List ℕ) →
    (handed ++ composed) ++ (out ++ more) ≡ (handed ++ (composed ++ out)) ++ more
joined_more handed composed out more =
    sym (append_assoc (handed ++ composed) out more) ∙ ap (λ l. l ++ more) (append_assoc handed composed out)

-- A run passes over a line that does something.
past_line : (s : ScriptState) (n : ℕ) (text line rest out : List ℕ) (after : ScriptState) (more : List ℕ)
    (halt : Halt) →
    n ≤ 1000000 → BeginsWith text line rest → LineDoes s line out after →
    Runs after (n + 1) rest more halt → Runs s n text (out ++ more) halt
past_line s n text line rest out after more (AtEnd ending) few begins does p =
    Goes s n text line rest out after more ending few begins does p
past_line s n text line rest out after more (Before left there) few begins does p =
    Past s n text line rest out after more left there few begins does p

pub runs_line : (s : ScriptState) (text : List ℕ) (old : Option (List ℕ)) (n : ℕ) (now then : Stage)
    (waiting behind : List ℕ)
    (left new : Option (List ℕ)) (composed told : List ℕ) (len : ℕ) →
    n ≤ 1000000 → IsFirstLine len waiting → behind ≡ drop (len + 1) waiting →
    ((m : ScriptState) → IsScriptStateOf m now →
    (after : ScriptState) × (out : List ℕ) × LineDoes m (take len waiting) out after × IsScriptStateOf after then
    × (told ≡ composed ++ out)) →
    RunsOn s text old n now waiting left new composed → RunsOn s text old (n + 1) then behind left new told
runs_line s text old n now then waiting behind left new composed told len few first passed does on =
    let d = does on.mid on.sight in
    let unread = on.text_is in
    let line : BeginsWith on.rest (take len waiting) (drop (len + 1) waiting ++ unread.0) =
    inl (subst (λ l. SplitsAt 10 l (take len waiting) (drop (len + 1) waiting ++ unread.0)) (sym unread.2)
    (splits len waiting unread.0 first)) in
    record {
      mid = d.0;
      rest = drop (len + 1) waiting ++ unread.0;
      handed = on.handed;
      sight = d.3;
      text_is = (unread.0, unread.1, ap (λ l. l ++ unread.0) (sym passed));
      grown = on.grown;
      prints = λ more halt p.
          subst (λ l. Runs s 1 text l halt)
          (joined_more on.handed composed d.1 more ∙ ap (λ l. (on.handed ++ l) ++ more) (sym d.4))
          (on.prints (d.1 ++ more) halt
          (past_line on.mid n on.rest (take len waiting) (drop (len + 1) waiting ++ unread.0) d.1 d.0 more halt few line
          d.2 p));
    }

text_at_end : (waiting text : List ℕ) (left : Option (List ℕ)) → IsAtEnd left → IsText waiting left text →
    text ≡ waiting
text_at_end waiting text left end t = t.2 ∙ ap (λ l. waiting ++ l) (subst IsAtEnd t.1 end) ∙ append-nil waiting

no_end_whole : (len : ℕ) (waiting : List ℕ) → len ≡ length waiting → take len waiting ≡ waiting
no_end_whole len waiting e = take_all len waiting (omega (arith, e))

last_line : (len : ℕ) (waiting text : List ℕ) (left : Option (List ℕ)) → IsLastLine len waiting left → IsAtEnd left →
    IsText waiting left text → BeginsWith text (take len waiting) []
last_line len waiting text left last end t =
    let whole : text ≡ waiting = text_at_end waiting text left end t in
    inr (
      subst HasNoEnd (sym whole) last.one_line,
      omega (arith, last.filled, last.whole, ap length whole),
      no_end_whole len waiting last.whole ∙ sym whole,
      refl,
    )

pub runs_last : (s : ScriptState) (text : List ℕ) (old : Option (List ℕ)) (n : ℕ) (now then : Stage) (waiting : List ℕ)
    (left new : Option (List ℕ)) (composed told : List ℕ) (len : ℕ) →
    n ≤ 1000000 → IsLastLine len waiting left → len ≤ 9000 →
    ((m : ScriptState) → IsScriptStateOf m now →
    (after : ScriptState) × (out : List ℕ) × LineDoes m (take len waiting) out after × IsScriptStateOf after then
    × (told ≡ composed ++ out)) →
    RunsOn s text old n now waiting left new composed → LeavesAll s text Whole old new told
runs_last s text old n now then waiting left new composed told len few last short does on =
    let d = does on.mid on.sight in
    let end : IsAtEnd left = elim last.last [ inl long ↦ absurd (omega (arith, long, short)) | inr e ↦ e ] in
    let printed = on.prints (d.1 ++ []) (AtEnd Whole)
    (Goes on.mid n on.rest (take len waiting) [] d.1 d.0 [] Whole few
    (last_line len waiting on.rest left last end on.text_is) d.2 (Ends d.0 (n + 1))) in
    let same : (on.handed ++ composed) ++ (d.1 ++ []) ≡ on.handed ++ told =
    joined_more on.handed composed d.1 [] ∙ append-nil (on.handed ++ (composed ++ d.1))
    ∙ ap (λ l. on.handed ++ l) (sym d.4) in
    (on.handed ++ told, subst (λ l. Prints s 1 text l Whole) same printed, (on.handed, on.grown, refl))

pub ends_text : (s : ScriptState) (text : List ℕ) (old : Option (List ℕ)) (n : ℕ) (now : Stage) (waiting : List ℕ)
    (left new : Option (List ℕ)) (composed : List ℕ) →
    HasNoLine waiting left → RunsOn s text old n now waiting left new composed → LeavesAll s text Whole old new composed
ends_text s text old n now waiting left new composed none on =
    let whole : on.rest ≡ [] = text_at_end waiting on.rest left none.1 on.text_is ∙ none.0 in
    let printed = on.prints [] (AtEnd Whole) (subst (λ l. Prints on.mid n l [] Whole) (sym whole) (Ends on.mid n)) in (
      on.handed ++ composed,
      subst (λ l. Prints s 1 text l Whole) (append-nil (on.handed ++ composed)) printed,
      (on.handed, on.grown, refl),
    )

stops_here : (s : ScriptState) (text : List ℕ) (old : Option (List ℕ)) (n : ℕ) (now : Stage) (waiting : List ℕ)
    (left new : Option (List ℕ)) (composed : List ℕ) →
    (on : RunsOn s text old n now waiting left new composed) →
    PrintsSofar s 1 text (on.handed ++ composed) on.rest on.mid
stops_here s text old n now waiting left new composed on =
    subst (λ out. PrintsSofar s 1 text out on.rest on.mid) (append-nil (on.handed ++ composed))
    (on.prints [] (Before on.rest on.mid) (Here on.mid n on.rest))

pub stops_part : (s : ScriptState) (text : List ℕ) (old : Option (List ℕ)) (n : ℕ) (now : Stage) (waiting : List ℕ)
    (left new newer : Option (List ℕ)) (composed none : List ℕ) →
    AppendsPrefix new newer composed → none ≡ [] → RunsOn s text old n now waiting left new composed →
    LeavesPrefix s text old newer none
stops_part s text old n now waiting left new newer composed none part e on =
    let front = on.handed ++ part.0 in
    let joined : front ++ none ≡ front = ap (λ l. front ++ l) e ∙ append-nil front in
    let prefix : IsPrefixOf front (on.handed ++ composed) = prefix_after on.handed part.0 composed part.1 in (
      on.handed ++ composed,
      on.rest,
      on.mid,
      stops_here s text old n now waiting left new composed on,
      (
        front,
        Appends-trans old new newer on.handed part.0 on.grown part.2,
        subst (λ l. IsPrefixOf l (on.handed ++ composed)) (sym joined) prefix,
      ),
    )

pub stops_front : (s : ScriptState) (text : List ℕ) (old : Option (List ℕ)) (n : ℕ) (now : Stage) (waiting : List ℕ)
    (left new : Option (List ℕ)) (composed fewer : List ℕ) →
    IsPrefixOf fewer composed → RunsOn s text old n now waiting left new composed → LeavesPrefix s text old new fewer
stops_front s text old n now waiting left new composed fewer front on = (
  on.handed ++ composed,
  on.rest,
  on.mid,
  stops_here s text old n now waiting left new composed on,
  (on.handed, on.grown, prefix_after on.handed fewer composed front),
)

-- All was written, and the reader failed before the end of the next line.
pub stops_read : (s : ScriptState) (text : List ℕ) (old : Option (List ℕ)) (n : ℕ) (now : Stage) (waiting : List ℕ)
    (left new newer : Option (List ℕ)) (composed none : List ℕ) →
    HasNoEnd waiting → Appends new newer composed → none ≡ [] → RunsOn s text old n now waiting left new composed →
    LeavesRead s text old newer none left
stops_read s text old n now waiting left new newer composed none endless all e on =
    let whole = on.handed ++ composed in
    let joined : whole ≡ whole ++ none = sym (ap (λ l. whole ++ l) e ∙ append-nil whole) in (
      whole,
      on.rest,
      on.mid,
      stops_here s text old n now waiting left new composed on,
      (waiting, on.text_is.0, endless, on.text_is.1, on.text_is.2),
      (whole, Appends-trans old new newer on.handed composed on.grown all, joined),
    )

pub no_end_in_none : (old new : List ℕ) → length old ≤ 0 → new ≡ old → HasNoEnd new
no_end_in_none old new none same = λ has. omega (arith, none, ap length same, has.1)

-- A line that is too long is bad as soon as that is known, whatever follows.
overruns : OneSplit → (m : ScriptState) (n : ℕ) (front rest : List ℕ) → n ≤ 1000000 → 9000 < length front →
    HasNoEnd front →
    Prints m n (front ++ rest) (bad_line_text n) (BadLine n)
overruns split m n front rest few long endless = elim (split.either 10 rest) [
  | inl found ↦
      let line = front ++ found.0 in
      let more : length line ≡ length front + length found.0 = length-append front found.0 in
      Fails m n (front ++ rest) line found.1 few
      (inl (record {
        whole = ap (λ l. front ++ l) found.2.whole ∙ sym (append_assoc front found.0 (10 ∷ found.1));
        unmarked = λ has.
            elim (Contains-append_cases front found.0 10 has) [ inl x ↦ endless x | inr y ↦ found.2.unmarked y ];
      }))
      (inl (λ said says. omega (arith, long, more, says.0)))
  | inr none ↦
      let more : length (front ++ rest) ≡ length front + length rest = length-append front rest in
      Fails m n (front ++ rest) (front ++ rest) [] few
      (inr (
        λ has. elim (Contains-append_cases front rest 10 has) [ inl x ↦ endless x | inr y ↦ none y ],
        omega (arith, long, more),
        refl,
        refl,
      ))
      (inl (λ said says. omega (arith, long, more, says.0)))
]

bad_printed : OneSplit → (n len : ℕ) (m : ScriptState) (waiting rest : List ℕ) (left : Option (List ℕ)) (found : Found)
    (last : Bool) → found.is_last ≡ last → n ≤ 1000000 → IsNextLine found waiting left →
    IsBad m (take found.len waiting) → IsText waiting left rest → Prints m n rest (bad_line_text n) (BadLine n)
bad_printed split n len m waiting rest left found false e few next bad t =
    Fails m n rest (take found.len waiting) (drop (found.len + 1) waiting ++ t.0) few
    (inl (subst (λ l. SplitsAt 10 l (take found.len waiting) (drop (found.len + 1) waiting ++ t.0)) (sym t.2)
    (splits found.len waiting t.0 (next.0 e)))) bad
bad_printed split n len m waiting rest left found true e few next bad t =
    let last = next.1 e in
    elim last.last [
      | inl long ↦ subst (λ l. Prints m n l (bad_line_text n) (BadLine n)) (sym t.2)
          (overruns split m n waiting t.0 few (omega (arith, long, last.whole)) last.one_line)
      | inr end ↦ Fails m n rest (take found.len waiting) [] few (last_line found.len waiting rest left last end t) bad
    ]

pub fails_at : OneSplit →
    (s : ScriptState) (text : List ℕ) (old : Option (List ℕ)) (n : ℕ) (now : Stage) (waiting : List ℕ)
    (left new : Option (List ℕ)) (composed told : List ℕ) (found : Found) →
    n ≤ 1000000 → IsNextLine found waiting left →
    ((m : ScriptState) → IsScriptStateOf m now → IsBad m (take found.len waiting)) →
    told ≡ composed ++ bad_line_text n →
    RunsOn s text old n now waiting left new composed → LeavesAll s text (BadLine n) old new told
fails_at split s text old n now waiting left new composed told found few next bad e on =
    let printed = on.prints (bad_line_text n) (AtEnd (BadLine n))
    (bad_printed split n 0 on.mid waiting on.rest left found found.is_last refl few next (bad on.mid on.sight)
    on.text_is) in
    let same : (on.handed ++ composed) ++ bad_line_text n ≡ on.handed ++ told =
    append_assoc on.handed composed (bad_line_text n) ∙ ap (λ l. on.handed ++ l) (sym e) in
    (on.handed ++ told, subst (λ l. Prints s 1 text l (BadLine n)) same printed, (on.handed, on.grown, refl))

pub exceeds_at : (s : ScriptState) (text : List ℕ) (old : Option (List ℕ)) (n : ℕ) (now : Stage) (waiting : List ℕ)
    (left new : Option (List ℕ)) (composed : List ℕ) →
    1000000 < n → 0 < length waiting → RunsOn s text old n now waiting left new composed →
    LeavesAll s text TooMany old new composed
exceeds_at s text old n now waiting left new composed many some on =
    let behind = on.text_is.0 in
    let filled : 0 < length on.rest = omega (arith, some, ap length on.text_is.2, length-append waiting behind) in (
      on.handed ++ composed,
      subst (λ l. Prints s 1 text l TooMany) (append-nil (on.handed ++ composed))
          (on.prints [] (AtEnd TooMany) (Exceeds on.mid n on.rest many filled)),
      (on.handed, on.grown, refl),
    )
