-- What a client's command asks for, a command line with it asks for.
use Rattle.std.proofs.Common.{◌≡◌, ◌∙◌, ℕ, Bool, true, false, List, Option, Some, Result, Ok, Err, codes, refl, sym}
use Rattle.std.proofs.Common.{inr, subst}
use Rattle.std.specs.Prelude.{IfErr, IfOk, ◌&&◌}
use Rattle.clap.specs.Words.{App, HasMatchesOf, Row, subcommand_rows_of, takes}
use Rattle.clap.specs.declared.error.Error.{Error}
use Rattle.clap.specs.declared.parser.matches.ArgMatches.{ArgMatches}
use Rattle.sysv_clients.specs.declared.command.Task.{Task}
use Rattle.sysv_options.specs.declared.asked.Asked.TheVariants.{Script, Serve, Look, Save, Load, Client}
use Rattle.sysv_options.specs.Asked.{Requested}
use Rattle.sysv_options.specs.Requests.{AreRefused, AsksFor, ClientAsks, CommandAsks, IsAskedBy, IsMeant, IsRefused}
use Rattle.sysv_options.specs.Tasks.{HasTask}
use Rattle.sysv_options.specs.Words.{IsRead}

-- Without a task a client's command asks for nothing.
pub no_client : (name : List ℕ) (words : List Row) → ((task : Task) → ¬ HasTask name words task) → (asked : Requested) →
    ¬ ClientAsks name words asked
no_client name words none Script = λ h. h
no_client name words none (Serve serving) = λ h. h
no_client name words none (Look looking) = λ h. h
no_client name words none (Save who saving) = λ h. h
no_client name words none (Load who loading) = λ h. h
no_client name words none (Client path who task how) = λ h. none task h.2

to_command : (name : List ℕ) (words : List Row) (asked : Requested) → ClientAsks name words asked →
    CommandAsks name words asked
to_command name words Script h = absurd h
to_command name words (Serve serving) h = absurd h
to_command name words (Look looking) h = absurd h
to_command name words (Save who saving) h = absurd h
to_command name words (Load who loading) h = absurd h
to_command name words (Client path who task how) h = h

-- The name is that of no command but a client's.
pub record IsOther (name : List ℕ) : Type 0 where
  pub not_script : ¬ (name ≡ codes "script")
  pub not_serve : ¬ (name ≡ codes "serve")
  pub not_stats : ¬ (name ≡ codes "stats")
  pub not_save : ¬ (name ≡ codes "save")
  pub not_load : ¬ (name ≡ codes "load")

to_client : (name : List ℕ) (words : List Row) → IsOther name → (asked : Requested) → CommandAsks name words asked →
    ClientAsks name words asked
to_client name words is_other Script h = is_other.not_script h
to_client name words is_other (Serve serving) h = is_other.not_serve h.0
to_client name words is_other (Look looking) h = is_other.not_stats h.0
to_client name words is_other (Save who saving) h = is_other.not_save h.0
to_client name words is_other (Load who loading) h = is_other.not_load h.0
to_client name words is_other (Client path who task how) h = h

-- A command with another name asks for what a client's command asks for.
pub as_command : {E : Type 0} (name : List ℕ) (words : List Row) (found : Option (List ℕ × List Row))
    (r : Result Requested E) → found ≡ Some (name, words) → IsOther name → IsRead r (ClientAsks name words)
    → IsRead r (AsksFor found)
as_command name words found (Ok asked) is is_other h =
    subst (λ (o : Option (List ℕ × List Row)). AsksFor o asked) (sym is) (to_command name words asked h)
as_command name words found (Err bad) is is_other none =
    λ asked h.
    none asked
    (to_client name words is_other asked (subst (λ (o : Option (List ℕ × List Row)). AsksFor o asked) is h))

both_true : (one other : Bool) → one && other ≡ true → one ≡ true
both_true true other both = refl
both_true false other both = both

-- If the matches of some words ask for nothing, and clap takes the words, they ask for nothing.
pub asks_nothing : (line : App) (words : List (List ℕ)) (matches : ArgMatches) → HasMatchesOf line words matches
    → ((asked : Requested) → ¬ AsksFor (subcommand_rows_of matches) asked) → takes line words ≡ true
    → (asked : Requested) → ¬ IsAskedBy line words asked
asks_nothing line words matches has none taken asked = λ (other, its, asks).
    let simple = both_true _ _ taken in
    none asked (subst (λ (o : Option (List ℕ × List Row)). AsksFor o asked) ((its simple).1 ∙ sym (has simple).1) asks)

-- What a command line with these words asks for, the words mean.
pub is_meant : {E : Type 0} (r : Result Requested E) (line : App) (words : List (List ℕ)) →
    IfOk r (IsAskedBy line words) → IfOk r (IsMeant words)
is_meant (Ok asked) line words h = (line, h)
is_meant (Err error) line words h = h

-- What was refused on a command line was refused on some.
pub are_refused : {A : Type 0} (r : Result A Error) (line : App) (words : List (List ℕ)) →
    IfErr r (IsRefused line words) → IfErr r (AreRefused words)
are_refused (Ok asked) line words h = h
are_refused (Err error) line words h = inr (line, h)
