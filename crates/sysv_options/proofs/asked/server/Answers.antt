-- Without any socket there is no server, nor one with sessions that are served alone and a limit or no end.
use Rattle.std.proofs.Common.{◌∙◌, Bool, ℕ, codes, subst, sym}
use Rattle.sysv_options.specs.Servers.{CountsSockets}
use Rattle.sysv_options.specs.Words.{word_of, words_in}
use Rattle.sysv_options.proofs.EntranceLemmas.{same_count, same_flag, same_sessions}
use Rattle.sysv_options.proofs.asked.server.Goals as goal

pub returns-in_default-clause-meaning : goal.returns-in_default-clause-meaning
returns-in_default-clause-meaning c = λ value asks.
    let number = same_count (words_in c.args.words.now) _ value.others c.in_ok-others.others asks.others
    c.in_ok-others.ensures ∙ sym c.count.ensures in
    let flag = same_flag _ value.no_main c.is_on-no_main.result asks.no_main
    (c.is_on-no_main.ensures.on, c.is_on-no_main.ensures.off) in
    let alone = asks.terms.alone ∙ sym c.in_ok-terms.ensures.meaning.alone in
    c.in_default.ensures value.terms.sockets
    (subst (λ (b : Bool). CountsSockets c.is_on-no_main.result b c.count.result value.terms.sockets) alone
    (subst (λ (n : ℕ). CountsSockets c.is_on-no_main.result value.terms.alone n value.terms.sockets) number
    (subst (λ (b : Bool). CountsSockets b value.terms.alone value.others.count value.terms.sockets) flag
    asks.sockets)))

pub returns-then-not-may_serve-clause-meaning : goal.returns-then-not-may_serve-clause-meaning
returns-then-not-may_serve-clause-meaning c = λ value asks.
    let terms = c.in_ok-terms.ensures.meaning in
    let not = c.may_serve.ensures.cannot c.if-not-may_serve.true in
    let lone = asks.lone (asks.terms.alone ∙ (sym terms.alone ∙ not.0)) in
    not.1 (
      lone.0,
      same_sessions (word_of (words_in c.args.words.now) (codes "sessions")) c.in_ok-terms.terms.sessions
          value.terms.sessions terms.sessions asks.terms.sessions
          ∙ lone.1,
    )
