use Rattle.sysv_script.proofs.LineKinds.{one_word, order_in_words, nothing_in_words}
use Rattle.sysv_script.proofs.line.words_of.Goals as goal

pub returns-in_default-clause-says : goal.returns-in_default-clause-says
returns-in_default-clause-says c = one_word c.args.line.now c.alone.result c.in_default.ensures c.alone.ensures.says

pub returns-in-Some-order_of-clause-says : goal.returns-in-Some-order_of-clause-says
returns-in-Some-order_of-clause-says c =
    let w = c.in-Some in
    order_in_words c.args.line.now w.name.now w.words.now _ w.ensures c.in-Some-order_of.ensures.says

pub returns-in_err-actor-clause-says : goal.returns-in_err-actor-clause-says
returns-in_err-actor-clause-says c =
    let w = c.in-Some in
    rw c.from_residual.ensures
    (nothing_in_words c.args.line.now w.name.now w.words.now w.ensures c.in_default-order_of.ensures.says
    c.in_err-actor.ensures.says)
