use Rattle.std.proofs.Common.{◌∙◌, length, take, ap, arith, length-append, length-take}
use Rattle.sysv_clients.specs.Object.{json_text}
use Rattle.sysv_clients.proofs.ObjectLemmas.{text_most}
use Rattle.sysv_clients.proofs.page.Page.escaped.Goals as goal

pub escape-requires : goal.escape-requires
escape-requires c =
    let body = c.args.body.now in
    let i = c.loop-i.i in
    let done = ap length c.loop-i.invariant ∙ length-append c.args.self.now (json_text (take i body)) in
    omega (arith, done, text_most (take i body), length-take i body, c.requires)

pub returns-clause-len : goal.returns-clause-len
returns-clause-len c =
    let body = c.args.body.now in
    let i = c.loop-i.i in
    let done = ap length c.loop-i.invariant ∙ length-append c.args.self.now (json_text (take i body)) in
    omega (arith, done, text_most (take i body), length-take i body)
