use Rattle.std.proofs.Common.{◌++◌, ◌∙◌, ap, append_assoc, codes, sym}
use Rattle.base64.specs.Engines.{standard}
use Rattle.base64.specs.GeneralPurpose.{encode_of}
use Rattle.sysv_clients.specs.Object.{json_text}
use Rattle.sysv_clients.proofs.ObjectLemmas.{member_bytes, member_text}
use Rattle.sysv_clients.proofs.page.Page.member.Goals as goal

pub returns-in-Ok-clause-after : goal.returns-in-Ok-clause-after
returns-in-Ok-clause-after c =
    let body = c.args.body.now in
    let first = c.args.self.now in
    let name = codes ",\"body\":\"" in
    c.put-in-Ok.ensures.after ∙ ap (λ l. l ++ codes "\"") c.escaped.ensures.after
    ∙ ap (λ l. (l ++ json_text body) ++ codes "\"") c.put.ensures.after
    ∙ append_assoc (first ++ name) (json_text body) (codes "\"")
    ∙ append_assoc first name (json_text body ++ codes "\"")
    ∙ ap (λ l. first ++ l) (sym (member_text body c.in-Ok.ensures.cases.1))

pub returns-in-Err-clause-after : goal.returns-in-Err-clause-after
returns-in-Err-clause-after c =
    let body = c.args.body.now in
    let first = c.args.self.now in
    let name = codes ",\"base64\":\"" in
    c.put-in-Err-2.ensures.after ∙ ap (λ l. l ++ codes "\"") c.encoded.ensures.after
    ∙ ap (λ l. (l ++ encode_of standard body) ++ codes "\"") c.put-in-Err.ensures.after
    ∙ append_assoc (first ++ name) (encode_of standard body) (codes "\"")
    ∙ append_assoc first name (encode_of standard body ++ codes "\"")
    ∙ ap (λ l. first ++ l) (sym (member_bytes body c.in-Err.ensures.cases.0))
