-- The body of a send is in its frame, at the front of the input.
use Rattle.std.proofs.Common.{◌+◌, ◌∙◌, drop, ap, rules, refl, sym, length-drop}
use Rattle.sysv_wire.specs.Requests.{op_of, request_encoding}
use Rattle.sysv_seats.specs.Sits.{Sitting}
use Rattle.sysv_seats.proofs.ClientSteps.{frame_fits, front, no_body}
use Rattle.sysv_seats.proofs.client.Client.recall.Goals as goal

pub overflow_add-self-inside : goal.overflow_add-self-inside
overflow_add-self-inside g c =
    let fits = frame_fits (drop c.self.inside.start c.self.inside.input.items) c.self.inside.parked c.args.parked.now
    (ap (λ (s : Sitting g.row.T.Denot). s.parked) c.self.view_is ∙ c.requires) c.self.invariant.1 in
    let long = length-drop c.self.inside.start c.self.inside.input.items in
    search (rules, fits, long)

pub slice_bounds-snd_text-end : goal.slice_bounds-snd_text-end
slice_bounds-snd_text-end g c =
    let fits = frame_fits (drop c.self.inside.start c.self.inside.input.items) c.self.inside.parked c.args.parked.now
    (ap (λ (s : Sitting g.row.T.Denot). s.parked) c.self.view_is ∙ c.requires) c.self.invariant.1 in
    let long = length-drop c.self.inside.start c.self.inside.input.items in
    search (rules, fits, long)

pub returns-in-Snd : goal.returns-in-Snd
returns-in-Snd g c = λ body later asked whole frame.
    c.snd_text.ensures c.args.parked.now.request body (ap op_of c.in-Snd.is) asked.1.1
    (front (drop c.self.inside.start c.self.inside.input.items) c.deref.result.now later
    (request_encoding c.args.parked.now.request body) c.self.inside.start c.args.parked.now.length
    (c.self.inside.start + c.args.parked.now.length) refl (ap (drop c.self.inside.start) c.deref.ensures.value) whole
    (ap (λ (s : Sitting g.row.T.Denot). s.input) c.self.view_is ∙ frame))

pub returns-in_default : goal.returns-in_default
returns-in_default g c = λ body later asked whole frame.
    c.clear.ensures ∙ sym (no_body c.args.parked.now.request body c.in_default.not-Snd asked)
