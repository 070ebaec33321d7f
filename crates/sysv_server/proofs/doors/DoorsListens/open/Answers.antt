-- What was opened is closed again, and what is not opened here is as before.
use Rattle.std.proofs.Common.{◌≡◌, ◌∙◌, ℕ, None, ap, arith, drop, false, subst, sym, take}
use Rattle.std.specs.List.{list_any}
use Rattle.std.specs.Prelude.{min, vec_len}
use Rattle.sysv_server.proofs.AnyOpen.{any_after, none_after, on_err, some_before}
use Rattle.sysv_server.proofs.Came.{one_after}
use Rattle.sysv_server.proofs.doors.DoorsListens.open.Goals as goal

pub returns-then-any_open-clause-ok : goal.returns-then-any_open-clause-ok
returns-then-any_open-clause-ok g c =
    some_before g.L.Listens.listens c.args.self.now.sockets.items c.common.result
    (ap (λ ls. list_any g.L.Listens.listens (take c.common.result ls)) (sym c.deref.ensures.value)
    ∙ (sym c.any_open.ensures ∙ c.if-any_open.true))

pub returns-then-is_err-clause-step : goal.returns-then-is_err-clause-step
returns-then-is_err-clause-step g c =
    one_after g.L.Listens.steps c.args.self.now.sockets.items c.open_all-opened.new.self.sockets.items _ None
    c.open_all-opened.ensures.came c.close_common.ensures.came

pub returns-then-is_err-clause-err : goal.returns-then-is_err-clause-err
returns-then-is_err-clause-err g c =
    let listens = g.L.Listens.listens in
    let old = c.args.self.now in
    let opened = c.open_all-opened.new.self in
    let same = c.open_all-opened.ensures.common in
    let length = c.open_all-opened.ensures.length in
    let bound : min opened.common (vec_len opened.sockets) ≡ min old.common (vec_len old.sockets) = omega arith in
    let before : list_any listens (take (min old.common (vec_len old.sockets)) old.sockets.items) ≡ false =
    subst (λ (n : ℕ). list_any listens (take n old.sockets.items) ≡ false) c.common.ensures
    (ap (λ ls. list_any listens (take c.common.result ls)) (sym c.deref.ensures.value)
    ∙ (sym c.any_open.ensures ∙ c.if-any_open.false)) in
    on_err c.open_all-opened.result
    (c.close_common.ensures.open
    ∙ (ap (λ (n : ℕ). list_any listens (drop n opened.sockets.items)) bound
    ∙ (ap (list_any listens) c.open_all-opened.ensures.rest
    ∙ sym (any_after listens old.sockets.items _ before))))

pub returns-else-is_open-clause-err : goal.returns-else-is_open-clause-err
returns-else-is_open-clause-err g c =
    let listens = g.L.Listens.listens in
    let old = c.args.self.now in
    let opened = c.open_all-opened.new.self in
    let before : list_any listens (take (min old.common (vec_len old.sockets)) old.sockets.items) ≡ false =
    subst (λ (n : ℕ). list_any listens (take n old.sockets.items) ≡ false) c.common.ensures
    (ap (λ ls. list_any listens (take c.common.result ls)) (sym c.deref.ensures.value)
    ∙ (sym c.any_open.ensures ∙ c.if-any_open.false)) in
    let now : list_any listens opened.sockets.items ≡ false = sym c.is_open.ensures ∙ c.if-is_open.false in
    now
    ∙ sym (any_after listens old.sockets.items _ before
    ∙ (ap (list_any listens) (sym c.open_all-opened.ensures.rest)
    ∙ none_after listens opened.sockets.items _ now))
