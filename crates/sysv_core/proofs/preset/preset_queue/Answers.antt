use Rattle.std.proofs.Common.{◌≡◌, pos, true, false, sym, ◌∙◌, rules, w32}
use Rattle.std.specs.Prelude.{FitsSigned}
use Rattle.std.proofs.lemmas.Int.{to_z-of_z}
use Rattle.sysv_core.proofs.PresetTurns.{never_refused, installed_is, preset_made}
use Rattle.sysv_core.proofs.preset.preset_queue.Goals as goal

pub returns-in_default : goal.returns-in_default
returns-in_default c = λ generation turns st u vacant.
    absurd (c.in_default.not-Made (pos 0)
    (never_refused c.one_legal_reply.ensures.one c.unused_slots.ensures generation turns c.args.objects.now st u
    c.from_bits_retain-flags.result c.begin.result c.begin.new.objects (c.from_bits_retain-flags.ensures tt)
    c.begin.ensures))

pub returns-then-installed : goal.returns-then-installed
returns-then-installed c = λ generation turns st u vacant.
    let id : FitsSigned w32 c.in-Made.id = search rules in
    let flags = c.from_bits_retain-flags.ensures tt in
    let mode : c.bits.result ≡ 384 = search (rules, flags) in
    let installs = simp to_z-of_z at c.install-installed.ensures in
    let settles = simp to_z-of_z at c.settle-settled.ensures in
    preset_made c.one_legal_reply.ensures.one c.unused_slots.ensures generation turns c.args.objects.now st u
    c.from_bits_retain-flags.result flags c.bits.result mode c.in-Made.id
    c.begin.new.objects c.install-installed.new.objects c.settle-settled.new.objects c.install-installed.result
    c.settle-settled.result c.in-Made.ensures installs settles vacant

pub returns-else-installed : goal.returns-else-installed
returns-else-installed c = λ generation turns st u vacant.
    let id : FitsSigned w32 c.in-Made.id = search rules in
    let flags = c.from_bits_retain-flags.ensures tt in
    let mode : c.bits.result ≡ 384 = search (rules, flags) in
    let installs = simp to_z-of_z at c.install-installed.ensures in
    let settles = simp to_z-of_z at c.settle-settled.ensures in
    let yes = installed_is c.one_legal_reply.ensures.one c.unused_slots.ensures generation turns c.args.objects.now st u
    c.from_bits_retain-flags.result flags c.bits.result mode c.in-Made.id
    c.begin.new.objects c.install-installed.new.objects c.settle-settled.new.objects c.install-installed.result
    c.settle-settled.result c.in-Made.ensures installs settles vacant in
    let bad : true ≡ false = sym yes ∙ c.if-installed.false in
    cc
