-- Each word so far names a socket.
use Rattle.std.proofs.Common.{◌≡◌, ◌≤◌, length, take}
use Rattle.std.specs.Prelude.{map}
use Rattle.sysv_options.specs.Servers.{AreEntrances}
use Rattle.sysv_options.specs.Sockets.{listed}
use Rattle.sysv_options.specs.Words.{words_in}
use Rattle.sysv_options.specs.declared.sockets.TheConstants.{MAX_OTHERS}
use Rattle.sysv_options.proofs.asked.others_in.Given as goal

abbrev pub invariant-loop-number : goal.invariant-loop-number
invariant-loop-number l =
    AreEntrances (words_in l.fn.words) (take l.number (map (λ word. word.now) l.fn.given)) (listed l.others)
    × (l.others.count ≡ length (listed l.others)) × (l.others.count ≡ l.number)
    × (l.others.count ≤ MAX_OTHERS) × (length l.others.sockets ≡ MAX_OTHERS)
