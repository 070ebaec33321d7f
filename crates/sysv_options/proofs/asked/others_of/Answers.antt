-- clap has the words after `--as` in a row.
use Rattle.std.proofs.Common.{◌∙◌, [], List, Option, ap, arith, codes, length, subst, sym, ℕ}
use Rattle.std.specs.Prelude.{unwrap_or}
use Rattle.clap.specs.Words.{found_of}
use Rattle.clap.proofs.WalkLemmas.{raw_values-rows}
use Rattle.sysv_options.specs.declared.sockets.Entrance.{Entrance}
use Rattle.sysv_options.specs.Servers.{AreEntrances, AreOthers}
use Rattle.sysv_options.specs.Words.{IsRead, words_in}
use Rattle.sysv_options.proofs.asked.others_of.Goals as goal

pub returns-in-Some : goal.returns-in-Some
returns-in-Some c =
    subst (λ (o : Option (List (List ℕ))). IsRead c.others_in.result (AreOthers (words_in c.args.words.now)
    (unwrap_or o []))) (c.in-Some.ensures ∙ raw_values-rows (found_of c.args.words.now) (codes "as"))
    c.others_in.ensures

pub returns-in-None : goal.returns-in-None
returns-in-None c =
    subst (λ (o : Option (List (List ℕ))). AreOthers (words_in c.args.words.now) (unwrap_or o []) c.none.result)
    (c.in-None.ensures ∙ raw_values-rows (found_of c.args.words.now) (codes "as")) (record {
      entrances = subst (AreEntrances (words_in c.args.words.now) []) (sym c.none.ensures.sockets) tt;
      count = c.none.ensures.count ∙ sym (ap (length {A = Entrance}) c.none.ensures.sockets);
      most = omega (arith, c.none.ensures.count);
    })
