use Rattle.sysv_clients.proofs.LoadLemmas.{not_cut, stops_of}
use Rattle.sysv_clients.proofs.loading.Loader.stop.Goals as goal

pub returns-in-Cut-clause-stops : goal.returns-in-Cut-clause-stops
returns-in-Cut-clause-stops g c = λ loading left taken fed unfed stops. rw c.in-Cut.is at stops

pub end-requires : goal.end-requires
end-requires g c = c.requires (not_cut c.args.why c.in_default.not-Cut)

pub returns-in_default-clause-stops : goal.returns-in_default-clause-stops
returns-in_default-clause-stops g c = λ loading left taken fed unfed stops.
    c.end.ensures.ends loading left taken fed unfed
    (stops_of loading c.args.why left _ taken _ fed unfed _ _ (not_cut c.args.why c.in_default.not-Cut) stops)
