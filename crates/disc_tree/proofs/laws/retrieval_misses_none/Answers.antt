use Rattle.disc_tree.proofs.AboutQueries.UnifierLemmas.{unifiable-compatible, generalisation-compatible, instance-compatible}
use Rattle.disc_tree.proofs.laws.retrieval_misses_none.Goals as goal

pub returns : goal.returns
returns c = record { unifiers = unifiable-compatible; generalisations = generalisation-compatible; instances = instance-compatible }
