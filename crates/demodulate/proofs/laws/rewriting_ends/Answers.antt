use Rattle.demodulate.proofs.AboutRanks.RankLemmas.{ranks_fall, ranks_kept}
use Rattle.demodulate.proofs.laws.rewriting_ends.Goals as goal

pub returns-clause-falls : goal.returns-clause-falls
returns-clause-falls c = ranks_fall

pub returns-clause-kept : goal.returns-clause-kept
returns-clause-kept c = ranks_kept
