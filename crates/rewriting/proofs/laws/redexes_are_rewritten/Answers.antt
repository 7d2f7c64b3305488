use Rattle.rewriting.proofs.AboutRedexes.LawLemmas.{normal_clauses_stay, redexes_rewrite, redexes_give}
use Rattle.rewriting.proofs.laws.redexes_are_rewritten.Goals as goal

pub returns-clause-normal : goal.returns-clause-normal
returns-clause-normal c = normal_clauses_stay

pub returns-clause-found : goal.returns-clause-found
returns-clause-found c = redexes_rewrite

pub returns-clause-given : goal.returns-clause-given
returns-clause-given c = redexes_give
