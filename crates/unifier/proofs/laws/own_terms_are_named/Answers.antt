use Rattle.unifier.proofs.AboutClasses.SharedLemmas.{own_terms_are_named}
use Rattle.unifier.proofs.laws.own_terms_are_named.Goals as goal

pub returns : goal.returns
returns c = own_terms_are_named
