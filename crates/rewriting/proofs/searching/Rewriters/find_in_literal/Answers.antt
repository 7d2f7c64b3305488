use Rattle.std.proofs.Common.{subst}
use Rattle.std.specs.Prelude.{Option}
use Rattle.fol_base.specs.Lent.{lent_of}
use Rattle.fol_base.specs.declared.clause.Side.TheVariants.{Left}
use Rattle.rewriting.specs.Searching.{IsFoundOfSide, usable_by}
use Rattle.rewriting.specs.declared.searching.Found.{Found}
use Rattle.rewriting.proofs.AboutSearches.SearchLemmas.{literal-found}
use Rattle.rewriting.proofs.searching.Rewriters.find_in_literal.Goals as goal

pub returns-in_ok-found-in-None-clause-found : goal.returns-in_ok-found-in-None-clause-found
returns-in_ok-found-in-None-clause-found c =
    literal-found (usable_by c.args.self.now) (lent_of c.args.literal) c.args.index c.in_ok-found-in-None.found
    (subst (λ (o : Option Found). IsFoundOfSide (usable_by c.args.self.now) (lent_of c.args.literal) c.args.index Left o) c.in-None.is c.in_ok-found.ensures.found)
    c.in_ok-found-in-None.ensures.found
