use Rattle.std.proofs.Common.{subst}
use Rattle.std.specs.Prelude.{Option}
use Rattle.fol_base.specs.Term.{tree_of}
use Rattle.fol_base.specs.Lent.{lent_of}
use Rattle.fol_base.specs.Sides.{side_of}
use Rattle.rewriting.specs.Redex.{root_spot}
use Rattle.rewriting.specs.Spots.{spot_of}
use Rattle.rewriting.specs.Searching.{IsFoundIn, usable_by}
use Rattle.rewriting.specs.declared.searching.Rewrite.{Rewrite}
use Rattle.rewriting.proofs.AboutSearches.SearchLemmas.{side-normal}
use Rattle.rewriting.proofs.searching.Rewriters.find_in_side.Goals as goal

pub returns-in-None-clause-found : goal.returns-in-None-clause-found
returns-in-None-clause-found c =
    let none =
    subst (λ (o : Option Rewrite). IsFoundIn (usable_by c.args.self.now) (spot_of c.root-spot.result) (tree_of c.side.result.now) c.new-path.result.items c.find_in_term.new.path.items o)
    c.in-None.is c.in_ok-find_in_term.ensures.found in
    side-normal (usable_by c.args.self.now) (spot_of c.root-spot.result) (root_spot c.args.side (lent_of c.args.literal))
    (tree_of c.side.result.now) (side_of c.args.side (lent_of c.args.literal)) c.root-spot.ensures c.side.ensures none.1
