use Rattle.fol_base.specs.Term.{tree_of}
use Rattle.fol_base.specs.Lent.{lent_of}
use Rattle.rewriting.specs.Spots.{spot_of}
use Rattle.rewriting.proofs.AboutSearches.DescentLemmas.{matched-descends}
use Rattle.rewriting.proofs.AboutSearches.TryLemmas.{side-taken, side-refused}
use Rattle.rewriting.proofs.trying.match_side.Goals as goal

pub returns-then-takes : goal.returns-then-takes
returns-then-takes c =
    side-taken (lent_of c.args.equation) c.args.side (spot_of c.args.spot) (tree_of c.args.term.now)
    (tree_of c.side-pattern.result.now) (tree_of c.other_side.result.now) c.empty.result c.in-Some.terms c.in_ok-match_onto.field-0
    c.is_atom_variable.result c.takes.result
    c.side-pattern.ensures c.other_side.ensures c.empty.ensures c.requires.variables
    c.is_atom_variable.ensures c.if-is_atom_variable.false c.in_ok-match_onto.ensures.found c.in-Some.is c.takes.ensures c.if-takes.true
    c.in_ok-match_onto.ensures.below c.in_ok-match_onto.ensures.function_terms

pub returns : goal.returns
returns c =
    side-refused (lent_of c.args.equation) c.args.side (spot_of c.args.spot) (tree_of c.args.term.now)
    (tree_of c.side-pattern.result.now) (tree_of c.other_side.result.now) c.empty.result c.in-Some.terms c.in_ok-match_onto.field-0
    c.takes.result
    c.side-pattern.ensures c.other_side.ensures c.empty.ensures
    c.in_ok-match_onto.ensures.found c.in-Some.is c.takes.ensures c.if-takes.false

pub takes-requires-clause-descends : goal.takes-requires-clause-descends
takes-requires-clause-descends c =
    matched-descends (lent_of c.args.equation) c.args.side c.args.descent (tree_of c.args.term.now)
    (tree_of c.side-pattern.result.now) (tree_of c.other_side.result.now) c.empty.result c.in-Some.terms c.in_ok-match_onto.field-0
    c.side-pattern.ensures c.other_side.ensures c.empty.ensures c.in_ok-match_onto.ensures.found c.in-Some.is c.requires.descends
