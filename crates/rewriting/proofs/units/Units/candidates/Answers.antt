use Rattle.fol_base.specs.Term.{tree_of}
use Rattle.rewriting.specs.Units.{HasCandidates}
use Rattle.rewriting.proofs.AboutIndexes.UnitLemmas.{candidates}
use Rattle.rewriting.proofs.units.Units.candidates.Goals as goal

pub returns : goal.returns
returns c =
    let all : HasCandidates c.args.self.now (tree_of c.args.term.now) c.in_ok-found.found =
    rw (← c.self.view_is) (candidates c.self.inside.sides c.self.inside.clauses.entries (tree_of c.args.term.now) c.in_ok-found.found c.self.invariant c.in_ok-found.ensures) in
    all
