use Rattle.std.proofs.Common.{List, [], arith, sym, subst}
use Rattle.std.proofs.lemmas.List.{take_all}
use Rattle.fol_base.specs.declared.clause.Clause.{Clause}
use Rattle.sat_core.specs.Clause.{PropClause}
use Rattle.herbrand_list.specs.Nodes.{AreClausesOf}
use Rattle.herbrand_list.specs.Refuted.{ground_clauses}
use Rattle.herbrand_list.proofs.AboutRefuting.GroundingLemmas.{ground-clause-item, clauses-walked}
use Rattle.herbrand_list.proofs.grounding.Grounding.clauses.Goals as goal

pub loop-clause-init : goal.loop-clause-init
loop-clause-init c = record {
  clauses =
      subst (λ (ps : List PropClause). AreClausesOf c.args.self.now.terms.nodes.items c.args.self.now.atoms.items [] ps) (sym c.new-clauses.ensures)
      tt;
  atoms = c.requires.atoms;
}

pub clause-requires-clause-no_variables : goal.clause-requires-clause-no_variables
clause-requires-clause-no_variables c =
    ground-clause-item c.args.list.now c.loop-clause.clause-index c.clause-item.result c.as_slice.result.now c.requires.no_variables
    c.loop-clause-test.true c.clause-item.is c.as_slice.ensures

pub loop-clause-preserved : goal.loop-clause-preserved
loop-clause-preserved c = record {
  clauses =
      clauses-walked c.loop-clause.self.terms.nodes.items c.clause.new.self.terms.nodes.items c.loop-clause.self.atoms.items
      c.clause.new.self.atoms.items c.args.list.now c.loop-clause.clause-index c.clause-item.result c.as_slice.result.now
      c.loop-clause.clauses c.push.new.self c.in_ok-names.names.items c.as_slice-in-loop-clause.result.now c.loop-clause-test.true c.clause-item.is
      c.as_slice.ensures c.in_ok-names.ensures.nodes c.in_ok-names.ensures.equations c.loop-clause.invariant.clauses
      c.in_ok-names.ensures.names c.as_slice-in-loop-clause.ensures.value c.in_ok-push.ensures.more;
  atoms = c.in_ok-names.ensures.atoms;
}

pub returns-clause-clauses : goal.returns-clause-clauses
returns-clause-clauses c =
    subst (λ (cs : List Clause). AreClausesOf c.loop-clause.self.terms.nodes.items c.loop-clause.self.atoms.items (ground_clauses cs) c.loop-clause.clauses)
    (take_all c.loop-clause.clause-index c.args.list.now (omega arith)) c.loop-clause.invariant.clauses
