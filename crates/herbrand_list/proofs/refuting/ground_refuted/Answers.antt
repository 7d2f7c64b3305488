use Rattle.std.proofs.Common.{◌≡◌, true, List, subst, sym}
use Rattle.fol_base.specs.declared.clause.Clause.{Clause}
use Rattle.herbrand_list.specs.Nodes.{AreClausesOf}
use Rattle.herbrand_list.specs.Refuted.{ground_clauses, are_ground_clauses}
use Rattle.herbrand_list.proofs.AboutRefuting.AnswerLemmas.{asked, told, told-model}
use Rattle.herbrand_list.proofs.refuting.ground_refuted.Goals as goal

pub clauses-requires-clause-no_variables : goal.clauses-requires-clause-no_variables
clauses-requires-clause-no_variables c =
    subst (λ (cs : List Clause). are_ground_clauses (ground_clauses cs) ≡ true) (sym c.as_slice.ensures) c.requires

pub has_no_model-requires : goal.has_no_model-requires
has_no_model-requires c =
    let all =
    asked c.clauses.new.self.terms.nodes.items c.as_slice-nodes.result.now c.clauses.new.self.atoms.items
    c.as_slice-atoms.result.now (ground_clauses c.as_slice.result.now) c.in_ok-clauses.clauses c.in_ok-clauses.ensures.atoms
    c.in_ok-clauses.ensures.clauses c.as_slice-nodes.ensures.value c.as_slice-atoms.ensures.value in
    record { nodes = all.0; few = all.1; between = all.2; few_atoms = all.3; below = all.4 }

pub returns-clause-refuted : goal.returns-clause-refuted
returns-clause-refuted c =
    told c.has_no_model.result c.clauses.new.self.terms.nodes.items c.as_slice-nodes.result.now c.clauses.new.self.atoms.items
    c.as_slice-atoms.result.now (ground_clauses c.args.list.now) c.in_ok-clauses.clauses c.in_ok-clauses.ensures.atoms
    (subst
    (λ (cs : List Clause).
    AreClausesOf c.clauses.new.self.terms.nodes.items c.clauses.new.self.atoms.items (ground_clauses cs) c.in_ok-clauses.clauses)
    c.as_slice.ensures c.in_ok-clauses.ensures.clauses)
    c.as_slice-nodes.ensures.value c.as_slice-atoms.ensures.value c.has_no_model.ensures.refuted

pub returns-clause-model : goal.returns-clause-model
returns-clause-model c =
    told-model c.has_no_model.result c.clauses.new.self.terms.nodes.items c.as_slice-nodes.result.now c.clauses.new.self.atoms.items
    c.as_slice-atoms.result.now (ground_clauses c.args.list.now) c.in_ok-clauses.clauses c.in_ok-clauses.ensures.atoms
    (subst
    (λ (cs : List Clause).
    AreClausesOf c.clauses.new.self.terms.nodes.items c.clauses.new.self.atoms.items (ground_clauses cs) c.in_ok-clauses.clauses)
    c.as_slice.ensures c.in_ok-clauses.ensures.clauses)
    c.as_slice-nodes.ensures.value c.as_slice-atoms.ensures.value c.has_no_model.ensures.model
