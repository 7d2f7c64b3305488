use Rattle.std.proofs.Common.{refl, arith, subst, List}
use Rattle.std.proofs.lemmas.List.{take_all}
use Rattle.finite_models.specs.declared.flat.FlatClause.{FlatClause}
use Rattle.finite_models.specs.Translation.{Adds, ClauseFits, flat_clauses_true}
use Rattle.finite_models.proofs.AboutLoops.AddsLemmas.{adds-nothing}
use Rattle.finite_models.proofs.AboutLoops.InstanceLemmas.{each-at, clause-next}
use Rattle.finite_models.proofs.instances.add_all_instances.Goals as goal

pub add_instances-requires-clause-fits : goal.add_instances-requires-clause-fits
add_instances-requires-clause-fits c =
    each-at (ClauseFits c.args.names.now) c.args.flat.now c.loop-clause.clause-index c.clause-item.result c.requires.fits c.loop-clause-test.true c.clause-item.is

pub loop-clause-init : goal.loop-clause-init
loop-clause-init c = adds-nothing _ _ _ (λ v. refl)

pub loop-clause-preserved : goal.loop-clause-preserved
loop-clause-preserved c =
    clause-next c.args.names.now c.args.flat.now c.loop-clause.clause-index c.clause-item.result _ _ _ c.loop-clause-test.true c.clause-item.is
    c.loop-clause.invariant c.in_ok-add_instances.ensures

pub returns : goal.returns
returns c =
    subst (λ (cs : List FlatClause). Adds c.args.names.now.count c.args.clauses.now c.loop-clause.clauses (flat_clauses_true cs c.args.names.now))
    (take_all c.loop-clause.clause-index c.args.flat.now (omega (arith, c.loop-clause-test.false))) c.loop-clause.invariant
