use Rattle.std.proofs.Common.{arith, rules, ◌<◌, ◌+◌, ◌*◌, ap, refl, map, take, ◌∙◌}
use Rattle.std.specs.Prelude.{flat_map}
use Rattle.std.proofs.lemmas.List.{take_all}
use Rattle.fol_base.specs.Tree.{tree_size, trees_size, trees_of}
use Rattle.fol_base.specs.Numbering.{with_variables}
use Rattle.fol_base.specs.Term.{tree_of}
use Rattle.fol_base.proofs.AboutTerms.TermLemmas.{tree_size-item}
use Rattle.fol_base.proofs.AboutCanonical.WalkLemmas.{met_more}
use Rattle.eq_rules.proofs.AboutConclusions.RenumberedLemmas.{instance_parts, instances_variables}
use Rattle.list_lemmas.proofs.Results.{on-err}
use Rattle.eq_rules.proofs.AboutConclusions.KeptLemmas.{keeps-after}
use Rattle.eq_rules.proofs.renaming.+number_instance.Goals as goal

pub number_instances-number_instance-requires : goal.number_instances-number_instance-requires
number_instances-number_instance-requires g t c =
    let smaller : 2 * tree_size (tree_of c.term-item.result) < 2 * trees_size (trees_of (map tree_of c.args.terms.now)) + 1 =
    omega (arith, tree_size-item c.args.terms.now (map tree_of c.args.terms.now) _ _ refl c.loop-term-test.true c.term-item.is) in
    search rules

pub number_instances-loop-term-preserved : goal.number_instances-loop-term-preserved
number_instances-loop-term-preserved g t c =
    met_more (instance_parts (g.S.LendsTerms.meaning c.args.bind.now)) c.args.terms.now c.loop-term.term-index c.term-item.result
    c.loop-term-test.true c.term-item.is c.args.numbers.now c.loop-term.numbers c.number_instance.new.numbers
    c.loop-term.invariant c.in_ok-number_instance.ensures.met

pub number_instances-returns-clause-met : goal.number_instances-returns-clause-met
number_instances-returns-clause-met g t c =
    let σ = g.S.LendsTerms.meaning c.args.bind.now in
    let read = c.args.terms.now in
    c.loop-term.invariant
    ∙ ap (λ xs. with_variables c.args.numbers.now (flat_map (instance_parts σ) xs)) (take_all c.loop-term.term-index read (omega arith))
    ∙ ap (with_variables c.args.numbers.now) (instances_variables σ read)

pub number_instances-returns-in_err-number_instance-clause-kept : goal.number_instances-returns-in_err-number_instance-clause-kept
number_instances-returns-in_err-number_instance-clause-kept g t c =
    let σ = g.S.LendsTerms.meaning c.args.bind.now in
    on-err c.from_residual.result
    (keeps-after c.args.numbers.now (flat_map (instance_parts σ) (take c.loop-term.term-index c.args.terms.now)) c.loop-term.numbers
    c.number_instance.new.numbers c.loop-term.invariant c.in_err-number_instance.ensures.kept)
