use Rattle.std.proofs.Common.{map, ap, sym, ◌∙◌}
use Rattle.std.specs.Option.{option_map}
use Rattle.fol_base.specs.Clause.{TreeClause}
use Rattle.fol_base.specs.Literal.{literal_of, clause_of}
use Rattle.kernel_steps.specs.declared.step.Step.TheVariants as step
use Rattle.bank_clause.specs.Clause.{clause_at}
use Rattle.eq_rules.proofs.AboutConclusions.StepLemmas.{resolution-applies, resolution-numbered}
use Rattle.eq_rules.proofs.concluding.conclude_resolution.Goals as goal

pub unreachable-requires : goal.unreachable-requires
unreachable-requires c =
    resolution-applies (clause_at c.args.given.now.clause) c.lend-literals.result c.lend-literals.ensures c.args.index c.count.result
    c.requires.inside c.count.ensures c.args.terms.now c.in_ok-bind.bind c.requires.covers
    c.new-numbers.result c.number_literals.new.numbers c.number_literals-2.new.numbers c.renamed_terms.new.numbers c.new-numbers.ensures
    c.in_ok-number_literals.ensures.met c.in_ok-number_literals-2.ensures.met c.in_ok-bind.ensures.met c.in_ok-bind.ensures.form c.requires.applies
    (sym (ap (option_map (map literal_of)) c.in-None.is) ∙ c.in_ok-refl.ensures)

pub returns : goal.returns
returns c =
    let d : TreeClause = clause_of (record { literals = c.in-Some.made; names = c.in_ok-names_of-in-Some.field-0 }) in (
      c.in_ok-bind.bind,
      ap (λ n. step.Refl n c.args.index c.in_ok-bind.bind) c.from.ensures,
      resolution-numbered (clause_at c.args.given.now.clause) c.lend-literals.result c.lend-literals.ensures c.args.index c.count.result
          c.requires.inside c.count.ensures c.args.terms.now c.in_ok-bind.bind c.requires.covers
          c.new-numbers.result c.number_literals.new.numbers c.number_literals-2.new.numbers c.renamed_terms.new.numbers c.new-numbers.ensures
          c.in_ok-number_literals.ensures.met c.in_ok-number_literals-2.ensures.met c.in_ok-bind.ensures.met c.in_ok-bind.ensures.form c.requires.applies
          d
          (sym (ap (option_map (map literal_of)) c.in-Some.is) ∙ c.in_ok-refl.ensures)
          c.in_ok-names_of-in-Some.ensures,
    )
