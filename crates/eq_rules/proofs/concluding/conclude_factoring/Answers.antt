use Rattle.std.proofs.Common.{map, ap, sym, ◌∙◌}
use Rattle.std.specs.Option.{option_map}
use Rattle.fol_base.specs.Clause.{TreeClause}
use Rattle.fol_base.specs.Literal.{literal_of, clause_of}
use Rattle.kernel_steps.specs.declared.step.Step.TheVariants as step
use Rattle.bank_clause.specs.Clause.{clause_at}
use Rattle.eq_rules.proofs.AboutFactoring.FactorStepLemmas.{factoring-applies, factoring-numbered}
use Rattle.eq_rules.proofs.concluding.conclude_factoring.Goals as goal

pub unreachable-requires : goal.unreachable-requires
unreachable-requires c =
    factoring-applies (clause_at c.args.given.now.clause) c.lend-literals.result c.lend-literals.ensures c.args.place
    c.args.terms.now c.in_ok-bind.bind c.requires.covers
    c.new-numbers.result c.number_factored.new.numbers c.renamed_terms.new.numbers c.new-numbers.ensures
    c.in_ok-number_factored.ensures c.in_ok-bind.ensures.met c.in_ok-bind.ensures.form c.requires.applies
    (sym (ap (option_map (map literal_of)) c.in-None.is) ∙ c.in_ok-factor.ensures)

pub returns : goal.returns
returns c =
    let d : TreeClause = clause_of (record { literals = c.in-Some.made; names = c.in_ok-names_of-in-Some.field-0 }) in
    let place = c.args.place in (
      c.in_ok-bind.bind,
      ap
          (λ n. step.Factor n place.becomes.literal place.becomes.side place.other.literal place.other.side c.in_ok-bind.bind)
          c.from.ensures,
      factoring-numbered (clause_at c.args.given.now.clause) c.lend-literals.result c.lend-literals.ensures place
          c.args.terms.now c.in_ok-bind.bind c.requires.covers
          c.new-numbers.result c.number_factored.new.numbers c.renamed_terms.new.numbers c.new-numbers.ensures
          c.in_ok-number_factored.ensures c.in_ok-bind.ensures.met c.in_ok-bind.ensures.form c.requires.applies
          d
          (sym (ap (option_map (map literal_of)) c.in-Some.is) ∙ c.in_ok-factor.ensures)
          c.in_ok-names_of-in-Some.ensures,
    )
