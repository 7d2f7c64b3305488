use Rattle.std.proofs.Common.{map, ap, sym, ◌∙◌}
use Rattle.std.specs.Option.{option_map}
use Rattle.fol_base.specs.Clause.{TreeClause}
use Rattle.fol_base.specs.Literal.{literal_of, clause_of}
use Rattle.bank_clause.specs.Clause.{clause_at}
use Rattle.superpose.proofs.AboutSteps.StepLemmas.{superposition-applies, superposition-numbered}
use Rattle.superpose.proofs.concluding.conclude_superposition.Goals as goal

pub unreachable-requires : goal.unreachable-requires
unreachable-requires c =
    superposition-applies (clause_at c.args.first.now.clause) c.lend-first_literals.result c.lend-first_literals.ensures c.args.from
    (clause_at c.args.second.now.clause) c.lend-second_literals.result c.lend-second_literals.ensures c.args.into.now
    c.args.first_terms.now c.args.second_terms.now c.in_ok-first_bind.first_bind c.in_ok-second_bind.second_bind
    c.requires.first_covers c.requires.second_covers
    c.new-numbers.result c.number_superposed.new.numbers c.renamed_terms.new.numbers c.renamed_terms-2.new.numbers c.new-numbers.ensures
    c.in_ok-number_superposed.ensures c.in_ok-first_bind.ensures.met c.in_ok-first_bind.ensures.form
    c.in_ok-second_bind.ensures.met c.in_ok-second_bind.ensures.form c.requires.applies
    (sym (ap (option_map (map literal_of)) c.in-None.is) ∙ c.in_ok-para.ensures)

pub returns : goal.returns
returns c =
    let e : TreeClause = clause_of (record { literals = c.in-Some.literals; names = c.in_ok-names-in-Some.names }) in
    let first_bind = c.in_ok-first_bind.first_bind in
    let second_bind = c.in_ok-second_bind.second_bind in (
      first_bind,
      second_bind,
      c.in_ok-step-in-Some.ensures,
      superposition-numbered (clause_at c.args.first.now.clause) c.lend-first_literals.result c.lend-first_literals.ensures c.args.from
          (clause_at c.args.second.now.clause) c.lend-second_literals.result c.lend-second_literals.ensures c.args.into.now
          c.args.first_terms.now c.args.second_terms.now first_bind second_bind
          c.requires.first_covers c.requires.second_covers
          c.new-numbers.result c.number_superposed.new.numbers c.renamed_terms.new.numbers c.renamed_terms-2.new.numbers c.new-numbers.ensures
          c.in_ok-number_superposed.ensures c.in_ok-first_bind.ensures.met c.in_ok-first_bind.ensures.form
          c.in_ok-second_bind.ensures.met c.in_ok-second_bind.ensures.form c.requires.applies
          e
          (sym (ap (option_map (map literal_of)) c.in-Some.is) ∙ c.in_ok-para.ensures)
          c.in_ok-names-in-Some.ensures,
    )
