use Rattle.std.proofs.Common.{Some, None, map, sym, ◌∙◌, ap, subst, arith}
use Rattle.std.specs.Prelude.{All}
use Rattle.fol_base.specs.Clause.{LiteralVariablesBelow}
use Rattle.fol_base.specs.Literal.{clause_of}
use Rattle.fol_base.specs.Lent.{lent_of}
use Rattle.fol_base.specs.Subsumption.{assertions}
use Rattle.fol_base.proofs.AboutTerms.VariableLemmas.{ClauseVariablesBelow-bound}
use Rattle.bank_clause.specs.Clause.{clause_at}
use Rattle.subsume.specs.Kinds.{AreLiterals}
use Rattle.subsume.proofs.AboutSearch.SubsumingLemmas.{of_use, asserted, none_subsumes, some_subsumes, converted}
use Rattle.subsume.proofs.subsuming.subsumes.Goals as goal

pub returns-in-None : goal.returns-in-None
returns-in-None c = λ usage wf.
    let k = clause_at c.args.general.now in
    let d = clause_of c.args.special.now in
    let none = rw c.in-None.is at c.in_ok-find_matcher.ensures.found in
    none_subsumes usage.is_predicate k d (of_use usage k.literals wf.first) (of_use usage d.literals wf.second)
    (converted c.names.result.now (assertions k.names) c.in_ok-asserted_numbers.field-0.items (assertions d.names) c.lend.result k.literals
    (map lent_of c.in_ok-lent_literals.field-0.items) d.literals None (c.names.ensures.names ∙ sym (asserted c.args.general.now.names)) c.lend.ensures
    (c.in_ok-asserted_numbers.ensures ∙ ap assertions c.as_slice.ensures) c.in_ok-lent_literals.ensures none)

pub subst-requires : goal.subst-requires
subst-requires c =
    let k = clause_at c.args.general.now in
    let below = rw c.in-Some.is at c.in_ok-find_matcher.ensures.below in
    below c.variable_bound.result
    (subst (λ ls. All (LiteralVariablesBelow c.variable_bound.result) ls) (sym c.lend.ensures)
    (ClauseVariablesBelow-bound c.variable_bound.result k (omega (arith, c.variable_bound.ensures.variables))))

pub returns : goal.returns
returns c = λ usage wf.
    let k = clause_at c.args.general.now in
    let d = clause_of c.args.special.now in
    let p = usage.is_predicate in
    let wk = of_use usage k.literals wf.first in
    let wd = of_use usage d.literals wf.second in
    let found = rw c.in-Some.is at c.in_ok-find_matcher.ensures.found in
    let functions = rw c.in-Some.is at c.in_ok-find_matcher.ensures.function_terms in
    some_subsumes p k d c.in-Some.pairs c.variable_bound.result _
    (converted c.names.result.now (assertions k.names) c.in_ok-asserted_numbers.field-0.items (assertions d.names) c.lend.result k.literals
    (map lent_of c.in_ok-lent_literals.field-0.items) d.literals (Some c.in-Some.pairs) (c.names.ensures.names ∙ sym (asserted c.args.general.now.names)) c.lend.ensures
    (c.in_ok-asserted_numbers.ensures ∙ ap assertions c.as_slice.ensures) c.in_ok-lent_literals.ensures found)
    (functions p (subst (AreLiterals p) (sym c.lend.ensures) wk) (subst (AreLiterals p) (sym c.in_ok-lent_literals.ensures) wd))
    c.variable_bound.ensures.variables c.in_ok-subst-in-Some.ensures.terms c.in_ok-subst-in-Some.ensures.pairs
