use Rattle.std.proofs.Common.{ap, sym, ◌∙◌}
use Rattle.std.proofs.lemmas.List.{length-map}
use Rattle.fol_base.specs.Literal.{literal_of, clause_of}
use Rattle.fol_base.specs.Canonical.{terms_from}
use Rattle.fol_base.specs.Tree.{variable}
use Rattle.kernel_steps.specs.declared.step.Step.TheVariants.{Para}
use Rattle.unifier.specs.Matching.{by_pairs}
use Rattle.bank_clause.specs.Clause.{clause_at}
use Rattle.demodulate.proofs.AboutSteps.CallLemmas.{pairs-below, line-is}
use Rattle.demodulate.proofs.line.rewriting_line.Goals as goal

pub subst-requires : goal.subst-requires
subst-requires c =
    pairs-below (clause_at c.args.unit.now) (clause_of c.args.clause.now) c.args.found.now c.requires.found
    c.variable_bound-2.result c.variable_bound-2.ensures.variables

pub returns : goal.returns
returns c =
    let f = c.args.found.now in
    line-is (clause_at c.args.unit.now) (clause_of c.args.clause.now) f c.args.parent (clause_of c.in_ok-made.made) _ c.len.result
    c.in_ok-own.own c.in_ok-terms.terms c.in_ok-first_bind.first_bind c.in_ok-second_bind.second_bind
    c.new-numbers.result c.number_literals.new.numbers c.renamed_terms.new.numbers c.renamed_terms-2.new.numbers
    c.in_ok-made.ensures c.in_ok-renumbered.ensures
    (ap (λ p. Para f.rewrite.number c.args.parent 0 f.rewrite.side f.literal f.side p c.in_ok-first_bind.first_bind c.in_ok-second_bind.second_bind)
    c.in_ok-copy.ensures)
    (c.in_ok-own.ensures ∙ ap (λ n. terms_from 0 n variable) c.variable_bound.ensures.value)
    (c.in_ok-terms.ensures.terms ∙ ap (λ n. terms_from 0 n (by_pairs f.rewrite.terms)) c.variable_bound-2.ensures.variables)
    c.new-numbers.ensures (c.len.ensures ∙ sym (length-map c.in_ok-made.made.literals literal_of))
    c.in_ok-number_literals.ensures.met
    c.in_ok-first_bind.ensures.met c.in_ok-first_bind.ensures.form
    c.in_ok-second_bind.ensures.met c.in_ok-second_bind.ensures.form
