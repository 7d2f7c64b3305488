use Rattle.std.proofs.Common.{arith, subst, sym}
use Rattle.clausal_form.specs.DerivationTexts.{IsAcceptedDerivation}
use Rattle.clausal_form.proofs.AboutDerivations.RefutationLemmas.{accepted_derivations_refute}
use Rattle.laws_meaning.proofs.AboutForms.ConsequenceLemmas.{accepted_derivations_prove}
use Rattle.tstp_checker.proofs.AboutDerivations.CheckLemmas.{accepted-counted}
use Rattle.list_lemmas.proofs.Results.{err-passed}
use Rattle.tstp_checker.proofs.derivation.check.Goals as goal

pub overflow_cast-result : goal.overflow_cast-result
overflow_cast-result c = omega (arith, c.in_ok-lines.ensures.few, c.len.ensures)

pub returns-clause-accepted : goal.returns-clause-accepted
returns-clause-accepted c =
    subst (IsAcceptedDerivation c.args.problem.now.formulas c.args.text.now) (sym c.len.ensures)
    (accepted-counted c.args.problem.now.formulas c.args.text.now c.in_ok-lines.lines c.in_ok-lines.ensures.lines)

pub returns-clause-refuted : goal.returns-clause-refuted
returns-clause-refuted c =
    accepted_derivations_refute c.args.problem.now.formulas c.args.text.now _
    (accepted-counted c.args.problem.now.formulas c.args.text.now c.in_ok-lines.lines c.in_ok-lines.ensures.lines)

pub returns-clause-follows : goal.returns-clause-follows
returns-clause-follows c closed =
    accepted_derivations_prove c.args.problem.now.formulas c.args.text.now _ closed
    (accepted-counted c.args.problem.now.formulas c.args.text.now c.in_ok-lines.lines c.in_ok-lines.ensures.lines)

pub returns-in_err-lines-clause-refused : goal.returns-in_err-lines-clause-refused
returns-in_err-lines-clause-refused c = err-passed _ _ _ c.from_residual.ensures.1 c.in_err-lines.ensures.refused
