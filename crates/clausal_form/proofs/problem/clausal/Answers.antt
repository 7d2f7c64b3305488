use Rattle.std.specs.Prelude.{codes}
use Rattle.clausal_form.proofs.AboutForms.LastSymbols.{prefix-of, names-are-new, spare-is-new, form-so}
use Rattle.clausal_form.proofs.problem.clausal.Goals as goal

pub form_of_formulas-requires-clause-prefix : goal.form_of_formulas-requires-clause-prefix
form_of_formulas-requires-clause-prefix c =
    prefix-of c.args.problem.now.formulas _ (codes "sk") _ c.in_ok-signature.ensures c.in_ok-prefixes.ensures.skolem

pub finished-requires-clause-naming : goal.finished-requires-clause-naming
finished-requires-clause-naming c =
    names-are-new c.args.problem.now.formulas _ _ _ _ c.in_ok-signature.ensures c.in_ok-prefixes.ensures.skolem c.in_ok-prefixes.ensures.naming
    c.in-Ok.ensures.formed

pub finished-requires-clause-spare : goal.finished-requires-clause-spare
finished-requires-clause-spare c =
    spare-is-new c.args.problem.now.formulas _ _ _ _ _ c.in_ok-signature.ensures c.in_ok-prefixes.ensures.skolem c.in_ok-prefixes.ensures.naming
    c.in_ok-prefixes.ensures.spare c.in-Ok.ensures.formed

pub returns-in-Ok-clause-form : goal.returns-in-Ok-clause-form
returns-in-Ok-clause-form c =
    form-so c.args.problem.now.formulas _ _ _ _ c.in-Ok.form c.in_ok-finished-in-Ok.field-0 c.in_ok-signature.ensures c.in_ok-prefixes.ensures.skolem
    c.in_ok-prefixes.ensures.naming c.in_ok-prefixes.ensures.spare c.in-Ok.ensures.formed c.in-Ok.ensures.within
    c.in_ok-finished-in-Ok.ensures.signature c.in_ok-finished-in-Ok.ensures.clauses c.in_ok-finished-in-Ok.ensures.origins
