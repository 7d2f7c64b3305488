use Rattle.clausal_form.proofs.AboutWriting.LoopLemmas.{begun-so, prefix-so}
use Rattle.clausal_form.proofs.form.form_of_formulas.Goals as goal

pub add_formulas-requires-clause-begun : goal.add_formulas-requires-clause-begun
add_formulas-requires-clause-begun c =
    begun-so c.args.problem.now.formulas _ _ _ _ _ c.as_slice-formulas.ensures c.requires.signature c.in_ok-skolem.ensures c.in_ok-form.ensures.made

pub add_formulas-requires-clause-prefix : goal.add_formulas-requires-clause-prefix
add_formulas-requires-clause-prefix c =
    prefix-so c.args.problem.now.formulas _ _ c.as_slice-formulas.ensures c.requires.prefix
