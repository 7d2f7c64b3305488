use Rattle.clausal_form.proofs.AboutWriting.LoopLemmas.{IsUnder}
use Rattle.clausal_form.proofs.form.add_formulas.Given as goal

abbrev pub invariant-loop-place : goal.invariant-loop-place
invariant-loop-place l = IsUnder l.formulas l.prefix l.place l.form
