use Rattle.clausal_form.proofs.AboutNaming.NameLemmas.{IsMet}
use Rattle.clausal_form.proofs.closing.different.Given as goal

abbrev pub invariant-loop-name : goal.invariant-loop-name
invariant-loop-name l = IsMet l.names l.name-index l.met.keys l.found
