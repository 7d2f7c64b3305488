use Rattle.fol_base.proofs.AboutTerms.EqualityLemmas.{names_eq-lengths}
use Rattle.fol_base.proofs.equality.same_names.Goals as goal

pub returns-then-length-right : goal.returns-then-length-right
returns-then-length-right c = names_eq-lengths c.args.left.now c.args.right.now c.if-length-right.true
