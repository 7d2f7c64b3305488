use Rattle.std.proofs.Common.{inl, inr, sym, ◌∙◌}
use Rattle.fol_base.specs.Lent.{lent_of}
use Rattle.rewriting.proofs.AboutSearches.DescentLemmas.{ordered-descends, balanced-descends}
use Rattle.rewriting.proofs.descent.descent_of.Goals as goal

pub returns-then-is_greater : goal.returns-then-is_greater
returns-then-is_greater c = ordered-descends (lent_of c.args.equation) (inl (sym c.is_greater.ensures ∙ c.if-is_greater.true))

pub returns-then-is_greater-2 : goal.returns-then-is_greater-2
returns-then-is_greater-2 c = ordered-descends (lent_of c.args.equation) (inr (sym c.is_greater-2.ensures ∙ c.if-is_greater-2.true))

pub returns-then-branch : goal.returns-then-branch
returns-then-branch c = λ s may. balanced-descends (lent_of c.args.equation) (c.in_ok-are_balanced.ensures c.if-branch.true) s
