-- What an equation tells of its two sides once, so that a match needn't ask the order.
use Rattle.std.specs.Prelude.{◌≡◌, IsTrue, IsPermutation}
use Rattle.fol_base.specs.Tree.{Tree, tree_size, tree_variables}
use Rattle.fol_base.specs.Order.{tree_greater, HasVariablesOf}
use Rattle.rewriting.specs.declared.descent.Descent.{Descent}
use Rattle.rewriting.specs.declared.descent.Descent.TheVariants.{Always, FirstDifference, Instances}

-- one size, and each variable equally often
abbrev pub AreBalanced : Tree → Tree → Type 0
AreBalanced s t = (tree_size s ≡ tree_size t) × IsPermutation (tree_variables s) (tree_variables t)

-- what is known of a side by which an equation may rewrite, and of the other side
abbrev pub Descends : Descent → Tree → Tree → Type 0
Descends Always side other = IsTrue (tree_greater side other)
Descends FirstDifference side other = AreBalanced side other
Descends Instances side other = Unit {0}

-- and so of a term that the side matches, and of what the other side becomes
abbrev pub DescendsTo : Descent → Tree → Tree → Type 0
DescendsTo Always old new = IsTrue (tree_greater old new)
DescendsTo FirstDifference old new = (tree_size old ≡ tree_size new) × HasVariablesOf old new
DescendsTo Instances old new = Unit {0}
