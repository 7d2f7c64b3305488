-- Whether a term is greater on a block of variables, by a walk that counts.
use Rattle.std.specs.Prelude.{Bool, true, false}
use Rattle.fol_base.specs.Tree.{Tree, tree_size, tree_variables}
use Rattle.kbo_order.specs.declared.balance.Balance.{Balance}
use Rattle.kbo_order.specs.Balance.{Met}
use Rattle.kbo_order.specs.Block.{InBlock, GreaterOn}

-- where it is, both terms were met
abbrev pub Exceeds : Bool → Balance → Balance → Tree → Tree → Type 0
Exceeds true before after s t =
    GreaterOn (InBlock before.start) s t × Met before after (tree_variables s) (tree_size s) (tree_variables t) (tree_size t)
Exceeds false before after s t = GreaterOn (InBlock before.start) s t → ⊥
