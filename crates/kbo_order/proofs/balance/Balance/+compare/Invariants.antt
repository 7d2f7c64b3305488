use Rattle.std.proofs.Common.{◌+◌, ◌*◌}
use Rattle.fol_base.specs.Tree.{tree_size, trees_size}
use Rattle.fol_base.specs.Term.{tree_of}
use Rattle.kbo_order.specs.declared.cmp.Cmp.{Cmp}
use Rattle.kbo_order.specs.Block.{Answers, InBlock, AllGreaterOn}
use Rattle.kbo_order.specs.Reading.{seen, seen_from}
use Rattle.kbo_order.specs.Balance.{IsLevel, PartlyMet}
use Rattle.kbo_order.proofs.balance.Balance.+compare.Given as goal

abbrev pub decreases-compare : goal.decreases-compare
decreases-compare g l = 3 * tree_size (seen l.left_bound (g.S.LendsTerms.meaning l.left_bind.now) (tree_of l.left.now)) + 2

abbrev pub decreases-tie : goal.decreases-tie
decreases-tie g l = 3 * tree_size (seen l.left_bound (g.S.LendsTerms.meaning l.left_bind.now) (tree_of l.left.now)) + 1

abbrev pub decreases-difference : goal.decreases-difference
decreases-difference g l = 3 * trees_size (seen_from l.left_bound (g.S.LendsTerms.meaning l.left_bind.now) l.left.now 0) + 3

abbrev pub invariant-difference-loop-index : goal.invariant-difference-loop-index
invariant-difference-loop-index g l = record {
  level : IsLevel l.self;
  met : PartlyMet l.initial.self l.self
      (seen_from l.left_bound (g.S.LendsTerms.meaning l.left_bind) l.left 0)
      (seen_from l.left_bound (g.S.LendsTerms.meaning l.left_bind) l.left l.index)
      (seen_from l.right_bound (g.T.LendsTerms.meaning l.right_bind) l.right 0)
      (seen_from l.right_bound (g.T.LendsTerms.meaning l.right_bind) l.right l.index);
  answered : (c : Cmp)
      → Answers (AllGreaterOn (InBlock l.initial.self.start)) c
      (seen_from l.left_bound (g.S.LendsTerms.meaning l.left_bind) l.left l.index)
      (seen_from l.right_bound (g.T.LendsTerms.meaning l.right_bind) l.right l.index)
      → Answers (AllGreaterOn (InBlock l.initial.self.start)) c
      (seen_from l.left_bound (g.S.LendsTerms.meaning l.left_bind) l.left 0)
      (seen_from l.right_bound (g.T.LendsTerms.meaning l.right_bind) l.right 0);
}
