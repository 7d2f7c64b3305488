use Rattle.std.proofs.Common.{◌+◌, ◌*◌, ◌≤◌, Bool}
use Rattle.fol_base.specs.Tree.{tree_size, trees_size, trees_variables}
use Rattle.fol_base.specs.Term.{tree_of}
use Rattle.kbo_order.specs.declared.balance.Balance.{Balance}
use Rattle.kbo_order.specs.Reading.{seen, seen_from}
use Rattle.kbo_order.specs.Balance.{Consistent, HasRoom, Covers}
use Rattle.kbo_order.proofs.balance.Balance.+cover.Given as goal

abbrev pub decreases-cover : goal.decreases-cover
decreases-cover g l = 2 * tree_size (seen l.is_bound (g.S.LendsTerms.meaning l.bind.now) (tree_of l.term.now))

abbrev pub decreases-cover_from : goal.decreases-cover_from
decreases-cover_from g l = 2 * trees_size (seen_from l.is_bound (g.S.LendsTerms.meaning l.bind.now) l.terms.now l.from) + 1

abbrev pub invariant-cover_from-loop-index : goal.invariant-cover_from-loop-index
invariant-cover_from-loop-index g l = record {
  consistent : Consistent l.self;
  room : HasRoom l.self (trees_size (seen_from l.is_bound (g.S.LendsTerms.meaning l.bind) l.terms l.index));
  falls : trees_size (seen_from l.is_bound (g.S.LendsTerms.meaning l.bind) l.terms l.index)
      ≤ trees_size (seen_from l.is_bound (g.S.LendsTerms.meaning l.bind) l.terms l.from);
  carried : (answer : Bool) (x : Balance)
      → Covers answer l.least l.self x
      (trees_variables (seen_from l.is_bound (g.S.LendsTerms.meaning l.bind) l.terms l.index))
      (trees_size (seen_from l.is_bound (g.S.LendsTerms.meaning l.bind) l.terms l.index))
      → Covers answer l.least l.initial.self x
      (trees_variables (seen_from l.is_bound (g.S.LendsTerms.meaning l.bind) l.terms l.from))
      (trees_size (seen_from l.is_bound (g.S.LendsTerms.meaning l.bind) l.terms l.from));
}
