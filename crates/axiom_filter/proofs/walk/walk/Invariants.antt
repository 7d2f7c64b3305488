use Rattle.std.proofs.Common.{◌≡◌, length}
use Rattle.axiom_filter.specs.Tables.{AreBelow}
use Rattle.axiom_filter.proofs.AboutTables.WalkLemmas.{Walked}
use Rattle.axiom_filter.proofs.walk.walk.Given as goal

abbrev pub invariant-loop-level : goal.invariant-loop-level
invariant-loop-level l = record {
  walked : Walked l.rows l.triggers l.goals l._level l.reached.items l.taken.items l.frontier.items;
  reached : length l.reached.items ≡ length l.triggers;
  taken : length l.taken.items ≡ length l.rows;
  frontier : AreBelow (length l.triggers) l.frontier.items;
}
