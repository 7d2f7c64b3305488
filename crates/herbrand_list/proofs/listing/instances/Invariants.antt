use Rattle.std.proofs.Common.{◌≡◌, ◌++◌, length, map}
use Rattle.fol_base.specs.Literal.{clause_of}
use Rattle.herbrand_list.specs.GroundList.{instances_below}
use Rattle.herbrand_list.specs.Answer.{nameless}
use Rattle.herbrand_list.specs.Worked.{constant_tree, listed}
use Rattle.herbrand_list.proofs.listing.instances.Given as goal

abbrev pub invariant-loop-number : goal.invariant-loop-number
invariant-loop-number l =
    map clause_of l.list ++ map nameless (instances_below (constant_tree l.constant) l.lines (listed l.demands) l.number)
    ≡ map nameless (instances_below (constant_tree l.constant) l.lines (listed l.demands) (length l.lines))
