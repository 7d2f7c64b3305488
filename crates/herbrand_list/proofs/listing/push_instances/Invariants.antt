use Rattle.std.proofs.Common.{◌≡◌, ◌++◌, map, take}
use Rattle.fol_base.specs.Literal.{clause_of}
use Rattle.herbrand_list.specs.Demands.{terms_for}
use Rattle.herbrand_list.specs.GroundList.{demanded_instance}
use Rattle.herbrand_list.specs.Answer.{nameless}
use Rattle.herbrand_list.specs.Worked.{constant_tree, listed}
use Rattle.herbrand_list.proofs.listing.push_instances.Given as goal

abbrev pub invariant-loop-index : goal.invariant-loop-index
invariant-loop-index l =
    map clause_of l.list
    ≡ map clause_of l.initial.list
    ++ map nameless (map (demanded_instance (constant_tree l.constant) l.lines l.number) (take l.index (terms_for l.number (listed l.demands))))
