use Rattle.std.proofs.Common.{◌≡◌, map, take}
use Rattle.fol_base.specs.Ground.{literals_instance}
use Rattle.fol_base.specs.Literal.{literal_of}
use Rattle.herbrand_list.specs.Worked.{putting}
use Rattle.herbrand_list.proofs.put_in.put_literals.Given as goal

abbrev pub invariant-loop-literal : goal.invariant-loop-literal
invariant-loop-literal l = map literal_of l.items.items ≡ literals_instance (putting l.put) (map literal_of (take l.literal-index l.literals))
