use Rattle.std.proofs.Common.{◌≡◌, ◌++◌, map, take}
use Rattle.fol_base.specs.Literal.{literal_of}
use Rattle.fol_base.proofs.clause.push_literal_copies.Given as goal

abbrev pub invariant-loop-literal : goal.invariant-loop-literal
invariant-loop-literal l =
    (map literal_of l.made.items ≡ map literal_of l.initial.made.items ++ map literal_of (take l.literal-index l.literals))
    × (take l.before l.made.items ≡ l.initial.made.items)
