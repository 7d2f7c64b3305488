use Rattle.std.proofs.Common.{◌≡◌, map, take}
use Rattle.fol_base.specs.Clause.{literal_instance}
use Rattle.fol_base.specs.Instance.{substitution}
use Rattle.fol_base.specs.Literal.{literal_of}
use Rattle.fol_base.proofs.substitution.apply_clause.Given as goal

abbrev pub invariant-loop-literal : goal.invariant-loop-literal
invariant-loop-literal l =
    map literal_of l.literals.items
    ≡ map (literal_instance (substitution l.subst)) (map literal_of (take l.literal-index l.literal-items))
