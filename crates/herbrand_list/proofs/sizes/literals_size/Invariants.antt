use Rattle.std.proofs.Common.{◌≡◌, ◌-◌, ◌^◌, map, min, take}
use Rattle.fol_base.specs.Instance.{Substitution}
use Rattle.fol_base.specs.Ground.{literals_instance}
use Rattle.fol_base.specs.Literal.{literal_of}
use Rattle.herbrand_list.specs.GroundList.{ground_size}
use Rattle.herbrand_list.specs.Worked.{AreSizes}
use Rattle.herbrand_list.proofs.sizes.literals_size.Given as goal

abbrev pub invariant-loop-literal : goal.invariant-loop-literal
invariant-loop-literal l =
    (σ : Substitution) → AreSizes σ l.sizes
    → l.total ≡ min (ground_size (literals_instance σ (map literal_of (take l.literal-index l.literals)))) (2 ^ 64 - 1)
