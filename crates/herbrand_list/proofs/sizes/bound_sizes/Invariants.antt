use Rattle.std.proofs.Common.{◌≡◌, map, take}
use Rattle.fol_base.specs.Term.{tree_of}
use Rattle.fol_base.specs.Instance.{Substitution, instance}
use Rattle.herbrand_list.specs.Worked.{stopped_size, AreSizes}
use Rattle.herbrand_list.proofs.sizes.bound_sizes.Given as goal

abbrev pub invariant-loop-term : goal.invariant-loop-term
invariant-loop-term l =
    (σ : Substitution) → AreSizes σ l.sizes → l.made.items ≡ map stopped_size (map (instance σ) (map tree_of (take l.term-index l.terms)))
