-- What being compatible has to do with unifying and matching: no term that a query needs is left out.
use Rattle.std.specs.Prelude.{◌≡◌, true}
use Rattle.fol_base.specs.Tree.{Tree}
use Rattle.fol_base.specs.Instance.{Substitution}
use Rattle.fol_base.specs.Unifier.{IsUnifierApart, IsMatcher}
use Rattle.fol_base.specs.Compatible.{compatible, compatible_generalisation, compatible_instance}

-- terms that unify, with their variables taken apart, are compatible
abbrev pub UnifiableAreCompatible : Type 0
UnifiableAreCompatible = (entry query : Tree) (σ τ : Substitution) → IsUnifierApart entry query σ τ → compatible entry query ≡ true

-- so is an entry that a matcher turns into the query
abbrev pub GeneralisationsAreCompatible : Type 0
GeneralisationsAreCompatible = (entry query : Tree) (σ : Substitution) → IsMatcher entry query σ → compatible_generalisation entry query ≡ true

-- and one into which a matcher turns the query
abbrev pub InstancesAreCompatible : Type 0
InstancesAreCompatible = (entry query : Tree) (σ : Substitution) → IsMatcher query entry σ → compatible_instance entry query ≡ true
