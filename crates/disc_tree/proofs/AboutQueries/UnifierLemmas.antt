-- Terms that unify or match are compatible.
use Rattle.std.proofs.Common.{◌≡◌, ℕ, true, false, ◌==◌, refl, ap, sym, eq-eqb}
use Rattle.std.proofs.lemmas.Bool.{and_from}
use Rattle.fol_base.specs.Tree.{Tree, variable, application, Trees, no_trees, tree_then}
use Rattle.fol_base.specs.Instance.{Substitution, instances}
use Rattle.fol_base.specs.Compatible.{compatible_by, all_compatible_by}
use Rattle.disc_tree.specs.Laws.{UnifiableAreCompatible, GeneralisationsAreCompatible, InstancesAreCompatible}

-- ---- the parts of equal terms are equal

abbrev symbol_of : Tree → ℕ
symbol_of (variable v) = v
symbol_of (application f ts) = f

abbrev pub trees_below : Tree → Trees
trees_below (variable v) = no_trees
trees_below (application f ts) = ts

abbrev pub first_of : Trees → Tree
first_of no_trees = variable 0
first_of (tree_then t ts) = t

abbrev pub rest_of : Trees → Trees
rest_of no_trees = no_trees
rest_of (tree_then t ts) = ts

-- ---- unifying

mutual
  pub unifiable-compatible : UnifiableAreCompatible
  unifiable-compatible (variable v) (variable w) σ τ e = refl
  unifiable-compatible (variable v) (application g us) σ τ e = refl
  unifiable-compatible (application f ts) (variable w) σ τ e = refl
  unifiable-compatible (application f ts) (application g us) σ τ e =
      and_from (f == g) (all_compatible_by true true ts us) (eq-eqb f g (ap symbol_of e)) (unifiable-all ts us σ τ (ap trees_below e))

  unifiable-all : (ts us : Trees) (σ τ : Substitution) → instances σ ts ≡ instances τ us → all_compatible_by true true ts us ≡ true
  unifiable-all no_trees no_trees σ τ e = refl
  unifiable-all no_trees (tree_then u us) σ τ e = absurd (cc)
  unifiable-all (tree_then t ts) no_trees σ τ e = absurd (cc)
  unifiable-all (tree_then t ts) (tree_then u us) σ τ e =
      and_from (compatible_by true true t u) (all_compatible_by true true ts us)
      (unifiable-compatible t u σ τ (ap first_of e)) (unifiable-all ts us σ τ (ap rest_of e))

-- ---- matching

mutual
  pub generalisation-compatible : GeneralisationsAreCompatible
  generalisation-compatible (variable v) (variable w) σ e = refl
  generalisation-compatible (variable v) (application g us) σ e = refl
  generalisation-compatible (application f ts) (variable w) σ e = absurd (cc)
  generalisation-compatible (application f ts) (application g us) σ e =
      and_from (f == g) (all_compatible_by true false ts us) (eq-eqb f g (ap symbol_of e)) (generalisation-all ts us σ (ap trees_below e))

  generalisation-all : (ts us : Trees) (σ : Substitution) → instances σ ts ≡ us → all_compatible_by true false ts us ≡ true
  generalisation-all no_trees no_trees σ e = refl
  generalisation-all no_trees (tree_then u us) σ e = absurd (cc)
  generalisation-all (tree_then t ts) no_trees σ e = absurd (cc)
  generalisation-all (tree_then t ts) (tree_then u us) σ e =
      and_from (compatible_by true false t u) (all_compatible_by true false ts us)
      (generalisation-compatible t u σ (ap first_of e)) (generalisation-all ts us σ (ap rest_of e))

mutual
  pub instance-compatible : InstancesAreCompatible
  instance-compatible (variable v) (variable w) σ e = refl
  instance-compatible (variable v) (application g us) σ e = absurd (cc)
  instance-compatible (application f ts) (variable w) σ e = refl
  instance-compatible (application f ts) (application g us) σ e =
      and_from (f == g) (all_compatible_by false true ts us)
      (eq-eqb f g (sym (ap symbol_of e))) (instance-all ts us σ (ap trees_below e))

  instance-all : (ts us : Trees) (σ : Substitution) → instances σ us ≡ ts → all_compatible_by false true ts us ≡ true
  instance-all no_trees no_trees σ e = refl
  instance-all no_trees (tree_then u us) σ e = absurd (cc)
  instance-all (tree_then t ts) no_trees σ e = absurd (cc)
  instance-all (tree_then t ts) (tree_then u us) σ e =
      and_from (compatible_by false true t u) (all_compatible_by false true ts us)
      (instance-compatible t u σ (ap first_of e)) (instance-all ts us σ (ap rest_of e))
