-- Terms with different symbols at one place don't unify.
use Rattle.std.proofs.Common.{◌≡◌, ℕ, suc, Bool, true, false, ◌||◌, ◌==◌, cond, None, List, [], ◌∷◌, length, refl, ap, sym, ◌∙◌, ⊎_elim, eq-eqb}
use Rattle.std.proofs.lemmas.Bool.{or_cases, true≢false}
use Rattle.fol_base.specs.Tree.{Tree, variable, application, Trees, no_trees, tree_then, trees_of}
use Rattle.fol_base.specs.Instance.{instance, instances}
use Rattle.unifier.specs.Clashing.{clash, clash_in, CannotUnify, CannotUnifyAll}
use Rattle.unifier.specs.Bindings.{IsUnified}

-- lists of different lengths clash
pub clash_in-lengths : (ts us : List Tree) → (length ts ≡ length us → ⊥) → true ≡ clash_in (trees_of ts) (trees_of us)
clash_in-lengths [] [] h = absurd (h refl)
clash_in-lengths [] (u ∷ us) h = refl
clash_in-lengths (t ∷ ts) [] h = refl
clash_in-lengths (t ∷ ts) (u ∷ us) h = later (clash t u) (clash_in-lengths ts us (λ same. h (ap suc same)))
  where
    later : (b : Bool) → true ≡ clash_in (trees_of ts) (trees_of us) → true ≡ (b || clash_in (trees_of ts) (trees_of us))
    later true rest = refl
    later false rest = rest

heads : (f g : ℕ) (b : Bool) → f ≡ g → cond (f == g) b true ≡ true → b ≡ true
heads f g b same h = sym (ap (λ test. cond test b true) (eq-eqb f g same)) ∙ h

mutual
  clash-sound : (s t : Tree) → clash s t ≡ true → CannotUnify s t
  clash-sound (variable v) t h σ τ e = absurd (true≢false (sym h))
  clash-sound (application f ts) (variable w) h σ τ e = absurd (true≢false (sym h))
  clash-sound (application f ts) (application g us) h σ τ e =
      let both : application f (instances σ ts) ≡ application g (instances τ us) = e in
      let symbols : f ≡ g = cc in
      let arguments : instances σ ts ≡ instances τ us = cc in
      clash_in-sound ts us (heads f g (clash_in ts us) symbols h) σ τ arguments

  clash_in-sound : (ts us : Trees) → clash_in ts us ≡ true → CannotUnifyAll ts us
  clash_in-sound no_trees no_trees h σ τ e = absurd (true≢false (sym h))
  clash_in-sound no_trees (tree_then u us) h σ τ e =
      let wrong : no_trees ≡ tree_then (instance τ u) (instances τ us) = e in cc
  clash_in-sound (tree_then t ts) no_trees h σ τ e =
      let wrong : tree_then (instance σ t) (instances σ ts) ≡ no_trees = e in cc
  clash_in-sound (tree_then t ts) (tree_then u us) h σ τ e =
      let both : tree_then (instance σ t) (instances σ ts) ≡ tree_then (instance τ u) (instances τ us) = e in
      let firsts : instance σ t ≡ instance τ u = cc in
      let rest : instances σ ts ≡ instances τ us = cc in
      ⊎_elim (λ one. clash-sound t u one σ τ firsts) (λ other. clash_in-sound ts us other σ τ rest) (or_cases (clash t u) (clash_in ts us) h)

pub clash-answer : (apart : Bool) (s t : Tree) → clash s t ≡ true → IsUnified apart s t None
clash-answer true s t h = clash-sound s t h
clash-answer false s t h = λ σ e. clash-sound s t h σ σ e
