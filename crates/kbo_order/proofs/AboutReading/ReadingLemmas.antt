-- Terms and lists of terms, as they are read under a substitution.
use Rattle.std.proofs.Common.{◌≡◌, ℕ, zero, suc, ◌+◌, ◌<◌, ◌≤◌, ◌⊎◌, ◌==◌, min, Bool, true, false, List, [], ◌∷◌, length, map, get_or, refl, ap, ap₂, sym, ◌∙◌, inl, inr, ⊎_elim, drop-cons, arith}
use Rattle.std.proofs.lemmas.Bool.{cases_lt}
use Rattle.std.proofs.lemmas.List.{drop_all}
use Rattle.fol_base.specs.Tree.{Tree, variable, application, Trees, no_trees, tree_then, trees_of, tree_size, trees_size, tree_variables, trees_variables}
use Rattle.fol_base.specs.Instance.{Substitution, instance, instances}
use Rattle.fol_base.specs.Term.{tree_of}
use Rattle.fol_base.specs.declared.term.Term.{Term}
use Rattle.fol_base.specs.declared.term.Term.TheVariants.{Var, App}
use Rattle.fol_base.specs.Multiset.{times}
use Rattle.fol_base.proofs.AboutClauses.CountLemmas.{times-cons, times-append}
use Rattle.kbo_order.specs.Reading.{seen, seen_from}
use Rattle.kbo_order.proofs.AboutReading.BitLemmas.{bit-most}

-- what is bound already stands for itself
mutual
  pub instance-itself : (t : Tree) → instance variable t ≡ t
  instance-itself (variable v) = refl
  instance-itself (application f ts) = ap (application f) (instances-themselves ts)

  instances-themselves : (ts : Trees) → instances variable ts ≡ ts
  instances-themselves no_trees = refl
  instances-themselves (tree_then t ts) = ap₂ tree_then (instance-itself t) (instances-themselves ts)

-- ---- the head

pub seen-bound : (b : Bool) (σ : Substitution) (x : Term) (v : ℕ) → x ≡ Var v → b ≡ false → seen b σ (tree_of x) ≡ σ v
seen-bound b σ x v e d = ap (λ (c : Bool). seen c σ (tree_of x)) d ∙ ap (λ (y : Term). seen false σ (tree_of y)) e

pub seen-variable :
    (b : Bool) (σ : Substitution) (x : Term) (v : ℕ) → x ≡ Var v → ((w : ℕ) → x ≡ Var w → b ≡ true) → seen b σ (tree_of x) ≡ variable v
seen-variable b σ x v e followed =
    ap (λ (c : Bool). seen c σ (tree_of x)) (followed v e) ∙ ap (λ (y : Term). seen true σ (tree_of y)) e

pub seen-application :
    (b : Bool) (σ : Substitution) (x : Term) (f : ℕ) (ts : List Tree) (xs : List Term)
    → x ≡ App f ts → map tree_of xs ≡ ts → seen b σ (tree_of x) ≡ application f (seen_from b σ xs 0)
seen-application b σ x f ts xs e d =
    ap (λ (y : Term). seen b σ (tree_of y)) e ∙ ap (λ (us : List Tree). seen b σ (application f (trees_of us))) (sym d)

-- ---- the terms from an index on

pub seen-more :
    (b : Bool) (σ : Substitution) (xs : List Term) (i : ℕ) (x : Term)
    → i < length xs → x ≡ get_or xs i x → seen_from b σ xs i ≡ tree_then (seen b σ (tree_of x)) (seen_from b σ xs (i + 1))
seen-more b σ xs i x h e =
    ap (λ (ys : List Term). seen_from b σ ys 0) (drop-cons xs i x h)
    ∙ ap (λ (y : Term). tree_then (seen b σ (tree_of y)) (seen_from b σ xs (suc i))) (sym e)
    ∙ ap (λ (j : ℕ). tree_then (seen b σ (tree_of x)) (seen_from b σ xs j)) step
  where
    step : suc i ≡ i + 1
    step = omega arith

pub seen-all : (b : Bool) (σ : Substitution) (xs : List Term) (i : ℕ) → length xs ≤ i → seen_from b σ xs i ≡ no_trees
seen-all b σ xs i h = ap (λ (ys : List Term). seen_from b σ ys 0) (drop_all i xs h)

seen-none : (b : Bool) (σ : Substitution) (xs : List Term) (i : ℕ) → seen_from b σ xs i ≡ no_trees → length xs ≤ i
seen-none b σ [] i h = omega arith
seen-none b σ (x ∷ xs) zero h = absurd (cc)
seen-none b σ (x ∷ xs) (suc i) h = omega (arith, seen-none b σ xs i h)

-- at the end of the shorter of two lists of different lengths
pub seen-ended :
    (b c : Bool) (σ τ : Substitution) (xs ys : List Term) (i : ℕ)
    → min (length xs) (length ys) ≤ i → i ≤ length xs → i ≤ length ys → (length xs ≡ length ys → ⊥)
    → ((seen_from b σ xs i ≡ no_trees) ⊎ (seen_from c τ ys i ≡ no_trees)) × (seen_from b σ xs i ≡ seen_from c τ ys i → ⊥)
seen-ended b c σ τ xs ys i h left right differ =
    ⊎_elim
    (λ longer.
    let ended : seen_from c τ ys i ≡ no_trees = seen-all c τ ys i (omega arith) in
    (inr ended, λ e. differ (omega (arith, seen-none b σ xs i (e ∙ ended)))))
    (λ shorter.
    let ended : seen_from b σ xs i ≡ no_trees = seen-all b σ xs i (omega arith) in
    (inl ended, λ e. differ (omega (arith, seen-none c τ ys i (sym e ∙ ended)))))
    (cases_lt (length ys) (length xs))

pub seen-size :
    (b : Bool) (σ : Substitution) (xs : List Term) (i : ℕ) (x : Term)
    → i < length xs → x ≡ get_or xs i x
    → trees_size (seen_from b σ xs i) ≡ tree_size (seen b σ (tree_of x)) + trees_size (seen_from b σ xs (i + 1))
seen-size b σ xs i x h e = ap trees_size (seen-more b σ xs i x h e)

-- ---- a variable occurs at most as often as anything

mutual
  pub occurrences-within : (v : ℕ) (t : Tree) → times ◌==◌ v (tree_variables t) ≤ tree_size t
  occurrences-within v (variable w) = omega (arith, times-cons ◌==◌ v w [], bit-most (v == w))
  occurrences-within v (application f ts) = omega (arith, all_occurrences-within v ts)

  pub all_occurrences-within : (v : ℕ) (ts : Trees) → times ◌==◌ v (trees_variables ts) ≤ trees_size ts
  all_occurrences-within v no_trees = omega arith
  all_occurrences-within v (tree_then t ts) =
      omega (
        arith,
        occurrences-within v t,
        all_occurrences-within v ts,
        times-append ◌==◌ v (tree_variables t) (trees_variables ts),
      )
