-- Proofs of the laws of instances.
use Rattle.std.proofs.Common.{◌≡◌, ℕ, ◌+◌, ◌<◌, Bool, ◌==◌, if◌then◌else◌, List, [], ◌∷◌, ◌++◌, refl, ap, ap₂, sym, ◌∙◌, arith, append-nil}
use Rattle.std.specs.Prelude.{flat_map, sum_by}
use Rattle.std.specs.List.{AllByRecursion}
use Rattle.std.proofs.lemmas.Grind.{flat_map-append}
use Rattle.std.proofs.lemmas.List.Sums.{sum_by-append, sum_by-cons}
use Rattle.std.proofs.lemmas.List.Elements.{recursion_from_All}
use Rattle.fol_base.specs.Tree.{Tree, variable, application, Trees, no_trees, tree_then, tree_size, trees_size, trees_count, tree_variables, trees_variables, AllVariablesBelow}
use Rattle.fol_base.specs.Instance.{Substitution, instance, instances}
use Rattle.fol_base.specs.Clause.{TreeLiteral, TreeClause, literal_instance, literal_size, literal_variables}
use Rattle.fol_base.specs.Ground.{literals_instance}
use Rattle.fol_base.specs.Multiset.{times}
use Rattle.fol_base.specs.InstanceLaws.{after, tree_symbols, trees_symbols, InstancesOfInstances, ClauseInstancesOfInstances, InstancesAgree, InstancesAgreeBelow, SizesOfInstances, SizesOfClauseInstances, VariablesOfInstances, OccurrencesInInstances}

-- ---- numbers of arguments

pub trees_count-instances : (σ : Substitution) (ts : Trees) → trees_count (instances σ ts) ≡ trees_count ts
trees_count-instances σ no_trees = refl
trees_count-instances σ (tree_then t ts) = omega (arith, trees_count-instances σ ts)

-- ---- one after another

mutual
  pub instances_of_instances : InstancesOfInstances
  instances_of_instances σ τ (variable v) = refl
  instances_of_instances σ τ (application f ts) = ap (application f) (instances_of_all_instances σ τ ts)

  instances_of_all_instances : (σ τ : Substitution) (ts : Trees) → instances σ (instances τ ts) ≡ instances (after σ τ) ts
  instances_of_all_instances σ τ no_trees = refl
  instances_of_all_instances σ τ (tree_then t ts) = ap₂ tree_then (instances_of_instances σ τ t) (instances_of_all_instances σ τ ts)

abbrev literal : Bool → Tree → Tree → TreeLiteral
literal positive t u = record { positive = positive; left = t; right = u }

pub literals_instance-again :
    (σ τ : Substitution) (ls : List TreeLiteral) → literals_instance σ (literals_instance τ ls) ≡ literals_instance (after σ τ) ls
literals_instance-again σ τ [] = refl
literals_instance-again σ τ (l ∷ ls) =
    ap₂ ◌∷◌
    (ap₂ (literal l.positive) (instances_of_instances σ τ l.left) (instances_of_instances σ τ l.right))
    (literals_instance-again σ τ ls)

pub clause_instances_of_instances : ClauseInstancesOfInstances
clause_instances_of_instances σ τ c =
    ap (λ (ls : List TreeLiteral). let d : TreeClause = record { literals = ls; names = c.names } in d) (literals_instance-again σ τ c.literals)

-- ---- agreement on the variables

front : {X : Type 0} (P : X → Type 0) (xs ys : List X) → AllByRecursion P (xs ++ ys) → AllByRecursion P xs
front P [] ys h = tt
front P (x ∷ xs) ys h = (h.0, front P xs ys h.1)

back : {X : Type 0} (P : X → Type 0) (xs ys : List X) → AllByRecursion P (xs ++ ys) → AllByRecursion P ys
back P [] ys h = h
back P (x ∷ xs) ys h = back P xs ys h.1

abbrev pub Agree : Substitution → Substitution → List ℕ → Type 0
Agree σ τ vs = AllByRecursion (λ v. σ v ≡ τ v) vs

mutual
  pub instance-agree : (σ τ : Substitution) (t : Tree) → Agree σ τ (tree_variables t) → instance σ t ≡ instance τ t
  instance-agree σ τ (variable v) h = h.0
  instance-agree σ τ (application f ts) h = ap (application f) (instances-agree σ τ ts h)

  instances-agree : (σ τ : Substitution) (ts : Trees) → Agree σ τ (trees_variables ts) → instances σ ts ≡ instances τ ts
  instances-agree σ τ no_trees h = refl
  instances-agree σ τ (tree_then t ts) h =
      ap₂ tree_then
      (instance-agree σ τ t (front (λ v. σ v ≡ τ v) (tree_variables t) (trees_variables ts) h))
      (instances-agree σ τ ts (back (λ v. σ v ≡ τ v) (tree_variables t) (trees_variables ts) h))

pub instances_agree : InstancesAgree
instances_agree σ τ t h = instance-agree σ τ t (recursion_from_All (λ v. σ v ≡ τ v) (tree_variables t) h)

mutual
  pub instances_agree_below : InstancesAgreeBelow
  instances_agree_below n σ τ (variable v) h e = e v h
  instances_agree_below n σ τ (application f ts) h e = ap (application f) (all_instances_agree_below n σ τ ts h e)

  all_instances_agree_below :
      (n : ℕ) (σ τ : Substitution) (ts : Trees)
      → AllVariablesBelow n ts → ((v : ℕ) → v < n → σ v ≡ τ v) → instances σ ts ≡ instances τ ts
  all_instances_agree_below n σ τ no_trees h e = refl
  all_instances_agree_below n σ τ (tree_then t ts) h e =
      ap₂ tree_then (instances_agree_below n σ τ t h.0 e) (all_instances_agree_below n σ τ ts h.1 e)

pub literals-agree :
    (σ τ : Substitution) (ls : List TreeLiteral)
    → Agree σ τ (flat_map literal_variables ls) → literals_instance σ ls ≡ literals_instance τ ls
literals-agree σ τ [] h = refl
literals-agree σ τ (l ∷ ls) h =
    let P : ℕ → Type 0 = λ v. σ v ≡ τ v in
    let here : Agree σ τ (literal_variables l) = front P (literal_variables l) (flat_map literal_variables ls) h in
    ap₂ ◌∷◌
    (ap₂ (literal l.positive)
    (instance-agree σ τ l.left (front P (tree_variables l.left) (tree_variables l.right) here))
    (instance-agree σ τ l.right (back P (tree_variables l.left) (tree_variables l.right) here)))
    (literals-agree σ τ ls (back P (literal_variables l) (flat_map literal_variables ls) h))

-- ---- sizes

mutual
  pub sizes_of_instances : SizesOfInstances
  sizes_of_instances σ (variable v) = omega (arith, sum_by-cons (λ w. tree_size (σ w)) v [])
  sizes_of_instances σ (application f ts) = omega (arith, sizes_of_all_instances σ ts)

  sizes_of_all_instances :
      (σ : Substitution) (ts : Trees)
      → trees_size (instances σ ts) ≡ trees_symbols ts + sum_by (λ v. tree_size (σ v)) (trees_variables ts)
  sizes_of_all_instances σ no_trees = refl
  sizes_of_all_instances σ (tree_then t ts) =
      omega (
        arith,
        sizes_of_instances σ t,
        sizes_of_all_instances σ ts,
        sum_by-append (λ v. tree_size (σ v)) (tree_variables t) (trees_variables ts),
      )

pub sizes_of_clause_instances : SizesOfClauseInstances
sizes_of_clause_instances σ c = sizes σ c.literals
  where
    sizes :
        (σ : Substitution) (ls : List TreeLiteral)
        → sum_by literal_size (literals_instance σ ls)
        ≡ sum_by (λ l. tree_symbols l.left + tree_symbols l.right) ls + sum_by (λ v. tree_size (σ v)) (flat_map literal_variables ls)
    sizes σ [] = refl
    sizes σ (l ∷ ls) =
        omega (
          arith,
          sizes σ ls,
          sizes_of_instances σ l.left,
          sizes_of_instances σ l.right,
          sum_by-cons literal_size (literal_instance σ l) (literals_instance σ ls),
          sum_by-cons (λ m. tree_symbols m.left + tree_symbols m.right) l ls,
          sum_by-append (λ v. tree_size (σ v)) (tree_variables l.left) (tree_variables l.right),
          sum_by-append (λ v. tree_size (σ v)) (literal_variables l) (flat_map literal_variables ls),
        )

-- ---- variables and their counts

mutual
  pub variables_of_instances : VariablesOfInstances
  variables_of_instances σ (variable v) = sym (append-nil (tree_variables (σ v)))
  variables_of_instances σ (application f ts) = variables_of_all_instances σ ts

  variables_of_all_instances :
      (σ : Substitution) (ts : Trees)
      → trees_variables (instances σ ts) ≡ flat_map (λ v. tree_variables (σ v)) (trees_variables ts)
  variables_of_all_instances σ no_trees = refl
  variables_of_all_instances σ (tree_then t ts) =
      ap₂ ◌++◌ (variables_of_instances σ t) (variables_of_all_instances σ ts)
      ∙ sym (flat_map-append (λ v. tree_variables (σ v)) (tree_variables t) (trees_variables ts))

times-flat_map :
    (v : ℕ) (h : ℕ → List ℕ) (ws : List ℕ) → times ◌==◌ v (flat_map h ws) ≡ sum_by (λ w. times ◌==◌ v (h w)) ws
times-flat_map v h [] = refl
times-flat_map v h (w ∷ ws) =
    omega (
      arith,
      times-flat_map v h ws,
      sum_by-cons (λ u. times ◌==◌ v (h u)) w ws,
      sum_by-append (λ u. if v == u then 1 else 0) (h w) (flat_map h ws),
    )

pub occurrences_in_instances : OccurrencesInInstances
occurrences_in_instances σ t v =
    ap (times ◌==◌ v) (variables_of_instances σ t) ∙ times-flat_map v (λ w. tree_variables (σ w)) (tree_variables t)
