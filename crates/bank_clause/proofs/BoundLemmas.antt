-- A canonical clause has at most as many variables as symbols and variables stand in it.
use Rattle.std.proofs.Common.{◌≡◌, ℕ, zero, suc, ◌+◌, ◌≤◌, ◌==◌, not, Bool, true, false, List, [], ◌∷◌, length, if◌then◌else◌, ap, sym, ◌∙◌, arith}
use Rattle.std.specs.Prelude.{flat_map, filter, sum_by}
use Rattle.std.proofs.lemmas.List.{length-append}
use Rattle.std.proofs.lemmas.List.Sums.{sum_by-cons}
use Rattle.fol_base.specs.Tree.{Tree, variable, application, Trees, no_trees, tree_then, tree_size, trees_size, tree_variables, trees_variables}
use Rattle.fol_base.specs.Clause.{TreeLiteral, TreeClause, literal_size, literal_variables, clause_size, clause_variables}
use Rattle.fol_base.specs.Canonical.{distinct, numbers_from, bound_of, IsCanonical}
use Rattle.fol_base.proofs.AboutCanonical.NumberingLemmas.{bound_of-distinct}

mutual
  tree-few : (t : Tree) → length (tree_variables t) ≤ tree_size t
  tree-few (variable v) = omega arith
  tree-few (application f ts) = (let some = trees-few ts in omega arith)

  trees-few : (ts : Trees) → length (trees_variables ts) ≤ trees_size ts
  trees-few no_trees = omega arith
  trees-few (tree_then t ts) =
      let joined = length-append (tree_variables t) (trees_variables ts) in
      let one = tree-few t in
      let others = trees-few ts in omega arith

literals-few : (ls : List TreeLiteral) → length (flat_map literal_variables ls) ≤ sum_by literal_size ls
literals-few [] = omega arith
literals-few (l ∷ ls) =
    let joined = length-append (literal_variables l) (flat_map literal_variables ls) in
    let sides = length-append (tree_variables l.left) (tree_variables l.right) in
    let left = tree-few l.left in
    let right = tree-few l.right in
    let rest = literals-few ls in
    let sizes = sum_by-cons literal_size l ls in omega arith

filter-few : (test : ℕ → Bool) (vs : List ℕ) → length (filter test vs) ≤ length vs
filter-few test [] = omega arith
filter-few test (v ∷ vs) = by (test v) (filter-few test vs)
  where
    by : (b : Bool) → length (filter test vs) ≤ length vs → length (if b then v ∷ filter test vs else filter test vs) ≤ suc (length vs)
    by true rest = omega arith
    by false rest = omega arith

distinct-few : (vs : List ℕ) → length (distinct vs) ≤ length vs
distinct-few [] = omega arith
distinct-few (v ∷ vs) =
    let kept = filter-few (λ w. not (w == v)) (distinct vs) in
    let rest = distinct-few vs in omega arith

numbers-below : (first n : ℕ) → bound_of (numbers_from first n) ≤ first + n
numbers-below first zero = omega arith
numbers-below first (suc n) = (let rest = numbers-below (suc first) n in omega arith)

pub few-variables : (c : TreeClause) → IsCanonical c → bound_of (clause_variables c) ≤ clause_size c
few-variables c canonical =
    let order : List ℕ = distinct (clause_variables c) in
    let bound : bound_of (clause_variables c) ≡ bound_of (numbers_from 0 (length order)) =
    sym (bound_of-distinct (clause_variables c)) ∙ ap bound_of canonical in
    let numbers = numbers-below 0 (length order) in
    let some = distinct-few (clause_variables c) in
    let all = literals-few c.literals in omega arith
