-- In the interpretation of a congruence each literal has the truth of its name.
use mathlib.Core.Bool.{beq}
use Rattle.std.proofs.Common.{◌≡◌, ℕ, ◌<◌, ◌==◌, Bool, true, false, not, ◌&&◌, ◌||◌, List, [], ◌∷◌, length, map, if◌then◌else◌, ⊎_elim, refl, sym, ap, ap₂, subst, ◌∙◌, arith}
use Rattle.std.proofs.lemmas.Bool.{and_parts, eq-eqb, not-true}
use Rattle.list_lemmas.proofs.Bools.{or-either}
use Rattle.fol_base.specs.Tree.{Tree, variable, application, Trees, no_trees, tree_then, true_symbol, true_tree, is_truth}
use Rattle.fol_base.specs.Clause.{TreeLiteral}
use Rattle.fol_base.specs.Interpretation.{Interpretation, symbol_value, table_value, tree_value, trees_values, no_values, literal_true as literal_holds}
use Rattle.fol_base.specs.Kind.{is_function_term, are_function_terms, is_predicate_term, is_literal}
use Rattle.fol_base.proofs.AboutTerms.TreeLemmas.{tree_eq-true}
use Rattle.plain_types.specs.declared.sequence.NameLit.{NameLit}
use Rattle.sat_core.specs.Clause.{literal_true}
use Rattle.congruence.specs.declared.node.Node.{Node}
use Rattle.congruence.specs.declared.node.Equation.{Equation}
use Rattle.congruence.specs.Congruence.{Numbering, node_at, equation_at, signature, IsCongruence}
use Rattle.congruence.specs.Models.{values_by}
use Rattle.herbrand_list.specs.Nodes.{Stands, AllStand, AreTermNodes, IsNameOf}
use Rattle.herbrand_list.proofs.AboutRefuting.ValueLemmas.{sign-applied}
use Rattle.herbrand_list.proofs.AboutRefuting.TableLemmas.{value_under, rows_for, table_for, table-has}

-- the value of a symbol that isn't `$true` at the classes of a node's arguments
symbol-at :
    (is_predicate : ℕ → Bool) (nodes : List Node) (class : Numbering) (n f : ℕ) (values : List ℕ) → IsCongruence nodes class
    → n < length nodes → (node_at nodes n).symbol ≡ f → map class (node_at nodes n).arguments ≡ values → (f == true_symbol) ≡ false
    → symbol_value (table_for is_predicate nodes class) f values ≡ value_under is_predicate class f n
symbol-at is_predicate nodes class n f values congruent low head arguments other =
    ap (λ b. if b then 1 else table_value (rows_for is_predicate nodes class (length nodes)) f values) other
    ∙ ap₂ (table_value (rows_for is_predicate nodes class (length nodes))) (sym head) (sym arguments)
    ∙ table-has is_predicate nodes class n (length nodes) congruent low low (omega arith)
    ∙ ap (λ g. value_under is_predicate class g n) head

mutual
  function-value :
      (is_predicate : ℕ → Bool) (nodes : List Node) (class : Numbering) (n : ℕ) (t : Tree) → IsCongruence nodes class → Stands nodes n t
      → is_function_term is_predicate t ≡ true → tree_value (table_for is_predicate nodes class) no_values t ≡ class n
  function-value is_predicate nodes class n (variable v) congruent stands kind = absurd stands
  function-value is_predicate nodes class n (application f ts) congruent stands kind =
      let first = and_parts (not (f == true_symbol)) (not (is_predicate f) && are_function_terms is_predicate ts) kind in
      let second = and_parts (not (is_predicate f)) (are_function_terms is_predicate ts) first.1 in
      symbol-at is_predicate nodes class n f (trees_values (table_for is_predicate nodes class) no_values ts) congruent stands.0 stands.1
      (sym (function-values is_predicate nodes class (node_at nodes n).arguments ts congruent stands.2 second.1)) (not-true (f == true_symbol) first.0)
      ∙ ap₂ (λ (p q : Bool). if p || q then (if class n == class 0 then 1 else 0) else class n) (not-true (is_predicate f) second.0)
      (not-true (f == true_symbol) first.0)

  function-values :
      (is_predicate : ℕ → Bool) (nodes : List Node) (class : Numbering) (ns : List ℕ) (ts : Trees) → IsCongruence nodes class → AllStand nodes ns ts
      → are_function_terms is_predicate ts ≡ true → trees_values (table_for is_predicate nodes class) no_values ts ≡ map class ns
  function-values is_predicate nodes class [] no_trees congruent stand kind = refl
  function-values is_predicate nodes class [] (tree_then t ts) congruent stand kind = absurd stand
  function-values is_predicate nodes class (n ∷ ns) no_trees congruent stand kind = absurd stand
  function-values is_predicate nodes class (n ∷ ns) (tree_then t ts) congruent stand kind =
      let parts = and_parts (is_function_term is_predicate t) (are_function_terms is_predicate ts) kind in
      ap₂ (λ k ks. k ∷ ks) (function-value is_predicate nodes class n t congruent stand.0 parts.0)
      (function-values is_predicate nodes class ns ts congruent stand.1 parts.1)

predicate-value :
    (is_predicate : ℕ → Bool) (nodes : List Node) (class : Numbering) (n : ℕ) (t : Tree) → IsCongruence nodes class → Stands nodes n t
    → is_predicate_term is_predicate t ≡ true
    → tree_value (table_for is_predicate nodes class) no_values t ≡ (if class n == class 0 then 1 else 0)
predicate-value is_predicate nodes class n (variable v) congruent stands kind = absurd stands
predicate-value is_predicate nodes class n (application f ts) congruent stands kind =
    let first = and_parts (not (f == true_symbol)) (is_predicate f && are_function_terms is_predicate ts) kind in
    let second = and_parts (is_predicate f) (are_function_terms is_predicate ts) first.1 in
    symbol-at is_predicate nodes class n f (trees_values (table_for is_predicate nodes class) no_values ts) congruent stands.0 stands.1
    (sym (function-values is_predicate nodes class (node_at nodes n).arguments ts congruent stands.2 second.1)) (not-true (f == true_symbol) first.0)
    ∙ ap (λ (p : Bool). if p || (f == true_symbol) then (if class n == class 0 then 1 else 0) else class n) second.0

-- ---- `$true`

truth-class :
    (nodes : List Node) (class : Numbering) (n : ℕ) → IsCongruence nodes class → AreTermNodes nodes → Stands nodes n true_tree → class n ≡ class 0
truth-class nodes class n congruent are stands =
    congruent n 0 stands.0 are.some
    (ap₂ (λ k ks. k ∷ ks) stands.1 (ap (map class) (none (node_at nodes n).arguments stands.2))
    ∙ sym (ap (signature class) are.truth))
  where
    none : (ns : List ℕ) → AllStand nodes ns no_trees → ns ≡ []
    none [] h = refl
    none (m ∷ ns) h = absurd h

bit-one : (b : Bool) → ((if b then 1 else 0) == 1) ≡ b
bit-one true = refl
bit-one false = refl

-- ---- literals

equal-sides :
    (is_predicate : ℕ → Bool) (nodes : List Node) (class : Numbering) (m n : ℕ) (l : TreeLiteral) → IsCongruence nodes class → AreTermNodes nodes
    → Stands nodes m l.left → Stands nodes n l.right → is_literal is_predicate l ≡ true
    → (tree_value (table_for is_predicate nodes class) no_values l.left == tree_value (table_for is_predicate nodes class) no_values l.right)
    ≡ (class m == class n)
equal-sides is_predicate nodes class m n l congruent are left right kind =
    ⊎_elim by_functions by_atom
    (or-either (is_function_term is_predicate l.left && is_function_term is_predicate l.right)
    ((is_predicate_term is_predicate l.left || is_truth l.left) && is_truth l.right) kind)
  where
    i : Interpretation
    i = table_for is_predicate nodes class

    by_functions :
        (is_function_term is_predicate l.left && is_function_term is_predicate l.right) ≡ true
        → (tree_value i no_values l.left == tree_value i no_values l.right) ≡ (class m == class n)
    by_functions h =
        let parts = and_parts (is_function_term is_predicate l.left) (is_function_term is_predicate l.right) h in
        ap₂ (λ (v w : ℕ). v == w) (function-value is_predicate nodes class m l.left congruent left parts.0)
        (function-value is_predicate nodes class n l.right congruent right parts.1)

    truth : is_truth l.right ≡ true → l.right ≡ true_tree
    truth k = tree_eq-true l.right true_tree k

    one : is_truth l.right ≡ true → tree_value i no_values l.right ≡ 1
    one k = ap (tree_value i no_values) (truth k)

    same : is_truth l.right ≡ true → class n ≡ class 0
    same k = truth-class nodes class n congruent are (subst (Stands nodes n) (truth k) right)

    holds :
        is_truth l.right ≡ true → is_predicate_term is_predicate l.left ≡ true
        → (tree_value i no_values l.left == tree_value i no_values l.right) ≡ (class m == class n)
    holds k p =
        ap₂ (λ (v w : ℕ). v == w) (predicate-value is_predicate nodes class m l.left congruent left p) (one k)
        ∙ bit-one (class m == class 0) ∙ ap (λ c. class m == c) (sym (same k))

    always :
        is_truth l.right ≡ true → is_truth l.left ≡ true
        → (tree_value i no_values l.left == tree_value i no_values l.right) ≡ (class m == class n)
    always k p =
        let is : l.left ≡ true_tree = tree_eq-true l.left true_tree p in
        ap₂ (λ (v w : ℕ). v == w) (ap (tree_value i no_values) is) (one k)
        ∙ sym (eq-eqb (class m) (class n) (truth-class nodes class m congruent are (subst (Stands nodes m) is left) ∙ sym (same k)))

    by_atom :
        ((is_predicate_term is_predicate l.left || is_truth l.left) && is_truth l.right) ≡ true
        → (tree_value i no_values l.left == tree_value i no_values l.right) ≡ (class m == class n)
    by_atom h =
        let parts = and_parts (is_predicate_term is_predicate l.left || is_truth l.left) (is_truth l.right) h in
        ⊎_elim (holds parts.1) (always parts.1) (or-either (is_predicate_term is_predicate l.left) (is_truth l.left) parts.0)

pub name-kept :
    (is_predicate : ℕ → Bool) (nodes : List Node) (atoms : List Equation) (class : Numbering) (l : TreeLiteral) (name : NameLit)
    → IsCongruence nodes class → AreTermNodes nodes → IsNameOf nodes atoms l name → is_literal is_predicate l ≡ true
    → literal_holds (table_for is_predicate nodes class) l ≡ literal_true (values_by class atoms) name
name-kept is_predicate nodes atoms class l name congruent are is kind =
    ap (λ b. if l.positive then b else not b)
    (equal-sides is_predicate nodes class (equation_at atoms name.name).left (equation_at atoms name.name).right l congruent are is.left is.right kind)
    ∙ sym (sign-applied (values_by class atoms name.name) l.positive)
    ∙ ap (beq (values_by class atoms name.name)) (sym is.sign)
