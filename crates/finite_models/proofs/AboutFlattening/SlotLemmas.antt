-- Slots and the values in them; entries that agree with an interpretation.
use Rattle.std.proofs.Common.{◌≡◌, ℕ, zero, suc, ◌+◌, ◌<◌, ◌≤◌, ◌==◌, Bool, true, false, not, ◌&&◌, List, [], ◌∷◌, length, map, refl, sym, ◌∙◌, arith}
use mathlib.Core.Bool.{beq}
use Rattle.std.specs.List.{AllByRecursion}
use Rattle.std.proofs.lemmas.Bool.{and_parts, true≢false, cond-true}
use Rattle.fol_base.specs.Tree.{Tree, variable, application, Trees, no_trees, tree_then, trees_count, is_truth}
use Rattle.fol_base.specs.Interpretation.{Interpretation, table_value, Assignment, tree_value, sides_true}
use Rattle.finite_models.specs.Measure.{occurrences}
use Rattle.finite_models.specs.Flattening.{value_in, terms_slots}

pub value-below :
    (size : ℕ) (values : List ℕ) (slot : ℕ) → 1 ≤ size → AllByRecursion (λ v. v < size) values → value_in values slot < size
value-below size [] slot p h = omega (arith, p)
value-below size (v ∷ values) zero p h = h.0
value-below size (v ∷ values) (suc slot) p h = value-below size values slot p h.1

pub values-below :
    (size : ℕ) (values slots : List ℕ)
    → 1 ≤ size → AllByRecursion (λ v. v < size) values → AllByRecursion (λ v. v < size) (map (value_in values) slots)
values-below size values [] p h = tt
values-below size values (slot ∷ slots) p h = (value-below size values slot p h, values-below size values slots p h)

pub length-slots : (values : List ℕ) (first : ℕ) (ts : Trees) → length (map (value_in values) (terms_slots first ts)) ≡ trees_count ts
length-slots values first no_trees = refl
length-slots values first (tree_then t ts) = omega (arith, length-slots values (first + occurrences t) ts)

-- `$true` has the value 1
pub truth-value : (i : Interpretation) (ρ : Assignment) (t : Tree) → is_truth t ≡ true → tree_value i ρ t ≡ 1
truth-value i ρ (variable v) h = absurd (true≢false (sym h))
truth-value i ρ (application f (tree_then t ts)) h = absurd (true≢false (sym h ∙ no (f == 0)))
  where
    no : (b : Bool) → (b && false) ≡ false
    no true = refl
    no false = refl
truth-value i ρ (application f no_trees) h =
    cond-true (f == 0) 1 (table_value i.rows f []) ((and_parts (f == 0) true h).0)

-- a sign and a test of two values
pub sign-of-test : (positive : Bool) (v w : ℕ) → beq (v == w) positive ≡ sides_true positive v w
sign-of-test true v w = by (v == w)
  where
    by : (b : Bool) → beq b true ≡ b
    by true = refl
    by false = refl
sign-of-test false v w = by (v == w)
  where
    by : (b : Bool) → beq b false ≡ not b
    by true = refl
    by false = refl
