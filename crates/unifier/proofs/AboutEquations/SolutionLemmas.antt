-- What the cells and places of a solution say, as a solved form.
use Rattle.std.proofs.Common.{◌≡◌, ℕ, Bool, ◌&&◌, ◌==◌, None, Some, List, [], ◌∷◌, map, refl, ap, sym, ◌∙◌, ⊎_elim, true, false}
use Rattle.std.specs.Prelude.{unwrap_or}
use Rattle.std.specs.List.{list_all}
use Rattle.std.proofs.lemmas.Bool.{and_parts, cond-true, cond-false, cases_Bool, eqb-true, true≢false}
use Rattle.fol_base.specs.Tree.{Tree, variable}
use Rattle.fol_base.specs.Instance.{Substitution, instance}
use Rattle.unifier.specs.declared.cells.Cell.{Cell}
use Rattle.unifier.specs.declared.cells.Cell.TheVariants.{Variable, Application, NoTrees, TreeThen}
use Rattle.unifier.specs.declared.layout.Place.{Place}
use Rattle.unifier.specs.declared.solution.Solution.{Solution}
use Rattle.unifier.specs.Cells.{Value, tree, as_tree, cell_at, value_of}
use Rattle.unifier.specs.SolvedForm.{joint}
use Rattle.unifier.specs.Matching.{by_pairs, term_for, variables_of}
use Rattle.unifier.specs.Layout.{cell_of, all_pass}
use Rattle.unifier.specs.Solution.{value_at, bound, joint_by, pair_at, solved_form, Meets}

-- ---- what stands for a variable

pub pairs-term :
    (cells : List Cell) (ps : List Place) (w : ℕ)
    → unwrap_or (term_for w (map (pair_at cells) ps)) (variable w) ≡ bound cells (cell_of w ps) w
pairs-term cells [] w = refl
pairs-term cells (p ∷ ps) w =
    let t : Tree = as_tree (value_at variable cells p.cell) in
    ⊎_elim
    (λ same.
    ap (λ o. unwrap_or o (variable w)) (cond-true (w == p.code) (Some t) (term_for w (map (pair_at cells) ps)) same)
    ∙ sym (ap (λ o. bound cells o w) (cond-true (w == p.code) (Some p.cell) (cell_of w ps) same)))
    (λ other.
    ap (λ o. unwrap_or o (variable w)) (cond-false (w == p.code) (Some t) (term_for w (map (pair_at cells) ps)) other)
    ∙ pairs-term cells ps w
    ∙ sym (ap (λ o. bound cells o w) (cond-false (w == p.code) (Some p.cell) (cell_of w ps) other)))
    (cases_Bool (w == p.code))

pub joint-is : (b : Solution) (w : ℕ) → joint (solved_form b) w ≡ joint_by b.cells.items b.places.items w
joint-is b w = pairs-term b.cells.items b.places.items w

pub joint-found :
    (b : Solution) (w k : ℕ) → cell_of w b.places.items ≡ Some k → joint (solved_form b) w ≡ as_tree (value_at variable b.cells.items k)
joint-found b w k found = joint-is b w ∙ ap (λ o. bound b.cells.items o w) found

pub joint-free : (b : Solution) (w : ℕ) → cell_of w b.places.items ≡ None → joint (solved_form b) w ≡ variable w
joint-free b w none = joint-is b w ∙ ap (λ o. bound b.cells.items o w) none

-- ---- its variables

pub variables-pass :
    (test : ℕ → Bool) (cells : List Cell) (ps : List Place) → list_all test (variables_of (map (pair_at cells) ps)) ≡ all_pass test ps
variables-pass test cells [] = refl
variables-pass test cells (p ∷ ps) = ap (λ b. test p.code && b) (variables-pass test cells ps)

-- one that fails a test that all pass stands for itself
pub unbound :
    (test : ℕ → Bool) (w : ℕ) (pairs : List (ℕ × Tree))
    → list_all test (variables_of pairs) ≡ true → test w ≡ false → by_pairs pairs w ≡ variable w
unbound test w [] all fails = refl
unbound test w (p ∷ ps) all fails =
    let both = and_parts (test p.0) (list_all test (variables_of ps)) all in
    ⊎_elim
    (λ same. absurd (true≢false (sym (ap test (eqb-true w p.0 same) ∙ both.0) ∙ fails)))
    (λ other.
    ap (λ o. unwrap_or o (variable w)) (cond-false (w == p.0) (Some p.1) (term_for w ps) other)
    ∙ unbound test w ps both.1 fails)
    (cases_Bool (w == p.0))

-- ---- equal substitutions

value-same : (σ τ : Substitution) (val : ℕ → Value) (c : Cell) → ((w : ℕ) → σ w ≡ τ w) → value_of σ val c ≡ value_of τ val c
value-same σ τ val (Variable w) h = ap tree (h w)
value-same σ τ val (Application f l) h = refl
value-same σ τ val NoTrees h = refl
value-same σ τ val (TreeThen a b) h = refl

pub meets-same :
    (cells : List Cell) (first second : ℕ) (σ τ : Substitution)
    → ((w : ℕ) → σ w ≡ τ w) → Meets cells first second σ → Meets cells first second τ
meets-same cells first second σ τ h m = record {
  val = m.val;
  valuation = λ i inside. m.valuation i inside ∙ value-same σ τ m.val (cell_at cells i) h;
  same = m.same;
  general = λ θ other made same w. m.general θ other made same w ∙ ap (instance θ) (h w);
}
