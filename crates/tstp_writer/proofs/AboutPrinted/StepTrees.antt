-- What is written for a line, by its clause and its step.
use Rattle.std.proofs.Common.{◌≡◌, ℕ, true, List, Option, Some, refl}
use Rattle.std.specs.Prelude.{if◌then◌else◌}
use Rattle.std.proofs.lemmas.Bool.{false≢true}
use Rattle.fol_base.specs.Clause.{TreeClause}
use Rattle.kernel_steps.specs.Derivation.{is_clause_step}
use Rattle.kernel_steps.specs.declared.step.Step.{Step}
use Rattle.kernel_steps.specs.declared.step.Step.TheVariants.{Input, Negate, Clausify, Para, Refl, Factor, Merge, Component, Opposite, Split, Chain}
use Rattle.clausal_form.specs.DerivationLine.{LineTree}
use Rattle.tstp_writer.specs.LineTrees.{Script, Layout, clause_tree, step_source, formula_tree}

abbrev pub line_tree_by : Script → Layout → List ℕ → TreeClause → Step → Option LineTree
line_tree_by script layout name c step =
    if is_clause_step step then Some (clause_tree script name c (step_source script layout step)) else formula_tree script layout name step

-- of a clause line it is that clause
pub tree-is :
    (script : Script) (layout : Layout) (name : List ℕ) (c : TreeClause) (step : Step) → is_clause_step step ≡ true
    → line_tree_by script layout name c step ≡ Some (clause_tree script name c (step_source script layout step))
tree-is script layout name c (Input place) h = absurd (false≢true h)
tree-is script layout name c (Negate place) h = absurd (false≢true h)
tree-is script layout name c (Clausify i) h = refl
tree-is script layout name c (Para first second from from_side into into_side place first_bind second_bind) h = refl
tree-is script layout name c (Refl parent literal bind) h = refl
tree-is script layout name c (Factor parent becomes becomes_side other other_side bind) h = refl
tree-is script layout name c (Merge parent stays goes bind) h = refl
tree-is script layout name c (Component n) h = refl
tree-is script layout name c (Opposite n) h = refl
tree-is script layout name c (Split parent definitions parts) h = refl
tree-is script layout name c (Chain numbers pivots) h = refl
