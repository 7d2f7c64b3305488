-- Literals that a unit cuts: what a search finds, and the lines of a cut.
use Rattle.std.specs.Prelude.{◌≡◌, ℕ, Bool, true, false, not, ◌&&◌, List, [], ◌∷◌, flat_map, slice_get, slice_set, remove, Option, None, Some, IsTrue, if◌then◌else◌}
use Rattle.fol_base.specs.Tree.{Tree, is_truth}
use Rattle.fol_base.specs.Instance.{Substitution}
use Rattle.fol_base.specs.Clause.{TreeLiteral, TreeClause, LiteralVariablesBelow, clause_variables, literal_instance, literal_variables}
use Rattle.fol_base.specs.Canonical.{bound_of, terms_from}
use Rattle.fol_base.specs.Kind.{is_literal, PutsFunctionTerms}
use Rattle.fol_base.specs.Numbering.{with_variables}
use Rattle.fol_base.specs.Order.{equivalent_literals}
use Rattle.fol_base.specs.Rules.{disequation}
use Rattle.fol_base.specs.Sides.{exchanged, other_side_of}
use Rattle.fol_base.specs.declared.clause.Side.{Side}
use Rattle.fol_base.specs.declared.clause.Side.TheVariants.{Left, Right}
use Rattle.kernel_steps.specs.declared.step.Line.{Line}
use Rattle.unifier.specs.Laws.{AreFunctionPairs}
use Rattle.unifier.specs.Matching.{are_below, by_pairs, HasPairs}
use Rattle.subsume.specs.Kinds.{TurnsInto, are_alike}
use Rattle.kernel_steps.specs.Lines.{own_terms}
use Rattle.unit_cutting.specs.Superposing.{IsSuperposed}
use Rattle.unit_cutting.specs.declared.cutting.Cut.{Cut}
use Rattle.unit_cutting.specs.declared.matching.Fitting.{Fitting}

-- ---- the search

-- whether a literal comes into question as an instance of another one, which is wanted: the two are alike, and it is no equation of `$true`
-- with itself
abbrev pub may_fit : TreeLiteral → TreeLiteral → Bool
may_fit wanted l = are_alike wanted l && not (is_truth l.left && is_truth l.right)

-- with the sides exchanged, or as they stand
abbrev pub turned : Bool → TreeLiteral → TreeLiteral
turned crossed l = if crossed then exchanged l else l

-- pairs of a matcher that turns the wanted literal into another one, whose sides stand exchanged or as they are
pub record IsFitting (wanted l : TreeLiteral) (f : Fitting) : Type 0 where
  pub may : may_fit wanted l ≡ true
  pub turns : TurnsInto (by_pairs f.terms) wanted (turned f.crossed l)
  pub exact : (σ : Substitution) → TurnsInto σ wanted (turned f.crossed l) → HasPairs f.terms σ
  pub below : (count : ℕ) → LiteralVariablesBelow count wanted → are_below count f.terms ≡ true
  pub function_terms :
      (is_predicate : ℕ → Bool) → IsTrue (is_literal is_predicate wanted) → IsTrue (is_literal is_predicate l)
      → AreFunctionPairs is_predicate f.terms

-- no substitution by function terms does
abbrev pub FitsNot : TreeLiteral → TreeLiteral → Type 0
FitsNot wanted l =
    (is_predicate : ℕ → Bool) → IsTrue (is_literal is_predicate wanted) → IsTrue (is_literal is_predicate l)
    → (σ : Substitution) → PutsFunctionTerms is_predicate σ → IsTrue (equivalent_literals (literal_instance σ wanted) l)
    → (is_truth l.left && is_truth l.right) ≡ false → ⊥

abbrev pub IsFittingOrNone : TreeLiteral → TreeLiteral → Option Fitting → Type 0
IsFittingOrNone wanted l None = FitsNot wanted l
IsFittingOrNone wanted l (Some f) = IsFitting wanted l f

-- a literal of a list that fits, or none does
pub record IsCut (wanted : TreeLiteral) (ls : List TreeLiteral) (cut : Cut) : Type 0 where
  pub literal : TreeLiteral
  pub there : slice_get ls cut.index ≡ Some literal
  pub fits : IsFitting wanted literal cut.fitting

abbrev pub IsCutOrNone : TreeLiteral → List TreeLiteral → Option Cut → Type 0
IsCutOrNone wanted ls None = (j : ℕ) (l : TreeLiteral) → slice_get ls j ≡ Some l → FitsNot wanted l
IsCutOrNone wanted ls (Some cut) = IsCut wanted ls cut

-- ---- the lines

-- a side that isn't `$true`, of a literal that has one
abbrev pub open_side : TreeLiteral → Side
open_side l = if is_truth l.left then Right else Left

abbrev pub opposite_side : Side → Side
opposite_side Left = Right
opposite_side Right = Left

-- the side of the wanted literal that becomes a side of the literal that fits
abbrev pub fitting_side : Bool → Side → Side
fitting_side crossed s = if crossed then opposite_side s else s

-- what the unit's variables become
abbrev pub unit_terms : TreeClause → List (ℕ × Tree) → List Tree
unit_terms unit pairs = terms_from 0 (bound_of (clause_variables unit)) (by_pairs pairs)

-- The literals after the superposition: the literal that is cut became one without solution, in its place or, where it is positive, at the
-- unit's place before the others.
abbrev pub unsolvable : Tree → TreeLiteral
unsolvable t = disequation t t

abbrev pub before_last : Bool → List TreeLiteral → ℕ → Tree → List TreeLiteral
before_last true ls j t = unsolvable t ∷ remove ls j
before_last false ls j t = slice_set ls j (unsolvable t)

abbrev pub last_index : Bool → ℕ → ℕ
last_index true j = 0
last_index false j = j

-- the first line of a cut: the unit has the first number, the clause the second
abbrev pub IsFirstLine : Bool → TreeClause → ℕ → TreeClause → ℕ → TreeLiteral → Cut → Line → Type 0
IsFirstLine true unit unit_number c number l cut line =
    IsSuperposed c.literals (own_terms c) cut.index (open_side l) number
    unit.literals (unit_terms unit cut.fitting.terms) 0 (fitting_side cut.fitting.crossed (open_side l)) unit_number
    (with_variables [] (flat_map literal_variables (before_last true c.literals cut.index (other_side_of (open_side l) l)))) line
IsFirstLine false unit unit_number c number l cut line =
    IsSuperposed unit.literals (unit_terms unit cut.fitting.terms) 0 (fitting_side cut.fitting.crossed (open_side l)) unit_number
    c.literals (own_terms c) cut.index (open_side l) number
    (with_variables [] (flat_map literal_variables (before_last false c.literals cut.index (other_side_of (open_side l) l)))) line
