-- Cuts of a member's clause: what the calls answer.
use Rattle.std.specs.Prelude.{◌≡◌, ℕ, ◌+◌, ◌<◌, ◌≤◌, Bool, true, false, List, [], ◌∷◌, flat_map, slice_get, Option, None, Some}
use Rattle.fol_base.specs.Tree.{Tree}
use Rattle.fol_base.specs.Clause.{TreeLiteral, TreeClause, literal_variables}
use Rattle.fol_base.specs.Canonical.{canonical_clause}
use Rattle.fol_base.specs.Literal.{clause_of}
use Rattle.fol_base.specs.WellFormed.{SymbolUse}
use Rattle.kernel_steps.specs.Derivation.{complement}
use Rattle.kernel_steps.specs.Inference.{CutsBy}
use Rattle.kernel_steps.specs.Names.{sorted_names}
use Rattle.kernel_steps.specs.declared.step.TheConstants.{CLAUSE_NUMBERS}
use Rattle.kernel_steps.specs.declared.step.Line.{Line}
use Rattle.kernel_steps.specs.declared.step.Reduced.{Reduced}
use Rattle.kernel_steps.specs.declared.step.Step.TheVariants.{Refl}
use Rattle.bank_clause.specs.Clause.{clause_at}
use Rattle.bank_clause.specs.declared.member.Member.{Member}
use Rattle.subsume.specs.Target.{AreOfUse}
use Rattle.reduced_clause.specs.Reduced.{IsReduced}
use Rattle.reduced_clause.specs.Extending.{AreLinesOfMove, GoesOn}
use Rattle.unit_cutting.specs.Cutting.{IsCut, IsCutOrNone, IsFirstLine, before_last, last_index}
use Rattle.unit_cutting.specs.Fit.{IsFit, LosesLiteral}
use Rattle.unit_cutting.specs.Removing.{IsOwnStep}
use Rattle.unit_cutting.specs.declared.cutting.Cut.{Cut}
use Rattle.unit_cutting.specs.declared.cut_lines.CutLines.{CutLines}
use Rattle.fol_base.specs.Rules.{resolved}

-- ---- the lines

-- the clause is one literal, and a literal of a list fits its complement
pub record IsCutOf (unit : TreeClause) (ls : List TreeLiteral) (cut : Cut) : Type 0 where
  pub literal : TreeLiteral
  pub is_unit : unit.literals ≡ literal ∷ []
  pub cuts : IsCut (complement literal) ls cut

-- or none does
abbrev pub IsCutOfOrNone : TreeClause → List TreeLiteral → Option Cut → Type 0
IsCutOfOrNone unit ls None = (u : TreeLiteral) → unit.literals ≡ u ∷ [] → IsCutOrNone (complement u) ls None
IsCutOfOrNone unit ls (Some cut) = IsCutOf unit ls cut

abbrev pub before_last_variables : Bool → TreeClause → ℕ → Tree → List ℕ
before_last_variables positive c j t = flat_map literal_variables (before_last positive c.literals j t)

-- the line of the superposition
abbrev pub IsFirstLineOf : Member → TreeClause → ℕ → Cut → Line → Type 0
IsFirstLineOf unit c number cut line =
    (l : TreeLiteral) → slice_get c.literals cut.index ≡ Some l
    → IsFirstLine l.positive (clause_at unit.clause) unit.number c number l cut line

-- and that of the equality resolution
pub record AreLinesOfCut (unit : Member) (c : TreeClause) (number : ℕ) (cut : Cut) (lines : CutLines) : Type 0 where
  pub first : IsFirstLineOf unit c number cut lines.first
  pub names : (clause_of lines.first.clause).names ≡ sorted_names c.names
  pub second :
      (l : TreeLiteral) → slice_get c.literals cut.index ≡ Some l
      → IsOwnStep (λ ls. resolved ls (last_index l.positive cut.index)) (λ bind. Refl (number + 1) (last_index l.positive cut.index) bind)
      (clause_of lines.first.clause) lines.second

-- ---- what the calls answer

-- no literal is cut
abbrev pub CutsNone : Member → TreeClause → Type 0
CutsNone unit c =
    (usage : SymbolUse) → AreOfUse usage (clause_at unit.clause) c → (d : TreeClause) → CutsBy usage.is_predicate (clause_at unit.clause) c d → ⊥

-- some literal is
pub record CutsSome (is_predicate : ℕ → Bool) (unit c : TreeClause) : Type 0 where
  pub result : TreeClause
  pub cuts : CutsBy is_predicate unit c result

-- whether some literal is
abbrev pub CutsOrNot : Member → TreeClause → Bool → Type 0
CutsOrNot unit c true = (usage : SymbolUse) → AreOfUse usage (clause_at unit.clause) c → CutsSome usage.is_predicate (clause_at unit.clause) c
CutsOrNot unit c false = CutsNone unit c

-- the canonical form of what a cut leads to
pub record CutsTo (is_predicate : ℕ → Bool) (unit c d : TreeClause) : Type 0 where
  pub result : TreeClause
  pub cuts : CutsBy is_predicate unit c result
  pub canonical : d ≡ canonical_clause result

-- the lines make a cut
pub record MakesCut
    (is_predicate : ℕ → Bool) (clauses : ℕ → Option TreeClause) (unit : Member) (c : TreeClause) (number : ℕ) (lines : CutLines) : Type 0 where
  pub makes :
      AreLinesOfMove is_predicate clauses c number (record { by = Some unit.number; gives = clause_of lines.second.clause })
      (lines.first ∷ lines.second ∷ [])
  pub cuts : CutsTo is_predicate (clause_at unit.clause) c (clause_of lines.second.clause)

-- they do so where the clauses are well-formed; that a literal goes needs no use of the symbols
pub record AreCut (unit : Member) (c : TreeClause) (number : ℕ) (lines : CutLines) : Type 0 where
  pub loses : IsFit c → LosesLiteral c (clause_of lines.second.clause)
  pub makes :
      (usage : SymbolUse) (clauses : ℕ → Option TreeClause)
      → unit.number < CLAUSE_NUMBERS → clauses unit.number ≡ Some (clause_at unit.clause) → AreOfUse usage (clause_at unit.clause) c → IsFit c
      → CLAUSE_NUMBERS ≤ number → MakesCut usage.is_predicate clauses unit c number lines

-- or no literal is cut
abbrev pub AreCutOrNone : Member → TreeClause → ℕ → Option CutLines → Type 0
AreCutOrNone unit c number None = CutsNone unit c
AreCutOrNone unit c number (Some lines) = AreCut unit c number lines

-- the clause that is reduced goes on by a cut
pub record GoesOnByCut
    (is_predicate : ℕ → Bool) (clauses : ℕ → Option TreeClause) (unit : Member) (old new : Reduced) : Type 0 where
  pub goes_on : GoesOn is_predicate clauses (Some unit.number) old new
  pub cuts : CutsTo is_predicate (clause_at unit.clause) (clause_of old.clause) (clause_of new.clause)

-- a literal goes, and it does so by a cut where the clauses are well-formed
pub record IsCutMade (unit : Member) (old new : Reduced) : Type 0 where
  pub loses : IsFit (clause_of old.clause) → LosesLiteral (clause_of old.clause) (clause_of new.clause)
  pub goes_on :
      (usage : SymbolUse) (clauses : ℕ → Option TreeClause)
      → unit.number < CLAUSE_NUMBERS → clauses unit.number ≡ Some (clause_at unit.clause)
      → AreOfUse usage (clause_at unit.clause) (clause_of old.clause) → IsFit (clause_of old.clause)
      → GoesOnByCut usage.is_predicate clauses unit old new

-- the unit cuts a literal of the result so far, or none, and nothing has changed
abbrev pub IsCutStep : Member → Reduced → Reduced → Bool → Type 0
IsCutStep unit old new true = IsCutMade unit old new
IsCutStep unit old new false = (new ≡ old) × CutsNone unit (clause_of old.clause)

-- a clause that was reduced by a cut
pub record IsReducedByCut
    (is_predicate : ℕ → Bool) (clauses : ℕ → Option TreeClause) (unit : Member) (c : TreeClause) (r : Reduced) : Type 0 where
  pub reduced : IsReduced is_predicate clauses c r
  pub used : r.used ≡ unit.number ∷ []
  pub cuts : CutsTo is_predicate (clause_at unit.clause) c (clause_of r.clause)

-- a clause reduced by a cut, or no literal is cut
abbrev pub IsCutUnit : Member → TreeClause → Option Reduced → Type 0
IsCutUnit unit c None = CutsNone unit c
IsCutUnit unit c (Some r) =
    (usage : SymbolUse) (clauses : ℕ → Option TreeClause)
    → unit.number < CLAUSE_NUMBERS → clauses unit.number ≡ Some (clause_at unit.clause) → AreOfUse usage (clause_at unit.clause) c → IsFit c
    → IsReducedByCut usage.is_predicate clauses unit c r
