-- The soundness of derivations: their clauses are true wherever the form is, so a refutation refutes the form (Robinson 1965), by
-- finitely many of its ground instances (Herbrand 1930). A name stands for a part of a clause (Voronkov 2014): it is true where its
-- body is, whatever values the body's variables have.
use mathlib.Core.Bool.{beq}
use Rattle.std.specs.Prelude.{◌≡◌, ◌⊎◌, ℕ, Bool, ◌||◌, List, [], ◌∷◌, ◌++◌, map, Some, slice_get, All, Contains, if◌then◌else◌, IsTrue, IsFalse}
use Rattle.std.specs.List.{list_any, list_all}
use Rattle.plain_types.specs.declared.sequence.NameLit.{NameLit}
use Rattle.plain_types.specs.Names.{has_name, positive_of, negative_of}
use Rattle.fol_base.specs.Tree.{Tree}
use Rattle.fol_base.specs.Clause.{TreeLiteral, TreeClause}
use Rattle.fol_base.specs.Kind.{is_function_term}
use Rattle.fol_base.specs.Symbols.{FunctionSymbol, FunctionSymbols}
use Rattle.fol_base.specs.Ground.{is_over, GroundClause, GroundInstance}
use Rattle.fol_base.specs.GroundForm.{IsGroundForm}
use Rattle.fol_base.specs.Interpretation.{Interpretation, IsInterpretation, Assignment, literals_true_under, HasValues, HoldsIn}
use Rattle.fol_base.specs.Entails.{Entails, IsRefuted}
use Rattle.fol_base.specs.Covered.{InstanceOf}
use Rattle.fol_base.specs.Literal.{clause_of}
use Rattle.fol_base.specs.Rules.{superposed, resolved, factored, merged}
use Rattle.fol_base.specs.declared.clause.Side.{Side}
use Rattle.kernel_steps.specs.Names.{chained}
use Rattle.kernel_steps.specs.Derivation.{is_clause_step, body, IsDerivation, IsRefutation}
use Rattle.kernel_steps.specs.declared.step.Step.{Step}
use Rattle.kernel_steps.specs.declared.step.Step.TheVariants.{Para, Refl, Factor, Merge}
use Rattle.kernel_steps.specs.declared.step.Line.{Line}

-- ---- bindings

-- the bindings of a step, one for each parent that has one
abbrev pub bindings_of : Step → List (List Tree)
bindings_of (Para first second from from_side into into_side place first_bind second_bind) = first_bind ∷ second_bind ∷ []
bindings_of (Refl parent literal bind) = bind ∷ []
bindings_of (Factor parent becomes becomes_side other other_side bind) = bind ∷ []
bindings_of (Merge parent stays goes bind) = bind ∷ []
bindings_of _ = []

-- each term that a step binds a variable to passes a test
abbrev pub binds_each : (Tree → Bool) → Step → Bool
binds_each test step = list_all (list_all test) (bindings_of step)

-- each term that a line binds a variable to has symbols of the list alone; it may have variables
abbrev pub BindsOver : List FunctionSymbol → List Line → Type 0
BindsOver functions lines = IsTrue (list_all (λ (l : Line). binds_each (is_over functions) l.step) lines)

-- each term that a line binds a variable to is a function term
abbrev pub BindsFunctionTerms : (ℕ → Bool) → List Line → Type 0
BindsFunctionTerms is_predicate lines = IsTrue (list_all (λ (l : Line). binds_each (is_function_term is_predicate) l.step) lines)

-- ---- truth

-- the clause is false for some values of its variables
pub record FailsIn (i : Interpretation) (c : TreeClause) : Type 0 where
  pub values : Assignment
  pub are_values : HasValues i values
  pub is_false : IsFalse (literals_true_under i values c.literals)

-- for each name, whether it is true
abbrev pub NameTruth : Type 0
NameTruth = ℕ → Bool

-- a list of signed names is true where one of them is
abbrev pub names_true : NameTruth → List NameLit → Bool
names_true truth ns = list_any (λ n. beq n.positive (truth n.name)) ns

-- a name is true where its body holds, and false where it fails
abbrev pub MeansBody : Interpretation → TreeClause → Bool → Type 0
MeansBody i c is_true = (IsTrue is_true → HoldsIn i c) × (IsFalse is_true → FailsIn i c)

-- the clauses of a ground form, each as the list of its literals
abbrev pub ground_clauses : List TreeClause → List GroundClause
ground_clauses form = map (λ (c : TreeClause). c.literals) form

-- ---- ground instances

-- finitely many ground instances of clauses that satisfy the predicate entail a ground clause
pub record Grounds {is_predicate : ℕ → Bool} (functions : FunctionSymbols is_predicate) (Holds : TreeClause → Type 0) (g : GroundClause) : Type 0 where
  pub by : List GroundClause
  pub instances : All (InstanceOf functions Holds) by
  pub entailed : Entails is_predicate by g

-- c is a clause of the form, or the body of a name that stands negatively in the list
abbrev pub IsUsable : List TreeClause → (ℕ → TreeClause) → List NameLit → TreeClause → Type 0
IsUsable form bodies names c = Contains form c ⊎ ((n : ℕ) × IsTrue (has_name (negative_of n) names) × (c ≡ bodies n))

-- a choice of one ground instance of each positively named body
abbrev pub IsChoice : {is_predicate : ℕ → Bool} → FunctionSymbols is_predicate → (ℕ → TreeClause) → List NameLit → (ℕ → GroundClause) → Type 0
IsChoice functions bodies names choice =
    (n : ℕ) → IsTrue (has_name (positive_of n) names) → GroundInstance functions (bodies n) (choice n)

-- the literals of the chosen ground instances together
abbrev pub chosen_literals : (ℕ → GroundClause) → List NameLit → GroundClause
chosen_literals choice [] = []
chosen_literals choice (n ∷ ns) = if n.positive then choice n.name ++ chosen_literals choice ns else chosen_literals choice ns

-- A clause is grounded where this holds for every choice of one ground instance of its ordinary part and one of each positively named
-- body: finitely many ground instances of the form and of the negatively named bodies entail all literals of the choice together.
abbrev pub IsGrounded : {is_predicate : ℕ → Bool} → FunctionSymbols is_predicate → List TreeClause → (ℕ → TreeClause) → TreeClause → Type 0
IsGrounded functions form bodies c =
    (g : GroundClause) (choice : ℕ → GroundClause)
    → GroundInstance functions c g → IsChoice functions bodies c.names choice
    → Grounds functions (IsUsable form bodies c.names) (g ++ chosen_literals choice c.names)

-- Finitely many ground instances of the form are true in no interpretation.
pub record HerbrandRefuted {is_predicate : ℕ → Bool} (functions : FunctionSymbols is_predicate) (form : List TreeClause) : Type 0 where
  pub by : List GroundClause
  pub instances : All (InstanceOf functions (Contains form)) by
  pub refuted : IsRefuted is_predicate by

-- ---- laws of the rules: under each assignment, a rule's conclusion is true where its premises are

abbrev pub ParaIsSound : Type 0
ParaIsSound =
    (i : Interpretation) (ρ : Assignment) (first : List TreeLiteral) (from : ℕ) (s : Side) (second : List TreeLiteral) (into : ℕ)
    (z : Side) (place : List ℕ) (made : List TreeLiteral)
    → superposed first from s second into z place ≡ Some made
    → IsTrue (literals_true_under i ρ first) → IsTrue (literals_true_under i ρ second)
    → IsTrue (literals_true_under i ρ made)

abbrev pub ReflIsSound : Type 0
ReflIsSound =
    (i : Interpretation) (ρ : Assignment) (ls : List TreeLiteral) (k : ℕ) (made : List TreeLiteral)
    → resolved ls k ≡ Some made → IsTrue (literals_true_under i ρ ls) → IsTrue (literals_true_under i ρ made)

abbrev pub FactorIsSound : Type 0
FactorIsSound =
    (i : Interpretation) (ρ : Assignment) (ls : List TreeLiteral) (becomes : ℕ) (s : Side) (other : ℕ) (z : Side) (made : List TreeLiteral)
    → factored ls becomes s other z ≡ Some made → IsTrue (literals_true_under i ρ ls) → IsTrue (literals_true_under i ρ made)

abbrev pub MergeIsSound : Type 0
MergeIsSound =
    (i : Interpretation) (ρ : Assignment) (ls : List TreeLiteral) (stays goes : ℕ) (made : List TreeLiteral)
    → merged ls stays goes ≡ Some made → IsTrue (literals_true_under i ρ ls) → IsTrue (literals_true_under i ρ made)

-- whichever names are true
abbrev pub ChainIsSound : Type 0
ChainIsSound =
    (truth : NameTruth) (nss : List (List NameLit)) (pivots made : List NameLit)
    → chained nss pivots ≡ Some made → IsTrue (list_all (names_true truth) nss) → IsTrue (names_true truth made)

-- ---- laws of derivations

-- Where the form holds and each name is true as its body is, each clause line is true: one of its literals or of its names is. The
-- form may have variables.
abbrev pub DerivationsAreSound : Type 0
DerivationsAreSound =
    (is_predicate : ℕ → Bool) (i : Interpretation) (truth : NameTruth) (form : List TreeClause) (lines : List Line)
    → IsInterpretation is_predicate i → BindsFunctionTerms is_predicate lines → IsDerivation form lines
    → All (HoldsIn i) form → ((n : ℕ) → MeansBody i (body lines n) (truth n))
    → (n : ℕ) (line : Line) → slice_get lines n ≡ Some line → IsTrue (is_clause_step line.step)
    → (ρ : Assignment) → HasValues i ρ
    → IsTrue (literals_true_under i ρ (clause_of line.clause).literals || names_true truth (clause_of line.clause).names)

-- each clause line of a derivation is grounded, where its bindings are over the function symbols
abbrev pub LinesAreGrounded : Type 0
LinesAreGrounded =
    (is_predicate : ℕ → Bool) (functions : FunctionSymbols is_predicate) (form : List TreeClause) (lines : List Line)
    → BindsOver functions.symbols lines → IsDerivation form lines
    → (n : ℕ) (line : Line) → slice_get lines n ≡ Some line → IsTrue (is_clause_step line.step)
    → IsGrounded functions form (body lines) (clause_of line.clause)

-- each clause line without names of a derivation from a ground form is grounded, whatever its bindings are
abbrev pub GroundLinesAreGrounded : Type 0
GroundLinesAreGrounded =
    (is_predicate : ℕ → Bool) (functions : FunctionSymbols is_predicate) (form : List TreeClause) (lines : List Line)
    → IsGroundForm form → IsDerivation form lines
    → (n : ℕ) (line : Line) → slice_get lines n ≡ Some line → IsTrue (is_clause_step line.step)
    → (clause_of line.clause).names ≡ []
    → IsGrounded functions form (body lines) (clause_of line.clause)

-- ---- laws of refutations

-- a form that has a refutation whose bindings are function terms holds in no interpretation
abbrev pub RefutationsRefute : Type 0
RefutationsRefute =
    (is_predicate : ℕ → Bool) (i : Interpretation) (form : List TreeClause) (lines : List Line)
    → IsInterpretation is_predicate i → BindsFunctionTerms is_predicate lines → IsRefutation form lines
    → All (HoldsIn i) form → ⊥

-- a ground form that has a refutation is true in no interpretation, whatever the bindings are
abbrev pub GroundRefutationsRefute : Type 0
GroundRefutationsRefute =
    (is_predicate : ℕ → Bool) (form : List TreeClause) (lines : List Line)
    → IsGroundForm form → IsRefutation form lines → IsRefuted is_predicate (ground_clauses form)

-- a form that has a refutation is Herbrand-refuted over function symbols where its bindings are over them
abbrev pub RefutationsHerbrandRefute : Type 0
RefutationsHerbrandRefute =
    (is_predicate : ℕ → Bool) (functions : FunctionSymbols is_predicate) (form : List TreeClause) (lines : List Line)
    → BindsOver functions.symbols lines → IsRefutation form lines
    → HerbrandRefuted functions form

-- a ground form that has a refutation is Herbrand-refuted over every list of function symbols
abbrev pub GroundRefutationsHerbrandRefute : Type 0
GroundRefutationsHerbrandRefute =
    (is_predicate : ℕ → Bool) (functions : FunctionSymbols is_predicate) (form : List TreeClause) (lines : List Line)
    → IsGroundForm form → IsRefutation form lines
    → HerbrandRefuted functions form
