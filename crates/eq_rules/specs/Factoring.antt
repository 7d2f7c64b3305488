-- Equality factoring by two sides of a clause.
use mathlib.Core.Bool.{beq}
use Rattle.std.specs.Prelude.{◌≡◌, ◌⊎◌, ℕ, ◌+◌, Bool, true, false, ◌&&◌, ◌||◌, ◌==◌, not, nat_lt, List, length, Option, None, Some, slice_get, IsTrue}
use Rattle.fol_base.specs.Tree.{variable, is_truth}
use Rattle.fol_base.specs.Clause.{TreeLiteral, TreeClause, clause_variables}
use Rattle.fol_base.specs.Canonical.{bound_of}
use Rattle.fol_base.specs.Ground.{literals_instance}
use Rattle.fol_base.specs.Instance.{Substitution}
use Rattle.fol_base.specs.Selection.{SelectionMode, eligible}
use Rattle.fol_base.specs.Sides.{side_of, other_side_of}
use Rattle.fol_base.specs.WellFormed.{SymbolUse, are_literals_of}
use Rattle.fol_base.specs.declared.clause.Side.{Side}
use Rattle.kernel_steps.specs.Inference.{other_side_not_above}
use Rattle.kernel_steps.specs.declared.key.Key.{Key}
use Rattle.kernel_steps.specs.declared.key.Key.TheVariants.{Factor}
use Rattle.bank_clause.specs.Clause.{clause_at, side_number}
use Rattle.bank_clause.specs.declared.member.Member.{Member}
use Rattle.unifier.specs.Bindings.{IsUnified}
use Rattle.unifier.specs.Renaming.{fits}
use Rattle.eq_rules.specs.Inferences.{AreInferences, alone, is_enough}
use Rattle.eq_rules.specs.Outsizing.{Outsizes}
use Rattle.eq_rules.specs.declared.concluding.LiteralSide.{LiteralSide}
use Rattle.eq_rules.specs.declared.concluding.FactorPlace.{FactorPlace}
use Rattle.eq_rules.specs.declared.inference.Inference.{Inference}
use Rattle.unifier.specs.SolvedForm.{SolvedForm}

-- ---- sides by numbers

abbrev pub number_of : LiteralSide → ℕ
number_of s = side_number s.literal s.side

abbrev pub factor_key : ℕ → FactorPlace → Key
factor_key clause place = Factor clause place.becomes.literal place.becomes.side place.other.literal place.other.side

-- the factorings by sides below a of the literal that changes, and those by a itself and other sides below b
abbrev pub factors_before : ℕ → ℕ → Key → Bool
factors_before a b (Factor clause becomes becomes_side other other_side) =
    nat_lt (side_number becomes becomes_side) a
    || ((side_number becomes becomes_side == a) && nat_lt (side_number other other_side) b)
factors_before a b _ = false

abbrev pub AreFactoringsBefore : SelectionMode → Member → ℕ → ℕ → List Inference → Type 0
AreFactoringsBefore mode m a b found =
    (usage : SymbolUse) → IsTrue (are_literals_of usage (clause_at m.clause).literals)
    → AreInferences usage.is_predicate mode (alone m) (factors_before a b) found

-- the factorings by one side a are all there, or those that are there are enough: by sides of other literals below some number
abbrev pub HasFactoredSide : Option ℕ → SelectionMode → Member → ℕ → List Inference → Type 0
HasFactoredSide most mode m a found =
    AreFactoringsBefore mode m (a + 1) 0 found
    ⊎ ((b : ℕ) × IsTrue (is_enough most (length found)) × AreFactoringsBefore mode m a b found)

-- ---- what is asked of the sides

abbrev pub literal_may_become : Side → Option TreeLiteral → Bool
literal_may_become side None = false
literal_may_become side (Some l) = l.positive && other_side_not_above variable side l

-- before there is a unifier: the literal is positive and eligible, and its other side isn't above this one
abbrev pub may_become : List TreeLiteral → ℕ → Side → Bool
may_become ls i side = literal_may_become side (slice_get ls i) && eligible ls i None false

-- both are positive, and the sides of one kind: an atom's other side is `$true`
abbrev pub are_alike : TreeLiteral → Side → TreeLiteral → Side → Bool
are_alike l s m z =
    (((l.positive && m.positive) && not (is_truth (side_of s l))) && not (is_truth (side_of z m)))
    && beq (is_truth (other_side_of s l)) (is_truth (other_side_of z m))

-- a most general unifier of two sides that are alike, of different literals, with no variables but the clause's
pub record FactorsBy (b : SolvedForm) (c : TreeClause) (place : FactorPlace) : Type 0 where
  pub literal_i : TreeLiteral
  pub i_there : slice_get c.literals place.becomes.literal ≡ Some literal_i
  pub literal_j : TreeLiteral
  pub j_there : slice_get c.literals place.other.literal ≡ Some literal_j
  pub differ : (place.becomes.literal == place.other.literal) ≡ false
  pub alike : are_alike literal_i place.becomes.side literal_j place.other.side ≡ true
  pub unified : IsUnified false (side_of place.becomes.side literal_i) (side_of place.other.side literal_j) (Some b)
  pub counted : fits b (bound_of (clause_variables c)) 0 ≡ true

-- under a substitution the other side isn't above the one by which a literal becomes a disequation, and no literal is greater
abbrev pub literal_allows : Substitution → Side → Option TreeLiteral → Bool
literal_allows σ side None = false
literal_allows σ side (Some l) = other_side_not_above σ side l

abbrev pub allows : Substitution → List TreeLiteral → FactorPlace → Bool
allows σ ls place =
    literal_allows σ place.becomes.side (slice_get ls place.becomes.literal)
    && eligible (literals_instance σ ls) place.becomes.literal None false

-- by sizes alone: the side isn't below its other side, nor the literal below any but the one with which it is factored
pub record IsLargest (σ : Substitution) (ls : List TreeLiteral) (place : FactorPlace) : Type 0 where
  pub beside : literal_allows σ place.becomes.side (slice_get ls place.becomes.literal) ≡ true
  pub outsizes : Outsizes σ ls place.becomes.literal place.other.literal
