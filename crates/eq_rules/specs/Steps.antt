-- The steps of rules with one premise.
use Rattle.std.specs.Prelude.{◌≡◌, ℕ, List, [], slice_get, slice_set, option_and_then, option_map, unwrap_or}
use Rattle.fol_base.specs.Tree.{Tree}
use Rattle.fol_base.specs.Instance.{Substitution, instance}
use Rattle.fol_base.specs.Clause.{TreeLiteral, TreeClause}
use Rattle.fol_base.specs.Ground.{literals_instance}
use Rattle.fol_base.specs.Sides.{other_side_of}
use Rattle.fol_base.specs.Literal.{clause_of}
use Rattle.fol_base.specs.Rules.{resolved, factored, disequation}
use Rattle.fol_base.specs.declared.clause.Side.{Side}
use Rattle.kernel_steps.specs.declared.step.Step.TheVariants as step
use Rattle.eq_rules.specs.Concluding.{GivesNumbered}
use Rattle.eq_rules.specs.declared.concluding.FactorPlace.{FactorPlace}
use Rattle.eq_rules.specs.declared.inference.Made.{Made}
use Rattle.eq_rules.specs.declared.inference.Made.TheVariants.{Conclusion, Heavy}

-- the resolution of a literal under terms
abbrev pub IsResolutionStep : ℕ → TreeClause → ℕ → List Tree → Made → Type 0
IsResolutionStep number c i terms Heavy = ⊥
IsResolutionStep number c i terms (Conclusion by clause) =
    (bind : List Tree) × (by ≡ step.Refl number i bind) × GivesNumbered (λ ls. resolved ls i) c terms bind (clause_of clause)

-- the factoring of two literals under terms
abbrev pub IsFactoringStep : ℕ → TreeClause → ℕ → Side → ℕ → Side → List Tree → Made → Type 0
IsFactoringStep number c i side_i j side_j terms Heavy = ⊥
IsFactoringStep number c i side_i j side_j terms (Conclusion by clause) =
    (bind : List Tree) × (by ≡ step.Factor number i side_i j side_j bind)
    × GivesNumbered (λ ls. factored ls i side_i j side_j) c terms bind (clause_of clause)

-- the literals under a substitution, with the disequation of the other sides in the place of the literal that becomes it
abbrev pub factored_plain : List TreeLiteral → Substitution → FactorPlace → List TreeLiteral
factored_plain ls σ place =
    unwrap_or
    (option_and_then (λ l. option_map (λ m. slice_set (literals_instance σ ls) place.becomes.literal
    (disequation (instance σ (other_side_of place.becomes.side l)) (instance σ (other_side_of place.other.side m))))
    (slice_get ls place.other.literal)) (slice_get ls place.becomes.literal))
    []
