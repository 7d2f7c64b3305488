-- The worked definitions of names, what defines none, and lines that go on from clauses.
use Rattle.std.proofs.Common.{◌≡◌, ℕ, zero, suc, ◌+◌, ◌^◌, List, [], ◌∷◌, take, length, refl, ap, sym, ◌∙◌, subst, arith}
use Rattle.std.specs.Prelude.{Some, slice_get}
use Rattle.std.proofs.lemmas.Bool.{true≢false}
use Rattle.std.proofs.lemmas.Option.{none-some, same_Some}
use Rattle.plain_types.specs.Names.{positive_of, negative_of}
use Rattle.fol_base.specs.Clause.{TreeLiteral, TreeClause}
use Rattle.fol_base.specs.Ground.{is_ground_literal}
use Rattle.fol_base.specs.Examples.{x, a, b, p, q, clause}
use Rattle.fol_base.specs.Literal.{clause_of}
use Rattle.fol_base.specs.declared.clause.Side.TheVariants.{Left}
use Rattle.kernel_steps.specs.Conclusion.{verdict, concludes}
use Rattle.kernel_steps.specs.Derivation.{component_clause, IsOpposite, ComesBy, continued, AreSteps, reduced_parents, under_names}
use Rattle.kernel_steps.specs.Examples.{not_p, not_true, listed, line, introduced, opposites, reducing_lines}
use Rattle.kernel_steps.specs.declared.step.Step.TheVariants.{Para, Refl, Component, Opposite}
use Rattle.kernel_steps.specs.declared.step.TheConstants.{CLAUSE_NUMBERS}
use Rattle.kernel_steps.specs.declared.step.Line.{Line}
use Rattle.kernel_steps.proofs.WorkedExamples.DerivationExamples.{opposite-of}

pub component_of_literals :
    ComesBy (Component 1) [] (introduced (p a ∷ [])) (under_names (not_p (x 0) ∷ q (x 1) ∷ []) (negative_of 1 ∷ []))
component_of_literals = record { is_new = refl; some_literal = λ h. omega arith; one_name = refl }

pub introduced_twice : ComesBy (Component 0) [] (introduced (p a ∷ [])) (under_names (q a ∷ []) (negative_of 0 ∷ [])) → ⊥
introduced_twice it = none-some (under_names (p a ∷ []) (negative_of 0 ∷ [])) (sym it.is_new)

pub component_without_literals : ComesBy (Component 0) [] [] (under_names [] (negative_of 0 ∷ [])) → ⊥
component_without_literals it = it.some_literal refl

-- ---- opposite lines

pub opposite : ComesBy (Opposite 0) [] (introduced (p a ∷ [])) (under_names (not_p a ∷ []) (positive_of 0 ∷ []))
opposite = opposite-of 0 (introduced (p a ∷ [])) (p a) refl refl refl

pub opposite_of_nothing : ComesBy (Opposite 0) [] [] (under_names (not_p a ∷ []) (positive_of 0 ∷ [])) → ⊥
opposite_of_nothing it = none-some it.component it.introduced

-- the literal is the one of the component line
literal-is :
    (earlier : List Line) (c d : TreeClause) (l : TreeLiteral) → component_clause 0 earlier ≡ Some d → d.literals ≡ l ∷ [] → (it : IsOpposite 0 earlier c) → l ≡ it.literal
literal-is earlier c d l introduces one it =
    same_Some l it.literal
    (ap (λ ls. slice_get ls 0) (sym one)
    ∙ ap (λ (e : TreeClause). slice_get e.literals 0) (same_Some d it.component (sym introduces ∙ it.introduced))
    ∙ ap (λ ls. slice_get ls 0) it.one_literal)

pub opposite_of_variable :
    ComesBy (Opposite 0) [] (introduced (p (x 0) ∷ [])) (under_names (not_p (x 0) ∷ []) (positive_of 0 ∷ [])) → ⊥
opposite_of_variable it =
    true≢false
    (sym it.ground
    ∙ ap is_ground_literal
    (sym
    (literal-is (introduced (p (x 0) ∷ [])) (under_names (not_p (x 0) ∷ []) (positive_of 0 ∷ [])) (under_names (p (x 0) ∷ []) (negative_of 0 ∷ [])) (p (x 0)) refl refl it)))

pub opposite_of_two_literals :
    ComesBy (Opposite 0) [] (introduced (p a ∷ q b ∷ [])) (under_names (not_p a ∷ []) (positive_of 0 ∷ [])) → ⊥
opposite_of_two_literals it =
    let same : under_names (p a ∷ q b ∷ []) (negative_of 0 ∷ []) ≡ it.component = same_Some (under_names (p a ∷ q b ∷ []) (negative_of 0 ∷ [])) it.component it.introduced in
    let lengths : 2 ≡ 1 = ap (λ (e : TreeClause). length e.literals) same ∙ ap length it.one_literal in
    absurd (omega (arith, lengths))

pub opposite_of_negative_literal :
    ComesBy (Opposite 0) [] (introduced (not_p a ∷ [])) (under_names (p a ∷ []) (positive_of 0 ∷ [])) → ⊥
opposite_of_negative_literal it =
    true≢false
    (sym it.positive
    ∙ ap (λ (l : TreeLiteral). l.positive)
    (sym
    (literal-is (introduced (not_p a ∷ [])) (under_names (p a ∷ []) (positive_of 0 ∷ [])) (under_names (not_p a ∷ []) (negative_of 0 ∷ [])) (not_p a) refl refl it)))

-- ---- lines that reduce a clause

pub reduced : AreSteps (2 ^ 32 + 1) (reduced_parents (listed opposites) (clause (not_p a ∷ []))) reducing_lines
reduced = each
  where
    Is : ℕ → Line → Type 0
    Is n l =
        verdict l.step (continued (2 ^ 32 + 1) (reduced_parents (listed opposites) (clause (not_p a ∷ []))) (take n reducing_lines))
        ≡ concludes (clause_of l.clause)

    each : (n : ℕ) (l : Line) → slice_get reducing_lines n ≡ Some l → Is n l
    each zero l at = subst (Is 0) (same_Some (line (Para 0 CLAUSE_NUMBERS 0 Left 0 Left [] [] []) (not_true ∷ [])) l at) refl
    each (suc zero) l at = subst (Is 1) (same_Some (line (Refl (CLAUSE_NUMBERS + 1) 0 []) []) l at) refl
    each (suc (suc n)) l at = absurd (none-some l at)
