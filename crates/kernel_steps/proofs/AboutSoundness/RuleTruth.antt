-- The rules are sound: what they give is true where what they are given is.
use Rattle.std.proofs.Common.{◌≡◌, ℕ, Bool, true, false, ◌==◌, List, Some, refl, ap, ap₂, sym, ◌∙◌, ⊎_elim}
use Rattle.std.specs.Prelude.{not, slice_set, remove}
use Rattle.std.proofs.lemmas.Bool.{or_left, or_right, cases_Bool, eqb-true, eq-eqb, true≢false}
use Rattle.std.proofs.lemmas.List.Folds.{list_any-append}
use Rattle.fol_base.specs.Tree.{Tree}
use Rattle.fol_base.specs.Clause.{TreeLiteral}
use Rattle.fol_base.specs.Sides.{side_of, other_side_of, with_side}
use Rattle.fol_base.specs.Interpretation.{Interpretation, Assignment, tree_value, sides_true, literal_true_under, literals_true_under}
use Rattle.fol_base.specs.Order.{equivalent_literals}
use Rattle.fol_base.specs.Rules.{superposed_literal, disequation}
use Rattle.fol_base.specs.declared.clause.Side.{Side}
use Rattle.fol_base.specs.declared.clause.Side.TheVariants.{Left, Right}
use Rattle.fol_base.proofs.AboutClauses.MeaningLemmas.{congruence_of_values}
use Rattle.fol_base.proofs.AboutOrders.OrderLemmas.{equivalent_literals-decided}
use Rattle.fol_base.proofs.AboutClauses.RuleLemmas.{superposed_literal-parts, superposed-parts, resolved-parts, FactoredParts, factored-parts, merged-parts}
use Rattle.kernel_steps.specs.Derivation.{complement}
use Rattle.kernel_steps.specs.Soundness.{ParaIsSound, ReflIsSound, FactorIsSound, MergeIsSound}
use Rattle.kernel_steps.proofs.AboutCalls.ItemLemmas.{list_any-remove, list_any-remove_other, list_any-set, list_any-set_passing, list_any-set_other}

-- ---- literals

-- the sides of a true equation have one value
sides_true-equal : (positive : Bool) (v w : ℕ) → positive ≡ true → sides_true positive v w ≡ true → v ≡ w
sides_true-equal true v w is holds = eqb-true v w holds
sides_true-equal false v w is holds = absurd (true≢false (sym is))

other_value :
    (i : Interpretation) (ρ : Assignment) (s : Side) (l : TreeLiteral)
    → l.positive ≡ true → literal_true_under i ρ l ≡ true → tree_value i ρ (other_side_of s l) ≡ tree_value i ρ (side_of s l)
other_value i ρ Left l is holds = sym (sides_true-equal l.positive (tree_value i ρ l.left) (tree_value i ρ l.right) is holds)
other_value i ρ Right l is holds = sides_true-equal l.positive (tree_value i ρ l.left) (tree_value i ρ l.right) is holds

-- an equation with sides of one value is true
equation-true :
    (i : Interpretation) (ρ : Assignment) (s : Side) (l : TreeLiteral)
    → l.positive ≡ true → tree_value i ρ (other_side_of s l) ≡ tree_value i ρ (side_of s l) → literal_true_under i ρ l ≡ true
equation-true i ρ Left l is e =
    ap (λ b. sides_true b (tree_value i ρ l.left) (tree_value i ρ l.right)) is ∙ eq-eqb (tree_value i ρ l.left) (tree_value i ρ l.right) (sym e)
equation-true i ρ Right l is e =
    ap (λ b. sides_true b (tree_value i ρ l.left) (tree_value i ρ l.right)) is ∙ eq-eqb (tree_value i ρ l.left) (tree_value i ρ l.right) e

-- a side exchanged for one of equal value
with_side-truth :
    (i : Interpretation) (ρ : Assignment) (z : Side) (new : Tree) (l : TreeLiteral)
    → tree_value i ρ new ≡ tree_value i ρ (side_of z l) → literal_true_under i ρ (with_side z new l) ≡ literal_true_under i ρ l
with_side-truth i ρ Left new l e = ap (λ v. sides_true l.positive v (tree_value i ρ l.right)) e
with_side-truth i ρ Right new l e = ap (λ v. sides_true l.positive (tree_value i ρ l.left) v) e

-- a superposed literal is true where the old one is, if the equation is
pub superposed_literal-truth :
    (i : Interpretation) (ρ : Assignment) (from into made : TreeLiteral) (s z : Side) (place : List ℕ)
    → superposed_literal from s into z place ≡ Some made → literal_true_under i ρ from ≡ true
    → literal_true_under i ρ made ≡ literal_true_under i ρ into
superposed_literal-truth i ρ from into made s z place step holds =
    let p = superposed_literal-parts from s into z place made step in
    ap (literal_true_under i ρ) (sym p.gives)
    ∙ with_side-truth i ρ z p.new into
    (congruence_of_values i ρ place (side_of z into) (side_of s from) (other_side_of s from) p.new p.old_there p.new_made
    (other_value i ρ s from p.positive holds))

-- a disequation of equal sides is false
disequation-false : (positive : Bool) (v w : ℕ) → positive ≡ false → v ≡ w → sides_true positive v w ≡ false
disequation-false true v w is e = absurd (true≢false is)
disequation-false false v w is e = ap not (eq-eqb v w e)

-- the order of the sides doesn't matter
sides_true-swap : (positive : Bool) (v w : ℕ) → sides_true positive v w ≡ true → sides_true positive w v ≡ true
sides_true-swap true v w holds = eq-eqb w v (sym (eqb-true v w holds))
sides_true-swap false v w holds =
    ⊎_elim
    (λ same. absurd (true≢false (sym holds ∙ ap not (eq-eqb v w (sym (eqb-true w v same))))))
    (λ differ. ap not differ)
    (cases_Bool (w == v))

-- equivalent literals are true together
pub equivalent-truth :
    (i : Interpretation) (ρ : Assignment) (l k : TreeLiteral)
    → equivalent_literals l k ≡ true → literal_true_under i ρ k ≡ true → literal_true_under i ρ l ≡ true
equivalent-truth i ρ l k same holds =
    let is = (equivalent_literals-decided l k).0 same in
    let value : Tree → ℕ = tree_value i ρ in
    ap (λ b. sides_true b (value l.left) (value l.right)) is.0
    ∙ ⊎_elim
    (λ straight. ap₂ (sides_true k.positive) (ap value straight.0) (ap value straight.1) ∙ holds)
    (λ crossed.
    ap₂ (sides_true k.positive) (ap value crossed.0) (ap value crossed.1)
    ∙ sides_true-swap k.positive (value k.left) (value k.right) holds)
    is.1

-- one of a literal and its complement is true
pub complement-truth :
    (i : Interpretation) (ρ : Assignment) (l : TreeLiteral) → literal_true_under i ρ (complement l) ≡ not (literal_true_under i ρ l)
complement-truth i ρ l = turned l.positive (tree_value i ρ l.left) (tree_value i ρ l.right)
  where
    not-not : (b : Bool) → b ≡ not (not b)
    not-not true = refl
    not-not false = refl

    turned : (p : Bool) (v w : ℕ) → sides_true (not p) v w ≡ not (sides_true p v w)
    turned true v w = refl
    turned false v w = not-not (v == w)

-- ---- rules

pub para_is_sound : ParaIsSound
para_is_sound i ρ first j s second k z place made step first_true second_true =
    let p = superposed-parts first j s second k z place made step in
    let exchanged : List TreeLiteral = slice_set second k p.literal in
    ap (literals_true_under i ρ) (sym p.gives)
    ∙ list_any-append (literal_true_under i ρ) exchanged (remove first j)
    ∙ ⊎_elim
    (λ holds.
    or_left (literals_true_under i ρ exchanged) (literals_true_under i ρ (remove first j))
    (list_any-set (literal_true_under i ρ) second k p.into p.literal p.into_there
    (superposed_literal-truth i ρ p.from p.into p.literal s z place p.literal_made holds)
    ∙ second_true))
    (λ fails.
    or_right (literals_true_under i ρ exchanged) (literals_true_under i ρ (remove first j))
    (list_any-remove (literal_true_under i ρ) first j p.from p.from_there fails first_true))
    (cases_Bool (literal_true_under i ρ p.from))

pub refl_is_sound : ReflIsSound
refl_is_sound i ρ ls k made step ls_true =
    let p = resolved-parts ls k made step in
    let fails : literal_true_under i ρ p.literal ≡ false =
    disequation-false p.literal.positive (tree_value i ρ p.literal.left) (tree_value i ρ p.literal.right) p.negative (ap (tree_value i ρ) p.same) in
    ap (literals_true_under i ρ) (sym p.gives) ∙ list_any-remove (literal_true_under i ρ) ls k p.literal p.literal_there fails ls_true

-- Where the sides that become apart differ, the disequation is true. Else the two equations are true together.
pub factor_is_sound : FactorIsSound
factor_is_sound i ρ ls j s k z made step ls_true =
    ap (literals_true_under i ρ) (sym p.gives)
    ∙ ⊎_elim
    (λ equal.
    ⊎_elim
    (λ first_true.
    list_any-set_other (literal_true_under i ρ) ls k j p.literal_j new p.j_there (λ e. true≢false (sym (eq-eqb j k (sym e)) ∙ p.differ))
    (equation-true i ρ z p.literal_j p.j_positive
    (sym (eqb-true t v equal) ∙ other_value i ρ s p.literal_i p.i_positive first_true ∙ ap (tree_value i ρ) p.same)))
    (λ first_false.
    list_any-set (literal_true_under i ρ) ls j p.literal_i new p.i_there (ap not equal ∙ sym first_false) ∙ ls_true)
    (cases_Bool (literal_true_under i ρ p.literal_i)))
    (λ differ. list_any-set_passing (literal_true_under i ρ) ls j p.literal_i new p.i_there (ap not differ))
    (cases_Bool (t == v))
  where
    p : FactoredParts ls j s k z made
    p = factored-parts ls j s k z made step

    new : TreeLiteral
    new = disequation (other_side_of s p.literal_i) (other_side_of z p.literal_j)

    t : ℕ
    t = tree_value i ρ (other_side_of s p.literal_i)

    v : ℕ
    v = tree_value i ρ (other_side_of z p.literal_j)

pub merge_is_sound : MergeIsSound
merge_is_sound i ρ ls j k made step ls_true =
    let p = merged-parts ls j k made step in
    ap (literals_true_under i ρ) (sym p.gives)
    ∙ ⊎_elim
    (λ holds.
    list_any-remove_other (literal_true_under i ρ) ls j k p.literal_i p.i_there (λ e. true≢false (sym (eq-eqb j k e) ∙ p.differ))
    (equivalent-truth i ρ p.literal_i p.literal_j p.same holds))
    (λ fails. list_any-remove (literal_true_under i ρ) ls k p.literal_j p.j_there fails ls_true)
    (cases_Bool (literal_true_under i ρ p.literal_j))
