-- The worked examples that don't just compute.
use Rattle.std.proofs.Common.{◌≡◌, ℕ, zero, suc, ◌<◌, true, false, List, [], ◌∷◌, Some, get_or, refl, ap, sym, ◌∙◌, ⊎_elim, arith}
use Rattle.std.specs.Prelude.{All, slice_get, Contains}
use Rattle.std.proofs.lemmas.Bool.{and_parts, and_from, or_cases, or_left, eqb-true, eq-eqb, true≢false}
use Rattle.std.proofs.lemmas.Option.{none-some, same_Some}
use Rattle.std.proofs.lemmas.List.Elements.{All-head, All-tail}
use Rattle.fol_base.specs.Tree.{Tree, is_variable, true_tree}
use Rattle.fol_base.specs.Instance.{Substitution}
use Rattle.fol_base.specs.Place.{subterm}
use Rattle.fol_base.specs.Clause.{TreeLiteral, TreeClause}
use Rattle.fol_base.specs.Ground.{GroundClause, literals_instance}
use Rattle.fol_base.specs.Sides.{side_of}
use Rattle.fol_base.specs.Interpretation.{Interpretation, no_values, tree_value, literal_true_under, clause_true, clauses_true}
use Rattle.fol_base.specs.Entails.{Entails}
use Rattle.fol_base.specs.Order.{clause_greater}
use Rattle.fol_base.specs.Selection.{select_nothing}
use Rattle.fol_base.specs.Covered.{InstanceOf, Covers}
use Rattle.fol_base.specs.Examples.{x, a, b, f, p, r, equation, clause, is_predicate, functions, all_b}
use Rattle.fol_base.specs.declared.clause.Side.{Side}
use Rattle.fol_base.specs.declared.clause.Side.TheVariants.{Left, Right}
use Rattle.kernel_steps.specs.Inference.{have_heads_of_one_kind, NamedSuperposition}
use Rattle.laws_calculus.specs.Coverage.{CoversInstancesOf}
use Rattle.laws_calculus.proofs.AboutCovering.CoverLemmas.{subsumed_covered}

-- ---- b = a and p(X0)

-- neither side is of one kind with an atom or `$true`
no_atom : (s : Side) → have_heads_of_one_kind is_predicate (side_of s (equation b a)) (p (x 0)).left ≡ false
no_atom Left = refl
no_atom Right = refl

no_truth : (s : Side) → have_heads_of_one_kind is_predicate (side_of s (equation b a)) true_tree ≡ false
no_truth Left = refl
no_truth Right = refl

no_place :
    (s z : Side) (place : List ℕ) (old : Tree)
    → subterm place (side_of z (p (x 0))) ≡ Some old → is_variable old ≡ false
    → have_heads_of_one_kind is_predicate (side_of s (equation b a)) old ≡ true → ⊥
no_place s Left [] old there no_variable kind =
    true≢false (sym kind ∙ ap (have_heads_of_one_kind is_predicate (side_of s (equation b a))) (sym (same_Some (p (x 0)).left old there)) ∙ no_atom s)
no_place s Left (zero ∷ []) old there no_variable kind = true≢false (ap is_variable (same_Some (x 0) old there) ∙ no_variable)
no_place s Left (zero ∷ k ∷ place) old there no_variable kind = absurd (none-some old there)
no_place s Left (suc k ∷ place) old there no_variable kind = absurd (none-some old there)
no_place s Right [] old there no_variable kind =
    true≢false (sym kind ∙ ap (have_heads_of_one_kind is_predicate (side_of s (equation b a))) (sym (same_Some true_tree old there)) ∙ no_truth s)
no_place s Right (k ∷ place) old there no_variable kind = absurd (none-some old there)

only_literal : (l m : TreeLiteral) (k : ℕ) → slice_get (l ∷ []) k ≡ Some m → l ≡ m
only_literal l m zero there = same_Some l m there
only_literal l m (suc k) there = absurd (none-some m there)

pub none_named :
    (i : ℕ) (s : Side) (j : ℕ) (z : Side) (place : List ℕ) (d : TreeClause)
    → NamedSuperposition is_predicate select_nothing (clause (equation b a ∷ [])) i s (clause (p (x 0) ∷ [])) j z place d → ⊥
none_named i s j z place d n =
    no_place s z place n.old
    (ap (λ (l : TreeLiteral). subterm place (side_of z l)) (only_literal (p (x 0)) n.into j n.into_there) ∙ n.old_there)
    n.no_variable
    (ap (λ (l : TreeLiteral). have_heads_of_one_kind is_predicate (side_of s l) n.old) (only_literal (equation b a) n.from i n.from_there) ∙ n.one_kind)

-- ---- f(a) = b, b = a and f(a) = a

abbrev unit : GroundClause
unit = equation (f a) b ∷ []

abbrev result : GroundClause
result = equation b a ∷ []

abbrev whole : GroundClause
whole = equation (f a) a ∷ []

abbrev both : List TreeClause
both = clause unit ∷ clause result ∷ []

-- a and b are 0, and f(0) is 1
abbrev apart : Interpretation
apart = record { size = 2; rows = record { symbol = 4; arguments = 0 ∷ []; value = 1 } ∷ [] }

-- a ground instance of one of the two is that clause; the first is greater than f(a) = a, the second true
listed :
    (c : TreeClause) (trees : Substitution) (k : ℕ) → k < 2 → get_or both k c ≡ c
    → clause_greater (literals_instance trees c.literals) whole ≡ false → clause_true apart (literals_instance trees c.literals) ≡ true
listed c trees zero within is not_greater =
    absurd (true≢false (ap (λ (d : TreeClause). clause_greater (literals_instance trees d.literals) whole) is ∙ not_greater))
listed c trees (suc zero) within is not_greater =
    sym (ap (λ (d : TreeClause). clause_true apart (literals_instance trees d.literals)) is)
listed c trees (suc (suc k)) within is not_greater = absurd (omega arith)

abbrev Instance : GroundClause → Type 0
Instance g = InstanceOf functions (Contains both) g

abbrev NotGreater : GroundClause → Type 0
NotGreater g = clause_greater g whole ≡ false

instance-true : (g : GroundClause) → Instance g → NotGreater g → clause_true apart g ≡ true
instance-true g it not_greater =
    let made = it.is_instance in
    ap (clause_true apart) made.literals
    ∙ listed it.clause made.trees it.holds.0 it.holds.1 it.holds.2 (ap (λ (h : GroundClause). clause_greater h whole) (sym made.literals) ∙ not_greater)

instances-true : (by : List GroundClause) → All Instance by → All NotGreater by → clauses_true apart by ≡ true
instances-true [] instances none_greater = refl
instances-true (g ∷ gs) instances none_greater =
    and_from (clause_true apart g) (clauses_true apart gs)
    (instance-true g (All-head Instance g gs instances) (All-head NotGreater g gs none_greater))
    (instances-true gs (All-tail Instance g gs instances) (All-tail NotGreater g gs none_greater))

pub not_covered : Covers functions both whole → ⊥
not_covered covered =
    true≢false
    (sym (covered.entailed apart (record { has_value = omega arith; rows_in_range = refl }) (instances-true covered.by covered.instances covered.none_greater)))

-- though they entail it
alone_true : (i : Interpretation) (l : TreeLiteral) → clause_true i (l ∷ []) ≡ true → literal_true_under i no_values l ≡ true
alone_true i l h = ⊎_elim (λ e. e) (λ none. absurd (true≢false (sym none))) (or_cases (literal_true_under i no_values l) false h)

pub entailed : Entails is_predicate (unit ∷ result ∷ []) whole
entailed i ok all =
    let value : Tree → ℕ = tree_value i no_values in
    let parts = and_parts (clause_true i unit) (clauses_true i (result ∷ [])) all in
    let first : value (f a) ≡ value b = eqb-true (value (f a)) (value b) (alone_true i (equation (f a) b) parts.0) in
    let second : value b ≡ value a =
    eqb-true (value b) (value a) (alone_true i (equation b a) (and_parts (clause_true i result) true parts.1).0) in
    or_left (literal_true_under i no_values (equation (f a) a)) false (eq-eqb (value (f a)) (value a) (first ∙ second))

pub instances_not_covered : CoversInstancesOf functions both (clause whole) → ⊥
instances_not_covered covers = not_covered (covers whole (record { trees = all_b; trees_ground = λ v. refl; literals = refl }))

-- ---- p(X0) and p(X1) | r

pub subsumed_instances : CoversInstancesOf functions (clause (p (x 0) ∷ []) ∷ []) (clause (p (x 1) ∷ r ∷ []))
subsumed_instances =
    subsumed_covered is_predicate functions (clause (p (x 0) ∷ [])) (clause (p (x 1) ∷ r ∷ [])) refl
    (record {
      matcher = λ v. x 1;
      function_terms = λ v. refl;
      places = 0 ∷ [];
      different = refl;
      mapped = refl;
      asserted = refl;
    })
