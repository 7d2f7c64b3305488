-- What single conditions of the named inferences and of cutting refuse; and inferences of ground clauses.
use Rattle.std.proofs.Common.{◌≡◌, ℕ, zero, suc, true, false, ◌&&◌, List, [], ◌∷◌, Some, length, get_or, refl, ap, ap₂, sym, ◌∙◌, inl, inr, ⊎_elim, arith}
use Rattle.std.specs.Prelude.{slice_get, remove, IsFalse}
use Rattle.std.proofs.lemmas.Bool.{true≢false}
use Rattle.std.proofs.lemmas.Option.{none-some, same_Some}
use Rattle.plain_types.specs.Names.{positive_of, negative_of}
use Rattle.fol_base.specs.Tree.{Tree, variable, tree_eq, true_tree, is_truth}
use Rattle.fol_base.specs.Instance.{Substitution, instance}
use Rattle.fol_base.specs.Place.{subterm}
use Rattle.fol_base.specs.Clause.{TreeLiteral, TreeClause}
use Rattle.fol_base.specs.Rules.{disequation}
use Rattle.fol_base.specs.Selection.{select_nothing, select_negative, eligible_in_instance}
use Rattle.fol_base.specs.Unifier.{IsMostGeneralUnifier, IsMostGeneralUnifierApart}
use Rattle.fol_base.specs.GroundInference.{GroundSuperposition}
use Rattle.fol_base.specs.Examples.{x, a, b, f, f₂, p, r, equation, clause, is_predicate, functions, all_a}
use Rattle.fol_base.specs.declared.clause.Side.TheVariants.{Left, Right}
use Rattle.kernel_steps.specs.Derivation.{under_names}
use Rattle.kernel_steps.specs.Examples.{not_p, not_true}
use Rattle.kernel_steps.specs.Inference.{have_heads_of_one_kind, other_side_not_above, NamedSuperposition, NamedResolution, NamedFactoring, CutsBy}
use Rattle.laws_calculus.proofs.AboutLifting.UnifierLemmas.{arguments_of, first_of, rest_of, unify_apart, is_most_general_apart}

-- ---- a right side, a negative literal; one clause under two substitutions

pub by_right_side :
    GroundSuperposition functions select_nothing (clause (equation a b ∷ [])) (clause (disequation (f b) a ∷ [])) (disequation (f a) a ∷ [])
by_right_side = record {
  first_trees = all_a;
  first_ground = λ v. refl;
  second_trees = all_a;
  second_ground = λ v. refl;
  i = 0;
  from_side = Right;
  from = equation a b;
  from_there = refl;
  from_greater = refl;
  from_eligible = record { nothing_chosen = refl; is_eligible = refl };
  j = 0;
  into_side = Left;
  into = disequation (f b) a;
  into_there = refl;
  into_greater = refl;
  into_eligible = inl (refl, refl);
  place = 0 ∷ [];
  old = b;
  old_there = refl;
  old_no_variable = refl;
  concludes = refl;
}

-- it is named too, by unifiers of b and b
by_unifiers :
    (σ τ : Substitution) → IsMostGeneralUnifierApart b b σ τ
    → NamedSuperposition is_predicate select_nothing (clause (equation a b ∷ [])) 0 Right (clause (disequation (f b) a ∷ [])) 0 Left (0 ∷ [])
    (clause (disequation (f a) a ∷ []))
by_unifiers σ τ general = record {
  from = equation a b;
  from_there = refl;
  into = disequation (f b) a;
  into_there = refl;
  old = b;
  old_there = refl;
  no_variable = refl;
  one_kind = refl;
  first_unifier = σ;
  second_unifier = τ;
  most_general = general;
  from_ordered = refl;
  into_ordered = refl;
  from_eligible = record { nothing_chosen = refl; is_eligible = refl };
  into_eligible = inl (refl, refl);
  others_differ = λ positive root. absurd (true≢false (sym positive));
  concludes = refl;
  names = refl;
}

pub named_by_right_side :
    NamedSuperposition is_predicate select_nothing (clause (equation a b ∷ [])) 0 Right (clause (disequation (f b) a ∷ [])) 0 Left (0 ∷ [])
    (clause (disequation (f a) a ∷ []))
named_by_right_side =
    let m = unify_apart all_a all_a b b refl in
    by_unifiers m.first m.second (is_most_general_apart b b m)

-- f(f(a)) = b into f(f(f(a))) = b
pub of_one_clause :
    GroundSuperposition functions select_nothing (clause (equation (f (f (x 0))) b ∷ [])) (clause (equation (f (f (x 0))) b ∷ [])) (equation (f b) b ∷ [])
of_one_clause = record {
  first_trees = all_a;
  first_ground = λ v. refl;
  second_trees = λ v. f a;
  second_ground = λ v. refl;
  i = 0;
  from_side = Left;
  from = equation (f (f (x 0))) b;
  from_there = refl;
  from_greater = refl;
  from_eligible = record { nothing_chosen = refl; is_eligible = refl };
  j = 0;
  into_side = Left;
  into = equation (f (f (x 0))) b;
  into_there = refl;
  into_greater = refl;
  into_eligible = inr (refl, record { nothing_chosen = refl; is_eligible = refl });
  place = 0 ∷ [];
  old = f (x 0);
  old_there = refl;
  old_no_variable = refl;
  concludes = refl;
}

-- ---- nothing to unify

same_already : (t : Tree) → IsMostGeneralUnifier t t variable
same_already t = record { unifies = refl; is_general = λ ρ unifies. (ρ, λ v. refl) }

pub named_resolution : NamedResolution select_nothing (clause (disequation a a ∷ [])) 0 (clause [])
named_resolution = record {
  literal = disequation a a;
  literal_there = refl;
  unifier = variable;
  most_general = same_already a;
  is_eligible = refl;
  concludes = refl;
  names = refl;
}

pub named_factoring :
    NamedFactoring is_predicate select_nothing (clause (equation b a ∷ equation b a ∷ [])) 0 Left 1 Left (clause (disequation a a ∷ equation b a ∷ []))
named_factoring = record {
  literal_i = equation b a;
  i_there = refl;
  literal_j = equation b a;
  j_there = refl;
  one_kind = refl;
  unifier = variable;
  most_general = same_already b;
  i_ordered = refl;
  i_eligible = record { nothing_chosen = refl; is_eligible = refl };
  concludes = refl;
  names = refl;
}

-- ---- superpositions

pub smaller_side :
    (d : TreeClause) → NamedSuperposition is_predicate select_nothing (clause (equation b a ∷ [])) 0 Left (clause (equation (f a) b ∷ [])) 0 Right [] d → ⊥
smaller_side d n =
    let into_is : equation (f a) b ≡ n.into = same_Some (equation (f a) b) n.into n.into_there in
    true≢false (sym (ap (λ (l : TreeLiteral). other_side_not_above n.second_unifier Right l) into_is ∙ n.into_ordered))

pub not_maximal :
    (d : TreeClause)
    → NamedSuperposition is_predicate select_nothing (clause (equation b a ∷ [])) 0 Left (clause (disequation b a ∷ disequation (f b) a ∷ [])) 0 Left [] d
    → ⊥
not_maximal d n = ⊎_elim (λ h. true≢false (sym h.1)) (λ h. true≢false (sym h.1.is_eligible)) n.into_eligible

pub not_chosen :
    (d : TreeClause)
    → NamedSuperposition is_predicate select_negative (clause (equation b a ∷ [])) 0 Left (clause (equation (f b) a ∷ disequation a a ∷ [])) 0 Left (0 ∷ []) d
    → ⊥
not_chosen d n = ⊎_elim (λ h. true≢false (sym h.1)) (λ h. true≢false (sym h.1.is_eligible)) n.into_eligible

pub other_kind :
    (d : TreeClause) → NamedSuperposition is_predicate select_nothing (clause (equation (x 0) b ∷ [])) 0 Left (clause (p a ∷ [])) 0 Left [] d → ⊥
other_kind d n =
    let from_is : equation (x 0) b ≡ n.from = same_Some (equation (x 0) b) n.from n.from_there in
    let into_is : p a ≡ n.into = same_Some (p a) n.into n.into_there in
    let old_is : (p a).left ≡ n.old = ap (λ (l : TreeLiteral). l.left) into_is ∙ same_Some n.into.left n.old n.old_there in
    true≢false (sym (ap₂ (λ (l : TreeLiteral) (t : Tree). have_heads_of_one_kind is_predicate l.left t) from_is old_is ∙ n.one_kind))

-- the variables 0 and 1 become these
abbrev first_two : Tree → Tree → Substitution
first_two s t zero = s
first_two s t (suc v) = t

abbrev exchange : TreeLiteral
exchange = equation (f₂ (x 0) (x 1)) (f₂ (x 1) (x 0))

-- f(b,a) is greater than f(a,b)
exchange_not_ordered : (σ : Substitution) → f₂ (σ 0) (σ 1) ≡ f₂ a b → other_side_not_above σ Left exchange ≡ true → ⊥
exchange_not_ordered σ equal ordered =
    let first_is : σ 0 ≡ a = ap (λ t. first_of (arguments_of t)) equal in
    let second_is : σ 1 ≡ b = ap (λ t. first_of (rest_of (arguments_of t))) equal in
    true≢false (sym (ap₂ (λ s t. other_side_not_above (first_two s t) Left exchange) (sym first_is) (sym second_is) ∙ ordered))

pub made_smaller :
    (d : TreeClause)
    → NamedSuperposition is_predicate select_nothing (clause (exchange ∷ [])) 0 Left (clause (p (f₂ a b) ∷ [])) 0 Left (0 ∷ []) d → ⊥
made_smaller d n =
    let from_is : exchange ≡ n.from = same_Some exchange n.from n.from_there in
    let into_is : p (f₂ a b) ≡ n.into = same_Some (p (f₂ a b)) n.into n.into_there in
    let old_is : f₂ a b ≡ n.old =
    same_Some (f₂ a b) n.old (ap (λ (l : TreeLiteral). subterm (0 ∷ []) l.left) into_is ∙ n.old_there) in
    exchange_not_ordered n.first_unifier
    (ap (λ (l : TreeLiteral). instance n.first_unifier l.left) from_is ∙ n.most_general.unifies ∙ ap (instance n.second_unifier) (sym old_is))
    (ap (λ (l : TreeLiteral). other_side_not_above n.first_unifier Left l) from_is ∙ n.from_ordered)

pub made_equal :
    (d : TreeClause)
    → NamedSuperposition is_predicate select_nothing (clause (equation (f (x 0)) (x 0) ∷ [])) 0 Left (clause (equation (f a) a ∷ [])) 0 Left [] d → ⊥
made_equal d n =
    let from_is : equation (f (x 0)) (x 0) ≡ n.from = same_Some (equation (f (x 0)) (x 0)) n.from n.from_there in
    let into_is : equation (f a) a ≡ n.into = same_Some (equation (f a) a) n.into n.into_there in
    let old_is : f a ≡ n.old = ap (λ (l : TreeLiteral). l.left) into_is ∙ same_Some n.into.left n.old n.old_there in
    let equal : f (n.first_unifier 0) ≡ f a =
    ap (λ (l : TreeLiteral). instance n.first_unifier l.left) from_is ∙ n.most_general.unifies ∙ ap (instance n.second_unifier) (sym old_is) in
    let first_is : n.first_unifier 0 ≡ a = ap (λ t. first_of (arguments_of t)) equal in
    true≢false
    (ap (λ t. tree_eq t a) (sym first_is)
    ∙ ap₂ (λ (l m : TreeLiteral). tree_eq (instance n.first_unifier l.right) (instance n.second_unifier m.right)) from_is into_is
    ∙ n.others_differ (ap (λ (l : TreeLiteral). l.positive) (sym into_is)) refl)

pub superposition_lost_name :
    NamedSuperposition is_predicate select_nothing (under_names (equation b a ∷ []) (positive_of 1 ∷ [])) 0 Left (clause (equation (f b) a ∷ [])) 0 Left (0 ∷ [])
    (clause (equation (f a) a ∷ [])) → ⊥
superposition_lost_name n = let lengths : 0 ≡ 1 = ap length n.names in absurd (omega (arith, lengths))

-- ---- resolutions

pub resolution_not_maximal : (d : TreeClause) → NamedResolution select_nothing (clause (disequation a a ∷ disequation b b ∷ [])) 0 d → ⊥
resolution_not_maximal d n = true≢false (sym n.is_eligible)

pub resolution_not_maximal_made : (d : TreeClause) → NamedResolution select_nothing (clause (disequation (x 0) a ∷ disequation b b ∷ [])) 0 d → ⊥
resolution_not_maximal_made d n =
    let literal_is : disequation (x 0) a ≡ n.literal = same_Some (disequation (x 0) a) n.literal n.literal_there in
    let first_is : n.unifier 0 ≡ a =
    ap (λ (l : TreeLiteral). instance n.unifier l.left) literal_is
    ∙ n.most_general.unifies
    ∙ ap (λ (l : TreeLiteral). instance n.unifier l.right) (sym literal_is) in
    true≢false
    (sym
    (ap (λ t. eligible_in_instance select_nothing (disequation (x 0) a ∷ disequation b b ∷ []) (λ v. t) 0 false) (sym first_is)
    ∙ n.is_eligible))

pub resolution_not_chosen : (d : TreeClause) → NamedResolution select_negative (clause (disequation a a ∷ disequation (f a) (f a) ∷ [])) 0 d → ⊥
resolution_not_chosen d n = true≢false (sym n.is_eligible)

pub resolution_lost_name : NamedResolution select_nothing (under_names (disequation a a ∷ []) (positive_of 1 ∷ [])) 0 (clause []) → ⊥
resolution_lost_name n = let lengths : 0 ≡ 1 = ap length n.names in absurd (omega (arith, lengths))

-- ---- factorings

pub factoring_smaller_side :
    (d : TreeClause) → NamedFactoring is_predicate select_nothing (clause (equation a b ∷ equation a a ∷ [])) 0 Left 1 Left d → ⊥
factoring_smaller_side d n =
    let i_is : equation a b ≡ n.literal_i = same_Some (equation a b) n.literal_i n.i_there in
    true≢false (sym (ap (λ (l : TreeLiteral). other_side_not_above n.unifier Left l) i_is ∙ n.i_ordered))

pub factoring_made_smaller :
    (d : TreeClause)
    → NamedFactoring is_predicate select_nothing (clause (exchange ∷ equation (f₂ a b) a ∷ [])) 0 Left 1 Left d → ⊥
factoring_made_smaller d n =
    let i_is : exchange ≡ n.literal_i = same_Some exchange n.literal_i n.i_there in
    let j_is : equation (f₂ a b) a ≡ n.literal_j = same_Some (equation (f₂ a b) a) n.literal_j n.j_there in
    exchange_not_ordered n.unifier
    (ap (λ (l : TreeLiteral). instance n.unifier l.left) i_is
    ∙ n.most_general.unifies
    ∙ ap (λ (l : TreeLiteral). instance n.unifier l.left) (sym j_is))
    (ap (λ (l : TreeLiteral). other_side_not_above n.unifier Left l) i_is ∙ n.i_ordered)

pub factoring_not_maximal :
    (d : TreeClause) → NamedFactoring is_predicate select_nothing (clause (equation b a ∷ equation b b ∷ [])) 0 Left 1 Left d → ⊥
factoring_not_maximal d n = true≢false (sym n.i_eligible.is_eligible)

pub factoring_other_kind :
    (d : TreeClause) → NamedFactoring is_predicate select_nothing (clause (equation (x 0) b ∷ p a ∷ [])) 0 Left 1 Left d → ⊥
factoring_other_kind d n =
    let i_is : equation (x 0) b ≡ n.literal_i = same_Some (equation (x 0) b) n.literal_i n.i_there in
    let j_is : p a ≡ n.literal_j = same_Some (p a) n.literal_j n.j_there in
    true≢false (sym (ap₂ (λ (l m : TreeLiteral). have_heads_of_one_kind is_predicate l.left m.left) i_is j_is ∙ n.one_kind))

pub factoring_lost_name :
    NamedFactoring is_predicate select_nothing (under_names (equation b a ∷ equation b a ∷ []) (positive_of 1 ∷ [])) 0 Left 1 Left
    (clause (disequation a a ∷ equation b a ∷ [])) → ⊥
factoring_lost_name n = let lengths : 0 ≡ 1 = ap length n.names in absurd (omega (arith, lengths))

-- ---- cuts

pub not_asserted : CutsBy is_predicate (under_names (p a ∷ []) (negative_of 0 ∷ [])) (clause (not_p a ∷ r ∷ [])) (clause (r ∷ [])) → ⊥
not_asserted h = true≢false (sym h.asserted)

abbrev truths : TreeLiteral
truths = equation true_tree true_tree

-- the first literal is `$true = $true`, and without the second one the first would be left
cut_at :
    (j : ℕ) (l : TreeLiteral) → slice_get (truths ∷ r ∷ []) j ≡ Some l → IsFalse (is_truth l.left && is_truth l.right)
    → r ∷ [] ≡ remove (truths ∷ r ∷ []) j → ⊥
cut_at zero l there none gives = true≢false (ap (λ (k : TreeLiteral). is_truth k.left && is_truth k.right) (same_Some truths l there) ∙ none)
cut_at (suc zero) l there none gives = true≢false (sym (ap (λ (ls : List TreeLiteral). is_truth (get_or ls 0 r).left) gives))
cut_at (suc (suc j)) l there none gives = absurd (none-some l there)

pub of_truths : CutsBy is_predicate (clause (not_true ∷ [])) (clause (equation true_tree true_tree ∷ r ∷ [])) (clause (r ∷ [])) → ⊥
of_truths h = cut_at h.j h.literal h.literal_there h.no_truths h.gives
