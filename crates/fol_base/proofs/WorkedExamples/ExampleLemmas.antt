-- The worked examples that don't just compute.
use Rattle.std.proofs.Common.{◌≡◌, ℕ, zero, suc, ◌<◌, Bool, true, false, ◌&&◌, ◌||◌, not, List, [], ◌∷◌, refl, ap, sym, ◌∙◌, inl, inr, arith, true≢false, get_or}
use Rattle.std.specs.Prelude.{All, Contains, IsTrue}
use Rattle.std.proofs.lemmas.Bool.{and_parts, or_right}
use Rattle.std.proofs.lemmas.List.Elements.{All-head, All-cons, All-nil}
use Rattle.fol_base.specs.Clause.{TreeClause}
use Rattle.fol_base.specs.Ground.{GroundClause, GroundInstance, literals_instance}
use Rattle.fol_base.specs.Interpretation.{Interpretation, symbol_value, sides_true, literal_true, clause_true, HoldsIn}
use Rattle.fol_base.specs.Tree.{true_tree}
use Rattle.fol_base.specs.Entails.{Entails, IsRefuted}
use Rattle.fol_base.specs.Order.{clause_greater}
use Rattle.fol_base.specs.Selection.{select_nothing, select_negative}
use Rattle.fol_base.specs.GroundInference.{GroundSuperposition, GroundResolution, GroundFactoring, GroundConclusion}
use Rattle.fol_base.specs.Covered.{InstanceOf, Covers}
use Rattle.fol_base.specs.declared.clause.Side.TheVariants.{Left}
use Rattle.fol_base.specs.Examples.{x, a, b, f, p, equation, clause, is_predicate, functions, all_a, p_of_a_alone, p_of_each}
use Rattle.fol_base.specs.Rules.{disequation}

-- p(a) is an instance of p(X0), and of itself
pub instance_over_the_list : GroundInstance functions (clause (p (x 0) ∷ [])) (p a ∷ [])
instance_over_the_list = record { trees = all_a; trees_ground = λ v. refl; literals = refl }

-- the interpretation is one, makes p(a) true and p(b) false
pub p_of_a_without_p_of_b : Entails is_predicate ((p a ∷ []) ∷ []) (p b ∷ []) → ⊥
p_of_a_without_p_of_b entails =
    true≢false (sym (entails p_of_a_alone (record { has_value = omega arith; rows_in_range = refl }) refl))

never_both : (b : Bool) → ((b || false) && ((not b || false) && true)) ≡ false
never_both true = refl
never_both false = refl

-- p(a) and its negation
pub contradiction : IsRefuted is_predicate ((p a ∷ []) ∷ (disequation (p a).left true_tree ∷ []) ∷ [])
contradiction i ok = never_both (literal_true i (p a))

p-of-each : (n : ℕ) → n < 2 → IsTrue (sides_true true (symbol_value p_of_each 6 (n ∷ [])) 1 || false)
p-of-each zero below = refl
p-of-each (suc zero) below = refl
p-of-each (suc (suc n)) below = absurd (omega (arith, below))

-- p(X0) is true where p holds for both values, whatever it has beyond them
pub p_for_each_value : HoldsIn p_of_each (clause (p (x 0) ∷ []))
p_for_each_value ρ within = p-of-each (ρ 0) (within 0)

-- and isn't where it holds for 0 alone
pub p_not_for_each_value : HoldsIn p_of_a_alone (clause (p (x 0) ∷ [])) → ⊥
p_not_for_each_value for_all = true≢false (sym (for_all (λ n. 1) (λ n. omega arith)))

-- p(a) alone is true in the interpretation
pub no_contradiction : IsRefuted is_predicate ((p a ∷ []) ∷ []) → ⊥
no_contradiction refuted =
    true≢false (refuted p_of_a_alone (record { has_value = omega arith; rows_in_range = refl }))

-- f(X0) = b rewrites the inner f(X0) of p(f(f(X0))), both at X0 = a
pub inner_rewritten :
    GroundSuperposition functions select_nothing (clause (equation (f (x 0)) b ∷ [])) (clause (p (f (f (x 0))) ∷ [])) (p (f b) ∷ [])
inner_rewritten = record {
  first_trees = all_a;
  first_ground = λ v. refl;
  second_trees = all_a;
  second_ground = λ v. refl;
  i = 0;
  from_side = Left;
  from = equation (f (x 0)) b;
  from_there = refl;
  from_greater = refl;
  from_eligible = record { nothing_chosen = refl; is_eligible = refl };
  j = 0;
  into_side = Left;
  into = p (f (f (x 0)));
  into_there = refl;
  into_greater = refl;
  into_eligible = inr (refl, record { nothing_chosen = refl; is_eligible = refl });
  place = 0 ∷ 0 ∷ [];
  old = f (x 0);
  old_there = refl;
  old_no_variable = refl;
  concludes = refl;
}

abbrev rewriting : List TreeClause
rewriting = clause (equation (f (x 0)) b ∷ []) ∷ clause (p (f (f (x 0))) ∷ []) ∷ []

-- both clauses are members of the list
pub listed_rewritten : GroundConclusion functions select_nothing (Contains rewriting) (p (f b) ∷ [])
listed_rewritten =
    inl (
      clause (equation (f (x 0)) b ∷ []),
      clause (p (f (f (x 0))) ∷ []),
      (0, omega arith, refl),
      (1, omega arith, refl),
      inner_rewritten,
    )

-- X0 != a is chosen, and dropped at X0 = a
pub chosen_dropped : GroundResolution functions select_negative (clause (p (x 0) ∷ disequation (x 0) a ∷ [])) (p a ∷ [])
chosen_dropped = record {
  trees = all_a;
  trees_ground = λ v. refl;
  i = 1;
  literal_eligible = refl;
  concludes = refl;
}

-- f(X0) = a and f(a) = b: the second is greater, and becomes b != a at X0 = a
pub greater_factored :
    GroundFactoring functions select_nothing (clause (equation (f (x 0)) a ∷ equation (f a) b ∷ []))
    (equation (f a) a ∷ disequation b a ∷ [])
greater_factored = record {
  trees = all_a;
  trees_ground = λ v. refl;
  i = 1;
  side_i = Left;
  literal_i = equation (f a) b;
  i_there = refl;
  i_greater = refl;
  i_eligible = record { nothing_chosen = refl; is_eligible = refl };
  j = 0;
  side_j = Left;
  concludes = refl;
}

-- ---- coverage of p(a) | p(a) by p(a), and not the other way round

abbrev single : GroundClause
single = p a ∷ []

abbrev repeated : GroundClause
repeated = p a ∷ p a ∷ []

abbrev InstanceOfListed : GroundClause → GroundClause → Type 0
InstanceOfListed listed g = InstanceOf functions (Contains (clause listed ∷ [])) g

abbrev NotGreater : GroundClause → GroundClause → Type 0
NotGreater bound g = clause_greater g bound ≡ false

pub repeated_by_single : Covers functions (clause single ∷ []) repeated
repeated_by_single = record {
  by = single ∷ [];
  instances =
      All-cons (InstanceOfListed single) single []
      (record {
        clause = clause single;
        holds = (0, omega arith, refl);
        is_instance = record { trees = all_a; trees_ground = λ v. refl; literals = refl };
      })
      (All-nil (InstanceOfListed single));
  none_greater = All-cons (NotGreater repeated) single [] refl (All-nil (NotGreater repeated));
  entailed = λ i ok h. or_right (literal_true i (p a)) (clause_true i single) (and_parts (clause_true i single) true h).0;
}

only_member : {X : Type 0} (x y : X) (k : ℕ) → k < 1 → get_or (x ∷ []) k y ≡ y → x ≡ y
only_member x y zero h e = e
only_member x y (suc k) h e = absurd (omega arith)

-- an instance of p(a) | p(a) is that clause, which is greater than p(a)
instance_is_greater : (g : GroundClause) → InstanceOfListed repeated g → clause_greater g single ≡ false → ⊥
instance_is_greater g it not_greater =
    let listed : clause repeated ≡ it.clause = only_member (clause repeated) it.clause it.holds.0 it.holds.1 it.holds.2 in
    let same : g ≡ repeated = it.is_instance.literals ∙ ap (λ (d : TreeClause). literals_instance it.is_instance.trees d.literals) (sym listed) in
    true≢false (ap (λ h. clause_greater h single) (sym same) ∙ not_greater)

-- no symbol has a row, so no atom is true
abbrev nothing_true : Interpretation
nothing_true = record { size = 1; rows = [] }

pub single_not_by_repeated : Covers functions (clause repeated ∷ []) single → ⊥
single_not_by_repeated covered = none covered.by covered.instances covered.none_greater covered.entailed
  where
    none : (by : List GroundClause) → All (InstanceOfListed repeated) by → All (NotGreater single) by → Entails is_predicate by single → ⊥
    none [] instances none_greater entailed =
        true≢false (sym (entailed nothing_true (record { has_value = omega arith; rows_in_range = refl }) refl))
    none (g ∷ gs) instances none_greater entailed =
        instance_is_greater g (All-head (InstanceOfListed repeated) g gs instances) (All-head (NotGreater single) g gs none_greater)
