-- Superposition from a side into a place, by a most general unifier: where there is none, and what it is where the order allows it.
use Rattle.std.proofs.Common.{◌≡◌, ◌⊎◌, ℕ, ◌<◌, ◌≤◌, Bool, true, false, ◌&&◌, ◌||◌, Option, None, Some, List, [], ◌++◌, length, map, refl, ap, ap₂, sym, ◌∙◌, subst, inl, inr, ⊎_elim, arith}
use Rattle.std.specs.Prelude.{sum_by}
use Rattle.std.specs.List.{AllByRecursion, list_all}
use Rattle.std.specs.Option.{option_map}
use Rattle.std.proofs.lemmas.Bool.{true≢false, cond-true, and_from, or_left, or_right, lt-ltb, cases_Bool}
use Rattle.std.proofs.lemmas.List.{map-append, length-map}
use Rattle.std.proofs.lemmas.Option.{same_Some}
use Rattle.plain_types.specs.declared.sequence.NameLit.{NameLit}
use Rattle.fol_base.specs.Tree.{Tree, tree_size, trees_of, trees_variables}
use Rattle.fol_base.specs.Instance.{Substitution, instance, substitution}
use Rattle.fol_base.specs.InstanceLaws.{after}
use Rattle.fol_base.specs.Place.{subterm}
use Rattle.fol_base.specs.Clause.{TreeLiteral, TreeClause, LiteralVariablesBelow, literal_size, clause_size, clause_instance, clause_variables}
use Rattle.fol_base.specs.Ground.{literals_instance}
use Rattle.fol_base.specs.Canonical.{renaming, bound_of}
use Rattle.fol_base.specs.Kind.{is_function_term, is_literal}
use Rattle.fol_base.specs.Numbering.{with_variables}
use Rattle.fol_base.specs.Selection.{SelectionMode, chosen, eligible}
use Rattle.fol_base.specs.Sides.{side_of}
use Rattle.fol_base.specs.Unifier.{IsUnifierApart}
use Rattle.fol_base.specs.declared.clause.Side.TheVariants.{Left, Right}
use Rattle.fol_base.specs.declared.limits.TheConstants.{MOST_SYMBOLS, MOST_BOUND_SYMBOLS}
use Rattle.fol_base.proofs.AboutClauses.InferenceLemmas.{superpositions_in_instances}
use Rattle.fol_base.proofs.AboutInstances.InstanceLemmas.{literals_instance-again}
use Rattle.fol_base.proofs.AboutTerms.KindLemmas.{puts_no_truth}
use Rattle.fol_base.proofs.AboutCanonical.NumberingLemmas.{with_variables-have}
use Rattle.fol_base.proofs.WorkedExamples.TestLemmas.{list_all-item}
use Rattle.kernel_steps.specs.Conclusion.{concludes, verdict_of, binding_fault, clause_with, binds, bound_literals, by_two}
use Rattle.kernel_steps.specs.Inference.{NamedSuperposition}
use Rattle.kernel_steps.specs.Names.{sorted_names}
use Rattle.kernel_steps.specs.Named.{IsInference}
use Rattle.kernel_steps.specs.Parents.{Parent}
use Rattle.kernel_steps.specs.Symbols.{symbols_pass, literal_symbols_pass}
use Rattle.kernel_steps.proofs.AboutCalls.SymbolLemmas.{side-passes, subterm-passes}
use Rattle.unifier.specs.Renaming.{AreNamedTerms}
use Rattle.unifier.specs.SolvedForm.{SolvedForm, substitution_of}
use Rattle.unifier.proofs.AboutClasses.SharedLemmas.{shared_put_function_terms}
use Rattle.kernel_steps.specs.Sized.{is_large, SizedSuperposition}
use Rattle.kernel_steps.specs.Lines.{is_small_term, clause_parents}
use Rattle.eq_rules.specs.Inferences.{IsConcluded, IsMade}
use Rattle.eq_rules.specs.declared.inference.Made.TheVariants.{Heavy}
use Rattle.eq_rules.proofs.AboutConclusions.BindingLemmas.{bound_functions, bound_small, bound_symbols}
use Rattle.eq_rules.proofs.AboutFactoring.FactorAnswers.{sides_size}
use Rattle.eq_rules.proofs.AboutConclusions.ConclusionLemmas.{conclusion_numbered, bindings_numbered, binds_renamed, numbered-has, appended_variables}
use Rattle.eq_rules.proofs.AboutConclusions.SideLemmas.{Kinds}
use Rattle.eq_rules.proofs.AboutConclusions.StepLemmas.{renaming-no_truth}
use Rattle.eq_rules.proofs.AboutConclusions.WideLemmas.{Has, Has-front, Has-back, numbered, literals-below, renamed-literals, renamed-literals_size}
use Rattle.superpose.specs.Superposing.{para_key, allows, are_alike, StartsAt, EntersAt, SuperposesBy}
use Rattle.superpose.specs.Concluding.{superposed_at, GivesNumbered}
use Rattle.eq_rules.specs.declared.concluding.LiteralSide.{LiteralSide}
use Rattle.superpose.specs.declared.sites.LiteralPlace.{LiteralPlace}
use Rattle.superpose.proofs.AboutSites.AllowLemmas.{Allowed, allows-parts, allows-from, allowed_lifts, coincide_says, named-allowed}
use Rattle.superpose.proofs.AboutSteps.ApartLemmas.{wide_by, left_fresh, right_fresh, wide_by-literals, wide_by-back, wide_apart}
use Rattle.superpose.proofs.AboutSteps.BoundLemmas.{left_terms_small, right_terms_small, left_terms_pass, right_terms_pass}
use Rattle.superpose.proofs.AboutSites.KindLemmas.{kinds-alike}
use Rattle.superpose.proofs.AboutSteps.TermsLemmas.{left-many, right-many, left-below, right-below, s-below, old-below, general, left-size, right-size, plain, superposition_gives}
use Rattle.list_lemmas.proofs.Numbers.{not-less}
use Rattle.list_lemmas.proofs.Bools.{two-true}
use Rattle.kernel_steps.specs.Inference as kernel
use Rattle.kernel_steps.specs.declared.step.Step.TheVariants as step
use Rattle.kbo_order.proofs.AboutMultisets.ClauseLoops.{mapped-size}

-- ---- the verdict

verdict_by_two :
    (first second : Option Parent) (c d e : TreeClause) (first_bind second_bind : List Tree)
    (rule : List TreeLiteral → List TreeLiteral → Option (List TreeLiteral))
    → first ≡ Some (record { clause = c; introduces = false }) → second ≡ Some (record { clause = d; introduces = false })
    → binds first_bind c ≡ true → binds second_bind d ≡ true
    → rule (literals_instance (substitution first_bind) c.literals) (literals_instance (substitution second_bind) d.literals) ≡ Some e.literals
    → e.names ≡ sorted_names (c.names ++ d.names)
    → by_two first first_bind second second_bind rule ≡ concludes e
verdict_by_two first second c d e first_bind second_bind rule there second_there first_bound second_bound gives names =
    ap₂ (λ (o u : Option Parent). by_two o first_bind u second_bind rule) there second_there
    ∙ cond-true (binds first_bind c && binds second_bind d)
    (verdict_of (option_map (clause_with (c.names ++ d.names)) (rule (bound_literals first_bind c) (bound_literals second_bind d)))) binding_fault
    (and_from (binds first_bind c) (binds second_bind d) first_bound second_bound)
    ∙ ap (λ o. verdict_of (option_map (clause_with (c.names ++ d.names)) o)) gives
    ∙ ap (λ (ns : List NameLit). let made : TreeClause = record { literals = e.literals; names = ns } in concludes made) (sym names)

-- ---- a name, before a unifier

module _
    (p : ℕ → Bool) (mode : SelectionMode) (clauses : ℕ → Option TreeClause)
    (number : ℕ) (c : TreeClause) (there : clauses number ≡ Some c)
    (partner : ℕ) (d : TreeClause) (partner_there : clauses partner ≡ Some d)
    (s : LiteralSide) (t : LiteralPlace) where
  -- an inference of the name is one of these clauses
  named_here :
      (e : TreeClause) → IsInference p mode clauses (para_key number s partner t) e
      → NamedSuperposition p mode c s.literal s.side d t.at.literal t.at.side t.place e
  named_here e it =
      subst (λ (q : TreeClause). NamedSuperposition p mode c s.literal s.side q t.at.literal t.at.side t.place e)
      (same_Some it.second_clause d (sym it.second_there ∙ partner_there))
      (subst (λ (q : TreeClause). NamedSuperposition p mode q s.literal s.side it.second_clause t.at.literal t.at.side t.place e)
      (same_Some it.first_clause c (sym it.first_there ∙ there)) it.infers)

  module _ (starts : StartsAt c.literals s) (enters : EntersAt d.literals t) where
    from_is : (e : TreeClause) (n : NamedSuperposition p mode c s.literal s.side d t.at.literal t.at.side t.place e) → n.from ≡ starts.literal
    from_is e n = same_Some n.from starts.literal (sym n.from_there ∙ starts.there)

    into_is : (e : TreeClause) (n : NamedSuperposition p mode c s.literal s.side d t.at.literal t.at.side t.place e) → n.into ≡ enters.literal
    into_is e n = same_Some n.into enters.literal (sym n.into_there ∙ enters.there)

    old_is : (e : TreeClause) (n : NamedSuperposition p mode c s.literal s.side d t.at.literal t.at.side t.place e) → n.old ≡ enters.old
    old_is e n =
        same_Some n.old enters.old
        (sym n.old_there ∙ ap (λ (k : TreeLiteral). subterm t.place (side_of t.at.side k)) (into_is e n) ∙ enters.old_there)

    unifies_here :
        (e : TreeClause) (n : NamedSuperposition p mode c s.literal s.side d t.at.literal t.at.side t.place e)
        → IsUnifierApart (side_of s.side starts.literal) enters.old n.first_unifier n.second_unifier
    unifies_here e n =
        sym (ap (λ (k : TreeLiteral). instance n.first_unifier (side_of s.side k)) (from_is e n))
        ∙ n.most_general.unifies ∙ ap (instance n.second_unifier) (old_is e n)

    pub unlike_refused :
        is_literal p starts.literal ≡ true → is_literal p enters.literal ≡ true
        → are_alike s t starts.literal enters.literal enters.old ≡ false
        → (e : TreeClause) → IsInference p mode clauses (para_key number s partner t) e → ⊥
    unlike_refused l_kind m_kind refused e it =
        let n = named_here e it in
        let one_kind : kernel.have_heads_of_one_kind p (side_of s.side starts.literal) enters.old ≡ true =
        sym (ap₂ (λ (k : TreeLiteral) (o : Tree). kernel.have_heads_of_one_kind p (side_of s.side k) o) (from_is e n) (old_is e n)) ∙ n.one_kind in
        true≢false
        (sym
        (kinds-alike p s t starts.literal enters.literal enters.old l_kind m_kind starts.no_truth enters.no_truth enters.old_there one_kind)
        ∙ refused)

    pub apart_refused :
        ((ρ π : Substitution) → IsUnifierApart (side_of s.side starts.literal) enters.old ρ π → ⊥)
        → (e : TreeClause) → IsInference p mode clauses (para_key number s partner t) e → ⊥
    apart_refused none e it =
        let n = named_here e it in none n.first_unifier n.second_unifier (unifies_here e n)

  -- ---- by a unifier

  module _
      (b : SolvedForm) (r : SuperposesBy b c s d t) (left right : List Tree)
      (h : AreNamedTerms b (bound_of (clause_variables c)) (bound_of (clause_variables d)) left right) where
    abbrev l : TreeLiteral
    l = r.starts.literal

    abbrev m : TreeLiteral
    m = r.enters.literal

    -- under any unifiers the literals are instances of those under the terms
    onward :
        (terms : List Tree) (ls : List TreeLiteral) (ρ another : Substitution)
        → AllByRecursion (LiteralVariablesBelow (length terms)) ls
        → ((v : ℕ) → v < length terms → ρ v ≡ instance another (substitution terms v))
        → literals_instance another (literals_instance (substitution terms) ls) ≡ literals_instance ρ ls
    onward terms ls ρ another below goes_on =
        literals_instance-again another (substitution terms) ls
        ∙ sym (literals-below (length terms) ρ (after another (substitution terms)) ls below goes_on)

    pub superposition_not_allowed :
        allows c.literals s d.literals t (chosen mode d.literals) (substitution left) (substitution right) ≡ false
        → (e : TreeClause) → IsInference p mode clauses (para_key number s partner t) e → ⊥
    superposition_not_allowed refused e it =
        let n = named_here e it in
        let by = (general c s d t b r left right h).is_general n.first_unifier n.second_unifier (unifies_here r.starts r.enters e n) in
        let allowed : Allowed c.literals s d.literals t (chosen mode d.literals) n.first_unifier n.second_unifier l m =
        subst (λ (k : TreeLiteral). Allowed c.literals s d.literals t (chosen mode d.literals) n.first_unifier n.second_unifier k m)
        (from_is r.starts r.enters e n)
        (subst (λ (k : TreeLiteral). Allowed c.literals s d.literals t (chosen mode d.literals) n.first_unifier n.second_unifier n.from k)
        (into_is r.starts r.enters e n) (named-allowed p mode c s d t e n)) in
        true≢false
        (sym
        (allows-from c.literals s d.literals t (chosen mode d.literals) l m r.starts.there r.enters.there (substitution left) (substitution right)
        (allowed_lifts c.literals s d.literals t (chosen mode d.literals) l m r.starts.there r.enters.there
        by.0 (substitution left) (substitution right) n.first_unifier n.second_unifier
        (onward left c.literals n.first_unifier by.0 (left-below c s d t b r left right h) by.1)
        (onward right d.literals n.second_unifier by.0 (right-below c s d t b r left right h) by.2)
        allowed))
        ∙ refused)

    -- ---- the inference

    module _
        (unchosen : chosen mode c.literals ≡ None)
        (into_unchosen : m.positive ≡ true → chosen mode d.literals ≡ None)
        (kinds : Kinds p (side_of s.side l) r.enters.old)
        (allowed : allows c.literals s d.literals t (chosen mode d.literals) (substitution left) (substitution right) ≡ true) where
      superposition_sized :
          (order : List ℕ) → Has order (trees_variables (trees_of left)) → Has order (trees_variables (trees_of right))
          → (e : TreeClause) (heavy : Bool)
          → superposed_at s t (literals_instance (wide_by left_fresh order left) c.literals) (literals_instance (wide_by right_fresh order right) d.literals)
          ≡ Some e.literals
          → e.names ≡ sorted_names (c.names ++ d.names)
          → (is_large (clause_instance (wide_by left_fresh order left) c)
          || (is_large (clause_instance (wide_by right_fresh order right) d) || is_large e)) ≡ heavy
          → SizedSuperposition p mode c s.literal s.side d t.at.literal t.at.side t.place e heavy
      superposition_sized order has_left has_right e heavy gives names size =
          let σ : Substitution = wide_by left_fresh order left in
          let τ : Substitution = wide_by right_fresh order right in
          let choice : Option ℕ = chosen mode d.literals in
          let under : Allowed c.literals s d.literals t choice σ τ l m =
          allowed_lifts c.literals s d.literals t choice l m r.starts.there r.enters.there
          (numbered order) σ τ (substitution left) (substitution right)
          (wide_by-back left_fresh order left c.literals has_left (left-below c s d t b r left right h))
          (wide_by-back right_fresh order right d.literals has_right (right-below c s d t b r left right h))
          (allows-parts c.literals s d.literals t choice l m r.starts.there r.enters.there (substitution left) (substitution right) allowed) in
          record {
            named = record {
              from = l;
              from_there = r.starts.there;
              into = m;
              into_there = r.enters.there;
              old = r.enters.old;
              old_there = r.enters.old_there;
              no_variable = r.enters.no_variable;
              one_kind = kinds.calculus;
              first_unifier = σ;
              second_unifier = τ;
              most_general =
                  wide_apart order left right (side_of s.side l) r.enters.old (s-below c s d t b r left right h) (old-below c s d t b r left right h)
                  has_left has_right (general c s d t b r left right h);
              from_ordered = under.from_ordered;
              into_ordered = under.into_ordered;
              from_eligible = record {
                nothing_chosen = unchosen;
                is_eligible = ap (λ o. eligible (literals_instance σ c.literals) s.literal o true) unchosen ∙ under.from_eligible;
              };
              into_eligible =
                  ⊎_elim
                  (λ positive.
                  inr (
                    positive,
                    record {
                      nothing_chosen = into_unchosen positive;
                      is_eligible = ap (eligible (literals_instance τ d.literals) t.at.literal choice) (sym positive) ∙ under.into_eligible;
                    },
                  ))
                  (λ negative.
                  inl (negative, ap (eligible (literals_instance τ d.literals) t.at.literal choice) (sym negative) ∙ under.into_eligible))
                  (cases_Bool m.positive);
              others_differ = coincide_says m.positive _ t.place under.differ;
              concludes = gives;
              names = names;
            };
            size = size;
          }

      -- the sizes of both clauses under it
      left_size_under :
          (order : List ℕ) → clause_size (clause_instance (wide_by left_fresh order left) c) ≡ clause_size (clause_instance (substitution_of b Left) c)
      left_size_under order =
          ap (sum_by literal_size) (wide_by-literals left_fresh order left c.literals (left-below c s d t b r left right h))
          ∙ renamed-literals_size order (literals_instance (substitution left) c.literals) ∙ left-size c s d t b r left right h

      right_size_under :
          (order : List ℕ) → clause_size (clause_instance (wide_by right_fresh order right) d) ≡ clause_size (clause_instance (substitution_of b Right) d)
      right_size_under order =
          ap (sum_by literal_size) (wide_by-literals right_fresh order right d.literals (right-below c s d t b r left right h))
          ∙ renamed-literals_size order (literals_instance (substitution right) d.literals) ∙ right-size c s d t b r left right h

      under_order :
          (order : List ℕ) (ks : List TreeLiteral)
          → superposed_at s t (literals_instance (substitution left) c.literals) (literals_instance (substitution right) d.literals) ≡ Some ks
          → superposed_at s t (literals_instance (wide_by left_fresh order left) c.literals) (literals_instance (wide_by right_fresh order right) d.literals)
          ≡ Some (literals_instance (renaming order) ks)
      under_order order ks given =
          ap₂ (superposed_at s t)
          (wide_by-literals left_fresh order left c.literals (left-below c s d t b r left right h))
          (wide_by-literals right_fresh order right d.literals (right-below c s d t b r left right h))
          ∙ superpositions_in_instances (renaming order) (literals_instance (substitution left) c.literals)
          (literals_instance (substitution right) d.literals) ks s.literal t.at.literal s.side t.at.side t.place (renaming-no_truth order) given

      pub superposition_heavy :
          (MOST_SYMBOLS < clause_size (clause_instance (substitution_of b Left) c))
          ⊎ ((MOST_SYMBOLS < clause_size (clause_instance (substitution_of b Right) d))
          ⊎ (MOST_SYMBOLS < sum_by literal_size (plain c s d t b r left right h)))
          → IsMade p mode clauses (para_key number s partner t) Heavy
      superposition_heavy large =
          let order : List ℕ = with_variables [] (trees_variables (trees_of (left ++ right))) in
          let has : Has order (trees_variables (trees_of left) ++ trees_variables (trees_of right)) =
          subst (λ (vs : List ℕ). Has order vs) (appended_variables left right) (with_variables-have [] (trees_variables (trees_of (left ++ right)))) in
          let ks : List TreeLiteral = plain c s d t b r left right h in
          let e : TreeClause = record { literals = literals_instance (renaming order) ks; names = sorted_names (c.names ++ d.names) } in
          let first : Bool = is_large (clause_instance (wide_by left_fresh order left) c) in
          let second : Bool = is_large (clause_instance (wide_by right_fresh order right) d) in
          let made : clause_size e ≡ sum_by literal_size ks = renamed-literals_size order ks in
          let heavy : (first || (second || is_large e)) ≡ true =
          ⊎_elim
          (λ over.
          or_left first (second || is_large e)
          (lt-ltb MOST_SYMBOLS (clause_size (clause_instance (wide_by left_fresh order left) c)) (omega (arith, left_size_under order, over))))
          (λ rest.
          or_right first (second || is_large e)
          (⊎_elim
          (λ over.
          or_left second (is_large e)
          (lt-ltb MOST_SYMBOLS (clause_size (clause_instance (wide_by right_fresh order right) d)) (omega (arith, right_size_under order, over))))
          (λ over. or_right second (is_large e) (lt-ltb MOST_SYMBOLS (clause_size e) (omega (arith, made, over))))
          rest))
          large in (
            e,
            record {
              first_clause = c;
              first_there = there;
              second_clause = d;
              second_there = partner_there;
              infers =
                  superposition_sized order
                  (Has-front order (trees_variables (trees_of left)) (trees_variables (trees_of right)) has)
                  (Has-back order (trees_variables (trees_of left)) (trees_variables (trees_of right)) has)
                  e true (under_order order ks (superposition_gives c s d t b r left right h)) refl heavy;
            },
          )

      pub superposition_concluded :
          clause_size (clause_instance (substitution_of b Left) c) ≤ MOST_SYMBOLS
          → clause_size (clause_instance (substitution_of b Right) d) ≤ MOST_SYMBOLS
          → sum_by literal_size (plain c s d t b r left right h) ≤ MOST_SYMBOLS
          → (first_bind second_bind : List Tree) (e : TreeClause) → GivesNumbered c s d t left right first_bind second_bind e
          → IsConcluded p mode clauses (para_key number s partner t)
          (step.Para number partner s.literal s.side t.at.literal t.at.side t.place first_bind second_bind) e
      superposition_concluded first_small second_small small first_bind second_bind e g =
          let has : Has g.order (trees_variables (trees_of left) ++ trees_variables (trees_of right)) =
          subst (λ (vs : List ℕ). Has g.order vs) (appended_variables left right) (numbered-has g.plain (left ++ right) g.order g.met) in
          let has_left = Has-front g.order (trees_variables (trees_of left)) (trees_variables (trees_of right)) has in
          let has_right = Has-back g.order (trees_variables (trees_of left)) (trees_variables (trees_of right)) has in
          let same : g.plain ≡ plain c s d t b r left right h =
          same_Some g.plain (plain c s d t b r left right h) (sym g.given ∙ superposition_gives c s d t b r left right h) in
          let first_under : literals_instance (wide_by left_fresh g.order left) c.literals ≡ literals_instance (substitution first_bind) c.literals =
          wide_by-literals left_fresh g.order left c.literals (left-below c s d t b r left right h)
          ∙ sym (renamed-literals g.order left first_bind c.literals g.first_renamed (left-below c s d t b r left right h)) in
          let second_under : literals_instance (wide_by right_fresh g.order right) d.literals ≡ literals_instance (substitution second_bind) d.literals =
          wide_by-literals right_fresh g.order right d.literals (right-below c s d t b r left right h)
          ∙ sym (renamed-literals g.order right second_bind d.literals g.second_renamed (right-below c s d t b r left right h)) in
          let gives : superposed_at s t
          (literals_instance (wide_by left_fresh g.order left) c.literals) (literals_instance (wide_by right_fresh g.order right) d.literals)
          ≡ Some e.literals =
          ap₂ (superposed_at s t) first_under second_under ∙ g.gives in
          let e_is : e.literals ≡ literals_instance (renaming g.order) g.plain =
          same_Some e.literals (literals_instance (renaming g.order) g.plain) (sym gives ∙ under_order g.order g.plain g.given) in
          let e_size : clause_size e ≡ sum_by literal_size (plain c s d t b r left right h) =
          ap (sum_by literal_size) e_is ∙ renamed-literals_size g.order g.plain ∙ ap (sum_by literal_size) same in
          let e_small : clause_size e ≤ MOST_SYMBOLS = omega (arith, e_size, small) in
          let first_fits : clause_size (clause_instance (wide_by left_fresh g.order left) c) ≤ MOST_SYMBOLS = omega (arith, left_size_under g.order, first_small) in
          let second_fits : clause_size (clause_instance (wide_by right_fresh g.order right) d) ≤ MOST_SYMBOLS = omega (arith, right_size_under g.order, second_small) in
          let left_small : clause_size (clause_instance (substitution left) c) ≤ MOST_BOUND_SYMBOLS = omega (arith, left-size c s d t b r left right h, first_small) in
          let right_small : clause_size (clause_instance (substitution right) d) ≤ MOST_BOUND_SYMBOLS = omega (arith, right-size c s d t b r left right h, second_small) in
          let first_many : length first_bind ≡ bound_of (clause_variables c) =
          ap length g.first_renamed ∙ length-map left (instance (renaming g.order)) ∙ left-many c s d t b r left right h in
          let second_many : length second_bind ≡ bound_of (clause_variables d) =
          ap length g.second_renamed ∙ length-map right (instance (renaming g.order)) ∙ right-many c s d t b r left right h in
          let put =
          shared_put_function_terms p true (side_of s.side l) r.enters.old b (bound_of (clause_variables c)) (bound_of (clause_variables d)) left right
          kinds.unifier r.unified h in
          let part = mapped-size (substitution left) c.literals s.literal l r.starts.there in
          let sides = sides_size (substitution left) s.side l in
          let side_small : tree_size (instance (substitution left) (side_of s.side l)) ≤ MOST_SYMBOLS =
          omega (arith, part, sides, left-size c s d t b r left right h, first_small) in
          let renamed : first_bind ++ second_bind ≡ map (instance (renaming g.order)) (left ++ right) =
          ap₂ ◌++◌ g.first_renamed g.second_renamed ∙ sym (map-append (instance (renaming g.order)) left right) in
          record {
            inferred = record {
              first_clause = c;
              first_there = there;
              second_clause = d;
              second_there = partner_there;
              infers =
                  superposition_sized g.order has_left has_right e false gives g.names
                  (ap₂ ◌||◌ (not-less MOST_SYMBOLS (clause_size (clause_instance (wide_by left_fresh g.order left) c)) first_fits)
                  (ap₂ ◌||◌ (not-less MOST_SYMBOLS (clause_size (clause_instance (wide_by right_fresh g.order right) d)) second_fits)
                  (not-less MOST_SYMBOLS (clause_size e) e_small)));
            };
            of_key = refl;
            right_step =
                verdict_by_two (clause_parents clauses number) (clause_parents clauses partner) c d e first_bind second_bind (superposed_at s t)
                (ap (option_map (λ q. let o : Parent = record { clause = q; introduces = false } in o)) there)
                (ap (option_map (λ q. let o : Parent = record { clause = q; introduces = false } in o)) partner_there)
                (binds_renamed c g.order left first_bind g.first_renamed first_many (left-below c s d t b r left right h)
                (puts_no_truth p (substitution left) put.0) left_small)
                (binds_renamed d g.order right second_bind g.second_renamed second_many (right-below c s d t b r left right h)
                (puts_no_truth p (substitution right) put.1) right_small)
                g.gives g.names;
            numbered = conclusion_numbered g.plain (trees_variables (trees_of (left ++ right))) g.order e g.met e_is;
            bindings_numbered = bindings_numbered g.plain (left ++ right) (first_bind ++ second_bind) g.order e g.met renamed e_is;
            terms =
                two-true (list_all (is_function_term p) first_bind) (list_all (is_function_term p) second_bind)
                (bound_functions p g.order left first_bind g.first_renamed put.0)
                (bound_functions p g.order right second_bind g.second_renamed put.1);
            small =
                two-true (list_all is_small_term first_bind) (list_all is_small_term second_bind)
                (bound_small g.order left first_bind g.first_renamed
                (left_terms_small (side_of s.side l) r.enters.old left right (general c s d t b r left right h) MOST_SYMBOLS side_small (omega arith)))
                (bound_small g.order right second_bind g.second_renamed
                (right_terms_small (side_of s.side l) r.enters.old left right (general c s d t b r left right h) MOST_SYMBOLS side_small (omega arith)));
            symbols = λ test pass.
                let l_passes = list_all-item (literal_symbols_pass test) c.literals s.literal l r.starts.there (pass c (inl there)) in
                let m_passes = list_all-item (literal_symbols_pass test) d.literals t.at.literal m r.enters.there (pass d (inr partner_there)) in
                let s_passes = side-passes test s.side l l_passes in
                let old_passes = subterm-passes test t.place (side_of t.at.side m) r.enters.old r.enters.old_there (side-passes test t.at.side m m_passes) in
                two-true (list_all (symbols_pass test) first_bind) (list_all (symbols_pass test) second_bind)
                (bound_symbols test g.order left first_bind g.first_renamed
                (left_terms_pass (side_of s.side l) r.enters.old left right (general c s d t b r left right h) test s_passes old_passes))
                (bound_symbols test g.order right second_bind g.second_renamed
                (right_terms_pass (side_of s.side l) r.enters.old left right (general c s d t b r left right h) test s_passes old_passes));
          }
