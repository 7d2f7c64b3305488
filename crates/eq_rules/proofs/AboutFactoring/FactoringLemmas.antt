-- Equality factoring by two sides of a clause, by a most general unifier of them.
use Rattle.std.proofs.Common.{◌≡◌, ◌⊎◌, ℕ, ◌+◌, ◌<◌, ◌≤◌, Bool, true, false, ◌||◌, Option, None, Some, List, [], length, get_or, refl, ap, ap₂, sym, ◌∙◌, subst, ⊎_elim, arith}
use Rattle.std.specs.Prelude.{sum_by, slice_get, slice_set}
use Rattle.std.specs.List.{AllByRecursion, list_all}
use Rattle.std.specs.Option.{is_some, option_map}
use Rattle.std.proofs.lemmas.Bool.{true≢false, and_from, or_left, or_right, lt-ltb}
use Rattle.std.proofs.lemmas.List.{length-map}
use Rattle.std.proofs.lemmas.List.Sums.{sum_by-set}
use Rattle.std.proofs.lemmas.Option.{same_Some, slice_get_within, get_or_from_slice_get}
use Rattle.fol_base.specs.Tree.{Tree, tree_size, VariablesBelow, trees_of, trees_variables, is_truth}
use Rattle.fol_base.specs.Instance.{instance, substitution}
use Rattle.fol_base.specs.InstanceLaws.{after}
use Rattle.fol_base.specs.Clause.{TreeLiteral, TreeClause, LiteralVariablesBelow, literal_size, literal_instance, clause_size, clause_instance, clause_variables}
use Rattle.fol_base.specs.Ground.{literals_instance}
use Rattle.fol_base.specs.Canonical.{renaming, bound_of}
use Rattle.fol_base.specs.Kind.{is_function_term, PutsFunctionTerms}
use Rattle.fol_base.specs.Numbering.{with_variables}
use Rattle.fol_base.specs.Rules.{factored, disequation}
use Rattle.fol_base.specs.Selection.{SelectionMode, chosen, eligible}
use Rattle.fol_base.specs.Sides.{side_of, other_side_of}
use Rattle.fol_base.specs.Unifier.{IsUnifier}
use Rattle.fol_base.specs.declared.clause.Side.TheVariants.{Left}
use Rattle.fol_base.specs.declared.limits.TheConstants.{MOST_SYMBOLS, MOST_BOUND_SYMBOLS}
use Rattle.fol_base.proofs.AboutClauses.InferenceLemmas.{literal_in_instance, factorings_in_instances, side_of-instance, other_side_of-instance}
use Rattle.fol_base.proofs.AboutInstances.InstanceLemmas.{instances_of_instances, instances_agree_below}
use Rattle.fol_base.proofs.AboutTerms.KindLemmas.{puts_no_truth}
use Rattle.fol_base.proofs.AboutCanonical.NumberingLemmas.{with_variables-have}
use Rattle.fol_base.proofs.AboutClauses.RuleLemmas.{factored-from}
use Rattle.fol_base.proofs.WorkedExamples.TestLemmas.{list_all-item}
use Rattle.literal_selection.proofs.EligibleLemmas.{eligible_lifts}
use Rattle.kernel_steps.specs.Inference.{NamedFactoring, other_side_not_above}
use Rattle.kernel_steps.specs.Names.{sorted_names}
use Rattle.kernel_steps.specs.Named.{IsInference}
use Rattle.kernel_steps.specs.Parents.{Parent}
use Rattle.kernel_steps.specs.Symbols.{symbols_pass, literal_symbols_pass}
use Rattle.kernel_steps.proofs.AboutCalls.SymbolLemmas.{side-passes}
use Rattle.unifier.specs.Renaming.{AreNamedTerms}
use Rattle.unifier.proofs.AboutClasses.SharedLemmas.{shared_put_function_terms}
use Rattle.kernel_steps.specs.Sized.{is_large, SizedFactoring}
use Rattle.kernel_steps.specs.Lines.{is_small_term, clause_parents}
use Rattle.eq_rules.specs.Inferences.{IsConcluded, IsMade}
use Rattle.eq_rules.specs.Concluding.{GivesNumbered}
use Rattle.eq_rules.specs.Factoring.{FactorsBy, factor_key}
use Rattle.eq_rules.specs.declared.concluding.FactorPlace.{FactorPlace}
use Rattle.eq_rules.specs.declared.inference.Made.TheVariants.{Heavy}
use Rattle.eq_rules.proofs.AboutConclusions.WideLemmas.{Has, wide, numbered, wide-general, wide-instance, wide-literals, renamed-literals, term_back, renamed-literals_size}
use Rattle.eq_rules.proofs.AboutConclusions.ConclusionLemmas.{conclusion_numbered, bindings_numbered, binds_renamed, verdict_by_one, numbered_literals, numbered-has}
use Rattle.eq_rules.proofs.AboutConclusions.BindingLemmas.{bound_functions, bound_small, bound_symbols, unified_small, unified_symbols}
use Rattle.eq_rules.proofs.AboutFactoring.FactorAnswers.{sides_size}
use Rattle.eq_rules.proofs.AboutConclusions.StepLemmas.{renaming-no_truth}
use Rattle.eq_rules.proofs.AboutConclusions.PremiseLemmas.{Terms, terms_of, clause-below, literal-below, unifier-after_terms, has-instance}
use Rattle.eq_rules.proofs.AboutResolution.ResolutionLemmas.{eligible_wide}
use Rattle.eq_rules.proofs.AboutConclusions.SideLemmas.{Alike, Kinds, alike-parts, not_above_by, sides-size, side-below, other_side-below, side_no_truth}
use Rattle.unifier.specs.SolvedForm.{SolvedForm, substitution_of}
use Rattle.list_lemmas.proofs.Numbers.{not-less}
use Rattle.kernel_steps.specs.declared.step.Step.TheVariants as step
use Rattle.kbo_order.proofs.AboutMultisets.ClauseLoops.{mapped-size}

-- ---- two sides, by a unifier

module _
    (p : ℕ → Bool) (mode : SelectionMode) (clauses : ℕ → Option TreeClause) (number : ℕ) (c : TreeClause) (place : FactorPlace)
    (there : clauses number ≡ Some c) (b : SolvedForm) (r : FactorsBy b c place)
    (terms right : List Tree) (h : AreNamedTerms b (bound_of (clause_variables c)) 0 terms right) where
  parts : Alike r.literal_i place.becomes.side r.literal_j place.other.side
  parts = alike-parts r.literal_i place.becomes.side r.literal_j place.other.side r.alike

  i-below : LiteralVariablesBelow (bound_of (clause_variables c)) r.literal_i
  i-below = literal-below c place.becomes.literal r.literal_i r.i_there

  j-below : LiteralVariablesBelow (bound_of (clause_variables c)) r.literal_j
  j-below = literal-below c place.other.literal r.literal_j r.j_there

  pub factor_terms :
      Terms c (side_of place.becomes.side r.literal_i) (side_of place.other.side r.literal_j) b terms
  factor_terms =
      terms_of c (side_of place.becomes.side r.literal_i) (side_of place.other.side r.literal_j) b terms right r.unified
      (side-below (bound_of (clause_variables c)) place.becomes.side r.literal_i i-below)
      (side-below (bound_of (clause_variables c)) place.other.side r.literal_j j-below) h

  below : AllByRecursion (LiteralVariablesBelow (length terms)) c.literals
  below = subst (λ (n : ℕ). AllByRecursion (LiteralVariablesBelow n) c.literals) (sym factor_terms.many) (clause-below c)

  i-covered : LiteralVariablesBelow (length terms) r.literal_i
  i-covered = subst (λ (n : ℕ). LiteralVariablesBelow n r.literal_i) (sym factor_terms.many) i-below

  j-covered : LiteralVariablesBelow (length terms) r.literal_j
  j-covered = subst (λ (n : ℕ). LiteralVariablesBelow n r.literal_j) (sym factor_terms.many) j-below

  -- ---- no inference

  named_here :
      (e : TreeClause) → IsInference p mode clauses (factor_key number place) e
      → NamedFactoring p mode c place.becomes.literal place.becomes.side place.other.literal place.other.side e
  named_here e it =
      subst (λ (q : TreeClause). NamedFactoring p mode q place.becomes.literal place.becomes.side place.other.literal place.other.side e)
      (same_Some it.clause c (sym it.there ∙ there)) it.infers

  unifies_here :
      (e : TreeClause) (n : NamedFactoring p mode c place.becomes.literal place.becomes.side place.other.literal place.other.side e)
      → IsUnifier (side_of place.becomes.side r.literal_i) (side_of place.other.side r.literal_j) n.unifier
  unifies_here e n =
      sym (ap (λ (l : TreeLiteral). instance n.unifier (side_of place.becomes.side l)) (same_Some n.literal_i r.literal_i (sym n.i_there ∙ r.i_there)))
      ∙ n.most_general.unifies
      ∙ ap (λ (l : TreeLiteral). instance n.unifier (side_of place.other.side l)) (same_Some n.literal_j r.literal_j (sym n.j_there ∙ r.j_there))

  pub factoring_not_eligible :
      chosen mode c.literals ≡ None
      → eligible (literals_instance (substitution terms) c.literals) place.becomes.literal None false ≡ false
      → (e : TreeClause) → IsInference p mode clauses (factor_key number place) e → ⊥
  factoring_not_eligible none refused e it =
      let n = named_here e it in
      let further =
      unifier-after_terms (side_of place.becomes.side r.literal_i) (side_of place.other.side r.literal_j) terms c.literals n.unifier
      factor_terms.general below (unifies_here e n) in
      true≢false
      (sym
      (eligible_lifts (literals_instance (substitution terms) c.literals) None further.0 place.becomes.literal false
      (ap (λ ks. eligible ks place.becomes.literal None false) further.1
      ∙ ap (λ o. eligible (literals_instance n.unifier c.literals) place.becomes.literal o false) (sym none)
      ∙ n.i_eligible.is_eligible))
      ∙ refused)

  pub factoring_not_ordered :
      other_side_not_above (substitution terms) place.becomes.side r.literal_i ≡ false
      → (e : TreeClause) → IsInference p mode clauses (factor_key number place) e → ⊥
  factoring_not_ordered refused e it =
      let n = named_here e it in
      let by = factor_terms.general.is_general n.unifier (unifies_here e n) in
      let onward : (x : Tree) → VariablesBelow (length terms) x → instance by.0 (instance (substitution terms) x) ≡ instance n.unifier x =
      λ x x_below.
      instances_of_instances by.0 (substitution terms) x
      ∙ sym (instances_agree_below (length terms) n.unifier (after by.0 (substitution terms)) x x_below by.1) in
      let ordered : other_side_not_above n.unifier place.becomes.side r.literal_i ≡ true =
      sym (ap (λ (l : TreeLiteral). other_side_not_above n.unifier place.becomes.side l) (same_Some n.literal_i r.literal_i (sym n.i_there ∙ r.i_there)))
      ∙ n.i_ordered in
      true≢false
      (sym
      (not_above_by by.0 (substitution terms) n.unifier place.becomes.side r.literal_i
      (onward (other_side_of place.becomes.side r.literal_i) (other_side-below (length terms) place.becomes.side r.literal_i i-covered))
      (onward (side_of place.becomes.side r.literal_i) (side-below (length terms) place.becomes.side r.literal_i i-covered))
      ordered)
      ∙ refused)

  -- ---- the rule under the terms

  abbrev plain : List TreeLiteral
  plain =
      slice_set (literals_instance (substitution terms) c.literals) place.becomes.literal
      (disequation
      (instance (substitution terms) (other_side_of place.becomes.side r.literal_i))
      (instance (substitution terms) (other_side_of place.other.side r.literal_j)))

  pub factoring_gives :
      factored (literals_instance (substitution terms) c.literals) place.becomes.literal place.becomes.side place.other.literal place.other.side
      ≡ Some plain
  factoring_gives =
      factored-from (literals_instance (substitution terms) c.literals) place.becomes.literal place.becomes.side place.other.literal place.other.side
      plain (record {
        differ = r.differ;
        literal_i = literal_instance (substitution terms) r.literal_i;
        i_there = literal_in_instance (substitution terms) c.literals place.becomes.literal r.literal_i r.i_there;
        literal_j = literal_instance (substitution terms) r.literal_j;
        j_there = literal_in_instance (substitution terms) c.literals place.other.literal r.literal_j r.j_there;
        i_positive = parts.first_positive;
        j_positive = parts.second_positive;
        no_truth =
            ap is_truth (side_of-instance (substitution terms) place.becomes.side r.literal_i)
            ∙ side_no_truth (side_of place.becomes.side r.literal_i) (side_of place.other.side r.literal_j) terms factor_terms.general
            (side-below (length terms) place.becomes.side r.literal_i i-covered) parts.first_no_truth parts.second_no_truth;
        same =
            side_of-instance (substitution terms) place.becomes.side r.literal_i
            ∙ factor_terms.general.unifies
            ∙ sym (side_of-instance (substitution terms) place.other.side r.literal_j);
        gives =
            ap₂ (λ x y. slice_set (literals_instance (substitution terms) c.literals) place.becomes.literal (disequation x y))
            (other_side_of-instance (substitution terms) place.becomes.side r.literal_i)
            (other_side_of-instance (substitution terms) place.other.side r.literal_j);
      })

  pub factoring_applies :
      is_some (factored (literals_instance (substitution terms) c.literals) place.becomes.literal place.becomes.side place.other.literal place.other.side)
      ≡ true
  factoring_applies = ap is_some factoring_gives

  -- the conclusion's size, from the clause's: the chosen side goes, and the other literal's other side comes
  pub plain_size :
      sum_by literal_size plain + tree_size (instance (substitution terms) (side_of place.becomes.side r.literal_i))
      ≡ sum_by literal_size (literals_instance (substitution terms) c.literals)
      + tree_size (instance (substitution terms) (other_side_of place.other.side r.literal_j))
  plain_size =
      let l : TreeLiteral = literal_instance (substitution terms) r.literal_i in
      let at : slice_get (literals_instance (substitution terms) c.literals) place.becomes.literal ≡ Some l =
      literal_in_instance (substitution terms) c.literals place.becomes.literal r.literal_i r.i_there in
      let new : TreeLiteral =
      disequation
      (instance (substitution terms) (other_side_of place.becomes.side r.literal_i))
      (instance (substitution terms) (other_side_of place.other.side r.literal_j)) in
      let whole =
      sum_by-set literal_size (literals_instance (substitution terms) c.literals) place.becomes.literal new l
      (slice_get_within (literals_instance (substitution terms) c.literals) place.becomes.literal l at) in
      let read : literal_size (get_or (literals_instance (substitution terms) c.literals) place.becomes.literal l) ≡ literal_size l =
      ap literal_size (get_or_from_slice_get (literals_instance (substitution terms) c.literals) place.becomes.literal l l at) in
      let sides : literal_size l
      ≡ tree_size (instance (substitution terms) (side_of place.becomes.side r.literal_i))
      + tree_size (instance (substitution terms) (other_side_of place.becomes.side r.literal_i)) =
      sides-size place.becomes.side l
      ∙ ap₂ (λ x y. tree_size x + tree_size y)
      (side_of-instance (substitution terms) place.becomes.side r.literal_i)
      (other_side_of-instance (substitution terms) place.becomes.side r.literal_i) in
      omega (arith, whole, read, sides)

  -- ---- the inference

  module _
      (none : chosen mode c.literals ≡ None)
      (kinds : Kinds p (side_of place.becomes.side r.literal_i) (side_of place.other.side r.literal_j))
      (ordered : other_side_not_above (substitution terms) place.becomes.side r.literal_i ≡ true)
      (is_eligible : eligible (literals_instance (substitution terms) c.literals) place.becomes.literal None false ≡ true) where
    factoring_sized :
        (order : List ℕ) → Has order (trees_variables (trees_of terms))
        → (d : TreeClause) (heavy : Bool)
        → factored (literals_instance (wide order terms) c.literals) place.becomes.literal place.becomes.side place.other.literal place.other.side
        ≡ Some d.literals
        → d.names ≡ sorted_names c.names
        → (is_large (clause_instance (wide order terms) c) || is_large d) ≡ heavy
        → SizedFactoring p mode c place.becomes.literal place.becomes.side place.other.literal place.other.side d heavy
    factoring_sized order has d heavy gives names size =
        let back : (x : Tree) → VariablesBelow (length terms) x → instance (numbered order) (instance (wide order terms) x) ≡ instance (substitution terms) x =
        λ x x_below.
        ap (instance (numbered order)) (wide-instance order terms x x_below)
        ∙ term_back order (instance (substitution terms) x) (has-instance order terms x has x_below) in
        let s_below = side-below (length terms) place.becomes.side r.literal_i i-covered in
        record {
          named = record {
            literal_i = r.literal_i;
            i_there = r.i_there;
            literal_j = r.literal_j;
            j_there = r.j_there;
            one_kind = kinds.calculus;
            unifier = wide order terms;
            most_general =
                wide-general order terms (side_of place.becomes.side r.literal_i) (side_of place.other.side r.literal_j) s_below
                (side-below (length terms) place.other.side r.literal_j j-covered) has factor_terms.general;
            i_ordered =
                not_above_by (numbered order) (wide order terms) (substitution terms) place.becomes.side r.literal_i
                (back (other_side_of place.becomes.side r.literal_i) (other_side-below (length terms) place.becomes.side r.literal_i i-covered))
                (back (side_of place.becomes.side r.literal_i) s_below)
                ordered;
            i_eligible = record {
              nothing_chosen = none;
              is_eligible =
                  ap (λ o. eligible (literals_instance (wide order terms) c.literals) place.becomes.literal o false) none
                  ∙ eligible_wide order terms c.literals place.becomes.literal None false has below is_eligible;
            };
            concludes = gives;
            names = names;
          };
          size = size;
        }

    pub factoring_heavy :
        (MOST_SYMBOLS < clause_size (clause_instance (substitution_of b Left) c)) ⊎ (MOST_SYMBOLS < sum_by literal_size plain)
        → IsMade p mode clauses (factor_key number place) Heavy
    factoring_heavy large =
        let order : List ℕ = with_variables [] (trees_variables (trees_of terms)) in
        let has : Has order (trees_variables (trees_of terms)) = with_variables-have [] (trees_variables (trees_of terms)) in
        let d : TreeClause = record { literals = literals_instance (renaming order) plain; names = sorted_names c.names } in
        let premise : clause_size (clause_instance (wide order terms) c) ≡ clause_size (clause_instance (substitution_of b Left) c) =
        ap (sum_by literal_size) (wide-literals order terms c.literals below)
        ∙ renamed-literals_size order (literals_instance (substitution terms) c.literals) ∙ factor_terms.size in
        let made : clause_size d ≡ sum_by literal_size plain = renamed-literals_size order plain in
        let heavy : (is_large (clause_instance (wide order terms) c) || is_large d) ≡ true =
        ⊎_elim
        (λ over.
        or_left (is_large (clause_instance (wide order terms) c)) (is_large d)
        (lt-ltb MOST_SYMBOLS (clause_size (clause_instance (wide order terms) c)) (omega (arith, premise, over))))
        (λ over.
        or_right (is_large (clause_instance (wide order terms) c)) (is_large d)
        (lt-ltb MOST_SYMBOLS (clause_size d) (omega (arith, made, over))))
        large in (
          d,
          record {
            clause = c;
            there = there;
            infers =
                factoring_sized order has d true
                (ap
                (λ ks. factored ks place.becomes.literal place.becomes.side place.other.literal place.other.side)
                (wide-literals order terms c.literals below)
                ∙ factorings_in_instances (renaming order) (literals_instance (substitution terms) c.literals) plain
                place.becomes.literal place.other.literal place.becomes.side place.other.side (renaming-no_truth order) factoring_gives)
                refl heavy;
          },
        )

    pub factoring_concluded :
        clause_size (clause_instance (substitution_of b Left) c) ≤ MOST_SYMBOLS → sum_by literal_size plain ≤ MOST_SYMBOLS
        → (bind : List Tree) (d : TreeClause)
        → GivesNumbered (λ ms. factored ms place.becomes.literal place.becomes.side place.other.literal place.other.side) c terms bind d
        → IsConcluded p mode clauses (factor_key number place)
        (step.Factor number place.becomes.literal place.becomes.side place.other.literal place.other.side bind) d
    factoring_concluded small made_small bind d g =
        let rule : List TreeLiteral → Option (List TreeLiteral) =
        λ ms. factored ms place.becomes.literal place.becomes.side place.other.literal place.other.side in
        let has : Has g.order (trees_variables (trees_of terms)) = numbered-has g.plain terms g.order g.met in
        let under : literals_instance (wide g.order terms) c.literals ≡ literals_instance (substitution bind) c.literals =
        wide-literals g.order terms c.literals below ∙ sym (renamed-literals g.order terms bind c.literals g.renamed below) in
        let premise : clause_size (clause_instance (wide g.order terms) c) ≡ clause_size (clause_instance (substitution_of b Left) c) =
        ap (sum_by literal_size) (wide-literals g.order terms c.literals below)
        ∙ renamed-literals_size g.order (literals_instance (substitution terms) c.literals) ∙ factor_terms.size in
        let same : g.plain ≡ plain = same_Some g.plain plain (sym g.given ∙ factoring_gives) in
        let d_is : d.literals ≡ literals_instance (renaming g.order) g.plain =
        numbered_literals rule c terms bind d g (λ e.
        factorings_in_instances (renaming g.order) (literals_instance (substitution terms) c.literals) g.plain
        place.becomes.literal place.other.literal place.becomes.side place.other.side (renaming-no_truth g.order) e) below in
        let d_size : clause_size d ≡ sum_by literal_size plain =
        ap (sum_by literal_size) d_is ∙ renamed-literals_size g.order g.plain ∙ ap (sum_by literal_size) same in
        let d_small : clause_size d ≤ MOST_SYMBOLS = omega (arith, d_size, made_small) in
        let premise_small : clause_size (clause_instance (wide g.order terms) c) ≤ MOST_SYMBOLS = omega (arith, premise, small) in
        let terms_small : clause_size (clause_instance (substitution terms) c) ≤ MOST_BOUND_SYMBOLS = omega (arith, factor_terms.size, small) in
        let many : length bind ≡ bound_of (clause_variables c) =
        ap length g.renamed ∙ length-map terms (instance (renaming g.order)) ∙ factor_terms.many in
        let put : PutsFunctionTerms p (substitution terms) =
        (shared_put_function_terms p false (side_of place.becomes.side r.literal_i) (side_of place.other.side r.literal_j) b
        (bound_of (clause_variables c)) 0 terms right kinds.unifier r.unified h).0 in
        let part = mapped-size (substitution terms) c.literals place.becomes.literal r.literal_i r.i_there in
        let sides = sides_size (substitution terms) place.becomes.side r.literal_i in
        let side_small : tree_size (instance (substitution terms) (side_of place.becomes.side r.literal_i)) ≤ MOST_SYMBOLS =
        omega (arith, part, sides, factor_terms.size, small) in
        record {
          inferred = record {
            clause = c;
            there = there;
            infers =
                factoring_sized g.order has d false (ap rule under ∙ g.gives) g.names
                (ap₂ ◌||◌ (not-less MOST_SYMBOLS (clause_size (clause_instance (wide g.order terms) c)) premise_small)
                (not-less MOST_SYMBOLS (clause_size d) d_small));
          };
          of_key = refl;
          right_step =
              verdict_by_one (clause_parents clauses) number c d bind rule
              (ap (option_map (λ q. let o : Parent = record { clause = q; introduces = false } in o)) there)
              (binds_renamed c g.order terms bind g.renamed many below
              (puts_no_truth p (substitution terms) put) terms_small)
              g.gives g.names;
          numbered = conclusion_numbered g.plain (trees_variables (trees_of terms)) g.order d g.met d_is;
          bindings_numbered = bindings_numbered g.plain terms bind g.order d g.met g.renamed d_is;
          terms = and_from (list_all (is_function_term p) bind) true (bound_functions p g.order terms bind g.renamed put) refl;
          small =
              and_from (list_all is_small_term bind) true
              (bound_small g.order terms bind g.renamed
              (unified_small (side_of place.becomes.side r.literal_i) (side_of place.other.side r.literal_j) terms MOST_SYMBOLS
              factor_terms.general side_small (omega arith))) refl;
          symbols = λ test pass.
              let i_passes = list_all-item (literal_symbols_pass test) c.literals place.becomes.literal r.literal_i r.i_there (pass c there) in
              let j_passes = list_all-item (literal_symbols_pass test) c.literals place.other.literal r.literal_j r.j_there (pass c there) in
              and_from (list_all (symbols_pass test) bind) true
              (bound_symbols test g.order terms bind g.renamed
              (unified_symbols test (side_of place.becomes.side r.literal_i) (side_of place.other.side r.literal_j) terms factor_terms.general
              (side-passes test place.becomes.side r.literal_i i_passes) (side-passes test place.other.side r.literal_j j_passes))) refl;
        }
