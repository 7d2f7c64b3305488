-- Equality resolution of a literal, by a most general unifier of its sides.
use Rattle.std.proofs.Common.{◌≡◌, ℕ, ◌+◌, ◌<◌, ◌≤◌, Bool, true, false, ◌||◌, ◌==◌, Option, None, Some, List, length, refl, ap, ap₂, sym, ◌∙◌, subst, arith}
use Rattle.std.specs.Prelude.{sum_by, slice_get, remove}
use Rattle.std.specs.List.{AllByRecursion, list_all}
use Rattle.std.specs.Option.{is_some, option_map}
use Rattle.std.proofs.lemmas.Bool.{true≢false, not-true, and_from, or_left, lt-ltb}
use Rattle.std.proofs.lemmas.List.{length-map}
use Rattle.std.proofs.lemmas.List.Sums.{sum_by-remove}
use Rattle.std.proofs.lemmas.Option.{same_Some, slice_get_within}
use Rattle.fol_base.specs.Tree.{Tree, tree_size, trees_of, trees_variables}
use Rattle.fol_base.specs.Instance.{Substitution, instance, substitution}
use Rattle.fol_base.specs.Clause.{TreeLiteral, TreeClause, LiteralVariablesBelow, literal_size, literal_instance, clause_size, clause_instance, clause_variables}
use Rattle.fol_base.specs.Ground.{literals_instance}
use Rattle.fol_base.specs.Canonical.{renaming, bound_of}
use Rattle.fol_base.specs.Kind.{is_function_term, is_literal}
use Rattle.fol_base.specs.Rules.{resolved}
use Rattle.fol_base.specs.Selection.{SelectionMode, chosen, eligible}
use Rattle.fol_base.specs.Unifier.{IsUnifier}
use Rattle.fol_base.specs.declared.clause.Side.TheVariants.{Left, Right}
use Rattle.fol_base.specs.declared.limits.TheConstants.{MOST_SYMBOLS, MOST_BOUND_SYMBOLS}
use Rattle.fol_base.proofs.AboutClauses.InferenceLemmas.{literal_in_instance, resolutions_in_instances}
use Rattle.fol_base.proofs.AboutClauses.RuleLemmas.{resolved-parts, resolved-from}
use Rattle.fol_base.proofs.WorkedExamples.TestLemmas.{list_all-item}
use Rattle.literal_selection.proofs.EligibleLemmas.{eligible_lifts}
use Rattle.kernel_steps.specs.Inference.{NamedResolution}
use Rattle.kernel_steps.specs.Names.{sorted_names}
use Rattle.kernel_steps.specs.Named.{IsInference}
use Rattle.kernel_steps.specs.Parents.{Parent}
use Rattle.kernel_steps.specs.Symbols.{symbols_pass, literal_symbols_pass}
use Rattle.kernel_steps.specs.declared.key.Key.TheVariants.{Refl}
use Rattle.kernel_steps.proofs.AboutCalls.SymbolLemmas.{side-passes}
use Rattle.unifier.specs.Renaming.{AreNamedTerms}
use Rattle.kernel_steps.specs.Sized.{is_large}
use Rattle.kernel_steps.specs.Lines.{is_small_term, clause_parents}
use Rattle.eq_rules.specs.Inferences.{IsConcluded, IsMade}
use Rattle.eq_rules.specs.Concluding.{GivesNumbered, other_chosen}
use Rattle.eq_rules.specs.Unified.{ResolvesBy}
use Rattle.eq_rules.specs.declared.inference.Made.TheVariants.{Heavy}
use Rattle.eq_rules.proofs.AboutConclusions.WideLemmas.{Has, wide, numbered, wide-general, wide-literals, renamed-literals, literals_back, renamed-literals_size}
use Rattle.eq_rules.proofs.AboutConclusions.ConclusionLemmas.{conclusion_numbered, bindings_numbered, binds_renamed, verdict_by_one, numbered_literals, numbered-has}
use Rattle.eq_rules.proofs.AboutConclusions.BindingLemmas.{bound_functions, bound_small, bound_symbols, unified_small, unified_symbols}
use Rattle.eq_rules.proofs.AboutFactoring.FactorAnswers.{sides_size}
use Rattle.eq_rules.proofs.AboutConclusions.PremiseLemmas.{Terms, terms_of, clause-below, literal-below, sides_put, sides_no_truth, literals-onward, unifier-after_terms, has-literals}
use Rattle.unifier.specs.SolvedForm.{SolvedForm, substitution_of}
use Rattle.list_lemmas.proofs.Numbers.{not-less}
use Rattle.list_lemmas.proofs.Bools.{not-false}
use Rattle.kernel_steps.specs.declared.step.Step.TheVariants as step
use Rattle.kbo_order.proofs.AboutMultisets.ClauseLoops.{mapped-size}

-- ---- eligible literals

-- what is eligible under the terms is so under the substitution that is made of them for all variables
pub eligible_wide :
    (order : List ℕ) (terms : List Tree) (ls : List TreeLiteral) (i : ℕ) (choice : Option ℕ) (strict : Bool)
    → Has order (trees_variables (trees_of terms)) → AllByRecursion (LiteralVariablesBelow (length terms)) ls
    → eligible (literals_instance (substitution terms) ls) i choice strict ≡ true
    → eligible (literals_instance (wide order terms) ls) i choice strict ≡ true
eligible_wide order terms ls i choice strict has below h =
    eligible_lifts (literals_instance (wide order terms) ls) choice (numbered order) i strict
    (ap (λ ks. eligible ks i choice strict)
    (ap (literals_instance (numbered order)) (wide-literals order terms ls below)
    ∙ literals_back order (literals_instance (substitution terms) ls) (has-literals order terms ls has below))
    ∙ h)

-- a literal beside the chosen one isn't eligible, and the chosen one is
pub other_not_eligible :
    (choice : Option ℕ) (ls : List TreeLiteral) (i : ℕ) (strict : Bool) → other_chosen choice i ≡ true → eligible ls i choice strict ≡ false
other_not_eligible None ls i strict h = absurd (true≢false (sym h))
other_not_eligible (Some k) ls i strict h = not-true (i == k) h

pub chosen_eligible :
    (choice : Option ℕ) (ls : List TreeLiteral) (i : ℕ) (strict : Bool)
    → is_some choice ≡ true → other_chosen choice i ≡ false → eligible ls i choice strict ≡ true
chosen_eligible None ls i strict some h = absurd (true≢false (sym some))
chosen_eligible (Some k) ls i strict some h = not-false (i == k) h

-- ---- a literal, by a unifier

module _
    (p : ℕ → Bool) (mode : SelectionMode) (clauses : ℕ → Option TreeClause) (number : ℕ) (c : TreeClause) (i : ℕ)
    (there : clauses number ≡ Some c) (b : SolvedForm) (r : ResolvesBy b c i) where
  -- an inference of the name is one of this clause and literal
  abbrev NamedHere : TreeClause → Type 0
  NamedHere e = NamedResolution mode c i e

  named_here : (e : TreeClause) → IsInference p mode clauses (Refl number i) e → NamedHere e
  named_here e it = subst (λ (q : TreeClause). NamedResolution mode q i e) (same_Some it.clause c (sym it.there ∙ there)) it.infers

  unifies_here : (e : TreeClause) (n : NamedHere e) → IsUnifier r.literal.left r.literal.right n.unifier
  unifies_here e n =
      subst (λ (l : TreeLiteral). IsUnifier l.left l.right n.unifier) (same_Some n.literal r.literal (sym n.literal_there ∙ r.there))
      n.most_general.unifies

  -- under the unifier itself a clause that is too large is set aside
  pub resolution_heavy :
      eligible (literals_instance (substitution_of b Left) c.literals) i (chosen mode c.literals) false ≡ true
      → MOST_SYMBOLS < clause_size (clause_instance (substitution_of b Left) c)
      → IsMade p mode clauses (Refl number i) Heavy
  resolution_heavy h large =
      let σ : Substitution = substitution_of b Left in
      let ls : List TreeLiteral = literals_instance σ c.literals in
      let d : TreeClause = record { literals = remove ls i; names = sorted_names c.names } in (
        d,
        record {
          clause = c;
          there = there;
          infers = record {
            named = record {
              literal = r.literal;
              literal_there = r.there;
              unifier = σ;
              most_general = r.unified.0;
              is_eligible = h;
              concludes = resolved-from ls i (remove ls i) (record {
                literal = literal_instance σ r.literal;
                literal_there = literal_in_instance σ c.literals i r.literal r.there;
                negative = r.negative;
                same = r.unified.0.unifies;
                gives = refl;
              });
              names = refl;
            };
            size = or_left (is_large (clause_instance σ c)) (is_large d) (lt-ltb MOST_SYMBOLS (clause_size (clause_instance σ c)) large);
          };
        },
      )

  module _ (terms right : List Tree) (h : AreNamedTerms b (bound_of (clause_variables c)) 0 terms right) where
    sides-below : LiteralVariablesBelow (bound_of (clause_variables c)) r.literal
    sides-below = literal-below c i r.literal r.there

    pub terms_here : Terms c r.literal.left r.literal.right b terms
    terms_here = terms_of c r.literal.left r.literal.right b terms right r.unified sides-below.0 sides-below.1 h

    below : AllByRecursion (LiteralVariablesBelow (length terms)) c.literals
    below = subst (λ (n : ℕ). AllByRecursion (LiteralVariablesBelow n) c.literals) (sym terms_here.many) (clause-below c)

    sides-covered : LiteralVariablesBelow (length terms) r.literal
    sides-covered = subst (λ (n : ℕ). LiteralVariablesBelow n r.literal) (sym terms_here.many) sides-below

    -- the rule applies under the terms
    pub resolution_applies : is_some (resolved (literals_instance (substitution terms) c.literals) i) ≡ true
    resolution_applies =
        let ls : List TreeLiteral = literals_instance (substitution terms) c.literals in
        ap is_some (resolved-from ls i (remove ls i) (record {
          literal = literal_instance (substitution terms) r.literal;
          literal_there = literal_in_instance (substitution terms) c.literals i r.literal r.there;
          negative = r.negative;
          same = terms_here.general.unifies;
          gives = refl;
        }))

    -- what is eligible under the terms is so under the unifier
    pub eligible_before :
        eligible (literals_instance (substitution terms) c.literals) i (chosen mode c.literals) false ≡ true
        → eligible (literals_instance (substitution_of b Left) c.literals) i (chosen mode c.literals) false ≡ true
    eligible_before e =
        let by = r.unified.0.is_general (substitution terms) terms_here.general.unifies in
        eligible_lifts (literals_instance (substitution_of b Left) c.literals) (chosen mode c.literals) by.0 i false
        (ap (λ ks. eligible ks i (chosen mode c.literals) false) (literals-onward by.0 (substitution_of b Left) (substitution terms) by.1 c.literals)
        ∙ e)

    -- what isn't eligible under the terms is so under no unifier
    pub resolution_not_eligible :
        eligible (literals_instance (substitution terms) c.literals) i (chosen mode c.literals) false ≡ false
        → (e : TreeClause) → IsInference p mode clauses (Refl number i) e → ⊥
    resolution_not_eligible refused e it =
        let n : NamedHere e = named_here e it in
        let further = unifier-after_terms r.literal.left r.literal.right terms c.literals n.unifier terms_here.general below (unifies_here e n) in
        true≢false
        (sym
        (eligible_lifts (literals_instance (substitution terms) c.literals) (chosen mode c.literals) further.0 i false
        (ap (λ ks. eligible ks i (chosen mode c.literals) false) further.1 ∙ n.is_eligible))
        ∙ refused)

    pub resolution_concluded :
        is_literal p r.literal ≡ true
        → eligible (literals_instance (substitution terms) c.literals) i (chosen mode c.literals) false ≡ true
        → clause_size (clause_instance (substitution_of b Left) c) ≤ MOST_SYMBOLS
        → (bind : List Tree) (d : TreeClause) → GivesNumbered (λ ls. resolved ls i) c terms bind d
        → IsConcluded p mode clauses (Refl number i) (step.Refl number i bind) d
    resolution_concluded kind is_eligible small bind d g =
        let σ : Substitution = wide g.order terms in
        let ls : List TreeLiteral = literals_instance (substitution terms) c.literals in
        let ks : List TreeLiteral = literals_instance (substitution bind) c.literals in
        let has : Has g.order (trees_variables (trees_of terms)) = numbered-has g.plain terms g.order g.met in
        let under : literals_instance σ c.literals ≡ ks =
        wide-literals g.order terms c.literals below ∙ sym (renamed-literals g.order terms bind c.literals g.renamed below) in
        let size_under : sum_by literal_size (literals_instance σ c.literals) ≡ clause_size (clause_instance (substitution_of b Left) c) =
        ap (sum_by literal_size) (wide-literals g.order terms c.literals below) ∙ renamed-literals_size g.order ls ∙ terms_here.size in
        let size_bound : sum_by literal_size ks ≡ clause_size (clause_instance (substitution_of b Left) c) =
        ap (sum_by literal_size) (sym under) ∙ size_under in
        let parts = resolved-parts ks i d.literals g.gives in
        let less = sum_by-remove literal_size ks i parts.literal (slice_get_within ks i parts.literal parts.literal_there) in
        let made : sum_by literal_size (remove ks i) ≡ clause_size d = ap (sum_by literal_size) parts.gives in
        let d_small : clause_size d ≤ MOST_SYMBOLS = omega (arith, made, less, size_bound, small) in
        let premise_small : clause_size (clause_instance σ c) ≤ MOST_SYMBOLS = omega (arith, size_under, small) in
        let terms_small : clause_size (clause_instance (substitution terms) c) ≤ MOST_BOUND_SYMBOLS = omega (arith, terms_here.size, small) in
        let part = mapped-size (substitution terms) c.literals i r.literal r.there in
        let sides : literal_size (literal_instance (substitution terms) r.literal)
        ≡ tree_size (instance (substitution terms) r.literal.left) + tree_size (instance (substitution terms) r.literal.right) =
        sides_size (substitution terms) Left r.literal in
        let left_small : tree_size (instance (substitution terms) r.literal.left) ≤ MOST_SYMBOLS = omega (arith, part, sides, terms_here.size, small) in
        let d_is : d.literals ≡ literals_instance (renaming g.order) g.plain =
        numbered_literals (λ ms. resolved ms i) c terms bind d g (λ e. resolutions_in_instances (renaming g.order) ls g.plain i e) below in
        let many : length bind ≡ bound_of (clause_variables c) =
        ap length g.renamed ∙ length-map terms (instance (renaming g.order)) ∙ terms_here.many in
        record {
          inferred = record {
            clause = c;
            there = there;
            infers = record {
              named = record {
                literal = r.literal;
                literal_there = r.there;
                unifier = σ;
                most_general =
                    wide-general g.order terms r.literal.left r.literal.right sides-covered.0 sides-covered.1 has terms_here.general;
                is_eligible = eligible_wide g.order terms c.literals i (chosen mode c.literals) false has below is_eligible;
                concludes = ap (λ ms. resolved ms i) under ∙ g.gives;
                names = g.names;
              };
              size =
                  ap₂ ◌||◌ (not-less MOST_SYMBOLS (clause_size (clause_instance σ c)) premise_small)
                  (not-less MOST_SYMBOLS (clause_size d) d_small);
            };
          };
          of_key = refl;
          right_step =
              verdict_by_one (clause_parents clauses) number c d bind (λ ms. resolved ms i)
              (ap (option_map (λ q. let o : Parent = record { clause = q; introduces = false } in o)) there)
              (binds_renamed c g.order terms bind g.renamed many below
              (sides_no_truth p r.literal b (bound_of (clause_variables c)) terms right kind r.unified h) terms_small)
              g.gives g.names;
          numbered = conclusion_numbered g.plain (trees_variables (trees_of terms)) g.order d g.met d_is;
          bindings_numbered = bindings_numbered g.plain terms bind g.order d g.met g.renamed d_is;
          terms =
              and_from (list_all (is_function_term p) bind) true
              (bound_functions p g.order terms bind g.renamed
              (sides_put p r.literal b (bound_of (clause_variables c)) terms right kind r.unified h)) refl;
          small =
              and_from (list_all is_small_term bind) true
              (bound_small g.order terms bind g.renamed
              (unified_small r.literal.left r.literal.right terms MOST_SYMBOLS terms_here.general left_small (omega arith))) refl;
          symbols = λ test pass.
              let l_passes = list_all-item (literal_symbols_pass test) c.literals i r.literal r.there (pass c there) in
              and_from (list_all (symbols_pass test) bind) true
              (bound_symbols test g.order terms bind g.renamed
              (unified_symbols test r.literal.left r.literal.right terms terms_here.general
              (side-passes test Left r.literal l_passes) (side-passes test Right r.literal l_passes))) refl;
        }

-- ---- a literal that has no resolution

module _
    (p : ℕ → Bool) (mode : SelectionMode) (clauses : ℕ → Option TreeClause) (number : ℕ) (c : TreeClause) (i : ℕ)
    (there : clauses number ≡ Some c) (l : TreeLiteral) (at : slice_get c.literals i ≡ Some l) where
  named_at : (e : TreeClause) → IsInference p mode clauses (Refl number i) e → NamedResolution mode c i e
  named_at e it = subst (λ (q : TreeClause). NamedResolution mode q i e) (same_Some it.clause c (sym it.there ∙ there)) it.infers

  pub positive_unresolved : l.positive ≡ true → (e : TreeClause) → IsInference p mode clauses (Refl number i) e → ⊥
  positive_unresolved positive e it =
      let n = named_at e it in
      let parts = resolved-parts (literals_instance n.unifier c.literals) i e.literals n.concludes in
      let same : literal_instance n.unifier l ≡ parts.literal =
      same_Some (literal_instance n.unifier l) parts.literal
      (sym (literal_in_instance n.unifier c.literals i l at) ∙ parts.literal_there) in
      true≢false (sym positive ∙ ap (λ (k : TreeLiteral). k.positive) same ∙ parts.negative)

  pub apart_unresolved :
      ((σ : Substitution) → IsUnifier l.left l.right σ → ⊥) → (e : TreeClause) → IsInference p mode clauses (Refl number i) e → ⊥
  apart_unresolved none e it =
      let n = named_at e it in
      none n.unifier
      (subst (λ (k : TreeLiteral). IsUnifier k.left k.right n.unifier) (same_Some n.literal l (sym n.literal_there ∙ at)) n.most_general.unifies)

pub other_unresolved :
    (p : ℕ → Bool) (mode : SelectionMode) (clauses : ℕ → Option TreeClause) (number : ℕ) (c : TreeClause) (i : ℕ)
    → clauses number ≡ Some c → other_chosen (chosen mode c.literals) i ≡ true
    → (e : TreeClause) → IsInference p mode clauses (Refl number i) e → ⊥
other_unresolved p mode clauses number c i there other e it =
    let n : NamedResolution mode c i e =
    subst (λ (q : TreeClause). NamedResolution mode q i e) (same_Some it.clause c (sym it.there ∙ there)) it.infers in
    true≢false
    (sym n.is_eligible ∙ other_not_eligible (chosen mode c.literals) (literals_instance n.unifier c.literals) i false other)
