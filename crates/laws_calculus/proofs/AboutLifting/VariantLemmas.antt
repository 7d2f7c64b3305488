-- A substitution that can be undone on a clause is one, there, that can be undone everywhere: the other variables become variables
-- past all that it puts in. Under it a most general unifier stays one.
use Rattle.std.proofs.Common.{◌≡◌, ℕ, suc, max, ◌+◌, ◌-◌, ◌≤◌, ◌==◌, Bool, true, false, nat_lt, if◌then◌else◌, Option, Some, List, [], ◌∷◌, get_or, refl, ap, ap₂, sym, ◌∙◌, subst, inl, inr, ⊎_elim, arith}
use Rattle.std.specs.Prelude.{flat_map, option_map, remove, unwrap_or}
use Rattle.std.specs.List.{AllByRecursion, list_any}
use Rattle.std.specs.Option.{is_some}
use Rattle.std.proofs.lemmas.Bool.{cases_Bool, cond-true, cond-false, eqb-true, eq-eqb, lt-ltb, ltb-true, true≢false, false_from_ne_true}
use Rattle.fol_base.specs.Tree.{Tree, variable, application, Trees, no_trees, tree_then, tree_eq, tree_variables, trees_variables, is_truth, is_variable}
use Rattle.fol_base.specs.Instance.{Substitution, instance, instances}
use Rattle.fol_base.specs.Clause.{TreeLiteral, TreeClause, literal_instance, literal_variables, clause_variables}
use Rattle.fol_base.specs.Canonical.{distinct, place_of, renaming, bound_of, canonical_renaming}
use Rattle.fol_base.specs.Ground.{literals_instance}
use Rattle.fol_base.specs.Sides.{side_of, other_side_of}
use Rattle.fol_base.specs.Rules.{superposed, resolved, factored}
use Rattle.fol_base.specs.Unifier.{IsMostGeneralUnifier, IsMostGeneralUnifierApart}
use Rattle.fol_base.specs.Examples.{x, a, p, q₂, clause}
use Rattle.fol_base.specs.InstanceLaws.{after, PutsNoTruth}
use Rattle.fol_base.proofs.AboutTerms.TreeLemmas.{tree_eq-true, tree_eq-refl}
use Rattle.fol_base.proofs.AboutCanonical.NumberingLemmas.{with_variables-have, all_met}
use Rattle.fol_base.proofs.AboutTerms.VariableLemmas.{bound_of-append}
use Rattle.fol_base.proofs.AboutInstances.InstanceLemmas.{Agree, instances_of_instances, literals_instance-again, literals-agree}
use Rattle.fol_base.proofs.AboutClauses.InferenceLemmas.{superpositions_in_instances, resolutions_in_instances, factorings_in_instances}
use Rattle.kbo_order.proofs.AboutReading.ReadingLemmas.{instance-itself}
use Rattle.kbo_order.proofs.AboutMultisets.LiteralLemmas.{literals-themselves}
use Rattle.kbo_order.proofs.AboutMultisets.MemberLemmas.{In, any-In}
use Rattle.kernel_steps.specs.declared.key.Key.TheVariants.{Para, Refl, Factor, Replaced}
use Rattle.laws_calculus.specs.Variants.{AreVariants, CanonicalFormsAreVariants, ResolutionsHaveVariants, FactoringsHaveVariants, SuperpositionsHaveVariants, InferencesHaveVariants}
use Rattle.laws_calculus.proofs.AboutCovering.ClauseLemmas.{In-either, some-In}
use Rattle.laws_calculus.proofs.AboutLifting.UnifierLemmas.{arguments_of, first_of, rest_of, instance-again}
use Rattle.laws_calculus.proofs.AboutLifting.LiftLemmas.{Goes, eligible_between, unchosen_between, not_above_before, no_truth_before}
use Rattle.list_lemmas.proofs.Results.{some-mapped}

-- ---- what is left as it is

mutual
  pub kept_variable : (κ : Substitution) (t : Tree) (v : ℕ) → instance κ t ≡ t → In v (tree_variables t) → κ v ≡ variable v
  kept_variable κ (variable w) v e there = ⊎_elim (λ same. ap κ same ∙ e ∙ ap variable (sym same)) (λ none. absurd none) there
  kept_variable κ (application f ts) v e there = kept_variables κ ts v (ap arguments_of e) there

  kept_variables : (κ : Substitution) (ts : Trees) (v : ℕ) → instances κ ts ≡ ts → In v (trees_variables ts) → κ v ≡ variable v
  kept_variables κ no_trees v e there = absurd there
  kept_variables κ (tree_then t ts) v e there =
      ⊎_elim
      (λ here. kept_variable κ t v (ap first_of e) here)
      (λ later. kept_variables κ ts v (ap rest_of e) later)
      (In-either v (tree_variables t) (trees_variables ts) there)

pub kept_literals :
    (κ : Substitution) (ls : List TreeLiteral) (v : ℕ)
    → literals_instance κ ls ≡ ls → In v (flat_map literal_variables ls) → κ v ≡ variable v
kept_literals κ [] v e there = absurd there
kept_literals κ (l ∷ ls) v e there =
    let same : literal_instance κ l ≡ l = ap (λ (ks : List TreeLiteral). get_or ks 0 l) e in
    ⊎_elim
    (λ here.
    ⊎_elim
    (λ k. kept_variable κ l.left v (ap (λ (k : TreeLiteral). k.left) same) k)
    (λ k. kept_variable κ l.right v (ap (λ (k : TreeLiteral). k.right) same) k)
    (In-either v (tree_variables l.left) (tree_variables l.right) here))
    (λ later. kept_literals κ ls v (ap (λ (ks : List TreeLiteral). remove ks 0) e) later)
    (In-either v (literal_variables l) (flat_map literal_variables ls) there)

-- ---- undone everywhere

-- as the first substitution on the listed variables, and undone on all
pub record Widened (vs : List ℕ) (forth : Substitution) : Type 0 where
  pub wider : Substitution
  pub undo : Substitution
  pub undone : (v : ℕ) → instance undo (wider v) ≡ variable v
  pub same : (v : ℕ) → In v vs → wider v ≡ forth v

member-bound : (g : ℕ → List ℕ) (vs : List ℕ) (v : ℕ) → In v vs → bound_of (g v) ≤ bound_of (flat_map g vs)
member-bound g [] v there = absurd there
member-bound g (w ∷ ws) v there =
    let whole : bound_of (flat_map g (w ∷ ws)) ≡ max (bound_of (g w)) (bound_of (flat_map g ws)) = bound_of-append (g w) (flat_map g ws) in
    ⊎_elim
    (λ e. let here : bound_of (g v) ≡ bound_of (g w) = ap (λ u. bound_of (g u)) e in omega (arith, whole, here))
    (λ later. omega (arith, whole, member-bound g ws v later))
    there

-- what the listed variables become stays below n, what the others become is past it
abbrev pushed : List ℕ → Substitution → ℕ → Substitution
pushed vs forth n v = if list_any (λ w. v == w) vs then forth v else variable (v + n)

abbrev pulled : Substitution → ℕ → Substitution
pulled back n w = if nat_lt w n then back w else variable (w - n)

pulled-below :
    (back : Substitution) (n v : ℕ) (t : Tree)
    → instance back t ≡ variable v → bound_of (tree_variables t) ≤ n → instance (pulled back n) t ≡ variable v
pulled-below back n v (variable w) e low = cond-true (nat_lt w n) (back w) (variable (w - n)) (lt-ltb w n (omega arith)) ∙ e
pulled-below back n v (application f ts) e low = absurd (true≢false (sym (ap is_variable e)))

pulled-past : (back : Substitution) (n v : ℕ) → pulled back n (v + n) ≡ variable v
pulled-past back n v =
    let less : (v + n) - n ≡ v = omega arith in
    cond-false (nat_lt (v + n) n) (back (v + n)) (variable ((v + n) - n)) (false_from_ne_true (nat_lt (v + n) n) (λ e. absurd (omega (arith, ltb-true (v + n) n e)))) ∙ ap variable less

pub widen :
    (vs : List ℕ) (forth back : Substitution) → ((v : ℕ) → In v vs → instance back (forth v) ≡ variable v) → Widened vs forth
widen vs forth back undone =
    let n : ℕ = bound_of (flat_map (λ v. tree_variables (forth v)) vs) in
    let listed : ℕ → Bool = λ v. list_any (λ w. v == w) vs in
    record {
      wider = pushed vs forth n;
      undo = pulled back n;
      undone = λ v.
          ⊎_elim
          (λ e.
          let found = any-In (λ w. v == w) vs e in
          let there : In v vs = subst (λ (w : ℕ). In w vs) (sym (eqb-true v found.0 found.2)) found.1 in
          ap (instance (pulled back n)) (cond-true (listed v) (forth v) (variable (v + n)) e)
          ∙ pulled-below back n v (forth v) (undone v there) (member-bound (λ w. tree_variables (forth w)) vs v there))
          (λ e. ap (instance (pulled back n)) (cond-false (listed v) (forth v) (variable (v + n)) e) ∙ pulled-past back n v)
          (cases_Bool (listed v));
      same = λ v there. cond-true (listed v) (forth v) (variable (v + n)) (some-In (λ w. v == w) vs v there (eq-eqb v v refl));
    }

-- ---- of a variant

agree_listed : (σ τ : Substitution) (vs : List ℕ) → ((v : ℕ) → In v vs → σ v ≡ τ v) → Agree σ τ vs
agree_listed σ τ [] h = tt
agree_listed σ τ (v ∷ vs) h = (h v (inl refl), agree_listed σ τ vs (λ w there. h w (inr there)))

-- what leads to a variant, and can be undone everywhere
pub record Renaming (d : TreeClause) (e : TreeClause) : Type 0 where
  pub wider : Substitution
  pub undo : Substitution
  pub undone : (v : ℕ) → instance undo (wider v) ≡ variable v
  pub becomes : literals_instance wider d.literals ≡ e.literals
  pub same_names : e.names ≡ d.names

pub renaming_of : (d e : TreeClause) → AreVariants d e → Renaming d e
renaming_of d e variants =
    let literals : TreeClause → List TreeLiteral = λ c. c.literals in
    let there : literals_instance variants.forth d.literals ≡ e.literals = ap literals variants.becomes in
    let again : literals_instance (after variants.back variants.forth) d.literals ≡ d.literals =
    sym (literals_instance-again variants.back variants.forth d.literals)
    ∙ ap (literals_instance variants.back) there ∙ ap literals variants.comes_back in
    let w : Widened (clause_variables d) variants.forth =
    widen (clause_variables d) variants.forth variants.back
    (λ v listed. kept_literals (after variants.back variants.forth) d.literals v again listed) in
    record {
      wider = w.wider;
      undo = w.undo;
      undone = w.undone;
      becomes = literals-agree w.wider variants.forth d.literals (agree_listed w.wider variants.forth (clause_variables d) w.same) ∙ there;
      same_names = sym (ap (λ (c : TreeClause). c.names) variants.becomes);
    }

goes_back : (wider undo : Substitution) → ((v : ℕ) → instance undo (wider v) ≡ variable v) → (σ : Substitution) → Goes undo (after wider σ) σ
goes_back wider undo undone σ v = instance-again undo wider variable undone (σ v) ∙ instance-itself (σ v)

puts_variables : (wider undo : Substitution) → ((v : ℕ) → instance undo (wider v) ≡ variable v) → PutsNoTruth wider
puts_variables wider undo undone v = no_truth_before undo (wider v) (ap is_truth (undone v))

-- an instance under the unifier is one under the unifier that is renamed
factors_through :
    (undo σ σ' ρ θ : Substitution) → Goes undo σ' σ → ((v : ℕ) → ρ v ≡ instance θ (σ v)) → (v : ℕ) → ρ v ≡ instance (after θ undo) (σ' v)
factors_through undo σ σ' ρ θ goes h v = h v ∙ ap (instance θ) (sym (goes v)) ∙ instances_of_instances θ undo (σ' v)

renamed_general :
    (wider undo : Substitution) → ((v : ℕ) → instance undo (wider v) ≡ variable v)
    → (s t : Tree) (σ : Substitution) → IsMostGeneralUnifier s t σ → IsMostGeneralUnifier s t (after wider σ)
renamed_general wider undo undone s t σ general = record {
  unifies = sym (instances_of_instances wider σ s) ∙ ap (instance wider) general.unifies ∙ instances_of_instances wider σ t;
  is_general = λ ρ unifies.
      let by = general.is_general ρ unifies in
      (after by.0 undo, factors_through undo σ (after wider σ) ρ by.0 (goes_back wider undo undone σ) by.1);
}

renamed_general_apart :
    (wider undo : Substitution) → ((v : ℕ) → instance undo (wider v) ≡ variable v)
    → (s t : Tree) (σ τ : Substitution) → IsMostGeneralUnifierApart s t σ τ → IsMostGeneralUnifierApart s t (after wider σ) (after wider τ)
renamed_general_apart wider undo undone s t σ τ general = record {
  unifies = sym (instances_of_instances wider σ s) ∙ ap (instance wider) general.unifies ∙ instances_of_instances wider τ t;
  is_general = λ ρ π unifies.
      let by = general.is_general ρ π unifies in (
        after by.0 undo,
        factors_through undo σ (after wider σ) ρ by.0 (goes_back wider undo undone σ) by.1,
        factors_through undo τ (after wider τ) π by.0 (goes_back wider undo undone τ) by.2,
      );
}

-- ---- the rules

pub resolutions_have_variants : ResolutionsHaveVariants
resolutions_have_variants mode c i d e variants n =
    let r = renaming_of d e variants in
    let σ : Substitution = n.unifier in
    let σ' : Substitution = after r.wider σ in
    record {
      literal = n.literal;
      literal_there = n.literal_there;
      unifier = σ';
      most_general = renamed_general r.wider r.undo r.undone n.literal.left n.literal.right σ n.most_general;
      is_eligible = eligible_between mode r.undo σ' σ (goes_back r.wider r.undo r.undone σ) c.literals i false n.is_eligible;
      concludes =
          ap (λ ls. resolved ls i) (sym (literals_instance-again r.wider σ c.literals))
          ∙ resolutions_in_instances r.wider (literals_instance σ c.literals) d.literals i n.concludes
          ∙ ap (λ ls. let o : Option (List TreeLiteral) = Some ls in o) r.becomes;
      names = r.same_names ∙ n.names;
    }

pub factorings_have_variants : FactoringsHaveVariants
factorings_have_variants is_predicate mode c i side_i j side_j d e variants n =
    let r = renaming_of d e variants in
    let σ : Substitution = n.unifier in
    let σ' : Substitution = after r.wider σ in
    let goes : Goes r.undo σ' σ = goes_back r.wider r.undo r.undone σ in
    record {
      literal_i = n.literal_i;
      i_there = n.i_there;
      literal_j = n.literal_j;
      j_there = n.j_there;
      one_kind = n.one_kind;
      unifier = σ';
      most_general = renamed_general r.wider r.undo r.undone (side_of side_i n.literal_i) (side_of side_j n.literal_j) σ n.most_general;
      i_ordered = not_above_before r.undo σ' σ goes side_i n.literal_i n.i_ordered;
      i_eligible = unchosen_between mode r.undo σ' σ goes c i false n.i_eligible;
      concludes =
          ap (λ ls. factored ls i side_i j side_j) (sym (literals_instance-again r.wider σ c.literals))
          ∙ factorings_in_instances r.wider (literals_instance σ c.literals) d.literals i j side_i side_j
          (puts_variables r.wider r.undo r.undone) n.concludes
          ∙ ap (λ ls. let o : Option (List TreeLiteral) = Some ls in o) r.becomes;
      names = r.same_names ∙ n.names;
    }

-- terms that differ still do, where what is put in can be undone
still_differ :
    (undo σ σ' τ τ' : Substitution) → Goes undo σ' σ → Goes undo τ' τ
    → (s t : Tree) → tree_eq (instance σ s) (instance τ t) ≡ false → tree_eq (instance σ' s) (instance τ' t) ≡ false
still_differ undo σ σ' τ τ' goes goes' s t differ =
    false_from_ne_true (tree_eq (instance σ' s) (instance τ' t)) λ e.
    let same : instance σ s ≡ instance τ t =
    sym (instance-again undo σ' σ goes s)
    ∙ ap (instance undo) (tree_eq-true (instance σ' s) (instance τ' t) e)
    ∙ instance-again undo τ' τ goes' t in
    true≢false (sym (tree_eq-refl (instance σ s)) ∙ ap (tree_eq (instance σ s)) same ∙ differ)

pub superpositions_have_variants : SuperpositionsHaveVariants
superpositions_have_variants is_predicate mode first i from_side second j into_side place d e variants n =
    let r = renaming_of d e variants in
    let σ : Substitution = n.first_unifier in
    let τ : Substitution = n.second_unifier in
    let σ' : Substitution = after r.wider σ in
    let τ' : Substitution = after r.wider τ in
    let goes : Goes r.undo σ' σ = goes_back r.wider r.undo r.undone σ in
    let goes' : Goes r.undo τ' τ = goes_back r.wider r.undo r.undone τ in
    record {
      from = n.from;
      from_there = n.from_there;
      into = n.into;
      into_there = n.into_there;
      old = n.old;
      old_there = n.old_there;
      no_variable = n.no_variable;
      one_kind = n.one_kind;
      first_unifier = σ';
      second_unifier = τ';
      most_general = renamed_general_apart r.wider r.undo r.undone (side_of from_side n.from) n.old σ τ n.most_general;
      from_ordered = not_above_before r.undo σ' σ goes from_side n.from n.from_ordered;
      into_ordered = not_above_before r.undo τ' τ goes' into_side n.into n.into_ordered;
      from_eligible = unchosen_between mode r.undo σ' σ goes first i true n.from_eligible;
      into_eligible =
          ⊎_elim
          (λ h. inl (h.0, eligible_between mode r.undo τ' τ goes' second.literals j false h.1))
          (λ h. inr (h.0, unchosen_between mode r.undo τ' τ goes' second j true h.1))
          n.into_eligible;
      others_differ = λ positive root.
          still_differ r.undo σ σ' τ τ' goes goes' (other_side_of from_side n.from) (other_side_of into_side n.into)
          (n.others_differ positive root);
      concludes =
          ap₂ (λ ls ks. superposed ls i from_side ks j into_side place)
          (sym (literals_instance-again r.wider σ first.literals)) (sym (literals_instance-again r.wider τ second.literals))
          ∙ superpositions_in_instances r.wider (literals_instance σ first.literals) (literals_instance τ second.literals) d.literals
          i j from_side into_side place (puts_variables r.wider r.undo r.undone) n.concludes
          ∙ ap (λ ls. let o : Option (List TreeLiteral) = Some ls in o) r.becomes;
      names = r.same_names ∙ n.names;
    }

pub inferences_have_variants : InferencesHaveVariants
inferences_have_variants is_predicate mode clauses (Para first i s second j z place) d e variants it = record {
  first_clause = it.first_clause;
  first_there = it.first_there;
  second_clause = it.second_clause;
  second_there = it.second_there;
  infers = superpositions_have_variants is_predicate mode it.first_clause i s it.second_clause j z place d e variants it.infers;
}
inferences_have_variants is_predicate mode clauses (Refl k i) d e variants it =
    record { clause = it.clause; there = it.there; infers = resolutions_have_variants mode it.clause i d e variants it.infers }
inferences_have_variants is_predicate mode clauses (Factor k i s j z) d e variants it =
    record { clause = it.clause; there = it.there; infers = factorings_have_variants is_predicate mode it.clause i s j z d e variants it.infers }
inferences_have_variants is_predicate mode clauses (Replaced k) d e variants it = it

-- ---- the canonical form

place_of-at : (v : ℕ) (ws : List ℕ) → is_some (place_of v ws) ≡ true → (k : ℕ) × (place_of v ws ≡ Some k) × ((d : ℕ) → get_or ws k d ≡ v)
place_of-at v [] h = absurd (true≢false (sym h))
place_of-at v (w ∷ ws) h =
    ⊎_elim
    (λ e. (0, cond-true (v == w) (Some 0) (option_map suc (place_of v ws)) e, λ d. sym (eqb-true v w e)))
    (λ e.
    let later : place_of v (w ∷ ws) ≡ option_map suc (place_of v ws) = cond-false (v == w) (Some 0) (option_map suc (place_of v ws)) e in
    let found = place_of-at v ws (some-mapped (place_of v ws) (sym (ap is_some later) ∙ h)) in
    (suc found.0, later ∙ ap (option_map suc) found.1, found.2))
    (cases_Bool (v == w))

-- the variable of a number
abbrev numbered : List ℕ → Substitution
numbered order n = variable (get_or order n n)

numbered_back :
    (order vs : List ℕ) → AllByRecursion (λ v. is_some (place_of v order) ≡ true) vs → Agree (after (numbered order) (renaming order)) variable vs
numbered_back order [] all = tt
numbered_back order (v ∷ vs) all =
    let found = place_of-at v order all.0 in (
      ap (λ (o : Option ℕ). numbered order (unwrap_or o v)) found.1 ∙ ap variable (found.2 found.0),
      numbered_back order vs all.1,
    )

pub canonical_forms_are_variants : CanonicalFormsAreVariants
canonical_forms_are_variants c =
    let vs : List ℕ = clause_variables c in
    let order : List ℕ = distinct vs in
    let met : AllByRecursion (λ v. is_some (place_of v order) ≡ true) vs =
    subst (λ (o : List ℕ). AllByRecursion (λ v. is_some (place_of v o) ≡ true) vs) (all_met vs) (with_variables-have [] vs) in
    record {
      forth = canonical_renaming c;
      becomes = refl;
      back = numbered order;
      comes_back =
          ap (λ ls. let d : TreeClause = record { literals = ls; names = c.names } in d)
          (literals_instance-again (numbered order) (renaming order) c.literals
          ∙ literals-agree (after (numbered order) (renaming order)) variable c.literals (numbered_back order vs met)
          ∙ literals-themselves c.literals);
    }

-- ---- examples

-- 0 and 1 become 3 and 2, and the other way round
abbrev exchanging : Substitution
exchanging v = variable (3 - v)

pub renamed_example : AreVariants (clause (q₂ (x 0) (x 1) ∷ [])) (clause (q₂ (x 3) (x 2) ∷ []))
renamed_example = record { forth = exchanging; becomes = refl; back = exchanging; comes_back = refl }

-- the left side of the first literal
abbrev first_left : TreeClause → Tree
first_left c = (get_or c.literals 0 (p a)).left

-- no term that is put in brings a variable back
pub bound_example : AreVariants (clause (p (x 0) ∷ [])) (clause (p a ∷ [])) → ⊥
bound_example variants =
    let same : a ≡ x 0 = ap (λ c. first_of (arguments_of (first_left c))) variants.comes_back in
    true≢false (sym (ap is_variable same))

-- one variable can't become two
pub merged_example : AreVariants (clause (q₂ (x 0) (x 1) ∷ [])) (clause (q₂ (x 0) (x 0) ∷ [])) → ⊥
merged_example variants =
    let zero_is : variants.back 0 ≡ x 0 = ap (λ c. first_of (arguments_of (first_left c))) variants.comes_back in
    let one_is : variants.back 0 ≡ x 1 = ap (λ c. first_of (rest_of (arguments_of (first_left c)))) variants.comes_back in
    let numbers : 1 ≡ 2 = ap (λ t. bound_of (tree_variables t)) (sym zero_is ∙ one_is) in
    absurd (omega (arith, numbers))
