-- What an inference concludes has no symbols but those of its premises: a most general unifier brings in none.
use Rattle.std.proofs.Common.{◌≡◌, ℕ, ◌+◌, Bool, true, false, List, [], ◌∷◌, Some, refl, ap, ap₂, sym, ◌∙◌, if◌then◌else◌}
use Rattle.std.specs.Prelude.{slice_get}
use Rattle.std.specs.List.{list_all}
use Rattle.std.proofs.lemmas.Bool.{and_parts, and_from, cond-true}
use Rattle.fol_base.specs.Tree.{Tree, variable, application, Trees, no_trees, tree_then, trees_count}
use Rattle.fol_base.specs.Instance.{Substitution, instance, instances}
use Rattle.fol_base.specs.Clause.{TreeLiteral, TreeClause, literal_instance}
use Rattle.fol_base.specs.Ground.{literals_instance}
use Rattle.fol_base.specs.Rules.{resolved, factored, disequation}
use Rattle.fol_base.specs.Selection.{SelectionMode}
use Rattle.fol_base.specs.Sides.{side_of, other_side_of}
use Rattle.fol_base.specs.Unifier.{IsMostGeneralUnifier, IsMostGeneralUnifierApart}
use Rattle.fol_base.specs.declared.clause.Side.{Side}
use Rattle.fol_base.specs.declared.clause.Side.TheVariants.{Left, Right}
use Rattle.fol_base.proofs.AboutInstances.InstanceLemmas.{trees_count-instances}
use Rattle.fol_base.proofs.AboutClauses.RuleLemmas.{resolved-parts, factored-parts}
use Rattle.fol_base.proofs.WorkedExamples.TestLemmas.{list_all-item, list_all-set, list_all-remove}
use Rattle.kernel_steps.specs.Inference.{NamedSuperposition, NamedResolution, NamedFactoring}
use Rattle.kernel_steps.specs.Symbols.{symbols_pass, all_symbols_pass, literal_symbols_pass}
use Rattle.kernel_steps.specs.declared.key.Key.TheVariants.{Para, Refl, Factor, Replaced}
use Rattle.kernel_steps.proofs.AboutCalls.SymbolLemmas.{subterm-passes, side-passes, superposed-passes}
use Rattle.laws_saturation.specs.Laws.{InferencesKeepSymbols}

module _ (test : ℕ → ℕ → Bool) where
  -- ---- foreign parts taken out

  -- what stands below a symbol that doesn't pass becomes a variable
  abbrev mutual
    scrub : Tree → Tree
    scrub (variable v) = variable v
    scrub (application f ts) = if test f (trees_count ts) then application f (scrub_all ts) else variable 0

    scrub_all : Trees → Trees
    scrub_all no_trees = no_trees
    scrub_all (tree_then t ts) = tree_then (scrub t) (scrub_all ts)

  scrubbed-count : (ts : Trees) → trees_count (scrub_all ts) ≡ trees_count ts
  scrubbed-count no_trees = refl
  scrubbed-count (tree_then t ts) = ap (λ n. 1 + n) (scrubbed-count ts)

  mutual
    scrubbed-passes : (t : Tree) → symbols_pass test (scrub t) ≡ true
    scrubbed-passes (variable v) = refl
    scrubbed-passes (application f ts) = by (test f (trees_count ts)) refl (all_scrubbed-pass ts)
      where
        by :
            (b : Bool) → test f (trees_count ts) ≡ b → all_symbols_pass test (scrub_all ts) ≡ true
            → symbols_pass test (if b then application f (scrub_all ts) else variable 0) ≡ true
        by true passes rest =
            and_from (test f (trees_count (scrub_all ts))) (all_symbols_pass test (scrub_all ts)) (ap (test f) (scrubbed-count ts) ∙ passes) rest
        by false fails rest = refl

    all_scrubbed-pass : (ts : Trees) → all_symbols_pass test (scrub_all ts) ≡ true
    all_scrubbed-pass no_trees = refl
    all_scrubbed-pass (tree_then t ts) =
        and_from (symbols_pass test (scrub t)) (all_symbols_pass test (scrub_all ts)) (scrubbed-passes t) (all_scrubbed-pass ts)

  -- an instance of a tree whose symbols pass is scrubbed in what was put in alone
  mutual
    scrubbed-instance : (σ : Substitution) (t : Tree) → symbols_pass test t ≡ true → scrub (instance σ t) ≡ instance (λ v. scrub (σ v)) t
    scrubbed-instance σ (variable v) h = refl
    scrubbed-instance σ (application f ts) h =
        let both = and_parts (test f (trees_count ts)) (all_symbols_pass test ts) h in
        cond-true (test f (trees_count (instances σ ts))) (application f (scrub_all (instances σ ts))) (variable 0)
        (ap (test f) (trees_count-instances σ ts) ∙ both.0)
        ∙ ap (application f) (all_scrubbed-instances σ ts both.1)

    all_scrubbed-instances :
        (σ : Substitution) (ts : Trees) → all_symbols_pass test ts ≡ true → scrub_all (instances σ ts) ≡ instances (λ v. scrub (σ v)) ts
    all_scrubbed-instances σ no_trees h = refl
    all_scrubbed-instances σ (tree_then t ts) h =
        let both = and_parts (symbols_pass test t) (all_symbols_pass test ts) h in
        ap₂ tree_then (scrubbed-instance σ t both.0) (all_scrubbed-instances σ ts both.1)

  -- the symbols of an instance are the tree's and others
  mutual
    passes-below : (θ : Substitution) (t : Tree) → symbols_pass test (instance θ t) ≡ true → symbols_pass test t ≡ true
    passes-below θ (variable v) h = refl
    passes-below θ (application f ts) h =
        let both = and_parts (test f (trees_count (instances θ ts))) (all_symbols_pass test (instances θ ts)) h in
        and_from (test f (trees_count ts)) (all_symbols_pass test ts) (ap (test f) (sym (trees_count-instances θ ts)) ∙ both.0)
        (all_pass-below θ ts both.1)

    all_pass-below : (θ : Substitution) (ts : Trees) → all_symbols_pass test (instances θ ts) ≡ true → all_symbols_pass test ts ≡ true
    all_pass-below θ no_trees h = refl
    all_pass-below θ (tree_then t ts) h =
        let both = and_parts (symbols_pass test (instance θ t)) (all_symbols_pass test (instances θ ts)) h in
        and_from (symbols_pass test t) (all_symbols_pass test ts) (passes-below θ t both.0) (all_pass-below θ ts both.1)

  -- ---- unifiers

  unifier-passes :
      (s t : Tree) (σ : Substitution) → symbols_pass test s ≡ true → symbols_pass test t ≡ true → IsMostGeneralUnifier s t σ
      → (v : ℕ) → symbols_pass test (σ v) ≡ true
  unifier-passes s t σ s_passes t_passes general v =
      let it =
      general.is_general (λ w. scrub (σ w))
      (sym (scrubbed-instance σ s s_passes) ∙ ap scrub general.unifies ∙ scrubbed-instance σ t t_passes) in
      passes-below it.0 (σ v) (ap (symbols_pass test) (sym (it.1 v)) ∙ scrubbed-passes (σ v))

  unifier_apart-passes :
      (s t : Tree) (σ τ : Substitution) → symbols_pass test s ≡ true → symbols_pass test t ≡ true → IsMostGeneralUnifierApart s t σ τ
      → ((v : ℕ) → symbols_pass test (σ v) ≡ true) × ((v : ℕ) → symbols_pass test (τ v) ≡ true)
  unifier_apart-passes s t σ τ s_passes t_passes general =
      let it =
      general.is_general (λ w. scrub (σ w)) (λ w. scrub (τ w))
      (sym (scrubbed-instance σ s s_passes) ∙ ap scrub general.unifies ∙ scrubbed-instance τ t t_passes) in (
        λ v. passes-below it.0 (σ v) (ap (symbols_pass test) (sym (it.1 v)) ∙ scrubbed-passes (σ v)),
        λ v. passes-below it.0 (τ v) (ap (symbols_pass test) (sym (it.2 v)) ∙ scrubbed-passes (τ v)),
      )

  -- ---- instances

  mutual
    instance-passes : (σ : Substitution) → ((v : ℕ) → symbols_pass test (σ v) ≡ true) → (t : Tree) → symbols_pass test t ≡ true → symbols_pass test (instance σ t) ≡ true
    instance-passes σ puts (variable v) h = puts v
    instance-passes σ puts (application f ts) h =
        let both = and_parts (test f (trees_count ts)) (all_symbols_pass test ts) h in
        and_from (test f (trees_count (instances σ ts))) (all_symbols_pass test (instances σ ts))
        (ap (test f) (trees_count-instances σ ts) ∙ both.0) (instances-pass σ puts ts both.1)

    instances-pass :
        (σ : Substitution) → ((v : ℕ) → symbols_pass test (σ v) ≡ true)
        → (ts : Trees) → all_symbols_pass test ts ≡ true → all_symbols_pass test (instances σ ts) ≡ true
    instances-pass σ puts no_trees h = refl
    instances-pass σ puts (tree_then t ts) h =
        let both = and_parts (symbols_pass test t) (all_symbols_pass test ts) h in
        and_from (symbols_pass test (instance σ t)) (all_symbols_pass test (instances σ ts)) (instance-passes σ puts t both.0)
        (instances-pass σ puts ts both.1)

  abbrev Pass : List TreeLiteral → Type 0
  Pass ls = list_all (literal_symbols_pass test) ls ≡ true

  pub literals-pass : (σ : Substitution) → ((v : ℕ) → symbols_pass test (σ v) ≡ true) → (ls : List TreeLiteral) → Pass ls → Pass (literals_instance σ ls)
  literals-pass σ puts [] h = refl
  literals-pass σ puts (l ∷ ls) h =
      let both = and_parts (literal_symbols_pass test l) (list_all (literal_symbols_pass test) ls) h in
      let sides = and_parts (symbols_pass test l.left) (symbols_pass test l.right) both.0 in
      and_from (literal_symbols_pass test (literal_instance σ l)) (list_all (literal_symbols_pass test) (literals_instance σ ls))
      (and_from (symbols_pass test (instance σ l.left)) (symbols_pass test (instance σ l.right))
      (instance-passes σ puts l.left sides.0) (instance-passes σ puts l.right sides.1))
      (literals-pass σ puts ls both.1)

  -- ---- the rules

  resolved-passes : (ls : List TreeLiteral) (i : ℕ) (made : List TreeLiteral) → resolved ls i ≡ Some made → Pass ls → Pass made
  resolved-passes ls i made h pass =
      ap (list_all (literal_symbols_pass test)) (sym (resolved-parts ls i made h).gives) ∙ list_all-remove (literal_symbols_pass test) ls i pass

  item-passes : (ls : List TreeLiteral) (i : ℕ) (l : TreeLiteral) → Pass ls → slice_get ls i ≡ Some l → literal_symbols_pass test l ≡ true
  item-passes ls i l pass there = list_all-item (literal_symbols_pass test) ls i l there pass

  resolution-passes : (mode : SelectionMode) (c : TreeClause) (i : ℕ) (d : TreeClause) → Pass c.literals → NamedResolution mode c i d → Pass d.literals
  resolution-passes mode c i d pass n =
      let literal = item-passes c.literals i n.literal pass n.literal_there in
      resolved-passes (literals_instance n.unifier c.literals) i d.literals n.concludes
      (literals-pass n.unifier
      (unifier-passes n.literal.left n.literal.right n.unifier (side-passes test Left n.literal literal) (side-passes test Right n.literal literal) n.most_general)
      c.literals pass)

  superposition-passes :
      (is_predicate : ℕ → Bool) (mode : SelectionMode) (first : TreeClause) (i : ℕ) (s : Side) (second : TreeClause) (j : ℕ) (z : Side)
      (place : List ℕ) (d : TreeClause)
      → Pass first.literals → Pass second.literals → NamedSuperposition is_predicate mode first i s second j z place d → Pass d.literals
  superposition-passes is_predicate mode first i s second j z place d first_pass second_pass n =
      let from = item-passes first.literals i n.from first_pass n.from_there in
      let into = item-passes second.literals j n.into second_pass n.into_there in
      let puts =
      unifier_apart-passes (side_of s n.from) n.old n.first_unifier n.second_unifier (side-passes test s n.from from)
      (subterm-passes test place (side_of z n.into) n.old n.old_there (side-passes test z n.into into)) n.most_general in
      superposed-passes test (literals_instance n.first_unifier first.literals) i s (literals_instance n.second_unifier second.literals) j z place
      d.literals n.concludes (literals-pass n.first_unifier puts.0 first.literals first_pass) (literals-pass n.second_unifier puts.1 second.literals second_pass)

  other_side-passes : (s : Side) (l : TreeLiteral) → literal_symbols_pass test l ≡ true → symbols_pass test (other_side_of s l) ≡ true
  other_side-passes Left l h = side-passes test Right l h
  other_side-passes Right l h = side-passes test Left l h

  factored-passes :
      (ls : List TreeLiteral) (i : ℕ) (s : Side) (j : ℕ) (z : Side) (made : List TreeLiteral)
      → factored ls i s j z ≡ Some made → Pass ls → Pass made
  factored-passes ls i s j z made h pass =
      let p = factored-parts ls i s j z made h in
      ap (list_all (literal_symbols_pass test)) (sym p.gives)
      ∙ list_all-set (literal_symbols_pass test) ls i (disequation (other_side_of s p.literal_i) (other_side_of z p.literal_j)) pass
      (and_from (symbols_pass test (other_side_of s p.literal_i)) (symbols_pass test (other_side_of z p.literal_j))
      (other_side-passes s p.literal_i (item-passes ls i p.literal_i pass p.i_there))
      (other_side-passes z p.literal_j (item-passes ls j p.literal_j pass p.j_there)))

  factoring-passes :
      (is_predicate : ℕ → Bool) (mode : SelectionMode) (c : TreeClause) (i : ℕ) (s : Side) (j : ℕ) (z : Side) (d : TreeClause)
      → Pass c.literals → NamedFactoring is_predicate mode c i s j z d → Pass d.literals
  factoring-passes is_predicate mode c i s j z d pass n =
      factored-passes (literals_instance n.unifier c.literals) i s j z d.literals n.concludes
      (literals-pass n.unifier
      (unifier-passes (side_of s n.literal_i) (side_of z n.literal_j) n.unifier
      (side-passes test s n.literal_i (item-passes c.literals i n.literal_i pass n.i_there))
      (side-passes test z n.literal_j (item-passes c.literals j n.literal_j pass n.j_there)) n.most_general)
      c.literals pass)

-- ---- of each name

pub inferences_keep_symbols : InferencesKeepSymbols
inferences_keep_symbols is_predicate mode test clauses (Para n i s m j z place) c pass is =
    superposition-passes test is_predicate mode is.first_clause i s is.second_clause j z place c (pass n is.first_clause is.first_there)
    (pass m is.second_clause is.second_there) is.infers
inferences_keep_symbols is_predicate mode test clauses (Refl n i) c pass is =
    resolution-passes test mode is.clause i c (pass n is.clause is.there) is.infers
inferences_keep_symbols is_predicate mode test clauses (Factor n i s j z) c pass is =
    factoring-passes test is_predicate mode is.clause i s j z c (pass n is.clause is.there) is.infers
inferences_keep_symbols is_predicate mode test clauses (Replaced n) c pass is = absurd is
