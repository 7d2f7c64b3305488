-- Ground instances of instances, and of canonical forms.
use Rattle.std.proofs.Common.{◌≡◌, ℕ, suc, Bool, true, false, not, ◌||◌, ◌==◌, cond, List, [], ◌∷◌, get_or, Some, refl, ap, sym, ◌∙◌, ⊎_elim}
use Rattle.std.specs.Prelude.{◌↔◌, All, filter, option_map, unwrap_or}
use Rattle.std.specs.List.{AllByRecursion}
use Rattle.std.proofs.lemmas.Bool.{and_parts, and_from, or_left, or_right, eqb-true, true≢false, cond_both, cond-true, cond-false, cases_Bool, eq-eqb}
use Rattle.std.proofs.lemmas.Map.Views.{any-filter_same}
use Rattle.std.proofs.lemmas.List.Elements.{recursion_from_All}
use Rattle.fol_base.specs.Tree.{Tree, variable, application, Trees, no_trees, tree_then, trees_count}
use Rattle.fol_base.specs.Instance.{Substitution, instance, instances}
use Rattle.fol_base.specs.Clause.{TreeClause, clause_variables, clause_instance}
use Rattle.fol_base.specs.Canonical.{distinct, place_of, renaming, canonical_clause}
use Rattle.fol_base.specs.Ground.{has_symbol, is_ground, is_over, are_over, ground_over, GroundClause, GroundInstance, literals_instance}
use Rattle.fol_base.specs.Symbols.{FunctionSymbol, FunctionSymbols}
use Rattle.fol_base.specs.InstanceLaws.{after, GroundInstancesOfInstances, GroundInstancesOfCanonical}
use Rattle.fol_base.proofs.AboutClauses.MeaningLemmas.{PutsGround, is_ground-instance}
use Rattle.fol_base.proofs.AboutCanonical.NumberingLemmas.{listed}
use Rattle.fol_base.proofs.AboutInstances.InstanceLemmas.{Agree, trees_count-instances, literals_instance-again, literals-agree}

-- ---- over a list

mutual
  pub is_over-instance :
      (functions : List FunctionSymbol) (σ : Substitution) → PutsGround functions σ
      → (t : Tree) → is_over functions t ≡ true → is_over functions (instance σ t) ≡ true
  is_over-instance functions σ h (variable v) over = (and_parts (is_ground (σ v)) (is_over functions (σ v)) (h v)).1
  is_over-instance functions σ h (application f ts) over =
      let parts = and_parts (has_symbol functions f (trees_count ts)) (are_over functions ts) over in
      and_from (has_symbol functions f (trees_count (instances σ ts))) (are_over functions (instances σ ts))
      (ap (has_symbol functions f) (trees_count-instances σ ts) ∙ parts.0) (are_over-instances functions σ h ts parts.1)

  are_over-instances :
      (functions : List FunctionSymbol) (σ : Substitution) → PutsGround functions σ
      → (ts : Trees) → are_over functions ts ≡ true → are_over functions (instances σ ts) ≡ true
  are_over-instances functions σ h no_trees over = refl
  are_over-instances functions σ h (tree_then t ts) over =
      let parts = and_parts (is_over functions t) (are_over functions ts) over in
      and_from (is_over functions (instance σ t)) (are_over functions (instances σ ts))
      (is_over-instance functions σ h t parts.0) (are_over-instances functions σ h ts parts.1)

pub ground_over-instance :
    (functions : List FunctionSymbol) (σ : Substitution) → PutsGround functions σ
    → (t : Tree) → is_over functions t ≡ true → ground_over functions (instance σ t) ≡ true
ground_over-instance functions σ h t over =
    and_from (is_ground (instance σ t)) (is_over functions (instance σ t)) (is_ground-instance functions σ h t) (is_over-instance functions σ h t over)

-- ---- an instance of an instance

-- what is put in for a variable in the end, and some ground tree where the first instance had none over the list
abbrev put_in : List FunctionSymbol → Substitution → Substitution → Substitution
put_in functions σ τ v = cond (is_over functions (τ v)) (instance σ (τ v)) (σ v)

agree-everywhere :
    (σ τ : Substitution) (P : ℕ → Type 0) → ((v : ℕ) → P v → σ v ≡ τ v) → (vs : List ℕ) → AllByRecursion P vs → Agree σ τ vs
agree-everywhere σ τ P h [] all = tt
agree-everywhere σ τ P h (v ∷ vs) all = (h v all.0, agree-everywhere σ τ P h vs all.1)

-- an instance by ground trees over a list, whatever symbols it has
pub record PlainInstance (functions : List FunctionSymbol) (c : TreeClause) (g : GroundClause) : Type 0 where
  pub trees : Substitution
  pub trees_ground : PutsGround functions trees
  pub literals : g ≡ literals_instance trees c.literals

pub plain_instances_of_instances :
    (functions : List FunctionSymbol) (τ : Substitution) (c : TreeClause) (g : GroundClause)
    → All (λ v. is_over functions (τ v) ≡ true) (clause_variables c)
    → PlainInstance functions (clause_instance τ c) g → PlainInstance functions c g
plain_instances_of_instances functions τ c g over made =
    let σ : Substitution = made.trees in record {
      trees = put_in functions σ τ;
      trees_ground = λ v.
          cond_both (is_over functions (τ v)) (instance σ (τ v)) (σ v) (λ t. ground_over functions t ≡ true)
          (λ e. ground_over-instance functions σ made.trees_ground (τ v) e)
          (λ e. made.trees_ground v);
      literals =
          made.literals ∙ literals_instance-again σ τ c.literals
          ∙ literals-agree (after σ τ) (put_in functions σ τ) c.literals
          (agree-everywhere (after σ τ) (put_in functions σ τ) (λ v. is_over functions (τ v) ≡ true)
          (λ v e. sym (cond-true (is_over functions (τ v)) (instance σ (τ v)) (σ v) e))
          (clause_variables c) (recursion_from_All (λ v. is_over functions (τ v) ≡ true) (clause_variables c) over));
    }

-- ground instances over a list of function symbols are such instances
pub plain_instance : {p : ℕ → Bool} (functions : FunctionSymbols p) (c : TreeClause) (g : GroundClause) → GroundInstance functions c g → PlainInstance functions.symbols c g
plain_instance functions c g made = record { trees = made.trees; trees_ground = made.trees_ground; literals = made.literals }

pub ground_instance : {p : ℕ → Bool} (functions : FunctionSymbols p) (c : TreeClause) (g : GroundClause) → PlainInstance functions.symbols c g → GroundInstance functions c g
ground_instance functions c g made = record { trees = made.trees; trees_ground = made.trees_ground; literals = made.literals }

pub ground_instances_of_instances : GroundInstancesOfInstances
ground_instances_of_instances is_predicate functions τ c g over made =
    ground_instance functions c g (plain_instances_of_instances functions.symbols τ c g over (plain_instance functions (clause_instance τ c) g made))

-- ---- canonical forms

-- a number that is listed later only
later : (v w : ℕ) (ws : List ℕ) → (v == w) ≡ false → listed (w ∷ ws) v ≡ true → listed ws v ≡ true
later v w ws e h = sym (ap (λ t. t || listed ws v) e) ∙ h

place_of-listed : (v : ℕ) (ws : List ℕ) → listed ws v ≡ true → (k : ℕ) × (place_of v ws ≡ Some k) × ((d : ℕ) → get_or ws k d ≡ v)
place_of-listed v [] h = absurd (true≢false (sym h))
place_of-listed v (w ∷ ws) h =
    ⊎_elim
    (λ e. (0, cond-true (v == w) (Some 0) (option_map suc (place_of v ws)) e, λ d. sym (eqb-true v w e)))
    (λ e.
    let r = place_of-listed v ws (later v w ws e h) in
    (suc r.0, cond-false (v == w) (Some 0) (option_map suc (place_of v ws)) e ∙ ap (option_map suc) r.1, r.2))
    (cases_Bool (v == w))

distinct-listed : (v : ℕ) (ws : List ℕ) → listed ws v ≡ true → listed (distinct ws) v ≡ true
distinct-listed v [] h = h
distinct-listed v (w ∷ ws) h =
    ⊎_elim
    (λ e. or_left (v == w) (listed (filter (λ u. not (u == w)) (distinct ws)) v) e)
    (λ e.
    or_right (v == w) (listed (filter (λ u. not (u == w)) (distinct ws)) v)
    (any-filter_same (λ u. v == u) (λ u. not (u == w)) true
    (λ u same. ap (λ t. not (t == w)) (sym (eqb-true v u same)) ∙ ap not e) (distinct ws)
    ∙ distinct-listed v ws (later v w ws e h)))
    (cases_Bool (v == w))

-- each number of a list is listed in it
listed-itself :
    (vs whole : List ℕ) → ((v : ℕ) → listed vs v ≡ true → listed whole v ≡ true) → AllByRecursion (λ v. listed whole v ≡ true) vs
listed-itself [] whole h = tt
listed-itself (v ∷ vs) whole h = (
  h v (or_left (v == v) (listed vs v) (eq-eqb v v refl)),
  listed-itself vs whole (λ w e. h w (or_right (w == v) (listed vs w) e)),
)

-- what a substitution puts in, by the new numbers of the variables
abbrev by_place : List ℕ → Substitution → Substitution
by_place order σ n = σ (get_or order n n)

by_place-renaming :
    (order : List ℕ) (σ : Substitution) (v : ℕ) → listed order v ≡ true → after (by_place order σ) (renaming order) v ≡ σ v
by_place-renaming order σ v h =
    let r = place_of-listed v order h in
    ap (λ o. by_place order σ (unwrap_or o v)) r.1 ∙ ap σ (r.2 r.0)

pub plain_instances_of_canonical :
    (functions : List FunctionSymbol) (c : TreeClause) (g : GroundClause)
    → PlainInstance functions c g ↔ PlainInstance functions (canonical_clause c) g
plain_instances_of_canonical functions c g =
    let order : List ℕ = distinct (clause_variables c) in
    let ρ : Substitution = renaming order in (
      λ made.
          let τ : Substitution = by_place order made.trees in record {
            trees = τ;
            trees_ground = λ n. made.trees_ground (get_or order n n);
            literals =
                made.literals
                ∙ sym (literals-agree (after τ ρ) made.trees c.literals
                (agree-everywhere (after τ ρ) made.trees (λ v. listed order v ≡ true) (by_place-renaming order made.trees)
                (clause_variables c) (listed-itself (clause_variables c) order (λ v h. distinct-listed v (clause_variables c) h))))
                ∙ sym (literals_instance-again τ ρ c.literals);
          },
      λ made. record {
        trees = after made.trees ρ;
        trees_ground = λ v. made.trees_ground (unwrap_or (place_of v order) v);
        literals = made.literals ∙ literals_instance-again made.trees ρ c.literals;
      },
    )

pub ground_instances_of_canonical : GroundInstancesOfCanonical
ground_instances_of_canonical is_predicate functions c g =
    let there = plain_instances_of_canonical functions.symbols c g in (
      λ made. ground_instance functions (canonical_clause c) g (there.0 (plain_instance functions c g made)),
      λ made. ground_instance functions c g (there.1 (plain_instance functions (canonical_clause c) g made)),
    )
