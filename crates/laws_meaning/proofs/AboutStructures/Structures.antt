-- Structures: what each symbol gives at values, as a function; and the values of terms and the truth of clauses in one.
use Rattle.std.proofs.Common.{◌≡◌, ℕ, Bool, true, false, ◌&&◌, ◌||◌, List, [], ◌∷◌, ◌++◌, map, flat_map, refl, ap, ap₂, ◌∙◌}
use Rattle.std.specs.List.{AllByRecursion, list_any, list_all}
use Rattle.std.proofs.lemmas.List.Folds.{list_any-append, list_all-append}
use Rattle.fol_base.specs.Tree.{Tree, variable, application, Trees, no_trees, tree_then, trees_of, tree_variables, trees_variables}
use Rattle.fol_base.specs.Clause.{TreeLiteral, literal_variables}
use Rattle.fol_base.specs.Interpretation.{Assignment, sides_true}
use Rattle.signature.specs.Clausal.{Literals, all_pairs}
use Rattle.laws_meaning.proofs.AboutStructures.ListLemmas.{each-parts}

abbrev pub Structure : Type 0
Structure = ℕ → List ℕ → ℕ

abbrev mutual
  pub value : Structure → Assignment → Tree → ℕ
  value s ρ (variable v) = ρ v
  value s ρ (application f ts) = s f (values s ρ ts)

  pub values : Structure → Assignment → Trees → List ℕ
  values s ρ no_trees = []
  values s ρ (tree_then t ts) = value s ρ t ∷ values s ρ ts

abbrev pub literal_holds : Structure → Assignment → TreeLiteral → Bool
literal_holds s ρ l = sides_true l.positive (value s ρ l.left) (value s ρ l.right)

-- a disjunction
abbrev pub holds : Structure → Assignment → Literals → Bool
holds s ρ c = list_any (literal_holds s ρ) c

-- each of them
abbrev pub all_hold : Structure → Assignment → List Literals → Bool
all_hold s ρ cs = list_all (holds s ρ) cs

-- ---- the variables that occur decide

abbrev pub Same : Assignment → Assignment → List ℕ → Type 0
Same ρ τ vs = AllByRecursion (λ v. ρ v ≡ τ v) vs

mutual
  pub value-same : (s : Structure) (ρ τ : Assignment) (t : Tree) → Same ρ τ (tree_variables t) → value s ρ t ≡ value s τ t
  value-same s ρ τ (variable v) h = h.0
  value-same s ρ τ (application f ts) h = ap (s f) (values-same s ρ τ ts h)

  values-same : (s : Structure) (ρ τ : Assignment) (ts : Trees) → Same ρ τ (trees_variables ts) → values s ρ ts ≡ values s τ ts
  values-same s ρ τ no_trees h = refl
  values-same s ρ τ (tree_then t ts) h =
      let parts = each-parts (λ v. ρ v ≡ τ v) (tree_variables t) (trees_variables ts) h in
      ap₂ ◌∷◌ (value-same s ρ τ t parts.0) (values-same s ρ τ ts parts.1)

literal-same : (s : Structure) (ρ τ : Assignment) (l : TreeLiteral) → Same ρ τ (literal_variables l) → literal_holds s ρ l ≡ literal_holds s τ l
literal-same s ρ τ l h =
    let parts = each-parts (λ v. ρ v ≡ τ v) (tree_variables l.left) (tree_variables l.right) h in
    ap₂ (sides_true l.positive) (value-same s ρ τ l.left parts.0) (value-same s ρ τ l.right parts.1)

pub holds-same : (s : Structure) (ρ τ : Assignment) (c : Literals) → Same ρ τ (flat_map literal_variables c) → holds s ρ c ≡ holds s τ c
holds-same s ρ τ [] h = refl
holds-same s ρ τ (l ∷ c) h =
    let parts = each-parts (λ v. ρ v ≡ τ v) (literal_variables l) (flat_map literal_variables c) h in
    ap₂ ◌||◌ (literal-same s ρ τ l parts.0) (holds-same s ρ τ c parts.1)

pub all_hold-same :
    (s : Structure) (ρ τ : Assignment) (cs : List Literals)
    → Same ρ τ (flat_map (λ c. flat_map literal_variables c) cs) → all_hold s ρ cs ≡ all_hold s τ cs
all_hold-same s ρ τ [] h = refl
all_hold-same s ρ τ (c ∷ cs) h =
    let parts = each-parts (λ v. ρ v ≡ τ v) (flat_map literal_variables c) (flat_map (λ d. flat_map literal_variables d) cs) h in
    ap₂ ◌&&◌ (holds-same s ρ τ c parts.0) (all_hold-same s ρ τ cs parts.1)

-- ---- a symbol applied to variables

pub applied-values : (s : Structure) (ρ : Assignment) (vs : List ℕ) → values s ρ (trees_of (map variable vs)) ≡ map ρ vs
applied-values s ρ [] = refl
applied-values s ρ (v ∷ vs) = ap (λ ws. ρ v ∷ ws) (applied-values s ρ vs)

pub applied-variables : (vs : List ℕ) → trees_variables (trees_of (map variable vs)) ≡ vs
applied-variables [] = refl
applied-variables (v ∷ vs) = ap (λ ws. v ∷ ws) (applied-variables vs)

-- ---- lists of clauses

pub all_hold-joined :
    (s : Structure) (ρ : Assignment) (cs ds : List Literals) → all_hold s ρ (cs ++ ds) ≡ (all_hold s ρ cs && all_hold s ρ ds)
all_hold-joined s ρ cs ds = list_all-append (holds s ρ) cs ds

or-and : (a b c : Bool) → ((a || b) && (a || c)) ≡ (a || (b && c))
or-and true b c = refl
or-and false b c = refl

and-or : (a b c : Bool) → ((a || c) && (b || c)) ≡ ((a && b) || c)
and-or true b c = refl
and-or false true true = refl
and-or false true false = refl
and-or false false true = refl
and-or false false false = refl

or-true : (a : Bool) → true ≡ (a || true)
or-true true = refl
or-true false = refl

pub all_hold-headed :
    (s : Structure) (ρ : Assignment) (l : TreeLiteral) (cs : List Literals)
    → all_hold s ρ (map (λ c. l ∷ c) cs) ≡ (literal_holds s ρ l || all_hold s ρ cs)
all_hold-headed s ρ l [] = or-true (literal_holds s ρ l)
all_hold-headed s ρ l (c ∷ cs) =
    ap (λ b. (literal_holds s ρ l || holds s ρ c) && b) (all_hold-headed s ρ l cs)
    ∙ or-and (literal_holds s ρ l) (holds s ρ c) (all_hold s ρ cs)

all_hold-before :
    (s : Structure) (ρ : Assignment) (c : Literals) (ds : List Literals)
    → all_hold s ρ (map (λ d. c ++ d) ds) ≡ (holds s ρ c || all_hold s ρ ds)
all_hold-before s ρ c [] = or-true (holds s ρ c)
all_hold-before s ρ c (d ∷ ds) =
    ap₂ ◌&&◌ (list_any-append (literal_holds s ρ) c d) (all_hold-before s ρ c ds)
    ∙ or-and (holds s ρ c) (holds s ρ d) (all_hold s ρ ds)

pub all_hold-pairs :
    (s : Structure) (ρ : Assignment) (cs ds : List Literals) → all_hold s ρ (all_pairs cs ds) ≡ (all_hold s ρ cs || all_hold s ρ ds)
all_hold-pairs s ρ [] ds = refl
all_hold-pairs s ρ (c ∷ cs) ds =
    all_hold-joined s ρ (map (λ d. c ++ d) ds) (all_pairs cs ds)
    ∙ ap₂ ◌&&◌ (all_hold-before s ρ c ds) (all_hold-pairs s ρ cs ds)
    ∙ and-or (holds s ρ c) (all_hold s ρ cs) (all_hold s ρ ds)
