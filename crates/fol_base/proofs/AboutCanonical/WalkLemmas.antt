-- Walks over the parts of a clause from left to right: numbers that are given on the way, and how many variables were met.
use Rattle.std.proofs.Common.{◌≡◌, ℕ, ◌+◌, ◌<◌, max, Bool, true, false, cond, Option, None, Some, List, [], ◌∷◌, ◌++◌, length, map, take, drop, get_or, nat_le, append-nil, refl, ap, ap₂, sym, ◌∙◌}
use Rattle.std.specs.Prelude.{flat_map, option_and_then, unwrap_or}
use Rattle.std.specs.List.{AllByRecursion}
use Rattle.std.specs.Option.{is_some}
use Rattle.std.proofs.lemmas.Grind.{flat_map-append}
use Rattle.std.proofs.lemmas.List.{map-append, take-append-drop}
use Rattle.std.proofs.lemmas.List.Sums.{fold-append}
use Rattle.fol_base.specs.Tree.{Tree, variable, trees_of, tree_variables, trees_variables}
use Rattle.fol_base.specs.Instance.{Substitution, instance}
use Rattle.fol_base.specs.Clause.{TreeLiteral, literal_instance, literal_variables}
use Rattle.fol_base.specs.Canonical.{place_of, renaming}
use Rattle.fol_base.specs.Numbering.{with_variable, with_variables, count_after}
use Rattle.fol_base.specs.Term.{tree_of}
use Rattle.fol_base.specs.Literal.{literal_of}
use Rattle.fol_base.specs.declared.term.Term.{Term}
use Rattle.fol_base.specs.declared.clause.Literal.{Literal}
use Rattle.fol_base.proofs.AboutInstances.InstanceLemmas.{Agree, instance-agree}
use Rattle.fol_base.proofs.ListLemmas.{take_more_item}
use Rattle.fol_base.proofs.AboutCanonical.NumberingLemmas.{with_variables-keep, with_variables-have}

-- ---- the parts

-- the variables of a term and of a literal of the program
abbrev pub term_parts : Term → List ℕ
term_parts t = tree_variables (tree_of t)

abbrev pub literal_parts : Literal → List ℕ
literal_parts l = literal_variables (literal_of l)

-- their instances
abbrev pub term_instance : Substitution → Term → Tree
term_instance σ t = instance σ (tree_of t)

abbrev pub literal_instance_of : Substitution → Literal → TreeLiteral
literal_instance_of σ l = literal_instance σ (literal_of l)

pub terms_variables : (xs : List Term) → flat_map term_parts xs ≡ trees_variables (trees_of (map tree_of xs))
terms_variables [] = refl
terms_variables (x ∷ xs) = ap (λ vs. term_parts x ++ vs) (terms_variables xs)

pub literals_variables : (xs : List Literal) → flat_map literal_parts xs ≡ flat_map literal_variables (map literal_of xs)
literals_variables [] = refl
literals_variables (x ∷ xs) = ap (λ vs. literal_parts x ++ vs) (literals_variables xs)

pub terms_instances : (σ : Substitution) (xs : List Term) → map (term_instance σ) xs ≡ map (instance σ) (map tree_of xs)
terms_instances σ [] = refl
terms_instances σ (x ∷ xs) = ap (λ ts. term_instance σ x ∷ ts) (terms_instances σ xs)

pub literals_instances :
    (σ : Substitution) (xs : List Literal) → map (literal_instance_of σ) xs ≡ map (literal_instance σ) (map literal_of xs)
literals_instances σ [] = refl
literals_instances σ (x ∷ xs) = ap (λ ls. literal_instance_of σ x ∷ ls) (literals_instances σ xs)

-- ---- agreement

Agree-front : (σ τ : Substitution) (vs ws : List ℕ) → Agree σ τ (vs ++ ws) → Agree σ τ vs
Agree-front σ τ [] ws h = tt
Agree-front σ τ (v ∷ vs) ws h = (h.0, Agree-front σ τ vs ws h.1)

Agree-back : (σ τ : Substitution) (vs ws : List ℕ) → Agree σ τ (vs ++ ws) → Agree σ τ ws
Agree-back σ τ [] ws h = h
Agree-back σ τ (v ∷ vs) ws h = Agree-back σ τ vs ws h.1

pub term-agree : (σ τ : Substitution) (x : Term) → Agree σ τ (term_parts x) → term_instance σ x ≡ term_instance τ x
term-agree σ τ x h = instance-agree σ τ (tree_of x) h

pub literal-agree :
    (σ τ : Substitution) (x : Literal) → Agree σ τ (literal_parts x) → literal_instance_of σ x ≡ literal_instance_of τ x
literal-agree σ τ x h =
    let left : List ℕ = tree_variables (tree_of x.left) in
    let right : List ℕ = tree_variables (tree_of x.right) in
    ap₂ (λ (t u : Tree). let l : TreeLiteral = record { positive = x.positive; left = t; right = u } in l)
    (instance-agree σ τ (tree_of x.left) (Agree-front σ τ left right h))
    (instance-agree σ τ (tree_of x.right) (Agree-back σ τ left right h))

-- variables that have numbers keep them
pub renaming-kept :
    (order vs ws : List ℕ)
    → Agree (renaming (with_variables order vs)) (renaming (with_variables (with_variables order vs) ws)) vs
renaming-kept order vs ws = kept (with_variables order vs) ws vs (with_variables-have order vs)
  where
    kept :
        (order ws vs : List ℕ)
        → AllByRecursion (λ v. is_some (place_of v order) ≡ true) vs → Agree (renaming order) (renaming (with_variables order ws)) vs
    kept order ws [] h = tt
    kept order ws (v ∷ vs) h = (
      ap (λ o. variable (unwrap_or o v)) (sym (with_variables-keep order ws v h.0)),
      kept order ws vs h.1,
    )

-- so the instance of a term stays when others are walked
pub left-kept :
    (order now new : List ℕ) (t : Tree) (ws : List ℕ)
    → now ≡ with_variables order (tree_variables t) → new ≡ with_variables now ws
    → instance (renaming now) t ≡ instance (renaming new) t
left-kept order now new t ws before step =
    ap (λ vs. instance (renaming vs) t) before
    ∙ instance-agree (renaming (with_variables order (tree_variables t)))
    (renaming (with_variables (with_variables order (tree_variables t)) ws)) t (renaming-kept order (tree_variables t) ws)
    ∙ ap (λ vs. instance (renaming vs) t) (sym (step ∙ ap (λ vs. with_variables vs ws) before))

-- ---- one more part

module _
    {X : Type 0} (parts : X → List ℕ) (xs : List X) (i : ℕ) (x : X) (here : i < length xs) (read : x ≡ get_or xs i x) where
  parts-more : flat_map parts (take (i + 1) xs) ≡ flat_map parts (take i xs) ++ parts x
  parts-more =
      ap (flat_map parts) (take_more_item xs i x here read)
      ∙ flat_map-append parts (take i xs) (x ∷ [])
      ∙ ap (λ vs. flat_map parts (take i xs) ++ vs) (append-nil (parts x))

  pub met_more :
      (order now new : List ℕ)
      → now ≡ with_variables order (flat_map parts (take i xs)) → new ≡ with_variables now (parts x)
      → new ≡ with_variables order (flat_map parts (take (i + 1) xs))
  met_more order now new before step =
      step
      ∙ ap (λ vs. with_variables vs (parts x)) before
      ∙ sym (fold-append with_variable order (flat_map parts (take i xs)) (parts x))
      ∙ ap (with_variables order) (sym parts-more)

  pub made_more :
      {T : Type 0} (inst : Substitution → X → T)
      (agree : (σ τ : Substitution) (y : X) → Agree σ τ (parts y) → inst σ y ≡ inst τ y)
      (order now new : List ℕ) (made : List T) (t : T)
      → now ≡ with_variables order (flat_map parts (take i xs)) → new ≡ with_variables now (parts x)
      → made ≡ map (inst (renaming now)) (take i xs) → t ≡ inst (renaming new) x
      → made ++ t ∷ [] ≡ map (inst (renaming new)) (take (i + 1) xs)
  made_more inst agree order now new made t before step is_made last =
      ap₂ (λ ts u. ts ++ u ∷ []) (is_made ∙ kept) last
      ∙ sym (map-append (inst (renaming new)) (take i xs) (x ∷ []))
      ∙ ap (map (inst (renaming new))) (sym (take_more_item xs i x here read))
    where
      all : (σ τ : Substitution) (ys : List X) → Agree σ τ (flat_map parts ys) → map (inst σ) ys ≡ map (inst τ) ys
      all σ τ [] h = refl
      all σ τ (y ∷ ys) h =
          ap₂ ◌∷◌
          (agree σ τ y (Agree-front σ τ (parts y) (flat_map parts ys) h))
          (all σ τ ys (Agree-back σ τ (parts y) (flat_map parts ys) h))

      kept : map (inst (renaming now)) (take i xs) ≡ map (inst (renaming new)) (take i xs)
      kept =
          ap (λ vs. map (inst (renaming vs)) (take i xs)) before
          ∙ all (renaming (with_variables order (flat_map parts (take i xs))))
          (renaming (with_variables (with_variables order (flat_map parts (take i xs))) (parts x))) (take i xs)
          (renaming-kept order (flat_map parts (take i xs)) (parts x))
          ∙ ap (λ vs. map (inst (renaming vs)) (take i xs)) (sym (step ∙ ap (λ vs. with_variables vs (parts x)) before))

-- ---- how many variables were met

pub count_after-append :
    (n : ℕ) (vs ws : List ℕ) → count_after n (vs ++ ws) ≡ option_and_then (λ m. count_after m ws) (count_after n vs)
count_after-append n [] ws = refl
count_after-append n (v ∷ vs) ws =
    guarded (nat_le v n) (count_after (max n (v + 1)) (vs ++ ws)) (count_after (max n (v + 1)) vs) (count_after-append (max n (v + 1)) vs ws)
  where
    guarded :
        (b : Bool) (more first : Option ℕ)
        → more ≡ option_and_then (λ m. count_after m ws) first
        → cond b more None ≡ option_and_then (λ m. count_after m ws) (cond b first None)
    guarded true more first e = e
    guarded false more first e = refl

module _
    {X : Type 0} (parts : X → List ℕ) (xs : List X) (i : ℕ) (x : X) (here : i < length xs) (read : x ≡ get_or xs i x)
    (first count : ℕ) (counted : count_after first (flat_map parts (take i xs)) ≡ Some count) where
  pub count_more : count_after first (flat_map parts (take (i + 1) xs)) ≡ count_after count (parts x)
  count_more =
      ap (count_after first) (parts-more parts xs i x here read)
      ∙ count_after-append first (flat_map parts (take i xs)) (parts x)
      ∙ ap (option_and_then (λ m. count_after m (parts x))) counted

  -- what is refused in a part is refused in the whole
  pub count_stops : count_after count (parts x) ≡ None → count_after first (flat_map parts xs) ≡ None
  count_stops none =
      ap (λ ys. count_after first (flat_map parts ys)) (sym (take-append-drop (i + 1) xs))
      ∙ ap (count_after first) (flat_map-append parts (take (i + 1) xs) (drop (i + 1) xs))
      ∙ count_after-append first (flat_map parts (take (i + 1) xs)) (flat_map parts (drop (i + 1) xs))
      ∙ ap (option_and_then (λ m. count_after m (flat_map parts (drop (i + 1) xs)))) (count_more ∙ none)
