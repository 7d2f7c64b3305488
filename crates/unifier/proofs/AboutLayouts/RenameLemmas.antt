-- The two sides' substitutions into shared variables.
use Rattle.std.proofs.Common.{◌≡◌, ℕ, zero, suc, ◌<◌, ◌≤◌, true, Option, None, Some, List, [], ◌∷◌, ◌++◌, length, map, get_or, refl, ap, ap₂, sym, ◌∙◌, subst, arith}
use Rattle.std.specs.Prelude.{Result, Ok, Err, IfOk}
use Rattle.std.proofs.lemmas.List.{map-append, append_assoc, append-nil}
use Rattle.fol_base.specs.Tree.{Tree, variable, application, Trees, no_trees, tree_then, trees_of, list_of, tree_eq, VariablesBelow, AllVariablesBelow}
use Rattle.fol_base.specs.Term.{tree_of}
use Rattle.fol_base.specs.declared.term.Term.{Term}
use Rattle.fol_base.proofs.AboutTerms.TreeLemmas.{tree_eq-refl, trees_of-list_of}
use Rattle.unifier.specs.declared.cells.Cell.{Cell}
use Rattle.unifier.specs.declared.cells.Cell.TheVariants.{Variable, Application, NoTrees, TreeThen}
use Rattle.fol_base.specs.declared.clause.Side.{Side}
use Rattle.unifier.specs.declared.solution.Solution.{Solution}
use Rattle.unifier.specs.Cells.{Value, as_tree, as_trees, cell_at, value_of, is_list, is_variable_of, list_parts, IsAfterParts, AreOrdered}
use Rattle.unifier.specs.InOrder.{InOrder}
use Rattle.fol_base.specs.Canonical.{terms_from}
use Rattle.fol_base.specs.Instance.{Substitution, instance}
use Rattle.unifier.specs.SolvedForm.{SolvedForm, code_of, joint, substitution_of}
use Rattle.unifier.specs.Layout.{cell_of}
use Rattle.unifier.specs.Solution.{value_at, solved_form}
use Rattle.unifier.specs.Renaming.{renamed, renamed_trees, side_terms}
use Rattle.unifier.proofs.AboutLayouts.ValueLemmas.{value_at-valuation}
use Rattle.unifier.proofs.AboutEquations.SolutionLemmas.{joint-found, joint-free}

abbrev pub own : List Cell → ℕ → Value
own cells = value_at variable cells

-- ---- variables that stand for themselves

variable-of : (f : ℕ → Value) (w : ℕ) (q : Cell) → is_variable_of w q ≡ tree_eq (as_tree (value_of variable f q)) (variable w)
variable-of f w (Variable v) = refl
variable-of f w (Application s l) = refl
variable-of f w NoTrees = refl
variable-of f w (TreeThen a b) = refl

pub itself-bound :
    (b : Solution) (w k : ℕ) (q : Cell)
    → InOrder b.cells.items b.places.items → cell_of w b.places.items ≡ Some k → q ≡ cell_at b.cells.items k
    → is_variable_of w q ≡ tree_eq (joint (solved_form b) w) (variable w)
itself-bound b w k q order found is =
    let cells : List Cell = b.cells.items in
    ap (is_variable_of w) is
    ∙ variable-of (own cells) w (cell_at cells k)
    ∙ ap (λ v. tree_eq (as_tree v) (variable w)) (sym (value_at-valuation variable cells order.ordered k (order.terms w k found).0))
    ∙ ap (λ t. tree_eq t (variable w)) (sym (joint-found b w k found))

pub itself-free : (b : Solution) (w : ℕ) → cell_of w b.places.items ≡ None → true ≡ tree_eq (joint (solved_form b) w) (variable w)
itself-free b w none = sym (ap (λ t. tree_eq t (variable w)) (joint-free b w none) ∙ tree_eq-refl (variable w))

-- ---- the terms of cells

pub own-is : (cells : List Cell) (k : ℕ) (q : Cell) → AreOrdered cells → k < length cells → q ≡ cell_at cells k → own cells k ≡ value_of variable (own cells) q
own-is cells k q ordered inside e = value_at-valuation variable cells ordered k inside ∙ ap (value_of variable (own cells)) (sym e)

pub renamed-variable :
    (cells : List Cell) (names : ℕ → ℕ) (k w : ℕ) (t : Tree)
    → AreOrdered cells → k < length cells → Variable w ≡ cell_at cells k → t ≡ variable (names w) → t ≡ renamed names (as_tree (own cells k))
renamed-variable cells names k w t ordered inside e is = is ∙ sym (ap (λ v. renamed names (as_tree v)) (own-is cells k (Variable w) ordered inside e))

pub renamed-application :
    (cells : List Cell) (names : ℕ → ℕ) (k f l : ℕ) (ts : Trees)
    → AreOrdered cells → k < length cells → Application f l ≡ cell_at cells k → ts ≡ renamed_trees names (as_trees (own cells l))
    → application f ts ≡ renamed names (as_tree (own cells k))
renamed-application cells names k f l ts ordered inside e is =
    ap (application f) is ∙ sym (ap (λ v. renamed names (as_tree v)) (own-is cells k (Application f l) ordered inside e))

pub renamed-nothing :
    (cells : List Cell) (names : ℕ → ℕ) (k : ℕ) (q : Cell) (t : Tree)
    → AreOrdered cells → k < length cells → q ≡ cell_at cells k → is_list q ≡ true → t ≡ application 0 no_trees → t ≡ renamed names (as_tree (own cells k))
renamed-nothing cells names k q t ordered inside e list is =
    is ∙ by q list ∙ sym (ap (λ v. renamed names (as_tree v)) (own-is cells k q ordered inside e))
  where
    by : (x : Cell) → is_list x ≡ true → application 0 no_trees ≡ renamed names (as_tree (value_of variable (own cells) x))
    by (Variable w) h = cc
    by (Application s m) h = cc
    by NoTrees h = refl
    by (TreeThen a b) h = refl

no-parts : (a b : ℕ) → (let o : Option (ℕ × ℕ) = None in o) ≡ Some (a, b) → ⊥
no-parts a b h = cc

-- the parts of a list
list-more : (f : ℕ → Value) (q : Cell) (a b : ℕ) → list_parts q ≡ Some (a, b) → as_trees (value_of variable f q) ≡ tree_then (as_tree (f a)) (as_trees (f b))
list-more f (Variable w) a b h = absurd (no-parts a b h)
list-more f (Application s m) a b h = absurd (no-parts a b h)
list-more f NoTrees a b h = absurd (no-parts a b h)
list-more f (TreeThen c d) a b h =
    let both : (c, d) ≡ (a, b) = cc in
    ap (λ (p : ℕ × ℕ). tree_then (as_tree (f p.0)) (as_trees (f p.1))) both

list-end : (f : ℕ → Value) (q : Cell) → list_parts q ≡ None → as_trees (value_of variable f q) ≡ no_trees
list-end f (Variable w) h = refl
list-end f (Application s m) h = refl
list-end f NoTrees h = refl
list-end f (TreeThen c d) h = absurd (no-parts c d (sym h))

pub parts-after : (i : ℕ) (q : Cell) (a b : ℕ) → IsAfterParts i q → list_parts q ≡ Some (a, b) → (a < i) × (b < i)
parts-after i (Variable w) a b after h = absurd (no-parts a b h)
parts-after i (Application s m) a b after h = absurd (no-parts a b h)
parts-after i NoTrees a b after h = absurd (no-parts a b h)
parts-after i (TreeThen c d) a b after h =
    let both : (c, d) ≡ (a, b) = cc in
    subst (λ (p : ℕ × ℕ). (p.0 < i) × (p.1 < i)) both after

-- how far a list is built
pub record Building (cells : List Cell) (names : ℕ → ℕ) (items : List Term) (at : ℕ) (list : ℕ) : Type 0 where
  pub below : at ≤ list
  pub parts :
      trees_of (map tree_of items ++ list_of (renamed_trees names (as_trees (own cells at)))) ≡ renamed_trees names (as_trees (own cells list))

pub building-starts : (cells : List Cell) (names : ℕ → ℕ) (items : List Term) (list : ℕ) → items ≡ [] → Building cells names items list list
building-starts cells names items list e = record {
  below = omega arith;
  parts =
      ap (λ (xs : List Term). trees_of (map tree_of xs ++ list_of (renamed_trees names (as_trees (own cells list))))) e
      ∙ trees_of-list_of (renamed_trees names (as_trees (own cells list)));
}

pub building-more :
    (cells : List Cell) (names : ℕ → ℕ) (items new : List Term) (at list a b : ℕ) (x : Term)
    → AreOrdered cells → at < length cells → Building cells names items at list
    → Some (a, b) ≡ list_parts (cell_at cells at) → tree_of x ≡ renamed names (as_tree (own cells a)) → new ≡ items ++ x ∷ []
    → Building cells names new b list
building-more cells names items new at list a b x ordered inside h parts is e =
    let rest : List Tree = list_of (renamed_trees names (as_trees (own cells b))) in
    record {
      below = omega (arith, h.below, parts-after at (cell_at cells at) a b (ordered at inside) (sym parts));
      parts =
          ap (λ (xs : List Term). trees_of (map tree_of xs ++ rest)) e
          ∙ ap (λ (ts : List Tree). trees_of (ts ++ rest)) (map-append tree_of items (x ∷ []))
          ∙ ap trees_of (append_assoc (map tree_of items) (tree_of x ∷ []) rest)
          ∙ ap (λ (t : Tree). trees_of (map tree_of items ++ t ∷ rest)) is
          ∙ ap (λ (us : Trees). trees_of (map tree_of items ++ list_of (renamed_trees names us)))
          (sym (ap as_trees (own-is cells at (cell_at cells at) ordered inside refl) ∙ list-more (own cells) (cell_at cells at) a b (sym parts)))
          ∙ h.parts;
    }

pub building-done :
    (cells : List Cell) (names : ℕ → ℕ) (items : List Term) (terms : List Tree) (at list : ℕ)
    → AreOrdered cells → at < length cells → Building cells names items at list
    → None ≡ list_parts (cell_at cells at) → terms ≡ map tree_of items → trees_of terms ≡ renamed_trees names (as_trees (own cells list))
building-done cells names items terms at list ordered inside h parts is =
    ap trees_of (is ∙ sym (append-nil (map tree_of items)))
    ∙ ap (λ (us : Trees). trees_of (map tree_of items ++ list_of (renamed_trees names us)))
    (sym (ap as_trees (own-is cells at (cell_at cells at) ordered inside refl) ∙ list-end (own cells) (cell_at cells at) (sym parts)))
    ∙ h.parts

-- ---- what stands for a variable

pub renamed-bound :
    (b : Solution) (names : ℕ → ℕ) (w k : ℕ) (t : Tree)
    → cell_of w b.places.items ≡ Some k → t ≡ renamed names (as_tree (own b.cells.items k)) → t ≡ renamed names (joint (solved_form b) w)
renamed-bound b names w k t found is = is ∙ ap (renamed names) (sym (joint-found b w k found))

-- as the code has it
pub renamed-answer :
    {E : Type 0} (r : Result Term E) (b : Solution) (names : ℕ → ℕ) (w k : ℕ)
    → cell_of w b.places.items ≡ Some k → IfOk r (λ t. tree_of t ≡ renamed names (as_tree (own b.cells.items k)))
    → IfOk r (λ t. tree_of t ≡ renamed names (joint (solved_form b) w))
renamed-answer (Err e) b names w k found is = tt
renamed-answer (Ok t) b names w k found is = renamed-bound b names w k (tree_of t) found is

pub renamed-free : (b : Solution) (names : ℕ → ℕ) (w : ℕ) (t : Tree) → cell_of w b.places.items ≡ None → t ≡ variable (names w) → t ≡ renamed names (joint (solved_form b) w)
renamed-free b names w t none is = is ∙ ap (renamed names) (sym (joint-free b w none))

-- ---- each number as its own name

mutual
  pub renamed-itself : (t : Tree) → renamed (λ w. w) t ≡ t
  renamed-itself (variable v) = refl
  renamed-itself (application f ts) = ap (application f) (renamed_trees-itself ts)

  renamed_trees-itself : (ts : Trees) → renamed_trees (λ w. w) ts ≡ ts
  renamed_trees-itself no_trees = refl
  renamed_trees-itself (tree_then t ts) = ap₂ tree_then (renamed-itself t) (renamed_trees-itself ts)

terms_from-same : (first n : ℕ) (σ τ : Substitution) → ((v : ℕ) → σ v ≡ τ v) → terms_from first n σ ≡ terms_from first n τ
terms_from-same first zero σ τ h = refl
terms_from-same first (suc n) σ τ h = ap₂ ◌∷◌ (h first) (terms_from-same (suc first) n σ τ h)

pub own-terms : (b : SolvedForm) (side : Side) (count : ℕ) → side_terms b (λ w. w) side count ≡ terms_from 0 count (substitution_of b side)
own-terms b side count =
    terms_from-same 0 count (λ v. renamed (λ w. w) (substitution_of b side v)) (substitution_of b side) (λ v. renamed-itself (substitution_of b side v))

-- as the code has it
pub own-answer :
    {E : Type 0} (r : Result (List Tree) E) (b : SolvedForm) (side : Side) (count : ℕ)
    → IfOk r (λ ts. ts ≡ side_terms b (λ w. w) side count) → IfOk r (λ ts. ts ≡ terms_from 0 count (substitution_of b side))
own-answer (Err e) b side count h = tt
own-answer (Ok ts) b side count h = h ∙ own-terms b side count

pub filled-variable :
    {E : Type 0} (r : Result Term E) (b : SolvedForm) (side : Side) (v code : ℕ) (t : Tree)
    → t ≡ variable v → code ≡ code_of b.apart side v → IfOk r (λ made. tree_of made ≡ renamed (λ w. w) (joint b code))
    → IfOk r (λ made. tree_of made ≡ instance (substitution_of b side) t)
filled-variable (Err e) b side v code t t_is code_is h = tt
filled-variable (Ok made) b side v code t t_is code_is h =
    h ∙ renamed-itself (joint b code) ∙ ap (joint b) code_is ∙ sym (ap (instance (substitution_of b side)) t_is)

-- one of several terms whose variables are below a number
pub item-below :
    (n : ℕ) (xs : List Term) (i : ℕ) (x : Term)
    → i < length xs → x ≡ get_or xs i x → AllVariablesBelow n (trees_of (map tree_of xs)) → VariablesBelow n (tree_of x)
item-below n [] i x less is all = absurd (omega arith)
item-below n (y ∷ ys) zero x less is all = let P : Term → Type 0 = λ u. VariablesBelow n (tree_of u) in subst P (sym is) all.0
item-below n (y ∷ ys) (suc i) x less is all = item-below n ys i x (omega arith) is all.1
