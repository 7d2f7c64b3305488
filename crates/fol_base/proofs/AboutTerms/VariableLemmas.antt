-- The variables of lists of terms and literals, as they are read one by one, and what bounds them.
use Rattle.std.proofs.Common.{◌≡◌, ℕ, ◌+◌, ◌<◌, ◌≤◌, max, length, List, [], ◌∷◌, ◌++◌, map, take, get_or, ap, sym, ◌∙◌, append_assoc, append-nil, arith}
use Rattle.std.specs.Prelude.{flat_map}
use Rattle.std.specs.List.{AllByRecursion}
use Rattle.std.proofs.lemmas.Grind.{flat_map-append}
use Rattle.std.proofs.lemmas.List.Elements.{All-from_recursion}
use Rattle.fol_base.specs.Tree.{Tree, variable, application, Trees, no_trees, tree_then, trees_of, tree_variables, trees_variables, VariablesBelow, AllVariablesBelow}
use Rattle.fol_base.specs.Clause.{TreeLiteral, TreeClause, literal_variables, clause_variables, LiteralVariablesBelow, ClauseVariablesBelow}
use Rattle.fol_base.specs.Canonical.{bound_of}
use Rattle.fol_base.specs.Term.{tree_of}
use Rattle.fol_base.specs.Literal.{literal_of}
use Rattle.fol_base.specs.declared.term.Term.{Term}
use Rattle.fol_base.specs.declared.clause.Literal.{Literal}
use Rattle.fol_base.proofs.ListLemmas.{map-take_more_item}

-- ---- one more term or literal

trees_variables-push :
    (ts : List Tree) (t : Tree) → trees_variables (trees_of (ts ++ t ∷ [])) ≡ trees_variables (trees_of ts) ++ tree_variables t
trees_variables-push [] t = append-nil (tree_variables t)
trees_variables-push (u ∷ us) t =
    ap (λ vs. tree_variables u ++ vs) (trees_variables-push us t)
    ∙ sym (append_assoc (tree_variables u) (trees_variables (trees_of us)) (tree_variables t))

pub trees_variables-take_more :
    (xs : List Term) (i : ℕ) (x : Term)
    → i < length xs → x ≡ get_or xs i x
    → trees_variables (trees_of (map tree_of (take (i + 1) xs)))
    ≡ trees_variables (trees_of (map tree_of (take i xs))) ++ tree_variables (tree_of x)
trees_variables-take_more xs i x h r =
    ap (λ ts. trees_variables (trees_of ts)) (map-take_more_item tree_of xs i x h r)
    ∙ trees_variables-push (map tree_of (take i xs)) (tree_of x)

pub literals_variables-take_more :
    (xs : List Literal) (i : ℕ) (x : Literal)
    → i < length xs → x ≡ get_or xs i x
    → flat_map literal_variables (map literal_of (take (i + 1) xs))
    ≡ flat_map literal_variables (map literal_of (take i xs)) ++ literal_variables (literal_of x)
literals_variables-take_more xs i x h r =
    ap (flat_map literal_variables) (map-take_more_item literal_of xs i x h r)
    ∙ flat_map-append literal_variables (map literal_of (take i xs)) (literal_of x ∷ [])
    ∙ ap (λ vs. flat_map literal_variables (map literal_of (take i xs)) ++ vs) (append-nil (literal_variables (literal_of x)))

-- ---- bounds

pub bound_of-append : (vs ws : List ℕ) → bound_of (vs ++ ws) ≡ max (bound_of vs) (bound_of ws)
bound_of-append [] ws = omega arith
bound_of-append (v ∷ vs) ws = omega (arith, bound_of-append vs ws)

-- what bounds the numbers of a list bounds each of them
pub below-bound : (n : ℕ) (vs : List ℕ) → bound_of vs ≤ n → AllByRecursion (λ v. v < n) vs
below-bound n [] h = tt
below-bound n (v ∷ vs) h = (omega arith, below-bound n vs (omega arith))

mutual
  pub VariablesBelow-bound : (n : ℕ) (t : Tree) → bound_of (tree_variables t) ≤ n → VariablesBelow n t
  VariablesBelow-bound n (variable v) h = omega arith
  VariablesBelow-bound n (application f ts) h = AllVariablesBelow-bound n ts h

  AllVariablesBelow-bound : (n : ℕ) (ts : Trees) → bound_of (trees_variables ts) ≤ n → AllVariablesBelow n ts
  AllVariablesBelow-bound n no_trees h = tt
  AllVariablesBelow-bound n (tree_then t ts) h =
      let both = bound_of-append (tree_variables t) (trees_variables ts) in
      (VariablesBelow-bound n t (omega (arith, both)), AllVariablesBelow-bound n ts (omega (arith, both)))

pub LiteralVariablesBelow-bound : (n : ℕ) (l : TreeLiteral) → bound_of (literal_variables l) ≤ n → LiteralVariablesBelow n l
LiteralVariablesBelow-bound n l h =
    let sides = bound_of-append (tree_variables l.left) (tree_variables l.right) in
    (VariablesBelow-bound n l.left (omega (arith, sides)), VariablesBelow-bound n l.right (omega (arith, sides)))

pub ClauseVariablesBelow-bound : (n : ℕ) (c : TreeClause) → bound_of (clause_variables c) ≤ n → ClauseVariablesBelow n c
ClauseVariablesBelow-bound n c h = All-from_recursion (LiteralVariablesBelow n) c.literals (literals n c.literals h)
  where
    literals :
        (n : ℕ) (ls : List TreeLiteral) → bound_of (flat_map literal_variables ls) ≤ n → AllByRecursion (LiteralVariablesBelow n) ls
    literals n [] h = tt
    literals n (l ∷ ls) h =
        let whole = bound_of-append (literal_variables l) (flat_map literal_variables ls) in
        (LiteralVariablesBelow-bound n l (omega (arith, whole)), literals n ls (omega (arith, whole)))
