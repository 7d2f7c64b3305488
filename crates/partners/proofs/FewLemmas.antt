-- A clause has no more sites of a kind than symbols and variables.
use Rattle.std.proofs.Common.{◌≡◌, ℕ, zero, suc, ◌+◌, ◌<◌, ◌≤◌, Bool, List, [], ◌∷◌, ◌++◌, Some, length, map, length-append, refl, ap, ◌∙◌, ⊎_elim, arith}
use Rattle.std.specs.Prelude.{filter, flat_map, slice_get, sum_by}
use Rattle.std.proofs.lemmas.Bool.{cases_Bool, cond-true, cond-false}
use Rattle.std.proofs.lemmas.List.{length-map}
use Rattle.std.proofs.lemmas.List.Sums.{sum_by-cons}
use Rattle.fol_base.specs.Tree.{Tree, variable, application, Trees, no_trees, tree_then, tree_size, trees_size}
use Rattle.fol_base.specs.Canonical.{numbers_from}
use Rattle.fol_base.specs.Clause.{TreeLiteral, TreeClause, literal_size, clause_size}
use Rattle.fol_base.specs.Selection.{SelectionMode}
use Rattle.fol_base.specs.Sides.{side_of}
use Rattle.fol_base.specs.declared.clause.Side.{Side}
use Rattle.fol_base.specs.declared.clause.Side.TheVariants.{Left, Right}
use Rattle.fol_base.specs.declared.limits.TheConstants.{SIZE_LIMIT}
use Rattle.fol_base.proofs.AboutTerms.TreeLemmas.{tree_size-positive}
use Rattle.literal_selection.specs.Mode.{mode_of}
use Rattle.eq_rules.specs.declared.concluding.LiteralSide.{LiteralSide}
use Rattle.superpose.specs.Sites.{AreSitesOf, all_sides, both_sides, below_path, can_enter, can_start, enter_sites, entered_places, inner_places, is_positive_atom, open_places, places, places_from, side_places, start_sites}
use Rattle.superpose.specs.declared.sites.LiteralPlace.{LiteralPlace}
use Rattle.superpose.specs.declared.sites.Sites.{Sites}
use Rattle.partners.specs.Known.{HaveFewSites}

-- ---- places

mutual
  places-few : (t : Tree) → length (places t) ≤ tree_size t
  places-few (variable v) = omega arith
  places-few (application f ts) = omega (arith, arguments-few 0 ts)

  arguments-few : (i : ℕ) (ts : Trees) → length (places_from i ts) ≤ trees_size ts
  arguments-few i no_trees = omega arith
  arguments-few i (tree_then t ts) =
      omega (
        arith,
        length-append (map (λ p. i ∷ p) (places t)) (places_from (suc i) ts),
        length-map (places t) (λ p. i ∷ p),
        places-few t,
        arguments-few (suc i) ts,
      )

inner-few : (t : Tree) → length (inner_places t) ≤ tree_size t
inner-few (variable v) = omega arith
inner-few (application f ts) = omega (arith, arguments-few 0 ts)

open-few : (s : Side) (l : TreeLiteral) → length (open_places s l) ≤ tree_size (side_of s l)
open-few s l =
    let inner : List (List ℕ) = inner_places (side_of s l) in
    let whole : List (List ℕ) = places (side_of s l) in
    ⊎_elim
    (λ atom.
    omega (arith, ap (λ (ps : List (List ℕ)). length ps) (cond-true (is_positive_atom s l) inner whole atom), inner-few (side_of s l)))
    (λ other.
    omega (arith, ap (λ (ps : List (List ℕ)). length ps) (cond-false (is_positive_atom s l) inner whole other), places-few (side_of s l)))
    (cases_Bool (is_positive_atom s l))

entered-few :
    (mode : SelectionMode) (ls : List TreeLiteral) (s : LiteralSide) (l : TreeLiteral)
    → slice_get ls s.literal ≡ Some l → length (entered_places mode ls s) ≤ tree_size (side_of s.side l)
entered-few mode ls s l there =
    let all : List LiteralPlace = map (below_path s []) (side_places s.side (slice_get ls s.literal)) in
    let most : length all ≤ tree_size (side_of s.side l) =
    omega (
      arith,
      length-map (side_places s.side (slice_get ls s.literal)) (below_path s []),
      ap (λ o. length (side_places s.side o)) there,
      open-few s.side l,
    ) in
    ⊎_elim
    (λ passes. omega (arith, ap (λ (ts : List LiteralPlace). length ts) (cond-true (can_enter mode ls s) all [] passes), most))
    (λ fails. omega (arith, ap (λ (ts : List LiteralPlace). length ts) (cond-false (can_enter mode ls s) all [] fails)))
    (cases_Bool (can_enter mode ls s))

-- ---- lists over all sides

sides-few :
    {X : Type 0} (f : LiteralSide → List X) (first : ℕ) (ls : List TreeLiteral)
    → ((i k : ℕ) (l : TreeLiteral) → k ≡ first + i → slice_get ls i ≡ Some l
    → length (f (record { literal = k; side = Left })) + length (f (record { literal = k; side = Right })) ≤ literal_size l)
    → length (flat_map f (flat_map both_sides (numbers_from first (length ls)))) ≤ sum_by literal_size ls
sides-few {X} f first [] h = omega arith
sides-few {X} f first (l ∷ ls) h =
    let left : List X = f (record { literal = first; side = Left }) in
    let right : List X = f (record { literal = first; side = Right }) in
    let rest : List X = flat_map f (flat_map both_sides (numbers_from (suc first) (length ls))) in
    omega (
      arith,
      length-append left (right ++ rest),
      length-append right rest,
      h 0 first l (omega arith) refl,
      sides-few f (suc first) ls (λ i k m is there. h (suc i) k m (omega (arith, is)) there),
      sum_by-cons literal_size l ls,
    )

filter-few : {X : Type 0} (test : X → Bool) (xs : List X) → length (filter test xs) ≤ length xs
filter-few {X} test [] = omega arith
filter-few {X} test (x ∷ xs) =
    ⊎_elim
    (λ kept. omega (arith, ap (λ (ys : List X). length ys) (cond-true (test x) (x ∷ filter test xs) (filter test xs) kept), filter-few test xs))
    (λ gone. omega (arith, ap (λ (ys : List X). length ys) (cond-false (test x) (x ∷ filter test xs) (filter test xs) gone), filter-few test xs))
    (cases_Bool (test x))

all_sides-length : (first n : ℕ) → length (flat_map both_sides (numbers_from first n)) ≡ n + n
all_sides-length first zero = refl
all_sides-length first (suc n) = omega (arith, all_sides-length (suc first) n)

literals-few : (ls : List TreeLiteral) → length ls + length ls ≤ sum_by literal_size ls
literals-few [] = omega arith
literals-few (l ∷ ls) =
    omega (arith, literals-few ls, tree_size-positive l.left, tree_size-positive l.right, sum_by-cons literal_size l ls)

-- ---- the sites

enter-few : (mode : SelectionMode) (ls : List TreeLiteral) → length (enter_sites mode ls) ≤ sum_by literal_size ls
enter-few mode ls =
    sides-few (entered_places mode ls) 0 ls
    (λ i k l is there.
    let at : slice_get ls k ≡ Some l = ap (slice_get ls) (let e : k ≡ i = omega (arith, is) in e) ∙ there in
    omega (arith, entered-few mode ls (record { literal = k; side = Left }) l at, entered-few mode ls (record { literal = k; side = Right }) l at))

start-few : (mode : SelectionMode) (ls : List TreeLiteral) → length (start_sites mode ls) ≤ sum_by literal_size ls
start-few mode ls =
    omega (arith, filter-few (can_start mode ls) (all_sides (length ls)), all_sides-length 0 (length ls), literals-few ls)

pub few-sites : (c : TreeClause) (sites : Sites) → AreSitesOf c sites → clause_size c < SIZE_LIMIT → HaveFewSites sites
few-sites c sites are small = record {
  from = omega (arith, ap (λ (ss : List LiteralSide). length ss) are.from, start-few (mode_of sites.mode) c.literals);
  into = omega (arith, ap (λ (ts : List LiteralPlace). length ts) are.into, enter-few (mode_of sites.mode) c.literals);
}
