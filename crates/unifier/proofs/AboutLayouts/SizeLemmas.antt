-- Sizes of cells and of instances, which stop at a greatest number.
use Rattle.std.proofs.Common.{◌≡◌, ℕ, ◌+◌, ◌<◌, ◌≤◌, None, Some, List, [], ◌∷◌, ◌++◌, length, map, take, get_or, refl, ap, sym, ◌∙◌, subst, ⊎_elim, arith}
use Rattle.std.specs.Prelude.{sum_by, slice_set}
use Rattle.std.proofs.lemmas.Bool.{cases_lt}
use Rattle.std.proofs.lemmas.List.{length-append, length-set, map-append, get_or_default, get_or-set_same, get_or-set_other}
use Rattle.std.proofs.lemmas.List.Sums.{sum_by-append, sum_by-cons}
use Rattle.std.proofs.Math.ListN.{get_or-append}
use Rattle.std.proofs.Math.Seq.{get_or-append_seam}
use Rattle.fol_base.specs.Tree.{Tree, variable, tree_size, trees_size, trees_of}
use Rattle.fol_base.specs.Instance.{Substitution, instance, instances}
use Rattle.fol_base.specs.Clause.{TreeLiteral, literal_size, literal_instance}
use Rattle.fol_base.specs.Ground.{literals_instance}
use Rattle.fol_base.specs.Term.{tree_of}
use Rattle.fol_base.specs.declared.term.Term.{Term}
use Rattle.fol_base.proofs.ListLemmas.{map-take_more_item}
use Rattle.fol_base.proofs.AboutTerms.TreeLemmas.{trees_size-push, instances-trees_of}
use Rattle.term_bank.specs.declared.literal.BankLit.{BankLit}
use Rattle.term_bank.specs.Literal.{literals_at, literal_at}
use Rattle.unifier.specs.declared.cells.Cell.{Cell}
use Rattle.unifier.specs.declared.cells.Cell.TheVariants.{Variable, Application, NoTrees, TreeThen}
use Rattle.unifier.specs.declared.layout.Place.{Place}
use Rattle.unifier.specs.declared.solution.Solution.{Solution}
use Rattle.unifier.specs.Cells.{Value, tree, trees, as_tree, as_trees, cell_at, value_of, IsAfterParts, AreOrdered, HasKinds, AreKinded, IsValuation}
use Rattle.unifier.specs.InOrder.{InOrder}
use Rattle.unifier.specs.Layout.{cell_of}
use Rattle.unifier.specs.SolvedForm.{joint}
use Rattle.unifier.specs.Solution.{value_at, solved_form}
use Rattle.plain_types.specs.Capped.{capped}
use Rattle.unifier.specs.Sizes.{value_size, AreSizes, size_by}
use Rattle.unifier.proofs.AboutLayouts.ValueLemmas.{value_at-valuation}
use Rattle.unifier.proofs.AboutEquations.SolutionLemmas.{joint-found, joint-free}
use Rattle.unifier.proofs.AboutClasses.CellLemmas.{list-value, tree-value}

-- ---- sizes that stop

capped-sum : (a b : ℕ) → capped (capped a + capped b) ≡ capped (a + b)
capped-sum a b = omega arith

capped-one : (a : ℕ) → capped (capped a + 1) ≡ capped (a + 1)
capped-one a = omega arith

-- ---- cells

abbrev own : List Cell → ℕ → Value
own cells = value_at variable cells

size-from-parts :
    (cells : List Cell) (sizes : List ℕ) (n : ℕ) (x : Cell)
    → AreOrdered cells → AreKinded cells → AreSizes cells sizes n → n < length cells → IsAfterParts n x → HasKinds cells x
    → size_by sizes x ≡ capped (value_size (value_of variable (own cells) x))
size-from-parts cells sizes n (Variable w) ordered kinded h inside after kinds = refl
size-from-parts cells sizes n (Application f l) ordered kinded h inside after kinds =
    let list : own cells l ≡ trees (as_trees (own cells l)) =
    list-value variable cells (own cells) l (value_at-valuation variable cells ordered) (omega (arith, after)) kinds in
    let size : get_or sizes l 0 ≡ capped (value_size (own cells l)) = h.each l after in
    let parts : value_size (own cells l) ≡ trees_size (as_trees (own cells l)) = ap value_size list in
    omega (arith, size, parts)
size-from-parts cells sizes n NoTrees ordered kinded h inside after kinds = refl
size-from-parts cells sizes n (TreeThen a b) ordered kinded h inside after kinds =
    let made : IsValuation variable cells (own cells) = value_at-valuation variable cells ordered in
    let one : own cells a ≡ tree (as_tree (own cells a)) = tree-value variable cells (own cells) a made (omega (arith, after.0)) kinds.0 in
    let list : own cells b ≡ trees (as_trees (own cells b)) = list-value variable cells (own cells) b made (omega (arith, after.1)) kinds.1 in
    let first_size : get_or sizes a 0 ≡ capped (value_size (own cells a)) = h.each a after.0 in
    let rest_size : get_or sizes b 0 ≡ capped (value_size (own cells b)) = h.each b after.1 in
    let first_parts : value_size (own cells a) ≡ tree_size (as_tree (own cells a)) = ap value_size one in
    let rest_parts : value_size (own cells b) ≡ trees_size (as_trees (own cells b)) = ap value_size list in
    omega (arith, first_size, rest_size, first_parts, rest_parts)

pub sizes-start : (cells : List Cell) (sizes : List ℕ) → AreSizes cells sizes 0
sizes-start cells sizes = record { count = omega arith; each = λ k less. absurd (omega arith) }

-- the size of one more cell, where those of the cells before it stay
sizes-more :
    (cells : List Cell) (places : List Place) (sizes new : List ℕ) (n size : ℕ)
    → InOrder cells places → AreSizes cells sizes n → n < length cells → size ≡ size_by sizes (cell_at cells n)
    → n < length new → ((k : ℕ) → k < n → get_or new k 0 ≡ get_or sizes k 0) → get_or new n 0 ≡ size → AreSizes cells new (n + 1)
sizes-more cells places sizes new n size order h inside is long kept written =
    let here : size ≡ capped (value_size (own cells n)) =
    is
    ∙ size-from-parts cells sizes n (cell_at cells n) order.ordered order.kinded h inside (order.ordered n inside) (order.kinded n inside)
    ∙ ap (λ v. capped (value_size v)) (sym (value_at-valuation variable cells order.ordered n inside)) in
    record {
      count = omega (arith, long);
      each = λ k less.
          ⊎_elim
          (λ front. kept k front ∙ h.each k front)
          (λ ge.
          let same : n ≡ k = omega arith in
          let P : ℕ → Type 0 = λ j. get_or new j 0 ≡ capped (value_size (own cells j)) in
          subst P same (written ∙ here))
          (cases_lt k n);
    }

pub sizes-push :
    (cells : List Cell) (places : List Place) (sizes new : List ℕ) (n size : ℕ)
    → InOrder cells places → AreSizes cells sizes n → length sizes ≡ n → n < length cells → size ≡ size_by sizes (cell_at cells n)
    → new ≡ sizes ++ size ∷ [] → AreSizes cells new (n + 1) × (length new ≡ n + 1)
sizes-push cells places sizes new n size order h long inside is e =
    let longer : length new ≡ n + 1 = ap length e ∙ omega (arith, length-append sizes (size ∷ []), long) in (
      sizes-more cells places sizes new n size order h inside is (omega (arith, longer))
          (λ k less. ap (λ ys. get_or ys k 0) e ∙ get_or-append sizes (size ∷ []) 0 k (omega (arith, long, less)))
          (ap (λ ys. get_or ys n 0) e ∙ ap (λ j. get_or (sizes ++ size ∷ []) j 0) (sym long) ∙ get_or-append_seam sizes size [] 0),
      longer,
    )

pub sizes-set :
    (cells : List Cell) (places : List Place) (sizes new : List ℕ) (n size : ℕ)
    → InOrder cells places → AreSizes cells sizes n → n < length sizes → n < length cells → size ≡ size_by sizes (cell_at cells n)
    → new ≡ slice_set sizes n size → AreSizes cells new (n + 1)
sizes-set cells places sizes new n size order h room inside is e =
    sizes-more cells places sizes new n size order h inside is (omega (arith, ap length e, length-set sizes n size, room))
    (λ k less. ap (λ ys. get_or ys k 0) e ∙ get_or-set_other sizes n k size 0 (λ same. omega (arith, less, same)))
    (ap (λ ys. get_or ys n 0) e ∙ get_or-set_same sizes n size 0 room)

-- ---- terms

-- a variable that has a cell
pub size-bound :
    (b : Solution) (sizes : List ℕ) (w k size : ℕ)
    → InOrder b.cells.items b.places.items → AreSizes b.cells.items sizes (length b.cells.items)
    → cell_of w b.places.items ≡ Some k → size ≡ get_or sizes k 0 → size ≡ capped (tree_size (joint (solved_form b) w))
size-bound b sizes w k size order h found is =
    let cells : List Cell = b.cells.items in
    let there = order.terms w k found in
    let one : own cells k ≡ tree (as_tree (own cells k)) =
    tree-value variable cells (own cells) k (value_at-valuation variable cells order.ordered) there.0 there.1 in
    is ∙ h.each k there.0
    ∙ ap (λ v. capped (value_size v)) one
    ∙ ap (λ t. capped (tree_size t)) (sym (joint-found b w k found))

pub size-free : (b : Solution) (w : ℕ) → cell_of w b.places.items ≡ None → 1 ≡ capped (tree_size (joint (solved_form b) w))
size-free b w none = ap (λ t. capped (tree_size t)) (sym (joint-free b w none))

-- the sizes of one more term
pub size-more :
    (σ : Substitution) (xs : List Term) (i : ℕ) (x : Term) (total one new : ℕ)
    → i < length xs → x ≡ get_or xs i x
    → total ≡ capped (trees_size (instances σ (trees_of (map tree_of (take i xs)))))
    → one ≡ capped (tree_size (instance σ (tree_of x))) → new ≡ capped (total + one)
    → new ≡ capped (trees_size (instances σ (trees_of (map tree_of (take (i + 1) xs)))))
size-more σ xs i x total one new less is h here made =
    let ts : List Tree = map tree_of (take i xs) in
    let t : Tree = tree_of x in
    let pushed : trees_size (instances σ (trees_of (ts ++ t ∷ []))) ≡ trees_size (instances σ (trees_of ts)) + tree_size (instance σ t) =
    ap trees_size (instances-trees_of σ (ts ++ t ∷ []) ∙ ap trees_of (map-append (instance σ) ts (t ∷ [])))
    ∙ trees_size-push (map (instance σ) ts) (instance σ t)
    ∙ ap (λ us. trees_size us + tree_size (instance σ t)) (sym (instances-trees_of σ ts)) in
    let all : trees_size (instances σ (trees_of (map tree_of (take (i + 1) xs)))) ≡ trees_size (instances σ (trees_of ts)) + tree_size (instance σ t) =
    ap (λ us. trees_size (instances σ (trees_of us))) (map-take_more_item tree_of xs i x less is) ∙ pushed in
    omega (arith, h, here, made, all)

-- the sizes of one more literal
pub size-literal :
    (σ : Substitution) (ls : List BankLit) (i : ℕ) (l : BankLit) (total left right new : ℕ)
    → i < length ls → l ≡ get_or ls i l
    → total ≡ capped (sum_by literal_size (literals_instance σ (literals_at (take i ls))))
    → left ≡ capped (tree_size (instance σ (literal_at l).left)) → right ≡ capped (tree_size (instance σ (literal_at l).right))
    → new ≡ capped (total + capped (left + right))
    → new ≡ capped (sum_by literal_size (literals_instance σ (literals_at (take (i + 1) ls))))
size-literal σ ls i l total left right new less is h one other made =
    let done : List TreeLiteral = literals_at (take i ls) in
    let m : TreeLiteral = literal_at l in
    let parts : literals_instance σ (literals_at (take (i + 1) ls)) ≡ literals_instance σ done ++ literal_instance σ m ∷ [] =
    ap (literals_instance σ) (map-take_more_item literal_at ls i l less is) ∙ map-append (literal_instance σ) done (m ∷ []) in
    let all : sum_by literal_size (literals_instance σ (literals_at (take (i + 1) ls)))
    ≡ sum_by literal_size (literals_instance σ done) + sum_by literal_size (literal_instance σ m ∷ []) =
    ap (sum_by literal_size) parts ∙ sum_by-append literal_size (literals_instance σ done) (literal_instance σ m ∷ []) in
    let single : sum_by literal_size (literal_instance σ m ∷ []) ≡ tree_size (instance σ m.left) + tree_size (instance σ m.right) =
    omega (arith, sum_by-cons literal_size (literal_instance σ m) []) in
    omega (arith, h, one, other, made, all, single)

-- ---- as the code has them

pub cell-read : (cells : List Cell) (i : ℕ) (x : Cell) → i < length cells → x ≡ get_or cells i x → x ≡ cell_at cells i
cell-read cells i x h e = e ∙ get_or_default cells i x (Variable 0) h

pub after-parts :
    (cells : List Cell) (places : List Place) (n m : ℕ) (x : Cell)
    → InOrder cells places → n < length cells → x ≡ cell_at cells n → n ≤ m → IsAfterParts m x
after-parts cells places n m x order inside is more =
    after-more n m x more (subst (IsAfterParts n) (sym is) (order.ordered n inside))
  where
    after-more : (n m : ℕ) (x : Cell) → n ≤ m → IsAfterParts n x → IsAfterParts m x
    after-more n m (Variable w) more h = tt
    after-more n m (Application f l) more h = omega (arith, more, h)
    after-more n m NoTrees more h = tt
    after-more n m (TreeThen a b) more h = (omega (arith, more, h.0), omega (arith, more, h.1))
