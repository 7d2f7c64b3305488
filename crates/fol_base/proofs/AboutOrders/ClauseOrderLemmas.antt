-- The order on ground literals and ground clauses is total.
use Rattle.std.proofs.Common.{◌≡◌, ℕ, ◌+◌, ◌*◌, ◌≤◌, Bool, cond, true, false, ◌⊎◌, List, [], ◌∷◌, refl, ap, ap₂, sym, ◌∙◌, inl, inr, ⊎_elim, arith}
use Rattle.std.specs.Prelude.{All}
use Rattle.std.proofs.lemmas.Bool.{and_parts, cases_Bool, cond-true, cond-false, false_from_ne_true, true≢false}
use Rattle.std.proofs.lemmas.List.Sums.{AllPass-from_list_all}
use Rattle.std.proofs.lemmas.List.Elements.{All-nil, All-cons}
use Rattle.fol_base.specs.Tree.{Tree, tree_eq}
use Rattle.fol_base.specs.Clause.{TreeLiteral}
use Rattle.fol_base.specs.Ground.{is_ground, is_ground_literal, is_ground_clause, GroundClause}
use Rattle.fol_base.specs.Multiset.{times, same_multiset, multiset_greater, IsTotalOrderOn}
use Rattle.fol_base.specs.Order.{tree_greater, sides_multiset, equivalent_literals, literal_greater, equivalent_clauses, clause_greater, LiteralsTotallyOrdered, ClausesTotallyOrdered, NotGreaterIsTransitive}
use Rattle.fol_base.proofs.AboutClauses.CountLemmas.{same_multiset-counts, same_multiset-from, multiset_greater-itself}
use Rattle.fol_base.proofs.AboutOrders.TotalLemmas.{multisets_totally_ordered}
use Rattle.fol_base.proofs.AboutOrders.OrderLemmas.{trees_equivalence, SameLiteral, equivalent_literals-decided, literals_equivalence}
use Rattle.fol_base.proofs.AboutTerms.TreeLemmas.{tree_eq-true, tree_eq-refl}
use Rattle.fol_base.proofs.AboutOrders.TreeOrderLemmas.{trees_totally_ordered}

-- ---- a literal's sides as a multiset

abbrev hits : Tree → Tree → ℕ
hits z t = cond (tree_eq z t) 1 0

hits-cases : (z t : Tree) → (hits z t ≡ 0) ⊎ ((hits z t ≡ 1) × (z ≡ t))
hits-cases z t =
    ⊎_elim
    (λ e. inr (cond-true (tree_eq z t) 1 0 e, tree_eq-true z t e))
    (λ e. inl (cond-false (tree_eq z t) 1 0 e))
    (cases_Bool (tree_eq z t))

hits-itself : (z : Tree) → hits z z ≡ 1
hits-itself z = cond-true (tree_eq z z) 1 0 (tree_eq-refl z)

abbrev sides : Bool → Tree → Tree → List Tree
sides positive t u = cond positive (t ∷ u ∷ []) (t ∷ t ∷ u ∷ u ∷ [])

abbrev CountedAlike : List Tree → List Tree → Type 0
CountedAlike xs ys = (z : Tree) → times tree_eq z xs ≡ times tree_eq z ys

times-once : (z t u : Tree) → times tree_eq z (t ∷ u ∷ []) ≡ hits z t + hits z u
times-once z t u = omega arith

times-twice : (z t u : Tree) → times tree_eq z (t ∷ t ∷ u ∷ u ∷ []) ≡ 2 * hits z t + 2 * hits z u
times-twice z t u = omega arith

sides-swapped : (positive : Bool) (t u : Tree) → CountedAlike (sides positive t u) (sides positive u t)
sides-swapped true t u z = omega arith
sides-swapped false t u z = omega arith

-- two trees each
pairs-same :
    (t u v w : Tree) → ((z : Tree) → hits z t + hits z u ≡ hits z v + hits z w) → ((t ≡ v) × (u ≡ w)) ⊎ ((t ≡ w) × (u ≡ v))
pairs-same t u v w h =
    let at_t : hits t t + hits t u ≡ hits t v + hits t w = h t in
    let one : hits t t ≡ 1 = hits-itself t in
    ⊎_elim
    (λ none.
    ⊎_elim
    (λ none'. absurd (omega arith))
    (λ e.
    let same : hits u t ≡ hits u w = ap (hits u) e.1 in
    let at_u : hits u t + hits u u ≡ hits u v + hits u w = h u in
    let own : hits u u ≡ 1 = hits-itself u in
    ⊎_elim (λ no. absurd (omega arith)) (λ d. inr (e.1, d.1)) (hits-cases u v))
    (hits-cases t w))
    (λ e.
    let same : hits u t ≡ hits u v = ap (hits u) e.1 in
    let at_u : hits u t + hits u u ≡ hits u v + hits u w = h u in
    let own : hits u u ≡ 1 = hits-itself u in
    ⊎_elim (λ no. absurd (omega arith)) (λ d. inl (e.1, d.1)) (hits-cases u w))
    (hits-cases t v)

-- a pair is never a pair of doubles
once-never_twice : (t u v w : Tree) → ((z : Tree) → hits z t + hits z u ≡ 2 * hits z v + 2 * hits z w) → ⊥
once-never_twice t u v w h =
    let at_v : hits v t + hits v u ≡ 2 * hits v v + 2 * hits v w = h v in
    let at_w : hits w t + hits w u ≡ 2 * hits w v + 2 * hits w w = h w in
    let own_v : hits v v ≡ 1 = hits-itself v in
    let own_w : hits w w ≡ 1 = hits-itself w in
    let most_u : hits v u ≤ 1 = at_most v u in
    let most_w : hits w u ≤ 1 = at_most w u in
    ⊎_elim
    (λ none. absurd (omega arith))
    (λ e.
    ⊎_elim
    (λ none. absurd (omega arith))
    (λ d.
    let same : hits v v ≡ hits v w = ap (hits v) (e.1 ∙ sym d.1) in
    let most_t : hits v t ≤ 1 = at_most v t in
    absurd (omega arith))
    (hits-cases w t))
    (hits-cases v t)
  where
    at_most : (x y : Tree) → hits x y ≤ 1
    at_most x y = ⊎_elim (λ e. omega arith) (λ e. let d : hits x y ≡ 1 = e.0 in omega arith) (hits-cases x y)

sides-same :
    (p q : Bool) (t u v w : Tree) → CountedAlike (sides p t u) (sides q v w)
    → (p ≡ q) × (((t ≡ v) × (u ≡ w)) ⊎ ((t ≡ w) × (u ≡ v)))
sides-same true true t u v w h =
    (refl, pairs-same t u v w (λ z. sym (times-once z t u) ∙ h z ∙ times-once z v w))
sides-same true false t u v w h =
    absurd (once-never_twice t u v w (λ z. sym (times-once z t u) ∙ h z ∙ times-twice z v w))
sides-same false true t u v w h =
    absurd (once-never_twice v w t u (λ z. sym (times-once z v w) ∙ sym (h z) ∙ times-twice z t u))
sides-same false false t u v w h = (
  refl,
  pairs-same t u v w (λ z.
      let e : 2 * hits z t + 2 * hits z u ≡ 2 * hits z v + 2 * hits z w = sym (times-twice z t u) ∙ h z ∙ times-twice z v w in omega arith),
)

-- ---- literals

abbrev GroundTree : Tree → Type 0
GroundTree t = is_ground t ≡ true

-- the order on the multisets of ground trees
ground_multisets : IsTotalOrderOn (same_multiset tree_eq) (multiset_greater tree_eq tree_greater) (All GroundTree)
ground_multisets = multisets_totally_ordered tree_eq tree_greater GroundTree trees_totally_ordered

sides-ground : (p : Bool) (t u : Tree) → is_ground t ≡ true → is_ground u ≡ true → All GroundTree (sides p t u)
sides-ground true t u ht hu = All-cons GroundTree t (u ∷ []) ht (All-cons GroundTree u [] hu (All-nil GroundTree))
sides-ground false t u ht hu =
    All-cons GroundTree t (t ∷ u ∷ u ∷ []) ht
    (All-cons GroundTree t (u ∷ u ∷ []) ht (All-cons GroundTree u (u ∷ []) hu (All-cons GroundTree u [] hu (All-nil GroundTree))))

literal-ground : (l : TreeLiteral) → is_ground_literal l ≡ true → All GroundTree (sides_multiset l)
literal-ground l h = let parts = and_parts (is_ground l.left) (is_ground l.right) h in sides-ground l.positive l.left l.right parts.0 parts.1

alike-sides : (l m : TreeLiteral) → SameLiteral l m → CountedAlike (sides_multiset l) (sides_multiset m)
alike-sides l m h z =
    ⊎_elim
    (λ e. ap (λ p. times tree_eq z (sides p l.left l.right)) h.0 ∙ ap₂ (λ t u. times tree_eq z (sides m.positive t u)) e.0 e.1)
    (λ e.
    ap (λ p. times tree_eq z (sides p l.left l.right)) h.0
    ∙ ap₂ (λ t u. times tree_eq z (sides m.positive t u)) e.0 e.1
    ∙ sides-swapped m.positive m.right m.left z)
    h.1

same-sides : (l m : TreeLiteral) → equivalent_literals l m ≡ true → same_multiset tree_eq (sides_multiset l) (sides_multiset m) ≡ true
same-sides l m e =
    same_multiset-from tree_eq (sides_multiset l) (sides_multiset m) (alike-sides l m ((equivalent_literals-decided l m).0 e))

equivalent-sides : (l m : TreeLiteral) → same_multiset tree_eq (sides_multiset l) (sides_multiset m) ≡ true → equivalent_literals l m ≡ true
equivalent-sides l m e =
    (equivalent_literals-decided l m).1
    (sides-same l.positive m.positive l.left l.right m.left m.right
    (same_multiset-counts tree_eq trees_equivalence (sides_multiset l) (sides_multiset m) e))

pub literals_totally_ordered : LiteralsTotallyOrdered
literals_totally_ordered = record {
  is_equivalence = literals_equivalence;
  same_left = λ l m n hl hm hn e h.
      ground_multisets.same_left (sides_multiset l) (sides_multiset m) (sides_multiset n)
      (literal-ground l hl) (literal-ground m hm) (literal-ground n hn) (same-sides l m e) h;
  same_right = λ l m n hl hm hn e h.
      ground_multisets.same_right (sides_multiset l) (sides_multiset m) (sides_multiset n)
      (literal-ground l hl) (literal-ground m hm) (literal-ground n hn) (same-sides l m e) h;
  is_irreflexive = λ l. multiset_greater-itself tree_eq tree_greater (sides_multiset l);
  is_transitive = λ l m n hl hm hn h k.
      ground_multisets.is_transitive (sides_multiset l) (sides_multiset m) (sides_multiset n)
      (literal-ground l hl) (literal-ground m hm) (literal-ground n hn) h k;
  is_total = λ l m hl hm.
      ⊎_elim
      (λ e. inl (equivalent-sides l m e))
      (λ e. inr e)
      (ground_multisets.is_total (sides_multiset l) (sides_multiset m) (literal-ground l hl) (literal-ground m hm));
}

-- ---- clauses

abbrev GroundLiteral : TreeLiteral → Type 0
GroundLiteral l = is_ground_literal l ≡ true

clause_multisets : IsTotalOrderOn equivalent_clauses clause_greater (All GroundLiteral)
clause_multisets = multisets_totally_ordered equivalent_literals literal_greater GroundLiteral literals_totally_ordered

clause-ground : (c : GroundClause) → is_ground_clause c ≡ true → All GroundLiteral c
clause-ground c h = AllPass-from_list_all is_ground_literal c h

pub clauses_totally_ordered : ClausesTotallyOrdered
clauses_totally_ordered = record {
  is_equivalence = clause_multisets.is_equivalence;
  same_left = λ b c d hb hc hd e h.
      clause_multisets.same_left b c d (clause-ground b hb) (clause-ground c hc) (clause-ground d hd) e h;
  same_right = λ b c d hb hc hd e h.
      clause_multisets.same_right b c d (clause-ground b hb) (clause-ground c hc) (clause-ground d hd) e h;
  is_irreflexive = clause_multisets.is_irreflexive;
  is_transitive = λ b c d hb hc hd h k.
      clause_multisets.is_transitive b c d (clause-ground b hb) (clause-ground c hc) (clause-ground d hd) h k;
  is_total = λ b c hb hc. clause_multisets.is_total b c (clause-ground b hb) (clause-ground c hc);
}

pub not_greater_is_transitive : NotGreaterIsTransitive
not_greater_is_transitive b c d hb hc hd not_bc not_cd =
    false_from_ne_true (clause_greater b d) (λ h.
    let order : ClausesTotallyOrdered = clauses_totally_ordered in
    let clash : clause_greater c d ≡ true → ⊥ = λ e. true≢false (sym e ∙ not_cd) in
    ⊎_elim
    (λ e. clash (order.same_left b c d hb hc hd e h))
    (λ e.
    ⊎_elim
    (λ k. true≢false (sym k ∙ not_bc))
    (λ k. clash (order.is_transitive c b d hc hb hd k h))
    e)
    (order.is_total b c hb hc))
