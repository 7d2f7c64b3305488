-- The order's tests, and the same as types.
use mathlib.Core.Bool.{beq}
use Rattle.std.proofs.Common.{◌≡◌, ℕ, ◌+◌, ◌<◌, Bool, cond, true, false, ◌&&◌, ◌||◌, ◌==◌, nat_lt, nat_le, ◌⊎◌, List, [], ◌∷◌, refl, ap, ap₂, sym, ◌∙◌, inl, inr, ⊎_elim, arith}
use Rattle.std.specs.Bool.{Decides}
use Rattle.std.specs.Cmp.{booleans_Decides}
use Rattle.std.specs.List.{list_all}
use Rattle.std.proofs.lemmas.Bool.{and_parts, and_from, or_cases, or_left, or_right, eq-eqb, eqb-true, lt-ltb, ltb-true, le-leb, leb-true, true≢false, cases_Bool}
use Rattle.fol_base.specs.Tree.{Tree, variable, application, Trees, no_trees, tree_then, tree_size, tree_eq, tree_variables}
use Rattle.fol_base.specs.Clause.{TreeLiteral}
use Rattle.fol_base.specs.Ground.{GroundClause}
use Rattle.fol_base.specs.Multiset.{times}
use Rattle.fol_base.specs.Order.{occurrences, has_variables_of, exceeds_by_size, tree_greater, trees_greater, sides_multiset, equivalent_literals, literal_greater, clause_greater, HasVariablesOf, ExceedsBySize, TreesGreater, TreeEqualityDecided, TreeGreaterDecided, LiteralGreaterDecided, ClauseGreaterDecided, TreesEquivalence, LiteralsEquivalence, ClausesEquivalence, ClausesCounted}
use Rattle.fol_base.proofs.AboutTerms.TreeLemmas.{tree_eq-true, tree_eq-refl}
use Rattle.fol_base.proofs.AboutClauses.CountLemmas.{list_all-always, times-cons, equivalence_from, same_multiset-decided, same_multiset-equivalence, multiset_greater-itself, multiset_greater-decided}

-- ---- equality

pub tree_equality_decided : TreeEqualityDecided
tree_equality_decided t u = (tree_eq-true t u, λ e. ap (tree_eq t) (sym e) ∙ tree_eq-refl t)

pub trees_equivalence : TreesEquivalence
trees_equivalence = equivalence_from tree_eq (λ t u. t ≡ u) tree_equality_decided (λ t. refl) (λ t u e. sym e) (λ t u w e k. e ∙ k)

-- ---- equivalence of literals and clauses

-- the same sides in either order
abbrev pub SameSides : TreeLiteral → TreeLiteral → Type 0
SameSides l m = ((l.left ≡ m.left) × (l.right ≡ m.right)) ⊎ ((l.left ≡ m.right) × (l.right ≡ m.left))

abbrev pub SameLiteral : TreeLiteral → TreeLiteral → Type 0
SameLiteral l m = (l.positive ≡ m.positive) × SameSides l m

both_equal : (t u t' u' : Tree) → Decides (tree_eq t t' && tree_eq u u') ((t ≡ t') × (u ≡ u'))
both_equal t u t' u' = (
  λ h. let parts = and_parts (tree_eq t t') (tree_eq u u') h in (tree_eq-true t t' parts.0, tree_eq-true u u' parts.1),
  λ e. and_from (tree_eq t t') (tree_eq u u') ((tree_equality_decided t t').1 e.0) ((tree_equality_decided u u').1 e.1),
)

pub equivalent_literals-decided : (l m : TreeLiteral) → Decides (equivalent_literals l m) (SameLiteral l m)
equivalent_literals-decided l m =
    let signs : Bool = beq l.positive m.positive in
    let straight : Bool = tree_eq l.left m.left && tree_eq l.right m.right in
    let crossed : Bool = tree_eq l.left m.right && tree_eq l.right m.left in (
      λ h.
          let parts = and_parts signs (straight || crossed) h in
          let sides : SameSides l m =
          ⊎_elim
          (λ e. inl ((both_equal l.left l.right m.left m.right).0 e))
          (λ e. inr ((both_equal l.left l.right m.right m.left).0 e))
          (or_cases straight crossed parts.1) in
          ((booleans_Decides l.positive m.positive).0 parts.0, sides),
      λ e.
          and_from signs (straight || crossed) ((booleans_Decides l.positive m.positive).1 e.0)
          (⊎_elim
          (λ k. or_left straight crossed ((both_equal l.left l.right m.left m.right).1 k))
          (λ k. or_right straight crossed ((both_equal l.left l.right m.right m.left).1 k))
          e.1),
    )

SameSides-sym : (l m : TreeLiteral) → SameSides l m → SameSides m l
SameSides-sym l m h = ⊎_elim (λ e. inl (sym e.0, sym e.1)) (λ e. inr (sym e.1, sym e.0)) h

SameSides-trans : (l m n : TreeLiteral) → SameSides l m → SameSides m n → SameSides l n
SameSides-trans l m n h k =
    ⊎_elim
    (λ e. ⊎_elim (λ d. inl (e.0 ∙ d.0, e.1 ∙ d.1)) (λ d. inr (e.0 ∙ d.0, e.1 ∙ d.1)) k)
    (λ e. ⊎_elim (λ d. inr (e.0 ∙ d.1, e.1 ∙ d.0)) (λ d. inl (e.0 ∙ d.1, e.1 ∙ d.0)) k)
    h

pub literals_equivalence : LiteralsEquivalence
literals_equivalence =
    equivalence_from equivalent_literals SameLiteral equivalent_literals-decided
    (λ l. (refl, inl (refl, refl)))
    (λ l m h. (sym h.0, SameSides-sym l m h.1))
    (λ l m n h k. (h.0 ∙ k.0, SameSides-trans l m n h.1 k.1))

pub clauses_equivalence : ClausesEquivalence
clauses_equivalence = same_multiset-equivalence equivalent_literals literals_equivalence

pub clauses_counted : ClausesCounted
clauses_counted c d = same_multiset-decided equivalent_literals literals_equivalence c d

-- ---- trees

occurrences-listed :
    (p : ℕ → Bool) (vs : List ℕ) → list_all p vs ≡ true → (v : ℕ) → (times ◌==◌ v vs ≡ 0) ⊎ (p v ≡ true)
occurrences-listed p [] h v = inl refl
occurrences-listed p (w ∷ vs) h v =
    let parts = and_parts (p w) (list_all p vs) h in
    ⊎_elim
    (λ e. inr (ap p (eqb-true v w e) ∙ parts.0))
    (λ e.
    ⊎_elim
    (λ none. inl (times-cons ◌==◌ v w vs ∙ ap₂ (λ b n. cond b 1 0 + n) e none))
    (λ some. inr some)
    (occurrences-listed p vs parts.1 v))
    (cases_Bool (v == w))

has_variables_of-decided : (s t : Tree) → Decides (has_variables_of s t) (HasVariablesOf s t)
has_variables_of-decided s t =
    let p : ℕ → Bool = λ v. nat_le (occurrences v t) (occurrences v s) in (
      λ h v.
          ⊎_elim
          (λ none. let e : occurrences v t ≡ 0 = none in omega arith)
          (λ some. leb-true (occurrences v t) (occurrences v s) some)
          (occurrences-listed p (tree_variables t) h v),
      λ h. list_all-always p (λ v. le-leb (occurrences v t) (occurrences v s) (h v)) (tree_variables t),
    )

exceeds_by_size-decided : (s t : Tree) (tie : Bool) (Tie : Type 0) → Decides tie Tie → Decides (exceeds_by_size s t tie) (ExceedsBySize s t Tie)
exceeds_by_size-decided s t tie Tie decides =
    let larger : Bool = nat_lt (tree_size t) (tree_size s) in
    let level : Bool = tree_size s == tree_size t in (
      λ h.
          let parts = and_parts (has_variables_of s t) (larger || (level && tie)) h in
          let sizes : (tree_size t < tree_size s) ⊎ ((tree_size s ≡ tree_size t) × Tie) =
          ⊎_elim
          (λ e. inl (ltb-true (tree_size t) (tree_size s) e))
          (λ e. let k = and_parts level tie e in inr (eqb-true (tree_size s) (tree_size t) k.0, decides.0 k.1))
          (or_cases larger (level && tie) parts.1) in
          ((has_variables_of-decided s t).0 parts.0, sizes),
      λ e.
          and_from (has_variables_of s t) (larger || (level && tie)) ((has_variables_of-decided s t).1 e.0)
          (⊎_elim
          (λ k. or_left larger (level && tie) (lt-ltb (tree_size t) (tree_size s) k))
          (λ k. or_right larger (level && tie) (and_from level tie (eq-eqb (tree_size s) (tree_size t) k.0) (decides.1 k.1)))
          e.1),
    )

never : Decides false ⊥
never = (λ h. true≢false (sym h), λ h. absurd h)

tie-decided :
    (f g : ℕ) (rest : Bool) (Rest : Type 0) → Decides rest Rest
    → Decides (nat_lt g f || ((f == g) && rest)) ((g < f) ⊎ ((f ≡ g) × Rest))
tie-decided f g rest Rest decides = (
  λ h.
      ⊎_elim
      (λ e. inl (ltb-true g f e))
      (λ e. let k = and_parts (f == g) rest e in inr (eqb-true f g k.0, decides.0 k.1))
      (or_cases (nat_lt g f) ((f == g) && rest) h),
  λ e.
      ⊎_elim
      (λ k. or_left (nat_lt g f) ((f == g) && rest) (lt-ltb g f k))
      (λ k. or_right (nat_lt g f) ((f == g) && rest) (and_from (f == g) rest (eq-eqb f g k.0) (decides.1 k.1)))
      e,
)

mutual
  pub tree_greater_decided : TreeGreaterDecided
  tree_greater_decided (variable v) t = exceeds_by_size-decided (variable v) t false ⊥ never
  tree_greater_decided (application f ts) (variable w) = exceeds_by_size-decided (application f ts) (variable w) false ⊥ never
  tree_greater_decided (application f ts) (application g us) =
      exceeds_by_size-decided (application f ts) (application g us)
      (nat_lt g f || ((f == g) && trees_greater ts us)) ((g < f) ⊎ ((f ≡ g) × TreesGreater ts us))
      (tie-decided f g (trees_greater ts us) (TreesGreater ts us) (trees_greater_decided ts us))

  trees_greater_decided : (ts us : Trees) → Decides (trees_greater ts us) (TreesGreater ts us)
  trees_greater_decided no_trees us = never
  trees_greater_decided (tree_then t ts) no_trees = never
  trees_greater_decided (tree_then t ts) (tree_then u us) =
      let here = tree_greater_decided t u in
      let rest = trees_greater_decided ts us in
      let same = tree_equality_decided t u in (
        λ h.
            ⊎_elim
            (λ e. inl (here.0 e))
            (λ e. let k = and_parts (tree_eq t u) (trees_greater ts us) e in inr (same.0 k.0, rest.0 k.1))
            (or_cases (tree_greater t u) (tree_eq t u && trees_greater ts us) h),
        λ e.
            ⊎_elim
            (λ k. or_left (tree_greater t u) (tree_eq t u && trees_greater ts us) (here.1 k))
            (λ k.
            or_right (tree_greater t u) (tree_eq t u && trees_greater ts us)
            (and_from (tree_eq t u) (trees_greater ts us) (same.1 k.0) (rest.1 k.1)))
            e,
      )

-- ---- literals and clauses

pub literal_greater_decided : LiteralGreaterDecided
literal_greater_decided l m = multiset_greater-decided tree_eq tree_greater (sides_multiset l) (sides_multiset m)

pub clause_greater_decided : ClauseGreaterDecided
clause_greater_decided c d = multiset_greater-decided equivalent_literals literal_greater c d

-- no clause is greater than itself
pub clause_greater-itself : (c : GroundClause) → clause_greater c c ≡ false
clause_greater-itself c = multiset_greater-itself equivalent_literals literal_greater c
