-- Greater is kept by every substitution.
use Rattle.std.proofs.Common.{◌≡◌, ℕ, ◌+◌, ◌-◌, ◌<◌, ◌≤◌, ◌⊎◌, Bool, true, false, ◌==◌, List, [], ◌∷◌, map, refl, ap, sym, ◌∙◌, inl, inr, ⊎_elim, if◌then◌else◌, arith}
use Rattle.std.specs.Prelude.{sum_by}
use Rattle.std.proofs.lemmas.Bool.{cases_lt, eqb-true}
use Rattle.std.proofs.lemmas.Bool.Decides.{Decides-eqb}
use Rattle.std.proofs.lemmas.List.Sums.{sum_by-append, sum_by-cons}
use Rattle.fol_base.specs.Tree.{Tree, variable, application, Trees, no_trees, tree_then, tree_size, trees_size, tree_eq, tree_variables, trees_variables}
use Rattle.fol_base.specs.Instance.{Substitution, instance, instances}
use Rattle.fol_base.specs.Clause.{TreeLiteral, literal_instance}
use Rattle.fol_base.specs.Multiset.{times, multiset_greater}
use Rattle.fol_base.specs.Order.{occurrences, tree_greater, HasVariablesOf, TreeGreater, TreesGreater, sides_multiset, equivalent_literals, literal_greater}
use Rattle.fol_base.proofs.AboutClauses.CountLemmas.{equivalence_from, multiset_greater-decided}
use Rattle.fol_base.proofs.AboutTerms.TreeLemmas.{tree_size-positive, tree_eq-true}
use Rattle.fol_base.proofs.AboutInstances.InstanceLemmas.{occurrences_in_instances}
use Rattle.fol_base.proofs.AboutOrders.OrderLemmas.{tree_equality_decided, tree_greater_decided, SameLiteral, equivalent_literals-decided}
use Rattle.kbo_order.specs.StrictOrder.{IsStrictOrder}
use Rattle.kbo_order.specs.Laws.{TreesStable, LiteralsStable, ClausesStable}
use Rattle.kbo_order.proofs.AboutMultisets.MemberLemmas.{In}
use Rattle.kbo_order.proofs.AboutMultisets.MultisetLemmas.{split, times-in, Fits-times, multiset-stable}
use Rattle.kbo_order.proofs.AboutLaws.StrictOrderLemmas.{trees_ordered, literals_ordered}

-- ---- sums over a part of a multiset

-- numbers, none of which exceeds another
numbers_ordered : IsStrictOrder ◌==◌ (λ (m n : ℕ). false)
numbers_ordered = record {
  is_equivalence = equivalence_from ◌==◌ (λ (m n : ℕ). m ≡ n) Decides-eqb (λ m. refl) (λ m n e. sym e) (λ k m n e d. e ∙ d);
  same_left = λ k m n e h. h;
  same_right = λ k m n e h. h;
  is_irreflexive = λ m. refl;
  is_transitive = λ k m n h d. h;
}

none-sum : (h : ℕ → ℕ) (ws : List ℕ) → ((w : ℕ) → In w ws → ⊥) → sum_by h ws ≡ 0
none-sum h [] none = omega arith
none-sum h (w ∷ ws) none = absurd (none w (inl refl))

part-sum :
    (vs ws : List ℕ) → ((v : ℕ) → times ◌==◌ v ws ≤ times ◌==◌ v vs) → (h : ℕ → ℕ) → sum_by h ws ≤ sum_by h vs
part-sum vs ws part h =
    let none : ℕ → ℕ → Bool = λ m n. false in
    let s = split ◌==◌ none numbers_ordered vs ws in
    let fits : (m n : ℕ) → (m == n) ≡ true → h m ≡ h n = λ m n e. ap h (eqb-true m n e) in
    let empty : (w : ℕ) → In w s.right → ⊥ = λ w there.
    let some = times-in ◌==◌ none numbers_ordered w w s.right there (numbers_ordered.is_equivalence.refl w) in
    let lefts = s.left_sums (λ x. if w == x then 1 else 0) (Fits-times ◌==◌ none numbers_ordered w) in
    let rights = s.right_sums (λ x. if w == x then 1 else 0) (Fits-times ◌==◌ none numbers_ordered w) in
    let apart : (times ◌==◌ w s.left ≡ 0) ⊎ (times ◌==◌ w s.right ≡ 0) = s.apart w in
    ⊎_elim (λ e. omega (arith, part w, some, lefts, rights)) (λ e. omega (arith, some)) apart in
    omega (arith, s.left_sums h fits, s.right_sums h fits, none-sum h s.right empty)

-- ---- trees

-- what is put in for variables, beyond their own size
abbrev extra : Substitution → ℕ → ℕ
extra σ v = tree_size (σ v) - 1

mutual
  instance-size : (σ : Substitution) (t : Tree) → tree_size (instance σ t) ≡ tree_size t + sum_by (extra σ) (tree_variables t)
  instance-size σ (variable v) = omega (arith, tree_size-positive (σ v), sum_by-cons (extra σ) v [])
  instance-size σ (application f ts) = omega (arith, instances-size σ ts)

  instances-size : (σ : Substitution) (ts : Trees) → trees_size (instances σ ts) ≡ trees_size ts + sum_by (extra σ) (trees_variables ts)
  instances-size σ no_trees = omega arith
  instances-size σ (tree_then t ts) =
      omega (arith, instance-size σ t, instances-size σ ts, sum_by-append (extra σ) (tree_variables t) (trees_variables ts))

instance-variables : (σ : Substitution) (s t : Tree) → HasVariablesOf s t → HasVariablesOf (instance σ s) (instance σ t)
instance-variables σ s t h v =
    omega (
      arith,
      occurrences_in_instances σ s v,
      occurrences_in_instances σ t v,
      part-sum (tree_variables s) (tree_variables t) h (λ w. occurrences v (σ w)),
    )

pub greater-by_size : (s t : Tree) → HasVariablesOf s t → tree_size t < tree_size s → TreeGreater s t
greater-by_size (variable v) t h k = (h, inl k)
greater-by_size (application f ts) (variable w) h k = (h, inl k)
greater-by_size (application f ts) (application g us) h k = (h, inl k)

instance-sizes :
    (σ : Substitution) (s t : Tree) → HasVariablesOf s t
    → tree_size (instance σ t) + tree_size s ≤ tree_size (instance σ s) + tree_size t
instance-sizes σ s t h =
    omega (arith, instance-size σ s, instance-size σ t, part-sum (tree_variables s) (tree_variables t) h (extra σ))

mutual
  tree-stable : (σ : Substitution) (s t : Tree) → TreeGreater s t → TreeGreater (instance σ s) (instance σ t)
  tree-stable σ (variable v) t h = ⊎_elim (λ e. absurd (omega (arith, tree_size-positive t))) (λ e. absurd e.1) h.1
  tree-stable σ (application f ts) (variable w) h =
      let s : Tree = application f ts in
      let t : Tree = variable w in
      ⊎_elim
      (λ e. greater-by_size (instance σ s) (instance σ t) (instance-variables σ s t h.0) (omega (arith, instance-sizes σ s t h.0)))
      (λ e. absurd e.1)
      h.1
  tree-stable σ (application f ts) (application g us) h =
      let s : Tree = application f ts in
      let t : Tree = application g us in
      let variables : HasVariablesOf (instance σ s) (instance σ t) = instance-variables σ s t h.0 in
      ⊎_elim
      (λ e. greater-by_size (instance σ s) (instance σ t) variables (omega (arith, instance-sizes σ s t h.0)))
      (λ e.
      let level : tree_size s ≡ tree_size t = e.0 in
      ⊎_elim
      (λ larger. greater-by_size (instance σ s) (instance σ t) variables larger)
      (λ no_larger. (
        variables,
        inr (
          omega (arith, instance-sizes σ s t h.0),
          ⊎_elim (λ k. inl k) (λ k. inr (k.0, trees-stable σ ts us k.1)) e.1,
        ),
      ))
      (cases_lt (tree_size (instance σ t)) (tree_size (instance σ s))))
      h.1

  trees-stable : (σ : Substitution) (ts us : Trees) → TreesGreater ts us → TreesGreater (instances σ ts) (instances σ us)
  trees-stable σ no_trees us h = absurd h
  trees-stable σ (tree_then t ts) no_trees h = absurd h
  trees-stable σ (tree_then t ts) (tree_then u us) h =
      ⊎_elim (λ e. inl (tree-stable σ t u e)) (λ e. inr (ap (instance σ) e.0, trees-stable σ ts us e.1)) h

pub trees_stable : TreesStable
trees_stable σ s t h = (tree_greater_decided (instance σ s) (instance σ t)).1 (tree-stable σ s t ((tree_greater_decided s t).0 h))

-- ---- literals and clauses

trees-same_stable : (σ : Substitution) (s t : Tree) → tree_eq s t ≡ true → tree_eq (instance σ s) (instance σ t) ≡ true
trees-same_stable σ s t e = (tree_equality_decided (instance σ s) (instance σ t)).1 (ap (instance σ) (tree_eq-true s t e))

sides-instance :
    (σ : Substitution) (p : Bool) (t u : Tree)
    → (if p then (instance σ t ∷ instance σ u ∷ []) else (instance σ t ∷ instance σ t ∷ instance σ u ∷ instance σ u ∷ []))
    ≡ map (instance σ) (if p then (t ∷ u ∷ []) else (t ∷ t ∷ u ∷ u ∷ []))
sides-instance σ true t u = refl
sides-instance σ false t u = refl

pub literals_stable : LiteralsStable
literals_stable σ l m h =
    let stable =
    (multiset_greater-decided tree_eq tree_greater (map (instance σ) (sides_multiset l)) (map (instance σ) (sides_multiset m))).1
    (multiset-stable tree_eq tree_greater tree_eq tree_greater trees_ordered trees_ordered (instance σ) (trees-same_stable σ) (trees_stable σ)
    (sides_multiset l) (sides_multiset m) ((multiset_greater-decided tree_eq tree_greater (sides_multiset l) (sides_multiset m)).0 h)) in
    ap (λ (xs : List Tree). multiset_greater tree_eq tree_greater xs (sides_multiset (literal_instance σ m))) (sides-instance σ l.positive l.left l.right)
    ∙ ap (λ (xs : List Tree). multiset_greater tree_eq tree_greater (map (instance σ) (sides_multiset l)) xs) (sides-instance σ m.positive m.left m.right)
    ∙ stable

pub equivalent_stable :
    (σ : Substitution) (l m : TreeLiteral)
    → equivalent_literals l m ≡ true → equivalent_literals (literal_instance σ l) (literal_instance σ m) ≡ true
equivalent_stable σ l m e =
    let same : SameLiteral l m = (equivalent_literals-decided l m).0 e in
    (equivalent_literals-decided (literal_instance σ l) (literal_instance σ m)).1 (
      same.0,
      ⊎_elim
          (λ k. inl (ap (instance σ) k.0, ap (instance σ) k.1))
          (λ k. inr (ap (instance σ) k.0, ap (instance σ) k.1))
          same.1,
    )

pub clauses_stable : ClausesStable
clauses_stable σ c d h =
    (multiset_greater-decided equivalent_literals literal_greater (map (literal_instance σ) c) (map (literal_instance σ) d)).1
    (multiset-stable equivalent_literals literal_greater equivalent_literals literal_greater literals_ordered literals_ordered
    (literal_instance σ) (equivalent_stable σ) (literals_stable σ) c d
    ((multiset_greater-decided equivalent_literals literal_greater c d).0 h))
