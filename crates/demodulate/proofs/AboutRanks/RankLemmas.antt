-- The rank falls with each rewriting step, and renaming keeps it.
use Rattle.std.proofs.Common.{◌≡◌, ℕ, ◌+◌, ◌<◌, ◌≤◌, Bool, true, false, List, [], ◌∷◌, map, refl, ap, ap₂, sym, ◌∙◌, subst, ⊎_elim, append-nil, arith}
use Rattle.std.specs.Prelude.{count_by, sum_by, cond, nat_lt, Some, slice_get, slice_set}
use Rattle.std.proofs.lemmas.Bool.{and_from, and_parts, cases_Bool}
use Rattle.std.proofs.lemmas.Bool.Decides.{nat_tests}
use Rattle.std.proofs.lemmas.List.Sums.{sum_by-cons, sum_by-set}
use Rattle.std.proofs.lemmas.Option.{same_Some, slice_get_within, get_or_from_slice_get}
use Rattle.fol_base.specs.Tree.{Tree, variable, application, Trees, no_trees, tree_then, true_tree, tree_size, trees_size, trees_count}
use Rattle.fol_base.specs.Instance.{Substitution, instance, instances}
use Rattle.fol_base.specs.Clause.{TreeLiteral, TreeClause, literal_instance, literal_size, clause_size, clause_variables}
use Rattle.fol_base.specs.Canonical.{renaming, distinct}
use Rattle.fol_base.specs.Ground.{is_ground, are_ground, literals_instance}
use Rattle.fol_base.specs.Rules.{superposed, superposed_literal}
use Rattle.fol_base.specs.Sides.{side_of, other_side_of, with_side}
use Rattle.fol_base.specs.Order.{tree_greater}
use Rattle.fol_base.specs.declared.clause.Side.{Side}
use Rattle.fol_base.specs.declared.clause.Side.TheVariants.{Left, Right}
use Rattle.fol_base.proofs.AboutOrders.OrderLemmas.{tree_greater_decided}
use Rattle.fol_base.proofs.AboutOrders.TreeOrderLemmas.{tree_greater-itself, tree_greater-trans}
use Rattle.fol_base.proofs.AboutClauses.RuleLemmas.{superposed-parts, superposed_literal-parts}
use Rattle.fol_base.proofs.AboutClauses.InferenceLemmas.{side_of-instance, other_side_of-instance}
use Rattle.fol_base.proofs.WorkedExamples.TestLemmas.{list_all-item}
use Rattle.kbo_order.proofs.AboutLaws.StableLemmas.{trees_stable}
use Rattle.kbo_order.proofs.AboutLaws.SubtermLemmas.{greater-size, smaller_subterms_make_smaller}
use Rattle.kbo_order.proofs.AboutMultisets.ClauseLoops.{item-size}
use Rattle.kbo_order.proofs.AboutMultisets.MemberLemmas.{In}
use Rattle.kernel_steps.specs.Symbols.{symbols_pass, all_symbols_pass, literal_symbols_pass, clause_symbols_pass}
use Rattle.kernel_steps.proofs.AboutCalls.SymbolLemmas.{side-passes}
use Rattle.demodulate.specs.Rank.{grounded, ground_trees, tree_rank, literal_rank, clause_rank, RanksFall, RanksKept}
use Rattle.demodulate.proofs.AboutSteps.StepParts.{Rewrites, of_step}
use Rattle.demodulate.proofs.AboutSteps.SymbolLemmas.{made-passes}
use Rattle.demodulate.proofs.AboutRanks.RankLists.{tree-listed}
use Rattle.unit_cutting.proofs.AboutCuts.CutAnswers.{set_there}

-- ---- counting

abbrev one_if : Bool → ℕ
one_if b = cond b 1 0

-- fewer pass the stronger test
count-less-or : {X : Type 0} (p q : X → Bool) (xs : List X) → ((x : X) → p x ≡ true → q x ≡ true) → count_by p xs ≤ count_by q xs
count-less-or p q [] weaker = omega arith
count-less-or p q (x ∷ xs) weaker =
    let below = count-less-or p q xs weaker in
    let one = sum_by-cons (λ y. cond (p y) 1 0) x xs in
    let other = sum_by-cons (λ y. cond (q y) 1 0) x xs in
    ⊎_elim
    (λ yes. omega (arith, below, one, other, ap one_if yes, ap one_if (weaker x yes)))
    (λ no_it. omega (arith, below, one, other, ap one_if no_it))
    (cases_Bool (p x))

count-less :
    {X : Type 0} (p q : X → Bool) (xs : List X) → ((x : X) → p x ≡ true → q x ≡ true)
    → (y : X) → In y xs → q y ≡ true → p y ≡ false → count_by p xs < count_by q xs
count-less p q [] weaker y there held refused = absurd there
count-less {X} p q (x ∷ xs) weaker y there held refused =
    let one = sum_by-cons (λ z. cond (p z) 1 0) x xs in
    let other = sum_by-cons (λ z. cond (q z) 1 0) x xs in
    ⊎_elim
    (λ (same : y ≡ x).
    let below = count-less-or p q xs weaker in
    let p_is : cond (p x) 1 0 ≡ 0 = ap (λ z. cond (p z) 1 0) (sym same) ∙ ap one_if refused in
    let q_is : cond (q x) 1 0 ≡ 1 = ap (λ z. cond (q z) 1 0) (sym same) ∙ ap one_if held in
    omega (arith, below, one, other, p_is, q_is))
    (λ later.
    let below = count-less p q xs weaker y later held refused in
    ⊎_elim
    (λ yes. omega (arith, below, one, other, ap one_if yes, ap one_if (weaker x yes)))
    (λ no_it. omega (arith, below, one, other, ap one_if no_it))
    (cases_Bool (p x)))
    there

-- ---- without variables

mutual
  grounded-ground : (t : Tree) → is_ground (grounded t) ≡ true
  grounded-ground (variable v) = refl
  grounded-ground (application f ts) = grounded-all-ground ts

  grounded-all-ground : (ts : Trees) → are_ground (instances (λ v. true_tree) ts) ≡ true
  grounded-all-ground no_trees = refl
  grounded-all-ground (tree_then t ts) = and_from (is_ground (grounded t)) _ (grounded-ground t) (grounded-all-ground ts)

mutual
  grounded-size : (t : Tree) → tree_size (grounded t) ≡ tree_size t
  grounded-size (variable v) = refl
  grounded-size (application f ts) = ap (λ n. 1 + n) (grounded-sizes ts)

  grounded-sizes : (ts : Trees) → trees_size (instances (λ v. true_tree) ts) ≡ trees_size ts
  grounded-sizes no_trees = refl
  grounded-sizes (tree_then t ts) = ap₂ (λ a b. a + b) (grounded-size t) (grounded-sizes ts)

counts-kept : (ts : Trees) → trees_count (instances (λ v. true_tree) ts) ≡ trees_count ts
counts-kept no_trees = refl
counts-kept (tree_then t ts) = ap (λ n. 1 + n) (counts-kept ts)

abbrev Below : ℕ → ℕ → ℕ → Bool
Below bound f arity = nat_lt f bound

zero-below : (bound : ℕ) → 0 < bound → nat_lt 0 bound ≡ true
zero-below bound h = grind (arith, nat_tests)

mutual
  grounded-passes : (bound : ℕ) (t : Tree) → 0 < bound → symbols_pass (Below bound) t ≡ true → symbols_pass (Below bound) (grounded t) ≡ true
  grounded-passes bound (variable v) some h = and_from (nat_lt 0 bound) true (zero-below bound some) refl
  grounded-passes bound (application f ts) some h =
      let both = and_parts (nat_lt f bound) (all_symbols_pass (Below bound) ts) h in
      and_from (nat_lt f bound) _ both.0 (grounded-all-pass bound ts some both.1)

  grounded-all-pass :
      (bound : ℕ) (ts : Trees) → 0 < bound → all_symbols_pass (Below bound) ts ≡ true → all_symbols_pass (Below bound) (instances (λ v. true_tree) ts) ≡ true
  grounded-all-pass bound no_trees some h = refl
  grounded-all-pass bound (tree_then t ts) some h =
      let both = and_parts (symbols_pass (Below bound) t) (all_symbols_pass (Below bound) ts) h in
      and_from (symbols_pass (Below bound) (grounded t)) _ (grounded-passes bound t some both.0) (grounded-all-pass bound ts some both.1)

-- ---- trees

rank-falls :
    (bound n : ℕ) (s t : Tree) → 0 < bound → tree_size t ≤ n → symbols_pass (Below bound) t ≡ true → tree_greater s t ≡ true
    → tree_rank bound n t < tree_rank bound n s
rank-falls bound n s t some small passes greater =
    let stable : tree_greater (grounded s) (grounded t) ≡ true = trees_stable (λ v. true_tree) s t greater in
    count-less (tree_greater (grounded t)) (tree_greater (grounded s)) (ground_trees bound n)
    (λ u below. tree_greater-trans (grounded s) (grounded t) u stable below)
    (grounded t)
    (tree-listed bound n (grounded t) (grounded-ground t) (grounded-passes bound t some passes) (omega (arith, grounded-size t)))
    stable (tree_greater-itself (grounded t))

-- ---- literals and clauses

side-rank-falls :
    (bound n : ℕ) (l : TreeLiteral) (z : Side) (new : Tree) → tree_rank bound n new < tree_rank bound n (side_of z l)
    → literal_rank bound n (with_side z new l) < literal_rank bound n l
side-rank-falls bound n l Left new less = omega (arith, less)
side-rank-falls bound n l Right new less = omega (arith, less)

clause-rank-falls :
    (bound n : ℕ) (ls : List TreeLiteral) (j : ℕ) (l m : TreeLiteral) → slice_get ls j ≡ Some l → literal_rank bound n m < literal_rank bound n l
    → sum_by (literal_rank bound n) (slice_set ls j m) < sum_by (literal_rank bound n) ls
clause-rank-falls bound n ls j l m there less =
    let set = sum_by-set (literal_rank bound n) ls j m l (slice_get_within ls j l there) in
    let read = ap (literal_rank bound n) (get_or_from_slice_get ls j l l there) in
    omega (arith, set, read, less)

pub side-smaller : (z : Side) (l : TreeLiteral) → tree_size (side_of z l) ≤ literal_size l
side-smaller Left l = omega arith
side-smaller Right l = omega arith

with-side-of : (z : Side) (new : Tree) (l : TreeLiteral) → side_of z (with_side z new l) ≡ new
with-side-of Left new l = refl
with-side-of Right new l = refl

-- ---- steps

-- one side becomes a smaller term
pub record Exchanges (c d : TreeClause) : Type 0 where
  pub j : ℕ
  pub z : Side
  pub into : TreeLiteral
  pub there : slice_get c.literals j ≡ Some into
  pub new : Tree
  pub smaller : tree_greater (side_of z into) new ≡ true
  pub literals : slice_set c.literals j (with_side z new into) ≡ d.literals

pub exchanges : (unit c d : TreeClause) → Rewrites unit c d → Exchanges c d
exchanges unit c d r =
    let σ : Substitution = r.matcher in
    let e : TreeLiteral = literal_instance σ r.equation in
    let s : Side = r.from_side in
    let z : Side = r.into_side in
    let one =
    superposed-parts (e ∷ []) 0 s c.literals r.j z r.place d.literals
    (ap (λ (ls : List TreeLiteral). superposed (literals_instance σ ls) 0 s c.literals r.j z r.place) (sym r.is_unit) ∙ r.gives) in
    let from_is : one.from ≡ e = sym (same_Some e one.from one.from_there) in
    let step : superposed_literal e s one.into z r.place ≡ Some one.literal =
    ap (λ (f : TreeLiteral). superposed_literal f s one.into z r.place) (sym from_is) ∙ one.literal_made in
    let q = superposed_literal-parts e s one.into z r.place one.literal step in
    let ordered : tree_greater (side_of s e) (other_side_of s e) ≡ true =
    ap₂ tree_greater (side_of-instance σ s r.equation ∙ r.matches) (other_side_of-instance σ s r.equation) ∙ r.greater in
    record {
      j = r.j;
      z = z;
      into = one.into;
      there = one.into_there;
      new = q.new;
      smaller = smaller_subterms_make_smaller r.place (side_of z one.into) (side_of s e) (other_side_of s e) q.new q.old_there q.new_made ordered;
      literals =
          ap (slice_set c.literals r.j) q.gives
          ∙ sym (append-nil (slice_set c.literals r.j one.literal)) ∙ one.gives;
    }

-- which isn't larger
exchanged-size : (c d : TreeClause) (x : Exchanges c d) → tree_size x.new ≤ tree_size (side_of x.z x.into)
exchanged-size c d x = greater-size (side_of x.z x.into) x.new ((tree_greater_decided (side_of x.z x.into) x.new).0 x.smaller)

with-side-size :
    (z : Side) (new : Tree) (l : TreeLiteral) → tree_size new ≤ tree_size (side_of z l) → literal_size (with_side z new l) ≤ literal_size l
with-side-size Left new l less = omega (arith, less)
with-side-size Right new l less = omega (arith, less)

pub step_size : (unit c d : TreeClause) → Rewrites unit c d → clause_size d ≤ clause_size c
step_size unit c d r =
    let x = exchanges unit c d r in
    let m : TreeLiteral = with_side x.z x.new x.into in
    let less = with-side-size x.z x.new x.into (exchanged-size c d x) in
    let set = sum_by-set literal_size c.literals x.j m x.into (slice_get_within c.literals x.j x.into x.there) in
    let read = ap literal_size (get_or_from_slice_get c.literals x.j x.into x.into x.there) in
    let whole : clause_size d ≡ sum_by literal_size (slice_set c.literals x.j m) = ap (sum_by literal_size) (sym x.literals) in
    omega (arith, less, set, read, whole)

pub rank_falls :
    (bound n : ℕ) (unit c d : TreeClause)
    → 0 < bound → clause_size c ≤ n → clause_symbols_pass (Below bound) unit ≡ true → clause_symbols_pass (Below bound) c ≡ true
    → Rewrites unit c d → clause_rank bound n d < clause_rank bound n c
rank_falls bound n unit c d some small unit_below below r =
    let x = exchanges unit c d r in
    let z : Side = x.z in
    let m : TreeLiteral = with_side z x.new x.into in
    let kept : clause_symbols_pass (Below bound) d ≡ true = made-passes (Below bound) unit c d r unit_below below in
    let made_passes : literal_symbols_pass (Below bound) m ≡ true =
    list_all-item (literal_symbols_pass (Below bound)) d.literals x.j m
    (ap (λ (ls : List TreeLiteral). slice_get ls x.j) (sym x.literals) ∙ set_there c.literals x.j x.into m x.there) kept in
    let new_passes : symbols_pass (Below bound) x.new ≡ true =
    ap (symbols_pass (Below bound)) (sym (with-side-of z x.new x.into)) ∙ side-passes (Below bound) z m made_passes in
    let size = exchanged-size c d x in
    let whole = item-size c.literals x.j x.into x.there in
    let side_size = side-smaller z x.into in
    let new_small : tree_size x.new ≤ n = omega (arith, size, whole, side_size, small) in
    let falls = side-rank-falls bound n x.into z x.new (rank-falls bound n (side_of z x.into) x.new some new_small new_passes x.smaller) in
    subst (λ (ls : List TreeLiteral). sum_by (literal_rank bound n) ls < clause_rank bound n c) x.literals
    (clause-rank-falls bound n c.literals x.j x.into m x.there falls)

pub ranks_fall : RanksFall
ranks_fall is_predicate bound n unit c d some small unit_below below r = rank_falls bound n unit c d some small unit_below below (of_step is_predicate unit c d r)

-- ---- renaming

mutual
  grounded-renamed : (order : List ℕ) (t : Tree) → grounded (instance (renaming order) t) ≡ grounded t
  grounded-renamed order (variable v) = refl
  grounded-renamed order (application f ts) = ap (application f) (all-renamed order ts)

  all-renamed : (order : List ℕ) (ts : Trees) → instances (λ v. true_tree) (instances (renaming order) ts) ≡ instances (λ v. true_tree) ts
  all-renamed order no_trees = refl
  all-renamed order (tree_then t ts) = ap₂ tree_then (grounded-renamed order t) (all-renamed order ts)

literals-renamed :
    (bound n : ℕ) (order : List ℕ) (ls : List TreeLiteral)
    → sum_by (literal_rank bound n) (map (literal_instance (renaming order)) ls) ≡ sum_by (literal_rank bound n) ls
literals-renamed bound n order [] = refl
literals-renamed bound n order (l ∷ ls) =
    let ρ : Substitution = renaming order in
    let same : literal_rank bound n (literal_instance ρ l) ≡ literal_rank bound n l =
    ap₂ (λ (t u : Tree). count_by (tree_greater t) (ground_trees bound n) + count_by (tree_greater u) (ground_trees bound n))
    (grounded-renamed order l.left) (grounded-renamed order l.right) in
    sum_by-cons (literal_rank bound n) (literal_instance ρ l) (map (literal_instance ρ) ls)
    ∙ ap₂ (λ a b. a + b) same (literals-renamed bound n order ls)
    ∙ sym (sum_by-cons (literal_rank bound n) l ls)

pub ranks_kept : RanksKept
ranks_kept bound n c = literals-renamed bound n (distinct (clause_variables c)) c.literals
