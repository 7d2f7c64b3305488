-- The terms that a rewriting step binds: those of the matcher and the clause's own variables.
use Rattle.std.proofs.Common.{◌≡◌, ◌⊎◌, ℕ, zero, suc, ◌+◌, ◌<◌, ◌≤◌, Bool, true, false, ◌==◌, not, List, [], ◌∷◌, length, append-nil, refl, ap, ap₂, sym, ◌∙◌, subst, inl, inr, ⊎_elim, arith}
use Rattle.std.specs.Prelude.{flat_map, filter, sum_by, Some, IsTrue, All, if◌then◌else◌}
use Rattle.std.specs.List.{list_any, list_all}
use Rattle.std.proofs.lemmas.Bool.{and_from, eqb-true, cases_lt, le-leb}
use Rattle.std.proofs.lemmas.List.{get_or_past}
use Rattle.std.proofs.lemmas.List.Elements.{All-contains}
use Rattle.std.proofs.lemmas.List.Sums.{sum_by-cons}
use Rattle.std.proofs.lemmas.Option.{same_Some}
use Rattle.fol_base.specs.Tree.{Tree, variable, application, Trees, no_trees, tree_then, tree_size, trees_size, tree_variables, trees_variables}
use Rattle.fol_base.specs.Instance.{Substitution, instance, instances, substitution}
use Rattle.fol_base.specs.Place.{subterm}
use Rattle.fol_base.specs.Clause.{TreeLiteral, TreeClause, literal_size, literal_variables, clause_variables}
use Rattle.fol_base.specs.Ground.{literals_instance}
use Rattle.fol_base.specs.Canonical.{bound_of, terms_from, distinct, numbers_from, IsCanonical}
use Rattle.fol_base.specs.Kind.{is_function_term, PutsFunctionTerms}
use Rattle.fol_base.specs.Sides.{side_of, other_side_of}
use Rattle.fol_base.specs.declared.clause.Side.{Side}
use Rattle.fol_base.specs.declared.clause.Side.TheVariants.{Left, Right}
use Rattle.fol_base.specs.declared.limits.TheConstants.{MOST_SYMBOLS}
use Rattle.fol_base.proofs.AboutCanonical.CanonicalLemmas.{length-terms_from, terms_from-at}
use Rattle.fol_base.proofs.AboutCanonical.NumberingLemmas.{bound_of-distinct}
use Rattle.fol_base.proofs.AboutOrders.OrderLemmas.{tree_greater_decided}
use Rattle.kbo_order.proofs.AboutMultisets.MemberLemmas.{In, In-contains, any-In}
use Rattle.kbo_order.proofs.AboutLaws.SubtermLemmas.{greater-size, proper_subterms_are_smaller}
use Rattle.kernel_steps.specs.Lines.{is_small_term, has_small_sides}
use Rattle.demodulate.proofs.AboutSteps.SymbolLemmas.{in-either}

-- ---- what stands for a variable

-- where each variable stands for itself
mutual
  stays : (σ : Substitution) → ((v : ℕ) → σ v ≡ variable v) → (t : Tree) → instance σ t ≡ t
  stays σ own (variable v) = own v
  stays σ own (application f ts) = ap (application f) (all-stay σ own ts)

  all-stay : (σ : Substitution) → ((v : ℕ) → σ v ≡ variable v) → (ts : Trees) → instances σ ts ≡ ts
  all-stay σ own no_trees = refl
  all-stay σ own (tree_then t ts) = ap₂ tree_then (stays σ own t) (all-stay σ own ts)

pub literals-stay : (σ : Substitution) → ((v : ℕ) → σ v ≡ variable v) → (ls : List TreeLiteral) → literals_instance σ ls ≡ ls
literals-stay σ own [] = refl
literals-stay σ own (l ∷ ls) =
    ap₂ ◌∷◌
    (ap₂ (λ (t u : Tree). let k : TreeLiteral = record { positive = l.positive; left = t; right = u } in k) (stays σ own l.left) (stays σ own l.right))
    (literals-stay σ own ls)

-- in a list of terms
pub term-there : (n : ℕ) (σ : Substitution) (v : ℕ) → v < n → substitution (terms_from 0 n σ) v ≡ σ v
term-there n σ v less =
    let same : 0 + v ≡ v = omega arith in terms_from-at 0 n v σ (variable v) less ∙ ap σ same

pub term-past : (n : ℕ) (σ : Substitution) (v : ℕ) → n ≤ v → substitution (terms_from 0 n σ) v ≡ variable v
term-past n σ v past = get_or_past (terms_from 0 n σ) v (variable v) (omega (arith, length-terms_from 0 n σ, past))

pub own-there : (n v : ℕ) → substitution (terms_from 0 n variable) v ≡ variable v
own-there n v = ⊎_elim (λ less. term-there n variable v less) (λ past. term-past n variable v past) (cases_lt v n)

pub puts-functions : (p : ℕ → Bool) (n : ℕ) (σ : Substitution) → PutsFunctionTerms p σ → PutsFunctionTerms p (substitution (terms_from 0 n σ))
puts-functions p n σ puts v =
    ⊎_elim
    (λ less. ap (is_function_term p) (term-there n σ v less) ∙ puts v)
    (λ past. ap (is_function_term p) (term-past n σ v past))
    (cases_lt v n)

-- ---- the variables of a canonical clause

numbers-have : (first n v : ℕ) → first ≤ v → v < first + n → In v (numbers_from first n)
numbers-have first zero v low high = absurd (omega (arith, low, high))
numbers-have first (suc n) v low high =
    ⊎_elim
    (λ less. inr (numbers-have (suc first) n v (omega (arith, less)) (omega (arith, high))))
    (λ past. let same : v ≡ first = omega (arith, low, past) in inl same)
    (cases_lt first v)

filtered-in : (test : ℕ → Bool) (v : ℕ) (ws : List ℕ) → In v (filter test ws) → In v ws
filtered-in test v [] h = h
filtered-in test v (w ∷ ws) h = by (test w) (filtered-in test v ws) h
  where
    by : (b : Bool) → (In v (filter test ws) → In v ws) → In v (if b then w ∷ filter test ws else filter test ws) → In v (w ∷ ws)
    by true rest k = ⊎_elim (λ e. inl e) (λ later. inr (rest later)) k
    by false rest k = inr (rest k)

distinct-in : (v : ℕ) (ws : List ℕ) → In v (distinct ws) → In v ws
distinct-in v [] h = h
distinct-in v (w ∷ ws) h =
    ⊎_elim (λ e. inl e) (λ later. inr (distinct-in v ws (filtered-in (λ u. not (u == w)) v (distinct ws) later))) h

numbers-below : (first n : ℕ) → bound_of (numbers_from first n) ≤ first + n
numbers-below first zero = omega arith
numbers-below first (suc n) = (let rest = numbers-below (suc first) n in omega arith)

canonical-has : (c : TreeClause) → IsCanonical c → (v : ℕ) → v < bound_of (clause_variables c) → In v (clause_variables c)
canonical-has c canonical v less =
    let order : List ℕ = distinct (clause_variables c) in
    let k : ℕ = length order in
    let bound : bound_of (clause_variables c) ≡ bound_of (numbers_from 0 k) = sym (bound_of-distinct (clause_variables c)) ∙ ap bound_of canonical in
    let below : bound_of (numbers_from 0 k) ≤ 0 + k = numbers-below 0 k in
    distinct-in v (clause_variables c)
    (subst (In v) (sym canonical) (numbers-have 0 k v (omega arith) (omega (arith, less, bound, below))))

two-sides : (s : Side) (e : TreeLiteral) (v : ℕ) → In v (literal_variables e) → In v (tree_variables (side_of s e)) ⊎ In v (tree_variables (other_side_of s e))
two-sides Left e v h = in-either v (tree_variables e.left) (tree_variables e.right) h
two-sides Right e v h =
    ⊎_elim (λ l. inr l) (λ r. inl r) (in-either v (tree_variables e.left) (tree_variables e.right) h)

-- of a unit whose other side has no variables of its own, each stands in the side
pub side-has :
    (unit : TreeClause) (e : TreeLiteral) (s : Side)
    → IsCanonical unit → unit.literals ≡ e ∷ []
    → All (λ v. IsTrue (list_any (λ w. v == w) (tree_variables (side_of s e)))) (tree_variables (other_side_of s e))
    → (v : ℕ) → v < bound_of (clause_variables unit) → In v (tree_variables (side_of s e))
side-has unit e s canonical alone no_new v less =
    let all : In v (literal_variables e) =
    subst (In v) (ap (flat_map literal_variables) alone ∙ append-nil (literal_variables e)) (canonical-has unit canonical v less) in
    ⊎_elim
    (λ here. here)
    (λ there.
    let found =
    any-In (λ w. v == w) (tree_variables (side_of s e))
    (All-contains (λ u. IsTrue (list_any (λ w. u == w) (tree_variables (side_of s e)))) (tree_variables (other_side_of s e)) v no_new
    (In-contains v (tree_variables (other_side_of s e)) there)) in
    subst (λ w. In w (tree_variables (side_of s e))) (sym (eqb-true v found.0 found.2)) found.1)
    (two-sides s e v all)

-- ---- sizes

mutual
  pub variable-small : (σ : Substitution) (t : Tree) (v : ℕ) → In v (tree_variables t) → tree_size (σ v) ≤ tree_size (instance σ t)
  variable-small σ (variable w) v there =
      ⊎_elim (λ e. let same : tree_size (σ v) ≡ tree_size (σ w) = ap (λ u. tree_size (σ u)) e in omega (arith, same)) (λ none. absurd none) there
  variable-small σ (application f ts) v there = (let rest = variables-small σ ts v there in omega (arith, rest))

  variables-small : (σ : Substitution) (ts : Trees) (v : ℕ) → In v (trees_variables ts) → tree_size (σ v) ≤ trees_size (instances σ ts)
  variables-small σ no_trees v there = absurd there
  variables-small σ (tree_then t ts) v there =
      ⊎_elim
      (λ here. let one = variable-small σ t v here in omega (arith, one))
      (λ later. let rest = variables-small σ ts v later in omega (arith, rest))
      (in-either v (tree_variables t) (trees_variables ts) there)

pub subterm-size : (place : List ℕ) (t u : Tree) → subterm place t ≡ Some u → tree_size u ≤ tree_size t
subterm-size [] t u there = (let same : tree_size t ≡ tree_size u = ap tree_size (same_Some t u there) in omega (arith, same))
subterm-size (k ∷ place) t u there =
    greater-size t u ((tree_greater_decided t u).0 (proper_subterms_are_smaller (k ∷ place) t u (λ e. absurd cc) there))

pub small-sides : (ls : List TreeLiteral) → sum_by literal_size ls ≤ MOST_SYMBOLS → list_all has_small_sides ls ≡ true
small-sides [] h = refl
small-sides (l ∷ ls) h =
    let whole = sum_by-cons literal_size l ls in
    and_from (has_small_sides l) (list_all has_small_sides ls)
    (and_from (is_small_term l.left) (is_small_term l.right)
    (le-leb (tree_size l.left) MOST_SYMBOLS (omega (arith, whole, h)))
    (le-leb (tree_size l.right) MOST_SYMBOLS (omega (arith, whole, h))))
    (small-sides ls (omega (arith, whole, h)))
