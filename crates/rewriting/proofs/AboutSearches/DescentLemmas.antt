-- What is known of the sides of an equation, and so of their instances.
use Rattle.std.proofs.Common.{◌≡◌, ℕ, zero, suc, ◌+◌, ◌-◌, ◌<◌, ◌≤◌, ◌⊎◌, Bool, true, false, not, ◌&&◌, ◌||◌, ◌==◌, nat_lt, nat_le, List, [], ◌∷◌, map, drop, refl, ap, ap₂, sym, ◌∙◌, subst, ⊎_elim, length, get_or, arith}
use Rattle.std.specs.Prelude.{sum_by, slice_get, Option, Some, MatchOption, IsPermutation}
use Rattle.std.proofs.Math.Seq.{drop-cons}
use Rattle.std.proofs.lemmas.Bool.{and_parts, eq-eqb, eqb-true, ltb-true, le-leb, true≢false, false_from_ne_true}
use Rattle.std.proofs.lemmas.Option.{same_Some}
use Rattle.std.proofs.lemmas.List.Sorted.{IsPermutation-sym, IsPermutation-trans, sum_by-IsPermutation}
use Rattle.std.proofs.lemmas.List.Sums.{sum_by-append, sum_by-cons}
use Rattle.fol_base.specs.Term.{tree_of}
use Rattle.fol_base.specs.declared.term.Term.{Term}
use Rattle.fol_base.specs.Tree.{Tree, variable, application, Trees, no_trees, tree_then, trees_of, tree_eq, tree_size, trees_size, tree_variables, trees_variables}
use Rattle.fol_base.specs.Instance.{Substitution, instance, instances}
use Rattle.fol_base.specs.Clause.{TreeLiteral}
use Rattle.fol_base.specs.Sides.{side_of, other_side_of}
use Rattle.fol_base.specs.Order.{occurrences, exceeds_by_size, tree_greater, trees_greater, HasVariablesOf}
use Rattle.fol_base.specs.declared.clause.Side.{Side}
use Rattle.fol_base.specs.declared.clause.Side.TheVariants.{Left, Right}
use Rattle.fol_base.proofs.AboutTerms.TreeLemmas.{tree_size-positive, tree_eq-refl, tree_eq-sym, tree_eq-true}
use Rattle.fol_base.proofs.AboutClauses.CountLemmas.{list_all-always}
use Rattle.fol_base.proofs.AboutInstances.InstanceLemmas.{occurrences_in_instances}
use Rattle.fol_base.proofs.AboutOrders.TreeOrderLemmas.{tree_greater-itself}
use Rattle.kbo_order.proofs.AboutLaws.StableLemmas.{trees_stable}
use Rattle.kbo_order.proofs.AboutReading.HeadLemmas.{head_reaches, low_head-not_greater}
use Rattle.unifier.specs.Matching.{by_pairs, IsMatched, NoMatcher}
use Rattle.rewriting.specs.Units.{may_rewrite, has_other_variables}
use Rattle.rewriting.specs.Descent.{AreBalanced, Descends, DescendsTo}
use Rattle.rewriting.specs.declared.descent.Descent.{Descent}
use Rattle.rewriting.specs.declared.descent.Descent.TheVariants.{Always, FirstDifference, Instances}
use Rattle.rewriting.proofs.AboutSearches.PairLemmas.{pairs-match}

-- ---- the sides of an equation

-- of two sides, one of which is greater, it rewrites by that one
pub ordered-descends :
    (e : TreeLiteral) → (tree_greater e.left e.right ≡ true) ⊎ (tree_greater e.right e.left ≡ true)
    → (s : Side) → may_rewrite s e ≡ true → tree_greater (side_of s e) (other_side_of s e) ≡ true
ordered-descends e h Left may =
    let no = (and_parts (has_other_variables Left e) (not (tree_greater e.right e.left)) may).1 in
    ⊎_elim (λ k. k) (λ k. absurd (true≢false (sym no ∙ ap not k))) h
ordered-descends e h Right may =
    let no = (and_parts (has_other_variables Right e) (not (tree_greater e.left e.right)) may).1 in
    ⊎_elim (λ k. absurd (true≢false (sym no ∙ ap not k))) (λ k. k) h

-- two whose variables are the same once they are sorted
pub balanced-from :
    (s t : Tree) (xs ys : List ℕ)
    → tree_size s ≡ tree_size t → IsPermutation (tree_variables s) xs → IsPermutation (tree_variables t) ys → xs ≡ ys → AreBalanced s t
balanced-from s t xs ys level p q same = (
  level,
  IsPermutation-trans (tree_variables s) ys (tree_variables t) (subst (λ zs. IsPermutation (tree_variables s) zs) same p)
      (IsPermutation-sym (tree_variables t) ys q),
)

balanced-sym : (s t : Tree) → AreBalanced s t → AreBalanced t s
balanced-sym s t h = (sym h.0, IsPermutation-sym (tree_variables s) (tree_variables t) h.1)

pub balanced-descends : (e : TreeLiteral) → AreBalanced e.left e.right → (s : Side) → Descends FirstDifference (side_of s e) (other_side_of s e)
balanced-descends e h Left = h
balanced-descends e h Right = balanced-sym e.left e.right h

-- ---- their instances

-- what is put in for variables, beyond their own size
abbrev extra : Substitution → ℕ → ℕ
extra σ v = tree_size (σ v) - 1

mutual
  instance-size : (σ : Substitution) (t : Tree) → tree_size (instance σ t) ≡ tree_size t + sum_by (extra σ) (tree_variables t)
  instance-size σ (variable v) = omega (arith, tree_size-positive (σ v), sum_by-cons (extra σ) v [])
  instance-size σ (application f ts) = omega (arith, instances-size σ ts)

  instances-size : (σ : Substitution) (ts : Trees) → trees_size (instances σ ts) ≡ trees_size ts + sum_by (extra σ) (trees_variables ts)
  instances-size σ no_trees = omega arith
  instances-size σ (tree_then t ts) =
      omega (arith, instance-size σ t, instances-size σ ts, sum_by-append (extra σ) (tree_variables t) (trees_variables ts))

balanced-size : (σ : Substitution) (s t : Tree) → AreBalanced s t → tree_size (instance σ s) ≡ tree_size (instance σ t)
balanced-size σ s t h =
    omega (arith, h.0, instance-size σ s, instance-size σ t, sum_by-IsPermutation (extra σ) (tree_variables s) (tree_variables t) h.1)

balanced-variables : (σ : Substitution) (s t : Tree) → AreBalanced s t → HasVariablesOf (instance σ s) (instance σ t)
balanced-variables σ s t h v =
    omega (
      arith,
      occurrences_in_instances σ s v,
      occurrences_in_instances σ t v,
      sum_by-IsPermutation (λ w. occurrences v (σ w)) (tree_variables s) (tree_variables t) h.1,
    )

pub descends-to : (d : Descent) (σ : Substitution) (s t : Tree) → Descends d s t → DescendsTo d (instance σ s) (instance σ t)
descends-to Always σ s t h = trees_stable σ s t h
descends-to FirstDifference σ s t h = (balanced-size σ s t h, balanced-variables σ s t h)
descends-to Instances σ s t h = tt

-- from a matcher that was found
pub matched-descends :
    (e : TreeLiteral) (s : Side) (d : Descent) (old pattern new : Tree) (so found : List (ℕ × Tree)) (answer : Option (List (ℕ × Tree)))
    → pattern ≡ side_of s e → new ≡ other_side_of s e → so ≡ []
    → MatchOption answer (NoMatcher so pattern old) (IsMatched so pattern old) → answer ≡ Some found
    → Descends d (side_of s e) (other_side_of s e) → DescendsTo d old (instance (by_pairs found) new)
matched-descends e s d old pattern new so found answer pattern_is new_is so_is matched some known =
    let at_some : IsMatched so pattern old found = subst (λ (o : Option (List (ℕ × Tree))). MatchOption o (NoMatcher so pattern old) (IsMatched so pattern old)) some matched in
    let m : IsMatched [] (side_of s e) old found =
    subst (λ q. IsMatched [] q old found) pattern_is (subst (λ l. IsMatched l pattern old found) so_is at_some) in
    let β : Substitution = by_pairs found in
    subst (λ o. DescendsTo d o (instance β new)) (pairs-match (side_of s e) old found m)
    (subst (λ n. DescendsTo d (instance β (side_of s e)) (instance β n)) (sym new_is) (descends-to d β (side_of s e) (other_side_of s e) known))

-- ---- what differs first

or-false : (b : Bool) → (b || false) ≡ b
or-false true = refl
or-false false = refl

not-below : (m n : ℕ) → m ≡ n → nat_lt m n ≡ false
not-below m n same = false_from_ne_true (nat_lt m n) (λ h. let less : m < n = ltb-true m n h in absurd (omega arith))

-- at one size the tie decides
tie-decides : (s t : Tree) (tie : Bool) → tree_size s ≡ tree_size t → HasVariablesOf s t → exceeds_by_size s t tie ≡ tie
tie-decides s t tie level has =
    ap (λ (b : Bool). b && (nat_lt (tree_size t) (tree_size s) || ((tree_size s == tree_size t) && tie)))
    (list_all-always (λ v. nat_le (occurrences v t) (occurrences v s)) (λ v. le-leb (occurrences v t) (occurrences v s) (has v)) (tree_variables t))
    ∙ ap (λ (b : Bool). b || ((tree_size s == tree_size t) && tie)) (not-below (tree_size t) (tree_size s) (sym level))
    ∙ ap (λ (b : Bool). b && tie) (eq-eqb (tree_size s) (tree_size t) level)

pub other-heads :
    (f g : ℕ) (ts us : Trees)
    → (f ≡ g → ⊥) → tree_size (application f ts) ≡ tree_size (application g us) → HasVariablesOf (application f ts) (application g us)
    → nat_lt g f ≡ tree_greater (application f ts) (application g us)
other-heads f g ts us other level has =
    sym
    (tie-decides (application f ts) (application g us) (nat_lt g f || ((f == g) && trees_greater ts us)) level has
    ∙ ap (λ (b : Bool). nat_lt g f || (b && trees_greater ts us)) (false_from_ne_true (f == g) (λ e. other (eqb-true f g e)))
    ∙ or-false (nat_lt g f))

pub one-head :
    (f g : ℕ) (ts us : Trees)
    → f ≡ g → tree_size (application f ts) ≡ tree_size (application g us) → HasVariablesOf (application f ts) (application g us)
    → trees_greater ts us ≡ tree_greater (application f ts) (application g us)
one-head f g ts us same level has =
    sym
    (tie-decides (application f ts) (application g us) (nat_lt g f || ((f == g) && trees_greater ts us)) level has
    ∙ ap (λ (b : Bool). b || ((f == g) && trees_greater ts us)) (not-below g f (sym same))
    ∙ ap (λ (b : Bool). b && trees_greater ts us) (eq-eqb f g same))

first-equal :
    (t u : Tree) (ts us : Trees) → u ≡ t → trees_greater (tree_then t ts) (tree_then u us) ≡ trees_greater ts us
first-equal t u ts us same =
    ap (λ w. tree_greater t w || (tree_eq t w && trees_greater ts us)) same
    ∙ ap (λ (b : Bool). b || (tree_eq t t && trees_greater ts us)) (tree_greater-itself t)
    ∙ ap (λ (b : Bool). b && trees_greater ts us) (tree_eq-refl t)

first-other :
    (t u : Tree) (ts us : Trees) → tree_eq u t ≡ false → trees_greater (tree_then t ts) (tree_then u us) ≡ tree_greater t u
first-other t u ts us other =
    ap (λ (b : Bool). tree_greater t u || (b && trees_greater ts us)) (tree_eq-sym t u ∙ other) ∙ or-false (tree_greater t u)

-- ---- the walk over the arguments

-- the arguments from an index on
abbrev pub rest_greater : Substitution → ℕ → List Term → List Term → Bool
rest_greater σ i old new = trees_greater (trees_of (map tree_of (drop i old))) (instances σ (trees_of (map tree_of (drop i new))))

rest-here :
    (σ : Substitution) (i : ℕ) (old new : List Term) (x y : Term)
    → i < length old → x ≡ get_or old i x → i < length new → y ≡ get_or new i y
    → rest_greater σ i old new
    ≡ trees_greater
    (tree_then (tree_of x) (trees_of (map tree_of (drop (suc i) old))))
    (tree_then (instance σ (tree_of y)) (instances σ (trees_of (map tree_of (drop (suc i) new)))))
rest-here σ i old new x y low there new_low new_there =
    ap (λ (zs : List Term). trees_greater (trees_of (map tree_of zs)) (instances σ (trees_of (map tree_of (drop i new)))))
    (drop-cons old i x low ∙ ap (λ (z : Term). z ∷ drop (suc i) old) (sym there))
    ∙ ap (λ (zs : List Term). trees_greater (trees_of (map tree_of (x ∷ drop (suc i) old))) (instances σ (trees_of (map tree_of zs))))
    (drop-cons new i y new_low ∙ ap (λ (z : Term). z ∷ drop (suc i) new) (sym new_there))

item-of : (xs : List Term) (i : ℕ) (x : Term) → i < length xs → x ≡ get_or xs i x → slice_get xs i ≡ Some x
item-of [] i x less is = absurd (omega arith)
item-of (y ∷ ys) zero x less is = ap (λ (z : Term). Some z) (sym is)
item-of (y ∷ ys) (suc i) x less is = item-of ys i x (omega arith) is

-- an item that is read twice
one-item : (xs : List Term) (i : ℕ) (x y : Term) → i < length xs → x ≡ get_or xs i x → y ≡ get_or xs i y → x ≡ y
one-item xs i x y less x_is y_is = same_Some x y (sym (item-of xs i x less x_is) ∙ item-of xs i y less y_is)

pub rest-equal :
    (σ : Substitution) (i : ℕ) (old new : List Term) (x y : Term) (same : Bool)
    → i < length old → x ≡ get_or old i x → i < length new → y ≡ get_or new i y
    → same ≡ tree_eq (instance σ (tree_of y)) (tree_of x) → same ≡ true
    → rest_greater σ (i + 1) old new ≡ rest_greater σ i old new
rest-equal σ i old new x y same low there new_low new_there is held =
    let next : i + 1 ≡ suc i = omega arith in
    ap (λ k. rest_greater σ k old new) next
    ∙ sym
    (rest-here σ i old new x y low there new_low new_there
    ∙ first-equal (tree_of x) (instance σ (tree_of y)) (trees_of (map tree_of (drop (suc i) old))) (instances σ (trees_of (map tree_of (drop (suc i) new))))
    (tree_eq-true (instance σ (tree_of y)) (tree_of x) (sym is ∙ held)))

-- the items are read a second time, where they differ
pub rest-differs :
    (σ : Substitution) (i : ℕ) (old new : List Term) (x y again_x again_y : Term) (same : Bool)
    → i < length old → x ≡ get_or old i x → again_x ≡ get_or old i again_x → i < length new → y ≡ get_or new i y → again_y ≡ get_or new i again_y
    → same ≡ tree_eq (instance σ (tree_of y)) (tree_of x) → same ≡ false
    → tree_greater (tree_of again_x) (instance σ (tree_of again_y)) ≡ rest_greater σ i old new
rest-differs σ i old new x y again_x again_y same low there there_again new_low new_there new_there_again is other =
    ap₂ (λ (a b : Term). tree_greater (tree_of a) (instance σ (tree_of b)))
    (one-item old i again_x x low there_again there) (one-item new i again_y y new_low new_there_again new_there)
    ∙ sym
    (rest-here σ i old new x y low there new_low new_there
    ∙ first-other (tree_of x) (instance σ (tree_of y)) (trees_of (map tree_of (drop (suc i) old))) (instances σ (trees_of (map tree_of (drop (suc i) new))))
    (sym is ∙ other))

drop-past : (xs : List Term) (i : ℕ) → length xs ≤ i → drop i xs ≡ []
drop-past [] zero h = refl
drop-past [] (suc i) h = refl
drop-past (x ∷ xs) zero h = absurd (omega arith)
drop-past (x ∷ xs) (suc i) h = drop-past xs i (omega arith)

nothing-below : (ts : Trees) → trees_greater ts no_trees ≡ false
nothing-below no_trees = refl
nothing-below (tree_then t ts) = refl

pub rest-over : (σ : Substitution) (i : ℕ) (old new : List Term) → length old ≤ i → false ≡ rest_greater σ i old new
rest-over σ i old new over =
    sym (ap (λ (zs : List Term). trees_greater (trees_of (map tree_of zs)) (instances σ (trees_of (map tree_of (drop i new))))) (drop-past old i over))

pub rest-new_over : (σ : Substitution) (i : ℕ) (old new : List Term) → length new ≤ i → false ≡ rest_greater σ i old new
rest-new_over σ i old new over =
    sym
    (ap (λ (zs : List Term). trees_greater (trees_of (map tree_of (drop i old))) (instances σ (trees_of (map tree_of zs)))) (drop-past new i over)
    ∙ nothing-below (trees_of (map tree_of (drop i old))))

-- ---- from the calls

pub variable-below :
    (old new : Tree) (v : ℕ) → old ≡ variable v → tree_size old ≡ tree_size new → false ≡ tree_greater old new
variable-below old new v is level =
    low_head-not_greater old new level (ap (λ t. head_reaches t new) is)

pub heads-below :
    (old new : Tree) (f g : ℕ) (ts us : Trees) (σ : Substitution) (below : Bool)
    → old ≡ application f ts → new ≡ application g us → (f ≡ g → ⊥) → tree_size old ≡ tree_size (instance σ new) → HasVariablesOf old (instance σ new)
    → below ≡ nat_lt g f → below ≡ tree_greater old (instance σ new)
heads-below old new f g ts us σ below old_is new_is other level has is =
    let P : Tree → Tree → Type 0 = λ s t. tree_size s ≡ tree_size t → HasVariablesOf s t → nat_lt g f ≡ tree_greater s t in
    is
    ∙ subst (λ s. P s (instance σ new)) (sym old_is)
    (subst (λ n. P (application f ts) (instance σ n)) (sym new_is) (other-heads f g ts (instances σ us) other)) level has

pub arguments-below :
    (old new : Tree) (f g : ℕ) (ts us : Trees) (σ : Substitution) (below : Bool)
    → old ≡ application f ts → new ≡ application g us → f ≡ g → tree_size old ≡ tree_size (instance σ new) → HasVariablesOf old (instance σ new)
    → below ≡ trees_greater ts (instances σ us) → below ≡ tree_greater old (instance σ new)
arguments-below old new f g ts us σ below old_is new_is same level has is =
    let P : Tree → Tree → Type 0 = λ s t. tree_size s ≡ tree_size t → HasVariablesOf s t → trees_greater ts (instances σ us) ≡ tree_greater s t in
    is
    ∙ subst (λ s. P s (instance σ new)) (sym old_is)
    (subst (λ n. P (application f ts) (instance σ n)) (sym new_is) (one-head f g ts (instances σ us) same)) level has
