-- Which of two literals is greater, by the comparisons of their sides.
use mathlib.Core.Bool.{beq}
use Rattle.std.proofs.Common.{◌≡◌, ℕ, ◌+◌, ◌*◌, ◌<◌, ◌≤◌, ◌⊎◌, Bool, true, false, ◌&&◌, ◌||◌, List, [], ◌∷◌, if◌then◌else◌, refl, ap, sym, ◌∙◌, subst, inl, inr, ⊎_elim, arith}
use Rattle.std.specs.Bool.{Decides}
use Rattle.std.proofs.lemmas.Bool.{cases_Bool, cases_lt, false_from_ne_true, true≢false}
use Rattle.std.proofs.lemmas.Bool.Decides.{same_from_decides}
use Rattle.fol_base.specs.Tree.{Tree, tree_eq}
use Rattle.fol_base.specs.Clause.{TreeLiteral}
use Rattle.fol_base.specs.Multiset.{times, same_multiset, Outdoing, MultisetGreater}
use Rattle.fol_base.specs.Order.{tree_greater, TreeGreater, equivalent_literals, literal_greater, LiteralGreater}
use Rattle.fol_base.proofs.AboutClauses.CountLemmas.{same_multiset-counts, same_multiset-from}
use Rattle.fol_base.proofs.AboutOrders.OrderLemmas.{tree_equality_decided, tree_greater_decided, trees_equivalence, equivalent_literals-decided, literal_greater_decided}
use Rattle.kbo_order.specs.declared.cmp.Cmp.{Cmp}
use Rattle.kbo_order.specs.declared.sides.SidePairs.{SidePairs}
use Rattle.kbo_order.specs.Cmp.{comparison_of, is_greater, is_equal, reversed}
use Rattle.kbo_order.specs.Block.{Answers}
use Rattle.kbo_order.specs.Sides.{ComparesSides, all_below, all_reached, exceeds_beside_equals, sides_exceed, sides_same}
use Rattle.kbo_order.proofs.AboutReading.BitLemmas.{bit, bit-most}
use Rattle.kbo_order.proofs.AboutMultisets.MemberLemmas.{In}
use Rattle.kbo_order.proofs.AboutMultisets.MultisetLemmas.{Over, above, make, listed, outdoing, dominating-greater, level-right}
use Rattle.kbo_order.proofs.AboutReading.FurtherLemmas.{greater-true}
use Rattle.kbo_order.proofs.AboutLaws.StrictOrderLemmas.{sides, sides-swapped, trees_ordered}
use Rattle.kbo_order.proofs.AboutReading.AnswerLemmas.{and-decides, or-decides, choice-decides, Decides-same, compared-answer, compared-reversed, greater-decides, equal-decides}

abbrev pub Exceeds : List Tree → List Tree → Type 0
Exceeds xs ys = MultisetGreater tree_eq tree_greater xs ys

abbrev pub count : Tree → List Tree → ℕ
count z xs = times tree_eq z xs

-- ---- counts of sides

abbrev hit : Tree → Tree → ℕ
hit z t = bit (tree_eq z t)

hit-same : (z t : Tree) → z ≡ t → hit z t ≡ 1
hit-same z t e = ap bit ((tree_equality_decided z t).1 e)

hit-differ : (z t : Tree) → (z ≡ t → ⊥) → hit z t ≡ 0
hit-differ z t differ = ap bit (false_from_ne_true (tree_eq z t) (λ e. differ ((tree_equality_decided z t).0 e)))

hit-some : (z t : Tree) → 0 < hit z t → z ≡ t
hit-some z t h =
    ⊎_elim
    (λ e. (tree_equality_decided z t).0 e)
    (λ e. let none : hit z t ≡ 0 = ap bit e in absurd (omega arith))
    (cases_Bool (tree_eq z t))

pub cases_same : (z t : Tree) → (z ≡ t) ⊎ (z ≡ t → ⊥)
cases_same z t =
    ⊎_elim
    (λ e. inl ((tree_equality_decided z t).0 e))
    (λ e. inr (λ d. true≢false (sym ((tree_equality_decided z t).1 d) ∙ e)))
    (cases_Bool (tree_eq z t))

once : (z t u : Tree) → count z (sides true t u) ≡ hit z t + hit z u
once z t u = omega arith

twice : (z t u : Tree) → count z (sides false t u) ≡ 2 * hit z t + 2 * hit z u
twice z t u = omega arith

-- a side as often as its literal's sign has it
abbrev pub copies : Bool → Tree → List Tree
copies positive t = if positive then (t ∷ []) else (t ∷ t ∷ [])

pub copies-count : (p : Bool) (z t u : Tree) → count z (sides p t u) ≡ count z (copies p t) + count z (copies p u)
copies-count true z t u = omega arith
copies-count false z t u = omega arith

copies-own : (p : Bool) (z t : Tree) → z ≡ t → 0 < count z (copies p t)
copies-own true z t e = omega (arith, hit-same z t e)
copies-own false z t e = omega (arith, hit-same z t e)

copies-none : (p : Bool) (z t : Tree) → (z ≡ t → ⊥) → count z (copies p t) ≡ 0
copies-none true z t e = omega (arith, hit-differ z t e)
copies-none false z t e = omega (arith, hit-differ z t e)

copies-some : (p : Bool) (z t : Tree) → 0 < count z (copies p t) → z ≡ t
copies-some p z t h = ⊎_elim (λ e. e) (λ differ. absurd (omega (arith, copies-none p z t differ))) (cases_same z t)

In-copies : (p : Bool) (x t : Tree) → In x (copies p t) → x ≡ t
In-copies true x t h = ⊎_elim (λ e. e) (λ e. absurd e) h
In-copies false x t h = ⊎_elim (λ e. e) (λ d. ⊎_elim (λ e. e) (λ e. absurd e) d) h

copies-In : (p : Bool) (t : Tree) → In t (copies p t)
copies-In true t = inl refl
copies-In false t = inl refl

In-sides : (p : Bool) (x t u : Tree) → In x (sides p t u) → (x ≡ t) ⊎ (x ≡ u)
In-sides true x t u h = ⊎_elim (λ e. inl e) (λ d. ⊎_elim (λ e. inr e) (λ e. absurd e) d) h
In-sides false x t u h =
    ⊎_elim (λ e. inl e) (λ d. ⊎_elim (λ e. inl e) (λ k. ⊎_elim (λ e. inr e) (λ j. ⊎_elim (λ e. inr e) (λ e. absurd e) j) k) d) h

left-In : (p : Bool) (t u : Tree) → In t (sides p t u)
left-In true t u = inl refl
left-In false t u = inl refl

right-In : (p : Bool) (t u : Tree) → In u (sides p t u)
right-In true t u = inr (inl refl)
right-In false t u = inr (inr (inl refl))

-- the order of the sides doesn't count
turned : (p : Bool) (u v : Tree) (xs : List Tree) → Exceeds xs (sides p u v) → Exceeds xs (sides p v u)
turned p u v xs greater =
    level-right tree_eq tree_greater trees_ordered (sides p u v) (sides p v u) xs
    (same_multiset-from tree_eq (sides p u v) (sides p v u) (sides-swapped p u v)) greater

-- ---- above a side

pub greater_is : (s t : Tree) → tree_greater s t ≡ true → TreeGreater s t
greater_is s t h = (tree_greater_decided s t).0 h

abbrev Above : Tree → Tree → Tree → Type 0
Above s t z = TreeGreater s z ⊎ TreeGreater t z

sides-above : (p : Bool) (s t : Tree) (ys : List Tree) (z : Tree) → Exceeds (sides p s t) ys → Over tree_eq ys (sides p s t) z → Above s t z
sides-above p s t ys z greater over =
    let found = above tree_eq tree_greater trees_ordered (sides p s t) ys greater z over in
    ⊎_elim
    (λ e. inl (greater_is s z (ap (λ (x : Tree). tree_greater x z) (sym e) ∙ found.3)))
    (λ e. inr (greater_is t z (ap (λ (x : Tree). tree_greater x z) (sym e) ∙ found.3)))
    (In-sides p found.0 s t found.1)

-- ---- each side below

pub AllBelow-greater : (p q : Bool) (s t u v : Tree) → Above s t u × Above s t v → Exceeds (sides p s t) (sides q u v)
AllBelow-greater p q s t u v h =
    let one : (y z : Tree) → y ≡ z → Above s t z → (x : Tree) × In x (sides p s t) × (tree_greater x y ≡ true) = λ y z e k.
    ⊎_elim
    (λ g. (s, left-In p s t, ap (tree_greater s) e ∙ greater-true s z g))
    (λ g. (t, right-In p s t, ap (tree_greater t) e ∙ greater-true t z g))
    k in
    let none : Tree → ℕ = λ z. count z [] in
    dominating-greater tree_eq tree_greater trees_ordered (sides p s t) (sides q u v) [] (sides p s t) (sides q u v)
    (λ z. let e : none z ≡ 0 = refl in omega arith)
    (λ z. let e : none z ≡ 0 = refl in omega arith)
    s (left-In p s t)
    (λ y there. ⊎_elim (λ e. one y u e h.0) (λ e. one y v e h.1) (In-sides q y u v there))

-- a positive literal over a negative one

below-one : (s t u v : Tree) → Exceeds (sides true s t) (sides false u v) → Above s t u
below-one s t u v greater =
    ⊎_elim
    (λ over. sides-above true s t (sides false u v) u greater over)
    (λ enough.
    let own : hit u u ≡ 1 = hit-same u u refl in
    let here : count u (sides false u v) ≤ count u (sides true s t) = enough in
    let bounds : (hit u s ≤ 1) × (hit u t ≤ 1) = (bit-most (tree_eq u s), bit-most (tree_eq u t)) in
    let us : u ≡ s = hit-some u s (omega (arith, once u s t, twice u u v, bounds.0, bounds.1)) in
    let ut : u ≡ t = hit-some u t (omega (arith, once u s t, twice u u v, bounds.0, bounds.1)) in
    let apart : v ≡ u → ⊥ = λ e. absurd (omega (arith, once u s t, twice u u v, bounds.0, bounds.1, hit-same u v (sym e))) in
    let missing : count v (sides true s t) ≡ 0 =
    omega (arith, once v s t, hit-differ v s (λ e. apart (e ∙ sym us)), hit-differ v t (λ e. apart (e ∙ sym ut))) in
    let found =
    above tree_eq tree_greater trees_ordered (sides true s t) (sides false u v) greater v
    (omega (arith, missing, twice v u v, hit-same v v refl)) in
    let at_u : count u (sides false u v) < count u (sides true s t) =
    ⊎_elim
    (λ e. subst (λ (x : Tree). Over tree_eq (sides true s t) (sides false u v) x) (e ∙ sym us) found.2)
    (λ e. subst (λ (x : Tree). Over tree_eq (sides true s t) (sides false u v) x) (e ∙ sym ut) found.2)
    (In-sides true found.0 s t found.1) in
    absurd (omega (arith, once u s t, twice u u v, bounds.0, bounds.1, own)))
    (cases_lt (count u (sides true s t)) (count u (sides false u v)))

-- ---- each side below or equal

abbrev Reached : Tree → Tree → Tree → Type 0
Reached s t z = (TreeGreater s z ⊎ (s ≡ z)) ⊎ (TreeGreater t z ⊎ (t ≡ z))

-- a negative literal over a positive one
reached-one : (s t u v : Tree) → Exceeds (sides false s t) (sides true u v) → Reached s t u
reached-one s t u v greater =
    ⊎_elim
    (λ e. inl (inr (sym e)))
    (λ not_s.
    ⊎_elim
    (λ e. inr (inr (sym e)))
    (λ not_t.
    ⊎_elim
    (λ g. inl (inl g))
    (λ g. inr (inl g))
    (sides-above false s t (sides true u v) u greater
    (omega (arith, twice u s t, once u u v, hit-same u u refl, hit-differ u s not_s, hit-differ u t not_t))))
    (cases_same u t))
    (cases_same u s)

pub greater-differ : (s t : Tree) → TreeGreater s t → s ≡ t → ⊥
greater-differ s t g e =
    true≢false (sym (greater-true s t g) ∙ ap (λ (x : Tree). tree_greater x t) e ∙ trees_ordered.is_irreflexive t)

-- a side that is met by another one isn't missing, and one that is passed is outdone
reached-outdone :
    (s t u v z : Tree) → (z ≡ u) ⊎ (z ≡ v) → Reached s t z → Over tree_eq (sides true u v) (sides false s t) z
    → Outdoing tree_eq tree_greater (sides false s t) (sides true u v) z
reached-outdone s t u v z is_side reached over =
    let bounds : (hit z u ≤ 1) × (hit z v ≤ 1) = (bit-most (tree_eq z u), bit-most (tree_eq z v)) in
    let passed : (x : Tree) → (x ≡ s) ⊎ (x ≡ t) → TreeGreater x z → Outdoing tree_eq tree_greater (sides false s t) (sides true u v) z = λ x own g.
    let some : 1 ≤ hit x s + hit x t =
    ⊎_elim (λ e. omega (arith, hit-same x s e)) (λ e. omega (arith, hit-same x t e)) own in
    let few : hit x u + hit x v ≤ 1 =
    ⊎_elim
    (λ e. omega (arith, hit-differ x u (λ d. greater-differ x z g (d ∙ sym e)), bit-most (tree_eq x v)))
    (λ e. omega (arith, hit-differ x v (λ d. greater-differ x z g (d ∙ sym e)), bit-most (tree_eq x u)))
    is_side in
    outdoing tree_eq tree_greater trees_ordered (sides false s t) (sides true u v) z x
    (omega (arith, twice x s t, once x u v, some, few))
    (greater-true x z g) in
    ⊎_elim
    (λ a.
    ⊎_elim
    (λ g. passed s (inl refl) g)
    (λ e. absurd (omega (arith, over, twice z s t, once z u v, hit-same z s (sym e), bounds.0, bounds.1)))
    a)
    (λ a.
    ⊎_elim
    (λ g. passed t (inr refl) g)
    (λ e. absurd (omega (arith, over, twice z s t, once z u v, hit-same z t (sym e), bounds.0, bounds.1)))
    a)
    reached

-- two of each on one side are never one of each on the other
never_same : (s t u v : Tree) → same_multiset tree_eq (sides false s t) (sides true u v) ≡ true → ⊥
never_same s t u v e =
    let counts : (z : Tree) → count z (sides false s t) ≡ count z (sides true u v) = same_multiset-counts tree_eq trees_equivalence (sides false s t) (sides true u v) e in
    let bounds : (z : Tree) → (hit z u ≤ 1) × (hit z v ≤ 1) = λ z. (bit-most (tree_eq z u), bit-most (tree_eq z v)) in
    let at_s : (s ≡ u) × (s ≡ v) = (
      hit-some s u (omega (arith, counts s, twice s s t, once s u v, hit-same s s refl, (bounds s).0, (bounds s).1)),
      hit-some s v (omega (arith, counts s, twice s s t, once s u v, hit-same s s refl, (bounds s).0, (bounds s).1)),
    ) in
    let at_t : t ≡ u = hit-some t u (omega (arith, counts t, twice t s t, once t u v, hit-same t t refl, (bounds t).0, (bounds t).1)) in
    absurd (omega (
      arith,
      counts s,
      twice s s t,
      once s u v,
      hit-same s s refl,
      hit-same s t (at_s.0 ∙ sym at_t),
      (bounds s).0,
      (bounds s).1,
    ))

reached-greater : (s t u v : Tree) → Reached s t u × Reached s t v → Exceeds (sides false s t) (sides true u v)
reached-greater s t u v h =
    make tree_eq tree_greater trees_ordered (sides false s t) (sides true u v) (never_same s t u v)
    (λ z over.
    let found = listed tree_eq tree_greater trees_ordered (sides true u v) (sides false s t) z over in
    let same : z ≡ found.0 = (tree_equality_decided z found.0).0 found.2 in
    ⊎_elim
    (λ e. reached-outdone s t u v z (inl (same ∙ e)) (subst (λ (x : Tree). Reached s t x) (sym (same ∙ e)) h.0) over)
    (λ e. reached-outdone s t u v z (inr (same ∙ e)) (subst (λ (x : Tree). Reached s t x) (sym (same ∙ e)) h.1) over)
    (In-sides true found.0 u v found.1))

-- ---- one sign

-- what two multisets have in common cancels out
pub beside :
    (p : Bool) (xs ys : List Tree) (a b d : Tree)
    → ((z : Tree) → count z xs ≡ count z (copies p a) + count z (copies p b))
    → ((z : Tree) → count z ys ≡ count z (copies p a) + count z (copies p d))
    → (b ≡ d → ⊥) → (Exceeds xs ys → TreeGreater b d) × (TreeGreater b d → Exceeds xs ys)
beside p xs ys a b d lefts rights differ = (
  λ greater.
      let found =
      above tree_eq tree_greater trees_ordered xs ys greater d
      (omega (arith, lefts d, rights d, copies-own p d d refl, copies-none p d b (λ e. differ (sym e)))) in
      let more : count found.0 ys < count found.0 xs = found.2 in
      let is_b : found.0 ≡ b = copies-some p found.0 b (omega (arith, lefts found.0, rights found.0)) in
      greater_is b d (ap (λ (x : Tree). tree_greater x d) (sym is_b) ∙ found.3),
  λ g.
      dominating-greater tree_eq tree_greater trees_ordered xs ys (copies p a) (copies p b) (copies p d) lefts rights b (copies-In p b)
      (λ y there. (b, copies-In p b, ap (tree_greater b) (In-copies p y d there) ∙ greater-true b d g)),
)

missing-side : (p : Bool) (z s t : Tree) → (z ≡ s → ⊥) → (z ≡ t → ⊥) → count z (sides p s t) ≡ 0
missing-side p z s t h k = omega (arith, copies-count p z s t, copies-none p z s h, copies-none p z t k)

none-equal :
    (p : Bool) (s t u v : Tree) → (s ≡ u → ⊥) → (s ≡ v → ⊥) → (t ≡ u → ⊥) → (t ≡ v → ⊥)
    → Exceeds (sides p s t) (sides p u v) → Above s t u × Above s t v
none-equal p s t u v su sv tu tv greater = (
  sides-above p s t (sides p u v) u greater
      (omega (arith, missing-side p u s t (λ e. su (sym e)) (λ e. tu (sym e)), copies-count p u u v, copies-own p u u refl)),
  sides-above p s t (sides p u v) v greater
      (omega (arith, missing-side p v s t (λ e. sv (sym e)) (λ e. tv (sym e)), copies-count p v u v, copies-own p v v refl)),
)

-- ---- the formula by sign

-- the four answers
record Answered (pairs : SidePairs) (s t u v : Tree) : Type 0 where
  left_left : Answers TreeGreater pairs.left_left s u
  left_right : Answers TreeGreater pairs.left_right s v
  right_left : Answers TreeGreater pairs.right_left t u
  right_right : Answers TreeGreater pairs.right_right t v

all_below-decides : (pairs : SidePairs) (s t u v : Tree) → Answered pairs s t u v → Decides (all_below pairs) (Above s t u × Above s t v)
all_below-decides pairs s t u v h =
    and-decides (is_greater pairs.left_left || is_greater pairs.right_left) (is_greater pairs.left_right || is_greater pairs.right_right)
    (Above s t u) (Above s t v)
    (or-decides (is_greater pairs.left_left) (is_greater pairs.right_left) (TreeGreater s u) (TreeGreater t u)
    (greater-decides pairs.left_left s u h.left_left) (greater-decides pairs.right_left t u h.right_left))
    (or-decides (is_greater pairs.left_right) (is_greater pairs.right_right) (TreeGreater s v) (TreeGreater t v)
    (greater-decides pairs.left_right s v h.left_right) (greater-decides pairs.right_right t v h.right_right))

reach-decides :
    (c d : Cmp) (s t z : Tree) → Answers TreeGreater c s z → Answers TreeGreater d t z
    → Decides ((is_greater c || is_equal c) || (is_greater d || is_equal d)) (Reached s t z)
reach-decides c d s t z h k =
    or-decides (is_greater c || is_equal c) (is_greater d || is_equal d) (TreeGreater s z ⊎ (s ≡ z)) (TreeGreater t z ⊎ (t ≡ z))
    (or-decides (is_greater c) (is_equal c) (TreeGreater s z) (s ≡ z) (greater-decides c s z h) (equal-decides c s z h))
    (or-decides (is_greater d) (is_equal d) (TreeGreater t z) (t ≡ z) (greater-decides d t z k) (equal-decides d t z k))

positive_over-decides :
    (pairs : SidePairs) (s t u v : Tree) → Answered pairs s t u v → Decides (all_below pairs) (Exceeds (sides true s t) (sides false u v))
positive_over-decides pairs s t u v h =
    Decides-same (all_below pairs) (Above s t u × Above s t v) (Exceeds (sides true s t) (sides false u v))
    (AllBelow-greater true false s t u v)
    (λ greater. (below-one s t u v greater, below-one s t v u (turned false u v (sides true s t) greater)))
    (all_below-decides pairs s t u v h)

negative_over-decides :
    (pairs : SidePairs) (s t u v : Tree) → Answered pairs s t u v → Decides (all_reached pairs) (Exceeds (sides false s t) (sides true u v))
negative_over-decides pairs s t u v h =
    Decides-same (all_reached pairs) (Reached s t u × Reached s t v) (Exceeds (sides false s t) (sides true u v))
    (reached-greater s t u v)
    (λ greater. (reached-one s t u v greater, reached-one s t v u (turned true u v (sides false s t) greater)))
    (and-decides
    ((is_greater pairs.left_left || is_equal pairs.left_left) || (is_greater pairs.right_left || is_equal pairs.right_left))
    ((is_greater pairs.left_right || is_equal pairs.left_right) || (is_greater pairs.right_right || is_equal pairs.right_right))
    (Reached s t u) (Reached s t v)
    (reach-decides pairs.left_left pairs.right_left s t u h.left_left h.right_left)
    (reach-decides pairs.left_right pairs.right_right s t v h.left_right h.right_right))

same_sign-decides :
    (p : Bool) (pairs : SidePairs) (s t u v : Tree) → Answered pairs s t u v → (((s ≡ u) × (t ≡ v)) ⊎ ((s ≡ v) × (t ≡ u)) → ⊥)
    → Decides (exceeds_beside_equals pairs) (Exceeds (sides p s t) (sides p u v))
same_sign-decides p pairs s t u v h differ =
    let xs = sides p s t in
    let ys = sides p u v in
    let P : Type 0 = Exceeds (sides p s t) (sides p u v) in
    let lefts : (z : Tree) → count z (sides p s t) ≡ count z (copies p s) + count z (copies p t) = λ z. copies-count p z s t in
    let lefts_turned : (z : Tree) → count z (sides p s t) ≡ count z (copies p t) + count z (copies p s) = λ z. omega (arith, copies-count p z s t) in
    let swap : (z x y : Tree) → x ≡ y → count z (copies p x) ≡ count z (copies p y) = λ z x y e. ap (λ (w : Tree). count z (copies p w)) e in
    let none : (c : Cmp) (x y : Tree) → Answers TreeGreater c x y → is_equal c ≡ false → x ≡ y → ⊥ = λ c x y a e d.
    true≢false (sym ((equal-decides c x y a).1 d) ∙ e) in
    choice-decides (is_equal pairs.left_left) (is_greater pairs.right_right) _ P
    (λ e.
    let same : s ≡ u = (equal-decides pairs.left_left s u h.left_left).0 e in
    let cancelled = beside p xs ys s t v lefts (λ z. omega (arith, copies-count p z u v, swap z s u same)) (λ d. differ (inl (same, d))) in
    Decides-same (is_greater pairs.right_right) (TreeGreater t v) P cancelled.1 cancelled.0 (greater-decides pairs.right_right t v h.right_right))
    (λ su.
    choice-decides (is_equal pairs.left_right) (is_greater pairs.right_left) _ P
    (λ e.
    let same : s ≡ v = (equal-decides pairs.left_right s v h.left_right).0 e in
    let cancelled = beside p xs ys s t u lefts (λ z. omega (arith, copies-count p z u v, swap z s v same)) (λ d. differ (inr (same, d))) in
    Decides-same (is_greater pairs.right_left) (TreeGreater t u) P cancelled.1 cancelled.0 (greater-decides pairs.right_left t u h.right_left))
    (λ sv.
    choice-decides (is_equal pairs.right_left) (is_greater pairs.left_right) _ P
    (λ e.
    let same : t ≡ u = (equal-decides pairs.right_left t u h.right_left).0 e in
    let cancelled = beside p xs ys t s v lefts_turned (λ z. omega (arith, copies-count p z u v, swap z t u same)) (λ d. differ (inr (d, same))) in
    Decides-same (is_greater pairs.left_right) (TreeGreater s v) P cancelled.1 cancelled.0 (greater-decides pairs.left_right s v h.left_right))
    (λ tu.
    choice-decides (is_equal pairs.right_right) (is_greater pairs.left_left) (all_below pairs) P
    (λ e.
    let same : t ≡ v = (equal-decides pairs.right_right t v h.right_right).0 e in
    let cancelled = beside p xs ys t s u lefts_turned (λ z. omega (arith, copies-count p z u v, swap z t v same)) (λ d. differ (inl (d, same))) in
    Decides-same (is_greater pairs.left_left) (TreeGreater s u) P cancelled.1 cancelled.0 (greater-decides pairs.left_left s u h.left_left))
    (λ tv.
    Decides-same (all_below pairs) (Above s t u × Above s t v) P (AllBelow-greater p p s t u v)
    (none-equal p s t u v
    (none pairs.left_left s u h.left_left su) (none pairs.left_right s v h.left_right sv)
    (none pairs.right_left t u h.right_left tu) (none pairs.right_right t v h.right_right tv))
    (all_below-decides pairs s t u v h)))))

exceed-decides :
    (p q : Bool) (pairs : SidePairs) (s t u v : Tree) → Answered pairs s t u v
    → ((p ≡ q) × (((s ≡ u) × (t ≡ v)) ⊎ ((s ≡ v) × (t ≡ u))) → ⊥)
    → Decides (sides_exceed p q pairs) (Exceeds (sides p s t) (sides q u v))
exceed-decides true true pairs s t u v h differ = same_sign-decides true pairs s t u v h (λ e. differ (refl, e))
exceed-decides true false pairs s t u v h differ = positive_over-decides pairs s t u v h
exceed-decides false true pairs s t u v h differ = negative_over-decides pairs s t u v h
exceed-decides false false pairs s t u v h differ = same_sign-decides false pairs s t u v h (λ e. differ (refl, e))

answered : (pairs : SidePairs) (l m : TreeLiteral) → ComparesSides pairs l m → Answered pairs l.left l.right m.left m.right
answered pairs l m h = record {
  left_left = compared-answer pairs.left_left l.left m.left h.left_left;
  left_right = compared-answer pairs.left_right l.left m.right h.left_right;
  right_left = compared-answer pairs.right_left l.right m.left h.right_left;
  right_right = compared-answer pairs.right_right l.right m.right h.right_right;
}

-- ---- the two tests of a comparison of literals

pub exceed-is :
    (pairs : SidePairs) (l m : TreeLiteral) → ComparesSides pairs l m → equivalent_literals l m ≡ false
    → sides_exceed l.positive m.positive pairs ≡ literal_greater l m
exceed-is pairs l m h apart =
    same_from_decides {P = LiteralGreater l m} (sides_exceed l.positive m.positive pairs) (literal_greater l m)
    (exceed-decides l.positive m.positive pairs l.left l.right m.left m.right (answered pairs l m h)
    (λ same. true≢false (sym ((equivalent_literals-decided l m).1 same) ∙ apart)))
    (literal_greater_decided l m)

pub equivalent-is :
    (pairs : SidePairs) (l m : TreeLiteral) → ComparesSides pairs l m → (beq l.positive m.positive && sides_same pairs) ≡ equivalent_literals l m
equivalent-is pairs l m h =
    let four = answered pairs l m h in
    let test : (c : Cmp) (s t : Tree) → Answers TreeGreater c s t → is_equal c ≡ tree_eq s t = λ c s t a.
    same_from_decides {P = s ≡ t} (is_equal c) (tree_eq s t) (equal-decides c s t a) (tree_equality_decided s t) in
    let signs : Bool = beq l.positive m.positive in
    ap (λ (b : Bool). signs && ((b && is_equal pairs.right_right) || (is_equal pairs.left_right && is_equal pairs.right_left)))
    (test pairs.left_left l.left m.left four.left_left)
    ∙ ap (λ (b : Bool). signs && ((tree_eq l.left m.left && b) || (is_equal pairs.left_right && is_equal pairs.right_left)))
    (test pairs.right_right l.right m.right four.right_right)
    ∙ ap (λ (b : Bool). signs && ((tree_eq l.left m.left && tree_eq l.right m.right) || (b && is_equal pairs.right_left)))
    (test pairs.left_right l.left m.right four.left_right)
    ∙ ap (λ (b : Bool). signs && ((tree_eq l.left m.left && tree_eq l.right m.right) || (tree_eq l.left m.right && b)))
    (test pairs.right_left l.right m.left four.right_left)

-- the other way round
pub compares-reversed :
    (pairs back : SidePairs) (l m : TreeLiteral) → ComparesSides pairs l m
    → back.left_left ≡ reversed pairs.left_left → back.left_right ≡ reversed pairs.right_left
    → back.right_left ≡ reversed pairs.left_right → back.right_right ≡ reversed pairs.right_right
    → ComparesSides back m l
compares-reversed pairs back l m h ll lr rl rr = record {
  left_left = ap comparison_of ll ∙ compared-reversed pairs.left_left l.left m.left h.left_left;
  left_right = ap comparison_of lr ∙ compared-reversed pairs.right_left l.right m.left h.right_left;
  right_left = ap comparison_of rl ∙ compared-reversed pairs.left_right l.left m.right h.left_right;
  right_right = ap comparison_of rr ∙ compared-reversed pairs.right_right l.right m.right h.right_right;
}
