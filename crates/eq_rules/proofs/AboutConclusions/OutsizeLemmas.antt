-- What has fewer symbols isn't greater: sides, literals, and so what is eligible.
use Rattle.std.proofs.Common.{◌≡◌, ◌⊎◌, ℕ, zero, suc, ◌+◌, ◌<◌, ◌≤◌, ◌==◌, max, Bool, true, false, ◌&&◌, not, None, Some, List, [], ◌∷◌, length, refl, ap, ap₂, sym, ◌∙◌, subst, inl, inr, ⊎_elim, arith, eq-eqb}
use Rattle.std.specs.Prelude.{slice_get, remove}
use Rattle.std.specs.Bool.{Decides}
use Rattle.std.specs.List.{AllByRecursion, list_all}
use Rattle.std.proofs.lemmas.Bool.{true≢false, and_from, and_parts, cases_Bool, cases_lt, eqb-true, not-true, not_from_false, false_from_ne_true}
use Rattle.std.proofs.lemmas.Bool.Decides.{same_from_decides}
use Rattle.std.proofs.lemmas.Option.{get_or_from_slice_get, same_Some, slice_get_within}
use Rattle.std.proofs.lemmas.List.Folds.{list_all-map}
use Rattle.plain_types.specs.Capped.{capped}
use Rattle.fol_base.specs.Tree.{Tree, VariablesBelow, tree_eq, tree_size}
use Rattle.fol_base.specs.Instance.{Substitution, instance, substitution}
use Rattle.fol_base.specs.Canonical.{bound_of, terms_from}
use Rattle.fol_base.specs.Clause.{TreeLiteral, TreeClause, LiteralVariablesBelow, clause_variables, literal_instance}
use Rattle.fol_base.specs.Ground.{literals_instance}
use Rattle.fol_base.specs.Multiset.{times, MultisetGreater}
use Rattle.fol_base.specs.Order.{tree_greater, literal_greater, equivalent_literals, sides_multiset, LiteralGreater}
use Rattle.fol_base.specs.Selection.{eligible, is_maximal_at}
use Rattle.fol_base.specs.Sides.{side_of, other_side_of}
use Rattle.fol_base.specs.declared.clause.Side.{Side}
use Rattle.fol_base.specs.declared.clause.Side.TheVariants.{Left, Right}
use Rattle.fol_base.proofs.AboutClauses.CountLemmas.{same_multiset-from}
use Rattle.fol_base.proofs.AboutClauses.InferenceLemmas.{literal_in_instance}
use Rattle.fol_base.proofs.AboutInstances.InstanceLemmas.{instances_agree_below}
use Rattle.fol_base.proofs.AboutOrders.OrderLemmas.{equivalent_literals-decided, literal_greater_decided, tree_greater_decided}
use Rattle.fol_base.proofs.AboutTerms.TreeLemmas.{tree_eq-refl, tree_eq-true}
use Rattle.fol_base.proofs.AboutTerms.VariableLemmas.{ClauseVariablesBelow-bound}
use Rattle.kbo_order.proofs.AboutLaws.StrictOrderLemmas.{sides, trees_ordered}
use Rattle.kbo_order.proofs.AboutMultisets.MemberLemmas.{In}
use Rattle.kbo_order.proofs.AboutMultisets.MultisetLemmas.{above, times-in}
use Rattle.kbo_order.proofs.AboutReading.BitLemmas.{bit}
use Rattle.kbo_order.proofs.AboutReading.HeadLemmas.{smaller-not_greater}
use Rattle.kbo_order.proofs.AboutReading.SideLemmas.{Exceeds, beside, cases_same, copies, copies-count, count}
use Rattle.kernel_steps.specs.Inference.{other_side_not_above}
use Rattle.list_lemmas.proofs.Lists.{remove-map}
use Rattle.list_lemmas.proofs.Tests.{all-from-each}
use Rattle.unifier.proofs.AboutMatching.MatchLemmas.{listed-at}
use Rattle.eq_rules.proofs.AboutConclusions.PremiseLemmas.{clause-below}
use Rattle.eq_rules.proofs.AboutConclusions.SideLemmas.{other_side-below, side-below}
use Rattle.eq_rules.specs.Outsizing.{larger_size, Outsizes}

-- ---- terms

smaller-differs : (t u : Tree) → tree_size t < tree_size u → tree_eq t u ≡ false
smaller-differs t u less =
    false_from_ne_true (tree_eq t u) (λ e.
    let same : tree_size t ≡ tree_size u = ap (λ (w : Tree). tree_size w) (tree_eq-true t u e) in absurd (omega (arith, same, less)))

larger-differs : (t u : Tree) → tree_size u < tree_size t → tree_eq t u ≡ false
larger-differs t u less =
    false_from_ne_true (tree_eq t u) (λ e.
    let same : tree_size t ≡ tree_size u = ap (λ (w : Tree). tree_size w) (tree_eq-true t u e) in absurd (omega (arith, same, less)))

-- the other side, which is told to have fewer symbols, isn't above a side
pub larger-side :
    (σ : Substitution) (z : Side) (l : TreeLiteral) (size other : ℕ)
    → size ≡ capped (tree_size (instance σ (side_of z l))) → other ≡ capped (tree_size (instance σ (other_side_of z l)))
    → other < size → other_side_not_above σ z l ≡ true
larger-side σ z l size other size_is other_is less =
    let s : Tree = instance σ (side_of z l) in
    let t : Tree = instance σ (other_side_of z l) in
    let smaller : tree_size t < tree_size s = omega (arith, size_is, other_is, less) in
    and_from (not (tree_greater t s)) (not (tree_eq t s))
    (not_from_false (tree_greater t s) (sym (smaller-not_greater t s smaller)))
    (not_from_false (tree_eq t s) (smaller-differs t s smaller))

-- ---- literals

-- a tree with more symbols than both sides of a literal isn't among them
none-there :
    (p : Bool) (y t u : Tree) → tree_eq y t ≡ false → tree_eq y u ≡ false → times tree_eq y (sides p t u) ≡ 0
none-there true y t u h k =
    let one : bit (tree_eq y t) ≡ 0 = ap bit h in let other : bit (tree_eq y u) ≡ 0 = ap bit k in omega (arith, one, other)
none-there false y t u h k =
    let one : bit (tree_eq y t) ≡ 0 = ap bit h in let other : bit (tree_eq y u) ≡ 0 = ap bit k in omega (arith, one, other)

left-in : (p : Bool) (t u : Tree) → In t (sides p t u)
left-in true t u = inl refl
left-in false t u = inl refl

right-in : (p : Bool) (t u : Tree) → In u (sides p t u)
right-in true t u = inr (inl refl)
right-in false t u = inr (inr (inl refl))

in-sides : (p : Bool) (x t u : Tree) → In x (sides p t u) → (x ≡ t) ⊎ (x ≡ u)
in-sides true x t u h = ⊎_elim (λ e. inl e) (λ d. ⊎_elim (λ e. inr e) (λ e. absurd e) d) h
in-sides false x t u h =
    ⊎_elim (λ e. inl e) (λ d. ⊎_elim (λ e. inl e) (λ k. ⊎_elim (λ e. inr e) (λ j. ⊎_elim (λ e. inr e) (λ e. absurd e) j) k) d) h

-- sides aren't greater than others of which one has more symbols than both
not-above :
    (p q : Bool) (s t u v y : Tree) → In y (sides q u v) → tree_size s < tree_size y → tree_size t < tree_size y
    → MultisetGreater tree_eq tree_greater (sides p s t) (sides q u v) → ⊥
not-above p q s t u v y there left right greater =
    let none = none-there p y s t (larger-differs y s left) (larger-differs y t right) in
    let some : 0 < times tree_eq y (sides q u v) = times-in tree_eq tree_greater trees_ordered y y (sides q u v) there (tree_eq-refl y) in
    let found =
    above tree_eq tree_greater trees_ordered (sides p s t) (sides q u v) greater y (omega (arith, none, some)) in
    let refuted : (x : Tree) → found.0 ≡ x → tree_size x < tree_size y → ⊥ = λ x e less.
    let same : tree_size found.0 ≡ tree_size x = ap (λ (w : Tree). tree_size w) e in
    let smaller : tree_size found.0 < tree_size y = omega (arith, same, less) in
    true≢false (sym found.3 ∙ sym (smaller-not_greater found.0 y smaller)) in
    ⊎_elim (λ e. refuted s e left) (λ e. refuted t e right) (in-sides p found.0 s t found.1)

-- a literal all of whose sides have fewer symbols than one of another is neither greater than it nor equal
pub outsized :
    (σ : Substitution) (l m : TreeLiteral) → larger_size σ m < larger_size σ l → (strict : Bool)
    → (not (literal_greater (literal_instance σ m) (literal_instance σ l))
    && not (strict && equivalent_literals (literal_instance σ m) (literal_instance σ l)))
    ≡ true
outsized σ l m larger strict =
    let k : TreeLiteral = literal_instance σ l in
    let n : TreeLiteral = literal_instance σ m in
    let less : max (tree_size n.left) (tree_size n.right) < max (tree_size k.left) (tree_size k.right) = larger in
    let not_greater : literal_greater n k ≡ false =
    false_from_ne_true (literal_greater n k) (λ g.
    let greater = (literal_greater_decided n k).0 g in
    ⊎_elim
    (λ right.
    not-above n.positive k.positive n.left n.right k.left k.right k.right (right-in k.positive k.left k.right)
    (omega (arith, less, right)) (omega (arith, less, right)) greater)
    (λ left.
    not-above n.positive k.positive n.left n.right k.left k.right k.left (left-in k.positive k.left k.right)
    (omega (arith, less, left)) (omega (arith, less, left)) greater)
    (cases_lt (tree_size k.left) (tree_size k.right))) in
    let not_same : equivalent_literals n k ≡ false =
    false_from_ne_true (equivalent_literals n k) (λ e.
    let same = (equivalent_literals-decided n k).0 e in
    ⊎_elim
    (λ straight.
    let one : tree_size n.left ≡ tree_size k.left = ap (λ (w : Tree). tree_size w) straight.0 in
    let other : tree_size n.right ≡ tree_size k.right = ap (λ (w : Tree). tree_size w) straight.1 in
    absurd (omega (arith, less, one, other)))
    (λ turned.
    let one : tree_size n.left ≡ tree_size k.right = ap (λ (w : Tree). tree_size w) turned.0 in
    let other : tree_size n.right ≡ tree_size k.left = ap (λ (w : Tree). tree_size w) turned.1 in
    absurd (omega (arith, less, one, other)))
    same.1) in
    and_from (not (literal_greater n k)) (not (strict && equivalent_literals n k)) (not_from_false (literal_greater n k) not_greater)
    (neither strict (equivalent_literals n k) not_same)
  where
    neither : (a b : Bool) → b ≡ false → not (a && b) ≡ true
    neither true b e = ap not e
    neither false b e = refl

-- ---- the literals in turn

-- each of the first literals, but for two of them, has sides with fewer symbols
abbrev pub OutsizesBelow : Substitution → List TreeLiteral → ℕ → ℕ → ℕ → ℕ → Type 0
OutsizesBelow σ ls i but n size =
    (j : ℕ) (m : TreeLiteral) → j < n → slice_get ls j ≡ Some m → (j ≡ i → ⊥) → (j ≡ but → ⊥) → larger_size σ m < size

pub outsizes-more :
    (σ : Substitution) (ls : List TreeLiteral) (i but n size told : ℕ) (k : TreeLiteral) (whole : ℕ)
    → slice_get ls n ≡ Some k → told ≡ capped (larger_size σ k) → size ≡ capped whole → told < size
    → OutsizesBelow σ ls i but n size → OutsizesBelow σ ls i but (n + 1) size
outsizes-more σ ls i but n size told k whole there told_is size_is smaller h j m less at not_i not_but =
    ⊎_elim
    (λ before. h j m before at not_i not_but)
    (λ past.
    let here : n ≡ j = omega (arith, less, past) in
    let same : k ≡ m = same_Some k m (sym there ∙ ap (λ x. slice_get ls x) here ∙ at) in
    let moved : larger_size σ k ≡ larger_size σ m = ap (λ (x : TreeLiteral). larger_size σ x) same in
    omega (arith, told_is, size_is, smaller, moved))
    (cases_lt j n)

pub outsizes-past :
    (σ : Substitution) (ls : List TreeLiteral) (i but n size : ℕ)
    → (n ≡ i) ⊎ (n ≡ but) → OutsizesBelow σ ls i but n size → OutsizesBelow σ ls i but (n + 1) size
outsizes-past σ ls i but n size which h j m less at not_i not_but =
    ⊎_elim
    (λ before. h j m before at not_i not_but)
    (λ past.
    let here : j ≡ n = omega (arith, less, past) in
    absurd (⊎_elim (λ e. not_i (here ∙ e)) (λ e. not_but (here ∙ e)) which))
    (cases_lt j n)

pub outsizes-all :
    (σ : Substitution) (ls : List TreeLiteral) (i but n size : ℕ) (k : TreeLiteral)
    → length ls ≤ n → slice_get ls i ≡ Some k → size ≡ capped (larger_size σ k)
    → OutsizesBelow σ ls i but n size → Outsizes σ ls i but
outsizes-all σ ls i but n size k many there size_is h l j m l_there at not_i not_but =
    let within = slice_get_within ls j m at in
    let smaller = h j m (omega (arith, many, within)) at not_i not_but in
    let same : larger_size σ k ≡ larger_size σ l = ap (λ (x : TreeLiteral). larger_size σ x) (same_Some k l (sym there ∙ l_there)) in
    omega (arith, smaller, size_is, same)

-- ---- what is eligible

others-pass :
    {X : Type 0} (p : X → Bool) (xs : List X) (i : ℕ)
    → ((j : ℕ) (x : X) → slice_get xs j ≡ Some x → (j ≡ i → ⊥) → p x ≡ true) → list_all p (remove xs i) ≡ true
others-pass p [] zero h = refl
others-pass p [] (suc i) h = refl
others-pass p (y ∷ ys) zero h = all-from-each p ys (λ j x at. h (suc j) x at (λ e. absurd (omega (arith, e))))
others-pass p (y ∷ ys) (suc i) h =
    and_from (p y) (list_all p (remove ys i)) (h 0 y refl (λ e. absurd (omega (arith, e))))
    (others-pass p ys i (λ j x at other. h (suc j) x at (λ e. other (omega (arith, e)))))

-- each other literal of the clause is neither greater in the instance, nor equal where strictness is asked
pub eligible-by :
    (σ : Substitution) (ls : List TreeLiteral) (i : ℕ) (l : TreeLiteral) (strict : Bool) → slice_get ls i ≡ Some l
    → ((j : ℕ) (m : TreeLiteral) → slice_get ls j ≡ Some m → (j ≡ i → ⊥)
    → (not (literal_greater (literal_instance σ m) (literal_instance σ l))
    && not (strict && equivalent_literals (literal_instance σ m) (literal_instance σ l)))
    ≡ true)
    → eligible (literals_instance σ ls) i None strict ≡ true
eligible-by σ ls i l strict there each =
    let p : TreeLiteral → Bool = λ n.
    not (literal_greater n (literal_instance σ l)) && not (strict && equivalent_literals n (literal_instance σ l)) in
    ap (λ o. is_maximal_at strict o (remove (literals_instance σ ls) i)) (literal_in_instance σ ls i l there)
    ∙ ap (list_all p) (remove-map (literal_instance σ) ls i)
    ∙ list_all-map p (literal_instance σ) (remove ls i)
    ∙ others-pass (λ m. p (literal_instance σ m)) ls i each

pub outsizes-eligible :
    (σ : Substitution) (ls : List TreeLiteral) (i : ℕ) → i < length ls → Outsizes σ ls i i
    → (strict : Bool) → eligible (literals_instance σ ls) i None strict ≡ true
outsizes-eligible σ ls i within h strict =
    let found = literal-at ls i within in
    eligible-by σ ls i found.0 strict found.1 (λ j m at other. outsized σ found.0 m (h found.0 j m found.1 at other other) strict)
  where
    literal-at : (ks : List TreeLiteral) (j : ℕ) → j < length ks → (l : TreeLiteral) × (slice_get ks j ≡ Some l)
    literal-at [] j less = absurd (omega (arith, less))
    literal-at (k ∷ ks) zero less = (k, refl)
    literal-at (k ∷ ks) (suc j) less = literal-at ks j (omega (arith, less))

-- the one literal besides, which isn't told by sizes, isn't greater
pub outsizes-but-one :
    (σ : Substitution) (ls : List TreeLiteral) (i but : ℕ) (l m : TreeLiteral)
    → slice_get ls i ≡ Some l → slice_get ls but ≡ Some m → Outsizes σ ls i but
    → literal_greater (literal_instance σ m) (literal_instance σ l) ≡ false → eligible (literals_instance σ ls) i None false ≡ true
outsizes-but-one σ ls i but l m there but_there h not_greater =
    let p : TreeLiteral → Bool = λ n.
    not (literal_greater (literal_instance σ n) (literal_instance σ l))
    && not (false && equivalent_literals (literal_instance σ n) (literal_instance σ l)) in
    eligible-by σ ls i l false there (λ j n at other.
    ⊎_elim
    (λ e.
    let same : m ≡ n = same_Some m n (sym but_there ∙ ap (λ k. slice_get ls k) (sym (eqb-true j but e)) ∙ at) in
    subst (λ (x : TreeLiteral). p x ≡ true) same
    (and_from (not (literal_greater (literal_instance σ m) (literal_instance σ l))) true
    (not_from_false (literal_greater (literal_instance σ m) (literal_instance σ l)) not_greater) refl))
    (λ e. outsized σ l n (h l j n there at other (λ d. true≢false (sym (eq-eqb j but d) ∙ e))) false)
    (cases_Bool (j == but)))

-- ---- two positive literals with a side in common: the other sides decide

positive-beside :
    (xs ys : List Tree) (a b d : Tree)
    → ((z : Tree) → count z xs ≡ count z (copies true a) + count z (copies true b))
    → ((z : Tree) → count z ys ≡ count z (copies true a) + count z (copies true d))
    → Decides (tree_greater b d) (Exceeds xs ys)
positive-beside xs ys a b d lefts rights =
    ⊎_elim
    (λ e.
    let level : (z : Tree) → count z xs ≡ count z ys = λ z.
    let moved : count z (copies true b) ≡ count z (copies true d) = ap (λ (w : Tree). count z (copies true w)) e in
    omega (arith, lefts z, rights z, moved) in
    let not_greater : tree_greater b d ≡ false = ap (λ (w : Tree). tree_greater w d) e ∙ trees_ordered.is_irreflexive d in (
      (λ h. absurd (true≢false (sym h ∙ not_greater))),
      (λ (greater : Exceeds xs ys). absurd (true≢false (sym (same_multiset-from tree_eq xs ys level) ∙ greater.differ))),
    ))
    (λ differ.
    let cancelled = beside true xs ys a b d lefts rights differ in (
      (λ h. cancelled.1 ((tree_greater_decided b d).0 h)),
      (λ greater. (tree_greater_decided b d).1 (cancelled.0 greater)),
    ))
    (cases_same b d)

sides-counted :
    (z : Side) (l : TreeLiteral) → l.positive ≡ true → (y : Tree)
    → count y (sides_multiset l) ≡ count y (copies true (side_of z l)) + count y (copies true (other_side_of z l))
sides-counted Left l positive y =
    ap (λ p. count y (sides p l.left l.right)) positive ∙ copies-count true y l.left l.right
sides-counted Right l positive y =
    let straight : count y (sides_multiset l) ≡ count y (copies true l.left) + count y (copies true l.right) =
    ap (λ p. count y (sides p l.left l.right)) positive ∙ copies-count true y l.left l.right in
    omega (arith, straight)

pub beside-unified :
    (l m : TreeLiteral) (z w : Side) → l.positive ≡ true → m.positive ≡ true → side_of z l ≡ side_of w m
    → literal_greater m l ≡ tree_greater (other_side_of w m) (other_side_of z l)
beside-unified l m z w l_positive m_positive same =
    same_from_decides {P = LiteralGreater m l} (literal_greater m l) (tree_greater (other_side_of w m) (other_side_of z l))
    (literal_greater_decided m l)
    (positive-beside (sides_multiset m) (sides_multiset l) (side_of z l) (other_side_of w m) (other_side_of z l)
    (λ y.
    let moved : count y (copies true (side_of z l)) ≡ count y (copies true (side_of w m)) = ap (λ (x : Tree). count y (copies true x)) same in
    omega (arith, moved, sides-counted w m m_positive y))
    (sides-counted z l l_positive))

-- ---- what isn't eligible

each-passes :
    {X : Type 0} (p : X → Bool) (xs : List X) (i : ℕ) → list_all p (remove xs i) ≡ true
    → (j : ℕ) (x : X) → slice_get xs j ≡ Some x → (j ≡ i → ⊥) → p x ≡ true
each-passes {X} p [] i h j x at other = cc
each-passes {X} p (y ∷ ys) zero h zero x at other = absurd (other refl)
each-passes {X} p (y ∷ ys) zero h (suc j) x at other = all-each p ys h j x at
  where
    all-each : (q : X → Bool) (zs : List X) → list_all q zs ≡ true → (k : ℕ) (z : X) → slice_get zs k ≡ Some z → q z ≡ true
    all-each q [] h k z at = cc
    all-each q (w ∷ zs) h zero z at = ap q (sym (same_Some w z at)) ∙ (and_parts (q w) (list_all q zs) h).0
    all-each q (w ∷ zs) h (suc k) z at = all-each q zs (and_parts (q w) (list_all q zs) h).1 k z at
each-passes {X} p (y ∷ ys) (suc i) h zero x at other =
    ap p (sym (same_Some y x at)) ∙ (and_parts (p y) (list_all p (remove ys i)) h).0
each-passes {X} p (y ∷ ys) (suc i) h (suc j) x at other =
    each-passes p ys i (and_parts (p y) (list_all p (remove ys i)) h).1 j x at (λ e. other (omega (arith, e)))

-- a greater literal refuses another one
pub greater-refuses :
    (σ : Substitution) (ls : List TreeLiteral) (i j : ℕ) (l m : TreeLiteral)
    → slice_get ls i ≡ Some l → slice_get ls j ≡ Some m → (j ≡ i → ⊥)
    → literal_greater (literal_instance σ m) (literal_instance σ l) ≡ true → eligible (literals_instance σ ls) i None false ≡ false
greater-refuses σ ls i j l m there at other greater =
    let p : TreeLiteral → Bool = λ n.
    not (literal_greater n (literal_instance σ l)) && not (false && equivalent_literals n (literal_instance σ l)) in
    false_from_ne_true (eligible (literals_instance σ ls) i None false) (λ h.
    let all : list_all (λ m. p (literal_instance σ m)) (remove ls i) ≡ true =
    sym (ap (λ o. is_maximal_at false o (remove (literals_instance σ ls) i)) (literal_in_instance σ ls i l there)
    ∙ ap (list_all p) (remove-map (literal_instance σ) ls i)
    ∙ list_all-map p (literal_instance σ) (remove ls i))
    ∙ h in
    let passed = each-passes (λ m. p (literal_instance σ m)) ls i all j m at other in
    let not_greater = (and_parts (not (literal_greater (literal_instance σ m) (literal_instance σ l))) true passed).0 in
    true≢false (sym greater ∙ not-true (literal_greater (literal_instance σ m) (literal_instance σ l)) not_greater))

-- ---- a clause's variables

-- a literal's variables are below what bounds those of its clause
pub literal-few :
    (c : TreeClause) (n i : ℕ) (l : TreeLiteral)
    → slice_get c.literals i ≡ Some l → bound_of (clause_variables c) ≤ n → LiteralVariablesBelow n l
literal-few c n i l there few =
    subst (λ (k : TreeLiteral). LiteralVariablesBelow n k) (get_or_from_slice_get c.literals i l l there)
    (ClauseVariablesBelow-bound n c few i l (slice_get_within c.literals i l there))

-- ---- under the terms that a substitution gives for a clause's variables

pub own-instance :
    (n : ℕ) (σ : Substitution) (t : Tree) → VariablesBelow n t → instance (substitution (terms_from 0 n σ)) t ≡ instance σ t
own-instance n σ t below =
    let terms : List Tree = terms_from 0 n σ in
    instances_agree_below n (substitution terms) σ t below (λ v less. listed-at terms n v σ refl less)

abbrev literal : Bool → Tree → Tree → TreeLiteral
literal positive t u = record { positive = positive; left = t; right = u }

own-all :
    (n : ℕ) (σ : Substitution) (ls : List TreeLiteral)
    → AllByRecursion (LiteralVariablesBelow n) ls → literals_instance (substitution (terms_from 0 n σ)) ls ≡ literals_instance σ ls
own-all n σ [] h = refl
own-all n σ (l ∷ ls) h =
    ap₂ ◌∷◌
    (ap₂ (literal l.positive) (own-instance n σ l.left h.0.0) (own-instance n σ l.right h.0.1))
    (own-all n σ ls h.1)

pub own-literals :
    (c : TreeClause) (σ : Substitution)
    → literals_instance (substitution (terms_from 0 (bound_of (clause_variables c)) σ)) c.literals ≡ literals_instance σ c.literals
own-literals c σ = own-all (bound_of (clause_variables c)) σ c.literals (clause-below c)

pub own-not-above :
    (n : ℕ) (σ : Substitution) (z : Side) (l : TreeLiteral) → LiteralVariablesBelow n l
    → other_side_not_above (substitution (terms_from 0 n σ)) z l ≡ other_side_not_above σ z l
own-not-above n σ z l below =
    ap₂ (λ (t u : Tree). not (tree_greater t u) && not (tree_eq t u))
    (own-instance n σ (other_side_of z l) (other_side-below n z l below))
    (own-instance n σ (side_of z l) (side-below n z l below))
