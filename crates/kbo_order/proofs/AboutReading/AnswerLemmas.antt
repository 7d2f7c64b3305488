-- What the answer of a comparison of terms says.
use Rattle.std.proofs.Common.{◌≡◌, ◌⊎◌, Bool, true, false, ◌&&◌, ◌||◌, if◌then◌else◌, refl, sym, ◌∙◌, subst, inl, inr, ⊎_elim}
use Rattle.std.specs.Bool.{Decides}
use Rattle.std.proofs.lemmas.Bool.{cases_Bool, true≢false, and_parts, and_from, or_cases, or_left, or_right}
use Rattle.fol_base.specs.Tree.{Tree, tree_eq}
use Rattle.fol_base.specs.Order.{tree_greater, compare_trees, TreeGreater}
use Rattle.fol_base.proofs.AboutOrders.OrderLemmas.{tree_equality_decided, tree_greater_decided}
use Rattle.kbo_order.specs.declared.cmp.Cmp.{Cmp}
use Rattle.kbo_order.specs.declared.cmp.Cmp.TheVariants.{Greater, Less, Equal, Unordered}
use Rattle.kbo_order.specs.Cmp.{comparison_of, is_greater, is_equal, reversed}
use Rattle.kbo_order.specs.Block.{Answers}
use Rattle.kbo_order.proofs.AboutReading.FurtherLemmas.{answer-compared, tree-itself, tree-both}

-- ---- tests and what they decide

pub and-decides : (a b : Bool) (P Q : Type 0) → Decides a P → Decides b Q → Decides (a && b) (P × Q)
and-decides a b P Q h k = (
  λ e. let parts = and_parts a b e in (h.0 parts.0, k.0 parts.1),
  λ e. and_from a b (h.1 e.0) (k.1 e.1),
)

pub or-decides : (a b : Bool) (P Q : Type 0) → Decides a P → Decides b Q → Decides (a || b) (P ⊎ Q)
or-decides a b P Q h k = (
  λ e. ⊎_elim (λ x. inl (h.0 x)) (λ x. inr (k.0 x)) (or_cases a b e),
  λ e. ⊎_elim (λ x. or_left a b (h.1 x)) (λ x. or_right a b (k.1 x)) e,
)

pub choice-decides :
    (b x y : Bool) (P : Type 0) → (b ≡ true → Decides x P) → (b ≡ false → Decides y P) → Decides (if b then x else y) P
choice-decides true x y P h k = h refl
choice-decides false x y P h k = k refl

pub Decides-same : (a : Bool) (P Q : Type 0) → (P → Q) → (Q → P) → Decides a P → Decides a Q
Decides-same a P Q h k d = (λ e. h (d.0 e), λ q. d.1 (k q))

-- ---- answers

some-answer : (s t : Tree) → (c : Cmp) × Answers TreeGreater c s t
some-answer s t =
    ⊎_elim
    (λ e. (Equal, (tree_equality_decided s t).0 e))
    (λ differ.
    ⊎_elim
    (λ e. (Greater, (tree_greater_decided s t).0 e))
    (λ not_above.
    ⊎_elim
    (λ e. (Less, (tree_greater_decided t s).0 e))
    (λ not_below. (
      Unordered,
      (
        λ e. true≢false (sym ((tree_equality_decided s t).1 e) ∙ differ),
        λ g. true≢false (sym ((tree_greater_decided s t).1 g) ∙ not_above),
        λ g. true≢false (sym ((tree_greater_decided t s).1 g) ∙ not_below),
      ),
    ))
    (cases_Bool (tree_greater t s)))
    (cases_Bool (tree_greater s t)))
    (cases_Bool (tree_eq s t))

same-answer : (c d : Cmp) → comparison_of c ≡ comparison_of d → c ≡ d
same-answer Greater Greater e = refl
same-answer Greater Less e = absurd (cc)
same-answer Greater Equal e = absurd (cc)
same-answer Greater Unordered e = absurd (cc)
same-answer Less Greater e = absurd (cc)
same-answer Less Less e = refl
same-answer Less Equal e = absurd (cc)
same-answer Less Unordered e = absurd (cc)
same-answer Equal Greater e = absurd (cc)
same-answer Equal Less e = absurd (cc)
same-answer Equal Equal e = refl
same-answer Equal Unordered e = absurd (cc)
same-answer Unordered Greater e = absurd (cc)
same-answer Unordered Less e = absurd (cc)
same-answer Unordered Equal e = absurd (cc)
same-answer Unordered Unordered e = refl

pub compared-answer : (c : Cmp) (s t : Tree) → comparison_of c ≡ compare_trees s t → Answers TreeGreater c s t
compared-answer c s t e =
    let right = some-answer s t in
    subst (λ (d : Cmp). Answers TreeGreater d s t) (sym (same-answer c right.0 (e ∙ sym (answer-compared right.0 s t right.1)))) right.1

pub greater-decides : (c : Cmp) (s t : Tree) → Answers TreeGreater c s t → Decides (is_greater c) (TreeGreater s t)
greater-decides Greater s t h = (λ e. h, λ g. refl)
greater-decides Less s t h = (λ e. absurd (true≢false (sym e)), λ g. absurd (tree-both s t g h))
greater-decides Equal s t h = (λ e. absurd (true≢false (sym e)), λ g. absurd (tree-itself t (subst (λ (x : Tree). TreeGreater x t) h g)))
greater-decides Unordered s t h = (λ e. absurd (true≢false (sym e)), λ g. absurd (h.1 g))

pub equal-decides : (c : Cmp) (s t : Tree) → Answers TreeGreater c s t → Decides (is_equal c) (s ≡ t)
equal-decides Greater s t h = (λ e. absurd (true≢false (sym e)), λ d. absurd (tree-itself t (subst (λ (x : Tree). TreeGreater x t) d h)))
equal-decides Less s t h = (λ e. absurd (true≢false (sym e)), λ d. absurd (tree-itself t (subst (λ (x : Tree). TreeGreater t x) d h)))
equal-decides Equal s t h = (λ e. h, λ d. refl)
equal-decides Unordered s t h = (λ e. absurd (true≢false (sym e)), λ d. absurd (h.0 d))

flipped : (c : Cmp) (s t : Tree) → Answers TreeGreater c s t → Answers TreeGreater (reversed c) t s
flipped Greater s t h = h
flipped Less s t h = h
flipped Equal s t h = sym h
flipped Unordered s t h = (λ e. h.0 (sym e), h.2, h.1)

pub compared-reversed : (c : Cmp) (s t : Tree) → comparison_of c ≡ compare_trees s t → comparison_of (reversed c) ≡ compare_trees t s
compared-reversed c s t e = answer-compared (reversed c) t s (flipped c s t (compared-answer c s t e))
