-- The answers for blocks of variables, together, are the answer for all of them.
use Rattle.std.proofs.Common.{◌≡◌, ℕ, ◌+◌, ◌≤◌, ◌^◌, ◌⊎◌, Bool, true, false, ◌==◌, if◌then◌else◌, List, ◌++◌, refl, ap, sym, ◌∙◌, subst, inl, inr, ⊎_elim, arith}
use Rattle.std.proofs.lemmas.Bool.{cases_lt, false_from_ne_true}
use Rattle.fol_base.specs.Tree.{Tree, variable, application, Trees, no_trees, tree_then, tree_eq, tree_variables, trees_variables}
use Rattle.fol_base.specs.Multiset.{Comparison, greater, less, equal, unordered, times}
use Rattle.fol_base.specs.Order.{occurrences, tree_greater, compare_trees, TreeGreater, TreesGreater}
use Rattle.fol_base.proofs.AboutClauses.CountLemmas.{times-append}
use Rattle.fol_base.proofs.AboutOrders.OrderLemmas.{tree_equality_decided, tree_greater_decided}
use Rattle.kbo_order.specs.declared.cmp.Cmp.{Cmp}
use Rattle.kbo_order.specs.declared.cmp.Cmp.TheVariants.{Greater, Less, Equal, Unordered}
use Rattle.kbo_order.specs.Cmp.{comparison_of}
use Rattle.kbo_order.specs.Block.{Answers, InBlock, Below, IsStrict, GreaterOn, AllGreaterOn}
use Rattle.kbo_order.specs.Further.{IsNumbered, IsClear}
use Rattle.kbo_order.proofs.AboutReading.BlockLemmas.{GreaterOn-itself, GreaterOn-both}

-- each variable of a list that counts for R counts for P or for Q
abbrev Cover : (P Q R : ℕ → Type 0) → List ℕ → Type 0
Cover P Q R vs = (v : ℕ) → R v → P v ⊎ (Q v ⊎ (times ◌==◌ v vs ≡ 0))

Cover-left : (P Q R : ℕ → Type 0) (vs ws : List ℕ) → Cover P Q R (vs ++ ws) → Cover P Q R vs
Cover-left P Q R vs ws h v r =
    ⊎_elim (λ p. inl p) (λ e. ⊎_elim (λ q. inr (inl q)) (λ none. inr (inr (omega (arith, times-append ◌==◌ v vs ws, none)))) e) (h v r)

Cover-right : (P Q R : ℕ → Type 0) (vs ws : List ℕ) → Cover P Q R (vs ++ ws) → Cover P Q R ws
Cover-right P Q R vs ws h v r =
    ⊎_elim (λ p. inl p) (λ e. ⊎_elim (λ q. inr (inl q)) (λ none. inr (inr (omega (arith, times-append ◌==◌ v vs ws, none)))) e) (h v r)

-- ---- two blocks

has-joined :
    (P Q R : ℕ → Type 0) (s t : Tree) → Cover P Q R (tree_variables t)
    → ((v : ℕ) → P v → occurrences v t ≤ occurrences v s) → ((v : ℕ) → Q v → occurrences v t ≤ occurrences v s)
    → (v : ℕ) → R v → occurrences v t ≤ occurrences v s
has-joined P Q R s t cover h k v r =
    ⊎_elim
    (λ p. h v p)
    (λ e. ⊎_elim (λ q. k v q) (λ none. let e : occurrences v t ≡ 0 = none in omega arith) e)
    (cover v r)

mutual
  GreaterOn-joined :
      (P Q R : ℕ → Type 0) (s t : Tree) → Cover P Q R (tree_variables t) → GreaterOn P s t → GreaterOn Q s t → GreaterOn R s t
  GreaterOn-joined P Q R (variable v) t cover h k = (has-joined P Q R (variable v) t cover h.0 k.0, h.1)
  GreaterOn-joined P Q R (application f ts) (variable w) cover h k = (has-joined P Q R (application f ts) (variable w) cover h.0 k.0, h.1)
  GreaterOn-joined P Q R (application f ts) (application g us) cover h k = (
    has-joined P Q R (application f ts) (application g us) cover h.0 k.0,
    ⊎_elim
        (λ a. inl a)
        (λ a.
        ⊎_elim
        (λ b. inl b)
        (λ b.
        inr (
          a.0,
          ⊎_elim
              (λ x. inl x)
              (λ x. ⊎_elim (λ y. inl y) (λ y. inr (x.0, AllGreaterOn-joined P Q R ts us cover x.1 y.1)) b.1)
              a.1,
        ))
        k.1)
        h.1,
  )

  AllGreaterOn-joined :
      (P Q R : ℕ → Type 0) (ts us : Trees) → Cover P Q R (trees_variables us) → AllGreaterOn P ts us → AllGreaterOn Q ts us → AllGreaterOn R ts us
  AllGreaterOn-joined P Q R no_trees us cover h k = h
  AllGreaterOn-joined P Q R (tree_then t ts) no_trees cover h k = h
  AllGreaterOn-joined P Q R (tree_then t ts) (tree_then u us) cover h k =
      ⊎_elim
      (λ a.
      ⊎_elim
      (λ b. inl (GreaterOn-joined P Q R t u (Cover-left P Q R (tree_variables u) (trees_variables us) cover) a b))
      (λ b. absurd (GreaterOn-itself P t (subst (λ (x : Tree). GreaterOn P t x) (sym b.0) a)))
      k)
      (λ a.
      ⊎_elim
      (λ b. absurd (GreaterOn-itself Q t (subst (λ (x : Tree). GreaterOn Q t x) (sym a.0) b)))
      (λ b. inr (a.0, AllGreaterOn-joined P Q R ts us (Cover-right P Q R (tree_variables u) (trees_variables us) cover) a.1 b.1))
      k)
      h

-- ---- all variables

abbrev Every : ℕ → Type 0
Every v = Unit {0}

mutual
  tree-every : (s t : Tree) → GreaterOn Every s t → TreeGreater s t
  tree-every (variable v) t h = (λ w. h.0 w tt, h.1)
  tree-every (application f ts) (variable w) h = (λ x. h.0 x tt, h.1)
  tree-every (application f ts) (application g us) h = (
    λ x. h.0 x tt,
    ⊎_elim (λ a. inl a) (λ a. inr (a.0, ⊎_elim (λ x. inl x) (λ x. inr (x.0, trees-every ts us x.1)) a.1)) h.1,
  )

  trees-every : (ts us : Trees) → AllGreaterOn Every ts us → TreesGreater ts us
  trees-every no_trees us h = h
  trees-every (tree_then t ts) no_trees h = h
  trees-every (tree_then t ts) (tree_then u us) h = ⊎_elim (λ a. inl (tree-every t u a)) (λ a. inr (a.0, trees-every ts us a.1)) h

mutual
  pub TreeGreater-on : (P : ℕ → Type 0) (s t : Tree) → TreeGreater s t → GreaterOn P s t
  TreeGreater-on P (variable v) t h = (λ w p. h.0 w, h.1)
  TreeGreater-on P (application f ts) (variable w) h = (λ x p. h.0 x, h.1)
  TreeGreater-on P (application f ts) (application g us) h = (
    λ x p. h.0 x,
    ⊎_elim (λ a. inl a) (λ a. inr (a.0, ⊎_elim (λ x. inl x) (λ x. inr (x.0, TreesGreater-on P ts us x.1)) a.1)) h.1,
  )

  TreesGreater-on : (P : ℕ → Type 0) (ts us : Trees) → TreesGreater ts us → AllGreaterOn P ts us
  TreesGreater-on P no_trees us h = h
  TreesGreater-on P (tree_then t ts) no_trees h = h
  TreesGreater-on P (tree_then t ts) (tree_then u us) h = ⊎_elim (λ a. inl (TreeGreater-on P t u a)) (λ a. inr (a.0, TreesGreater-on P ts us a.1)) h

-- what is greater for a block that has all variables of the smaller term
whole : (P : ℕ → Type 0) (s t : Tree) → ((v : ℕ) → P v ⊎ (occurrences v t ≡ 0)) → GreaterOn P s t → TreeGreater s t
whole P s t cover h =
    tree-every s t
    (GreaterOn-joined P P Every s t (λ v _. ⊎_elim (λ p. inl p) (λ none. inr (inr none)) (cover v)) h h)

-- ---- answers

pub answer-joined :
    (P Q R : ℕ → Type 0) (c : Cmp) (s t : Tree) → IsStrict c → Cover P Q R (tree_variables s) → Cover P Q R (tree_variables t)
    → Answers (GreaterOn P) c s t → Answers (GreaterOn Q) c s t → Answers (GreaterOn R) c s t
answer-joined P Q R Greater s t strict left right h k = GreaterOn-joined P Q R s t right h k
answer-joined P Q R Less s t strict left right h k = GreaterOn-joined P Q R t s left h k
answer-joined P Q R Equal s t strict left right h k = absurd strict
answer-joined P Q R Unordered s t strict left right h k = absurd strict

-- equal, or unordered already for one block
pub answer-plain : (P : ℕ → Type 0) (c : Cmp) (s t : Tree) → (IsStrict c → ⊥) → Answers (GreaterOn P) c s t → Answers TreeGreater c s t
answer-plain P Greater s t plain h = absurd (plain tt)
answer-plain P Less s t plain h = absurd (plain tt)
answer-plain P Equal s t plain h = h
answer-plain P Unordered s t plain h = (h.0, λ g. h.1 (TreeGreater-on P s t g), λ g. h.2 (TreeGreater-on P t s g))

-- two blocks that disagree
pub answer-split :
    (P Q : ℕ → Type 0) (c d : Cmp) (s t : Tree) → IsStrict c → (d ≡ c → ⊥)
    → Answers (GreaterOn P) c s t → Answers (GreaterOn Q) d s t → Answers TreeGreater Unordered s t
answer-split P Q Greater d s t strict other h k = (
  λ e. GreaterOn-itself P s (subst (λ (x : Tree). GreaterOn P s x) (sym e) h),
  λ g. no_greater Q d s t other k (TreeGreater-on Q s t g),
  λ g. GreaterOn-both P s t h (TreeGreater-on P t s g),
)
  where
    no_greater : (Q : ℕ → Type 0) (d : Cmp) (s t : Tree) → (d ≡ Greater → ⊥) → Answers (GreaterOn Q) d s t → GreaterOn Q s t → ⊥
    no_greater Q Greater s t other k g = other refl
    no_greater Q Less s t other k g = GreaterOn-both Q s t g k
    no_greater Q Equal s t other k g = GreaterOn-itself Q s (subst (λ (x : Tree). GreaterOn Q s x) (sym k) g)
    no_greater Q Unordered s t other k g = k.1 g
answer-split P Q Less d s t strict other h k = (
  λ e. GreaterOn-itself P s (subst (λ (x : Tree). GreaterOn P x s) (sym e) h),
  λ g. GreaterOn-both P s t (TreeGreater-on P s t g) h,
  λ g. no_less Q d s t other k (TreeGreater-on Q t s g),
)
  where
    no_less : (Q : ℕ → Type 0) (d : Cmp) (s t : Tree) → (d ≡ Less → ⊥) → Answers (GreaterOn Q) d s t → GreaterOn Q t s → ⊥
    no_less Q Greater s t other k g = GreaterOn-both Q s t k g
    no_less Q Less s t other k g = other refl
    no_less Q Equal s t other k g = GreaterOn-itself Q s (subst (λ (x : Tree). GreaterOn Q x s) (sym k) g)
    no_less Q Unordered s t other k g = k.2 g
answer-split P Q Equal d s t strict other h k = absurd strict
answer-split P Q Unordered d s t strict other h k = absurd strict

-- blocks that have all variables agree
pub answer-whole :
    (P : ℕ → Type 0) (c : Cmp) (s t : Tree) → IsStrict c
    → ((v : ℕ) → P v ⊎ (occurrences v s ≡ 0)) → ((v : ℕ) → P v ⊎ (occurrences v t ≡ 0))
    → Answers (GreaterOn P) c s t → Answers TreeGreater c s t
answer-whole P Greater s t strict left right h = whole P s t right h
answer-whole P Less s t strict left right h = whole P t s left h
answer-whole P Equal s t strict left right h = absurd strict
answer-whole P Unordered s t strict left right h = absurd strict

-- ---- the comparison

pub tree-both : (s t : Tree) → TreeGreater s t → TreeGreater t s → ⊥
tree-both s t h k = GreaterOn-both Every s t (TreeGreater-on Every s t h) (TreeGreater-on Every t s k)

pub tree-itself : (t : Tree) → TreeGreater t t → ⊥
tree-itself t h = GreaterOn-itself Every t (TreeGreater-on Every t t h)

-- the comparison by its three tests
abbrev pub by_tests : Bool → Bool → Bool → Comparison
by_tests a b c = if a then equal else (if b then greater else (if c then less else unordered))

pub tests-agree :
    (a b c a' b' c' : Bool) → a ≡ a' → b ≡ b' → c ≡ c' → by_tests a b c ≡ by_tests a' b' c'
tests-agree a b c a' b' c' e d k =
    ap (λ (x : Bool). by_tests x b c) e ∙ ap (λ (x : Bool). by_tests a' x c) d ∙ ap (λ (x : Bool). by_tests a' b' x) k

differ-false : (s t : Tree) → (s ≡ t → ⊥) → tree_eq s t ≡ false
differ-false s t h = false_from_ne_true (tree_eq s t) (λ e. h ((tree_equality_decided s t).0 e))

pub greater-true : (s t : Tree) → TreeGreater s t → tree_greater s t ≡ true
greater-true s t h = (tree_greater_decided s t).1 h

pub greater-false : (s t : Tree) → (TreeGreater s t → ⊥) → tree_greater s t ≡ false
greater-false s t h = false_from_ne_true (tree_greater s t) (λ e. h ((tree_greater_decided s t).0 e))

pub answer-compared : (c : Cmp) (s t : Tree) → Answers TreeGreater c s t → comparison_of c ≡ compare_trees s t
answer-compared Greater s t h =
    sym (tests-agree (tree_eq s t) (tree_greater s t) (tree_greater t s) false true (tree_greater t s)
    (differ-false s t (λ e. tree-itself s (subst (λ (x : Tree). TreeGreater s x) (sym e) h)))
    (greater-true s t h) refl)
answer-compared Less s t h =
    sym (tests-agree (tree_eq s t) (tree_greater s t) (tree_greater t s) false false true
    (differ-false s t (λ e. tree-itself s (subst (λ (x : Tree). TreeGreater x s) (sym e) h)))
    (greater-false s t (λ g. tree-both s t g h)) (greater-true t s h))
answer-compared Equal s t h =
    sym (tests-agree (tree_eq s t) (tree_greater s t) (tree_greater t s) true (tree_greater s t) (tree_greater t s)
    ((tree_equality_decided s t).1 h) refl refl)
answer-compared Unordered s t h =
    sym (tests-agree (tree_eq s t) (tree_greater s t) (tree_greater t s) false false false
    (differ-false s t h.0) (greater-false s t h.1) (greater-false t s h.2))

-- ---- the loop over blocks

cover-next :
    (start next : ℕ) (t : Tree) → IsClear start next t → Cover (Below start) (InBlock start) (Below next) (tree_variables t)
cover-next start next t clear v below =
    ⊎_elim
    (λ before. inl before)
    (λ from. ⊎_elim (λ inside. inr (inl (from, inside))) (λ past. inr (inr (clear v past below))) (cases_lt v (start + 32)))
    (cases_lt v start)

pub answer-next :
    (c : Cmp) (s t : Tree) (start next : ℕ) → IsStrict c → IsClear start next s → IsClear start next t
    → Answers (GreaterOn (Below start)) c s t → Answers (GreaterOn (InBlock start)) c s t → Answers (GreaterOn (Below next)) c s t
answer-next c s t start next strict left right h k =
    answer-joined (Below start) (InBlock start) (Below next) c s t strict (cover-next start next s left) (cover-next start next t right) h k

-- the first block stands for all before the next one
pub answer-first :
    (c : Cmp) (s t : Tree) (next : ℕ) → IsStrict c → IsClear 0 next s → IsClear 0 next t
    → Answers (GreaterOn (InBlock 0)) c s t → Answers (GreaterOn (Below next)) c s t
answer-first c s t next strict left right h =
    answer-joined (InBlock 0) (InBlock 0) (Below next) c s t strict (cover next s left) (cover next t right) h h
  where
    cover : (next : ℕ) (t : Tree) → IsClear 0 next t → Cover (InBlock 0) (InBlock 0) (Below next) (tree_variables t)
    cover next t clear v below =
        ⊎_elim
        (λ inside. inl (omega arith, omega arith))
        (λ past. inr (inr (clear v (omega arith) below)))
        (cases_lt v 32)

-- past all numbers
pub answer-last :
    (c : Cmp) (s t : Tree) (start : ℕ) → IsStrict c → 2 ^ 32 ≤ start → IsNumbered s → IsNumbered t
    → Answers (GreaterOn (Below start)) c s t → comparison_of c ≡ compare_trees s t
answer-last c s t start strict past left right h =
    answer-compared c s t (answer-whole (Below start) c s t strict (cover start s past left) (cover start t past right) h)
  where
    cover : (start : ℕ) (t : Tree) → 2 ^ 32 ≤ start → IsNumbered t → (v : ℕ) → Below start v ⊎ (occurrences v t ≡ 0)
    cover start t past numbers v = ⊎_elim (λ below. inl below) (λ above. inr (numbers v (omega arith))) (cases_lt v start)
