-- The order on a block of variables: irreflexive, asymmetric, and decided by size, variables and what decides at equal sizes.
use Rattle.std.proofs.Common.{◌≡◌, ℕ, ◌+◌, ◌<◌, ◌⊎◌, Bool, true, false, ◌==◌, cond, nat_lt, refl, ap, ap₂, sym, ◌∙◌, subst, inl, inr, ⊎_elim, arith, rules}
use Rattle.std.proofs.lemmas.Bool.{true≢false, cases_order, lt-ltb, le-ltb, eqb-true, eqb-false}
use Rattle.fol_base.specs.Tree.{Tree, variable, application, Trees, no_trees, tree_then, tree_size}
use denote.Enum.Bare.{sameb, same_true}
use Rattle.kbo_order.specs.contracts.cmp.Cmp.{the_type}
use Rattle.kbo_order.specs.declared.cmp.Cmp.{Cmp}
use Rattle.kbo_order.specs.declared.cmp.Cmp.TheVariants.{Greater, Less, Equal, Unordered}
use Rattle.kbo_order.specs.Cmp.{is_greater}
use Rattle.kbo_order.specs.Block.{Answers, HasVariablesOn, ExceedsOn, GreaterOn, AllGreaterOn, TieOn}
use Rattle.kbo_order.specs.Balance.{by_size, by_variables}

-- ---- greater, and what decides at equal sizes

pub greater_says : (C : ℕ → Type 0) (s t : Tree) → GreaterOn C s t → ExceedsOn C s t (TieOn C s t)
greater_says C (variable v) t h = h
greater_says C (application f ts) (variable w) h = h
greater_says C (application f ts) (application g us) h = h

pub greater_from : (C : ℕ → Type 0) (s t : Tree) → ExceedsOn C s t (TieOn C s t) → GreaterOn C s t
greater_from C (variable v) t h = h
greater_from C (application f ts) (variable w) h = h
greater_from C (application f ts) (application g us) h = h

-- ---- irreflexive

mutual
  pub GreaterOn-itself : (C : ℕ → Type 0) (t : Tree) → GreaterOn C t t → ⊥
  GreaterOn-itself C (variable v) h = ⊎_elim (λ e. absurd (omega arith)) (λ e. e.1) h.1
  GreaterOn-itself C (application f ts) h =
      ⊎_elim
      (λ e. absurd (omega arith))
      (λ e. ⊎_elim (λ k. absurd (omega arith)) (λ k. AllGreaterOn-itself C ts k.1) e.1)
      h.1

  pub AllGreaterOn-itself : (C : ℕ → Type 0) (ts : Trees) → AllGreaterOn C ts ts → ⊥
  AllGreaterOn-itself C no_trees h = h
  AllGreaterOn-itself C (tree_then t ts) h = ⊎_elim (λ e. GreaterOn-itself C t e) (λ e. AllGreaterOn-itself C ts e.1) h

-- ---- asymmetric

mutual
  pub GreaterOn-both : (C : ℕ → Type 0) (s t : Tree) → GreaterOn C s t → GreaterOn C t s → ⊥
  GreaterOn-both C (variable v) (variable w) h k = ⊎_elim (λ e. absurd (omega arith)) (λ e. e.1) h.1
  GreaterOn-both C (variable v) (application g us) h k = ⊎_elim (λ e. ⊎_elim (λ d. absurd (omega arith)) (λ d. d.1) k.1) (λ e. e.1) h.1
  GreaterOn-both C (application f ts) (variable w) h k = ⊎_elim (λ e. ⊎_elim (λ d. absurd (omega arith)) (λ d. d.1) h.1) (λ e. e.1) k.1
  GreaterOn-both C (application f ts) (application g us) h k =
      ⊎_elim
      (λ a. ⊎_elim (λ b. absurd (omega arith)) (λ b. let e : tree_size (application g us) ≡ tree_size (application f ts) = b.0 in absurd (omega arith)) k.1)
      (λ a.
      let e : tree_size (application f ts) ≡ tree_size (application g us) = a.0 in
      ⊎_elim
      (λ b. absurd (omega arith))
      (λ b.
      ⊎_elim
      (λ x. ⊎_elim (λ y. absurd (omega arith)) (λ y. let d : g ≡ f = y.0 in absurd (omega arith)) b.1)
      (λ x. let d : f ≡ g = x.0 in ⊎_elim (λ y. absurd (omega arith)) (λ y. AllGreaterOn-both C ts us x.1 y.1) b.1)
      a.1)
      k.1)
      h.1

  AllGreaterOn-both : (C : ℕ → Type 0) (ts us : Trees) → AllGreaterOn C ts us → AllGreaterOn C us ts → ⊥
  AllGreaterOn-both C no_trees us h k = h
  AllGreaterOn-both C (tree_then t ts) no_trees h k = h
  AllGreaterOn-both C (tree_then t ts) (tree_then u us) h k =
      ⊎_elim
      (λ a. ⊎_elim (λ b. GreaterOn-both C t u a b) (λ b. GreaterOn-itself C t (subst (λ (x : Tree). GreaterOn C t x) b.0 a)) k)
      (λ a. ⊎_elim (λ b. GreaterOn-itself C u (subst (λ (x : Tree). GreaterOn C u x) a.0 b)) (λ b. AllGreaterOn-both C ts us a.1 b.1) k)
      h

-- ---- answers for lists

pub answer_here :
    (C : ℕ → Type 0) (c : Cmp) (t u : Tree) (ts us : Trees)
    → Answers (GreaterOn C) c t u → (c ≡ Equal → ⊥) → Answers (AllGreaterOn C) c (tree_then t ts) (tree_then u us)
answer_here C Greater t u ts us h n = inl h
answer_here C Less t u ts us h n = inl h
answer_here C Equal t u ts us h n = absurd (n refl)
answer_here C Unordered t u ts us h n = (
  λ e. h.0 (head e),
  λ g. ⊎_elim (λ a. h.1 a) (λ a. h.0 a.0) g,
  λ g. ⊎_elim (λ a. h.2 a) (λ a. h.0 (sym a.0)) g,
)
  where
    head : tree_then t ts ≡ tree_then u us → t ≡ u
    head e = cc

pub answer_later :
    (C : ℕ → Type 0) (c : Cmp) (t u : Tree) (ts us : Trees)
    → t ≡ u → Answers (AllGreaterOn C) c ts us → Answers (AllGreaterOn C) c (tree_then t ts) (tree_then u us)
answer_later C Greater t u ts us e h = inr (e, h)
answer_later C Less t u ts us e h = inr (sym e, h)
answer_later C Equal t u ts us e h = ap₂ tree_then e h
answer_later C Unordered t u ts us e h = (
  λ d. h.0 (tail d),
  λ g. ⊎_elim (λ a. GreaterOn-itself C t (subst (λ (x : Tree). GreaterOn C t x) (sym e) a)) (λ a. h.1 a.1) g,
  λ g. ⊎_elim (λ a. GreaterOn-itself C u (subst (λ (x : Tree). GreaterOn C u x) e a)) (λ a. h.2 a.1) g,
)
  where
    tail : tree_then t ts ≡ tree_then u us → ts ≡ us
    tail d = cc

-- one of the lists has ended
pub answer_ended :
    (C : ℕ → Type 0) (ts us : Trees) → (ts ≡ no_trees) ⊎ (us ≡ no_trees) → (ts ≡ us → ⊥) → Answers (AllGreaterOn C) Unordered ts us
answer_ended C no_trees us h n = (n, λ g. g, not_over us)
  where
    not_over : (ws : Trees) → AllGreaterOn C ws no_trees → ⊥
    not_over no_trees g = g
    not_over (tree_then w ws) g = g
answer_ended C (tree_then t ts) no_trees h n = (n, λ g. g, λ g. g)
answer_ended C (tree_then t ts) (tree_then u us) h n = ⊎_elim (λ e. absurd (cc)) (λ e. absurd (cc)) h

-- ---- the answer for two terms

-- the variable condition is what is left to see
settle_greater :
    (C : ℕ → Type 0) (s t : Tree) (b : Bool)
    → (b ≡ true → GreaterOn C s t) → (b ≡ false → GreaterOn C s t → ⊥) → (s ≡ t → ⊥) → (GreaterOn C t s → ⊥)
    → Answers (GreaterOn C) (cond b Greater Unordered) s t
settle_greater C s t true greater not_greater differ back = greater refl
settle_greater C s t false greater not_greater differ back = (differ, not_greater refl, back)

settle_less :
    (C : ℕ → Type 0) (s t : Tree) (b : Bool)
    → (b ≡ true → GreaterOn C t s) → (b ≡ false → GreaterOn C t s → ⊥) → (s ≡ t → ⊥) → (GreaterOn C s t → ⊥)
    → Answers (GreaterOn C) (cond b Less Unordered) s t
settle_less C s t true greater not_greater differ back = greater refl
settle_less C s t false greater not_greater differ back = (differ, back, not_greater refl)

-- who is greater by size, or by the tie at equal sizes, is greater exactly where it has the other one's variables
larger-greater :
    (C : ℕ → Type 0) (s t : Tree) (behind : ℕ) → (behind ≡ 0 → HasVariablesOn C s t) → (HasVariablesOn C s t → behind ≡ 0)
    → (tree_size t < tree_size s) ⊎ ((tree_size s ≡ tree_size t) × TieOn C s t)
    → (((behind == 0) ≡ true) → GreaterOn C s t) × (((behind == 0) ≡ false) → GreaterOn C s t → ⊥)
larger-greater C s t behind says from larger = (
  λ e. greater_from C s t (says (eqb-true behind 0 e), larger),
  λ e g. eqb-false behind 0 e (from (greater_says C s t g).0),
)

TieOn-itself : (C : ℕ → Type 0) (t : Tree) → TieOn C t t → ⊥
TieOn-itself C (variable v) h = h
TieOn-itself C (application f ts) h = ⊎_elim (λ k. absurd (omega arith)) (λ k. AllGreaterOn-itself C ts k.1) h

TieOn-both : (C : ℕ → Type 0) (s t : Tree) → TieOn C s t → TieOn C t s → ⊥
TieOn-both C (variable v) t h k = h
TieOn-both C (application f ts) (variable w) h k = h
TieOn-both C (application f ts) (application g us) h k =
    ⊎_elim
    (λ x. ⊎_elim (λ y. absurd (omega arith)) (λ y. let d : g ≡ f = y.0 in absurd (omega arith)) k)
    (λ x. let d : f ≡ g = x.0 in ⊎_elim (λ y. absurd (omega arith)) (λ y. AllGreaterOn-both C ts us x.1 y.1) k)
    h

-- what the answer to the tie says of the left one
pub tie-wins : (C : ℕ → Type 0) (c : Cmp) (s t : Tree) → Answers (TieOn C) c s t → is_greater c ≡ true → TieOn C s t
tie-wins C Greater s t h e = h
tie-wins C Less s t h e = absurd (true≢false (sym e))
tie-wins C Equal s t h e = absurd (true≢false (sym e))
tie-wins C Unordered s t h e = absurd (true≢false (sym e))

pub tie-loses : (C : ℕ → Type 0) (c : Cmp) (s t : Tree) → Answers (TieOn C) c s t → is_greater c ≡ false → TieOn C s t → ⊥
tie-loses C Greater s t h e tie = absurd (true≢false e)
tie-loses C Less s t h e tie = TieOn-both C s t tie h
tie-loses C Equal s t h e tie = TieOn-itself C t (subst (λ (x : Tree). TieOn C x t) h tie)
tie-loses C Unordered s t h e tie = h.1 tie

-- the answer for two lists is that for applications of one symbol
pub answer_below :
    (C : ℕ → Type 0) (c : Cmp) (f g : ℕ) (ts us : Trees)
    → f ≡ g → Answers (AllGreaterOn C) c ts us → Answers (TieOn C) c (application f ts) (application g us)
answer_below C Greater f g ts us e h = inr (e, h)
answer_below C Less f g ts us e h = inr (sym e, h)
answer_below C Equal f g ts us e h = ap₂ application e h
answer_below C Unordered f g ts us e h = (
  λ d. h.0 (below d),
  λ k. ⊎_elim (λ less. absurd (omega arith)) (λ x. h.1 x.1) k,
  λ k. ⊎_elim (λ less. absurd (omega arith)) (λ x. h.2 x.1) k,
)
  where
    below : application f ts ≡ application g us → ts ≡ us
    below d = cc

-- the smaller one isn't greater, and neither is one of equal size that loses the tie
size-not_greater : (C : ℕ → Type 0) (s t : Tree) → tree_size t < tree_size s → GreaterOn C t s → ⊥
size-not_greater C s t h g = ⊎_elim (λ e. absurd (omega arith)) (λ e. let d : tree_size t ≡ tree_size s = e.0 in absurd (omega arith)) (greater_says C t s g).1

tie-not_greater : (C : ℕ → Type 0) (s t : Tree) → tree_size s ≡ tree_size t → (TieOn C t s → ⊥) → GreaterOn C t s → ⊥
tie-not_greater C s t h none g = ⊎_elim (λ e. absurd (omega arith)) (λ e. none e.1) (greater_says C t s g).1

level_decided :
    (C : ℕ → Type 0) (s t : Tree) (tie : Cmp) (la ra : ℕ)
    → Answers (TieOn C) tie s t → tree_size s ≡ tree_size t
    → (ra ≡ 0 → HasVariablesOn C s t) → (HasVariablesOn C s t → ra ≡ 0)
    → (la ≡ 0 → HasVariablesOn C t s) → (HasVariablesOn C t s → la ≡ 0)
    → Answers (GreaterOn C) (by_variables la ra tie) s t
level_decided C s t Greater la ra answer level rs rf ls lf =
    let parts = larger-greater C s t ra rs rf (inr (level, answer)) in
    settle_greater C s t (ra == 0) parts.0 parts.1
    (λ e. TieOn-itself C t (subst (λ (x : Tree). TieOn C x t) e answer))
    (tie-not_greater C s t level (λ k. TieOn-both C s t answer k))
level_decided C s t Less la ra answer level rs rf ls lf =
    let parts = larger-greater C t s la ls lf (inr (sym level, answer)) in
    settle_less C s t (la == 0) parts.0 parts.1
    (λ e. TieOn-itself C t (subst (λ (x : Tree). TieOn C t x) e answer))
    (tie-not_greater C t s (sym level) (λ k. TieOn-both C t s answer k))
level_decided C s t Equal la ra answer level rs rf ls lf = answer
level_decided C s t Unordered la ra answer level rs rf ls lf =
    (answer.0, tie-not_greater C t s (sym level) answer.1, tie-not_greater C s t level answer.2)

by_size-more : (n m : ℕ) (tie : Cmp) → m < n → by_size n m tie ≡ Greater
by_size-more n m tie h = ap (λ (b : Bool). cond b Greater (cond (nat_lt n m) Less tie)) (lt-ltb m n h)

by_size-less : (n m : ℕ) (tie : Cmp) → n < m → by_size n m tie ≡ Less
by_size-less n m tie h =
    ap (λ (b : Bool). cond b Greater (cond (nat_lt n m) Less tie)) (le-ltb m n (omega arith))
    ∙ ap (λ (b : Bool). cond b Less tie) (lt-ltb n m h)

by_size-level : (n m : ℕ) (tie : Cmp) → n ≡ m → by_size n m tie ≡ tie
by_size-level n m tie h =
    ap (λ (b : Bool). cond b Greater (cond (nat_lt n m) Less tie)) (le-ltb m n (omega arith))
    ∙ ap (λ (b : Bool). cond b Less tie) (le-ltb n m (omega arith))

pub decided :
    (C : ℕ → Type 0) (s t : Tree) (tie : Cmp) (n m la ra : ℕ)
    → Answers (TieOn C) tie s t → n + tree_size t ≡ m + tree_size s
    → (ra ≡ 0 → HasVariablesOn C s t) → (HasVariablesOn C s t → ra ≡ 0)
    → (la ≡ 0 → HasVariablesOn C t s) → (HasVariablesOn C t s → la ≡ 0)
    → Answers (GreaterOn C) (by_variables la ra (by_size n m tie)) s t
decided C s t tie n m la ra answer weights rs rf ls lf =
    let Good : Cmp → Type 0 = λ c. Answers (GreaterOn C) (by_variables la ra c) s t in
    ⊎_elim
    (λ e. subst Good (sym (by_size-level n m tie e)) (level_decided C s t tie la ra answer (omega arith) rs rf ls lf))
    (λ e.
    ⊎_elim
    (λ less.
    let size : tree_size s < tree_size t = omega arith in
    let parts = larger-greater C t s la ls lf (inl size) in
    subst Good (sym (by_size-less n m tie less))
    (settle_less C s t (la == 0) parts.0 parts.1 (λ e. absurd (omega (arith, ap tree_size e))) (size-not_greater C t s size)))
    (λ more.
    let size : tree_size t < tree_size s = omega arith in
    let parts = larger-greater C s t ra rs rf (inl size) in
    subst Good (sym (by_size-more n m tie more))
    (settle_greater C s t (ra == 0) parts.0 parts.1 (λ e. absurd (omega (arith, ap tree_size e))) (size-not_greater C s t size)))
    e)
    (cases_order n m)

-- ---- the answers' own equality

pub sameb-itself : (c : Cmp) → sameb the_type c c ≡ true
sameb-itself Greater = refl
sameb-itself Less = refl
sameb-itself Equal = refl
sameb-itself Unordered = refl

pub sameb-says : (c d : Cmp) → sameb the_type c d ≡ true → c ≡ d
sameb-says c d h = same_true the_type (search rules) c d h
