-- Where more stands on the right than was met on the left.
use Rattle.std.proofs.Common.{◌≡◌, ℕ, ◌+◌, ◌<◌, ◌≤◌, ◌^◌, ◌==◌, Bool, true, false, if◌then◌else◌, List, [], ◌++◌, get_or, refl, ap, sym, ◌∙◌, subst, inl, inr, ⊎_elim, arith}
use Rattle.std.proofs.lemmas.Bool.{cases_lt, cases_Bool, eqb-true, eqb-false}
use Rattle.fol_base.specs.Tree.{Tree, variable, application, Trees, no_trees, tree_then, tree_size, trees_size, tree_variables, trees_variables}
use Rattle.fol_base.specs.Multiset.{times}
use Rattle.fol_base.specs.declared.clause.Side.TheVariants.{Right}
use Rattle.fol_base.proofs.AboutClauses.CountLemmas.{times-append}
use Rattle.kbo_order.specs.declared.balance.Balance.{Balance}
use Rattle.kbo_order.specs.declared.cmp.Cmp.{Cmp}
use Rattle.kbo_order.specs.Cmp.{is_greater}
use Rattle.kbo_order.specs.Block.{Answers, InBlock, GreaterOn, TieOn}
use Rattle.kbo_order.specs.Balance.{Consistent, IsLevel, Met, IsBefore, IsShort, Covers, IsCovered}
use Rattle.kbo_order.specs.Exceeding.{Exceeds}
use Rattle.kbo_order.proofs.AboutReading.LevelLemmas.{below-some}
use Rattle.kbo_order.proofs.AboutReading.MetLemmas.{MetOn-then, Met-applications}
use Rattle.kbo_order.proofs.AboutReading.PartlyLemmas.{Before-all}
use Rattle.kbo_order.proofs.AboutReading.BlockLemmas.{greater_says, greater_from, tie-wins, tie-loses}
use Rattle.kbo_order.proofs.AboutReading.BalanceLemmas.{more_right-says}

pub some-size : (t : Tree) → 1 ≤ tree_size t
some-size (variable v) = omega arith
some-size (application f ts) = omega arith

-- ---- too many

-- if the first ones were met on the right, and the others are too many
Short-before :
    (least : ℕ) (a b : Balance) (vs vs' : List ℕ) (n n' : ℕ)
    → Met a b [] 0 vs n → IsShort least b vs' n' → IsShort least a (vs ++ vs') (n + n')
Short-before least a b vs vs' n n' h short =
    ⊎_elim
    (λ few. inl (omega (arith, h.weight)))
    (λ k.
    let lacks : get_or b.counts k.0 0 < 2 ^ 63 + times ◌==◌ (a.start + k.0) vs' =
    subst (λ (s : ℕ). get_or b.counts k.0 0 < 2 ^ 63 + times ◌==◌ (s + k.0) vs') h.start k.2 in
    let sum = times-append ◌==◌ (a.start + k.0) vs vs' in
    inr (k.0, k.1, omega (arith, h.counts k.0 k.1, lacks, sum)))
    short

-- more than too many
pub Short-more :
    (least : ℕ) (a : Balance) (vs vs' : List ℕ) (n n' : ℕ) → IsShort least a vs n → IsShort least a (vs ++ vs') (n + n')
Short-more least a vs vs' n n' short =
    ⊎_elim
    (λ few. inl (omega arith))
    (λ k.
    let sum = times-append ◌==◌ (a.start + k.0) vs vs' in
    let lacks : get_or a.counts k.0 0 < 2 ^ 63 + times ◌==◌ (a.start + k.0) vs = k.2 in
    inr (k.0, k.1, omega (arith, lacks, sum)))
    short

pub Covers-then :
    (answer : Bool) (least : ℕ) (a b c : Balance) (vs vs' : List ℕ) (n n' : ℕ)
    → Met a b [] 0 vs n → Covers answer least b c vs' n' → Covers answer least a c (vs ++ vs') (n + n')
Covers-then true least a b c vs vs' n n' h k = MetOn-then Right a b c vs vs' n n' h k
Covers-then false least a b c vs vs' n n' h k = Short-before least a b vs vs' n n' h k

-- the tree that a walk meets
pub Covers-tree :
    (answer : Bool) (least : ℕ) (a b : Balance) (t u : Tree)
    → t ≡ u → Covers answer least a b (tree_variables u) (tree_size u) → Covers answer least a b (tree_variables t) (tree_size t)
Covers-tree answer least a b t u e h = subst (λ (x : Tree). Covers answer least a b (tree_variables x) (tree_size x)) (sym e) h

-- a symbol, and then what stands below it
pub Covers-application :
    (answer : Bool) (least : ℕ) (a b c : Balance) (t : Tree) (f : ℕ) (ts : Trees)
    → t ≡ application f ts → Met a b [] 0 [] 1 → Covers answer least b c (trees_variables ts) (trees_size ts)
    → Covers answer least a c (tree_variables t) (tree_size t)
Covers-application answer least a b c t f ts e h k =
    Covers-tree answer least a c t (application f ts) e (Covers-then answer least a b c [] (trees_variables ts) 1 (trees_size ts) h k)

-- a list is its first tree and the others
pub Covers-more :
    (answer : Bool) (least : ℕ) (a b c : Balance) (rest : Trees) (t : Tree) (ts : Trees) → rest ≡ tree_then t ts
    → Met a b [] 0 (tree_variables t) (tree_size t) → Covers answer least b c (trees_variables ts) (trees_size ts)
    → Covers answer least a c (trees_variables rest) (trees_size rest)
Covers-more answer least a b c rest t ts e h k =
    subst (λ (us : Trees). Covers answer least a c (trees_variables us) (trees_size us)) (sym e)
    (Covers-then answer least a b c (tree_variables t) (trees_variables ts) (tree_size t) (trees_size ts) h k)

pub Short-first :
    (least : ℕ) (a : Balance) (rest : Trees) (t : Tree) (ts : Trees) → rest ≡ tree_then t ts
    → IsShort least a (tree_variables t) (tree_size t) → IsShort least a (trees_variables rest) (trees_size rest)
Short-first least a rest t ts e h =
    subst (λ (us : Trees). IsShort least a (trees_variables us) (trees_size us)) (sym e)
    (Short-more least a (tree_variables t) (trees_variables ts) (tree_size t) (trees_size ts) h)

-- a variable that stands more often on the right
lacking : (a : Balance) → Consistent a → (a.more_right ≡ 0 → ⊥) → (k : ℕ) × (k < 32) × (get_or a.counts k 0 < 2 ^ 63)
lacking a h some =
    let found = below-some a.counts (λ none. some (h.more_right ∙ none)) in
    (found.0, omega (arith, found.1, h.width), found.2)

pub Covers-met :
    (answer : Bool) (least : ℕ) (a b : Balance) (vs : List ℕ) (n : ℕ)
    → Met a b [] 0 vs n → answer ≡ (b.more_right == 0) → Covers answer least a b vs n
Covers-met true least a b vs n h e = h
Covers-met false least a b vs n h e =
    let found = lacking b h.consistent (eqb-false b.more_right 0 (sym e)) in
    let lacks : get_or b.counts found.0 0 < 2 ^ 63 = found.2 in
    inr (found.0, found.1, omega (arith, h.counts found.0 found.1, lacks))

pub covered-by : (answer : Bool) (least : ℕ) (a : Balance) → Consistent a → least ≤ a.weight → answer ≡ (a.more_right == 0) → IsCovered answer least a
covered-by true least a h enough e = (enough, eqb-true a.more_right 0 (sym e))
covered-by false least a h enough e =
    let found = lacking a h (eqb-false a.more_right 0 (sym e)) in
    let lacks : get_or a.counts found.0 0 < 2 ^ 63 = found.2 in
    inr (found.0, found.1, omega (arith, lacks))

-- ---- what is greater

abbrev least_of : Bool → ℕ
least_of wins = if wins then 2 ^ 63 else 2 ^ 63 + 1

least-most : (wins : Bool) (least : ℕ) → least ≡ least_of wins → least ≤ 2 ^ 63 + 1
least-most true least e = omega (arith, e)
least-most false least e = omega (arith, e)

least-tied : (wins : Bool) (least : ℕ) (Tie : Type 0) → least ≡ least_of wins → (wins ≡ false → Tie → ⊥) → Tie → least ≤ 2 ^ 63
least-tied true least Tie e loses tie = omega (arith, e)
least-tied false least Tie e loses tie = absurd (loses refl tie)

-- too many on the right
pub short-not_greater :
    (old new : Balance) (f g : ℕ) (ts us rest : Trees) (ws : List ℕ) (m : ℕ) (tie : Cmp) (wins : Bool) (least : ℕ)
    → IsLevel old → Answers (TieOn (InBlock old.start)) tie (application f ts) (application g us)
    → wins ≡ is_greater tie → least ≡ least_of wins
    → Met old new (trees_variables ts) (trees_size ts) ws m → IsBefore ws m rest us
    → IsShort least new (trees_variables rest) (trees_size rest)
    → GreaterOn (InBlock old.start) (application f ts) (application g us) → ⊥
short-not_greater old new f g ts us rest ws m tie wins least level answer e d met before short greater =
    let says = greater_says (InBlock old.start) (application f ts) (application g us) greater in
    let most = least-most wins least d in
    ⊎_elim
    (λ few.
    ⊎_elim
    (λ larger. absurd (omega (arith, met.weight, level.weight, before.size, most, few, larger)))
    (λ same.
    let low = least-tied wins least (TieOn (InBlock old.start) (application f ts) (application g us)) d
    (λ loses. tie-loses (InBlock old.start) tie (application f ts) (application g us) answer (sym e ∙ loses)) same.1 in
    let level_sizes : 1 + trees_size ts ≡ 1 + trees_size us = same.0 in
    absurd (omega (arith, met.weight, level.weight, before.size, low, few, level_sizes)))
    says.1)
    (λ k.
    let v = old.start + k.0 in
    let lacks : get_or new.counts k.0 0 < 2 ^ 63 + times ◌==◌ v (trees_variables rest) =
    subst (λ (s : ℕ). get_or new.counts k.0 0 < 2 ^ 63 + times ◌==◌ (s + k.0) (trees_variables rest)) met.start k.2 in
    let has : times ◌==◌ v (trees_variables us) ≤ times ◌==◌ v (trees_variables ts) = says.0 v (omega arith, omega (arith, k.1)) in
    absurd (omega (arith, met.counts k.0 k.1, level.counts k.0 k.1, before.split v, has, lacks)))
    short

-- no more on the right
pub covered-greater :
    (old new : Balance) (f g : ℕ) (ts us : Trees) (tie : Cmp) (wins : Bool) (least : ℕ)
    → IsLevel old → Answers (TieOn (InBlock old.start)) tie (application f ts) (application g us)
    → wins ≡ is_greater tie → least ≡ least_of wins
    → Met old new (trees_variables ts) (trees_size ts) (trees_variables us) (trees_size us)
    → least ≤ new.weight → new.more_right ≡ 0
    → GreaterOn (InBlock old.start) (application f ts) (application g us)
covered-greater old new f g ts us tie wins least level answer e d met enough none =
    greater_from (InBlock old.start) (application f ts) (application g us) (
      more_right-says old new (trees_variables ts) (trees_variables us) (trees_size ts) (trees_size us) level met none,
      ⊎_elim
          (λ won.
          let low : least ≡ 2 ^ 63 = d ∙ ap least_of won in
          ⊎_elim
          (λ larger. let more : 1 + trees_size us < 1 + trees_size ts = omega (arith, larger) in inl more)
          (λ most.
          let same : 1 + trees_size ts ≡ 1 + trees_size us = omega (arith, met.weight, level.weight, enough, low, most) in
          inr (same, tie-wins (InBlock old.start) tie (application f ts) (application g us) answer (sym e ∙ won)))
          (cases_lt (trees_size us) (trees_size ts)))
          (λ lost.
          let high : least ≡ 2 ^ 63 + 1 = d ∙ ap least_of lost in
          let more : 1 + trees_size us < 1 + trees_size ts = omega (arith, met.weight, level.weight, enough, high) in
          inl more)
          (cases_Bool wins),
    )

-- of one size, and not by the tie
pub tied-not_greater :
    (C : ℕ → Type 0) (f g : ℕ) (ts us : Trees) (tie : Cmp) (wins : Bool)
    → Answers (TieOn C) tie (application f ts) (application g us) → wins ≡ is_greater tie → wins ≡ false
    → trees_size ts ≡ trees_size us → GreaterOn C (application f ts) (application g us) → ⊥
tied-not_greater C f g ts us tie wins answer e lost same greater =
    ⊎_elim
    (λ larger. let more : 1 + trees_size us < 1 + trees_size ts = larger in absurd (omega arith))
    (λ level. tie-loses C tie (application f ts) (application g us) answer (sym e ∙ lost) level.1)
    (greater_says C (application f ts) (application g us) greater).1

-- the answer, where both were met
pub covered-exceeds :
    (answer : Bool) (old new : Balance) (f g : ℕ) (ts us : Trees) (tie : Cmp) (wins : Bool) (least : ℕ)
    → IsLevel old → Answers (TieOn (InBlock old.start)) tie (application f ts) (application g us)
    → wins ≡ is_greater tie → least ≡ least_of wins
    → Met old new (trees_variables ts) (trees_size ts) (trees_variables us) (trees_size us)
    → IsCovered answer least new → Exceeds answer old new (application f ts) (application g us)
covered-exceeds true old new f g ts us tie wins least level tied e d met covered = (
  covered-greater old new f g ts us tie wins least level tied e d met covered.0 covered.1,
  Met-applications old new (application f ts) (application g us) f g ts us refl refl met,
)
covered-exceeds false old new f g ts us tie wins least level tied e d met short =
    short-not_greater old new f g ts us no_trees (trees_variables us) (trees_size us) tie wins least level tied e d met (Before-all us) short

-- what wasn't covered before the rest of a list was met isn't covered with it
pub Short-grows : (least : ℕ) (a : Balance) (vs : List ℕ) (n : ℕ) → IsShort least a [] 0 → IsShort least a vs n
Short-grows least a vs n short =
    ⊎_elim
    (λ few. inl (omega arith))
    (λ k. let lacks : get_or a.counts k.0 0 < 2 ^ 63 = k.2 in inr (k.0, k.1, omega (arith, lacks)))
    short
