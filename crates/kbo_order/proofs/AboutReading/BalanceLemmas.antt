-- A balance tells the variable condition.
use Rattle.std.proofs.Common.{◌≡◌, ℕ, ◌+◌, ◌-◌, ◌<◌, ◌≤◌, ◌^◌, ◌==◌, List, get_or, ap, sym, ◌∙◌, subst, arith}
use Rattle.fol_base.specs.Tree.{Tree, Trees, tree_then, tree_size, tree_variables}
use Rattle.fol_base.specs.Multiset.{times}
use Rattle.kbo_order.specs.declared.cmp.Cmp.{Cmp}
use Rattle.kbo_order.specs.declared.cmp.Cmp.TheVariants.{Equal}
use Rattle.kbo_order.specs.declared.balance.Balance.{Balance}
use Rattle.kbo_order.specs.Block.{Answers, InBlock, GreaterOn, AllGreaterOn, TieOn}
use Rattle.kbo_order.specs.Balance.{IsLevel, Met, by_size, by_variables}
use Rattle.kbo_order.proofs.AboutReading.LevelLemmas.{above-none, below-none, none-above, none-below}
use Rattle.kbo_order.proofs.AboutReading.BlockLemmas.{decided, answer_here, answer_later}

-- ---- the variable condition

-- the difference of one variable
difference :
    (old new : Balance) (vs ws : List ℕ) (n m : ℕ) → IsLevel old → Met old new vs n ws m
    → (v : ℕ) → InBlock old.start v → get_or new.counts (v - old.start) 0 + times ◌==◌ v ws ≡ 2 ^ 63 + times ◌==◌ v vs
difference old new vs ws n m level met v in_block =
    let i = v - old.start in
    let below : i < 32 = omega (arith, in_block.0, in_block.1) in
    let place : old.start + i ≡ v = omega (arith, in_block.0) in
    omega (
      arith,
      met.counts i below,
      level.counts i below,
      ap (λ (w : ℕ). times ◌==◌ w vs) place,
      ap (λ (w : ℕ). times ◌==◌ w ws) place,
    )

-- no variable of the block stands more often on one side: the other side has met each at least as often
pub more_right-says :
    (old new : Balance) (vs ws : List ℕ) (n m : ℕ) → IsLevel old → Met old new vs n ws m
    → new.more_right ≡ 0 → (v : ℕ) → InBlock old.start v → times ◌==◌ v ws ≤ times ◌==◌ v vs
more_right-says old new vs ws n m level met none v in_block =
    omega (
      arith,
      difference old new vs ws n m level met v in_block,
      below-none new.counts (sym met.consistent.more_right ∙ none) (v - old.start) (omega (arith, in_block.0, in_block.1, met.consistent.width)),
    )

pub more_left-says :
    (old new : Balance) (vs ws : List ℕ) (n m : ℕ) → IsLevel old → Met old new vs n ws m
    → new.more_left ≡ 0 → (v : ℕ) → InBlock old.start v → times ◌==◌ v vs ≤ times ◌==◌ v ws
more_left-says old new vs ws n m level met none v in_block =
    omega (
      arith,
      difference old new vs ws n m level met v in_block,
      above-none new.counts (sym met.consistent.more_left ∙ none) (v - old.start) (omega (arith, in_block.0, in_block.1, met.consistent.width)),
    )

-- and where it has, none stands more often
pub more_right-from :
    (old new : Balance) (vs ws : List ℕ) (n m : ℕ) → IsLevel old → Met old new vs n ws m
    → ((v : ℕ) → InBlock old.start v → times ◌==◌ v ws ≤ times ◌==◌ v vs) → new.more_right ≡ 0
more_right-from old new vs ws n m level met all =
    met.consistent.more_right
    ∙ none-below new.counts (λ k below.
    let in_range : k < 32 = omega (arith, met.consistent.width) in
    omega (arith, met.counts k in_range, level.counts k in_range, all (old.start + k) (omega arith, omega arith)))

pub more_left-from :
    (old new : Balance) (vs ws : List ℕ) (n m : ℕ) → IsLevel old → Met old new vs n ws m
    → ((v : ℕ) → InBlock old.start v → times ◌==◌ v vs ≤ times ◌==◌ v ws) → new.more_left ≡ 0
more_left-from old new vs ws n m level met all =
    met.consistent.more_left
    ∙ none-above new.counts (λ k below.
    let in_range : k < 32 = omega (arith, met.consistent.width) in
    omega (arith, met.counts k in_range, level.counts k in_range, all (old.start + k) (omega arith, omega arith)))

-- the answer for two terms that were met on a level balance
pub compared :
    (old new : Balance) (s s' t t' : Tree) (tie : Cmp) → IsLevel old → s ≡ s' → t ≡ t'
    → Met old new (tree_variables s) (tree_size s) (tree_variables t) (tree_size t) → Answers (TieOn (InBlock old.start)) tie s t
    → Answers (GreaterOn (InBlock old.start)) (by_variables new.more_left new.more_right (by_size new.weight (2 ^ 63) tie)) s' t'
compared old new s s' t t' tie level e d met answer =
    let found : Cmp = by_variables new.more_left new.more_right (by_size new.weight (2 ^ 63) tie) in
    subst (λ (x : Tree). Answers (GreaterOn (InBlock old.start)) found x t') e
    (subst (λ (x : Tree). Answers (GreaterOn (InBlock old.start)) found s x) d
    (decided (InBlock old.start) s t tie new.weight (2 ^ 63) new.more_left new.more_right answer (omega (arith, met.weight, level.weight))
    (more_right-says old new (tree_variables s) (tree_variables t) (tree_size s) (tree_size t) level met)
    (more_right-from old new (tree_variables s) (tree_variables t) (tree_size s) (tree_size t) level met)
    (more_left-says old new (tree_variables s) (tree_variables t) (tree_size s) (tree_size t) level met)
    (more_left-from old new (tree_variables s) (tree_variables t) (tree_size s) (tree_size t) level met)))

-- the same terms leave a level balance
pub level-met :
    (a b : Balance) (vs ws : List ℕ) (n m : ℕ) → IsLevel a → Met a b vs n ws m → vs ≡ ws → n ≡ m → IsLevel b
level-met a b vs ws n m h met same size = record {
  consistent = met.consistent;
  weight = omega (arith, met.weight, h.weight);
  counts = λ k below.
      omega (arith, met.counts k below, h.counts k below, ap (λ (us : List ℕ). times ◌==◌ (a.start + k) us) same);
}

-- ---- answers for the rest of two lists

pub rest-answer_here :
    (start begun : ℕ) (c : Cmp) (lefts rights : Trees) (t u : Tree) (ts us : Trees)
    → lefts ≡ tree_then t ts → rights ≡ tree_then u us → begun ≡ start
    → Answers (GreaterOn (InBlock begun)) c t u → (c ≡ Equal → ⊥)
    → Answers (AllGreaterOn (InBlock start)) c lefts rights
rest-answer_here start begun c lefts rights t u ts us e d same answer differ =
    let here : Answers (GreaterOn (InBlock start)) c t u =
    subst (λ (s : ℕ). Answers (GreaterOn (InBlock s)) c t u) same answer in
    subst (λ (xs : Trees). Answers (AllGreaterOn (InBlock start)) c xs rights) (sym e)
    (subst (λ (xs : Trees). Answers (AllGreaterOn (InBlock start)) c (tree_then t ts) xs) (sym d)
    (answer_here (InBlock start) c t u ts us here differ))

pub rest-answer_later :
    (start : ℕ) (c : Cmp) (lefts rights : Trees) (t u : Tree) (ts us : Trees)
    → lefts ≡ tree_then t ts → rights ≡ tree_then u us → t ≡ u
    → Answers (AllGreaterOn (InBlock start)) c ts us → Answers (AllGreaterOn (InBlock start)) c lefts rights
rest-answer_later start c lefts rights t u ts us e d same answer =
    subst (λ (xs : Trees). Answers (AllGreaterOn (InBlock start)) c xs rights) (sym e)
    (subst (λ (xs : Trees). Answers (AllGreaterOn (InBlock start)) c (tree_then t ts) xs) (sym d)
    (answer_later (InBlock start) c t u ts us same answer))
