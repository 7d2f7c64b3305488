-- Two lists of which the first trees were met.
use Rattle.std.proofs.Common.{◌≡◌, ℕ, ◌+◌, ◌<◌, ◌^◌, ◌==◌, List, [], ◌++◌, ap, sym, ◌∙◌, arith}
use Rattle.fol_base.specs.Tree.{Tree, Trees, no_trees, tree_then, tree_size, trees_size, tree_variables, trees_variables}
use Rattle.fol_base.specs.declared.clause.Side.TheVariants.{Left}
use Rattle.fol_base.specs.Multiset.{times}
use Rattle.fol_base.proofs.AboutClauses.CountLemmas.{times-append}
use Rattle.kbo_order.specs.declared.balance.Balance.{Balance}
use Rattle.kbo_order.specs.Balance.{Consistent, HasRoom, IsLevel, Met, MetOn, IsBefore, PartlyMet}
use Rattle.kbo_order.proofs.AboutReading.ReadingLemmas.{occurrences-within, all_occurrences-within}
use Rattle.kbo_order.proofs.AboutReading.MetLemmas.{Met-none, Met-then, Met-same, met-room}

Before-none : (ts : Trees) → IsBefore [] 0 ts ts
Before-none ts = record { split = λ v. omega arith; size = omega arith; within = λ v. omega arith }

pub Before-all : (ts : Trees) → IsBefore (trees_variables ts) (trees_size ts) no_trees ts
Before-all ts = record {
  split = λ v. omega arith;
  size = omega arith;
  within = λ v. all_occurrences-within v ts;
}

Before-more :
    (vs : List ℕ) (n : ℕ) (rest whole : Trees) (t : Tree) (ts : Trees)
    → rest ≡ tree_then t ts → IsBefore vs n rest whole → IsBefore (vs ++ tree_variables t) (n + tree_size t) ts whole
Before-more vs n rest whole t ts e h =
    let split : (v : ℕ) → times ◌==◌ v (trees_variables rest) ≡ times ◌==◌ v (tree_variables t) + times ◌==◌ v (trees_variables ts) =
    λ v. ap (λ (us : Trees). times ◌==◌ v (trees_variables us)) e ∙ times-append ◌==◌ v (tree_variables t) (trees_variables ts) in
    let size : trees_size rest ≡ tree_size t + trees_size ts = ap trees_size e in
    record {
      split = λ v. omega (arith, h.split v, split v, times-append ◌==◌ v vs (tree_variables t));
      size = omega (arith, h.size, size);
      within = λ v. omega (arith, h.within v, occurrences-within v t, times-append ◌==◌ v vs (tree_variables t));
    }

pub Partly-none : (a : Balance) (lefts rights : Trees) → Consistent a → PartlyMet a a lefts lefts rights rights
Partly-none a lefts rights h = record {
  left_variables = [];
  left_size = 0;
  right_variables = [];
  right_size = 0;
  left = Before-none lefts;
  right = Before-none rights;
  met = Met-none a h;
}

pub Partly-more :
    (a b c : Balance) (lefts left_rest rights right_rest : Trees) (t u : Tree) (ts us : Trees)
    → left_rest ≡ tree_then t ts → right_rest ≡ tree_then u us → PartlyMet a b lefts left_rest rights right_rest
    → Met b c (tree_variables t) (tree_size t) (tree_variables u) (tree_size u) → PartlyMet a c lefts ts rights us
Partly-more a b c lefts left_rest rights right_rest t u ts us e d h k = record {
  left_variables = h.left_variables ++ tree_variables t;
  left_size = h.left_size + tree_size t;
  right_variables = h.right_variables ++ tree_variables u;
  right_size = h.right_size + tree_size u;
  left = Before-more h.left_variables h.left_size left_rest lefts t ts e h.left;
  right = Before-more h.right_variables h.right_size right_rest rights u us d h.right;
  met =
      Met-then a b c h.left_variables (tree_variables t) h.right_variables (tree_variables u)
      h.left_size (tree_size t) h.right_size (tree_size u) h.met k;
}

-- the variables of the met trees and of the rest
together :
    (vs : List ℕ) (n : ℕ) (rest whole : Trees) → IsBefore vs n rest whole
    → (v : ℕ) → times ◌==◌ v (vs ++ trees_variables rest) ≡ times ◌==◌ v (trees_variables whole)
together vs n rest whole h v = times-append ◌==◌ v vs (trees_variables rest) ∙ sym (h.split v)

-- the rests are met, too
pub Partly-rest :
    (a b c : Balance) (lefts left_rest rights right_rest : Trees) → PartlyMet a b lefts left_rest rights right_rest
    → Met b c (trees_variables left_rest) (trees_size left_rest) (trees_variables right_rest) (trees_size right_rest)
    → Met a c (trees_variables lefts) (trees_size lefts) (trees_variables rights) (trees_size rights)
Partly-rest a b c lefts left_rest rights right_rest h k =
    Met-same a c (h.left_variables ++ trees_variables left_rest) (trees_variables lefts)
    (h.right_variables ++ trees_variables right_rest) (trees_variables rights)
    (h.left_size + trees_size left_rest) (trees_size lefts) (h.right_size + trees_size right_rest) (trees_size rights)
    (together h.left_variables h.left_size left_rest lefts h.left)
    (together h.right_variables h.right_size right_rest rights h.right)
    (omega (arith, h.left.size, h.right.size))
    (Met-then a b c h.left_variables (trees_variables left_rest) h.right_variables (trees_variables right_rest)
    h.left_size (trees_size left_rest) h.right_size (trees_size right_rest) h.met k)

-- the rest on the left is met
pub Partly-left :
    (a b c : Balance) (lefts left_rest rights right_rest : Trees) (h : PartlyMet a b lefts left_rest rights right_rest)
    → MetOn Left b c (trees_variables left_rest) (trees_size left_rest)
    → Met a c (trees_variables lefts) (trees_size lefts) h.right_variables h.right_size
Partly-left a b c lefts left_rest rights right_rest h k =
    Met-same a c (h.left_variables ++ trees_variables left_rest) (trees_variables lefts)
    (h.right_variables ++ []) h.right_variables
    (h.left_size + trees_size left_rest) (trees_size lefts) (h.right_size + 0) h.right_size
    (together h.left_variables h.left_size left_rest lefts h.left)
    (λ v. omega (arith, times-append ◌==◌ v h.right_variables []))
    (omega (arith, h.left.size))
    (Met-then a b c h.left_variables (trees_variables left_rest) h.right_variables []
    h.left_size (trees_size left_rest) h.right_size 0 h.met k)

pub Partly-room :
    (a b : Balance) (lefts left_rest rights right_rest : Trees) → IsLevel a → PartlyMet a b lefts left_rest rights right_rest
    → trees_size lefts + trees_size rights < 2 ^ 63 → HasRoom b (trees_size left_rest + trees_size right_rest)
Partly-room a b lefts left_rest rights right_rest level h room =
    met-room a b h.left_variables h.right_variables h.left_size h.right_size (trees_size left_rest + trees_size right_rest)
    h.left.within h.right.within level h.met (omega (arith, h.left.size, h.right.size))
