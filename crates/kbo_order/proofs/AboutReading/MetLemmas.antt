-- One walk after another.
use Rattle.std.proofs.Common.{◌≡◌, ℕ, ◌+◌, ◌<◌, ◌≤◌, ◌^◌, ◌==◌, List, [], ◌∷◌, ◌++◌, get_or, refl, sym, ◌∙◌, subst, arith}
use Rattle.fol_base.specs.Tree.{Tree, variable, application, Trees, no_trees, tree_then, tree_size, trees_size, tree_variables, trees_variables}
use Rattle.fol_base.specs.declared.clause.Side.{Side}
use Rattle.fol_base.specs.declared.clause.Side.TheVariants.{Left, Right}
use Rattle.fol_base.specs.Multiset.{times}
use Rattle.fol_base.proofs.AboutClauses.CountLemmas.{times-append}
use Rattle.kbo_order.specs.declared.balance.Balance.{Balance}
use Rattle.kbo_order.specs.Balance.{Consistent, HasRoom, IsLevel, Met, MetOn}

pub Met-none : (a : Balance) → Consistent a → Met a a [] 0 [] 0
Met-none a h = record {
  start = refl;
  consistent = h;
  weight = refl;
  counts = λ k below. refl;
  left_numbers = λ v past. refl;
  right_numbers = λ v past. refl;
  next_falls = omega arith;
  next_past = λ past. past;
  left_least = λ v past below. refl;
  right_least = λ v past below. refl;
}

pub Met-then :
    (a b c : Balance) (vs vs' ws ws' : List ℕ) (n n' m m' : ℕ)
    → Met a b vs n ws m → Met b c vs' n' ws' m' → Met a c (vs ++ vs') (n + n') (ws ++ ws') (m + m')
Met-then a b c vs vs' ws ws' n n' m m' h k =
    let left : (v : ℕ) → times ◌==◌ v (vs ++ vs') ≡ times ◌==◌ v vs + times ◌==◌ v vs' = λ v. times-append ◌==◌ v vs vs' in
    let right : (v : ℕ) → times ◌==◌ v (ws ++ ws') ≡ times ◌==◌ v ws + times ◌==◌ v ws' = λ v. times-append ◌==◌ v ws ws' in
    record {
      start = k.start ∙ h.start;
      consistent = k.consistent;
      weight = omega (arith, h.weight, k.weight);
      counts = λ j below.
          let moved : get_or c.counts j 0 + times ◌==◌ (a.start + j) ws' ≡ get_or b.counts j 0 + times ◌==◌ (a.start + j) vs' =
          subst (λ (s : ℕ). get_or c.counts j 0 + times ◌==◌ (s + j) ws' ≡ get_or b.counts j 0 + times ◌==◌ (s + j) vs') h.start
          (k.counts j below) in
          omega (arith, h.counts j below, moved, left (a.start + j), right (a.start + j));
      left_numbers = λ v past. omega (arith, left v, h.left_numbers v past, k.left_numbers v past);
      right_numbers = λ v past. omega (arith, right v, h.right_numbers v past, k.right_numbers v past);
      next_falls = omega (arith, h.next_falls, k.next_falls);
      next_past = λ past. omega (arith, h.start, k.next_past (omega (arith, h.start, h.next_past past)));
      left_least = λ v past below.
          omega (
            arith,
            left v,
            h.left_least v past (omega (arith, k.next_falls)),
            k.left_least v (omega (arith, h.start)) below,
          );
      right_least = λ v past below.
          omega (
            arith,
            right v,
            h.right_least v past (omega (arith, k.next_falls)),
            k.right_least v (omega (arith, h.start)) below,
          );
    }

-- a walk tells how often each variable was met, and how much
pub Met-same :
    (a b : Balance) (vs vs' ws ws' : List ℕ) (n n' m m' : ℕ)
    → ((v : ℕ) → times ◌==◌ v vs ≡ times ◌==◌ v vs') → ((v : ℕ) → times ◌==◌ v ws ≡ times ◌==◌ v ws') → n + m' ≡ n' + m
    → Met a b vs n ws m → Met a b vs' n' ws' m'
Met-same a b vs vs' ws ws' n n' m m' left right sizes h = record {
  start = h.start;
  consistent = h.consistent;
  weight = omega (arith, h.weight, sizes);
  counts = λ k below. omega (arith, h.counts k below, left (a.start + k), right (a.start + k));
  left_numbers = λ v past. omega (arith, left v, h.left_numbers v past);
  right_numbers = λ v past. omega (arith, right v, h.right_numbers v past);
  next_falls = h.next_falls;
  next_past = h.next_past;
  left_least = λ v past below. omega (arith, left v, h.left_least v past below);
  right_least = λ v past below. omega (arith, right v, h.right_least v past below);
}

pub MetOn-then :
    (side : Side) (a b c : Balance) (vs vs' : List ℕ) (n n' : ℕ)
    → MetOn side a b vs n → MetOn side b c vs' n' → MetOn side a c (vs ++ vs') (n + n')
MetOn-then Left a b c vs vs' n n' h k = Met-then a b c vs vs' [] [] n n' 0 0 h k
MetOn-then Right a b c vs vs' n n' h k = Met-then a b c [] [] vs vs' 0 0 n n' h k

pub MetOn-none : (side : Side) (a : Balance) → Consistent a → MetOn side a a [] 0
MetOn-none Left a h = Met-none a h
MetOn-none Right a h = Met-none a h

pub MetOn-consistent : (side : Side) (a b : Balance) (vs : List ℕ) (n : ℕ) → MetOn side a b vs n → Consistent b
MetOn-consistent Left a b vs n h = h.consistent
MetOn-consistent Right a b vs n h = h.consistent

-- what was met on the left, and then on the right
pub Met-sides :
    (a b c : Balance) (vs ws : List ℕ) (n m : ℕ) → MetOn Left a b vs n → MetOn Right b c ws m → Met a c vs n ws m
Met-sides a b c vs ws n m h k =
    Met-same a c (vs ++ []) vs ([] ++ ws) ws (n + 0) n (0 + m) m (λ v. omega (arith, times-append ◌==◌ v vs [])) (λ v. refl) (omega arith)
    (Met-then a b c vs [] [] ws n 0 0 m h k)

-- one walk down both sides, and then the rest on the left and on the right
pub Met-rest :
    (a b c d : Balance) (vs vs' ws ws' : List ℕ) (n n' m m' : ℕ)
    → Met a b vs n ws m → MetOn Left b c vs' n' → MetOn Right c d ws' m' → Met a d (vs ++ vs') (n + n') (ws ++ ws') (m + m')
Met-rest a b c d vs vs' ws ws' n n' m m' h k j = Met-then a b d vs vs' ws ws' n n' m m' h (Met-sides b c d vs' ws' n' m' k j)

-- ---- room

pub HasRoom-then :
    (side : Side) (a b : Balance) (vs : List ℕ) (n k : ℕ)
    → ((v : ℕ) → times ◌==◌ v vs ≤ n) → HasRoom a (n + k) → MetOn side a b vs n → HasRoom b k
HasRoom-then Left a b vs n k within room h = record {
  weight_up = omega (arith, room.weight_up, h.weight);
  weight_down = omega (arith, room.weight_down, h.weight);
  up = λ j below. omega (arith, room.up j below, h.counts j below, within (a.start + j));
  down = λ j below. omega (arith, room.down j below, h.counts j below);
}
HasRoom-then Right a b vs n k within room h = record {
  weight_up = omega (arith, room.weight_up, h.weight);
  weight_down = omega (arith, room.weight_down, h.weight);
  up = λ j below. omega (arith, room.up j below, h.counts j below);
  down = λ j below. omega (arith, room.down j below, h.counts j below, within (a.start + j));
}

pub HasRoom-less : (a : Balance) (n k : ℕ) → k ≤ n → HasRoom a n → HasRoom a k
HasRoom-less a n k less room = record {
  weight_up = omega (arith, room.weight_up);
  weight_down = omega (arith, room.weight_down);
  up = λ j below. omega (arith, room.up j below);
  down = λ j below. omega (arith, room.down j below);
}

pub HasRoom-same : (a : Balance) (n k : ℕ) → n ≡ k → HasRoom a n → HasRoom a k
HasRoom-same a n k e room = subst (HasRoom a) e room

pub level-room : (a : Balance) (n : ℕ) → IsLevel a → n < 2 ^ 63 → HasRoom a n
level-room a n level less = record {
  weight_up = omega (arith, level.weight);
  weight_down = omega (arith, level.weight);
  up = λ j below. omega (arith, level.counts j below);
  down = λ j below. omega (arith, level.counts j below);
}

-- room for what is still to come, after something was met on either side
pub met-room :
    (a b : Balance) (vs ws : List ℕ) (n m k : ℕ)
    → ((v : ℕ) → times ◌==◌ v vs ≤ n) → ((v : ℕ) → times ◌==◌ v ws ≤ m) → IsLevel a → Met a b vs n ws m → n + m + k < 2 ^ 63 → HasRoom b k
met-room a b vs ws n m k left right level met room = record {
  weight_up = omega (arith, level.weight, met.weight);
  weight_down = omega (arith, level.weight, met.weight);
  up = λ j below. omega (arith, level.counts j below, met.counts j below, left (a.start + j), right (a.start + j));
  down = λ j below. omega (arith, level.counts j below, met.counts j below, left (a.start + j), right (a.start + j));
}

-- ---- applications

-- a symbol, and then what stands below it
pub MetOn-application :
    (side : Side) (a b c : Balance) (t : Tree) (f : ℕ) (ts : Trees)
    → t ≡ application f ts → MetOn side a b [] 1 → MetOn side b c (trees_variables ts) (trees_size ts)
    → MetOn side a c (tree_variables t) (tree_size t)
MetOn-application side a b c t f ts e h k =
    subst (λ (u : Tree). MetOn side a c (tree_variables u) (tree_size u)) (sym e)
    (MetOn-then side a b c [] (trees_variables ts) 1 (trees_size ts) h k)

-- the same symbol on both sides, and then what stands below it
pub Met-applications :
    (a b : Balance) (t u : Tree) (f g : ℕ) (ts us : Trees) → t ≡ application f ts → u ≡ application g us
    → Met a b (trees_variables ts) (trees_size ts) (trees_variables us) (trees_size us)
    → Met a b (tree_variables t) (tree_size t) (tree_variables u) (tree_size u)
Met-applications a b t u f g ts us e d h =
    subst (λ (x : Tree). Met a b (tree_variables x) (tree_size x) (tree_variables u) (tree_size u)) (sym e)
    (subst (λ (x : Tree). Met a b (trees_variables ts) (1 + trees_size ts) (tree_variables x) (tree_size x)) (sym d)
    (Met-same a b (trees_variables ts) (trees_variables ts) (trees_variables us) (trees_variables us)
    (trees_size ts) (1 + trees_size ts) (trees_size us) (1 + trees_size us) (λ v. refl) (λ v. refl) (omega arith) h))

pub MetOn-variable :
    (side : Side) (a b : Balance) (t : Tree) (v : ℕ) → t ≡ variable v → MetOn side a b (v ∷ []) 1
    → MetOn side a b (tree_variables t) (tree_size t)
MetOn-variable side a b t v e h = subst (λ (u : Tree). MetOn side a b (tree_variables u) (tree_size u)) (sym e) h

pub Met-variables :
    (a b : Balance) (t u : Tree) (v w : ℕ) → t ≡ variable v → u ≡ variable w → Met a b (v ∷ []) 1 (w ∷ []) 1
    → Met a b (tree_variables t) (tree_size t) (tree_variables u) (tree_size u)
Met-variables a b t u v w e d h =
    subst (λ (x : Tree). Met a b (tree_variables x) (tree_size x) (tree_variables u) (tree_size u)) (sym e)
    (subst (λ (x : Tree). Met a b (v ∷ []) 1 (tree_variables x) (tree_size x)) (sym d) h)

-- the trees that a walk meets
pub Met-same_trees :
    (a b : Balance) (s s' t t' : Tree) → s ≡ s' → t ≡ t'
    → Met a b (tree_variables s) (tree_size s) (tree_variables t) (tree_size t)
    → Met a b (tree_variables s') (tree_size s') (tree_variables t') (tree_size t')
Met-same_trees a b s s' t t' e d h =
    subst (λ (x : Tree). Met a b (tree_variables x) (tree_size x) (tree_variables t') (tree_size t')) e
    (subst (λ (x : Tree). Met a b (tree_variables s) (tree_size s) (tree_variables x) (tree_size x)) d h)

-- past the end of a list
pub MetOn-all :
    (side : Side) (a : Balance) (ts : Trees) → ts ≡ no_trees → Consistent a → MetOn side a a (trees_variables ts) (trees_size ts)
MetOn-all side a ts e h = subst (λ (us : Trees). MetOn side a a (trees_variables us) (trees_size us)) (sym e) (MetOn-none side a h)

-- a list is its first tree and the others

pub MetOn-more :
    (side : Side) (a b c : Balance) (rest : Trees) (t : Tree) (ts : Trees) → rest ≡ tree_then t ts
    → MetOn side a b (tree_variables t) (tree_size t) → MetOn side b c (trees_variables ts) (trees_size ts)
    → MetOn side a c (trees_variables rest) (trees_size rest)
MetOn-more side a b c rest t ts e h k =
    subst (λ (us : Trees). MetOn side a c (trees_variables us) (trees_size us)) (sym e)
    (MetOn-then side a b c (tree_variables t) (trees_variables ts) (tree_size t) (trees_size ts) h k)

pub Met-more :
    (a b c : Balance) (lefts rights : Trees) (t u : Tree) (ts us : Trees) → lefts ≡ tree_then t ts → rights ≡ tree_then u us
    → Met a b (tree_variables t) (tree_size t) (tree_variables u) (tree_size u)
    → Met b c (trees_variables ts) (trees_size ts) (trees_variables us) (trees_size us)
    → Met a c (trees_variables lefts) (trees_size lefts) (trees_variables rights) (trees_size rights)
Met-more a b c lefts rights t u ts us e d h k =
    subst (λ (xs : Trees). Met a c (trees_variables xs) (trees_size xs) (trees_variables rights) (trees_size rights)) (sym e)
    (subst (λ (xs : Trees). Met a c (trees_variables (tree_then t ts)) (trees_size (tree_then t ts)) (trees_variables xs) (trees_size xs)) (sym d)
    (Met-then a b c (tree_variables t) (trees_variables ts) (tree_variables u) (trees_variables us)
    (tree_size t) (trees_size ts) (tree_size u) (trees_size us) h k))
