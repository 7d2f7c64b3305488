-- A source has the levels of its term.
use Rattle.std.proofs.Common.{◌≡◌, ℕ, suc, ◌≤◌, List, [], ◌∷◌, codes, Option, None, Some, refl, ap, ap₂, ◌∙◌, arith}
use Rattle.std.specs.Prelude.{max}
use Rattle.std.proofs.Math.Nat.{max-le, le-max_left}
use Rattle.tptp_source.specs.General.{GeneralTree, variable, word, dollar, number, distinct, negated, listed, joined, no_trees, tree_then, trees_of}
use Rattle.tptp_source.specs.Sources.{name_in, names_in, name_before, SourceTree, file_source, inference_source, component_source, opposite_source, definition_by, IsSource}
use Rattle.tptp_source.specs.Levels.{general_levels, all_general_levels, source_levels}

name-flat : (t : GeneralTree) (n : List ℕ) → name_in t ≡ Some n → general_levels t ≡ 0
name-flat (variable x) n h = refl
name-flat (word f no_trees) n h = refl
name-flat (word f (tree_then t ts)) n h = absurd (let x : None ≡ Some n = h in cc)
name-flat (dollar d ts) n h = absurd (let x : None ≡ Some n = h in cc)
name-flat (number sign m) n h = refl
name-flat (distinct d) n h = refl
name-flat (negated f) n h = refl
name-flat (listed ts) n h = absurd (let x : None ≡ Some n = h in cc)
name-flat (joined ts) n h = absurd (let x : None ≡ Some n = h in cc)

names-flat : (ts : List GeneralTree) (ns : List (List ℕ)) → names_in ts ≡ Some ns → all_general_levels (trees_of ts) ≡ 0
names-flat [] ns h = refl
names-flat (t ∷ ts) ns h = by (names-flat ts) (name_in t) (names_in ts) refl refl h
  where
    by :
        ((ms : List (List ℕ)) → names_in ts ≡ Some ms → all_general_levels (trees_of ts) ≡ 0)
        → (n : Option (List ℕ)) (ms : Option (List (List ℕ))) → name_in t ≡ n → names_in ts ≡ ms → name_before n ms ≡ Some ns
        → max (general_levels t) (all_general_levels (trees_of ts)) ≡ 0
    by more None ms e f g = absurd (let x : None ≡ Some ns = g in cc)
    by more (Some n) None e f g = absurd (let x : None ≡ Some ns = g in cc)
    by more (Some n) (Some ms) e f g = ap₂ (λ a b. max a b) (name-flat t n e) (more ms f)

max-nothing : (n : ℕ) → max n 0 ≡ n
max-nothing n = let least : max n 0 ≤ n = max-le (omega arith) (omega arith) in omega (arith, least, le-max_left n 0)

definition-levels : (way : List ℕ) (name : GeneralTree) (n : List ℕ) → name_in name ≡ Some n → general_levels (definition_by way name) ≡ 3
definition-levels way name n h = ap (λ m. suc (max 0 (max (suc (max (suc (max m 0)) 0)) 0))) (name-flat name n h)

pub source-levels : (t : GeneralTree) (s : SourceTree) → IsSource t s → general_levels t ≡ source_levels s
source-levels t (file_source f n) h =
    ap general_levels h.2
    ∙ ap (λ m. suc (max (general_levels f) (max m 0))) (name-flat h.0 n h.1)
    ∙ ap suc (max-nothing (general_levels f))
source-levels t (inference_source rule items parents) h =
    let inside : ℕ = suc (all_general_levels (trees_of items)) in
    ap general_levels h.2
    ∙ ap (λ m. suc (max (general_levels rule) (max inside (max (suc m) 0)))) (names-flat h.0 parents h.1)
    ∙ ap (λ m. suc (max (general_levels rule) m)) (one_more (all_general_levels (trees_of items)))
  where
    one_more : (n : ℕ) → max (suc n) 1 ≡ suc n
    one_more n = let least : max (suc n) 1 ≤ suc n = max-le (omega arith) (omega arith) in omega (arith, least, le-max_left (suc n) 1)
source-levels t (component_source n) h = ap general_levels h.2 ∙ definition-levels (codes "component") h.0 n h.1
source-levels t (opposite_source n) h = ap general_levels h.2 ∙ definition-levels (codes "opposite") h.0 n h.1
