-- Results as they are handed back, in their parts or whole.
use Rattle.std.proofs.Common.{◌≡◌, ℕ, suc, ◌<◌, ◌≤◌, Bool, true, false, ◌&&◌, List, [], ◌∷◌, map, length, refl, ap, ap₂, sym, ◌∙◌, arith}
use Rattle.std.specs.Prelude.{filter, nat_lt, if◌then◌else◌}
use Rattle.std.proofs.lemmas.Bool.{cond-true, cond-false, lt-ltb, le-ltb}
use Rattle.std.proofs.lemmas.List.{length-map}
use Rattle.std.proofs.lemmas.List.FromFn.{length-range_with_len}
use Rattle.fol_base.specs.Clause.{TreeLiteral, TreeClause}
use Rattle.kernel_steps.specs.Derivation.{under_names}
use Rattle.kernel_steps.specs.Split.{literals_at, canonical_literals}
use Rattle.split_parts.specs.Components.{IsComponents}
use Rattle.split_parts.proofs.AboutParts.UniqueLemmas.{components-unique}
use Rattle.pool_history.specs.Components.{component_of, components_of, begins_at, parts_of, places, is_to_split}
use Rattle.pool_history.specs.Reduction.{handed_back}
use Rattle.pool_history.proofs.AboutLines.FinestLemmas.{computed-finest}
use Rattle.given_work.specs.Results.{parts_at}

-- there are no more components than literals
few-components : (ls : List TreeLiteral) → length (components_of ls) ≤ length ls
few-components ls =
    let all = length-map (filter (λ k. begins_at k (component_of ls k)) (places ls)) (component_of ls) in
    let some = fewer (λ k. begins_at k (component_of ls k)) (places ls) in
    let count : length (places ls) ≡ length ls = length-range_with_len 0 (length ls) in
    omega (arith, all, some, count)
  where
    fewer : (p : ℕ → Bool) (ns : List ℕ) → length (filter p ns) ≤ length ns
    fewer p [] = omega arith
    fewer p (n ∷ ns) = by (p n) (fewer p ns)
      where
        by : (b : Bool) → length (filter p ns) ≤ length ns → length (if b then n ∷ filter p ns else filter p ns) ≤ suc (length ns)
        by true rest = omega (arith, rest)
        by false rest = omega (arith, rest)

module _ (c : TreeClause) where
  parts-same : (parts : List (List ℕ)) → IsComponents c.literals parts → parts ≡ components_of c.literals
  parts-same parts are = components-unique c.literals parts (components_of c.literals) are (computed-finest c.literals)

  whole : (split : Bool) → is_to_split split c.literals ≡ false → handed_back split c ≡ c ∷ []
  whole split one = cond-false (is_to_split split c.literals) (map (λ ls. under_names ls []) (parts_of c.literals)) (c ∷ []) one

  -- where splitting is off
  pub unsplit-whole : (split : Bool) → split ≡ false → handed_back split c ≡ c ∷ []
  unsplit-whole split off = whole split (ap (λ b. is_to_split b c.literals) off)

  never : (split b : Bool) → b ≡ false → (split && b) ≡ false
  never true b none = none
  never false b none = refl

  -- where there are fewer than two literals
  pub short-whole : (split : Bool) → length c.literals < 2 → handed_back split c ≡ c ∷ []
  short-whole split short =
      let few = few-components c.literals in
      whole split
      (never split (nat_lt 1 (length (components_of c.literals))) (le-ltb 1 (length (components_of c.literals)) (omega (arith, few, short))))

  -- where there are fewer than two parts
  pub single-whole : (split : Bool) (parts : List (List ℕ)) → IsComponents c.literals parts → length parts < 2 → handed_back split c ≡ c ∷ []
  single-whole split parts are few =
      let same : length parts ≡ length (components_of c.literals) = ap length (parts-same parts are) in
      whole split
      (never split (nat_lt 1 (length (components_of c.literals))) (le-ltb 1 (length (components_of c.literals)) (omega (arith, few, same))))

  -- where splitting is on and there are two parts or more
  pub handed-parts :
      (split : Bool) (parts : List (List ℕ)) → split ≡ true → IsComponents c.literals parts → 2 ≤ length parts
      → parts_at c.literals parts ≡ handed_back split c
  handed-parts split parts on are many =
      let same : length parts ≡ length (components_of c.literals) = ap length (parts-same parts are) in
      ap (parts_at c.literals) (parts-same parts are) ∙ named (components_of c.literals)
      ∙ sym
      (cond-true (is_to_split split c.literals) (map (λ ls. under_names ls []) (parts_of c.literals)) (c ∷ [])
      (ap₂ (λ a b. a && b) on (lt-ltb 1 (length (components_of c.literals)) (omega (arith, many, same)))))
    where
      named :
          (kss : List (List ℕ))
          → parts_at c.literals kss ≡ map (λ ls. under_names ls []) (map (λ ks. canonical_literals (literals_at c.literals ks)) kss)
      named [] = refl
      named (ks ∷ kss) = ap (λ ds. under_names (canonical_literals (literals_at c.literals ks)) [] ∷ ds) (named kss)
