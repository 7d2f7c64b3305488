-- Sets of signed names that are kept by their numbers, those of each sign apart.
use Rattle.std.proofs.Common.{◌≡◌, ℕ, Bool, true, false, not, ◌&&◌, ◌||◌, ◌==◌, cond, nat_eq, List, [], ◌∷◌, ◌++◌, map, Option, Some, None, refl, ap, ap₂, sym, ◌∙◌}
use mathlib.Core.Bool.{beq}
use Rattle.std.specs.Prelude.{if◌then◌else◌}
use Rattle.std.specs.List.{list_any}
use Rattle.std.proofs.lemmas.Bool.{cond-true, cond-false, true≢false}
use Rattle.std.proofs.lemmas.List.Folds.{list_any-append}
use Rattle.std.proofs.Math.Bool.{and_comm}
use Rattle.plain_types.specs.declared.sequence.NameLit.{NameLit}
use Rattle.plain_types.specs.Names.{same_name, opposite, has_name, without, can_resolve, resolvent, signed}
use Rattle.plain_types.proofs.NameLemmas.{has_name-without}
use Rattle.kernel_steps.specs.Names.{with_name, with_names, sorted_names, are_sorted}
use Rattle.kernel_steps.specs.NameSet.{names_in}
use Rattle.kernel_steps.proofs.AboutNames.NameTruth.{list_any-with_name, has_name-sorted_names}
use Rattle.kernel_steps.proofs.AboutNames.SortedNames.{with_name-sorted}
use Rattle.kernel_steps.proofs.AboutNames.NameRanks.{same-names, sorted_names-sorted, sorted-same, without-sorted}
use Rattle.kernel_steps.proofs.AboutNames.NameLemmas.{with_names-append}
use Rattle.kernel_steps.proofs.AboutSplits.SplitTables.{eqb-comm}

-- ---- which names are there

signed-has : (p : Bool) (k : NameLit) (ns : List ℕ) → has_name k (map (signed p) ns) ≡ (beq k.positive p && list_any (nat_eq k.name) ns)
signed-has p k [] = false-and (beq k.positive p)
  where
    false-and : (b : Bool) → false ≡ (b && false)
    false-and true = refl
    false-and false = refl
signed-has p k (n ∷ ns) =
    ap (λ b. (beq k.positive p && (k.name == n)) || b) (signed-has p k ns) ∙ regroup (beq k.positive p) (k.name == n) (list_any (nat_eq k.name) ns)
  where
    regroup : (a b c : Bool) → ((a && b) || (a && c)) ≡ (a && (b || c))
    regroup true b c = refl
    regroup false b c = refl

-- of a sign those with its numbers
abbrev listed : NameLit → List ℕ → List ℕ → Bool
listed k ns ps = if k.positive then list_any (nat_eq k.name) ps else list_any (nat_eq k.name) ns

pub names_in-has : (k : NameLit) (ns ps : List ℕ) → has_name k (names_in ns ps) ≡ listed k ns ps
names_in-has k ns ps =
    has_name-sorted_names k (map (signed false) ns ++ map (signed true) ps)
    ∙ list_any-append (same_name k) (map (signed false) ns) (map (signed true) ps)
    ∙ ap₂ ◌||◌ (signed-has false k ns) (signed-has true k ps)
    ∙ by k.positive (list_any (nat_eq k.name) ns) (list_any (nat_eq k.name) ps)
  where
    by : (p n m : Bool) → ((beq p false && n) || (beq p true && m)) ≡ (if p then m else n)
    by true n m = refl
    by false true m = refl
    by false false m = refl

pub has-positive : (k : NameLit) (ns ps : List ℕ) → k.positive ≡ true → list_any (nat_eq k.name) ps ≡ has_name k (names_in ns ps)
has-positive k ns ps h = sym (names_in-has k ns ps ∙ cond-true k.positive _ _ h)

pub has-negative : (k : NameLit) (ns ps : List ℕ) → k.positive ≡ false → list_any (nat_eq k.name) ns ≡ has_name k (names_in ns ps)
has-negative k ns ps h = sym (names_in-has k ns ps ∙ cond-false k.positive _ _ h)

-- ---- one more, or one less

-- what a table says of one sign's numbers after a change of one number
abbrev Changes : Bool → ℕ → List ℕ → List ℕ → Type 0
Changes there n ns more = (q : ℕ) → list_any (nat_eq q) more ≡ cond (nat_eq n q) there (list_any (nat_eq q) ns)

changed-yes : (n q : ℕ) (ns : List ℕ) → cond (nat_eq n q) true (list_any (nat_eq q) ns) ≡ ((q == n) || list_any (nat_eq q) ns)
changed-yes n q ns = ap (λ b. cond b true (list_any (nat_eq q) ns)) (eqb-comm n q) ∙ by (q == n) (list_any (nat_eq q) ns)
  where
    by : (a b : Bool) → cond a true b ≡ (a || b)
    by true b = refl
    by false b = refl

changed-no : (n q : ℕ) (ns : List ℕ) → cond (nat_eq n q) false (list_any (nat_eq q) ns) ≡ (not (n == q) && list_any (nat_eq q) ns)
changed-no n q ns = by (n == q) (list_any (nat_eq q) ns)
  where
    by : (a b : Bool) → cond a false b ≡ (not a && b)
    by true b = refl
    by false b = refl

module _ (n : NameLit) (ns ps ns' ps' : List ℕ) where
  put-by : ((k : NameLit) → listed k ns' ps' ≡ (same_name k n || listed k ns ps)) → names_in ns' ps' ≡ with_name n (names_in ns ps)
  put-by h =
      same-names (names_in ns' ps') (with_name n (names_in ns ps))
      (sorted_names-sorted (map (signed false) ns' ++ map (signed true) ps'))
      (with_name-sorted n (names_in ns ps) (sorted_names-sorted (map (signed false) ns ++ map (signed true) ps)))
      (λ k.
      names_in-has k ns' ps' ∙ h k
      ∙ ap (λ b. same_name k n || b) (sym (names_in-has k ns ps))
      ∙ sym (list_any-with_name (same_name k) n (names_in ns ps)))

  remove-by : ((k : NameLit) → listed k ns' ps' ≡ (not (same_name n k) && listed k ns ps)) → names_in ns' ps' ≡ without n (names_in ns ps)
  remove-by h =
      same-names (names_in ns' ps') (without n (names_in ns ps))
      (sorted_names-sorted (map (signed false) ns' ++ map (signed true) ps'))
      (without-sorted n (names_in ns ps) (sorted_names-sorted (map (signed false) ns ++ map (signed true) ps)))
      (λ k.
      names_in-has k ns' ps' ∙ h k
      ∙ ap (λ b. not (same_name n k) && b) (sym (names_in-has k ns ps))
      ∙ and_comm (not (same_name n k)) (has_name k (names_in ns ps))
      ∙ sym (has_name-without n k (names_in ns ps)))

module _ (n : NameLit) (ns ps more : List ℕ) where
  pub put-positive : n.positive ≡ true → Changes true n.name ps more → names_in ns more ≡ with_name n (names_in ns ps)
  put-positive is changes =
      put-by n ns ps ns more
      (λ k.
      ap (λ b. if k.positive then b else list_any (nat_eq k.name) ns) (changes k.name ∙ changed-yes n.name k.name ps)
      ∙ by k.positive n.positive (k.name == n.name) (list_any (nat_eq k.name) ns) (list_any (nat_eq k.name) ps) is)
    where
      by : (a p e b c : Bool) → p ≡ true → (if a then (e || c) else b) ≡ ((beq a p && e) || (if a then c else b))
      by true true e b c h = refl
      by true false e b c h = absurd (true≢false (sym h))
      by false true e b c h = refl
      by false false e b c h = absurd (true≢false (sym h))

  pub put-negative : n.positive ≡ false → Changes true n.name ns more → names_in more ps ≡ with_name n (names_in ns ps)
  put-negative is changes =
      put-by n ns ps more ps
      (λ k.
      ap (λ b. if k.positive then list_any (nat_eq k.name) ps else b) (changes k.name ∙ changed-yes n.name k.name ns)
      ∙ by k.positive n.positive (k.name == n.name) (list_any (nat_eq k.name) ns) (list_any (nat_eq k.name) ps) is)
    where
      by : (a p e b c : Bool) → p ≡ false → (if a then c else (e || b)) ≡ ((beq a p && e) || (if a then c else b))
      by true true e b c h = absurd (true≢false h)
      by true false e b c h = refl
      by false true e b c h = absurd (true≢false h)
      by false false e b c h = refl

  pub remove-positive : n.positive ≡ true → Changes false n.name ps more → names_in ns more ≡ without n (names_in ns ps)
  remove-positive is changes =
      remove-by n ns ps ns more
      (λ k.
      ap (λ b. if k.positive then b else list_any (nat_eq k.name) ns) (changes k.name ∙ changed-no n.name k.name ps)
      ∙ by k.positive n.positive (n.name == k.name) (list_any (nat_eq k.name) ns) (list_any (nat_eq k.name) ps) is)
    where
      by : (a p e b c : Bool) → p ≡ true → (if a then (not e && c) else b) ≡ (not (beq p a && e) && (if a then c else b))
      by true true e b c h = refl
      by true false e b c h = absurd (true≢false (sym h))
      by false true e b c h = refl
      by false false e b c h = absurd (true≢false (sym h))

  pub remove-negative : n.positive ≡ false → Changes false n.name ns more → names_in more ps ≡ without n (names_in ns ps)
  remove-negative is changes =
      remove-by n ns ps more ps
      (λ k.
      ap (λ b. if k.positive then list_any (nat_eq k.name) ps else b) (changes k.name ∙ changed-no n.name k.name ns)
      ∙ by k.positive n.positive (n.name == k.name) (list_any (nat_eq k.name) ns) (list_any (nat_eq k.name) ps) is)
    where
      by : (a p e b c : Bool) → p ≡ false → (if a then c else (not e && b)) ≡ (not (beq p a && e) && (if a then c else b))
      by true true e b c h = absurd (true≢false h)
      by true false e b c h = refl
      by false true e b c h = absurd (true≢false h)
      by false false e b c h = refl

-- ---- resolution

-- a resolvent of a sorted list, as it is put together
pub resolvent-made :
    (pivot : NameLit) (ns ms kept made : List NameLit)
    → are_sorted ns ≡ true → true ≡ has_name pivot ns → true ≡ has_name (opposite pivot) ms
    → kept ≡ without pivot ns → made ≡ with_names (without (opposite pivot) ms) kept
    → Some made ≡ (if can_resolve pivot ns ms then Some (sorted_names (resolvent pivot ns ms)) else None)
resolvent-made pivot ns ms kept made sorted there there' first second =
    ap Some
    (second
    ∙ ap (with_names (without (opposite pivot) ms)) (first ∙ sorted-same (without pivot ns) (without-sorted pivot ns sorted))
    ∙ sym (with_names-append (without pivot ns) (without (opposite pivot) ms) []))
    ∙ ap (λ b. let o : Option (List NameLit) = if b then Some (sorted_names (resolvent pivot ns ms)) else None in o) (ap₂ ◌&&◌ there there')
