-- The parts of a whole clause: canonical, no larger than it, well-formed, and of its symbols.
use Rattle.std.proofs.Common.{◌≡◌, ℕ, zero, suc, ◌+◌, ◌-◌, ◌<◌, ◌≤◌, Bool, true, ◌==◌, List, [], ◌∷◌, map, length, drop, refl, ap, sym, ◌∙◌, subst, arith}
use Rattle.std.specs.Prelude.{Option, None, Some, nat_lt, slice_get, flat_map, sum_by}
use Rattle.std.specs.List.{list_all, cons_option}
use Rattle.std.proofs.lemmas.Bool.{true≢false, and_parts, and_from, or_left, eq-eqb, ltb-true}
use Rattle.std.proofs.lemmas.List.Sums.{sum_by-cons}
use Rattle.fol_base.specs.Tree.{true_symbol}
use Rattle.fol_base.specs.Instance.{Substitution}
use Rattle.fol_base.specs.Clause.{TreeLiteral, TreeClause, clause_size, clause_variables, literal_size, literal_instance}
use Rattle.fol_base.specs.Canonical.{distinct, canonical_renaming, canonical_clause, IsCanonical}
use Rattle.fol_base.specs.WellFormed.{SymbolUse, is_literal_of, are_literals_of}
use Rattle.fol_base.specs.declared.limits.TheConstants.{MOST_SYMBOLS}
use Rattle.fol_base.proofs.AboutCanonical.CanonicalLemmas.{canonical_forms_are_canonical, canonical_forms_keep_sizes}
use Rattle.fol_base.proofs.AboutTerms.WellFormedLemmas.{well_formed_instances}
use Rattle.kernel_steps.specs.Derivation.{under_names}
use Rattle.kernel_steps.specs.Split.{has_number, is_part, rises_from, literals_at, canonical_literals}
use Rattle.kernel_steps.specs.Symbols.{literal_symbols_pass, clause_symbols_pass}
use Rattle.fol_base.proofs.WorkedExamples.TestLemmas.{list_all-item}
use Rattle.laws_calculus.proofs.AboutCovering.SymbolLemmas.{renamed-pass}
use Rattle.pool_history.specs.Components.{components_of}
use Rattle.split_parts.proofs.AboutParts.UniqueLemmas.{none-past, shared}
use Rattle.pool_history.proofs.AboutRecords.ItemLemmas.{item-at}
use Rattle.pool_history.proofs.AboutLines.FinestLemmas.{computed-finest}

-- ---- some literals of a list

-- what all literals pass, those at places pass
at-places-pass : (p : TreeLiteral → Bool) (ls : List TreeLiteral) (ks : List ℕ) → list_all p ls ≡ true → list_all p (literals_at ls ks) ≡ true
at-places-pass p ls [] all = refl
at-places-pass p ls (k ∷ ks) all = one (slice_get ls k) refl (at-places-pass p ls ks all)
  where
    one :
        (o : Option TreeLiteral) → slice_get ls k ≡ o → list_all p (literals_at ls ks) ≡ true → list_all p (cons_option o (literals_at ls ks)) ≡ true
    one None there rest = rest
    one (Some l) there rest = and_from (p l) (list_all p (literals_at ls ks)) (list_all-item p ls k l there all) rest

abbrev size-at : Option TreeLiteral → ℕ
size-at None = 0
size-at (Some l) = literal_size l

-- what is left from a place on
left-size : (ls : List TreeLiteral) (k : ℕ) → size-at (slice_get ls k) + sum_by literal_size (drop (suc k) ls) ≤ sum_by literal_size (drop k ls)
left-size [] zero = omega arith
left-size [] (suc k) = omega arith
left-size (l ∷ ls) zero = let whole = sum_by-cons literal_size l ls in omega (arith, whole)
left-size (l ∷ ls) (suc k) = left-size ls k

fewer-left : (ls : List TreeLiteral) (k n : ℕ) → sum_by literal_size (drop (k + n) ls) ≤ sum_by literal_size (drop k ls)
fewer-left ls k zero = let same : k + zero ≡ k = omega arith in subst (λ i. sum_by literal_size (drop i ls) ≤ sum_by literal_size (drop k ls)) (sym same) (omega arith)
fewer-left ls k (suc n) =
    let one = left-size ls (k + n) in
    let rest = fewer-left ls k n in
    let same : suc (k + n) ≡ k + suc n = omega arith in
    subst (λ i. sum_by literal_size (drop i ls) ≤ sum_by literal_size (drop k ls)) same (omega (arith, one, rest))

consed-size : (o : Option TreeLiteral) (ls : List TreeLiteral) → sum_by literal_size (cons_option o ls) ≡ size-at o + sum_by literal_size ls
consed-size None ls = omega arith
consed-size (Some l) ls = sum_by-cons literal_size l ls

-- literals at rising places are no larger together
rising-size :
    (ls : List TreeLiteral) (k : ℕ) (ks : List ℕ) → rises_from k ks ≡ true → sum_by literal_size (literals_at ls ks) ≤ sum_by literal_size (drop (suc k) ls)
rising-size ls k [] rises = omega arith
rising-size ls k (j ∷ js) rises =
    let both = and_parts (nat_lt k j) (rises_from j js) rises in
    let less : k < j = ltb-true k j both.0 in
    let rest = rising-size ls j js both.1 in
    let whole : sum_by literal_size (literals_at ls (j ∷ js)) ≡ size-at (slice_get ls j) + sum_by literal_size (literals_at ls js) =
    consed-size (slice_get ls j) (literals_at ls js) in
    let here = left-size ls j in
    let place : suc k + (j - suc k) ≡ j = omega (arith, less) in
    let later : sum_by literal_size (drop j ls) ≤ sum_by literal_size (drop (suc k) ls) =
    subst (λ i. sum_by literal_size (drop i ls) ≤ sum_by literal_size (drop (suc k) ls)) place (fewer-left ls (suc k) (j - suc k)) in
    omega (arith, whole, rest, here, later)

part-size : (ls : List TreeLiteral) (ks : List ℕ) → is_part ks ≡ true → sum_by literal_size (literals_at ls ks) ≤ sum_by literal_size ls
part-size ls [] h = absurd (true≢false (sym h))
part-size ls (k ∷ ks) h =
    let rest = rising-size ls k ks h in
    let whole : sum_by literal_size (literals_at ls (k ∷ ks)) ≡ size-at (slice_get ls k) + sum_by literal_size (literals_at ls ks) =
    consed-size (slice_get ls k) (literals_at ls ks) in
    let here = left-size ls k in
    let first : 0 + k ≡ k = omega arith in
    let all : sum_by literal_size (drop k ls) ≤ sum_by literal_size ls =
    subst (λ i. sum_by literal_size (drop i ls) ≤ sum_by literal_size ls) first (fewer-left ls 0 k) in
    omega (arith, whole, rest, here, all)

-- a part has a literal
pub some-literals :
    (ls : List TreeLiteral) (ks : List ℕ)
    → is_part ks ≡ true → ((j : ℕ) → has_number j ks ≡ true → j < length ls) → length (literals_at ls ks) ≡ 0 → ⊥
some-literals ls [] part inside none = true≢false (sym part)
some-literals ls (k ∷ ks) part inside none =
    let at = item-at ls k (inside k (or_left (k == k) (has_number k ks) (eq-eqb k k refl))) in
    let whole : literals_at ls (k ∷ ks) ≡ at.0 ∷ literals_at ls ks = ap (λ (o : Option TreeLiteral). cons_option o (literals_at ls ks)) at.1 in
    let count : suc (length (literals_at ls ks)) ≡ 0 = sym (ap length whole) ∙ none in
    absurd (omega (arith, count))

-- the places of the components are those of the literals
pub places-inside : (ls : List TreeLiteral) (j : ℕ) → has_number j (flat_map (λ ks. ks) (components_of ls)) ≡ true → j < length ls
places-inside ls j there =
    let all = shared ls (components_of ls) (computed-finest ls) in none-past (length ls) (flat_map (λ ks. ks) (components_of ls)) j all.0 all.1 there

-- ---- parts

module _ (usage : SymbolUse) (inputs : List TreeClause) where
  pub record IsPart (part : List TreeLiteral) : Type 0 where
    pub some : length part ≡ 0 → ⊥
    pub canonical : IsCanonical (under_names part [])
    pub small : sum_by literal_size part ≤ MOST_SYMBOLS
    pub formed : are_literals_of usage part ≡ true
    pub passes :
        (test : ℕ → ℕ → Bool)
        → test true_symbol 0 ≡ true → list_all (clause_symbols_pass test) inputs ≡ true → list_all (literal_symbols_pass test) part ≡ true

  pub one-part :
      (ls : List TreeLiteral) (ks : List ℕ)
      → sum_by literal_size ls ≤ MOST_SYMBOLS → are_literals_of usage ls ≡ true
      → ((test : ℕ → ℕ → Bool)
      → test true_symbol 0 ≡ true → list_all (clause_symbols_pass test) inputs ≡ true → list_all (literal_symbols_pass test) ls ≡ true)
      → is_part ks ≡ true → (length (literals_at ls ks) ≡ 0 → ⊥) → IsPart (canonical_literals (literals_at ls ks))
  one-part ls ks small formed passes part some =
      let c : TreeClause = under_names (literals_at ls ks) [] in
      let σ : Substitution = canonical_renaming c in
      record {
        some = λ none. some (sym (lengths σ (literals_at ls ks)) ∙ none);
        canonical = canonical_forms_are_canonical c;
        small =
            (let less = part-size ls ks part in
            let same : clause_size (canonical_clause c) ≡ clause_size c = canonical_forms_keep_sizes c in
            omega (arith, less, same, small));
        formed =
            well_formed_instances usage σ (literals_at ls ks) (λ v. refl) (at-places-pass (is_literal_of usage) ls ks formed);
        passes =
            λ test truth pass.
            renamed-pass test (distinct (clause_variables c)) (literals_at ls ks) (at-places-pass (literal_symbols_pass test) ls ks (passes test truth pass));
      }
    where
      lengths : (σ : Substitution) (ks : List TreeLiteral) → length (map (literal_instance σ) ks) ≡ length ks
      lengths σ [] = refl
      lengths σ (k ∷ ks) = ap suc (lengths σ ks)
