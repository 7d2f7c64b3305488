-- A literal goes: the clause becomes smaller, its rank doesn't grow, and it has no new symbols.
use Rattle.std.proofs.Common.{◌≡◌, ℕ, zero, suc, ◌+◌, ◌<◌, ◌≤◌, Bool, true, List, [], ◌∷◌, Some, refl, ap, sym, ◌∙◌, subst, arith}
use Rattle.std.specs.Prelude.{remove, slice_get, sum_by}
use Rattle.std.specs.List.{list_all}
use Rattle.std.proofs.lemmas.Bool.{and_from, and_parts}
use Rattle.std.proofs.lemmas.List.Sums.{sum_by-cons}
use Rattle.std.proofs.lemmas.Option.{none-some, same_Some}
use Rattle.fol_base.specs.Tree.{Tree, variable, application, Trees, no_trees, tree_then, trees_count}
use Rattle.fol_base.specs.Instance.{instance, instances}
use Rattle.fol_base.specs.Clause.{TreeLiteral, TreeClause, clause_size, clause_variables, literal_instance, literal_size}
use Rattle.fol_base.specs.Canonical.{IsCanonical, canonical_clause, canonical_renaming, distinct, renaming}
use Rattle.fol_base.specs.Ground.{literals_instance}
use Rattle.fol_base.specs.WellFormed.{SymbolUse, are_literals_of, is_literal_of}
use Rattle.fol_base.proofs.AboutCanonical.CanonicalLemmas.{canonical_forms_are_canonical, canonical_forms_keep_sizes}
use Rattle.fol_base.proofs.AboutInstances.InstanceLemmas.{trees_count-instances}
use Rattle.fol_base.proofs.WorkedExamples.TestLemmas.{list_all-remove}
use Rattle.fol_base.proofs.AboutTerms.TreeLemmas.{tree_size-positive}
use Rattle.fol_base.proofs.AboutTerms.WellFormedLemmas.{well_formed_instances}
use Rattle.kernel_steps.specs.Symbols.{symbols_pass, all_symbols_pass, literal_symbols_pass, clause_symbols_pass}
use Rattle.demodulate.specs.Rank.{RanksKept, clause_rank, literal_rank}

-- the canonical form of a clause without one literal
pub record Shortens (c d : TreeClause) : Type 0 where
  pub j : ℕ
  pub literal : TreeLiteral
  pub there : slice_get c.literals j ≡ Some literal
  pub result : TreeClause
  pub literals : remove c.literals j ≡ result.literals
  pub names : result.names ≡ c.names
  pub canonical : d ≡ canonical_clause result

-- ---- sums

sum-removed :
    (measure : TreeLiteral → ℕ) (ls : List TreeLiteral) (j : ℕ) (l : TreeLiteral)
    → slice_get ls j ≡ Some l → measure l + sum_by measure (remove ls j) ≡ sum_by measure ls
sum-removed measure [] j l there = absurd (none-some l there)
sum-removed measure (k ∷ ks) zero l there =
    let first = sum_by-cons measure k ks in
    let same : measure k ≡ measure l = ap measure (same_Some k l there) in
    omega (arith, first, same)
sum-removed measure (k ∷ ks) (suc j) l there =
    let first = sum_by-cons measure k ks in
    let left : sum_by measure (remove (k ∷ ks) (suc j)) ≡ measure k + sum_by measure (remove ks j) = sum_by-cons measure k (remove ks j) in
    let rest = sum-removed measure ks j l there in
    omega (arith, first, left, rest)

-- ---- symbols under other numbers of the variables

mutual
  renamed-passes :
      (test : ℕ → ℕ → Bool) (order : List ℕ) (t : Tree) → symbols_pass test t ≡ true → symbols_pass test (instance (renaming order) t) ≡ true
  renamed-passes test order (variable v) h = refl
  renamed-passes test order (application f ts) h =
      let both = and_parts (test f (trees_count ts)) (all_symbols_pass test ts) h in
      and_from (test f (trees_count (instances (renaming order) ts))) (all_symbols_pass test (instances (renaming order) ts))
      (ap (test f) (trees_count-instances (renaming order) ts) ∙ both.0)
      (all_renamed-pass test order ts both.1)

  all_renamed-pass :
      (test : ℕ → ℕ → Bool) (order : List ℕ) (ts : Trees)
      → all_symbols_pass test ts ≡ true → all_symbols_pass test (instances (renaming order) ts) ≡ true
  all_renamed-pass test order no_trees h = refl
  all_renamed-pass test order (tree_then t ts) h =
      let both = and_parts (symbols_pass test t) (all_symbols_pass test ts) h in
      and_from (symbols_pass test (instance (renaming order) t)) (all_symbols_pass test (instances (renaming order) ts))
      (renamed-passes test order t both.0) (all_renamed-pass test order ts both.1)

literals_renamed-pass :
    (test : ℕ → ℕ → Bool) (order : List ℕ) (ls : List TreeLiteral)
    → list_all (literal_symbols_pass test) ls ≡ true → list_all (literal_symbols_pass test) (literals_instance (renaming order) ls) ≡ true
literals_renamed-pass test order [] h = refl
literals_renamed-pass test order (l ∷ ls) h =
    let both = and_parts (literal_symbols_pass test l) (list_all (literal_symbols_pass test) ls) h in
    let sides = and_parts (symbols_pass test l.left) (symbols_pass test l.right) both.0 in
    and_from (literal_symbols_pass test (literal_instance (renaming order) l)) (list_all (literal_symbols_pass test) (literals_instance (renaming order) ls))
    (and_from (symbols_pass test (instance (renaming order) l.left)) (symbols_pass test (instance (renaming order) l.right))
    (renamed-passes test order l.left sides.0) (renamed-passes test order l.right sides.1))
    (literals_renamed-pass test order ls both.1)

-- ---- what is kept, and what falls

module _ (c d : TreeClause) (s : Shortens c d) where
  abbrev left : List TreeLiteral
  left = remove c.literals s.j

  pub shorter-canonical : IsCanonical d
  shorter-canonical = subst IsCanonical (sym s.canonical) (canonical_forms_are_canonical s.result)

  pub shorter-names : d.names ≡ c.names
  shorter-names = ap (λ (e : TreeClause). e.names) s.canonical ∙ s.names

  pub shorter-size : clause_size d < clause_size c
  shorter-size =
      let whole = sum-removed literal_size c.literals s.j s.literal s.there in
      let kept : clause_size d ≡ clause_size s.result = ap clause_size s.canonical ∙ canonical_forms_keep_sizes s.result in
      let same : sum_by literal_size left ≡ clause_size s.result = ap (sum_by literal_size) s.literals in
      let some = tree_size-positive s.literal.left in
      omega (arith, whole, kept, same, some)

  pub shorter-rank : RanksKept → (bound n : ℕ) → clause_rank bound n d ≤ clause_rank bound n c
  shorter-rank law bound n =
      let whole = sum-removed (literal_rank bound n) c.literals s.j s.literal s.there in
      let kept : clause_rank bound n d ≡ clause_rank bound n s.result = ap (clause_rank bound n) s.canonical ∙ law bound n s.result in
      let same : sum_by (literal_rank bound n) left ≡ clause_rank bound n s.result = ap (sum_by (literal_rank bound n)) s.literals in
      omega (arith, whole, kept, same)

  pub shorter-passes : (test : ℕ → ℕ → Bool) → clause_symbols_pass test c ≡ true → clause_symbols_pass test d ≡ true
  shorter-passes test h =
      ap (clause_symbols_pass test) s.canonical
      ∙ literals_renamed-pass test (distinct (clause_variables s.result)) s.result.literals
      (ap (list_all (literal_symbols_pass test)) (sym s.literals) ∙ list_all-remove (literal_symbols_pass test) c.literals s.j h)

  pub shorter-formed : (usage : SymbolUse) → are_literals_of usage c.literals ≡ true → are_literals_of usage d.literals ≡ true
  shorter-formed usage h =
      ap (λ (e : TreeClause). are_literals_of usage e.literals) s.canonical
      ∙ well_formed_instances usage (canonical_renaming s.result) s.result.literals (λ v. refl)
      (ap (are_literals_of usage) (sym s.literals) ∙ list_all-remove (is_literal_of usage) c.literals s.j h)
