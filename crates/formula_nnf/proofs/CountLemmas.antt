-- How many clauses the work on a formula gives.
use Rattle.std.proofs.Common.{◌≡◌, ℕ, suc, ◌+◌, ◌*◌, ◌<◌, ◌≤◌, min, max, Bool, true, false, not, List, [], ◌∷◌, ◌++◌, length, map, refl, ap, sym, ◌∙◌, arith, ltb-true, ltb-false}
use Rattle.std.specs.Prelude.{nat_lt, if◌then◌else◌}
use Rattle.tptp_tree.specs.Formula.{implies, implied, equivalent, different, nor, nand, FormulaTree, truth, falsity, predicate, equation, negation, conjunction, disjunction, connected, quantified, FormulaTrees, no_formulas, formula_then}
use Rattle.signature.specs.Environment.{Environment, free_names}
use Rattle.signature.specs.Clausal.{SymbolNumbers, Made, Worked, Scope, Literals, Work, all_pairs, is_large_count, is_large, named, product, joined, truth_value, with_variables, with_skolem_terms, scope_of, makes_variables, clauses_of, listed_clauses, product_clauses}
use Rattle.formula_nnf.specs.ClauseCount.{ClauseCount, product_count, joined_count, plain_count, constant_count, clause_counts, listed_counts, product_counts}
use Rattle.formula_nnf.specs.ClauseCountLaws.{IsCounted, ClausesAreCounted}
use Rattle.list_lemmas.proofs.Lists.{length-joined, length-mapped}

pairs-count : (first second : List Literals) → length (all_pairs first second) ≡ length first * length second
pairs-count [] second = omega arith
pairs-count (c ∷ first) second =
    let all : length (all_pairs (c ∷ first) second) ≡ length (map (λ d. c ++ d) second) + length (all_pairs first second) =
    length-joined (map (λ d. c ++ d) second) (all_pairs first second) in
    all ∙ ap (λ k. k + length (all_pairs first second)) (length-mapped (λ d. c ++ d) second)
    ∙ ap (λ k. length second + k) (pairs-count first second) ∙ step (length first) (length second)
  where
    step : (a b : ℕ) → b + a * b ≡ suc a * b
    step a b = omega arith

times-one : (a : ℕ) → a * 1 ≡ a
times-one a = omega arith

one-times : (a : ℕ) → 1 * a ≡ a
one-times a = omega arith

smaller : (a b : ℕ) → a < b → a ≡ min a b
smaller a b h = omega (arith, h)

larger : (a b : ℕ) → a < b → b ≡ (0 + 0) + max a b
larger a b h = omega (arith, h)

smaller_second : (a b : ℕ) → b ≤ a → b ≡ min a b
smaller_second a b h = omega (arith, h)

larger_first : (a b : ℕ) → b ≤ a → a ≡ (0 + 0) + max a b
larger_first a b h = omega (arith, h)

-- what a product of that many clauses comes to
abbrev bare : ℕ → ℕ → ClauseCount
bare a b = product_count (plain_count a) (plain_count b)

product-lengths :
    (n : SymbolNumbers) (began : ℕ) (first second : List Literals) (m : Made)
    → IsCounted (product n began first second m) m (bare (length first) (length second))
product-lengths n began first second m =
    by (is_large first second) (nat_lt (length first) (length second)) refl
  where
    by :
        (t u : Bool) → nat_lt (length first) (length second) ≡ u
        → (let r : Worked =
        (if not t then record { clauses = all_pairs first second; made = m }
        else if u then
        (let w : Worked = named n began second m in record { clauses = all_pairs first w.clauses; made = w.made })
        else (let w : Worked = named n began first m in record { clauses = all_pairs w.clauses second; made = w.made })) in
        let c : ClauseCount =
        (if t then record { clauses = min (length first) (length second); defining = (0 + 0) + max (length first) (length second) }
        else record { clauses = length first * length second; defining = 0 + 0 }) in
        IsCounted r m c)
    by false u e = record { clauses = pairs-count first second; defining = omega arith }
    by true true e =
        let w : Worked = named n began second m in
        let less : length first < length second = ltb-true (length first) (length second) e in
        record {
          clauses = pairs-count first w.clauses ∙ times-one (length first) ∙ smaller (length first) (length second) less;
          defining = length-joined m.defining _ ∙ ap (λ k. length m.defining + k) (length-mapped _ second ∙ larger (length first) (length second) less);
        }
    by true false e =
        let w : Worked = named n began first m in
        let most : length second ≤ length first = ltb-false (length first) (length second) e in
        record {
          clauses = pairs-count w.clauses second ∙ one-times (length second) ∙ smaller_second (length first) (length second) most;
          defining = length-joined m.defining _ ∙ ap (λ k. length m.defining + k) (length-mapped _ first ∙ larger_first (length first) (length second) most);
        }

-- the clauses that define the operands' names are added
product-parts :
    (a b : ClauseCount)
    → ((product_count a b).clauses ≡ (bare a.clauses b.clauses).clauses)
    × ((product_count a b).defining ≡ (a.defining + b.defining) + (bare a.clauses b.clauses).defining)
product-parts a b = by (is_large_count a.clauses b.clauses)
  where
    by :
        (t : Bool)
        → (let c : ClauseCount =
        (if t then record { clauses = min a.clauses b.clauses; defining = (a.defining + b.defining) + max a.clauses b.clauses }
        else record { clauses = a.clauses * b.clauses; defining = a.defining + b.defining }) in
        let d : ClauseCount =
        (if t then record { clauses = min a.clauses b.clauses; defining = (0 + 0) + max a.clauses b.clauses }
        else record { clauses = a.clauses * b.clauses; defining = 0 + 0 }) in
        (c.clauses ≡ d.clauses) × (c.defining ≡ (a.defining + b.defining) + d.defining))
    by true = (refl, omega arith)
    by false = (refl, omega arith)

-- a product of lists that are counted
product-counted :
    (n : SymbolNumbers) (began : ℕ) (first second : List Literals) (m start : Made) (a b : ClauseCount)
    → length first ≡ a.clauses → length second ≡ b.clauses → length m.defining ≡ length start.defining + (a.defining + b.defining)
    → IsCounted (product n began first second m) start (product_count a b)
product-counted n began first second m start a b h k d =
    let l : IsCounted (product n began first second m) m (bare (length first) (length second)) = product-lengths n began first second m in
    let same : bare (length first) (length second) ≡ bare a.clauses b.clauses = ap (λ x. bare x (length second)) h ∙ ap (bare a.clauses) k in
    let parts : ((product_count a b).clauses ≡ (bare a.clauses b.clauses).clauses)
    × ((product_count a b).defining ≡ (a.defining + b.defining) + (bare a.clauses b.clauses).defining) = product-parts a b in
    record {
      clauses = l.clauses ∙ ap (λ (c : ClauseCount). c.clauses) same ∙ sym parts.0;
      defining = omega (arith, l.defining, ap (λ (c : ClauseCount). c.defining) same, parts.1, d);
    }

abbrev Counts : Work → ClauseCount → Type 0
Counts work c = (m : Made) → IsCounted (work m) m c

joined-counted :
    (n : SymbolNumbers) (listed : Bool) (first second : Work) (a b : ClauseCount)
    → Counts first a → Counts second b → Counts (joined n listed first second) (joined_count listed a b)
joined-counted n true first second a b f g m =
    record {
      clauses = omega (arith, length-joined (first m).clauses (second (first m).made).clauses, (f m).clauses, (g (first m).made).clauses);
      defining = omega (arith, (f m).defining, (g (first m).made).defining);
    }
joined-counted n false first second a b f g m =
    product-counted n m.variables (first m).clauses (second (first m).made).clauses (second (first m).made).made m a b
    (f m).clauses (g (first m).made).clauses (omega (arith, (f m).defining, (g (first m).made).defining))

variables-made : (xs : List (List ℕ)) (env : Environment) (m : Made) → (with_variables xs env m).made.defining ≡ m.defining
variables-made [] env m = refl
variables-made (x ∷ xs) env m = variables-made xs _ _

terms-made : (n : SymbolNumbers) (free xs : List (List ℕ)) (env : Environment) (m : Made) → (with_skolem_terms n free xs env m).made.defining ≡ m.defining
terms-made n free [] env m = refl
terms-made n free (x ∷ xs) env m = terms-made n free xs _ _

scope-made :
    (n : SymbolNumbers) (new : Bool) (xs : List (List ℕ)) (f : FormulaTree) (env : Environment) (m : Made)
    → (scope_of n new xs f env m).made.defining ≡ m.defining
scope-made n true xs f env m = variables-made xs env m
scope-made n false xs f env m = terms-made n (free_names f) xs env m

constant-counted : (sign : Bool) → Counts (truth_value sign) (constant_count sign)
constant-counted true m = record { clauses = refl; defining = omega arith }
constant-counted false m = record { clauses = refl; defining = omega arith }

mutual
  clauses-counted : (n : SymbolNumbers) (f : FormulaTree) (sign : Bool) (env : Environment) → Counts (clauses_of n f sign env) (clause_counts f sign)
  clauses-counted n truth sign env m = constant-counted sign m
  clauses-counted n falsity sign env m = constant-counted (not sign) m
  clauses-counted n (predicate p ts) sign env m = record { clauses = refl; defining = omega arith }
  clauses-counted n (equation positive s t) sign env m = record { clauses = refl; defining = omega arith }
  clauses-counted n (negation f) sign env m = clauses-counted n f (not sign) env m
  clauses-counted n (conjunction fs) true env m = listed-counted n fs true env m
  clauses-counted n (conjunction fs) false env m = products-counted n m.variables ([] ∷ []) (plain_count 1) fs false env m m refl (omega arith)
  clauses-counted n (disjunction fs) true env m = products-counted n m.variables ([] ∷ []) (plain_count 1) fs true env m m refl (omega arith)
  clauses-counted n (disjunction fs) false env m = listed-counted n fs false env m
  clauses-counted n (connected implies f g) sign env m =
      joined-counted n (not sign) (clauses_of n f (not sign) env) (clauses_of n g sign env) (clause_counts f (not sign)) (clause_counts g sign) (clauses-counted n f (not sign) env) (clauses-counted n g sign env) m
  clauses-counted n (connected implied f g) sign env m =
      joined-counted n (not sign) (clauses_of n f sign env) (clauses_of n g (not sign) env) (clause_counts f sign) (clause_counts g (not sign)) (clauses-counted n f sign env) (clauses-counted n g (not sign) env) m
  clauses-counted n (connected nor f g) sign env m =
      joined-counted n sign (clauses_of n f (not sign) env) (clauses_of n g (not sign) env) (clause_counts f (not sign)) (clause_counts g (not sign)) (clauses-counted n f (not sign) env) (clauses-counted n g (not sign) env) m
  clauses-counted n (connected nand f g) sign env m =
      joined-counted n (not sign) (clauses_of n f (not sign) env) (clauses_of n g (not sign) env) (clause_counts f (not sign)) (clause_counts g (not sign)) (clauses-counted n f (not sign) env) (clauses-counted n g (not sign) env) m
  clauses-counted n (connected equivalent f g) sign env m =
      joined-counted n true (joined n false (clauses_of n f (not sign) env) (clauses_of n g true env)) (joined n false (clauses_of n f sign env) (clauses_of n g false env))
      (joined_count false (clause_counts f (not sign)) (clause_counts g true)) (joined_count false (clause_counts f sign) (clause_counts g false))
      (joined-counted n false (clauses_of n f (not sign) env) (clauses_of n g true env) (clause_counts f (not sign)) (clause_counts g true) (clauses-counted n f (not sign) env) (clauses-counted n g true env))
      (joined-counted n false (clauses_of n f sign env) (clauses_of n g false env) (clause_counts f sign) (clause_counts g false) (clauses-counted n f sign env) (clauses-counted n g false env)) m
  clauses-counted n (connected different f g) sign env m =
      joined-counted n true (joined n false (clauses_of n f sign env) (clauses_of n g true env)) (joined n false (clauses_of n f (not sign) env) (clauses_of n g false env))
      (joined_count false (clause_counts f sign) (clause_counts g true)) (joined_count false (clause_counts f (not sign)) (clause_counts g false))
      (joined-counted n false (clauses_of n f sign env) (clauses_of n g true env) (clause_counts f sign) (clause_counts g true) (clauses-counted n f sign env) (clauses-counted n g true env))
      (joined-counted n false (clauses_of n f (not sign) env) (clauses_of n g false env) (clause_counts f (not sign)) (clause_counts g false) (clauses-counted n f (not sign) env) (clauses-counted n g false env)) m
  clauses-counted n (quantified q xs f) sign env m =
      let s : Scope = scope_of n (makes_variables q sign) xs f env m in
      let inner : IsCounted (clauses_of n f sign s.environment s.made) s.made (clause_counts f sign) =
      clauses-counted n f sign s.environment s.made in
      let kept : length s.made.defining ≡ length m.defining = ap length (scope-made n (makes_variables q sign) xs f env m) in
      record { clauses = inner.clauses; defining = omega (arith, inner.defining, kept) }

  listed-counted : (n : SymbolNumbers) (fs : FormulaTrees) (sign : Bool) (env : Environment) → Counts (listed_clauses n fs sign env) (listed_counts fs sign)
  listed-counted n no_formulas sign env m = record { clauses = refl; defining = omega arith }
  listed-counted n (formula_then f fs) sign env m =
      joined-counted n true (clauses_of n f sign env) (listed_clauses n fs sign env) (clause_counts f sign) (listed_counts fs sign)
      (clauses-counted n f sign env) (listed-counted n fs sign env) m

  products-counted :
      (n : SymbolNumbers) (began : ℕ) (cs : List Literals) (a : ClauseCount) (fs : FormulaTrees) (sign : Bool) (env : Environment) (m start : Made)
      → length cs ≡ a.clauses → length m.defining ≡ length start.defining + a.defining
      → IsCounted (product_clauses n began cs fs sign env m) start (product_counts a fs sign)
  products-counted n began cs a no_formulas sign env m start h d = record { clauses = h; defining = d }
  products-counted n began cs a (formula_then f fs) sign env m start h d =
      let w : Worked = clauses_of n f sign env m in
      let c : IsCounted w m (clause_counts f sign) = clauses-counted n f sign env m in
      let v : Worked = product n began cs w.clauses w.made in
      let p : IsCounted v start (product_count a (clause_counts f sign)) =
      product-counted n began cs w.clauses w.made start a (clause_counts f sign) h c.clauses (omega (arith, c.defining, d)) in
      products-counted n began v.clauses (product_count a (clause_counts f sign)) fs sign env v.made start p.clauses p.defining

pub clauses_are_counted : ClausesAreCounted
clauses_are_counted n f sign env m = clauses-counted n f sign env m
