-- A literal that is too heavy, in a part that has clauses, makes a clause of the formula too heavy: one of its own, or one that defines a name.
use Rattle.std.proofs.Common.{◌≡◌, ℕ, ◌+◌, ◌<◌, ◌≤◌, ◌⊎◌, inl, inr, Bool, true, false, not, ◌&&◌, ◌||◌, List, [], ◌∷◌, ◌++◌, map, length, refl, ap, ◌∙◌, arith}
use Rattle.std.specs.Prelude.{nat_lt, if◌then◌else◌}
use Rattle.std.specs.List.{list_any}
use Rattle.std.proofs.lemmas.Bool.{and_parts, ltb-true, lt-ltb}
use Rattle.std.proofs.lemmas.List.Folds.{list_any-append}
use Rattle.std.proofs.lemmas.List.Sums.{sum_by-append}
use Rattle.tptp_tree.specs.Term.{TermTree, variable, application, TermTrees, no_terms, term_then, term_size, terms_size}
use Rattle.tptp_tree.specs.Formula.{FormulaTree, truth, falsity, predicate, equation, negation, conjunction, disjunction, connected, quantified, FormulaTrees, no_formulas, formula_then}
use Rattle.fol_base.specs.Tree.{tree_size, trees_size}
use Rattle.fol_base.specs.Clause.{TreeLiteral, literal_size}
use Rattle.fol_base.specs.declared.limits.TheConstants.{MOST_SYMBOLS}
use Rattle.fol_base.proofs.AboutTerms.TreeLemmas.{tree_size-positive}
use Rattle.signature.specs.declared.symbol.Symbol.{Symbol}
use Rattle.signature.specs.Environment.{Environment, term_in_force, term_under, terms_under}
use Rattle.signature.specs.Clausal.{SymbolNumbers, Made, Worked, Scope, Literals, all_pairs, is_large, named, product, scope_of, makes_variables}
use Rattle.skolem.specs.Matrix.{MatrixTree, truth as true_matrix, falsity as false_matrix, literal, conjunction as all_of, disjunction as some_of, MatrixTrees, no_matrices, matrix_then}
use Rattle.skolem.specs.MatrixClauses.{matrix_clauses, listed_matrices, product_of_matrices}
use Rattle.skolem.specs.Skolemized.{Skolemized, skolemized, skolemized_list}
use Rattle.skolem.specs.SkolemizedLaws.{is_predicate}
use Rattle.skolem.specs.Heavy.{has_clauses, some_have_clauses, all_have_clauses, heavy_matrix, some_heavy, all_forms_have_clauses}
use Rattle.clausal_form.specs.Heavy.{heavy_form, some_heavy_form}
use Rattle.clausal_form.specs.Measure.{literals_size, largest}
use Rattle.skolem.proofs.AboutFormulas.HeavyLemmas.{all-forms-have}
use Rattle.clausal_form.proofs.AboutNaming.OccurringLemmas.{is_some, some-append, some-pairs}
use Rattle.list_lemmas.proofs.Bools.{or-second, or-first, or-either}

-- ---- heavy clauses

abbrev heavy_clause : Literals → Bool
heavy_clause c = nat_lt MOST_SYMBOLS (literals_size c)

abbrev any_heavy : List Literals → Bool
any_heavy cs = list_any heavy_clause cs

heavy-before : (c d : Literals) → heavy_clause c ≡ true → heavy_clause (c ++ d) ≡ true
heavy-before c d h = lt-ltb MOST_SYMBOLS (literals_size (c ++ d)) (omega (arith, ltb-true MOST_SYMBOLS (literals_size c) h, sum_by-append literal_size c d))

heavy-behind : (c d : Literals) → heavy_clause d ≡ true → heavy_clause (c ++ d) ≡ true
heavy-behind c d h = lt-ltb MOST_SYMBOLS (literals_size (c ++ d)) (omega (arith, ltb-true MOST_SYMBOLS (literals_size d) h, sum_by-append literal_size c d))

heavy-first-list : (cs ds : List Literals) → any_heavy cs ≡ true → any_heavy (cs ++ ds) ≡ true
heavy-first-list cs ds h = list_any-append heavy_clause cs ds ∙ or-first (any_heavy cs) (any_heavy ds) h

heavy-second-list : (cs ds : List Literals) → any_heavy ds ≡ true → any_heavy (cs ++ ds) ≡ true
heavy-second-list cs ds h = list_any-append heavy_clause cs ds ∙ or-second (any_heavy cs) (any_heavy ds) h

-- a clause before each of some
each-heavy : (c : Literals) (ds : List Literals) → heavy_clause c ≡ true → is_some ds ≡ true → any_heavy (map (λ d. c ++ d) ds) ≡ true
each-heavy c [] h k = cc
each-heavy c (d ∷ ds) h k = or-first (heavy_clause (c ++ d)) (any_heavy (map (λ e. c ++ e) ds)) (heavy-before c d h)

one-heavy : (c : Literals) (ds : List Literals) → any_heavy ds ≡ true → any_heavy (map (λ d. c ++ d) ds) ≡ true
one-heavy c [] h = cc
one-heavy c (d ∷ ds) h = by (or-either (heavy_clause d) (any_heavy ds) h) (one-heavy c ds)
  where
    by :
        (heavy_clause d ≡ true) ⊎ (any_heavy ds ≡ true) → (any_heavy ds ≡ true → any_heavy (map (λ e. c ++ e) ds) ≡ true)
        → any_heavy (map (λ e. c ++ e) (d ∷ ds)) ≡ true
    by (inl k) f = or-first (heavy_clause (c ++ d)) (any_heavy (map (λ e. c ++ e) ds)) (heavy-behind c d k)
    by (inr k) f = or-second (heavy_clause (c ++ d)) (any_heavy (map (λ e. c ++ e) ds)) (f k)

pairs-by-first : (cs ds : List Literals) → any_heavy cs ≡ true → is_some ds ≡ true → any_heavy (all_pairs cs ds) ≡ true
pairs-by-first [] ds h k = cc
pairs-by-first (c ∷ cs) ds h k = by (or-either (heavy_clause c) (any_heavy cs) h) (λ g. pairs-by-first cs ds g k)
  where
    by :
        (heavy_clause c ≡ true) ⊎ (any_heavy cs ≡ true) → (any_heavy cs ≡ true → any_heavy (all_pairs cs ds) ≡ true)
        → any_heavy (all_pairs (c ∷ cs) ds) ≡ true
    by (inl g) f = heavy-first-list (map (λ d. c ++ d) ds) (all_pairs cs ds) (each-heavy c ds g k)
    by (inr g) f = heavy-second-list (map (λ d. c ++ d) ds) (all_pairs cs ds) (f g)

pairs-by-second : (cs ds : List Literals) → is_some cs ≡ true → any_heavy ds ≡ true → any_heavy (all_pairs cs ds) ≡ true
pairs-by-second [] ds h k = cc
pairs-by-second (c ∷ cs) ds h k = heavy-first-list (map (λ d. c ++ d) ds) (all_pairs cs ds) (one-heavy c ds k)

behind-name : (l : TreeLiteral) (cs : List Literals) → any_heavy cs ≡ true → any_heavy (map (λ c. l ∷ c) cs) ≡ true
behind-name l cs h = one-heavy (l ∷ []) cs h

-- ---- products

-- a heavy clause among those of a work, or among the ones that define names
abbrev HeavyWork : Worked → Type 0
HeavyWork w = (any_heavy w.clauses ≡ true) ⊎ (any_heavy w.made.defining ≡ true)

abbrev product_by : SymbolNumbers → ℕ → List Literals → List Literals → Bool → Bool → Made → Worked
product_by n began first second large longer m =
    if not large then record { clauses = all_pairs first second; made = m }
    else if longer then
    (let w : Worked = named n began second m in record { clauses = all_pairs first w.clauses; made = w.made })
    else (let w : Worked = named n began first m in record { clauses = all_pairs w.clauses second; made = w.made })

named-keeps : (n : SymbolNumbers) (began : ℕ) (cs : List Literals) (m : Made) → any_heavy m.defining ≡ true → any_heavy (named n began cs m).made.defining ≡ true
named-keeps n began cs m h = heavy-first-list m.defining _ h

named-heavy : (n : SymbolNumbers) (began : ℕ) (cs : List Literals) (m : Made) → any_heavy cs ≡ true → any_heavy (named n began cs m).made.defining ≡ true
named-heavy n began cs m h = heavy-second-list m.defining _ (behind-name _ cs h)

product-keeps :
    (n : SymbolNumbers) (began : ℕ) (cs ds : List Literals) (m : Made)
    → any_heavy m.defining ≡ true → any_heavy (product n began cs ds m).made.defining ≡ true
product-keeps n began cs ds m h = by (is_large cs ds) (nat_lt (length cs) (length ds))
  where
    by : (t u : Bool) → any_heavy (product_by n began cs ds t u m).made.defining ≡ true
    by false u = h
    by true true = named-keeps n began ds m h
    by true false = named-keeps n began cs m h

pub product-some :
    (n : SymbolNumbers) (began : ℕ) (cs ds : List Literals) (m : Made)
    → is_some cs ≡ true → is_some ds ≡ true → is_some (product n began cs ds m).clauses ≡ true
product-some n began cs ds m h k = by (is_large cs ds) (nat_lt (length cs) (length ds))
  where
    both : (t u : Bool) → t ≡ true → u ≡ true → (t && u) ≡ true
    both true u f g = g
    both false u f g = cc

    by : (t u : Bool) → is_some (product_by n began cs ds t u m).clauses ≡ true
    by false u = some-pairs cs ds ∙ both (is_some cs) (is_some ds) h k
    by true true = some-pairs cs (named n began ds m).clauses ∙ both (is_some cs) true h refl
    by true false = some-pairs (named n began cs m).clauses ds ∙ both true (is_some ds) refl k

product-heavy :
    (n : SymbolNumbers) (began : ℕ) (cs ds : List Literals) (m : Made)
    → is_some cs ≡ true → is_some ds ≡ true
    → (any_heavy cs ≡ true) ⊎ ((any_heavy ds ≡ true) ⊎ (any_heavy m.defining ≡ true)) → HeavyWork (product n began cs ds m)
product-heavy n began cs ds m h k g = by (is_large cs ds) (nat_lt (length cs) (length ds)) g
  where
    by :
        (t u : Bool) → (any_heavy cs ≡ true) ⊎ ((any_heavy ds ≡ true) ⊎ (any_heavy m.defining ≡ true))
        → HeavyWork (product_by n began cs ds t u m)
    by false u (inl f) = inl (pairs-by-first cs ds f k)
    by false u (inr (inl f)) = inl (pairs-by-second cs ds h f)
    by false u (inr (inr f)) = inr f
    by true true (inl f) = inl (pairs-by-first cs (named n began ds m).clauses f refl)
    by true true (inr (inl f)) = inr (named-heavy n began ds m f)
    by true true (inr (inr f)) = inr (named-keeps n began ds m f)
    by true false (inl f) = inr (named-heavy n began cs m f)
    by true false (inr (inl f)) = inl (pairs-by-second (named n began cs m).clauses ds refl f)
    by true false (inr (inr f)) = inr (named-keeps n began cs m f)

-- ---- matrices

-- what defines names stays
mutual
  keeps : (n : SymbolNumbers) (x : MatrixTree) (m : Made) → any_heavy m.defining ≡ true → any_heavy (matrix_clauses n x m).made.defining ≡ true
  keeps n true_matrix m h = h
  keeps n false_matrix m h = h
  keeps n (literal l) m h = h
  keeps n (all_of xs) m h = listed-keeps n xs m h
  keeps n (some_of began xs) m h = products-keep n began ([] ∷ []) xs m h

  listed-keeps : (n : SymbolNumbers) (xs : MatrixTrees) (m : Made) → any_heavy m.defining ≡ true → any_heavy (listed_matrices n xs m).made.defining ≡ true
  listed-keeps n no_matrices m h = h
  listed-keeps n (matrix_then x xs) m h = listed-keeps n xs (matrix_clauses n x m).made (keeps n x m h)

  products-keep :
      (n : SymbolNumbers) (began : ℕ) (cs : List Literals) (xs : MatrixTrees) (m : Made)
      → any_heavy m.defining ≡ true → any_heavy (product_of_matrices n began cs xs m).made.defining ≡ true
  products-keep n began cs no_matrices m h = h
  products-keep n began cs (matrix_then x xs) m h =
      let w : Worked = matrix_clauses n x m in
      let v : Worked = product n began cs w.clauses w.made in
      products-keep n began v.clauses xs v.made (product-keeps n began cs w.clauses w.made (keeps n x m h))

-- a matrix has clauses where it is said to
mutual
  pub has-clauses : (n : SymbolNumbers) (x : MatrixTree) (m : Made) → has_clauses x ≡ true → is_some (matrix_clauses n x m).clauses ≡ true
  has-clauses n true_matrix m h = cc
  has-clauses n false_matrix m h = refl
  has-clauses n (literal l) m h = refl
  has-clauses n (all_of xs) m h = some-has-clauses n xs m h
  has-clauses n (some_of began xs) m h = product-has-clauses n began ([] ∷ []) xs m refl h

  some-has-clauses : (n : SymbolNumbers) (xs : MatrixTrees) (m : Made) → some_have_clauses xs ≡ true → is_some (listed_matrices n xs m).clauses ≡ true
  some-has-clauses n no_matrices m h = cc
  some-has-clauses n (matrix_then x xs) m h =
      let w : Worked = matrix_clauses n x m in
      let v : Worked = listed_matrices n xs w.made in
      some-append w.clauses v.clauses
      ∙ either-some (is_some w.clauses) (is_some v.clauses) (or-either (has_clauses x) (some_have_clauses xs) h) (has-clauses n x m) (some-has-clauses n xs w.made)
    where
      either-some :
          (t u : Bool) → (has_clauses x ≡ true) ⊎ (some_have_clauses xs ≡ true) → (has_clauses x ≡ true → t ≡ true) → (some_have_clauses xs ≡ true → u ≡ true)
          → (t || u) ≡ true
      either-some t u (inl k) f g = or-first t u (f k)
      either-some t u (inr k) f g = or-second t u (g k)

  product-has-clauses :
      (n : SymbolNumbers) (began : ℕ) (cs : List Literals) (xs : MatrixTrees) (m : Made)
      → is_some cs ≡ true → all_have_clauses xs ≡ true → is_some (product_of_matrices n began cs xs m).clauses ≡ true
  product-has-clauses n began cs no_matrices m h k = h
  product-has-clauses n began cs (matrix_then x xs) m h k =
      let w : Worked = matrix_clauses n x m in
      let v : Worked = product n began cs w.clauses w.made in
      product-has-clauses n began v.clauses xs v.made
      (product-some n began cs w.clauses w.made h (has-clauses n x m (and_parts (has_clauses x) (all_have_clauses xs) k).0))
      (and_parts (has_clauses x) (all_have_clauses xs) k).1

mutual
  heavy-work : (n : SymbolNumbers) (x : MatrixTree) (m : Made) → heavy_matrix x ≡ true → HeavyWork (matrix_clauses n x m)
  heavy-work n true_matrix m h = cc
  heavy-work n false_matrix m h = cc
  heavy-work n (literal l) m h = inl (or-first (heavy_clause (l ∷ [])) false (alone l h))
    where
      alone : (k : TreeLiteral) → nat_lt MOST_SYMBOLS (literal_size k) ≡ true → heavy_clause (k ∷ []) ≡ true
      alone k g = lt-ltb MOST_SYMBOLS (literals_size (k ∷ [])) (omega (arith, ltb-true MOST_SYMBOLS (literal_size k) g))
  heavy-work n (all_of xs) m h = heavy-listed n xs m h
  heavy-work n (some_of began xs) m h =
      let parts : (all_have_clauses xs ≡ true) × (some_heavy xs ≡ true) = and_parts (all_have_clauses xs) (some_heavy xs) h in
      heavy-product n began ([] ∷ []) xs m refl parts.0 (inr (inl parts.1))

  heavy-listed : (n : SymbolNumbers) (xs : MatrixTrees) (m : Made) → some_heavy xs ≡ true → HeavyWork (listed_matrices n xs m)
  heavy-listed n no_matrices m h = cc
  heavy-listed n (matrix_then x xs) m h =
      let w : Worked = matrix_clauses n x m in
      after w (listed_matrices n xs w.made) (or-either (heavy_matrix x) (some_heavy xs) h) (heavy-work n x m)
      (heavy-listed n xs w.made) (listed-keeps n xs w.made)
    where
      after :
          (w v : Worked) → (heavy_matrix x ≡ true) ⊎ (some_heavy xs ≡ true)
          → (heavy_matrix x ≡ true → HeavyWork w) → (some_heavy xs ≡ true → HeavyWork v)
          → (any_heavy w.made.defining ≡ true → any_heavy v.made.defining ≡ true)
          → HeavyWork (record { clauses = w.clauses ++ v.clauses; made = v.made })
      after w v (inl k) f g p = first (f k)
        where
          first : HeavyWork w → HeavyWork (record { clauses = w.clauses ++ v.clauses; made = v.made })
          first (inl e) = inl (heavy-first-list w.clauses v.clauses e)
          first (inr e) = inr (p e)
      after w v (inr k) f g p = second (g k)
        where
          second : HeavyWork v → HeavyWork (record { clauses = w.clauses ++ v.clauses; made = v.made })
          second (inl e) = inl (heavy-second-list w.clauses v.clauses e)
          second (inr e) = inr e

  heavy-product :
      (n : SymbolNumbers) (began : ℕ) (cs : List Literals) (xs : MatrixTrees) (m : Made)
      → is_some cs ≡ true → all_have_clauses xs ≡ true
      → (any_heavy cs ≡ true) ⊎ ((some_heavy xs ≡ true) ⊎ (any_heavy m.defining ≡ true)) → HeavyWork (product_of_matrices n began cs xs m)
  heavy-product n began cs no_matrices m h k (inl f) = inl f
  heavy-product n began cs no_matrices m h k (inr (inl f)) = cc
  heavy-product n began cs no_matrices m h k (inr (inr f)) = inr f
  heavy-product n began cs (matrix_then x xs) m h k g =
      let parts : (has_clauses x ≡ true) × (all_have_clauses xs ≡ true) = and_parts (has_clauses x) (all_have_clauses xs) k in
      let w : Worked = matrix_clauses n x m in
      let v : Worked = product n began cs w.clauses w.made in
      let some : is_some w.clauses ≡ true = has-clauses n x m parts.0 in
      heavy-product n began v.clauses xs v.made (product-some n began cs w.clauses w.made h some) parts.1
      (before v w g (λ f. product-heavy n began cs w.clauses w.made h some f) (heavy-work n x m) (keeps n x m))
    where
      before :
          (v w : Worked) → (any_heavy cs ≡ true) ⊎ ((some_heavy (matrix_then x xs) ≡ true) ⊎ (any_heavy m.defining ≡ true))
          → ((any_heavy cs ≡ true) ⊎ ((any_heavy w.clauses ≡ true) ⊎ (any_heavy w.made.defining ≡ true)) → HeavyWork v)
          → (heavy_matrix x ≡ true → HeavyWork w) → (any_heavy m.defining ≡ true → any_heavy w.made.defining ≡ true)
          → (any_heavy v.clauses ≡ true) ⊎ ((some_heavy xs ≡ true) ⊎ (any_heavy v.made.defining ≡ true))
      before v w g f p q = by g
        where
          so : HeavyWork v → (any_heavy v.clauses ≡ true) ⊎ ((some_heavy xs ≡ true) ⊎ (any_heavy v.made.defining ≡ true))
          so (inl e) = inl e
          so (inr e) = inr (inr e)

          own : HeavyWork w → (any_heavy v.clauses ≡ true) ⊎ ((some_heavy xs ≡ true) ⊎ (any_heavy v.made.defining ≡ true))
          own (inl e) = so (f (inr (inl e)))
          own (inr e) = so (f (inr (inr e)))

          member : (heavy_matrix x ≡ true) ⊎ (some_heavy xs ≡ true) → (any_heavy v.clauses ≡ true) ⊎ ((some_heavy xs ≡ true) ⊎ (any_heavy v.made.defining ≡ true))
          member (inl e) = own (p e)
          member (inr e) = inr (inl e)

          by :
              (any_heavy cs ≡ true) ⊎ ((some_heavy (matrix_then x xs) ≡ true) ⊎ (any_heavy m.defining ≡ true))
              → (any_heavy v.clauses ≡ true) ⊎ ((some_heavy xs ≡ true) ⊎ (any_heavy v.made.defining ≡ true))
          by (inl e) = so (f (inl e))
          by (inr (inl e)) = member (or-either (heavy_matrix x) (some_heavy xs) e)
          by (inr (inr e)) = so (f (inr (inr (q e))))

-- the largest clause is too heavy
over-limit : (cs : List Literals) → any_heavy cs ≡ true → MOST_SYMBOLS < largest cs
over-limit [] h = cc
over-limit (c ∷ cs) h = by (or-either (heavy_clause c) (any_heavy cs) h) (over-limit cs)
  where
    by : (heavy_clause c ≡ true) ⊎ (any_heavy cs ≡ true) → (any_heavy cs ≡ true → MOST_SYMBOLS < largest cs) → MOST_SYMBOLS < largest (c ∷ cs)
    by (inl k) f = omega (arith, ltb-true MOST_SYMBOLS (literals_size c) k)
    by (inr k) f = omega (arith, f k)

pub heavy-largest :
    (n : SymbolNumbers) (x : MatrixTree) (m : Made) (cs : List Literals)
    → heavy_matrix x ≡ true → cs ≡ (matrix_clauses n x m).clauses ++ (matrix_clauses n x m).made.defining → nat_lt MOST_SYMBOLS (largest cs) ≡ true
heavy-largest n x m cs h e = lt-ltb MOST_SYMBOLS (largest cs) (over-limit cs (ap any_heavy e ∙ both (heavy-work n x m h)))
  where
    w : Worked
    w = matrix_clauses n x m

    both : HeavyWork w → any_heavy (w.clauses ++ w.made.defining) ≡ true
    both (inl k) = heavy-first-list w.clauses w.made.defining k
    both (inr k) = heavy-second-list w.clauses w.made.defining k

-- ---- normal forms

mutual
  pub written-size : (known : List Symbol) (env : Environment) (t : TermTree) → term_size t ≤ tree_size (term_under known env t)
  written-size known env (variable x) = tree_size-positive (term_in_force env x)
  written-size known env (application f ts) = omega (arith, written-sizes known env ts)

  pub written-sizes : (known : List Symbol) (env : Environment) (ts : TermTrees) → terms_size ts ≤ trees_size (terms_under known env ts)
  written-sizes known env no_terms = omega arith
  written-sizes known env (term_then t ts) = omega (arith, written-size known env t, written-sizes known env ts)

still-heavy : (a b : ℕ) → a ≤ b → nat_lt MOST_SYMBOLS a ≡ true → nat_lt MOST_SYMBOLS b ≡ true
still-heavy a b l h = lt-ltb MOST_SYMBOLS b (omega (arith, ltb-true MOST_SYMBOLS a h, l))

negated-heavy :
    (n : SymbolNumbers) (f : FormulaTree) (env : Environment) (m : Made)
    → (is_predicate f && heavy_form f) ≡ true → heavy_matrix (skolemized n (negation f) env m).matrix ≡ true
negated-heavy n truth env m h = cc
negated-heavy n falsity env m h = cc
negated-heavy n (predicate p ts) env m h = still-heavy (2 + terms_size ts) _ (omega (arith, written-sizes n.symbols env ts)) h
negated-heavy n (equation positive s t) env m h = cc
negated-heavy n (negation f) env m h = cc
negated-heavy n (conjunction fs) env m h = cc
negated-heavy n (disjunction fs) env m h = cc
negated-heavy n (connected c f g) env m h = cc
negated-heavy n (quantified q xs f) env m h = cc

mutual
  pub form-heavy : (n : SymbolNumbers) (f : FormulaTree) (env : Environment) (m : Made) → heavy_form f ≡ true → heavy_matrix (skolemized n f env m).matrix ≡ true
  form-heavy n truth env m h = cc
  form-heavy n falsity env m h = cc
  form-heavy n (predicate p ts) env m h = still-heavy (2 + terms_size ts) _ (omega (arith, written-sizes n.symbols env ts)) h
  form-heavy n (equation positive s t) env m h =
      still-heavy (term_size s + term_size t) _ (omega (arith, written-size n.symbols env s, written-size n.symbols env t)) h
  form-heavy n (negation f) env m h = negated-heavy n f env m h
  form-heavy n (conjunction fs) env m h = some-form-heavy n fs env m h
  form-heavy n (disjunction fs) env m h =
      let parts : (all_forms_have_clauses fs ≡ true) × (some_heavy_form fs ≡ true) = and_parts (all_forms_have_clauses fs) (some_heavy_form fs) h in
      heavy-both (all_have_clauses (skolemized_list n fs env m).matrices) (some_heavy (skolemized_list n fs env m).matrices)
      (all-forms-have n fs env m parts.0) (some-form-heavy n fs env m parts.1)
    where
      heavy-both : (t u : Bool) → t ≡ true → u ≡ true → (t && u) ≡ true
      heavy-both true u p q = q
      heavy-both false u p q = cc
  form-heavy n (connected c f g) env m h = cc
  form-heavy n (quantified q xs f) env m h =
      let s : Scope = scope_of n (makes_variables q true) xs f env m in
      form-heavy n f s.environment s.made h

  some-form-heavy :
      (n : SymbolNumbers) (fs : FormulaTrees) (env : Environment) (m : Made)
      → some_heavy_form fs ≡ true → some_heavy (skolemized_list n fs env m).matrices ≡ true
  some-form-heavy n no_formulas env m h = cc
  some-form-heavy n (formula_then f fs) env m h =
      let s : Skolemized = skolemized n f env m in
      heavy-either (heavy_matrix s.matrix) (some_heavy (skolemized_list n fs env s.made).matrices)
      (or-either (heavy_form f) (some_heavy_form fs) h) (form-heavy n f env m) (some-form-heavy n fs env s.made)
    where
      heavy-either :
          (t u : Bool) → (heavy_form f ≡ true) ⊎ (some_heavy_form fs ≡ true)
          → (heavy_form f ≡ true → t ≡ true) → (some_heavy_form fs ≡ true → u ≡ true) → (t || u) ≡ true
      heavy-either t u (inl k) p q = or-first t u (p k)
      heavy-either t u (inr k) p q = or-second t u (q k)
