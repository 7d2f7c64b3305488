-- From the matrix of a form of its own to a problem.
use Rattle.std.proofs.Common.{◌≡◌, ℕ, ◌+◌, Bool, true, false, not, ◌||◌, List, [], ◌∷◌, ◌++◌, length, refl, ap, ap₂, sym, ◌∙◌, arith, append_assoc, append-nil, eq-eqb, subst, true≢false}
use Rattle.std.specs.Prelude.{bytes_eq, nat_eq}
use Rattle.std.specs.List.{list_any, starts_with}
use Rattle.std.specs.Fmt.{decimal}
use Rattle.std.proofs.lemmas.Bool.{and_parts, and_from}
use Rattle.std.proofs.lemmas.List.{length-append}
use Rattle.std.proofs.lemmas.Slice.Eq.{bytes_eq-Decides}
use Rattle.tptp_tree.specs.Term.{TermTree, variable as named_variable, application as named_application, TermTrees, no_terms, term_then}
use Rattle.tptp_tree.specs.Formula.{implies, implied, equivalent, different, nor, nand, FormulaTree, truth, falsity, predicate, equation, negation, conjunction, disjunction, connected, quantified, FormulaTrees, no_formulas, formula_then}
use Rattle.fol_base.specs.Tree.{application, tree_then}
use Rattle.signature.specs.declared.symbol.Symbol.{Symbol}
use Rattle.signature.specs.Symbol.{is_named, predicate_symbol, function_symbol, same_symbol, has_symbol}
use Rattle.signature.specs.Occurrences.{terms_count, term_symbols, terms_symbols, formula_symbols, formulas_symbols}
use Rattle.signature.specs.Environment.{Environment, free_names, without_names, term_under, terms_under}
use Rattle.signature.specs.Prefix.{fresh_prefix_of, some_begins_with}
use Rattle.signature.specs.Clausal.{SymbolNumbers, Made, Scope, atom_literal, applied, skolem_arguments, with_variables, with_skolem_terms, scope_of, makes_variables, begun}
use Rattle.signature.specs.Form.{AreUnused, nothing_made, numbered_symbols}
use Rattle.signature.proofs.PrefixLemmas.{prefix_is_least}
use Rattle.formula_nnf.specs.NormalForm.{list_form, pair_form, normal_form, normal_forms}
use Rattle.skolem.specs.Matrix.{literal, conjunction as all_of, disjunction as some_of, matrix_then, negated}
use Rattle.skolem.specs.Skolemized.{Skolemized, SkolemizedList, skolemized, skolemized_list, numbers_after, skolemized_form, AreKnown}
use Rattle.skolem.specs.MatrixClauses.{matrix_clauses}
use Rattle.skolem.specs.ProblemLaws.{MatrixOfFormIsThatInProblem, ClausesInProblemAreThoseOfMatrix, NormalFormKeepsKnownSymbols, SkolemSymbolsAreNumberedOn, LaterNamesAreUnused}
use Rattle.skolem.proofs.AboutFormulas.SymbolLemmas.{unused-then}
use Rattle.skolem.proofs.AboutFormulas.ClauseLemmas.{matrix_of_normal_form_keeps_clauses}
use Rattle.list_lemmas.proofs.Tests.{all-joined, all-parts, position-kept}

-- ---- the numbers of known symbols

mutual
  term-before :
      (known others : List Symbol) (env : Environment) (t : TermTree) → AreKnown known (term_symbols t)
      → term_under (known ++ others) env t ≡ term_under known env t
  term-before known others env (named_variable x) h = refl
  term-before known others env (named_application f ts) h =
      ap₂ application (position-kept (same_symbol (function_symbol f (terms_count ts))) known others (and_parts _ _ h).0)
      (terms-before known others env ts (and_parts _ _ h).1)

  terms-before :
      (known others : List Symbol) (env : Environment) (ts : TermTrees) → AreKnown known (terms_symbols ts)
      → terms_under (known ++ others) env ts ≡ terms_under known env ts
  terms-before known others env no_terms h = refl
  terms-before known others env (term_then t ts) h =
      let parts : AreKnown known (term_symbols t) × AreKnown known (terms_symbols ts) =
      all-parts (λ s. has_symbol s known) (term_symbols t) (terms_symbols ts) h in
      ap₂ tree_then (term-before known others env t parts.0) (terms-before known others env ts parts.1)

-- ---- Skolem symbols that were made before

abbrev shifted : List ℕ → Made → Made → Made
shifted earlier o m =
    record {
      variables = m.variables;
      skolem_arities = earlier ++ m.skolem_arities;
      naming_arities = o.naming_arities;
      defining = o.defining;
    }

abbrev scope_shifted : List ℕ → Made → Scope → Scope
scope_shifted earlier o s = record { environment = s.environment; made = shifted earlier o s.made }

abbrev matrix_shifted : List ℕ → Made → Skolemized → Skolemized
matrix_shifted earlier o s = record { matrix = s.matrix; made = shifted earlier o s.made }

abbrev matrices_shifted : List ℕ → Made → SkolemizedList → SkolemizedList
matrices_shifted earlier o s = record { matrices = s.matrices; made = shifted earlier o s.made }

variables-shift :
    (earlier : List ℕ) (o : Made) (xs : List (List ℕ)) (env : Environment) (m : Made)
    → with_variables xs env (shifted earlier o m) ≡ scope_shifted earlier o (with_variables xs env m)
variables-shift earlier o [] env m = refl
variables-shift earlier o (x ∷ xs) env m = variables-shift earlier o xs _ _

terms-shift :
    (n : SymbolNumbers) (known : List Symbol) (earlier : List ℕ) (o : Made) → length known ≡ n.first_skolem + length earlier
    → (free xs : List (List ℕ)) (env : Environment) (m : Made)
    → with_skolem_terms n free xs env (shifted earlier o m) ≡ scope_shifted earlier o (with_skolem_terms (numbers_after known) free xs env m)
terms-shift n known earlier o l free [] env m = refl
terms-shift n known earlier o l free (x ∷ xs) env m =
    ap₂ (λ number arities. with_skolem_terms n free xs ((x, applied number arguments) ∷ env)
    (record { variables = m.variables; skolem_arities = arities; naming_arities = o.naming_arities; defining = o.defining }))
    number-same (append_assoc earlier m.skolem_arities (length arguments ∷ []))
    ∙ terms-shift n known earlier o l free xs _ _
  where
    arguments : List ℕ
    arguments = skolem_arguments (without_names (x ∷ xs) free) env m

    number-same : n.first_skolem + length (earlier ++ m.skolem_arities) ≡ length known + length m.skolem_arities
    number-same = omega (arith, l, length-append earlier m.skolem_arities)

scope-shift :
    (n : SymbolNumbers) (known : List Symbol) (earlier : List ℕ) (o : Made) → length known ≡ n.first_skolem + length earlier
    → (new : Bool) (xs : List (List ℕ)) (f : FormulaTree) (env : Environment) (m : Made)
    → scope_of n new xs f env (shifted earlier o m) ≡ scope_shifted earlier o (scope_of (numbers_after known) new xs f env m)
scope-shift n known earlier o l true xs f env m = variables-shift earlier o xs env m
scope-shift n known earlier o l false xs f env m = terms-shift n known earlier o l (free_names f) xs env m

mutual
  matrix-shift :
      (n : SymbolNumbers) (others : List Symbol) (earlier : List ℕ) (o : Made) → length (n.symbols ++ others) ≡ n.first_skolem + length earlier
      → (f : FormulaTree) (env : Environment) (m : Made) → AreKnown n.symbols (formula_symbols f)
      → skolemized n f env (shifted earlier o m) ≡ matrix_shifted earlier o (skolemized (numbers_after (n.symbols ++ others)) f env m)
  matrix-shift n others earlier o l truth env m h = refl
  matrix-shift n others earlier o l falsity env m h = refl
  matrix-shift n others earlier o l (predicate p ts) env m h =
      sym (ap₂ (λ number trees. let r : Skolemized = record { matrix = literal (atom_literal true (application number trees)); made = shifted earlier o m } in r)
      (position-kept (same_symbol (predicate_symbol p (terms_count ts))) n.symbols others (and_parts _ _ h).0)
      (terms-before n.symbols others env ts (and_parts _ _ h).1))
  matrix-shift n others earlier o l (equation positive s t) env m h =
      let parts : AreKnown n.symbols (term_symbols s) × AreKnown n.symbols (term_symbols t) =
      all-parts (λ s. has_symbol s n.symbols) (term_symbols s) (term_symbols t) h in
      sym (ap₂ (λ left right. let r : Skolemized =
      record { matrix = literal (record { positive = positive; left = left; right = right }); made = shifted earlier o m } in r)
      (term-before n.symbols others env s parts.0) (term-before n.symbols others env t parts.1))
  matrix-shift n others earlier o l (negation f) env m h =
      ap (λ (s : Skolemized). let r : Skolemized = record { matrix = negated s.matrix; made = s.made } in r) (matrix-shift n others earlier o l f env m h)
  matrix-shift n others earlier o l (conjunction fs) env m h =
      ap (λ (s : SkolemizedList). let r : Skolemized = record { matrix = all_of s.matrices; made = s.made } in r)
      (matrices-shift n others earlier o l fs env m h)
  matrix-shift n others earlier o l (disjunction fs) env m h =
      ap (λ (s : SkolemizedList). let r : Skolemized = record { matrix = some_of m.variables s.matrices; made = s.made } in r)
      (matrices-shift n others earlier o l fs env m h)
  matrix-shift n others earlier o l (connected c f g) env m h = refl
  matrix-shift n others earlier o l (quantified q xs f) env m h =
      let s : Scope = scope_of (numbers_after (n.symbols ++ others)) (makes_variables q true) xs f env m in
      ap (λ (r : Scope). skolemized n f r.environment r.made) (scope-shift n (n.symbols ++ others) earlier o l (makes_variables q true) xs f env m)
      ∙ matrix-shift n others earlier o l f s.environment s.made h

  matrices-shift :
      (n : SymbolNumbers) (others : List Symbol) (earlier : List ℕ) (o : Made) → length (n.symbols ++ others) ≡ n.first_skolem + length earlier
      → (fs : FormulaTrees) (env : Environment) (m : Made) → AreKnown n.symbols (formulas_symbols fs)
      → skolemized_list n fs env (shifted earlier o m) ≡ matrices_shifted earlier o (skolemized_list (numbers_after (n.symbols ++ others)) fs env m)
  matrices-shift n others earlier o l no_formulas env m h = refl
  matrices-shift n others earlier o l (formula_then f fs) env m h =
      let s : Skolemized = skolemized (numbers_after (n.symbols ++ others)) f env m in
      let parts : AreKnown n.symbols (formula_symbols f) × AreKnown n.symbols (formulas_symbols fs) =
      all-parts (λ s. has_symbol s n.symbols) (formula_symbols f) (formulas_symbols fs) h in
      ap (λ (t : Skolemized). let rest : SkolemizedList = skolemized_list n fs env t.made in
      let r : SkolemizedList = record { matrices = matrix_then t.matrix rest.matrices; made = rest.made } in r)
      (matrix-shift n others earlier o l f env m parts.0)
      ∙ ap (λ (rest : SkolemizedList). let r : SkolemizedList = record { matrices = matrix_then s.matrix rest.matrices; made = rest.made } in r)
      (matrices-shift n others earlier o l fs env s.made parts.1)

pub matrix_of_form_is_that_in_problem : MatrixOfFormIsThatInProblem
matrix_of_form_is_that_in_problem n others f m h l =
    ap (λ arities. skolemized n f []
    (record { variables = 0; skolem_arities = arities; naming_arities = m.naming_arities; defining = [] })) (sym (append-nil m.skolem_arities))
    ∙ matrix-shift n others m.skolem_arities (begun m) l f [] nothing_made h

-- ---- the symbols of a normal form

list-known : (known : List Symbol) (all : Bool) (fs : FormulaTrees) → AreKnown known (formulas_symbols fs) → AreKnown known (formula_symbols (list_form all fs))
list-known known true fs h = h
list-known known false fs h = h

pair-known :
    (known : List Symbol) (all : Bool) (f g : FormulaTree) → AreKnown known (formula_symbols f) → AreKnown known (formula_symbols g)
    → AreKnown known (formula_symbols (pair_form all f g))
pair-known known all f g h k =
    list-known known all (formula_then f (formula_then g no_formulas))
    (all-joined (λ s. has_symbol s known) (formula_symbols f) (formula_symbols g ++ []) h
    (all-joined (λ s. has_symbol s known) (formula_symbols g) [] k refl))

doubled-known :
    (known : List Symbol) (a b c d : FormulaTree)
    → AreKnown known (formula_symbols a) → AreKnown known (formula_symbols b) → AreKnown known (formula_symbols c) → AreKnown known (formula_symbols d)
    → AreKnown known (formula_symbols (pair_form true (pair_form false a b) (pair_form false c d)))
doubled-known known a b c d h k i j =
    pair-known known true (pair_form false a b) (pair_form false c d) (pair-known known false a b h k) (pair-known known false c d i j)

mutual
  form-known :
      (known : List Symbol) (f : FormulaTree) (sign : Bool) → AreKnown known (formula_symbols f) → AreKnown known (formula_symbols (normal_form f sign))
  form-known known truth true h = refl
  form-known known truth false h = refl
  form-known known falsity true h = refl
  form-known known falsity false h = refl
  form-known known (predicate p ts) true h = h
  form-known known (predicate p ts) false h = h
  form-known known (equation positive s t) sign h = h
  form-known known (negation f) sign h = form-known known f (not sign) h
  form-known known (conjunction fs) sign h = list-known known sign (normal_forms fs sign) (forms-known known fs sign h)
  form-known known (disjunction fs) sign h = list-known known (not sign) (normal_forms fs sign) (forms-known known fs sign h)
  form-known known (connected implies f g) sign h =
      let parts : AreKnown known (formula_symbols f) × AreKnown known (formula_symbols g) =
      all-parts (λ s. has_symbol s known) (formula_symbols f) (formula_symbols g) h in
      pair-known known (not sign) (normal_form f (not sign)) (normal_form g sign) (form-known known f (not sign) parts.0) (form-known known g sign parts.1)
  form-known known (connected implied f g) sign h =
      let parts : AreKnown known (formula_symbols f) × AreKnown known (formula_symbols g) =
      all-parts (λ s. has_symbol s known) (formula_symbols f) (formula_symbols g) h in
      pair-known known (not sign) (normal_form f sign) (normal_form g (not sign)) (form-known known f sign parts.0) (form-known known g (not sign) parts.1)
  form-known known (connected nor f g) sign h =
      let parts : AreKnown known (formula_symbols f) × AreKnown known (formula_symbols g) =
      all-parts (λ s. has_symbol s known) (formula_symbols f) (formula_symbols g) h in
      pair-known known sign (normal_form f (not sign)) (normal_form g (not sign)) (form-known known f (not sign) parts.0) (form-known known g (not sign) parts.1)
  form-known known (connected nand f g) sign h =
      let parts : AreKnown known (formula_symbols f) × AreKnown known (formula_symbols g) =
      all-parts (λ s. has_symbol s known) (formula_symbols f) (formula_symbols g) h in
      pair-known known (not sign) (normal_form f (not sign)) (normal_form g (not sign)) (form-known known f (not sign) parts.0) (form-known known g (not sign) parts.1)
  form-known known (connected equivalent f g) sign h =
      let parts : AreKnown known (formula_symbols f) × AreKnown known (formula_symbols g) =
      all-parts (λ s. has_symbol s known) (formula_symbols f) (formula_symbols g) h in
      doubled-known known (normal_form f (not sign)) (normal_form g true) (normal_form f sign) (normal_form g false)
      (form-known known f (not sign) parts.0) (form-known known g true parts.1) (form-known known f sign parts.0) (form-known known g false parts.1)
  form-known known (connected different f g) sign h =
      let parts : AreKnown known (formula_symbols f) × AreKnown known (formula_symbols g) =
      all-parts (λ s. has_symbol s known) (formula_symbols f) (formula_symbols g) h in
      doubled-known known (normal_form f sign) (normal_form g true) (normal_form f (not sign)) (normal_form g false)
      (form-known known f sign parts.0) (form-known known g true parts.1) (form-known known f (not sign) parts.0) (form-known known g false parts.1)
  form-known known (quantified q xs f) sign h = form-known known f sign h

  forms-known :
      (known : List Symbol) (fs : FormulaTrees) (sign : Bool) → AreKnown known (formulas_symbols fs) → AreKnown known (formulas_symbols (normal_forms fs sign))
  forms-known known no_formulas sign h = refl
  forms-known known (formula_then f fs) sign h =
      let parts : AreKnown known (formula_symbols f) × AreKnown known (formulas_symbols fs) =
      all-parts (λ s. has_symbol s known) (formula_symbols f) (formulas_symbols fs) h in
      all-joined (λ s. has_symbol s known) (formula_symbols (normal_form f sign)) (formulas_symbols (normal_forms fs sign))
      (form-known known f sign parts.0) (forms-known known fs sign parts.1)

pub normal_form_keeps_known_symbols : NormalFormKeepsKnownSymbols
normal_form_keeps_known_symbols known f sign h = form-known known f sign h

pub clauses_in_problem_are_those_of_matrix : ClausesInProblemAreThoseOfMatrix
clauses_in_problem_are_those_of_matrix n others f sign m h l =
    matrix_of_normal_form_keeps_clauses n f sign [] (begun m)
    ∙ ap (λ (s : Skolemized). matrix_clauses n s.matrix s.made)
    (matrix_of_form_is_that_in_problem n others (normal_form f sign) m (form-known n.symbols f sign h) l)

-- ---- the names of Skolem symbols

none-more : (k : ℕ) → k ≡ 0 + k
none-more k = omega arith

numbered-joined :
    (make : List ℕ → ℕ → Symbol) (prefix : List ℕ) (k : ℕ) (xs ys : List ℕ)
    → numbered_symbols make prefix k (xs ++ ys) ≡ numbered_symbols make prefix k xs ++ numbered_symbols make prefix (k + length xs) ys
numbered-joined make prefix k [] ys = ap (λ j. numbered_symbols make prefix j ys) none
  where
    none : k ≡ k + 0
    none = omega arith
numbered-joined make prefix k (x ∷ xs) ys =
    ap (λ ss. make (prefix ++ decimal k) x ∷ ss)
    (numbered-joined make prefix (k + 1) xs ys ∙ ap (λ j. numbered_symbols make prefix (k + 1) xs ++ numbered_symbols make prefix j ys) one)
  where
    one : (k + 1) + length xs ≡ k + length (x ∷ xs)
    one = omega arith

pub skolem_symbols_are_numbered_on : SkolemSymbolsAreNumberedOn
skolem_symbols_are_numbered_on symbols prefix arities f =
    append_assoc symbols before (numbered_symbols function_symbol prefix (length arities) new)
    ∙ ap (λ ss. symbols ++ ss)
    (ap (λ k. before ++ numbered_symbols function_symbol prefix k new) (none-more (length arities))
    ∙ sym (numbered-joined function_symbol prefix 0 arities new))
  where
    before : List Symbol
    before = numbered_symbols function_symbol prefix 0 arities

    new : List ℕ
    new = (skolemized_form (symbols ++ before) f).made.skolem_arities

unused-after :
    (known : List Symbol) (prefix : List ℕ) (next : ℕ) (arities : List ℕ)
    → AreUnused known prefix next → AreUnused (known ++ numbered_symbols function_symbol prefix next arities) prefix (next + length arities)
unused-after known prefix next [] h k l b =
    ap (list_any (is_named (prefix ++ decimal k))) (append-nil known) ∙ h k (omega (arith, l)) b
unused-after known prefix next (arity ∷ arities) h k l b =
    ap (list_any (is_named (prefix ++ decimal k)))
    (sym (append_assoc known (function_symbol (prefix ++ decimal next) arity ∷ []) (numbered_symbols function_symbol prefix (next + 1) arities)))
    ∙ unused-after (known ++ function_symbol (prefix ++ decimal next) arity ∷ []) prefix (next + 1) arities
    (unused-then known _ prefix next arity refl h) k (omega (arith, l)) b

begins-with-front : (xs ys : List ℕ) → starts_with nat_eq (xs ++ ys) xs ≡ true
begins-with-front [] ys = refl
begins-with-front (x ∷ xs) ys = and_from _ _ (eq-eqb x x refl) (begins-with-front xs ys)

none-named :
    (prefix rest : List ℕ) (symbols : List Symbol) → some_begins_with prefix symbols ≡ false → list_any (is_named (prefix ++ rest)) symbols ≡ false
none-named prefix rest [] h = refl
none-named prefix rest (s ∷ ss) h =
    by (bytes_eq (prefix ++ rest) s.name) (starts_with nat_eq s.name prefix) begins h (none-named prefix rest ss)
  where
    begins : bytes_eq (prefix ++ rest) s.name ≡ true → starts_with nat_eq s.name prefix ≡ true
    begins e = ap (λ name. starts_with nat_eq name prefix) (sym ((bytes_eq-Decides (prefix ++ rest) s.name).0 e)) ∙ begins-with-front prefix rest

    by :
        (t u : Bool) → (t ≡ true → u ≡ true) → (u || some_begins_with prefix ss) ≡ false
        → (some_begins_with prefix ss ≡ false → list_any (is_named (prefix ++ rest)) ss ≡ false)
        → (t || list_any (is_named (prefix ++ rest)) ss) ≡ false
    by true true f g k = cc
    by true false f g k = absurd (true≢false (sym (f refl)))
    by false true f g k = cc
    by false false f g k = k g

pub later_names_are_unused : LaterNamesAreUnused
later_names_are_unused symbols base arities =
    subst (AreUnused (symbols ++ numbered_symbols function_symbol (fresh_prefix_of symbols base) 0 arities) (fresh_prefix_of symbols base))
    (sym (none-more (length arities)))
    (unused-after symbols (fresh_prefix_of symbols base) 0 arities
    (λ k l b. none-named (fresh_prefix_of symbols base) (decimal k) symbols (prefix_is_least symbols base).0))
