-- The symbols of what is made of a formula pass where the formula's pass, and those made for it.
use Rattle.std.proofs.Common.{◌≡◌, ℕ, ◌+◌, Bool, true, false, not, List, [], ◌∷◌, length, Some, refl, ap, ◌∙◌}
use Rattle.std.specs.Prelude.{flat_map, nat_lt, bytes_eq, slice_get, if◌then◌else◌}
use mathlib.Core.Bool.{beq}
use Rattle.std.proofs.lemmas.Bool.{and_parts, and_from}
use Rattle.tptp_tree.specs.Term.{TermTree, variable as named_variable, application as named_application, TermTrees, no_terms, term_then}
use Rattle.tptp_tree.specs.Formula.{implies, implied, equivalent, different, nor, nand, FormulaTree, truth, falsity, predicate, equation, negation, conjunction, disjunction, connected, quantified, FormulaTrees, no_formulas, formula_then}
use Rattle.fol_base.specs.Tree.{Tree, variable, application, trees_count}
use Rattle.fol_base.specs.Clause.{TreeLiteral, literal_variables}
use Rattle.signature.specs.declared.symbol.Symbol.{Symbol}
use Rattle.signature.specs.Symbol.{predicate_symbol, function_symbol, has_symbol, number_of}
use Rattle.signature.specs.Occurrences.{terms_count, term_symbols, terms_symbols, formula_symbols, formulas_symbols}
use Rattle.signature.specs.Environment.{Environment, free_names, without_names, term_in_force, term_under, terms_under}
use Rattle.signature.specs.Clausal.{SymbolNumbers, Made, Worked, Scope, Literals, Work, applied, with_variables, skolem_arguments, with_skolem_terms, makes_variables, scope_of, is_large, atom_literal, made_in_order, named, product, joined, truth_value, one_literal, clauses_of, listed_clauses, product_clauses}
use Rattle.kernel_steps.proofs.AboutCalls.LineLemmas.{slice_get-last}
use Rattle.clausal_form.proofs.AboutForms.ShapeLemmas.{product_by}
use Rattle.pool_writer.proofs.SymbolTests.{slice-front, all-parts, AreKnown, SymbolTest, Knows, Right, RightAll, right-then, right-application, applied-right, RightLiteral, RightClauses, right-literal, right-atom, name-right, clauses-joined, pairs-right, headed-right}

-- ---- what was made has its places

pub record Fits (test : SymbolTest) (n : SymbolNumbers) (m : Made) : Type 0 where
  pub skolem : (k a : ℕ) → slice_get m.skolem_arities k ≡ Some a → test (n.first_skolem + k) a ≡ true
  pub naming : (k a : ℕ) → slice_get m.naming_arities k ≡ Some a → test (n.first_naming + k) a ≡ true

pub record RightForce (test : SymbolTest) (env : Environment) : Type 0 where
  pub at : (x : List ℕ) → Right test (term_in_force env x)

pub force-none : (test : SymbolTest) → RightForce test []
force-none test = record { at = λ x. record { passes = refl } }

force-more :
    (test : SymbolTest) (y : List ℕ) (t : Tree) (env : Environment) → Right test t → RightForce test env → RightForce test ((y, t) ∷ env)
force-more test y t env h k = record { at = λ x. by x (bytes_eq y x) }
  where
    by : (x : List ℕ) (b : Bool) → Right test (if b then t else term_in_force env x)
    by x true = h
    by x false = k.at x

under-count : (known : List Symbol) (env : Environment) (ts : TermTrees) → trees_count (terms_under known env ts) ≡ terms_count ts
under-count known env no_terms = refl
under-count known env (term_then t ts) = ap (λ n. 1 + n) (under-count known env ts)

mutual
  term-right :
      (test : SymbolTest) (known : List Symbol) (env : Environment) → Knows test known → RightForce test env → (t : TermTree)
      → AreKnown known (term_symbols t) → Right test (term_under known env t)
  term-right test known env k h (named_variable x) a = h.at x
  term-right test known env k h (named_application f ts) a =
      let parts = and_parts (has_symbol (function_symbol f (terms_count ts)) known) _ a in
      right-application test _ _
      (ap (test (number_of known (function_symbol f (terms_count ts)))) (under-count known env ts) ∙ k.there (function_symbol f (terms_count ts)) parts.0)
      (terms-right test known env k h ts parts.1)

  terms-right :
      (test : SymbolTest) (known : List Symbol) (env : Environment) → Knows test known → RightForce test env → (ts : TermTrees)
      → AreKnown known (terms_symbols ts) → RightAll test (terms_under known env ts)
  terms-right test known env k h no_terms a = record { passes = refl }
  terms-right test known env k h (term_then t ts) a =
      let parts = all-parts (λ s. has_symbol s known) (term_symbols t) (terms_symbols ts) a in
      right-then test _ _ (term-right test known env k h t parts.0) (terms-right test known env k h ts parts.1)

predicate-right :
    (test : SymbolTest) (known : List Symbol) (env : Environment) (sign : Bool) (p : List ℕ) (ts : TermTrees) → Knows test known → RightForce test env
    → AreKnown known (predicate_symbol p (terms_count ts) ∷ terms_symbols ts)
    → RightLiteral test (atom_literal sign (application (number_of known (predicate_symbol p (terms_count ts))) (terms_under known env ts)))
predicate-right test known env sign p ts k h a =
    let s : Symbol = predicate_symbol p (terms_count ts) in
    let parts = and_parts (has_symbol s known) _ a in
    right-atom test sign (number_of known s) (terms_under known env ts) k.first (ap (test (number_of known s)) (under-count known env ts) ∙ k.there s parts.0)
    (terms-right test known env k h ts parts.1)

-- ---- quantifiers

variables-back :
    (test : SymbolTest) (n : SymbolNumbers) (xs : List (List ℕ)) (env : Environment) (m : Made)
    → Fits test n (with_variables xs env m).made → Fits test n m
variables-back test n [] env m h = h
variables-back test n (x ∷ xs) env m h =
    let g = variables-back test n xs _ _ h in
    record { skolem = g.skolem; naming = g.naming }

skolem-back :
    (test : SymbolTest) (n : SymbolNumbers) (free xs : List (List ℕ)) (env : Environment) (m : Made)
    → Fits test n (with_skolem_terms n free xs env m).made → Fits test n m
skolem-back test n free [] env m h = h
skolem-back test n free (x ∷ xs) env m h =
    let g = skolem-back test n free xs _ _ h in
    record { skolem = λ k a e. g.skolem k a (slice-front m.skolem_arities _ k a e); naming = g.naming }

scope-back :
    (test : SymbolTest) (n : SymbolNumbers) (new : Bool) (xs : List (List ℕ)) (body : FormulaTree) (env : Environment) (m : Made)
    → Fits test n (scope_of n new xs body env m).made → Fits test n m
scope-back test n true xs body env m h = variables-back test n xs env m h
scope-back test n false xs body env m h = skolem-back test n (free_names body) xs env m h

pub record RightScope (test : SymbolTest) (s : Scope) : Type 0 where
  pub environment : RightForce test s.environment
  pub defining : RightClauses test s.made.defining

variables-scope :
    (test : SymbolTest) (xs : List (List ℕ)) (env : Environment) (m : Made) → RightForce test env → RightClauses test m.defining
    → RightScope test (with_variables xs env m)
variables-scope test [] env m h d = record { environment = h; defining = d }
variables-scope test (x ∷ xs) env m h d =
    variables-scope test xs _ _ (force-more test x (variable m.variables) env (record { passes = refl }) h) d

skolem-scope :
    (test : SymbolTest) (n : SymbolNumbers) (free xs : List (List ℕ)) (env : Environment) (m : Made)
    → Fits test n (with_skolem_terms n free xs env m).made → RightForce test env → RightClauses test m.defining
    → RightScope test (with_skolem_terms n free xs env m)
skolem-scope test n free [] env m f h d = record { environment = h; defining = d }
skolem-scope test n free (x ∷ xs) env m f h d =
    let arguments : List ℕ = skolem_arguments (without_names (x ∷ xs) free) env m in
    let g = skolem-back test n free xs _ _ f in
    skolem-scope test n free xs _ _ f
    (force-more test x (applied (n.first_skolem + length m.skolem_arities) arguments) env
    (applied-right test _ arguments (g.skolem (length m.skolem_arities) (length arguments) (slice_get-last m.skolem_arities (length arguments)))) h)
    d

scope-right :
    (test : SymbolTest) (n : SymbolNumbers) (new : Bool) (xs : List (List ℕ)) (body : FormulaTree) (env : Environment) (m : Made)
    → Fits test n (scope_of n new xs body env m).made → RightForce test env → RightClauses test m.defining
    → RightScope test (scope_of n new xs body env m)
scope-right test n true xs body env m f h d = variables-scope test xs env m h d
scope-right test n false xs body env m f h d = skolem-scope test n (free_names body) xs env m f h d

-- ---- products

named-back :
    (test : SymbolTest) (n : SymbolNumbers) (began : ℕ) (cs : List Literals) (m : Made) → Fits test n (named n began cs m).made
    → Fits test n m
named-back test n began cs m h =
    record { skolem = h.skolem; naming = λ k a e. h.naming k a (slice-front m.naming_arities _ k a e) }

abbrev AreRight : SymbolTest → Worked → Type 0
AreRight test w = RightClauses test w.clauses × RightClauses test w.made.defining

named-right :
    (test : SymbolTest) (n : SymbolNumbers) (began : ℕ) (cs : List Literals) (m : Made) → test 0 0 ≡ true
    → Fits test n (named n began cs m).made → RightClauses test cs → RightClauses test m.defining → AreRight test (named n began cs m)
named-right test n began cs m first h c d = (
  and_from _ _ (and_from _ _ (literal true) refl) refl,
  clauses-joined test m.defining _ d (headed-right test _ cs (literal false) c),
)
  where
    literal : (sign : Bool) → RightLiteral test (atom_literal sign (applied (n.first_naming + length m.naming_arities) (made_in_order began (flat_map (λ e. flat_map literal_variables e) cs))))
    literal sign = name-right test sign _ _ first (h.naming (length m.naming_arities) _ (slice_get-last m.naming_arities _))

product-back :
    (test : SymbolTest) (n : SymbolNumbers) (began : ℕ) (a b : List Literals) (m : Made) → Fits test n (product n began a b m).made
    → Fits test n m
product-back test n began a b m h = by (is_large a b) (nat_lt (length a) (length b)) h
  where
    by : (t u : Bool) → Fits test n (product_by n began a b t u m).made → Fits test n m
    by false u g = g
    by true true g = named-back test n began b m g
    by true false g = named-back test n began a m g

product-right :
    (test : SymbolTest) (n : SymbolNumbers) (began : ℕ) (a b : List Literals) (m : Made) → test 0 0 ≡ true
    → Fits test n (product n began a b m).made → RightClauses test a → RightClauses test b → RightClauses test m.defining
    → AreRight test (product n began a b m)
product-right test n began a b m first h c e d = by (is_large a b) (nat_lt (length a) (length b)) h
  where
    by : (t u : Bool) → Fits test n (product_by n began a b t u m).made → AreRight test (product_by n began a b t u m)
    by false u g = (pairs-right test a b c e, d)
    by true true g =
        let w = named-right test n began b m first g e d in
        (pairs-right test a (named n began b m).clauses c w.0, w.1)
    by true false g =
        let w = named-right test n began a m first g c d in
        (pairs-right test (named n began a m).clauses b w.0 e, w.1)

-- ---- formulas

pub record Back (test : SymbolTest) (n : SymbolNumbers) (w : Work) : Type 0 where
  pub by : (m : Made) → Fits test n (w m).made → Fits test n m

joined-back :
    (test : SymbolTest) (n : SymbolNumbers) (listed : Bool) (a b : Work) → Back test n a → Back test n b
    → Back test n (joined n listed a b)
joined-back test n true a b h k = record { by = λ m g. h.by m (k.by (a m).made g) }
joined-back test n false a b h k = record { by = λ m g. h.by m (k.by (a m).made (product-back test n m.variables (a m).clauses (b (a m).made).clauses (b (a m).made).made g)) }

truth-back : (test : SymbolTest) (n : SymbolNumbers) (sign : Bool) → Back test n (truth_value sign)
truth-back test n true = record { by = λ m g. g }
truth-back test n false = record { by = λ m g. g }

mutual
  pub formula-back : (test : SymbolTest) (n : SymbolNumbers) (f : FormulaTree) (sign : Bool) (env : Environment) → Back test n (clauses_of n f sign env)
  formula-back test n truth sign env = record { by = (truth-back test n sign).by }
  formula-back test n falsity sign env = record { by = (truth-back test n (not sign)).by }
  formula-back test n (predicate p ts) sign env = record { by = λ m g. g }
  formula-back test n (equation positive s t) sign env = record { by = λ m g. g }
  formula-back test n (negation f) sign env = record { by = (formula-back test n f (not sign) env).by }
  formula-back test n (conjunction fs) true env = record { by = (listed-back test n fs true env).by }
  formula-back test n (conjunction fs) false env = record { by = λ m g. products-back test n m.variables ([] ∷ []) fs false env m g }
  formula-back test n (disjunction fs) true env = record { by = λ m g. products-back test n m.variables ([] ∷ []) fs true env m g }
  formula-back test n (disjunction fs) false env = record { by = (listed-back test n fs false env).by }
  formula-back test n (connected implies f g) sign env =
      record { by = (joined-back test n (not sign) _ _ (formula-back test n f (not sign) env) (formula-back test n g sign env)).by }
  formula-back test n (connected implied f g) sign env =
      record { by = (joined-back test n (not sign) _ _ (formula-back test n f sign env) (formula-back test n g (not sign) env)).by }
  formula-back test n (connected nor f g) sign env =
      record { by = (joined-back test n sign _ _ (formula-back test n f (not sign) env) (formula-back test n g (not sign) env)).by }
  formula-back test n (connected nand f g) sign env =
      record { by = (joined-back test n (not sign) _ _ (formula-back test n f (not sign) env) (formula-back test n g (not sign) env)).by }
  formula-back test n (connected equivalent f g) sign env =
      record {
        by =
            (joined-back test n true _ _
            (joined-back test n false _ _ (formula-back test n f (not sign) env) (formula-back test n g true env))
            (joined-back test n false _ _ (formula-back test n f sign env) (formula-back test n g false env))).by;
      }
  formula-back test n (connected different f g) sign env =
      record {
        by =
            (joined-back test n true _ _
            (joined-back test n false _ _ (formula-back test n f sign env) (formula-back test n g true env))
            (joined-back test n false _ _ (formula-back test n f (not sign) env) (formula-back test n g false env))).by;
      }
  formula-back test n (quantified q xs f) sign env =
      record {
        by =
            λ m g.
            let s : Scope = scope_of n (makes_variables q sign) xs f env m in
            scope-back test n (makes_variables q sign) xs f env m ((formula-back test n f sign s.environment).by s.made g);
      }

  listed-back :
      (test : SymbolTest) (n : SymbolNumbers) (fs : FormulaTrees) (sign : Bool) (env : Environment) → Back test n (listed_clauses n fs sign env)
  listed-back test n no_formulas sign env = record { by = (truth-back test n true).by }
  listed-back test n (formula_then f fs) sign env =
      record { by = (joined-back test n true _ _ (formula-back test n f sign env) (listed-back test n fs sign env)).by }

  products-back :
      (test : SymbolTest) (n : SymbolNumbers) (began : ℕ) (cs : List Literals) (fs : FormulaTrees) (sign : Bool) (env : Environment) (m : Made)
      → Fits test n (product_clauses n began cs fs sign env m).made → Fits test n m
  products-back test n began cs no_formulas sign env m g = g
  products-back test n began cs (formula_then f fs) sign env m g =
      let w : Worked = clauses_of n f sign env m in
      let v : Worked = product n began cs w.clauses w.made in
      (formula-back test n f sign env).by m
      (product-back test n began cs w.clauses w.made (products-back test n began v.clauses fs sign env v.made g))

pub record RightWork (test : SymbolTest) (n : SymbolNumbers) (w : Work) : Type 0 where
  pub by : (m : Made) → Fits test n (w m).made → RightClauses test m.defining → AreRight test (w m)

joined-right :
    (test : SymbolTest) (n : SymbolNumbers) (listed : Bool) (a b : Work) → test 0 0 ≡ true → Back test n b
    → RightWork test n a → RightWork test n b → RightWork test n (joined n listed a b)
joined-right test n true a b first back h k =
    record {
      by =
          λ m g d.
          let w = h.by m (back.by (a m).made g) d in
          let v = k.by (a m).made g w.1 in
          (clauses-joined test (a m).clauses (b (a m).made).clauses w.0 v.0, v.1);
    }
joined-right test n false a b first back h k =
    record {
      by =
          λ m g d.
          let behind = product-back test n m.variables (a m).clauses (b (a m).made).clauses (b (a m).made).made g in
          let w = h.by m (back.by (a m).made behind) d in
          let v = k.by (a m).made behind w.1 in
          product-right test n m.variables (a m).clauses (b (a m).made).clauses (b (a m).made).made first g w.0 v.0 v.1;
    }

truth-works : (test : SymbolTest) (n : SymbolNumbers) (sign : Bool) → RightWork test n (truth_value sign)
truth-works test n true = record { by = λ m g d. (refl, d) }
truth-works test n false = record { by = λ m g d. (refl, d) }

literal-works : (test : SymbolTest) (n : SymbolNumbers) (l : TreeLiteral) → RightLiteral test l → RightWork test n (one_literal l)
literal-works test n l h = record { by = λ m g d. (and_from _ _ (and_from _ _ h refl) refl, d) }

abbrev pub Known : SymbolNumbers → List Symbol → Type 0
Known n ss = AreKnown n.symbols ss

mutual
  pub formula-right :
      (test : SymbolTest) (n : SymbolNumbers) → Knows test n.symbols → (f : FormulaTree) (sign : Bool) (env : Environment)
      → RightForce test env → Known n (formula_symbols f) → RightWork test n (clauses_of n f sign env)
  formula-right test n k truth sign env h a = record { by = (truth-works test n sign).by }
  formula-right test n k falsity sign env h a = record { by = (truth-works test n (not sign)).by }
  formula-right test n k (predicate p ts) sign env h a =
      let l : TreeLiteral =
      atom_literal sign (application (number_of n.symbols (predicate_symbol p (terms_count ts))) (terms_under n.symbols env ts)) in
      record { by = (literal-works test n l (predicate-right test n.symbols env sign p ts k h a)).by }
  formula-right test n k (equation positive s t) sign env h a =
      let parts = all-parts (λ u. has_symbol u n.symbols) (term_symbols s) (term_symbols t) a in
      let l : TreeLiteral = record { positive = beq positive sign; left = term_under n.symbols env s; right = term_under n.symbols env t } in
      record {
        by =
            (literal-works test n l
            (right-literal test l (term-right test n.symbols env k h s parts.0) (term-right test n.symbols env k h t parts.1))).by;
      }
  formula-right test n k (negation f) sign env h a = record { by = (formula-right test n k f (not sign) env h a).by }
  formula-right test n k (conjunction fs) true env h a = record { by = (listed-right test n k fs true env h a).by }
  formula-right test n k (conjunction fs) false env h a =
      record { by = λ m g d. products-right test n k m.variables ([] ∷ []) fs false env h a m g refl d }
  formula-right test n k (disjunction fs) true env h a =
      record { by = λ m g d. products-right test n k m.variables ([] ∷ []) fs true env h a m g refl d }
  formula-right test n k (disjunction fs) false env h a = record { by = (listed-right test n k fs false env h a).by }
  formula-right test n k (connected implies f g) sign env h a =
      let parts = all-parts (λ u. has_symbol u n.symbols) (formula_symbols f) (formula_symbols g) a in
      record {
        by =
            (joined-right test n (not sign) _ _ k.first (formula-back test n g sign env) (formula-right test n k f (not sign) env h parts.0)
            (formula-right test n k g sign env h parts.1)).by;
      }
  formula-right test n k (connected implied f g) sign env h a =
      let parts = all-parts (λ u. has_symbol u n.symbols) (formula_symbols f) (formula_symbols g) a in
      record {
        by =
            (joined-right test n (not sign) _ _ k.first (formula-back test n g (not sign) env) (formula-right test n k f sign env h parts.0)
            (formula-right test n k g (not sign) env h parts.1)).by;
      }
  formula-right test n k (connected nor f g) sign env h a =
      let parts = all-parts (λ u. has_symbol u n.symbols) (formula_symbols f) (formula_symbols g) a in
      record {
        by =
            (joined-right test n sign _ _ k.first (formula-back test n g (not sign) env) (formula-right test n k f (not sign) env h parts.0)
            (formula-right test n k g (not sign) env h parts.1)).by;
      }
  formula-right test n k (connected nand f g) sign env h a =
      let parts = all-parts (λ u. has_symbol u n.symbols) (formula_symbols f) (formula_symbols g) a in
      record {
        by =
            (joined-right test n (not sign) _ _ k.first (formula-back test n g (not sign) env) (formula-right test n k f (not sign) env h parts.0)
            (formula-right test n k g (not sign) env h parts.1)).by;
      }
  formula-right test n k (connected equivalent f g) sign env h a =
      let parts = all-parts (λ u. has_symbol u n.symbols) (formula_symbols f) (formula_symbols g) a in
      record {
        by =
            (joined-right test n true _ _ k.first
            (joined-back test n false _ _ (formula-back test n f sign env) (formula-back test n g false env))
            (joined-right test n false _ _ k.first (formula-back test n g true env) (formula-right test n k f (not sign) env h parts.0)
            (formula-right test n k g true env h parts.1))
            (joined-right test n false _ _ k.first (formula-back test n g false env) (formula-right test n k f sign env h parts.0)
            (formula-right test n k g false env h parts.1))).by;
      }
  formula-right test n k (connected different f g) sign env h a =
      let parts = all-parts (λ u. has_symbol u n.symbols) (formula_symbols f) (formula_symbols g) a in
      record {
        by =
            (joined-right test n true _ _ k.first
            (joined-back test n false _ _ (formula-back test n f (not sign) env) (formula-back test n g false env))
            (joined-right test n false _ _ k.first (formula-back test n g true env) (formula-right test n k f sign env h parts.0)
            (formula-right test n k g true env h parts.1))
            (joined-right test n false _ _ k.first (formula-back test n g false env) (formula-right test n k f (not sign) env h parts.0)
            (formula-right test n k g false env h parts.1))).by;
      }
  formula-right test n k (quantified q xs f) sign env h a =
      record {
        by =
            λ m g d.
            let s : Scope = scope_of n (makes_variables q sign) xs f env m in
            let inside = (formula-back test n f sign s.environment).by s.made g in
            let r = scope-right test n (makes_variables q sign) xs f env m inside h d in
            (formula-right test n k f sign s.environment r.environment a).by s.made g r.defining;
      }

  listed-right :
      (test : SymbolTest) (n : SymbolNumbers) → Knows test n.symbols → (fs : FormulaTrees) (sign : Bool) (env : Environment)
      → RightForce test env → Known n (formulas_symbols fs) → RightWork test n (listed_clauses n fs sign env)
  listed-right test n k no_formulas sign env h a = record { by = (truth-works test n true).by }
  listed-right test n k (formula_then f fs) sign env h a =
      let parts = all-parts (λ u. has_symbol u n.symbols) (formula_symbols f) (formulas_symbols fs) a in
      record {
        by =
            (joined-right test n true _ _ k.first (listed-back test n fs sign env) (formula-right test n k f sign env h parts.0)
            (listed-right test n k fs sign env h parts.1)).by;
      }

  products-right :
      (test : SymbolTest) (n : SymbolNumbers) → Knows test n.symbols → (began : ℕ) (cs : List Literals) (fs : FormulaTrees) (sign : Bool)
      (env : Environment) → RightForce test env → Known n (formulas_symbols fs) → (m : Made)
      → Fits test n (product_clauses n began cs fs sign env m).made → RightClauses test cs → RightClauses test m.defining
      → AreRight test (product_clauses n began cs fs sign env m)
  products-right test n k began cs no_formulas sign env h a m g c d = (c, d)
  products-right test n k began cs (formula_then f fs) sign env h a m g c d =
      let parts = all-parts (λ u. has_symbol u n.symbols) (formula_symbols f) (formulas_symbols fs) a in
      let w : Worked = clauses_of n f sign env m in
      let v : Worked = product n began cs w.clauses w.made in
      let behind = products-back test n began v.clauses fs sign env v.made g in
      let first = (formula-right test n k f sign env h parts.0).by m (product-back test n began cs w.clauses w.made behind) d in
      let both = product-right test n began cs w.clauses w.made k.first behind c first.0 first.1 in
      products-right test n k began v.clauses fs sign env h parts.1 v.made g both.0 both.1
