-- What is made of a formula is right over a signature that has the formula's symbols, and those made for it, at their places.
use Rattle.std.proofs.Common.{◌≡◌, ◌⊎◌, inl, inr, ℕ, ◌+◌, Bool, true, false, not, List, [], ◌∷◌, length, Some, refl, ap, sym, subst, arith}
use Rattle.std.specs.Prelude.{flat_map, nat_lt, bytes_eq, slice_get, if◌then◌else◌}
use mathlib.Core.Bool.{beq}
use Rattle.std.specs.List.{list_all}
use Rattle.std.proofs.lemmas.Bool.{and_parts, and_from}
use Rattle.tptp_tree.specs.Term.{TermTree, variable as named_variable, application as named_application, TermTrees, no_terms, term_then}
use Rattle.tptp_tree.specs.Formula.{implies, implied, equivalent, different, nor, nand, FormulaTree, truth, falsity, predicate, equation, negation, conjunction, disjunction, connected, quantified, FormulaTrees, no_formulas, formula_then}
use Rattle.fol_base.specs.Tree.{Tree, variable, application, no_trees, trees_count}
use Rattle.fol_base.specs.Clause.{TreeLiteral, literal_variables}
use Rattle.signature.specs.declared.symbol.Symbol.{Symbol}
use Rattle.signature.specs.Symbol.{predicate_symbol, function_symbol, true_symbol, has_symbol, number_of}
use Rattle.signature.specs.Occurrences.{terms_count, term_symbols, terms_symbols, formula_symbols, formulas_symbols}
use Rattle.signature.specs.Environment.{Environment, free_names, without_names, term_in_force, term_under, terms_under}
use Rattle.signature.specs.Clausal.{SymbolNumbers, Made, Worked, Scope, Literals, Work, applied, with_variables, skolem_arguments, with_skolem_terms, makes_variables, scope_of, is_large, atom_literal, made_in_order, named, product, joined, truth_value, one_literal, clauses_of, listed_clauses, product_clauses}
use Rattle.skolem.specs.Skolemized.{AreKnown}
use Rattle.clausal_form.proofs.AboutForms.ShapeLemmas.{product_by}
use Rattle.clausal_form.proofs.AboutForms.SymbolPlaces.{IsAt, Knows, function-at, predicate-at, Right, RightAll, right-then, right-application, applied-right, RightLiteral, RightClauses, right-atom, right-truth, right-equation, name-right, clauses-joined, pairs-right, headed-right}
use Rattle.list_lemmas.proofs.Places.{get-front, get-last}
use Rattle.list_lemmas.proofs.Tests.{all-parts}

-- ---- what was made has its places

pub record Fits (symbols : List Symbol) (n : SymbolNumbers) (m : Made) : Type 0 where
  pub skolem : (k a : ℕ) → slice_get m.skolem_arities k ≡ Some a → IsAt symbols (n.first_skolem + k) false a
  pub naming : (k a : ℕ) → slice_get m.naming_arities k ≡ Some a → IsAt symbols (n.first_naming + k) true a

pub record RightForce (symbols : List Symbol) (env : Environment) : Type 0 where
  pub at : (x : List ℕ) → Right symbols (term_in_force env x)

pub force-none : (symbols : List Symbol) → RightForce symbols []
force-none symbols = record { at = λ x. record { kind = refl; arities = refl } }

force-more :
    (symbols : List Symbol) (y : List ℕ) (t : Tree) (env : Environment) → Right symbols t → RightForce symbols env → RightForce symbols ((y, t) ∷ env)
force-more symbols y t env h k = record { at = λ x. by x (bytes_eq y x) }
  where
    by : (x : List ℕ) (b : Bool) → Right symbols (if b then t else term_in_force env x)
    by x true = h
    by x false = k.at x

under-count : (known : List Symbol) (env : Environment) (ts : TermTrees) → trees_count (terms_under known env ts) ≡ terms_count ts
under-count known env no_terms = refl
under-count known env (term_then t ts) = ap (λ n. 1 + n) (under-count known env ts)

mutual
  term-right :
      (symbols known : List Symbol) (env : Environment) → Knows symbols known → RightForce symbols env → (t : TermTree)
      → AreKnown known (term_symbols t) → Right symbols (term_under known env t)
  term-right symbols known env k h (named_variable x) a = h.at x
  term-right symbols known env k h (named_application f ts) a =
      let parts = and_parts (has_symbol (function_symbol f (terms_count ts)) known) _ a in
      right-application symbols _ _
      (subst (λ c. IsAt symbols (number_of known (function_symbol f (terms_count ts))) false c) (sym (under-count known env ts))
      (function-at symbols known k f (terms_count ts) parts.0))
      (terms-right symbols known env k h ts parts.1)

  terms-right :
      (symbols known : List Symbol) (env : Environment) → Knows symbols known → RightForce symbols env → (ts : TermTrees)
      → AreKnown known (terms_symbols ts) → RightAll symbols (terms_under known env ts)
  terms-right symbols known env k h no_terms a = record { kind = refl; arities = refl }
  terms-right symbols known env k h (term_then t ts) a =
      let parts = all-parts (λ s. has_symbol s known) (term_symbols t) (terms_symbols ts) a in
      right-then symbols _ _ (term-right symbols known env k h t parts.0) (terms-right symbols known env k h ts parts.1)

predicate-right :
    (symbols known : List Symbol) (env : Environment) (sign : Bool) (p : List ℕ) (ts : TermTrees) → Knows symbols known → RightForce symbols env
    → AreKnown known (predicate_symbol p (terms_count ts) ∷ terms_symbols ts)
    → RightLiteral symbols (atom_literal sign (application (number_of known (predicate_symbol p (terms_count ts))) (terms_under known env ts)))
predicate-right symbols known env sign p ts k h a =
    by ts (predicate-at symbols known k p (terms_count ts) parts.0) (terms-right symbols known env k h ts parts.1)
  where
    parts :
        (has_symbol (predicate_symbol p (terms_count ts)) known ≡ true)
        × (list_all (λ s. has_symbol s known) (terms_symbols ts) ≡ true)
    parts = and_parts (has_symbol (predicate_symbol p (terms_count ts)) known) _ a

    by :
        (us : TermTrees)
        → IsAt symbols (number_of known (predicate_symbol p (terms_count us))) true (terms_count us)
        ⊎ (number_of known (predicate_symbol p (terms_count us)) ≡ 0) × (terms_count us ≡ 0)
        → RightAll symbols (terms_under known env us)
        → RightLiteral symbols (atom_literal sign (application (number_of known (predicate_symbol p (terms_count us))) (terms_under known env us)))
    by us (inl at) rs =
        right-atom symbols sign _ _ k.first
        (subst (λ c. IsAt symbols (number_of known (predicate_symbol p (terms_count us))) true c) (sym (under-count known env us)) at) rs
    by no_terms (inr e) rs =
        subst (λ f. RightLiteral symbols (atom_literal sign (application f no_trees))) (sym e.0) (right-truth symbols sign k.first)
    by (term_then u us) (inr e) rs = absurd (let none : ⊥ = omega (arith, e.1) in none)

-- ---- quantifiers

variables-back :
    (symbols : List Symbol) (n : SymbolNumbers) (xs : List (List ℕ)) (env : Environment) (m : Made)
    → Fits symbols n (with_variables xs env m).made → Fits symbols n m
variables-back symbols n [] env m h = h
variables-back symbols n (x ∷ xs) env m h =
    let g = variables-back symbols n xs _ _ h in
    record { skolem = g.skolem; naming = g.naming }

skolem-back :
    (symbols : List Symbol) (n : SymbolNumbers) (free xs : List (List ℕ)) (env : Environment) (m : Made)
    → Fits symbols n (with_skolem_terms n free xs env m).made → Fits symbols n m
skolem-back symbols n free [] env m h = h
skolem-back symbols n free (x ∷ xs) env m h =
    let g = skolem-back symbols n free xs _ _ h in
    record { skolem = λ k a e. g.skolem k a (get-front m.skolem_arities _ k a e); naming = g.naming }

scope-back :
    (symbols : List Symbol) (n : SymbolNumbers) (new : Bool) (xs : List (List ℕ)) (body : FormulaTree) (env : Environment) (m : Made)
    → Fits symbols n (scope_of n new xs body env m).made → Fits symbols n m
scope-back symbols n true xs body env m h = variables-back symbols n xs env m h
scope-back symbols n false xs body env m h = skolem-back symbols n (free_names body) xs env m h

pub record RightScope (symbols : List Symbol) (s : Scope) : Type 0 where
  pub environment : RightForce symbols s.environment
  pub defining : RightClauses symbols s.made.defining

variables-scope :
    (symbols : List Symbol) (xs : List (List ℕ)) (env : Environment) (m : Made) → RightForce symbols env → RightClauses symbols m.defining
    → RightScope symbols (with_variables xs env m)
variables-scope symbols [] env m h d = record { environment = h; defining = d }
variables-scope symbols (x ∷ xs) env m h d =
    variables-scope symbols xs _ _ (force-more symbols x (variable m.variables) env (record { kind = refl; arities = refl }) h) d

skolem-scope :
    (symbols : List Symbol) (n : SymbolNumbers) (free xs : List (List ℕ)) (env : Environment) (m : Made)
    → Fits symbols n (with_skolem_terms n free xs env m).made → RightForce symbols env → RightClauses symbols m.defining
    → RightScope symbols (with_skolem_terms n free xs env m)
skolem-scope symbols n free [] env m f h d = record { environment = h; defining = d }
skolem-scope symbols n free (x ∷ xs) env m f h d =
    let arguments : List ℕ = skolem_arguments (without_names (x ∷ xs) free) env m in
    let g = skolem-back symbols n free xs _ _ f in
    skolem-scope symbols n free xs _ _ f
    (force-more symbols x (applied (n.first_skolem + length m.skolem_arities) arguments) env
    (applied-right symbols _ arguments (g.skolem (length m.skolem_arities) (length arguments) (get-last m.skolem_arities (length arguments)))) h)
    d

scope-right :
    (symbols : List Symbol) (n : SymbolNumbers) (new : Bool) (xs : List (List ℕ)) (body : FormulaTree) (env : Environment) (m : Made)
    → Fits symbols n (scope_of n new xs body env m).made → RightForce symbols env → RightClauses symbols m.defining
    → RightScope symbols (scope_of n new xs body env m)
scope-right symbols n true xs body env m f h d = variables-scope symbols xs env m h d
scope-right symbols n false xs body env m f h d = skolem-scope symbols n (free_names body) xs env m f h d

-- ---- products

named-back :
    (symbols : List Symbol) (n : SymbolNumbers) (began : ℕ) (cs : List Literals) (m : Made) → Fits symbols n (named n began cs m).made
    → Fits symbols n m
named-back symbols n began cs m h =
    record { skolem = h.skolem; naming = λ k a e. h.naming k a (get-front m.naming_arities _ k a e) }

abbrev AreRight : List Symbol → Worked → Type 0
AreRight symbols w = RightClauses symbols w.clauses × RightClauses symbols w.made.defining

named-right :
    (symbols : List Symbol) (n : SymbolNumbers) (began : ℕ) (cs : List Literals) (m : Made) → slice_get symbols 0 ≡ Some true_symbol
    → Fits symbols n (named n began cs m).made → RightClauses symbols cs → RightClauses symbols m.defining → AreRight symbols (named n began cs m)
named-right symbols n began cs m first h c d = (
  and_from _ _ (and_from _ _ (literal true) refl) refl,
  clauses-joined symbols m.defining _ d (headed-right symbols _ cs (literal false) c),
)
  where
    literal : (sign : Bool) → RightLiteral symbols (atom_literal sign (applied (n.first_naming + length m.naming_arities) (made_in_order began (flat_map (λ e. flat_map literal_variables e) cs))))
    literal sign = name-right symbols sign _ _ first (h.naming (length m.naming_arities) _ (get-last m.naming_arities _))

product-back :
    (symbols : List Symbol) (n : SymbolNumbers) (began : ℕ) (a b : List Literals) (m : Made) → Fits symbols n (product n began a b m).made
    → Fits symbols n m
product-back symbols n began a b m h = by (is_large a b) (nat_lt (length a) (length b)) h
  where
    by : (t u : Bool) → Fits symbols n (product_by n began a b t u m).made → Fits symbols n m
    by false u g = g
    by true true g = named-back symbols n began b m g
    by true false g = named-back symbols n began a m g

product-right :
    (symbols : List Symbol) (n : SymbolNumbers) (began : ℕ) (a b : List Literals) (m : Made) → slice_get symbols 0 ≡ Some true_symbol
    → Fits symbols n (product n began a b m).made → RightClauses symbols a → RightClauses symbols b → RightClauses symbols m.defining
    → AreRight symbols (product n began a b m)
product-right symbols n began a b m first h c e d = by (is_large a b) (nat_lt (length a) (length b)) h
  where
    by : (t u : Bool) → Fits symbols n (product_by n began a b t u m).made → AreRight symbols (product_by n began a b t u m)
    by false u g = (pairs-right symbols a b c e, d)
    by true true g =
        let w = named-right symbols n began b m first g e d in
        (pairs-right symbols a (named n began b m).clauses c w.0, w.1)
    by true false g =
        let w = named-right symbols n began a m first g c d in
        (pairs-right symbols (named n began a m).clauses b w.0 e, w.1)

-- ---- formulas

pub record Back (symbols : List Symbol) (n : SymbolNumbers) (w : Work) : Type 0 where
  pub by : (m : Made) → Fits symbols n (w m).made → Fits symbols n m

joined-back :
    (symbols : List Symbol) (n : SymbolNumbers) (listed : Bool) (a b : Work) → Back symbols n a → Back symbols n b
    → Back symbols n (joined n listed a b)
joined-back symbols n true a b h k = record { by = λ m g. h.by m (k.by (a m).made g) }
joined-back symbols n false a b h k = record { by = λ m g. h.by m (k.by (a m).made (product-back symbols n m.variables (a m).clauses (b (a m).made).clauses (b (a m).made).made g)) }

truth-back : (symbols : List Symbol) (n : SymbolNumbers) (sign : Bool) → Back symbols n (truth_value sign)
truth-back symbols n true = record { by = λ m g. g }
truth-back symbols n false = record { by = λ m g. g }

mutual
  pub formula-back : (symbols : List Symbol) (n : SymbolNumbers) (f : FormulaTree) (sign : Bool) (env : Environment) → Back symbols n (clauses_of n f sign env)
  formula-back symbols n truth sign env = record { by = (truth-back symbols n sign).by }
  formula-back symbols n falsity sign env = record { by = (truth-back symbols n (not sign)).by }
  formula-back symbols n (predicate p ts) sign env = record { by = λ m g. g }
  formula-back symbols n (equation positive s t) sign env = record { by = λ m g. g }
  formula-back symbols n (negation f) sign env = record { by = (formula-back symbols n f (not sign) env).by }
  formula-back symbols n (conjunction fs) true env = record { by = (listed-back symbols n fs true env).by }
  formula-back symbols n (conjunction fs) false env = record { by = λ m g. products-back symbols n m.variables ([] ∷ []) fs false env m g }
  formula-back symbols n (disjunction fs) true env = record { by = λ m g. products-back symbols n m.variables ([] ∷ []) fs true env m g }
  formula-back symbols n (disjunction fs) false env = record { by = (listed-back symbols n fs false env).by }
  formula-back symbols n (connected implies f g) sign env =
      record { by = (joined-back symbols n (not sign) _ _ (formula-back symbols n f (not sign) env) (formula-back symbols n g sign env)).by }
  formula-back symbols n (connected implied f g) sign env =
      record { by = (joined-back symbols n (not sign) _ _ (formula-back symbols n f sign env) (formula-back symbols n g (not sign) env)).by }
  formula-back symbols n (connected nor f g) sign env =
      record { by = (joined-back symbols n sign _ _ (formula-back symbols n f (not sign) env) (formula-back symbols n g (not sign) env)).by }
  formula-back symbols n (connected nand f g) sign env =
      record { by = (joined-back symbols n (not sign) _ _ (formula-back symbols n f (not sign) env) (formula-back symbols n g (not sign) env)).by }
  formula-back symbols n (connected equivalent f g) sign env =
      record {
        by =
            (joined-back symbols n true _ _
            (joined-back symbols n false _ _ (formula-back symbols n f (not sign) env) (formula-back symbols n g true env))
            (joined-back symbols n false _ _ (formula-back symbols n f sign env) (formula-back symbols n g false env))).by;
      }
  formula-back symbols n (connected different f g) sign env =
      record {
        by =
            (joined-back symbols n true _ _
            (joined-back symbols n false _ _ (formula-back symbols n f sign env) (formula-back symbols n g true env))
            (joined-back symbols n false _ _ (formula-back symbols n f (not sign) env) (formula-back symbols n g false env))).by;
      }
  formula-back symbols n (quantified q xs f) sign env =
      record {
        by =
            λ m g.
            let s : Scope = scope_of n (makes_variables q sign) xs f env m in
            scope-back symbols n (makes_variables q sign) xs f env m ((formula-back symbols n f sign s.environment).by s.made g);
      }

  listed-back :
      (symbols : List Symbol) (n : SymbolNumbers) (fs : FormulaTrees) (sign : Bool) (env : Environment) → Back symbols n (listed_clauses n fs sign env)
  listed-back symbols n no_formulas sign env = record { by = (truth-back symbols n true).by }
  listed-back symbols n (formula_then f fs) sign env =
      record { by = (joined-back symbols n true _ _ (formula-back symbols n f sign env) (listed-back symbols n fs sign env)).by }

  products-back :
      (symbols : List Symbol) (n : SymbolNumbers) (began : ℕ) (cs : List Literals) (fs : FormulaTrees) (sign : Bool) (env : Environment) (m : Made)
      → Fits symbols n (product_clauses n began cs fs sign env m).made → Fits symbols n m
  products-back symbols n began cs no_formulas sign env m g = g
  products-back symbols n began cs (formula_then f fs) sign env m g =
      let w : Worked = clauses_of n f sign env m in
      let v : Worked = product n began cs w.clauses w.made in
      (formula-back symbols n f sign env).by m
      (product-back symbols n began cs w.clauses w.made (products-back symbols n began v.clauses fs sign env v.made g))

pub record RightWork (symbols : List Symbol) (n : SymbolNumbers) (w : Work) : Type 0 where
  pub by : (m : Made) → Fits symbols n (w m).made → RightClauses symbols m.defining → AreRight symbols (w m)

joined-right :
    (symbols : List Symbol) (n : SymbolNumbers) (listed : Bool) (a b : Work) → slice_get symbols 0 ≡ Some true_symbol → Back symbols n b
    → RightWork symbols n a → RightWork symbols n b → RightWork symbols n (joined n listed a b)
joined-right symbols n true a b first back h k =
    record {
      by =
          λ m g d.
          let w = h.by m (back.by (a m).made g) d in
          let v = k.by (a m).made g w.1 in
          (clauses-joined symbols (a m).clauses (b (a m).made).clauses w.0 v.0, v.1);
    }
joined-right symbols n false a b first back h k =
    record {
      by =
          λ m g d.
          let behind = product-back symbols n m.variables (a m).clauses (b (a m).made).clauses (b (a m).made).made g in
          let w = h.by m (back.by (a m).made behind) d in
          let v = k.by (a m).made behind w.1 in
          product-right symbols n m.variables (a m).clauses (b (a m).made).clauses (b (a m).made).made first g w.0 v.0 v.1;
    }

truth-works : (symbols : List Symbol) (n : SymbolNumbers) (sign : Bool) → RightWork symbols n (truth_value sign)
truth-works symbols n true = record { by = λ m g d. (refl, d) }
truth-works symbols n false = record { by = λ m g d. (refl, d) }

literal-works : (symbols : List Symbol) (n : SymbolNumbers) (l : TreeLiteral) → RightLiteral symbols l → RightWork symbols n (one_literal l)
literal-works symbols n l h = record { by = λ m g d. (and_from _ _ (and_from _ _ h refl) refl, d) }

abbrev pub Known : SymbolNumbers → List Symbol → Type 0
Known n ss = AreKnown n.symbols ss

mutual
  pub formula-right :
      (symbols : List Symbol) (n : SymbolNumbers) → Knows symbols n.symbols → (f : FormulaTree) (sign : Bool) (env : Environment)
      → RightForce symbols env → Known n (formula_symbols f) → RightWork symbols n (clauses_of n f sign env)
  formula-right symbols n k truth sign env h a = record { by = (truth-works symbols n sign).by }
  formula-right symbols n k falsity sign env h a = record { by = (truth-works symbols n (not sign)).by }
  formula-right symbols n k (predicate p ts) sign env h a =
      let l : TreeLiteral =
      atom_literal sign (application (number_of n.symbols (predicate_symbol p (terms_count ts))) (terms_under n.symbols env ts)) in
      record { by = (literal-works symbols n l (predicate-right symbols n.symbols env sign p ts k h a)).by }
  formula-right symbols n k (equation positive s t) sign env h a =
      let parts = all-parts (λ u. has_symbol u n.symbols) (term_symbols s) (term_symbols t) a in
      let l : TreeLiteral = record { positive = beq positive sign; left = term_under n.symbols env s; right = term_under n.symbols env t } in
      record {
        by =
            (literal-works symbols n l
            (right-equation symbols l (term-right symbols n.symbols env k h s parts.0) (term-right symbols n.symbols env k h t parts.1))).by;
      }
  formula-right symbols n k (negation f) sign env h a = record { by = (formula-right symbols n k f (not sign) env h a).by }
  formula-right symbols n k (conjunction fs) true env h a = record { by = (listed-right symbols n k fs true env h a).by }
  formula-right symbols n k (conjunction fs) false env h a =
      record { by = λ m g d. products-right symbols n k m.variables ([] ∷ []) fs false env h a m g refl d }
  formula-right symbols n k (disjunction fs) true env h a =
      record { by = λ m g d. products-right symbols n k m.variables ([] ∷ []) fs true env h a m g refl d }
  formula-right symbols n k (disjunction fs) false env h a = record { by = (listed-right symbols n k fs false env h a).by }
  formula-right symbols n k (connected implies f g) sign env h a =
      let parts = all-parts (λ u. has_symbol u n.symbols) (formula_symbols f) (formula_symbols g) a in
      record {
        by =
            (joined-right symbols n (not sign) _ _ k.first (formula-back symbols n g sign env) (formula-right symbols n k f (not sign) env h parts.0)
            (formula-right symbols n k g sign env h parts.1)).by;
      }
  formula-right symbols n k (connected implied f g) sign env h a =
      let parts = all-parts (λ u. has_symbol u n.symbols) (formula_symbols f) (formula_symbols g) a in
      record {
        by =
            (joined-right symbols n (not sign) _ _ k.first (formula-back symbols n g (not sign) env) (formula-right symbols n k f sign env h parts.0)
            (formula-right symbols n k g (not sign) env h parts.1)).by;
      }
  formula-right symbols n k (connected nor f g) sign env h a =
      let parts = all-parts (λ u. has_symbol u n.symbols) (formula_symbols f) (formula_symbols g) a in
      record {
        by =
            (joined-right symbols n sign _ _ k.first (formula-back symbols n g (not sign) env) (formula-right symbols n k f (not sign) env h parts.0)
            (formula-right symbols n k g (not sign) env h parts.1)).by;
      }
  formula-right symbols n k (connected nand f g) sign env h a =
      let parts = all-parts (λ u. has_symbol u n.symbols) (formula_symbols f) (formula_symbols g) a in
      record {
        by =
            (joined-right symbols n (not sign) _ _ k.first (formula-back symbols n g (not sign) env) (formula-right symbols n k f (not sign) env h parts.0)
            (formula-right symbols n k g (not sign) env h parts.1)).by;
      }
  formula-right symbols n k (connected equivalent f g) sign env h a =
      let parts = all-parts (λ u. has_symbol u n.symbols) (formula_symbols f) (formula_symbols g) a in
      record {
        by =
            (joined-right symbols n true _ _ k.first
            (joined-back symbols n false _ _ (formula-back symbols n f sign env) (formula-back symbols n g false env))
            (joined-right symbols n false _ _ k.first (formula-back symbols n g true env) (formula-right symbols n k f (not sign) env h parts.0)
            (formula-right symbols n k g true env h parts.1))
            (joined-right symbols n false _ _ k.first (formula-back symbols n g false env) (formula-right symbols n k f sign env h parts.0)
            (formula-right symbols n k g false env h parts.1))).by;
      }
  formula-right symbols n k (connected different f g) sign env h a =
      let parts = all-parts (λ u. has_symbol u n.symbols) (formula_symbols f) (formula_symbols g) a in
      record {
        by =
            (joined-right symbols n true _ _ k.first
            (joined-back symbols n false _ _ (formula-back symbols n f (not sign) env) (formula-back symbols n g false env))
            (joined-right symbols n false _ _ k.first (formula-back symbols n g true env) (formula-right symbols n k f sign env h parts.0)
            (formula-right symbols n k g true env h parts.1))
            (joined-right symbols n false _ _ k.first (formula-back symbols n g false env) (formula-right symbols n k f (not sign) env h parts.0)
            (formula-right symbols n k g false env h parts.1))).by;
      }
  formula-right symbols n k (quantified q xs f) sign env h a =
      record {
        by =
            λ m g d.
            let s : Scope = scope_of n (makes_variables q sign) xs f env m in
            let inside = (formula-back symbols n f sign s.environment).by s.made g in
            let r = scope-right symbols n (makes_variables q sign) xs f env m inside h d in
            (formula-right symbols n k f sign s.environment r.environment a).by s.made g r.defining;
      }

  listed-right :
      (symbols : List Symbol) (n : SymbolNumbers) → Knows symbols n.symbols → (fs : FormulaTrees) (sign : Bool) (env : Environment)
      → RightForce symbols env → Known n (formulas_symbols fs) → RightWork symbols n (listed_clauses n fs sign env)
  listed-right symbols n k no_formulas sign env h a = record { by = (truth-works symbols n true).by }
  listed-right symbols n k (formula_then f fs) sign env h a =
      let parts = all-parts (λ u. has_symbol u n.symbols) (formula_symbols f) (formulas_symbols fs) a in
      record {
        by =
            (joined-right symbols n true _ _ k.first (listed-back symbols n fs sign env) (formula-right symbols n k f sign env h parts.0)
            (listed-right symbols n k fs sign env h parts.1)).by;
      }

  products-right :
      (symbols : List Symbol) (n : SymbolNumbers) → Knows symbols n.symbols → (began : ℕ) (cs : List Literals) (fs : FormulaTrees) (sign : Bool)
      (env : Environment) → RightForce symbols env → Known n (formulas_symbols fs) → (m : Made)
      → Fits symbols n (product_clauses n began cs fs sign env m).made → RightClauses symbols cs → RightClauses symbols m.defining
      → AreRight symbols (product_clauses n began cs fs sign env m)
  products-right symbols n k began cs no_formulas sign env h a m g c d = (c, d)
  products-right symbols n k began cs (formula_then f fs) sign env h a m g c d =
      let parts = all-parts (λ u. has_symbol u n.symbols) (formula_symbols f) (formulas_symbols fs) a in
      let w : Worked = clauses_of n f sign env m in
      let v : Worked = product n began cs w.clauses w.made in
      let behind = products-back symbols n began v.clauses fs sign env v.made g in
      let first = (formula-right symbols n k f sign env h parts.0).by m (product-back symbols n began cs w.clauses w.made behind) d in
      let both = product-right symbols n began cs w.clauses w.made k.first behind c first.0 first.1 in
      products-right symbols n k began v.clauses fs sign env h parts.1 v.made g both.0 both.1
