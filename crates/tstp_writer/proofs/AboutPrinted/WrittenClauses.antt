-- The literals of a clause are read as they were written, each variable as what its name stands for.
use mathlib.Core.Bool.{beq}
use Rattle.std.proofs.Common.{◌≡◌, ℕ, zero, suc, ◌+◌, Bool, true, false, not, ◌==◌, List, [], ◌∷◌, ◌++◌, map, Option, Some, None, cond, refl, ap, ap₂, sym, ◌∙◌, subst, arith}
use Rattle.std.specs.Prelude.{flat_map, slice_get, unwrap_or, option_map, if◌then◌else◌}
use Rattle.std.specs.List.{list_all, list_any, position_or_len}
use Rattle.std.proofs.lemmas.Bool.{and_parts, and_from, or_left, or_right, not-true, eqb-true, true≢false, false≢true, false_from_ne_true}
use Rattle.std.proofs.lemmas.Option.{none-some, same_Some}
use Rattle.std.proofs.lemmas.List.{append-nil, map-append}
use Rattle.fol_base.specs.Tree.{Tree, variable, application, Trees, no_trees, tree_then, trees_count, tree_variables, trees_variables, true_tree}
use Rattle.fol_base.specs.Instance.{Substitution, instance, instances}
use Rattle.fol_base.specs.Clause.{TreeLiteral, literal_variables, literal_instance}
use Rattle.fol_base.proofs.WorkedExamples.TestLemmas.{list_all-joined}
use Rattle.tptp_tree.specs.Formula.{FormulaTree, truth, predicate, equation, formulas_of, list_of_formulas, with_sign}
use Rattle.signature.specs.declared.symbol.Symbol.{Symbol}
use Rattle.signature.specs.declared.symbol.SymbolKind.{SymbolKind}
use Rattle.signature.specs.declared.symbol.SymbolKind.TheVariants.{Predicate, Function}
use Rattle.signature.specs.Symbol.{is_predicate_kind, predicate_symbol, function_symbol, same_symbol, has_symbol, number_of, are_different}
use Rattle.signature.specs.SymbolLaws.{same_symbol-refl, same_symbol-true}
use Rattle.signature.specs.Occurrences.{terms_count, term_symbols, terms_symbols, formula_symbols}
use Rattle.signature.specs.Environment.{Environment, term_names, terms_names, free_names, term_under, terms_under}
use Rattle.signature.specs.Clausal.{atom_literal}
use Rattle.clausal_form.specs.FormFunctions.{is_predicate_in}
use Rattle.clausal_form.specs.DerivationClause.{literals_of, is_literal as is_literal_formula, Numbering, literal_by}
use Rattle.tstp_writer.specs.ClauseTrees.{symbol_name, variable_name, term_tree, term_trees, atom_formula, literal_formula}
use Rattle.tstp_writer.specs.ReadableLines.{is_symbol_in, is_literal_over}
use Rattle.tstp_writer.proofs.ReadAgain.LiteralKinds.{IsTermOver, AreTermsOver, first-term, more-terms, IsHeadOver, function-head, IsEquationOver, by-kind}
use Rattle.tstp_writer.proofs.AboutPrinted.VariableNames.{IsReadBy, AreReadBy, all-front, all-back}

-- ---- symbols by their numbers

pub item-passes : {X : Type 0} (p : X → Bool) (xs : List X) (k : ℕ) (x : X) → slice_get xs k ≡ Some x → p x ≡ true → list_any p xs ≡ true
item-passes p [] k x at h = absurd (none-some x at)
item-passes p (y ∷ ys) zero x at h = or_left (p y) (list_any p ys) (ap p (same_Some y x at) ∙ h)
item-passes p (y ∷ ys) (suc k) x at h = or_right (p y) (list_any p ys) (item-passes p ys k x at h)

pub symbol-there : (symbols : List Symbol) (f : ℕ) (s : Symbol) → slice_get symbols f ≡ Some s → has_symbol s symbols ≡ true
symbol-there symbols f s at = item-passes (same_symbol s) symbols f s at (same_symbol-refl s)

number-back : (symbols : List Symbol) (f : ℕ) (s : Symbol) → are_different symbols ≡ true → slice_get symbols f ≡ Some s → number_of symbols s ≡ f
number-back [] f s different at = absurd (none-some s at)
number-back (k ∷ ks) zero s different at =
    ap (λ b. cond (not b) (1 + position_or_len (same_symbol s) ks) 0) (ap (same_symbol s) (same_Some k s at) ∙ same_symbol-refl s)
number-back (k ∷ ks) (suc f) s different at =
    let parts = and_parts (not (has_symbol k ks)) (are_different ks) different in
    let apart : same_symbol s k ≡ false = false_from_ne_true (same_symbol s k) λ same.
    true≢false (sym (symbol-there ks f s at) ∙ ap (λ u. has_symbol u ks) (same_symbol-true s k same) ∙ not-true (has_symbol k ks) parts.0) in
    let later : number_of (k ∷ ks) s ≡ 1 + number_of ks s = ap (λ b. cond (not b) (1 + position_or_len (same_symbol s) ks) 0) apart in
    omega (arith, later, number-back ks f s parts.1 at)

-- the symbol with a number, from its kind and how many arguments it has
symbol-at :
    (symbols : List Symbol) (f n : ℕ) (kind : SymbolKind) → is_symbol_in symbols f n ≡ true → is_predicate_in symbols f ≡ is_predicate_kind kind
    → slice_get symbols f ≡ Some (record { kind = kind; name = symbol_name symbols f; arity = n })
symbol-at symbols f n kind there kind_is = by (slice_get symbols f) there kind_is
  where
    kinds : (k l : SymbolKind) → is_predicate_kind k ≡ is_predicate_kind l → k ≡ l
    kinds Predicate Predicate h = refl
    kinds Predicate Function h = absurd (true≢false h)
    kinds Function Predicate h = absurd (false≢true h)
    kinds Function Function h = refl

    by :
        (o : Option Symbol) → unwrap_or (option_map (λ (s : Symbol). s.arity == n) o) false ≡ true
        → unwrap_or (option_map (λ (s : Symbol). is_predicate_kind s.kind) o) false ≡ is_predicate_kind kind
        → o ≡ Some (record { kind = kind; name = unwrap_or (option_map (λ (s : Symbol). s.name) o) []; arity = n })
    by None h k = absurd (false≢true h)
    by (Some s) h k =
        let kind_same : s.kind ≡ kind = kinds s.kind kind k in
        let arity_same : s.arity ≡ n = eqb-true s.arity n h in
        λ i. Some (record { kind = kind_same i; name = s.name; arity = arity_same i })

-- ---- lists of formulas

pub listed-formulas : (fs : List FormulaTree) → list_of_formulas (formulas_of fs) ≡ fs
listed-formulas [] = refl
listed-formulas (f ∷ fs) = ap (λ gs. f ∷ gs) (listed-formulas fs)

-- ---- terms

-- symbols of the list alone
abbrev pub AreKnown : List Symbol → List Symbol → Type 0
AreKnown symbols ss = list_all (λ s. has_symbol s symbols) ss ≡ true

terms_count-same : (symbols : List Symbol) (ts : Trees) → terms_count (term_trees symbols ts) ≡ trees_count ts
terms_count-same symbols no_trees = refl
terms_count-same symbols (tree_then t ts) = ap (λ n. 1 + n) (terms_count-same symbols ts)

-- the names of a term's variables
mutual
  pub term-names : (symbols : List Symbol) (t : Tree) → term_names (term_tree symbols t) ≡ map variable_name (tree_variables t)
  term-names symbols (variable v) = refl
  term-names symbols (application f ts) = terms-names symbols ts

  terms-names : (symbols : List Symbol) (ts : Trees) → terms_names (term_trees symbols ts) ≡ map variable_name (trees_variables ts)
  terms-names symbols no_trees = refl
  terms-names symbols (tree_then t ts) =
      ap₂ ◌++◌ (term-names symbols t) (terms-names symbols ts) ∙ sym (map-append variable_name (tree_variables t) (trees_variables ts))

module _ (symbols : List Symbol) where
  -- the symbol at the head of a term or an atom
  pub head-there :
      (f : ℕ) (ts : Trees) (kind : SymbolKind) → IsHeadOver symbols f ts (is_predicate_kind kind)
      → slice_get symbols f ≡ Some (record { kind = kind; name = symbol_name symbols f; arity = terms_count (term_trees symbols ts) })
  head-there f ts kind h =
      symbol-at symbols f (terms_count (term_trees symbols ts)) kind (ap (is_symbol_in symbols f) (terms_count-same symbols ts) ∙ h.there) h.kind

  mutual
    pub term-known : (t : Tree) → IsTermOver symbols t → AreKnown symbols (term_symbols (term_tree symbols t))
    term-known (variable v) h = refl
    term-known (application f ts) h =
        let head : Symbol = function_symbol (symbol_name symbols f) (terms_count (term_trees symbols ts)) in
        let over : IsHeadOver symbols f ts false = function-head symbols f ts h in
        and_from (has_symbol head symbols) _ (symbol-there symbols f head (head-there f ts Function over)) (terms-known ts over.arguments)

    terms-known : (ts : Trees) → AreTermsOver symbols ts → AreKnown symbols (terms_symbols (term_trees symbols ts))
    terms-known no_trees h = refl
    terms-known (tree_then t ts) h =
        list_all-joined (λ s. has_symbol s symbols) (term_symbols (term_tree symbols t)) (terms_symbols (term_trees symbols ts))
        (term-known t (first-term symbols t ts h)) (terms-known ts (more-terms symbols t ts h))

  -- ---- literals

  -- a formula is written as the literal is
  pub record IsWrittenAs (f : FormulaTree) (l : TreeLiteral) : Type 0 where
    pub written : is_literal_formula f ≡ true
    pub alone : literals_of f ≡ f ∷ []
    pub names : free_names f ≡ map variable_name (literal_variables l)
    pub known : AreKnown symbols (formula_symbols f)

  truth-written : (b : Bool) → IsWrittenAs (with_sign b truth) (atom_literal b true_tree)
  truth-written true = record { written = refl; alone = refl; names = refl; known = refl }
  truth-written false = record { written = refl; alone = refl; names = refl; known = refl }

  -- a predicate isn't written as `$true` is
  pub apart-false : (f : ℕ) → not (f == 0) ≡ true → (f == 0) ≡ false
  apart-false f h = not-true (f == 0) h

  predicate-written :
      (b : Bool) (f : ℕ) (ts : Trees) → IsHeadOver symbols f ts true
      → IsWrittenAs (literal_formula symbols (atom_literal b (application f ts))) (atom_literal b (application f ts))
  predicate-written b f ts over =
      subst (λ c. IsWrittenAs (with_sign b (if c then truth else atom)) (atom_literal b (application f ts))) (sym (apart-false f over.apart)) (by b)
    where
      atom : FormulaTree
      atom = predicate (symbol_name symbols f) (term_trees symbols ts)

      head : Symbol
      head = predicate_symbol (symbol_name symbols f) (terms_count (term_trees symbols ts))

      all : AreKnown symbols (head ∷ terms_symbols (term_trees symbols ts))
      all =
          and_from (has_symbol head symbols) _ (symbol-there symbols f head (head-there f ts Predicate over)) (terms-known ts over.arguments)

      names : terms_names (term_trees symbols ts) ≡ map variable_name (trees_variables ts ++ [])
      names = terms-names symbols ts ∙ ap (map variable_name) (sym (append-nil (trees_variables ts)))

      by : (b : Bool) → IsWrittenAs (with_sign b atom) (atom_literal b (application f ts))
      by true = record { written = refl; alone = refl; names = names; known = all }
      by false = record { written = refl; alone = refl; names = names; known = all }

  equation-written : (l : TreeLiteral) → IsEquationOver symbols l → IsWrittenAs (literal_formula symbols l) l
  equation-written l over =
      subst (λ c. IsWrittenAs (if c then with_sign l.positive (atom_formula symbols l.left) else both) l) (sym over.no_truth)
      (record {
        written = refl;
        alone = refl;
        names =
            ap₂ ◌++◌ (term-names symbols l.left) (term-names symbols l.right)
            ∙ sym (map-append variable_name (tree_variables l.left) (tree_variables l.right));
        known =
            list_all-joined (λ s. has_symbol s symbols) (term_symbols (term_tree symbols l.left)) (term_symbols (term_tree symbols l.right))
            (term-known l.left over.left) (term-known l.right over.right);
      })
    where
      both : FormulaTree
      both = equation l.positive (term_tree symbols l.left) (term_tree symbols l.right)

  literal-written : (l : TreeLiteral) → is_literal_over symbols l ≡ true → IsWrittenAs (literal_formula symbols l) l
  literal-written =
      by-kind symbols (λ l. IsWrittenAs (literal_formula symbols l) l) truth-written predicate-written equation-written

  -- ---- lists of literals

  abbrev pub written_literals : List TreeLiteral → List FormulaTree
  written_literals ls = map (literal_formula symbols) ls

  abbrev pub AreOver : List TreeLiteral → Type 0
  AreOver ls = list_all (is_literal_over symbols) ls ≡ true

  pub first-over : (l : TreeLiteral) (ls : List TreeLiteral) → AreOver (l ∷ ls) → is_literal_over symbols l ≡ true
  first-over l ls h = (and_parts (is_literal_over symbols l) (list_all (is_literal_over symbols) ls) h).0

  pub more-over : (l : TreeLiteral) (ls : List TreeLiteral) → AreOver (l ∷ ls) → AreOver ls
  more-over l ls h = (and_parts (is_literal_over symbols l) (list_all (is_literal_over symbols) ls) h).1

  pub first-written : (l : TreeLiteral) (ls : List TreeLiteral) → AreOver (l ∷ ls) → IsWrittenAs (literal_formula symbols l) l
  first-written l ls h = literal-written l (first-over l ls h)

  pub all-written : (ls : List TreeLiteral) → AreOver ls → list_all is_literal_formula (written_literals ls) ≡ true
  all-written [] h = refl
  all-written (l ∷ ls) h =
      and_from (is_literal_formula (literal_formula symbols l)) _ (first-written l ls h).written (all-written ls (more-over l ls h))

  pub all-known : (ls : List TreeLiteral) → AreOver ls → AreKnown symbols (flat_map formula_symbols (written_literals ls))
  all-known [] h = refl
  all-known (l ∷ ls) h =
      list_all-joined (λ s. has_symbol s symbols) (formula_symbols (literal_formula symbols l)) (flat_map formula_symbols (written_literals ls))
      (first-written l ls h).known (all-known ls (more-over l ls h))

  pub all-names :
      (ls : List TreeLiteral) → AreOver ls → flat_map free_names (written_literals ls) ≡ map variable_name (flat_map literal_variables ls)
  all-names [] h = refl
  all-names (l ∷ ls) h =
      ap₂ ◌++◌ (first-written l ls h).names (all-names ls (more-over l ls h))
      ∙ sym (map-append variable_name (literal_variables l) (flat_map literal_variables ls))

  -- ---- what is read again, where the variables are read by a substitution

  module _ (different : are_different symbols ≡ true) (environment : Environment) (σ : Substitution) where
    mutual
      pub term-back :
          (t : Tree) → IsTermOver symbols t → AreReadBy environment σ (tree_variables t)
          → term_under symbols environment (term_tree symbols t) ≡ instance σ t
      term-back (variable v) h read = read.0
      term-back (application f ts) h read =
          let over : IsHeadOver symbols f ts false = function-head symbols f ts h in
          ap₂ application (number-back symbols f _ different (head-there f ts Function over)) (terms-back ts over.arguments read)

      terms-back :
          (ts : Trees) → AreTermsOver symbols ts → AreReadBy environment σ (trees_variables ts)
          → terms_under symbols environment (term_trees symbols ts) ≡ instances σ ts
      terms-back no_trees h read = refl
      terms-back (tree_then t ts) h read =
          ap₂ tree_then
          (term-back t (first-term symbols t ts h) (all-front (IsReadBy environment σ) (tree_variables t) (trees_variables ts) read))
          (terms-back ts (more-terms symbols t ts h) (all-back (IsReadBy environment σ) (tree_variables t) (trees_variables ts) read))

    abbrev pub numbered : Numbering
    numbered = record { symbols = symbols; variables = environment }

    -- the literal is read as its instance
    abbrev IsBack : TreeLiteral → Type 0
    IsBack l = AreReadBy environment σ (literal_variables l) → literal_by numbered (literal_formula symbols l) ≡ literal_instance σ l

    truth-back : (b : Bool) → IsBack (atom_literal b true_tree)
    truth-back true read = refl
    truth-back false read = refl

    predicate-back : (b : Bool) (f : ℕ) (ts : Trees) → IsHeadOver symbols f ts true → IsBack (atom_literal b (application f ts))
    predicate-back b f ts over read =
        ap (λ c. literal_by numbered (with_sign b (if c then truth else predicate (symbol_name symbols f) (term_trees symbols ts))))
        (apart-false f over.apart)
        ∙ by b
      where
        head : Symbol
        head = predicate_symbol (symbol_name symbols f) (terms_count (term_trees symbols ts))

        atom : application (number_of symbols head) (terms_under symbols environment (term_trees symbols ts)) ≡ application f (instances σ ts)
        atom =
            ap₂ application (number-back symbols f head different (head-there f ts Predicate over))
            (terms-back ts over.arguments (all-front (IsReadBy environment σ) (trees_variables ts) [] read))

        by :
            (b : Bool)
            → literal_by numbered (with_sign b (predicate (symbol_name symbols f) (term_trees symbols ts)))
            ≡ literal_instance σ (atom_literal b (application f ts))
        by true = ap (atom_literal true) atom
        by false = ap (atom_literal false) atom

    equation-back : (l : TreeLiteral) → IsEquationOver symbols l → IsBack l
    equation-back l over read =
        ap (λ c. literal_by numbered (if c then with_sign l.positive (atom_formula symbols l.left) else both)) over.no_truth
        ∙ ap₂ make (term-back l.left over.left (all-front (IsReadBy environment σ) (tree_variables l.left) (tree_variables l.right) read))
        (term-back l.right over.right (all-back (IsReadBy environment σ) (tree_variables l.left) (tree_variables l.right) read))
        ∙ ap signed_literal (same l.positive)
      where
        both : FormulaTree
        both = equation l.positive (term_tree symbols l.left) (term_tree symbols l.right)

        make : Tree → Tree → TreeLiteral
        make t u = record { positive = beq l.positive true; left = t; right = u }

        signed_literal : Bool → TreeLiteral
        signed_literal b = record { positive = b; left = instance σ l.left; right = instance σ l.right }

        same : (b : Bool) → beq b true ≡ b
        same true = refl
        same false = refl

    literal-back : (l : TreeLiteral) → is_literal_over symbols l ≡ true → IsBack l
    literal-back = by-kind symbols IsBack truth-back predicate-back equation-back

    pub literals-again :
        (ls : List TreeLiteral) → AreOver ls → AreReadBy environment σ (flat_map literal_variables ls)
        → map (literal_by numbered) (written_literals ls) ≡ map (literal_instance σ) ls
    literals-again [] h read = refl
    literals-again (l ∷ ls) h read =
        ap₂ ◌∷◌
        (literal-back l (first-over l ls h)
        (all-front (IsReadBy environment σ) (literal_variables l) (flat_map literal_variables ls) read))
        (literals-again ls (more-over l ls h) (all-back (IsReadBy environment σ) (literal_variables l) (flat_map literal_variables ls) read))
