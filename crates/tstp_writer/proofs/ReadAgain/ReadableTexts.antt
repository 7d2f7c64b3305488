-- The formulas of clauses that can be read again can be printed.
use Rattle.std.proofs.Common.{◌≡◌, ℕ, zero, suc, ◌+◌, ◌≤◌, Bool, true, false, not, ◌==◌, List, [], ◌∷◌, ◌++◌, map, Option, None, Some, refl, sym, subst, arith, append-nil, leb-true}
use Rattle.std.specs.Prelude.{max, option_map, unwrap_or, slice_get, if◌then◌else◌}
use Rattle.std.specs.List.{list_all, AllByRecursion}
use Rattle.std.proofs.lemmas.Bool.{and_parts, and_from, not-true}
use Rattle.std.proofs.Math.Nat.{max-le}
use Rattle.plain_types.specs.declared.sequence.NameLit.{NameLit}
use Rattle.fol_base.specs.Tree.{Tree, variable, application, Trees, no_trees, tree_then, trees_count, tree_size, trees_size}
use Rattle.fol_base.specs.Clause.{TreeLiteral, TreeClause}
use Rattle.fol_base.specs.declared.limits.TheConstants.{MOST_SYMBOLS}
use Rattle.tptp_token.specs.Lexemes.{IsLexedAs}
use Rattle.tptp_token.proofs.AboutLexemes.LexemeLemmas.{lexes-whole, lexes-nothing}
use Rattle.tptp_tree.specs.declared.limits.TheConstants.{MOST_DERIVATION_NESTING}
use Rattle.tptp_tree.specs.Term.{TermTrees, no_terms}
use Rattle.tptp_tree.specs.Formula.{FormulaTree, truth, falsity, predicate, equation, negation, conjunction, disjunction, connected, quantified, formulas_of, list_of_formulas, with_sign}
use Rattle.tptp_tree.specs.Printing.{is_joined, formula_text}
use Rattle.tptp_tree.specs.Spelling.{phrase_lexemes, SpellsFormula}
use Rattle.tptp_tree.proofs.CanonicalLemmas.{WellTerm, WellTerms, WellFormula, WellFormulas, phrase_of, formula-meant}
use Rattle.tptp_tree.proofs.LexingLemmas.{formula-lexes}
use Rattle.signature.specs.declared.symbol.Symbol.{Symbol}
use Rattle.signature.specs.Clausal.{atom_literal}
use Rattle.tptp_tree.specs.Levels.{term_levels, arguments_levels, terms_levels, with_parentheses, formula_levels, operands_levels}
use Rattle.tstp_writer.specs.ClauseTrees.{symbol_name, term_tree, term_trees, atom_formula, literal_formula, introduced_name, signed_name_formula, one_of, clause_formula}
use Rattle.kernel_steps.specs.Lines.{is_small_term, has_small_sides}
use Rattle.tstp_writer.specs.ReadableLines.{is_symbol_in, is_literal_over}
use Rattle.tstp_writer.specs.Printable.{IsShown, is_literal_formula, is_clause_formula}
use Rattle.tstp_writer.specs.WrittenTexts.{AreShownSymbols}
use Rattle.tstp_writer.proofs.ReadAgain.LiteralKinds.{IsTermOver, AreTermsOver, first-term, more-terms, IsHeadOver, function-head, IsEquationOver, by-kind}
use Rattle.tstp_writer.proofs.AboutPrinted.TermTexts.{well}
use Rattle.tstp_writer.proofs.AboutPrinted.PieceTexts.{variable_name-word}
use Rattle.tstp_writer.proofs.ReadAgain.Parentheses.{parentheses-some}

-- ---- names

-- a symbol of the list that isn't `$true`
name-shown :
    (symbols : List Symbol) (f n : ℕ)
    → AreShownSymbols symbols → not (f == 0) ≡ true → is_symbol_in symbols f n ≡ true → IsShown (symbol_name symbols f)
name-shown symbols zero n each h k = absurd (let e : false ≡ true = h in cc)
name-shown symbols (suc f) n each h k = by (slice_get symbols (suc f)) refl k
  where
    by :
        (o : Option Symbol) → slice_get symbols (suc f) ≡ o → unwrap_or (option_map (λ (s : Symbol). s.arity == n) o) false ≡ true
        → IsShown (unwrap_or (option_map (λ (s : Symbol). s.name) o) [])
    by None e g = absurd (let x : false ≡ true = g in cc)
    by (Some s) e g = each f s e

-- ---- terms

mutual
  pub term-well : (symbols : List Symbol) (t : Tree) → AreShownSymbols symbols → IsTermOver symbols t → WellTerm (term_tree symbols t)
  term-well symbols (variable v) each h = variable_name-word v
  term-well symbols (application f ts) each h =
      let over : IsHeadOver symbols f ts false = function-head symbols f ts h in (
        well (symbol_name symbols f) (name-shown symbols f (trees_count ts) each over.apart over.there),
        terms-well symbols ts each over.arguments,
      )

  terms-well : (symbols : List Symbol) (ts : Trees) → AreShownSymbols symbols → AreTermsOver symbols ts → WellTerms (term_trees symbols ts)
  terms-well symbols no_trees each h = tt
  terms-well symbols (tree_then t ts) each h =
      (term-well symbols t each (first-term symbols t ts h), terms-well symbols ts each (more-terms symbols t ts h))

-- ---- levels: fewer than symbols

one-more : (a b k : ℕ) → suc a ≤ k → suc b ≤ k → suc (max a b) ≤ k
one-more a b zero h g = absurd (omega (arith, h))
one-more a b (suc k) h g =
    let first : a ≤ k = omega (arith, h) in
    let second : b ≤ k = omega (arith, g) in
    omega (arith, max-le first second)

mutual
  pub term-few : (symbols : List Symbol) (t : Tree) → suc (term_levels (term_tree symbols t)) ≤ tree_size t
  term-few symbols (variable v) = omega arith
  term-few symbols (application f ts) = omega (arith, arguments-few symbols ts)

  arguments-few : (symbols : List Symbol) (ts : Trees) → arguments_levels (term_trees symbols ts) ≤ trees_size ts
  arguments-few symbols no_trees = omega arith
  arguments-few symbols (tree_then t ts) =
      let first = term-few symbols t in
      let more = terms-few symbols ts in
      one-more (term_levels (term_tree symbols t)) (terms_levels (term_trees symbols ts)) (tree_size t + trees_size ts)
      (omega (arith, first)) (omega (arith, first, more))

  terms-few : (symbols : List Symbol) (ts : Trees) → terms_levels (term_trees symbols ts) ≤ trees_size ts
  terms-few symbols no_trees = omega arith
  terms-few symbols (tree_then t ts) =
      let first : term_levels (term_tree symbols t) ≤ tree_size t + trees_size ts = omega (arith, term-few symbols t) in
      let more : terms_levels (term_trees symbols ts) ≤ tree_size t + trees_size ts = omega (arith, terms-few symbols ts) in
      max-le first more

-- ---- literals

pub record IsPrintableLiteral (f : FormulaTree) : Type 0 where
  pub well : WellFormula f
  pub literal : is_literal_formula f ≡ true
  pub levels : with_parentheses (is_joined f) (formula_levels f) ≤ MOST_DERIVATION_NESTING

signed-truth : (sign : Bool) → IsPrintableLiteral (with_sign sign truth)
signed-truth true = record { well = tt; literal = refl; levels = omega arith }
signed-truth false = record { well = tt; literal = refl; levels = omega arith }

signed-predicate :
    (sign : Bool) (p : List ℕ) (ts : TermTrees)
    → IsShown p → WellTerms ts → suc (arguments_levels ts) ≤ MOST_DERIVATION_NESTING → IsPrintableLiteral (with_sign sign (predicate p ts))
signed-predicate true p ts h w l = record { well = (well p h, w); literal = refl; levels = omega (arith, l) }
signed-predicate false p ts h w l = record { well = (well p h, w); literal = refl; levels = omega (arith, l) }

-- a literal with small sides
abbrev IsPrinted : List Symbol → TreeLiteral → Type 0
IsPrinted symbols l = has_small_sides l ≡ true → IsPrintableLiteral (literal_formula symbols l)

small-sides : (l : TreeLiteral) → has_small_sides l ≡ true → (tree_size l.left ≤ MOST_SYMBOLS) × (tree_size l.right ≤ MOST_SYMBOLS)
small-sides l h =
    let parts = and_parts (is_small_term l.left) (is_small_term l.right) h in
    (leb-true (tree_size l.left) MOST_SYMBOLS parts.0, leb-true (tree_size l.right) MOST_SYMBOLS parts.1)

predicate-printable :
    (symbols : List Symbol) → AreShownSymbols symbols → (b : Bool) (f : ℕ) (ts : Trees) → IsHeadOver symbols f ts true
    → IsPrinted symbols (atom_literal b (application f ts))
predicate-printable symbols each b f ts over small =
    let size : 1 + trees_size ts ≤ MOST_SYMBOLS = (small-sides (atom_literal b (application f ts)) small).0 in
    subst (λ c. IsPrintableLiteral (with_sign b (if c then truth else predicate (symbol_name symbols f) (term_trees symbols ts))))
    (sym (not-true (f == 0) over.apart))
    (signed-predicate b (symbol_name symbols f) (term_trees symbols ts)
    (name-shown symbols f (trees_count ts) each over.apart over.there) (terms-well symbols ts each over.arguments)
    (omega (arith, arguments-few symbols ts, size)))

equation-printable :
    (symbols : List Symbol) → AreShownSymbols symbols → (l : TreeLiteral) → IsEquationOver symbols l → IsPrinted symbols l
equation-printable symbols each l over small =
    let sizes = small-sides l small in
    let left : term_levels (term_tree symbols l.left) ≤ MOST_DERIVATION_NESTING = omega (arith, term-few symbols l.left, sizes.0) in
    let right : term_levels (term_tree symbols l.right) ≤ MOST_DERIVATION_NESTING = omega (arith, term-few symbols l.right, sizes.1) in
    subst
    (λ c. IsPrintableLiteral (if c then with_sign l.positive (atom_formula symbols l.left) else equation l.positive (term_tree symbols l.left) (term_tree symbols l.right)))
    (sym over.no_truth)
    (record {
      well = (term-well symbols l.left each over.left, term-well symbols l.right each over.right);
      literal = refl;
      levels = max-le left right;
    })

literal-printable : (symbols : List Symbol) (l : TreeLiteral) → AreShownSymbols symbols → is_literal_over symbols l ≡ true → IsPrinted symbols l
literal-printable symbols l each =
    by-kind symbols (IsPrinted symbols) (λ b small. signed-truth b) (predicate-printable symbols each) (equation-printable symbols each) l

literals-printable :
    (symbols : List Symbol) (ls : List TreeLiteral)
    → AreShownSymbols symbols → list_all (is_literal_over symbols) ls ≡ true → list_all has_small_sides ls ≡ true
    → AllByRecursion IsPrintableLiteral (map (literal_formula symbols) ls)
literals-printable symbols [] each h small = tt
literals-printable symbols (l ∷ ls) each h small =
    let over = and_parts (is_literal_over symbols l) (list_all (is_literal_over symbols) ls) h in
    let sizes = and_parts (has_small_sides l) (list_all has_small_sides ls) small in
    (literal-printable symbols l each over.0 sizes.0, literals-printable symbols ls each over.1 sizes.1)

-- ---- clauses

pub record IsPrintableFormula (f : FormulaTree) : Type 0 where
  pub well : WellFormula f
  pub clause : is_clause_formula f ≡ true
  pub levels : formula_levels f ≤ MOST_DERIVATION_NESTING

literal-clause : (f : FormulaTree) → is_literal_formula f ≡ true → is_clause_formula f ≡ true
literal-clause truth h = refl
literal-clause falsity h = refl
literal-clause (predicate p ts) h = refl
literal-clause (equation positive s t) h = refl
literal-clause (negation f) h = h
literal-clause (conjunction fs) h = h
literal-clause (disjunction fs) h = absurd (let e : false ≡ true = h in cc)
literal-clause (connected c f g) h = h
literal-clause (quantified q xs f) h = h

all-well : (fs : List FormulaTree) → AllByRecursion IsPrintableLiteral fs → WellFormulas (formulas_of fs)
all-well [] h = tt
all-well (f ∷ fs) h = (h.0.well, all-well fs h.1)

all-literals : (fs : List FormulaTree) → AllByRecursion IsPrintableLiteral fs → list_all is_literal_formula (list_of_formulas (formulas_of fs)) ≡ true
all-literals [] h = refl
all-literals (f ∷ fs) h =
    and_from (is_literal_formula f) (list_all is_literal_formula (list_of_formulas (formulas_of fs))) h.0.literal (all-literals fs h.1)

all-levels : (fs : List FormulaTree) → AllByRecursion IsPrintableLiteral fs → operands_levels (formulas_of fs) ≤ MOST_DERIVATION_NESTING
all-levels [] h = omega arith
all-levels (f ∷ fs) h = max-le h.0.levels (all-levels fs h.1)

one-printable : (fs : List FormulaTree) → AllByRecursion IsPrintableLiteral fs → IsPrintableFormula (one_of fs)
one-printable [] h = record { well = tt; clause = refl; levels = omega arith }
one-printable (f ∷ []) h =
    record {
      well = h.0.well;
      clause = literal-clause f h.0.literal;
      levels = omega (arith, parentheses-some (is_joined f) (formula_levels f), h.0.levels);
    }
one-printable (f ∷ g ∷ fs) h =
    record {
      well = (tt, all-well (f ∷ g ∷ fs) h);
      clause = all-literals (f ∷ g ∷ fs) h;
      levels = all-levels (f ∷ g ∷ fs) h;
    }

-- literals, and names behind them
both-printable :
    (fs gs : List FormulaTree) → AllByRecursion IsPrintableLiteral fs → AllByRecursion IsPrintableLiteral gs
    → AllByRecursion IsPrintableLiteral (fs ++ gs)
both-printable [] gs h k = k
both-printable (f ∷ fs) gs h k = (h.0, both-printable fs gs h.1 k)

-- names that are introduced are shown
abbrev pub AreShownNames : List ℕ → Type 0
AreShownNames prefix = (n : ℕ) → IsShown (introduced_name prefix n)

names-printable : (prefix : List ℕ) (ns : List NameLit) → AreShownNames prefix → AllByRecursion IsPrintableLiteral (map (signed_name_formula prefix) ns)
names-printable prefix [] shown = tt
names-printable prefix (n ∷ ns) shown =
    (signed-predicate n.positive (introduced_name prefix n.name) no_terms (shown n.name) tt (omega arith), names-printable prefix ns shown)

pub clause-printable :
    (symbols : List Symbol) (prefix : List ℕ) (c : TreeClause)
    → AreShownSymbols symbols → AreShownNames prefix → list_all (is_literal_over symbols) c.literals ≡ true
    → list_all has_small_sides c.literals ≡ true → IsPrintableFormula (clause_formula symbols prefix c)
clause-printable symbols prefix c each shown over small =
    one-printable (map (literal_formula symbols) c.literals ++ map (signed_name_formula prefix) c.names)
    (both-printable (map (literal_formula symbols) c.literals) (map (signed_name_formula prefix) c.names)
    (literals-printable symbols c.literals each over small) (names-printable prefix c.names shown))

-- ---- their texts

pub formula-spelled : (f : FormulaTree) → WellFormula f → SpellsFormula (formula_text f) f
formula-spelled f w = (
  phrase_of f,
  subst (λ us. IsLexedAs us (phrase_lexemes (phrase_of f) [])) (append-nil (formula_text f))
      (lexes-whole (formula_text f ++ []) (phrase_lexemes (phrase_of f) []) (formula-lexes f w [] [] tt lexes-nothing)),
  formula-meant f w,
)
