-- Lines that can be read again can be, whatever numbers their parents have; and the lines of a pool can.
use Rattle.std.proofs.Common.{◌≡◌, ℕ, Bool, true, List, [], ◌∷◌, refl, ◌∙◌}
use Rattle.std.specs.Prelude.{slice_get, Some}
use Rattle.std.specs.List.{list_all}
use Rattle.std.proofs.lemmas.Bool.{and_parts, and_from}
use Rattle.fol_base.specs.Tree.{Tree}
use Rattle.fol_base.specs.Kind.{is_function_term}
use Rattle.fol_base.specs.Clause.{TreeClause}
use Rattle.fol_base.specs.Literal.{clause_of}
use Rattle.fol_base.specs.WellFormed.{has_arities}
use Rattle.fol_base.proofs.WorkedExamples.TestLemmas.{list_all-item}
use Rattle.tptp_tree.specs.declared.problem.Annotated.{Annotated}
use Rattle.signature.specs.declared.symbol.Symbol.{Symbol}
use Rattle.signature.specs.Form.{clausal_form}
use Rattle.kernel_steps.specs.Lines.{is_small_term, has_small_sides}
use Rattle.kernel_steps.specs.Soundness.{bindings_of, binds_each}
use Rattle.kernel_steps.specs.Symbols.{symbols_pass, clause_symbols_pass}
use Rattle.kernel_steps.specs.declared.step.Step.{Step}
use Rattle.kernel_steps.specs.declared.step.Step.TheVariants.{Clausify}
use Rattle.kernel_steps.specs.declared.step.Line.{Line}
use Rattle.clausal_form.specs.FormFunctions.{is_predicate_in}
use Rattle.clausal_form.specs.FormLaws.{use_of}
use Rattle.tstp_writer.specs.ReadableLines.{is_symbol_in, is_term_over, IsReadable, IsReadableLine}
use Rattle.pool_history.specs.Derived.{is_function_term_of, IsPoolLine, ArePoolLines}
use Rattle.pool_history.proofs.AboutRecords.ItemLemmas.{all-at}
use Rattle.kernel_steps.specs.ParentNumbers.{with_parents}
use Rattle.pool_writer.specs.Retraced.{AreRetraced}
use Rattle.pool_writer.proofs.AboutRetracing.CarryLemmas.{property-carries_over}
use Rattle.pool_writer.proofs.FormSymbols.{form-symbols-pass, truth-passes}
use Rattle.pool_writer.proofs.FormUse.{literals-over}

-- ---- with other numbers for parents

renumbered-binds : (test : Tree → Bool) (to : ℕ → ℕ) (step : Step) → binds_each test (with_parents to step) ≡ binds_each test step
renumbered-binds test to (Clausify i) = refl
renumbered-binds test to _ = refl

renumbered-readable : (symbols : List Symbol) (to : ℕ → ℕ) (step : Step) (c : TreeClause) → IsReadable symbols step c → IsReadable symbols (with_parents to step) c
renumbered-readable symbols to step c is = record {
  literals = is.literals;
  sides = is.sides;
  binds = renumbered-binds (is_term_over symbols) to step ∙ is.binds;
  small = renumbered-binds is_small_term to step ∙ is.small;
  canonical = is.canonical;
}

-- lines that are made anew
pub readable-anew :
    (symbols : List Symbol) (numbers : List ℕ) (old made : List Line) → AreRetraced numbers old made
    → ((n : ℕ) (line : Line) → slice_get old n ≡ Some line → IsReadableLine symbols line)
    → (n : ℕ) (line : Line) → slice_get made n ≡ Some line → IsReadableLine symbols line
readable-anew symbols numbers old made retraced each =
    property-carries_over (IsReadable symbols) numbers old made (renumbered-readable symbols) retraced each

-- ---- the lines of a pool

list_all-both : {X : Type 0} (p q r : X → Bool) → ((x : X) → p x ≡ true → q x ≡ true → r x ≡ true) → (xs : List X) → list_all p xs ≡ true → list_all q xs ≡ true → list_all r xs ≡ true
list_all-both p q r both [] one other = refl
list_all-both p q r both (x ∷ xs) one other =
    let first = and_parts (p x) (list_all p xs) one in
    let second = and_parts (q x) (list_all q xs) other in
    and_from (r x) (list_all r xs) (both x first.0 second.0) (list_all-both p q r both xs first.1 second.1)

term-over : (symbols : List Symbol) (t : Tree) → is_function_term_of (use_of symbols) t ≡ true → symbols_pass (is_symbol_in symbols) t ≡ true → is_term_over symbols t ≡ true
term-over symbols t formed known =
    and_from (is_function_term (is_predicate_in symbols) t) (symbols_pass (is_symbol_in symbols) t)
    (and_parts (is_function_term (is_predicate_in symbols) t) (has_arities (use_of symbols).arity t) formed).0 known

module _ (fs : List Annotated) (lines : List Line)
    (are : ArePoolLines (use_of (clausal_form fs).symbols) (clausal_form fs).clauses lines)
  where
    abbrev symbols : List Symbol
    symbols = (clausal_form fs).symbols

    input-symbols :
        (list_all (λ (l : Line). clause_symbols_pass (is_symbol_in symbols) (clause_of l.clause)) lines ≡ true)
        × (list_all (λ (l : Line). binds_each (symbols_pass (is_symbol_in symbols)) l.step) lines ≡ true)
    input-symbols = are.symbols (is_symbol_in symbols) (truth-passes fs) (form-symbols-pass fs)

    pub pool-readable : (n : ℕ) (line : Line) → slice_get lines n ≡ Some line → IsReadableLine symbols line
    pool-readable n line at =
        let is : IsPoolLine (use_of symbols) line = all-at (IsPoolLine (use_of symbols)) lines n line are.each at in
        let sizes = and_parts (list_all has_small_sides (clause_of line.clause).literals) (binds_each is_small_term line.step) is.small in
        let known = list_all-item (λ (l : Line). clause_symbols_pass (is_symbol_in symbols) (clause_of l.clause)) lines n line at input-symbols.0 in
        let bound = list_all-item (λ (l : Line). binds_each (symbols_pass (is_symbol_in symbols)) l.step) lines n line at input-symbols.1 in
        record {
          literals = literals-over symbols (clause_of line.clause).literals is.formed known;
          sides = sizes.0;
          binds =
              list_all-both (list_all (is_function_term_of (use_of symbols))) (list_all (symbols_pass (is_symbol_in symbols))) (list_all (is_term_over symbols))
              (list_all-both (is_function_term_of (use_of symbols)) (symbols_pass (is_symbol_in symbols)) (is_term_over symbols) (term-over symbols))
              (bindings_of line.step) is.terms bound;
          small = sizes.1;
          canonical = (is.numbered).canonical;
        }
