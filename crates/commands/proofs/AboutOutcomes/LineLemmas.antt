-- The lines of a pool, whatever clauses it began with: the parts for which names stand, the order of the names, and that lines over a form's symbols
-- can be read again.
use Rattle.std.proofs.Common.{◌≡◌, ℕ, zero, suc, ◌+◌, ◌≤◌, true, List, [], ◌∷◌, map, drop, length, get_or, Option, None, Some, refl, ap, sym, ◌∙◌, arith}
use Rattle.std.specs.Prelude.{slice_get, option_map}
use Rattle.std.specs.List.{list_all, range_with_len, cons_option}
use Rattle.std.proofs.lemmas.Bool.{and_parts, and_from, eq-eqb}
use Rattle.std.proofs.lemmas.Option.{none-some, same_Some, slice_get-get_or}
use Rattle.plain_types.specs.Names.{positive_of, negative_of}
use Rattle.fol_base.specs.Clause.{TreeLiteral}
use Rattle.fol_base.specs.Kind.{is_function_term}
use Rattle.fol_base.specs.Literal.{clause_of}
use Rattle.fol_base.specs.Tree.{Tree}
use Rattle.fol_base.specs.WellFormed.{has_arities}
use Rattle.fol_base.proofs.WorkedExamples.TestLemmas.{list_all-item}
use Rattle.tptp_tree.specs.declared.problem.Annotated.{Annotated}
use Rattle.signature.specs.Form.{clausal_form}
use Rattle.signature.specs.declared.symbol.Symbol.{Symbol}
use Rattle.kernel_steps.specs.Derivation.{complement}
use Rattle.kernel_steps.specs.Lines.{is_small_term, has_small_sides}
use Rattle.kernel_steps.specs.Soundness.{bindings_of, binds_each}
use Rattle.kernel_steps.specs.Symbols.{symbols_pass, clause_symbols_pass}
use Rattle.kernel_steps.specs.declared.step.Step.{Step}
use Rattle.kernel_steps.specs.declared.step.Step.TheVariants.{Input, Negate, Clausify, Para, Refl, Factor, Merge, Component, Opposite, Split, Chain}
use Rattle.kernel_steps.specs.declared.step.Line.{Line}
use Rattle.clausal_form.specs.FormFunctions.{is_predicate_in}
use Rattle.clausal_form.specs.FormLaws.{use_of}
use Rattle.split_parts.specs.SignedNames.{named}
use Rattle.tstp_writer.specs.ReadableLines.{is_symbol_in, is_term_over, IsReadableLine}
use Rattle.pool_history.specs.Derived.{component_name, component_names, is_function_term_of, IsPoolLine, ArePoolLines}
use Rattle.pool_history.specs.Lines.{introduces}
use Rattle.pool_history.proofs.AboutLines.NameTableLemmas.{AreTold}
use Rattle.pool_history.proofs.AboutRecords.ItemLemmas.{all-at}
use Rattle.pool_writer.specs.Bodies.{HasBody, HaveBodies, NamesRise}
use Rattle.pool_writer.proofs.FormSymbols.{form-symbols-pass, truth-passes}
use Rattle.pool_writer.proofs.FormUse.{literals-over}
use Rattle.commands.proofs.AboutOutcomes.RefutedLemmas.{all-both}

-- ---- the parts for which names stand

pub pool-bodies : (parts : List (List TreeLiteral)) (lines : List Line) → AreTold parts lines → HaveBodies (named parts) lines
pool-bodies parts lines is n line at = by line.step refl
  where
    by : (step : Step) → line.step ≡ step → HasBody (named parts) step (clause_of line.clause)
    by (Component name) step_is =
        let told =
        is.told (positive_of name) n line at (ap (introduces (positive_of name)) step_is ∙ eq-eqb name name refl) in
        slice_get-get_or (named parts) name [] told.0 ∙ ap (λ c. Some c.literals) (sym told.1)
    by (Opposite name) step_is =
        let told =
        is.told (negative_of name) n line at (ap (introduces (negative_of name)) step_is ∙ eq-eqb name name refl) in
        ap (option_map (map complement)) (slice_get-get_or (named parts) name [] told.0) ∙ ap (λ c. Some c.literals) (sym told.1)
    by (Input place) step_is = tt
    by (Negate place) step_is = tt
    by (Clausify i) step_is = tt
    by (Para first second from from_side into into_side place first_bind second_bind) step_is = tt
    by (Refl parent literal bind) step_is = tt
    by (Factor parent becomes becomes_side other other_side bind) step_is = tt
    by (Merge parent stays goes bind) step_is = tt
    by (Split parent definitions shares) step_is = tt
    by (Chain numbers pivots) step_is = tt

-- ---- their order

-- the numbers from one on, without the first
without-first :
    (k : ℕ) (ks : List ℕ) (from count : ℕ) → k ∷ ks ≡ range_with_len from count
    → (rest : ℕ) × (k ≡ from) × (ks ≡ range_with_len (from + 1) rest)
without-first k ks from zero h =
    let none : length (k ∷ ks) ≡ 0 = ap length h in absurd (omega (arith, none))
without-first k ks from (suc count) h = (count, ap (λ xs. get_or xs 0 k) h, ap (drop 1) h)

-- the names after the first line
names-after :
    (o : Option ℕ) (ks : List ℕ) (from count : ℕ) → cons_option o ks ≡ range_with_len from count
    → (first : ℕ) × (rest : ℕ) × (from ≤ first) × (ks ≡ range_with_len first rest)
names-after None ks from count h = (from, count, omega arith, h)
names-after (Some k) ks from count h =
    let rest = without-first k ks from count h in (from + 1, rest.0, omega arith, rest.2)

names-above :
    (lines : List Line) (from count : ℕ) → component_names lines ≡ range_with_len from count
    → (n name : ℕ) (line : Line) → slice_get lines n ≡ Some line → line.step ≡ Component name → from ≤ name
names-above [] from count names n name line at step_is = absurd (none-some line at)
names-above (l ∷ ls) from count names zero name line at step_is =
    let one : component_name l.step ≡ Some name =
    ap (λ (m : Line). component_name m.step) (same_Some l line at) ∙ ap component_name step_is in
    let first = without-first name (component_names ls) from count (ap (λ o. cons_option o (component_names ls)) (sym one) ∙ names) in
    let same : name ≡ from = first.1 in
    omega (arith, same)
names-above (l ∷ ls) from count names (suc n) name line at step_is =
    let after = names-after (component_name l.step) (component_names ls) from count names in
    let low : from ≤ after.0 = after.2 in
    omega (arith, low, names-above ls after.0 after.1 after.3 n name line at step_is)

pub names-rise : (lines : List Line) (from count : ℕ) → component_names lines ≡ range_with_len from count → NamesRise lines
names-rise [] from count names n m name greater line later at later_at less step_is later_is = absurd (none-some line at)
names-rise (l ∷ ls) from count names n zero name greater line later at later_at less step_is later_is = absurd (omega (arith, less))
names-rise (l ∷ ls) from count names zero (suc m) name greater line later at later_at less step_is later_is =
    let one : component_name l.step ≡ Some name =
    ap (λ (k : Line). component_name k.step) (same_Some l line at) ∙ ap component_name step_is in
    let first = without-first name (component_names ls) from count (ap (λ o. cons_option o (component_names ls)) (sym one) ∙ names) in
    let same : name ≡ from = first.1 in
    let low : from + 1 ≤ greater = names-above ls (from + 1) first.0 first.2 m greater later later_at later_is in
    omega (arith, same, low)
names-rise (l ∷ ls) from count names (suc n) (suc m) name greater line later at later_at less step_is later_is =
    let after = names-after (component_name l.step) (component_names ls) from count names in
    names-rise ls after.0 after.1 after.3 n m name greater line later at later_at (omega (arith, less)) step_is later_is

-- ---- lines over a form's symbols can be read again

term-over : (symbols : List Symbol) (t : Tree) → is_function_term_of (use_of symbols) t ≡ true → symbols_pass (is_symbol_in symbols) t ≡ true → is_term_over symbols t ≡ true
term-over symbols t formed known =
    and_from (is_function_term (is_predicate_in symbols) t) (symbols_pass (is_symbol_in symbols) t)
    (and_parts (is_function_term (is_predicate_in symbols) t) (has_arities (use_of symbols).arity t) formed).0 known

module _ (fs : List Annotated) (lines : List Line)
    (are : ArePoolLines (use_of (clausal_form fs).symbols) (clausal_form fs).clauses lines)
  where
    abbrev symbols : List Symbol
    symbols = (clausal_form fs).symbols

    input-symbols :
        (list_all (λ (l : Line). clause_symbols_pass (is_symbol_in symbols) (clause_of l.clause)) lines ≡ true)
        × (list_all (λ (l : Line). binds_each (symbols_pass (is_symbol_in symbols)) l.step) lines ≡ true)
    input-symbols = are.symbols (is_symbol_in symbols) (truth-passes fs) (form-symbols-pass fs)

    pub pool-readable : (n : ℕ) (line : Line) → slice_get lines n ≡ Some line → IsReadableLine symbols line
    pool-readable n line at =
        let is : IsPoolLine (use_of symbols) line = all-at (IsPoolLine (use_of symbols)) lines n line are.each at in
        let sizes = and_parts (list_all has_small_sides (clause_of line.clause).literals) (binds_each is_small_term line.step) is.small in
        let known = list_all-item (λ (l : Line). clause_symbols_pass (is_symbol_in symbols) (clause_of l.clause)) lines n line at input-symbols.0 in
        let bound = list_all-item (λ (l : Line). binds_each (symbols_pass (is_symbol_in symbols)) l.step) lines n line at input-symbols.1 in
        record {
          literals = literals-over symbols (clause_of line.clause).literals is.formed known;
          sides = sizes.0;
          binds =
              all-both (list_all (is_function_term_of (use_of symbols))) (list_all (symbols_pass (is_symbol_in symbols))) (list_all (is_term_over symbols))
              (all-both (is_function_term_of (use_of symbols)) (symbols_pass (is_symbol_in symbols)) (is_term_over symbols) (term-over symbols))
              (bindings_of line.step) is.terms bound;
          small = sizes.1;
          canonical = (is.numbered).canonical;
        }
