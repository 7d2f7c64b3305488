-- From propositional models to finite models of a form, and back.
use Rattle.std.proofs.Common.{◌≡◌, ℕ, ◌+◌, ◌<◌, ◌≤◌, Bool, true, false, ◌&&◌, List, [], ◌∷◌, length, map, refl, ap, sym, ◌∙◌, subst, arith, ◌⊎◌, inl, inr}
use Rattle.std.specs.Prelude.{◌^◌, slice_index_or}
use Rattle.std.specs.List.{AllByRecursion, list_all}
use Rattle.std.proofs.lemmas.Bool.{and_parts, and_from, cases_Bool, true≢false, cond-true, cond-false}
use Rattle.fol_base.specs.Clause.{TreeClause}
use Rattle.fol_base.specs.Interpretation.{Interpretation, IsInterpretation, HoldsIn}
use Rattle.fol_base.specs.WellFormed.{are_literals_of}
use Rattle.sat_core.specs.Clause.{Valuation}
use Rattle.signature.specs.declared.symbol.Symbol.{Symbol}
use Rattle.signature.specs.Symbol.{IsSignature}
use Rattle.signature.specs.Form.{ClausalForm}
use Rattle.kernel_steps.specs.Symbols.{clause_symbols_pass}
use Rattle.clausal_form.specs.FormFunctions.{is_predicate_in}
use Rattle.clausal_form.specs.FormLaws.{arity_in, use_of}
use Rattle.finite_models.specs.declared.entry_names.EntryNames.{EntryNames}
use Rattle.finite_models.specs.Agreement.{Agrees, FlatClausesTellTruth, table_of, TablesHaveTheEntries, InterpretationsHaveValuations}
use Rattle.finite_models.specs.Model.{has_arity_in, IsOverSignature, IsModel}
use Rattle.finite_models.specs.Flattening.{Entries, flat_clause, flat_clause_true}
use Rattle.finite_models.specs.EntryNames.{AreEntryNames, entries_of}
use Rattle.finite_models.specs.Constants.{constants_true}
use Rattle.finite_models.specs.Translation.{ClauseFits, is_function, symbol_true, symbols_true, flat_clauses_true}
use Rattle.finite_models.proofs.AboutNumbers.ListLemmas.{all-numbers}
use Rattle.finite_models.proofs.AboutFlattening.ProperLemmas.{ProperLiteral, proper-literals}
use Rattle.finite_models.proofs.AboutFlattening.HoldingLemmas.{holds-flat}
use Rattle.finite_models.proofs.AboutFlattening.ReturnLemmas.{flat-holds}
use Rattle.finite_models.proofs.AboutTables.FitLemmas.{clause-fits}
use Rattle.finite_models.proofs.AboutTables.SignatureLemmas.{number-within, truth-predicate, function-proper}
use Rattle.finite_models.proofs.AboutTables.DecodedLemmas.{valuation_in, valuation-agrees, function-has-values}
use Rattle.finite_models.proofs.AboutTables.CellLemmas.{table-interprets, table-agrees}
use Rattle.finite_models.proofs.AboutTables.OrderLemmas.{Ordered, in-order, order-valued}

pub flat_clauses_tell_truth : FlatClausesTellTruth
flat_clauses_tell_truth symbols entries i c interprets agrees used known =
    let proper : AllByRecursion (ProperLiteral (use_of symbols) (length symbols)) c.literals = proper-literals (use_of symbols) (length symbols) (has_arity_in symbols) (number-within symbols) c.literals used known in (
      λ flat. flat-holds (use_of symbols) (length symbols) entries i agrees interprets c proper flat,
      λ holds. holds-flat (use_of symbols) (length symbols) entries i agrees interprets.has_value c proper holds,
    )

pub tables_have_the_entries : TablesHaveTheEntries
tables_have_the_entries symbols n valuation some h = (table-interprets symbols n valuation some, table-agrees symbols n valuation some h)

pub interpretations_have_valuations : InterpretationsHaveValuations
interpretations_have_valuations symbols n i signed are size_is interprets =
    (valuation_in symbols n i are size_is, all-functions, agrees)
  where
    agrees : Agrees (use_of symbols) (length symbols) (entries_of (valuation_in symbols n i are size_is) n) i
    agrees = valuation-agrees symbols n i are size_is

    one-function :
        (f : ℕ) → f < length symbols → (is_predicate_in symbols f ≡ true) ⊎ (is_predicate_in symbols f ≡ false)
        → symbol_true symbols n (valuation_in symbols n i are size_is) f ≡ true
    one-function f known (inl e) =
        cond-true (is_predicate_in symbols f) true
        (is_function n.size (slice_index_or n.firsts.items f 0) (n.size ^ arity_in symbols f) (valuation_in symbols n i are size_is)) e
    one-function f known (inr e) =
        cond-false (is_predicate_in symbols f) true
        (is_function n.size (slice_index_or n.firsts.items f 0) (n.size ^ arity_in symbols f) (valuation_in symbols n i are size_is)) e
        ∙ function-has-values symbols n i (valuation_in symbols n i are size_is) agrees size_is interprets f
        (function-proper symbols (truth-predicate symbols signed) f e) known e

    all-functions : symbols_true symbols n (valuation_in symbols n i are size_is) ≡ true
    all-functions =
        all-numbers (symbol_true symbols n (valuation_in symbols n i are size_is)) 0 (length symbols)
        (λ f l m. one-function f (low f (length symbols) m) (cases_Bool (is_predicate_in symbols f)))
      where
        low : (a b : ℕ) → a < 0 + b → a < b
        low a b h = omega (arith, h)

-- ---- the clauses of a form

module _ (symbols : List Symbol) where
  abbrev Used : TreeClause → Bool
  Used c = are_literals_of (use_of symbols) c.literals

  abbrev Known : TreeClause → Bool
  Known c = clause_symbols_pass (has_arity_in symbols) c

  hold-all :
      (entries : Entries) (i : Interpretation) (cs : List TreeClause)
      → IsInterpretation (is_predicate_in symbols) i → Agrees (use_of symbols) (length symbols) entries i
      → list_all Used cs ≡ true → list_all Known cs ≡ true
      → list_all (flat_clause_true i.size entries) (map flat_clause cs) ≡ true → AllByRecursion (HoldsIn i) cs
  hold-all entries i [] interprets agrees used known flat = tt
  hold-all entries i (c ∷ cs) interprets agrees used known flat =
      let us = and_parts (Used c) (list_all Used cs) used in
      let ks = and_parts (Known c) (list_all Known cs) known in
      let fs = and_parts (flat_clause_true i.size entries (flat_clause c)) (list_all (flat_clause_true i.size entries) (map flat_clause cs)) flat in (
        (flat_clauses_tell_truth symbols entries i c interprets agrees us.0 ks.0).0 fs.0,
        hold-all entries i cs interprets agrees us.1 ks.1 fs.1,
      )

  flat-all :
      (entries : Entries) (i : Interpretation) (cs : List TreeClause)
      → IsInterpretation (is_predicate_in symbols) i → Agrees (use_of symbols) (length symbols) entries i
      → list_all Used cs ≡ true → list_all Known cs ≡ true
      → AllByRecursion (HoldsIn i) cs → list_all (flat_clause_true i.size entries) (map flat_clause cs) ≡ true
  flat-all entries i [] interprets agrees used known holds = refl
  flat-all entries i (c ∷ cs) interprets agrees used known holds =
      let us = and_parts (Used c) (list_all Used cs) used in
      let ks = and_parts (Known c) (list_all Known cs) known in
      and_from (flat_clause_true i.size entries (flat_clause c)) (list_all (flat_clause_true i.size entries) (map flat_clause cs))
      ((flat_clauses_tell_truth symbols entries i c interprets agrees us.0 ks.0).1 holds.0)
      (flat-all entries i cs interprets agrees us.1 ks.1 holds.1)

  fit-all :
      (n : EntryNames) (are : AreEntryNames symbols n) (some : 1 ≤ n.size) (cs : List TreeClause)
      → list_all Used cs ≡ true → list_all Known cs ≡ true → AllByRecursion (ClauseFits n) (map flat_clause cs)
  fit-all n are some [] used known = tt
  fit-all n are some (c ∷ cs) used known =
      let us = and_parts (Used c) (list_all Used cs) used in
      let ks = and_parts (Known c) (list_all Known cs) known in (
        clause-fits symbols n are some c (proper-literals (use_of symbols) (length symbols) (has_arity_in symbols) (number-within symbols) c.literals us.0 ks.0),
        fit-all n are some cs us.1 ks.1,
      )

pub form-fits :
    (form : ClausalForm) (n : EntryNames) → IsOverSignature form → AreEntryNames form.symbols n → 1 ≤ n.size
    → AllByRecursion (ClauseFits n) (map flat_clause form.clauses)
form-fits form n over are some = fit-all form.symbols n are some form.clauses over.used over.known

-- a propositional model gives a finite one
pub model-found :
    (form : ClausalForm) (n : EntryNames) (valuation : Valuation) → IsOverSignature form → 1 ≤ n.size
    → symbols_true form.symbols n valuation ≡ true → flat_clauses_true (map flat_clause form.clauses) n valuation ≡ true
    → IsModel form (table_of form.symbols n valuation)
model-found form n valuation over some functions flat =
    let these = tables_have_the_entries form.symbols n valuation some functions in
    record {
      interprets = these.0;
      makes_true =
          hold-all form.symbols (entries_of valuation n) (table_of form.symbols n valuation) form.clauses these.0 these.1 over.used over.known flat;
    }

-- and a finite model gives one with its constants in order, and that a propositional one
pub no-model :
    (form : ClausalForm) (n : EntryNames) → IsOverSignature form → IsSignature form.symbols → AreEntryNames form.symbols n
    → ((valuation : Valuation)
    → (symbols_true form.symbols n valuation && (constants_true form.symbols n valuation && flat_clauses_true (map flat_clause form.clauses) n valuation))
    ≡ false)
    → (i : Interpretation) → IsModel form i → i.size ≡ n.size → ⊥
no-model form n over signed are none i model same =
    by (in-order form over signed i model (length form.symbols) (omega arith))
  where
    by : Ordered form over signed i.size (length form.symbols) → ⊥
    by o =
        let size_is : n.size ≡ o.i.size = sym (o.size_is ∙ same) in
        let there = interpretations_have_valuations form.symbols n o.i signed are size_is (o.model).interprets in
        let flat : list_all (flat_clause_true o.i.size (entries_of there.0 n)) (map flat_clause form.clauses) ≡ true =
        flat-all form.symbols (entries_of there.0 n) o.i form.clauses (o.model).interprets there.2 over.used over.known (o.model).makes_true in
        let ordered : constants_true form.symbols n there.0 ≡ true =
        order-valued form.symbols n o.i there.0 there.2 (truth-predicate form.symbols signed) size_is o.order in
        true≢false
        (sym
        (and_from (symbols_true form.symbols n there.0)
        (constants_true form.symbols n there.0 && flat_clauses_true (map flat_clause form.clauses) n there.0) there.1
        (and_from (constants_true form.symbols n there.0) (flat_clauses_true (map flat_clause form.clauses) n there.0) ordered
        (subst (λ k. list_all (flat_clause_true k (entries_of there.0 n)) (map flat_clause form.clauses) ≡ true) (sym size_is) flat)))
        ∙ none there.0)
