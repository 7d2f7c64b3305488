-- The clauses of a problem's form, and those of its parts, are such as a pool may begin with.
use Rattle.std.proofs.Common.{◌≡◌, ◌+◌, ◌≤◌, ℕ, Bool, true, List, [], length, None, inl, inr, sym, subst, arith}
use Rattle.std.specs.Prelude.{All, Contains, sum_by}
use Rattle.std.specs.List.{list_all}
use Rattle.std.proofs.lemmas.List.Elements.{All-contains, All-contains_itself, All-from_recursion, All-weaker}
use Rattle.fol_base.specs.Canonical.{IsCanonical}
use Rattle.fol_base.specs.Clause.{TreeClause, clause_size}
use Rattle.fol_base.specs.WellFormed.{are_literals_of}
use Rattle.fol_base.specs.declared.limits.TheConstants.{MOST_SYMBOLS, MOST_FORM_SYMBOLS}
use Rattle.tptp_tree.specs.declared.problem.Annotated.{Annotated}
use Rattle.signature.specs.Form.{clausal_form}
use Rattle.clausal_form.specs.Fault.{form_fault}
use Rattle.clausal_form.specs.FormLaws.{use_of}
use Rattle.clausal_form.proofs.AboutForms.FormLemmas.{forms-are-canonical, forms-are-small, forms-have-small-clauses}
use Rattle.clausal_form.proofs.AboutForms.WellFormedLemmas.{forms-are-well-formed}
use Rattle.axiom_filter.specs.Restriction.{is_among}
use Rattle.axiom_filter.proofs.AboutParts.RestrictionLemmas.{part-all, part-passes, parts_are_inputs}
use Rattle.pool_history.specs.Inputs.{AreInputs, IsUseOf}
use Rattle.pool_writer.proofs.FormUse.{form-used}
use Rattle.command_reports.specs.Parts.{part_clauses, AreOfForm}

-- ---- the whole form

abbrev IsPlain : TreeClause → Type 0
IsPlain c = IsCanonical c × (c.names ≡ [])

form-inputs : (fs : List Annotated) → form_fault fs ≡ None → AreInputs (clausal_form fs).clauses
form-inputs fs within =
    let clauses : List TreeClause = (clausal_form fs).clauses in
    let plain : All IsPlain clauses = All-from_recursion IsPlain clauses (forms-are-canonical fs) in
    let few : length clauses + sum_by clause_size clauses ≤ MOST_FORM_SYMBOLS = forms-are-small fs within in
    record {
      canonical = All-weaker IsPlain IsCanonical (λ c is. is.0) clauses plain;
      no_names = All-weaker IsPlain (λ (c : TreeClause). c.names ≡ []) (λ c is. is.1) clauses plain;
      small = All-from_recursion (λ (c : TreeClause). clause_size c ≤ MOST_SYMBOLS) clauses (forms-have-small-clauses fs within);
      few = omega (arith, few);
      well_formed = (forms-are-well-formed fs).0;
    }

-- ---- its parts

part-inputs : (kept : List ℕ) (fs : List Annotated) → AreInputs (clausal_form fs).clauses → AreInputs (part_clauses kept fs)
part-inputs kept fs are =
    let origins : List ℕ = (clausal_form fs).origins in
    let clauses : List TreeClause = (clausal_form fs).clauses in
    let fewer = parts_are_inputs.few kept origins clauses in
    let few = are.few in
    record {
      canonical = parts_are_inputs.canonical kept origins clauses are.canonical;
      no_names = parts_are_inputs.no_names kept origins clauses are.no_names;
      small = parts_are_inputs.small kept origins clauses are.small;
      few = omega (arith, few, fewer);
      well_formed = (parts_are_inputs.well_formed kept origins clauses are.well_formed).0;
    }

pub are-inputs : (fs : List Annotated) (inputs : List TreeClause) → AreOfForm fs inputs → form_fault fs ≡ None → AreInputs inputs
are-inputs fs inputs (inl whole) within = subst AreInputs (sym whole) (form-inputs fs within)
are-inputs fs inputs (inr part) within = subst AreInputs (sym part.1) (part-inputs part.0 fs (form-inputs fs within))

-- what the clauses of the form have
pub inputs-have :
    (fs : List Annotated) (inputs : List TreeClause) (P : TreeClause → Type 0) → AreOfForm fs inputs → All P (clausal_form fs).clauses → All P inputs
inputs-have fs inputs P (inl whole) all = subst (All P) (sym whole) all
inputs-have fs inputs P (inr part) all =
    subst (All P) (sym part.1) (part-all P (is_among part.0) (clausal_form fs).origins (clausal_form fs).clauses all)

pub inputs-pass :
    (fs : List Annotated) (inputs : List TreeClause) (test : TreeClause → Bool)
    → AreOfForm fs inputs → list_all test (clausal_form fs).clauses ≡ true → list_all test inputs ≡ true
inputs-pass fs inputs test (inl whole) all = subst (λ cs. list_all test cs ≡ true) (sym whole) all
inputs-pass fs inputs test (inr part) all =
    subst (λ cs. list_all test cs ≡ true) (sym part.1)
    (part-passes test (is_among part.0) (clausal_form fs).origins (clausal_form fs).clauses all)

-- they are among them
pub inputs-contained :
    (fs : List Annotated) (inputs : List TreeClause) → AreOfForm fs inputs → (c : TreeClause) → Contains inputs c → Contains (clausal_form fs).clauses c
inputs-contained fs inputs of_form c there =
    All-contains (Contains (clausal_form fs).clauses) inputs c
    (inputs-have fs inputs (Contains (clausal_form fs).clauses) of_form (All-contains_itself (clausal_form fs).clauses)) there

-- and use symbols as the signature tells
pub inputs-used :
    (fs : List Annotated) (inputs : List TreeClause) → AreOfForm fs inputs → IsUseOf inputs (use_of (clausal_form fs).symbols)
inputs-used fs inputs of_form =
    inputs-pass fs inputs (λ (c : TreeClause). are_literals_of (use_of (clausal_form fs).symbols) c.literals) of_form (form-used fs)
