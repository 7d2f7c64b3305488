-- The clauses of a problem's form are such as a pool may begin with.
use Rattle.std.proofs.Common.{◌≡◌, ◌+◌, ◌≤◌, List, [], length, None, arith}
use Rattle.std.specs.Prelude.{All, sum_by}
use Rattle.std.proofs.lemmas.List.Elements.{All-from_recursion, All-weaker}
use Rattle.fol_base.specs.Canonical.{IsCanonical}
use Rattle.fol_base.specs.Clause.{TreeClause, clause_size}
use Rattle.fol_base.specs.declared.limits.TheConstants.{MOST_SYMBOLS, MOST_FORM_SYMBOLS}
use Rattle.tptp_tree.specs.declared.problem.Annotated.{Annotated}
use Rattle.signature.specs.Form.{clausal_form}
use Rattle.clausal_form.specs.Fault.{form_fault}
use Rattle.clausal_form.proofs.AboutForms.FormLemmas.{forms-are-canonical, forms-are-small, forms-have-small-clauses}
use Rattle.clausal_form.proofs.AboutForms.WellFormedLemmas.{forms-are-well-formed}
use Rattle.pool_history.specs.Inputs.{AreInputs}

abbrev IsPlain : TreeClause → Type 0
IsPlain c = IsCanonical c × (c.names ≡ [])

pub form-inputs : (fs : List Annotated) → form_fault fs ≡ None → AreInputs (clausal_form fs).clauses
form-inputs fs within =
    let clauses : List TreeClause = (clausal_form fs).clauses in
    let plain : All IsPlain clauses = All-from_recursion IsPlain clauses (forms-are-canonical fs) in
    let few : length clauses + sum_by clause_size clauses ≤ MOST_FORM_SYMBOLS = forms-are-small fs within in
    record {
      canonical = All-weaker IsPlain IsCanonical (λ c is. is.0) clauses plain;
      no_names = All-weaker IsPlain (λ (c : TreeClause). c.names ≡ []) (λ c is. is.1) clauses plain;
      small = All-from_recursion (λ (c : TreeClause). clause_size c ≤ MOST_SYMBOLS) clauses (forms-have-small-clauses fs within);
      few = omega (arith, few);
      well_formed = (forms-are-well-formed fs).0;
    }
