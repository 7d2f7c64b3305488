-- Finite models of a clausal form, and the forms of which they are sought.
use Rattle.std.specs.Prelude.{◌≡◌, ℕ, Bool, false, ◌==◌, List, [], unwrap_or, option_map, slice_get, IsTrue}
use Rattle.std.specs.List.{AllByRecursion, list_all}
use Rattle.fol_base.specs.Clause.{TreeClause}
use Rattle.fol_base.specs.WellFormed.{are_literals_of}
use Rattle.fol_base.specs.Interpretation.{Interpretation, IsInterpretation, HoldsIn}
use Rattle.signature.specs.declared.symbol.Symbol.{Symbol}
use Rattle.signature.specs.Form.{ClausalForm, clausal_form}
use Rattle.tptp_tree.specs.declared.problem.Annotated.{Annotated}
use Rattle.kernel_steps.specs.Symbols.{clause_symbols_pass}
use Rattle.clausal_form.specs.FormFunctions.{is_predicate_in}
use Rattle.clausal_form.specs.FormLaws.{use_of}

-- whether the signature has a symbol with that number, with so many arguments
abbrev pub has_arity_in : List Symbol → ℕ → ℕ → Bool
has_arity_in symbols f n = unwrap_or (option_map (λ (s : Symbol). s.arity == n) (slice_get symbols f)) false

-- The clauses have no names, and their symbols are in the signature, with their kinds and their numbers of arguments.
pub record IsOverSignature (form : ClausalForm) : Type 0 where
  pub used : IsTrue (list_all (λ (c : TreeClause). are_literals_of (use_of form.symbols) c.literals) form.clauses)
  pub known : IsTrue (list_all (clause_symbols_pass (has_arity_in form.symbols)) form.clauses)
  pub without_names : AllByRecursion (λ (c : TreeClause). c.names ≡ []) form.clauses

-- an interpretation of the form's symbols in which each clause is true for all values of its variables
pub record IsModel (form : ClausalForm) (i : Interpretation) : Type 0 where
  pub interprets : IsInterpretation (is_predicate_in form.symbols) i
  pub makes_true : AllByRecursion (HoldsIn i) form.clauses

-- ---- law

-- the clausal form of every problem is such a form
abbrev pub FormsAreOverSignatures : Type 0
FormsAreOverSignatures = (fs : List Annotated) → IsOverSignature (clausal_form fs)
