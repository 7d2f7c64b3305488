-- The sources of lines of clauses.
use Rattle.std.specs.Prelude.{ℕ, Bool, true, false, ◌&&◌, List, [], ◌∷◌, Option, None, Some, option_map, option_and_then, unwrap_or, slice_get, if◌then◌else◌}
use Rattle.plain_types.specs.Names.{positive_of}
use Rattle.fol_base.specs.Clause.{TreeLiteral, TreeClause, clause_eq}
use Rattle.fol_base.specs.Ground.{is_ground_literal}
use Rattle.kernel_steps.specs.Derivation.{complement, component_clause}
use Rattle.clausal_form.specs.DerivationItems.{only_one}
use Rattle.clausal_form.specs.DerivationSteps.{LineKind, component_kind}
use Rattle.clausal_form.specs.DerivationLine.{Taken, kernel_lines}
use Rattle.clausal_form.specs.DerivationParts.{Setting}
use Rattle.clausal_form.specs.DerivationCauses.{is_line_of}
use Rattle.tstp_checker.specs.FormulaLines.{only_step}

abbrev pub is_component_kind : LineKind → Bool
is_component_kind (component_kind name) = true
is_component_kind kind = false

-- whether a clause of the form comes from the formula of the only parent
abbrev pub comes_from : Setting → Taken → List ℕ → ℕ → Bool
comes_from s e parents i =
    unwrap_or (option_and_then (λ origin. option_map (is_line_of s origin) (only_step e parents)) (slice_get (s.form).origins i)) false

-- whether a clause of the form is that clause
abbrev pub is_form_clause : Setting → TreeClause → ℕ → Bool
is_form_clause s c i = unwrap_or (option_map (λ d. clause_eq d c) (slice_get (s.form).clauses i)) false

-- a positive literal without variables
abbrev pub ground_atom : TreeLiteral → Option TreeLiteral
ground_atom l = if l.positive && is_ground_literal l then Some l else None

-- the ground positive literal for which a name was introduced, if it was introduced for one alone
abbrev pub atom_named : Taken → ℕ → Option TreeLiteral
atom_named e n =
    option_and_then ground_atom (option_and_then (λ (c : TreeClause). only_one c.literals) (component_clause n (kernel_lines e)))

-- the literal's complement with the name
abbrev pub opposite_clause : ℕ → TreeLiteral → TreeClause
opposite_clause n l = record { literals = complement l ∷ []; names = positive_of n ∷ [] }
