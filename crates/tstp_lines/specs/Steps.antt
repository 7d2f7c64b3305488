-- The program's kinds of lines and its bindings.
use Rattle.std.specs.Prelude.{List, [], ◌∷◌, Option, None, Some, unwrap_or}
use Rattle.fol_base.specs.Tree.{Tree}
use Rattle.clausal_form.specs.DerivationSteps.{LineKind, input_kind, negate_kind, clausify_kind, para_kind, refl_kind, factor_kind, merge_kind, component_kind, opposite_kind, split_kind, chain_kind, no_rule_kind}
use Rattle.tstp_lines.specs.declared.steps.Kind.{Kind}
use Rattle.tstp_lines.specs.declared.steps.Kind.TheVariants.{Input, Negate, Clausify, Para, Refl, Factor, Merge, Component, Opposite, Split, Chain, NoRule}

abbrev pub kind_meant : Kind → LineKind
kind_meant Input = input_kind
kind_meant Negate = negate_kind
kind_meant Clausify = clausify_kind
kind_meant Para = para_kind
kind_meant Refl = refl_kind
kind_meant Factor = factor_kind
kind_meant Merge = merge_kind
kind_meant (Component name) = component_kind name.now
kind_meant (Opposite name) = opposite_kind name.now
kind_meant Split = split_kind
kind_meant Chain = chain_kind
kind_meant NoRule = no_rule_kind

abbrev pub bound_terms : Option (List Tree) → List Tree
bound_terms o = unwrap_or o []

abbrev pub two_of : {X : Type 0} → List X → Option (X × X)
two_of (x ∷ y ∷ []) = Some (x, y)
two_of xs = None
