use Rattle.std.proofs.Common.{refl}
use Rattle.tptp_tree.specs.declared.role.Role.TheVariants.{Axiom}
use Rattle.typed_tree.proofs.laws.typed_entry_examples.Goals as goal

pub returns : goal.returns
returns c = record {
  formula_tokens = refl;
  formula_meaning = (Axiom, refl, refl);
  formula_places = refl;
  formula_causes = refl;
  formula_too_deep = refl;
  declaration_tokens = refl;
  declaration_meaning = refl;
  declaration_causes = refl;
  sort_declaration = refl;
  sortless_variable = refl;
  type_is_no_role = refl;
}
