use Rattle.std.proofs.Common.{◌≡◌, map, take}
use Rattle.std.specs.Prelude.{flat_map}
use Rattle.fol_base.specs.Canonical.{renaming}
use Rattle.fol_base.specs.Numbering.{with_variables}
use Rattle.fol_base.specs.Literal.{literal_of}
use Rattle.fol_base.proofs.AboutCanonical.WalkLemmas.{literal_parts, literal_instance_of}
use Rattle.fol_base.proofs.canonical_form.numbered_clause.Given as goal

abbrev pub invariant-loop-literal : goal.invariant-loop-literal
invariant-loop-literal l = record {
  met : l.numbering ≡ with_variables l.initial.numbering (flat_map literal_parts (take l.literal-index l.literal-items));
  form : map literal_of l.literals.items ≡ map (literal_instance_of (renaming l.numbering)) (take l.literal-index l.literal-items);
}
