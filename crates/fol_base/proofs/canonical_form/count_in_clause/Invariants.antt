use Rattle.std.proofs.Common.{◌≡◌, ◌≤◌, ◌^◌, Some, take}
use Rattle.std.specs.Prelude.{flat_map}
use Rattle.fol_base.specs.Numbering.{count_after}
use Rattle.fol_base.proofs.AboutCanonical.WalkLemmas.{literal_parts}
use Rattle.fol_base.proofs.canonical_form.count_in_clause.Given as goal

abbrev pub invariant-loop-literal : goal.invariant-loop-literal
invariant-loop-literal l = record {
  counted : count_after 0 (flat_map literal_parts (take l.literal-index l.literal-items)) ≡ Some l.count;
  limit : l.count ≤ 2 ^ 32;
}
