use Rattle.std.proofs.Common.{◌≡◌, map, Some}
use Rattle.std.specs.Vec.Iter.{into_iter_items}
use Rattle.tptp_source.specs.Shape.{tree_of}
use Rattle.tptp_source.specs.Sources.{names_in}
use Rattle.tptp_source.proofs.AboutParts.PartTerms.{joined_names}
use Rattle.tptp_source.proofs.part.into_names.Given as goal

abbrev pub invariant-loop-term : goal.invariant-loop-term
invariant-loop-term l = names_in l.fn.terms ≡ joined_names (Some l.names) (names_in (map tree_of (into_iter_items l.term-iterator)))
