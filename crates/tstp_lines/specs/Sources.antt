-- The parts of a source that are judged.
use Rattle.std.specs.Prelude.{◌==◌, List, [], if◌then◌else◌}
use Rattle.tptp_source.specs.General.{GeneralTree}
use Rattle.tptp_source.specs.Sources.{SourceTree}
use Rattle.clausal_form.specs.DerivationSteps.{LineKind, bindings_count}
use Rattle.clausal_form.specs.DerivationParts.{items_of}

-- the items, where the rule binds
abbrev pub bound_items : LineKind → SourceTree → List GeneralTree
bound_items kind source = if bindings_count kind == 0 then [] else items_of source
