-- The variables' cells, at the places of their classes.
use Rattle.std.specs.Prelude.{◌≡◌, List, map, unwrap_or, All}
use Rattle.unifier.specs.declared.layout.Place.{Place}
use Rattle.unifier.specs.declared.classes.Classes.{Classes}
use Rattle.unifier.specs.declared.placing.Placing.{Placing}
use Rattle.unifier.specs.Classes.{parent}
use Rattle.unifier.specs.Placing.{place, HasLookUp}

abbrev pub relocated : Classes → Placing → Place → Place
relocated c p e = record { code = e.code; cell = unwrap_or (place p (parent c e.cell)) 0 }

abbrev pub IsRelocated : Classes → Placing → List Place → List Place → Type 0
IsRelocated c p old new = new ≡ map (relocated c p) old

abbrev pub Places : Classes → Placing → List Place → Type 0
Places c p es = All (λ (e : Place). HasLookUp c p e.cell) es
