-- The events that a pool's history keeps.
use Rattle.std.specs.Prelude.{List, map}
use Rattle.std.specs.declared.snapshot.Snapshot.{Snapshot}
use Rattle.pool_history.specs.declared.event.Event.{Event}
use Rattle.pool_core.specs.declared.history.History.{History}

abbrev pub events_of : History → List Event
events_of h = map (λ (s : Snapshot Event). s.value) h.events.items
