use Rattle.std.proofs.Common.{◌≡◌, ◌++◌, drop}
use Rattle.std.specs.Prelude.{filter}
use Rattle.tstp_writer.specs.LineTrees.{is_conjecture_at}
use Rattle.tstp_writer.specs.Scripts.{script_in}
use Rattle.tstp_writer.proofs.cited.conjecture_places.Given as goal

abbrev pub invariant-loop-place : goal.invariant-loop-place
invariant-loop-place l =
    l.conjectures ++ filter (is_conjecture_at (script_in l.script)) (drop l.place-index l.places)
    ≡ filter (is_conjecture_at (script_in l.script)) l.places
