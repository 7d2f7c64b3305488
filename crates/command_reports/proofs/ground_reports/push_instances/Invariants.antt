use Rattle.std.proofs.Common.{◌≡◌, ◌++◌, drop}
use Rattle.std.specs.Prelude.{flat_map}
use Rattle.std.specs.List.{enumerate_from}
use Rattle.herbrand_list.specs.Refuted.{ground_clauses}
use Rattle.command_reports.specs.GroundReports.{instance_text, instances_text}
use Rattle.command_reports.proofs.ground_reports.push_instances.Given as goal

abbrev pub invariant-loop-place : goal.invariant-loop-place
invariant-loop-place l =
    l.page ++ flat_map (instance_text l.symbols) (enumerate_from l.place (ground_clauses (drop l.place l.list)))
    ≡ l.initial.page ++ instances_text l.symbols (ground_clauses l.list)
