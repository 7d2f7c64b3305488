-- What `ground_list` answers.
use Rattle.std.specs.Prelude.{◌≡◌, ◌<◌, ◌≤◌, List, [], map, Result, None, Some}
use Rattle.std.specs.declared.result.Result.TheVariants.{Ok, Err}
use Rattle.fol_base.specs.Tree.{Tree}
use Rattle.fol_base.specs.Clause.{TreeClause}
use Rattle.fol_base.specs.Ground.{GroundClause}
use Rattle.fol_base.specs.Literal.{clause_of}
use Rattle.fol_base.specs.declared.clause.Clause.{Clause}
use Rattle.kernel_steps.specs.declared.step.Line.{Line}
use Rattle.herbrand_list.specs.declared.fault.TheConstants.{MOST_WEIGHT}
use Rattle.herbrand_list.specs.declared.fault.GroundFault.{GroundFault}
use Rattle.herbrand_list.specs.declared.fault.GroundFault.TheVariants.{Names, Large, NoMemory}
use Rattle.herbrand_list.specs.GroundList.{names_line, ground_list, weight}

-- a clause without names
abbrev pub nameless : GroundClause → TreeClause
nameless literals = record { literals = literals; names = [] }

-- The list where no line speaks of names and the weight is small enough; the first line that does; or that the weight is too large.
abbrev pub IsGroundAnswer : Tree → List Line → Result (List Clause) GroundFault → Type 0
IsGroundAnswer constant lines (Ok list) =
    (names_line lines ≡ None) × (weight constant lines ≤ MOST_WEIGHT) × (map clause_of list ≡ map nameless (ground_list constant lines))
IsGroundAnswer constant lines (Err (Names line)) = names_line lines ≡ Some line
IsGroundAnswer constant lines (Err Large) = (names_line lines ≡ None) × (MOST_WEIGHT < weight constant lines)
IsGroundAnswer constant lines (Err NoMemory) = Unit {0}
