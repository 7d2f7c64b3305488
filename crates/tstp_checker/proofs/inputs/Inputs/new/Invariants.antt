use Rattle.std.proofs.Common.{◌≡◌, ◌≤◌, length, drop}
use Rattle.indexmap.specs.IndexMap.{get}
use Rattle.tstp_checker.specs.Entries.{same_meant}
use Rattle.tstp_checker.specs.Inputs.{first_from, says}
use Rattle.tstp_checker.specs.declared.entries.Entry.{Entry}
use Rattle.tstp_checker.proofs.inputs.Inputs.new.Given as goal

abbrev pub invariant-loop-place : goal.invariant-loop-place
invariant-loop-place l =
    ((e : Entry) → get same_meant l.first e ≡ first_from (says e) l.place (drop l.place l.formulas)) × (l.place ≤ length l.formulas)

abbrev pub decreases-loop-place : goal.decreases-loop-place
decreases-loop-place l = l.place
