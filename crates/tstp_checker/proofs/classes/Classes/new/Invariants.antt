use Rattle.std.proofs.Common.{◌≡◌, ◌++◌, map, drop}
use Rattle.tstp_checker.specs.Classes.{class_of}
use Rattle.tstp_checker.proofs.classes.Classes.new.Given as goal

abbrev pub invariant-loop-formula : goal.invariant-loop-formula
invariant-loop-formula l =
    l.firsts.items ++ map (class_of l.inputs.formulas.now) (drop l.formula-index l.inputs.formulas.now)
    ≡ map (class_of l.inputs.formulas.now) l.inputs.formulas.now
