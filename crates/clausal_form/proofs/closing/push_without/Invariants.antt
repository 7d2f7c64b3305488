use Rattle.std.proofs.Common.{◌≡◌, ◌++◌, drop}
use Rattle.signature.specs.Environment.{without_names}
use Rattle.clausal_form.proofs.closing.push_without.Given as goal

abbrev pub invariant-loop-name : goal.invariant-loop-name
invariant-loop-name l = l.names ++ without_names l.bound (drop l.name-index l.found) ≡ l.initial.names ++ without_names l.bound l.found
