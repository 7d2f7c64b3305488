use Rattle.std.proofs.Common.{◌≡◌}
use Rattle.std.specs.Prelude.{zip}
use Rattle.std.specs.List.{list_all}
use Rattle.clausal_form.specs.DerivationParts.{parent_lines}
use Rattle.clausal_form.specs.DerivationCauses.{is_bound}
use Rattle.tstp_checker.specs.Lines.{taken_in}
use Rattle.tstp_checker.proofs.AboutVerdicts.RuleLineLemmas.{Bound, bound_left}
use Rattle.tstp_checker.proofs.lines.Lines.are_bound_to.Given as goal

abbrev pub invariant-loop-bind : goal.invariant-loop-bind
invariant-loop-bind l =
    bound_left (λ (b : Bound). is_bound b.0 (parent_lines (taken_in l.self) b.1)) l.bindings l.bind-index l.left
    ≡ list_all (λ (b : Bound). is_bound b.0 (parent_lines (taken_in l.self) b.1)) (zip l.bindings l.parents)
