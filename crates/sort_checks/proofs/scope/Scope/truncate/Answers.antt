use Rattle.std.proofs.Common.{◌-◌, length, drop, ap, ◌∙◌}
use Rattle.sort_checks.specs.Scopes.{innermost_first}
use Rattle.sort_checks.proofs.ScopeLemmas.{outer-kept}
use Rattle.sort_checks.proofs.scope.Scope.truncate.Goals as goal

pub returns : goal.returns
returns c =
    ap innermost_first c.truncate.ensures.items ∙ outer-kept c.self.inside.variables.items c.args.len
    ∙ ap (λ vs. drop (length vs - c.args.len) vs) c.self.view_is
