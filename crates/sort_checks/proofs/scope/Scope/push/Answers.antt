use Rattle.std.proofs.Common.{◌∷◌, [], ap, ◌∙◌}
use Rattle.typed_tree.specs.Shape.{variable_of}
use Rattle.sort_checks.specs.Scopes.{innermost_first}
use Rattle.sort_checks.proofs.ScopeLemmas.{put-joined}
use Rattle.sort_checks.proofs.scope.Scope.push.Goals as goal

pub returns : goal.returns
returns c =
    ap innermost_first c.in_ok-push.ensures.items ∙ put-joined [] c.self.inside.variables.items (c.args.variable ∷ [])
    ∙ ap (λ vs. variable_of c.args.variable.now ∷ vs) c.self.view_is
