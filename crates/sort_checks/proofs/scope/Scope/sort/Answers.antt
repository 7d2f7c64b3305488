use Rattle.std.proofs.Common.{◌≡◌, ◌+◌, ◌-◌, take, ap, sym, ◌∙◌, arith}
use Rattle.std.specs.Prelude.{bytes_eq}
use Rattle.typed_problem.specs.SortFaults.{sort_in_force}
use Rattle.sort_checks.specs.Scopes.{innermost_first}
use Rattle.sort_checks.proofs.ScopeLemmas.{passed-over, met-there}
use Rattle.sort_checks.proofs.scope.Scope.sort.Goals as goal

pub loop-index-preserved : goal.loop-index-preserved
loop-index-preserved c =
    let back : c.loop-index.index - 1 + 1 ≡ c.loop-index.index = omega (arith, c.loop-index-test.true) in
    sym
    (passed-over c.self.inside.variables.items (c.loop-index.index - 1) c.index-variable.result.now c.args.name.now
    (omega (arith, c.len-index.ensures, c.loop-index.auto.index, c.loop-index-test.true)) c.index-variable.ensures
    (ap (λ w. bytes_eq w c.args.name.now) (sym c.as_slice.ensures) ∙ sym c.if-eq.ensures))
    ∙ ap (λ n. sort_in_force (innermost_first (take n c.self.inside.variables.items)) c.args.name.now) back
    ∙ c.loop-index.invariant

pub returns-then-eq : goal.returns-then-eq
returns-then-eq c =
    let back : c.loop-index.index - 1 + 1 ≡ c.loop-index.index = omega (arith, c.loop-index-test.true) in
    sym
    (met-there c.self.inside.variables.items (c.loop-index.index - 1) c.index-variable.result.now c.args.name.now
    (omega (arith, c.len-index.ensures, c.loop-index.auto.index, c.loop-index-test.true)) c.index-variable.ensures
    (ap (λ w. bytes_eq w c.args.name.now) (sym c.as_slice.ensures) ∙ sym c.if-eq.ensures))
    ∙ ap (λ n. sort_in_force (innermost_first (take n c.self.inside.variables.items)) c.args.name.now) back
    ∙ c.loop-index.invariant ∙ ap (λ vs. sort_in_force vs c.args.name.now) c.self.view_is
