use Rattle.std.proofs.Common.{◌≡◌, ◌+◌, ◌∙◌, Bool, true, false, cond, refl, ap, arith}
use mir.Val.{bool_byte}
use Rattle.unifier.specs.Solution.{solved_form}
use Rattle.unifier.specs.Renaming.{is_shared}
use Rattle.unifier.proofs.AboutLayouts.RankLemmas.{names-start, names-push, names-done}
use Rattle.unifier.proofs.solution.Solution.names.Goals as goal

pub loop-code-init : goal.loop-code-init
loop-code-init c = names-start (is_shared (solved_form c.args.self.now) c.args.left_vars c.args.right_vars) _ c.in_ok-names.ensures.items

as_number : (b : Bool) → bool_byte b ≡ cond b 1 0
as_number true = refl
as_number false = refl

pub loop-code-preserved : goal.loop-code-preserved
loop-code-preserved c =
    names-push (is_shared (solved_form c.args.self.now) c.args.left_vars c.args.right_vars) c.loop-code.names.items _ c.loop-code.next _ _ c.loop-code.code c.is_shared.result
    c.loop-code.invariant refl c.in_ok-push.ensures.items c.is_shared.ensures (ap (λ m. c.loop-code.next + m) (c.from-next.ensures ∙ as_number c.is_shared.result))

pub returns : goal.returns
returns c = names-done c.args.self.now c.args.left_vars c.args.right_vars _ c.loop-code.next c.loop-code.code _ c.loop-code.invariant (omega arith) c.code_count-count.ensures
