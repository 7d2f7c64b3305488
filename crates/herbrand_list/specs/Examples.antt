-- Worked examples over the kernel's derivations: one implication, two rewrites, and lines whose bindings have variables of their own.
use Rattle.std.specs.Prelude.{List, [], ◌∷◌}
use Rattle.fol_base.specs.Examples.{x, f, p}
use Rattle.kernel_steps.specs.Examples.{line, not_p, not_true}
use Rattle.kernel_steps.specs.declared.step.Step.TheVariants.{Clausify, Para, Refl}
use Rattle.fol_base.specs.declared.clause.Side.TheVariants.{Left}
use Rattle.kernel_steps.specs.declared.step.Line.{Line}

-- p(X0) for all X0 against not p(X0) for all X0, both bound to a variable that no line's clause has
abbrev pub open_lines : List Line
open_lines =
    line (Clausify 0) (p (x 0) ∷ [])
    ∷ line (Clausify 1) (not_p (x 0) ∷ [])
    ∷ line (Para 0 1 0 Left 0 Left [] (f (x 3) ∷ []) (f (x 3) ∷ [])) (not_true ∷ [])
    ∷ line (Refl 2 0 []) []
    ∷ []
