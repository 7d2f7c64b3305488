-- The refutation of p(a) and its negation, among lines of which one isn't needed.
use Rattle.std.specs.Prelude.{ℕ, List, [], ◌∷◌}
use Rattle.fol_base.specs.Examples.{a, p}
use Rattle.fol_base.specs.declared.clause.Side.TheVariants.{Left}
use Rattle.kernel_steps.specs.Examples.{line, not_p, not_true}
use Rattle.kernel_steps.specs.declared.step.Step.TheVariants.{Clausify, Para, Refl}
use Rattle.kernel_steps.specs.declared.step.Line.{Line}

abbrev pub with_unneeded : List Line
with_unneeded =
    line (Clausify 0) (p a ∷ [])
    ∷ line (Clausify 0) (p a ∷ [])
    ∷ line (Clausify 1) (not_p a ∷ [])
    ∷ line (Para 1 2 0 Left 0 Left [] [] []) (not_true ∷ [])
    ∷ line (Refl 3 0 []) []
    ∷ []

abbrev pub needed_numbers : List ℕ
needed_numbers = 1 ∷ 2 ∷ 3 ∷ 4 ∷ []

abbrev pub needed_alone : List Line
needed_alone =
    line (Clausify 0) (p a ∷ [])
    ∷ line (Clausify 1) (not_p a ∷ [])
    ∷ line (Para 0 1 0 Left 0 Left [] [] []) (not_true ∷ [])
    ∷ line (Refl 2 0 []) []
    ∷ []
