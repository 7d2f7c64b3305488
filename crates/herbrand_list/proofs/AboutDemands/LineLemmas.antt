-- The lines of a derivation by their numbers.
use Rattle.std.proofs.Common.{◌≡◌, ℕ, List, [], Some, ap}
use Rattle.std.specs.Prelude.{slice_get}
use Rattle.std.proofs.lemmas.Option.{get_or_from_slice_get}
use Rattle.fol_base.specs.Literal.{clause_of}
use Rattle.kernel_steps.specs.declared.step.Step.TheVariants.{Input, Clausify}
use Rattle.kernel_steps.specs.declared.step.Line.{Line}
use Rattle.herbrand_list.specs.Demands.{step_at}
use Rattle.herbrand_list.specs.GroundList.{literals_at}

pub step-there : (lines : List Line) (n : ℕ) (line : Line) → slice_get lines n ≡ Some line → step_at lines n ≡ line.step
step-there lines n line at =
    ap (λ (l : Line). l.step)
    (get_or_from_slice_get lines n line (record { step = Input 0; clause = record { literals = []; names = [] } }) at)

pub literals-there : (lines : List Line) (n : ℕ) (line : Line) → slice_get lines n ≡ Some line → literals_at lines n ≡ (clause_of line.clause).literals
literals-there lines n line at =
    ap (λ (l : Line). (clause_of l.clause).literals)
    (get_or_from_slice_get lines n line (record { step = Clausify 0; clause = record { literals = []; names = [] } }) at)
