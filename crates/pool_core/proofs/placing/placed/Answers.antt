use Rattle.std.proofs.Common.{◌≡◌, ℕ, true, true≢false, refl, sym, ◌∙◌, rules, map}
use Rattle.kernel_steps.specs.Lines.{is_plain_step}
use Rattle.kernel_steps.specs.ParentNumbers as kernel
use Rattle.kernel_steps.specs.declared.step.Step.{Step}
use Rattle.kernel_steps.specs.declared.step.Step.TheVariants.{Input, Negate, Clausify, Para, Refl, Factor, Merge, Component, Opposite, Split, Chain}
use Rattle.pool_history.specs.Lines.{line_number, with_parents}
use Rattle.pool_core.specs.Started.{registered_at}
use Rattle.pool_core.proofs.placing.placed.Goals as goal

-- other numbers for the parents of a plain step are those of any step
plain-parents : (to : ℕ → ℕ) (step : Step) → is_plain_step step ≡ true → kernel.with_parents to step ≡ with_parents to step
plain-parents to (Clausify i) plain = refl
plain-parents to (Para a b j s l z place first second) plain = refl
plain-parents to (Refl a l bind) plain = refl
plain-parents to (Factor a j s l z bind) plain = refl
plain-parents to (Merge a j l bind) plain = refl
plain-parents to (Input place) plain = refl
plain-parents to (Negate place) plain = refl
plain-parents to (Component name) plain = refl
plain-parents to (Opposite name) plain = refl
plain-parents to (Split parent definitions parts) plain = absurd (true≢false (sym plain))
plain-parents to (Chain numbers pivots) plain = absurd (true≢false (sym plain))

pub returns : goal.returns
returns c =
    let to : ℕ → ℕ = line_number (map registered_at c.args.register.now.clauses) c.args.first in
    let mapped : c.map_parents.result ≡ kernel.with_parents to c.args.step = c.map_parents.ensures to (λ n m below may did. search rules) in
    mapped ∙ plain-parents to c.args.step c.requires.plain
