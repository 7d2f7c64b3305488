use Rattle.std.proofs.Common.{◌≡◌, ◌++◌, ℕ, List, map, length, take, refl, ap, ap₂, sym, ◌∙◌, arith}
use Rattle.kernel_steps.specs.declared.step.Step.{Step}
use Rattle.pool_history.specs.Solving.{chain_step}
use Rattle.pool_core.specs.Answered.{line_cited}
use Rattle.pool_core.proofs.AboutClaims.LogLemmas.{refuted-proof, refuted-before}
use Rattle.pool_core.proofs.pool.ProofState.refute.Goals as goal

pub returns-then-is_some-clause-refuted : goal.returns-then-is_some-clause-refuted
returns-then-is_some-clause-refuted c = λ bank table r s handed is.
    refuted-before bank table c.args.self.now r s c.args.log.now (sym c.is_some.ensures ∙ c.if-is_some.true) is

pub returns-clause-refuted : goal.returns-clause-refuted
returns-clause-refuted c = λ bank table r s handed is.
    refuted-proof bank table c.args.self.now _ r s c.args.log.now (sym c.is_some.ensures ∙ c.if-is_some.false) refl
    (c.in_ok-append.ensures.items
    ∙ ap (λ (xs : List Step). c.args.self.now.steps.items ++ xs)
    (c.in_ok-steps.ensures
    ∙ ap₂ (λ (ns : List ℕ) (k : ℕ). map (chain_step (line_cited ns k)) c.args.log.now)
    (ap (take c.args.handed) c.as_slice.ensures.value ∙ ap (λ n. take n c.args.self.now.splits.propositional_lines.items) (sym handed))
    (let e : c.len.result ≡ length c.args.self.now.steps.items = omega (arith, c.len.ensures, c.args.self.now.steps.ok.0) in e)))
    refl (let enough = c.requires.handed in omega (arith, handed, enough)) is
