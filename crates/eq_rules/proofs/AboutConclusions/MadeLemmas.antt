-- From the calls to the lemmas: sizes that stop at a greatest number, the one member, and what a step has made.
use Rattle.std.proofs.Common.{◌≡◌, ℕ, ◌-◌, ◌^◌, ◌<◌, ◌≤◌, Bool, ◌==◌, Option, None, Some, List, refl, sym, subst, ⊎_elim, arith}
use Rattle.std.proofs.lemmas.Bool.{cond-true, cond-false, eq-eqb, eqb-true, cases_Bool}
use Rattle.plain_types.specs.Capped.{capped}
use Rattle.fol_base.specs.Tree.{Tree}
use Rattle.fol_base.specs.Clause.{TreeClause}
use Rattle.fol_base.specs.Literal.{clause_of}
use Rattle.fol_base.specs.Rules.{resolved, factored}
use Rattle.fol_base.specs.Selection.{SelectionMode}
use Rattle.fol_base.specs.declared.clause.Side.{Side}
use Rattle.kernel_steps.specs.declared.key.Key.TheVariants.{Refl, Factor}
use Rattle.kernel_steps.specs.declared.step.Step.{Step}
use Rattle.kernel_steps.specs.declared.step.Step.TheVariants as step
use Rattle.bank_clause.specs.Clause.{clause_at}
use Rattle.bank_clause.specs.declared.member.Member.{Member}
use Rattle.eq_rules.specs.Inferences.{IsConcluded, IsMade, alone}
use Rattle.eq_rules.specs.Concluding.{GivesNumbered}
use Rattle.eq_rules.specs.Steps.{IsResolutionStep, IsFactoringStep}
use Rattle.eq_rules.specs.declared.inference.Made.{Made}
use Rattle.eq_rules.specs.declared.inference.Made.TheVariants.{Conclusion, Heavy}

-- ---- sizes

pub size_above : (size n most : ℕ) → size ≡ capped n → most < size → most < n
size_above size n most is h = omega (arith, is, h)

pub size_within : (size n limit : ℕ) → limit < 2 ^ 64 - 1 → size ≡ capped n → size ≤ limit → n ≤ limit
size_within size n limit low is h = omega (arith, low, is, h)

-- ---- the one member

pub alone_there : (m : Member) → alone m m.number ≡ Some (clause_at m.clause)
alone_there m = cond-true (m.number == m.number) (Some (clause_at m.clause)) None (eq-eqb m.number m.number refl)

pub alone_number : (m : Member) (n : ℕ) (c : TreeClause) → alone m n ≡ Some c → n ≡ m.number
alone_number m n c h =
    ⊎_elim
    (λ e. eqb-true n m.number e)
    (λ e. absurd (cc (h, cond-false (n == m.number) (Some (clause_at m.clause)) None e)))
    (cases_Bool (n == m.number))

-- ---- what a step has made

pub made_by_resolution :
    (p : ℕ → Bool) (mode : SelectionMode) (clauses : ℕ → Option TreeClause) (number : ℕ) (c : TreeClause) (i : ℕ) (terms : List Tree) (made : Made)
    → IsResolutionStep number c i terms made
    → ((bind : List Tree) (d : TreeClause) → GivesNumbered (λ ls. resolved ls i) c terms bind d
    → IsConcluded p mode clauses (Refl number i) (step.Refl number i bind) d)
    → IsMade p mode clauses (Refl number i) made
made_by_resolution p mode clauses number c i terms Heavy is by = absurd is
made_by_resolution p mode clauses number c i terms (Conclusion st clause) is by =
    subst (λ (s : Step). IsConcluded p mode clauses (Refl number i) s (clause_of clause)) (sym is.1) (by is.0 (clause_of clause) is.2)

pub made_by_factoring :
    (p : ℕ → Bool) (mode : SelectionMode) (clauses : ℕ → Option TreeClause) (number : ℕ) (c : TreeClause)
    (i : ℕ) (side_i : Side) (j : ℕ) (side_j : Side) (terms : List Tree) (made : Made)
    → IsFactoringStep number c i side_i j side_j terms made
    → ((bind : List Tree) (d : TreeClause) → GivesNumbered (λ ls. factored ls i side_i j side_j) c terms bind d
    → IsConcluded p mode clauses (Factor number i side_i j side_j) (step.Factor number i side_i j side_j bind) d)
    → IsMade p mode clauses (Factor number i side_i j side_j) made
made_by_factoring p mode clauses number c i side_i j side_j terms Heavy is by = absurd is
made_by_factoring p mode clauses number c i side_i j side_j terms (Conclusion st clause) is by =
    subst (λ (s : Step). IsConcluded p mode clauses (Factor number i side_i j side_j) s (clause_of clause)) (sym is.1)
    (by is.0 (clause_of clause) is.2)
