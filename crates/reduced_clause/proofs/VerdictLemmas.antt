-- The conclusion of a step on literals, by its parents alone.
use Rattle.std.proofs.Common.{◌≡◌, ℕ, ◌==◌, true, List, [], ◌∷◌, Option, Some, refl, ap, ap₂, sym, ◌∙◌}
use Rattle.std.proofs.lemmas.Bool.{true≢false, or_left, or_right, eq-eqb}
use Rattle.fol_base.specs.Tree.{Tree}
use Rattle.fol_base.specs.Clause.{TreeLiteral, TreeClause}
use Rattle.fol_base.specs.Rules.{superposed, resolved, factored, merged}
use Rattle.kernel_steps.specs.Parents.{Parent, Parents}
use Rattle.kernel_steps.specs.Conclusion.{verdict, concludes, by_one, by_two}
use Rattle.kernel_steps.specs.Lines.{is_on_literals, step_parents}
use Rattle.kernel_steps.specs.Split.{has_number}
use Rattle.kernel_steps.specs.declared.step.Step.{Step}
use Rattle.kernel_steps.specs.declared.step.Step.TheVariants.{Para, Refl, Factor, Merge}
use Rattle.kernel_steps.proofs.AboutCalls.VerdictParts.{by_one-parts, by_two-parts}

has-first : (n : ℕ) (ns : List ℕ) → has_number n (n ∷ ns) ≡ true
has-first n ns = or_left (n == n) (has_number n ns) (eq-eqb n n refl)

has-second : (n m : ℕ) (ns : List ℕ) → has_number m (n ∷ m ∷ ns) ≡ true
has-second n m ns = or_right (m == n) (has_number m (m ∷ ns)) (has-first m ns)

pub by_one-onward :
    (before after : Option Parent) (bind : List Tree) (rule : List TreeLiteral → Option (List TreeLiteral)) (c : TreeClause)
    → ((p : Parent) → before ≡ Some p → after ≡ Some p)
    → by_one before bind rule ≡ concludes c → by_one after bind rule ≡ concludes c
by_one-onward before after bind rule c onward h =
    let p = by_one-parts before bind rule c h in
    ap (λ (o : Option Parent). by_one o bind rule) (onward p.source p.there ∙ sym p.there) ∙ h

-- a step whose parents are there among others too concludes the same
pub conclusion-onward :
    (step : Step) (before after : Parents) (c : TreeClause)
    → is_on_literals step ≡ true
    → ((n : ℕ) (p : Parent) → has_number n (step_parents step) ≡ true → before n ≡ Some p → after n ≡ Some p)
    → verdict step before ≡ concludes c → verdict step after ≡ concludes c
conclusion-onward (Para first second from from_side into into_side place first_bind second_bind) before after c kind onward h =
    let rule : List TreeLiteral → List TreeLiteral → Option (List TreeLiteral) = λ ls ks. superposed ls from from_side ks into into_side place in
    let p = by_two-parts (before first) first_bind (before second) second_bind rule c h in
    ap₂ (λ (o q : Option Parent). by_two o first_bind q second_bind rule)
    (onward first p.source (has-first first (second ∷ [])) p.first_there ∙ sym p.first_there)
    (onward second p.target (has-second first second []) p.second_there ∙ sym p.second_there)
    ∙ h
conclusion-onward (Refl parent literal bind) before after c kind onward h =
    by_one-onward (before parent) (after parent) bind (λ ls. resolved ls literal) c (λ p. onward parent p (has-first parent [])) h
conclusion-onward (Factor parent becomes becomes_side other other_side bind) before after c kind onward h =
    by_one-onward (before parent) (after parent) bind (λ ls. factored ls becomes becomes_side other other_side) c
    (λ p. onward parent p (has-first parent [])) h
conclusion-onward (Merge parent stays goes bind) before after c kind onward h =
    by_one-onward (before parent) (after parent) bind (λ ls. merged ls stays goes) c (λ p. onward parent p (has-first parent [])) h
conclusion-onward _ before after c kind onward h = absurd (true≢false (sym kind))
