use Rattle.std.proofs.Common.{sym, ◌∙◌, subst}
use Rattle.fol_base.specs.Instance.{Substitution}
use Rattle.fol_base.specs.Lent.{lent_of}
use Rattle.unifier.specs.Matching.{HasPairs}
use Rattle.subsume.specs.Kinds.{TurnsInto}
use Rattle.unit_cutting.proofs.AboutCuts.FittingLemmas.{Matches, fits-not, fits-neither, fitting-straight, fitting-crossed}
use Rattle.unit_cutting.proofs.matching.fit.Goals as goal

pub returns-then-not-may_fit : goal.returns-then-not-may_fit
returns-then-not-may_fit c = fits-not (lent_of c.args.wanted) (lent_of c.args.literal) (sym c.may_fit.ensures ∙ c.if-not-may_fit.true)

pub returns-in-Some : goal.returns-in-Some
returns-in-Some c =
    fitting-straight (lent_of c.args.wanted) (lent_of c.args.literal) c.empty-none.result c.in-Some.terms c.empty-none.ensures
    (sym c.may_fit.ensures ∙ c.if-not-may_fit.false)
    (record {
      exact = rw c.in-Some.is at c.in_ok-terms.ensures.found;
      below = rw c.in-Some.is at c.in_ok-terms.ensures.below;
      once = rw c.in-Some.is at c.in_ok-terms.ensures.once;
      function_terms = rw c.in-Some.is at c.in_ok-terms.ensures.function_terms;
    })

pub returns-in-Some-2 : goal.returns-in-Some-2
returns-in-Some-2 c =
    let w = lent_of c.args.wanted in
    let matches : Matches w (lent_of c.exchanged.result) c.empty-none.result c.in-Some-2.terms =
    record {
      exact = rw c.in-Some-2.is at c.in_ok-terms-in-None.ensures.found;
      below = rw c.in-Some-2.is at c.in_ok-terms-in-None.ensures.below;
      once = rw c.in-Some-2.is at c.in_ok-terms-in-None.ensures.once;
      function_terms = rw c.in-Some-2.is at c.in_ok-terms-in-None.ensures.function_terms;
    } in
    fitting-crossed w (lent_of c.args.literal) c.empty-none.result c.in-Some-2.terms c.empty-none.ensures
    (sym c.may_fit.ensures ∙ c.if-not-may_fit.false)
    (subst (λ k. Matches w k c.empty-none.result c.in-Some-2.terms) c.exchanged.ensures matches)

pub returns : goal.returns
returns c =
    let w = lent_of c.args.wanted in
    let none = c.empty-none.result in
    fits-neither w (lent_of c.args.literal) none c.empty-none.ensures (rw c.in-None.is at c.in_ok-terms.ensures.found)
    (subst (λ k. (σ : Substitution) → HasPairs none σ → TurnsInto σ w k → ⊥) c.exchanged.ensures
    (rw c.in-None-2.is at c.in_ok-terms-in-None.ensures.found))
