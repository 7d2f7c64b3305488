use Rattle.std.proofs.Common.{◌≡◌, ◌↔◌, Bool, true, false, sym}
use Rattle.std.proofs.lemmas.Bool.{true≢false}
use Rattle.fol_base.specs.Instance.{Substitution}
use Rattle.fol_base.specs.Clause.{TreeLiteral}
use Rattle.fol_base.specs.Lent.{lent_of}
use Rattle.unifier.specs.Matching.{HasPairs, IsExtended, IsMatched, variables_of}
use Rattle.fol_base.specs.Subsumption.{all_different}
use Rattle.subsume.proofs.AboutSearch.OnceLemmas.{matched-once}
use Rattle.unifier.proofs.AboutMatching.MatchLemmas.{Pairs}
use Rattle.subsume.specs.Kinds.{TurnsInto}
use Rattle.subsume.proofs.matching.match_sides.Goals as goal

both :
    (so_far : Pairs) (l m : TreeLiteral) (left found : Pairs) (fits : Bool)
    → IsMatched so_far l.left m.left left → IsExtended left l.right m.right found fits → fits ≡ true
    → (σ : Substitution) → HasPairs found σ ↔ (HasPairs so_far σ × TurnsInto σ l m)
both so_far l m left found false first second yes_ = absurd (true≢false (sym yes_))
both so_far l m left found true first second yes_ = λ σ. (
  λ h.
      let outer = (second.exact σ).0 h in
      let inner = (first.exact σ).0 outer.0 in
      (inner.0, record { left = inner.1; right = outer.1 }),
  λ h. (second.exact σ).1 ((first.exact σ).1 (h.0, h.1.left), h.1.right),
)

pub returns-then-fits-clause-found : goal.returns-then-fits-clause-found
returns-then-fits-clause-found c =
    both c.args.so_far.now (lent_of c.args.pattern) (lent_of c.args.target) c.in-Some.pairs c.extend.new.self c.in_ok-fits-in-Some.fits
    (rw c.in-Some.is at c.in_ok-match_onto.ensures.found) c.in_ok-fits-in-Some.ensures.found c.if-fits.true

once-both :
    (so_far : Pairs) (l m : TreeLiteral) (left found : Pairs) (fits : Bool)
    → IsMatched so_far l.left m.left left → IsExtended left l.right m.right found fits → fits ≡ true
    → all_different (variables_of so_far) ≡ true → all_different (variables_of found) ≡ true
once-both so_far l m left found false first second yes_ h = absurd (true≢false (sym yes_))
once-both so_far l m left found true first second yes_ h =
    matched-once left l.right m.right found second (matched-once so_far l.left m.left left first h)

pub returns-then-fits-clause-once : goal.returns-then-fits-clause-once
returns-then-fits-clause-once c =
    once-both c.args.so_far.now (lent_of c.args.pattern) (lent_of c.args.target) c.in-Some.pairs c.extend.new.self c.in_ok-fits-in-Some.fits
    (rw c.in-Some.is at c.in_ok-match_onto.ensures.found) c.in_ok-fits-in-Some.ensures.found c.if-fits.true
