use Rattle.std.proofs.Common.{◌≡◌, true, sym, ◌∙◌, ⊎_elim, subst, rules}
use Rattle.std.proofs.lemmas.Bool.{true≢false}
use Rattle.std.proofs.lemmas.Result.{IfOk-weaker}
use Rattle.fol_base.specs.Tree.{is_truth}
use Rattle.fol_base.specs.Clause.{TreeLiteral}
use Rattle.fol_base.specs.Lent.{lent_of}
use Rattle.subsume.specs.Kinds.{TurnsInto}
use Rattle.subsume.proofs.AboutSearch.PlacingLemmas.{atom-straight}
use Rattle.subsume.proofs.AboutSearch.ChoosingLemmas.{stands}
use Rattle.subsume.proofs.choosing.may_stand.Goals.{then-turns-via-then-turns, then-turns-via-else-turns+then-is_truth}
use Rattle.subsume.proofs.choosing.may_stand.Goals as goal

pub returns-then-turns : goal.returns-then-turns
returns-then-turns c = λ σ has alike same.
    elim c.then-turns.branch [
      | then-turns-via-then-turns w ↦ w.if-turns.true
      | then-turns-via-else-turns+then-is_truth w ↦
          let truth : is_truth (lent_of c.args.target).right ≡ true = search rules in
          c.in_ok-turns.ensures σ has (atom-straight σ (lent_of c.args.pattern) (lent_of c.args.target) alike truth same)
    ]

pub returns : goal.returns
returns c =
    IfOk-weaker c.may_turn-2.result _ _
    (λ found h. λ σ has alike same.
    ⊎_elim
    (λ t. absurd (true≢false (sym (c.in_ok-turns.ensures σ has t) ∙ c.if-turns.false)))
    (λ t. h σ has (subst (λ (m : TreeLiteral). TurnsInto σ (lent_of c.args.pattern) m) (sym c.exchanged.ensures) t))
    (stands σ (lent_of c.args.pattern) (lent_of c.args.target) same))
    c.may_turn-2.ensures
