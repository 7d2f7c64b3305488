use Rattle.std.proofs.Common.{ℕ, Option, None, Some, sym, ◌∙◌, subst}
use Rattle.fol_base.specs.Literal.{clause_of}
use Rattle.demodulate.specs.Subsuming.{IsSubsumedBySome}
use Rattle.pool_history.specs.declared.batch.Removal.{Removal}
use Rattle.given_work.specs.Going.{IsRemovalOf}
use Rattle.given_work.proofs.AboutBatches.GoingLemmas.{goes-dropped, goes-or-stays, goes-redundant}
use Rattle.given_work.proofs.going.removal_by.Goals as goal

pub returns-then-is_tautology : goal.returns-then-is_tautology
returns-then-is_tautology c = λ d reduced.
    let by = c.args.by.now in
    subst (λ (m : Removal). IsRemovalOf c.args.split by.equations.now by.units.now by.members.now c.args.number d (Some m)) (sym c.dropped-removal.ensures)
    (goes-dropped c.args.split by.equations.now by.units.now by.members.now c.args.number d c.args.reduced reduced (sym c.is_tautology.ensures ∙ c.if-is_tautology.true))

pub returns-in_ok-put_used-in-Some : goal.returns-in_ok-put_used-in-Some
returns-in_ok-put_used-in-Some c = λ d reduced.
    let by = c.args.by.now in
    subst (λ (m : Removal). IsRemovalOf c.args.split by.equations.now by.units.now by.members.now c.args.number d (Some m)) (sym c.dropped-removal-in-Some.ensures)
    (goes-redundant c.args.split by.equations.now by.units.now by.members.now c.args.number d c.args.reduced c.in-Some.other c.put_used.new.used reduced
    (subst (λ (o : Option ℕ). IsSubsumedBySome by.equations.now by.units.now by.members.now o (clause_of c.args.reduced.clause) (Some c.in-Some.other)) c.requires.itself
    (subst (IsSubsumedBySome by.equations.now by.units.now by.members.now by.left_out (clause_of c.args.reduced.clause)) c.in-Some.is c.in_ok-other.ensures))
    c.in_ok-put_used-in-Some.ensures.ok)

pub returns-in_ok-gone-in-None : goal.returns-in_ok-gone-in-None
returns-in_ok-gone-in-None c = λ d reduced.
    let by = c.args.by.now in
    goes-or-stays c.args.split by.equations.now by.units.now by.members.now c.args.number d c.args.reduced c.in_ok-gone-in-None.gone reduced
    (subst (λ (o : Option ℕ). IsSubsumedBySome by.equations.now by.units.now by.members.now o (clause_of c.args.reduced.clause) None) c.requires.itself
    (subst (IsSubsumedBySome by.equations.now by.units.now by.members.now by.left_out (clause_of c.args.reduced.clause)) c.in-None.is c.in_ok-other.ensures))
    (sym c.is_tautology.ensures ∙ c.if-is_tautology.false) c.in_ok-gone-in-None.ensures
