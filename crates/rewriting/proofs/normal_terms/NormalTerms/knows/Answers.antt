use Rattle.std.proofs.Common.{sym, ◌∙◌, subst}
use Rattle.fol_base.specs.Term.{tree_of}
use Rattle.fol_base.proofs.AboutTerms.TreeLemmas.{tree_eq-true}
use Rattle.rewriting.specs.NormalTerms.{IsRemembered}
use Rattle.rewriting.proofs.normal_terms.NormalTerms.knows.Goals as goal

pub returns-in-Some : goal.returns-in-Some
returns-in-Some c = λ same.
    subst (λ t. IsRemembered c.args.self.now t)
    (tree_eq-true (tree_of c.in-Some.known.now) (tree_of c.args.term.now) (sym c.same_term.ensures ∙ same)) c.in-Some.ensures
