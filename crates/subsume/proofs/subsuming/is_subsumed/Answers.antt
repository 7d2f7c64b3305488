use Rattle.std.proofs.Common.{◌↔◌, map, sym, ◌∙◌, subst}
use Rattle.std.specs.Prelude.{IsTrue}
use Rattle.fol_base.specs.Lent.{lent_of}
use Rattle.fol_base.specs.Subsumption.{assertions, Subsumes}
use Rattle.bank_clause.specs.Clause.{clause_at}
use Rattle.subsume.specs.Kinds.{AreLiterals}
use Rattle.subsume.proofs.AboutSearch.SubsumingLemmas.{of_use, asserted, decided, converted}
use Rattle.subsume.proofs.subsuming.is_subsumed.Goals as goal

pub returns : goal.returns
returns c = λ usage d target wf.
    let k = clause_at c.args.general.now in
    let p = usage.is_predicate in
    let wk = of_use usage k.literals wf.first in
    let wd = of_use usage d.literals wf.second in
    let names = c.names.ensures.names ∙ sym (asserted c.args.general.now.names) in
    let ws : AreLiterals p (map lent_of c.args.target.now.literals.items) = subst (AreLiterals p) (sym target.literals) wd in
    let wl : AreLiterals p c.lend.result = subst (AreLiterals p) (sym c.lend.ensures) wk in
    let answer = decided p k d c.in_ok-found.found wk wd
    (converted c.names.result.now (assertions k.names) c.args.target.now.assertions.items (assertions d.names) c.lend.result k.literals
    (map lent_of c.args.target.now.literals.items) d.literals c.in_ok-found.found names c.lend.ensures target.assertions target.literals
    c.in_ok-found.ensures.found)
    (c.in_ok-found.ensures.function_terms p wl ws) c.in_ok-found.ensures.once in
    subst (λ b. IsTrue b ↔ Subsumes p k d) (sym c.is_some.ensures) answer
