use Rattle.std.proofs.Common.{◌≤◌, sym, subst}
use Rattle.fol_base.specs.Canonical.{IsCanonical}
use Rattle.fol_base.specs.Clause.{TreeClause, clause_size}
use Rattle.fol_base.specs.declared.limits.TheConstants.{MOST_SYMBOLS}
use Rattle.bank_clause.specs.Clause.{AreAssertions}
use Rattle.pool_core.specs.Placing.{AreHandedIn, IsFormOf}
use Rattle.pool_core.proofs.AboutReturns.InternedLemmas.{last-clause}
use Rattle.pool_core.proofs.interning.Interned.of.Goals as goal

pub of-requires-clause-given : goal.of-requires-clause-given
of-requires-clause-given g c =
    let fit = (c.requires.fit).2 in
    ((c.requires.fit).0, subst (λ (d : TreeClause). AreHandedIn (c.requires.fit).0 d c.args.results.now) (sym (last-clause c.args.lines.now fit.clause c.index-lines-lines.result fit.lead.led)) fit.given)

pub of-requires-clause-canonical : goal.of-requires-clause-canonical
of-requires-clause-canonical g c =
    let fit = (c.requires.fit).2 in
    subst IsCanonical (sym (last-clause c.args.lines.now fit.clause c.index-lines-lines.result fit.lead.led)) fit.canonical

pub of-requires-clause-asserts : goal.of-requires-clause-asserts
of-requires-clause-asserts g c =
    let fit = (c.requires.fit).2 in
    subst (λ (d : TreeClause). AreAssertions d.names) (sym (last-clause c.args.lines.now fit.clause c.index-lines-lines.result fit.lead.led)) fit.lead.asserts

pub of-requires-clause-small : goal.of-requires-clause-small
of-requires-clause-small g c =
    let fit = (c.requires.fit).2 in
    subst (λ (d : TreeClause). clause_size d ≤ MOST_SYMBOLS) (sym (last-clause c.args.lines.now fit.clause c.index-lines-lines.result fit.lead.led)) fit.small

pub returns-clause-made : goal.returns-clause-made
returns-clause-made g c = λ split count fit.
    let same = last-clause c.args.lines.now fit.clause c.index-lines-lines.result fit.lead.led in
    record {
      clause = fit.clause;
      lead = fit.lead;
      form =
          subst (λ (d : TreeClause). IsFormOf c.args.bank.now c.of.new.table split d c.in_ok-form.form) same
          (c.in_ok-form.ensures.made split (subst (λ (d : TreeClause). AreHandedIn split d c.args.results.now) (sym same) fit.given));
      counted = c.in_ok-demand.ensures;
    }
