use Rattle.std.proofs.Common.{ap, sym, ◌∙◌, ⊎_elim}
use Rattle.fol_base.specs.Clause.{literal_instance}
use Rattle.fol_base.specs.Lent.{lent_of}
use Rattle.kbo_order.specs.declared.cmp.Cmp.TheVariants.{Greater, Less, Equal, Unordered}
use Rattle.kbo_order.specs.Cmp.{comparison_of}
use Rattle.literal_selection.proofs.EligibleLemmas.{beats-is}
use Rattle.literal_selection.proofs.eligibility.outdoes.Goals as goal

pub returns-in-Greater : goal.returns-in-Greater
returns-in-Greater g c =
    beats-is c.args.strict Greater (literal_instance (g.S.LendsTerms.meaning c.args.bind.now) (lent_of c.args.other)) (literal_instance (g.S.LendsTerms.meaning c.args.bind.now) (lent_of c.args.literal))
    (ap comparison_of (sym c.in-Greater.is) ∙ c.compare_literals_under.ensures)

pub returns-in-Equal : goal.returns-in-Equal
returns-in-Equal g c =
    beats-is c.args.strict Equal (literal_instance (g.S.LendsTerms.meaning c.args.bind.now) (lent_of c.args.other)) (literal_instance (g.S.LendsTerms.meaning c.args.bind.now) (lent_of c.args.literal))
    (ap comparison_of (sym c.in-Equal.is) ∙ c.compare_literals_under.ensures)

pub returns-in-Less : goal.returns-in-Less
returns-in-Less g c =
    ⊎_elim
    (λ e.
    beats-is c.args.strict Less (literal_instance (g.S.LendsTerms.meaning c.args.bind.now) (lent_of c.args.other)) (literal_instance (g.S.LendsTerms.meaning c.args.bind.now) (lent_of c.args.literal))
    (ap comparison_of (sym e) ∙ c.compare_literals_under.ensures))
    (λ e.
    beats-is c.args.strict Unordered (literal_instance (g.S.LendsTerms.meaning c.args.bind.now) (lent_of c.args.other)) (literal_instance (g.S.LendsTerms.meaning c.args.bind.now) (lent_of c.args.literal))
    (ap comparison_of (sym e) ∙ c.compare_literals_under.ensures))
    c.in-Less.is
