use Rattle.std.proofs.Common.{◌+◌, ◌&&◌, Bool, drop, ap, sym, ◌∙◌}
use Rattle.fol_base.specs.Clause.{literals_eq}
use Rattle.fol_base.specs.Lent.{lent_of}
use Rattle.fol_base.proofs.AboutTerms.EqualityLemmas.{literals_eq-lengths, literals_eq-drop}
use Rattle.fol_base.proofs.equality.same_literals.Goals as goal

pub returns-then-count : goal.returns-then-count
returns-then-count g c =
    literals_eq-lengths (g.L.LendsLiterals.meaning c.args.left.now) (g.M.LendsLiterals.meaning c.args.right.now)
    (λ e. c.if-count.true (c.count-count.ensures ∙ e ∙ sym c.count.ensures))

pub returns-then-not-same_literal : goal.returns-then-not-same_literal
returns-then-not-same_literal g c =
    let ls = g.L.LendsLiterals.meaning c.args.left.now in
    let ks = g.M.LendsLiterals.meaning c.args.right.now in
    let i = c.loop-index.index in
    ap (λ (b : Bool). b && literals_eq (drop (i + 1) ls) (drop (i + 1) ks)) (sym c.if-not-same_literal.true ∙ c.same_literal.ensures)
    ∙ sym (literals_eq-drop ls ks i (lent_of c.literal.result) (lent_of c.literal-in-loop-index.result) c.literal.ensures c.literal-in-loop-index.ensures)
    ∙ c.loop-index.invariant

pub loop-index-preserved : goal.loop-index-preserved
loop-index-preserved g c =
    let ls = g.L.LendsLiterals.meaning c.args.left.now in
    let ks = g.M.LendsLiterals.meaning c.args.right.now in
    let i = c.loop-index.index in
    ap (λ (b : Bool). b && literals_eq (drop (i + 1) ls) (drop (i + 1) ks)) (sym c.if-not-same_literal.false ∙ c.same_literal.ensures)
    ∙ sym (literals_eq-drop ls ks i (lent_of c.literal.result) (lent_of c.literal-in-loop-index.result) c.literal.ensures c.literal-in-loop-index.ensures)
    ∙ c.loop-index.invariant
