use Rattle.std.proofs.Common.{List, ap, sym, ◌∙◌, drop}
use Rattle.fol_base.specs.Clause.{TreeLiteral}
use Rattle.fol_base.specs.Lent.{lent_of}
use Rattle.tptp_tree.specs.Printing.{formula_text}
use Rattle.tstp_writer.specs.ClauseTrees.{clause_formula}
use Rattle.tstp_writer.proofs.AboutPrinted.TextLemmas.{clause_of_parts}
use Rattle.tstp_writer.proofs.AboutPrinted.PieceTexts.{three_added, added, first_and_rest}
use Rattle.tstp_writer.proofs.clauses.push_literals.Goals as goal

pub returns : goal.returns
returns g c =
    let ls = g.L.LendsLiterals.meaning c.args.literals.now in
    let l = lent_of c.literal.result in
    added c.push_more_names.result _ _ _ _
    (clause_of_parts c.args.symbols.now c.args.prefix.now l (drop 1 ls) c.args.names.now c.requires.word
    ∙ ap (λ (ks : List TreeLiteral). formula_text (clause_formula c.args.symbols.now c.args.prefix.now (record { literals = ks; names = c.args.names.now })))
    (sym (first_and_rest ls l c.literal.ensures)))
    (three_added c.push_more_names.result _ _ _ _ _ _ _ c.in_ok-push_literal.ensures c.in_ok-push_more_literals.ensures c.push_more_names.ensures)
