use Rattle.std.proofs.Common.{◌≡◌, ℕ, true, List, ◌++◌, refl, ap, ◌∙◌}
use Rattle.plain_types.specs.declared.sequence.NameLit.{NameLit}
use Rattle.fol_base.specs.Clause.{TreeLiteral}
use Rattle.fol_base.specs.Literal.{clause_of}
use Rattle.signature.specs.declared.symbol.Symbol.{Symbol}
use Rattle.tptp_tree.specs.Printing.{formula_text}
use Rattle.tptp_tree.specs.declared.role.Role.TheVariants.{Plain}
use Rattle.tstp_writer.specs.ClauseTrees.{clause_formula}
use Rattle.tstp_writer.specs.LineTrees.{line_name, step_source}
use Rattle.tstp_writer.specs.Scripts.{script_in}
use Rattle.tstp_writer.proofs.AboutPrinted.TextLemmas.{five_added, line_of_parts}
use Rattle.tstp_writer.proofs.AboutPrinted.PieceTexts.{added}
use Rattle.tstp_writer.proofs.lines.push_clause_line.Goals as goal

-- the text of a clause whose names were lent
names-lent :
    (symbols : List Symbol) (prefix : List ℕ) (ls : List TreeLiteral) (lent names : List NameLit) (old new : List ℕ) → lent ≡ names
    → new ≡ old ++ formula_text (clause_formula symbols prefix (record { literals = ls; names = lent }))
    → new ≡ old ++ formula_text (clause_formula symbols prefix (record { literals = ls; names = names }))
names-lent symbols prefix ls lent names old new same h =
    h ∙ ap (λ (ns : List NameLit). old ++ formula_text (clause_formula symbols prefix (record { literals = ls; names = ns }))) same

pub returns : goal.returns
returns c =
    added c.bytes-2.result _ _ _ _
    (line_of_parts
    (record {
      name = line_name c.args.number;
      role = Plain;
      is_clause = true;
      formula = clause_formula c.args.script.symbols.now c.args.script.prefix.now (clause_of c.args.line.now.clause);
    })
    (step_source (script_in c.args.script) c.args.layout.now c.args.line.now.step) c.args.number refl)
    (five_added c.bytes-2.result _ _ _ _ _ _ _ _ _ _ _ c.in_ok-push_head.ensures
    (names-lent c.args.script.symbols.now c.args.script.prefix.now (clause_of c.args.line.now.clause).literals _ c.args.line.now.clause.names _ _
    c.as_slice.ensures c.in_ok-push_whole_clause.ensures)
    c.in_ok-bytes.ensures.added c.in_ok-push_source.ensures c.bytes-2.ensures.added)
