-- Problems that no file spells: where names are words that can be shown, and variables words of variables, formulas can be printed.
use Rattle.std.proofs.Common.{[], refl, subst, arith, append-nil, ◌++◌}
use Rattle.tptp_token.specs.Lexemes.{IsLexedAs}
use Rattle.tptp_token.proofs.AboutLexemes.LexemeLemmas.{lexes-whole, lexes-nothing}
use Rattle.tptp_tree.specs.declared.role.Role.{Role}
use Rattle.tptp_tree.specs.declared.role.Role.TheVariants.{Axiom, Conjecture}
use Rattle.tptp_tree.specs.Formula.{FormulaTree}
use Rattle.tptp_tree.specs.Printing.{formula_text}
use Rattle.tptp_tree.specs.Shape.{entry_of}
use Rattle.tptp_tree.specs.Spelling.{phrase_lexemes, SpellsFormula}
use Rattle.tptp_tree.proofs.CanonicalLemmas.{WellFormula, phrase_of, formula-meant}
use Rattle.tptp_tree.proofs.LexingLemmas.{formula-lexes}
use Rattle.tstp_writer.specs.ProblemLaws.{IsPrintableEntry}
use Rattle.commands.specs.AnswerShape.{IsAdmissible}
use Rattle.commands.specs.Examples.{formula_in, made_formulas}

pub well-spelled : (f : FormulaTree) → WellFormula f → SpellsFormula (formula_text f) f
well-spelled f well = (
  phrase_of f,
  subst (λ us. IsLexedAs us (phrase_lexemes (phrase_of f) [])) (append-nil (formula_text f))
      (lexes-whole (formula_text f ++ []) (phrase_lexemes (phrase_of f) []) (formula-lexes f well [] [] tt lexes-nothing)),
  formula-meant f well,
)

printable : (role : Role) → IsPrintableEntry (entry_of (formula_in role))
printable role = record {
  name = record { printable = refl; some = omega arith };
  role = refl;
  spelled = well-spelled (entry_of (formula_in role)).formula (record { printable = refl; some = omega arith }, tt);
  form = refl;
  levels = omega arith;
}

pub made-admissible : IsAdmissible made_formulas
made-admissible = record { closed = refl; printable = (printable Axiom, (printable Conjecture, tt)); size = omega arith }
