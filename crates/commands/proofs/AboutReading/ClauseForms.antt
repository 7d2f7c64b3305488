-- A clause that was read is a clause as a formula.
use Rattle.std.proofs.Common.{◌≡◌, true, List, [], ◌∷◌, refl}
use Rattle.std.specs.List.{list_all}
use Rattle.std.proofs.lemmas.Bool.{and_from}
use Rattle.tptp_tree.specs.Formula.{list_of_formulas}
use Rattle.tptp_tree.specs.Spelling.{true_atom, false_atom, predicate_atom, equation_atom, atom_meant}
use Rattle.tptp_tree.specs.Entries.{PlainAtom, plain_true, plain_false, plain_predicate, plain_equation, atom_of, LiteralPhrase, positive_literal, negated_literal, negated_in_brackets, ClausePhrase, literals, clause_in_brackets, literal_meant, literals_meant, clause_meant}
use Rattle.tstp_writer.specs.Printable.{is_plain_atom, is_literal_formula, is_clause_formula}

plain-is : (a : PlainAtom) → is_plain_atom (atom_meant (atom_of a)) ≡ true
plain-is plain_true = refl
plain-is plain_false = refl
plain-is (plain_predicate w ts) = refl
plain-is (plain_equation s t) = refl

literal-is : (l : LiteralPhrase) → is_literal_formula (literal_meant l) ≡ true
literal-is (positive_literal true_atom) = refl
literal-is (positive_literal false_atom) = refl
literal-is (positive_literal (predicate_atom w ts)) = refl
literal-is (positive_literal (equation_atom positive s t)) = refl
literal-is (negated_literal a) = plain-is a
literal-is (negated_in_brackets a) = plain-is a

literals-are : (ls : List LiteralPhrase) → list_all is_literal_formula (list_of_formulas (literals_meant ls)) ≡ true
literals-are [] = refl
literals-are (l ∷ ls) =
    and_from (is_literal_formula (literal_meant l)) (list_all is_literal_formula (list_of_formulas (literals_meant ls))) (literal-is l)
    (literals-are ls)

one-literal : (l : LiteralPhrase) → is_clause_formula (literal_meant l) ≡ true
one-literal (positive_literal true_atom) = refl
one-literal (positive_literal false_atom) = refl
one-literal (positive_literal (predicate_atom w ts)) = refl
one-literal (positive_literal (equation_atom positive s t)) = refl
one-literal (negated_literal a) = plain-is a
one-literal (negated_in_brackets a) = plain-is a

pub clause-form : (c : ClausePhrase) → is_clause_formula (clause_meant c) ≡ true
clause-form (literals l []) = one-literal l
clause-form (literals l (m ∷ ls)) = literals-are (l ∷ m ∷ ls)
clause-form (clause_in_brackets c) = clause-form c
