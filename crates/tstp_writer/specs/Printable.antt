-- The lines that are spelled by their printed texts.
use Rattle.std.specs.Prelude.{◌≡◌, ℕ, ◌<◌, ◌≤◌, Bool, true, false, ◌&&◌, List, [], length}
use Rattle.std.specs.List.{list_all, AllByRecursion}
use Rattle.tptp_token.specs.Spelling.{is_printable, is_variable_word}
use Rattle.tptp_tree.specs.Formula.{FormulaTree, truth, falsity, predicate, equation, negation, conjunction, disjunction, connected, quantified, list_of_formulas}
use Rattle.tptp_tree.specs.Spelling.{SpellsFormula}
use Rattle.tptp_tree.specs.Entries.{is_conjecture}
use Rattle.tptp_tree.specs.declared.limits.TheConstants.{MOST_DERIVATION_NESTING}
use Rattle.signature.specs.Environment.{free_names}
use Rattle.tptp_source.specs.declared.sign.NumberSign.{NumberSign}
use Rattle.tptp_source.specs.declared.sign.NumberSign.TheVariants.{Unsigned, Plus, Minus}
use Rattle.tptp_source.specs.General.{GeneralTree, variable, word, dollar, number, distinct, negated, listed, joined, GeneralTrees, no_trees, tree_then}
use Rattle.clausal_form.specs.DerivationLine.{LineTree}
use Rattle.clausal_form.specs.DerivationTexts.{SpellsDerivation}
use Rattle.tptp_tree.specs.Printing.{is_number_name}
use Rattle.tstp_writer.specs.SourceTexts.{source_term}
use Rattle.tstp_writer.specs.LineTexts.{lines_text}
use Rattle.tptp_tree.specs.Levels.{formula_levels}
use Rattle.tstp_writer.specs.Levels.{general_levels}

-- ---- names and general terms

-- bytes that are shown, at least one
pub record IsShown (name : List ℕ) : Type 0 where
  pub printable : list_all is_printable name ≡ true
  pub some : 0 < length name

abbrev pub IsUnsigned : NumberSign → Type 0
IsUnsigned Unsigned = Unit {0}
IsUnsigned Plus = ⊥
IsUnsigned Minus = ⊥

-- The general terms that a derivation is written with: variables, words with arguments, words after `~`, numbers of digits alone, and
-- lists.
abbrev mutual
  pub IsWritable : GeneralTree → Type 0
  IsWritable (variable x) = is_variable_word x ≡ true
  IsWritable (word f ts) = IsShown f × AreWritable ts
  IsWritable (dollar d ts) = ⊥
  IsWritable (number sign n) = IsUnsigned sign × (is_number_name n ≡ true)
  IsWritable (distinct d) = ⊥
  IsWritable (negated f) = IsShown f
  IsWritable (listed ts) = AreWritable ts
  IsWritable (joined ts) = ⊥

  pub AreWritable : GeneralTrees → Type 0
  AreWritable no_trees = Unit {0}
  AreWritable (tree_then t ts) = IsWritable t × AreWritable ts

-- ---- clauses, as `cnf` has them

-- an atom that isn't written with `!=`
abbrev pub is_plain_atom : FormulaTree → Bool
is_plain_atom truth = true
is_plain_atom falsity = true
is_plain_atom (predicate p ts) = true
is_plain_atom (equation positive s t) = positive
is_plain_atom (negation f) = false
is_plain_atom (conjunction fs) = false
is_plain_atom (disjunction fs) = false
is_plain_atom (connected c f g) = false
is_plain_atom (quantified q xs f) = false

abbrev pub is_literal_formula : FormulaTree → Bool
is_literal_formula truth = true
is_literal_formula falsity = true
is_literal_formula (predicate p ts) = true
is_literal_formula (equation positive s t) = true
is_literal_formula (negation f) = is_plain_atom f
is_literal_formula (conjunction fs) = false
is_literal_formula (disjunction fs) = false
is_literal_formula (connected c f g) = false
is_literal_formula (quantified q xs f) = false

-- a literal, or several between `|`
abbrev pub is_clause_formula : FormulaTree → Bool
is_clause_formula truth = true
is_clause_formula falsity = true
is_clause_formula (predicate p ts) = true
is_clause_formula (equation positive s t) = true
is_clause_formula (negation f) = is_plain_atom f
is_clause_formula (conjunction fs) = false
is_clause_formula (disjunction fs) = list_all is_literal_formula (list_of_formulas fs)
is_clause_formula (connected c f g) = false
is_clause_formula (quantified q xs f) = false

-- ---- lines

-- in `cnf` the formula is a clause, and in `fof` it has no free variables
abbrev pub IsFormOf : Bool → FormulaTree → Type 0
IsFormOf true f = is_clause_formula f ≡ true
IsFormOf false f = free_names f ≡ []

-- Some text spells the formula, which is of its language's form, and neither the formula nor the source is nested too deep.
pub record IsPrintable (t : LineTree) : Type 0 where
  pub name : IsShown (t.entry).name
  pub role : ((t.entry).is_clause && is_conjecture (t.entry).role) ≡ false
  pub text : List ℕ
  pub spelled : SpellsFormula text (t.entry).formula
  pub form : IsFormOf (t.entry).is_clause (t.entry).formula
  pub levels : formula_levels (t.entry).formula ≤ MOST_DERIVATION_NESTING
  pub source : IsWritable (source_term t.source)
  pub source_levels : general_levels (source_term t.source) ≤ MOST_DERIVATION_NESTING

-- the printed text of such lines spells them
abbrev pub PrintedLinesAreSpelled : Type 0
PrintedLinesAreSpelled = (ts : List LineTree) → AllByRecursion IsPrintable ts → SpellsDerivation (lines_text ts) ts
