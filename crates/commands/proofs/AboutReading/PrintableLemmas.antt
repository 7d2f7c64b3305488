-- The formulas of a problem that was read can be printed.
use Rattle.std.proofs.Common.{◌≡◌, ℕ, ◌*◌, ◌≤◌, Bool, true, false, ◌&&◌, List, [], ◌∷◌, map, refl, ap, sym, ◌∙◌, subst, arith}
use Rattle.std.specs.List.{AllByRecursion}
use Rattle.tptp_token.specs.Lexemes.{word_lexeme}
use Rattle.tptp_tree.specs.declared.limits.TheConstants.{MOST_NESTING}
use Rattle.tptp_tree.specs.declared.problem.Annotated.{Annotated}
use Rattle.tptp_tree.specs.Formula.{FormulaTree}
use Rattle.tptp_tree.specs.Printing.{formula_text}
use Rattle.tptp_tree.specs.Spelling.{SpellsName, SpellsFormula}
use Rattle.tptp_tree.specs.Entries.{Body, formula_body, clause_body, is_clause_body, body_meant, AnnotatedTree, is_conjecture}
use Rattle.tptp_tree.proofs.NameLemmas.{WellName}
use Rattle.tptp_tree.proofs.WellLemmas.{text-spelled, word-well}
use Rattle.tptp_reader.specs.Annotating.{IsReading}
use Rattle.tptp_reader.specs.declared.entry.Read.{Read}
use Rattle.tptp_reader.proofs.AboutTexts.PrintedLemmas.{reading-again}
use Rattle.tptp_reader.proofs.AboutTexts.TextLemmas.{read-name}
use Rattle.tptp_problem.specs.Closed.{closed_within}
use Rattle.tptp_problem.specs.Formulas.{Placed, placed}
use Rattle.tptp_problem.specs.Problem.{LoadedFile, tokens_of}
use Rattle.tptp_problem.proofs.AboutReading.ConjectureLemmas.{all-hold, no-conjecture-clause}
use Rattle.tptp_problem.proofs.AboutReading.ClosedLemmas.{problem-closed}
use Rattle.tptp_tree.specs.Shape.{entry_of}
use Rattle.signature.specs.Environment.{free_names}
use Rattle.tptp_tree.specs.Levels.{formula_levels}
use Rattle.tstp_writer.specs.Printable.{IsShown, is_clause_formula, IsFormOf}
use Rattle.tstp_writer.specs.ProblemLaws.{IsPrintableEntry}
use Rattle.commands.specs.Laws.{ReadProblemsArePrintable}
use Rattle.commands.proofs.AboutReading.BoundLemmas.{among-none, formula-names}
use Rattle.commands.proofs.AboutReading.ClauseForms.{clause-form}
use Rattle.commands.proofs.AboutReading.PrintedLevels.{body-levels}

-- ---- what is read

record IsPrintableRead (a : AnnotatedTree) : Type 0 where
  name : IsShown a.name
  spelled : SpellsFormula (formula_text a.formula) a.formula
  form : a.is_clause ≡ true → is_clause_formula a.formula ≡ true
  levels : formula_levels a.formula ≤ 2 * MOST_NESTING

spelled-shown : (text name : List ℕ) → SpellsName text name → IsShown name
spelled-shown text name s =
    let well : WellName name = subst WellName s.2 (word-well s.0 (text-spelled text (word_lexeme s.0 ∷ []) s.1).0) in
    record { printable = well.printable; some = well.some }

body-form : (b : Body) → is_clause_body b ≡ true → is_clause_formula (body_meant b) ≡ true
body-form (formula_body p) h = absurd (let e : false ≡ true = h in cc)
body-form (clause_body c) h = clause-form c

reading-printable :
    (file : LoadedFile) (first : ℕ) (read : Read) → IsReading MOST_NESTING file.bytes (tokens_of file) first read
    → IsPrintableRead (entry_of read.annotated)
reading-printable file first read h =
    let body : Body = h.phrase.body in
    let levels = body-levels MOST_NESTING body _ h.spelled.faultless.1.1.1.1.1.1 in
    let same : formula_levels (entry_of read.annotated).formula ≡ formula_levels (body_meant body) = ap formula_levels h.meant.formula in
    record {
      name = spelled-shown _ (entry_of read.annotated).name (read-name MOST_NESTING file.bytes first read h);
      spelled = (reading-again MOST_NESTING file.bytes first read h).formula;
      form = λ c. ap is_clause_formula h.meant.formula ∙ body-form body (sym h.meant.is_clause ∙ c);
      levels = omega (arith, same, levels);
    }

-- ---- the formulas of a problem

form-of : (b : Bool) (f : FormulaTree) → (b ≡ true → is_clause_formula f ≡ true) → (b ≡ false → closed_within [] f ≡ true) → IsFormOf b f
form-of true f h k = h refl
form-of false f h k = among-none (free_names f) (formula-names [] f (k refl))

no-clause : (b c : Bool) → (b ≡ true → c ≡ false) → (b && c) ≡ false
no-clause true c h = h refl
no-clause false c h = refl

abbrev IsClosedEntry : Placed → Type 0
IsClosedEntry f = f.tree.is_clause ≡ false → closed_within [] f.tree.formula ≡ true

abbrev IsNoClause : Placed → Type 0
IsNoClause f = f.tree.is_clause ≡ true → is_conjecture f.tree.role ≡ false

entries-printable :
    (formulas : List Annotated) → AllByRecursion (λ (f : Placed). IsPrintableRead f.tree) (map placed formulas)
    → AllByRecursion IsClosedEntry (map placed formulas) → AllByRecursion IsNoClause (map placed formulas)
    → AllByRecursion (λ (a : Annotated). IsPrintableEntry (entry_of a)) formulas
entries-printable [] r c n = tt
entries-printable (a ∷ more) r c n =
    let read : IsPrintableRead (entry_of a) = r.0 in
    let entry : IsPrintableEntry (entry_of a) = record {
      name = read.name;
      role = no-clause (entry_of a).is_clause (is_conjecture (entry_of a).role) n.0;
      spelled = read.spelled;
      form = form-of (entry_of a).is_clause (entry_of a).formula read.form c.0;
      levels = omega (arith, read.levels);
    } in
    (entry, entries-printable more r.1 c.1 n.1)

pub read_problems_are_printable : ReadProblemsArePrintable
read_problems_are_printable told file root formulas h =
    entries-printable formulas
    (all-hold (λ (f : Placed). IsPrintableRead f.tree) told file root (map placed formulas)
    (record { by = λ source first read r. reading-printable source first read r }) h)
    (problem-closed told file root (map placed formulas) h) (no-conjecture-clause told file root (map placed formulas) h)
