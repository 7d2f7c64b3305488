-- Formulas that can be printed, and their negations, can be printed as lines.
use Rattle.std.proofs.Common.{◌≡◌, ℕ, zero, suc, ◌+◌, ◌<◌, Bool, true, false, not, ◌&&◌, ◌==◌, List, [], ◌∷◌, ◌++◌, codes, refl, ap, sym, ◌∙◌, subst, arith, append-nil, le-leb}
use Rattle.std.specs.Prelude.{◌/◌, ◌%◌, max, nat_le, if◌then◌else◌}
use Rattle.std.specs.Fmt.{digit_glyph, digits_onto, digits, decimal}
use Rattle.std.specs.List.{list_all, AllByRecursion}
use Rattle.std.proofs.lemmas.Bool.{and_from, lt-ltb}
use Rattle.std.proofs.Math.Nat.{mod-lt}
use Rattle.tptp_token.specs.Spelling.{is_printable}
use Rattle.tptp_token.specs.Lexemes.{IsLexedAs}
use Rattle.tptp_token.proofs.AboutLexemes.LexemeLemmas.{lexes-whole, lexes-nothing}
use Rattle.tptp_tree.specs.declared.problem.Annotated.{Annotated}
use Rattle.tptp_tree.specs.Formula.{FormulaTree, negation}
use Rattle.tptp_tree.specs.Printing.{is_bare, formula_text}
use Rattle.tptp_tree.specs.Spelling.{phrase_lexemes, SpellsFormula}
use Rattle.tptp_tree.specs.Entries.{AnnotatedTree, is_conjecture}
use Rattle.tptp_tree.proofs.CanonicalLemmas.{WellFormula, phrase_of, formula-meant}
use Rattle.tptp_tree.proofs.LexingLemmas.{formula-lexes}
use Rattle.tptp_tree.proofs.WellLemmas.{spelled-well}
use Rattle.tptp_source.specs.declared.sign.NumberSign.TheVariants.{Unsigned}
use Rattle.tptp_source.specs.General.{GeneralTree, number}
use Rattle.tptp_source.specs.Sources.{word_of}
use Rattle.kernel_steps.specs.declared.step.Step.TheVariants.{Negate}
use Rattle.tptp_tree.specs.Shape.{entry_of}
use Rattle.tptp_tree.specs.Printing.{is_number_name}
use Rattle.tstp_writer.specs.SourceTexts.{name_term, source_term}
use Rattle.tptp_tree.specs.Levels.{formula_levels}
use Rattle.tstp_writer.specs.Levels.{general_levels}
use Rattle.tstp_writer.specs.LineTrees.{Script, Layout, line_name, cited_name, step_source, input_tree, negate_tree}
use Rattle.tstp_writer.specs.Printable.{IsShown, IsWritable, IsFormOf, IsPrintable}
use Rattle.tstp_writer.specs.ProblemLaws.{IsPrintableEntry, ArePrintableEntries, HasPrintableLines}
use Rattle.tstp_writer.proofs.ReadAgain.Parentheses.{parentheses-one}

-- ---- names of lines

glyph-printable : (d : ℕ) → d < 10 → is_printable (digit_glyph false d) ≡ true
glyph-printable d h = ap is_printable same ∙ and_from (nat_le 32 (48 + d)) (nat_le (48 + d) 126) (le-leb 32 (48 + d) (omega arith)) (le-leb (48 + d) 126 (omega (arith, h)))
  where
    same : digit_glyph false d ≡ 48 + d
    same = ap (λ t. if t then 48 + d else 87 + d) (lt-ltb d 10 h)

digits-printable : (k n : ℕ) (acc : List ℕ) → list_all is_printable acc ≡ true → list_all is_printable (digits_onto k 10 false n acc) ≡ true
digits-printable zero n acc h = h
digits-printable (suc k) n acc h =
    let front = and_from (is_printable (digit_glyph false (n % 10))) (list_all is_printable acc) (glyph-printable (n % 10) (mod-lt n (omega arith))) h in
    by (n / 10 == 0) front (digits-printable k (n / 10) (digit_glyph false (n % 10) ∷ acc) front)
  where
    by :
        (t : Bool) → list_all is_printable (digit_glyph false (n % 10) ∷ acc) ≡ true
        → list_all is_printable (digits_onto k 10 false (n / 10) (digit_glyph false (n % 10) ∷ acc)) ≡ true
        → list_all is_printable
        (if t then digit_glyph false (n % 10) ∷ acc else digits_onto k 10 false (n / 10) (digit_glyph false (n % 10) ∷ acc)) ≡ true
    by true here more = here
    by false here more = more

pub decimal-printable : (n : ℕ) → list_all is_printable (decimal n) ≡ true
unfolding digits
decimal-printable n = digits-printable 64 n [] refl

pub line_name-shown : (n : ℕ) → IsShown (line_name n)
line_name-shown n = record {
  printable = and_from (is_printable 99) (list_all is_printable (decimal n)) refl (decimal-printable n);
  some = omega arith;
}

-- ---- terms of names

abbrev chosen_term : Bool → List ℕ → GeneralTree
chosen_term t n = if t then number Unsigned n else word_of n []

pub name-writable : (n : List ℕ) → IsShown n → IsWritable (name_term n)
name-writable n h = by (is_number_name n) refl
  where
    by : (t : Bool) → is_number_name n ≡ t → IsWritable (chosen_term t n)
    by true e = (tt, e)
    by false e = (h, tt)

pub name-levels : (n : List ℕ) → general_levels (name_term n) ≡ 0
name-levels n = by (is_number_name n)
  where
    by : (t : Bool) → general_levels (chosen_term t n) ≡ 0
    by true = refl
    by false = refl

-- ---- the lines of a problem's formulas

input-printable :
    (a : AnnotatedTree) → IsPrintableEntry a → (script : Script) (name : List ℕ) → IsShown script.file → IsShown name
    → IsPrintable (input_tree script name a)
input-printable a e script name file shown =
    let levels : general_levels (source_term (input_tree script name a).source) ≡ 1 = ap (λ n. suc (max 0 (max n 0))) (name-levels a.name) in
    record {
      name = shown;
      role = e.role;
      text = formula_text a.formula;
      spelled = e.spelled;
      form = e.form;
      levels = omega (arith, e.levels);
      source = (record { printable = refl; some = omega arith }, ((file, tt), (name-writable a.name e.name, tt)));
      source_levels = omega (arith, levels);
    }

pub printed-negation : (f : FormulaTree) → SpellsFormula (formula_text f) f → SpellsFormula (formula_text (negation f)) (negation f)
printed-negation f s =
    let g : FormulaTree = negation f in
    let well : WellFormula g = subst WellFormula s.2 (spelled-well (formula_text f) s.0 s.1) in (
      phrase_of g,
      subst (λ us. IsLexedAs us (phrase_lexemes (phrase_of g) [])) (append-nil (formula_text g))
          (lexes-whole (formula_text g ++ []) (phrase_lexemes (phrase_of g) []) (formula-lexes g well [] [] tt lexes-nothing)),
      formula-meant g well,
    )

negate-written : (script : Script) (layout : Layout) (place : ℕ) → IsWritable (source_term (step_source script layout (Negate place)))
negate-written script layout place =
    let shown : IsShown (codes "inference") = record { printable = refl; some = omega arith } in
    let rule : IsShown (codes "negate") = record { printable = refl; some = omega arith } in
    let status : IsShown (codes "status") = record { printable = refl; some = omega arith } in
    let what : IsShown (codes "cth") = record { printable = refl; some = omega arith } in
    let parent : IsWritable (name_term (cited_name layout place)) = name-writable (cited_name layout place) (line_name-shown _) in
    (shown, ((rule, tt), (((status, ((what, tt), tt)), tt), ((parent, tt), tt))))

negation-printable :
    (a : AnnotatedTree) → IsPrintableEntry a → (script : Script) (layout : Layout) (name : List ℕ) (place : ℕ)
    → is_conjecture a.role ≡ true → IsShown name → IsPrintable (negate_tree script layout name place a)
negation-printable a e script layout name place c shown =
    let levels : general_levels (source_term (step_source script layout (Negate place))) ≡ 3 =
    ap (λ n. suc (max 0 (max 2 (max (suc (max n 0)) 0)))) (name-levels (cited_name layout place)) in
    record {
      name = shown;
      role = refl;
      text = formula_text (negation a.formula);
      spelled = printed-negation a.formula e.spelled;
      form = subst (λ b. IsFormOf b a.formula) (no_cnf a.is_clause (sym (ap (λ t. a.is_clause && t) c) ∙ e.role)) e.form;
      levels = omega (arith, e.levels, parentheses-one (not (is_bare a.formula)) (formula_levels a.formula));
      source = negate-written script layout place;
      source_levels = omega (arith, levels);
    }
  where
    no_cnf : (b : Bool) → (b && true) ≡ false → b ≡ false
    no_cnf true h = absurd (let x : true ≡ false = h in cc)
    no_cnf false h = refl

pub problem-lines-printable :
    (formulas : List Annotated) → ArePrintableEntries formulas
    → AllByRecursion (λ (a : Annotated). HasPrintableLines (entry_of a)) formulas
problem-lines-printable [] h = tt
problem-lines-printable (a ∷ more) h =
    let lines : HasPrintableLines (entry_of a) =
    record { input = input-printable (entry_of a) h.0; negated = negation-printable (entry_of a) h.0 } in
    (lines, problem-lines-printable more h.1)
