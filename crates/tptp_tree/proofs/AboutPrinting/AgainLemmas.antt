-- A printed text spells again what some text spells.
use Rattle.std.proofs.Common.{◌≡◌, ℕ, List, [], ◌∷◌, ◌++◌, ap, sym, ◌∙◌, subst, append-nil}
use Rattle.tptp_token.specs.Lexemes.{IsLexedAs, word_lexeme}
use Rattle.tptp_token.proofs.AboutLexemes.LexemeLemmas.{lexes-whole, lexes-nothing}
use Rattle.tptp_tree.specs.Formula.{FormulaTree}
use Rattle.tptp_token.specs.Words.{name_text, name_of}
use Rattle.tptp_tree.specs.Printing.{formula_text}
use Rattle.tptp_tree.specs.Spelling.{phrase_lexemes, meant, SpellsName, SpellsFormula}
use Rattle.tptp_tree.proofs.AboutNames.NameLemmas.{WellName, word_of, name_of-word_of, name-lexes}
use Rattle.tptp_tree.proofs.AboutPrinting.CanonicalLemmas.{WellFormula, phrase_of, formula-meant}
use Rattle.tptp_tree.proofs.AboutPrinting.LexingLemmas.{formula-lexes}
use Rattle.tptp_tree.proofs.AboutUniqueness.UniqueLemmas.{one_phrase, one_word}
use Rattle.tptp_tree.specs.Entries.{AnnotatedTree, EntryTree, AreEntriesOf, IsAnnotatedOf, SpellsAnnotated, SpellsEntries}
use Rattle.tptp_tree.proofs.AboutUniqueness.UniqueEntries.{annotated-same, tree-same, entries-same, trees-same}
use Rattle.tptp_tree.proofs.AboutPrinting.WellLemmas.{text-spelled, word-well, spelled-well}

pub name-again : (printed other name : List ℕ) → printed ≡ name_text name → SpellsName other name → SpellsName printed name
name-again printed other name e s =
    let well : WellName name = subst WellName s.2 (word-well s.0 (text-spelled other (word_lexeme s.0 ∷ []) s.1).0) in
    let lexes = name-lexes name [] [] well tt lexes-nothing in (
      word_of name,
      subst (λ us. IsLexedAs us (word_lexeme (word_of name) ∷ [])) (append-nil (name_text name) ∙ sym e)
          (lexes-whole (name_text name ++ []) (word_lexeme (word_of name) ∷ []) lexes),
      name_of-word_of name,
    )

-- the tokens of a printed text
pub formula-lexed : (f : FormulaTree) → WellFormula f → IsLexedAs (formula_text f) (phrase_lexemes (phrase_of f) [])
formula-lexed f w =
    subst (λ us. IsLexedAs us (phrase_lexemes (phrase_of f) [])) (append-nil (formula_text f))
    (lexes-whole (formula_text f ++ []) (phrase_lexemes (phrase_of f) []) (formula-lexes f w [] [] tt lexes-nothing))

pub formula-again :
    (printed other : List ℕ) (f : FormulaTree) → printed ≡ formula_text f → SpellsFormula other f → SpellsFormula printed f
formula-again printed other f e s =
    let well : WellFormula f = subst WellFormula s.2 (spelled-well other s.0 s.1) in
    (phrase_of f, subst (λ us. IsLexedAs us (phrase_lexemes (phrase_of f) [])) (sym e) (formula-lexed f well), formula-meant f well)

-- two formulas that one text spells are one
pub one_formula : (text : List ℕ) (f g : FormulaTree) → SpellsFormula text f → SpellsFormula text g → f ≡ g
one_formula text f g s t = sym s.2 ∙ ap meant (one_phrase s.0 t.0 (sym s.1.tokens ∙ t.1.tokens)) ∙ t.2

pub one_name : (text name other : List ℕ) → SpellsName text name → SpellsName text other → name ≡ other
one_name text name other s t = sym s.2 ∙ ap name_of (one_word s.0 t.0 (sym s.1.tokens ∙ t.1.tokens)) ∙ t.2

pub one_annotated : (text : List ℕ) (a b : AnnotatedTree) → SpellsAnnotated text a → SpellsAnnotated text b → a ≡ b
one_annotated text a b s t =
    let same = annotated-same s.0 t.0 [] [] s.1 t.1 (sym s.2.tokens ∙ t.2.tokens) in
    tree-same t.0 a b (subst (λ p. IsAnnotatedOf p a) same.0 s.3) t.3

pub one_entries : (text : List ℕ) (es fs : List EntryTree) → SpellsEntries text es → SpellsEntries text fs → es ≡ fs
one_entries text es fs s t =
    let same = entries-same s.0 t.0 s.1 t.1 (sym s.2.tokens ∙ t.2.tokens) in
    trees-same t.0 es fs (subst (λ ps. AreEntriesOf ps es) same s.3) t.3
