-- Names that are printed, and whole texts.
use Rattle.std.proofs.Common.{◌≡◌, ℕ, true, false, List, [], ◌∷◌, ◌++◌, length, drop, None, refl, ap, sym, ◌∙◌, subst, append-nil, arith, leb-true, le-leb}
use Rattle.std.specs.Prelude.{nat_le}
use Rattle.std.specs.List.{list_all}
use Rattle.std.proofs.lemmas.Bool.{and_parts, and_from}
use Rattle.tptp_token.specs.Spelling.{is_digit, is_number, is_printable}
use Rattle.tptp_token.specs.Lexemes.{Lexeme, IsLexedAs, word_lexeme, lexemes_of}
use Rattle.tptp_token.specs.Lexing.{lexed_of}
use Rattle.tptp_token.specs.declared.token.Token.{Token}
use Rattle.tptp_token.proofs.AboutLexemes.LexemeLemmas.{tokens-spelled, lexes-whole, lexes-nothing}
use Rattle.tptp_token.specs.Words.{name_text}
use Rattle.tptp_tree.specs.Spelling.{SpellsName}
use Rattle.tptp_tree.specs.Entries.{NamePhrase, word_name, digits_name, name_lexeme, name_meant, is_right_name, AnnotatedPhrase, annotated_lexemes, is_right_annotated, AnnotatedTree, IsAnnotatedOf, SpellsAnnotated}
use Rattle.tptp_tree.specs.Causes.{annotated_causes}
use Rattle.tptp_tree.proofs.NameLemmas.{WellName, word_of, name_of-word_of, name-lexes}
use Rattle.tptp_tree.proofs.WellLemmas.{IsSpelled, AreSpelled, lexemes-spelled, text-spelled, word-well}
use Rattle.tptp_reader.specs.Answers.{AreFaultless}
use Rattle.tptp_reader.specs.Annotating.{IsReading}
use Rattle.tptp_reader.specs.Placed.{IsReadFrom}
use Rattle.tptp_tree.specs.Shape.{entry_of}
use Rattle.tptp_reader.specs.declared.entry.Read.{Read}
use Rattle.tptp_reader.proofs.AboutTexts.PrintedLemmas.{spelled-behind}

-- ---- names

digit-printable : (b : ℕ) → is_digit b ≡ true → is_printable b ≡ true
digit-printable b h =
    let parts = and_parts (nat_le 48 b) (nat_le b 57) h in
    let low = leb-true 48 b parts.0 in
    let high = leb-true b 57 parts.1 in
    and_from (nat_le 32 b) (nat_le b 126) (le-leb 32 b (omega arith)) (le-leb b 126 (omega arith))

digits-printable : (ds : List ℕ) → list_all is_digit ds ≡ true → list_all is_printable ds ≡ true
digits-printable [] h = refl
digits-printable (d ∷ ds) h =
    let parts = and_parts (is_digit d) (list_all is_digit ds) h in
    and_from (is_printable d) (list_all is_printable ds) (digit-printable d parts.0) (digits-printable ds parts.1)

digits-well : (ds : List ℕ) → list_all is_digit ds ≡ true → is_number ds ≡ true → WellName ds
digits-well [] all h = absurd (let t : false ≡ true = h in cc)
digits-well (d ∷ ds) all h = record { printable = digits-printable (d ∷ ds) all; some = omega arith }

name-well : (n : NamePhrase) → is_right_name n ≡ true → IsSpelled (name_lexeme n) → WellName (name_meant n)
name-well (word_name w) right h = word-well w h
name-well (digits_name ds) right h = digits-well ds right h

name-spelled : (name : List ℕ) → WellName name → SpellsName (name_text name) name
name-spelled name w = (
  word_of name,
  subst (λ us. IsLexedAs us (word_lexeme (word_of name) ∷ [])) (append-nil (name_text name))
      (lexes-whole (name_text name ++ []) (word_lexeme (word_of name) ∷ []) (name-lexes name [] [] w tt lexes-nothing)),
  name_of-word_of name,
)

phrase-name :
    (p : AnnotatedPhrase) (rest : List Lexeme) (a : AnnotatedTree) → is_right_annotated p ≡ true
    → AreSpelled (annotated_lexemes p rest) → IsAnnotatedOf p a → SpellsName (name_text a.name) a.name
phrase-name p rest a right h m =
    let right_name = (and_parts (is_right_name p.name) _ right).0 in
    subst (λ n. SpellsName (name_text n) n) (sym m.name) (name-spelled (name_meant p.name) (name-well p.name right_name h.1.1.0))

pub spelled-name : (text : List ℕ) (a : AnnotatedTree) → SpellsAnnotated text a → SpellsName (name_text a.name) a.name
spelled-name text a s = phrase-name s.0 [] a s.1 (text-spelled text (annotated_lexemes s.0 []) s.2) s.3

pub read-name :
    (limit : ℕ) (bytes : List ℕ) (first : ℕ) (read : Read)
    → IsReading limit bytes (lexed_of bytes).tokens first read
    → SpellsName (name_text (entry_of read.annotated).name) (entry_of read.annotated).name
read-name limit bytes first read h =
    phrase-name h.phrase _ (entry_of read.annotated) h.spelled.right
    (subst AreSpelled h.spelled.spelled
    (spelled-behind first (lexemes_of bytes (lexed_of bytes).tokens) (lexemes-spelled bytes (lexed_of bytes).tokens (tokens-spelled bytes)))) h.meant

-- ---- whole texts

nothing-behind : (bytes : List ℕ) (ts : List Token) → drop (length ts) (lexemes_of bytes ts) ≡ []
nothing-behind bytes [] = refl
nothing-behind bytes (t ∷ ts) = nothing-behind bytes ts

pub read-is-spelled :
    (limit : ℕ) (bytes : List ℕ) (read : Read)
    → IsReading limit bytes (lexed_of bytes).tokens 0 read
    → read.next ≡ length (lexed_of bytes).tokens → (lexed_of bytes).fault ≡ None
    → SpellsAnnotated bytes (entry_of read.annotated)
read-is-spelled limit bytes read h end whole =
    let lexemes : List Lexeme = lexemes_of bytes (lexed_of bytes).tokens in
    let behind : drop read.next lexemes ≡ [] = ap (λ n. drop n lexemes) end ∙ nothing-behind bytes (lexed_of bytes).tokens in
    let lexed : IsLexedAs bytes (annotated_lexemes h.phrase []) =
    record { whole = whole; tokens = h.spelled.spelled ∙ ap (annotated_lexemes h.phrase) behind } in (h.phrase, h.spelled.right, lexed, h.meant)

pub spelled-is-read :
    (limit : ℕ) (bytes : List ℕ) (a : AnnotatedTree) (s : SpellsAnnotated bytes a) → AreFaultless (annotated_causes limit s.0)
    → IsReadFrom limit (lexemes_of bytes (lexed_of bytes).tokens) 0 s.0 (length (lexed_of bytes).tokens)
spelled-is-read limit bytes a s h = record {
  right = s.1;
  spelled = s.2.tokens ∙ ap (annotated_lexemes s.0) (sym (nothing-behind bytes (lexed_of bytes).tokens));
  faultless = h;
}
