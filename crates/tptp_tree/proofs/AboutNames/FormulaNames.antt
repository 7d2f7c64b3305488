-- The printed name of a formula spells the name again.
use Rattle.std.proofs.Common.{◌≡◌, ℕ, ◌+◌, ◌<◌, Bool, true, false, cond, ◌&&◌, List, [], ◌∷◌, ◌++◌, length, refl, ap, sym, ◌∙◌, subst, arith, append-nil, leb-true}
use Rattle.std.specs.Prelude.{nat_le, if◌then◌else◌}
use Rattle.std.specs.List.{prefix_len, list_all}
use Rattle.std.proofs.lemmas.Bool.{and_parts, agree_below_at}
use Rattle.std.proofs.Math.Seq.{drop-append_seam}
use Rattle.tptp_token.specs.Spelling.{is_digit}
use Rattle.tptp_token.specs.Pieces.{starts_with_either}
use Rattle.tptp_token.specs.Words.{name_text}
use Rattle.tptp_token.specs.Lexemes.{Lexeme, IsLexedAs, lexeme, word_lexeme}
use Rattle.tptp_token.specs.declared.token.Kind.TheVariants.{Number}
use Rattle.tptp_token.proofs.AboutLexemes.TestLemmas.{second-false}
use Rattle.tptp_token.proofs.AboutLexemes.NumberLemmas.{NoDigit, no_exponent, fraction-none, number-length, number-piece}
use Rattle.tptp_token.proofs.AboutLexemes.LexemeLemmas.{Lexes, lexes-whole, lexes-nothing}
use Rattle.tptp_token.proofs.AboutTexts.FrontLemmas.{may_be_space, lexes-plain}
use Rattle.tptp_tree.specs.Printing.{is_number_name, formula_name_text}
use Rattle.tptp_tree.specs.Entries.{NamePhrase, word_name, digits_name, name_lexeme, name_meant, is_right_name, SpellsFormulaName}
use Rattle.tptp_tree.proofs.AboutNames.NameLemmas.{WellName, word_of, name_of-word_of, name-lexes}
use Rattle.tptp_tree.proofs.AboutPrinting.WellLemmas.{text-spelled, word-well}
use Rattle.tptp_tree.proofs.AboutUniqueness.UniqueAtoms.{head-same}
use Rattle.tptp_tree.proofs.AboutUniqueness.UniqueEntries.{name-same}

-- ---- numbers of digits alone

-- no number goes on there
pub record EndsNumber (text : List ℕ) : Type 0 where
  pub no_digit : NoDigit text
  pub no_point : starts_with_either 46 47 text ≡ false
  pub no_exponent : starts_with_either 69 101 text ≡ false

digit-small : (b : ℕ) → is_digit b ≡ true → b < 256
digit-small b h = let ends = and_parts (nat_le 48 b) (nat_le b 57) h in omega (arith, leb-true b 57 ends.1)

digit-no_space : (b : ℕ) → is_digit b ≡ true → may_be_space b ≡ false
digit-no_space b h =
    second-false (is_digit b) (may_be_space b)
    (agree_below_at (λ x. is_digit x && may_be_space x) (λ x. false) 256 b refl (digit-small b h)) h

digits-run : (w text : List ℕ) → list_all is_digit w ≡ true → NoDigit text → length w ≡ prefix_len is_digit (w ++ text)
digits-run [] [] h e = refl
digits-run [] (b ∷ text) h e = sym (ap (λ t. cond t (1 + prefix_len is_digit text) 0) e)
digits-run (b ∷ w) text h e =
    let ends = and_parts (is_digit b) (list_all is_digit w) h in
    let long : length (b ∷ w) ≡ 1 + length w = omega arith in
    long ∙ ap (λ n. 1 + n) (digits-run w text ends.1 e)
    ∙ sym (ap (λ t. cond t (1 + prefix_len is_digit (w ++ text)) 0) ends.0)

pub number-lexes :
    (n text : List ℕ) (ls : List Lexeme)
    → is_number_name n ≡ true → EndsNumber text → Lexes text ls → Lexes (n ++ text) (lexeme Number n ∷ ls)
number-lexes [] text ls h e l = absurd (let t : false ≡ true = h in cc)
number-lexes (b ∷ w) text ls h e l =
    let ends = and_parts (is_digit b) (list_all is_digit w) h in
    let long : length w + 1 ≡ length w + 1 + 0 + 0 = omega arith in
    lexes-plain Number b w text ls (digit-no_space b ends.0)
    (number-piece b (w ++ text) (length w + 1) (digit-small b ends.0) ends.0
    (long
    ∙ number-length b (w ++ text) text text (length w) 0 0 ends.0 (digits-run w text ends.1 e.no_digit) (sym (drop-append_seam w text))
    (fraction-none text e.no_point) refl (no_exponent text e.no_exponent))) l

-- ---- names

digits-right : (name : List ℕ) → is_number_name name ≡ true → list_all is_digit name ≡ true
digits-right [] h = absurd (let t : false ≡ true = h in cc)
digits-right (b ∷ w) h = h

-- the phrase of a text's one name is a word that can be printed, or digits
spelled-digits : (text ds : List ℕ) → list_all is_digit ds ≡ true → IsLexedAs text (lexeme Number ds ∷ []) → is_number_name ds ≡ true
spelled-digits text [] h l = absurd (let t : false ≡ true = (text-spelled text (lexeme Number [] ∷ []) l).0 in cc)
spelled-digits text (b ∷ w) h l = h

digits-again : (name : List ℕ) → is_number_name name ≡ true → SpellsFormulaName name name
digits-again name h =
    let ends : EndsNumber [] = record { no_digit = tt; no_point = refl; no_exponent = refl } in (
      digits_name name,
      digits-right name h,
      subst (λ us. IsLexedAs us (lexeme Number name ∷ [])) (append-nil name)
          (lexes-whole (name ++ []) (lexeme Number name ∷ []) (number-lexes name [] [] h ends lexes-nothing)),
      refl,
    )

word-again : (name : List ℕ) → WellName name → SpellsFormulaName (name_text name) name
word-again name w = (
  word_name (word_of name),
  refl,
  subst (λ us. IsLexedAs us (word_lexeme (word_of name) ∷ [])) (append-nil (name_text name))
      (lexes-whole (name_text name ++ []) (word_lexeme (word_of name) ∷ []) (name-lexes name [] [] w tt lexes-nothing)),
  name_of-word_of name,
)

chosen-again :
    (t : Bool) (name : List ℕ) → is_number_name name ≡ t → (t ≡ false → WellName name)
    → SpellsFormulaName (if t then name else name_text name) name
chosen-again true name h w = digits-again name h
chosen-again false name h w = word-again name (w refl)

pub formula_name-again :
    (printed other name : List ℕ) → printed ≡ formula_name_text name → SpellsFormulaName other name → SpellsFormulaName printed name
formula_name-again printed other name e s =
    subst (λ text. SpellsFormulaName text name) (sym e) (chosen-again (is_number_name name) name refl (well s.0 s.1 s.2 s.3))
  where
    well :
        (n : NamePhrase) → is_right_name n ≡ true → IsLexedAs other (name_lexeme n ∷ []) → name_meant n ≡ name
        → is_number_name name ≡ false → WellName name
    well (word_name w) r l m f = subst WellName m (word-well w (text-spelled other (word_lexeme w ∷ []) l).0)
    well (digits_name ds) r l m f =
        absurd (let t : false ≡ true = sym f ∙ sym (ap is_number_name m) ∙ spelled-digits other ds r l in cc)

pub one_formula_name : (text name other : List ℕ) → SpellsFormulaName text name → SpellsFormulaName text other → name ≡ other
one_formula_name text name other s t =
    sym s.3
    ∙ ap name_meant (name-same s.0 t.0 (head-same (name_lexeme s.0) (name_lexeme t.0) [] [] (sym s.2.tokens ∙ t.2.tokens)))
    ∙ t.3
