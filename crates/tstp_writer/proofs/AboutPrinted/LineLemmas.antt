-- A printed line has the tokens of a phrase, and these are those of the line.
use Rattle.std.proofs.Common.{◌≡◌, ℕ, ◌≤◌, Bool, true, false, ◌&&◌, List, [], ◌∷◌, ◌++◌, map, codes, Option, None, Some, refl, ap, ap₂, sym, ◌∙◌, subst, arith, append_assoc}
use Rattle.std.specs.Prelude.{if◌then◌else◌}
use Rattle.std.specs.List.{list_all, AllByRecursion}
use Rattle.std.proofs.lemmas.Bool.{and_from}
use Rattle.tptp_token.specs.Spelling.{is_digit, is_lower_word}
use Rattle.tptp_token.specs.Lexemes.{Lexeme, lexeme, IsLexedAs}
use Rattle.tptp_token.specs.declared.token.Kind.TheVariants.{Lower, Mark}
use Rattle.tptp_token.proofs.AboutTexts.PieceLemmas.{blank-piece}
use Rattle.tptp_token.proofs.AboutLexemes.LexemeLemmas.{Lexes, lexes-whole, lexes-nothing, lexes-blank}
use Rattle.tptp_token.proofs.AboutTexts.FrontLemmas.{lexes-lower, lexes-mark}
use Rattle.tptp_tree.specs.declared.role.Role.{Role}
use Rattle.tptp_tree.specs.declared.role.Role.TheVariants.{Axiom, Hypothesis, Definition, Assumption, Lemma, Theorem, Corollary, NegatedConjecture, Plain, Conjecture}
use Rattle.tptp_tree.specs.declared.limits.TheConstants.{MOST_DERIVATION_NESTING}
use Rattle.tptp_tree.specs.Formula.{FormulaTree}
use Rattle.tptp_tree.specs.Printing.{formula_text}
use Rattle.tptp_tree.specs.Spelling.{phrase_lexemes}
use Rattle.tptp_tree.specs.Brackets.{are_balanced}
use Rattle.tptp_tree.specs.Entries.{NamePhrase, word_name, digits_name, name_lexeme, name_meant, is_right_name, is_conjecture, role_word, role_of, Body, formula_body, clause_body, is_clause_body, language_word, body_lexemes, body_meant, AnnotatedPhrase, notes_lexemes, annotated_lexemes}
use Rattle.tptp_tree.specs.Causes.{Refusal, untaken_role_cause, outermost, body_causes, notes_causes, notes_part_causes, bound_ones}
use Rattle.tptp_tree.proofs.NameLemmas.{word_of, name_of-word_of}
use Rattle.tptp_tree.proofs.CanonicalLemmas.{WellFormula, phrase_of, formula-meant}
use Rattle.tptp_tree.proofs.LexingLemmas.{formula-lexes}
use Rattle.tptp_tree.proofs.WellLemmas.{spelled-well}
use Rattle.signature.specs.Environment.{free_names}
use Rattle.tptp_source.specs.declared.sign.NumberSign.TheVariants.{Unsigned}
use Rattle.tptp_source.specs.General.{GeneralTree, number}
use Rattle.tptp_source.specs.Spelling.{parts, no_parts, part_lexemes}
use Rattle.tptp_source.specs.Sources.{name_in, names_in, name_before, SourceTree, file_source, inference_source, component_source, opposite_source, word_of as word_term, IsSource, SpellsSource}
use Rattle.clausal_form.specs.DerivationLine.{LineTree}
use Rattle.clausal_form.specs.DerivationTexts.{IsLineOf, AreLinesOf, phrases_lexemes, SpellsDerivation}
use Rattle.tptp_tree.specs.Printing.{is_number_name}
use Rattle.tstp_writer.specs.SourceTexts.{name_term, source_term, source_text}
use Rattle.tstp_writer.proofs.AboutPrinted.PieceTexts.{formula-name-same}
use Rattle.tstp_writer.specs.LineTexts.{formula_name_text, line_text, lines_text}
use Rattle.tptp_tree.specs.Levels.{formula_levels}
use Rattle.tstp_writer.specs.Printable.{IsShown, IsWritable, IsFormOf, IsPrintable}
use Rattle.tstp_writer.proofs.AboutPrinted.TermTexts.{part_of, part-meant, part-front, comma, round, closer-ends, term-lexes}
use Rattle.tstp_writer.proofs.AboutPrinted.NoteLemmas.{AllNone, Fine, term-fine}
use Rattle.tstp_writer.proofs.AboutNeeded.CauseLemmas.{AllAllowed, every-allowed, formula-fine}
use Rattle.tstp_writer.proofs.AboutPrinted.ClausePhrases.{clause_of, IsClauseOf, clause-is}

-- ---- names

abbrev chosen_phrase : Bool → List ℕ → NamePhrase
chosen_phrase true n = digits_name n
chosen_phrase false n = word_name (word_of n)

abbrev name_phrase : List ℕ → NamePhrase
name_phrase n = chosen_phrase (is_number_name n) n

abbrev chosen_term : Bool → List ℕ → GeneralTree
chosen_term t n = if t then number Unsigned n else word_term n []

number-digits : (n : List ℕ) → is_number_name n ≡ true → list_all is_digit n ≡ true
number-digits [] h = refl
number-digits (b ∷ bs) h = h

name-right : (n : List ℕ) → is_right_name (name_phrase n) ≡ true
name-right n = by (is_number_name n) refl
  where
    by : (t : Bool) → is_number_name n ≡ t → is_right_name (chosen_phrase t n) ≡ true
    by true e = number-digits n e
    by false e = refl

name-meant : (n : List ℕ) → name_meant (name_phrase n) ≡ n
name-meant n = by (is_number_name n)
  where
    by : (t : Bool) → name_meant (chosen_phrase t n) ≡ n
    by true = refl
    by false = name_of-word_of n

name-token : (n : List ℕ) (ls : List Lexeme) → part_lexemes (part_of (name_term n)) ls ≡ name_lexeme (name_phrase n) ∷ ls
name-token n ls = by (is_number_name n)
  where
    by : (t : Bool) → part_lexemes (part_of (chosen_term t n)) ls ≡ name_lexeme (chosen_phrase t n) ∷ ls
    by true = refl
    by false = refl

name-writable : (n : List ℕ) → IsShown n → IsWritable (name_term n)
name-writable n h = by (is_number_name n) refl
  where
    by : (t : Bool) → is_number_name n ≡ t → IsWritable (chosen_term t n)
    by true e = (tt, e)
    by false e = (h, tt)

name-found : (n : List ℕ) → name_in (name_term n) ≡ Some n
name-found n = by (is_number_name n) refl
  where
    by : (t : Bool) → is_number_name n ≡ t → name_in (chosen_term t n) ≡ Some n
    by true e = ap (λ t. if t then Some n else None) (number-digits n e)
    by false e = refl

names-found : (ns : List (List ℕ)) → names_in (map name_term ns) ≡ Some ns
names-found [] = refl
names-found (n ∷ ns) = ap₂ name_before (name-found n) (names-found ns)

-- ---- sources

source-is : (s : SourceTree) → IsSource (source_term s) s
source-is (file_source f n) = (name_term n, name-found n, refl)
source-is (inference_source rule items parents) = (map name_term parents, names-found parents, refl)
source-is (component_source n) = (name_term n, name-found n, refl)
source-is (opposite_source n) = (name_term n, name-found n, refl)

abbrev source_tokens : SourceTree → List Lexeme
source_tokens s = part_lexemes (part_of (source_term s)) []

source-spelled : (s : SourceTree) → IsWritable (source_term s) → SpellsSource (source_tokens s) s
source-spelled s w = record {
  term = source_term s;
  spelled = record { phrase = parts (part_of (source_term s)) no_parts; spelled = refl; meant = part-meant (source_term s) w };
  shape = source-is s;
}

-- a source begins with a word, and so has some token
notes-front :
    (s : SourceTree) (rest : List Lexeme)
    → notes_lexemes (source_tokens s) rest ≡ lexeme Mark (codes ",") ∷ part_lexemes (part_of (source_term s)) rest
notes-front (file_source f n) rest = ap (λ us. lexeme Mark (codes ",") ∷ us) (sym (part-front (source_term (file_source f n)) rest))
notes-front (inference_source rule items parents) rest =
    ap (λ us. lexeme Mark (codes ",") ∷ us) (sym (part-front (source_term (inference_source rule items parents)) rest))
notes-front (component_source n) rest = ap (λ us. lexeme Mark (codes ",") ∷ us) (sym (part-front (source_term (component_source n)) rest))
notes-front (opposite_source n) rest = ap (λ us. lexeme Mark (codes ",") ∷ us) (sym (part-front (source_term (opposite_source n)) rest))

-- ---- roles

role-lower : (r : Role) → is_lower_word (role_word r) ≡ true
role-lower Axiom = refl
role-lower Hypothesis = refl
role-lower Definition = refl
role-lower Assumption = refl
role-lower Lemma = refl
role-lower Theorem = refl
role-lower Corollary = refl
role-lower NegatedConjecture = refl
role-lower Plain = refl
role-lower Conjecture = refl

role-taken : (is_clause : Bool) (r : Role) → (is_clause && is_conjecture r) ≡ false → role_of is_clause (role_word r) ≡ Some r
role-taken true Axiom h = refl
role-taken true Hypothesis h = refl
role-taken true Definition h = refl
role-taken true Assumption h = refl
role-taken true Lemma h = refl
role-taken true Theorem h = refl
role-taken true Corollary h = refl
role-taken true NegatedConjecture h = refl
role-taken true Plain h = refl
role-taken true Conjecture h = absurd (let e : true ≡ false = h in cc)
role-taken false Axiom h = refl
role-taken false Hypothesis h = refl
role-taken false Definition h = refl
role-taken false Assumption h = refl
role-taken false Lemma h = refl
role-taken false Theorem h = refl
role-taken false Corollary h = refl
role-taken false NegatedConjecture h = refl
role-taken false Plain h = refl
role-taken false Conjecture h = refl

-- ---- bodies

abbrev body_of : Bool → FormulaTree → Body
body_of true f = clause_body (clause_of f)
body_of false f = formula_body (phrase_of f)

record IsBodyOf (is_clause : Bool) (f : FormulaTree) : Type 0 where
  language : is_clause_body (body_of is_clause f) ≡ is_clause
  tokens : (rest : List Lexeme) → body_lexemes (body_of is_clause f) rest ≡ phrase_lexemes (phrase_of f) rest
  meant : body_meant (body_of is_clause f) ≡ f
  causes : (limit : ℕ) (rest : List (Option Refusal)) → formula_levels f ≤ limit → AllNone rest → AllNone (body_causes limit (body_of is_clause f) rest)

body-is : (is_clause : Bool) (f : FormulaTree) → IsFormOf is_clause f → WellFormula f → IsBodyOf is_clause f
body-is true f h w =
    let c : IsClauseOf (clause_of f) f = clause-is f h w in
    record {
      language = refl;
      tokens = c.tokens;
      meant = c.meant;
      causes =
          λ limit rest l r.
          subst AllNone (sym (c.causes (outermost limit true) rest))
          (formula-fine f w (outermost limit true) rest (omega (arith, l)) (every-allowed (free_names f)) r);
    }
body-is false f h w =
    record {
      language = refl;
      tokens = λ rest. refl;
      meant = formula-meant f w;
      causes =
          λ limit rest l r.
          formula-fine f w (outermost limit false) rest (omega (arith, l)) (subst (AllAllowed (bound_ones [])) (sym h) tt) r;
    }

-- ---- lines

abbrev line_phrase : LineTree → AnnotatedPhrase
line_phrase t = record {
  name = name_phrase (t.entry).name;
  role = role_word (t.entry).role;
  body = body_of (t.entry).is_clause (t.entry).formula;
  notes = source_tokens t.source;
}

all-none-append : (cs ds : List (Option Refusal)) → AllNone cs → AllNone ds → AllNone (cs ++ ds)
all-none-append [] ds h k = k
all-none-append (c ∷ cs) ds h k = (h.0, all-none-append cs ds h.1 k)

notes-fine : (limit : ℕ) (ns : List Lexeme) (rest : List (Option Refusal)) → Fine limit [] ns → AllNone rest → AllNone (notes_part_causes limit ns rest)
notes-fine limit [] rest f r = r
notes-fine limit (n ∷ ns) rest f r = (refl, all-none-append (notes_causes limit (Some []) (n ∷ ns)) rest f.causes r)

nothing-fine : (limit : ℕ) → Fine limit [] []
nothing-fine limit = record { causes = tt; closed = refl }

well-formula : (t : LineTree) → IsPrintable t → WellFormula (t.entry).formula
well-formula t p = subst WellFormula p.spelled.2 (spelled-well p.text p.spelled.0 p.spelled.1)

source-fine : (t : LineTree) → IsPrintable t → Fine MOST_DERIVATION_NESTING [] (source_tokens t.source)
source-fine t p =
    term-fine MOST_DERIVATION_NESTING (source_term t.source) [] [] p.source (omega (arith, p.source_levels)) (nothing-fine MOST_DERIVATION_NESTING)

line-is : (t : LineTree) → IsPrintable t → IsLineOf (line_phrase t) t
line-is t p =
    let f : FormulaTree = (t.entry).formula in
    let b : IsBodyOf (t.entry).is_clause f = body-is (t.entry).is_clause f p.form (well-formula t p) in
    let notes : Fine MOST_DERIVATION_NESTING [] (source_tokens t.source) = source-fine t p in
    let role : role_of (is_clause_body (body_of (t.entry).is_clause f)) (role_word (t.entry).role) ≡ Some (t.entry).role =
    ap (λ l. role_of l (role_word (t.entry).role)) b.language ∙ role-taken (t.entry).is_clause (t.entry).role p.role in
    record {
      right = and_from (is_right_name (name_phrase (t.entry).name)) (are_balanced (source_tokens t.source)) (name-right (t.entry).name) notes.closed;
      faultless = (
        refl,
        (
          refl,
          (
            refl,
            (
              refl,
              (
                ap (λ o. untaken_role_cause o (role_word (t.entry).role)) role,
                (
                  refl,
                  b.causes MOST_DERIVATION_NESTING (notes_part_causes MOST_DERIVATION_NESTING (source_tokens t.source) (None ∷ None ∷ [])) p.levels
                      (notes-fine MOST_DERIVATION_NESTING (source_tokens t.source) (None ∷ None ∷ []) notes (refl, (refl, tt))),
                ),
              ),
            ),
          ),
        ),
      );
      entry = record { name = sym (name-meant (t.entry).name); role = role; is_clause = sym b.language; formula = sym b.meant };
      source = source-spelled t.source p.source;
    }

-- ---- texts

language-lower : (is_clause : Bool) → is_lower_word (language_word is_clause) ≡ true
language-lower true = refl
language-lower false = refl

line-grouped :
    (language name role formula source text : List ℕ)
    → language ++ codes "(" ++ name ++ codes "," ++ role ++ codes "," ++ formula ++ codes "," ++ source ++ codes ").\n" ++ text
    ≡ language ++ (40 ∷ (name ++ (44 ∷ (role ++ (44 ∷ (formula ++ (44 ∷ (source ++ (41 ∷ 46 ∷ 10 ∷ text)))))))))
line-grouped language name role formula source text =
    append_assoc (language ++ codes "(" ++ name ++ codes "," ++ role ++ codes "," ++ formula ++ codes "," ++ source) (codes ").\n") text
    ∙ append_assoc (language ++ codes "(" ++ name ++ codes "," ++ role ++ codes "," ++ formula ++ codes ",") source (41 ∷ 46 ∷ 10 ∷ text)
    ∙ append_assoc (language ++ codes "(" ++ name ++ codes "," ++ role ++ codes "," ++ formula) (codes ",") (source ++ (41 ∷ 46 ∷ 10 ∷ text))
    ∙ append_assoc (language ++ codes "(" ++ name ++ codes "," ++ role ++ codes ",") formula (44 ∷ (source ++ (41 ∷ 46 ∷ 10 ∷ text)))
    ∙ append_assoc (language ++ codes "(" ++ name ++ codes "," ++ role) (codes ",") (formula ++ (44 ∷ (source ++ (41 ∷ 46 ∷ 10 ∷ text))))
    ∙ append_assoc (language ++ codes "(" ++ name ++ codes ",") role (44 ∷ (formula ++ (44 ∷ (source ++ (41 ∷ 46 ∷ 10 ∷ text)))))
    ∙ append_assoc (language ++ codes "(" ++ name) (codes ",") (role ++ (44 ∷ (formula ++ (44 ∷ (source ++ (41 ∷ 46 ∷ 10 ∷ text))))))
    ∙ append_assoc (language ++ codes "(") name (44 ∷ (role ++ (44 ∷ (formula ++ (44 ∷ (source ++ (41 ∷ 46 ∷ 10 ∷ text)))))))
    ∙ append_assoc language (codes "(") (name ++ (44 ∷ (role ++ (44 ∷ (formula ++ (44 ∷ (source ++ (41 ∷ 46 ∷ 10 ∷ text))))))))

-- the tokens of a line, with those of its formula and its source in place
abbrev tokens_of : LineTree → List Lexeme → List Lexeme
tokens_of t ls =
    lexeme Lower (language_word (t.entry).is_clause) ∷ lexeme Mark (codes "(") ∷ name_lexeme (name_phrase (t.entry).name)
    ∷ lexeme Mark (codes ",") ∷ lexeme Lower (role_word (t.entry).role) ∷ lexeme Mark (codes ",")
    ∷ phrase_lexemes (phrase_of (t.entry).formula)
    (lexeme Mark (codes ",") ∷ part_lexemes (part_of (source_term t.source)) (lexeme Mark (codes ")") ∷ lexeme Mark (codes ".") ∷ ls))

tokens-are : (t : LineTree) (ls : List Lexeme) → IsPrintable t → tokens_of t ls ≡ annotated_lexemes (line_phrase t) ls
tokens-are t ls p =
    let f : FormulaTree = (t.entry).formula in
    let b : IsBodyOf (t.entry).is_clause f = body-is (t.entry).is_clause f p.form (well-formula t p) in
    ap₂
    (λ l us. lexeme Lower (language_word l) ∷ lexeme Mark (codes "(") ∷ name_lexeme (name_phrase (t.entry).name)
    ∷ lexeme Mark (codes ",") ∷ lexeme Lower (role_word (t.entry).role) ∷ lexeme Mark (codes ",") ∷ us)
    (sym b.language)
    (ap (phrase_lexemes (phrase_of f)) (sym (notes-front t.source (lexeme Mark (codes ")") ∷ lexeme Mark (codes ".") ∷ ls)))
    ∙ sym (b.tokens (notes_lexemes (source_tokens t.source) (lexeme Mark (codes ")") ∷ lexeme Mark (codes ".") ∷ ls))))

line-end : (text : List ℕ) (ls : List Lexeme) → Lexes text ls → Lexes (41 ∷ 46 ∷ 10 ∷ text) (lexeme Mark (codes ")") ∷ lexeme Mark (codes ".") ∷ ls)
line-end text ls l =
    lexes-mark 41 (46 ∷ 10 ∷ text) (lexeme Mark (codes ".") ∷ ls) (omega arith) refl
    (lexes-mark 46 (10 ∷ text) ls (omega arith) refl (lexes-blank 10 text ls (sym (blank-piece 10 text refl)) l))

line-lexes : (t : LineTree) (text : List ℕ) (ls : List Lexeme) → IsPrintable t → Lexes text ls → Lexes (line_text t ++ text) (annotated_lexemes (line_phrase t) ls)
line-lexes t text ls p l =
    let language : List ℕ = language_word (t.entry).is_clause in
    let name : List ℕ = formula_name_text (t.entry).name in
    let role : List ℕ = role_word (t.entry).role in
    let formula : List ℕ = formula_text (t.entry).formula in
    let source : List ℕ = source_text t.source in
    let end_tokens : List Lexeme = lexeme Mark (codes ")") ∷ lexeme Mark (codes ".") ∷ ls in
    let source_ls : List Lexeme = part_lexemes (part_of (source_term t.source)) end_tokens in
    let formula_ls : List Lexeme = phrase_lexemes (phrase_of (t.entry).formula) (lexeme Mark (codes ",") ∷ source_ls) in
    let role_ls : List Lexeme = lexeme Lower role ∷ lexeme Mark (codes ",") ∷ formula_ls in
    let from_source : List ℕ = source ++ (41 ∷ 46 ∷ 10 ∷ text) in
    let from_formula : List ℕ = formula ++ (44 ∷ from_source) in
    let from_role : List ℕ = role ++ (44 ∷ from_formula) in
    let from_name : List ℕ = name ++ (44 ∷ from_role) in
    let lexed_source : Lexes from_source source_ls =
    term-lexes (source_term t.source) (41 ∷ 46 ∷ 10 ∷ text) end_tokens p.source (closer-ends round (46 ∷ 10 ∷ text)) (line-end text ls l) in
    let lexed_formula : Lexes from_formula formula_ls =
    formula-lexes (t.entry).formula (well-formula t p) (44 ∷ from_source) (lexeme Mark (codes ",") ∷ source_ls) refl
    (lexes-mark 44 from_source source_ls (omega arith) refl lexed_source) in
    let lexed_role : Lexes from_role role_ls =
    lexes-lower role (44 ∷ from_formula) (lexeme Mark (codes ",") ∷ formula_ls) (role-lower (t.entry).role) refl
    (lexes-mark 44 from_formula formula_ls (omega arith) refl lexed_formula) in
    let lexed_name : Lexes from_name (name_lexeme (name_phrase (t.entry).name) ∷ lexeme Mark (codes ",") ∷ role_ls) =
    subst (Lexes from_name) (name-token (t.entry).name (lexeme Mark (codes ",") ∷ role_ls))
    (subst (λ w. Lexes (w ++ (44 ∷ from_role)) (part_lexemes (part_of (name_term (t.entry).name)) (lexeme Mark (codes ",") ∷ role_ls)))
    (sym (formula-name-same (t.entry).name))
    (term-lexes (name_term (t.entry).name) (44 ∷ from_role) (lexeme Mark (codes ",") ∷ role_ls) (name-writable (t.entry).name p.name)
    (closer-ends comma from_role) (lexes-mark 44 from_role role_ls (omega arith) refl lexed_role))) in
    let whole : Lexes (language ++ (40 ∷ from_name)) (tokens_of t ls) =
    lexes-lower language (40 ∷ from_name) (lexeme Mark (codes "(") ∷ name_lexeme (name_phrase (t.entry).name) ∷ lexeme Mark (codes ",") ∷ role_ls)
    (language-lower (t.entry).is_clause) refl
    (lexes-mark 40 from_name (name_lexeme (name_phrase (t.entry).name) ∷ lexeme Mark (codes ",") ∷ role_ls) (omega arith) refl lexed_name) in
    subst (λ us. Lexes us (annotated_lexemes (line_phrase t) ls)) (sym (line-grouped language name role formula source text))
    (subst (Lexes (language ++ (40 ∷ from_name))) (tokens-are t ls p) whole)

-- ---- derivations

lines-lex : (ts : List LineTree) → AllByRecursion IsPrintable ts → Lexes (lines_text ts) (phrases_lexemes (map line_phrase ts) [])
lines-lex [] h = lexes-nothing
lines-lex (t ∷ ts) h = line-lexes t (lines_text ts) (phrases_lexemes (map line_phrase ts) []) h.0 (lines-lex ts h.1)

lines-are : (ts : List LineTree) → AllByRecursion IsPrintable ts → AreLinesOf (map line_phrase ts) ts
lines-are [] h = tt
lines-are (t ∷ ts) h = (line-is t h.0, lines-are ts h.1)

pub lines-spelled : (ts : List LineTree) → AllByRecursion IsPrintable ts → SpellsDerivation (lines_text ts) ts
lines-spelled ts h =
    let lexed : IsLexedAs (lines_text ts) (phrases_lexemes (map line_phrase ts) []) =
    lexes-whole (lines_text ts) (phrases_lexemes (map line_phrase ts) []) (lines-lex ts h) in (
      [],
      record { phrases = map line_phrase ts; spelled = lexed.tokens; lines = lines-are ts h },
      (refl, lexed.whole),
    )
