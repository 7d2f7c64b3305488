-- A printed general term has the tokens of its phrase, and these spell it.
use Rattle.std.proofs.Common.{◌≡◌, ℕ, ◌+◌, ◌<◌, true, false, cond, ◌&&◌, List, [], ◌∷◌, ◌++◌, length, codes, refl, ap, ap₂, sym, ◌∙◌, subst, arith, append_assoc, append-nil, leb-true}
use Rattle.std.specs.Prelude.{nat_le}
use Rattle.std.specs.List.{prefix_len, list_all}
use Rattle.std.proofs.lemmas.Bool.{and_parts, agree_below_at}
use Rattle.std.proofs.Math.Seq.{drop-append_seam}
use Rattle.tptp_token.specs.Spelling.{is_digit}
use Rattle.tptp_token.specs.Pieces.{starts_with_either}
use Rattle.tptp_token.specs.Words.{name_text}
use Rattle.tptp_token.specs.Lexemes.{Lexeme, lexeme, word_lexeme}
use Rattle.tptp_token.specs.declared.token.Kind.TheVariants.{Dollar, Number, Connective, Mark}
use Rattle.tptp_token.proofs.AboutLexemes.TestLemmas.{second-false}
use Rattle.tptp_token.proofs.AboutLexemes.NumberLemmas.{NoDigit, no_exponent, fraction-none, number-length, number-piece}
use Rattle.tptp_token.proofs.AboutLexemes.LexemeLemmas.{Lexes}
use Rattle.tptp_token.proofs.AboutTexts.FrontLemmas.{EndsWord, may_be_space, lexes-plain, lexes-variable, lexes-mark}
use Rattle.tptp_tree.specs.Term.{no_terms}
use Rattle.tptp_tree.specs.Formula.{predicate, negation}
use Rattle.tptp_tree.proofs.NameLemmas.{WellName, word_of, name_of-word_of, name-lexes}
use Rattle.tptp_tree.proofs.LexingLemmas.{formula-lexes}
use Rattle.tptp_source.specs.declared.sign.NumberSign.TheVariants.{Unsigned, Plus, Minus}
use Rattle.tptp_source.specs.General.{GeneralTree, variable, word, dollar, number, distinct, negated, listed, joined, GeneralTrees, no_trees, tree_then, trees_of}
use Rattle.tptp_source.specs.Spelling.{PartPhrase, variable_part, word_part, dollar_part, number_part, distinct_part, negated_part, list_part, no_parts, parts, GeneralPhrases, no_phrases, phrase_then, part_lexemes, arguments_lexemes, items_lexemes, more_lexemes, part_meant, phrases_meant}
use Rattle.tptp_tree.specs.Printing.{is_number_name}
use Rattle.tstp_writer.specs.SourceTexts.{general_text, arguments_text, items_text, more_text}
use Rattle.tstp_writer.specs.Printable.{IsShown, IsWritable, AreWritable}

-- ---- phrases

abbrev mutual
  pub part_of : GeneralTree → PartPhrase
  part_of (variable x) = variable_part x
  part_of (word f ts) = word_part (word_of f) (phrases_of ts)
  part_of (dollar d ts) = dollar_part d (phrases_of ts)
  part_of (number sign n) = number_part sign n
  part_of (distinct d) = distinct_part d
  part_of (negated f) = negated_part (word_of f)
  part_of (listed ts) = list_part (phrases_of ts)
  part_of (joined ts) = list_part (phrases_of ts)

  pub phrases_of : GeneralTrees → GeneralPhrases
  phrases_of no_trees = no_phrases
  phrases_of (tree_then t ts) = phrase_then (parts (part_of t) no_parts) (phrases_of ts)

mutual
  pub part-meant : (t : GeneralTree) → IsWritable t → part_meant (part_of t) ≡ t
  part-meant (variable x) w = refl
  part-meant (word f ts) w = ap₂ word (name_of-word_of f) (phrases-meant ts w.1)
  part-meant (dollar d ts) w = absurd w
  part-meant (number sign n) w = refl
  part-meant (distinct d) w = refl
  part-meant (negated f) w = ap negated (name_of-word_of f)
  part-meant (listed ts) w = ap listed (phrases-meant ts w)
  part-meant (joined ts) w = absurd w

  phrases-meant : (ts : GeneralTrees) → AreWritable ts → trees_of (phrases_meant (phrases_of ts)) ≡ ts
  phrases-meant no_trees w = refl
  phrases-meant (tree_then t ts) w = ap₂ tree_then (part-meant t w.0) (phrases-meant ts w.1)

-- ---- the tokens in front of others

behind-both : (f g : List Lexeme → List Lexeme) (rest : List Lexeme)
    → ((ls : List Lexeme) → f ls ≡ f [] ++ ls) → ((ls : List Lexeme) → g ls ≡ g [] ++ ls) → f (g rest) ≡ f (g []) ++ rest
behind-both f g rest by_f by_g =
    by_f (g rest) ∙ ap (λ us. f [] ++ us) (by_g rest) ∙ sym (append_assoc (f []) (g []) rest)
    ∙ ap (λ us. us ++ rest) (sym (by_f (g [])))

mutual
  pub part-front : (t : GeneralTree) (rest : List Lexeme) → part_lexemes (part_of t) rest ≡ part_lexemes (part_of t) [] ++ rest
  part-front (variable x) rest = refl
  part-front (word f ts) rest = ap (λ us. word_lexeme (word_of f) ∷ us) (arguments-front ts rest)
  part-front (dollar d ts) rest = ap (λ us. lexeme Dollar d ∷ us) (arguments-front ts rest)
  part-front (number Unsigned n) rest = refl
  part-front (number Plus n) rest = refl
  part-front (number Minus n) rest = refl
  part-front (distinct d) rest = refl
  part-front (negated f) rest = refl
  part-front (listed ts) rest = ap (λ us. lexeme Mark (codes "[") ∷ us) (items-front ts rest)
  part-front (joined ts) rest = ap (λ us. lexeme Mark (codes "[") ∷ us) (items-front ts rest)

  arguments-front : (ts : GeneralTrees) (rest : List Lexeme) → arguments_lexemes (phrases_of ts) rest ≡ arguments_lexemes (phrases_of ts) [] ++ rest
  arguments-front no_trees rest = refl
  arguments-front (tree_then t ts) rest =
      ap (λ us. lexeme Mark (codes "(") ∷ us)
      (behind-both (part_lexemes (part_of t)) (more_lexemes (codes ")") (phrases_of ts)) rest (part-front t) (more-front (codes ")") ts))

  items-front : (ts : GeneralTrees) (rest : List Lexeme) → items_lexemes (phrases_of ts) rest ≡ items_lexemes (phrases_of ts) [] ++ rest
  items-front no_trees rest = refl
  items-front (tree_then t ts) rest =
      behind-both (part_lexemes (part_of t)) (more_lexemes (codes "]") (phrases_of ts)) rest (part-front t) (more-front (codes "]") ts)

  more-front : (close : List ℕ) (ts : GeneralTrees) (rest : List Lexeme) → more_lexemes close (phrases_of ts) rest ≡ more_lexemes close (phrases_of ts) [] ++ rest
  more-front close no_trees rest = refl
  more-front close (tree_then t ts) rest =
      ap (λ us. lexeme Mark (codes ",") ∷ us)
      (behind-both (part_lexemes (part_of t)) (more_lexemes close (phrases_of ts)) rest (part-front t) (more-front close ts))

-- ---- what stands behind a term

-- no word and no number goes on there
pub record EndsTerm (text : List ℕ) : Type 0 where
  pub word : EndsWord text
  pub no_digit : NoDigit text
  pub no_point : starts_with_either 46 47 text ≡ false
  pub no_exponent : starts_with_either 69 101 text ≡ false

pub data Closer : Type 0 where
  comma : Closer
  round : Closer
  square : Closer

abbrev pub closer_byte : Closer → ℕ
closer_byte comma = 44
closer_byte round = 41
closer_byte square = 93

pub closer-ends : (k : Closer) (text : List ℕ) → EndsTerm (closer_byte k ∷ text)
closer-ends comma text = record { word = refl; no_digit = refl; no_point = refl; no_exponent = refl }
closer-ends round text = record { word = refl; no_digit = refl; no_point = refl; no_exponent = refl }
closer-ends square text = record { word = refl; no_digit = refl; no_point = refl; no_exponent = refl }

closer-lexes : (k : Closer) (text : List ℕ) (ls : List Lexeme) → Lexes text ls → Lexes (closer_byte k ∷ text) (lexeme Mark (closer_byte k ∷ []) ∷ ls)
closer-lexes comma text ls l = lexes-mark 44 text ls (omega arith) refl l
closer-lexes round text ls l = lexes-mark 41 text ls (omega arith) refl l
closer-lexes square text ls l = lexes-mark 93 text ls (omega arith) refl l

-- ---- numbers

digit-small : (b : ℕ) → is_digit b ≡ true → b < 256
digit-small b h = let ends = and_parts (nat_le 48 b) (nat_le b 57) h in omega (arith, leb-true b 57 ends.1)

digit-no_space : (b : ℕ) → is_digit b ≡ true → may_be_space b ≡ false
digit-no_space b h =
    second-false (is_digit b) (may_be_space b)
    (agree_below_at (λ x. is_digit x && may_be_space x) (λ x. false) 256 b refl (digit-small b h)) h

digits-run : (w text : List ℕ) → list_all is_digit w ≡ true → NoDigit text → length w ≡ prefix_len is_digit (w ++ text)
digits-run [] [] h e = refl
digits-run [] (b ∷ text) h e = sym (ap (λ t. cond t (1 + prefix_len is_digit text) 0) e)
digits-run (b ∷ w) text h e =
    let ends = and_parts (is_digit b) (list_all is_digit w) h in
    let long : length (b ∷ w) ≡ 1 + length w = omega arith in
    long ∙ ap (λ n. 1 + n) (digits-run w text ends.1 e)
    ∙ sym (ap (λ t. cond t (1 + prefix_len is_digit (w ++ text)) 0) ends.0)

number-lexes :
    (n text : List ℕ) (ls : List Lexeme)
    → is_number_name n ≡ true → EndsTerm text → Lexes text ls → Lexes (n ++ text) (lexeme Number n ∷ ls)
number-lexes [] text ls h e l = absurd (let t : false ≡ true = h in cc)
number-lexes (b ∷ w) text ls h e l =
    let ends = and_parts (is_digit b) (list_all is_digit w) h in
    let long : length w + 1 ≡ length w + 1 + 0 + 0 = omega arith in
    lexes-plain Number b w text ls (digit-no_space b ends.0)
    (number-piece b (w ++ text) (length w + 1) (digit-small b ends.0) ends.0
    (long
    ∙ number-length b (w ++ text) text text (length w) 0 0 ends.0 (digits-run w text ends.1 e.no_digit) (sym (drop-append_seam w text))
    (fraction-none text e.no_point) refl (no_exponent text e.no_exponent))) l

-- ---- terms

pub well : (name : List ℕ) → IsShown name → WellName name
well name h = record { printable = h.printable; some = h.some }

regroup : (a b c : List ℕ) (ls : List Lexeme) → Lexes (a ++ (b ++ c)) ls → Lexes (a ++ b ++ c) ls
regroup a b c ls l = subst (λ us. Lexes us ls) (sym (append_assoc a b c)) l

more-end : (k : Closer) (ts : GeneralTrees) (text : List ℕ) → EndsTerm (more_text (closer_byte k ∷ []) ts ++ text)
more-end k no_trees text = closer-ends k text
more-end k (tree_then t ts) text = closer-ends comma _

arguments-end : (ts : GeneralTrees) (text : List ℕ) → EndsTerm text → EndsWord (arguments_text ts ++ text)
arguments-end no_trees text e = e.word
arguments-end (tree_then t ts) text e = refl

mutual
  pub term-lexes :
      (t : GeneralTree) (text : List ℕ) (ls : List Lexeme)
      → IsWritable t → EndsTerm text → Lexes text ls → Lexes (general_text t ++ text) (part_lexemes (part_of t) ls)
  term-lexes (variable x) text ls w e l = lexes-variable x text ls w e.word l
  term-lexes (word f ts) text ls w e l =
      regroup (name_text f) (arguments_text ts) text (word_lexeme (word_of f) ∷ arguments_lexemes (phrases_of ts) ls)
      (name-lexes f (arguments_text ts ++ text) (arguments_lexemes (phrases_of ts) ls) (well f w.0) (arguments-end ts text e)
      (arguments-lexes ts text ls w.1 l))
  term-lexes (dollar d ts) text ls w e l = absurd w
  term-lexes (number Unsigned n) text ls w e l = number-lexes n text ls w.1 e l
  term-lexes (number Plus n) text ls w e l = absurd w.0
  term-lexes (number Minus n) text ls w e l = absurd w.0
  term-lexes (distinct d) text ls w e l = absurd w
  term-lexes (negated f) text ls w e l =
      subst (λ us. Lexes (126 ∷ us ++ text) (lexeme Connective (codes "~") ∷ word_lexeme (word_of f) ∷ ls)) (append-nil (name_text f))
      (formula-lexes (negation (predicate f no_terms)) (well f w, tt) text ls e.word l)
  term-lexes (listed ts) text ls w e l =
      lexes-mark 91 (items_text ts ++ text) (items_lexemes (phrases_of ts) ls) (omega arith) refl (items-lexes ts text ls w l)
  term-lexes (joined ts) text ls w e l = absurd w

  arguments-lexes :
      (ts : GeneralTrees) (text : List ℕ) (ls : List Lexeme)
      → AreWritable ts → Lexes text ls → Lexes (arguments_text ts ++ text) (arguments_lexemes (phrases_of ts) ls)
  arguments-lexes no_trees text ls w l = l
  arguments-lexes (tree_then t ts) text ls w l =
      lexes-mark 40 (general_text t ++ more_text (codes ")") ts ++ text) (part_lexemes (part_of t) (more_lexemes (codes ")") (phrases_of ts) ls))
      (omega arith) refl
      (regroup (general_text t) (more_text (codes ")") ts) text (part_lexemes (part_of t) (more_lexemes (codes ")") (phrases_of ts) ls))
      (term-lexes t (more_text (codes ")") ts ++ text) (more_lexemes (codes ")") (phrases_of ts) ls) w.0 (more-end round ts text)
      (more-lexes round ts text ls w.1 l)))

  items-lexes :
      (ts : GeneralTrees) (text : List ℕ) (ls : List Lexeme)
      → AreWritable ts → Lexes text ls → Lexes (items_text ts ++ text) (items_lexemes (phrases_of ts) ls)
  items-lexes no_trees text ls w l = closer-lexes square text ls l
  items-lexes (tree_then t ts) text ls w l =
      regroup (general_text t) (more_text (codes "]") ts) text (part_lexemes (part_of t) (more_lexemes (codes "]") (phrases_of ts) ls))
      (term-lexes t (more_text (codes "]") ts ++ text) (more_lexemes (codes "]") (phrases_of ts) ls) w.0 (more-end square ts text)
      (more-lexes square ts text ls w.1 l))

  more-lexes :
      (k : Closer) (ts : GeneralTrees) (text : List ℕ) (ls : List Lexeme)
      → AreWritable ts → Lexes text ls
      → Lexes (more_text (closer_byte k ∷ []) ts ++ text) (more_lexemes (closer_byte k ∷ []) (phrases_of ts) ls)
  more-lexes k no_trees text ls w l = closer-lexes k text ls l
  more-lexes k (tree_then t ts) text ls w l =
      lexes-mark 44 (general_text t ++ more_text (closer_byte k ∷ []) ts ++ text)
      (part_lexemes (part_of t) (more_lexemes (closer_byte k ∷ []) (phrases_of ts) ls)) (omega arith) refl
      (regroup (general_text t) (more_text (closer_byte k ∷ []) ts) text
      (part_lexemes (part_of t) (more_lexemes (closer_byte k ∷ []) (phrases_of ts) ls))
      (term-lexes t (more_text (closer_byte k ∷ []) ts ++ text) (more_lexemes (closer_byte k ∷ []) (phrases_of ts) ls) w.0 (more-end k ts text)
      (more-lexes k ts text ls w.1 l)))
