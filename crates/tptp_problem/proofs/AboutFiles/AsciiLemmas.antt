-- The words of a text are ASCII.
use Rattle.std.proofs.Common.{◌≡◌, ℕ, zero, suc, ◌<◌, Bool, true, false, ◌==◌, ◌||◌, ◌&&◌, List, [], ◌∷◌, map, drop, subst, arith}
use Rattle.std.specs.Prelude.{if◌then◌else◌}
use Rattle.std.specs.List.{AllByRecursion, list_all}
use Rattle.std.specs.Str.{IsAscii}
use Rattle.std.proofs.lemmas.Bool.{and_parts}
use Rattle.std.proofs.lemmas.Bool.Decides.{nat_tests}
use Rattle.tptp_token.specs.Spelling.{is_lower, is_word_byte, is_printable, is_end, is_lower_word, is_quoted_rest, is_quoted_word, spells}
use Rattle.tptp_token.specs.Lexemes.{Lexeme, lexeme_at, word_lexeme}
use Rattle.tptp_token.specs.Lexing.{lexed_of}
use Rattle.tptp_token.specs.declared.token.Token.{Token}
use Rattle.tptp_token.proofs.AboutLexemes.LexemeLemmas.{tokens-spelled}
use Rattle.tptp_token.specs.Words.{Word, bare, quoted, name_of, unescaped}
use Rattle.tptp_reader.proofs.AboutTexts.PrintedLemmas.{spelled-behind}

abbrev AreSmall : List ℕ → Type 0
AreSmall = AllByRecursion (λ b. b < 128)

small-ascii : (bs : List ℕ) → AreSmall bs → IsAscii bs
small-ascii [] h zero = omega arith
small-ascii [] h (suc i) = omega arith
small-ascii (b ∷ bs) h zero = h.0
small-ascii (b ∷ bs) h (suc i) = small-ascii bs h.1 i

lower-small : (b : ℕ) → is_lower b ≡ true → b < 128
lower-small b h = grind (arith, nat_tests)

word-small : (b : ℕ) → is_word_byte b ≡ true → b < 128
word-small b h = grind (arith, nat_tests)

printable-small : (b : ℕ) → is_printable b ≡ true → b < 128
printable-small b h = grind (arith, nat_tests)

escaped-small : (b : ℕ) → ((b == 39) || (b == 92)) ≡ true → b < 128
escaped-small b h = grind (arith, nat_tests)

all-small : (bs : List ℕ) → list_all is_word_byte bs ≡ true → AreSmall bs
all-small [] h = tt
all-small (b ∷ bs) h =
    let parts = and_parts (is_word_byte b) (list_all is_word_byte bs) h in (word-small b parts.0, all-small bs parts.1)

lower-word-small : (bs : List ℕ) → is_lower_word bs ≡ true → AreSmall bs
lower-word-small [] h = tt
lower-word-small (b ∷ bs) h =
    let parts = and_parts (is_lower b) (list_all is_word_byte bs) h in (lower-small b parts.0, all-small bs parts.1)

unescaped-small : (escaped : Bool) (bs : List ℕ) → is_quoted_rest 39 escaped bs ≡ true → AreSmall (unescaped escaped bs)
unescaped-small true [] h = tt
unescaped-small false [] h = tt
unescaped-small true (b ∷ bs) h =
    let parts = and_parts ((b == 39) || (b == 92)) (is_quoted_rest 39 false bs) h in
    (escaped-small b parts.0, unescaped-small false bs parts.1)
unescaped-small false (b ∷ bs) h = by (b == 39) (b == 92) h (λ k. unescaped-small true bs k) (λ k. unescaped-small false bs k)
  where
    by :
        (x y : Bool)
        → (if x then is_end bs
        else (if y then is_quoted_rest 39 true bs else (is_printable b && is_quoted_rest 39 false bs)))
        ≡ true
        → (is_quoted_rest 39 true bs ≡ true → AreSmall (unescaped true bs))
        → (is_quoted_rest 39 false bs ≡ true → AreSmall (unescaped false bs))
        → AreSmall (if x then [] else (if y then unescaped true bs else b ∷ unescaped false bs))
    by true y k more rest = tt
    by false true k more rest = more k
    by false false k more rest =
        let parts = and_parts (is_printable b) (is_quoted_rest 39 false bs) k in (printable-small b parts.0, rest parts.1)

quoted-small : (bs : List ℕ) → is_quoted_word bs ≡ true → AreSmall (unescaped false (drop 1 bs))
quoted-small [] h = tt
quoted-small (b ∷ bs) h = unescaped-small false bs (and_parts (is_quoted_rest 39 false bs) _ (and_parts (b == 39) _ h).1).0

word-ascii : (w : Word) → spells (word_lexeme w).kind (word_lexeme w).bytes ≡ true → IsAscii (name_of w)
word-ascii (bare bytes) h = small-ascii bytes (lower-word-small bytes h)
word-ascii (quoted bytes) h = small-ascii (unescaped false (drop 1 bytes)) (quoted-small bytes h)

abbrev AreSpelled : List Lexeme → Type 0
AreSpelled = AllByRecursion (λ (l : Lexeme). spells l.kind l.bytes ≡ true)

all-spelled :
    (bytes : List ℕ) (ts : List Token) → AllByRecursion (λ (t : Token). spells t.kind (lexeme_at bytes t).bytes ≡ true) ts
    → AreSpelled (map (lexeme_at bytes) ts)
all-spelled bytes [] h = tt
all-spelled bytes (t ∷ ts) h = (h.0, all-spelled bytes ts h.1)

-- a word among the tokens of a text
pub word-there :
    (bytes : List ℕ) (at : ℕ) (w : Word) (rest : List Lexeme)
    → drop at (map (lexeme_at bytes) (lexed_of bytes).tokens) ≡ word_lexeme w ∷ rest → IsAscii (name_of w)
word-there bytes at w rest e =
    let all = spelled-behind at (map (lexeme_at bytes) (lexed_of bytes).tokens) (all-spelled bytes (lexed_of bytes).tokens (tokens-spelled bytes)) in
    let P : List Lexeme → Type 0 = AreSpelled in
    word-ascii w (subst P e all).0
