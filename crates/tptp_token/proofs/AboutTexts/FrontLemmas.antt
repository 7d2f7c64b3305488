-- Texts that begin with a token, by what the token is.
use Rattle.std.proofs.Common.{◌≡◌, ℕ, ◌+◌, ◌<◌, ◌≤◌, Bool, true, false, cond, ◌&&◌, ◌||◌, ◌==◌, List, [], ◌∷◌, ◌++◌, length, refl, ap, sym, ◌∙◌, inl, subst, arith, append_assoc, length-append, leb-true}
use Rattle.std.specs.Prelude.{nat_le}
use Rattle.std.specs.List.{prefix_len, list_any, list_all}
use Rattle.std.proofs.lemmas.Bool.{and_parts, and_left, or_parts, agree_below_at, eqb-false}
use Rattle.std.proofs.Math.Seq.{take-append_seam, drop-append_seam}
use Rattle.tptp_token.specs.Spelling.{is_lower, is_upper, is_word_byte, is_lower_word, is_variable_word, marks}
use Rattle.tptp_token.specs.Longest.{longest}
use Rattle.tptp_token.specs.Pieces.{is_blank, fills, starts_with, plain_piece}
use Rattle.tptp_token.specs.Lexemes.{Lexeme}
use Rattle.tptp_token.specs.declared.token.Kind.{Kind}
use Rattle.tptp_token.specs.declared.token.Kind.TheVariants.{Lower, Variable, Quoted, Dollar, Mark}
use Rattle.tptp_token.specs.declared.piece.Piece.TheVariants.{Token}
use Rattle.tptp_token.proofs.AboutLexemes.TestLemmas.{second-false}
use Rattle.tptp_token.proofs.AboutLexemes.LongestLemmas.{longest-none}
use Rattle.tptp_token.proofs.AboutLexemes.WordLemmas.{lower-piece, variable-piece, mark-piece, one_dollar-piece, lower_word-length}
use Rattle.tptp_token.proofs.AboutTexts.FillLemmas.{fills-step, quote-stopped}
use Rattle.tptp_token.proofs.AboutLexemes.QuoteLemmas.{quote-closed}
use Rattle.tptp_token.proofs.AboutTexts.PieceLemmas.{blank-piece, other-piece-of}
use Rattle.tptp_token.proofs.AboutLexemes.LexemeLemmas.{Lexes, lexes-blank, lexes-token}

-- a space
pub lexes-space : (text : List ℕ) (lexemes : List Lexeme) → Lexes text lexemes → Lexes (32 ∷ text) lexemes
lexes-space text lexemes l = lexes-blank 32 text lexemes (sym (blank-piece 32 text refl)) l

-- a byte that may begin a blank or a comment
abbrev pub may_be_space : ℕ → Bool
may_be_space b = is_blank b || ((b == 37) || (b == 47))

pub lexes-plain :
    (kind : Kind) (b : ℕ) (w text : List ℕ) (lexemes : List Lexeme)
    → may_be_space b ≡ false → Token kind (length w + 1) ≡ plain_piece b (w ++ text) → Lexes text lexemes
    → Lexes (b ∷ w ++ text) (record { kind = kind; bytes = b ∷ w } ∷ lexemes)
lexes-plain kind b w text lexemes h e l =
    let first = or_parts (is_blank b) _ h in
    let second = or_parts (b == 37) (b == 47) first.1 in
    lexes-token kind b w text lexemes
    (sym (e
    ∙ other-piece-of b (w ++ text) first.0 (eqb-false b 37 second.0) (and_left (b == 47) (starts_with 42 (w ++ text)) second.1))) l

-- no word goes on here
abbrev pub EndsWord : List ℕ → Type 0
EndsWord [] = Unit {0}
EndsWord (b ∷ bs) = is_word_byte b ≡ false

word-run : (w text : List ℕ) → list_all is_word_byte w ≡ true → EndsWord text → length w ≡ prefix_len is_word_byte (w ++ text)
word-run [] [] h e = refl
word-run [] (b ∷ text) h e = sym (ap (λ t. cond t (1 + prefix_len is_word_byte text) 0) e)
word-run (b ∷ w) text h e =
    let parts = and_parts (is_word_byte b) (list_all is_word_byte w) h in
    let long : length (b ∷ w) ≡ 1 + length w = omega arith in
    long
    ∙ ap (λ n. 1 + n) (word-run w text parts.1 e)
    ∙ sym (ap (λ t. cond t (1 + prefix_len is_word_byte (w ++ text)) 0) parts.0)

lower-small : (b : ℕ) → is_lower b ≡ true → b < 256
lower-small b h = let parts = and_parts (nat_le 97 b) (nat_le b 122) h in omega (arith, leb-true b 122 parts.1)

upper-small : (b : ℕ) → is_upper b ≡ true → b < 256
upper-small b h = let parts = and_parts (nat_le 65 b) (nat_le b 90) h in omega (arith, leb-true b 90 parts.1)

lower-no_space : (b : ℕ) → is_lower b ≡ true → may_be_space b ≡ false
lower-no_space b h =
    second-false (is_lower b) (may_be_space b)
    (agree_below_at (λ x. is_lower x && may_be_space x) (λ x. false) 256 b refl (lower-small b h)) h

upper-no_space : (b : ℕ) → is_upper b ≡ true → may_be_space b ≡ false
upper-no_space b h =
    second-false (is_upper b) (may_be_space b)
    (agree_below_at (λ x. is_upper x && may_be_space x) (λ x. false) 256 b refl (upper-small b h)) h

pub lexes-lower :
    (w text : List ℕ) (lexemes : List Lexeme)
    → is_lower_word w ≡ true → EndsWord text → Lexes text lexemes → Lexes (w ++ text) (record { kind = Lower; bytes = w } ∷ lexemes)
lexes-lower [] text lexemes h e l = absurd (let t : false ≡ true = h in cc)
lexes-lower (b ∷ w) text lexemes h e l =
    let parts = and_parts (is_lower b) (list_all is_word_byte w) h in
    lexes-plain Lower b w text lexemes (lower-no_space b parts.0)
    (lower-piece b (w ++ text) (length w) (lower-small b parts.0) parts.0 (word-run w text parts.1 e)) l

pub lexes-variable :
    (w text : List ℕ) (lexemes : List Lexeme)
    → is_variable_word w ≡ true → EndsWord text → Lexes text lexemes
    → Lexes (w ++ text) (record { kind = Variable; bytes = w } ∷ lexemes)
lexes-variable [] text lexemes h e l = absurd (let t : false ≡ true = h in cc)
lexes-variable (b ∷ w) text lexemes h e l =
    let parts = and_parts (is_upper b) (list_all is_word_byte w) h in
    lexes-plain Variable b w text lexemes (upper-no_space b parts.0)
    (variable-piece b (w ++ text) (length w) (upper-small b parts.0) parts.0 (word-run w text parts.1 e)) l

-- `$` and a lower word
pub lexes-dollar :
    (b : ℕ) (w text : List ℕ) (lexemes : List Lexeme)
    → is_lower_word (b ∷ w) ≡ true → (b == 36) ≡ false → EndsWord text → Lexes text lexemes
    → Lexes (36 ∷ b ∷ w ++ text) (record { kind = Dollar; bytes = 36 ∷ b ∷ w } ∷ lexemes)
lexes-dollar b w text lexemes h n e l =
    let parts = and_parts (is_lower b) (list_all is_word_byte w) h in
    let long : length (b ∷ w) ≡ length w + 1 = omega arith in
    lexes-plain Dollar 36 (b ∷ w) text lexemes dollar
    (one_dollar-piece (b ∷ w ++ text) (length (b ∷ w)) (ap (λ t. t && true) n)
    (long ∙ lower_word-length b (w ++ text) (length w) parts.0 (word-run w text parts.1 e)) (omega arith)) l
  where
    dollar : may_be_space 36 ≡ false
    dollar = refl

pub lexes-mark :
    (b : ℕ) (text : List ℕ) (lexemes : List Lexeme)
    → b < 256 → list_any (λ sign. b == sign) marks ≡ true → Lexes text lexemes
    → Lexes (b ∷ text) (record { kind = Mark; bytes = b ∷ [] } ∷ lexemes)
lexes-mark b text lexemes small h l =
    lexes-plain Mark b [] text lexemes
    (second-false (list_any (λ sign. b == sign) marks) (may_be_space b)
    (agree_below_at (λ x. list_any (λ sign. x == sign) marks && may_be_space x) (λ x. false) 256 b refl small) h)
    (mark-piece b text small h) l

pub fills-whole :
    (inside text : List ℕ) → fills 39 inside ≡ true → length inside ≡ longest (fills 39) (inside ++ 39 ∷ text)
fills-whole inside text h =
    let within : length inside ≤ length (inside ++ 39 ∷ text) = omega (arith, length-append inside (39 ∷ text)) in
    let more : longest (fills 39) (39 ∷ text) ≡ 0 = longest-none (fills 39) (39 ∷ text) (quote-stopped 39 (39 ∷ text) 39 text refl refl) in
    let e =
    fills-step 39 (inside ++ 39 ∷ text) (length inside) within
    (ap (fills 39) (take-append_seam inside (39 ∷ text)) ∙ h) in
    omega (arith, e, more, ap (longest (fills 39)) (drop-append_seam inside (39 ∷ text)))

-- a quoted word
pub lexes-quoted :
    (inside text : List ℕ) (lexemes : List Lexeme)
    → fills 39 inside ≡ true → 0 < length inside → Lexes text lexemes
    → Lexes (39 ∷ inside ++ 39 ∷ text) (record { kind = Quoted; bytes = 39 ∷ inside ++ 39 ∷ [] } ∷ lexemes)
lexes-quoted inside text lexemes h some l =
    subst (λ us. Lexes (39 ∷ us) (record { kind = Quoted; bytes = 39 ∷ inside ++ 39 ∷ [] } ∷ lexemes)) (append_assoc inside (39 ∷ []) text)
    (lexes-plain Quoted 39 (inside ++ 39 ∷ []) text lexemes quote
    (ap (Token Quoted) long
    ∙ quote-closed Quoted 39 (inside ++ 39 ∷ text) (39 ∷ text) (length inside) refl (fills-whole inside text h)
    (sym (drop-append_seam inside (39 ∷ text))) refl (inl some)
    ∙ ap (plain_piece 39) (sym (append_assoc inside (39 ∷ []) text))) l)
  where
    quote : may_be_space 39 ≡ false
    quote = refl

    long : length (inside ++ 39 ∷ []) + 1 ≡ length inside + 2
    long = omega (arith, length-append inside (39 ∷ []))
