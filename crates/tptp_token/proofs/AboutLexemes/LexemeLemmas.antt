-- The tokens of a text by their kinds and bytes, and of texts that stand one behind the other.
use Rattle.std.proofs.Common.{◌≡◌, ℕ, zero, suc, ◌+◌, ◌-◌, None, Some, Bool, true, false, ◌&&◌, ◌||◌, ◌==◌, List, [], ◌∷◌, ◌++◌, map, take, drop, length, refl, ap, ap₂, sym, ◌∙◌, subst₂, arith, append_assoc, length-append}
use Rattle.std.specs.Prelude.{if◌then◌else◌}
use Rattle.std.specs.List.{list_any, AllByRecursion}
use Rattle.std.proofs.Math.Seq.{take-append_seam, drop-append_seam}
use Rattle.tptp_token.specs.Spelling.{spells}
use Rattle.tptp_token.specs.Longest.{longest}
use Rattle.tptp_token.specs.Kinds.{all_kinds, first_kind, is_token, kind_of}
use Rattle.tptp_token.specs.Pieces.{is_blank, starts_with, token_piece, plain_piece, quote_fault, is_quote, filled_length, block_end, block_piece, line_length, piece_of}
use Rattle.tptp_token.specs.Lexing.{with_piece, piece_length, lexed_from, lexed_of}
use Rattle.tptp_token.specs.Lexemes.{Lexeme, lexeme_at, IsLexedAs}
use Rattle.tptp_token.specs.declared.token.Kind.{Kind}
use Rattle.tptp_token.specs.declared.token.Token.{Token as TokenRecord}
use Rattle.tptp_token.specs.declared.token.Lexed.{Lexed}
use Rattle.tptp_token.specs.declared.piece.Piece.{Piece}
use Rattle.tptp_token.specs.declared.piece.Piece.TheVariants.{Token, Space, Bad, Unclosed}
use Rattle.tptp_token.proofs.AboutLexemes.LongestLemmas.{longest-passes}
use Rattle.tptp_token.proofs.AboutTexts.PieceLemmas.{behind_piece, at_piece}

-- ---- tokens are spelled

-- the kind of what is a token is spelled
first_kind-spelled :
    (kinds : List Kind) (bytes : List ℕ)
    → list_any (λ kind. spells kind bytes) kinds ≡ true
    → spells (first_kind kinds bytes) bytes ≡ true
first_kind-spelled [] bytes h = absurd (let t : false ≡ true = h in cc)
first_kind-spelled (kind ∷ kinds) bytes h = by (first_kind-spelled kinds bytes) (spells kind bytes) refl h
  where
    by :
        (list_any (λ k. spells k bytes) kinds ≡ true → spells (first_kind kinds bytes) bytes ≡ true)
        → (t : Bool) → spells kind bytes ≡ t → (t || list_any (λ k. spells k bytes) kinds) ≡ true
        → spells (if t then kind else first_kind kinds bytes) bytes ≡ true
    by rest true e g = e
    by rest false e g = rest g

pub kind_of-spelled : (bytes : List ℕ) → is_token bytes ≡ true → spells (kind_of bytes) bytes ≡ true
unfolding is_token kind_of
kind_of-spelled bytes h = first_kind-spelled all_kinds bytes h

-- a piece that is a token is spelled
abbrev PieceIsSpelled : List ℕ → Piece → Type 0
PieceIsSpelled bytes (Token kind n) = spells kind (take n bytes) ≡ true
PieceIsSpelled bytes (Space n) = Unit {0}
PieceIsSpelled bytes (Bad offset) = Unit {0}
PieceIsSpelled bytes Unclosed = Unit {0}

choose-piece : (P : Piece → Type 0) (t : Bool) (x y : Piece) → P x → P y → P (if t then x else y)
choose-piece P true x y h k = h
choose-piece P false x y h k = k

piece-spelled : (b : ℕ) (bs : List ℕ) → PieceIsSpelled (b ∷ bs) (piece_of b bs)
unfolding piece_of
piece-spelled b bs =
    choose-piece (PieceIsSpelled (b ∷ bs)) (is_blank b) (Space 1) _ tt
    (choose-piece (PieceIsSpelled (b ∷ bs)) (b == 37) (Space (line_length bs + 1)) _ tt
    (choose-piece (PieceIsSpelled (b ∷ bs)) ((b == 47) && starts_with 42 bs) (block_piece (block_end (drop 1 bs))) (plain_piece b bs)
    (block (block_end (drop 1 bs))) (plain (longest is_token (b ∷ bs)) refl)))
  where
    block : (o : _) → PieceIsSpelled (b ∷ bs) (block_piece o)
    block None = tt
    block (Some n) = tt

    open_or_bad : (t : Bool) (n : ℕ) → PieceIsSpelled (b ∷ bs) (if t then Unclosed else Bad n)
    open_or_bad true n = tt
    open_or_bad false n = tt

    fault : (t : Bool) → PieceIsSpelled (b ∷ bs) (if t then quote_fault bs (filled_length b bs) else Bad 0)
    fault true = open_or_bad _ _
    fault false = tt

    plain : (n : ℕ) → longest is_token (b ∷ bs) ≡ n → PieceIsSpelled (b ∷ bs) (token_piece b bs n)
    plain zero e = fault (is_quote b)
    plain (suc n) e =
        kind_of-spelled (take (suc n) (b ∷ bs))
        (ap (λ k. is_token (take k (b ∷ bs))) (sym e) ∙ longest-passes is_token (b ∷ bs) (omega arith))

-- the bytes of a token that stands behind others
shown : (before : List ℕ) (n b : ℕ) (bs : List ℕ) → take (length before + n - length before) (drop (length before) (before ++ b ∷ bs)) ≡ take n (b ∷ bs)
shown before n b bs =
    let e : length before + n - length before ≡ n = omega arith in
    ap (λ k. take k (drop (length before) (before ++ b ∷ bs))) e ∙ ap (take n) (drop-append_seam before (b ∷ bs))

-- one byte more stands before
moved :
    (before : List ℕ) (b : ℕ) (bs : List ℕ) (skipped : ℕ)
    → AllByRecursion (λ (t : TokenRecord). spells t.kind (lexeme_at (before ++ b ∷ [] ++ bs) t).bytes ≡ true)
    (lexed_from (length (before ++ b ∷ [])) skipped bs).tokens
    → AllByRecursion (λ (t : TokenRecord). spells t.kind (lexeme_at (before ++ b ∷ bs) t).bytes ≡ true)
    (lexed_from (length before + 1) skipped bs).tokens
moved before b bs skipped h =
    let P : ℕ → List ℕ → Type 0 =
    λ p us. AllByRecursion (λ (t : TokenRecord). spells t.kind (lexeme_at us t).bytes ≡ true) (lexed_from p skipped bs).tokens in
    subst₂ P (length-append before (b ∷ [])) (append_assoc before (b ∷ []) bs) h

-- the tokens of what stands behind a text, of which the first bytes may be skipped
spelled-from :
    (before : List ℕ) (skipped : ℕ) (bs : List ℕ)
    → AllByRecursion (λ (t : TokenRecord). spells t.kind (lexeme_at (before ++ bs) t).bytes ≡ true)
    (lexed_from (length before) skipped bs).tokens
unfolding lexed_from
spelled-from before skipped [] = tt
spelled-from before (suc skipped) (b ∷ bs) = moved before b bs skipped (spelled-from (before ++ b ∷ []) skipped bs)
spelled-from before zero (b ∷ bs) =
    with (piece_of b bs) (piece-spelled b bs)
    (moved before b bs (piece_length (piece_of b bs) - 1) (spelled-from (before ++ b ∷ []) (piece_length (piece_of b bs) - 1) bs))
  where
    with :
        (piece : Piece) → PieceIsSpelled (b ∷ bs) piece
        → AllByRecursion (λ (t : TokenRecord). spells t.kind (lexeme_at (before ++ b ∷ bs) t).bytes ≡ true)
        (lexed_from (length before + 1) (piece_length (piece_of b bs) - 1) bs).tokens
        → AllByRecursion (λ (t : TokenRecord). spells t.kind (lexeme_at (before ++ b ∷ bs) t).bytes ≡ true)
        (with_piece (length before) piece (lexed_from (length before + 1) (piece_length (piece_of b bs) - 1) bs)).tokens
    with (Token kind n) h rest = (ap (spells kind) (shown before n b bs) ∙ h, rest)
    with (Space n) h rest = rest
    with (Bad offset) h rest = tt
    with Unclosed h rest = tt

pub tokens-spelled :
    (bytes : List ℕ)
    → AllByRecursion (λ (t : TokenRecord). spells t.kind (lexeme_at bytes t).bytes ≡ true) (lexed_of bytes).tokens
unfolding lexed_of
tokens-spelled bytes = spelled-from [] 0 bytes

-- ---- texts that stand one behind the other

-- behind any bytes, the text has these tokens and no fault
pub record Lexes (text : List ℕ) (lexemes : List Lexeme) : Type 0 where
  pub no_fault : (place : ℕ) → (lexed_from place 0 text).fault ≡ None
  pub tokens : (before : List ℕ) → map (lexeme_at (before ++ text)) (lexed_from (length before) 0 text).tokens ≡ lexemes

pub lexes-whole : (text : List ℕ) (lexemes : List Lexeme) → Lexes text lexemes → IsLexedAs text lexemes
unfolding lexed_of
lexes-whole text lexemes l = record { whole = l.no_fault 0; tokens = l.tokens [] }

pub lexes-nothing : Lexes [] []
unfolding lexed_from
lexes-nothing = record { no_fault = λ place. refl; tokens = λ before. refl }

-- a blank
pub lexes-blank : (b : ℕ) (text : List ℕ) (lexemes : List Lexeme) → piece_of b text ≡ Space 1 → Lexes text lexemes → Lexes (b ∷ text) lexemes
lexes-blank b text lexemes e l =
    record {
      no_fault = λ place. ap (λ (x : Lexed). x.fault) (step place) ∙ l.no_fault (place + 1);
      tokens =
          λ before.
          ap (λ (x : Lexed). map (lexeme_at (before ++ b ∷ text)) x.tokens) (step (length before))
          ∙ ap₂ (λ us p. map (lexeme_at us) (lexed_from p 0 text).tokens) (sym (append_assoc before (b ∷ []) text))
          (sym (length-append before (b ∷ [])))
          ∙ l.tokens (before ++ b ∷ []);
    }
  where
    step : (place : ℕ) → lexed_from place 0 (b ∷ text) ≡ lexed_from (place + 1) 0 text
    step place = at_piece place b text (Space 1) (sym e) ∙ behind_piece place 1 b text (omega arith) (omega arith)

-- a token
pub lexes-token :
    (kind : Kind) (b : ℕ) (w text : List ℕ) (lexemes : List Lexeme)
    → piece_of b (w ++ text) ≡ Token kind (length w + 1) → Lexes text lexemes
    → Lexes (b ∷ w ++ text) (record { kind = kind; bytes = b ∷ w } ∷ lexemes)
lexes-token kind b w text lexemes e l =
    record {
      no_fault = λ place. ap (λ (x : Lexed). x.fault) (step place) ∙ l.no_fault (place + (length w + 1));
      tokens =
          λ before.
          ap (λ (x : Lexed). map (lexeme_at (before ++ (b ∷ w ++ text))) x.tokens) (step (length before))
          ∙ ap₂ (λ t ts. t ∷ ts)
          (ap (λ us. record { kind = kind; bytes = us }) (shown before (length w + 1) b (w ++ text) ∙ front)) (rest before);
    }
  where
    front : take (length w + 1) (b ∷ w ++ text) ≡ b ∷ w
    front =
        let k : length w + 1 ≡ length (b ∷ w) = omega arith in
        ap (λ n. take n (b ∷ w ++ text)) k ∙ take-append_seam (b ∷ w) text

    left : drop (length w + 1) (b ∷ w ++ text) ≡ text
    left =
        let k : length w + 1 ≡ length (b ∷ w) = omega arith in
        ap (λ n. drop n (b ∷ w ++ text)) k ∙ drop-append_seam (b ∷ w) text

    step : (place : ℕ) → lexed_from place 0 (b ∷ w ++ text) ≡ with_piece place (Token kind (length w + 1)) (lexed_from (place + (length w + 1)) 0 text)
    step place =
        at_piece place b (w ++ text) (Token kind (length w + 1)) (sym e)
        ∙ ap (with_piece place (Token kind (length w + 1)))
        (behind_piece place (length w + 1) b (w ++ text) (omega arith) (omega (arith, length-append w text))
        ∙ ap (lexed_from (place + (length w + 1)) 0) left)

    rest :
        (before : List ℕ)
        → map (lexeme_at (before ++ (b ∷ w ++ text))) (lexed_from (length before + (length w + 1)) 0 text).tokens ≡ lexemes
    rest before =
        let k : length before + (length w + 1) ≡ length (before ++ b ∷ w) = omega (arith, length-append before (b ∷ w)) in
        ap₂ (λ us p. map (lexeme_at us) (lexed_from p 0 text).tokens) (sym (append_assoc before (b ∷ w) text)) k
        ∙ l.tokens (before ++ b ∷ w)
