-- The tokens of a text, one by one.
use Rattle.std.proofs.Common.{◌≡◌, ℕ, suc, ◌+◌, ◌<◌, List, ◌∷◌, length, drop, map, get_or, ap, sym, ◌∙◌, add-one, drop-cons}
use Rattle.std.proofs.lemmas.List.{drop-map}
use Rattle.tptp_token.specs.Lexemes.{Lexeme, lexeme_at, lexemes_of}
use Rattle.tptp_token.specs.declared.token.Token.{Token}

pub next-token :
    (text : List ℕ) (tokens : List Token) (at : ℕ) (l : Lexeme) (t d : Token)
    → at < length tokens → t ≡ get_or tokens at d → l ≡ lexeme_at text t
    → drop at (lexemes_of text tokens) ≡ l ∷ drop (at + 1) (lexemes_of text tokens)
next-token text tokens at l t d h e g =
    let f : Token → Lexeme = lexeme_at text in
    drop-map f at tokens ∙ ap (map f) (drop-cons tokens at d h)
    ∙ ap (λ u. f u ∷ map f (drop (suc at) tokens)) (sym e)
    ∙ ap (λ us. f t ∷ us) (sym (drop-map f (suc at) tokens))
    ∙ ap (λ n. f t ∷ drop n (lexemes_of text tokens)) (sym (add-one at))
    ∙ ap (λ u. u ∷ drop (at + 1) (lexemes_of text tokens)) (sym g)
