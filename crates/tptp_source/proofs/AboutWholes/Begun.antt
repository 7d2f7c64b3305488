-- The token that begins a part, by what it begins.
use Rattle.std.proofs.Common.{◌≡◌, ℕ, Bool, true, false, List, codes, bytes_eq, refl, ap, subst}
use Rattle.std.specs.Prelude.{⊤, if◌then◌else◌}
use Rattle.std.proofs.lemmas.Slice.Eq.{bytes_eq-Decides}
use Rattle.tptp_token.specs.Words.{word_of}
use Rattle.tptp_token.specs.Lexemes.{Lexeme, lexeme, word_lexeme}
use Rattle.tptp_token.specs.declared.token.Kind.{Kind}
use Rattle.tptp_token.specs.declared.token.Kind.TheVariants.{Lower, Variable, Quoted, Distinct, Dollar, Number, Connective, Mark, Other}
use Rattle.tptp_source.specs.declared.sign.NumberSign.{NumberSign}
use Rattle.tptp_source.specs.declared.sign.NumberSign.TheVariants.{Unsigned, Plus, Minus}
use Rattle.tptp_source.specs.declared.beginning.Beginning.{Beginning}
use Rattle.tptp_source.specs.declared.beginning.Beginning.TheVariants.{Variable as VariableFirst, Word as WordFirst, Dollar as DollarFirst, Number as NumberFirst, Sign as SignFirst, Distinct as DistinctFirst, Tilde, Bracket, Nothing}
use Rattle.tptp_source.specs.Machine.{beginning_by, beginning_of}

abbrev pub IsSign : NumberSign → Lexeme → Type 0
IsSign Unsigned l = ⊥
IsSign Plus l = l ≡ lexeme Other (codes "+")
IsSign Minus l = l ≡ lexeme Other (codes "-")

abbrev pub Begins : Beginning → Lexeme → Type 0
Begins VariableFirst l = l ≡ lexeme Variable l.bytes
Begins WordFirst l = l ≡ word_lexeme (word_of l.kind l.bytes)
Begins DollarFirst l = l ≡ lexeme Dollar l.bytes
Begins NumberFirst l = l ≡ lexeme Number l.bytes
Begins (SignFirst sign) l = IsSign sign l
Begins DistinctFirst l = l ≡ lexeme Distinct l.bytes
Begins Tilde l = l ≡ lexeme Connective (codes "~")
Begins Bracket l = l ≡ lexeme Mark (codes "[")
Begins Nothing l = ⊤

-- both ways of a test of bytes
tested :
    (P : Beginning → Type 0) (bytes text : List ℕ) (x y : Beginning)
    → (bytes ≡ text → P x) → P y → P (if bytes_eq bytes text then x else y)
tested P bytes text x y h k = by (bytes_eq bytes text) refl
  where
    by : (b : Bool) → bytes_eq bytes text ≡ b → P (if b then x else y)
    by true e = h ((bytes_eq-Decides bytes text).0 e)
    by false e = k

begins-by : (k : Kind) (bytes : List ℕ) → Begins (beginning_by k bytes) (lexeme k bytes)
begins-by Lower bytes = refl
begins-by Variable bytes = refl
begins-by Quoted bytes = refl
begins-by Distinct bytes = refl
begins-by Dollar bytes = refl
begins-by Number bytes = refl
begins-by Connective bytes =
    tested (λ (b : Beginning). Begins b (lexeme Connective bytes)) bytes (codes "~") Tilde Nothing (λ e. ap (lexeme Connective) e) tt
begins-by Mark bytes =
    tested (λ (b : Beginning). Begins b (lexeme Mark bytes)) bytes (codes "[") Bracket Nothing (λ e. ap (lexeme Mark) e) tt
begins-by Other bytes =
    tested (λ (b : Beginning). Begins b (lexeme Other bytes)) bytes (codes "+") (SignFirst Plus)
    (if bytes_eq bytes (codes "-") then SignFirst Minus else Nothing) (λ e. ap (lexeme Other) e)
    (tested (λ (b : Beginning). Begins b (lexeme Other bytes)) bytes (codes "-") (SignFirst Minus) Nothing (λ e. ap (lexeme Other) e) tt)

pub begun : (l : Lexeme) (b : Beginning) → beginning_of l ≡ b → Begins b l
begun l b e = subst (λ (x : Beginning). Begins x l) e (begins-by l.kind l.bytes)
