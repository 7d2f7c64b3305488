-- What the tests of tokens say.
use Rattle.std.proofs.Common.{◌≡◌, ◌⊎◌, inl, inr, ℕ, Bool, true, false, ◌==◌, ◌||◌, List, [], ◌∷◌, codes, refl, ap₂, sym, bytes_eq}
use Rattle.std.specs.Prelude.{if◌then◌else◌}
use Rattle.std.specs.List.{list_any}
use Rattle.std.proofs.lemmas.Bool.{and_parts}
use Rattle.std.proofs.lemmas.Slice.Eq.{bytes_eq-Decides}
use Rattle.tptp_token.specs.Spelling.{is_one_of}
use Rattle.tptp_token.specs.Lexemes.{Lexeme, lexeme, kind_place, is_lexeme, is_mark, is_connective}
use Rattle.tptp_token.specs.declared.token.Kind.{Kind}
use Rattle.tptp_token.specs.declared.token.Kind.TheVariants.{Lower, Variable, Quoted, Distinct, Dollar, Number, Connective, Mark, Other}
use Rattle.tptp_tree.specs.Formula.{BinaryConnective, implies, implied, equivalent, different, nor, nand}
use Rattle.tptp_tree.specs.Spelling.{connective_lexeme}
use Rattle.tptp_reader.specs.Machine.{Step, is_binary_connective, is_truth_word}

-- both ways of a test
pub choose : (P : Step → Type 0) (b : Bool) (x y : Step) → (b ≡ true → P x) → (b ≡ false → P y) → P (if b then x else y)
choose P true x y h k = h refl
choose P false x y h k = k refl

places-same : (k : Kind) → (j : Kind) → (kind_place k == kind_place j) ≡ true → k ≡ j
places-same Lower Lower e = refl
places-same Variable Variable e = refl
places-same Quoted Quoted e = refl
places-same Distinct Distinct e = refl
places-same Dollar Dollar e = refl
places-same Number Number e = refl
places-same Connective Connective e = refl
places-same Mark Mark e = refl
places-same Other Other e = refl
places-same k j e = absurd (let t : false ≡ true = e in cc)

pub lexeme-same : (kind : Kind) (bytes : List ℕ) (t : Lexeme) → is_lexeme kind bytes t ≡ true → t ≡ lexeme kind bytes
lexeme-same kind bytes t h =
    let parts = and_parts (kind_place kind == kind_place t.kind) (bytes_eq bytes t.bytes) h in
    ap₂ lexeme (sym (places-same kind t.kind parts.0)) (sym ((bytes_eq-Decides bytes t.bytes).0 parts.1))

pub mark-same : (bytes : List ℕ) (t : Lexeme) → is_mark bytes t ≡ true → t ≡ lexeme Mark bytes
mark-same bytes t h = lexeme-same Mark bytes t h

pub connective-same : (bytes : List ℕ) (t : Lexeme) → is_connective bytes t ≡ true → t ≡ lexeme Connective bytes
connective-same bytes t h = lexeme-same Connective bytes t h

-- one of some texts
pub one-more :
    (bytes text : List ℕ) (others : List (List ℕ)) (P : Type 0)
    → (bytes ≡ text → P) → (is_one_of others bytes ≡ true → P) → is_one_of (text ∷ others) bytes ≡ true → P
one-more bytes text others P first more h = by (bytes_eq bytes text) refl h
  where
    by : (b : Bool) → bytes_eq bytes text ≡ b → (b || list_any (bytes_eq bytes) others) ≡ true → P
    by true e k = first ((bytes_eq-Decides bytes text).0 e)
    by false e k = more k

pub none : (bytes : List ℕ) (P : Type 0) → is_one_of [] bytes ≡ true → P
none bytes P h = absurd (let t : false ≡ true = h in cc)

pub binary-same : (t : Lexeme) → is_binary_connective t ≡ true → (c : BinaryConnective) × (t ≡ connective_lexeme c)
binary-same t h =
    let parts = and_parts (kind_place t.kind == kind_place Connective) _ h in
    let same : (bytes : List ℕ) → t.bytes ≡ bytes → t ≡ lexeme Connective bytes = λ bytes e. ap₂ lexeme (places-same t.kind Connective parts.0) e in
    one-more t.bytes (codes "=>") (codes "<=" ∷ codes "<=>" ∷ codes "<~>" ∷ codes "~|" ∷ codes "~&" ∷ []) _ (λ e. (implies, same (codes "=>") e))
    (one-more t.bytes (codes "<=") (codes "<=>" ∷ codes "<~>" ∷ codes "~|" ∷ codes "~&" ∷ []) _ (λ e. (implied, same (codes "<=") e))
    (one-more t.bytes (codes "<=>") (codes "<~>" ∷ codes "~|" ∷ codes "~&" ∷ []) _ (λ e. (equivalent, same (codes "<=>") e))
    (one-more t.bytes (codes "<~>") (codes "~|" ∷ codes "~&" ∷ []) _ (λ e. (different, same (codes "<~>") e))
    (one-more t.bytes (codes "~|") (codes "~&" ∷ []) _ (λ e. (nor, same (codes "~|") e))
    (one-more t.bytes (codes "~&") [] _ (λ e. (nand, same (codes "~&") e)) (none t.bytes _)))))) parts.1

-- `$true` or `$false`
pub truth-same : (bytes : List ℕ) → is_truth_word bytes ≡ true → (bytes ≡ codes "$true") ⊎ (bytes ≡ codes "$false")
truth-same bytes h =
    one-more bytes (codes "$true") (codes "$false" ∷ []) _ (λ e. inl e)
    (one-more bytes (codes "$false") [] _ (λ e. inr e) (none bytes _)) h
