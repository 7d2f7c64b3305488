-- What the tests of tokens say.
use Rattle.std.proofs.Common.{◌≡◌, ℕ, true, false, ◌==◌, List, refl, ap₂, sym, bytes_eq}
use Rattle.std.proofs.lemmas.Bool.{and_parts}
use Rattle.std.proofs.lemmas.Slice.Eq.{bytes_eq-Decides}
use Rattle.tptp_token.specs.Lexemes.{Lexeme, lexeme, kind_place, is_mark}
use Rattle.tptp_token.specs.declared.token.Kind.{Kind}
use Rattle.tptp_token.specs.declared.token.Kind.TheVariants.{Lower, Variable, Quoted, Distinct, Dollar, Number, Connective, Mark, Other}

places-same : (k : Kind) → (j : Kind) → (kind_place k == kind_place j) ≡ true → k ≡ j
places-same Lower Lower e = refl
places-same Variable Variable e = refl
places-same Quoted Quoted e = refl
places-same Distinct Distinct e = refl
places-same Dollar Dollar e = refl
places-same Number Number e = refl
places-same Connective Connective e = refl
places-same Mark Mark e = refl
places-same Other Other e = refl
places-same k j e = absurd (let t : false ≡ true = e in cc)

pub mark-same : (bytes : List ℕ) (t : Lexeme) → is_mark bytes t ≡ true → t ≡ lexeme Mark bytes
mark-same bytes t h =
    let parts = and_parts (kind_place Mark == kind_place t.kind) (bytes_eq bytes t.bytes) h in
    ap₂ lexeme (sym (places-same Mark t.kind parts.0)) (sym ((bytes_eq-Decides bytes t.bytes).0 parts.1))
