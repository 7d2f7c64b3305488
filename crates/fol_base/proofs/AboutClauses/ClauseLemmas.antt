-- Facts about literals as they are read from a list.
use Rattle.std.proofs.Common.{◌≡◌, ℕ, ◌<◌, List, length, map, get_or, sym, subst}
use Rattle.std.specs.Prelude.{All}
use Rattle.std.proofs.lemmas.List.{get_or-map, length-map}
use Rattle.fol_base.specs.Clause.{LiteralVariablesBelow}
use Rattle.fol_base.specs.Literal.{literal_of}
use Rattle.fol_base.specs.declared.clause.Literal.{Literal}

-- a literal of a slice has its variables below what bounds those of the list
pub LiteralVariablesBelow-item :
    (n : ℕ) (xs ls : List Literal) (i : ℕ) (x : Literal)
    → xs ≡ ls → i < length xs → x ≡ get_or xs i x
    → All (LiteralVariablesBelow n) (map literal_of ls) → LiteralVariablesBelow n (literal_of x)
LiteralVariablesBelow-item n xs ls i x e h r all =
    let P : List Literal → Type 0 = λ ks. All (LiteralVariablesBelow n) (map literal_of ks) in
    let Q : Literal → Type 0 = λ y. LiteralVariablesBelow n (literal_of y) in
    let long : i < length (map literal_of xs) = rw length-map h in
    let read : LiteralVariablesBelow n (get_or (map literal_of xs) i (literal_of x)) =
    subst P (sym e) all i (literal_of x) long in
    subst Q (sym r) (subst (LiteralVariablesBelow n) (get_or-map literal_of xs i x (literal_of x) h) read)
