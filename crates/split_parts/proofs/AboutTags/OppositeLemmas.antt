-- A ground literal's complement in a table.
use Rattle.std.proofs.Common.{◌≡◌, ℕ, true, List, [], ◌∷◌, map, get_or, ap, sym, ◌∙◌, Option, Some, None}
use Rattle.std.specs.Prelude.{position, IfSome}
use Rattle.std.proofs.lemmas.Bool.{true≢false}
use Rattle.std.proofs.lemmas.List.{get_or-map}
use Rattle.std.proofs.lemmas.List.Quantifiers.{position-Some}
use Rattle.fol_base.specs.Clause.{TreeLiteral, literals_eq}
use Rattle.fol_base.specs.Literal.{literal_of}
use Rattle.fol_base.specs.declared.clause.Literal.{Literal}
use Rattle.kernel_steps.specs.Derivation.{complement}
use Rattle.kernel_steps.proofs.AboutSplits.SplitTests.{literals_eq-says}
use Rattle.split_parts.specs.declared.key.PartKey.{PartKey}
use Rattle.split_parts.specs.PartKeys.{key_part}
use Rattle.split_parts.specs.SignedNames.{is_ground_unit}

-- a ground literal that is one part is its first literal
pub one-literal :
    (ls : List Literal) (l : Literal) → is_ground_unit (map literal_of ls) ≡ true → l ≡ get_or ls 0 l
    → complement (literal_of l) ∷ [] ≡ map complement (map literal_of ls)
one-literal [] l unit is = absurd (true≢false (sym unit))
one-literal (k ∷ []) l unit is = ap (λ m. complement (literal_of m) ∷ []) is
one-literal (k ∷ m ∷ ls) l unit is = absurd (true≢false (sym unit))

-- the part that a look-up finds
pub found-part :
    (x : List TreeLiteral) (keys : List PartKey) (r : Option ℕ)
    → r ≡ position (λ k. literals_eq x (key_part k)) keys → IfSome r (λ tag. get_or (map key_part keys) tag [] ≡ x)
found-part x keys None e = tt
found-part x keys (Some tag) e =
    let any : PartKey = record { literals = [] } in
    let found = position-Some (λ k. literals_eq x (key_part k)) keys tag any (sym e) in
    get_or-map key_part keys tag any [] found.0 ∙ sym (literals_eq-says x (key_part (get_or keys tag any)) found.1)
