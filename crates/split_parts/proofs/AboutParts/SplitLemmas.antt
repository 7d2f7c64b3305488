-- That components meet the condition of a split.
use Rattle.std.proofs.Common.{◌≡◌, ℕ, true, false, ◌&&◌, ◌==◌, List, [], ◌∷◌, length, map, ap, sym, ◌∙◌, arith}
use Rattle.std.specs.Prelude.{not, Option}
use Rattle.std.specs.List.{list_all}
use Rattle.std.proofs.lemmas.Bool.{and_parts, and_from, eqb-true, ne_eqb, not_from_false, true≢false}
use Rattle.fol_base.specs.Clause.{TreeLiteral}
use Rattle.kernel_steps.specs.Parents.{Parent}
use Rattle.kernel_steps.specs.Split.{has_all_below, is_part, share_out, literals_at, share_no_variables, are_defined, can_split}
use Rattle.split_parts.specs.Components.{IsComponents}

some-part : (n : ℕ) (parts : List (List ℕ)) → not (n == 0) ≡ true → share_out n parts ≡ true → not (length parts == 0) ≡ true
some-part n [] some shared =
    let count : 0 ≡ n = eqb-true 0 n (and_parts (0 == n) (has_all_below n []) shared).0 in
    absurd (true≢false (sym some ∙ not_zero count))
  where
    not_zero : 0 ≡ n → not (n == 0) ≡ false
    not_zero e = ap (λ m. not (m == 0)) (sym e)
some-part n (part ∷ parts) some shared =
    not_from_false (length (part ∷ parts) == 0) (ne_eqb (length (part ∷ parts)) 0 (λ e. omega (arith, e)))

pub components-split :
    (ls : List TreeLiteral) (os : List (Option Parent)) (parts : List (List ℕ))
    → not (length ls == 0) ≡ true → IsComponents ls parts → are_defined os (map (literals_at ls) parts) ≡ true → can_split ls os parts ≡ true
components-split ls os parts some is defined =
    let lss : List (List TreeLiteral) = map (literals_at ls) parts in
    let last : (share_no_variables lss && are_defined os lss) ≡ true = and_from (share_no_variables lss) (are_defined os lss) is.apart defined in
    let later : (share_out (length ls) parts && (share_no_variables lss && are_defined os lss)) ≡ true =
    and_from (share_out (length ls) parts) (share_no_variables lss && are_defined os lss) is.shared_out last in
    and_from (not (length parts == 0)) (list_all is_part parts && (share_out (length ls) parts && (share_no_variables lss && are_defined os lss)))
    (some-part (length ls) parts some is.shared_out)
    (and_from (list_all is_part parts) (share_out (length ls) parts && (share_no_variables lss && are_defined os lss)) is.are_parts later)
