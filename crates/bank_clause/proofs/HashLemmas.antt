-- Clauses that are equal by numbers have one hash.
use Rattle.std.proofs.Common.{◌≡◌, ℕ, true, List, [], ◌∷◌, if◌then◌else◌, ap, ap₂, sym, refl, ◌∙◌}
use Rattle.std.specs.Prelude.{fold, nat_eq}
use Rattle.std.proofs.lemmas.Bool.{and_parts, true≢false}
use lib.Pointwise.{pointwise}
use Rattle.term_bank.specs.Hash.{mixed}
use Rattle.term_bank.specs.Literal.{same_numbers}
use Rattle.term_bank.specs.declared.literal.BankLit.{BankLit}
use Rattle.bank_clause.specs.ClauseHash.{literal_hash, names_hash, EqualClausesHashAlike}
use Rattle.bank_clause.proofs.EqualityLemmas.{same-parts, same-names}

literals-alike : (hash : ℕ) (ls ms : List BankLit) → pointwise same_numbers ls ms ≡ true → fold literal_hash hash ls ≡ fold literal_hash hash ms
literals-alike hash [] [] same = refl
literals-alike hash [] (m ∷ ms) same = absurd (true≢false (sym same))
literals-alike hash (l ∷ ls) [] same = absurd (true≢false (sym same))
literals-alike hash (l ∷ ls) (m ∷ ms) same =
    let both : (same_numbers l m ≡ true) × (pointwise same_numbers ls ms ≡ true) = and_parts (same_numbers l m) (pointwise same_numbers ls ms) same in
    ap (λ k. fold literal_hash k ls) (one both.0) ∙ literals-alike (literal_hash hash m) ls ms both.1
  where
    one : same_numbers l m ≡ true → literal_hash hash l ≡ literal_hash hash m
    one alike =
        let parts = same-parts l m alike in
        λ j. mixed (mixed (mixed hash (if parts.sign j then 1 else 0)) (parts.left j)) (parts.right j)

pub hashes-alike : EqualClausesHashAlike
hashes-alike c d same =
    let both = and_parts (pointwise same_numbers c.literals d.literals) (pointwise nat_eq c.names d.names) same in
    ap₂ names_hash (literals-alike 0 c.literals d.literals both.0) (same-names c.names d.names both.1)
