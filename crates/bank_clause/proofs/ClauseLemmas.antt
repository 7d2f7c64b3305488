-- A clause whose names are assertions is the same after its names are stripped of their signs.
use Rattle.std.proofs.Common.{◌≡◌, ℕ, false, List, [], ◌∷◌, map, refl, sym, ap, ◌∙◌, subst, ◌<◌, arith}
use Rattle.std.proofs.lemmas.List.Elements.{All-nil, All-cons, All-head, All-tail}
use Rattle.std.specs.List.{All}
use Rattle.std.specs.List.Sorted.{IsStrictlyIncreasing}
use Rattle.plain_types.specs.declared.sequence.NameLit.{NameLit}
use Rattle.plain_types.specs.Names.{negative_of}
use Rattle.fol_base.specs.Clause.{TreeLiteral, TreeClause, clause_size, clause_variables}
use Rattle.fol_base.specs.declared.limits.TheConstants.{SIZE_LIMIT}
use Rattle.fol_base.specs.Canonical.{canonical_clause, IsCanonical, bound_of}
use Rattle.fol_base.proofs.AboutCanonical.CanonicalLemmas.{canonical_forms_are_canonical}
use Rattle.fol_base.specs.Literal.{literal_of, clause_of}
use Rattle.fol_base.specs.declared.clause.Literal.{Literal}
use Rattle.fol_base.specs.declared.clause.Clause.{Clause}
use Rattle.term_bank.specs.declared.literal.BankLit.{BankLit}
use Rattle.bank_clause.specs.Parts.{clause_over, IsClauseOver}
use Rattle.bank_clause.specs.Clause.{AreAssertions}
use Rattle.bank_clause.proofs.BoundLemmas.{few-variables}

pub assertions-back : (ns : List NameLit) → All (λ n. n.positive ≡ false) ns → map negative_of (map (λ n. n.name) ns) ≡ ns
assertions-back [] negative = refl
assertions-back (n ∷ ns) negative =
    let here : n.positive ≡ false = All-head (λ m. m.positive ≡ false) n ns negative in
    let rest : map negative_of (map (λ m. m.name) ns) ≡ ns = assertions-back ns (All-tail (λ m. m.positive ≡ false) n ns negative) in
    (λ j. record { positive = sym here j; name = n.name } ∷ rest j)

-- rising numbers become assertions
pub assertions-are : (ns : List ℕ) → IsStrictlyIncreasing ns → AreAssertions (map negative_of ns)
assertions-are ns rising = record {
  negative = all ns;
  rise = subst IsStrictlyIncreasing (sym (bare ns)) rising;
}
  where
    all : (ms : List ℕ) → All (λ n. n.positive ≡ false) (map negative_of ms)
    all [] = All-nil (λ n. n.positive ≡ false)
    all (m ∷ ms) = All-cons (λ n. n.positive ≡ false) (negative_of m) (map negative_of ms) refl (all ms)

    bare : (ms : List ℕ) → map (λ n. n.name) (map negative_of ms) ≡ ms
    bare [] = refl
    bare (m ∷ ms) = ap (λ ks. m ∷ ks) (bare ms)

-- the clause of the literals and the bare names
pub clause-back :
    (c : Clause) (literals : List TreeLiteral) (lent : List Literal) (names : List ℕ) (signed : List NameLit)
    → AreAssertions c.names → literals ≡ map literal_of lent → lent ≡ c.literals
    → names ≡ map (λ n. n.name) signed → signed ≡ c.names
    → record { literals = literals; names = map negative_of names } ≡ clause_of c
clause-back c literals lent names signed asserted same of_literals bare of_names =
    let all : literals ≡ map literal_of c.literals = same ∙ ap (map literal_of) of_literals in
    let numbers : names ≡ map (λ n. n.name) c.names = bare ∙ ap (map (λ n. n.name)) of_names in
    let back : map negative_of names ≡ c.names = ap (map negative_of) numbers ∙ assertions-back c.names asserted.negative in
    (λ j. record { literals = all j; names = back j })

-- what is right of a clause is right of the literals and names that stand for it
pub right-of-clause :
    (c : TreeClause) (literals : List BankLit) (names : List ℕ) (symbols count : ℕ)
    → clause_over literals names ≡ c → IsStrictlyIncreasing names → IsCanonical c → symbols ≡ clause_size c → symbols < SIZE_LIMIT
    → count ≡ bound_of (clause_variables c) → IsClauseOver literals names symbols count
right-of-clause c literals names symbols count same rise canonical size limit variables = record {
  rise = rise;
  canonical = subst IsCanonical (sym same) canonical;
  size = size ∙ ap clause_size (sym same);
  limit = limit;
  variables = variables ∙ ap (λ d. bound_of (clause_variables d)) (sym same);
  few = (let few = few-variables c canonical in omega arith);
}

-- what is the canonical form of a clause is canonical
pub canonical-form : (made c : TreeClause) → made ≡ canonical_clause c → IsCanonical made
canonical-form made c e = subst IsCanonical (sym e) (canonical_forms_are_canonical c)
