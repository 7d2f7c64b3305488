-- The parts of a clause in the bank, one after another.
use Rattle.std.proofs.Common.{◌≡◌, suc, List, [], ◌∷◌, ◌++◌, map, length, refl, ap, ap₂, subst, sym}
use Rattle.fol_base.specs.Clause.{TreeLiteral}
use Rattle.term_bank.specs.declared.bank.Bank.{Bank}
use Rattle.term_bank.specs.declared.table.Table.{Table}
use Rattle.split_parts.specs.PartKeys.{key_part}
use Rattle.split_parts.specs.declared.key.PartKey.{PartKey}
use Rattle.pool_core.specs.Parted.{IsInternedPart, AreInternedParts, AreUnasserted}
use Rattle.pool_core.specs.Placing.{KnowsMore}
use Rattle.pool_core.specs.declared.parts.InternedPart.{InternedPart}

-- for a table that knows more
pub learned-parts :
    (bank : Bank) (known learned : Table) (lss : List (List TreeLiteral)) (keys : List PartKey) (xs : List InternedPart)
    → KnowsMore known learned → AreInternedParts bank known lss keys xs → AreInternedParts bank learned lss keys xs
learned-parts bank known learned [] [] [] more are = tt
learned-parts bank known learned (ls ∷ lss) (key ∷ keys) (x ∷ xs) more are = (
  record {
    keyed = are.0.keyed;
    clause = let is = are.0.clause in
        record { some = is.some; same = is.same; hashed = is.hashed; of_bank = is.of_bank; known = more x.clause.literals is.known };
  },
  learned-parts bank known learned lss keys xs more are.1,
)
learned-parts bank known learned [] (key ∷ keys) xs more are = absurd are
learned-parts bank known learned [] [] (x ∷ xs) more are = absurd are
learned-parts bank known learned (ls ∷ lss) [] xs more are = absurd are
learned-parts bank known learned (ls ∷ lss) (key ∷ keys) [] more are = absurd are

joined-part :
    (bank : Bank) (table : Table) (lss : List (List TreeLiteral)) (keys : List PartKey) (xs : List InternedPart)
    (ls : List TreeLiteral) (key : PartKey) (x : InternedPart)
    → AreInternedParts bank table lss keys xs → IsInternedPart bank table ls key x
    → AreInternedParts bank table (lss ++ ls ∷ []) (keys ++ key ∷ []) (xs ++ x ∷ [])
joined-part bank table [] [] [] ls key x are one = (one, tt)
joined-part bank table (ms ∷ lss) (k ∷ keys) (y ∷ ys) ls key x are one = (are.0, joined-part bank table lss keys ys ls key x are.1 one)
joined-part bank table [] (k ∷ keys) ys ls key x are one = absurd are
joined-part bank table [] [] (y ∷ ys) ls key x are one = absurd are
joined-part bank table (ms ∷ lss) [] ys ls key x are one = absurd are
joined-part bank table (ms ∷ lss) (k ∷ keys) [] ls key x are one = absurd are

pub one-more-part :
    (bank : Bank) (known learned : Table) (lss : List (List TreeLiteral)) (keys all : List PartKey) (xs more : List InternedPart)
    (ls : List TreeLiteral) (key : PartKey) (x : InternedPart)
    → KnowsMore known learned → all ≡ keys ++ key ∷ [] → more ≡ xs ++ x ∷ [] → AreInternedParts bank known lss keys xs → IsInternedPart bank learned ls key x
    → AreInternedParts bank learned (lss ++ ls ∷ []) all more
one-more-part bank known learned lss keys all xs more ls key x learn keyed added are one =
    subst (λ (ks : List PartKey). AreInternedParts bank learned (lss ++ ls ∷ []) ks more) (sym keyed)
    (subst (AreInternedParts bank learned (lss ++ ls ∷ []) (keys ++ key ∷ [])) (sym added)
    (joined-part bank learned lss keys xs ls key x (learned-parts bank known learned lss keys xs learn are) one))

-- the clauses alone, and how many there are
pub parts-unasserted :
    (bank : Bank) (table : Table) (lss : List (List TreeLiteral)) (keys : List PartKey) (xs : List InternedPart)
    → AreInternedParts bank table lss keys xs → AreUnasserted bank table lss xs
parts-unasserted bank table [] [] [] are = tt
parts-unasserted bank table (ls ∷ lss) (key ∷ keys) (x ∷ xs) are = (are.0.clause, parts-unasserted bank table lss keys xs are.1)
parts-unasserted bank table [] (key ∷ keys) xs are = absurd are
parts-unasserted bank table [] [] (x ∷ xs) are = absurd are
parts-unasserted bank table (ls ∷ lss) [] xs are = absurd are
parts-unasserted bank table (ls ∷ lss) (key ∷ keys) [] are = absurd are

pub parts-keyed :
    (bank : Bank) (table : Table) (lss : List (List TreeLiteral)) (keys : List PartKey) (xs : List InternedPart)
    → AreInternedParts bank table lss keys xs → map key_part keys ≡ lss
parts-keyed bank table [] [] [] are = refl
parts-keyed bank table (ls ∷ lss) (key ∷ keys) (x ∷ xs) are =
    ap₂ (λ (ms : List TreeLiteral) (mss : List (List TreeLiteral)). ms ∷ mss) are.0.keyed (parts-keyed bank table lss keys xs are.1)
parts-keyed bank table [] (key ∷ keys) xs are = absurd are
parts-keyed bank table [] [] (x ∷ xs) are = absurd are
parts-keyed bank table (ls ∷ lss) [] xs are = absurd are
parts-keyed bank table (ls ∷ lss) (key ∷ keys) [] are = absurd are

pub parts-counted :
    (bank : Bank) (table : Table) (lss : List (List TreeLiteral)) (keys : List PartKey) (xs : List InternedPart)
    → AreInternedParts bank table lss keys xs → (length keys ≡ length lss) × (length xs ≡ length lss)
parts-counted bank table [] [] [] are = (refl, refl)
parts-counted bank table (ls ∷ lss) (key ∷ keys) (x ∷ xs) are =
    let rest = parts-counted bank table lss keys xs are.1 in (ap suc rest.0, ap suc rest.1)
parts-counted bank table [] (key ∷ keys) xs are = absurd are
parts-counted bank table [] [] (x ∷ xs) are = absurd are
parts-counted bank table (ls ∷ lss) [] xs are = absurd are
parts-counted bank table (ls ∷ lss) (key ∷ keys) [] are = absurd are
