-- The dropped conclusions of a batch, as they are known by their hashes.
use Rattle.std.specs.Prelude.{◌≡◌, ℕ, cond, List, [], ◌∷◌, Option, None, Some, nat_eq, option_and_then, if◌then◌else◌}
use Rattle.indexmap.specs.IndexMap.{get}
use Rattle.fol_base.specs.Clause.{TreeLiteral, TreeClause, clause_eq}
use Rattle.fol_base.specs.Literal.{clause_of}
use Rattle.fol_base.specs.declared.clause.Clause.{Clause}
use Rattle.term_bank.specs.Hash.{tree_hash}
use Rattle.bank_clause.specs.declared.member.Member.{Member}
use Rattle.demodulate.specs.Simplified.{IsSimplified}
use Rattle.demodulate.specs.declared.simplifying.Simplified.{Simplified}
use Rattle.demodulate.specs.declared.simplifying.Simplified.TheVariants as outcome
use Rattle.pool_history.specs.declared.batch.Redundancy.{Redundancy}
use Rattle.pool_history.specs.declared.batch.Redundancy.TheVariants.{Tautology, Subsumed}
use Rattle.given_work.specs.declared.dropped.Dropped.{Dropped}
use Rattle.given_work.specs.declared.dropped.DroppedConclusions.{DroppedConclusions}

-- from an earlier hash, by the terms of literals from left to right
abbrev pub literals_hash : ℕ → List TreeLiteral → ℕ
literals_hash hash [] = hash
literals_hash hash (l ∷ ls) = literals_hash (tree_hash (tree_hash hash l.left) l.right) ls

-- the cause of a dropped conclusion that is this clause
abbrev pub cause_if_same : TreeClause → Dropped → Option Redundancy
cause_if_same c d = if clause_eq c (clause_of d.clause) then Some d.cause else None

-- why an equal conclusion was dropped, if the one that is known by the hash is equal
abbrev pub cause_of : DroppedConclusions → TreeClause → Option Redundancy
cause_of dropped c = option_and_then (cause_if_same c) (get nat_eq dropped.known (literals_hash 0 c.literals))

-- a conclusion is known with its cause, and the others by other hashes as before
abbrev pub Knows : Clause → Redundancy → DroppedConclusions → DroppedConclusions → Type 0
Knows clause cause before now =
    (hash : ℕ)
    → get nat_eq now.known hash
    ≡ cond (nat_eq (literals_hash 0 (clause_of clause).literals) hash) (Some (record { clause = clause; cause = cause })) (get nat_eq before.known hash)

-- what simplifying told of a conclusion that is dropped
abbrev pub outcome_by : Redundancy → Simplified
outcome_by Tautology = outcome.Tautology
outcome_by (Subsumed n) = outcome.Subsumed n

-- each that is known was dropped rightly, beside the clauses of some sets
abbrev pub AreDropped : List Member → List Member → List Member → DroppedConclusions → Type 0
AreDropped es us ms dropped =
    (hash : ℕ) (d : Dropped) → get nat_eq dropped.known hash ≡ Some d → IsSimplified es us ms None (clause_of d.clause) (outcome_by d.cause)
