-- Clauses that are looked at one after another for a variable.
use Rattle.std.proofs.Common.{◌≡◌, ℕ, ◌+◌, ◌<◌, ◌≤◌, Bool, true, false, List, [], map, take, length, get_or, ap, sym, subst, ◌∙◌, arith}
use Rattle.std.proofs.lemmas.List.{get_or-map}
use Rattle.fol_base.specs.Ground.{is_ground_clause}
use Rattle.fol_base.specs.Literal.{literal_of}
use Rattle.fol_base.specs.declared.clause.Literal.{Literal}
use Rattle.fol_base.specs.declared.clause.Clause.{Clause}
use Rattle.list_lemmas.proofs.Lists.{length-mapped}
use Rattle.congruence.proofs.AboutClasses.PlaceLemmas.{all-next, all-whole}
use Rattle.herbrand_list.specs.Refuted.{ground_clauses, are_ground_clauses}

-- what a test of the literals that were read says
pub clause-tested :
    (list : List Clause) (k : ℕ) (c : Clause) (read : List Literal) (b : Bool) → k < length list → c ≡ get_or list k c → read ≡ c.literals
    → b ≡ is_ground_clause (map literal_of read) → is_ground_clause (get_or (ground_clauses list) k []) ≡ b
clause-tested list k c read b low at is test =
    ap is_ground_clause (get_or-map (λ (d : Clause). map literal_of d.literals) list k c [] low)
    ∙ ap (λ (d : Clause). is_ground_clause (map literal_of d.literals)) (sym at)
    ∙ ap (λ (ls : List Literal). is_ground_clause (map literal_of ls)) (sym is)
    ∙ sym test

pub open-found :
    (list clauses : List Clause) (k : ℕ) (c : Clause) (read : List Literal) (b : Bool) → clauses ≡ list → k < length clauses
    → c ≡ get_or clauses k c → read ≡ c.literals → b ≡ is_ground_clause (map literal_of read) → b ≡ false
    → are_ground_clauses (take k (ground_clauses clauses)) ≡ true
    → (k < length list) × (is_ground_clause (get_or (ground_clauses list) k []) ≡ false) × (are_ground_clauses (take k (ground_clauses list)) ≡ true)
open-found list clauses k c read b e low at is test fails first =
    subst
    (λ (cs : List Clause).
    (k < length cs) × (is_ground_clause (get_or (ground_clauses cs) k []) ≡ false) × (are_ground_clauses (take k (ground_clauses cs)) ≡ true))
    e
    (low, clause-tested clauses k c read b low at is test ∙ fails, first)

pub open-next :
    (clauses : List Clause) (k : ℕ) (c : Clause) (read : List Literal) (b : Bool) → k < length clauses → c ≡ get_or clauses k c
    → read ≡ c.literals → b ≡ is_ground_clause (map literal_of read) → b ≡ true → are_ground_clauses (take k (ground_clauses clauses)) ≡ true
    → are_ground_clauses (take (k + 1) (ground_clauses clauses)) ≡ true
open-next clauses k c read b low at is test holds first =
    all-next is_ground_clause (ground_clauses clauses) k []
    (omega (arith, low, length-mapped (λ (d : Clause). map literal_of d.literals) clauses))
    first (clause-tested clauses k c read b low at is test ∙ holds)

pub open-none :
    (list clauses : List Clause) (k : ℕ) → clauses ≡ list → length clauses ≤ k → are_ground_clauses (take k (ground_clauses clauses)) ≡ true
    → are_ground_clauses (ground_clauses list) ≡ true
open-none list clauses k e high h =
    subst (λ (cs : List Clause). are_ground_clauses (ground_clauses cs) ≡ true) e
    (all-whole is_ground_clause (ground_clauses clauses) k
    (omega (arith, high, length-mapped (λ (d : Clause). map literal_of d.literals) clauses)) h)
