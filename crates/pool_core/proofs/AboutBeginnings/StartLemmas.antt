-- The inputs in order, and what the register and the fields tell of a clause.
use Rattle.std.proofs.Common.{◌≡◌, ℕ, suc, ◌+◌, ◌<◌, Bool, true, false, ◌==◌, List, [], ◌∷◌, ◌++◌, map, length, take, get_or, refl, ap, sym, ◌∙◌, arith}
use Rattle.std.specs.Prelude.{Option, None, Some, is_none, is_some, position, slice_get, option_map, All}
use Rattle.std.specs.List.{list_all}
use Rattle.std.proofs.lemmas.Bool.{true≢false, and_parts}
use Rattle.std.proofs.lemmas.List.{length-map, length-take, map-append, take_more}
use Rattle.std.proofs.lemmas.Option.{slice_get-map, slice_get_read}
use Rattle.fol_base.specs.Clause.{TreeClause}
use Rattle.fol_base.specs.Literal.{clause_of}
use Rattle.fol_base.specs.WellFormed.{SymbolUse, are_literals_of}
use Rattle.fol_base.specs.declared.clause.Clause.{Clause}
use Rattle.fol_base.proofs.WorkedExamples.TestLemmas.{list_all-item}
use Rattle.kernel_steps.specs.declared.step.Line.{Line}
use Rattle.term_bank.specs.Literal.{literals_at}
use Rattle.term_bank.specs.declared.literal.BankLit.{BankLit}
use Rattle.bank_clause.specs.Clause.{clause_at, equal_by_numbers}
use Rattle.bank_clause.specs.declared.clause.BankClause.{BankClause}
use Rattle.pool_history.specs.Record.{PoolRecord, nothing_registered}
use Rattle.pool_history.specs.Registering.{has_none, with_inputs}
use Rattle.clause_register.specs.Register.{is_living_copy}
use Rattle.pool_core.specs.Started.{with_input}
use Rattle.pool_history.specs.declared.outcome.Outcome.{Outcome}
use Rattle.clause_register.specs.declared.register.Registration.{Registration}
use Rattle.pool_history.proofs.AboutRecords.ItemLemmas.{all-at, passes-at}

-- ---- steps of lines

pub steps-of : (ls : List Line) → length (map (λ (l : Line). l.step) ls) ≡ length ls
steps-of [] = refl
steps-of (l ∷ ls) = ap suc (steps-of ls)

-- ---- what the register and the fields tell

pub living-equal :
    (made : BankClause) (ss : List Registration) (n : ℕ) (s : Registration)
    → position (is_living_copy made) ss ≡ Some n → slice_get ss n ≡ Some s → equal_by_numbers made s.clause ≡ true
living-equal made ss n s found there =
    (and_parts (is_none s.death) (equal_by_numbers made s.clause) (passes-at (is_living_copy made) ss n s found there)).1

pub no-outcome : (o p : Option Outcome) (b : Bool) → b ≡ false → b ≡ is_some o → o ≡ p → p ≡ None
no-outcome None p b is same equal = sym equal
no-outcome (Some o) p b is same equal = absurd (true≢false (sym same ∙ is))

-- whether a clause of the bank has no literals
pub no-literals : (made : BankClause) (c : TreeClause) → clause_at made ≡ c → has_none c.literals ≡ (length made.literals == 0)
no-literals made c same = ap (λ (d : TreeClause). has_none d.literals) (sym same) ∙ ap (λ k. k == 0) (long made.literals)
  where
    long : (ls : List BankLit) → length (literals_at ls) ≡ length ls
    long [] = refl
    long (l ∷ ls) = ap suc (long ls)

-- ---- all inputs

pub inputs-end :
    (split : Bool) (i : ℕ) (cs : List TreeClause) (c : TreeClause) (r : PoolRecord)
    → with_inputs split i (cs ++ c ∷ []) r ≡ with_input split (i + length cs) c (with_inputs split i cs r)
inputs-end split i [] c r = ap (λ k. with_input split k c r) (let e : i ≡ i + 0 = omega arith in e)
inputs-end split i (d ∷ ds) c r =
    inputs-end split (suc i) ds c (with_input split i d r)
    ∙ ap (λ k. with_input split k c (with_inputs split (suc i) ds (with_input split i d r))) (let e : suc i + length ds ≡ i + suc (length ds) = omega arith in e)

pub input-at :
    (P : TreeClause → Type 0) (cs : List Clause) (i : ℕ) (c : Clause)
    → All P (map clause_of cs) → i < length cs → c ≡ get_or cs i c → P (clause_of c)
input-at P cs i c all below read =
    all-at P (map clause_of cs) i (clause_of c) all
    (slice_get-map clause_of cs i ∙ ap (option_map clause_of) (slice_get_read cs (length cs) i c refl below read))

pub input-formed :
    (usage : SymbolUse) (cs : List Clause) (i : ℕ) (c : Clause)
    → list_all (λ (d : TreeClause). are_literals_of usage d.literals) (map clause_of cs) ≡ true → i < length cs → c ≡ get_or cs i c
    → are_literals_of usage (clause_of c).literals ≡ true
input-formed usage cs i c all below read =
    list_all-item (λ (d : TreeClause). are_literals_of usage d.literals) (map clause_of cs) i (clause_of c)
    (slice_get-map clause_of cs i ∙ ap (option_map clause_of) (slice_get_read cs (length cs) i c refl below read)) all

pub inputs-more :
    (split : Bool) (cs : List Clause) (i : ℕ) (c : Clause)
    → i < length cs → c ≡ get_or cs i c
    → with_inputs split 0 (map clause_of (take (i + 1) cs)) nothing_registered
    ≡ with_input split i (clause_of c) (with_inputs split 0 (map clause_of (take i cs)) nothing_registered)
inputs-more split cs i c below read =
    let front : List TreeClause = map clause_of (take i cs) in
    let one : take (i + 1) cs ≡ take i cs ++ c ∷ [] = take_more cs i c below ∙ ap (λ x. take i cs ++ x ∷ []) (sym read) in
    let whole : map clause_of (take (i + 1) cs) ≡ front ++ clause_of c ∷ [] = ap (map clause_of) one ∙ map-append clause_of (take i cs) (c ∷ []) in
    let long : length front ≡ i = length-map (take i cs) clause_of ∙ length_front cs i below in
    ap (λ xs. with_inputs split 0 xs nothing_registered) whole
    ∙ inputs-end split 0 front (clause_of c) nothing_registered
    ∙ ap (λ k. with_input split k (clause_of c) (with_inputs split 0 front nothing_registered)) (let e : 0 + length front ≡ i = omega (arith, long) in e)
  where
    length_front : (cs : List Clause) (i : ℕ) → i < length cs → length (take i cs) ≡ i
    length_front cs i below = omega (arith, length-take i cs, below)
