-- Whether a clause that comes lives already, and the steps of its lines.
use Rattle.std.proofs.Common.{◌≡◌, ℕ, zero, suc, ◌+◌, ◌≤◌, Bool, true, false, ◌&&◌, List, [], ◌∷◌, ◌++◌, map, length, refl, ap, ap₂, sym, ◌∙◌, subst, arith}
use Rattle.std.specs.Prelude.{None, Some, cond, filter, is_none, position, slice_get, All, Contains}
use Rattle.std.specs.List.{list_any, range_with_len}
use Rattle.std.proofs.lemmas.Bool.{true≢false, and_parts, and_from, or_parts, or_from, false_from_ne_true}
use Rattle.std.proofs.lemmas.List.{map-append}
use Rattle.plain_types.specs.declared.sequence.NameLit.{NameLit}
use Rattle.plain_types.proofs.NameLemmas.{same_name-refl}
use Rattle.fol_base.specs.Clause.{TreeClause, clause_eq, literals_eq, names_eq}
use Rattle.kernel_steps.specs.declared.step.Step.{Step}
use Rattle.kernel_steps.specs.declared.step.Line.{Line}
use Rattle.clause_queue.specs.Pairs.{numbers, IsAbsent}
use Rattle.clause_queue.proofs.Numbers.{lacks_from}
use Rattle.split_parts.specs.PartKeys.{literals_eq-refl}
use Rattle.term_bank.specs.declared.bank.Bank.{Bank}
use Rattle.term_bank.specs.declared.table.Table.{Table}
use Rattle.bank_clause.specs.Clause.{clause_at, IsKnown, equal_by_numbers}
use Rattle.bank_clause.specs.declared.clause.BankClause.{BankClause}
use Rattle.bank_clause.proofs.EqualityLemmas.{same-are-equal}
use Rattle.pool_history.specs.Record.{PoolRecord, Registered, clause_numbered, lives, waits, is_awake, has_living}
use Rattle.pool_history.specs.Claiming.{pair_of}
use Rattle.pool_history.specs.Lines.{with_parents, line_number, pool_line}
use Rattle.pool_history.specs.Registering.{has_none}
use Rattle.clause_register.specs.Register.{is_living_copy}
use Rattle.pool_core.specs.Started.{registered_at, IsOfTable}
use Rattle.pool_core.specs.State.{IsProofStateOf}
use Rattle.pool_core.specs.declared.pool.ProofState.{ProofState}
use Rattle.clause_register.specs.declared.register.Registration.{Registration}
use Rattle.pool_core.proofs.AboutBeginnings.BegunLemmas.{numbered}
use Rattle.pool_core.proofs.AboutBeginnings.StartLemmas.{steps-of}
use Rattle.pool_history.proofs.AboutRecords.ItemLemmas.{all-at, any-by-place, none-passes, clauses-equal, any-at}
use Rattle.pool_core.proofs.AboutReturns.ProofStateLemmas.{count-of, lives-here, registered-at}

clause-equals-itself : (c : TreeClause) → clause_eq c c ≡ true
clause-equals-itself c = and_from (literals_eq c.literals c.literals) (names_eq c.names c.names) (literals_eq-refl c.literals) (names c.names)
  where
    names : (ns : List NameLit) → names_eq ns ns ≡ true
    names [] = refl
    names (n ∷ ns) = ap₂ (λ a b. a && b) (same_name-refl n) (names ns)

module _ (bank : Bank) (table : Table) where
  -- ---- whether an equal clause lives

  has-living-here :
      (s : ProofState) (r : PoolRecord) (c : TreeClause) → IsProofStateOf bank table s r
      → has_living r c ≡ list_any (λ (z : Registration). is_none z.death && clause_eq c (clause_at z.clause)) s.register.clauses
  has-living-here s r c is =
      ap (λ n. list_any (λ k. lives r k && clause_eq c (clause_numbered r k)) (range_with_len 0 n)) (count-of bank table s r is)
      ∙ any-by-place s.register.clauses (λ k. lives r k && clause_eq c (clause_numbered r k)) (λ (z : Registration). is_none z.death && clause_eq c (clause_at z.clause)) 0
      (λ n z there.
      ap (λ k. lives r k && clause_eq c (clause_numbered r k)) (let e : 0 + n ≡ n = omega arith in e)
      ∙ ap₂ (λ (b : Bool) (d : TreeClause). b && clause_eq c d) (lives-here bank table s r n z is there)
      (numbered r n (registered_at z) (registered-at bank table s r n z is there)))

  none-equal-here :
      (made : BankClause) (c : TreeClause) (zs : List Registration)
      → clause_at made ≡ c → All (IsKnown table) made.literals → ((n : ℕ) (z : Registration) → slice_get zs n ≡ Some z → IsOfTable bank table z)
      → list_any (is_living_copy made) zs ≡ false
      → list_any (λ (z : Registration). is_none z.death && clause_eq c (clause_at z.clause)) zs ≡ false
  none-equal-here made c [] same known of_table none = refl
  none-equal-here made c (z ∷ zs) same known of_table none =
      let parts = or_parts (is_living_copy made z) (list_any (is_living_copy made) zs) none in
      or_from (is_none z.death && clause_eq c (clause_at z.clause)) _
      (false_from_ne_true (is_none z.death && clause_eq c (clause_at z.clause)) (λ both.
      let halves = and_parts (is_none z.death) (clause_eq c (clause_at z.clause)) both in
      true≢false
      (sym (and_from (is_none z.death) (equal_by_numbers made z.clause) halves.0
      (same-are-equal table made z.clause known (of_table 0 z refl).known (same ∙ clauses-equal c (clause_at z.clause) halves.1)))
      ∙ parts.0)))
      (none-equal-here made c zs same known (λ n y there. of_table (suc n) y there) parts.1)

  pub not-living :
      (s : ProofState) (r : PoolRecord) (c : TreeClause) (made : BankClause)
      → IsProofStateOf bank table s r → clause_at made ≡ c → All (IsKnown table) made.literals
      → position (is_living_copy made) s.register.clauses ≡ None → has_living r c ≡ false
  not-living s r c made is same known none =
      has-living-here s r c is
      ∙ none-equal-here made c s.register.clauses same known (λ n z there. all-at (IsOfTable bank table) s.register.clauses n z is.of_table there)
      (none-passes (is_living_copy made) s.register.clauses none)

  pub living-already :
      (s : ProofState) (r : PoolRecord) (c : TreeClause) (n : ℕ) (z : Registration)
      → IsProofStateOf bank table s r → slice_get s.register.clauses n ≡ Some z → is_none z.death ≡ true → c ≡ clause_at z.clause
      → has_living r c ≡ true
  living-already s r c n z is there alive equal =
      has-living-here s r c is
      ∙ any-at (λ (y : Registration). is_none y.death && clause_eq c (clause_at y.clause)) s.register.clauses n z there
      (and_from (is_none z.death) (clause_eq c (clause_at z.clause)) alive (ap (clause_eq c) (sym equal) ∙ clause-equals-itself c))

  -- and it has a literal, while the pool is open
  pub some-literal-already :
      (s : ProofState) (r : PoolRecord) (c : TreeClause) (n : ℕ) (z : Registration)
      → IsProofStateOf bank table s r → r.ended ≡ None → slice_get s.register.clauses n ≡ Some z → c ≡ clause_at z.clause → has_none c.literals ≡ false
  some-literal-already s r c n z is open_yet there equal =
      ap (λ (d : TreeClause). has_none d.literals) equal
      ∙ all-at (λ (x : Registered). has_none x.clause.literals ≡ false) r.registered n (registered_at z) (is.no_empty open_yet) (registered-at bank table s r n z is there)

-- the next number isn't in the queue
absent-above :
    (n : ℕ) (w : ℕ → ℕ × ℕ) (p : ℕ → Bool) (from count : ℕ) → ((k : ℕ) → (w k).0 ≡ k) → from + count ≤ n → IsAbsent n (map w (filter p (range_with_len from count)))
absent-above n w p from zero numbered_so within = tt
absent-above n w p from (suc count) numbered_so within = by (p from) (absent-above n w p (from + 1) count numbered_so (omega (arith, within)))
  where
    rest : List ℕ
    rest = filter p (range_with_len (from + 1) count)

    by : (b : Bool) → IsAbsent n (map w rest) → IsAbsent n (map w (cond b (from ∷ rest) rest))
    by true more = ((λ e. absurd (let same = numbered_so from in omega (arith, e, same, within))), more)
    by false more = more

pub next-is-absent :
    (bank : Bank) (table : Table) (s : ProofState) (r : PoolRecord) (n : ℕ)
    → IsProofStateOf bank table s r → n ≡ length s.register.clauses → Contains (numbers s.queue.pairs) n → ⊥
next-is-absent bank table s r n is next =
    lacks_from n s.queue.pairs
    (subst (IsAbsent n) (sym is.queue)
    (absent-above n (pair_of r) (λ k. waits r k && is_awake r k) 0 (length r.registered) (λ k. refl)
    (let many = count-of bank table s r is in omega (arith, many, next))))

-- the steps of lines that were put among a pool's
pub steps-placed :
    (s : ProofState) (bank : Bank) (table : Table) (r : PoolRecord) (lines : List Line) → IsProofStateOf bank table s r
    → s.steps.items ++ map (λ (l : Line). with_parents (line_number (map registered_at s.register.clauses) (length s.steps.items)) l.step) lines
    ≡ map (λ (l : Line). l.step) (r.lines ++ map (pool_line r) lines)
steps-placed s bank table r lines is =
    ap₂ (λ (xs ys : List Step). xs ++ ys) is.steps
    (ap₂ (λ (regs : List Registered) (n : ℕ). map (λ (l : Line). with_parents (line_number regs n) l.step) lines) is.registered (ap length is.steps ∙ steps-of r.lines)
    ∙ each lines)
    ∙ sym (map-append (λ (l : Line). l.step) r.lines (map (pool_line r) lines))
  where
    each : (ls : List Line) → map (λ (l : Line). with_parents (line_number r.registered (length r.lines)) l.step) ls ≡ map (λ (l : Line). l.step) (map (pool_line r) ls)
    each [] = refl
    each (l ∷ ls) = ap (λ (xs : List Step). with_parents (line_number r.registered (length r.lines)) l.step ∷ xs) (each ls)
