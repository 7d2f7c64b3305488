-- What the fields tell of awake clauses, and what keeps a clause as awake as it was.
use mathlib.Core.Bool.{beq}
use Rattle.std.proofs.Common.{◌≡◌, ℕ, suc, ◌+◌, ◌<◌, ◌≤◌, ◌^◌, Bool, true, false, not, ◌&&◌, List, [], ◌∷◌, map, length, refl, ap, ap₂, sym, ◌∙◌, subst, arith}
use Rattle.std.specs.Prelude.{Option, Some, slice_get, option_map, unwrap_or, All}
use Rattle.std.specs.List.{list_all}
use Rattle.std.proofs.lemmas.Bool.{true≢false, false_from_ne_true}
use Rattle.std.proofs.lemmas.List.Elements.{All-nil, All-cons, All-head, All-tail, All-weaker}
use Rattle.plain_types.specs.declared.sequence.NameLit.{NameLit}
use Rattle.plain_types.specs.Names.{negative_of}
use Rattle.fol_base.specs.Clause.{TreeClause, TreeLiteral}
use Rattle.fol_base.specs.Subsumption.{assertions}
use Rattle.kernel_steps.specs.Conclusion.{empty_clause}
use Rattle.sat_core.specs.Clause.{literal_true, valuation_of}
use Rattle.term_bank.specs.declared.bank.Bank.{Bank}
use Rattle.term_bank.specs.declared.table.Table.{Table}
use Rattle.bank_clause.specs.Clause.{clause_at}
use Rattle.pool_history.specs.Record.{PoolRecord, Registered, clause_numbered, is_awake, is_awake_under}
use Rattle.pool_history.specs.Tags.{name_of_tag}
use Rattle.pool_core.specs.Asserting.{asserted_by}
use Rattle.pool_core.specs.Noted.{clause_in}
use Rattle.pool_core.specs.Splits.{HasTags}
use Rattle.pool_core.specs.Started.{registered_at}
use Rattle.pool_core.specs.State.{AreTagged, IsProofStateOf}
use Rattle.pool_core.specs.Waking.{AssertsNoFlip, flips}
use Rattle.pool_core.specs.declared.pool.ProofState.{ProofState}
use Rattle.clause_register.specs.declared.register.Registration.{Registration}
use Rattle.pool_core.specs.declared.tag_index.Assertion.{Assertion}
use Rattle.pool_history.proofs.AboutRecords.ItemLemmas.{all-at}
use Rattle.pool_core.proofs.AboutClaims.StateLemmas.{clause-in}
use Rattle.pool_core.proofs.AboutReturns.ProofStateLemmas.{count-of, registered-at}
use Rattle.pool_core.proofs.AboutWaking.AssertionLemmas.{asserted-names, assertion-there, assertion-within}

-- ---- the clause of a number

pub clause-of-number : (ss : List Registration) (n : ℕ) (z : Registration) → slice_get ss n ≡ Some z → clause_in ss n ≡ clause_at z.clause
clause-of-number ss n z there = ap (λ (o : Option Registration). unwrap_or (option_map (λ (s : Registration). clause_at s.clause) o) empty_clause) there

-- it asserts its names
pub asserts-names : (ss : List Registration) (n : ℕ) (z : Registration) → slice_get ss n ≡ Some z → assertions (clause_in ss n).names ≡ z.clause.names
asserts-names ss n z there = ap (λ (c : TreeClause). assertions c.names) (clause-of-number ss n z there) ∙ asserted-names z.clause.names

module _ (bank : Bank) (table : Table) (s : ProofState) (r : PoolRecord) (is : IsProofStateOf bank table s r) where
  pub clause-here : (n : ℕ) → clause_in s.register.clauses n ≡ clause_numbered r n
  clause-here n =
      clause-in s.register.clauses n
      ∙ ap (λ (cs : List Registered). unwrap_or (option_map (λ (c : Registered). c.clause) (slice_get cs n)) empty_clause) is.registered

  -- whether a clause is awake
  pub awake-here : (n : ℕ) → is_awake_under (valuation_of s.splits.model) s.splits.parts.parts (clause_in s.register.clauses n) ≡ is_awake r n
  awake-here n =
      ap₂ (λ (truths : List Bool) (parts : List (List TreeLiteral)). is_awake_under (valuation_of truths) parts (clause_in s.register.clauses n))
      is.splits.model is.splits.parts
      ∙ ap (is_awake_under (valuation_of r.model) r.parts) (clause-here n)

  -- the tags of each clause are those of parts
  pub tagged-here : AreTagged s
  tagged-here n z there =
      let has : HasTags (length r.parts) (registered_at z) = all-at (HasTags (length r.parts)) r.registered n (registered_at z) is.tags (registered-at bank table s r n z is there) in
      subst (λ (parts : List (List TreeLiteral)). All (λ tag. tag < length parts) z.clause.names) (sym is.splits.parts) (bare z.clause.names has.1)
    where
      bare : (ns : List ℕ) → All (λ (n : NameLit). n.name < length r.parts) (map negative_of ns) → All (λ tag. tag < length r.parts) ns
      bare [] all = All-nil (λ tag. tag < length r.parts)
      bare (m ∷ ms) all =
          All-cons (λ tag. tag < length r.parts) m ms (All-head (λ (n : NameLit). n.name < length r.parts) (negative_of m) (map negative_of ms) all)
          (bare ms (All-tail (λ (n : NameLit). n.name < length r.parts) (negative_of m) (map negative_of ms) all))

  -- what asserts is registered
  pub asserts-there : (place : ℕ) (a : Assertion) → slice_get s.asserting.entries place ≡ Some a → a.number < length s.register.clauses
  asserts-there place a there =
      let below : a.number < 0 + length r.registered = assertion-within 0 r.registered place a (ap (λ (es : List Assertion). slice_get es place) (sym is.asserting) ∙ there) in
      let count = count-of bank table s r is in
      omega (arith, below, count)

-- ---- names that stay

alike : (b c : Bool) → not (beq b c) ≡ false → b ≡ c
alike true true same = refl
alike true false same = absurd (true≢false same)
alike false true same = absurd (true≢false same)
alike false false same = refl

-- a clause none of whose names flips is as awake as it was
pub stays-awake :
    (was now : List Bool) (parts : List (List TreeLiteral)) (tags : List ℕ)
    → ((i tag : ℕ) → slice_get tags i ≡ Some tag → flips was now parts tag ≡ false)
    → list_all (λ tag. literal_true (valuation_of was) (name_of_tag parts tag)) tags
    ≡ list_all (λ tag. literal_true (valuation_of now) (name_of_tag parts tag)) tags
stays-awake was now parts [] stay = refl
stays-awake was now parts (tag ∷ tags) stay =
    ap₂ (λ (b c : Bool). b && c)
    (ap (λ b. beq b (name_of_tag parts tag).positive) (alike (valuation_of was (name_of_tag parts tag).name) (valuation_of now (name_of_tag parts tag).name) (stay 0 tag refl)))
    (stays-awake was now parts tags (λ i t there. stay (suc i) t there))

-- the tags that clauses assert are below the count
abbrev pub AreAmong : ℕ → ProofState → Type 0
AreAmong count s = (n : ℕ) (z : Registration) → slice_get s.register.clauses n ≡ Some z → All (λ tag. tag < count) z.clause.names

module _ (bank : Bank) (table : Table) (s : ProofState) (r : PoolRecord) (is : IsProofStateOf bank table s r) (was : List Bool) (count : ℕ) where
  -- a clause that asserts no name that flips
  pub awake-as-before :
      (n : ℕ) (z : Registration) → AreAmong count s → slice_get s.register.clauses n ≡ Some z → AssertsNoFlip count was s n
      → is_awake (record r { model = was }) n ≡ is_awake r n
  awake-as-before n z among there none =
      ap (list_all (λ tag. literal_true (valuation_of was) (name_of_tag r.parts tag))) tags
      ∙ stays-awake was r.model r.parts z.clause.names (λ i tag at. false_from_ne_true (flips was r.model r.parts tag) (λ flipped. no-flip i tag at flipped))
      ∙ ap (list_all (λ tag. literal_true (valuation_of r.model) (name_of_tag r.parts tag))) (sym tags)
    where
      tags : assertions (clause_numbered r n).names ≡ z.clause.names
      tags = ap (λ (c : TreeClause). assertions c.names) (sym (clause-here bank table s r is n)) ∙ asserts-names s.register.clauses n z there

      no-flip : (i tag : ℕ) → slice_get z.clause.names i ≡ Some tag → flips was r.model r.parts tag ≡ true → ⊥
      no-flip i tag at flipped =
          let found = assertion-there 0 r.registered n (registered_at z) i tag (registered-at bank table s r n z is there) (ap (λ (ts : List ℕ). slice_get ts i) (asserted-names z.clause.names) ∙ at) in
          none tag (all-at (λ tag. tag < count) z.clause.names i tag (among n z there) at)
          (ap₂ (λ (truths : List Bool) (parts : List (List TreeLiteral)). flips was truths parts tag) is.splits.model is.splits.parts ∙ flipped)
          found.0 (asserted_by (0 + n) tag) (omega arith) (ap (λ (es : List Assertion). slice_get es found.0) is.asserting ∙ found.1) refl (let e : 0 + n ≡ n = omega arith in e)

  -- as they are where the count is that of 32 bits
  pub all-fit : All (λ (a : Assertion). a.tag < 2 ^ 32) s.asserting.entries → 2 ^ 32 ≤ count → AreAmong count s
  all-fit fit wide n z there = each z.clause.names (λ i tag at.
      let found = assertion-there 0 r.registered n (registered_at z) i tag (registered-at bank table s r n z is there) (ap (λ (ts : List ℕ). slice_get ts i) (asserted-names z.clause.names) ∙ at) in
      let below : tag < 2 ^ 32 =
      all-at (λ (a : Assertion). a.tag < 2 ^ 32) s.asserting.entries found.0 (asserted_by (0 + n) tag) fit (ap (λ (es : List Assertion). slice_get es found.0) is.asserting ∙ found.1) in
      omega (arith, below, wide))
    where
      each : (ts : List ℕ) → ((i tag : ℕ) → slice_get ts i ≡ Some tag → tag < count) → All (λ tag. tag < count) ts
      each [] low = All-nil (λ tag. tag < count)
      each (t ∷ ts) low = All-cons (λ tag. tag < count) t ts (low 0 t refl) (each ts (λ i tag at. low (suc i) tag at))

  -- and where it is that of the parts
  pub all-tagged : length s.splits.parts.parts ≤ count → AreAmong count s
  all-tagged wide n z there =
      All-weaker (λ tag. tag < length s.splits.parts.parts) (λ tag. tag < count) (λ tag below. omega (arith, below, wide)) z.clause.names
      (tagged-here bank table s r is n z there)
