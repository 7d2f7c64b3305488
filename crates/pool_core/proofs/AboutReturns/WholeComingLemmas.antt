-- A clause that is registered as it comes, and the parts of one that falls into them.
use Rattle.std.proofs.Common.{◌≡◌, ℕ, zero, suc, ◌+◌, ◌-◌, ◌<◌, ◌≤◌, Bool, true, false, ◌==◌, List, [], ◌∷◌, ◌++◌, map, length, get_or, refl, ap, ap₂, sym, ◌∙◌, subst, arith}
use Rattle.std.specs.Prelude.{Option, None, Some, fold, is_none, position, slice_get, vec_len, vec_capacity, All}
use Rattle.std.specs.List.{list_all}
use Rattle.std.proofs.lemmas.Bool.{and_parts}
use Rattle.std.proofs.lemmas.Option.{none-some}
use Rattle.std.proofs.lemmas.List.Elements.{All-nil, All-cons, All-head, All-tail}
use Rattle.plain_types.specs.declared.sequence.NameLit.{NameLit}
use Rattle.plain_types.specs.Names.{negative_of}
use Rattle.fol_base.specs.Clause.{TreeLiteral, TreeClause}
use Rattle.kernel_steps.specs.Lines.{is_plain_step}
use Rattle.kernel_steps.specs.declared.step.Line.{Line}
use Rattle.term_bank.specs.Literal.{AreLiteralsOf}
use Rattle.term_bank.specs.declared.bank.Bank.{Bank}
use Rattle.term_bank.specs.declared.table.Table.{Table}
use Rattle.bank_clause.specs.Clause.{clause_at, IsKnown, equal_by_numbers}
use Rattle.bank_clause.specs.declared.clause.BankClause.{BankClause}
use Rattle.split_parts.specs.Tags.{has_part, tag_of}
use Rattle.pool_history.specs.Counting.{result_comes}
use Rattle.pool_history.specs.Lines.{pool_line}
use Rattle.pool_history.specs.Record.{PoolRecord, has_living}
use Rattle.pool_history.specs.Registering.{has_none, registered_by, with_part_clause}
use Rattle.pool_core.specs.Parted.{AreMet, AreUnasserted, IsUnasserted}
use Rattle.pool_core.specs.Placing.{HasRoom, IsComing, outcome_by}
use Rattle.clause_register.specs.Register.{is_living_copy}
use Rattle.pool_core.specs.Splits.{AreSplitsOf, HasClauseRoom, HasPartRoom, split_view}
use Rattle.pool_core.specs.Started.{registered_at, IsOfTable}
use Rattle.pool_core.specs.State.{HasPlaces, IsProofStateOf}
use Rattle.pool_core.specs.declared.demand.Demand.{Demand}
use Rattle.pool_core.specs.declared.form.Form.TheVariants.{Whole}
use Rattle.pool_core.specs.declared.form.InternedClause.{InternedClause}
use Rattle.pool_core.specs.declared.parts.InternedPart.{InternedPart}
use Rattle.pool_core.specs.declared.pool.ProofState.{ProofState}
use Rattle.clause_register.specs.declared.register.Registration.{Registration}
use Rattle.pool_history.specs.declared.outcome.Outcome.{Outcome}
use Rattle.pool_history.specs.declared.outcome.Outcome.TheVariants.{Refuted}
use Rattle.pool_history.proofs.AboutRecords.FrameLemmas.{by-if}
use Rattle.pool_history.proofs.AboutRecords.ItemLemmas.{passes-at}
use Rattle.pool_core.proofs.AboutBeginnings.StartLemmas.{no-literals}
use Rattle.pool_core.proofs.AboutReturns.ComingLemmas.{living-already, not-living, some-literal-already}
use Rattle.pool_core.proofs.AboutReturns.FormLemmas.{result-again, result-whole}
use Rattle.pool_core.proofs.AboutReturns.SplitComingLemmas.{part_clause, part-again, part-clause, part-line, part-new, part-within, placed_steps, placed-last, placed-told}

-- an equal clause that was found lives
pub found-alive :
    (made : BankClause) (ss : List Registration) (n : ℕ) (z : Registration)
    → position (is_living_copy made) ss ≡ Some n → slice_get ss n ≡ Some z → is_none z.death ≡ true
found-alive made ss n z found there = (and_parts (is_none z.death) (equal_by_numbers made z.clause) (passes-at (is_living_copy made) ss n z found there)).0

module _ (bank : Bank) (table : Table) where
  -- the fields after lines have come that introduce no names, and an outcome while the pool is open
  pub lined-state :
      (s t : ProofState) (r : PoolRecord) (lines : List Line) (e : Option Outcome)
      → r.ended ≡ None → list_all (λ (l : Line). is_plain_step l.step) lines ≡ true → t.steps.items ≡ placed_steps s lines → t.ended ≡ e
      → t.register.clauses ≡ s.register.clauses → t.queue.pairs ≡ s.queue.pairs → split_view t.splits ≡ split_view s.splits
      → t.asserting.entries ≡ s.asserting.entries
      → IsProofStateOf bank table s r → IsProofStateOf bank table t (record r { lines = r.lines ++ map (pool_line r) lines; ended = e })
  lined-state s t r lines e is_open plain steps ended register queue splits asserting is =
      let told = placed-told bank table s r lines is t.steps.items plain steps in
      record {
        registered = ap (map registered_at) register ∙ is.registered;
        of_table = subst (All (IsOfTable bank table)) (sym register) is.of_table;
        registrations = λ n z there.
            let was = is.registrations n z (ap (λ ss. slice_get ss n) (sym register) ∙ there) in
            record { position = was.position; death = was.death; active = was.active };
        queue = queue ∙ is.queue;
        steps = told.steps;
        ended = ended;
        splits =
            subst (λ v. AreSplitsOf v r.parts (r.lines ++ map (pool_line r) lines) r.propositional r.model r.modelled) (sym splits) told.splits;
        tags = is.tags;
        asserting = asserting ∙ is.asserting;
        of_registered = let all = is.of_registered in
            record { positions = all.positions; active = all.active; given = all.given; placed = all.placed; victims = all.victims };
        no_empty = λ none. is.no_empty is_open;
      }

  module _ (split : Bool) (s : ProofState) (r : PoolRecord) (lines : List Line) (x : InternedClause) (is_open : r.ended ≡ None)
      (coming : IsComing bank table split s lines (Whole x) r) where
    abbrev c : TreeClause
    c = coming.clause

    -- an equal clause lives
    pub whole-again :
        (n : ℕ) (z : Registration) → position (is_living_copy x.clause) s.register.clauses ≡ Some n → slice_get s.register.clauses n ≡ Some z
        → clause_at x.clause ≡ clause_at z.clause → IsProofStateOf bank table s (result_comes split r lines)
    whole-again n z found there agrees =
        let equal : c ≡ clause_at z.clause = sym coming.form.same ∙ agrees in
        subst (IsProofStateOf bank table s)
        (sym (result-again split r lines c is_open coming.lead.led coming.form.whole
        (some-literal-already bank table s r c n z coming.state is_open there equal)
        (living-already bank table s r c n z coming.state there (found-alive x.clause s.register.clauses n z found there) equal)))
        coming.state

    pub whole-came :
        (mid t : ProofState) (refutes : Bool) (line : ℕ)
        → position (is_living_copy x.clause) s.register.clauses ≡ None → refutes ≡ (length x.clause.literals == 0)
        → line ≡ length mid.steps.items - 1
        → mid.steps.items ≡ placed_steps s lines → mid.ended ≡ outcome_by refutes
        → mid.register.clauses ≡ s.register.clauses → mid.queue.pairs ≡ s.queue.pairs → split_view mid.splits ≡ split_view s.splits
        → mid.asserting.entries ≡ s.asserting.entries
        → ((q : PoolRecord) → AreLiteralsOf bank x.clause.literals → All (IsKnown table) x.clause.literals
        → (q.ended ≡ None → has_none (clause_at x.clause).literals ≡ false) → IsProofStateOf bank table mid q
        → IsProofStateOf bank table t (registered_by line (clause_at x.clause) q))
        → IsProofStateOf bank table t (result_comes split r lines)
    whole-came mid t refutes line new is_empty line_is steps ended register queue splits asserting registered =
        subst (IsProofStateOf bank table t) (same ∙ sym (result-whole split r lines c is_open coming.lead.led coming.form.whole coming.form.refutes fresh))
        (registered lined coming.form.of_bank coming.form.known (λ open_still. by refutes refl open_still)
        (lined-state s mid r lines (outcome_by refutes) is_open coming.lead.plain steps ended register queue splits asserting coming.state))
      where
        lined : PoolRecord
        lined = record r { lines = r.lines ++ map (pool_line r) lines; ended = outcome_by refutes }

        fresh : has_living r c ≡ false
        fresh = not-living bank table s r c x.clause coming.state coming.form.same coming.form.known new

        empty_so : refutes ≡ has_none c.literals
        empty_so = is_empty ∙ sym (no-literals x.clause c coming.form.same)

        by : (b : Bool) → refutes ≡ b → outcome_by b ≡ None → has_none (clause_at x.clause).literals ≡ false
        by true is none = absurd (none-some Refuted (sym none))
        by false is none = ap (λ (d : TreeClause). has_none d.literals) coming.form.same ∙ sym empty_so ∙ is

        made : TreeClause → ℕ → Bool → PoolRecord
        made d n b = registered_by n d (record r { lines = r.lines ++ map (pool_line r) lines; ended = outcome_by b })

        same : made (clause_at x.clause) line refutes ≡ made c (length (r.lines ++ map (pool_line r) lines) - 1) (has_none c.literals)
        same =
            ap₂ (λ d n. made d n refutes) coming.form.same (placed-last bank table s r lines coming.state mid.steps.items line steps line_is)
            ∙ ap (made c (length (r.lines ++ map (pool_line r) lines) - 1)) empty_so

-- ---- parts, one after another

-- with their tags, they are registered from what is there now to the end
pub record ArePartsSoFar
    (bank : Bank) (before : ProofState) (parts : List InternedPart) (tags : List ℕ) (now : ProofState) (rest : List InternedPart) (left : List ℕ) : Type 0 where
  pub came :
      (table : Table) (r : PoolRecord) (lss : List (List TreeLiteral))
      → AreUnasserted bank table lss parts → AreMet r.parts lss → tags ≡ map (tag_of r.parts) lss → IsProofStateOf bank table before r
      → (s : PoolRecord) × (mss : List (List TreeLiteral)) × AreUnasserted bank table mss rest × AreMet s.parts mss × (left ≡ map (tag_of s.parts) mss)
      × IsProofStateOf bank table now s × (fold with_part_clause s mss ≡ fold with_part_clause r lss)

part-clause-keeps : (r : PoolRecord) (ls : List TreeLiteral) → (with_part_clause r ls).parts ≡ r.parts
part-clause-keeps r ls = by-if (λ (s : PoolRecord). s.parts ≡ r.parts) _ r (registered_by _ _ r) refl refl

module _ (bank : Bank) (before : ProofState) (parts : List InternedPart) (tags : List ℕ) where
  -- the first that is left
  module _ (now : ProofState) (x : InternedPart) (rest : List InternedPart) (left : List ℕ)
      (so_far : ArePartsSoFar bank before parts tags now (x ∷ rest) left) where
    pub next-part :
        (table : Table) (r : PoolRecord) (lss : List (List TreeLiteral)) (tag : ℕ) (others : List ℕ)
        → AreUnasserted bank table lss parts → AreMet r.parts lss → tags ≡ map (tag_of r.parts) lss → IsProofStateOf bank table before r → left ≡ tag ∷ others
        → (s : PoolRecord) × (ls : List TreeLiteral) × (mss : List (List TreeLiteral)) × IsUnasserted bank table ls x × (tag ≡ tag_of s.parts ls)
        × (has_part ls s.parts ≡ true) × IsProofStateOf bank table now s × AreUnasserted bank table mss rest × AreMet s.parts mss
        × (others ≡ map (tag_of s.parts) mss) × (fold with_part_clause (with_part_clause s ls) mss ≡ fold with_part_clause r lss)
    next-part table r lss tag others are met tags_are is taken =
        let was = so_far.came table r lss are met tags_are is in
        by was.0 was.1 was.2 was.3 (sym taken ∙ was.4) was.5 was.6
      where
        by :
            (s : PoolRecord) (mss : List (List TreeLiteral)) → AreUnasserted bank table mss (x ∷ rest) → AreMet s.parts mss → tag ∷ others ≡ map (tag_of s.parts) mss
            → IsProofStateOf bank table now s → fold with_part_clause s mss ≡ fold with_part_clause r lss
            → (q : PoolRecord) × (ls : List TreeLiteral) × (nss : List (List TreeLiteral)) × IsUnasserted bank table ls x × (tag ≡ tag_of q.parts ls)
            × (has_part ls q.parts ≡ true) × IsProofStateOf bank table now q × AreUnasserted bank table nss rest × AreMet q.parts nss
            × (others ≡ map (tag_of q.parts) nss) × (fold with_part_clause (with_part_clause q ls) nss ≡ fold with_part_clause r lss)
        by s [] are met numbered state ends = absurd are
        by s (ls ∷ mss) are met numbered state ends =
            let first : tag ≡ tag_of s.parts ls = cc in
            let later : others ≡ map (tag_of s.parts) mss = cc in
            (s, ls, mss, are.0, first, met.0, state, are.1, met.1, later, ends)

    pub one-part-came :
        (next : ProofState) (tag : ℕ) (others : List ℕ) → left ≡ tag ∷ others
        → ((table : Table) (r : PoolRecord) (ls : List TreeLiteral) → IsUnasserted bank table ls x → tag ≡ tag_of r.parts ls → has_part ls r.parts ≡ true
        → IsProofStateOf bank table now r → IsProofStateOf bank table next (with_part_clause r ls))
        → ArePartsSoFar bank before parts tags next rest others
    one-part-came next tag others taken registered = record {
      came = λ table r lss are met tags_are is.
          let found = next-part table r lss tag others are met tags_are is taken in
          let s : PoolRecord = found.0 in
          let ls : List TreeLiteral = found.1 in
          let mss : List (List TreeLiteral) = found.2 in
          let same : (with_part_clause s ls).parts ≡ s.parts = part-clause-keeps s ls in (
            with_part_clause s ls,
            mss,
            found.7,
            subst (λ (cs : List (List TreeLiteral)). AreMet cs mss) (sym same) found.8,
            found.9 ∙ ap (λ (cs : List (List TreeLiteral)). map (tag_of cs) mss) (sym same),
            registered table s ls found.3 found.4 found.5 found.6,
            found.10,
          );
    }

    -- there is a tag for it
    pub tag-left :
        (table : Table) (r : PoolRecord) (lss : List (List TreeLiteral))
        → AreUnasserted bank table lss parts → AreMet r.parts lss → tags ≡ map (tag_of r.parts) lss → IsProofStateOf bank table before r
        → length left ≡ 0 → ⊥
    tag-left table r lss are met tags_are is none =
        let was = so_far.came table r lss are met tags_are is in
        by (was.0).parts was.1 was.2 was.4
      where
        by : (count : List (List TreeLiteral)) (mss : List (List TreeLiteral)) → AreUnasserted bank table mss (x ∷ rest) → left ≡ map (tag_of count) mss → ⊥
        by count [] are same = absurd are
        by count (ls ∷ mss) are same = let some = ap length same in absurd (omega (arith, some, none))

-- ---- what is asked of a clause that is registered

-- its tags are of parts
pub bare-below : (count : ℕ) (ns : List ℕ) → All (λ (n : NameLit). n.name < count) (map negative_of ns) → All (λ tag. tag < count) ns
bare-below count [] below = All-nil (λ tag. tag < count)
bare-below count (n ∷ ns) below =
    All-cons (λ tag. tag < count) n ns (All-head (λ (m : NameLit). m.name < count) (negative_of n) (map negative_of ns) below)
    (bare-below count ns (All-tail (λ (m : NameLit). m.name < count) (negative_of n) (map negative_of ns) below))

pub whole-tags :
    (bank : Bank) (table : Table) (split : Bool) (s : ProofState) (r : PoolRecord) (lines : List Line) (x : InternedClause)
    → IsComing bank table split s lines (Whole x) r → All (λ tag. tag < length s.splits.parts.parts) x.clause.names
whole-tags bank table split s r lines x coming =
    bare-below (length s.splits.parts.parts) x.clause.names
    (subst (λ (cs : List (List TreeLiteral)). All (λ (n : NameLit). n.name < length cs) (clause_at x.clause).names) (sym coming.state.splits.parts)
    (subst (λ (d : TreeClause). All (λ (n : NameLit). n.name < length r.parts) d.names) (sym coming.form.same) coming.lead.met))

-- ---- room

-- a clause that was registered changes no other room
pub room-registered :
    (s t : ProofState) (d : Demand) (deaths : ℕ) → t ≡ record s { register = t.register; queue = t.queue; asserting = t.asserting }
    → HasPlaces t d.clauses d.tags → vec_len s.steps + d.lines ≤ vec_capacity s.steps → HasPartRoom s.splits d.parts
    → HasClauseRoom s.splits d.splits d.names → vec_len s.notes + deaths ≤ vec_capacity s.notes → HasRoom t d deaths
room-registered s t d deaths rest places steps parts names notes = record {
  places = places;
  steps = subst (λ (u : ProofState). vec_len u.steps + d.lines ≤ vec_capacity u.steps) (sym rest) steps;
  parts = subst (λ (u : ProofState). HasPartRoom u.splits d.parts) (sym rest) parts;
  names = subst (λ (u : ProofState). HasClauseRoom u.splits d.splits d.names) (sym rest) names;
  notes = subst (λ (u : ProofState). vec_len u.notes + deaths ≤ vec_capacity u.notes) (sym rest) notes;
}

-- fewer places than there are
pub fewer-places : (s : ProofState) (clauses assertions few less : ℕ) → few ≤ clauses → less ≤ assertions → HasPlaces s clauses assertions → HasPlaces s few less
fewer-places s clauses assertions few less fewer lower room = record {
  register = let enough = room.register in omega (arith, enough, fewer);
  queue = let enough = room.queue in omega (arith, enough, fewer);
  index = let enough = room.index in omega (arith, enough, lower);
}

-- what is registered leaves all else
pub rest-then :
    (s t u : ProofState) → t ≡ record s { register = t.register; queue = t.queue; asserting = t.asserting }
    → u ≡ record t { register = u.register; queue = u.queue; asserting = u.asserting }
    → u ≡ record s { register = u.register; queue = u.queue; asserting = u.asserting }
rest-then s t u first second =
    second ∙ ap (λ (v : ProofState). record v { register = u.register; queue = u.queue; asserting = u.asserting }) first

module _ (bank : Bank) (before : ProofState) (parts : List InternedPart) (tags : List ℕ) where
  pub parts-begin : (its : List InternedPart) (left : List ℕ) → its ≡ parts → left ≡ tags → ArePartsSoFar bank before parts tags before its left
  parts-begin its left same alike =
      subst (λ xs. ArePartsSoFar bank before parts tags before xs left) (sym same)
      (subst (λ ns. ArePartsSoFar bank before parts tags before parts ns) (sym alike)
      (record { came = λ table r lss are met tags_are is. (r, lss, are, met, tags_are, is, refl) }))

  pub all-parts-came :
      (now : ProofState) (rest : List InternedPart) (left : List ℕ) → rest ≡ [] → ArePartsSoFar bank before parts tags now rest left
      → (table : Table) (r : PoolRecord) (lss : List (List TreeLiteral))
      → AreUnasserted bank table lss parts → AreMet r.parts lss → tags ≡ map (tag_of r.parts) lss → IsProofStateOf bank table before r
      → IsProofStateOf bank table now (fold with_part_clause r lss)
  all-parts-came now rest left none so_far table r lss are met tags_are is =
      let was = so_far.came table r lss are met tags_are is in
      by was.0 was.1 (subst (AreUnasserted bank table was.1) none was.2) was.6 was.5
    where
      by :
          (s : PoolRecord) (mss : List (List TreeLiteral)) → AreUnasserted bank table mss [] → fold with_part_clause s mss ≡ fold with_part_clause r lss
          → IsProofStateOf bank table now s → IsProofStateOf bank table now (fold with_part_clause r lss)
      by s [] are ends state = subst (IsProofStateOf bank table now) ends state
      by s (ls ∷ mss) are ends state = absurd are

-- ---- a part

module _ (bank : Bank) (table : Table) (s : ProofState) (r : PoolRecord) (ls : List TreeLiteral) (x : InternedPart) (tag : ℕ)
    (is : IsProofStateOf bank table s r) (part : IsUnasserted bank table ls x) (tagged : tag ≡ tag_of r.parts ls) (there : has_part ls r.parts ≡ true) where
  -- its clause lives under its tag
  pub part-again-state :
      (made : BankClause) (n : ℕ) (z : Registration)
      → made ≡ record { literals = x.clause.literals; names = tag ∷ [] } → position (is_living_copy made) s.register.clauses ≡ Some n
      → slice_get s.register.clauses n ≡ Some z → clause_at made ≡ clause_at z.clause → IsProofStateOf bank table s (with_part_clause r ls)
  part-again-state made n z made_is found at agrees =
      subst (IsProofStateOf bank table s)
      (sym (part-again bank table s r ls x tag is part tagged there
      (living-already bank table s r (part_clause bank table s r ls x tag is part tagged there) n z is at (found-alive made s.register.clauses n z found at)
      (sym (part-clause bank table s r ls x tag is part tagged there made made_is) ∙ agrees)))) is

  -- it is registered
  pub part-new-state :
      (t : ProofState) (made : BankClause) (line : ℕ)
      → made ≡ record { literals = x.clause.literals; names = tag ∷ [] } → position (is_living_copy made) s.register.clauses ≡ None
      → line ≡ get_or s.splits.definition_lines.items tag 0
      → (AreLiteralsOf bank made.literals → All (IsKnown table) made.literals → (r.ended ≡ None → has_none (clause_at made).literals ≡ false)
      → IsProofStateOf bank table s r → IsProofStateOf bank table t (registered_by line (clause_at made) r))
      → IsProofStateOf bank table t (with_part_clause r ls)
  part-new-state t made line made_is none line_is registered =
      let c : TreeClause = part_clause bank table s r ls x tag is part tagged there in
      let same : clause_at made ≡ c = part-clause bank table s r ls x tag is part tagged there made made_is in
      let of_bank : AreLiteralsOf bank made.literals = subst (λ (m : BankClause). AreLiteralsOf bank m.literals) (sym made_is) part.of_bank in
      let known : All (IsKnown table) made.literals = subst (λ (m : BankClause). All (IsKnown table) m.literals) (sym made_is) part.known in
      subst (IsProofStateOf bank table t)
      (ap₂ (λ (n : ℕ) (d : TreeClause). registered_by n d r) (part-line bank table s r ls x tag is part tagged there line line_is) same
      ∙ sym (part-new bank table s r ls x tag is part tagged there (not-living bank table s r c made is same known none)))
      (registered of_bank known (λ is_open. ap (λ (d : TreeClause). has_none d.literals) same ∙ part.some) is)

  pub part-tags : (made : BankClause) → made ≡ record { literals = x.clause.literals; names = tag ∷ [] } → All (λ n. n < length s.splits.parts.parts) made.names
  part-tags made made_is =
      subst (λ (m : BankClause). All (λ n. n < length s.splits.parts.parts) m.names) (sym made_is)
      (All-cons (λ n. n < length s.splits.parts.parts) tag [] (part-within bank table s r ls x tag is part tagged there) (All-nil (λ n. n < length s.splits.parts.parts)))

-- what is read at a place
pub read-number : (ns : List ℕ) (i n : ℕ) → i < length ns → n ≡ get_or ns i n → n ≡ get_or ns i 0
read-number ns i n below read = read ∙ by ns i below
  where
    by : (ns : List ℕ) (i : ℕ) → i < length ns → get_or ns i n ≡ get_or ns i 0
    by [] i below = absurd (omega (arith, below))
    by (k ∷ ks) zero below = refl
    by (k ∷ ks) (suc i) below = by ks i (omega (arith, below))
