-- The fields after lines, tags of parts and clauses over names have come, while no clause is registered.
use Rattle.std.proofs.Common.{◌≡◌, ℕ, ◌<◌, ◌≤◌, Bool, true, false, ◌&&◌, List, [], ◌∷◌, ◌++◌, map, length, refl, ap, ap₂, sym, ◌∙◌, subst, arith}
use Rattle.std.specs.Prelude.{Option, None, Some, fold, is_none, slice_get, unwrap_or, option_map, All, if◌then◌else◌}
use Rattle.std.specs.List.{list_all}
use Rattle.std.proofs.lemmas.List.{length-append}
use Rattle.std.proofs.lemmas.List.Elements.{All-head, All-tail, All-weaker}
use Rattle.plain_types.specs.declared.sequence.NameLit.{NameLit}
use Rattle.plain_types.specs.Names.{negative_of}
use Rattle.fol_base.specs.Clause.{TreeLiteral, TreeClause}
use Rattle.fol_base.specs.Subsumption.{assertions}
use Rattle.kernel_steps.specs.Conclusion.{empty_clause}
use Rattle.kernel_steps.specs.Derivation.{under_names}
use Rattle.kernel_steps.specs.declared.step.Line.{Line}
use Rattle.sat_core.specs.Clause.{Valuation, literal_true, valuation_of}
use Rattle.split_parts.specs.SignedNames.{signed_name}
use Rattle.split_parts.specs.Tags.{has_part, tag_of, with_part}
use Rattle.term_bank.specs.declared.bank.Bank.{Bank}
use Rattle.term_bank.specs.declared.table.Table.{Table}
use Rattle.pool_history.specs.Claiming.{pair_of}
use Rattle.pool_history.specs.Components.{is_to_split, parts_of}
use Rattle.pool_history.specs.Counting.{comes_by, result_comes}
use Rattle.pool_history.specs.Lines.{definition_of, pool_line, result_of, with_lines}
use Rattle.pool_history.specs.Record.{PoolRecord, Registered, PropositionalClause, has_living, waits, is_awake, is_awake_under}
use Rattle.pool_history.specs.Registering.{comes, empty_comes, has_none, registered_by, registered_last, split_up, with_new_part, with_part_clause, with_propositional, with_refutation, with_tag}
use Rattle.pool_history.specs.Tags.{line_names, name_of_tag}
use Rattle.pool_history.proofs.AboutRecords.FrameLemmas.{by-if}
use Rattle.pool_history.proofs.AboutLines.AssertionLemmas.{tag_name-stays}
use Rattle.pool_history.proofs.AboutLines.JoinedLemmas.{by-test}
use Rattle.pool_history.proofs.AboutLines.SplitSoundLemmas.{tag-parts}
use Rattle.pool_history.proofs.AboutRecords.ItemLemmas.{all-at}
use Rattle.pool_core.specs.Splits.{AreStepsAndSplitsOf, HasTags, split_view}
use Rattle.pool_core.specs.Started.{registered_at, IsOfTable}
use Rattle.pool_core.specs.State.{IsProofStateOf}
use Rattle.pool_core.specs.declared.pool.ProofState.{ProofState}
use Rattle.pool_core.proofs.AboutReturns.ProofStateLemmas.{map-filter-within}

-- ---- more parts

-- there are no fewer parts, and the tags that were there keep their names
pub record PartsGrow (parts more : List (List TreeLiteral)) : Type 0 where
  pub longer : length parts ≤ length more
  pub stay : (tag : ℕ) → tag < length parts → name_of_tag more tag ≡ name_of_tag parts tag

pub parts-same : (parts more : List (List TreeLiteral)) → more ≡ parts → PartsGrow parts more
parts-same parts more same = subst (PartsGrow parts) (sym same) (record { longer = omega arith; stay = λ tag below. refl })

parts-then : (parts more most : List (List TreeLiteral)) → PartsGrow parts more → PartsGrow more most → PartsGrow parts most
parts-then parts more most first second = record {
  longer = let a = first.longer in let b = second.longer in omega (arith, a, b);
  stay = λ tag below.
      let longer = first.longer in
      second.stay tag (omega (arith, below, longer)) ∙ first.stay tag below;
}

one-part-more : (parts : List (List TreeLiteral)) (part : List TreeLiteral) → PartsGrow parts (with_part parts part)
one-part-more parts part = record { longer = by (has_part part parts); stay = tag_name-stays parts part }
  where
    by : (b : Bool) → length parts ≤ length (if b then parts else parts ++ part ∷ [])
    by true = omega arith
    by false = let long = length-append parts (part ∷ []) in omega (arith, long)

pub tags-grow : (ps : List (List TreeLiteral)) (r : PoolRecord) → PartsGrow r.parts (fold with_tag r ps).parts
tags-grow [] r = parts-same r.parts r.parts refl
tags-grow (p ∷ ps) r =
    parts-then r.parts (with_tag r p).parts (fold with_tag (with_tag r p) ps).parts
    (subst (PartsGrow r.parts) (sym (tag-parts r p)) (one-part-more r.parts p)) (tags-grow ps (with_tag r p))

-- tags change parts and lines alone
abbrev respread : List (List TreeLiteral) → List Line → PoolRecord → PoolRecord
respread parts lines r = record r { parts = parts; lines = lines }

pub tags-only : (ps : List (List TreeLiteral)) (r : PoolRecord) → fold with_tag r ps ≡ respread (fold with_tag r ps).parts (fold with_tag r ps).lines r
tags-only [] r = refl
tags-only (p ∷ ps) r =
    tags-only ps (with_tag r p)
    ∙ ap (respread (fold with_tag (with_tag r p) ps).parts (fold with_tag (with_tag r p) ps).lines) one
  where
    one : with_tag r p ≡ respread (with_tag r p).parts (with_tag r p).lines r
    one =
        by-test (λ (s : PoolRecord). s ≡ respread s.parts s.lines r) (has_part p r.parts) r (with_new_part p (with_part r.parts p) r) (λ known. refl) (λ new. refl)

-- ---- there are no fewer parts after a result has come

part-clauses-keep : (ps : List (List TreeLiteral)) (r : PoolRecord) → (fold with_part_clause r ps).parts ≡ r.parts
part-clauses-keep [] r = refl
part-clauses-keep (p ∷ ps) r = part-clauses-keep ps (with_part_clause r p) ∙ one
  where
    c : TreeClause
    c = under_names p (negative_of (tag_of r.parts p) ∷ [])

    one : (with_part_clause r p).parts ≡ r.parts
    one =
        by-if (λ (s : PoolRecord). s.parts ≡ r.parts) (has_living r c) r (registered_by (definition_of r.lines (signed_name r.parts p)) c r) refl refl

comes-longer : (split : Bool) (lines : List Line) (c : TreeClause) (r : PoolRecord) → length r.parts ≤ length (comes split lines c r).parts
comes-longer split lines c r =
    by-if Longer (has_none c.literals) (empty_comes c lined) (if is_to_split split c.literals then split_up c lined else (if has_living r c then r else registered_last c lined))
    (by-if Longer (has_none c.names) (with_refutation (registered_last c lined)) (with_propositional (line_names r.parts c.names) lined) (omega arith) (omega arith))
    (by-if Longer (is_to_split split c.literals) (split_up c lined) (if has_living r c then r else registered_last c lined)
    (let grow = (tags-grow ps lined).longer in
    let same : length (split_up c lined).parts ≡ length (fold with_tag lined ps).parts = ap length (part-clauses-keep ps _) in
    omega (arith, grow, same))
    (by-if Longer (has_living r c) r (registered_last c lined) (omega arith) (omega arith)))
  where
    Longer : PoolRecord → Type 0
    Longer s = length r.parts ≤ length s.parts

    lined : PoolRecord
    lined = with_lines r lines

    ps : List (List TreeLiteral)
    ps = parts_of c.literals

pub result-longer : (split : Bool) (r : PoolRecord) (lines : List Line) → length r.parts ≤ length (result_comes split r lines).parts
result-longer split r lines =
    by-if (λ (s : PoolRecord). length r.parts ≤ length s.parts) (is_none r.ended) (comes_by split lines (result_of lines) r) r (by (result_of lines)) (omega arith)
  where
    by : (o : Option TreeClause) → length r.parts ≤ length (comes_by split lines o r).parts
    by None = omega arith
    by (Some c) = comes-longer split (map (pool_line r) lines) c r

-- ---- awake clauses stay awake

module _ (parts more : List (List TreeLiteral)) (grow : PartsGrow parts more) (truth : Valuation) where
  tags-true :
      (ns : List NameLit) → All (λ (n : NameLit). n.name < length parts) ns
      → list_all (λ tag. literal_true truth (name_of_tag more tag)) (assertions ns) ≡ list_all (λ tag. literal_true truth (name_of_tag parts tag)) (assertions ns)
  tags-true [] below = refl
  tags-true (n ∷ ns) below =
      by n.positive (ap (literal_true truth) (grow.stay n.name (All-head (λ (m : NameLit). m.name < length parts) n ns below)))
      (tags-true ns (All-tail (λ (m : NameLit). m.name < length parts) n ns below))
    where
      by :
          (b : Bool) → literal_true truth (name_of_tag more n.name) ≡ literal_true truth (name_of_tag parts n.name)
          → list_all (λ tag. literal_true truth (name_of_tag more tag)) (assertions ns) ≡ list_all (λ tag. literal_true truth (name_of_tag parts tag)) (assertions ns)
          → list_all (λ tag. literal_true truth (name_of_tag more tag)) (if b then assertions ns else (n.name ∷ assertions ns))
          ≡ list_all (λ tag. literal_true truth (name_of_tag parts tag)) (if b then assertions ns else (n.name ∷ assertions ns))
      by true here rest = rest
      by false here rest = ap₂ (λ a b. a && b) here rest

  numbered-awake :
      (xs : List Registered) (n : ℕ) → All (HasTags (length parts)) xs
      → is_awake_under truth more (unwrap_or (option_map (λ (x : Registered). x.clause) (slice_get xs n)) empty_clause)
      ≡ is_awake_under truth parts (unwrap_or (option_map (λ (x : Registered). x.clause) (slice_get xs n)) empty_clause)
  numbered-awake xs n tags = by (slice_get xs n) refl
    where
      by :
          (o : Option Registered) → slice_get xs n ≡ o
          → is_awake_under truth more (unwrap_or (option_map (λ (x : Registered). x.clause) o) empty_clause)
          ≡ is_awake_under truth parts (unwrap_or (option_map (λ (x : Registered). x.clause) o) empty_clause)
      by None none = refl
      by (Some x) there = tags-true x.clause.names (all-at (HasTags (length parts)) xs n x tags there).1

-- ---- the fields

module _ (bank : Bank) (table : Table) where
  abbrev grown : List (List TreeLiteral) → List Line → List PropositionalClause → PoolRecord → PoolRecord
  grown parts lines clauses r = record r { parts = parts; lines = lines; propositional = clauses }

  pub grown-state :
      (s t : ProofState) (r : PoolRecord) (parts : List (List TreeLiteral)) (lines : List Line) (clauses : List PropositionalClause)
      → t.register.clauses ≡ s.register.clauses → t.queue.pairs ≡ s.queue.pairs → t.ended ≡ s.ended → t.asserting.entries ≡ s.asserting.entries
      → PartsGrow r.parts parts → AreStepsAndSplitsOf (split_view t.splits) t.steps.items (grown parts lines clauses r)
      → IsProofStateOf bank table s r → IsProofStateOf bank table t (grown parts lines clauses r)
  grown-state s t r parts lines clauses register queue ended asserting grow told is = record {
    registered = ap (map registered_at) register ∙ is.registered;
    of_table = subst (All (IsOfTable bank table)) (sym register) is.of_table;
    registrations = λ n z there.
        let was = is.registrations n z (ap (λ ss. slice_get ss n) (sym register) ∙ there) in
        record { position = was.position; death = was.death; active = was.active };
    queue =
        queue ∙ is.queue
        ∙ map-filter-within (λ k. waits r k && is_awake r k) (λ k. waits r k && is_awake (grown parts lines clauses r) k) (pair_of r) (pair_of r)
        0 (length r.registered) (length r.registered) (omega arith)
        (λ k below. ap (λ b. waits r k && b) (sym (numbered-awake r.parts parts grow (valuation_of r.model) r.registered k is.tags)))
        (λ k below. refl);
    steps = told.steps;
    ended = ended ∙ is.ended;
    splits = told.splits;
    tags =
        All-weaker (HasTags (length r.parts)) (HasTags (length parts))
        (λ x has.
        let longer = grow.longer in
        (has.0, All-weaker (λ (n : NameLit). n.name < length r.parts) (λ (n : NameLit). n.name < length parts) (λ n below. omega (arith, below, longer)) x.clause.names has.1))
        r.registered is.tags;
    asserting = asserting ∙ is.asserting;
    of_registered = let all = is.of_registered in
        record { positions = all.positions; active = all.active; given = all.given; placed = all.placed; victims = all.victims };
    no_empty = is.no_empty;
  }
