-- No clause without literals is registered but the one that refutes, and no two equal clauses live.
use Rattle.std.proofs.Common.{◌≡◌, ℕ, zero, suc, ◌+◌, ◌<◌, ◌≤◌, Bool, true, false, not, ◌&&◌, ◌==◌, List, [], ◌∷◌, ◌++◌, map, length, refl, ap, sym, ◌∙◌, subst, arith}
use Rattle.std.specs.Prelude.{Option, None, Some, nat_lt, slice_get, option_map, unwrap_or, flat_map, fold, if◌then◌else◌}
use Rattle.std.specs.List.{list_any, list_all, range_with_len, AllByRecursion}
use Rattle.std.proofs.lemmas.Bool.{true≢false, and_parts, and_from, or_left, or_right, not-true, not_from_false, lt-ltb, ltb-true, ltb-false, eqb-true, false_from_ne_true}
use Rattle.std.proofs.lemmas.List.{length-append, length-map}
use Rattle.std.proofs.lemmas.List.Folds.{list_any-append}
use Rattle.std.proofs.lemmas.Option.{none-some}
use Rattle.plain_types.specs.declared.sequence.NameLit.{NameLit}
use Rattle.plain_types.specs.Names.{same_name, negative_of}
use Rattle.plain_types.proofs.NameLemmas.{same_name-refl}
use Rattle.fol_base.specs.Clause.{TreeLiteral, TreeClause, clause_eq, literals_eq, names_eq, clause_variables, literal_instance}
use Rattle.fol_base.specs.Canonical.{distinct, renaming}
use Rattle.fol_base.proofs.WorkedExamples.TestLemmas.{list_all-item, list_all-joined}
use Rattle.kernel_steps.specs.Conclusion.{empty_clause}
use Rattle.kernel_steps.specs.Names.{sorted_names}
use Rattle.kernel_steps.specs.Derivation.{under_names}
use Rattle.kernel_steps.specs.Split.{has_number, is_part, literals_at, canonical_literals}
use Rattle.kernel_steps.specs.declared.step.Step.TheVariants.{Split}
use Rattle.kernel_steps.specs.declared.step.Line.{Line}
use Rattle.split_parts.specs.PartKeys.{literals_eq-refl}
use Rattle.split_parts.specs.Tags.{has_part, with_part, tag_of}
use Rattle.split_parts.specs.SignedNames.{signed_name}
use Rattle.pool_history.specs.Components.{components_of, parts_of, is_to_split}
use Rattle.pool_history.specs.Tags.{line_names}
use Rattle.pool_history.specs.Record.{PoolRecord, Registered, Death, clause_numbered, has_died, has_living, lives}
use Rattle.pool_history.specs.Lines.{with_lines, last_number, definition_of}
use Rattle.pool_history.specs.Registering.{registered_by, registered_last, with_propositional, with_new_part, with_tag, with_part_clause, with_split, split_up, has_none, with_refutation, empty_comes, comes}
use Rattle.pool_history.specs.Replay.{Origin, replay}
use Rattle.pool_history.specs.Wholeness.{NoneIsEmpty, LivingDiffer}
use Rattle.pool_history.specs.declared.event.Event.{Event}
use Rattle.pool_history.specs.declared.outcome.Outcome.{Outcome}
use Rattle.pool_history.specs.declared.outcome.Outcome.TheVariants.{Refuted}
use Rattle.pool_history.proofs.AboutRecords.FrameLemmas.{by-if}
use Rattle.pool_history.proofs.AboutRecords.GrowthLemmas.{has_died-less}
use Rattle.pool_history.proofs.AboutRecords.ItemLemmas.{item-at}
use Rattle.pool_history.proofs.AboutRecords.EndWalkLemmas.{replay-keeps}
use Rattle.pool_history.proofs.AboutLines.JoinedLemmas.{by-test, get-left, get-right}
use Rattle.pool_history.proofs.AboutLines.FinestLemmas.{computed-finest}
use Rattle.pool_history.proofs.AboutLines.PartLemmas.{some-literals, places-inside}

-- ---- equal clauses

names_eq-refl : (ns : List NameLit) → names_eq ns ns ≡ true
names_eq-refl [] = refl
names_eq-refl (n ∷ ns) = and_from (same_name n n) (names_eq ns ns) (same_name-refl n) (names_eq-refl ns)

clause-itself : (c d : TreeClause) → d ≡ c → clause_eq c d ≡ true
clause-itself c d same =
    subst (λ e. clause_eq c e ≡ true) (sym same)
    (and_from (literals_eq c.literals c.literals) (names_eq c.names c.names) (literals_eq-refl c.literals) (names_eq-refl c.names))

range-any : (q : ℕ → Bool) (n from count : ℕ) → from ≤ n → n < from + count → q n ≡ true → list_any q (range_with_len from count) ≡ true
range-any q n from zero low high passes = absurd (omega (arith, low, high))
range-any q n from (suc count) low high passes =
    by (nat_lt from n) refl (λ less. range-any q n (from + 1) count (omega (arith, less)) (omega (arith, high)) passes)
  where
    by : (b : Bool) → nat_lt from n ≡ b → (from < n → list_any q (range_with_len (from + 1) count) ≡ true) → list_any q (range_with_len from (suc count)) ≡ true
    by true is later = or_right (q from) (list_any q (range_with_len (from + 1) count)) (later (ltb-true from n is))
    by false is later =
        let above : n ≤ from = ltb-false from n is in
        or_left (q from) (list_any q (range_with_len (from + 1) count)) (ap q (let same : from ≡ n = omega (arith, low, above) in same) ∙ passes)

-- a clause that no living one equals differs from each
none-equal : (r : PoolRecord) (c : TreeClause) (n : ℕ) → has_living r c ≡ false → n < length r.registered → lives r n ≡ true → clause_numbered r n ≡ c → ⊥
none-equal r c n none below alive same =
    true≢false
    (sym
    (range-any (λ m. lives r m && clause_eq c (clause_numbered r m)) n 0 (length r.registered) (omega arith) (omega (arith, below))
    (and_from (lives r n) (clause_eq c (clause_numbered r n)) alive (clause-itself c (clause_numbered r n) same)))
    ∙ none)

-- ---- records

abbrev alive : List Registered → List Death → ℕ → Bool
alive registered deaths n = nat_lt n (length registered) && not (has_died deaths n)

abbrev numbered : List Registered → ℕ → TreeClause
numbered registered n = unwrap_or (option_map (λ (x : Registered). x.clause) (slice_get registered n)) empty_clause

abbrev is_filled : Registered → Bool
is_filled x = not (has_none x.clause.literals)

abbrev Differ : List Registered → List Death → Type 0
Differ registered deaths =
    (n m : ℕ) → n < m → alive registered deaths n ≡ true → alive registered deaths m ≡ true → numbered registered n ≡ numbered registered m → ⊥

record IsDistinct (registered : List Registered) (deaths : List Death) (ended : Option Outcome) : Type 0 where
  pub filled : (ended ≡ Some Refuted → ⊥) → list_all is_filled registered ≡ true
  pub differ : Differ registered deaths

abbrev Distinct : PoolRecord → Type 0
Distinct r = IsDistinct r.registered r.deaths r.ended

numbered-before : (xs ys : List Registered) (n : ℕ) → n < length xs → numbered (xs ++ ys) n ≡ numbered xs n
numbered-before xs ys n below =
    let at = item-at xs n below in
    ap (λ (o : Option Registered). unwrap_or (option_map (λ (x : Registered). x.clause) o) empty_clause) (get-left xs ys n at.0 at.1 ∙ sym at.1)

numbered-last : (xs : List Registered) (x : Registered) (n : ℕ) → n ≡ length xs → numbered (xs ++ x ∷ []) n ≡ x.clause
numbered-last xs x n last =
    ap (λ (o : Option Registered). unwrap_or (option_map (λ (y : Registered). y.clause) o) empty_clause) (get-right xs (x ∷ []) n 0 (omega (arith, last)))

-- a clause that differs from the living ones
new-differs :
    (r : PoolRecord) (x : Registered)
    → ((n : ℕ) → n < length r.registered → lives r n ≡ true → clause_numbered r n ≡ x.clause → ⊥)
    → Differ r.registered r.deaths → Differ (r.registered ++ x ∷ []) r.deaths
new-differs r x new old n m less n_lives m_lives same = by (nat_lt m (length r.registered)) refl
  where
    more : List Registered
    more = r.registered ++ x ∷ []

    count : length (r.registered ++ x ∷ []) ≡ length r.registered + 1
    count = length-append r.registered (x ∷ [])

    m_parts : (nat_lt m (length (r.registered ++ x ∷ [])) ≡ true) × (not (has_died r.deaths m) ≡ true)
    m_parts = and_parts (nat_lt m (length (r.registered ++ x ∷ []))) (not (has_died r.deaths m)) m_lives

    m_below : m < length (r.registered ++ x ∷ [])
    m_below = ltb-true m (length (r.registered ++ x ∷ [])) m_parts.0

    n_below : n < length r.registered
    n_below = omega (arith, less, m_below, count)

    n_old : lives r n ≡ true
    n_old =
        and_from (nat_lt n (length r.registered)) (not (has_died r.deaths n)) (lt-ltb n (length r.registered) n_below)
        (and_parts (nat_lt n (length (r.registered ++ x ∷ []))) (not (has_died r.deaths n)) n_lives).1

    n_same : numbered (r.registered ++ x ∷ []) n ≡ clause_numbered r n
    n_same = numbered-before r.registered (x ∷ []) n n_below

    by : (b : Bool) → nat_lt m (length r.registered) ≡ b → ⊥
    by true is =
        old n m less n_old (and_from (nat_lt m (length r.registered)) (not (has_died r.deaths m)) is m_parts.1)
        (sym n_same ∙ same ∙ numbered-before r.registered (x ∷ []) m (ltb-true m (length r.registered) is))
    by false is =
        let above : length r.registered ≤ m = ltb-false m (length r.registered) is in
        new n n_below n_old (sym n_same ∙ same ∙ numbered-last r.registered x m (omega (arith, above, m_below, count)))

registered-distinct : (line : ℕ) (c : TreeClause) (r : PoolRecord) → has_none c.literals ≡ false → has_living r c ≡ false → Distinct r → Distinct (registered_by line c r)
registered-distinct line c r some none distinct =
    let x : Registered = record { clause = c; line = line } in
    record {
      filled =
          λ other.
          list_all-joined is_filled r.registered (x ∷ []) (distinct.filled other) (and_from (is_filled x) true (not_from_false (has_none c.literals) some) refl);
      differ = new-differs r x (λ n below alive same. none-equal r c n none below alive same) distinct.differ;
    }

-- ---- a clause that comes by its lines

tags-distinct : (ps : List (List TreeLiteral)) (r : PoolRecord) → Distinct r → Distinct (fold with_tag r ps)
tags-distinct [] r distinct = distinct
tags-distinct (p ∷ ps) r distinct =
    tags-distinct ps (with_tag r p) (by-if Distinct (has_part p r.parts) r (with_new_part p (with_part r.parts p) r) distinct distinct)

abbrev IsFilled : List TreeLiteral → Type 0
IsFilled ls = has_none ls ≡ false

parts-distinct : (ps : List (List TreeLiteral)) (r : PoolRecord) → AllByRecursion IsFilled ps → Distinct r → Distinct (fold with_part_clause r ps)
parts-distinct [] r filled distinct = distinct
parts-distinct (p ∷ ps) r filled distinct =
    let line : ℕ = definition_of r.lines (signed_name r.parts p) in
    let c : TreeClause = under_names p (negative_of (tag_of r.parts p) ∷ []) in
    parts-distinct ps (with_part_clause r p) filled.1
    (by-test Distinct (has_living r c) r (registered_by line c r) (λ living. distinct) (λ none. registered-distinct line c r filled.0 none distinct))

parts-filled : (ls : List TreeLiteral) → AllByRecursion IsFilled (parts_of ls)
parts-filled ls = all (components_of ls) (computed-finest ls).are_parts (places-inside ls)
  where
    one : (ks : List ℕ) → is_part ks ≡ true → ((j : ℕ) → has_number j ks ≡ true → j < length ls) → IsFilled (canonical_literals (literals_at ls ks))
    one ks part inside =
        let own : List TreeLiteral = literals_at ls ks in
        let count : length (canonical_literals own) ≡ length own =
        length-map own (literal_instance (renaming (distinct (clause_variables (under_names own []))))) in
        false_from_ne_true (has_none (canonical_literals own))
        (λ none. some-literals ls ks part inside (sym count ∙ eqb-true (length (canonical_literals own)) 0 none))

    all :
        (kss : List (List ℕ)) → list_all is_part kss ≡ true → ((j : ℕ) → has_number j (flat_map (λ ks. ks) kss) ≡ true → j < length ls)
        → AllByRecursion IsFilled (map (λ ks. canonical_literals (literals_at ls ks)) kss)
    all [] are inside = tt
    all (ks ∷ kss) are inside =
        let both = and_parts (is_part ks) (list_all is_part kss) are in
        let here : (j : ℕ) → has_number j ks ≡ true → j < length ls = λ j there.
        inside j
        (list_any-append (λ k. j == k) ks (flat_map (λ js. js) kss) ∙ or_left (has_number j ks) (has_number j (flat_map (λ js. js) kss)) there) in
        let later : (j : ℕ) → has_number j (flat_map (λ js. js) kss) ≡ true → j < length ls = λ j there.
        inside j
        (list_any-append (λ k. j == k) ks (flat_map (λ js. js) kss) ∙ or_right (has_number j ks) (has_number j (flat_map (λ js. js) kss)) there) in
        (one ks both.0 here, all kss both.1 later)

module _ (split : Bool) where
  comes-distinct : (lines : List Line) (c : TreeClause) (r : PoolRecord) → r.ended ≡ None → Distinct r → Distinct (comes split lines c r)
  comes-distinct lines c r is_open distinct =
      by-test Distinct (has_none c.literals) (empty_comes c s)
      (if is_to_split split c.literals then split_up c s else (if has_living r c then r else registered_last c s))
      (λ none.
      by-if Distinct (has_none c.names) (with_refutation (registered_last c s)) (with_propositional (line_names r.parts c.names) s)
      (record { filled = λ other. absurd (other refl); differ = new-differs r x (λ n below alive same. not-there n none below same) distinct.differ })
      distinct)
      (λ some.
      by-if Distinct (is_to_split split c.literals) (split_up c s) (if has_living r c then r else registered_last c s)
      (parts-distinct (parts_of c.literals) (put (fold with_tag s (parts_of c.literals))) (parts-filled c.literals) (tags-distinct (parts_of c.literals) s distinct))
      (by-test Distinct (has_living r c) r (registered_last c s) (λ living. distinct) (λ none. registered-distinct (last_number s) c s some none distinct)))
    where
      s : PoolRecord
      s = with_lines r lines

      x : Registered
      x = record { clause = c; line = last_number (with_lines r lines) }

      put : PoolRecord → PoolRecord
      put t =
          let names : List NameLit = map (signed_name t.parts) (parts_of c.literals) in
          with_split (Split (last_number (with_lines r lines)) (map (definition_of t.lines) names) (components_of c.literals)) (sorted_names (line_names t.parts c.names ++ names)) t

      -- no registered clause of an open pool is empty
      not-there : (n : ℕ) → has_none c.literals ≡ true → n < length r.registered → clause_numbered r n ≡ c → ⊥
      not-there n none below same =
          let at = item-at r.registered n below in
          let filled : is_filled at.0 ≡ true = list_all-item is_filled r.registered n at.0 at.1 (distinct.filled (λ h. none-some Refuted (sym is_open ∙ h))) in
          let own : at.0.clause ≡ c =
          sym (ap (λ (o : Option Registered). unwrap_or (option_map (λ (y : Registered). y.clause) o) empty_clause) at.1) ∙ same in
          true≢false (sym filled ∙ ap (λ (d : TreeClause). not (has_none d.literals)) own ∙ ap not none)

-- ---- laws

module _ (origin : Origin) (history : List Event) where
  replay-distinct : Distinct (replay origin history)
  replay-distinct =
      replay-keeps origin.options
      (λ (parts : List (List TreeLiteral)) (registered : List Registered) (lines : List Line) (deaths : List Death) (ended : Option Outcome).
      IsDistinct registered deaths ended)
      (comes-distinct origin.options.split)
      (λ count r is_open distinct. record { filled = λ other. distinct.filled (λ h. none-some Refuted (sym is_open ∙ h)); differ = distinct.differ })
      (λ d r distinct. record {
        filled = distinct.filled;
        differ = λ n m less n_lives m_lives same. distinct.differ n m less (lived d r n n_lives) (lived d r m m_lives) same;
      })
      (λ more r distinct. record { filled = λ other. absurd (other refl); differ = distinct.differ })
      origin history refl
      (record { filled = λ other. refl; differ = λ n m less n_lives m_lives same. absurd (none-lives n n_lives) })
    where
      none-lives : (n : ℕ) → alive [] [] n ≡ true → ⊥
      none-lives n is = let below : n < 0 = ltb-true n 0 (and_parts (nat_lt n 0) (not (has_died [] n)) is).0 in omega (arith, below)

      -- a clause that lives after a death lived before it
      lived : (d : Death) (r : PoolRecord) (n : ℕ) → alive r.registered (r.deaths ++ d ∷ []) n ≡ true → alive r.registered r.deaths n ≡ true
      lived d r n is =
          let both = and_parts (nat_lt n (length r.registered)) (not (has_died (r.deaths ++ d ∷ []) n)) is in
          and_from (nat_lt n (length r.registered)) (not (has_died r.deaths n)) both.0
          (not_from_false (has_died r.deaths n) (has_died-less r.deaths (d ∷ []) n (not-true (has_died (r.deaths ++ d ∷ []) n) both.1)))

pub none_is_empty : NoneIsEmpty
none_is_empty origin history other = (replay-distinct origin history).filled other

pub living_differ : LivingDiffer
living_differ origin history n m n_lives m_lives same = by (nat_lt n m) refl (nat_lt m n) refl
  where
    by : (b : Bool) → nat_lt n m ≡ b → (b' : Bool) → nat_lt m n ≡ b' → n ≡ m
    by true is b' other = absurd ((replay-distinct origin history).differ n m (ltb-true n m is) n_lives m_lives same)
    by false is true other = absurd ((replay-distinct origin history).differ m n (ltb-true m n other) m_lives n_lives (sym same))
    by false is false other =
        let above : m ≤ n = ltb-false n m is in
        let below : n ≤ m = ltb-false m n other in
        omega (arith, above, below)
