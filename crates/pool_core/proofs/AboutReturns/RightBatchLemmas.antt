-- What is right of a batch serves its return: one canonical and small clause for each list of lines, whose names are assertions of parts that
-- were met, with its parts where it is split; and parents that are there.
use Rattle.std.proofs.Common.{◌≡◌, ℕ, zero, suc, ◌+◌, ◌-◌, ◌<◌, Bool, true, false, List, [], ◌∷◌, map, length, take, get_or, refl, sym, subst, arith}
use Rattle.std.specs.List.{list_all}
use Rattle.std.specs.Prelude.{Some, nat_lt, option_and_then, slice_get, if◌then◌else◌, All}
use Rattle.std.proofs.lemmas.Bool.{and_parts, and_from, ltb-true}
use Rattle.std.proofs.lemmas.List.{length-take}
use Rattle.std.proofs.lemmas.Option.{none-some, get_or_from_slice_get}
use Rattle.fol_base.specs.Clause.{TreeClause}
use Rattle.fol_base.specs.Literal.{clause_of}
use Rattle.fol_base.specs.WellFormed.{SymbolUse}
use Rattle.fol_base.specs.declared.clause.Clause.{Clause}
use Rattle.kernel_steps.specs.Derivation.{line_parents, line_parent}
use Rattle.kernel_steps.specs.Lines.{AreLines, clause_parents, is_on_literals, is_plain_step}
use Rattle.kernel_steps.specs.Parents.{Parent}
use Rattle.kernel_steps.specs.declared.key.Key.{Key}
use Rattle.kernel_steps.specs.declared.step.TheConstants.{CLAUSE_NUMBERS}
use Rattle.kernel_steps.specs.declared.step.Step.{Step}
use Rattle.kernel_steps.specs.declared.step.Step.TheVariants.{Input, Negate, Clausify, Para, Refl, Factor, Merge, Component, Opposite, Split, Chain}
use Rattle.kernel_steps.specs.declared.step.Line.{Line}
use Rattle.pool_history.specs.Record.{PoolRecord, GivenJob, clauses_of}
use Rattle.pool_history.specs.Lines.{result_of}
use Rattle.pool_history.specs.Reduction.{Lookup, handed_back}
use Rattle.pool_history.specs.Batches.{IsRightFate, IsRightRemovalBy, IsRightWork}
use Rattle.pool_core.specs.Placing.{HasParentsBelow, IsFitResult, IsFit, IsFitWork}
use Rattle.pool_history.specs.declared.options.Options.{Options}
use Rattle.pool_history.specs.declared.batch.Entry.{Entry}
use Rattle.pool_history.specs.declared.batch.Fate.{Fate}
use Rattle.pool_history.specs.declared.batch.Fate.TheVariants.{Kept, Dropped, Heavy}
use Rattle.pool_history.specs.declared.batch.Removal.{Removal}
use Rattle.pool_history.specs.declared.batch.Work.{Work}
use Rattle.pool_history.specs.declared.batch.Work.TheVariants.{Gone, Met}
use Rattle.pool_history.proofs.AboutRecords.ItemLemmas.{item-at}
use Rattle.pool_history.proofs.AboutCounting.KnownLemmas.{parents-all}
use Rattle.pool_history.proofs.AboutLines.PoolLineLemmas.{Arrives, Sound, batch-continues}
use Rattle.pool_history.proofs.AboutLines.SoundLemmas.{all-entries-come, all-removals-come}
use Rattle.pool_core.proofs.AboutSplits.HandedLemmas.{handed-in, parts-fit}

-- ---- lists

all-from : {X : Type 0} (P : X → Type 0) (xs : List X) → ((n : ℕ) (x : X) → slice_get xs n ≡ Some x → P x) → All P xs
all-from P xs each k d below =
    let item = item-at xs k below in
    subst P (sym (get_or_from_slice_get xs k item.0 d item.1)) (each k item.0 item.1)

-- ---- parents of lines

module _ (is_predicate : ℕ → Bool) (clauses : Lookup) (lines : List Line) (right : AreLines is_predicate CLAUSE_NUMBERS (clause_parents clauses) lines) where
  -- they are clauses or lines before
  pub parents-below : All (HasParentsBelow (CLAUSE_NUMBERS + length lines)) lines
  parents-below =
      all-from (HasParentsBelow (CLAUSE_NUMBERS + length lines)) lines (parents-all is_predicate clauses lines right (λ n. n < CLAUSE_NUMBERS + length lines) (λ k n p there.
      by k n p (nat_lt n CLAUSE_NUMBERS) refl there))
    where
      line-there : (ls : List Line) (m : ℕ) (p : Parent) → option_and_then line_parent (slice_get ls m) ≡ Some p → m < length ls
      line-there [] m p there = absurd (none-some p there)
      line-there (l ∷ ls) zero p there = omega arith
      line-there (l ∷ ls) (suc m) p there = let rest = line-there ls m p there in omega (arith, rest)

      by :
          (k n : ℕ) (p : Parent) (b : Bool) → nat_lt n CLAUSE_NUMBERS ≡ b
          → (if b then clause_parents clauses n else line_parents (take k lines) (n - CLAUSE_NUMBERS)) ≡ Some p → n < CLAUSE_NUMBERS + length lines
      by k n p true below there = let low : n < CLAUSE_NUMBERS = ltb-true n CLAUSE_NUMBERS below in omega (arith, low)
      by k n p false above there =
          let within : n - CLAUSE_NUMBERS < length (take k lines) = line-there (take k lines) (n - CLAUSE_NUMBERS) p there in
          let short = length-take k lines in
          omega (arith, within, short)

-- ---- steps

plain-step : (step : Step) → is_on_literals step ≡ true → is_plain_step step ≡ true
plain-step (Clausify i) kind = refl
plain-step (Para n m j s l z place first second) kind = refl
plain-step (Refl n l bind) kind = refl
plain-step (Factor n j s l z bind) kind = refl
plain-step (Merge n j l bind) kind = refl
plain-step (Input place) kind = kind
plain-step (Negate place) kind = kind
plain-step (Component name) kind = kind
plain-step (Opposite name) kind = kind
plain-step (Split parent definitions parts) kind = kind
plain-step (Chain numbers pivots) kind = kind

all-plain : (lines : List Line) → list_all (λ (l : Line). is_on_literals l.step) lines ≡ true → list_all (λ (l : Line). is_plain_step l.step) lines ≡ true
all-plain [] kinds = refl
all-plain (l ∷ ls) kinds =
    let both = and_parts (is_on_literals l.step) (list_all (λ (m : Line). is_on_literals m.step) ls) kinds in
    and_from (is_plain_step l.step) (list_all (λ (m : Line). is_plain_step m.step) ls) (plain-step l.step both.0) (all-plain ls both.1)

-- ---- results

module _ (usage : SymbolUse) (inputs : List TreeClause) (options : Options) (j : GivenJob) (r : PoolRecord) (sound : Sound usage inputs r) where
  fit :
      (lines : List Line) (results : List Clause) (c : TreeClause)
      → Arrives usage inputs r.registered lines → result_of lines ≡ Some c → map clause_of results ≡ handed_back options.split c
      → IsFitResult options.split (length r.parts) lines results
  fit lines results c arrives led given =
      let whole = (batch-continues usage inputs r sound lines arrives c led).whole in
      record {
        clause = c;
        lead = record {
          led = led;
          asserts = whole.asserts;
          met = whole.met;
          plain = all-plain lines arrives.from.lines_right.kinds;
          parents = parents-below usage.is_predicate arrives.clauses lines arrives.from.lines_right;
        };
        given = handed-in c options.split results given;
        fit = λ many. parts-fit c usage whole.formed whole.small options.split results (handed-in c options.split results given) many;
        canonical = whole.canonical;
        small = whole.small;
      }

  fit-entry : (key : Key) (fate : Fate) → IsRightFate usage.is_predicate options (clauses_of r) j key fate → IsFit options.split (length r.parts) fate
  fit-entry key (Kept lines results) right =
      let e : Entry = record { key = key; fate = Kept lines results } in
      fit lines results right.result ((all-entries-come usage inputs options j r sound (e ∷ []) (right, tt)).0) right.reduced.led right.given
  fit-entry key (Dropped redundancy) right = tt
  fit-entry key Heavy right = tt

  fit-removal :
      (victim : ℕ) (justifiers : List ℕ) (fate : Fate)
      → IsRightRemovalBy usage.is_predicate options (clauses_of r) j victim justifiers fate → IsFit options.split (length r.parts) fate
  fit-removal victim justifiers (Kept lines results) right =
      let m : Removal = record { victim = victim; justifiers = justifiers; fate = Kept lines results } in
      fit lines results right.result ((all-removals-come usage inputs options j r sound (m ∷ []) (right, tt)).0 lines refl) right.reduced.led right.given
  fit-removal victim justifiers (Dropped redundancy) right = tt
  fit-removal victim justifiers Heavy right = tt

  pub fit-work : (work : Work) → IsRightWork usage.is_predicate options (clauses_of r) j work → IsFitWork options.split (length r.parts) work
  fit-work (Gone m) right = record {
    entries = λ k d below. absurd (omega (arith, below));
    removals = λ k d below. by k d below;
  }
    where
      by : (k : ℕ) (d : Removal) → k < 1 → IsFit options.split (length r.parts) (get_or (m ∷ []) k d).fate
      by zero d below = fit-removal m.victim m.justifiers m.fate right.right
      by (suc k) d below = absurd (omega (arith, below))
  fit-work (Met entries removals) right = record {
    entries = λ k d below. fit-entry (get_or entries k d).key (get_or entries k d).fate (right.right_entries k d below);
    removals = λ k d below. fit-removal (get_or removals k d).victim (get_or removals k d).justifiers (get_or removals k d).fate (right.right_removals k d below);
  }
