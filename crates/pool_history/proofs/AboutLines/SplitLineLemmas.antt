-- A clause that falls into parts: each part gets its tag and its lines, the split line is a kernel step, and the parts are registered by the lines
-- of their definitions.
use Rattle.std.proofs.Common.{◌≡◌, ℕ, zero, suc, ◌+◌, ◌<◌, ◌≤◌, Bool, true, false, ◌&&◌, List, [], ◌∷◌, ◌++◌, map, length, take, append-nil, append_assoc, refl, ap, ap₂, sym, ◌∙◌, subst, ⊎_elim, arith}
use Rattle.std.specs.Prelude.{None, Some, slice_get, slice_index_or, flat_map, sum_by}
use Rattle.std.specs.List.{list_all}
use Rattle.std.proofs.Math.Seq.{take-append-add}
use Rattle.std.proofs.lemmas.Bool.{true≢false, and_from}
use Rattle.std.proofs.lemmas.List.{take-append-le, length-append}
use Rattle.std.proofs.lemmas.List.Elements.{All-nil, All-cons, All-append}
use Rattle.std.proofs.lemmas.List.Sums.{sum_by-cons}
use Rattle.std.proofs.lemmas.Option.{none-some, same_Some, slice_get_within}
use Rattle.fol_base.proofs.WorkedExamples.TestLemmas.{list_all-joined}
use Rattle.plain_types.specs.declared.sequence.NameLit.{NameLit}
use Rattle.plain_types.specs.Names.{positive_of, negative_of}
use Rattle.fol_base.specs.Tree.{true_symbol}
use Rattle.fol_base.specs.Clause.{TreeLiteral, TreeClause, literal_size, literal_variables}
use Rattle.fol_base.specs.Canonical.{distinct, numbers_from}
use Rattle.fol_base.specs.Literal.{clause_of}
use Rattle.fol_base.specs.WellFormed.{SymbolUse, is_literal_of}
use Rattle.kernel_steps.specs.Names.{are_sorted}
use Rattle.kernel_steps.specs.Derivation.{complement, under_names, is_clause_step, ComesBy}
use Rattle.kernel_steps.specs.FromTrees.{clause_from, line_of}
use Rattle.kernel_steps.specs.Soundness.{bindings_of, binds_each}
use Rattle.kernel_steps.specs.Symbols.{symbols_pass, literal_symbols_pass, clause_symbols_pass}
use Rattle.kernel_steps.specs.declared.step.Step.{Step}
use Rattle.kernel_steps.specs.declared.step.Step.TheVariants.{Component, Opposite}
use Rattle.kernel_steps.specs.declared.step.Line.{Line}
use Rattle.split_parts.specs.Tags.{has_part, with_part}
use Rattle.split_parts.specs.SignedNames.{is_ground_negative, affirmed, named, signed_name}
use Rattle.split_parts.proofs.AboutTags.TagLawLemmas.{met-there}
use Rattle.pool_history.specs.Tags.{name_count}
use Rattle.pool_history.specs.Record.{PoolRecord, Registered, propositional_clauses}
use Rattle.pool_history.specs.Registering.{definitions, with_new_part}
use Rattle.pool_history.specs.Wholeness.{IsWhole}
use Rattle.pool_history.specs.Derived.{IsPoolLine}
use Rattle.pool_history.proofs.AboutRecords.FrameLemmas.{by-if}
use Rattle.pool_history.proofs.AboutRecords.ItemLemmas.{all-at}
use Rattle.pool_history.proofs.AboutLines.JoinedLemmas.{by-test, get-left, get-cases, BehindAt}
use Rattle.pool_history.proofs.AboutLines.AssertionLemmas.{line_names-grown, below-from}
use Rattle.pool_history.proofs.AboutLines.WrittenLemmas.{clause-written, written-line}
use Rattle.pool_history.proofs.AboutLines.NameBoundLemmas.{all-below-higher, more-names}
use Rattle.pool_history.proofs.AboutLines.NewNameLemmas.{next, component_lines, opposite_lines, new-named, component-comes, opposite-comes}
use Rattle.pool_history.proofs.AboutLines.PartLemmas.{IsPart}
use Rattle.pool_history.proofs.AboutLines.PoolLineLemmas.{HasLine, Sound, GoOn, lines-joined, not-refuted}

-- ---- a literal and its complement

complements-pass :
    (p : TreeLiteral → Bool) → ((l : TreeLiteral) → p (complement l) ≡ p l) → (ls : List TreeLiteral) → list_all p (map complement ls) ≡ list_all p ls
complements-pass p same [] = refl
complements-pass p same (l ∷ ls) = ap₂ (λ a b. a && b) (same l) (complements-pass p same ls)

complements-size : (ls : List TreeLiteral) → sum_by literal_size (map complement ls) ≡ sum_by literal_size ls
complements-size [] = refl
complements-size (l ∷ ls) =
    sum_by-cons literal_size (complement l) (map complement ls) ∙ ap (λ n. literal_size l + n) (complements-size ls) ∙ sym (sum_by-cons literal_size l ls)

complements-variables : (ls : List TreeLiteral) → flat_map literal_variables (map complement ls) ≡ flat_map literal_variables ls
complements-variables [] = refl
complements-variables (l ∷ ls) = ap (λ vs. literal_variables l ++ vs) (complements-variables ls)

-- what holds of literals and of their complements holds of what is named
affirmed-is : (P : List TreeLiteral → Type 0) (part : List TreeLiteral) → P part → P (map complement part) → P (affirmed part)
affirmed-is P part one other = by-if P (is_ground_negative part) (map complement part) part other one

-- ---- several lines, one after another

module _ (usage : SymbolUse) (inputs : List TreeClause) where
  no-lines-go-on : (lines : List Line) → GoOn usage inputs lines []
  no-lines-go-on lines = record {
    comes = λ k line there. absurd (none-some line there);
    each = All-nil (IsPoolLine usage);
    symbols = λ test truth pass. (refl, refl);
  }

  pub line-goes-on :
      (lines : List Line) (step : Step) (c : TreeClause)
      → ComesBy step inputs lines c → IsPoolLine usage (line_of step c) → bindings_of step ≡ []
      → ((test : ℕ → ℕ → Bool)
      → test true_symbol 0 ≡ true → list_all (clause_symbols_pass test) inputs ≡ true → clause_symbols_pass test c ≡ true)
      → GoOn usage inputs lines (line_of step c ∷ [])
  line-goes-on lines step c comes pool none passes = record {
    comes = comes_one;
    each = All-cons (IsPoolLine usage) (line_of step c) [] pool (All-nil (IsPoolLine usage));
    symbols =
        λ test truth pass. (
          and_from (clause_symbols_pass test (clause_of (clause_from c))) true
              (ap (clause_symbols_pass test) (clause-written c) ∙ passes test truth pass) refl,
          and_from (binds_each (symbols_pass test) step) true (ap (list_all (list_all (symbols_pass test))) none) refl,
        );
  }
    where
      comes_one :
          (k : ℕ) (line : Line) → slice_get (line_of step c ∷ []) k ≡ Some line
          → ComesBy line.step inputs (lines ++ take k (line_of step c ∷ [])) (clause_of line.clause)
      comes_one zero line there =
          subst (λ (m : Line). ComesBy m.step inputs (lines ++ take zero (line_of step c ∷ [])) (clause_of m.clause))
          (same_Some (line_of step c) line there)
          (subst (λ ls. ComesBy step inputs ls (clause_of (clause_from c))) (sym (append-nil lines)) (subst (ComesBy step inputs lines) (sym (clause-written c)) comes))
      comes_one (suc k) line there = absurd (none-some line there)

  joined-go-on :
      (lines first second : List Line)
      → GoOn usage inputs lines first → GoOn usage inputs (lines ++ first) second → GoOn usage inputs lines (first ++ second)
  joined-go-on lines first second one other = record {
    comes =
        λ k line there.
        ⊎_elim
        (λ (before : slice_get first k ≡ Some line).
        let within : k < length first = slice_get_within first k line before in
        let below : k ≤ length first = omega (arith, within) in
        subst (λ ls. ComesBy line.step inputs (lines ++ ls) (clause_of line.clause)) (sym (take-append-le k first second below)) (one.comes k line before))
        (λ (at : BehindAt first second k line).
        subst (λ ls. ComesBy line.step inputs ls (clause_of line.clause))
        (append_assoc lines first (take at.place second)
        ∙ ap (λ ls. lines ++ ls) (sym (ap (λ m. take m (first ++ second)) at.whole ∙ take-append-add first second at.place)))
        (other.comes at.place line at.there))
        (get-cases first second k line there);
    each = All-append (IsPoolLine usage) first second one.each other.each;
    symbols =
        λ test truth pass.
        let before = one.symbols test truth pass in
        let after = other.symbols test truth pass in (
          list_all-joined (λ (l : Line). clause_symbols_pass test (clause_of l.clause)) first second before.0 after.0,
          list_all-joined (λ (l : Line). binds_each (symbols_pass test) l.step) first second before.1 after.1,
        );
  }

  -- ---- the lines of a new part

  module _ (r : PoolRecord) (sound : Sound usage inputs r) (part : List TreeLiteral) (new : has_part part r.parts ≡ false) (is : IsPart usage inputs part) where
    affirmed-pool :
        (step : Step) (names : List NameLit) → is_clause_step step ≡ true → bindings_of step ≡ [] → are_sorted names ≡ true
        → IsPoolLine usage (line_of step (under_names (affirmed part) names))
    affirmed-pool step names is_clause none sorted =
        affirmed-is (λ ls. IsPoolLine usage (line_of step (under_names ls names))) part
        (written-line usage step (under_names part names) is_clause none is.canonical sorted is.formed is.small)
        (written-line usage step (under_names (map complement part) names) is_clause none
        (subst (λ vs. let order = distinct vs in order ≡ numbers_from 0 (length order)) (sym (complements-variables part)) is.canonical)
        sorted (complements-pass (is_literal_of usage) (λ l. refl) part ∙ is.formed)
        (let same = complements-size part in let small = is.small in omega (arith, same, small)))

    affirmed-passes :
        (test : ℕ → ℕ → Bool)
        → test true_symbol 0 ≡ true → list_all (clause_symbols_pass test) inputs ≡ true → list_all (literal_symbols_pass test) (affirmed part) ≡ true
    affirmed-passes test truth pass =
        affirmed-is (λ ls. list_all (literal_symbols_pass test) ls ≡ true) part (is.passes test truth pass)
        (complements-pass (literal_symbols_pass test) (λ l. refl) part ∙ is.passes test truth pass)

    abbrev number : NameLit
    number = next r.parts r.lines sound.named part new

    abbrev first_lines : List Line
    first_lines = component_lines r.parts r.lines sound.named part new

    abbrev second_lines : List Line
    second_lines = opposite_lines r.parts r.lines sound.named part new

    component-goes-on : GoOn usage inputs r.lines first_lines
    component-goes-on =
        by-test (GoOn usage inputs r.lines) (has_part (affirmed part) (named r.parts)) []
        (line_of (Component number.name) (under_names (affirmed part) (negative_of number.name ∷ [])) ∷ [])
        (λ known. no-lines-go-on r.lines)
        (λ fresh.
        line-goes-on r.lines (Component number.name) (under_names (affirmed part) (negative_of number.name ∷ []))
        (component-comes r.parts r.lines sound.named part new fresh is.some)
        (affirmed-pool (Component number.name) (negative_of number.name ∷ []) refl refl refl) refl affirmed-passes)

    opposite-goes-on : GoOn usage inputs (r.lines ++ first_lines) second_lines
    opposite-goes-on =
        by-test (GoOn usage inputs (r.lines ++ first_lines)) number.positive []
        (line_of (Opposite number.name) (under_names part (positive_of number.name ∷ [])) ∷ [])
        (λ positive. no-lines-go-on (r.lines ++ first_lines))
        (λ negative.
        line-goes-on (r.lines ++ first_lines) (Opposite number.name) (under_names part (positive_of number.name ∷ []))
        (opposite-comes r.parts r.lines sound.named part new negative)
        (written-line usage (Opposite number.name) (under_names part (positive_of number.name ∷ [])) refl refl is.canonical refl is.formed is.small)
        refl is.passes)

    pub new-lines : List Line
    new-lines = definitions r.parts part (signed_name (with_part r.parts part) part)

    pub new-go-on : GoOn usage inputs r.lines (first_lines ++ second_lines)
    new-go-on = joined-go-on r.lines first_lines second_lines component-goes-on opposite-goes-on

    grows : length r.parts ≤ length (with_part r.parts part)
    grows =
        by-if (λ (cs : List (List TreeLiteral)). length r.parts ≤ length cs) (has_part part r.parts) r.parts (r.parts ++ part ∷ []) (omega arith)
        (let count : length (r.parts ++ part ∷ []) ≡ length r.parts + 1 = length-append r.parts (part ∷ []) in omega (arith, count))

    pub whole-grown : (c : TreeClause) → IsWhole usage (length r.parts) c → IsWhole usage (length (with_part r.parts part)) c
    whole-grown c whole = record {
      canonical = whole.canonical;
      asserts = whole.asserts;
      met = λ k d within. let below = whole.met k d within in omega (arith, below, grows);
      small = whole.small;
      formed = whole.formed;
    }

    -- a clause that has its line keeps it
    pub line-grown :
        (x : Registered) → IsWhole usage (length r.parts) x.clause → HasLine usage inputs r.parts r.lines x
        → HasLine usage inputs (with_part r.parts part) (r.lines ++ (first_lines ++ second_lines)) x
    line-grown x whole at = record {
      line = at.line;
      there = get-left r.lines (first_lines ++ second_lines) x.line at.line at.there;
      gives =
          at.gives
          ∙ ap (under_names x.clause.literals)
          (sym (line_names-grown r.parts part x.clause.names (below-from (length r.parts) x.clause.names whole.asserts.negative whole.met)));
    }

    pub new-part-sound : r.ended ≡ None → Sound usage inputs (with_new_part part (with_part r.parts part) r)
    new-part-sound is_open = record {
      whole = λ k d within. whole-grown (slice_index_or r.registered k d).clause (sound.whole k d within);
      lined = λ n x there. line-grown x (all-at (λ (y : Registered). IsWhole usage (length r.parts) y.clause) r.registered n x sound.whole there) (sound.lined n x there);
      made = lines-joined usage inputs r.lines (first_lines ++ second_lines) sound.made new-go-on;
      named = new-named r.parts r.lines sound.named part new;
      over_names =
          λ n p there.
          let at = sound.over_names n p there in
          record { line = at.line; there = get-left r.lines (first_lines ++ second_lines) p.line at.line at.there; gives = at.gives };
      handed_few = sound.handed_few;
      bare = λ none. absurd (true≢false (sym (met-there r.parts part) ∙ ap (has_part part) none));
      below =
          all-below-higher (name_count r.parts) (name_count (with_part r.parts part)) (propositional_clauses r) (more-names r.parts part) sound.below;
      refuted = λ h. absurd (not-refuted usage inputs r.ended is_open h);
    }
