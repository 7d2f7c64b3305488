-- What a result changes, by the form in which it comes.
use Rattle.std.proofs.Common.{◌≡◌, ◌-◌, Bool, true, false, ◌&&◌, List, [], ◌∷◌, ◌++◌, map, length, refl, ap, ap₂, sym, ◌∙◌}
use Rattle.std.specs.Prelude.{Option, None, Some, is_none, if◌then◌else◌}
use Rattle.std.proofs.lemmas.Bool.{cond-true, cond-false}
use Rattle.std.proofs.lemmas.Option.{none-some, same_Some}
use Rattle.fol_base.specs.Clause.{TreeClause}
use Rattle.fol_base.specs.Literal.{clause_of}
use Rattle.kernel_steps.specs.declared.step.Line.{Line}
use Rattle.pool_history.specs.Components.{is_to_split}
use Rattle.pool_history.specs.Counting.{comes_by, refutes, result_comes}
use Rattle.pool_history.specs.Lines.{pool_line, result_of, with_lines}
use Rattle.pool_history.specs.Record.{PoolRecord, has_living}
use Rattle.pool_history.specs.Registering.{comes, empty_comes, has_none, registered_last, split_up, with_propositional, with_refutation}
use Rattle.pool_history.specs.Tags.{line_names}
use Rattle.pool_core.specs.Placing.{outcome_by}
use Rattle.pool_history.specs.declared.outcome.Outcome.{Outcome}
use Rattle.pool_history.specs.declared.outcome.Outcome.TheVariants.{Refuted}

-- the record with one more clause, whose line is the last
abbrev pub with_result : PoolRecord → List Line → TreeClause → Option Outcome → PoolRecord
with_result r lines c e = record r {
  registered = r.registered ++ record { clause = c; line = length (r.lines ++ lines) - 1 } ∷ [];
  lines = r.lines ++ lines;
  ended = e;
}

pub result-ended : (split : Bool) (r : PoolRecord) (lines : List Line) → is_none r.ended ≡ false → result_comes split r lines ≡ r
result-ended split r lines ended = ap (λ b. if b then comes_by split lines (result_of lines) r else r) ended

module _ (split : Bool) (r : PoolRecord) (lines : List Line) (c : TreeClause) where
  abbrev placed_lines : List Line
  placed_lines = map (pool_line r) lines

  abbrev come : Bool → Bool → Bool → PoolRecord
  come none splits living =
      if none
      then empty_comes c (with_lines r placed_lines)
      else (if splits then split_up c (with_lines r placed_lines) else (if living then r else registered_last c (with_lines r placed_lines)))

  comes-by : r.ended ≡ None → result_of lines ≡ Some c → result_comes split r lines ≡ comes split placed_lines c r
  comes-by is_open led =
      ap (λ (o : Option Outcome). if is_none o then comes_by split lines (result_of lines) r else r) is_open
      ∙ ap (λ (o : Option TreeClause). comes_by split lines o r) led

  comes-as :
      (none splits living : Bool) → r.ended ≡ None → result_of lines ≡ Some c
      → has_none c.literals ≡ none → is_to_split split c.literals ≡ splits → has_living r c ≡ living → result_comes split r lines ≡ come none splits living
  comes-as none splits living is_open led is_empty is_split is_living =
      comes-by is_open led
      ∙ ap₂ (λ a b. come a b (has_living r c)) is_empty is_split ∙ ap (come none splits) is_living

  -- without literals and assertions it refutes
  pub result-empty : r.ended ≡ None → result_of lines ≡ Some c → has_none c.literals ≡ true → has_none c.names ≡ true → result_comes split r lines ≡ with_result r placed_lines c (Some Refuted)
  result-empty is_open led none bare =
      comes-as true (is_to_split split c.literals) (has_living r c) is_open led none refl refl
      ∙ cond-true (has_none c.names) (with_refutation (registered_last c (with_lines r placed_lines)))
      (with_propositional (line_names r.parts c.names) (with_lines r placed_lines)) bare

  -- it is registered, and refutes where it has no literals
  pub result-whole :
      r.ended ≡ None → result_of lines ≡ Some c → is_to_split split c.literals ≡ false → (has_none c.literals ≡ true → c.names ≡ []) → has_living r c ≡ false
      → result_comes split r lines ≡ with_result r placed_lines c (outcome_by (has_none c.literals))
  result-whole is_open led whole bare new = by (has_none c.literals) refl
    where
      by : (b : Bool) → has_none c.literals ≡ b → result_comes split r lines ≡ with_result r placed_lines c (outcome_by (has_none c.literals))
      by true none =
          result-empty is_open led none (ap has_none (bare none))
          ∙ ap (λ b. with_result r placed_lines c (outcome_by b)) (sym none)
      by false some =
          comes-as false false false is_open led some whole new
          ∙ ap (λ (o : Option Outcome). with_result r placed_lines c o) is_open
          ∙ ap (λ b. with_result r placed_lines c (outcome_by b)) (sym some)

  -- an equal one lives
  pub result-again :
      r.ended ≡ None → result_of lines ≡ Some c → is_to_split split c.literals ≡ false → has_none c.literals ≡ false → has_living r c ≡ true
      → result_comes split r lines ≡ r
  result-again is_open led whole some there = comes-as false false true is_open led some whole there

  -- a clause over names comes of its assertions
  pub result-contradiction :
      r.ended ≡ None → result_of lines ≡ Some c → has_none c.literals ≡ true → has_none c.names ≡ false
      → result_comes split r lines ≡ with_propositional (line_names r.parts c.names) (with_lines r placed_lines)
  result-contradiction is_open led none asserts =
      comes-as true (is_to_split split c.literals) (has_living r c) is_open led none refl refl
      ∙ cond-false (has_none c.names) (with_refutation (registered_last c (with_lines r placed_lines)))
      (with_propositional (line_names r.parts c.names) (with_lines r placed_lines)) asserts

  -- it falls into parts
  pub result-split :
      r.ended ≡ None → result_of lines ≡ Some c → has_none c.literals ≡ false → is_to_split split c.literals ≡ true
      → result_comes split r lines ≡ split_up c (with_lines r placed_lines)
  result-split is_open led some splits = comes-as false true (has_living r c) is_open led some splits refl

-- whether the lines lead to the clause without literals and assertions
pub refutes-is : (lines : List Line) (c : TreeClause) → result_of lines ≡ Some c → refutes lines ≡ (has_none c.literals && has_none c.names)
refutes-is [] c led = absurd (none-some c led)
refutes-is (l ∷ []) c led = ap (λ (d : TreeClause). has_none d.literals && has_none d.names) (same_Some (clause_of l.clause) c led)
refutes-is (l ∷ m ∷ ls) c led = refutes-is (m ∷ ls) c led
