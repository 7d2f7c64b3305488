-- No formula of a bench problem passes a limit of its clausal form: each has one small clause, and no Skolem symbol is made.
use Rattle.std.proofs.Common.{◌≡◌, ◌≤◌, ℕ, zero, suc, ◌+◌, ◌*◌, List, [], ◌∷◌, ◌++◌, length, map, refl, ap, ◌∙◌, arith}
use Rattle.std.specs.Prelude.{Option, None, Some, nat_lt, if◌then◌else◌}
use Rattle.std.specs.List.{range_with_len}
use Rattle.std.proofs.lemmas.Bool.{le-ltb}
use Rattle.fol_base.specs.declared.limits.TheConstants.{MOST_FORM_SYMBOLS}
use Rattle.tptp_tree.specs.declared.problem.Annotated.{Annotated}
use Rattle.signature.specs.Clausal.{SymbolNumbers, Made, Worked, annotated_clauses}
use Rattle.signature.specs.Form.{symbol_numbers, nothing_made}
use Rattle.clausal_form.specs.Fault.{counted_in, formula_fault, fault_or, first_fault, form_fault}
use Rattle.clausal_form.specs.declared.fault.FormCause.{FormCause}
use Rattle.clausal_form.specs.declared.fault.FormCause.TheVariants.{TotalLimit}
use Rattle.commands.specs.BenchProblem.{first_link, link, back_link, last_link, bench_formulas}
use Rattle.command_words.specs.declared.command.TheConstants.{MOST_BENCH}

-- so many clauses and symbols are few
few : (total : ℕ) → total ≤ 100000 → (if nat_lt MOST_FORM_SYMBOLS total then Some TotalLimit else None) ≡ None
few total h = ap (λ b. if b then Some TotalLimit else None) (le-ltb MOST_FORM_SYMBOLS total (omega (arith, h)))

module _ (n : SymbolNumbers) where
  -- ---- one formula, where no Skolem symbol is made

  first-fits : (counted : ℕ) (m : Made) → counted ≤ 90000 → length m.skolem_arities ≡ 0 → formula_fault n first_link counted m ≡ None
  first-fits counted m h none =
      let w : Worked = annotated_clauses n first_link m in
      let size : counted_in w.clauses ≡ 4 = refl in
      few (counted + counted_in w.clauses + length m.skolem_arities) (omega (arith, h, none, size))

  link-fits : (i counted : ℕ) (m : Made) → counted ≤ 90000 → length m.skolem_arities ≡ 0 → formula_fault n (link i) counted m ≡ None
  link-fits i counted m h none =
      let w : Worked = annotated_clauses n (link i) m in
      let size : counted_in w.clauses ≡ 9 = refl in
      few (counted + counted_in w.clauses + length m.skolem_arities) (omega (arith, h, none, size))

  back-fits : (counted : ℕ) (m : Made) → counted ≤ 90000 → length m.skolem_arities ≡ 0 → formula_fault n back_link counted m ≡ None
  back-fits counted m h none =
      let w : Worked = annotated_clauses n back_link m in
      let size : counted_in w.clauses ≡ 5 = refl in
      few (counted + counted_in w.clauses + length m.skolem_arities) (omega (arith, h, none, size))

  last-fits : (number counted : ℕ) (m : Made) → counted ≤ 90000 → length m.skolem_arities ≡ 0 → formula_fault n (last_link number) counted m ≡ None
  last-fits number counted m h none =
      let w : Worked = annotated_clauses n (last_link number) m in
      let size : counted_in w.clauses ≡ 4 = refl in
      few (counted + counted_in w.clauses + length m.skolem_arities) (omega (arith, h, none, size))

  -- ---- formulas, one after another

  then-fits :
      (a : Annotated) (fs : List Annotated) (counted : ℕ) (m : Made) → formula_fault n a counted m ≡ None
      → (let w : Worked = annotated_clauses n a m in first_fault n fs (counted + counted_in w.clauses) w.made) ≡ None
      → first_fault n (a ∷ fs) counted m ≡ None
  then-fits a fs counted m one others =
      let w : Worked = annotated_clauses n a m in
      ap (λ (o : Option FormCause). fault_or o a.name (first_fault n fs (counted + counted_in w.clauses) w.made)) one ∙ others

  rest-fits : (number counted : ℕ) (m : Made) → counted ≤ 80000 → length m.skolem_arities ≡ 0 → first_fault n (back_link ∷ last_link number ∷ []) counted m ≡ None
  rest-fits number counted m h none =
      let w : Worked = annotated_clauses n back_link m in
      let size : counted_in w.clauses ≡ 5 = refl in
      then-fits back_link (last_link number ∷ []) counted m (back-fits counted m (omega (arith, h)) none)
      (then-fits (last_link number) [] (counted + counted_in w.clauses) w.made
      (last-fits number (counted + counted_in w.clauses) w.made (omega (arith, h, size)) none) refl)

  links-fit :
      (number from count counted : ℕ) (m : Made) → counted + 9 * count ≤ 80000 → length m.skolem_arities ≡ 0
      → first_fault n (map link (range_with_len from count) ++ back_link ∷ last_link number ∷ []) counted m ≡ None
  links-fit number from zero counted m h none = rest-fits number counted m (omega (arith, h)) none
  links-fit number from (suc count) counted m h none =
      let w : Worked = annotated_clauses n (link from) m in
      let size : counted_in w.clauses ≡ 9 = refl in
      then-fits (link from) (map link (range_with_len (from + 1) count) ++ back_link ∷ last_link number ∷ []) counted m
      (link-fits from counted m (omega (arith, h)) none)
      (links-fit number (from + 1) count (counted + counted_in w.clauses) w.made (omega (arith, h, size)) none)

  all-fit : (number : ℕ) → number ≤ MOST_BENCH → first_fault n (bench_formulas number) 0 nothing_made ≡ None
  all-fit number most =
      let w : Worked = annotated_clauses n first_link nothing_made in
      let size : counted_in w.clauses ≡ 4 = refl in
      then-fits first_link (map link (range_with_len 1 number) ++ back_link ∷ last_link number ∷ []) 0 nothing_made
      (first-fits 0 nothing_made (omega arith) refl)
      (links-fit number 1 number (0 + counted_in w.clauses) w.made (omega (arith, most, size)) refl)

pub bench-within : (number : ℕ) → number ≤ MOST_BENCH → form_fault (bench_formulas number) ≡ None
bench-within number most = all-fit (symbol_numbers (bench_formulas number)) number most
