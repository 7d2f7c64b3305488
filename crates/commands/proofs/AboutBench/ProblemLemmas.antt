-- The formulas of a bench problem have no free variables, can be printed, and are few.
use Rattle.std.proofs.Common.{◌≡◌, ◌≤◌, ℕ, zero, suc, ◌+◌, ◌*◌, ◌-◌, ◌==◌, Bool, true, List, [], ◌∷◌, ◌++◌, length, map, codes, refl, arith}
use Rattle.std.specs.Fmt.{decimal}
use Rattle.std.specs.List.{list_all, AllByRecursion, range_with_len}
use Rattle.std.proofs.lemmas.Bool.{and_from}
use Rattle.tptp_token.specs.Spelling.{is_printable}
use Rattle.tptp_tree.specs.Levels.{formula_levels}
use Rattle.tptp_tree.specs.Shape.{formula_of, entry_of}
use Rattle.tptp_tree.specs.ProblemSize.{occurrences, problem_size, HasProblemSize}
use Rattle.tptp_tree.specs.declared.problem.Annotated.{Annotated}
use Rattle.tptp_tree.proofs.NameLemmas.{WellName}
use Rattle.signature.specs.Environment.{free_names, closed}
use Rattle.laws_meaning.specs.Meaning.{are_closed}
use Rattle.tstp_writer.specs.ProblemLaws.{IsPrintableEntry, ArePrintableEntries}
use Rattle.tstp_writer.proofs.ReadAgain.ProblemLemmas.{decimal-printable}
use Rattle.commands.specs.AnswerShape.{IsAdmissible}
use Rattle.commands.specs.BenchProblem.{chain_name, first_link, link, back_link, last_link, bench_formulas}
use Rattle.command_words.specs.declared.command.TheConstants.{MOST_BENCH}
use Rattle.commands.proofs.AboutMade.{well-spelled}

-- ---- what each link has, and what stands after the links

links-all :
    (P : Annotated → Bool) → ((i : ℕ) → P (link i) ≡ true) → (rest : List Annotated) → list_all P rest ≡ true
    → (from count : ℕ) → list_all P (map link (range_with_len from count) ++ rest) ≡ true
links-all P each rest h from zero = h
links-all P each rest h from (suc count) =
    and_from (P (link from)) (list_all P (map link (range_with_len (from + 1) count) ++ rest)) (each from)
    (links-all P each rest h (from + 1) count)

links-each :
    (Q : Annotated → Type 0) → ((i : ℕ) → Q (link i)) → (rest : List Annotated) → AllByRecursion Q rest
    → (from count : ℕ) → AllByRecursion Q (map link (range_with_len from count) ++ rest)
links-each Q each rest h from zero = h
links-each Q each rest h from (suc count) = (each from, links-each Q each rest h (from + 1) count)

-- ---- no free variables

bench-closed : (number : ℕ) → are_closed (bench_formulas number) ≡ true
bench-closed number =
    links-all (λ (a : Annotated). length (free_names (closed a)) == 0) (λ i. refl) (back_link ∷ last_link number ∷ []) refl 1 number

-- ---- names and formulas can be printed

letter-printable : (letter n : ℕ) → is_printable letter ≡ true → list_all is_printable (letter ∷ decimal n) ≡ true
letter-printable letter n h = and_from (is_printable letter) (list_all is_printable (decimal n)) h (decimal-printable n)

chain-well : (i : ℕ) → WellName (chain_name i)
chain-well i = record { printable = letter-printable 112 i refl; some = omega arith }

g-well : WellName (codes "g")
g-well = record { printable = refl; some = omega arith }

z-well : WellName (codes "z")
z-well = record { printable = refl; some = omega arith }

first-printable : IsPrintableEntry (entry_of first_link)
first-printable = record {
  name = record { printable = refl; some = omega arith };
  role = refl;
  spelled = well-spelled (formula_of (first_link).formula) (chain-well 0, ((z-well, tt), tt));
  form = refl;
  levels = let e : formula_levels (formula_of (first_link).formula) ≡ 1 = refl in omega (arith, e);
}

link-printable : (i : ℕ) → IsPrintableEntry (entry_of (link i))
link-printable i = record {
  name = record { printable = letter-printable 114 i refl; some = omega arith };
  role = refl;
  spelled =
      well-spelled (formula_of (link i).formula)
      (tt, (refl, tt), ((chain-well (i - 1), (refl, tt)), (chain-well i, ((g-well, (refl, ((z-well, tt), tt))), tt))));
  form = refl;
  levels = let e : formula_levels (formula_of (link i).formula) ≡ 4 = refl in omega (arith, e);
}

back-printable : IsPrintableEntry (entry_of back_link)
back-printable = record {
  name = record { printable = refl; some = omega arith };
  role = refl;
  spelled = well-spelled (formula_of (back_link).formula) (tt, (refl, tt), ((g-well, (refl, ((z-well, tt), tt))), refl));
  form = refl;
  levels = let e : formula_levels (formula_of (back_link).formula) ≡ 2 = refl in omega (arith, e);
}

last-printable : (number : ℕ) → IsPrintableEntry (entry_of (last_link number))
last-printable number = record {
  name = record { printable = refl; some = omega arith };
  role = refl;
  spelled = well-spelled (formula_of (last_link number).formula) (chain-well number, ((z-well, tt), tt));
  form = refl;
  levels = let e : formula_levels (formula_of (last_link number).formula) ≡ 1 = refl in omega (arith, e);
}

bench-printable : (number : ℕ) → ArePrintableEntries (bench_formulas number)
bench-printable number = (
  first-printable,
  links-each (λ (a : Annotated). IsPrintableEntry (entry_of a)) link-printable (back_link ∷ last_link number ∷ [])
      (back-printable, (last-printable number, tt)) 1 number,
)

-- ---- the size

links-size :
    (rest : List Annotated) (from count : ℕ) → problem_size (map link (range_with_len from count) ++ rest) ≡ 8 * count + problem_size rest
links-size rest from zero = omega arith
links-size rest from (suc count) =
    let one : occurrences (formula_of (link from).formula) ≡ 7 = refl in omega (arith, one, links-size rest (from + 1) count)

bench-size : (number : ℕ) → number ≤ MOST_BENCH → HasProblemSize (bench_formulas number)
bench-size number most =
    let rest : problem_size (back_link ∷ last_link number ∷ []) ≡ 9 = refl in
    let first : occurrences (formula_of (first_link).formula) ≡ 2 = refl in
    omega (arith, most, rest, first, links-size (back_link ∷ last_link number ∷ []) 1 number)

pub bench-admissible : (number : ℕ) → number ≤ MOST_BENCH → IsAdmissible (bench_formulas number)
bench-admissible number most =
    record { closed = bench-closed number; printable = bench-printable number; size = bench-size number most }
