-- One formula's part of the form.
use Rattle.std.proofs.Common.{◌≡◌, ℕ, ◌+◌, ◌<◌, ◌≤◌, Bool, true, false, not, List, [], ◌∷◌, ◌++◌, length, refl, ap, sym, subst, ◌∙◌, arith}
use Rattle.std.specs.Prelude.{nat_lt, Option, None, Some, flat_map, if◌then◌else◌}
use Rattle.std.proofs.lemmas.Bool.{ltb-true, ltb-false}
use Rattle.tptp_tree.specs.Entries.{is_conjecture}
use Rattle.tptp_tree.specs.Shape.{formula_of}
use Rattle.tptp_tree.specs.declared.problem.Annotated.{Annotated}
use Rattle.signature.specs.declared.symbol.Symbol.{Symbol}
use Rattle.signature.specs.Symbol.{function_symbol}
use Rattle.signature.specs.Occurrences.{formula_symbols}
use Rattle.signature.specs.Environment.{closed}
use Rattle.signature.specs.Clausal.{SymbolNumbers, Made, Worked, Literals, annotated_clauses}
use Rattle.signature.specs.Form.{numbered_symbols}
use Rattle.formula_nnf.specs.Expanded.{expanded_count}
use Rattle.formula_nnf.specs.NormalForm.{normal_form}
use Rattle.plain_types.specs.Capped.{capped}
use Rattle.skolem.specs.Matrix.{MatrixTree}
use Rattle.skolem.specs.Skolemized.{AreKnown}
use Rattle.skolem.specs.MatrixClauses.{matrix_clauses}
use Rattle.skolem.specs.ProblemLaws.{AreAllSymbols}
use Rattle.skolem.proofs.AboutFormulas.ProblemLemmas.{skolem_symbols_are_numbered_on}
use Rattle.clausal_form.specs.Formula.{form_by_itself, Passes}
use Rattle.clausal_form.specs.Measure.{symbols_in, largest, ClauseMeasure, measure_of, capped_measure, capped_measured, sum_measure}
use Rattle.clausal_form.specs.Naming.{IsMeasured, IsWork, defining_clauses, definition_clauses, naming_made, naming_numbers}
use Rattle.clausal_form.specs.Fault.{limit_fault, counted_in, formula_fault}
use Rattle.clausal_form.specs.Progress.{HasMade}
use Rattle.fol_base.specs.declared.limits.TheConstants.{MOST_SYMBOLS, MOST_FORM_SYMBOLS}
use Rattle.clausal_form.specs.declared.fault.FormCause.{FormCause}
use Rattle.clausal_form.specs.declared.fault.FormCause.TheVariants.{Expansion, TooHeavy, TotalLimit}
use Rattle.clausal_form.specs.declared.form.FormSoFar.{FormSoFar}
use Rattle.clausal_form.specs.declared.measure.Measure.{Measure}
use Rattle.clausal_form.specs.declared.naming.Naming.{Naming}
use Rattle.clausal_form.proofs.AboutWriting.FrameLemmas.{formula_made, IsAdded, added-by-matrix}
use Rattle.clausal_form.proofs.AboutCounts.MeasureLemmas.{measured-sum}
use Rattle.clausal_form.proofs.AboutNaming.NameLemmas.{closed-known}
use Rattle.clausal_form.specs.declared.fault.TheConstants.{MOST_EXPANDED}
use Rattle.list_lemmas.proofs.Lists.{length-joined}

numbered-length : (prefix : List ℕ) (k : ℕ) (arities : List ℕ) → length (numbered_symbols function_symbol prefix k arities) ≡ length arities
numbered-length prefix k [] = refl
numbered-length prefix k (x ∷ xs) = omega (arith, numbered-length prefix (k + 1) xs)

-- what a formula adds, by the program's naming
pub record IsNamed (n : SymbolNumbers) (a : Annotated) (m : Made) (cs : List Literals) (skolem naming : List ℕ) : Type 0 where
  pub clauses : (annotated_clauses n a m).clauses ≡ cs
  pub skolem_made : (annotated_clauses n a m).made.skolem_arities ≡ m.skolem_arities ++ skolem
  pub naming_made : (annotated_clauses n a m).made.naming_arities ≡ naming

pub named-formula :
    (n : SymbolNumbers) (a : Annotated) (prefix : List ℕ) (m : Made) (old : FormSoFar) (matrix : MatrixTree) (before after : Naming) (cs : List Literals) (b : Measure)
    → HasMade n prefix m old → AreKnown n.symbols (formula_symbols (formula_of a.formula))
    → matrix ≡ (form_by_itself old.signature a).matrix
    → before.arities.items ≡ old.naming.arities.items → before.first ≡ old.naming.first → before.definitions.items ≡ []
    → IsWork after (matrix_clauses (naming_numbers before.first) matrix (naming_made before)) cs b
    → IsNamed n a m (cs ++ defining_clauses after) (form_by_itself old.signature a).made.skolem_arities after.arities.items
named-formula n a prefix m old matrix before after cs b h k e ba bf bd w =
    record {
      clauses =
          added.clauses ∙ ap (λ (v : Worked). v.clauses ++ v.made.defining) (sym same)
          ∙ ap (λ ds. ds ++ (matrix_clauses (naming_numbers before.first) matrix (naming_made before)).made.defining) (sym w.clauses)
          ∙ ap (λ (o : Made). cs ++ o.defining) (sym w.made);
      skolem_made = added.skolem ∙ ap (λ known. m.skolem_arities ++ (form_by_itself known a).made.skolem_arities) (sym h.signature);
      naming_made = added.naming ∙ ap (λ (v : Worked). v.made.naming_arities) (sym same) ∙ ap (λ (o : Made). o.naming_arities) (sym w.made);
    }
  where
    others : List Symbol
    others = numbered_symbols function_symbol prefix 0 m.skolem_arities

    all : AreAllSymbols n others m
    all = omega (arith, length-joined n.symbols others, numbered-length prefix 0 m.skolem_arities, h.skolem)

    added :
        IsAdded n a m (matrix_clauses (naming_numbers n.first_naming) (form_by_itself (n.symbols ++ others) a).matrix (formula_made m))
        (form_by_itself (n.symbols ++ others) a).made.skolem_arities
    added = added-by-matrix n others a m (closed-known n.symbols a k) all

    begun : naming_made before ≡ formula_made m
    begun =
        λ i. record {
          variables = 0;
          skolem_arities = [];
          naming_arities = (ba ∙ h.naming) i;
          defining = flat_map definition_clauses (bd i);
        }

    same :
        matrix_clauses (naming_numbers before.first) matrix (naming_made before)
        ≡ matrix_clauses (naming_numbers n.first_naming) (form_by_itself (n.symbols ++ others) a).matrix (formula_made m)
    same =
        ap (λ x. matrix_clauses (naming_numbers x) matrix (naming_made before)) (bf ∙ h.first)
        ∙ ap (λ t. matrix_clauses (naming_numbers n.first_naming) t (naming_made before)) (e ∙ ap (λ known. (form_by_itself known a).matrix) h.signature)
        ∙ ap (matrix_clauses (naming_numbers n.first_naming) (form_by_itself (n.symbols ++ others) a).matrix) begun

-- the limit that the clauses of the formula's matrix pass is the formula's
pub cause-so :
    (n : SymbolNumbers) (a : Annotated) (prefix : List ℕ) (m : Made) (old : FormSoFar) (counted : ℕ) (cause : FormCause)
    → HasMade n prefix m old → AreKnown n.symbols (formula_symbols (formula_of a.formula))
    → nat_lt MOST_EXPANDED (expanded_count (formula_of a.formula)) ≡ false
    → Passes cause (form_by_itself old.signature a).matrix → formula_fault n a counted m ≡ Some cause
cause-so n a prefix m old counted cause h k o e =
    ap (λ t. if t then Some Expansion else limit_fault (largest work.clauses) (counted + counted_in work.clauses + length work.made.skolem_arities)) o
    ∙ subst (λ known. Passes cause (form_by_itself known a).matrix) h.signature e (naming_numbers n.first_naming) (formula_made m)
    counted (length work.made.skolem_arities) work.clauses refl (added-by-matrix n others a m (closed-known n.symbols a k) all).clauses
  where
    work : Worked
    work = annotated_clauses n a m

    others : List Symbol
    others = numbered_symbols function_symbol prefix 0 m.skolem_arities

    all : AreAllSymbols n others m
    all = omega (arith, length-joined n.symbols others, numbered-length prefix 0 m.skolem_arities, h.skolem)

-- ---- limits

lt-same : (b x y : ℕ) → (b < x → b < y) → (b < y → b < x) → nat_lt b x ≡ nat_lt b y
lt-same b x y f g = by (nat_lt b x) (nat_lt b y) refl refl
  where
    by : (t u : Bool) → nat_lt b x ≡ t → nat_lt b y ≡ u → t ≡ u
    by true true h k = refl
    by false false h k = refl
    by true false h k = absurd (omega (arith, f (ltb-true b x h), ltb-false b y k))
    by false true h k = absurd (omega (arith, g (ltb-true b y k), ltb-false b x h))

limit-exact : (l k c s z : ℕ) → limit_fault (capped l) (k + c + capped s + z) ≡ limit_fault l (k + (c + s) + z)
limit-exact l k c s z =
    ap (λ t. if t then Some TooHeavy else if nat_lt MOST_FORM_SYMBOLS (k + c + capped s + z) then Some TotalLimit else None)
    (lt-same MOST_SYMBOLS (capped l) l (λ h. omega (arith, h)) (λ h. omega (arith, h)))
    ∙ ap (λ t. if nat_lt MOST_SYMBOLS l then Some TooHeavy else if t then Some TotalLimit else None)
    (lt-same MOST_FORM_SYMBOLS (k + c + capped s + z) (k + (c + s) + z) (λ h. omega (arith, h)) (λ h. omega (arith, h)))

abbrev nothing : Option FormCause
nothing = None

pub none-small : (l total : ℕ) → limit_fault l total ≡ None → total ≤ MOST_FORM_SYMBOLS
none-small l total h = by (nat_lt MOST_SYMBOLS l) (nat_lt MOST_FORM_SYMBOLS total) refl h
  where
    by :
        (t u : Bool) → nat_lt MOST_FORM_SYMBOLS total ≡ u
        → (if t then Some TooHeavy else if u then Some TotalLimit else None) ≡ nothing → total ≤ MOST_FORM_SYMBOLS
    by t false e k = ltb-false MOST_FORM_SYMBOLS total e
    by true true e k = cc
    by false true e k = cc

-- the program's test is the formula's
pub fault-so :
    (n : SymbolNumbers) (a : Annotated) (m : Made) (cs : List Literals) (skolem naming : List ℕ) (part defining measure : Measure)
    (part_clauses defining_clauses : List Literals) (counted next before : ℕ) (fault : Option FormCause)
    → IsNamed n a m cs skolem naming → cs ≡ part_clauses ++ defining_clauses
    → IsMeasured part part_clauses → IsMeasured defining defining_clauses
    → measure_of measure ≡ capped_measure (sum_measure (measure_of part) (measure_of defining))
    → before ≡ length m.skolem_arities → next ≡ before + length skolem
    → nat_lt MOST_EXPANDED (expanded_count (formula_of a.formula)) ≡ false
    → limit_fault measure.largest (counted + measure.clauses + measure.symbols + next) ≡ fault
    → formula_fault n a counted m ≡ fault
fault-so n a m cs skolem naming part defining measure ps ds counted next before fault w g p d s b x o f =
    ap (λ t. if t then Some Expansion else limit_fault (largest work.clauses) (counted + counted_in work.clauses + length work.made.skolem_arities))
    o
    ∙ ap (λ es. limit_fault (largest es) (counted + counted_in es + length work.made.skolem_arities)) w.clauses
    ∙ ap (λ y. limit_fault (largest cs) (counted + counted_in cs + y)) count
    ∙ sym (limit-exact (largest cs) counted (length cs) (symbols_in cs) next)
    ∙ ap (λ (v : ClauseMeasure). limit_fault v.largest (counted + v.clauses + v.symbols + next)) (sym measured) ∙ f
  where
    work : Worked
    work = annotated_clauses n a m

    measured : measure_of measure ≡ capped_measured cs
    measured = measured-sum part defining measure ps ds p d s ∙ ap capped_measured (sym g)

    count : length work.made.skolem_arities ≡ next
    count = omega (arith, ap length w.skolem_made, length-joined m.skolem_arities skolem, b, x)

pub counted-so :
    (n : SymbolNumbers) (a : Annotated) (m : Made) (cs : List Literals) (skolem naming : List ℕ) (part defining measure : Measure)
    (part_clauses defining_clauses : List Literals) (counted next total : ℕ)
    → IsNamed n a m cs skolem naming → cs ≡ part_clauses ++ defining_clauses
    → IsMeasured part part_clauses → IsMeasured defining defining_clauses
    → measure_of measure ≡ capped_measure (sum_measure (measure_of part) (measure_of defining))
    → limit_fault measure.largest (counted + measure.clauses + measure.symbols + next) ≡ None
    → total ≡ counted + measure.clauses + measure.symbols
    → total ≡ counted + counted_in (annotated_clauses n a m).clauses
counted-so n a m cs skolem naming part defining measure ps ds counted next total w g p d s f t =
    let measured : measure_of measure ≡ capped_measured cs = measured-sum part defining measure ps ds p d s ∙ ap capped_measured (sym g) in
    let exact : total ≡ counted + counted_in cs =
    omega (
      arith,
      t,
      none-small measure.largest (counted + measure.clauses + measure.symbols + next) f,
      ap (λ (v : ClauseMeasure). v.clauses) measured,
      ap (λ (v : ClauseMeasure). v.symbols) measured,
    ) in
    exact ∙ ap (λ es. counted + counted_in es) (sym w.clauses)

-- ---- what there is after the formula

pub made-then :
    (n : SymbolNumbers) (a : Annotated) (prefix : List ℕ) (m : Made) (old new : FormSoFar)
    → HasMade n prefix m old
    → (annotated_clauses n a m).made.skolem_arities ≡ m.skolem_arities ++ (form_by_itself old.signature a).made.skolem_arities
    → (annotated_clauses n a m).made.naming_arities ≡ new.naming.arities.items
    → new.next ≡ old.next + length (form_by_itself old.signature a).made.skolem_arities
    → new.signature ≡ old.signature ++ numbered_symbols function_symbol prefix old.next (form_by_itself old.signature a).made.skolem_arities
    → new.naming.first ≡ old.naming.first
    → HasMade n prefix (annotated_clauses n a m).made new
made-then n a prefix m old new h w y x s f =
    record {
      signature =
          s ∙ ap (λ k. old.signature ++ numbered_symbols function_symbol prefix k (form_by_itself old.signature a).made.skolem_arities) h.next
          ∙ ap (λ known. known ++ numbered_symbols function_symbol prefix (length m.skolem_arities) (form_by_itself known a).made.skolem_arities) h.signature
          ∙ skolem_symbols_are_numbered_on n.symbols prefix m.skolem_arities (normal_form (closed a) (not (is_conjecture a.role)))
          ∙ ap (λ known. n.symbols ++ numbered_symbols function_symbol prefix 0 (m.skolem_arities ++ (form_by_itself known a).made.skolem_arities)) (sym h.signature)
          ∙ ap (λ xs. n.symbols ++ numbered_symbols function_symbol prefix 0 xs) (sym w);
      skolem = h.skolem;
      next =
          omega (
            arith,
            x,
            h.next,
            ap length w,
            length-joined m.skolem_arities (form_by_itself old.signature a).made.skolem_arities,
          );
      first = f ∙ h.first;
      naming = sym y;
    }
