-- The clauses of a form are canonical, and where no formula passes a limit they are small.
use Rattle.std.proofs.Common.{◌≡◌, ℕ, ◌+◌, ◌≤◌, List, [], ◌∷◌, ◌++◌, length, map, refl, arith}
use Rattle.std.specs.Prelude.{sum_by}
use Rattle.std.specs.List.{AllByRecursion}
use Rattle.std.proofs.lemmas.List.Sums.{sum_by-append, sum_by-cons}
use Rattle.tptp_tree.specs.declared.problem.Annotated.{Annotated}
use Rattle.fol_base.specs.Clause.{TreeClause, clause_size}
use Rattle.fol_base.specs.Canonical.{IsCanonical}
use Rattle.fol_base.proofs.AboutCanonical.CanonicalLemmas.{canonical_forms_are_canonical, canonical_forms_keep_sizes}
use Rattle.signature.specs.Clausal.{SymbolNumbers, Made, Worked, Literals, annotated_clauses, canonical_literals, formed}
use Rattle.signature.specs.Form.{symbol_numbers, nothing_made}
use Rattle.clausal_form.specs.Measure.{literals_size, largest}
use Rattle.clausal_form.specs.Fault.{counted_in, formula_fault, first_fault}
use Rattle.clausal_form.specs.FormLaws.{FormsAreCanonical, FormsHaveSmallClauses, FormsAreSmall}
use Rattle.clausal_form.proofs.AboutCounts.FaultLemmas.{no_fault, rest-none, first-none, formula-limits}
use Rattle.fol_base.specs.declared.limits.TheConstants.{MOST_SYMBOLS, MOST_FORM_SYMBOLS}
use Rattle.list_lemmas.proofs.Lists.{length-joined}

both-hold : (P : TreeClause → Type 0) (xs ys : List TreeClause) → AllByRecursion P xs → AllByRecursion P ys → AllByRecursion P (xs ++ ys)
both-hold P [] ys h k = k
both-hold P (x ∷ xs) ys h k = (h.0, both-hold P xs ys h.1 k)

-- ---- canonical clauses

abbrev IsOwnForm : TreeClause → Type 0
IsOwnForm c = IsCanonical c × (c.names ≡ [])

literals-canonical : (cs : List Literals) → AllByRecursion IsOwnForm (map canonical_literals cs)
literals-canonical [] = tt
literals-canonical (c ∷ cs) = ((canonical_forms_are_canonical (record { literals = c; names = [] }), refl), literals-canonical cs)

formed-canonical : (n : SymbolNumbers) (place : ℕ) (fs : List Annotated) (m : Made) → AllByRecursion IsOwnForm (formed n place fs m).clauses
formed-canonical n place [] m = tt
formed-canonical n place (a ∷ fs) m =
    let w : Worked = annotated_clauses n a m in
    both-hold IsOwnForm (map canonical_literals w.clauses) (formed n (place + 1) fs w.made).clauses (literals-canonical w.clauses)
    (formed-canonical n (place + 1) fs w.made)

pub forms-are-canonical : FormsAreCanonical
forms-are-canonical fs = formed-canonical (symbol_numbers fs) 0 fs nothing_made

-- ---- sizes

abbrev IsSmall : TreeClause → Type 0
IsSmall c = clause_size c ≤ MOST_SYMBOLS

own-size : (c : Literals) → clause_size (canonical_literals c) ≡ literals_size c
own-size c = canonical_forms_keep_sizes (record { literals = c; names = [] })

literals-small : (cs : List Literals) → largest cs ≤ MOST_SYMBOLS → AllByRecursion IsSmall (map canonical_literals cs)
literals-small [] h = tt
literals-small (c ∷ cs) h = (omega (arith, own-size c, h), literals-small cs (omega (arith, h)))

abbrev total : List TreeClause → ℕ
total cs = length cs + sum_by clause_size cs

total-append : (cs ds : List TreeClause) → total (cs ++ ds) ≡ total cs + total ds
total-append cs ds = omega (arith, length-joined cs ds, sum_by-append clause_size cs ds)

literals-total : (cs : List Literals) → total (map canonical_literals cs) ≡ counted_in cs
literals-total [] = refl
literals-total (c ∷ cs) =
    omega (
      arith,
      own-size c,
      literals-total cs,
      sum_by-cons clause_size (canonical_literals c) (map canonical_literals cs),
      sum_by-cons literals_size c cs,
    )

formed-small :
    (n : SymbolNumbers) (place : ℕ) (fs : List Annotated) (counted : ℕ) (m : Made) → first_fault n fs counted m ≡ no_fault
    → AllByRecursion IsSmall (formed n place fs m).clauses
formed-small n place [] counted m h = tt
formed-small n place (a ∷ fs) counted m h =
    let w : Worked = annotated_clauses n a m in
    let limits = formula-limits n a counted m (first-none (formula_fault n a counted m) a.name _ h) in
    both-hold IsSmall (map canonical_literals w.clauses) (formed n (place + 1) fs w.made).clauses
    (literals-small w.clauses limits.0)
    (formed-small n (place + 1) fs (counted + counted_in w.clauses) w.made (rest-none (formula_fault n a counted m) a.name _ h))

formed-total :
    (n : SymbolNumbers) (place : ℕ) (fs : List Annotated) (counted : ℕ) (m : Made) → counted ≤ MOST_FORM_SYMBOLS
    → first_fault n fs counted m ≡ no_fault → counted + total (formed n place fs m).clauses ≤ MOST_FORM_SYMBOLS
formed-total n place [] counted m small h = omega (arith, small)
formed-total n place (a ∷ fs) counted m small h =
    let w : Worked = annotated_clauses n a m in
    let here = (formula-limits n a counted m (first-none (formula_fault n a counted m) a.name _ h)).1 in
    let rest = formed-total n (place + 1) fs (counted + counted_in w.clauses) w.made (omega (arith, here))
    (rest-none (formula_fault n a counted m) a.name _ h) in
    omega (
      arith,
      rest,
      total-append (map canonical_literals w.clauses) (formed n (place + 1) fs w.made).clauses,
      literals-total w.clauses,
    )

pub forms-have-small-clauses : FormsHaveSmallClauses
forms-have-small-clauses fs h = formed-small (symbol_numbers fs) 0 fs 0 nothing_made h

pub forms-are-small : FormsAreSmall
forms-are-small fs h =
    let all = formed-total (symbol_numbers fs) 0 fs 0 nothing_made (omega arith) h in
    omega (arith, all)
