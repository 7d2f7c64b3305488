-- Parts of forms, and derivations from them.
use Rattle.std.proofs.Common.{◌≡◌, ℕ, zero, suc, ◌+◌, ◌<◌, ◌≤◌, Bool, true, false, List, [], ◌∷◌, ◌++◌, length, map, take, drop, get_or, cond, min, Some, None, sum_by, refl, ap, sym, ◌∙◌, subst, lt-ltb, arith}
use Rattle.std.specs.Prelude.{All, slice_get, slice_index, if◌then◌else◌}
use Rattle.std.specs.List.{list_all}
use Rattle.std.proofs.lemmas.Bool.{and_parts, and_from}
use Rattle.std.proofs.lemmas.List.{length_push, append_assoc, append-nil, get_or-map, length-map, map-append}
use Rattle.std.proofs.lemmas.List.Elements.{All-nil, All-cons, All-head, All-tail}
use Rattle.std.proofs.lemmas.List.Sums.{sum_by-cons}
use Rattle.fol_base.specs.Canonical.{IsCanonical}
use Rattle.fol_base.specs.Clause.{TreeClause, clause_size}
use Rattle.fol_base.specs.Literal.{clause_of}
use Rattle.fol_base.specs.declared.clause.Clause.{Clause}
use Rattle.fol_base.specs.WellFormed.{are_literals_of}
use Rattle.fol_base.specs.declared.limits.TheConstants.{MOST_SYMBOLS}
use Rattle.kernel_steps.specs.Conclusion.{empty_clause, verdict, concludes}
use Rattle.kernel_steps.specs.Derivation.{is_clause_step, introduces_name, line_parent, line_parents, is_component_of, component_clause, IsComponent, IsOpposite, ComesBy, IsDerivation, IsRefutation}
use Rattle.kernel_steps.specs.declared.step.Step.{Step}
use Rattle.kernel_steps.specs.declared.step.Step.TheVariants.{Input, Negate, Clausify, Component, Opposite}
use Rattle.kernel_steps.specs.declared.step.Line.{Line}
use Rattle.axiom_filter.specs.Places.{places_from}
use Rattle.axiom_filter.specs.Tables.{has_number}
use Rattle.axiom_filter.specs.Restriction.{beside, kept_clauses, kept_numbers, is_among, reindexed_step, reindexed_line, reindexed, steps_of, names_entry, PartsDerive, PartsAreInputs}

-- ---- the part

pub part-all : {X : Type 0} (P : X → Type 0) (test : ℕ → Bool) (ns : List ℕ) (xs : List X) → All P xs → All P (beside test ns xs)
part-all P test [] xs h = All-nil P
part-all P test (n ∷ ns) [] h = All-nil P
part-all {X} P test (n ∷ ns) (x ∷ xs) h = by (test n) (part-all P test ns xs (All-tail P x xs h))
  where
    by : (b : Bool) → All P (beside test ns xs) → All P (cond b (x ∷ beside test ns xs) (beside test ns xs))
    by true rest = All-cons P x (beside test ns xs) (All-head P x xs h) rest
    by false rest = rest

part-few :
    (test : ℕ → Bool) (ns : List ℕ) (cs : List TreeClause)
    → sum_by clause_size (beside test ns cs) + length (beside test ns cs) ≤ sum_by clause_size cs + length cs
part-few test [] cs = omega arith
part-few test (n ∷ ns) [] = omega arith
part-few test (n ∷ ns) (c ∷ cs) = by (test n) (part-few test ns cs)
  where
    by :
        (b : Bool) → sum_by clause_size (beside test ns cs) + length (beside test ns cs) ≤ sum_by clause_size cs + length cs
        → sum_by clause_size (cond b (c ∷ beside test ns cs) (beside test ns cs)) + length (cond b (c ∷ beside test ns cs) (beside test ns cs)) ≤ sum_by clause_size (c ∷ cs) + length (c ∷ cs)
    by true rest = omega (arith, rest, sum_by-cons clause_size c cs, sum_by-cons clause_size c (beside test ns cs))
    by false rest = omega (arith, rest, sum_by-cons clause_size c cs)

-- what each clause of the form passes, those of the part pass
pub part-passes : {X : Type 0} (passes : X → Bool) (test : ℕ → Bool) (ns : List ℕ) (xs : List X) → list_all passes xs ≡ true → list_all passes (beside test ns xs) ≡ true
part-passes passes test [] xs h = refl
part-passes passes test (n ∷ ns) [] h = refl
part-passes {X} passes test (n ∷ ns) (x ∷ xs) h =
    let parts = and_parts (passes x) (list_all passes xs) h in by (test n) parts.0 (part-passes passes test ns xs parts.1)
  where
    by : (b : Bool) → passes x ≡ true → list_all passes (beside test ns xs) ≡ true → list_all passes (cond b (x ∷ beside test ns xs) (beside test ns xs)) ≡ true
    by true first rest = and_from (passes x) (list_all passes (beside test ns xs)) first rest
    by false first rest = rest

pub parts_are_inputs : PartsAreInputs
parts_are_inputs = record {
  canonical = λ kept origins clauses h. part-all IsCanonical (is_among kept) origins clauses h;
  no_names = λ kept origins clauses h. part-all (λ (c : TreeClause). c.names ≡ []) (is_among kept) origins clauses h;
  small = λ kept origins clauses h. part-all (λ (c : TreeClause). clause_size c ≤ MOST_SYMBOLS) (is_among kept) origins clauses h;
  few = λ kept origins clauses. part-few (is_among kept) origins clauses;
  well_formed = λ kept origins clauses w. (record { usage = w.usage; used = part-passes (λ (c : TreeClause). are_literals_of w.usage c.literals) (is_among kept) origins clauses w.used }, refl);
}

-- a clause of the part is the clause of the form with its number
part-entry :
    {X : Type 0} (test : ℕ → Bool) (ns : List ℕ) (before xs : List X) (i : ℕ) (x : X)
    → slice_get (beside test ns xs) i ≡ Some x → slice_get (before ++ xs) (get_or (places_from (length before) test ns) i 0) ≡ Some x
part-entry test [] before xs i x h = cc
part-entry test (n ∷ ns) before [] i x h = cc
part-entry {X} test (n ∷ ns) before (y ∷ xs) i x h =
    let moved : length (before ++ y ∷ []) ≡ suc (length before) = omega (arith, length_push before y) in
    by (test n) i h
    (λ j k.
    ap (λ m. slice_get (before ++ y ∷ xs) (get_or (places_from m test ns) j 0)) (sym moved)
    ∙ ap (λ zs. slice_get zs (get_or (places_from (length (before ++ y ∷ [])) test ns) j 0)) (sym (append_assoc before (y ∷ []) xs))
    ∙ part-entry test ns (before ++ y ∷ []) xs j x k)
  where
    Later : Type 0
    Later = (j : ℕ) → slice_get (beside test ns xs) j ≡ Some x → slice_get (before ++ y ∷ xs) (get_or (places_from (suc (length before)) test ns) j 0) ≡ Some x

    here : (before : List X) (z : X) (zs : List X) → slice_get (before ++ z ∷ zs) (length before) ≡ Some z
    here [] z zs = refl
    here (b ∷ before) z zs = here before z zs

    by :
        (b : Bool) (j : ℕ) → slice_get (cond b (y ∷ beside test ns xs) (beside test ns xs)) j ≡ Some x → Later
        → slice_get (before ++ y ∷ xs) (get_or (cond b (length before ∷ places_from (suc (length before)) test ns) (places_from (suc (length before)) test ns)) j 0) ≡ Some x
    by true zero k later = here before y xs ∙ k
    by true (suc j) k later = later j k
    by false j k later = later j k

-- ---- lines with other numbers

-- what is told of each kind of step stays
pub reindexed-same :
    {X : Type 0} (told : Step → X) → ((i j : ℕ) → told (Clausify i) ≡ told (Clausify j)) → (numbers : List ℕ) (s : Step)
    → told (reindexed_step numbers s) ≡ told s
reindexed-same told same numbers (Clausify i) = same (slice_index numbers i) i
reindexed-same told same numbers _ = refl

clause-step : (numbers : List ℕ) (s : Step) → is_clause_step (reindexed_step numbers s) ≡ is_clause_step s
clause-step numbers s = reindexed-same is_clause_step (λ i j. refl) numbers s

name-step : (numbers : List ℕ) (s : Step) → introduces_name (reindexed_step numbers s) ≡ introduces_name s
name-step numbers s = reindexed-same introduces_name (λ i j. refl) numbers s

component-step : (numbers : List ℕ) (name : ℕ) (s : Step) → is_component_of name (reindexed_step numbers s) ≡ is_component_of name s
component-step numbers name s = reindexed-same (is_component_of name) (λ i j. refl) numbers s

parent-same : (numbers : List ℕ) (l : Line) → line_parent (reindexed_line numbers l) ≡ line_parent l
parent-same numbers l =
    ap (λ b. if b then Some (record { clause = clause_of l.clause; introduces = introduces_name (reindexed_step numbers l.step) }) else None) (clause-step numbers l.step)
    ∙ ap (λ b. if is_clause_step l.step then Some (record { clause = clause_of l.clause; introduces = b }) else None) (name-step numbers l.step)

parents-at : (numbers : List ℕ) (lines : List Line) (n : ℕ) → line_parents (reindexed numbers lines) n ≡ line_parents lines n
parents-at numbers [] n = refl
parents-at numbers (l ∷ lines) zero = parent-same numbers l
parents-at numbers (l ∷ lines) (suc n) = parents-at numbers lines n

parents-same : (numbers : List ℕ) (lines : List Line) → line_parents (reindexed numbers lines) ≡ line_parents lines
parents-same numbers lines = λ i. λ n. parents-at numbers lines n i

component-same : (numbers : List ℕ) (name : ℕ) (lines : List Line) → component_clause name (reindexed numbers lines) ≡ component_clause name lines
component-same numbers name [] = refl
component-same numbers name (l ∷ lines) =
    ap (λ b. if b then Some (clause_of l.clause) else component_clause name (reindexed numbers lines)) (component-step numbers name l.step)
    ∙ ap (λ o. if is_component_of name l.step then Some (clause_of l.clause) else o) (component-same numbers name lines)

component-kept : (numbers : List ℕ) (name : ℕ) (lines : List Line) (c : TreeClause) → IsComponent name lines c → IsComponent name (reindexed numbers lines) c
component-kept numbers name lines c h =
    record { is_new = component-same numbers name lines ∙ h.is_new; some_literal = h.some_literal; one_name = h.one_name }

opposite-kept : (numbers : List ℕ) (name : ℕ) (lines : List Line) (c : TreeClause) → IsOpposite name lines c → IsOpposite name (reindexed numbers lines) c
opposite-kept numbers name lines c h =
    record {
      component = h.component;
      introduced = component-same numbers name lines ∙ h.introduced;
      literal = h.literal;
      one_literal = h.one_literal;
      positive = h.positive;
      ground = h.ground;
      complemented = h.complemented;
      one_name = h.one_name;
    }

by-rule : (numbers : List ℕ) (s : Step) (lines : List Line) (c : TreeClause) → verdict s (line_parents lines) ≡ concludes c → verdict s (line_parents (reindexed numbers lines)) ≡ concludes c
by-rule numbers s lines c h = ap (verdict s) (parents-same numbers lines) ∙ h

-- a step from the part is one from the form
comes-by :
    (test : ℕ → Bool) (origins : List ℕ) (clauses : List TreeClause) (s : Step) (earlier : List Line) (c : TreeClause)
    → ComesBy s (beside test origins clauses) earlier c
    → ComesBy (reindexed_step (places_from 0 test origins) s) clauses (reindexed (places_from 0 test origins) earlier) c
comes-by test origins clauses (Input place) earlier c h = h
comes-by test origins clauses (Negate place) earlier c h = h
comes-by test origins clauses (Clausify i) earlier c h = part-entry test origins [] clauses i c h
comes-by test origins clauses (Component name) earlier c h = component-kept (places_from 0 test origins) name earlier c h
comes-by test origins clauses (Opposite name) earlier c h = opposite-kept (places_from 0 test origins) name earlier c h
comes-by test origins clauses s earlier c h = by-rule (places_from 0 test origins) s earlier c h

-- the line at a place comes from the line there
pub line-at :
    (numbers : List ℕ) (lines : List Line) (n : ℕ) (line : Line) → slice_get (reindexed numbers lines) n ≡ Some line
    → (l : Line) × (slice_get lines n ≡ Some l) × (reindexed_line numbers l ≡ line)
line-at numbers [] n line h = cc
line-at numbers (l ∷ lines) zero line h = (l, refl, inside h)
  where
    inside : Some (reindexed_line numbers l) ≡ Some line → reindexed_line numbers l ≡ line
    inside e = cc
line-at numbers (l ∷ lines) (suc n) line h = line-at numbers lines n line h

earlier-lines : (numbers : List ℕ) (lines : List Line) (n : ℕ) → take n (reindexed numbers lines) ≡ reindexed numbers (take n lines)
earlier-lines numbers lines zero = refl
earlier-lines numbers [] (suc n) = refl
earlier-lines numbers (l ∷ lines) (suc n) = ap (λ ls. reindexed_line numbers l ∷ ls) (earlier-lines numbers lines n)

parts-derived :
    (kept origins : List ℕ) (clauses : List TreeClause) (lines : List Line)
    → IsDerivation (kept_clauses kept origins clauses) lines → IsDerivation clauses (reindexed (kept_numbers kept origins) lines)
parts-derived kept origins clauses lines h n line e = by (line-at (kept_numbers kept origins) lines n line e)
  where
    by : (l : Line) × (slice_get lines n ≡ Some l) × (reindexed_line (kept_numbers kept origins) l ≡ line)
        → ComesBy line.step clauses (take n (reindexed (kept_numbers kept origins) lines)) (clause_of line.clause)
    by (l, there, is) =
        subst (λ (k : Line). ComesBy k.step clauses (take n (reindexed (kept_numbers kept origins) lines)) (clause_of k.clause)) is
        (subst (λ ls. ComesBy (reindexed_step (kept_numbers kept origins) l.step) clauses ls (clause_of l.clause)) (sym (earlier-lines (kept_numbers kept origins) lines n))
        (comes-by (is_among kept) origins clauses l.step (take n lines) (clause_of l.clause) (h n l there)))

parts-refuted :
    (kept origins : List ℕ) (clauses : List TreeClause) (lines : List Line)
    → IsRefutation (kept_clauses kept origins clauses) lines → IsRefutation clauses (reindexed (kept_numbers kept origins) lines)
parts-refuted kept origins clauses lines h =
    let numbers : List ℕ = kept_numbers kept origins in
    record {
      derived = parts-derived kept origins clauses lines h.derived;
      before = reindexed numbers h.before;
      last = reindexed_line numbers h.last;
      ends = ap (reindexed numbers) h.ends ∙ map-append (reindexed_line numbers) h.before (h.last ∷ []);
      is_clause = clause-step numbers h.last.step ∙ h.is_clause;
      is_empty = h.is_empty;
    }

-- ---- the numbers of clausify steps

-- the numbers are at least as many as the clauses
numbers-enough : {X : Type 0} (first : ℕ) (test : ℕ → Bool) (ns : List ℕ) (xs : List X) → length (beside test ns xs) ≤ length (places_from first test ns)
numbers-enough first test [] xs = omega arith
numbers-enough first test (n ∷ ns) [] = omega arith
numbers-enough {X} first test (n ∷ ns) (x ∷ xs) = by (test n) (numbers-enough (suc first) test ns xs)
  where
    by :
        (b : Bool) → length (beside test ns xs) ≤ length (places_from (suc first) test ns)
        → length (cond b (x ∷ beside test ns xs) (beside test ns xs)) ≤ length (cond b (first ∷ places_from (suc first) test ns) (places_from (suc first) test ns))
    by true rest = omega (arith, rest)
    by false rest = rest

entry-there : {X : Type 0} (xs : List X) (i : ℕ) (x : X) → slice_get xs i ≡ Some x → i < length xs
entry-there [] i x h = cc
entry-there (y ∷ xs) zero x h = omega arith
entry-there (y ∷ xs) (suc i) x h = omega (arith, entry-there xs i x h)

names-step :
    (numbers : List ℕ) (part : List TreeClause) (s : Step) (earlier : List Line) (c : TreeClause)
    → length part ≤ length numbers → ComesBy s part earlier c → names_entry numbers s ≡ true
names-step numbers part (Clausify i) earlier c l h = lt-ltb i (length numbers) (omega (arith, l, entry-there part i c h))
names-step numbers part _ earlier c l h = refl

all-name :
    (numbers : List ℕ) (lines : List Line)
    → ((n : ℕ) (l : Line) → slice_get lines n ≡ Some l → names_entry numbers l.step ≡ true) → list_all (names_entry numbers) (steps_of lines) ≡ true
all-name numbers [] h = refl
all-name numbers (l ∷ lines) h = and_from (names_entry numbers l.step) (list_all (names_entry numbers) (steps_of lines)) (h 0 l refl) (all-name numbers lines (λ n m e. h (suc n) m e))

parts-entries :
    (kept origins : List ℕ) (clauses : List TreeClause) (lines : List Line)
    → IsDerivation (kept_clauses kept origins clauses) lines → list_all (names_entry (kept_numbers kept origins)) (steps_of lines) ≡ true
parts-entries kept origins clauses lines h =
    all-name (kept_numbers kept origins) lines
    (λ n l e.
    names-step (kept_numbers kept origins) (kept_clauses kept origins clauses) l.step (take n lines) (clause_of l.clause)
    (numbers-enough 0 (is_among kept) origins clauses) (h n l e))

steps-reindexed : (numbers : List ℕ) (lines : List Line) → steps_of (reindexed numbers lines) ≡ map (reindexed_step numbers) (steps_of lines)
steps-reindexed numbers [] = refl
steps-reindexed numbers (l ∷ lines) = ap (λ ss. reindexed_step numbers l.step ∷ ss) (steps-reindexed numbers lines)

pub parts_derive : PartsDerive
parts_derive = record { derivations = parts-derived; refutations = parts-refuted; entries = parts-entries; steps = steps-reindexed }

-- ---- the loops

pub beside-more :
    {X : Type 0} (test : ℕ → Bool) (ns : List ℕ) (xs : List X) (i : ℕ) (d : X)
    → i < length ns → i < length xs → beside test (drop i ns) (drop i xs) ≡ cond (test (get_or ns i 0)) (get_or xs i d ∷ beside test (drop (i + 1) ns) (drop (i + 1) xs)) (beside test (drop (i + 1) ns) (drop (i + 1) xs))
beside-more test [] xs i d l k = absurd (omega arith)
beside-more test (n ∷ ns) [] i d l k = absurd (omega arith)
beside-more test (n ∷ ns) (x ∷ xs) zero d l k = refl
beside-more test (n ∷ ns) (x ∷ xs) (suc i) d l k =
    let next : suc i + 1 ≡ suc (i + 1) = omega arith in
    beside-more test ns xs i d (omega arith) (omega arith)
    ∙ ap (λ j. cond (test (get_or ns i 0)) (get_or xs i d ∷ beside test (drop j (n ∷ ns)) (drop j (x ∷ xs))) (beside test (drop j (n ∷ ns)) (drop j (x ∷ xs)))) (sym next)

beside-none : {X : Type 0} (test : ℕ → Bool) (ns : List ℕ) (xs : List X) → length xs ≡ 0 → beside test ns xs ≡ []
beside-none test [] xs h = refl
beside-none test (n ∷ ns) [] h = refl
beside-none test (n ∷ ns) (x ∷ xs) h = absurd (omega (arith, h))

pub beside-end : {X : Type 0} (test : ℕ → Bool) (ns : List ℕ) (xs : List X) (i : ℕ) → min (length ns) (length xs) ≤ i → beside test (drop i ns) (drop i xs) ≡ []
beside-end test [] xs zero h = refl
beside-end test [] xs (suc i) h = refl
beside-end test (n ∷ ns) [] zero h = refl
beside-end {X} test (n ∷ ns) [] (suc i) h = let none : List X = [] in beside-none test (drop i ns) none (omega arith)
beside-end test (n ∷ ns) (x ∷ xs) zero h = absurd (omega arith)
beside-end test (n ∷ ns) (x ∷ xs) (suc i) h = beside-end test ns xs i (omega arith)

-- the step of a loop that keeps what passes, and its end
pub clause-kept :
    (test : ℕ → Bool) (ns : List ℕ) (cs : List Clause) (i : ℕ) (c k : Clause) (made more : List Clause) (total : List TreeClause)
    → i < length ns → i < length cs → c ≡ get_or cs i c → clause_of k ≡ clause_of c → test (get_or ns i 0) ≡ true → more ≡ made ++ k ∷ []
    → map clause_of made ++ beside test (drop i ns) (drop i (map clause_of cs)) ≡ total
    → map clause_of more ++ beside test (drop (i + 1) ns) (drop (i + 1) (map clause_of cs)) ≡ total
clause-kept test ns cs i c k made more total l m r e t p h =
    let rest : List TreeClause = beside test (drop (i + 1) ns) (drop (i + 1) (map clause_of cs)) in
    let inside : i < length (map clause_of cs) = omega (arith, m, length-map cs clause_of) in
    let here : get_or (map clause_of cs) i (clause_of c) ≡ clause_of k = get_or-map clause_of cs i c (clause_of c) m ∙ ap clause_of (sym r) ∙ sym e in
    ap (λ ds. map clause_of ds ++ rest) p ∙ ap (λ ds. ds ++ rest) (map-append clause_of made (k ∷ []))
    ∙ append_assoc (map clause_of made) (clause_of k ∷ []) rest
    ∙ ap (λ d. map clause_of made ++ d ∷ rest) (sym here)
    ∙ ap (λ b. map clause_of made ++ cond b (get_or (map clause_of cs) i (clause_of c) ∷ rest) rest) (sym t)
    ∙ ap (λ ds. map clause_of made ++ ds) (sym (beside-more test ns (map clause_of cs) i (clause_of c) l inside)) ∙ h

pub clause-skipped :
    (test : ℕ → Bool) (ns : List ℕ) (cs : List Clause) (i : ℕ) (made more : List Clause) (total : List TreeClause)
    → i < length ns → i < length cs → test (get_or ns i 0) ≡ false → more ≡ made
    → map clause_of made ++ beside test (drop i ns) (drop i (map clause_of cs)) ≡ total
    → map clause_of more ++ beside test (drop (i + 1) ns) (drop (i + 1) (map clause_of cs)) ≡ total
clause-skipped test ns cs i made more total l m t p h =
    let rest : List TreeClause = beside test (drop (i + 1) ns) (drop (i + 1) (map clause_of cs)) in
    let inside : i < length (map clause_of cs) = omega (arith, m, length-map cs clause_of) in
    ap (λ ds. map clause_of ds ++ rest) p
    ∙ ap (λ b. map clause_of made ++ cond b (get_or (map clause_of cs) i empty_clause ∷ rest) rest) (sym t)
    ∙ ap (λ ds. map clause_of made ++ ds) (sym (beside-more test ns (map clause_of cs) i empty_clause l inside)) ∙ h

pub clauses-done :
    (test : ℕ → Bool) (ns : List ℕ) (cs : List Clause) (i : ℕ) (made : List Clause) (total : List TreeClause)
    → min (length ns) (length cs) ≤ i
    → map clause_of made ++ beside test (drop i ns) (drop i (map clause_of cs)) ≡ total → map clause_of made ≡ total
clauses-done test ns cs i made total l h =
    sym (append-nil (map clause_of made))
    ∙ ap (λ ds. map clause_of made ++ ds) (sym (beside-end test ns (map clause_of cs) i (omega (arith, l, length-map cs clause_of)))) ∙ h

-- the part by any test that says what is kept
pub clauses-among :
    (test : ℕ → Bool) (kept numbers origins slice : List ℕ) (clauses lent : List Clause)
    → ((n : ℕ) → test n ≡ has_number n numbers) → numbers ≡ kept → slice ≡ origins → lent ≡ clauses
    → beside test slice (map clause_of lent) ≡ kept_clauses kept origins (map clause_of clauses)
clauses-among test kept numbers origins slice clauses lent same k o c =
    let among : test ≡ is_among numbers = λ i. λ n. same n i in
    ap (λ t. beside t slice (map clause_of lent)) among ∙ ap (λ ns. beside (is_among ns) slice (map clause_of lent)) k
    ∙ ap (λ ns. beside (is_among kept) ns (map clause_of lent)) o ∙ ap (λ cs. beside (is_among kept) origins (map clause_of cs)) c

pub numbers-among :
    (test : ℕ → Bool) (kept numbers origins slice : List ℕ)
    → ((n : ℕ) → test n ≡ has_number n numbers) → numbers ≡ kept → slice ≡ origins → places_from 0 test slice ≡ kept_numbers kept origins
numbers-among test kept numbers origins slice same k o =
    let among : test ≡ is_among numbers = λ i. λ n. same n i in
    ap (λ t. places_from 0 t slice) among ∙ ap (λ ns. places_from 0 (is_among ns) slice) k ∙ ap (λ ns. places_from 0 (is_among kept) ns) o
