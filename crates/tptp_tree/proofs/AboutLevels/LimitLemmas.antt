-- No token of a phrase is too deep exactly where its levels are within the limit.
use Rattle.std.proofs.Common.{◌≡◌, ℕ, suc, ◌+◌, ◌-◌, ◌<◌, ◌≤◌, Bool, true, false, List, [], ◌∷◌, Option, None, Some, refl, ap, arith}
use Rattle.std.specs.Prelude.{nat_lt, max, bytes_eq, if◌then◌else◌}
use Rattle.std.specs.List.{list_any, AllByRecursion}
use Rattle.std.proofs.lemmas.Bool.{ltb-true, lt-ltb}
use Rattle.std.proofs.Math.Nat.{max-le, le-max_left, le-max_right}
use Rattle.tptp_tree.specs.Spelling.{TermPhrase, variable_word, word_with, TermPhrases, no_phrases, phrase_then, term_meant, terms_meant, Atom, true_atom, false_atom, predicate_atom, equation_atom, UnitPhrase, negated, bound, in_brackets, atomic, UnitPhrases, no_units, unit_then, Phrase, alone, all_of, some_of, joined_by}
use Rattle.tptp_tree.specs.Entries.{atom_of, LiteralPhrase, positive_literal, negated_literal, negated_in_brackets, ClausePhrase, literals, clause_in_brackets, Body, formula_body, clause_body, AnnotatedPhrase}
use Rattle.tptp_tree.specs.Causes.{Refusal, free_variable, too_deep, Scope, every_variable, bound_ones, Surroundings, deeper, binding, begun, variable_cause, term_causes, arguments_causes, more_arguments_causes, atom_causes, more_variables_causes, unit_causes, units_causes, phrase_causes, literal_causes, more_literals_causes, clause_causes, outermost, body_causes, notes_part_causes, annotated_causes}
use Rattle.tptp_tree.specs.Levels.{term_levels, terms_levels, arguments_levels, atom_levels, unit_levels, units_levels, phrase_levels, literal_levels, literals_levels, clause_levels, body_levels}
use Rattle.tptp_tree.specs.LevelLaws.{is_too_deep, NoneTooDeep}

-- ---- levels that are left

-- of the surroundings, so many levels are left
abbrev Fits : Surroundings → ℕ → Type 0
Fits s levels = s.level + levels ≤ s.limit

abbrev IsInside : Surroundings → Type 0
IsInside s = s.level ≤ s.limit

begun-says : (s : Surroundings) → is_too_deep (begun s) ≡ false → s.level < s.limit
begun-says s h = by (nat_lt s.level s.limit) refl h
  where
    by : (t : Bool) → nat_lt s.level s.limit ≡ t → is_too_deep (if t then None else Some too_deep) ≡ false → s.level < s.limit
    by true e k = ltb-true s.level s.limit e
    by false e k = absurd (let x : true ≡ false = k in cc)

begun-from : (s : Surroundings) → s.level < s.limit → is_too_deep (begun s) ≡ false
begun-from s h = ap (λ t. is_too_deep (if t then None else Some too_deep)) (lt-ltb s.level s.limit h)

fits-nothing : (s : Surroundings) → IsInside s → Fits s 0
fits-nothing s l = omega (arith, l)

fits-outside : (s : Surroundings) (n : ℕ) → Fits (deeper s) n → Fits s (suc n)
fits-outside s n h = let k : suc s.level + n ≤ s.limit = h in omega (arith, k)

fits-both : (s : Surroundings) (a b : ℕ) → Fits s a → Fits s b → Fits s (max a b)
fits-both s a b h g =
    let first : a ≤ s.limit - s.level = omega (arith, h) in
    let second : b ≤ s.limit - s.level = omega (arith, g) in
    omega (arith, h, max-le first second)

fits-three : (s : Surroundings) (a b c : ℕ) → Fits s a → Fits s b → Fits s c → Fits s (max a (max b c))
fits-three s a b c h g k = fits-both s a (max b c) h (fits-both s b c g k)

fits-begun : (s : Surroundings) (n : ℕ) → Fits s (suc n) → is_too_deep (begun s) ≡ false
fits-begun s n h = begun-from s (omega (arith, h))

fits-deeper : (s : Surroundings) (n : ℕ) → Fits s (suc n) → Fits (deeper s) n
fits-deeper s n h = let k : suc s.level + n ≤ s.limit = omega (arith, h) in k

fits-left : (s : Surroundings) (n m : ℕ) → Fits s (max n m) → Fits s n
fits-left s n m h = omega (arith, h, le-max_left n m)

fits-right : (s : Surroundings) (n m : ℕ) → Fits s (max n m) → Fits s m
fits-right s n m h = omega (arith, h, le-max_right n m)

variable-shallow : (scope : Scope) (x : List ℕ) → is_too_deep (variable_cause scope x) ≡ false
variable-shallow every_variable x = refl
variable-shallow (bound_ones xs) x = by (list_any (bytes_eq x) xs)
  where
    by : (t : Bool) → is_too_deep (if t then None else Some free_variable) ≡ false
    by true = refl
    by false = refl

-- ---- from the tokens: terms and atoms

mutual
  term-within :
      (s : Surroundings) (t : TermPhrase) (rest : List (Option Refusal)) → IsInside s
      → NoneTooDeep (term_causes s t rest) → Fits s (term_levels (term_meant t)) × NoneTooDeep rest
  term-within s (variable_word x) rest l h = (fits-nothing s l, h.1)
  term-within s (word_with w ts) rest l h = arguments-within s ts rest l h.1

  arguments-within :
      (s : Surroundings) (ts : TermPhrases) (rest : List (Option Refusal)) → IsInside s
      → NoneTooDeep (arguments_causes s ts rest) → Fits s (arguments_levels (terms_meant ts)) × NoneTooDeep rest
  arguments-within s no_phrases rest l h = (fits-nothing s l, h)
  arguments-within s (phrase_then t ts) rest l h =
      let below = begun-says s h.0 in
      let first = term-within (deeper s) t (more_arguments_causes (deeper s) ts rest) below h.1 in
      let more = more-within (deeper s) ts rest below first.1 in
      let n : ℕ = term_levels (term_meant t) in
      let m : ℕ = terms_levels (terms_meant ts) in
      (fits-outside s (max n m) (fits-both (deeper s) n m first.0 more.0), more.1)

  more-within :
      (s : Surroundings) (ts : TermPhrases) (rest : List (Option Refusal)) → IsInside s
      → NoneTooDeep (more_arguments_causes s ts rest) → Fits s (terms_levels (terms_meant ts)) × NoneTooDeep rest
  more-within s no_phrases rest l h = (fits-nothing s l, h.1)
  more-within s (phrase_then t ts) rest l h =
      let first = term-within s t (more_arguments_causes s ts rest) l h.1 in
      let more = more-within s ts rest l first.1 in
      (fits-both s (term_levels (term_meant t)) (terms_levels (terms_meant ts)) first.0 more.0, more.1)

atom-within :
    (s : Surroundings) (a : Atom) (rest : List (Option Refusal)) → IsInside s
    → NoneTooDeep (atom_causes s a rest) → Fits s (atom_levels a) × NoneTooDeep rest
atom-within s true_atom rest l h = (fits-nothing s l, h.1)
atom-within s false_atom rest l h = (fits-nothing s l, h.1)
atom-within s (predicate_atom w ts) rest l h = arguments-within s ts rest l h.1
atom-within s (equation_atom positive t u) rest l h =
    let left = term-within s t (None ∷ term_causes s u rest) l h in
    let right = term-within s u rest l left.1.1 in
    (fits-both s (term_levels (term_meant t)) (term_levels (term_meant u)) left.0 right.0, right.1)

-- ---- from the tokens: formulas and clauses

variables-within : (xs : List (List ℕ)) (rest : List (Option Refusal)) → NoneTooDeep (more_variables_causes xs rest) → NoneTooDeep rest
variables-within [] rest h = h
variables-within (x ∷ xs) rest h = variables-within xs rest h.1.1

mutual
  unit-within :
      (s : Surroundings) (u : UnitPhrase) (rest : List (Option Refusal)) → IsInside s
      → NoneTooDeep (unit_causes s u rest) → Fits s (unit_levels u) × NoneTooDeep rest
  unit-within s (negated u) rest l h =
      let inside = unit-within (deeper s) u rest (begun-says s h.0) h.1 in (fits-outside s (unit_levels u) inside.0, inside.1)
  unit-within s (bound q xs u) rest l h =
      let below : Surroundings = binding (xs.first ∷ xs.others) (deeper s) in
      let behind = variables-within xs.others (None ∷ None ∷ unit_causes below u rest) h.1.1.1 in
      let body = unit-within below u rest (begun-says s h.0) behind.1.1 in
      let n : ℕ = unit_levels u in
      let bracket : Fits (deeper s) 1 = fits-outside (deeper s) 0 (fits-nothing (deeper (deeper s)) (begun-says (deeper s) h.1.0)) in
      (fits-outside s (max 1 n) (fits-both (deeper s) 1 n bracket body.0), body.1)
  unit-within s (in_brackets p) rest l h =
      let inside = phrase-within (deeper s) p (None ∷ rest) (begun-says s h.0) h.1 in (fits-outside s (phrase_levels p) inside.0, inside.1.1)
  unit-within s (atomic a) rest l h = atom-within s a rest l h

  units-within :
      (s : Surroundings) (us : UnitPhrases) (rest : List (Option Refusal)) → IsInside s
      → NoneTooDeep (units_causes s us rest) → Fits s (units_levels us) × NoneTooDeep rest
  units-within s no_units rest l h = (fits-nothing s l, h)
  units-within s (unit_then u us) rest l h =
      let first = unit-within s u (units_causes s us rest) l h.1 in
      let more = units-within s us rest l first.1 in
      (fits-both s (unit_levels u) (units_levels us) first.0 more.0, more.1)

  phrase-within :
      (s : Surroundings) (p : Phrase) (rest : List (Option Refusal)) → IsInside s
      → NoneTooDeep (phrase_causes s p rest) → Fits s (phrase_levels p) × NoneTooDeep rest
  phrase-within s (alone u) rest l h = unit-within s u rest l h
  phrase-within s (all_of u v us) rest l h =
      let first = unit-within s u (None ∷ unit_causes s v (units_causes s us rest)) l h in
      let second = unit-within s v (units_causes s us rest) l first.1.1 in
      let more = units-within s us rest l second.1 in
      (fits-three s (unit_levels u) (unit_levels v) (units_levels us) first.0 second.0 more.0, more.1)
  phrase-within s (some_of u v us) rest l h =
      let first = unit-within s u (None ∷ unit_causes s v (units_causes s us rest)) l h in
      let second = unit-within s v (units_causes s us rest) l first.1.1 in
      let more = units-within s us rest l second.1 in
      (fits-three s (unit_levels u) (unit_levels v) (units_levels us) first.0 second.0 more.0, more.1)
  phrase-within s (joined_by c u v) rest l h =
      let first = unit-within s u (None ∷ unit_causes s v rest) l h in
      let second = unit-within s v rest l first.1.1 in
      (fits-both s (unit_levels u) (unit_levels v) first.0 second.0, second.1)

literal-within :
    (s : Surroundings) (p : LiteralPhrase) (rest : List (Option Refusal)) → IsInside s
    → NoneTooDeep (literal_causes s p rest) → Fits s (literal_levels p) × NoneTooDeep rest
literal-within s (positive_literal a) rest l h = atom-within s a rest l h
literal-within s (negated_literal a) rest l h =
    let inside = atom-within (deeper s) (atom_of a) rest (begun-says s h.0) h.1 in (fits-outside s (atom_levels (atom_of a)) inside.0, inside.1)
literal-within s (negated_in_brackets a) rest l h =
    let inside = atom-within (deeper (deeper s)) (atom_of a) (None ∷ rest) (begun-says (deeper s) h.1.0) h.1.1 in
    let n : ℕ = atom_levels (atom_of a) in
    (fits-outside s (suc n) (fits-outside (deeper s) n inside.0), inside.1.1)

literals-within :
    (s : Surroundings) (ps : List LiteralPhrase) (rest : List (Option Refusal)) → IsInside s
    → NoneTooDeep (more_literals_causes s ps rest) → Fits s (literals_levels ps) × NoneTooDeep rest
literals-within s [] rest l h = (fits-nothing s l, h)
literals-within s (p ∷ ps) rest l h =
    let first = literal-within s p (more_literals_causes s ps rest) l h.1 in
    let more = literals-within s ps rest l first.1 in
    (fits-both s (literal_levels p) (literals_levels ps) first.0 more.0, more.1)

clause-within :
    (s : Surroundings) (c : ClausePhrase) (rest : List (Option Refusal)) → IsInside s
    → NoneTooDeep (clause_causes s c rest) → Fits s (clause_levels c) × NoneTooDeep rest
clause-within s (literals p ps) rest l h =
    let first = literal-within s p (more_literals_causes s ps rest) l h in
    let more = literals-within s ps rest l first.1 in
    (fits-both s (literal_levels p) (literals_levels ps) first.0 more.0, more.1)
clause-within s (clause_in_brackets c) rest l h =
    let inside = clause-within (deeper s) c (None ∷ rest) (begun-says s h.0) h.1 in (fits-outside s (clause_levels c) inside.0, inside.1.1)

pub body-within :
    (limit : ℕ) (b : Body) (rest : List (Option Refusal)) → NoneTooDeep (body_causes limit b rest) → (body_levels b ≤ limit) × NoneTooDeep rest
body-within limit (formula_body p) rest h =
    let inside = phrase-within (outermost limit false) p rest (omega arith) h in
    let k : 0 + phrase_levels p ≤ limit = inside.0 in (omega (arith, k), inside.1)
body-within limit (clause_body c) rest h =
    let inside = clause-within (outermost limit true) c rest (omega arith) h in
    let k : 0 + clause_levels c ≤ limit = inside.0 in (omega (arith, k), inside.1)

-- ---- from the levels: terms and atoms

mutual
  term-shallow :
      (s : Surroundings) (t : TermPhrase) (rest : List (Option Refusal))
      → Fits s (term_levels (term_meant t)) → NoneTooDeep rest → NoneTooDeep (term_causes s t rest)
  term-shallow s (variable_word x) rest h r = (variable-shallow s.scope x, r)
  term-shallow s (word_with w ts) rest h r = (refl, arguments-shallow s ts rest h r)

  arguments-shallow :
      (s : Surroundings) (ts : TermPhrases) (rest : List (Option Refusal))
      → Fits s (arguments_levels (terms_meant ts)) → NoneTooDeep rest → NoneTooDeep (arguments_causes s ts rest)
  arguments-shallow s no_phrases rest h r = r
  arguments-shallow s (phrase_then t ts) rest h r =
      let n : ℕ = term_levels (term_meant t) in
      let m : ℕ = terms_levels (terms_meant ts) in
      let inside : Fits (deeper s) (max n m) = fits-deeper s (max n m) h in (
        fits-begun s (max n m) h,
        term-shallow (deeper s) t (more_arguments_causes (deeper s) ts rest) (fits-left (deeper s) n m inside)
            (more-shallow (deeper s) ts rest (fits-right (deeper s) n m inside) r),
      )

  more-shallow :
      (s : Surroundings) (ts : TermPhrases) (rest : List (Option Refusal))
      → Fits s (terms_levels (terms_meant ts)) → NoneTooDeep rest → NoneTooDeep (more_arguments_causes s ts rest)
  more-shallow s no_phrases rest h r = (refl, r)
  more-shallow s (phrase_then t ts) rest h r =
      let n : ℕ = term_levels (term_meant t) in
      let m : ℕ = terms_levels (terms_meant ts) in
      (refl, term-shallow s t (more_arguments_causes s ts rest) (fits-left s n m h) (more-shallow s ts rest (fits-right s n m h) r))

atom-shallow :
    (s : Surroundings) (a : Atom) (rest : List (Option Refusal)) → Fits s (atom_levels a) → NoneTooDeep rest → NoneTooDeep (atom_causes s a rest)
atom-shallow s true_atom rest h r = (refl, r)
atom-shallow s false_atom rest h r = (refl, r)
atom-shallow s (predicate_atom w ts) rest h r = (refl, arguments-shallow s ts rest h r)
atom-shallow s (equation_atom positive t u) rest h r =
    let n : ℕ = term_levels (term_meant t) in
    let m : ℕ = term_levels (term_meant u) in
    term-shallow s t (None ∷ term_causes s u rest) (fits-left s n m h) (refl, term-shallow s u rest (fits-right s n m h) r)

-- ---- from the levels: formulas and clauses

variables-shallow : (xs : List (List ℕ)) (rest : List (Option Refusal)) → NoneTooDeep rest → NoneTooDeep (more_variables_causes xs rest)
variables-shallow [] rest r = r
variables-shallow (x ∷ xs) rest r = (refl, (refl, variables-shallow xs rest r))

mutual
  unit-shallow :
      (s : Surroundings) (u : UnitPhrase) (rest : List (Option Refusal))
      → Fits s (unit_levels u) → NoneTooDeep rest → NoneTooDeep (unit_causes s u rest)
  unit-shallow s (negated u) rest h r =
      (fits-begun s (unit_levels u) h, unit-shallow (deeper s) u rest (fits-deeper s (unit_levels u) h) r)
  unit-shallow s (bound q xs u) rest h r =
      let n : ℕ = unit_levels u in
      let below : Surroundings = binding (xs.first ∷ xs.others) (deeper s) in
      let inside : Fits (deeper s) (max 1 n) = fits-deeper s (max 1 n) h in
      let body : NoneTooDeep (unit_causes below u rest) = unit-shallow below u rest (fits-right (deeper s) 1 n inside) r in (
        fits-begun s (max 1 n) h,
        (
          fits-begun (deeper s) 0 (fits-left (deeper s) 1 n inside),
          (refl, variables-shallow xs.others (None ∷ None ∷ unit_causes below u rest) (refl, (refl, body))),
        ),
      )
  unit-shallow s (in_brackets p) rest h r =
      (fits-begun s (phrase_levels p) h, phrase-shallow (deeper s) p (None ∷ rest) (fits-deeper s (phrase_levels p) h) (refl, r))
  unit-shallow s (atomic a) rest h r = atom-shallow s a rest h r

  units-shallow :
      (s : Surroundings) (us : UnitPhrases) (rest : List (Option Refusal))
      → Fits s (units_levels us) → NoneTooDeep rest → NoneTooDeep (units_causes s us rest)
  units-shallow s no_units rest h r = r
  units-shallow s (unit_then u us) rest h r =
      let n : ℕ = unit_levels u in
      let m : ℕ = units_levels us in
      (refl, unit-shallow s u (units_causes s us rest) (fits-left s n m h) (units-shallow s us rest (fits-right s n m h) r))

  phrase-shallow :
      (s : Surroundings) (p : Phrase) (rest : List (Option Refusal))
      → Fits s (phrase_levels p) → NoneTooDeep rest → NoneTooDeep (phrase_causes s p rest)
  phrase-shallow s (alone u) rest h r = unit-shallow s u rest h r
  phrase-shallow s (all_of u v us) rest h r =
      let n : ℕ = unit_levels v in
      let m : ℕ = units_levels us in
      let behind : Fits s (max n m) = fits-right s (unit_levels u) (max n m) h in
      unit-shallow s u (None ∷ unit_causes s v (units_causes s us rest)) (fits-left s (unit_levels u) (max n m) h)
      (refl, unit-shallow s v (units_causes s us rest) (fits-left s n m behind) (units-shallow s us rest (fits-right s n m behind) r))
  phrase-shallow s (some_of u v us) rest h r =
      let n : ℕ = unit_levels v in
      let m : ℕ = units_levels us in
      let behind : Fits s (max n m) = fits-right s (unit_levels u) (max n m) h in
      unit-shallow s u (None ∷ unit_causes s v (units_causes s us rest)) (fits-left s (unit_levels u) (max n m) h)
      (refl, unit-shallow s v (units_causes s us rest) (fits-left s n m behind) (units-shallow s us rest (fits-right s n m behind) r))
  phrase-shallow s (joined_by c u v) rest h r =
      let n : ℕ = unit_levels u in
      let m : ℕ = unit_levels v in
      unit-shallow s u (None ∷ unit_causes s v rest) (fits-left s n m h) (refl, unit-shallow s v rest (fits-right s n m h) r)

literal-shallow :
    (s : Surroundings) (p : LiteralPhrase) (rest : List (Option Refusal))
    → Fits s (literal_levels p) → NoneTooDeep rest → NoneTooDeep (literal_causes s p rest)
literal-shallow s (positive_literal a) rest h r = atom-shallow s a rest h r
literal-shallow s (negated_literal a) rest h r =
    let n : ℕ = atom_levels (atom_of a) in (fits-begun s n h, atom-shallow (deeper s) (atom_of a) rest (fits-deeper s n h) r)
literal-shallow s (negated_in_brackets a) rest h r =
    let n : ℕ = atom_levels (atom_of a) in
    let inside : Fits (deeper s) (suc n) = fits-deeper s (suc n) h in (
      fits-begun s (suc n) h,
      (fits-begun (deeper s) n inside, atom-shallow (deeper (deeper s)) (atom_of a) (None ∷ rest) (fits-deeper (deeper s) n inside) (refl, r)),
    )

literals-shallow :
    (s : Surroundings) (ps : List LiteralPhrase) (rest : List (Option Refusal))
    → Fits s (literals_levels ps) → NoneTooDeep rest → NoneTooDeep (more_literals_causes s ps rest)
literals-shallow s [] rest h r = r
literals-shallow s (p ∷ ps) rest h r =
    let n : ℕ = literal_levels p in
    let m : ℕ = literals_levels ps in
    (refl, literal-shallow s p (more_literals_causes s ps rest) (fits-left s n m h) (literals-shallow s ps rest (fits-right s n m h) r))

clause-shallow :
    (s : Surroundings) (c : ClausePhrase) (rest : List (Option Refusal))
    → Fits s (clause_levels c) → NoneTooDeep rest → NoneTooDeep (clause_causes s c rest)
clause-shallow s (literals p ps) rest h r =
    let n : ℕ = literal_levels p in
    let m : ℕ = literals_levels ps in
    literal-shallow s p (more_literals_causes s ps rest) (fits-left s n m h) (literals-shallow s ps rest (fits-right s n m h) r)
clause-shallow s (clause_in_brackets c) rest h r =
    (fits-begun s (clause_levels c) h, clause-shallow (deeper s) c (None ∷ rest) (fits-deeper s (clause_levels c) h) (refl, r))

pub body-shallow :
    (limit : ℕ) (b : Body) (rest : List (Option Refusal)) → body_levels b ≤ limit → NoneTooDeep rest → NoneTooDeep (body_causes limit b rest)
body-shallow limit (formula_body p) rest h r = phrase-shallow (outermost limit false) p rest (let k : 0 + phrase_levels p ≤ limit = omega (arith, h) in k) r
body-shallow limit (clause_body c) rest h r = clause-shallow (outermost limit true) c rest (let k : 0 + clause_levels c ≤ limit = omega (arith, h) in k) r

-- ---- annotated formulas without faults

faultless-shallow : (causes : List (Option Refusal)) → AllByRecursion (λ (c : Option Refusal). c ≡ None) causes → NoneTooDeep causes
faultless-shallow [] h = tt
faultless-shallow (c ∷ cs) h = (ap is_too_deep h.0, faultless-shallow cs h.1)

pub faultless-within :
    (limit : ℕ) (p : AnnotatedPhrase) → AllByRecursion (λ (c : Option Refusal). c ≡ None) (annotated_causes limit p)
    → body_levels p.body ≤ limit
faultless-within limit p h =
    (body-within limit p.body (notes_part_causes limit p.notes (None ∷ None ∷ [])) (faultless-shallow _ h.1.1.1.1.1.1)).0
