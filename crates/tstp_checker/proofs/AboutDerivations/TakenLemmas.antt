-- The lines that were taken, by their tables.
use Rattle.std.proofs.Common.{◌≡◌, ℕ, zero, suc, ◌+◌, ◌<◌, ◌≤◌, Bool, true, false, not, ◌||◌, ◌==◌, List, [], ◌∷◌, ◌++◌, map, drop, length, get_or, Option, Some, None, refl, ap, ap₂, sym, ◌∙◌, subst, append-nil, arith}
use Rattle.std.specs.Prelude.{option_map, option_and_then, slice_get, nat_lt, bytes_eq, if◌then◌else◌}
use Rattle.std.specs.List.{list_any, position_or_len}
use Rattle.std.proofs.lemmas.Bool.{eqb-true, eq-eqb, false_from_ne_true}
use Rattle.fol_base.specs.Clause.{TreeClause}
use Rattle.fol_base.specs.Literal.{clause_of}
use Rattle.kernel_steps.specs.Parents.{all_there}
use Rattle.kernel_steps.specs.Derivation.{is_component_of, component_clause}
use Rattle.kernel_steps.specs.declared.step.Step.{Step}
use Rattle.kernel_steps.specs.declared.step.Line.{Line}
use Rattle.clausal_form.specs.DerivationClause.{name_number}
use Rattle.clausal_form.specs.DerivationLine.{NamedLine, kernel_lines}
use Rattle.clausal_form.specs.DerivationParts.{line_place}
use Rattle.tstp_checker.specs.declared.taken.TakenLines.{TakenLines}
use Rattle.tstp_checker.specs.Taken.{named_lines, taken_of, clause_at, IsKept, IsNext, introduced_by, components_with}
use Rattle.tstp_lines.proofs.AboutItems.ItemLemmas.{joined}
use Rattle.list_lemmas.proofs.Lists.{length-pushed, push-joined}
use Rattle.list_lemmas.proofs.Places.{get-last, drop-item, drop-all}
use Rattle.kernel_steps.specs.declared.step.Step.TheVariants as step

-- ---- lines with their names

pub lines-of : (ns : List (List ℕ)) (ls : List Line) → map (λ (l : NamedLine). l.line) (named_lines ns ls) ≡ ls
lines-of [] [] = refl
lines-of [] (l ∷ ls) = ap (λ ks. l ∷ ks) (lines-of [] ls)
lines-of (n ∷ ns) [] = refl
lines-of (n ∷ ns) (l ∷ ls) = ap (λ ks. l ∷ ks) (lines-of ns ls)

pub named-length : (ns : List (List ℕ)) (ls : List Line) → length (named_lines ns ls) ≡ length ls
named-length [] [] = refl
named-length [] (l ∷ ls) = omega (arith, named-length [] ls)
named-length (n ∷ ns) [] = refl
named-length (n ∷ ns) (l ∷ ls) = omega (arith, named-length ns ls)

abbrev has_name : List ℕ → NamedLine → Bool
has_name x l = bytes_eq x l.name

pub named-any :
    (x : List ℕ) (ns : List (List ℕ)) (ls : List Line)
    → length ns ≡ length ls → list_any (λ (l : NamedLine). bytes_eq x l.name) (named_lines ns ls) ≡ list_any (bytes_eq x) ns
named-any x [] [] e = refl
named-any x [] (l ∷ ls) e = absurd (omega (arith, e))
named-any x (n ∷ ns) [] e = absurd (omega (arith, e))
named-any x (n ∷ ns) (l ∷ ls) e = ap (λ b. bytes_eq x n || b) (named-any x ns ls (omega (arith, e)))

named-position :
    (x : List ℕ) (ns : List (List ℕ)) (ls : List Line)
    → length ns ≡ length ls → position_or_len (has_name x) (named_lines ns ls) ≡ position_or_len (bytes_eq x) ns
named-position x [] [] e = refl
named-position x [] (l ∷ ls) e = absurd (omega (arith, e))
named-position x (n ∷ ns) [] e = absurd (omega (arith, e))
named-position x (n ∷ ns) (l ∷ ls) e = ap (λ k. if not (bytes_eq x n) then 1 + k else 0) (named-position x ns ls (omega (arith, e)))

pub named-place : (x : TakenLines) (name : List ℕ) → IsKept x → name_number x.names name ≡ line_place (taken_of x) name
named-place x name kept =
    ap₂ (λ k m. if nat_lt k m then Some k else None) (sym (named-position name x.names x.lines kept.named))
    (kept.named ∙ sym (named-length x.names x.lines))

-- ---- a list each of whose items says something

pub walk-starts : {A X : Type 0} (item : A → Option X) (ts : List A) (made : List X) → made ≡ [] → joined made (all_there (map item (drop 0 ts))) ≡ all_there (map item ts)
walk-starts item ts made e = ap (λ ys. joined ys (all_there (map item (drop 0 ts)))) e ∙ begins (all_there (map item (drop 0 ts))) ∙ ap (λ us. all_there (map item us)) (drop-none ts)
  where
    begins : {X : Type 0} (o : Option (List X)) → joined [] o ≡ o
    begins None = refl
    begins (Some xs) = refl

    drop-none : {A : Type 0} (us : List A) → drop 0 us ≡ us
    drop-none [] = refl
    drop-none (u ∷ us) = refl

pub walk-more :
    {A X : Type 0} (item : A → Option X) (ts : List A) (i : ℕ) (t : A) (x : X) (made new : List X) (all : Option (List X))
    → i < length ts → t ≡ get_or ts i t → Some x ≡ item t → new ≡ made ++ x ∷ []
    → joined made (all_there (map item (drop i ts))) ≡ all → joined new (all_there (map item (drop (i + 1) ts))) ≡ all
walk-more {X = X} item ts i t x made new all h e o a w =
    ap (λ ys. joined ys rest) a ∙ by rest
    ∙ ap (λ p. joined made (option_and_then (λ y. option_map (λ ys. y ∷ ys) rest) p)) o
    ∙ ap (λ us. joined made (all_there (map item us))) (sym (drop-item ts i t h e)) ∙ w
  where
    rest : Option (List X)
    rest = all_there (map item (drop (i + 1) ts))

    by : (o : Option (List X)) → joined (made ++ x ∷ []) o ≡ joined made (option_map (λ ys. x ∷ ys) o)
    by None = refl
    by (Some ys) = ap (λ zs. Some zs) (push-joined made x ys)

pub walk-none :
    {A X : Type 0} (item : A → Option X) (ts : List A) (i : ℕ) (t : A) (made : List X) (all : Option (List X))
    → i < length ts → t ≡ get_or ts i t → None ≡ item t → joined made (all_there (map item (drop i ts))) ≡ all → None ≡ all
walk-none item ts i t made all h e o w =
    ap (λ p. joined made (option_and_then (λ y. option_map (λ ys. y ∷ ys) (all_there (map item (drop (i + 1) ts)))) p)) o
    ∙ ap (λ us. joined made (all_there (map item us))) (sym (drop-item ts i t h e)) ∙ w

pub walk-ends :
    {A X : Type 0} (item : A → Option X) (ts : List A) (i : ℕ) (made : List X) (all : Option (List X))
    → length ts ≤ i → joined made (all_there (map item (drop i ts))) ≡ all → Some made ≡ all
walk-ends item ts i made all h w =
    ap (λ ys. Some ys) (sym (append-nil made)) ∙ ap (λ us. joined made (all_there (map item us))) (sym (drop-all ts i h)) ∙ w

-- ---- steps and clauses of lines

-- the step of the line at a place
pub step-there :
    (x : TakenLines) (p : ℕ)
    → option_map (λ (l : Line). l.step) (slice_get x.lines p) ≡ option_map (λ (l : NamedLine). (l.line).step) (slice_get (taken_of x).lines p)
step-there x p = by x.names x.lines p
  where
    by :
        (ns : List (List ℕ)) (ls : List Line) (i : ℕ)
        → option_map (λ (l : Line). l.step) (slice_get ls i) ≡ option_map (λ (l : NamedLine). (l.line).step) (slice_get (named_lines ns ls) i)
    by [] [] i = refl
    by [] (l ∷ ls) zero = refl
    by [] (l ∷ ls) (suc i) = by [] ls i
    by (n ∷ ns) [] i = refl
    by (n ∷ ns) (l ∷ ls) zero = refl
    by (n ∷ ns) (l ∷ ls) (suc i) = by ns ls i

pub component-there :
    (x : TakenLines) (n : ℕ) → IsKept x → clause_at x.lines (slice_get x.components n) ≡ component_clause n (kernel_lines (taken_of x))
component-there x n kept = sym (ap (component_clause n) (lines-of x.names x.lines) ∙ kept.components n)

-- ---- a line more

abbrev or_else : {X : Type 0} → Option X → Option X → Option X
or_else None other = other
or_else (Some x) other = Some x

slice-front : {X : Type 0} (xs ys : List X) (n : ℕ) → n < length xs → slice_get (xs ++ ys) n ≡ slice_get xs n
slice-front [] ys n h = absurd (omega (arith, h))
slice-front (x ∷ xs) ys zero h = refl
slice-front (x ∷ xs) ys (suc n) h = slice-front xs ys n (omega (arith, h))

named-more :
    (ns : List (List ℕ)) (ls : List Line) (n : List ℕ) (l : Line)
    → length ns ≡ length ls → named_lines (ns ++ n ∷ []) (ls ++ l ∷ []) ≡ named_lines ns ls ++ record { name = n; line = l } ∷ []
named-more [] [] n l e = refl
named-more [] (k ∷ ks) n l e = absurd (omega (arith, e))
named-more (m ∷ ms) [] n l e = absurd (omega (arith, e))
named-more (m ∷ ms) (k ∷ ks) n l e = ap (λ rest. record { name = m; line = k } ∷ rest) (named-more ms ks n l (omega (arith, e)))

component-more :
    (n : ℕ) (ls : List Line) (l : Line)
    → component_clause n (ls ++ l ∷ [])
    ≡ or_else (component_clause n ls) (if is_component_of n l.step then Some (clause_of l.clause) else None)
component-more n [] l = refl
component-more n (k ∷ ks) l = by (is_component_of n k.step) (component-more n ks l)
  where
    by :
        (b : Bool)
        → component_clause n (ks ++ l ∷ []) ≡ or_else (component_clause n ks) (if is_component_of n l.step then Some (clause_of l.clause) else None)
        → (if b then Some (clause_of k.clause) else component_clause n (ks ++ l ∷ []))
        ≡ or_else (if b then Some (clause_of k.clause) else component_clause n ks) (if is_component_of n l.step then Some (clause_of l.clause) else None)
    by true more = refl
    by false more = more

-- what is in the table stays
clause-stays :
    (ls : List Line) (l : Line) (p : ℕ) → p < length ls → clause_at (ls ++ l ∷ []) (Some p) ≡ clause_at ls (Some p)
clause-stays ls l p h = ap (option_map (λ (k : Line). clause_of k.clause)) (slice-front ls (l ∷ []) p h)

some-clause : (ls : List Line) (p : ℕ) (o : Option TreeClause) → p < length ls → or_else (clause_at ls (Some p)) o ≡ clause_at ls (Some p)
some-clause [] p o h = absurd (omega (arith, h))
some-clause (l ∷ ls) zero o h = refl
some-clause (l ∷ ls) (suc p) o h = some-clause ls p o (omega (arith, h))

or-none : (o : Option TreeClause) → or_else o None ≡ o
or-none None = refl
or-none (Some c) = refl

abbrev Says : List Line → List ℕ → ℕ → Type 0
Says ls table n = component_clause n ls ≡ clause_at ls (slice_get table n)

abbrev Within : List Line → List ℕ → Type 0
Within ls table = (n place : ℕ) → slice_get table n ≡ Some place → place < length ls

other-more :
    (n : ℕ) (ls : List Line) (l : Line) (table : List ℕ)
    → Says ls table n → Within ls table → is_component_of n l.step ≡ false → Says (ls ++ l ∷ []) table n
other-more n ls l table says within other =
    component-more n ls l
    ∙ ap (λ b. or_else (component_clause n ls) (if b then Some (clause_of l.clause) else None)) other
    ∙ or-none (component_clause n ls) ∙ says ∙ by (slice_get table n) refl
  where
    by : (o : Option ℕ) → slice_get table n ≡ o → clause_at ls o ≡ clause_at (ls ++ l ∷ []) o
    by None e = refl
    by (Some p) e = sym (clause-stays ls l p (within n p e))

eq-suc : (n m : ℕ) → (suc n == suc m) ≡ (n == m)
eq-suc n m = by (n == m) refl
  where
    by : (b : Bool) → (n == m) ≡ b → (suc n == suc m) ≡ b
    by true e = eq-eqb (suc n) (suc m) (ap suc (eqb-true n m e))
    by false e =
        false_from_ne_true (suc n == suc m) λ same.
        let next : suc n ≡ suc m = eqb-true (suc n) (suc m) same in
        let less : n ≡ m = omega (arith, next) in
        let bad : false ≡ true = sym e ∙ eq-eqb n m less in cc

slice-more :
    {X : Type 0} (xs : List X) (x : X) (n : ℕ) → slice_get (xs ++ x ∷ []) n ≡ or_else (slice_get xs n) (if n == length xs then Some x else None)
slice-more [] x zero = refl
slice-more [] x (suc n) = ap (λ b. if b then Some x else None) (sym (false_from_ne_true (suc n == 0) λ e. let no : suc n ≡ 0 = eqb-true (suc n) 0 e in let bad : ⊥ = omega (arith, no) in bad))
slice-more (y ∷ ys) x zero = refl
slice-more (y ∷ ys) x (suc n) = slice-more ys x n ∙ ap (λ b. or_else (slice_get ys n) (if b then Some x else None)) (sym (eq-suc n (length ys)))

component-of-more :
    (n m : ℕ) (ls : List Line) (l : Line) (table : List ℕ)
    → Says ls table n → Within ls table → l.step ≡ step.Component m → m ≡ length table → Says (ls ++ l ∷ []) (table ++ length ls ∷ []) n
component-of-more n m ls l table says within is next =
    component-more n ls l
    ∙ ap (λ st. or_else (component_clause n ls) (if is_component_of n st then Some (clause_of l.clause) else None)) is
    ∙ ap (λ o. or_else o (if m == n then Some (clause_of l.clause) else None)) says
    ∙ by (slice_get table n) refl
    ∙ ap (clause_at (ls ++ l ∷ [])) (sym (slice-more table (length ls) n))
  where
    last : (b : Bool) → (m == n) ≡ b → (if b then Some (clause_of l.clause) else None) ≡ clause_at (ls ++ l ∷ []) (if n == length table then Some (length ls) else None)
    last true e =
        let same : n ≡ length table = sym (eqb-true m n e) ∙ next in
        sym
        (ap (λ b. clause_at (ls ++ l ∷ []) (if b then Some (length ls) else None)) (eq-eqb n (length table) same)
        ∙ ap (option_map (λ (k : Line). clause_of k.clause)) (get-last ls l))
    last false e =
        sym
        (ap (λ b. clause_at (ls ++ l ∷ []) (if b then Some (length ls) else None))
        (ap (λ k. n == k) (sym next) ∙ false_from_ne_true (n == m) λ same.
        let no : false ≡ true = sym e ∙ eq-eqb m n (sym (eqb-true n m same)) in cc))

    by :
        (o : Option ℕ) → slice_get table n ≡ o
        → or_else (clause_at ls o) (if m == n then Some (clause_of l.clause) else None)
        ≡ clause_at (ls ++ l ∷ []) (or_else o (if n == length table then Some (length ls) else None))
    by None e = last (m == n) refl
    by (Some p) e = some-clause ls p (if m == n then Some (clause_of l.clause) else None) (within n p e) ∙ sym (clause-stays ls l p (within n p e))

within-more : (ls : List Line) (l : Line) (table : List ℕ) → Within ls table → Within (ls ++ l ∷ []) table
within-more ls l table within n p e = omega (arith, within n p e, length-pushed ls l)

within-component : (ls : List Line) (l : Line) (table : List ℕ) → Within ls table → Within (ls ++ l ∷ []) (table ++ length ls ∷ [])
within-component ls l table within n p e = by (slice_get table n) refl (sym (slice-more table (length ls) n) ∙ e)
  where
    last : (b : Bool) → (if b then Some (length ls) else None) ≡ Some p → p < length (ls ++ l ∷ [])
    last true h = let same : length ls ≡ p = cc in omega (arith, same, length-pushed ls l)
    last false h = absurd (cc)

    by : (o : Option ℕ) → slice_get table n ≡ o → or_else o (if n == length table then Some (length ls) else None) ≡ Some p → p < length (ls ++ l ∷ [])
    by None f h = last (n == length table) h
    by (Some q) f h = let same : q ≡ p = cc in omega (arith, same, within n q f, length-pushed ls l)

-- the table after a line more
abbrev IsTable : List Line → List ℕ → Type 0
IsTable ls table = ((n : ℕ) → Says ls table n) × Within ls table

table-more :
    (ls : List Line) (l : Line) (table : List ℕ) (st : Step)
    → l.step ≡ st → IsNext (length table) st → IsTable ls table → IsTable (ls ++ l ∷ []) (components_with (length ls) table st)
table-more ls l table (step.Input a) is next known = (λ n. other-more n ls l table (known.0 n) known.1 (ap (is_component_of n) is), within-more ls l table known.1)
table-more ls l table (step.Negate a) is next known = (λ n. other-more n ls l table (known.0 n) known.1 (ap (is_component_of n) is), within-more ls l table known.1)
table-more ls l table (step.Clausify a) is next known = (λ n. other-more n ls l table (known.0 n) known.1 (ap (is_component_of n) is), within-more ls l table known.1)
table-more ls l table (step.Para a b d f g i j k m) is next known = (λ n. other-more n ls l table (known.0 n) known.1 (ap (is_component_of n) is), within-more ls l table known.1)
table-more ls l table (step.Refl a b d) is next known = (λ n. other-more n ls l table (known.0 n) known.1 (ap (is_component_of n) is), within-more ls l table known.1)
table-more ls l table (step.Factor a b d f g i) is next known = (λ n. other-more n ls l table (known.0 n) known.1 (ap (is_component_of n) is), within-more ls l table known.1)
table-more ls l table (step.Merge a b d f) is next known = (λ n. other-more n ls l table (known.0 n) known.1 (ap (is_component_of n) is), within-more ls l table known.1)
table-more ls l table (step.Component m) is next known = (λ n. component-of-more n m ls l table (known.0 n) known.1 is next, within-component ls l table known.1)
table-more ls l table (step.Opposite a) is next known = (λ n. other-more n ls l table (known.0 n) known.1 (ap (is_component_of n) is), within-more ls l table known.1)
table-more ls l table (step.Split a b d) is next known = (λ n. other-more n ls l table (known.0 n) known.1 (ap (is_component_of n) is), within-more ls l table known.1)
table-more ls l table (step.Chain a b) is next known = (λ n. other-more n ls l table (known.0 n) known.1 (ap (is_component_of n) is), within-more ls l table known.1)

pub added-kept :
    (x y : TakenLines) (name : List ℕ) (l : Line)
    → IsKept x → IsNext (length x.components) l.step → y.names ≡ x.names ++ name ∷ [] → y.lines ≡ x.lines ++ l ∷ []
    → y.components ≡ components_with (length x.lines) x.components l.step → IsKept y
added-kept x y name l kept next names lines components = record {
  named = omega (arith, ap length names, ap length lines, length-pushed x.names name, length-pushed x.lines l, kept.named);
  components = (subst (λ ls. IsTable ls y.components) (sym lines) (subst (IsTable (x.lines ++ l ∷ [])) (sym components) more)).0;
  within = (subst (λ ls. IsTable ls y.components) (sym lines) (subst (IsTable (x.lines ++ l ∷ [])) (sym components) more)).1;
}
  where
    more : IsTable (x.lines ++ l ∷ []) (components_with (length x.lines) x.components l.step)
    more = table-more x.lines l x.components l.step refl next (kept.components, kept.within)

pub added-lines :
    (x y : TakenLines) (name : List ℕ) (l : Line)
    → IsKept x → y.names ≡ x.names ++ name ∷ [] → y.lines ≡ x.lines ++ l ∷ []
    → (taken_of y).lines ≡ (taken_of x).lines ++ record { name = name; line = l } ∷ []
added-lines x y name l kept names lines = ap₂ named_lines names lines ∙ named-more x.names x.lines name l kept.named

pub components-length : (place : ℕ) (table : List ℕ) (st : Step) → length (components_with place table st) ≡ length table + introduced_by st
components-length place table (step.Input a) = omega arith
components-length place table (step.Negate a) = omega arith
components-length place table (step.Clausify a) = omega arith
components-length place table (step.Para a b d f g i j k m) = omega arith
components-length place table (step.Refl a b d) = omega arith
components-length place table (step.Factor a b d f g i) = omega arith
components-length place table (step.Merge a b d f) = omega arith
components-length place table (step.Component m) = length-pushed table place
components-length place table (step.Opposite a) = omega arith
components-length place table (step.Split a b d) = omega arith
components-length place table (step.Chain a b) = omega arith
