-- The list from the last line to the first, and the first line that speaks of names.
use Rattle.std.proofs.Common.{◌≡◌, ℕ, zero, suc, ◌+◌, ◌-◌, ◌<◌, ◌≤◌, true, false, List, [], ◌∷◌, ◌++◌, length, map, take, get_or, append_assoc, append-nil, Some, None, cond, if◌then◌else◌, ⊎_elim, refl, sym, ap, ap₂, subst, ◌∙◌, arith}
use Rattle.std.specs.Prelude.{option_map, nat_lt}
use Rattle.std.proofs.lemmas.List.{map-append, take_more}
use Rattle.std.proofs.lemmas.List.Sums.{position_or_len_is}
use Rattle.list_lemmas.proofs.Numbers.{not-less, below-or-same}
use Rattle.fol_base.specs.Tree.{Tree}
use Rattle.fol_base.specs.Clause.{TreeClause}
use Rattle.fol_base.specs.Literal.{literal_of, clause_of}
use Rattle.fol_base.specs.declared.clause.Clause.{Clause}
use Rattle.kernel_steps.specs.declared.step.Step.TheVariants.{Input}
use Rattle.kernel_steps.specs.declared.step.Line.{Line}
use Rattle.herbrand_list.specs.Demands.{Demand, with_demand, step_at, last_line, terms_for}
use Rattle.herbrand_list.specs.GroundList.{literals_at, speaks_of_names, names_line, is_clausify, demanded_instance, instances_at, instances_below}
use Rattle.herbrand_list.specs.Answer.{nameless}
use Rattle.herbrand_list.specs.Worked.{row_at}
use Rattle.herbrand_list.proofs.AboutListing.ArrivalLemmas.{below-from}

-- ---- the step of a line that is read

pub step-read : (lines : List Line) (n : ℕ) (d : Line) → n < length lines → step_at lines n ≡ (get_or lines n d).step
step-read [] n d low = absurd (omega (arith, low))
step-read (l ∷ lines) zero d low = refl
step-read (l ∷ lines) (suc n) d low = step-read lines n d (omega (arith, low))

pub literals-read : (lines : List Line) (n : ℕ) (d : Line) → n < length lines → literals_at lines n ≡ map literal_of (get_or lines n d).clause.literals
literals-read [] n d low = absurd (omega (arith, low))
literals-read (l ∷ lines) zero d low = refl
literals-read (l ∷ lines) (suc n) d low = literals-read lines n d (omega (arith, low))

-- a line with a demand is there
pub row-there : (rows : List (List ℕ)) (n i : ℕ) → i < length (row_at rows n) → n < length rows
row-there [] n i low = absurd (omega (arith, low))
row-there (row ∷ rows) zero i low = omega arith
row-there (row ∷ rows) (suc n) i low = let there = row-there rows n i low in omega (arith, there)

-- rows stay empty
pub empty-pushed :
    (rows : List (List ℕ)) (row : List ℕ) → row ≡ [] → ((n : ℕ) → row_at rows n ≡ []) → (n : ℕ) → row_at (rows ++ row ∷ []) n ≡ []
empty-pushed [] row e all zero = e
empty-pushed [] row e all (suc n) = refl
empty-pushed (r ∷ rows) row e all zero = all 0
empty-pushed (r ∷ rows) row e all (suc n) = empty-pushed rows row e (λ k. all (suc k)) n

-- ---- the list

-- the instance of one more demand of a line
pub instance-pushed :
    (constant : Tree) (lines : List Line) (n : ℕ) (ts : List (List Tree)) (i : ℕ) (old mid new : List Clause) (made : Clause) (terms : List Tree)
    → i < length ts → map clause_of mid ≡ map clause_of old ++ map nameless (map (demanded_instance constant lines n) (take i ts))
    → new ≡ mid ++ made ∷ [] → clause_of made ≡ nameless (demanded_instance constant lines n terms) → terms ≡ get_or ts i []
    → map clause_of new ≡ map clause_of old ++ map nameless (map (demanded_instance constant lines n) (take (i + 1) ts))
instance-pushed constant lines n ts i old mid new made terms low so_far pushed is there =
    ap (map clause_of) pushed
    ∙ map-append clause_of mid (made ∷ [])
    ∙ ap₂ (λ (cs : List TreeClause) (c : TreeClause). cs ++ c ∷ []) so_far (is ∙ ap (λ us. nameless (demanded_instance constant lines n us)) there)
    ∙ append_assoc (map clause_of old) (map nameless (map (demanded_instance constant lines n) (take i ts)))
    (nameless (demanded_instance constant lines n (get_or ts i [])) ∷ [])
    ∙ ap (λ cs. map clause_of old ++ cs)
    (sym
    (ap (λ us. map nameless (map (demanded_instance constant lines n) us)) (take_more ts i [] low)
    ∙ ap (map nameless) (map-append (demanded_instance constant lines n) (take i ts) (get_or ts i [] ∷ []))
    ∙ map-append nameless (map (demanded_instance constant lines n) (take i ts)) (demanded_instance constant lines n (get_or ts i []) ∷ [])))

-- the instances of a line, and of those before it
below-one :
    (constant : Tree) (lines : List Line) (demands : List Demand) (n i : ℕ) → 0 < i → n ≡ i - 1
    → instances_below constant lines demands i ≡ instances_at constant lines demands n ++ instances_below constant lines demands n
below-one constant lines demands n zero some e = absurd (omega (arith, some))
below-one constant lines demands n (suc k) some e =
    let same : k ≡ n = omega (arith, e) in
    ap (λ m. instances_at constant lines demands m ++ instances_below constant lines demands m) same

-- a line's instances come at the end of the list
pub listed-line :
    (constant : Tree) (lines : List Line) (demands : List Demand) (n i : ℕ) (old new all : List TreeClause) → 0 < i → n ≡ i - 1
    → new ≡ old ++ map nameless (instances_at constant lines demands n)
    → old ++ map nameless (instances_below constant lines demands i) ≡ all
    → new ++ map nameless (instances_below constant lines demands n) ≡ all
listed-line constant lines demands n i old new all some e made before =
    ap (λ cs. cs ++ map nameless (instances_below constant lines demands n)) made
    ∙ append_assoc old (map nameless (instances_at constant lines demands n)) (map nameless (instances_below constant lines demands n))
    ∙ ap (λ cs. old ++ cs)
    (sym (map-append nameless (instances_at constant lines demands n) (instances_below constant lines demands n))
    ∙ ap (map nameless) (sym (below-one constant lines demands n i some e)))
    ∙ before

-- a line that brings in a clause of the form
pub line-all :
    (constant : Tree) (lines : List Line) (demands : List Demand) (n : ℕ) (old new : List TreeClause) → is_clausify (step_at lines n) ≡ true
    → new ≡ old ++ map nameless (map (demanded_instance constant lines n) (terms_for n demands))
    → new ≡ old ++ map nameless (instances_at constant lines demands n)
line-all constant lines demands n old new is made =
    made ∙ ap (λ b. old ++ map nameless (if b then map (demanded_instance constant lines n) (terms_for n demands) else [])) (sym is)

-- another line has no instances
pub line-none :
    (constant : Tree) (lines : List Line) (demands : List Demand) (n : ℕ) (old : List TreeClause) → is_clausify (step_at lines n) ≡ false
    → old ≡ old ++ map nameless (instances_at constant lines demands n)
line-none constant lines demands n old is =
    sym
    (ap (λ b. old ++ map nameless (if b then map (demanded_instance constant lines n) (terms_for n demands) else [])) is
    ∙ append-nil old)

-- ---- names

-- no line before a place speaks of names
abbrev pub NoneBefore : List Line → ℕ → Type 0
NoneBefore lines i = (k : ℕ) → k < i → speaks_of_names (step_at lines k) ≡ false

pub none-more : (lines : List Line) (i : ℕ) → NoneBefore lines i → speaks_of_names (step_at lines i) ≡ false → NoneBefore lines (i + 1)
none-more lines i before here k low =
    ⊎_elim (λ less. before k less) (λ same. subst (λ m. speaks_of_names (step_at lines m) ≡ false) (sym same) here) (below-or-same k i low)

abbrev default_line : Line
default_line = record { step = Input 0; clause = record { literals = []; names = [] } }

pub names-found :
    (lines : List Line) (i : ℕ) → i < length lines → NoneBefore lines i → speaks_of_names (step_at lines i) ≡ true → Some (i + 1) ≡ names_line lines
names-found lines i low before here =
    ap Some next
    ∙ ap (λ b. option_map suc (cond b (Some i) None)) (sym (below-from i (length lines) low))
    ∙ ap (λ k. option_map suc (cond (nat_lt k (length lines)) (Some k) None))
    (sym (position_or_len_is (λ (l : Line). speaks_of_names l.step) lines i default_line (omega (arith, low)) before (λ h. here)))
  where
    next : i + 1 ≡ suc i
    next = omega arith

pub names-none : (lines : List Line) (i : ℕ) → length lines ≤ i → NoneBefore lines i → None ≡ names_line lines
names-none lines i high before =
    ap (λ b. option_map suc (cond b (Some (length lines)) None)) (sym (not-less (length lines) (length lines) (omega arith)))
    ∙ ap (λ k. option_map suc (cond (nat_lt k (length lines)) (Some k) None))
    (sym
    (position_or_len_is (λ (l : Line). speaks_of_names l.step) lines (length lines) default_line (omega arith)
    (λ k low. before k (omega (arith, low, high))) (λ h. absurd (omega (arith, h)))))

-- ---- the last line

pub first-demand : (lines : List Line) (demands : List Demand) (d : Demand) → demands ≡ [] → d ≡ last_line lines → with_demand demands d ≡ last_line lines ∷ []
first-demand lines demands d none is = ap₂ with_demand none is
