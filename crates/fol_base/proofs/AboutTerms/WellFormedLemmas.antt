-- What the rules make of well-formed literals is well-formed.
use Rattle.std.proofs.Common.{◌≡◌, ℕ, Bool, true, false, ◌&&◌, ◌||◌, ◌==◌, ◌⊎◌, List, [], ◌∷◌, Some, refl, ap, sym, ◌∙◌, inl, inr, ⊎_elim}
use Rattle.std.specs.Prelude.{slice_get, slice_set, remove}
use Rattle.std.proofs.lemmas.Bool.{and_parts, and_from, or_cases, or_left, or_right, eqb-true, eq-eqb, true≢false}
use Rattle.std.proofs.lemmas.Option.{same_Some}
use Rattle.fol_base.specs.Tree.{Tree, variable, application, Trees, no_trees, tree_then, trees_count, is_truth}
use Rattle.fol_base.specs.Instance.{Substitution}
use Rattle.fol_base.specs.Place.{subterm, replaced}
use Rattle.fol_base.specs.Clause.{TreeLiteral, literal_instance}
use Rattle.fol_base.specs.Sides.{side_of, other_side_of, with_side}
use Rattle.fol_base.specs.Kind.{is_function_term, is_predicate_term, is_literal, PutsFunctionTerms}
use Rattle.fol_base.specs.Symbols.{FunctionSymbol}
use Rattle.fol_base.specs.Ground.{has_symbol, is_ground, is_over, are_over}
use Rattle.fol_base.specs.Rules.{superposed_literal, disequation}
use Rattle.fol_base.specs.WellFormed.{SymbolUse, has_arities, have_arities, is_term_of, are_symbols_of, WellFormedSides, GroundTreesAreOfUse, is_literal_of, are_literals_of, PutsFunctionTermsOf, WellFormedInstances, WellFormedSuperpositions, WellFormedResolutions, WellFormedFactorings, WellFormedMerges}
use Rattle.fol_base.specs.declared.clause.Side.{Side}
use Rattle.fol_base.specs.declared.clause.Side.TheVariants.{Left, Right}
use Rattle.fol_base.proofs.WorkedExamples.TestLemmas.{list_all-item, list_all-joined, list_all-set, list_all-remove, list_all-map_from}
use Rattle.fol_base.proofs.AboutTerms.KindLemmas.{is_over-function_term, no_predicate_term, function_term-no_truth, predicate_term-no_truth, is_function_term-subterm, is_predicate_term-subterm, is_truth-subterm, is_function_term-replaced, is_predicate_term-replaced, has_arities-replaced, is_function_term-instance, is_predicate_term-instance, has_arities-instance}
use Rattle.fol_base.proofs.AboutClauses.InferenceLemmas.{is_truth-instance}
use Rattle.fol_base.proofs.AboutClauses.RuleLemmas.{superposed_literal-parts, superposed-parts, resolved-parts, factored-parts, merged-parts}

-- ---- the kinds of literals

abbrev pub IsEquation : (ℕ → Bool) → TreeLiteral → Type 0
IsEquation p l = (is_function_term p l.left ≡ true) × (is_function_term p l.right ≡ true)

-- an atom, or `$true`, with `$true`
abbrev pub IsAtom : (ℕ → Bool) → TreeLiteral → Type 0
IsAtom p l = ((is_predicate_term p l.left ≡ true) ⊎ (is_truth l.left ≡ true)) × (is_truth l.right ≡ true)

pub is_literal-cases : (p : ℕ → Bool) (l : TreeLiteral) → is_literal p l ≡ true → IsEquation p l ⊎ IsAtom p l
is_literal-cases p l h =
    ⊎_elim
    (λ equation. inl (and_parts (is_function_term p l.left) (is_function_term p l.right) equation))
    (λ atom.
    let parts = and_parts (is_predicate_term p l.left || is_truth l.left) (is_truth l.right) atom in
    inr (or_cases (is_predicate_term p l.left) (is_truth l.left) parts.0, parts.1))
    (or_cases (is_function_term p l.left && is_function_term p l.right) ((is_predicate_term p l.left || is_truth l.left) && is_truth l.right) h)

pub is_literal-from_equation : (p : ℕ → Bool) (l : TreeLiteral) → IsEquation p l → is_literal p l ≡ true
is_literal-from_equation p l h = or_left _ _ (and_from (is_function_term p l.left) (is_function_term p l.right) h.0 h.1)

pub is_literal-from_atom : (p : ℕ → Bool) (l : TreeLiteral) → IsAtom p l → is_literal p l ≡ true
is_literal-from_atom p l h =
    or_right (is_function_term p l.left && is_function_term p l.right) _
    (and_from (is_predicate_term p l.left || is_truth l.left) (is_truth l.right)
    (⊎_elim (λ e. or_left (is_predicate_term p l.left) (is_truth l.left) e) (λ e. or_right (is_predicate_term p l.left) (is_truth l.left) e) h.0)
    h.1)

-- the sides of a literal from one that isn't `$true`: both are function terms, or it is an atom and the other is `$true`
abbrev pub SidesOfOneKind : (ℕ → Bool) → Tree → Tree → Type 0
SidesOfOneKind p t u =
    ((is_function_term p t ≡ true) × (is_function_term p u ≡ true)) ⊎ ((is_predicate_term p t ≡ true) × (is_truth u ≡ true))

pub sides_of_one_kind :
    (p : ℕ → Bool) (s : Side) (l : TreeLiteral)
    → is_literal p l ≡ true → is_truth (side_of s l) ≡ false → SidesOfOneKind p (side_of s l) (other_side_of s l)
sides_of_one_kind p Left l h no_truth =
    ⊎_elim
    (λ equation. inl (equation.0, equation.1))
    (λ atom. ⊎_elim (λ predicate. inr (predicate, atom.1)) (λ truth. absurd (true≢false (sym truth ∙ no_truth))) atom.0)
    (is_literal-cases p l h)
sides_of_one_kind p Right l h no_truth =
    ⊎_elim
    (λ equation. inl (equation.1, equation.0))
    (λ atom. absurd (true≢false (sym atom.1 ∙ no_truth)))
    (is_literal-cases p l h)

-- ---- a side of a literal with a subterm replaced by a term of its kind

-- no term of a kind stands in `$true`
no_truth_there :
    (p : ℕ → Bool) (place : List ℕ) (t old new : Tree)
    → SidesOfOneKind p old new → subterm place t ≡ Some old → is_truth t ≡ true → ⊥
no_truth_there p place t old new kinds there truth =
    let old_truth : is_truth old ≡ true = is_truth-subterm place t old there truth in
    ⊎_elim
    (λ function. true≢false (sym old_truth ∙ function_term-no_truth p old function.0))
    (λ predicate. true≢false (sym old_truth ∙ predicate_term-no_truth p old predicate.0))
    kinds

-- of a function term
function_term-kept :
    (p : ℕ → Bool) (place : List ℕ) (t old new made : Tree)
    → SidesOfOneKind p old new → subterm place t ≡ Some old → replaced place new t ≡ Some made
    → is_function_term p t ≡ true → is_function_term p made ≡ true
function_term-kept p place t old new made kinds there put h =
    ⊎_elim
    (λ function. is_function_term-replaced p place new t made put h function.1)
    (λ predicate. absurd (no_predicate_term p old (is_function_term-subterm p place t old there h) predicate.0))
    kinds

-- of an atom
predicate_term-kept :
    (p : ℕ → Bool) (place : List ℕ) (t old new made : Tree)
    → SidesOfOneKind p old new → subterm place t ≡ Some old → replaced place new t ≡ Some made
    → is_predicate_term p t ≡ true → (is_predicate_term p made ≡ true) ⊎ (is_truth made ≡ true)
predicate_term-kept p [] t old new made kinds there put h =
    ⊎_elim
    (λ function. absurd (no_predicate_term p old function.0 (ap (is_predicate_term p) (sym (same_Some t old there)) ∙ h)))
    (λ predicate. inr (ap is_truth (sym (same_Some new made put)) ∙ predicate.1))
    kinds
predicate_term-kept p (k ∷ place) t old new made kinds there put h =
    ⊎_elim
    (λ function. inl (is_predicate_term-replaced p k place new t made put h function.1))
    (λ predicate. absurd (no_predicate_term p old (is_predicate_term-subterm p k place t old there h) predicate.0))
    kinds

-- of a literal
is_literal-kept :
    (p : ℕ → Bool) (z : Side) (into : TreeLiteral) (place : List ℕ) (old new made : Tree)
    → SidesOfOneKind p old new → subterm place (side_of z into) ≡ Some old → replaced place new (side_of z into) ≡ Some made
    → is_literal p into ≡ true → is_literal p (with_side z made into) ≡ true
is_literal-kept p Left into place old new made kinds there put h =
    ⊎_elim
    (λ equation.
    is_literal-from_equation p (with_side Left made into)
    (function_term-kept p place into.left old new made kinds there put equation.0, equation.1))
    (λ atom.
    ⊎_elim
    (λ predicate.
    is_literal-from_atom p (with_side Left made into)
    (predicate_term-kept p place into.left old new made kinds there put predicate, atom.1))
    (λ truth. absurd (no_truth_there p place into.left old new kinds there truth))
    atom.0)
    (is_literal-cases p into h)
is_literal-kept p Right into place old new made kinds there put h =
    ⊎_elim
    (λ equation.
    is_literal-from_equation p (with_side Right made into)
    (equation.0, function_term-kept p place into.right old new made kinds there put equation.1))
    (λ atom. absurd (no_truth_there p place into.right old new kinds there atom.1))
    (is_literal-cases p into h)

-- ---- literals of a use of the symbols

pub record LiteralOf (usage : SymbolUse) (l : TreeLiteral) : Type 0 where
  pub kind : is_literal usage.is_predicate l ≡ true
  pub left_arities : has_arities usage.arity l.left ≡ true
  pub right_arities : has_arities usage.arity l.right ≡ true

pub is_literal_of-parts : (usage : SymbolUse) (l : TreeLiteral) → is_literal_of usage l ≡ true → LiteralOf usage l
is_literal_of-parts usage l h =
    let parts = and_parts (is_literal usage.is_predicate l) (has_arities usage.arity l.left && has_arities usage.arity l.right) h in
    let sides = and_parts (has_arities usage.arity l.left) (has_arities usage.arity l.right) parts.1 in
    record { kind = parts.0; left_arities = sides.0; right_arities = sides.1 }

pub is_literal_of-from : (usage : SymbolUse) (l : TreeLiteral) → LiteralOf usage l → is_literal_of usage l ≡ true
is_literal_of-from usage l h =
    and_from (is_literal usage.is_predicate l) _ h.kind (and_from (has_arities usage.arity l.left) _ h.left_arities h.right_arities)

pub side_arities : (usage : SymbolUse) (s : Side) (l : TreeLiteral) → LiteralOf usage l → has_arities usage.arity (side_of s l) ≡ true
side_arities usage Left l h = h.left_arities
side_arities usage Right l h = h.right_arities

pub other_side_arities :
    (usage : SymbolUse) (s : Side) (l : TreeLiteral) → LiteralOf usage l → has_arities usage.arity (other_side_of s l) ≡ true
other_side_arities usage Left l h = h.right_arities
other_side_arities usage Right l h = h.left_arities

pub LiteralOf-with_side :
    (usage : SymbolUse) (z : Side) (t : Tree) (l : TreeLiteral)
    → LiteralOf usage l → is_literal usage.is_predicate (with_side z t l) ≡ true → has_arities usage.arity t ≡ true
    → LiteralOf usage (with_side z t l)
LiteralOf-with_side usage Left t l h kind arities = record { kind = kind; left_arities = arities; right_arities = h.right_arities }
LiteralOf-with_side usage Right t l h kind arities = record { kind = kind; left_arities = h.left_arities; right_arities = arities }

-- an item of a list
pub is_literal_of-item :
    (usage : SymbolUse) (ls : List TreeLiteral) (i : ℕ) (l : TreeLiteral)
    → slice_get ls i ≡ Some l → are_literals_of usage ls ≡ true → LiteralOf usage l
is_literal_of-item usage ls i l there h = is_literal_of-parts usage l (list_all-item (is_literal_of usage) ls i l there h)

-- ---- instances

pub is_literal-instance :
    (p : ℕ → Bool) (σ : Substitution) → PutsFunctionTerms p σ
    → (l : TreeLiteral) → is_literal p l ≡ true → is_literal p (literal_instance σ l) ≡ true
is_literal-instance p σ puts l h =
    ⊎_elim
    (λ equation.
    is_literal-from_equation p (literal_instance σ l)
    (is_function_term-instance p σ puts l.left equation.0, is_function_term-instance p σ puts l.right equation.1))
    (λ atom.
    is_literal-from_atom p (literal_instance σ l) (
      ⊎_elim
          (λ predicate. inl (is_predicate_term-instance p σ puts l.left predicate))
          (λ truth. inr (is_truth-instance σ l.left truth))
          atom.0,
      is_truth-instance σ l.right atom.1,
    ))
    (is_literal-cases p l h)

-- what is put in: function terms, with the symbols' numbers of arguments
pub PutsFunctionTermsOf-functions : (usage : SymbolUse) (σ : Substitution) → PutsFunctionTermsOf usage σ → PutsFunctionTerms usage.is_predicate σ
PutsFunctionTermsOf-functions usage σ puts v = (and_parts (is_function_term usage.is_predicate (σ v)) (has_arities usage.arity (σ v)) (puts v)).0

pub PutsFunctionTermsOf-arities : (usage : SymbolUse) (σ : Substitution) → PutsFunctionTermsOf usage σ → (v : ℕ) → has_arities usage.arity (σ v) ≡ true
PutsFunctionTermsOf-arities usage σ puts v = (and_parts (is_function_term usage.is_predicate (σ v)) (has_arities usage.arity (σ v)) (puts v)).1

pub is_literal_of-instance :
    (usage : SymbolUse) (σ : Substitution) → PutsFunctionTermsOf usage σ
    → (l : TreeLiteral) → is_literal_of usage l ≡ true → is_literal_of usage (literal_instance σ l) ≡ true
is_literal_of-instance usage σ puts l h =
    let parts = is_literal_of-parts usage l h in
    let arities = PutsFunctionTermsOf-arities usage σ puts in
    is_literal_of-from usage (literal_instance σ l) (record {
      kind = is_literal-instance usage.is_predicate σ (PutsFunctionTermsOf-functions usage σ puts) l parts.kind;
      left_arities = has_arities-instance usage.arity σ arities l.left parts.left_arities;
      right_arities = has_arities-instance usage.arity σ arities l.right parts.right_arities;
    })

pub well_formed_instances : WellFormedInstances
well_formed_instances usage σ ls puts h =
    list_all-map_from (is_literal_of usage) (is_literal_of usage) (literal_instance σ) (is_literal_of-instance usage σ puts) ls h

-- ---- the rules

pub is_literal_of-superposed :
    (usage : SymbolUse) (from : TreeLiteral) (s : Side) (into : TreeLiteral) (z : Side) (place : List ℕ) (made : TreeLiteral)
    → LiteralOf usage from → LiteralOf usage into → superposed_literal from s into z place ≡ Some made
    → is_literal_of usage made ≡ true
is_literal_of-superposed usage from s into z place made from_is into_is h =
    let p : ℕ → Bool = usage.is_predicate in
    let step = superposed_literal-parts from s into z place made h in
    ap (is_literal_of usage) (sym step.gives)
    ∙ is_literal_of-from usage (with_side z step.new into)
    (LiteralOf-with_side usage z step.new into into_is
    (is_literal-kept p z into place (side_of s from) (other_side_of s from) step.new
    (sides_of_one_kind p s from from_is.kind step.no_truth) step.old_there step.new_made into_is.kind)
    (has_arities-replaced usage.arity place (other_side_of s from) (side_of z into) step.new step.new_made
    (side_arities usage z into into_is) (other_side_arities usage s from from_is)))

pub well_formed_superpositions : WellFormedSuperpositions
well_formed_superpositions usage first second made i j s z place first_is second_is h =
    let step = superposed-parts first i s second j z place made h in
    ap (are_literals_of usage) (sym step.gives)
    ∙ list_all-joined (is_literal_of usage) (slice_set second j step.literal) (remove first i)
    (list_all-set (is_literal_of usage) second j step.literal second_is
    (is_literal_of-superposed usage step.from s step.into z place step.literal
    (is_literal_of-item usage first i step.from step.from_there first_is)
    (is_literal_of-item usage second j step.into step.into_there second_is) step.literal_made))
    (list_all-remove (is_literal_of usage) first i first_is)

pub well_formed_resolutions : WellFormedResolutions
well_formed_resolutions usage ls made i h step =
    ap (are_literals_of usage) (sym (resolved-parts ls i made step).gives) ∙ list_all-remove (is_literal_of usage) ls i h

-- the disequation that factoring makes: its sides are those other than two equal ones that aren't `$true`
apart-kind :
    (p : ℕ → Bool) (t t' u v : Tree)
    → t ≡ t' → SidesOfOneKind p t u → SidesOfOneKind p t' v → is_literal p (disequation u v) ≡ true
apart-kind p t t' u v same first second =
    ⊎_elim
    (λ function.
    ⊎_elim
    (λ function'. is_literal-from_equation p (disequation u v) (function.1, function'.1))
    (λ predicate. absurd (no_predicate_term p t' (ap (is_function_term p) (sym same) ∙ function.0) predicate.0))
    second)
    (λ predicate.
    ⊎_elim
    (λ function. absurd (no_predicate_term p t' function.0 (ap (is_predicate_term p) (sym same) ∙ predicate.0)))
    (λ predicate'. is_literal-from_atom p (disequation u v) (inr predicate.1, predicate'.1))
    second)
    first

pub well_formed_factorings : WellFormedFactorings
well_formed_factorings usage ls made i j side_i side_j h step =
    let p : ℕ → Bool = usage.is_predicate in
    let parts = factored-parts ls i side_i j side_j made step in
    let l : TreeLiteral = parts.literal_i in
    let m : TreeLiteral = parts.literal_j in
    let l_is : LiteralOf usage l = is_literal_of-item usage ls i l parts.i_there h in
    let m_is : LiteralOf usage m = is_literal_of-item usage ls j m parts.j_there h in
    let new : TreeLiteral = disequation (other_side_of side_i l) (other_side_of side_j m) in
    ap (are_literals_of usage) (sym parts.gives)
    ∙ list_all-set (is_literal_of usage) ls i new h
    (is_literal_of-from usage new (record {
      kind =
          apart-kind p (side_of side_i l) (side_of side_j m) (other_side_of side_i l) (other_side_of side_j m) parts.same
          (sides_of_one_kind p side_i l l_is.kind parts.no_truth)
          (sides_of_one_kind p side_j m m_is.kind (ap is_truth (sym parts.same) ∙ parts.no_truth));
      left_arities = other_side_arities usage side_i l l_is;
      right_arities = other_side_arities usage side_j m m_is;
    }))

pub well_formed_merges : WellFormedMerges
well_formed_merges usage ls made i j h step =
    ap (are_literals_of usage) (sym (merged-parts ls i j made step).gives) ∙ list_all-remove (is_literal_of usage) ls j h

-- ---- sides of literals, and ground trees over symbols that are used so

pub well_formed_sides : WellFormedSides
well_formed_sides usage s l h =
    let parts = is_literal_of-parts usage l h in
    by_side s (is_literal-cases usage.is_predicate l parts.kind) parts.left_arities parts.right_arities
  where
    p : ℕ → Bool
    p = usage.is_predicate

    is_side : (t : Tree) → (is_function_term p t || (is_predicate_term p t || is_truth t)) ≡ true → has_arities usage.arity t ≡ true → is_term_of usage t ≡ true
    is_side t kind arities = and_from (is_function_term p t || (is_predicate_term p t || is_truth t)) (has_arities usage.arity t) kind arities

    function : (t : Tree) → is_function_term p t ≡ true → (is_function_term p t || (is_predicate_term p t || is_truth t)) ≡ true
    function t e = or_left (is_function_term p t) (is_predicate_term p t || is_truth t) e

    atom : (t : Tree) → (is_predicate_term p t ≡ true) ⊎ (is_truth t ≡ true) → (is_function_term p t || (is_predicate_term p t || is_truth t)) ≡ true
    atom t e =
        or_right (is_function_term p t) (is_predicate_term p t || is_truth t)
        (⊎_elim (λ k. or_left (is_predicate_term p t) (is_truth t) k) (λ k. or_right (is_predicate_term p t) (is_truth t) k) e)

    by_side :
        (s : Side) → IsEquation p l ⊎ IsAtom p l → has_arities usage.arity l.left ≡ true → has_arities usage.arity l.right ≡ true
        → is_term_of usage (side_of s l) ≡ true
    by_side Left (inl e) left right = is_side l.left (function l.left e.0) left
    by_side Left (inr e) left right = is_side l.left (atom l.left e.0) left
    by_side Right (inl e) left right = is_side l.right (function l.right e.1) right
    by_side Right (inr e) left right = is_side l.right (atom l.right (inr e.1)) right

-- a listed symbol takes as many arguments as in the use
used_symbol :
    (usage : SymbolUse) (symbols : List FunctionSymbol) (f n : ℕ)
    → are_symbols_of usage symbols ≡ true → has_symbol symbols f n ≡ true → usage.arity f ≡ n
used_symbol usage [] f n all there = absurd (true≢false (sym there))
used_symbol usage (s ∷ symbols) f n all there =
    let parts = and_parts (usage.arity s.number == s.arity) (are_symbols_of usage symbols) all in
    ⊎_elim
    (λ here.
    let own = and_parts (s.number == f) (s.arity == n) here in
    sym (ap usage.arity (eqb-true s.number f own.0)) ∙ eqb-true (usage.arity s.number) s.arity parts.0 ∙ eqb-true s.arity n own.1)
    (λ later. used_symbol usage symbols f n parts.1 later)
    (or_cases ((s.number == f) && (s.arity == n)) (has_symbol symbols f n) there)

mutual
  is_over-arities :
      (usage : SymbolUse) (symbols : List FunctionSymbol) (t : Tree)
      → are_symbols_of usage symbols ≡ true → is_over symbols t ≡ true → has_arities usage.arity t ≡ true
  is_over-arities usage symbols (variable v) all h = refl
  is_over-arities usage symbols (application f ts) all h =
      let parts = and_parts (has_symbol symbols f (trees_count ts)) (are_over symbols ts) h in
      and_from (usage.arity f == trees_count ts) (have_arities usage.arity ts)
      (eq-eqb (usage.arity f) (trees_count ts) (used_symbol usage symbols f (trees_count ts) all parts.0))
      (are_over-arities usage symbols ts all parts.1)

  are_over-arities :
      (usage : SymbolUse) (symbols : List FunctionSymbol) (ts : Trees)
      → are_symbols_of usage symbols ≡ true → are_over symbols ts ≡ true → have_arities usage.arity ts ≡ true
  are_over-arities usage symbols no_trees all h = refl
  are_over-arities usage symbols (tree_then t ts) all h =
      let parts = and_parts (is_over symbols t) (are_over symbols ts) h in
      and_from (has_arities usage.arity t) (have_arities usage.arity ts)
      (is_over-arities usage symbols t all parts.0) (are_over-arities usage symbols ts all parts.1)

pub ground_trees_are_of_use : GroundTreesAreOfUse
ground_trees_are_of_use usage functions σ all ground v =
    let over : is_over functions.symbols (σ v) ≡ true = (and_parts (is_ground (σ v)) (is_over functions.symbols (σ v)) (ground v)).1 in
    and_from (is_function_term usage.is_predicate (σ v)) (has_arities usage.arity (σ v))
    (is_over-function_term usage.is_predicate functions (σ v) over) (is_over-arities usage functions.symbols (σ v) all over)
