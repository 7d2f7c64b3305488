-- The two lines of a cut make its move.
use mathlib.Core.Bool.{beq}
use Rattle.std.proofs.Common.{◌≡◌, get_or, ℕ, zero, suc, ◌+◌, ◌<◌, ◌≤◌, Bool, true, false, ◌&&◌, ◌==◌, Some, List, [], ◌∷◌, ◌++◌, length, refl, ap, sym, ◌∙◌, subst, ⊎_elim, arith}
use Rattle.std.specs.Prelude.{flat_map, slice_get, slice_set, sum_by, remove}
use Rattle.std.specs.List.{list_all, list_any}
use Rattle.std.proofs.lemmas.Bool.{true≢false, and_from, and_parts, cases_Bool, cond-true, cond-false, or_cases, or_left, or_right}
use Rattle.std.proofs.lemmas.List.Sums.{sum_by-cons, sum_by-remove, sum_by-set, fold-append}
use Rattle.std.proofs.lemmas.Option.{slice_get_within, get_or_from_slice_get}
use Rattle.plain_types.specs.declared.sequence.NameLit.{NameLit}
use Rattle.plain_types.specs.Names.{has_name, same_name, negative_of}
use Rattle.fol_base.specs.Tree.{Tree, tree_size}
use Rattle.fol_base.specs.Clause.{TreeLiteral, literal_instance, literal_size, literal_variables}
use Rattle.fol_base.specs.Ground.{literals_instance}
use Rattle.fol_base.specs.Canonical.{distinct, renaming}
use Rattle.fol_base.specs.Numbering.{with_variable, with_variables}
use Rattle.fol_base.specs.Sides.{other_side_of}
use Rattle.fol_base.specs.Subsumption.{assertions}
use Rattle.fol_base.specs.declared.clause.Side.{Side}
use Rattle.fol_base.specs.declared.clause.Side.TheVariants.{Left, Right}
use Rattle.fol_base.specs.declared.limits.TheConstants.{MOST_SYMBOLS, MOST_BOUND_SYMBOLS}
use Rattle.fol_base.proofs.AboutClauses.InferenceLemmas.{map-remove}
use Rattle.fol_base.proofs.AboutCanonical.NumberingLemmas.{all_met, with_variables-have}
use Rattle.fol_base.proofs.WorkedExamples.TestLemmas.{list_all-item, list_all-set, list_all-remove}
use Rattle.kernel_steps.specs.Lines.{has_small_sides, is_small_term}
use Rattle.kernel_steps.specs.Symbols.{literal_symbols_pass}
use Rattle.eq_rules.proofs.AboutConclusions.WideLemmas.{Has, Has-front, Has-back}
use Rattle.unit_cutting.specs.Cutting.{before_last, last_index, open_side, unsolvable}
use Rattle.unit_cutting.proofs.AboutLeaving.CanonLemmas.{canonical-renamed}
use Rattle.unit_cutting.proofs.AboutLeaving.MoveLemmas.{small_sides}
use Rattle.eq_rules.proofs.AboutConclusions.PremiseLemmas.{has-append}

-- ---- names

-- the names of a clause and of one whose assertions it has
pub negative-there :
    (x : ℕ) (ms : List NameLit) → list_any (λ m. x == m) (assertions ms) ≡ true
    → has_name (negative_of x) ms ≡ true
negative-there x [] h = absurd (true≢false (sym h))
negative-there x (m ∷ ms) h =
    let here : NameLit = negative_of x in
    ⊎_elim
    (λ positive.
    or_right (same_name here m) (has_name here ms)
    (negative-there x ms (sym (ap (list_any (λ k. x == k)) (cond-true m.positive (assertions ms) (m.name ∷ assertions ms) positive)) ∙ h)))
    (λ negative.
    ⊎_elim
    (λ same. or_left (same_name here m) (has_name here ms) (ap (λ b. beq false b && (x == m.name)) negative ∙ same))
    (λ later. or_right (same_name here m) (has_name here ms) (negative-there x ms later))
    (or_cases (x == m.name) (list_any (λ k. x == k) (assertions ms))
    (sym (ap (list_any (λ k. x == k)) (cond-false m.positive (assertions ms) (m.name ∷ assertions ms) negative)) ∙ h)))
    (cases_Bool m.positive)

-- ---- sizes

-- the sides of the literals after the superposition are sides of the clause
pub sides-before :
    (positive : Bool) (ls : List TreeLiteral) (j : ℕ) (l : TreeLiteral) → slice_get ls j ≡ Some l
    → sum_by literal_size ls ≤ MOST_SYMBOLS → list_all has_small_sides (before_last positive ls j (other_side_of (open_side l) l)) ≡ true
sides-before positive ls j l there few = by positive
  where
    all : list_all has_small_sides ls ≡ true
    all = small_sides ls MOST_SYMBOLS few (omega arith)

    kept_small : (s : Side) → is_small_term (other_side_of s l) ≡ true
    kept_small Left = (and_parts (is_small_term l.left) (is_small_term l.right) (list_all-item has_small_sides ls j l there all)).1
    kept_small Right = (and_parts (is_small_term l.left) (is_small_term l.right) (list_all-item has_small_sides ls j l there all)).0

    new : has_small_sides (unsolvable (other_side_of (open_side l) l)) ≡ true
    new =
        and_from (is_small_term (other_side_of (open_side l) l)) (is_small_term (other_side_of (open_side l) l)) (kept_small (open_side l))
        (kept_small (open_side l))

    by : (b : Bool) → list_all has_small_sides (before_last b ls j (other_side_of (open_side l) l)) ≡ true
    by true = and_from (has_small_sides (unsolvable (other_side_of (open_side l) l))) (list_all has_small_sides (remove ls j)) new (list_all-remove has_small_sides ls j all)
    by false = list_all-set has_small_sides ls j (unsolvable (other_side_of (open_side l) l)) all new

-- they are at most as large as two such clauses
pub size-before :
    (positive : Bool) (ls : List TreeLiteral) (j : ℕ) (l : TreeLiteral) → slice_get ls j ≡ Some l
    → sum_by literal_size ls ≤ MOST_SYMBOLS → sum_by literal_size (before_last positive ls j (other_side_of (open_side l) l)) ≤ MOST_BOUND_SYMBOLS
size-before positive ls j l there few = by positive
  where
    t : Tree
    t = other_side_of (open_side l) l

    within : j < length ls
    within = slice_get_within ls j l there

    at : literal_size (get_or ls j l) ≡ literal_size l
    at = ap literal_size (get_or_from_slice_get ls j l l there)

    part : (s : Side) → tree_size (other_side_of s l) ≤ literal_size l
    part Left = omega arith
    part Right = omega arith

    removed : sum_by literal_size (remove ls j) + literal_size (get_or ls j l) ≡ sum_by literal_size ls
    removed = sum_by-remove literal_size ls j l within

    by : (b : Bool) → sum_by literal_size (before_last b ls j t) ≤ MOST_BOUND_SYMBOLS
    by true =
        let sum : sum_by literal_size (unsolvable t ∷ remove ls j) ≡ (tree_size t + tree_size t) + sum_by literal_size (remove ls j) = sum_by-cons literal_size (unsolvable t) (remove ls j) in
        omega (arith, sum, removed, at, part (open_side l), few)
    by false =
        let sum : sum_by literal_size (slice_set ls j (unsolvable t)) + literal_size (get_or ls j l) ≡ sum_by literal_size ls + (tree_size t + tree_size t) =
        sum_by-set literal_size ls j (unsolvable t) l within in
        omega (arith, sum, removed, at, part (open_side l), few)

-- ---- what is left

pub left-before :
    (positive : Bool) (ls : List TreeLiteral) (j : ℕ) (t : Tree) → remove (before_last positive ls j t) (last_index positive j) ≡ remove ls j
left-before true ls j t = refl
left-before false ls j t = set_removed ls j
  where
    set_removed : (ks : List TreeLiteral) (i : ℕ) → remove (slice_set ks i (unsolvable t)) i ≡ remove ks i
    set_removed [] zero = refl
    set_removed [] (suc i) = refl
    set_removed (k ∷ ks) zero = refl
    set_removed (k ∷ ks) (suc i) = ap (λ xs. k ∷ xs) (set_removed ks i)

pub has-remove :
    (order : List ℕ) (ls : List TreeLiteral) (k : ℕ) → Has order (flat_map literal_variables ls) → Has order (flat_map literal_variables (remove ls k))
has-remove order [] zero h = tt
has-remove order [] (suc k) h = tt
has-remove order (l ∷ ls) zero h = Has-back order (literal_variables l) (flat_map literal_variables ls) h
has-remove order (l ∷ ls) (suc k) h =
    has-append order (literal_variables l) (flat_map literal_variables (remove ls k)) (Has-front order (literal_variables l) (flat_map literal_variables ls) h)
    (has-remove order ls k (Has-back order (literal_variables l) (flat_map literal_variables ls) h))

-- the canonical form of what is left of renamed literals is that of what is left
pub canonical-left :
    (plain rest : List TreeLiteral) (ws order : List ℕ) (k : ℕ) → remove plain k ≡ rest
    → order ≡ with_variables (with_variables [] (flat_map literal_variables plain)) ws
    → literals_instance (renaming (distinct (flat_map literal_variables (remove (literals_instance (renaming order) plain) k))))
    (remove (literals_instance (renaming order) plain) k)
    ≡ literals_instance (renaming (distinct (flat_map literal_variables rest))) rest
canonical-left plain rest ws order k left met =
    let canon : List TreeLiteral → List TreeLiteral = λ ls. literals_instance (renaming (distinct (flat_map literal_variables ls))) ls in
    let all : Has order (flat_map literal_variables plain) =
    Has-front order (flat_map literal_variables plain) ws
    (subst (λ o. Has o (flat_map literal_variables plain ++ ws)) (fold-append with_variable [] (flat_map literal_variables plain) ws ∙ sym met)
    (with_variables-have [] (flat_map literal_variables plain ++ ws))) in
    ap canon (map-remove (literal_instance (renaming order)) plain k ∙ ap (literals_instance (renaming order)) left)
    ∙ canonical-renamed order rest (subst (λ ls. Has order (flat_map literal_variables ls)) left (has-remove order plain k all))
    (subst (λ o. Has o (flat_map literal_variables rest)) (all_met (flat_map literal_variables rest)) (with_variables-have [] (flat_map literal_variables rest)))

-- ---- symbols of the literal

pub literal-passes :
    (test : ℕ → ℕ → Bool) (ls : List TreeLiteral) (j : ℕ) (l : TreeLiteral) → slice_get ls j ≡ Some l
    → list_all (literal_symbols_pass test) ls ≡ true → literal_symbols_pass test l ≡ true
literal-passes test ls j l there all = list_all-item (literal_symbols_pass test) ls j l there all
