-- One entry of the index at a term: what it gives.
use Rattle.std.proofs.Common.{◌≡◌, ℕ, ◌<◌, ◌≤◌, ◌+◌, ◌*◌, Bool, true, false, not, ◌&&◌, List, [], ◌∷◌, map, refl, ap, sym, ◌∙◌, subst, Bor, arith}
use Rattle.std.specs.Prelude.{sum_by, Option, None, Some, IsTrue, IfSome, MatchOption, slice_get, option_map, option_and_then, if◌then◌else◌}
use Rattle.fol_base.specs.Subsumption.{assertions, is_among}
use Rattle.bank_clause.specs.Clause.{clause_at, side_number}
use Rattle.bank_clause.specs.declared.member.Member.{Member}
use Rattle.rewriting.specs.declared.units.Unit.{Unit}
use Rattle.std.proofs.lemmas.Bool.{true≢false, false_from_ne_true, and_parts, and_from}
use Rattle.std.proofs.lemmas.Option.{none-some, same_Some}
use Rattle.plain_types.specs.Names.{negative_of}
use Rattle.fol_base.specs.Tree.{Tree, variable, application, Trees, no_trees, tree_then, tree_size, trees_size, is_variable, VariablesBelow}
use Rattle.fol_base.specs.Instance.{Substitution, instance, instances}
use Rattle.fol_base.specs.Clause.{TreeLiteral, TreeClause, literal_size, clause_size}
use Rattle.fol_base.specs.Sides.{side_of, other_side_of}
use Rattle.fol_base.specs.Order.{tree_greater}
use Rattle.fol_base.specs.declared.clause.Side.{Side}
use Rattle.fol_base.specs.declared.clause.Side.TheVariants.{Left, Right}
use Rattle.fol_base.proofs.AboutTerms.TreeLemmas.{tree_size-positive}
use Rattle.fol_base.proofs.AboutOrders.TreeOrderLemmas.{tree_greater-itself, tree_greater-trans}
use Rattle.kbo_order.proofs.AboutLaws.StableLemmas.{trees_stable}
use Rattle.kbo_order.proofs.AboutReading.HeadLemmas.{smaller-not_greater}
use Rattle.unifier.specs.Laws.{are_of_one_kind, AreFunctionPairs}
use Rattle.unifier.specs.Matching.{by_pairs, are_below, IsMatched, NoMatcher}
use Rattle.rewriting.specs.Units.{has_other_variables, may_rewrite, usable, usable_clause, is_kept, clause_numbered}
use Rattle.rewriting.specs.Redex.{Spot, IsRedex, is_within}
use Rattle.rewriting.specs.Searching.{IsMatchedBy, NotBy}
use Rattle.rewriting.proofs.AboutIndexes.IndexLemmas.{side_number-unit, side_number-side}
use Rattle.rewriting.proofs.AboutSearches.PairLemmas.{pairs-match, matchers-agree}

-- ---- one side of an equation

pub no_matcher :
    (e : TreeLiteral) (s : Side) (spot : Spot) (old : Tree) → NoMatcher [] (side_of s e) old → (σ : Substitution) → IsRedex e s spot old σ → ⊥
no_matcher e s spot old none σ r = none σ tt r.matches

pub atom_variable :
    (e : TreeLiteral) (s : Side) (spot : Spot) (old : Tree)
    → spot.is_atom ≡ true → is_variable (side_of s e) ≡ true → (σ : Substitution) → IsRedex e s spot old σ → ⊥
atom_variable e s spot old atom hidden σ r =
    true≢false (sym (and_from (is_variable (side_of s e)) spot.is_atom hidden atom) ∙ r.no_atom)

pub not_taken :
    (e : TreeLiteral) (s : Side) (spot : Spot) (old : Tree) (found : List (ℕ × Tree))
    → IsMatched [] (side_of s e) old found
    → (tree_greater old (instance (by_pairs found) (other_side_of s e)) ≡ true → is_within spot.limit (instance (by_pairs found) (other_side_of s e)) ≡ true → ⊥)
    → (σ : Substitution) → IsRedex e s spot old σ → ⊥
not_taken e s spot old found m refused σ r =
    let same : instance σ (other_side_of s e) ≡ instance (by_pairs found) (other_side_of s e) =
    matchers-agree e s old σ (by_pairs found) r.matches (pairs-match (side_of s e) old found m) r.no_new_variables in
    refused
    (ap (tree_greater old) (sym same) ∙ r.greater)
    (ap (is_within spot.limit) (sym same) ∙ r.within)

pub taken :
    (e : TreeLiteral) (s : Side) (spot : Spot) (old : Tree) (found : List (ℕ × Tree))
    → IsMatched [] (side_of s e) old found → (is_variable (side_of s e) && spot.is_atom) ≡ false → IsTrue (has_other_variables s e)
    → tree_greater old (instance (by_pairs found) (other_side_of s e)) ≡ true
    → is_within spot.limit (instance (by_pairs found) (other_side_of s e)) ≡ true
    → ((count : ℕ) → VariablesBelow count (side_of s e) → are_below count found ≡ true)
    → ((is_predicate : ℕ → Bool) → IsTrue (are_of_one_kind is_predicate (side_of s e) old) → AreFunctionPairs is_predicate found)
    → IsMatchedBy e s spot old found
taken e s spot old found m no_atom no_new greater within counted function_terms = record {
  redex = record {
    matches = pairs-match (side_of s e) old found m;
    no_atom = no_atom;
    no_new_variables = no_new;
    greater = greater;
    within = within;
  };
  counted = counted;
  function_terms = function_terms;
}

-- ---- the entry

pub not-by :
    (clauses : ℕ → Option TreeClause) (spot : Spot) (old : Tree) (entry number : ℕ) (side : Side)
    → entry ≡ side_number number side
    → ((unit : TreeClause) (e : TreeLiteral) (σ : Substitution)
    → clauses number ≡ Some unit → unit.literals ≡ e ∷ [] → IsRedex e side spot old σ → ⊥)
    → NotBy clauses spot old entry
not-by clauses spot old entry number side is none h same =
    let unit : h.number ≡ number = side_number-unit h.number number h.side side (sym same ∙ is) in
    let which : h.side ≡ side = side_number-side h.number number h.side side (sym same ∙ is) in
    none h.unit h.equation h.matcher
    (subst (λ k. clauses k ≡ Some h.unit) unit h.there) h.alone
    (subst (λ z. IsRedex h.equation z spot old h.matcher) which h.redex)

-- ---- from the calls

pub side-taken :
    (e : TreeLiteral) (s : Side) (spot : Spot) (old pattern new : Tree) (so found : List (ℕ × Tree)) (answer : Option (List (ℕ × Tree))) (hides takes : Bool)
    → pattern ≡ side_of s e → new ≡ other_side_of s e → so ≡ [] → IsTrue (has_other_variables s e)
    → hides ≡ (is_variable pattern && spot.is_atom) → hides ≡ false
    → MatchOption answer (NoMatcher so pattern old) (IsMatched so pattern old) → answer ≡ Some found
    → takes ≡ (tree_greater old (instance (by_pairs found) new) && is_within spot.limit (instance (by_pairs found) new)) → takes ≡ true
    → ((count : ℕ) → VariablesBelow count pattern → are_below count so ≡ true → IfSome answer (λ pairs. are_below count pairs ≡ true))
    → ((is_predicate : ℕ → Bool) → IsTrue (are_of_one_kind is_predicate pattern old) → AreFunctionPairs is_predicate so
    → IfSome answer (AreFunctionPairs is_predicate))
    → IsMatchedBy e s spot old found
side-taken e s spot old pattern new so found answer hides takes pattern_is new_is so_is covered hides_is seen matched some takes_is held below functions =
    let at_some : IsMatched so pattern old found = subst (λ (o : Option (List (ℕ × Tree))). MatchOption o (NoMatcher so pattern old) (IsMatched so pattern old)) some matched in
    let m : IsMatched [] (side_of s e) old found =
    subst (λ q. IsMatched [] q old found) pattern_is (subst (λ l. IsMatched l pattern old found) so_is at_some) in
    let β : Substitution = by_pairs found in
    let both = and_parts (tree_greater old (instance β new)) (is_within spot.limit (instance β new)) (sym takes_is ∙ held) in
    taken e s spot old found m
    (ap (λ q. is_variable q && spot.is_atom) (sym pattern_is) ∙ sym hides_is ∙ seen) covered
    (ap (λ t. tree_greater old (instance β t)) (sym new_is) ∙ both.0)
    (ap (λ t. is_within spot.limit (instance β t)) (sym new_is) ∙ both.1)
    (λ count low.
    subst (λ (o : Option (List (ℕ × Tree))). IfSome o (λ pairs. are_below count pairs ≡ true)) some
    (below count (subst (VariablesBelow count) (sym pattern_is) low) (ap (are_below count) so_is)))
    (λ is_predicate kind.
    subst (λ (o : Option (List (ℕ × Tree))). IfSome o (AreFunctionPairs is_predicate)) some
    (functions is_predicate (subst (λ q. IsTrue (are_of_one_kind is_predicate q old)) (sym pattern_is) kind)
    (subst (AreFunctionPairs is_predicate) (sym so_is) tt)))

pub side-refused :
    (e : TreeLiteral) (s : Side) (spot : Spot) (old pattern new : Tree) (so found : List (ℕ × Tree)) (answer : Option (List (ℕ × Tree))) (takes : Bool)
    → pattern ≡ side_of s e → new ≡ other_side_of s e → so ≡ []
    → MatchOption answer (NoMatcher so pattern old) (IsMatched so pattern old) → answer ≡ Some found
    → takes ≡ (tree_greater old (instance (by_pairs found) new) && is_within spot.limit (instance (by_pairs found) new)) → takes ≡ false
    → (σ : Substitution) → IsRedex e s spot old σ → ⊥
side-refused e s spot old pattern new so found answer takes pattern_is new_is so_is matched some takes_is refused =
    let at_some : IsMatched so pattern old found = subst (λ (o : Option (List (ℕ × Tree))). MatchOption o (NoMatcher so pattern old) (IsMatched so pattern old)) some matched in
    let m : IsMatched [] (side_of s e) old found =
    subst (λ q. IsMatched [] q old found) pattern_is (subst (λ l. IsMatched l pattern old found) so_is at_some) in
    let β : Substitution = by_pairs found in
    not_taken e s spot old found m
    (λ greater within.
    true≢false
    (sym
    (and_from (tree_greater old (instance β new)) (is_within spot.limit (instance β new))
    (ap (λ t. tree_greater old (instance β t)) new_is ∙ greater)
    (ap (λ t. is_within spot.limit (instance β t)) new_is ∙ within))
    ∙ sym takes_is ∙ refused))

pub side-unmatched :
    (e : TreeLiteral) (s : Side) (spot : Spot) (old pattern : Tree) (so : List (ℕ × Tree)) (answer : Option (List (ℕ × Tree)))
    → pattern ≡ side_of s e → so ≡ []
    → MatchOption answer (NoMatcher so pattern old) (IsMatched so pattern old) → answer ≡ None
    → (σ : Substitution) → IsRedex e s spot old σ → ⊥
side-unmatched e s spot old pattern so answer pattern_is so_is matched none =
    let at_none : NoMatcher so pattern old = subst (λ (o : Option (List (ℕ × Tree))). MatchOption o (NoMatcher so pattern old) (IsMatched so pattern old)) none matched in
    no_matcher e s spot old (subst (λ q. NoMatcher [] q old) pattern_is (subst (λ l. NoMatcher l pattern old) so_is at_none))

pub side-hidden :
    (e : TreeLiteral) (s : Side) (spot : Spot) (old pattern : Tree) (hides : Bool)
    → pattern ≡ side_of s e → hides ≡ (is_variable pattern && spot.is_atom) → hides ≡ true
    → (σ : Substitution) → IsRedex e s spot old σ → ⊥
side-hidden e s spot old pattern hides pattern_is hides_is held =
    let both = and_parts (is_variable pattern) spot.is_atom (sym hides_is ∙ held) in
    atom_variable e s spot old both.1 (ap is_variable (sym pattern_is) ∙ both.0)

-- ---- an entry

pub entry-unusable :
    (clauses : ℕ → Option TreeClause) (spot : Spot) (old : Tree) (entry number : ℕ) (side : Side)
    → entry ≡ side_number number side → clauses number ≡ None → NotBy clauses spot old entry
entry-unusable clauses spot old entry number side is none =
    not-by clauses spot old entry number side is (λ unit e σ there alone r. none-some unit (sym none ∙ there))

pub entry-refused :
    (clauses : ℕ → Option TreeClause) (spot : Spot) (old : Tree) (entry number : ℕ) (side : Side) (unit : TreeClause) (e : TreeLiteral)
    → entry ≡ side_number number side → clauses number ≡ Some unit → unit.literals ≡ e ∷ []
    → ((σ : Substitution) → IsRedex e side spot old σ → ⊥)
    → NotBy clauses spot old entry
entry-refused clauses spot old entry number side unit e is there alone refused =
    not-by clauses spot old entry number side is
    (λ d f σ d_there d_alone r.
    let same : unit ≡ d = same_Some unit d (sym there ∙ d_there) in
    let heads : e ∷ [] ≡ f ∷ [] = sym alone ∙ ap (λ (k : TreeClause). k.literals) same ∙ d_alone in
    let equal : e ≡ f = cc in
    refused σ (subst (λ (k : TreeLiteral). IsRedex k side spot old σ) (sym equal) r))

-- an equation has a redex only by a side by which it may rewrite
pub redex-may : (e : TreeLiteral) (s : Side) (spot : Spot) (old : Tree) (σ : Substitution) → IsRedex e s spot old σ → may_rewrite s e ≡ true
redex-may e s spot old σ r =
    let side : Tree = side_of s e in
    let other : Tree = other_side_of s e in
    and_from (has_other_variables s e) (not (tree_greater other side)) r.no_new_variables
    (ap not
    (false_from_ne_true (tree_greater other side)
    (λ above.
    let above_here : tree_greater (instance σ other) old ≡ true =
    ap (tree_greater (instance σ other)) (sym r.matches) ∙ trees_stable σ other side above in
    true≢false (sym (tree_greater-trans old (instance σ other) old r.greater above_here) ∙ tree_greater-itself old))))

pub one-way :
    (e : TreeLiteral) (s : Side) (spot : Spot) (old : Tree) → may_rewrite s e ≡ false → (σ : Substitution) → IsRedex e s spot old σ → ⊥
one-way e s spot old refused σ r = true≢false (sym (redex-may e s spot old σ r) ∙ refused)

-- ---- sizes

mutual
  -- an instance is no smaller
  instance-no_smaller : (σ : Substitution) (t : Tree) → tree_size t ≤ tree_size (instance σ t)
  instance-no_smaller σ (variable v) = tree_size-positive (σ v)
  instance-no_smaller σ (application f ts) = omega (arith, instances-no_smaller σ ts)

  instances-no_smaller : (σ : Substitution) (ts : Trees) → trees_size ts ≤ trees_size (instances σ ts)
  instances-no_smaller σ no_trees = omega arith
  instances-no_smaller σ (tree_then t ts) = omega (arith, instance-no_smaller σ t, instances-no_smaller σ ts)

either-side_size : (e : TreeLiteral) (s : Side) → literal_size e ≡ tree_size (side_of s e) + tree_size (other_side_of s e)
either-side_size e Left = refl
either-side_size e Right = omega arith

-- an equation that is more than twice as large as a term has no redex there: a side that matches is no larger, so the other one is larger
pub too_large :
    (c : TreeClause) (e : TreeLiteral) (s : Side) (spot : Spot) (old : Tree)
    → c.literals ≡ e ∷ [] → 2 * tree_size old < clause_size c → (σ : Substitution) → IsRedex e s spot old σ → ⊥
too_large c e s spot old alone large σ r =
    let side : Tree = side_of s e in
    let other : Tree = other_side_of s e in
    let whole : clause_size c ≡ literal_size e = ap (sum_by literal_size) alone ∙ omega arith in
    let matched : tree_size (instance σ side) ≡ tree_size old = ap tree_size r.matches in
    let larger : tree_size old < tree_size (instance σ other) =
    omega (arith, whole, matched, large, either-side_size e s, instance-no_smaller σ side, instance-no_smaller σ other) in
    true≢false (sym r.greater ∙ sym (smaller-not_greater old (instance σ other) larger))

-- such a side has the other's variables
pub may-has : (e : TreeLiteral) (s : Side) → may_rewrite s e ≡ true → has_other_variables s e ≡ true
may-has e s may = (and_parts (has_other_variables s e) (not (tree_greater (other_side_of s e) (side_of s e))) may).0

-- the one literal of a unit, as it is lent
pub alone-lent : (lent ls : List TreeLiteral) (l e : TreeLiteral) → lent ≡ ls → ls ≡ e ∷ [] → slice_get lent 0 ≡ Some l → l ≡ e
alone-lent lent ls l e same alone at =
    same_Some l e (sym at ∙ ap (λ (ks : List TreeLiteral). slice_get ks 0) (same ∙ alone))

pub usable-unit :
    (ms : List Member) (out : Option ℕ) (names : List ℕ) (n : ℕ) (o : Option (Bor Unit)) (u : Bor Unit)
    → option_map (λ (b : Bor Unit). clause_at b.now.clause) o ≡ usable ms out names n → o ≡ Some u
    → usable ms out names n ≡ Some (clause_at u.now.clause)
usable-unit ms out names n o u is some = sym is ∙ ap (option_map (λ (b : Bor Unit). clause_at b.now.clause)) some

pub usable-none :
    (ms : List Member) (out : Option ℕ) (names : List ℕ) (n : ℕ) (o : Option (Bor Unit))
    → option_map (λ (b : Bor Unit). clause_at b.now.clause) o ≡ usable ms out names n → o ≡ None
    → usable ms out names n ≡ None
usable-none ms out names n o is none = sym is ∙ ap (option_map (λ (b : Bor Unit). clause_at b.now.clause)) none

-- the unit that is looked up, where it may rewrite and where it may not
pub usable-is :
    (ms : List Member) (out : Option ℕ) (names : List ℕ) (n : ℕ) (o : Option (Bor Unit)) (u : Bor Unit) (may : Bool)
    → option_map (λ (b : Bor Unit). b.now.clause) o ≡ clause_numbered n ms → o ≡ Some u
    → may ≡ (is_kept out n && is_among (assertions (clause_at u.now.clause).names) names)
    → usable ms out names n ≡ (if may then Some (clause_at u.now.clause) else None)
usable-is ms out names n o u may is some may_is =
    ap (option_and_then (usable_clause out names n)) (sym is ∙ ap (option_map (λ (b : Bor Unit). b.now.clause)) some)
    ∙ ap (λ (b : Bool). if b then Some (clause_at u.now.clause) else None) (sym may_is)

pub numbers-asserted : (ns : List ℕ) → assertions (map negative_of ns) ≡ ns
numbers-asserted [] = refl
numbers-asserted (n ∷ ns) = ap (λ ms. n ∷ ms) (numbers-asserted ns)

pub may-use :
    (asserted lent ns : List ℕ) (kept kept_is among : Bool)
    → lent ≡ ns → kept ≡ true → kept ≡ kept_is → among ≡ is_among lent asserted
    → among ≡ (kept_is && is_among (assertions (map negative_of ns)) asserted)
may-use asserted lent ns kept kept_is among same held is listed =
    listed
    ∙ ap (λ (ms : List ℕ). is_among ms asserted) (same ∙ sym (numbers-asserted ns))
    ∙ ap (λ (b : Bool). b && is_among (assertions (map negative_of ns)) asserted) (sym held ∙ is)
