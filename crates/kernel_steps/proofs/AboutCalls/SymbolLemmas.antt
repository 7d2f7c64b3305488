-- The symbols of what steps conclude.
use Rattle.std.proofs.Common.{◌≡◌, ℕ, zero, suc, ◌+◌, ◌-◌, ◌<◌, Bool, true, ◌&&◌, List, [], ◌∷◌, map, take, Option, Some, refl, ap, sym, ◌∙◌, arith, ⊎_elim}
use Rattle.std.specs.Prelude.{slice_get, slice_set, remove, All, nat_lt}
use Rattle.std.specs.List.{list_all}
use Rattle.std.proofs.lemmas.Bool.{and_parts, and_from, cond-true, cond-false, cases_Bool}
use Rattle.std.proofs.lemmas.Option.{none-some, same_Some, option_and_then_some}
use Rattle.std.proofs.lemmas.List.Elements.{All-contains}
use Rattle.fol_base.specs.Tree.{Tree, variable, application, Trees, no_trees, tree_then, trees_of, list_of, trees_count}
use Rattle.fol_base.specs.Instance.{Substitution, substitution, instance, instances}
use Rattle.fol_base.specs.Place.{argument, subterm, with_argument, replaced}
use Rattle.fol_base.specs.Clause.{TreeLiteral, TreeClause, literal_instance}
use Rattle.fol_base.specs.Sides.{side_of, other_side_of, with_side}
use Rattle.fol_base.specs.Rules.{superposed, resolved, factored, merged, disequation}
use Rattle.fol_base.specs.Literal.{clause_of}
use Rattle.fol_base.specs.declared.clause.Side.{Side}
use Rattle.fol_base.specs.declared.clause.Side.TheVariants.{Left, Right}
use Rattle.fol_base.proofs.AboutTerms.TreeLemmas.{trees_of-list_of}
use Rattle.fol_base.proofs.AboutInstances.PlaceLemmas.{replaced-parts}
use Rattle.fol_base.proofs.AboutInstances.InstanceLemmas.{trees_count-instances}
use Rattle.fol_base.proofs.AboutClauses.RuleLemmas.{superposed_literal-parts, superposed-parts, resolved-parts, factored-parts, merged-parts}
use Rattle.fol_base.proofs.WorkedExamples.TestLemmas.{list_all-item, list_all-joined, list_all-set, list_all-remove, list_all-map_from}
use Rattle.kernel_steps.specs.Parents.{Parent, Parents}
use Rattle.kernel_steps.specs.Conclusion.{bound_literals, by_one, by_two, concludes}
use Rattle.kernel_steps.specs.Derivation.{is_component, line_parents, continued, ComesBy}
use Rattle.kernel_steps.specs.Soundness.{binds_each}
use Rattle.kernel_steps.specs.Symbols.{symbols_pass, all_symbols_pass, literal_symbols_pass, clause_symbols_pass, bound_symbols_pass, ConclusionsKeepSymbols, StepsKeepSymbols, DerivationsKeepSymbols}
use Rattle.kernel_steps.specs.declared.step.Step.{Step}
use Rattle.kernel_steps.specs.declared.step.Step.TheVariants.{Input, Negate, Clausify, Para, Refl, Factor, Merge, Component, Opposite, Split, Chain}
use Rattle.kernel_steps.specs.declared.step.Line.{Line}
use Rattle.kernel_steps.proofs.AboutCalls.ItemLemmas.{Contains-item, get_or-passes}
use Rattle.kernel_steps.proofs.AboutCalls.VerdictParts.{by_one-parts, by_two-parts, split-parts, chain-parts}
use Rattle.kernel_steps.proofs.AboutCalls.LineLemmas.{parent_line, component_line-earlier}

abbrev SymbolTest : Type 0
SymbolTest = ℕ → ℕ → Bool

-- ---- trees

listed : (test : SymbolTest) (ts : Trees) → all_symbols_pass test ts ≡ list_all (symbols_pass test) (list_of ts)
listed test no_trees = refl
listed test (tree_then t ts) = ap (λ b. symbols_pass test t && b) (listed test ts)

all_set : (test : SymbolTest) (ts : Trees) (k : ℕ) (new : Tree)
    → all_symbols_pass test ts ≡ true → symbols_pass test new ≡ true → all_symbols_pass test (trees_of (slice_set (list_of ts) k new)) ≡ true
all_set test no_trees k new all new_passes = refl
all_set test (tree_then t ts) zero new all new_passes =
    and_from (symbols_pass test new) (all_symbols_pass test (trees_of (list_of ts))) new_passes
    (ap (all_symbols_pass test) (trees_of-list_of ts) ∙ (and_parts (symbols_pass test t) (all_symbols_pass test ts) all).1)
all_set test (tree_then t ts) (suc k) new all new_passes =
    let both = and_parts (symbols_pass test t) (all_symbols_pass test ts) all in
    and_from (symbols_pass test t) (all_symbols_pass test (trees_of (slice_set (list_of ts) k new))) both.0 (all_set test ts k new both.1 new_passes)

count_set : (ts : Trees) (k : ℕ) (new : Tree) → trees_count (trees_of (slice_set (list_of ts) k new)) ≡ trees_count ts
count_set no_trees k new = refl
count_set (tree_then t ts) zero new = ap (λ n. 1 + n) (ap trees_count (trees_of-list_of ts))
count_set (tree_then t ts) (suc k) new = ap (λ n. 1 + n) (count_set ts k new)

pub passes-argument :
    (test : SymbolTest) (k : ℕ) (t a : Tree) → argument k t ≡ Some a → symbols_pass test t ≡ true → symbols_pass test a ≡ true
passes-argument test k (variable v) a there h = absurd (none-some a there)
passes-argument test k (application f ts) a there h =
    list_all-item (symbols_pass test) (list_of ts) k a there
    (sym (listed test ts) ∙ (and_parts (test f (trees_count ts)) (all_symbols_pass test ts) h).1)

pub subterm-passes :
    (test : SymbolTest) (place : List ℕ) (t u : Tree) → subterm place t ≡ Some u → symbols_pass test t ≡ true → symbols_pass test u ≡ true
subterm-passes test [] t u there h = ap (symbols_pass test) (sym (same_Some t u there)) ∙ h
subterm-passes test (k ∷ place) t u there h =
    option_and_then_some (subterm place) (argument k t) u there λ a a_is u_is.
    subterm-passes test place a u u_is (passes-argument test k t a a_is h)

passes-replaced :
    (test : SymbolTest) (place : List ℕ) (new t made : Tree)
    → replaced place new t ≡ Some made → symbols_pass test t ≡ true → symbols_pass test new ≡ true → symbols_pass test made ≡ true
passes-replaced test [] new t made put h new_passes = ap (symbols_pass test) (sym (same_Some new made put)) ∙ new_passes
passes-replaced test (k ∷ place) new t made put h new_passes =
    replaced-parts k place new t made put λ a b a_is b_is gives.
    ap (symbols_pass test) (sym gives)
    ∙ with_one k b t h (passes-replaced test place new a b b_is (passes-argument test k t a a_is h) new_passes)
  where
    with_one : (k : ℕ) (b t : Tree) → symbols_pass test t ≡ true → symbols_pass test b ≡ true → symbols_pass test (with_argument k b t) ≡ true
    with_one k b (variable v) whole part = whole
    with_one k b (application f ts) whole part =
        let both = and_parts (test f (trees_count ts)) (all_symbols_pass test ts) whole in
        and_from (test f (trees_count (trees_of (slice_set (list_of ts) k b)))) (all_symbols_pass test (trees_of (slice_set (list_of ts) k b)))
        (ap (test f) (count_set ts k b) ∙ both.0) (all_set test ts k b both.1 part)

mutual
  passes-instance :
      (test : SymbolTest) (σ : Substitution) → ((v : ℕ) → symbols_pass test (σ v) ≡ true)
      → (t : Tree) → symbols_pass test t ≡ true → symbols_pass test (instance σ t) ≡ true
  passes-instance test σ puts (variable v) h = puts v
  passes-instance test σ puts (application f ts) h =
      let both = and_parts (test f (trees_count ts)) (all_symbols_pass test ts) h in
      and_from (test f (trees_count (instances σ ts))) (all_symbols_pass test (instances σ ts))
      (ap (test f) (trees_count-instances σ ts) ∙ both.0) (all_pass-instances test σ puts ts both.1)

  all_pass-instances :
      (test : SymbolTest) (σ : Substitution) → ((v : ℕ) → symbols_pass test (σ v) ≡ true)
      → (ts : Trees) → all_symbols_pass test ts ≡ true → all_symbols_pass test (instances σ ts) ≡ true
  all_pass-instances test σ puts no_trees h = refl
  all_pass-instances test σ puts (tree_then t ts) h =
      let both = and_parts (symbols_pass test t) (all_symbols_pass test ts) h in
      and_from (symbols_pass test (instance σ t)) (all_symbols_pass test (instances σ ts)) (passes-instance test σ puts t both.0)
      (all_pass-instances test σ puts ts both.1)

-- ---- literals

pub side-passes : (test : SymbolTest) (s : Side) (l : TreeLiteral) → literal_symbols_pass test l ≡ true → symbols_pass test (side_of s l) ≡ true
side-passes test Left l h = (and_parts (symbols_pass test l.left) (symbols_pass test l.right) h).0
side-passes test Right l h = (and_parts (symbols_pass test l.left) (symbols_pass test l.right) h).1

other_side-passes :
    (test : SymbolTest) (s : Side) (l : TreeLiteral) → literal_symbols_pass test l ≡ true → symbols_pass test (other_side_of s l) ≡ true
other_side-passes test Left l h = side-passes test Right l h
other_side-passes test Right l h = side-passes test Left l h

with_side-passes :
    (test : SymbolTest) (s : Side) (t : Tree) (l : TreeLiteral)
    → literal_symbols_pass test l ≡ true → symbols_pass test t ≡ true → literal_symbols_pass test (with_side s t l) ≡ true
with_side-passes test Left t l h new = and_from (symbols_pass test t) (symbols_pass test l.right) new (side-passes test Right l h)
with_side-passes test Right t l h new = and_from (symbols_pass test l.left) (symbols_pass test t) (side-passes test Left l h) new

literal-instance-passes :
    (test : SymbolTest) (σ : Substitution) → ((v : ℕ) → symbols_pass test (σ v) ≡ true)
    → (l : TreeLiteral) → literal_symbols_pass test l ≡ true → literal_symbols_pass test (literal_instance σ l) ≡ true
literal-instance-passes test σ puts l h =
    and_from (symbols_pass test (instance σ l.left)) (symbols_pass test (instance σ l.right))
    (passes-instance test σ puts l.left (side-passes test Left l h)) (passes-instance test σ puts l.right (side-passes test Right l h))

-- ---- rules

abbrev Pass : SymbolTest → List TreeLiteral → Type 0
Pass test ls = list_all (literal_symbols_pass test) ls ≡ true

pub superposed-passes :
    (test : SymbolTest) (first : List TreeLiteral) (i : ℕ) (s : Side) (second : List TreeLiteral) (j : ℕ) (z : Side) (place : List ℕ) (made : List TreeLiteral)
    → superposed first i s second j z place ≡ Some made → Pass test first → Pass test second → Pass test made
superposed-passes test first i s second j z place made h first_pass second_pass =
    let p = superposed-parts first i s second j z place made h in
    let q = superposed_literal-parts p.from s p.into z place p.literal p.literal_made in
    let from_passes = list_all-item (literal_symbols_pass test) first i p.from p.from_there first_pass in
    let into_passes = list_all-item (literal_symbols_pass test) second j p.into p.into_there second_pass in
    ap (list_all (literal_symbols_pass test)) (sym p.gives)
    ∙ list_all-joined (literal_symbols_pass test) (slice_set second j p.literal) (remove first i)
    (list_all-set (literal_symbols_pass test) second j p.literal second_pass
    (ap (literal_symbols_pass test) (sym q.gives)
    ∙ with_side-passes test z q.new p.into into_passes
    (passes-replaced test place (other_side_of s p.from) (side_of z p.into) q.new q.new_made (side-passes test z p.into into_passes)
    (other_side-passes test s p.from from_passes))))
    (list_all-remove (literal_symbols_pass test) first i first_pass)

resolved-passes : (test : SymbolTest) (ls : List TreeLiteral) (i : ℕ) (made : List TreeLiteral) → resolved ls i ≡ Some made → Pass test ls → Pass test made
resolved-passes test ls i made h pass =
    ap (list_all (literal_symbols_pass test)) (sym (resolved-parts ls i made h).gives) ∙ list_all-remove (literal_symbols_pass test) ls i pass

factored-passes :
    (test : SymbolTest) (ls : List TreeLiteral) (i : ℕ) (s : Side) (j : ℕ) (z : Side) (made : List TreeLiteral)
    → factored ls i s j z ≡ Some made → Pass test ls → Pass test made
factored-passes test ls i s j z made h pass =
    let p = factored-parts ls i s j z made h in
    ap (list_all (literal_symbols_pass test)) (sym p.gives)
    ∙ list_all-set (literal_symbols_pass test) ls i (disequation (other_side_of s p.literal_i) (other_side_of z p.literal_j)) pass
    (and_from (symbols_pass test (other_side_of s p.literal_i)) (symbols_pass test (other_side_of z p.literal_j))
    (other_side-passes test s p.literal_i (list_all-item (literal_symbols_pass test) ls i p.literal_i p.i_there pass))
    (other_side-passes test z p.literal_j (list_all-item (literal_symbols_pass test) ls j p.literal_j p.j_there pass)))

merged-passes : (test : SymbolTest) (ls : List TreeLiteral) (i j : ℕ) (made : List TreeLiteral) → merged ls i j ≡ Some made → Pass test ls → Pass test made
merged-passes test ls i j made h pass =
    ap (list_all (literal_symbols_pass test)) (sym (merged-parts ls i j made h).gives) ∙ list_all-remove (literal_symbols_pass test) ls j pass

bound-passes :
    (test : SymbolTest) (bind : List Tree) (c : TreeClause)
    → list_all (symbols_pass test) bind ≡ true → clause_symbols_pass test c ≡ true → Pass test (bound_literals bind c)
bound-passes test bind c binds pass =
    list_all-map_from (literal_symbols_pass test) (literal_symbols_pass test) (literal_instance (substitution bind))
    (literal-instance-passes test (substitution bind) (λ v. get_or-passes (symbols_pass test) bind v (variable v) binds refl)) c.literals pass

-- ---- steps

abbrev ParentsPass : SymbolTest → Parents → Type 0
ParentsPass test parents = (n : ℕ) (p : Parent) → parents n ≡ Some p → clause_symbols_pass test p.clause ≡ true

one-passes :
    (test : SymbolTest) (parents : Parents) (n : ℕ) (bind : List Tree) (rule : List TreeLiteral → Option (List TreeLiteral)) (c : TreeClause)
    → ParentsPass test parents → list_all (symbols_pass test) bind ≡ true
    → ((ls made : List TreeLiteral) → rule ls ≡ Some made → Pass test ls → Pass test made)
    → by_one (parents n) bind rule ≡ concludes c → clause_symbols_pass test c ≡ true
one-passes test parents n bind rule c pass binds keeps h =
    let p = by_one-parts (parents n) bind rule c h in
    ap (clause_symbols_pass test) (sym p.gives)
    ∙ keeps (bound_literals bind p.source.clause) p.literals p.made (bound-passes test bind p.source.clause binds (pass n p.source p.there))

two-passes :
    (test : SymbolTest) (parents : Parents) (n m : ℕ) (first_bind second_bind : List Tree)
    (rule : List TreeLiteral → List TreeLiteral → Option (List TreeLiteral)) (c : TreeClause)
    → ParentsPass test parents → list_all (symbols_pass test) first_bind ≡ true → list_all (symbols_pass test) second_bind ≡ true
    → ((ls ks made : List TreeLiteral) → rule ls ks ≡ Some made → Pass test ls → Pass test ks → Pass test made)
    → by_two (parents n) first_bind (parents m) second_bind rule ≡ concludes c → clause_symbols_pass test c ≡ true
two-passes test parents n m first_bind second_bind rule c pass binds binds' keeps h =
    let p = by_two-parts (parents n) first_bind (parents m) second_bind rule c h in
    ap (clause_symbols_pass test) (sym p.gives)
    ∙ keeps (bound_literals first_bind p.source.clause) (bound_literals second_bind p.target.clause) p.literals p.made
    (bound-passes test first_bind p.source.clause binds (pass n p.source p.first_there))
    (bound-passes test second_bind p.target.clause binds' (pass m p.target p.second_there))

pub conclusions_keep_symbols : ConclusionsKeepSymbols
conclusions_keep_symbols test (Para n m j s k z place first second) parents c pass binds h =
    let both = and_parts (list_all (symbols_pass test) first) (list_all (symbols_pass test) second && true) binds in
    two-passes test parents n m first second (λ ls ks. superposed ls j s ks k z place) c pass both.0
    (and_parts (list_all (symbols_pass test) second) true both.1).0
    (λ ls ks made step. superposed-passes test ls j s ks k z place made step) h
conclusions_keep_symbols test (Refl n k bind) parents c pass binds h =
    one-passes test parents n bind (λ ls. resolved ls k) c pass (and_parts (list_all (symbols_pass test) bind) true binds).0
    (λ ls made step. resolved-passes test ls k made step) h
conclusions_keep_symbols test (Factor n j s k z bind) parents c pass binds h =
    one-passes test parents n bind (λ ls. factored ls j s k z) c pass (and_parts (list_all (symbols_pass test) bind) true binds).0
    (λ ls made step. factored-passes test ls j s k z made step) h
conclusions_keep_symbols test (Merge n j k bind) parents c pass binds h =
    one-passes test parents n bind (λ ls. merged ls j k) c pass (and_parts (list_all (symbols_pass test) bind) true binds).0
    (λ ls made step. merged-passes test ls j k made step) h
conclusions_keep_symbols test (Split n definitions parts) parents c pass binds h =
    ap (clause_symbols_pass test) (sym (split-parts (parents n) (map parents definitions) parts c h).gives)
conclusions_keep_symbols test (Chain numbers pivots) parents c pass binds h =
    ap (clause_symbols_pass test) (sym (chain-parts parents numbers pivots c h).gives)
conclusions_keep_symbols test (Input place) parents c pass binds h = cc
conclusions_keep_symbols test (Negate place) parents c pass binds h = cc
conclusions_keep_symbols test (Clausify k) parents c pass binds h = cc
conclusions_keep_symbols test (Component name) parents c pass binds h = cc
conclusions_keep_symbols test (Opposite name) parents c pass binds h = cc

-- ---- lines

abbrev PassBefore : SymbolTest → List Line → ℕ → Type 0
PassBefore test lines n =
    (m : ℕ) (line : Line) → m < n → slice_get lines m ≡ Some line → clause_symbols_pass test (clause_of line.clause) ≡ true

lines-pass : (test : SymbolTest) (lines : List Line) (n : ℕ) → PassBefore test lines n → ParentsPass test (line_parents (take n lines))
lines-pass test lines n earlier k p there =
    let at = parent_line lines n k p there in
    ap (λ (q : Parent). clause_symbols_pass test q.clause) (sym at.gives) ∙ earlier k at.line at.earlier at.there

continued-pass :
    (test : SymbolTest) (first : ℕ) (outer : Parents) (lines : List Line) (n : ℕ)
    → ParentsPass test outer → PassBefore test lines n → ParentsPass test (continued first outer (take n lines))
continued-pass test first outer lines n pass earlier k p there =
    ⊎_elim
    (λ below. pass k p (sym (cond-true (nat_lt k first) (outer k) (line_parents (take n lines) (k - first)) below) ∙ there))
    (λ above.
    lines-pass test lines n earlier (k - first) p
    (sym (cond-false (nat_lt k first) (outer k) (line_parents (take n lines) (k - first)) above) ∙ there))
    (cases_Bool (nat_lt k first))

line-binds :
    (test : SymbolTest) (lines : List Line) (n : ℕ) (line : Line)
    → bound_symbols_pass test lines ≡ true → slice_get lines n ≡ Some line → binds_each (symbols_pass test) line.step ≡ true
line-binds test lines n line all at = list_all-item (λ (l : Line). binds_each (symbols_pass test) l.step) lines n line at all

steps-before :
    (test : SymbolTest) (lines : List Line)
    → ((n : ℕ) (line : Line) → slice_get lines n ≡ Some line → PassBefore test lines n → clause_symbols_pass test (clause_of line.clause) ≡ true)
    → (n : ℕ) → PassBefore test lines n
steps-before test lines each zero m line within at = absurd (omega arith)
steps-before test lines each (suc n) m line within at =
    each m line at (λ a other before there. steps-before test lines each n a other (omega (arith, within, before)) there)

each-passes :
    (test : SymbolTest) (lines : List Line)
    → ((n : ℕ) (line : Line) → slice_get lines n ≡ Some line → PassBefore test lines n → clause_symbols_pass test (clause_of line.clause) ≡ true)
    → (n : ℕ) (line : Line) → slice_get lines n ≡ Some line → clause_symbols_pass test (clause_of line.clause) ≡ true
each-passes test lines each n line at = steps-before test lines each (suc n) n line (omega arith) at

pub steps_keep_symbols : StepsKeepSymbols
steps_keep_symbols test first outer lines pass binds steps =
    each-passes test lines λ n line at earlier.
    conclusions_keep_symbols test line.step (continued first outer (take n lines)) (clause_of line.clause)
    (continued-pass test first outer lines n pass earlier) (line-binds test lines n line binds at) (steps n line at)

-- a line of a derivation
line-passes :
    (test : SymbolTest) (form : List TreeClause) (lines : List Line) (n : ℕ) (line : Line) (step : Step)
    → All (λ c. clause_symbols_pass test c ≡ true) form
    → ((m : ℕ) (other : Line) → slice_get lines m ≡ Some other → is_component other.step ≡ true → clause_symbols_pass test (clause_of other.clause) ≡ true)
    → slice_get lines n ≡ Some line → line.step ≡ step → binds_each (symbols_pass test) step ≡ true
    → PassBefore test lines n → ComesBy step form (take n lines) (clause_of line.clause) → clause_symbols_pass test (clause_of line.clause) ≡ true
line-passes test form lines n line (Input place) forms components at is binds earlier comes = ap (clause_symbols_pass test) comes
line-passes test form lines n line (Negate place) forms components at is binds earlier comes = ap (clause_symbols_pass test) comes
line-passes test form lines n line (Clausify k) forms components at is binds earlier comes =
    All-contains (λ c. clause_symbols_pass test c ≡ true) form (clause_of line.clause) forms (Contains-item form k (clause_of line.clause) comes)
line-passes test form lines n line (Component name) forms components at is binds earlier comes =
    components n line at (ap is_component is)
line-passes test form lines n line (Opposite name) forms components at is binds earlier comes =
    let found = component_line-earlier lines n name comes.component comes.introduced in
    let one : list_all (literal_symbols_pass test) (comes.literal ∷ []) ≡ true =
    ap (list_all (literal_symbols_pass test)) (sym comes.one_literal)
    ∙ ap (clause_symbols_pass test) (sym found.gives)
    ∙ components found.number found.line found.there found.is_one in
    ap (list_all (literal_symbols_pass test)) comes.complemented ∙ one
line-passes test form lines n line (Para a b j s k z place first second) forms components at is binds earlier comes =
    conclusions_keep_symbols test (Para a b j s k z place first second) (line_parents (take n lines)) (clause_of line.clause) (lines-pass test lines n earlier) binds comes
line-passes test form lines n line (Refl a k bind) forms components at is binds earlier comes =
    conclusions_keep_symbols test (Refl a k bind) (line_parents (take n lines)) (clause_of line.clause) (lines-pass test lines n earlier) binds comes
line-passes test form lines n line (Factor a j s k z bind) forms components at is binds earlier comes =
    conclusions_keep_symbols test (Factor a j s k z bind) (line_parents (take n lines)) (clause_of line.clause) (lines-pass test lines n earlier) binds comes
line-passes test form lines n line (Merge a j k bind) forms components at is binds earlier comes =
    conclusions_keep_symbols test (Merge a j k bind) (line_parents (take n lines)) (clause_of line.clause) (lines-pass test lines n earlier) binds comes
line-passes test form lines n line (Split a definitions parts) forms components at is binds earlier comes =
    conclusions_keep_symbols test (Split a definitions parts) (line_parents (take n lines)) (clause_of line.clause) (lines-pass test lines n earlier) binds comes
line-passes test form lines n line (Chain numbers pivots) forms components at is binds earlier comes =
    conclusions_keep_symbols test (Chain numbers pivots) (line_parents (take n lines)) (clause_of line.clause) (lines-pass test lines n earlier) binds comes

pub derivations_keep_symbols : DerivationsKeepSymbols
derivations_keep_symbols test form lines forms components binds derived =
    each-passes test lines λ n line at earlier.
    line-passes test form lines n line line.step forms components at refl (line-binds test lines n line binds at) earlier (derived n line at)
