-- The ground instances of a clause that is rewritten are covered by the result and the unit, and reducing steps compose.
use Rattle.std.proofs.Common.{◌≡◌, ℕ, Bool, true, false, ◌&&◌, ◌||◌, ◌==◌, List, [], ◌∷◌, Some, refl, ap, ap₂, sym, ◌∙◌, subst, inl, inr, ◌⊎◌, ⊎_elim, append-nil, ◌++◌}
use Rattle.std.specs.Prelude.{All, Contains, slice_get, slice_set, flat_map, IsTrue, remove}
use Rattle.std.specs.List.{list_any, list_all}
use Rattle.std.proofs.lemmas.Bool.{and_parts, or_cases, eqb-true, true≢false, and_from}
use Rattle.std.proofs.lemmas.Option.{same_Some}
use Rattle.std.proofs.lemmas.List.{map-set}
use Rattle.std.proofs.lemmas.List.Elements.{All-nil, All-cons, All-contains}
use Rattle.fol_base.specs.Tree.{Tree, tree_variables}
use Rattle.fol_base.specs.Instance.{Substitution, instance}
use Rattle.fol_base.specs.Clause.{TreeLiteral, TreeClause, literal_instance, literal_variables, clause_variables}
use Rattle.fol_base.specs.Canonical.{canonical_clause, distinct}
use Rattle.fol_base.specs.Symbols.{FunctionSymbols}
use Rattle.fol_base.specs.Ground.{is_over, GroundClause, GroundInstance, literals_instance}
use Rattle.fol_base.specs.Sides.{side_of, other_side_of}
use Rattle.fol_base.specs.Interpretation.{Interpretation, no_values, literal_true_under, clause_true, clauses_true}
use Rattle.fol_base.specs.Order.{tree_greater, literal_greater, clause_greater}
use Rattle.fol_base.specs.Rules.{superposed, superposed_literal}
use Rattle.fol_base.specs.Covered.{InstanceOf, Covered}
use Rattle.fol_base.specs.declared.clause.Side.{Side}
use Rattle.fol_base.specs.declared.clause.Side.TheVariants.{Left, Right}
use Rattle.fol_base.proofs.AboutClauses.MeaningLemmas.{ground_instances_are_ground}
use Rattle.fol_base.proofs.AboutTerms.KindLemmas.{puts_no_truth, puts_function_terms}
use Rattle.fol_base.proofs.AboutClauses.RuleLemmas.{superposed-parts, superposed_literal-parts, resolved-parts, merged-parts}
use Rattle.fol_base.proofs.AboutClauses.InferenceLemmas.{side_of-instance, other_side_of-instance, superposed_literal-instance, literal_in_instance}
use Rattle.fol_base.proofs.AboutInstances.GroundInstanceLemmas.{ground_instances_of_instances}
use Rattle.fol_base.proofs.AboutInstances.CoverageLemmas.{Covered-instance, Covered-more, Covered-across}
use Rattle.kbo_order.proofs.AboutMultisets.ClauseLoops.{In-index}
use Rattle.kbo_order.proofs.AboutMultisets.MemberLemmas.{In, In-contains, any-In, In-left, In-right}
use Rattle.kbo_order.proofs.AboutLaws.StableLemmas.{clauses_stable}
use Rattle.kbo_order.proofs.AboutLaws.SubtermLemmas.{smaller_subterms_make_smaller}
use Rattle.kernel_steps.specs.Inference.{RewritesBy, AllowsRoot, Reduces, is_tautology, SomeClause}
use Rattle.kernel_steps.specs.Symbols.{symbols_pass, clause_symbols_pass, literal_symbols_pass}
use Rattle.kernel_steps.proofs.AboutCalls.ItemLemmas.{list_any-set}
use Rattle.laws_calculus.specs.Symbols.{is_allowed, HasSymbolsOf}
use Rattle.laws_calculus.specs.Coverage.{CoversEach, ReductionsCovered, ReducesThrough, end_of, ReductionsCompose, ReductionsKeepSymbols, ReductionsKeepNames, ReducedAwayCovered}
use Rattle.laws_calculus.proofs.AboutCovering.ClauseLemmas.{In-either, All-In, smaller-not_greater, smaller_unit-smaller}
use Rattle.laws_calculus.proofs.AboutCovering.SymbolLemmas.{variable-passes, function_term-over, instance-passes, renamed-pass}
use Rattle.laws_calculus.proofs.AboutLifting.LiteralLemmas.{rewriting-smaller}
use Rattle.laws_calculus.proofs.AboutCovering.CoverLemmas.{Together, together-listed, canonical_covers, dropped_literals, tautologies, subsumed}
use Rattle.fol_base.proofs.WorkedExamples.TestLemmas.{list_all-item, list_all-remove}
use Rattle.kbo_order.proofs.AboutMultisets.PartLemmas.{smaller_sides_make_smaller, smaller_literals_make_smaller}
use Rattle.kernel_steps.proofs.AboutSoundness.RuleTruth.{superposed_literal-truth}
use Rattle.kernel_steps.proofs.AboutCalls.SymbolLemmas.{side-passes, superposed-passes, subterm-passes}
use Rattle.fol_base.specs.Subsumption.{Subsumes}

-- ---- a rewrite taken apart

-- literal number j of c is rewritten by the equation e, whose greater side stands there, and e is below that literal
record Rewritten (e : TreeLiteral) (c : TreeClause) (d : TreeClause) : Type 0 where
  s : Side
  j : ℕ
  z : Side
  place : List ℕ
  into : TreeLiteral
  into_there : slice_get c.literals j ≡ Some into
  made : TreeLiteral
  made_so : superposed_literal e s into z place ≡ Some made
  gives : slice_set c.literals j made ≡ d.literals
  made_smaller : literal_greater into made ≡ true
  equation_smaller : literal_greater into e ≡ true

rewritten :
    (is_predicate : ℕ → Bool) (unit c d : TreeClause) (r : RewritesBy is_predicate unit c d)
    → Rewritten (literal_instance r.matcher r.equation) c d
rewritten is_predicate unit c d r =
    let σ : Substitution = r.matcher in
    let e : TreeLiteral = literal_instance σ r.equation in
    let s : Side = r.from_side in
    let z : Side = r.into_side in
    let one : superposed (e ∷ []) 0 s c.literals r.j z r.place ≡ Some d.literals =
    ap (λ (ls : List TreeLiteral). superposed (literals_instance σ ls) 0 s c.literals r.j z r.place) (sym r.is_unit) ∙ r.gives in
    let p = superposed-parts (e ∷ []) 0 s c.literals r.j z r.place d.literals one in
    let from_is : p.from ≡ e = sym (same_Some e p.from p.from_there) in
    let into_is : r.literal ≡ p.into = same_Some r.literal p.into (sym r.literal_there ∙ p.into_there) in
    let step : superposed_literal e s p.into z r.place ≡ Some p.literal =
    ap (λ (f : TreeLiteral). superposed_literal f s p.into z r.place) (sym from_is) ∙ p.literal_made in
    let q = superposed_literal-parts e s p.into z r.place p.literal step in
    let side : side_of s e ≡ r.old = side_of-instance σ s r.equation ∙ r.matches in
    let other : other_side_of s e ≡ instance σ (other_side_of s r.equation) = other_side_of-instance σ s r.equation in
    let ordered : tree_greater (side_of s e) (other_side_of s e) ≡ true = ap₂ tree_greater side other ∙ r.greater in
    let root : AllowsRoot p.into z r.place (other_side_of s e) =
    subst (λ (t : Tree). AllowsRoot p.into z r.place t) (sym other)
    (subst (λ (l : TreeLiteral). AllowsRoot l z r.place (instance σ (other_side_of s r.equation))) into_is r.root_allowed) in
    record {
      s = s;
      j = r.j;
      z = z;
      place = r.place;
      into = p.into;
      into_there = p.into_there;
      made = p.literal;
      made_so = step;
      gives = sym (append-nil (slice_set c.literals r.j p.literal)) ∙ p.gives;
      made_smaller =
          ap (literal_greater p.into) (sym q.gives)
          ∙ smaller_sides_make_smaller z p.into q.new
          (smaller_subterms_make_smaller r.place (side_of z p.into) (side_of s e) (other_side_of s e) q.new q.old_there q.new_made ordered);
      equation_smaller = rewriting-smaller p.into e z s r.place q.positive q.old_there ordered root;
    }

-- ---- what the matcher puts in

either_side : (s : Side) (l : TreeLiteral) (v : ℕ) → In v (literal_variables l) → In v (tree_variables (side_of s l)) ⊎ In v (tree_variables (other_side_of s l))
either_side Left l v there = In-either v (tree_variables l.left) (tree_variables l.right) there
either_side Right l v there =
    ⊎_elim (λ h. inr h) (λ h. inl h) (In-either v (tree_variables l.left) (tree_variables l.right) there)

variable-matched :
    (is_predicate : ℕ → Bool) (test : ℕ → ℕ → Bool) (unit c d : TreeClause) (r : RewritesBy is_predicate unit c d)
    → clause_symbols_pass test c ≡ true → (v : ℕ) → In v (literal_variables r.equation) → symbols_pass test (r.matcher v) ≡ true
variable-matched is_predicate test unit c d r pass v there =
    let σ : Substitution = r.matcher in
    let side : Tree = side_of r.from_side r.equation in
    let other : Tree = other_side_of r.from_side r.equation in
    let Passes : ℕ → Type 0 = λ w. symbols_pass test (σ w) ≡ true in
    let whole : symbols_pass test (instance σ side) ≡ true =
    ap (symbols_pass test) r.matches
    ∙ subterm-passes test r.place (side_of r.into_side r.literal) r.old r.old_there
    (side-passes test r.into_side r.literal (list_all-item (literal_symbols_pass test) c.literals r.j r.literal r.literal_there pass)) in
    ⊎_elim
    (λ here. variable-passes test σ side v whole here)
    (λ beside.
    let found =
    any-In (λ w. v == w) (tree_variables side)
    (All-contains (λ u. IsTrue (list_any (λ w. u == w) (tree_variables side))) (tree_variables other) v r.no_new_variables
    (In-contains v (tree_variables other) beside)) in
    subst (λ (w : ℕ). Passes w) (sym (eqb-true v found.0 found.2)) (variable-passes test σ side found.0 whole found.1))
    (either_side r.from_side r.equation v there)

matcher-over :
    (is_predicate : ℕ → Bool) (functions : FunctionSymbols is_predicate) (unit c d : TreeClause) (r : RewritesBy is_predicate unit c d)
    → HasSymbolsOf functions c → All (λ v. IsTrue (is_over functions.symbols (r.matcher v))) (clause_variables unit)
matcher-over is_predicate functions unit c d r symbols =
    let Over : ℕ → Type 0 = λ v. is_over functions.symbols (r.matcher v) ≡ true in
    subst (λ (ls : List TreeLiteral). All Over (flat_map literal_variables ls)) (sym r.is_unit)
    (All-In Over (flat_map literal_variables (r.equation ∷ [])) (λ v there.
    ⊎_elim
    (λ here.
    function_term-over functions (r.matcher v) (r.function_terms v)
    (variable-matched is_predicate (is_allowed functions) unit c d r symbols v here))
    (λ none. absurd none)
    (In-either v (literal_variables r.equation) [] there)))

-- ---- symbols are kept

rewritten-passes :
    (is_predicate : ℕ → Bool) (test : ℕ → ℕ → Bool) (unit c d : TreeClause) → RewritesBy is_predicate unit c d
    → clause_symbols_pass test unit ≡ true → clause_symbols_pass test c ≡ true → clause_symbols_pass test d ≡ true
rewritten-passes is_predicate test unit c d r unit_pass pass =
    let σ : Substitution = r.matcher in
    let l : TreeLiteral = r.equation in
    let e : TreeLiteral = literal_instance σ l in
    let p : TreeLiteral → Bool = literal_symbols_pass test in
    let equation_passes : p l ≡ true = (and_parts (p l) true (ap (list_all p) (sym r.is_unit) ∙ unit_pass)).0 in
    let put : (v : ℕ) → In v (tree_variables l.left ++ tree_variables l.right) → symbols_pass test (σ v) ≡ true =
    variable-matched is_predicate test unit c d r pass in
    let instance_passes : p e ≡ true =
    and_from (symbols_pass test e.left) (symbols_pass test e.right)
    (instance-passes test σ l.left (λ v k. put v (In-left v (tree_variables l.left) (tree_variables l.right) k)) (side-passes test Left l equation_passes))
    (instance-passes test σ l.right (λ v k. put v (In-right v (tree_variables l.left) (tree_variables l.right) k)) (side-passes test Right l equation_passes)) in
    superposed-passes test (literals_instance σ unit.literals) 0 r.from_side c.literals r.j r.into_side r.place d.literals r.gives
    (ap (λ (ls : List TreeLiteral). list_all p (literals_instance σ ls)) r.is_unit ∙ and_from (p e) true instance_passes refl) pass

fewer-pass :
    (test : ℕ → ℕ → Bool) (c d : TreeClause) (k : ℕ)
    → d.literals ≡ remove c.literals k → clause_symbols_pass test c ≡ true → clause_symbols_pass test d ≡ true
fewer-pass test c d k gives pass =
    ap (list_all (literal_symbols_pass test)) gives ∙ list_all-remove (literal_symbols_pass test) c.literals k pass

-- the symbols of what may be used pass
abbrev pub AllPass : (ℕ → ℕ → Bool) → (TreeClause → Type 0) → Type 0
AllPass test Holds = (e : TreeClause) → Holds e → clause_symbols_pass test e ≡ true

listed_pass :
    (test : ℕ → ℕ → Bool) (used : List TreeClause) → All (λ u. IsTrue (clause_symbols_pass test u)) used → AllPass test (Contains used)
listed_pass test used all e there = All-contains (λ u. IsTrue (clause_symbols_pass test u)) used e all there

pub step_keeps_symbols :
    (is_predicate : ℕ → Bool) (test : ℕ → ℕ → Bool) (Holds : TreeClause → Type 0) (c d : TreeClause)
    → AllPass test Holds → clause_symbols_pass test c ≡ true → Reduces is_predicate Holds c d → clause_symbols_pass test d ≡ true
step_keeps_symbols is_predicate test Holds c d all pass step =
    ⊎_elim
    (λ trivial. fewer-pass test c d trivial.i (sym (resolved-parts c.literals trivial.i d.literals trivial.gives).gives) pass)
    (λ more.
    ⊎_elim
    (λ merging.
    fewer-pass test c d merging.goes (sym (merged-parts c.literals merging.stays merging.goes d.literals merging.gives).gives) pass)
    (λ by.
    ⊎_elim
    (λ rewrite_by.
    rewritten-passes is_predicate test rewrite_by.clause c d rewrite_by.does
    (all rewrite_by.clause rewrite_by.holds) pass)
    (λ cut. fewer-pass test c d cut.does.j cut.does.gives pass)
    by)
    more)
    step

-- ---- names are kept

step_keeps_names : (is_predicate : ℕ → Bool) (Holds : TreeClause → Type 0) (c d : TreeClause) → Reduces is_predicate Holds c d → d.names ≡ c.names
step_keeps_names is_predicate Holds c d step =
    ⊎_elim
    (λ trivial. trivial.names)
    (λ more. ⊎_elim (λ merging. merging.names) (λ by. ⊎_elim (λ rewrite_by. rewrite_by.does.names) (λ cut. cut.does.names) by) more)
    step

pub steps_keep_names :
    (is_predicate : ℕ → Bool) (Holds : TreeClause → Type 0) (c : TreeClause) (ds : List TreeClause)
    → ReducesThrough is_predicate Holds c ds → (end_of c ds).names ≡ c.names
steps_keep_names is_predicate Holds c [] through = refl
steps_keep_names is_predicate Holds c (d ∷ ds) through =
    steps_keep_names is_predicate Holds d ds through.1 ∙ step_keeps_names is_predicate Holds c d through.0

pub reductions_keep_names : ReductionsKeepNames
reductions_keep_names is_predicate used c ds through = steps_keep_names is_predicate (Contains used) c ds through

-- ---- coverage

rewritten_covered :
    (is_predicate : ℕ → Bool) (functions : FunctionSymbols is_predicate) (Holds : TreeClause → Type 0) (unit c d : TreeClause)
    → Holds unit → RewritesBy is_predicate unit c d → HasSymbolsOf functions c → CoversEach functions (Together Holds d) c
rewritten_covered is_predicate functions Holds unit c d holds r symbols g made =
    let σ : Substitution = r.matcher in
    let τ : Substitution = made.trees in
    let e : TreeLiteral = literal_instance σ r.equation in
    let w = rewritten is_predicate unit c d r in
    let whole : GroundClause = literals_instance τ c.literals in
    let by_unit : GroundClause = literals_instance τ (literals_instance σ unit.literals) in
    let by_result : GroundClause = literals_instance τ d.literals in
    let unit_is : by_unit ≡ literal_instance τ e ∷ [] = ap (λ (ls : List TreeLiteral). literals_instance τ (literals_instance σ ls)) r.is_unit in
    let result_is : by_result ≡ slice_set whole w.j (literal_instance τ w.made) =
    ap (literals_instance τ) (sym w.gives) ∙ map-set (literal_instance τ) c.literals w.j w.made in
    let P : GroundClause → Type 0 = λ h. clause_greater h whole ≡ false in
    let unit_below : P by_unit =
    ap (λ (h : GroundClause). clause_greater h whole) unit_is
    ∙ smaller-not_greater whole (literal_instance τ e ∷ [])
    (clauses_stable τ c.literals (e ∷ []) (smaller_unit-smaller c.literals w.into e (In-index c.literals w.j w.into w.into_there) w.equation_smaller)) in
    let result_below : P by_result =
    smaller-not_greater whole by_result
    (ap (λ (ls : List TreeLiteral). clause_greater whole (literals_instance τ ls)) (sym w.gives)
    ∙ clauses_stable τ c.literals (slice_set c.literals w.j w.made)
    (smaller_literals_make_smaller c.literals w.j w.into w.made w.into_there w.made_smaller)) in
    let Instance : GroundClause → Type 0 = InstanceOf functions (Together Holds d) in
    let unit_instance : Instance by_unit = record {
      clause = unit;
      holds = inl holds;
      is_instance =
          ground_instances_of_instances is_predicate functions σ unit by_unit (matcher-over is_predicate functions unit c d r symbols)
          (record { trees = τ; trees_ground = made.trees_ground; literals = refl });
    } in
    let result_instance : Instance by_result = record {
      clause = d;
      holds = inr refl;
      is_instance = record { trees = τ; trees_ground = made.trees_ground; literals = refl };
    } in
    let step : superposed_literal (literal_instance τ e) w.s (literal_instance τ w.into) w.z w.place ≡ Some (literal_instance τ w.made) =
    superposed_literal-instance τ e w.s w.into w.z w.place w.made
    (puts_no_truth is_predicate τ (puts_function_terms is_predicate functions τ made.trees_ground)) w.made_so in
    let entails : (i : Interpretation) → clauses_true i (by_unit ∷ by_result ∷ []) ≡ true → clause_true i whole ≡ true = λ i all.
    let p : TreeLiteral → Bool = literal_true_under i no_values in
    let both = and_parts (clause_true i by_unit) (clause_true i by_result && true) all in
    let unit_true : (p (literal_instance τ e) || false) ≡ true = ap (clause_true i) (sym unit_is) ∙ both.0 in
    let equation_true : p (literal_instance τ e) ≡ true =
    ⊎_elim (λ h. h) (λ h. absurd (true≢false (sym h))) (or_cases (p (literal_instance τ e)) false unit_true) in
    sym (list_any-set p whole w.j (literal_instance τ w.into) (literal_instance τ w.made)
    (literal_in_instance τ c.literals w.j w.into w.into_there)
    (superposed_literal-truth i no_values (literal_instance τ e) (literal_instance τ w.into) (literal_instance τ w.made) w.s w.z w.place step equation_true))
    ∙ ap (clause_true i) (sym result_is)
    ∙ (and_parts (clause_true i by_result) true both.1).0 in
    subst (λ (h : GroundClause). Covered functions (Together Holds d) h) (sym made.literals)
    (record {
      by = by_unit ∷ by_result ∷ [];
      instances = All-cons Instance by_unit (by_result ∷ []) unit_instance (All-cons Instance by_result [] result_instance (All-nil Instance));
      none_greater = All-cons P by_unit (by_result ∷ []) unit_below (All-cons P by_result [] result_below (All-nil P));
      entailed = λ i ok all. entails i all;
    })

pub reductions :
    (is_predicate : ℕ → Bool) (functions : FunctionSymbols is_predicate) (Holds : TreeClause → Type 0) (c d : TreeClause)
    → HasSymbolsOf functions c → Reduces is_predicate Holds c d → CoversEach functions (Together Holds d) c
reductions is_predicate functions Holds c d symbols step g made =
    let alone : Covered functions (λ e. e ≡ d) g → Covered functions (Together Holds d) g =
    Covered-more is_predicate functions (λ e. e ≡ d) (Together Holds d) g (λ e same. inr same) in
    ⊎_elim
    (λ trivial. alone (dropped_literals is_predicate functions d c d (inl trivial) g made))
    (λ more.
    ⊎_elim
    (λ merging. alone (dropped_literals is_predicate functions d c d (inr (inl merging)) g made))
    (λ by.
    ⊎_elim
    (λ rewrite_by. rewritten_covered is_predicate functions Holds rewrite_by.clause c d rewrite_by.holds rewrite_by.does symbols g made)
    (λ cut. alone (dropped_literals is_predicate functions cut.clause c d (inr (inr cut.does)) g made))
    by)
    more)
    step

pub reductions_covered : ReductionsCovered
reductions_covered is_predicate functions used c d symbols step g made =
    Covered-more is_predicate functions (Together (Contains used) d) (Contains (d ∷ used)) g (together-listed used d)
    (reductions is_predicate functions (Contains used) c d symbols step g made)

-- ---- steps one after another

pub steps_keep_symbols :
    (is_predicate : ℕ → Bool) (test : ℕ → ℕ → Bool) (Holds : TreeClause → Type 0) (c : TreeClause) (ds : List TreeClause)
    → AllPass test Holds → clause_symbols_pass test c ≡ true → ReducesThrough is_predicate Holds c ds → clause_symbols_pass test (end_of c ds) ≡ true
steps_keep_symbols is_predicate test Holds c [] all pass through = pass
steps_keep_symbols is_predicate test Holds c (d ∷ ds) all pass through =
    steps_keep_symbols is_predicate test Holds d ds all (step_keeps_symbols is_predicate test Holds c d all pass through.0) through.1

pub reductions_keep_symbols : ReductionsKeepSymbols
reductions_keep_symbols is_predicate test used c ds all pass through =
    let end : TreeClause = end_of c ds in
    let kept : clause_symbols_pass test end ≡ true =
    steps_keep_symbols is_predicate test (Contains used) c ds (listed_pass test used all) pass through in
    (kept, renamed-pass test (distinct (clause_variables end)) end.literals kept)

pub steps :
    (is_predicate : ℕ → Bool) (functions : FunctionSymbols is_predicate) (Holds : TreeClause → Type 0) (c : TreeClause) (ds : List TreeClause)
    → AllPass (is_allowed functions) Holds → HasSymbolsOf functions c → ReducesThrough is_predicate Holds c ds
    → CoversEach functions (Together Holds (end_of c ds)) c
steps is_predicate functions Holds c [] all symbols through g made =
    Covered-instance is_predicate functions (Together Holds c) c g (inr refl) made
steps is_predicate functions Holds c (d ∷ ds) all symbols through g made =
    let End : TreeClause → Type 0 = Together Holds (end_of d ds) in
    let kept : HasSymbolsOf functions d = step_keeps_symbols is_predicate (is_allowed functions) Holds c d all symbols through.0 in
    Covered-across is_predicate functions (Together Holds d) End g
    (ground_instances_are_ground is_predicate functions c g made)
    (λ e one h of_e.
    ⊎_elim
    (λ there. Covered-instance is_predicate functions End e h (inl there) of_e)
    (λ same.
    steps is_predicate functions Holds d ds all kept through.1 h (subst (λ (f : TreeClause). GroundInstance functions f h) same of_e))
    one)
    (reductions is_predicate functions Holds c d symbols through.0 g made)

pub reductions_compose : ReductionsCompose
reductions_compose is_predicate functions used c ds all symbols through =
    let Used : TreeClause → Type 0 = Contains used in
    let end : TreeClause = end_of c ds in
    let canonical : TreeClause = canonical_clause end in
    let covers : CoversEach functions (Together Used end) c =
    steps is_predicate functions Used c ds (listed_pass (is_allowed functions) used all) symbols through in (
      λ g made. Covered-more is_predicate functions (Together Used end) (Contains (end ∷ used)) g (together-listed used end) (covers g made),
      canonical_covers is_predicate functions (Together Used end) (Contains (canonical ∷ used)) c end
          (λ e one. ⊎_elim (λ there. inl (together-listed used canonical e (inl there))) (λ same. inr same) one)
          (together-listed used canonical canonical (inr refl)) covers,
    )

-- ---- reduced away

pub reduced_away :
    (is_predicate : ℕ → Bool) (functions : FunctionSymbols is_predicate) (Holds : TreeClause → Type 0) (c : TreeClause) (ds : List TreeClause)
    → AllPass (is_allowed functions) Holds → HasSymbolsOf functions c → ReducesThrough is_predicate Holds c ds
    → (is_tautology (end_of c ds) ≡ true) ⊎ SomeClause Holds (λ u. Subsumes is_predicate u (end_of c ds))
    → CoversEach functions Holds c
reduced_away is_predicate functions Holds c ds all symbols through away g made =
    let end : TreeClause = end_of c ds in
    let kept : HasSymbolsOf functions end = steps_keep_symbols is_predicate (is_allowed functions) Holds c ds all symbols through in
    let end_covered : CoversEach functions Holds end = λ h of_end.
    ⊎_elim
    (λ tautology. tautologies is_predicate functions Holds end tautology h of_end)
    (λ by.
    Covered-more is_predicate functions (λ e. e ≡ by.clause) Holds h
    (λ e same. subst (λ (f : TreeClause). Holds f) (sym same) by.holds)
    (subsumed is_predicate functions by.clause end kept by.does h of_end))
    away in
    Covered-across is_predicate functions (Together Holds end) Holds g
    (ground_instances_are_ground is_predicate functions c g made)
    (λ e one h of_e.
    ⊎_elim
    (λ there. Covered-instance is_predicate functions Holds e h there of_e)
    (λ same. end_covered h (subst (λ (f : TreeClause). GroundInstance functions f h) same of_e))
    one)
    (steps is_predicate functions Holds c ds all symbols through g made)

pub reduced_away_covered : ReducedAwayCovered
reduced_away_covered is_predicate functions used c ds all symbols through away g made =
    reduced_away is_predicate functions (Contains used) c ds (listed_pass (is_allowed functions) used all) symbols through away g made
