-- The ground instances of clauses that are reduced by fewer literals, subsumed, renamed or tautologies are covered.
use Rattle.std.proofs.Common.{◌≡◌, ℕ, Bool, true, false, not, ◌&&◌, List, [], ◌∷◌, Some, map, refl, ap, sym, ◌∙◌, subst, inl, inr, ◌⊎◌, ⊎_elim, zero, suc}
use Rattle.std.specs.Prelude.{All, Contains, slice_get, remove, flat_map, IsTrue}
use Rattle.std.specs.List.{list_any, list_all}
use Rattle.std.proofs.lemmas.Bool.{and_parts, or_cases, or_left, or_right, cases_Bool, eq-eqb}
use Rattle.std.proofs.lemmas.List.Elements.{All-nil, All-cons}
use Rattle.fol_base.specs.Tree.{tree_eq}
use Rattle.fol_base.specs.Instance.{Substitution}
use Rattle.fol_base.specs.Clause.{TreeLiteral, TreeClause, literal_instance, literal_variables, clause_variables}
use Rattle.fol_base.specs.Canonical.{canonical_clause}
use Rattle.fol_base.specs.Symbols.{FunctionSymbols}
use Rattle.fol_base.specs.Ground.{is_over, GroundClause, GroundInstance, literals_instance}
use Rattle.fol_base.specs.Interpretation.{Interpretation, Assignment, no_values, tree_value, sides_true, literal_true_under, literals_true_under, clause_true}
use Rattle.fol_base.specs.Order.{equivalent_literals, clause_greater}
use Rattle.fol_base.specs.Covered.{InstanceOf, Covered}
use Rattle.fol_base.specs.Subsumption.{Subsumes, all_different}
use Rattle.fol_base.proofs.AboutTerms.TreeLemmas.{tree_eq-true}
use Rattle.fol_base.proofs.WorkedExamples.TestLemmas.{list_all-item}
use Rattle.fol_base.proofs.AboutClauses.MeaningLemmas.{truth_of_instances, ground_instances_are_ground}
use Rattle.fol_base.proofs.AboutOrders.OrderLemmas.{literals_equivalence}
use Rattle.fol_base.proofs.AboutClauses.RuleLemmas.{resolved-parts, merged-parts}
use Rattle.fol_base.proofs.AboutClauses.InferenceLemmas.{literal_in_instance, map-remove}
use Rattle.fol_base.proofs.AboutInstances.GroundInstanceLemmas.{ground_instances_of_instances, ground_instances_of_canonical}
use Rattle.fol_base.proofs.AboutInstances.CoverageLemmas.{Covered-instance, Covered-more, Covered-across}
use Rattle.kbo_order.proofs.AboutMultisets.MemberLemmas.{In, In-contains, contains-In, any-In}
use Rattle.kernel_steps.specs.Derivation.{complement}
use Rattle.kernel_steps.specs.Inference.{DropsTrivial, MergesEqual, CutsBy, makes_tautology, is_tautology}
use Rattle.kernel_steps.specs.Split.{literals_at}
use Rattle.kernel_steps.specs.Symbols.{symbols_pass, literal_symbols_pass}
use Rattle.kernel_steps.proofs.AboutSoundness.RuleTruth.{complement-truth, equivalent-truth}
use Rattle.laws_calculus.specs.Symbols.{is_allowed, HasSymbolsOf}
use Rattle.laws_calculus.specs.Coverage.{CoversEach, DroppedLiteralsCovered, SubsumedCovered, PartsCover, TautologiesCovered, RenamedCovered}
use Rattle.laws_calculus.proofs.AboutCovering.ClauseLemmas.{In-either, All-In, some-In, removed-not_greater}
use Rattle.laws_calculus.proofs.AboutCovering.SymbolLemmas.{literal-variable-passes, function_term-over}
use Rattle.laws_calculus.proofs.AboutLifting.PlacedLemmas.{Placed, placed, places_in, places_in-different, placed-there, placed-instance, placed-true, placed-part}
use Rattle.kbo_order.proofs.AboutMultisets.PartLemmas.{parts_are_not_greater}

-- one ground instance that isn't greater and entails the clause covers it
covered-by_one :
    {is_predicate : ℕ → Bool} (functions : FunctionSymbols is_predicate) (Holds : TreeClause → Type 0) (c : TreeClause) (g whole : GroundClause)
    → Holds c → GroundInstance functions c g → clause_greater g whole ≡ false
    → ((i : Interpretation) → clause_true i g ≡ true → clause_true i whole ≡ true)
    → Covered functions Holds whole
covered-by_one functions Holds c g whole holds made not_greater entails = record {
  by = g ∷ [];
  instances = All-cons (InstanceOf functions Holds) g [] (record { clause = c; holds = holds; is_instance = made }) (All-nil (InstanceOf functions Holds));
  none_greater = All-cons (λ h. clause_greater h whole ≡ false) g [] not_greater (All-nil (λ h. clause_greater h whole ≡ false));
  entailed = λ i ok all. entails i (and_parts (clause_true i g) true all).0;
}

-- ---- by the clauses that satisfy a predicate, and by those of a list

-- the clauses that satisfy the predicate, and this one
abbrev pub Together : (TreeClause → Type 0) → TreeClause → TreeClause → Type 0
Together Holds c d = Holds d ⊎ (d ≡ c)

pub together-listed : (used : List TreeClause) (c d : TreeClause) → Together (Contains used) c d → Contains (c ∷ used) d
together-listed used c d h =
    In-contains d (c ∷ used) (⊎_elim (λ there. inr (contains-In d used there)) (λ same. inl same) h)

listed-alone : (c d : TreeClause) → d ≡ c → Contains (c ∷ []) d
listed-alone c d same = In-contains d (c ∷ []) (inl same)

-- ---- a literal fewer

-- with fewer literals a clause isn't true more often
removed-true :
    {X : Type 0} (p : X → Bool) (xs : List X) (k : ℕ) → list_any p (remove xs k) ≡ true → list_any p xs ≡ true
removed-true p [] zero some = some
removed-true p [] (suc k) some = some
removed-true p (y ∷ ys) zero some = or_right (p y) (list_any p ys) some
removed-true p (y ∷ ys) (suc k) some =
    ⊎_elim
    (λ here. or_left (p y) (list_any p ys) here)
    (λ later. or_right (p y) (list_any p ys) (removed-true p ys k later))
    (or_cases (p y) (list_any p (remove ys k)) some)

without_literal :
    {is_predicate : ℕ → Bool} (functions : FunctionSymbols is_predicate) (c d : TreeClause) (k : ℕ) (l : TreeLiteral)
    → slice_get c.literals k ≡ Some l → d.literals ≡ remove c.literals k → CoversEach functions (λ e. e ≡ d) c
without_literal functions c d k l at gives g made =
    let τ : Substitution = made.trees in
    let whole : GroundClause = literals_instance τ c.literals in
    let part : GroundClause = literals_instance τ d.literals in
    let same : part ≡ remove whole k = ap (literals_instance τ) gives ∙ sym (map-remove (literal_instance τ) c.literals k) in
    subst (λ (h : GroundClause). Covered functions (λ e. e ≡ d) h) (sym made.literals)
    (covered-by_one functions (λ e. e ≡ d) d part whole refl
    (record { trees = τ; trees_ground = made.trees_ground; literals = refl })
    (ap (λ (h : GroundClause). clause_greater h whole) same
    ∙ removed-not_greater whole k (literal_instance τ l) (literal_in_instance τ c.literals k l at))
    (λ i holds. removed-true (literal_true_under i no_values) whole k (ap (clause_true i) (sym same) ∙ holds)))

pub dropped_literals :
    (is_predicate : ℕ → Bool) (functions : FunctionSymbols is_predicate) (unit c d : TreeClause)
    → DropsTrivial c d ⊎ (MergesEqual c d ⊎ CutsBy is_predicate unit c d)
    → CoversEach functions (λ e. e ≡ d) c
dropped_literals is_predicate functions unit c d step =
    ⊎_elim
    (λ trivial.
    let p = resolved-parts c.literals trivial.i d.literals trivial.gives in
    without_literal functions c d trivial.i p.literal p.literal_there (sym p.gives))
    (λ more.
    ⊎_elim
    (λ merging.
    let p = merged-parts c.literals merging.stays merging.goes d.literals merging.gives in
    without_literal functions c d merging.goes p.literal_j p.j_there (sym p.gives))
    (λ cut. without_literal functions c d cut.j cut.literal cut.literal_there cut.gives)
    more)
    step

pub dropped_literals_covered : DroppedLiteralsCovered
dropped_literals_covered is_predicate functions unit c d step g made =
    Covered-more is_predicate functions (λ e. e ≡ d) (Contains (d ∷ [])) g (listed-alone d)
    (dropped_literals is_predicate functions unit c d step g made)

-- ---- subsumption

-- what the matcher puts in is over the list
matcher-passes :
    (test : ℕ → ℕ → Bool) (σ : Substitution) (ls : List TreeLiteral) (places : List ℕ) (ds : List TreeLiteral) (v : ℕ)
    → Placed (map (literal_instance σ) ls) places ds → list_all (literal_symbols_pass test) ds ≡ true
    → In v (flat_map literal_variables ls) → symbols_pass test (σ v) ≡ true
matcher-passes test σ [] places ds v h pass there = absurd there
matcher-passes test σ (l ∷ ls) [] ds v h pass there = absurd h
matcher-passes test σ (l ∷ ls) (k ∷ places) ds v h pass there =
    let at = h.0 in
    ⊎_elim
    (λ here. literal-variable-passes test σ l at.0 v at.2 (list_all-item (literal_symbols_pass test) ds k at.0 at.1 pass) here)
    (λ later. matcher-passes test σ ls places ds v h.1 pass later)
    (In-either v (literal_variables l) (flat_map literal_variables ls) there)

pub subsumed :
    (is_predicate : ℕ → Bool) (functions : FunctionSymbols is_predicate) (c d : TreeClause)
    → HasSymbolsOf functions d → Subsumes is_predicate c d → CoversEach functions (λ e. e ≡ c) d
subsumed is_predicate functions c d symbols s g made =
    let σ : Substitution = s.matcher in
    let τ : Substitution = made.trees in
    let whole : GroundClause = literals_instance τ d.literals in
    let part : GroundClause = literals_instance τ (literals_instance σ c.literals) in
    let at : Placed (literals_instance σ c.literals) s.places d.literals = placed σ c.literals s.places d.literals s.mapped in
    let ground_at : Placed part s.places whole = placed-instance τ (literals_instance σ c.literals) s.places d.literals at in
    let over : All (λ v. IsTrue (is_over functions.symbols (σ v))) (clause_variables c) =
    All-In (λ v. is_over functions.symbols (σ v) ≡ true) (clause_variables c) (λ v there.
    function_term-over functions (σ v) (s.function_terms v)
    (matcher-passes (is_allowed functions) σ c.literals s.places d.literals v at symbols there)) in
    subst (λ (h : GroundClause). Covered functions (λ e. e ≡ c) h) (sym made.literals)
    (covered-by_one functions (λ e. e ≡ c) c part whole refl
    (ground_instances_of_instances is_predicate functions σ c part over
    (record { trees = τ; trees_ground = made.trees_ground; literals = refl }))
    (parts_are_not_greater part whole (placed-part part s.places whole s.different ground_at))
    (λ i holds. placed-true i no_values part s.places whole ground_at holds))

pub subsumed_covered : SubsumedCovered
subsumed_covered is_predicate functions c d symbols s g made =
    Covered-more is_predicate functions (λ e. e ≡ c) (Contains (c ∷ [])) g (listed-alone c)
    (subsumed is_predicate functions c d symbols s g made)

-- ---- parts

part_covers :
    (is_predicate : ℕ → Bool) (functions : FunctionSymbols is_predicate) (c d : TreeClause) (places : List ℕ)
    → all_different places ≡ true → d.literals ≡ literals_at c.literals places
    → CoversEach functions (λ e. e ≡ d) c
part_covers is_predicate functions c d places different gives g made =
    let τ : Substitution = made.trees in
    let whole : GroundClause = literals_instance τ c.literals in
    let part : GroundClause = literals_instance τ d.literals in
    let there : List ℕ = places_in c.literals places in
    let at : Placed d.literals there c.literals =
    subst (λ (ls : List TreeLiteral). Placed ls there c.literals) (sym gives) (placed-there c.literals places) in
    let ground_at : Placed part there whole = placed-instance τ d.literals there c.literals at in
    subst (λ (h : GroundClause). Covered functions (λ e. e ≡ d) h) (sym made.literals)
    (covered-by_one functions (λ e. e ≡ d) d part whole refl
    (record { trees = τ; trees_ground = made.trees_ground; literals = refl })
    (parts_are_not_greater part whole (placed-part part there whole (places_in-different c.literals places different) ground_at))
    (λ i holds. placed-true i no_values part there whole ground_at holds))

-- what covers a clause still does where one clause takes its canonical form
pub canonical_covers :
    (is_predicate : ℕ → Bool) (functions : FunctionSymbols is_predicate) (Holds Takes : TreeClause → Type 0) (c d : TreeClause)
    → ((e : TreeClause) → Holds e → Takes e ⊎ (e ≡ d)) → Takes (canonical_clause d)
    → CoversEach functions Holds c → CoversEach functions Takes c
canonical_covers is_predicate functions Holds Takes c d kept takes covers g made =
    Covered-across is_predicate functions Holds Takes g (ground_instances_are_ground is_predicate functions c g made)
    (λ e one h of_e.
    ⊎_elim
    (λ there. Covered-instance is_predicate functions Takes e h there of_e)
    (λ same.
    Covered-instance is_predicate functions Takes (canonical_clause d) h takes
    ((ground_instances_of_canonical is_predicate functions d h).0 (subst (λ (f : TreeClause). GroundInstance functions f h) same of_e)))
    (kept e one))
    (covers g made)

pub parts_cover : PartsCover
parts_cover is_predicate functions c d places different gives =
    let canonical : TreeClause = canonical_clause d in
    let covers : CoversEach functions (λ e. e ≡ d) c = part_covers is_predicate functions c d places different gives in (
      λ g made. Covered-more is_predicate functions (λ e. e ≡ d) (Contains (d ∷ [])) g (listed-alone d) (covers g made),
      canonical_covers is_predicate functions (λ e. e ≡ d) (Contains (canonical ∷ [])) c d (λ e same. inr same)
          (listed-alone canonical canonical refl) covers,
    )

-- ---- tautologies

equal_sides-true :
    (i : Interpretation) (ρ : Assignment) (l : TreeLiteral) → (l.positive && tree_eq l.left l.right) ≡ true → literal_true_under i ρ l ≡ true
equal_sides-true i ρ l h =
    let parts = and_parts l.positive (tree_eq l.left l.right) h in
    ap (λ (b : Bool). sides_true b (tree_value i ρ l.left) (tree_value i ρ l.right)) parts.0
    ∙ eq-eqb (tree_value i ρ l.left) (tree_value i ρ l.right) (ap (tree_value i ρ) (tree_eq-true l.left l.right parts.1))

pub tautology-true :
    (i : Interpretation) (ρ : Assignment) (c : TreeClause) → is_tautology c ≡ true → literals_true_under i ρ c.literals ≡ true
tautology-true i ρ c h =
    let p : TreeLiteral → Bool = literal_true_under i ρ in
    let found = any-In (makes_tautology c.literals) c.literals h in
    let l : TreeLiteral = found.0 in
    ⊎_elim
    (λ equal. some-In p c.literals l found.1 (equal_sides-true i ρ l equal))
    (λ opposite.
    let other = any-In (equivalent_literals (complement l)) c.literals opposite in
    ⊎_elim
    (λ holds. some-In p c.literals l found.1 holds)
    (λ fails.
    some-In p c.literals other.0 other.1
    (equivalent-truth i ρ other.0 (complement l) (literals_equivalence.symm other.0 (complement l) ∙ other.2)
    (complement-truth i ρ l ∙ ap not fails)))
    (cases_Bool (p l)))
    (or_cases (l.positive && tree_eq l.left l.right) (list_any (equivalent_literals (complement l)) c.literals) found.2)

pub tautologies :
    (is_predicate : ℕ → Bool) (functions : FunctionSymbols is_predicate) (Holds : TreeClause → Type 0) (c : TreeClause)
    → IsTrue (is_tautology c) → CoversEach functions Holds c
tautologies is_predicate functions Holds c h g made = record {
  by = [];
  instances = All-nil (InstanceOf functions Holds);
  none_greater = All-nil (λ x. clause_greater x g ≡ false);
  entailed = λ i ok all.
      ap (clause_true i) made.literals
      ∙ truth_of_instances i no_values made.trees c.literals
      ∙ tautology-true i (λ v. tree_value i no_values (made.trees v)) c h;
}

pub tautologies_covered : TautologiesCovered
tautologies_covered is_predicate functions c h g made = tautologies is_predicate functions (Contains []) c h g made

-- ---- renaming

pub renamed_covered : RenamedCovered
renamed_covered is_predicate functions c =
    let canonical : TreeClause = canonical_clause c in (
      λ g made.
          Covered-instance is_predicate functions (Contains (canonical ∷ [])) canonical g (listed-alone canonical canonical refl)
          ((ground_instances_of_canonical is_predicate functions c g).0 made),
      λ g made.
          Covered-instance is_predicate functions (Contains (c ∷ [])) c g (listed-alone c c refl)
          ((ground_instances_of_canonical is_predicate functions c g).1 made),
    )
