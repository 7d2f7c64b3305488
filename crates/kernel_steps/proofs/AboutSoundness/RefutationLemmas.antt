-- Refutations refute. What a name stands for needn't be decided: from a contradiction for each way in which it may stand one follows.
use Rattle.std.proofs.Common.{◌≡◌, ℕ, ◌<◌, Bool, true, false, ◌&&◌, ◌||◌, ◌==◌, List, [], ◌∷◌, ◌++◌, length, get_or, Option, Some, None, refl, ap, sym, ◌∙◌, subst, inl, inr, ⊎_elim}
use Rattle.std.specs.Prelude.{◌⊎◌, not, slice_get, All, Contains, unwrap_or, if◌then◌else◌}
use Rattle.std.specs.List.{list_all, AllByRecursion}
use Rattle.std.proofs.lemmas.Bool.{and_parts, and_from, or_cases, cases_Bool, cond-true, cond-false, eqb-true, true≢false, false_from_ne_true, true_from_ne_false}
use Rattle.std.proofs.lemmas.List.{append-nil}
use Rattle.std.proofs.lemmas.List.Folds.{list_all-map}
use Rattle.std.proofs.lemmas.List.Elements.{All-map, Contains-get_or}
use Rattle.std.proofs.lemmas.List.Sums.{AllPass-from_list_all}
use Rattle.fol_base.specs.Tree.{Tree, variable, application, true_tree, is_truth}
use Rattle.fol_base.specs.Clause.{TreeLiteral, TreeClause}
use Rattle.fol_base.specs.Literal.{clause_of}
use Rattle.fol_base.specs.Symbols.{FunctionSymbols}
use Rattle.fol_base.specs.Ground.{ground_over, is_ground, are_ground, is_ground_literal, is_ground_clause}
use Rattle.fol_base.specs.GroundForm.{is_ground_atom, is_atom_literal, IsGroundClause, IsGroundForm}
use Rattle.fol_base.specs.Interpretation.{Interpretation, Assignment, tree_value, no_values, literals_true_under, clause_true, clauses_true}
use Rattle.fol_base.specs.Covered.{InstanceOf}
use Rattle.fol_base.proofs.AboutClauses.MeaningLemmas.{constants_give_ground_trees, truth_of_instances, truth_of_ground_clauses}
use Rattle.fol_base.proofs.AboutTerms.TreeLemmas.{tree_eq-true}
use Rattle.kernel_steps.specs.Split.{has_number}
use Rattle.kernel_steps.specs.Conclusion.{empty_clause}
use Rattle.kernel_steps.specs.Derivation.{component_clause, body, IsRefutation}
use Rattle.kernel_steps.specs.Soundness.{NameTruth, names_true, ground_clauses, bindings_of, IsUsable, chosen_literals, GroundLinesAreGrounded, RefutationsRefute, GroundRefutationsRefute, GroundRefutationsHerbrandRefute}
use Rattle.kernel_steps.specs.declared.step.Line.{Line}
use Rattle.kernel_steps.proofs.AboutGrounding.GroundTrees.{literals_instance-ground}
use Rattle.kernel_steps.proofs.AboutCalls.LineLemmas.{last-there, introduced, introduced-there}
use Rattle.kernel_steps.proofs.AboutSoundness.OverValues.{Within, HoldsOver, FailsOver, MeansOver, KeepsOver}
use Rattle.kernel_steps.proofs.AboutSoundness.SoundLemmas.{Setting, lines-over, keeps-lines}

-- ---- what the names stand for

-- literals hold or fail, as far as a contradiction is concerned
undecided : (Value : ℕ → Type 0) (i : Interpretation) (ls : List TreeLiteral) → ((HoldsOver Value i ls ⊎ FailsOver Value i ls) → ⊥) → ⊥
undecided Value i ls never =
    never (inl λ ρ within.
    true_from_ne_false (literals_true_under i ρ ls) λ fails.
    never (inr (record { values = ρ; within = within; is_false = fails })))

abbrev MeansOf : (ℕ → Type 0) → Interpretation → (ℕ → List TreeLiteral) → List ℕ → NameTruth → Type 0
MeansOf Value i bodies names truth = (n : ℕ) → has_number n names ≡ true → MeansOver Value i (bodies n) (truth n)

one_more :
    (Value : ℕ → Type 0) (i : Interpretation) (bodies : ℕ → List TreeLiteral) (m : ℕ) (names : List ℕ) (truth : NameTruth) (b : Bool)
    → MeansOver Value i (bodies m) b → MeansOf Value i bodies names truth
    → MeansOf Value i bodies (m ∷ names) (λ n. if n == m then b else truth n)
one_more Value i bodies m names truth b here later n there =
    ⊎_elim
    (λ same.
    let P : Bool → Type 0 = λ c. MeansOver Value i (bodies n) c in
    subst P (sym (cond-true (n == m) b (truth n) same)) (subst (λ k. MeansOver Value i (bodies k) b) (sym (eqb-true n m same)) here))
    (λ other.
    let P : Bool → Type 0 = λ c. MeansOver Value i (bodies n) c in
    subst P (sym (cond-false (n == m) b (truth n) other))
    (later n (⊎_elim (λ same. absurd (true≢false (sym same ∙ other))) (λ rest. rest) (or_cases (n == m) (has_number n names) there))))
    (cases_Bool (n == m))

all_decided :
    (Value : ℕ → Type 0) (i : Interpretation) (bodies : ℕ → List TreeLiteral) (names : List ℕ)
    → ((truth : NameTruth) → MeansOf Value i bodies names truth → ⊥) → ⊥
all_decided Value i bodies [] never = never (λ n. false) (λ n there. absurd (true≢false (sym there)))
all_decided Value i bodies (m ∷ names) never =
    all_decided Value i bodies names λ truth means.
    undecided Value i (bodies m) λ decided.
    ⊎_elim
    (λ holds.
    never (λ n. if n == m then true else truth n)
    (one_more Value i bodies m names truth true (λ t. holds, λ f. absurd (true≢false f)) means))
    (λ fails.
    never (λ n. if n == m then false else truth n)
    (one_more Value i bodies m names truth false (λ t. absurd (true≢false (sym t)), λ f. fails) means))
    decided

-- a name that isn't introduced stands for nothing
means_all :
    (Value : ℕ → Type 0) (i : Interpretation) (some : Assignment) (lines : List Line) (truth : NameTruth)
    → Within Value some → MeansOf Value i (λ n. (body lines n).literals) (introduced lines) truth
    → (n : ℕ) → MeansOver Value i (body lines n).literals (has_number n (introduced lines) && truth n)
means_all Value i some lines truth within means n =
    ⊎_elim
    (λ there.
    let P : Bool → Type 0 = λ b. MeansOver Value i (body lines n).literals b in
    subst P (sym (ap (λ b. b && truth n) there)) (means n there))
    (λ missing.
    let P : Bool → Type 0 = λ b. MeansOver Value i (body lines n).literals b in
    let nothing : (body lines n).literals ≡ [] = ap (λ o. (unwrap_or o empty_clause).literals) (not_there missing) in
    subst P (sym (ap (λ b. b && truth n) missing)) (
      λ t. absurd (true≢false (sym t)),
      λ f. record { values = some; within = within; is_false = ap (literals_true_under i some) nothing },
    ))
    (cases_Bool (has_number n (introduced lines)))
  where
    not_there : has_number n (introduced lines) ≡ false → component_clause n lines ≡ None
    not_there missing = none (component_clause n lines) (λ c there. true≢false (sym (introduced-there lines n c there) ∙ missing))
      where
        none : (o : Option TreeClause) → ((c : TreeClause) → o ≡ Some c → ⊥) → o ≡ None
        none None never = refl
        none (Some c) never = absurd (never c refl)

-- what follows from a contradiction in each setting
pub in_some_setting :
    (Value : ℕ → Type 0) (i : Interpretation) (some : Assignment) (form : List TreeClause) (lines : List Line)
    → Within Value some → All (λ (c : TreeClause). HoldsOver Value i c.literals) form
    → ((n : ℕ) (line : Line) → slice_get lines n ≡ Some line → AllByRecursion (KeepsOver Value i) (bindings_of line.step))
    → ((truth : NameTruth) → Setting Value i truth form lines → ⊥) → ⊥
in_some_setting Value i some form lines within holds keeps never =
    all_decided Value i (λ n. (body lines n).literals) (introduced lines) λ truth means.
    never (λ n. has_number n (introduced lines) && truth n)
    (record {
      some = some;
      some_within = within;
      holds = holds;
      means = means_all Value i some lines truth within means;
      keeps = keeps;
    })

-- ---- refutations

refutation-over :
    (Value : ℕ → Type 0) (i : Interpretation) (some : Assignment) (form : List TreeClause) (lines : List Line)
    → Within Value some → All (λ (c : TreeClause). HoldsOver Value i c.literals) form
    → ((n : ℕ) (line : Line) → slice_get lines n ≡ Some line → AllByRecursion (KeepsOver Value i) (bindings_of line.step))
    → IsRefutation form lines → ⊥
refutation-over Value i some form lines within holds keeps r =
    in_some_setting Value i some form lines within holds keeps λ truth setting.
    true≢false
    (sym (lines-over Value i truth form lines setting r.derived (length r.before) r.last (last-there form lines r) r.is_clause some within)
    ∙ ap (λ (c : TreeClause). literals_true_under i some c.literals || names_true truth c.names) r.is_empty)

pub refutations_refute : RefutationsRefute
refutations_refute p i form lines ok functions r holds =
    refutation-over (λ v. v < i.size) i (λ v. 0) form lines (λ v. ok.has_value) holds (keeps-lines p i lines ok functions) r

-- ---- ground forms: their truth doesn't depend on values, so all numbers may be taken for them

abbrev Any : ℕ → Type 0
Any v = Unit {0}

is_ground_atom-ground : (t : Tree) → is_ground_atom t ≡ true → is_ground t ≡ true
is_ground_atom-ground (variable v) h = h
is_ground_atom-ground (application f ts) h = (and_parts (not (f == 0)) (are_ground ts) h).1

is_atom_literal-ground : (l : TreeLiteral) → is_atom_literal l ≡ true → is_ground_literal l ≡ true
is_atom_literal-ground l h =
    let sides = and_parts (is_ground_atom l.left) (is_truth l.right) h in
    and_from (is_ground l.left) (is_ground l.right) (is_ground_atom-ground l.left sides.0)
    (ap is_ground (tree_eq-true l.right true_tree sides.1))

IsGroundClause-ground : (c : TreeClause) → IsGroundClause c → is_ground_clause c.literals ≡ true
IsGroundClause-ground c h = all_ground c.literals h.1
  where
    all_ground : (ls : List TreeLiteral) → list_all is_atom_literal ls ≡ true → is_ground_clause ls ≡ true
    all_ground [] all = refl
    all_ground (l ∷ ls) all =
        let both = and_parts (is_atom_literal l) (list_all is_atom_literal ls) all in
        and_from (is_ground_literal l) (is_ground_clause ls) (is_atom_literal-ground l both.0) (all_ground ls both.1)

-- a form whose clauses are true holds
form-holds :
    (i : Interpretation) (form : List TreeClause)
    → IsGroundForm form → clauses_true i (ground_clauses form) ≡ true → All (λ (c : TreeClause). HoldsOver Any i c.literals) form
form-holds i form ground all_true k d within ρ any =
    truth_of_ground_clauses i ρ (get_or form k d).literals (IsGroundClause-ground (get_or form k d) (ground k d within)) ∙ each k d within
  where
    each : All (λ (c : TreeClause). clause_true i c.literals ≡ true) form
    each =
        AllPass-from_list_all (λ (c : TreeClause). clause_true i c.literals) form
        (sym (list_all-map (clause_true i) (λ (c : TreeClause). c.literals) form) ∙ all_true)

keeps-any : (i : Interpretation) (binds : List (List Tree)) → AllByRecursion (KeepsOver Any i) binds
keeps-any i [] = tt
keeps-any i (bind ∷ binds) = (λ ρ within v. tt, keeps-any i binds)

pub ground_refutations_refute : GroundRefutationsRefute
ground_refutations_refute p form lines ground r i ok =
    false_from_ne_true (clauses_true i (ground_clauses form)) λ all_true.
    refutation-over Any i no_values form lines (λ v. tt) (form-holds i form ground all_true) (λ n line at. keeps-any i (bindings_of line.step)) r

-- so the clauses of a ground form are ground instances of it
form-instances :
    (p : ℕ → Bool) (functions : FunctionSymbols p) (form : List TreeClause) (Holds : TreeClause → Type 0)
    → IsGroundForm form → ((c : TreeClause) → Contains form c → Holds c)
    → All (InstanceOf functions Holds) (ground_clauses form)
form-instances p functions form Holds ground holds =
    All-map (InstanceOf functions Holds) (λ (c : TreeClause). c.literals) form
    (λ k d within. record {
      clause = get_or form k d;
      holds = holds (get_or form k d) (Contains-get_or form k d within);
      is_instance = record {
        trees = λ v. some_tree.0;
        trees_ground = λ v. some_tree.1;
        literals = sym (literals_instance-ground (λ v. some_tree.0) (get_or form k d).literals (IsGroundClause-ground (get_or form k d) (ground k d within)));
      };
    })
  where
    some_tree : (t : Tree) × (ground_over functions.symbols t ≡ true)
    some_tree = (constants_give_ground_trees functions.symbols).1 functions.constant

pub ground_refutations_herbrand_refute : GroundRefutationsHerbrandRefute
ground_refutations_herbrand_refute p functions form lines ground r = record {
  by = ground_clauses form;
  instances = form-instances p functions form (Contains form) ground (λ c there. there);
  refuted = ground_refutations_refute p form lines ground r;
}

pub ground_lines_are_grounded : GroundLinesAreGrounded
ground_lines_are_grounded p functions form lines ground derived n line at is_clause no_names g choice made chosen = record {
  by = ground_clauses form;
  instances =
      form-instances p functions form (IsUsable form (body lines) (clause_of line.clause).names) ground (λ c there. inl there);
  entailed = λ i ok all_true.
      ap (clause_true i) (ap (λ ns. g ++ chosen_literals choice ns) no_names ∙ append-nil g)
      ∙ true_from_ne_false (clause_true i g) (λ fails. never i all_true fails);
}
  where
    never : (i : Interpretation) → clauses_true i (ground_clauses form) ≡ true → clause_true i g ≡ false → ⊥
    never i all_true fails =
        in_some_setting Any i no_values form lines (λ v. tt) (form-holds i form ground all_true)
        (λ k other there. keeps-any i (bindings_of other.step)) λ truth setting.
        ⊎_elim
        (λ holds. true≢false (sym holds ∙ sym (truth_of_instances i no_values made.trees (clause_of line.clause).literals) ∙ sym (ap (clause_true i) made.literals) ∙ fails))
        (λ name. true≢false (sym name ∙ ap (names_true truth) no_names))
        (or_cases (literals_true_under i (λ v. tree_value i no_values (made.trees v)) (clause_of line.clause).literals)
        (names_true truth (clause_of line.clause).names)
        (lines-over Any i truth form lines setting derived n line at is_clause (λ v. tree_value i no_values (made.trees v)) (λ v. tt)))
