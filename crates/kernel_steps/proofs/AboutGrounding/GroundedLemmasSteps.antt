-- What a rule concludes from grounded clauses is grounded, for each kind of step that has parents.
use Rattle.std.proofs.Common.{◌≡◌, ℕ, ◌⊎◌, inl, inr, Bool, true, ◌&&◌, ◌==◌, List, [], ◌∷◌, ◌++◌, map, length, get_or, Option, Some, refl, ap, sym, ◌∙◌, subst, ⊎_elim}
use Rattle.std.specs.Prelude.{flat_map}
use Rattle.std.specs.List.{list_any, list_all, AllByRecursion}
use Rattle.std.proofs.lemmas.Bool.{and_parts, or_cases, or_left, or_right, false≢true}
use Rattle.std.proofs.lemmas.Option.{same_Some, option_and_then_some}
use Rattle.std.proofs.lemmas.List.Folds.{list_any-append}
use Rattle.plain_types.specs.declared.sequence.NameLit.{NameLit}
use Rattle.plain_types.specs.Names.{opposite, negative_of}
use Rattle.fol_base.specs.Tree.{Tree, variable}
use Rattle.fol_base.specs.Instance.{Substitution, substitution}
use Rattle.fol_base.specs.Clause.{TreeLiteral, TreeClause, literal_instance, clause_variables}
use Rattle.fol_base.specs.Ground.{is_over, IsGroundOver, GroundClause, GroundInstance, literals_instance}
use Rattle.fol_base.specs.Symbols.{FunctionSymbols}
use Rattle.fol_base.specs.Interpretation.{Interpretation, Assignment, tree_value, no_values, literal_true_under, literals_true_under, clause_true}
use Rattle.fol_base.specs.Rules.{superposed, resolved, factored, merged}
use Rattle.fol_base.proofs.AboutClauses.MeaningLemmas.{truth_of_instances}
use Rattle.fol_base.proofs.AboutInstances.GroundInstanceLemmas.{ground_instances_of_instances}
use Rattle.fol_base.proofs.WorkedExamples.TestLemmas.{list_any-map, list_any-agree, if_some}
use Rattle.kernel_steps.specs.Names.{sorted_names, chained}
use Rattle.kernel_steps.specs.Parents.{Parent, Parents}
use Rattle.kernel_steps.specs.Split.{share_out, literals_at}
use Rattle.kernel_steps.specs.Conclusion.{bound_literals, concludes, clause_with, by_one, by_two, names_alone, names_at, clause_of_names, verdict}
use Rattle.kernel_steps.specs.Soundness.{bindings_of, IsUsable, IsChoice, chosen_literals, IsGrounded}
use Rattle.kernel_steps.specs.declared.step.Step.{Step}
use Rattle.kernel_steps.specs.declared.step.Step.TheVariants.{Input, Negate, Clausify, Para, Refl, Factor, Merge, Component, Opposite, Split, Chain}
use Rattle.kernel_steps.proofs.AboutCalls.ItemLemmas.{get_or-passes}
use Rattle.kernel_steps.proofs.AboutCalls.VerdictParts.{by_one-parts, by_two-parts, split-parts, chain-parts, all_there-each}
use Rattle.kernel_steps.proofs.AboutSplits.SplitTests.{some_part-passes, no_items, SplitsInto, is_split-says}
use Rattle.kernel_steps.proofs.AboutGrounding.GroundedLemmas.{Supports, Supports-then, Supports-more, Supports-both, Supports-each, Grounds-supported, Supports-grounded}
use Rattle.kernel_steps.proofs.AboutGrounding.GroundedLemmasNames.{AreAmong, AreAmong-front, AreAmong-back, AreAmong-sorted, chosen_true, chosen_literals-truth, chosen_true-among, IsChoice-among, IsUsable-among}
use Rattle.kernel_steps.proofs.AboutSoundness.RuleTruth.{para_is_sound, refl_is_sound, factor_is_sound, merge_is_sound}
use Rattle.kernel_steps.proofs.AboutGrounding.GroundedLemmasChain.{NamesGrounded, chained-grounded}
use Rattle.kernel_steps.proofs.AboutGrounding.GroundedLemmasSplit.{DefinesName, ChosenParts, parts-chosen}

-- what follows from each item that passes a test
from_each :
    {X : Type 0} (q : X → Bool) (Fact : Type 0) (xs : List X) → AllByRecursion (λ x. q x ≡ true → Fact) xs → list_any q xs ≡ true → Fact
from_each q Fact [] each some = absurd (false≢true some)
from_each q Fact (x ∷ xs) each some = ⊎_elim (λ here. each.0 here) (λ later. from_each q Fact xs each.1 later) (or_cases (q x) (list_any q xs) some)

-- ---- grounded clauses

-- the literals of an instance are true, or what is chosen for one of the names
abbrev pub Decided : Substitution → List TreeLiteral → List NameLit → (ℕ → GroundClause) → Interpretation → Type 0
Decided σ ls ns choice i = (clause_true i (literals_instance σ ls) ≡ true) ⊎ (chosen_true i choice ns ≡ true)

-- literals are true where others are, under every assignment
abbrev FollowsFrom : List TreeLiteral → List TreeLiteral → Type 0
FollowsFrom ls made = (i : Interpretation) (ρ : Assignment) → literals_true_under i ρ ls ≡ true → literals_true_under i ρ made ≡ true

abbrev FollowsFromBoth : List TreeLiteral → List TreeLiteral → List TreeLiteral → Type 0
FollowsFromBoth ls ks made =
    (i : Interpretation) (ρ : Assignment)
    → literals_true_under i ρ ls ≡ true → literals_true_under i ρ ks ≡ true → literals_true_under i ρ made ≡ true

-- parents that introduce names define them
abbrev pub DefineNames : (ℕ → TreeClause) → Parents → Type 0
DefineNames bodies parents = (k : ℕ) (p : Parent) → parents k ≡ Some p → p.introduces ≡ true → DefinesName bodies p.clause

module _ {is_predicate : ℕ → Bool} (functions : FunctionSymbols is_predicate) (form : List TreeClause) (bodies : ℕ → TreeClause) where
  -- a clause is grounded where this is supported
  pub grounded-from :
      (ls : List TreeLiteral) (ns : List NameLit)
      → ((σ : Substitution) (choice : ℕ → GroundClause)
      → IsGroundOver functions σ → IsChoice functions bodies ns choice
      → Supports functions (IsUsable form bodies ns) (Decided σ ls ns choice))
      → IsGrounded functions form bodies (record { literals = ls; names = ns })
  grounded-from ls ns supported g choice made is_choice =
      Grounds-supported functions (g ++ chosen_literals choice ns)
      (Supports-then functions (λ i ok which.
      list_any-append (literal_true_under i no_values) g (chosen_literals choice ns)
      ∙ ⊎_elim
      (λ holds. or_left (clause_true i g) (clause_true i (chosen_literals choice ns)) (ap (clause_true i) made.literals ∙ holds))
      (λ some. or_right (clause_true i g) (clause_true i (chosen_literals choice ns)) (chosen_literals-truth i choice ns ∙ some))
      which)
      (supported made.trees choice made.trees_ground is_choice))

  -- and where it is grounded, this is so
  decided-from :
      (c : TreeClause) (g : GroundClause) (choice : ℕ → GroundClause)
      → IsGrounded functions form bodies c → GroundInstance functions c g → IsChoice functions bodies c.names choice
      → Supports functions (IsUsable form bodies c.names) (λ i. (clause_true i g ≡ true) ⊎ (chosen_true i choice c.names ≡ true))
  decided-from c g choice grounded made is_choice =
      Supports-then functions (λ i ok holds.
      ⊎_elim inl (λ some. inr (sym (chosen_literals-truth i choice c.names) ∙ some))
      (or_cases (clause_true i g) (clause_true i (chosen_literals choice c.names))
      (sym (list_any-append (literal_true_under i no_values) g (chosen_literals choice c.names)) ∙ holds)))
      (Supports-grounded functions (g ++ chosen_literals choice c.names) (grounded g choice made is_choice))

  -- also for more names
  decided-among :
      (c : TreeClause) (ns : List NameLit) (σ : Substitution) (choice : ℕ → GroundClause)
      → IsGrounded functions form bodies c → AreAmong c.names ns → IsGroundOver functions σ → IsChoice functions bodies ns choice
      → Supports functions (IsUsable form bodies ns) (Decided σ c.literals ns choice)
  decided-among c ns σ choice grounded among ground is_choice =
      Supports-more functions (IsUsable-among form bodies c.names ns (λ n. among (negative_of n)))
      (Supports-then functions (λ i ok. ⊎_elim inl (λ some. inr (chosen_true-among i choice c.names ns among some)))
      (decided-from c (literals_instance σ c.literals) choice grounded
      (record { trees = σ; trees_ground = ground; literals = refl })
      (IsChoice-among functions bodies c.names ns choice among is_choice)))

  -- a binding over the list keeps a clause grounded
  bound-grounded :
      (bind : List Tree) (c : TreeClause)
      → list_all (is_over functions.symbols) bind ≡ true → IsGrounded functions form bodies c
      → IsGrounded functions form bodies (record { literals = bound_literals bind c; names = c.names })
  bound-grounded bind c over grounded g choice made is_choice =
      grounded g choice
      (ground_instances_of_instances is_predicate functions (substitution bind) c g
      (λ k d within. get_or-passes (is_over functions.symbols) bind (get_or (clause_variables c) k d) (variable (get_or (clause_variables c) k d)) over refl)
      (record { trees = made.trees; trees_ground = made.trees_ground; literals = made.literals }))
      is_choice

  -- ---- rules on literals

  one-grounded :
      (bind : List Tree) (c : TreeClause) (made : List TreeLiteral)
      → list_all (is_over functions.symbols) bind ≡ true → IsGrounded functions form bodies c
      → FollowsFrom (bound_literals bind c) made → IsGrounded functions form bodies (clause_with c.names made)
  one-grounded bind c made over grounded follows =
      let ls : List TreeLiteral = bound_literals bind c in
      grounded-from made (sorted_names c.names) λ σ choice ground is_choice.
      Supports-then functions (λ i ok.
      ⊎_elim
      (λ holds.
      inl
      (truth_of_instances i no_values σ made
      ∙ follows i (λ v. tree_value i no_values (σ v)) (sym (truth_of_instances i no_values σ ls) ∙ holds)))
      inr)
      (decided-among (record { literals = ls; names = c.names }) (sorted_names c.names) σ choice
      (bound-grounded bind c over grounded) (AreAmong-sorted c.names) ground is_choice)

  two-grounded :
      (first_bind : List Tree) (c : TreeClause) (second_bind : List Tree) (d : TreeClause) (made : List TreeLiteral)
      → list_all (is_over functions.symbols) first_bind ≡ true → IsGrounded functions form bodies c
      → list_all (is_over functions.symbols) second_bind ≡ true → IsGrounded functions form bodies d
      → FollowsFromBoth (bound_literals first_bind c) (bound_literals second_bind d) made
      → IsGrounded functions form bodies (clause_with (c.names ++ d.names) made)
  two-grounded first_bind c second_bind d made c_over c_grounded d_over d_grounded follows =
      let ns : List NameLit = sorted_names (c.names ++ d.names) in
      let ls : List TreeLiteral = bound_literals first_bind c in
      let ks : List TreeLiteral = bound_literals second_bind d in
      grounded-from made ns λ σ choice ground is_choice.
      Supports-then functions (λ i ok both.
      ⊎_elim
      (λ first_true.
      ⊎_elim
      (λ second_true.
      inl
      (truth_of_instances i no_values σ made
      ∙ follows i (λ v. tree_value i no_values (σ v))
      (sym (truth_of_instances i no_values σ ls) ∙ first_true)
      (sym (truth_of_instances i no_values σ ks) ∙ second_true)))
      inr both.1)
      inr both.0)
      (Supports-both functions
      (decided-among (record { literals = ls; names = c.names }) ns σ choice (bound-grounded first_bind c c_over c_grounded)
      (λ n has. AreAmong-sorted (c.names ++ d.names) n (AreAmong-front c.names d.names n has)) ground is_choice)
      (decided-among (record { literals = ks; names = d.names }) ns σ choice (bound-grounded second_bind d d_over d_grounded)
      (λ n has. AreAmong-sorted (c.names ++ d.names) n (AreAmong-back c.names d.names n has)) ground is_choice))

  -- ---- splits

  -- The parts' instances are one of the parent. Where it is true one of them is, so what is chosen for a name is.
  split-supported :
      (c : TreeClause) (ns : List NameLit) (choice : ℕ → GroundClause) (parts : List (List ℕ))
      → IsGrounded functions form bodies c → AreAmong c.names ns → IsChoice functions bodies ns choice
      → share_out (length c.literals) parts ≡ true
      → ChosenParts functions form bodies ns choice (map (literals_at c.literals) parts)
      → Supports functions (IsUsable form bodies ns) (λ i. chosen_true i choice ns ≡ true)
  split-supported c ns choice parts grounded among is_choice shared_out them =
      Supports-then functions (λ i ok both. ⊎_elim (λ holds. from_parts i both.1 holds) (λ some. some) both.0)
      (Supports-both functions
      (decided-among c ns them.trees choice grounded among them.trees_ground is_choice)
      (Supports-each functions Part lss them.chosen))
    where
      lss : List (List TreeLiteral)
      lss = map (literals_at c.literals) parts

      Part : List TreeLiteral → Interpretation → Type 0
      Part ls i = clause_true i (literals_instance them.trees ls) ≡ true → chosen_true i choice ns ≡ true

      from_parts :
          (i : Interpretation) → AllByRecursion (λ ls. Part ls i) lss → clause_true i (literals_instance them.trees c.literals) ≡ true
          → chosen_true i choice ns ≡ true
      from_parts i each holds =
          let true_in : TreeLiteral → Bool = λ l. literal_true_under i no_values (literal_instance them.trees l) in
          from_each (λ ls. clause_true i (literals_instance them.trees ls)) (chosen_true i choice ns ≡ true) lss each
          (list_any-agree (λ ls. clause_true i (literals_instance them.trees ls)) (list_any true_in)
          (λ ls. list_any-map (literal_true_under i no_values) (literal_instance them.trees) ls) lss
          ∙ some_part-passes true_in c.literals parts shared_out
          (sym (list_any-map (literal_true_under i no_values) (literal_instance them.trees) c.literals) ∙ holds))

  split-grounded :
      (p : Parent) (ds : List Parent) (parts : List (List ℕ))
      → IsGrounded functions form bodies p.clause
      → AllByRecursion (λ (d : Parent). d.introduces ≡ true → DefinesName bodies d.clause) ds
      → SplitsInto p.clause.literals ds parts
      → IsGrounded functions form bodies
      (clause_with (p.clause.names ++ map opposite (flat_map (λ (d : Parent). d.clause.names) ds)) [])
  split-grounded p ds parts grounded define split =
      let opposites : List NameLit = map opposite (flat_map (λ (d : Parent). d.clause.names) ds) in
      let all_names : List NameLit = p.clause.names ++ opposites in
      let ns : List NameLit = sorted_names all_names in
      grounded-from [] ns λ σ choice ground is_choice.
      Supports-then functions (λ i ok. inr)
      (split-supported p.clause ns choice parts grounded
      (λ n has. AreAmong-sorted all_names n (AreAmong-front p.clause.names opposites n has)) is_choice split.shared_out
      (parts-chosen functions form bodies ns choice σ ds (map (literals_at p.clause.literals) parts) ground is_choice
      (λ n has. AreAmong-sorted all_names n (AreAmong-back p.clause.names opposites n has)) define split.defined split.apart))

  -- ---- chains

  -- a clause without literals
  names-grounded :
      (c : TreeClause) (σ : Substitution)
      → IsGroundOver functions σ → c.literals ≡ [] → IsGrounded functions form bodies c → NamesGrounded functions form bodies c.names
  names-grounded c σ ground none grounded choice is_choice =
      Supports-then functions (λ i ok. ⊎_elim (λ holds. absurd (false≢true holds)) (λ some. some))
      (decided-from c [] choice grounded
      (record { trees = σ; trees_ground = ground; literals = ap (literals_instance σ) (sym none) })
      is_choice)

  names_at-grounded :
      (parents : Parents) (σ : Substitution)
      → ((k : ℕ) (p : Parent) → parents k ≡ Some p → IsGrounded functions form bodies p.clause) → IsGroundOver functions σ
      → (k : ℕ) (ns : List NameLit) → names_at parents k ≡ Some ns → NamesGrounded functions form bodies ns
  names_at-grounded parents σ grounded ground k ns at =
      option_and_then_some names_alone (parents k) ns at λ p there step.
      let alone = if_some (length p.clause.literals == 0) (Some p.clause.names) ns step in
      subst (NamesGrounded functions form bodies) (same_Some p.clause.names ns alone.1)
      (names-grounded p.clause σ ground (no_items p.clause.literals alone.0) (grounded k p there))

  chain-grounded :
      (nss : List (List NameLit)) (pivots made : List NameLit)
      → chained nss pivots ≡ Some made
      → ((σ : Substitution) → IsGroundOver functions σ → AllByRecursion (NamesGrounded functions form bodies) nss)
      → IsGrounded functions form bodies (clause_of_names made)
  chain-grounded nss pivots made is each =
      grounded-from [] made λ σ choice ground is_choice.
      Supports-then functions (λ i ok. inr) (chained-grounded functions form bodies nss pivots made is (each σ ground) choice is_choice)

  -- ---- steps

  abbrev pub AreGrounded : Parents → Type 0
  AreGrounded parents = (k : ℕ) (p : Parent) → parents k ≡ Some p → IsGrounded functions form bodies p.clause

  -- a rule on one parent, and on two
  by_one-grounded :
      (parents : Parents) (k : ℕ) (bind : List Tree) (rule : List TreeLiteral → Option (List TreeLiteral)) (c : TreeClause)
      → AreGrounded parents → list_all (is_over functions.symbols) bind ≡ true
      → ((ls made : List TreeLiteral) → rule ls ≡ Some made → FollowsFrom ls made)
      → by_one (parents k) bind rule ≡ concludes c → IsGrounded functions form bodies c
  by_one-grounded parents k bind rule c grounded over follows is =
      let it = by_one-parts (parents k) bind rule c is in
      subst (IsGrounded functions form bodies) it.gives
      (one-grounded bind it.source.clause it.literals over (grounded k it.source it.there)
      (follows (bound_literals bind it.source.clause) it.literals it.made))

  by_two-grounded :
      (parents : Parents) (j : ℕ) (first_bind : List Tree) (k : ℕ) (second_bind : List Tree)
      (rule : List TreeLiteral → List TreeLiteral → Option (List TreeLiteral)) (c : TreeClause)
      → AreGrounded parents
      → list_all (is_over functions.symbols) first_bind ≡ true → list_all (is_over functions.symbols) second_bind ≡ true
      → ((ls ks made : List TreeLiteral) → rule ls ks ≡ Some made → FollowsFromBoth ls ks made)
      → by_two (parents j) first_bind (parents k) second_bind rule ≡ concludes c → IsGrounded functions form bodies c
  by_two-grounded parents j first_bind k second_bind rule c grounded first_over second_over follows is =
      let it = by_two-parts (parents j) first_bind (parents k) second_bind rule c is in
      subst (IsGrounded functions form bodies) it.gives
      (two-grounded first_bind it.source.clause second_bind it.target.clause it.literals
      first_over (grounded j it.source it.first_there) second_over (grounded k it.target it.second_there)
      (follows (bound_literals first_bind it.source.clause) (bound_literals second_bind it.target.clause) it.literals it.made))

  by_split-grounded :
      (parents : Parents) (k : ℕ) (definitions : List ℕ) (parts : List (List ℕ)) (c : TreeClause)
      → AreGrounded parents → DefineNames bodies parents
      → verdict (Split k definitions parts) parents ≡ concludes c → IsGrounded functions form bodies c
  by_split-grounded parents k definitions parts c grounded define is =
      let it = split-parts (parents k) (map parents definitions) parts c is in
      subst (IsGrounded functions form bodies) it.gives
      (split-grounded it.source it.defined parts (grounded k it.source it.there)
      (all_there-each (λ (d : Parent). d.introduces ≡ true → DefinesName bodies d.clause) parents definitions it.defined define it.definitions_there)
      (is_split-says it.source.clause.literals it.defined parts it.is_one))

  by_chain-grounded :
      (parents : Parents) (numbers : List ℕ) (pivots : List NameLit) (c : TreeClause)
      → AreGrounded parents → verdict (Chain numbers pivots) parents ≡ concludes c → IsGrounded functions form bodies c
  by_chain-grounded parents numbers pivots c grounded is =
      let it = chain-parts parents numbers pivots c is in
      subst (IsGrounded functions form bodies) it.gives
      (chain-grounded it.lists pivots it.names it.made λ σ ground.
      all_there-each (NamesGrounded functions form bodies) (names_at parents) numbers it.lists (names_at-grounded parents σ grounded ground) it.there)

  -- what a step concludes from grounded clauses is grounded
  pub verdict-grounded :
      (step : Step) (parents : Parents) (c : TreeClause)
      → AreGrounded parents → DefineNames bodies parents → list_all (list_all (is_over functions.symbols)) (bindings_of step) ≡ true
      → verdict step parents ≡ concludes c → IsGrounded functions form bodies c
  verdict-grounded (Para first second from from_side into into_side place first_bind second_bind) parents c grounded define over is =
      let first_over = and_parts (list_all (is_over functions.symbols) first_bind) (list_all (is_over functions.symbols) second_bind && true) over in
      by_two-grounded parents first first_bind second second_bind (λ ls ks. superposed ls from from_side ks into into_side place) c grounded
      first_over.0 (and_parts (list_all (is_over functions.symbols) second_bind) true first_over.1).0
      (λ ls ks made step i ρ. para_is_sound i ρ ls from from_side ks into into_side place made step) is
  verdict-grounded (Refl parent literal bind) parents c grounded define over is =
      by_one-grounded parents parent bind (λ ls. resolved ls literal) c grounded
      (and_parts (list_all (is_over functions.symbols) bind) true over).0
      (λ ls made step i ρ. refl_is_sound i ρ ls literal made step) is
  verdict-grounded (Factor parent becomes becomes_side other other_side bind) parents c grounded define over is =
      by_one-grounded parents parent bind (λ ls. factored ls becomes becomes_side other other_side) c grounded
      (and_parts (list_all (is_over functions.symbols) bind) true over).0
      (λ ls made step i ρ. factor_is_sound i ρ ls becomes becomes_side other other_side made step) is
  verdict-grounded (Merge parent stays goes bind) parents c grounded define over is =
      by_one-grounded parents parent bind (λ ls. merged ls stays goes) c grounded
      (and_parts (list_all (is_over functions.symbols) bind) true over).0
      (λ ls made step i ρ. merge_is_sound i ρ ls stays goes made step) is
  verdict-grounded (Split parent definitions parts) parents c grounded define over is =
      by_split-grounded parents parent definitions parts c grounded define is
  verdict-grounded (Chain numbers pivots) parents c grounded define over is = by_chain-grounded parents numbers pivots c grounded is
  verdict-grounded (Input place) parents c grounded define over is = absurd (cc)
  verdict-grounded (Negate place) parents c grounded define over is = absurd (cc)
  verdict-grounded (Clausify i) parents c grounded define over is = absurd (cc)
  verdict-grounded (Component name) parents c grounded define over is = absurd (cc)
  verdict-grounded (Opposite name) parents c grounded define over is = absurd (cc)
