-- What a step concludes is true where its parents are.
use Rattle.std.proofs.Common.{◌≡◌, ℕ, true, false, ◌||◌, ◌==◌, List, [], ◌∷◌, ◌++◌, map, Option, Some, ap, sym, ◌∙◌, ⊎_elim}
use Rattle.std.specs.Prelude.{length, flat_map, option_map, unwrap_or}
use Rattle.std.specs.List.{list_all, AllByRecursion}
use Rattle.std.proofs.lemmas.Bool.{and_parts, and_from, or_cases, or_left, or_right, or_parts, cases_Bool, true≢false}
use Rattle.std.proofs.lemmas.Option.{same_Some, option_and_then_some}
use Rattle.std.proofs.lemmas.List.{map-append}
use Rattle.std.proofs.lemmas.List.Folds.{list_any-append}
use Rattle.plain_types.specs.declared.sequence.NameLit.{NameLit}
use Rattle.plain_types.specs.Names.{opposite}
use Rattle.fol_base.specs.Tree.{Tree}
use Rattle.fol_base.specs.Clause.{TreeLiteral, TreeClause, literals_eq, clause_variables}
use Rattle.fol_base.specs.Canonical.{distinct, place_of, canonical_renaming}
use Rattle.fol_base.specs.Interpretation.{Interpretation, Assignment, literal_true_under, literals_true_under}
use Rattle.fol_base.specs.Rules.{superposed, resolved, factored, merged}
use Rattle.fol_base.proofs.AboutClauses.MeaningLemmas.{truth_of_instances}
use Rattle.fol_base.proofs.WorkedExamples.TestLemmas.{option_map-some, if_some}
use Rattle.kernel_steps.specs.Names.{sorted_names}
use Rattle.kernel_steps.specs.Parents.{Parent, Parents, all_there}
use Rattle.kernel_steps.specs.Split.{literals_at, canonical_literals, defines, are_defined}
use Rattle.kernel_steps.specs.Conclusion.{bound_literals, clause_with, by_one, by_two, names_alone, names_at, verdict, concludes}
use Rattle.kernel_steps.specs.Soundness.{NameTruth, names_true, bindings_of}
use Rattle.kernel_steps.specs.declared.step.Step.{Step}
use Rattle.kernel_steps.specs.declared.step.Step.TheVariants.{Input, Negate, Clausify, Para, Refl, Factor, Merge, Component, Opposite, Split, Chain}
use Rattle.kernel_steps.proofs.AboutCalls.VerdictParts.{by_one-parts, by_two-parts, split-parts, chain-parts, all_there-each}
use Rattle.kernel_steps.proofs.AboutNames.NameTruth.{name_true, list_any-sorted_names, chain_is_sound}
use Rattle.kernel_steps.proofs.AboutSoundness.RuleTruth.{para_is_sound, refl_is_sound, factor_is_sound, merge_is_sound}
use Rattle.kernel_steps.proofs.AboutSplits.SplitTests.{some_part-passes, literals_eq-says, list_all-none, no_items, is_split-says}
use Rattle.kernel_steps.proofs.AboutSoundness.OverValues.{Within, FailsOver, ClauseOver, KeepsOver, bound-over, EachFails, fail_together}

-- where a definition's name stands for false, its literals fail
abbrev pub DefinesOver : (ℕ → Type 0) → Interpretation → NameTruth → Parent → Type 0
DefinesOver Value i truth p =
    p.introduces ≡ true → names_true truth (map opposite p.clause.names) ≡ false → FailsOver Value i p.clause.literals

abbrev pub ParentsOver : (ℕ → Type 0) → Interpretation → NameTruth → Parents → Type 0
ParentsOver Value i truth parents =
    (n : ℕ) (p : Parent) → parents n ≡ Some p → ClauseOver Value i truth p.clause × DefinesOver Value i truth p

-- ---- rules

-- literals with names, sorted
with_names-over :
    (i : Interpretation) (truth : NameTruth) (ρ : Assignment) (names : List NameLit) (ls : List TreeLiteral) (c : TreeClause)
    → clause_with names ls ≡ c → (names_true truth names ≡ false → literals_true_under i ρ ls ≡ true)
    → (literals_true_under i ρ c.literals || names_true truth c.names) ≡ true
with_names-over i truth ρ names ls c gives literals_true =
    ap (λ (d : TreeClause). literals_true_under i ρ d.literals || names_true truth d.names) (sym gives)
    ∙ ⊎_elim
    (λ holds.
    or_right (literals_true_under i ρ ls) (names_true truth (sorted_names names)) (list_any-sorted_names (name_true truth) names ∙ holds))
    (λ fails. or_left (literals_true_under i ρ ls) (names_true truth (sorted_names names)) (literals_true fails))
    (cases_Bool (names_true truth names))

one-over :
    (Value : ℕ → Type 0) (i : Interpretation) (truth : NameTruth) (parents : Parents) (n : ℕ) (bind : List Tree)
    (rule : List TreeLiteral → Option (List TreeLiteral)) (c : TreeClause)
    → ParentsOver Value i truth parents → KeepsOver Value i bind
    → ((ρ : Assignment) (ls made : List TreeLiteral) → rule ls ≡ Some made → literals_true_under i ρ ls ≡ true → literals_true_under i ρ made ≡ true)
    → by_one (parents n) bind rule ≡ concludes c → ClauseOver Value i truth c
one-over Value i truth parents n bind rule c over keeps sound h ρ within =
    let p = by_one-parts (parents n) bind rule c h in
    with_names-over i truth ρ p.source.clause.names p.literals c p.gives λ no_name.
    sound ρ (bound_literals bind p.source.clause) p.literals p.made
    (bound-over Value i truth bind p.source.clause ρ (over n p.source p.there).0 keeps within no_name)

two-over :
    (Value : ℕ → Type 0) (i : Interpretation) (truth : NameTruth) (parents : Parents) (n m : ℕ) (first_bind second_bind : List Tree)
    (rule : List TreeLiteral → List TreeLiteral → Option (List TreeLiteral)) (c : TreeClause)
    → ParentsOver Value i truth parents → KeepsOver Value i first_bind → KeepsOver Value i second_bind
    → ((ρ : Assignment) (ls ks made : List TreeLiteral) → rule ls ks ≡ Some made → literals_true_under i ρ ls ≡ true
    → literals_true_under i ρ ks ≡ true → literals_true_under i ρ made ≡ true)
    → by_two (parents n) first_bind (parents m) second_bind rule ≡ concludes c → ClauseOver Value i truth c
two-over Value i truth parents n m first_bind second_bind rule c over keeps keeps' sound h ρ within =
    let p = by_two-parts (parents n) first_bind (parents m) second_bind rule c h in
    with_names-over i truth ρ (p.source.clause.names ++ p.target.clause.names) p.literals c p.gives λ no_name.
    let both =
    or_parts (names_true truth p.source.clause.names) (names_true truth p.target.clause.names)
    (sym (list_any-append (name_true truth) p.source.clause.names p.target.clause.names) ∙ no_name) in
    sound ρ (bound_literals first_bind p.source.clause) (bound_literals second_bind p.target.clause) p.literals p.made
    (bound-over Value i truth first_bind p.source.clause ρ (over n p.source p.first_there).0 keeps within both.0)
    (bound-over Value i truth second_bind p.target.clause ρ (over m p.target p.second_there).0 keeps' within both.1)

-- ---- splits

-- a part fails where its definition does
part-fails :
    (Value : ℕ → Type 0) (i : Interpretation) (truth : NameTruth) (p : Parent) (ls : List TreeLiteral)
    → DefinesOver Value i truth p → defines p ls ≡ true → names_true truth (map opposite p.clause.names) ≡ false → FailsOver Value i ls
part-fails Value i truth p ls over defined no_name = record {
  values = λ v. failing.values (number v);
  within = λ v. failing.within (number v);
  is_false =
      sym (truth_of_instances i failing.values (canonical_renaming whole) ls)
      ∙ ap (literals_true_under i failing.values) (literals_eq-says (canonical_literals ls) p.clause.literals tests.1)
      ∙ failing.is_false;
}
  where
    tests : (p.introduces ≡ true) × (literals_eq (canonical_literals ls) p.clause.literals ≡ true)
    tests = and_parts p.introduces (literals_eq (canonical_literals ls) p.clause.literals) defined

    failing : FailsOver Value i p.clause.literals
    failing = over tests.0 no_name

    whole : TreeClause
    whole = record { literals = ls; names = [] }

    number : ℕ → ℕ
    number v = unwrap_or (place_of v (distinct (clause_variables whole))) v

parts-fail :
    (Value : ℕ → Type 0) (i : Interpretation) (truth : NameTruth) (ps : List Parent) (lss : List (List TreeLiteral))
    → AllByRecursion (DefinesOver Value i truth) ps → are_defined (map Some ps) lss ≡ true
    → names_true truth (map opposite (flat_map (λ (d : Parent). d.clause.names) ps)) ≡ false → EachFails Value i lss
parts-fail Value i truth [] [] over defined no_name = tt
parts-fail Value i truth [] (ls ∷ lss) over defined no_name = absurd (true≢false (sym defined))
parts-fail Value i truth (p ∷ ps) [] over defined no_name = absurd (true≢false (sym defined))
parts-fail Value i truth (p ∷ ps) (ls ∷ lss) over defined no_name =
    let rest : List NameLit = flat_map (λ (d : Parent). d.clause.names) ps in
    let both = and_parts (defines p ls) (are_defined (map Some ps) lss) defined in
    let none =
    or_parts (names_true truth (map opposite p.clause.names)) (names_true truth (map opposite rest))
    (sym (list_any-append (name_true truth) (map opposite p.clause.names) (map opposite rest))
    ∙ ap (names_true truth) (sym (map-append opposite p.clause.names rest))
    ∙ no_name) in
    (part-fails Value i truth p ls over.0 both.0 none.0, parts-fail Value i truth ps lss over.1 both.1 none.1)

split-over :
    (Value : ℕ → Type 0) (i : Interpretation) (truth : NameTruth) (some : Assignment) (parents : Parents) (n : ℕ) (definitions : List ℕ)
    (parts : List (List ℕ)) (c : TreeClause)
    → Within Value some → ParentsOver Value i truth parents
    → verdict (Split n definitions parts) parents ≡ concludes c → ClauseOver Value i truth c
split-over Value i truth some parents n definitions parts c some_within over h ρ within =
    let p = split-parts (parents n) (map parents definitions) parts c h in
    let ls : List TreeLiteral = p.source.clause.literals in
    let lss : List (List TreeLiteral) = map (literals_at ls) parts in
    let opposites : List NameLit = map opposite (flat_map (λ (d : Parent). d.clause.names) p.defined) in
    let says = is_split-says ls p.defined parts p.is_one in
    with_names-over i truth ρ (p.source.clause.names ++ opposites) [] c p.gives λ no_name.
    let both =
    or_parts (names_true truth p.source.clause.names) (names_true truth opposites)
    (sym (list_any-append (name_true truth) p.source.clause.names opposites) ∙ no_name) in
    let fail =
    fail_together Value i some some_within lss says.apart
    (parts-fail Value i truth p.defined lss
    (all_there-each (DefinesOver Value i truth) parents definitions p.defined (λ k q there. (over k q there).1) p.definitions_there)
    says.defined both.1) in
    absurd
    (true≢false
    (⊎_elim
    (λ holds.
    sym (some_part-passes (literal_true_under i fail.values) ls parts says.shared_out holds)
    ∙ list_all-none (λ ks. literals_true_under i fail.values ks) lss fail.are_false)
    (λ name. sym name ∙ both.0)
    (or_cases (literals_true_under i fail.values ls) (names_true truth p.source.clause.names)
    ((over n p.source p.there).0 fail.values fail.within))))

-- ---- chains

names_at-true :
    (Value : ℕ → Type 0) (i : Interpretation) (truth : NameTruth) (parents : Parents) (ρ : Assignment) (n : ℕ) (names : List NameLit)
    → ParentsOver Value i truth parents → Within Value ρ → names_at parents n ≡ Some names → names_true truth names ≡ true
names_at-true Value i truth parents ρ n names over within h =
    option_and_then_some names_alone (parents n) names h λ p p_is alone.
    let tests = if_some (length p.clause.literals == 0) (Some p.clause.names) names alone in
    ap (names_true truth) (sym (same_Some p.clause.names names tests.1))
    ∙ ap (λ ls. literals_true_under i ρ ls || names_true truth p.clause.names) (sym (no_items p.clause.literals tests.0))
    ∙ (over n p p_is).0 ρ within

chain-true :
    (Value : ℕ → Type 0) (i : Interpretation) (truth : NameTruth) (parents : Parents) (ρ : Assignment) (numbers : List ℕ) (nss : List (List NameLit))
    → ParentsOver Value i truth parents → Within Value ρ → all_there (map (names_at parents) numbers) ≡ Some nss
    → list_all (names_true truth) nss ≡ true
chain-true Value i truth parents ρ [] nss over within h = ap (list_all (names_true truth)) (sym (same_Some [] nss h))
chain-true Value i truth parents ρ (n ∷ numbers) nss over within h =
    option_and_then_some (λ ns. option_map (λ mss. ns ∷ mss) (all_there (map (names_at parents) numbers))) (names_at parents n) nss h λ ns ns_is step.
    option_map-some (λ mss. ns ∷ mss) (all_there (map (names_at parents) numbers)) nss step λ mss mss_is gives.
    ap (list_all (names_true truth)) (sym gives)
    ∙ and_from (names_true truth ns) (list_all (names_true truth) mss) (names_at-true Value i truth parents ρ n ns over within ns_is)
    (chain-true Value i truth parents ρ numbers mss over within mss_is)

chain-over :
    (Value : ℕ → Type 0) (i : Interpretation) (truth : NameTruth) (parents : Parents) (numbers : List ℕ) (pivots : List NameLit) (c : TreeClause)
    → ParentsOver Value i truth parents → verdict (Chain numbers pivots) parents ≡ concludes c → ClauseOver Value i truth c
chain-over Value i truth parents numbers pivots c over h ρ within =
    let p = chain-parts parents numbers pivots c h in
    ap (λ (d : TreeClause). literals_true_under i ρ d.literals || names_true truth d.names) (sym p.gives)
    ∙ chain_is_sound truth p.lists pivots p.names p.made (chain-true Value i truth parents ρ numbers p.lists over within p.there)

-- ---- steps

pub verdict-over :
    (Value : ℕ → Type 0) (i : Interpretation) (truth : NameTruth) (some : Assignment) (parents : Parents) (step : Step) (c : TreeClause)
    → Within Value some → ParentsOver Value i truth parents → AllByRecursion (KeepsOver Value i) (bindings_of step)
    → verdict step parents ≡ concludes c → ClauseOver Value i truth c
verdict-over Value i truth some parents (Para n m j s k z place first second) c some_within over keeps h =
    two-over Value i truth parents n m first second (λ ls ks. superposed ls j s ks k z place) c over keeps.0 keeps.1.0
    (λ ρ ls ks made step. para_is_sound i ρ ls j s ks k z place made step) h
verdict-over Value i truth some parents (Refl n k bind) c some_within over keeps h =
    one-over Value i truth parents n bind (λ ls. resolved ls k) c over keeps.0 (λ ρ ls made step. refl_is_sound i ρ ls k made step) h
verdict-over Value i truth some parents (Factor n j s k z bind) c some_within over keeps h =
    one-over Value i truth parents n bind (λ ls. factored ls j s k z) c over keeps.0 (λ ρ ls made step. factor_is_sound i ρ ls j s k z made step) h
verdict-over Value i truth some parents (Merge n j k bind) c some_within over keeps h =
    one-over Value i truth parents n bind (λ ls. merged ls j k) c over keeps.0 (λ ρ ls made step. merge_is_sound i ρ ls j k made step) h
verdict-over Value i truth some parents (Split n definitions parts) c some_within over keeps h =
    split-over Value i truth some parents n definitions parts c some_within over h
verdict-over Value i truth some parents (Chain numbers pivots) c some_within over keeps h =
    chain-over Value i truth parents numbers pivots c over h
verdict-over Value i truth some parents (Input place) c some_within over keeps h = absurd (cc)
verdict-over Value i truth some parents (Negate place) c some_within over keeps h = absurd (cc)
verdict-over Value i truth some parents (Clausify k) c some_within over keeps h = absurd (cc)
verdict-over Value i truth some parents (Component name) c some_within over keeps h = absurd (cc)
verdict-over Value i truth some parents (Opposite name) c some_within over keeps h = absurd (cc)
