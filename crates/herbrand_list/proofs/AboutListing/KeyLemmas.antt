-- Two demands are the same exactly where their keys are.
use Rattle.std.proofs.Common.{◌≡◌, ℕ, ◌==◌, true, List, [], ◌∷◌, map, get_or, drop, refl, sym, ap, ap₂, ◌∙◌}
use Rattle.std.proofs.lemmas.Bool.{and_parts, and_from, eqb-true, eq-eqb}
use Rattle.std.specs.Prelude.{bytes_eq}
use Rattle.std.specs.List.{list_any}
use Rattle.list_lemmas.proofs.Bools.{tests-agree}
use Rattle.list_lemmas.proofs.Lists.{bytes-self, bytes-same}
use Rattle.list_lemmas.proofs.Tests.{any-agree, any-map}
use Rattle.fol_base.specs.Tree.{Trees, trees_of, trees_eq}
use Rattle.fol_base.specs.TreeCode.{Step, State, trees_steps, after_steps, after_steps-trees_steps, joined-no_trees}
use Rattle.fol_base.proofs.AboutTerms.TreeLemmas.{trees_eq-true, trees_eq-refl}
use Rattle.herbrand_list.specs.Demands.{Demand, same_demand}
use Rattle.herbrand_list.specs.Worked.{step_numbers, demand_key}

numbers-same : (s t : List Step) → step_numbers s ≡ step_numbers t → s ≡ t
numbers-same [] [] e = refl
numbers-same [] (y ∷ t) e = cc
numbers-same (x ∷ s) [] e = cc
numbers-same (x ∷ s) (y ∷ t) e =
    let kinds : x.0 ≡ y.0 = ap (λ (l : List ℕ). get_or l 0 0) e in
    let numbers : x.1 ≡ y.1 = ap (λ (l : List ℕ). get_or l 1 0) e in
    let steps : x ≡ y = λ i. (kinds i, numbers i) in
    ap₂ (λ (a : Step) (b : List Step). a ∷ b) steps (numbers-same s t (ap (λ (l : List ℕ). drop 2 l) e))

-- the code is that of one list of trees
decoded : (ts : Trees) → (after_steps (trees_steps ts [])).0 ≡ ts
decoded ts = ap (λ (s : State). s.0) (after_steps-trees_steps ts []) ∙ joined-no_trees ts

trees-same : (ts us : Trees) → trees_steps ts [] ≡ trees_steps us [] → ts ≡ us
trees-same ts us e = sym (decoded ts) ∙ ap (λ (s : List Step). (after_steps s).0) e ∙ decoded us

pub keys-agree : (d e : Demand) → bytes_eq (demand_key d) (demand_key e) ≡ same_demand d e
keys-agree d e = tests-agree (bytes_eq (demand_key d) (demand_key e)) (same_demand d e) there back
  where
    there : bytes_eq (demand_key d) (demand_key e) ≡ true → same_demand d e ≡ true
    there h =
        let keys : demand_key d ≡ demand_key e = bytes-same (demand_key d) (demand_key e) h in
        let lines : d.line ≡ e.line = ap (λ (l : List ℕ). get_or l 0 0) keys in
        let trees : trees_of d.terms ≡ trees_of e.terms =
        trees-same (trees_of d.terms) (trees_of e.terms)
        (numbers-same (trees_steps (trees_of d.terms) []) (trees_steps (trees_of e.terms) []) (ap (λ (l : List ℕ). drop 1 l) keys)) in
        and_from (d.line == e.line) (trees_eq (trees_of d.terms) (trees_of e.terms)) (eq-eqb d.line e.line lines)
        (ap (trees_eq (trees_of d.terms)) (sym trees) ∙ trees_eq-refl (trees_of d.terms))

    back : same_demand d e ≡ true → bytes_eq (demand_key d) (demand_key e) ≡ true
    back h =
        let parts = and_parts (d.line == e.line) (trees_eq (trees_of d.terms) (trees_of e.terms)) h in
        let lines : d.line ≡ e.line = eqb-true d.line e.line parts.0 in
        let trees : trees_of d.terms ≡ trees_of e.terms = trees_eq-true (trees_of d.terms) (trees_of e.terms) parts.1 in
        let keys : demand_key d ≡ demand_key e = ap₂ (λ (n : ℕ) (ts : Trees). n ∷ step_numbers (trees_steps ts [])) lines trees in
        ap (bytes_eq (demand_key d)) (sym keys) ∙ bytes-self (demand_key d)

-- a demand's key is there exactly where the demand is
pub key-there : (d : Demand) (demands : List Demand) → list_any (bytes_eq (demand_key d)) (map demand_key demands) ≡ list_any (same_demand d) demands
key-there d demands =
    any-map (bytes_eq (demand_key d)) demand_key demands
    ∙ any-agree (λ (e : Demand). bytes_eq (demand_key d) (demand_key e)) (same_demand d) (λ e. keys-agree d e) demands
