-- Walks over the conclusion of a superposition: the parts of a term with a new one at a place, and of a literal.
use Rattle.std.proofs.Common.{◌≡◌, ℕ, ◌+◌, ◌-◌, ◌<◌, ◌≤◌, true, Option, None, Some, List, [], ◌∷◌, ◌++◌, length, map, take, drop, get_or, append-nil, refl, ap, ap₂, sym, ◌∙◌, ⊎_elim, arith}
use Rattle.std.specs.Prelude.{flat_map, option_and_then, slice_get, slice_set, remove}
use Rattle.std.specs.Option.{is_some}
use Rattle.std.proofs.lemmas.Bool.{true≢false, cases_lt}
use Rattle.std.proofs.lemmas.Grind.{flat_map-append}
use Rattle.std.proofs.lemmas.Option.{same_Some, slice_get_within}
use Rattle.fol_base.specs.Tree.{Tree, variable, application, trees_of, list_of, tree_variables}
use Rattle.fol_base.specs.Instance.{Substitution, instance, instances}
use Rattle.fol_base.specs.Place.{argument, subterm, replaced}
use Rattle.fol_base.specs.Clause.{TreeLiteral, literal_instance, literal_variables}
use Rattle.fol_base.specs.Ground.{literals_instance}
use Rattle.fol_base.specs.Numbering.{with_variables}
use Rattle.fol_base.specs.Term.{tree_of}
use Rattle.fol_base.specs.declared.term.Term.{Term}
use Rattle.fol_base.specs.Sides.{side_of, other_side_of, with_side}
use Rattle.fol_base.proofs.AboutClauses.InferenceLemmas.{literal_in_instance, side_of-instance, other_side_of-instance}
use Rattle.fol_base.proofs.AboutInstances.InstancePlaces.{list_of-instances, subterms_of_instances}
use Rattle.fol_base.proofs.ListLemmas.{set-parts, rest_after}
use Rattle.fol_base.proofs.AboutInstances.PlaceLemmas.{argument-item, argument-past, drop-number, replaced-parts}
use Rattle.fol_base.proofs.AboutClauses.RuleLemmas.{superposed-parts, superposed_literal-parts}
use Rattle.fol_base.proofs.AboutTerms.TreeLemmas.{list_of-trees_of}
use Rattle.kernel_steps.proofs.AboutCalls.LoopLemmas.{part_more}
use Rattle.eq_rules.proofs.AboutConclusions.RenumberedLemmas.{variables_between, met_onward}
use Rattle.eq_rules.proofs.AboutConclusions.StepLemmas.{exchanged-variables, others-variables}
use Rattle.superpose.specs.Concluding.{instance_variables, superposed_at}
use Rattle.eq_rules.specs.declared.concluding.LiteralSide.{LiteralSide}
use Rattle.superpose.specs.declared.sites.LiteralPlace.{LiteralPlace}
use Rattle.superpose.proofs.AboutSites.PlaceLemmas.{trees_variables-listed}

-- ---- one more item

pub items_met :
    (τ : Substitution) (items : List Term) (start i : ℕ) (x : Term) (order now new : List ℕ)
    → slice_get items i ≡ Some x → start ≤ i
    → now ≡ with_variables order (flat_map (instance_variables τ) (take (i - start) (drop start items)))
    → new ≡ with_variables now (instance_variables τ x)
    → new ≡ with_variables order (flat_map (instance_variables τ) (take (i + 1 - start) (drop start items)))
items_met τ items start i x order now new at rising before step =
    let front : List Term = take (i - start) (drop start items) in
    met_onward order now new (flat_map (instance_variables τ) front) (instance_variables τ x) before step
    ∙ ap (with_variables order)
    (ap (λ vs. flat_map (instance_variables τ) front ++ vs) (sym (append-nil (instance_variables τ x)))
    ∙ sym (flat_map-append (instance_variables τ) front (x ∷ []))
    ∙ ap (flat_map (instance_variables τ)) (sym (part_more items start i x at rising)))

-- ---- steps down a place that is there

module _ (place : List ℕ) (depth : ℕ) (host : Tree) (less : depth < length place) (there : is_some (subterm (drop depth place) host) ≡ true) where
  abbrev k : ℕ
  k = get_or place depth 0

  some_argument : is_some (option_and_then (subterm (drop (depth + 1) place)) (argument k host)) ≡ true
  some_argument = ap (λ p. is_some (subterm p host)) (sym (drop-number place depth less)) ∙ there

  pub no_variable_there : (v : ℕ) → host ≡ variable v → ⊥
  no_variable_there v is =
      true≢false
      (sym some_argument ∙ ap (λ t. is_some (option_and_then (subterm (drop (depth + 1) place)) (argument k t))) is)

  module _ (f : ℕ) (ts : List Tree) (items : List Term) (is : host ≡ application f (trees_of ts)) (read : map tree_of items ≡ ts) where
    pub item_there : get_or place depth 0 < length items
    item_there =
        ⊎_elim
        (λ less. less)
        (λ past.
        absurd (true≢false
        (sym some_argument
        ∙ ap (λ t. is_some (option_and_then (subterm (drop (depth + 1) place)) (argument k t))) is
        ∙ ap (λ o. is_some (option_and_then (subterm (drop (depth + 1) place)) o)) (argument-past items ts f k read past))))
        (cases_lt k (length items))

    pub next_there : (x : Term) → x ≡ get_or items (get_or place depth 0) x → is_some (subterm (drop (depth + 1) place) (tree_of x)) ≡ true
    next_there x x_is =
        sym (ap (λ o. is_some (option_and_then (subterm (drop (depth + 1) place)) o))
        (ap (argument k) is ∙ argument-item items ts f k x read item_there x_is))
        ∙ some_argument

-- ---- the variables of a term with an argument exchanged

mapped : (τ : Substitution) (items : List Term) → flat_map tree_variables (map (λ x. instance τ (tree_of x)) items) ≡ flat_map (instance_variables τ) items
mapped τ [] = refl
mapped τ (x ∷ items) = ap (λ vs. instance_variables τ x ++ vs) (mapped τ items)

map-map : (τ : Substitution) (items : List Term) → map (instance τ) (map tree_of items) ≡ map (λ x. instance τ (tree_of x)) items
map-map τ [] = refl
map-map τ (x ∷ items) = ap (λ ts. instance τ (tree_of x) ∷ ts) (map-map τ items)

set_variables :
    (τ : Substitution) (items : List Term) (k : ℕ) (b : Tree) → k < length items
    → flat_map tree_variables (slice_set (map (instance τ) (map tree_of items)) k b)
    ≡ flat_map (instance_variables τ) (take k items) ++ tree_variables b ++ flat_map (instance_variables τ) (drop (k + 1) items)
set_variables τ items k b less =
    let inst : Term → Tree = λ x. instance τ (tree_of x) in
    ap (λ ts. flat_map tree_variables (slice_set ts k b)) (map-map τ items)
    ∙ ap (flat_map tree_variables) (set-parts inst items k b less)
    ∙ flat_map-append tree_variables (map inst (take k items) ++ b ∷ []) (map inst (drop (k + 1) items))
    ∙ ap₂ ◌++◌
    (flat_map-append tree_variables (map inst (take k items)) (b ∷ [])
    ∙ ap₂ ◌++◌ (mapped τ (take k items)) (append-nil (tree_variables b)))
    (mapped τ (drop (k + 1) items))

-- the argument of an instance
argument_under : (τ : Substitution) (k : ℕ) (t a : Tree) → argument k t ≡ Some a → argument k (instance τ t) ≡ Some (instance τ a)
argument_under τ k t a there =
    sym (single k (instance τ t)) ∙ subterms_of_instances τ (k ∷ []) t a (single k t ∙ there)
  where
    kept : (o : Option Tree) → option_and_then (subterm []) o ≡ o
    kept None = refl
    kept (Some u) = refl

    single : (j : ℕ) (u : Tree) → subterm (j ∷ []) u ≡ argument j u
    single j u = kept (argument j u)

-- what is made of a replacement below the head
pub record Replaced (τ : Substitution) (new : Tree) (place : List ℕ) (depth : ℕ) (items : List Term) (x : Term) (made : Tree) : Type 0 where
  pub inner : Tree
  pub inner_made : replaced (drop (depth + 1) place) new (instance τ (tree_of x)) ≡ Some inner
  pub variables :
      tree_variables made
      ≡ flat_map (instance_variables τ) (take (get_or place depth 0) items) ++ tree_variables inner
      ++ flat_map (instance_variables τ) (drop (get_or place depth 0 + 1) items)

pub replaced_below :
    (τ : Substitution) (new : Tree) (place : List ℕ) (depth : ℕ) (host : Tree) (f : ℕ) (ts : List Tree) (items : List Term) (x : Term) (made : Tree)
    → depth < length place → host ≡ application f (trees_of ts) → map tree_of items ≡ ts
    → get_or place depth 0 < length items → x ≡ get_or items (get_or place depth 0) x
    → replaced (drop depth place) new (instance τ host) ≡ Some made → Replaced τ new place depth items x made
replaced_below τ new place depth host f ts items x made less is read here x_is put =
    let k : ℕ = get_or place depth 0 in
    let step : replaced (k ∷ drop (depth + 1) place) new (instance τ (application f (trees_of ts))) ≡ Some made =
    ap₂ (λ p t. replaced p new (instance τ t)) (sym (drop-number place depth less)) (sym is) ∙ put in
    replaced-parts k (drop (depth + 1) place) new (instance τ (application f (trees_of ts))) made step λ a b a_is b_is gives.
    let a_same : a ≡ instance τ (tree_of x) =
    same_Some a (instance τ (tree_of x))
    (sym a_is ∙ argument_under τ k (application f (trees_of ts)) (tree_of x) (argument-item items ts f k x read here x_is)) in
    record {
      inner = b;
      inner_made = ap (replaced (drop (depth + 1) place) new) (sym a_same) ∙ b_is;
      variables =
          ap tree_variables (sym gives)
          ∙ trees_variables-listed (slice_set (list_of (instances τ (trees_of ts))) k b)
          ∙ ap (λ us. flat_map tree_variables (slice_set us k b))
          (list_of-instances τ (trees_of ts) ∙ ap (map (instance τ)) (list_of-trees_of ts ∙ sym read))
          ∙ set_variables τ items k b here;
    }

-- the numbers after the three parts of a walk
pub three_parts :
    (τ : Substitution) (items : List Term) (k : ℕ) (order first second last inner whole : List ℕ)
    → first ≡ with_variables order (flat_map (instance_variables τ) (take (k - 0) (drop 0 items)))
    → second ≡ with_variables first inner
    → last ≡ with_variables second (flat_map (instance_variables τ) (take (length items - (k + 1)) (drop (k + 1) items)))
    → whole ≡ flat_map (instance_variables τ) (take k items) ++ inner ++ flat_map (instance_variables τ) (drop (k + 1) items)
    → last ≡ with_variables order whole
three_parts τ items k order first second last inner whole first_met second_met last_met is =
    let front : List ℕ = flat_map (instance_variables τ) (take k items) in
    let rest : List ℕ = flat_map (instance_variables τ) (drop (k + 1) items) in
    let all : k - 0 ≡ k = omega arith in
    let first_is : first ≡ with_variables order front = first_met ∙ ap (λ n. with_variables order (flat_map (instance_variables τ) (take n items))) all in
    let last_is : last ≡ with_variables second rest =
    last_met ∙ ap (λ us. with_variables second (flat_map (instance_variables τ) us)) (rest_after items k) in
    let both : second ≡ with_variables order (front ++ inner) = met_onward order first second front inner first_is second_met in
    met_onward order second last (front ++ inner) rest both last_is
    ∙ ap (with_variables order) (sym is)

-- ---- the literals of a conclusion

-- the numbers after the five parts of the walk
pub superposed_met :
    (σ τ : Substitution) (ls ks : List TreeLiteral) (s : LiteralSide) (t : LiteralPlace) (l m : TreeLiteral) (new : Tree)
    (first_count second_count : ℕ) (none front target rest others last : List ℕ)
    → slice_get ls s.literal ≡ Some l → slice_get ks t.at.literal ≡ Some m → new ≡ other_side_of s.side l
    → first_count ≡ length ls → second_count ≡ length ks
    → front ≡ with_variables none (variables_between τ ks 0 t.at.literal)
    → ((side : Tree) → replaced t.place (instance σ new) (instance τ (side_of t.at.side m)) ≡ Some side
    → target ≡ with_variables front (literal_variables (with_side t.at.side side (literal_instance τ m))))
    → rest ≡ with_variables target (variables_between τ ks (t.at.literal + 1) second_count)
    → others ≡ with_variables rest (variables_between σ ls 0 s.literal)
    → last ≡ with_variables others (variables_between σ ls (s.literal + 1) first_count)
    → (plain : List TreeLiteral) → superposed_at s t (literals_instance σ ls) (literals_instance τ ks) ≡ Some plain
    → last ≡ with_variables none (flat_map literal_variables plain)
superposed_met σ τ ls ks s t l m new first_count second_count none front target rest others last l_there m_there new_is first_many second_many
    front_met target_met rest_met others_met last_met plain given =
    let i : ℕ = s.literal in
    let j : ℕ = t.at.literal in
    let parts = superposed-parts (literals_instance σ ls) i s.side (literals_instance τ ks) j t.at.side t.place plain given in
    let made = superposed_literal-parts parts.from s.side parts.into t.at.side t.place parts.literal parts.literal_made in
    let from_is : parts.from ≡ literal_instance σ l =
    same_Some parts.from (literal_instance σ l) (sym parts.from_there ∙ literal_in_instance σ ls i l l_there) in
    let into_is : parts.into ≡ literal_instance τ m =
    same_Some parts.into (literal_instance τ m) (sym parts.into_there ∙ literal_in_instance τ ks j m m_there) in
    let put : replaced t.place (instance σ new) (instance τ (side_of t.at.side m)) ≡ Some made.new =
    ap₂ (replaced t.place)
    (ap (instance σ) new_is ∙ sym (other_side_of-instance σ s.side l) ∙ ap (other_side_of s.side) (sym from_is))
    (sym (side_of-instance τ t.at.side m) ∙ ap (side_of t.at.side) (sym into_is))
    ∙ made.new_made in
    let literal_is : with_side t.at.side made.new (literal_instance τ m) ≡ parts.literal =
    ap (with_side t.at.side made.new) (sym into_is) ∙ made.gives in
    let a : List ℕ = variables_between τ ks 0 j in
    let b : List ℕ = literal_variables parts.literal in
    let e : List ℕ = variables_between τ ks (j + 1) second_count in
    let f : List ℕ = variables_between σ ls 0 i in
    let g : List ℕ = variables_between σ ls (i + 1) first_count in
    let target_is : target ≡ with_variables front b =
    target_met made.new put ∙ ap (λ (k : TreeLiteral). with_variables front (literal_variables k)) literal_is in
    let two : target ≡ with_variables none (a ++ b) = met_onward none front target a b front_met target_is in
    let three : rest ≡ with_variables none ((a ++ b) ++ e) = met_onward none target rest (a ++ b) e two rest_met in
    let four : last ≡ with_variables rest (f ++ g) = met_onward rest others last f g others_met last_met in
    met_onward none rest last ((a ++ b) ++ e) (f ++ g) three four
    ∙ ap (with_variables none)
    (ap₂ ◌++◌
    (exchanged-variables τ ks j second_count parts.literal (slice_get_within ks j m m_there) second_many)
    (others-variables σ ls i first_count (slice_get_within ls i l l_there) first_many)
    ∙ sym (flat_map-append literal_variables (slice_set (literals_instance τ ks) j parts.literal) (remove (literals_instance σ ls) i))
    ∙ ap (flat_map literal_variables) parts.gives)
