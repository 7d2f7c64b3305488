-- Products of lists of clauses, and naming: a name is true where all clauses of its list are, whatever values the variables have that
-- aren't its arguments.
use Rattle.std.proofs.Common.{◌≡◌, ℕ, ◌+◌, ◌<◌, ◌≤◌, ◌==◌, nat_lt, Bool, true, false, not, ◌&&◌, ◌||◌, List, [], ◌∷◌, ◌++◌, length, length-append, map, flat_map, filter, if◌then◌else◌, ◌⊎◌, inl, inr, ⊎_elim, refl, ap, ap₂, sym, ◌∙◌, subst, arith}
use Rattle.std.proofs.lemmas.Bool.{and_from, or_left, or_right, cond_both, cond-true, not-false, ltb-true, lt-ltb}
use Rattle.fol_base.specs.Tree.{Tree, variable, trees_of, true_tree}
use Rattle.fol_base.specs.Clause.{literal_variables}
use Rattle.fol_base.specs.Interpretation.{Interpretation, Assignment, sides_true}
use Rattle.signature.specs.Clausal.{SymbolNumbers, Made, Worked, Literals, made_in_order, applied, all_pairs, is_large, atom_literal, named, product}
use Rattle.laws_meaning.proofs.AboutStructures.ListLemmas.{is_listed, each-weaker, each-unfiltered, listed-itself, unlisted-filtered}
use Rattle.laws_meaning.proofs.AboutStructures.Structures.{Structure, Same, value, values, literal_holds, all_hold, all_hold-same, applied-values, all_hold-joined, all_hold-headed, all_hold-pairs}
use Rattle.laws_meaning.proofs.AboutStructures.Search.{HasSize, all_values, all_values-reach, all_values-pass, assigned, assigned-within, assigned-in_order}
use Rattle.laws_meaning.proofs.AboutWork.Extending.{IsOld, Agree, Grows, grows-itself, agree-itself, agree-before, with_symbol, symbol-itself, symbol-other, KeptClauses, clauses-later, Ready, Outcome, Local}

-- `$true` has the value 1
pub truth-value :
    (n : SymbolNumbers) (i : Interpretation) (m : Made) (s : Structure) (ρ : Assignment)
    → 1 ≤ n.first_skolem → Ready n i m s → value s ρ true_tree ≡ 1
truth-value n i m s ρ first r = ap (λ (f : List ℕ → ℕ). f []) (r.base 0 first)

-- ---- whether all clauses of a list are true, whatever values the later variables have

abbrev pub occurring_in : List Literals → List ℕ
occurring_in cs = flat_map (λ c. flat_map literal_variables c) cs

module _ (size began : ℕ) (s : Structure) (cs : List Literals) where
  abbrev is_late : ℕ → Bool
  is_late v = not (nat_lt v began)

  abbrev name_arguments : List ℕ
  name_arguments = made_in_order began (occurring_in cs)

  abbrev are_decided : List ℕ → Bool
  are_decided vs = all_values size (filter is_late (occurring_in cs)) (λ τ. all_hold s τ cs) (assigned name_arguments vs)

  decided-hold : (ρ : Assignment) → HasSize size ρ → are_decided (map ρ name_arguments) ≡ true → all_hold s ρ cs ≡ true
  decided-hold ρ has h =
      let start : Assignment = assigned name_arguments (map ρ name_arguments) in
      let late : List ℕ = filter is_late (occurring_in cs) in
      let r = all_values-reach size late (λ τ. all_hold s τ cs) start ρ has h in
      let same : Same r.reached ρ (occurring_in cs) =
      each-unfiltered (λ v. v < began → start v ≡ ρ v) (λ v. r.reached v ≡ ρ v) is_late
      (λ v early k. r.kept v (k (ltb-true v began (not-false (nat_lt v began) early)))) (occurring_in cs)
      (assigned-in_order began (occurring_in cs) ρ)
      (each-weaker (λ v. is_listed late v ≡ true) (λ v. r.reached v ≡ ρ v) (λ v l. r.listed v l) late (listed-itself late)) in
      sym (all_hold-same s r.reached ρ cs same) ∙ r.passes

  hold-decided :
      (Means : Assignment → Type 0) → 0 < size → Local began Means
      → ((ρ : Assignment) → HasSize size ρ → Means ρ → all_hold s ρ cs ≡ true)
      → (ρ : Assignment) → HasSize size ρ → Means ρ → are_decided (map ρ name_arguments) ≡ true
  hold-decided Means some near h ρ has means =
      let start : Assignment = assigned name_arguments (map ρ name_arguments) in
      let late : List ℕ = filter is_late (occurring_in cs) in
      all_values-pass size late (λ τ. all_hold s τ cs) start (assigned-within size name_arguments ρ some has)
      (λ τ has_τ kept.
      let mixed : Assignment = λ u. if nat_lt u began then ρ u else τ u in
      let has_mixed : HasSize size mixed = λ u. cond_both (nat_lt u began) (ρ u) (τ u) (λ w. w < size) (λ e. has u) (λ e. has_τ u) in
      let moved : Means mixed = near.moves ρ mixed (λ v l. sym (cond-true (nat_lt v began) (ρ v) (τ v) (lt-ltb v began l))) means in
      let same : Same τ mixed (occurring_in cs) =
      each-weaker (λ v. v < began → start v ≡ ρ v) (λ v. τ v ≡ mixed v)
      (λ v k. at τ v (nat_lt v began) refl (λ e. kept v (unlisted-filtered is_late (occurring_in cs) v (ap not e)) ∙ k (ltb-true v began e)))
      (occurring_in cs) (assigned-in_order began (occurring_in cs) ρ) in
      all_hold-same s τ mixed cs same ∙ h mixed has_mixed moved)
    where
      at : (τ : Assignment) (v : ℕ) (b : Bool) → nat_lt v began ≡ b → (nat_lt v began ≡ true → τ v ≡ ρ v) → τ v ≡ (if b then ρ v else τ v)
      at τ v true e k = k e
      at τ v false e k = refl

-- ---- one naming symbol more

-- the name of a list
abbrev pub named_tree : SymbolNumbers → ℕ → List Literals → Made → Tree
named_tree n began cs m = applied (n.first_naming + length m.naming_arities) (made_in_order began (occurring_in cs))

longer : {X : Type 0} (xs : List X) (x : X) → length (xs ++ x ∷ []) ≡ length xs + 1
longer xs x = length-append xs (x ∷ [])

module _ (n : SymbolNumbers) (i : Interpretation) (began : ℕ) (cs : List Literals) (m : Made) (s : Structure) where
  abbrev later_made : Made
  later_made = (named n began cs m).made

  abbrev name_number : ℕ
  name_number = n.first_naming + length m.naming_arities

  abbrev the_name : Tree
  the_name = applied name_number (made_in_order began (occurring_in cs))

  abbrev name_value : List ℕ → ℕ
  name_value vs = if are_decided i.size began s cs vs then 1 else 0

  abbrev extended : Structure
  extended = with_symbol s name_number name_value

  name-grows : Grows m later_made
  name-grows =
      record {
        variables = omega arith;
        skolem = omega arith;
        naming = omega (arith, longer m.naming_arities (length (made_in_order began (occurring_in cs))));
      }

  name-agrees : Ready n i m s → Agree n m s extended
  name-agrees r = record { at = λ g old. sym (symbol-other s name_number name_value g (new g old r.fits)) }
    where
      new :
          (g : ℕ) → IsOld n m g → n.first_skolem + length m.skolem_arities ≤ n.first_naming
          → g ≡ n.first_naming + length m.naming_arities → ⊥
      new g (inl l) f e = omega (arith, l, e, f)
      new g (inr l) f e = omega (arith, l.1, e)

  name-literal :
      (u v : Structure) (sign : Bool) (ρ : Assignment) → 1 ≤ n.first_skolem → Agree n later_made u v
      → literal_holds u ρ (atom_literal sign the_name) ≡ literal_holds v ρ (atom_literal sign the_name)
  name-literal u v sign ρ first a =
      ap₂ (sides_true sign)
      (ap (λ (f : List ℕ → ℕ). f (values u ρ (trees_of (map variable arguments)))) (a.at name_number (inr (omega arith, new)))
      ∙ ap (v name_number) (applied-values u ρ arguments ∙ sym (applied-values v ρ arguments)))
      (ap (λ (f : List ℕ → ℕ). f []) (a.at 0 (inl (omega (arith, first)))))
    where
      arguments : List ℕ
      arguments = made_in_order began (occurring_in cs)

      new : n.first_naming + length m.naming_arities < n.first_naming + length (m.naming_arities ++ length (made_in_order began (occurring_in cs)) ∷ [])
      new = omega (arith, longer m.naming_arities (length (made_in_order began (occurring_in cs))))

  name-is : (ρ : Assignment) (b : Bool) → are_decided i.size began s cs (map ρ (name_arguments i.size began s cs)) ≡ b → value extended ρ the_name ≡ (if b then 1 else 0)
  name-is ρ b e =
      ap (λ (f : List ℕ → ℕ). f (values extended ρ (trees_of (map variable arguments)))) (symbol-itself s name_number name_value)
      ∙ ap name_value (applied-values extended ρ arguments) ∙ ap (λ (c : Bool). if c then 1 else 0) e
    where
      arguments : List ℕ
      arguments = made_in_order began (occurring_in cs)

  extended-truth : (ρ : Assignment) → 1 ≤ n.first_skolem → Ready n i m s → value extended ρ true_tree ≡ 1
  extended-truth ρ first r =
      ap (λ (f : List ℕ → ℕ). f []) (sym ((name-agrees r).at 0 (inl (omega (arith, first))))) ∙ truth-value n i m s ρ first r

  defining-hold :
      (ρ : Assignment) → 1 ≤ n.first_skolem → Ready n i m s → KeptClauses n m cs → HasSize i.size ρ
      → all_hold extended ρ (map (λ c. atom_literal false the_name ∷ c) cs) ≡ true
  defining-hold ρ first r k has = all_hold-headed extended ρ (atom_literal false the_name) cs ∙ by (are_decided i.size began s cs (map ρ (name_arguments i.size began s cs))) refl
    where
      by :
          (b : Bool) → are_decided i.size began s cs (map ρ (name_arguments i.size began s cs)) ≡ b
          → (literal_holds extended ρ (atom_literal false the_name) || all_hold extended ρ cs) ≡ true
      by true e =
          or_right (literal_holds extended ρ (atom_literal false the_name)) (all_hold extended ρ cs)
          (sym (k.kept s extended (name-agrees r) ρ) ∙ decided-hold i.size began s cs ρ has e)
      by false e =
          or_left (literal_holds extended ρ (atom_literal false the_name)) (all_hold extended ρ cs)
          (ap₂ (sides_true false) (name-is ρ false e) (extended-truth ρ first r))

  name-ready : 1 ≤ n.first_skolem → Ready n i m s → KeptClauses n m cs → Ready n i later_made extended
  name-ready first r k =
      record {
        base = λ g l. symbol-other s name_number name_value g (λ e. low g l r.fits e) ∙ r.base g l;
        skolem = λ g l h vs. subst (λ (f : List ℕ → ℕ). f vs < i.size) (sym (symbol-other s name_number name_value g (λ e. between g h e))) (r.skolem g l h vs);
        naming = λ g l vs. at g l vs (g == name_number);
        fits = r.fits;
        defining = λ ρ has.
            all_hold-joined extended ρ m.defining (map (λ c. atom_literal false the_name ∷ c) cs)
            ∙ and_from (all_hold extended ρ m.defining) (all_hold extended ρ (map (λ c. atom_literal false the_name ∷ c) cs))
            (sym (r.kept.kept s extended (name-agrees r) ρ) ∙ r.defining ρ has) (defining-hold ρ first r k has);
        kept =
            record {
              kept = λ u v a ρ.
                  all_hold-joined u ρ m.defining (map (λ c. atom_literal false the_name ∷ c) cs)
                  ∙ ap₂ ◌&&◌ (r.kept.kept u v (agree-before n m later_made u v name-grows a) ρ)
                  (all_hold-headed u ρ (atom_literal false the_name) cs
                  ∙ ap₂ ◌||◌ (name-literal u v false ρ first a) (k.kept u v (agree-before n m later_made u v name-grows a) ρ)
                  ∙ sym (all_hold-headed v ρ (atom_literal false the_name) cs))
                  ∙ sym (all_hold-joined v ρ m.defining (map (λ c. atom_literal false the_name ∷ c) cs));
            };
      }
    where
      low : (g : ℕ) → g < n.first_skolem → n.first_skolem + length m.skolem_arities ≤ n.first_naming → g ≡ n.first_naming + length m.naming_arities → ⊥
      low g l f e = omega (arith, l, e, f)

      between : (g : ℕ) → g < n.first_naming → g ≡ n.first_naming + length m.naming_arities → ⊥
      between g l e = omega (arith, l, e)

      bit : (b : Bool) → (if b then 1 else 0) < 2
      bit true = omega arith
      bit false = omega arith

      at : (g : ℕ) → n.first_naming ≤ g → (vs : List ℕ) (b : Bool) → (if b then name_value else s g) vs < 2
      at g l vs true = bit (are_decided i.size began s cs vs)
      at g l vs false = r.naming g l vs

  pub named-outcome :
      (Means : Assignment → Type 0) → 1 ≤ i.size → 1 ≤ n.first_skolem → Ready n i m s → KeptClauses n m cs → Local began Means
      → ((ρ : Assignment) → HasSize i.size ρ → Means ρ → all_hold s ρ cs ≡ true)
      → Outcome n i m s Means 0 (named n began cs m)
  named-outcome Means some first r k near h =
      record {
        structure = extended;
        agree = name-agrees r;
        ready = name-ready first r k;
        grows = name-grows;
        counted = omega arith;
        kept = record { kept = λ u v a ρ. ap (λ b. (b || false) && true) (name-literal u v true ρ first a) };
        holds = λ ρ has means.
            ap₂ (λ v w. (sides_true true v w || false) && true)
            (name-is ρ true (hold-decided i.size began s cs Means some near h ρ has means)) (extended-truth ρ first r);
      }

-- ---- products

abbrev pub product_by : SymbolNumbers → ℕ → List Literals → List Literals → Made → Bool → Bool → Worked
product_by n began first second m t u =
    if not t then record { clauses = all_pairs first second; made = m }
    else if u then (let w : Worked = named n began second m in record { clauses = all_pairs first w.clauses; made = w.made })
    else (let w : Worked = named n began first m in record { clauses = all_pairs w.clauses second; made = w.made })

pairs-kept :
    (n : SymbolNumbers) (m : Made) (cs ds : List Literals) → KeptClauses n m cs → KeptClauses n m ds → KeptClauses n m (all_pairs cs ds)
pairs-kept n m cs ds h k =
    record {
      kept = λ s u a ρ.
          all_hold-pairs s ρ cs ds ∙ ap₂ ◌||◌ (h.kept s u a ρ) (k.kept s u a ρ) ∙ sym (all_hold-pairs u ρ cs ds);
    }

pairs-hold :
    (s : Structure) (ρ : Assignment) (cs ds : List Literals) → (all_hold s ρ cs ≡ true) ⊎ (all_hold s ρ ds ≡ true)
    → all_hold s ρ (all_pairs cs ds) ≡ true
pairs-hold s ρ cs ds (inl h) = all_hold-pairs s ρ cs ds ∙ or_left (all_hold s ρ cs) (all_hold s ρ ds) h
pairs-hold s ρ cs ds (inr h) = all_hold-pairs s ρ cs ds ∙ or_right (all_hold s ρ cs) (all_hold s ρ ds) h

pub product-outcome :
    (n : SymbolNumbers) (i : Interpretation) (began : ℕ) (cs ds : List Literals) (m : Made) (s : Structure) (First Second : Assignment → Type 0)
    → 1 ≤ i.size → 1 ≤ n.first_skolem → Ready n i m s → KeptClauses n m cs → KeptClauses n m ds → Local began First → Local began Second
    → ((ρ : Assignment) → HasSize i.size ρ → First ρ → all_hold s ρ cs ≡ true)
    → ((ρ : Assignment) → HasSize i.size ρ → Second ρ → all_hold s ρ ds ≡ true)
    → Outcome n i m s (λ ρ. First ρ ⊎ Second ρ) 0 (product n began cs ds m)
product-outcome n i began cs ds m s First Second some first r k l near close f g = by (is_large cs ds) (nat_lt (length cs) (length ds))
  where
    by : (t u : Bool) → Outcome n i m s (λ ρ. First ρ ⊎ Second ρ) 0 (product_by n began cs ds m t u)
    by false u =
        record {
          structure = s;
          agree = agree-itself n m s;
          ready = r;
          grows = grows-itself m;
          counted = omega arith;
          kept = pairs-kept n m cs ds k l;
          holds = λ ρ has means. pairs-hold s ρ cs ds (⊎_elim (λ x. inl (f ρ has x)) (λ y. inr (g ρ has y)) means);
        }
    by true true =
        let o = named-outcome n i began ds m s Second some first r l close g in
        record {
          structure = o.structure;
          agree = o.agree;
          ready = o.ready;
          grows = o.grows;
          counted = o.counted;
          kept = pairs-kept n (named n began ds m).made cs (named n began ds m).clauses (clauses-later n m (named n began ds m).made cs o.grows k) o.kept;
          holds = λ ρ has means.
              pairs-hold o.structure ρ cs (named n began ds m).clauses
              (⊎_elim (λ x. inl (sym (k.kept s o.structure o.agree ρ) ∙ f ρ has x)) (λ y. inr (o.holds ρ has y)) means);
        }
    by true false =
        let o = named-outcome n i began cs m s First some first r k near f in
        record {
          structure = o.structure;
          agree = o.agree;
          ready = o.ready;
          grows = o.grows;
          counted = o.counted;
          kept = pairs-kept n (named n began cs m).made (named n began cs m).clauses ds o.kept (clauses-later n m (named n began cs m).made ds o.grows l);
          holds = λ ρ has means.
              pairs-hold o.structure ρ (named n began cs m).clauses ds
              (⊎_elim (λ x. inl (o.holds ρ has x)) (λ y. inr (sym (l.kept s o.structure o.agree ρ) ∙ g ρ has y)) means);
        }
