-- What changes when a demand arrives.
use Rattle.std.proofs.Common.{◌≡◌, ℕ, ◌+◌, ◌-◌, ◌<◌, ◌≤◌, ◌^◌, ◌==◌, min, Bool, true, false, List, [], ◌∷◌, ◌++◌, length, map, filter, get_or, nat_lt, if◌then◌else◌, ⊎_elim, refl, sym, ap, ap₂, subst, ◌∙◌, arith}
use Rattle.std.specs.Prelude.{bytes_eq, slice_set}
use Rattle.std.specs.List.{list_any, list_all}
use Rattle.std.proofs.lemmas.Bool.{and_parts, eq-eqb, cases_lt, cases_eq}
use Rattle.std.proofs.lemmas.Bool.Decides.{nat_tests}
use Rattle.std.proofs.lemmas.List.Sums.{sum_by-append, sum_by-cons}
use Rattle.std.proofs.lemmas.List.{map-append, get_or_append_left, get_or_past, get_or-map, get_or-set_same, get_or-set_other, length-map, length-set}
use Rattle.list_lemmas.proofs.Bools.{and-true}
use Rattle.list_lemmas.proofs.Lists.{length-pushed}
use Rattle.list_lemmas.proofs.Places.{last-item}
use Rattle.list_lemmas.proofs.Numbers.{less-says, not-same}
use Rattle.list_lemmas.proofs.Tests.{all-joined, position-past}
use Rattle.fol_base.specs.Tree.{Tree}
use Rattle.kernel_steps.specs.declared.step.Line.{Line}
use Rattle.congruence.specs.Keys.{with_key, place_of_key}
use Rattle.congruence.proofs.AboutClasses.PlaceLemmas.{all-weaker, any-from-place, none-from-place}
use Rattle.herbrand_list.specs.Demands.{Demand, same_demand, with_demand, terms_for}
use Rattle.herbrand_list.specs.GroundList.{ground_size, demanded_instance}
use Rattle.herbrand_list.specs.declared.fault.TheConstants.{MOST_WEIGHT}
use Rattle.herbrand_list.specs.Worked.{demand_key, demand_weight, weight_of, terms_at, row_at, AreListed}
use Rattle.herbrand_list.proofs.AboutListing.KeyLemmas.{key-there}

pub below-from : (m n : ℕ) → m < n → nat_lt m n ≡ true
below-from m n low = grind (arith, nat_tests)

-- the terms for a line, where a demand came last
pub terms-last :
    (n : ℕ) (demands : List Demand) (d : Demand)
    → terms_for n (demands ++ d ∷ []) ≡ (if d.line == n then terms_for n demands ++ d.terms ∷ [] else terms_for n demands)
terms-last n [] d = by (d.line == n)
  where
    by : (b : Bool) → map (λ (e : Demand). e.terms) (if b then d ∷ [] else []) ≡ (if b then d.terms ∷ [] else [])
    by true = refl
    by false = refl
terms-last n (e ∷ demands) d = by (e.line == n) (d.line == n) (terms-last n demands d)
  where
    by :
        (b c : Bool) → terms_for n (demands ++ d ∷ []) ≡ (if c then terms_for n demands ++ d.terms ∷ [] else terms_for n demands)
        → map (λ (f : Demand). f.terms) (if b then e ∷ filter (λ (f : Demand). f.line == n) (demands ++ d ∷ []) else filter (λ (f : Demand). f.line == n) (demands ++ d ∷ []))
        ≡ (if c then map (λ (f : Demand). f.terms) (if b then e ∷ filter (λ (f : Demand). f.line == n) demands else filter (λ (f : Demand). f.line == n) demands) ++ d.terms ∷ []
        else map (λ (f : Demand). f.terms) (if b then e ∷ filter (λ (f : Demand). f.line == n) demands else filter (λ (f : Demand). f.line == n) demands))
    by true true h = ap (λ ts. e.terms ∷ ts) h
    by true false h = ap (λ ts. e.terms ∷ ts) h
    by false true h = h
    by false false h = h

-- the weight with one more
pub weight-last :
    (constant : Tree) (lines : List Line) (demands : List Demand) (d : Demand)
    → weight_of constant lines (demands ++ d ∷ []) ≡ weight_of constant lines demands + demand_weight constant lines d
weight-last constant lines demands d =
    omega (
      arith,
      sum_by-append (demand_weight constant lines) demands (d ∷ []),
      sum_by-cons (demand_weight constant lines) d [],
    )

-- nothing gets lighter
pub weight-grows : (constant : Tree) (lines : List Line) (demands : List Demand) (d : Demand) → weight_of constant lines demands ≤ weight_of constant lines (with_demand demands d)
weight-grows constant lines demands d = by (list_any (same_demand d) demands)
  where
    by : (b : Bool) → weight_of constant lines demands ≤ weight_of constant lines (if b then demands else demands ++ d ∷ [])
    by true = omega arith
    by false = omega (arith, weight-last constant lines demands d)

-- ---- by the place of its key

keys-length : (demands : List Demand) (keys : List (List ℕ)) → keys ≡ map demand_key demands → length keys ≡ length demands
keys-length demands keys e = ap length e ∙ length-map demands demand_key

is-there :
    (demands : List Demand) (keys : List (List ℕ)) (d : Demand) → keys ≡ map demand_key demands
    → list_any (bytes_eq (demand_key d)) keys ≡ list_any (same_demand d) demands
is-there demands keys d e = ap (list_any (bytes_eq (demand_key d))) e ∙ key-there d demands

-- a demand that is there
pub arrives-again :
    (constant : Tree) (lines : List Line) (demands : List Demand) (keys rows new : List (List ℕ)) (weight place : ℕ) (d : Demand)
    → AreListed constant lines demands keys rows weight → place ≡ place_of_key keys (demand_key d) → new ≡ with_key keys (demand_key d)
    → place < length demands → AreListed constant lines demands new rows weight × (demands ≡ with_demand demands d)
arrives-again constant lines demands keys rows new weight place d are at is low = (
  subst (λ (ks : List (List ℕ)). AreListed constant lines demands ks rows weight)
      (sym (is ∙ ap (λ b. if b then keys else keys ++ demand_key d ∷ []) there)) are,
  sym (ap (λ b. if b then demands else demands ++ d ∷ []) (sym (is-there demands keys d are.keyed) ∙ there)),
)
  where
    there : list_any (bytes_eq (demand_key d)) keys ≡ true
    there = any-from-place (bytes_eq (demand_key d)) keys (omega (arith, at, low, keys-length demands keys are.keyed))

-- that a demand is new
pub arrives-new :
    (demands : List Demand) (keys : List (List ℕ)) (place : ℕ) (d : Demand) → keys ≡ map demand_key demands
    → place ≡ place_of_key keys (demand_key d) → length demands ≤ place
    → (list_any (bytes_eq (demand_key d)) keys ≡ false) × (place ≡ length demands) × (with_demand demands d ≡ demands ++ d ∷ [])
arrives-new demands keys place d keyed at high = (
  none,
  at ∙ position-past (bytes_eq (demand_key d)) keys none ∙ keys-length demands keys keyed,
  ap (λ b. if b then demands else demands ++ d ∷ []) (sym (is-there demands keys d keyed) ∙ none),
)
  where
    none : list_any (bytes_eq (demand_key d)) keys ≡ false
    none = none-from-place (bytes_eq (demand_key d)) keys (omega (arith, at, high, keys-length demands keys keyed))

-- the terms at places that were there
places-kept :
    (demands : List Demand) (d : Demand) (ks : List ℕ) → list_all (λ k. nat_lt k (length demands)) ks ≡ true
    → map (terms_at (demands ++ d ∷ [])) ks ≡ map (terms_at demands) ks
places-kept demands d [] h = refl
places-kept demands d (k ∷ ks) h =
    let parts = and_parts (nat_lt k (length demands)) (list_all (λ j. nat_lt j (length demands)) ks) h in
    ap₂ (λ (t : List Tree) (ts : List (List Tree)). t ∷ ts)
    (ap (λ (e : Demand). e.terms)
    (get_or_append_left demands (d ∷ []) (record { line = 0; terms = [] }) k (less-says k (length demands) parts.0)))
    (places-kept demands d ks parts.1)

below-more :
    (demands : List Demand) (d : Demand) (ks : List ℕ) → list_all (λ k. nat_lt k (length demands)) ks ≡ true
    → list_all (λ k. nat_lt k (length (demands ++ d ∷ []))) ks ≡ true
below-more demands d ks h =
    all-weaker (λ k. nat_lt k (length demands)) (λ k. nat_lt k (length (demands ++ d ∷ [])))
    (λ k low. below-from k (length (demands ++ d ∷ [])) (omega (arith, less-says k (length demands) low, length-pushed demands d))) ks h

-- a new demand comes last, and its place comes last in its line's row
pub arrives-last :
    (constant : Tree) (lines : List Line) (demands : List Demand) (keys rows new more : List (List ℕ)) (weight heavier place : ℕ) (d : Demand)
    → AreListed constant lines demands keys rows weight → place ≡ place_of_key keys (demand_key d) → new ≡ with_key keys (demand_key d)
    → length demands ≤ place → heavier ≡ weight + demand_weight constant lines d → heavier ≤ MOST_WEIGHT
    → length more ≡ length rows → ((n : ℕ) → (n ≡ d.line → ⊥) → row_at more n ≡ row_at rows n)
    → (d.line < length rows → row_at more d.line ≡ row_at rows d.line ++ place ∷ [])
    → AreListed constant lines (demands ++ d ∷ []) new more heavier × (demands ++ d ∷ [] ≡ with_demand demands d)
arrives-last constant lines demands keys rows new more weight heavier place d are at is high heavy light sized others own = (
  record {
    keyed =
        is ∙ ap (λ b. if b then keys else keys ++ demand_key d ∷ []) fresh.0 ∙ ap (λ ks. ks ++ demand_key d ∷ []) are.keyed
        ∙ sym (map-append demand_key demands (d ∷ []));
    rows_of_lines = sized ∙ are.rows_of_lines;
    within = λ n. ⊎_elim (λ e. own_within n e) (λ ne. other_within n ne) (cases_eq n d.line);
    places = λ n low. ⊎_elim (λ e. own_places n e low) (λ ne. other_places n ne low) (cases_eq n d.line);
    weighed = heavy ∙ ap (λ k. k + demand_weight constant lines d) are.weighed ∙ sym (weight-last constant lines demands d);
    light = light;
  },
  sym fresh.2,
)
  where
    fresh : (list_any (bytes_eq (demand_key d)) keys ≡ false) × (place ≡ length demands) × (with_demand demands d ≡ demands ++ d ∷ [])
    fresh = arrives-new demands keys place d are.keyed at high

    Below : List ℕ → Type 0
    Below ks = list_all (λ k. nat_lt k (length (demands ++ d ∷ []))) ks ≡ true

    other_within : (n : ℕ) → (n ≡ d.line → ⊥) → Below (row_at more n)
    other_within n ne = subst Below (sym (others n ne)) (below-more demands d (row_at rows n) (are.within n))

    last_below : nat_lt place (length (demands ++ d ∷ [])) ≡ true
    last_below = below-from place (length (demands ++ d ∷ [])) (omega (arith, fresh.1, length-pushed demands d))

    own_there : d.line < length rows → Below (row_at more d.line)
    own_there low =
        subst Below (sym (own low))
        (all-joined (λ k. nat_lt k (length (demands ++ d ∷ []))) (row_at rows d.line) (place ∷ []) (below-more demands d (row_at rows d.line) (are.within d.line))
        (and-true (nat_lt place (length (demands ++ d ∷ []))) ∙ last_below))

    own_past : length rows ≤ d.line → Below (row_at more d.line)
    own_past past = subst Below (sym (get_or_past more d.line [] (omega (arith, sized, past)))) refl

    own_within : (n : ℕ) → n ≡ d.line → Below (row_at more n)
    own_within n e = subst (λ k. Below (row_at more k)) (sym e) (⊎_elim own_there own_past (cases_lt d.line (length rows)))

    other_places : (n : ℕ) → (n ≡ d.line → ⊥) → n < length lines → map (terms_at (demands ++ d ∷ [])) (row_at more n) ≡ terms_for n (demands ++ d ∷ [])
    other_places n ne low =
        ap (map (terms_at (demands ++ d ∷ []))) (others n ne)
        ∙ places-kept demands d (row_at rows n) (are.within n)
        ∙ are.places n low
        ∙ sym (terms-last n demands d ∙ ap (λ b. if b then terms_for n demands ++ d.terms ∷ [] else terms_for n demands) (not-same d.line n (λ e. ne (sym e))))

    at_line : d.line < length lines → map (terms_at (demands ++ d ∷ [])) (row_at more d.line) ≡ terms_for d.line (demands ++ d ∷ [])
    at_line low =
        ap (map (terms_at (demands ++ d ∷ []))) (own (omega (arith, low, are.rows_of_lines)))
        ∙ map-append (terms_at (demands ++ d ∷ [])) (row_at rows d.line) (place ∷ [])
        ∙ ap₂ (λ (ts us : List (List Tree)). ts ++ us) (places-kept demands d (row_at rows d.line) (are.within d.line) ∙ are.places d.line low)
        (ap (λ (t : List Tree). t ∷ []) (ap (terms_at (demands ++ d ∷ [])) fresh.1 ∙ ap (λ (e : Demand). e.terms) (last-item demands d (record { line = 0; terms = [] }))))
        ∙ sym (terms-last d.line demands d
        ∙ ap (λ b. if b then terms_for d.line demands ++ d.terms ∷ [] else terms_for d.line demands) (eq-eqb d.line d.line refl))

    own_places : (n : ℕ) → n ≡ d.line → n < length lines → map (terms_at (demands ++ d ∷ [])) (row_at more n) ≡ terms_for n (demands ++ d ∷ [])
    own_places n e low =
        subst (λ k. map (terms_at (demands ++ d ∷ [])) (row_at more k) ≡ terms_for k (demands ++ d ∷ [])) (sym e)
        (at_line (subst (λ k. k < length lines) e low))

-- the same, where its place is added to the row of its line
pub arrives-set :
    (constant : Tree) (lines : List Line) (demands : List Demand) (keys rows new more : List (List ℕ)) (weight heavier size place : ℕ) (d : Demand)
    → AreListed constant lines demands keys rows weight → place ≡ place_of_key keys (demand_key d) → new ≡ with_key keys (demand_key d)
    → length demands ≤ place → size ≡ min (ground_size (demanded_instance constant lines d.line d.terms)) (2 ^ 64 - 1)
    → heavier ≡ weight + size + 1 → heavier ≤ MOST_WEIGHT → more ≡ slice_set rows d.line (row_at rows d.line ++ place ∷ [])
    → AreListed constant lines (demands ++ d ∷ []) new more heavier × (demands ++ d ∷ [] ≡ with_demand demands d)
arrives-set constant lines demands keys rows new more weight heavier size place d are at is high sized heavy light set =
    arrives-last constant lines demands keys rows new more weight heavier place d are at is high
    (let most : MOST_WEIGHT ≡ 10000000 = refl in omega (arith, sized, heavy, light, most))
    light
    (ap length set ∙ length-set rows d.line (row_at rows d.line ++ place ∷ []))
    (λ n ne. ap (λ rs. row_at rs n) set ∙ get_or-set_other rows d.line n (row_at rows d.line ++ place ∷ []) [] ne)
    (λ low. ap (λ rs. row_at rs d.line) set ∙ get_or-set_same rows d.line (row_at rows d.line ++ place ∷ []) [] low)

-- the terms of a line's demand, by its index among those of the line
pub terms-of-row :
    (constant : Tree) (lines : List Line) (demands : List Demand) (keys rows : List (List ℕ)) (weight n i : ℕ)
    → AreListed constant lines demands keys rows weight → n < length lines → i < length (row_at rows n)
    → get_or (terms_for n demands) i [] ≡ terms_at demands (get_or (row_at rows n) i 0)
terms-of-row constant lines demands keys rows weight n i are there low =
    ap (λ (l : List (List Tree)). get_or l i []) (sym (are.places n there)) ∙ get_or-map (terms_at demands) (row_at rows n) i 0 [] low

-- how many demands a line has
pub row-length :
    (constant : Tree) (lines : List Line) (demands : List Demand) (keys rows : List (List ℕ)) (weight n : ℕ)
    → AreListed constant lines demands keys rows weight → n < length lines → length (row_at rows n) ≡ length (terms_for n demands)
row-length constant lines demands keys rows weight n are there =
    sym (length-map (row_at rows n) (terms_at demands)) ∙ ap length (are.places n there)

-- nothing is listed
pub none-listed :
    (constant : Tree) (lines : List Line) (demands : List Demand) (keys rows : List (List ℕ)) (weight : ℕ) → demands ≡ [] → keys ≡ []
    → length rows ≡ length lines → ((n : ℕ) → row_at rows n ≡ []) → weight ≡ 0 → AreListed constant lines demands keys rows weight
none-listed constant lines demands keys rows weight e f sized empty weightless =
    subst (λ ds. AreListed constant lines ds keys rows weight) (sym e) record {
      keyed = f;
      rows_of_lines = sized;
      within = λ n. ap (list_all (λ k. nat_lt k 0)) (empty n);
      places = λ n low. ap (map (terms_at [])) (empty n);
      weighed = weightless;
      light = omega (arith, weightless);
    }
