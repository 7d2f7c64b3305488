-- A part that is met for the first time: what is kept of its signed name and of the lines that introduce it.
use Rattle.std.proofs.Common.{◌≡◌, ℕ, zero, suc, ◌+◌, ◌<◌, ◌≤◌, Bool, true, false, not, ◌||◌, ◌==◌, List, [], ◌∷◌, ◌++◌, map, length, get_or, refl, ap, ap₂, sym, ◌∙◌, subst, ⊎_elim, arith, append_assoc, append-nil}
use Rattle.std.specs.Prelude.{cond, if◌then◌else◌, slice_index_or, All}
use Rattle.std.specs.List.{list_any, position_or_len, range_with_len}
use Rattle.std.proofs.lemmas.Bool.{true≢false, cases_Bool, cond-true, cond-false, eq-eqb, ne_eqb, or_left, or_right, or_cases}
use Rattle.std.proofs.lemmas.List.{length-append, length-map, map-append}
use Rattle.std.proofs.lemmas.List.Elements.{All-nil, All-cons, All-head, All-tail, All-push, All-weaker}
use Rattle.std.proofs.lemmas.List.Folds.{list_any-append}
use Rattle.plain_types.specs.declared.sequence.NameLit.{NameLit}
use Rattle.plain_types.specs.Names.{positive_of, negative_of, same_name}
use Rattle.plain_types.proofs.NameLemmas.{same_name-refl, same_name-true}
use Rattle.fol_base.specs.Clause.{TreeLiteral, literals_eq}
use Rattle.kernel_steps.specs.FromTrees.{line_of}
use Rattle.kernel_steps.specs.Derivation.{under_names}
use Rattle.kernel_steps.specs.declared.step.Step.{Step}
use Rattle.kernel_steps.specs.declared.step.Step.TheVariants.{Component, Opposite}
use Rattle.kernel_steps.specs.declared.step.Line.{Line}
use Rattle.split_parts.specs.PartKeys.{literals_eq-refl}
use Rattle.split_parts.specs.SignedNames.{affirmed, named, signed_name}
use Rattle.split_parts.specs.Tags.{has_part, with_part, tag_of}
use Rattle.split_parts.proofs.AboutTags.SignedLawLemmas.{signed_names_stay, signed_names_tell_parts}
use Rattle.split_parts.proofs.AboutTags.SignedLemmas.{named-end, named-there, next-name, tag-below}
use Rattle.split_parts.proofs.AboutTags.TagLawLemmas.{met-there}
use Rattle.split_parts.proofs.AboutTags.TagLemmas.{tag-new}
use Rattle.pool_history.specs.Tags.{name_count}
use Rattle.pool_history.specs.Record.{PoolRecord, PropositionalClause}
use Rattle.pool_history.specs.Lines.{introduces, definition_of}
use Rattle.pool_history.specs.Registering.{definitions, with_tag}
use Rattle.pool_history.proofs.AboutLines.NameTableLemmas.{at-tag, of-component, of-opposite}
use Rattle.pool_core.specs.Splits.{SplitView, AreSplitsOf, AreStepsAndSplitsOf, IsNameOf, component_lines, definition_lines, is_introduced}
use Rattle.pool_core.proofs.AboutSplits.SplitsLemmas.{place-stays}

-- ---- places

-- what isn't there is found after it
place-after : {X : Type 0} (p : X → Bool) (xs ys : List X) → list_any p xs ≡ false → position_or_len p (xs ++ ys) ≡ length xs + position_or_len p ys
place-after p [] ys none = let e : position_or_len p ys ≡ 0 + position_or_len p ys = omega arith in e
place-after p (x ∷ xs) ys none =
    by (p x) none (place-after p xs ys)
  where
    by :
        (b : Bool) → (b || list_any p xs) ≡ false → (list_any p xs ≡ false → position_or_len p (xs ++ ys) ≡ length xs + position_or_len p ys)
        → cond (not b) (1 + position_or_len p (xs ++ ys)) 0 ≡ suc (length xs) + position_or_len p ys
    by true none rest = absurd (true≢false none)
    by false none rest = let e = rest none in omega (arith, e)

-- ---- parts that are there

there-all : (cs : List (List TreeLiteral)) → All (λ q. has_part q cs ≡ true) cs
there-all [] = All-nil (λ q. has_part q [] ≡ true)
there-all (c ∷ cs) =
    All-cons (λ q. has_part q (c ∷ cs) ≡ true) c cs (or_left (literals_eq c c) (has_part c cs) (literals_eq-refl c))
    (All-weaker (λ q. has_part q cs ≡ true) (λ q. has_part q (c ∷ cs) ≡ true) (λ q h. or_right (literals_eq q c) (has_part q cs) h) cs (there-all cs))

range-more : (from n : ℕ) → range_with_len from (n + 1) ≡ range_with_len from n ++ (from + n) ∷ []
range-more from zero = ap (λ k. k ∷ []) (let e : from ≡ from + 0 = omega arith in e)
range-more from (suc n) =
    ap (range_with_len from) (let e : suc n + 1 ≡ suc (n + 1) = omega arith in e)
    ∙ ap (λ ks. from ∷ ks) (range-more (from + 1) n ∙ ap (λ k. range_with_len (from + 1) n ++ k ∷ []) (let e : from + 1 + n ≡ from + suc n = omega arith in e))

range-long : (from n : ℕ) → length (range_with_len from n) ≡ n
range-long from zero = refl
range-long from (suc n) = ap suc (range-long (from + 1) n)

get-of-range : (f : ℕ → ℕ) (from n k : ℕ) → k < n → get_or (map f (range_with_len from n)) k 0 ≡ f (from + k)
get-of-range f from zero k below = absurd (omega (arith, below))
get-of-range f from (suc n) zero below = ap f (let e : from ≡ from + 0 = omega arith in e)
get-of-range f from (suc n) (suc k) below = get-of-range f (from + 1) n k (omega (arith, below)) ∙ ap f (let e : from + 1 + k ≡ from + suc k = omega arith in e)

-- equal where P holds and the first gives a number below the bound
module _ {X : Type 0} (P : X → Type 0) (f g : X → ℕ) (bound : ℕ) (alike : (x : X) → P x → f x < bound → g x ≡ f x) where
  map-alike : (xs : List X) → All P xs → All (λ n. n < bound) (map f xs) → map g xs ≡ map f xs
  map-alike [] all below = refl
  map-alike (x ∷ xs) all below =
      ap₂ (λ (n : ℕ) (ns : List ℕ). n ∷ ns) (alike x (All-head P x xs all) (All-head (λ n. n < bound) (f x) (map f xs) below))
      (map-alike xs (All-tail P x xs all) (All-tail (λ n. n < bound) (f x) (map f xs) below))

-- ---- the new part

module _ (v : SplitView) (parts : List (List TreeLiteral)) (lines : List Line) (propositional : List PropositionalClause) (model : List Bool) (modelled : ℕ)
    (is : AreSplitsOf v parts lines propositional model modelled) (part : List TreeLiteral) (new : has_part part parts ≡ false) where
  abbrev grown : List (List TreeLiteral)
  grown = with_part parts part

  abbrev next : NameLit
  next = signed_name grown part

  abbrev is_named : Bool
  is_named = has_part (affirmed part) (named parts)

  grown-is : grown ≡ parts ++ part ∷ []
  grown-is = cond-false (has_part part parts) parts (parts ++ part ∷ []) new

  named-is : named grown ≡ with_part (named parts) (affirmed part)
  named-is = ap named grown-is ∙ named-end parts part

  next-below : next.name < name_count grown
  next-below = tag-below (named grown) (affirmed part) (named-there grown part (met-there parts part))

  fresh-name : is_named ≡ false → (next.name ≡ name_count parts) × (name_count grown ≡ name_count parts + 1)
  fresh-name fresh =
      let more : named grown ≡ named parts ++ affirmed part ∷ [] = named-is ∙ cond-false is_named (named parts) (named parts ++ affirmed part ∷ []) fresh in (
        ap (λ cs. tag_of cs (affirmed part)) more ∙ next-name (named parts) (affirmed part) fresh,
        ap length more ∙ length-append (named parts) (affirmed part ∷ []),
      )

  known-name : is_named ≡ true → (next.name < name_count parts) × (name_count grown ≡ name_count parts)
  known-name there =
      let same : named grown ≡ named parts = named-is ∙ cond-true is_named (named parts) (named parts ++ affirmed part ∷ []) there in (
        subst (λ n. n < name_count parts) (ap (λ cs. tag_of cs (affirmed part)) (sym same)) (tag-below (named parts) (affirmed part) there),
        ap length same,
      )

  -- the code asks whether the name is the next one
  pub is-next : (next.name == name_count parts) ≡ not is_named
  is-next =
      ⊎_elim
      (λ (there : is_named ≡ true).
      ne_eqb next.name (name_count parts) (λ e. let below = (known-name there).0 in absurd (omega (arith, below, e))) ∙ ap not (sym there))
      (λ (fresh : is_named ≡ false). eq-eqb next.name (name_count parts) (fresh-name fresh).0 ∙ ap not (sym fresh)) (cases_Bool is_named)

  count-grows : name_count parts ≤ name_count grown
  count-grows =
      ⊎_elim (λ (there : is_named ≡ true). let same = (known-name there).1 in omega (arith, same))
      (λ (fresh : is_named ≡ false). let more = (fresh-name fresh).1 in omega (arith, more)) (cases_Bool is_named)

  -- ---- no line has introduced it

  none-signed : (qs : List (List TreeLiteral)) → All (λ q. has_part q parts ≡ true) qs → list_any (λ q. same_name next (signed_name parts q)) qs ≡ false
  none-signed [] all = refl
  none-signed (q ∷ qs) all =
      ap₂ (λ a b. a || b) (differ (same_name next (signed_name parts q)) refl) (none-signed qs (All-tail (λ p. has_part p parts ≡ true) q qs all))
    where
      there : has_part q parts ≡ true
      there = All-head (λ p. has_part p parts ≡ true) q qs all

      there-now : has_part q grown ≡ true
      there-now = ap (has_part q) grown-is ∙ list_any-append (literals_eq q) parts (part ∷ []) ∙ or_left (has_part q parts) (has_part q (part ∷ [])) there

      differ : (b : Bool) → same_name next (signed_name parts q) ≡ b → b ≡ false
      differ false same = refl
      differ true same =
          let equal : part ≡ q =
          signed_names_tell_parts grown part q (met-there parts part) there-now
          (same_name-true next (signed_name parts q) same ∙ sym (signed_names_stay parts q part there)) in
          absurd (true≢false (sym (subst (λ p. has_part p parts ≡ true) (sym equal) there) ∙ new))

  not-introduced : next.positive ≡ false → is_introduced next lines ≡ false
  not-introduced negative = by (is_introduced next lines) refl
    where
      by : (b : Bool) → is_introduced next lines ≡ b → b ≡ false
      by false some = refl
      by true some = absurd (true≢false (sym ((is.known next some).1 negative) ∙ none-signed parts (there-all parts)))

  name-not-introduced : is_named ≡ false → is_introduced (positive_of (name_count parts)) lines ≡ false
  name-not-introduced fresh = by (is_introduced (positive_of (name_count parts)) lines) refl
    where
      by : (b : Bool) → is_introduced (positive_of (name_count parts)) lines ≡ b → b ≡ false
      by false some = refl
      by true some = let below = (is.known (positive_of (name_count parts)) some).0 in absurd (omega (arith, below))

  -- ---- the lines of all names, after more lines

  module _ (more : List Line) where
    stays : (n : NameLit) → definition_of lines n < length lines → definition_of (lines ++ more) n ≡ definition_of lines n
    stays n below = place-stays (λ (l : Line). introduces n l.step) lines more below

    -- those of the names that were there
    components-stay : map (λ k. definition_of (lines ++ more) (positive_of k)) (range_with_len 0 (name_count parts)) ≡ v.component_lines
    components-stay =
        map-alike (λ k. Unit {0}) (λ k. definition_of lines (positive_of k)) (λ k. definition_of (lines ++ more) (positive_of k)) (length lines)
        (λ k any below. stays (positive_of k) below) (range_with_len 0 (name_count parts)) (λ k d below. tt)
        (subst (All (λ n. n < length lines)) is.component_lines is.components)
        ∙ sym is.component_lines

    definitions-stay : map (λ q. definition_of (lines ++ more) (signed_name grown q)) parts ≡ v.definition_lines
    definitions-stay =
        map-alike (λ q. has_part q parts ≡ true) (λ q. definition_of lines (signed_name parts q)) (λ q. definition_of (lines ++ more) (signed_name grown q)) (length lines)
        (λ q there below. ap (definition_of (lines ++ more)) (signed_names_stay parts q part there) ∙ stays (signed_name parts q) below)
        parts (there-all parts) (subst (All (λ n. n < length lines)) is.definition_lines is.definitions)
        ∙ sym is.definition_lines

    pub definitions-grow : definition_lines grown (lines ++ more) ≡ v.definition_lines ++ definition_of (lines ++ more) next ∷ []
    definitions-grow =
        ap (map (λ q. definition_of (lines ++ more) (signed_name grown q))) grown-is
        ∙ map-append (λ q. definition_of (lines ++ more) (signed_name grown q)) parts (part ∷ [])
        ∙ ap (λ ns. ns ++ definition_of (lines ++ more) next ∷ []) definitions-stay

    components-fresh : is_named ≡ false → component_lines grown (lines ++ more) ≡ v.component_lines ++ definition_of (lines ++ more) (positive_of (name_count parts)) ∷ []
    components-fresh fresh =
        ap (λ k. map (λ k. definition_of (lines ++ more) (positive_of k)) (range_with_len 0 k)) (fresh-name fresh).1
        ∙ ap (map (λ k. definition_of (lines ++ more) (positive_of k))) (range-more 0 (name_count parts))
        ∙ map-append (λ k. definition_of (lines ++ more) (positive_of k)) (range_with_len 0 (name_count parts)) ((0 + name_count parts) ∷ [])
        ∙ ap₂ (λ (ns : List ℕ) (k : ℕ). ns ++ definition_of (lines ++ more) (positive_of k) ∷ []) components-stay (let e : 0 + name_count parts ≡ name_count parts = omega arith in e)

    components-known : is_named ≡ true → component_lines grown (lines ++ more) ≡ v.component_lines
    components-known there =
        ap (λ k. map (λ k. definition_of (lines ++ more) (positive_of k)) (range_with_len 0 k)) (known-name there).1 ∙ components-stay

  -- ---- the names that lines introduce

  name-stays-known : (n : NameLit) → IsNameOf parts n → IsNameOf grown n
  name-stays-known n was = (
    (let below = was.0 in omega (arith, below, count-grows)),
    λ negative.
        ap (list_any (λ q. same_name n (signed_name grown q))) grown-is
        ∙ list_any-append (λ q. same_name n (signed_name grown q)) parts (part ∷ [])
        ∙ or_left (list_any (λ q. same_name n (signed_name grown q)) parts) (list_any (λ q. same_name n (signed_name grown q)) (part ∷ []))
        (sym (each parts (there-all parts)) ∙ was.1 negative),
  )
    where
      each : (qs : List (List TreeLiteral)) → All (λ q. has_part q parts ≡ true) qs
          → list_any (λ q. same_name n (signed_name parts q)) qs ≡ list_any (λ q. same_name n (signed_name grown q)) qs
      each [] all = refl
      each (q ∷ qs) all =
          ap₂ (λ (m : NameLit) b. same_name n m || b) (sym (signed_names_stay parts q part (All-head (λ p. has_part p parts ≡ true) q qs all)))
          (each qs (All-tail (λ p. has_part p parts ≡ true) q qs all))

  next-is-name : IsNameOf grown next
  next-is-name = (
    next-below,
    λ negative.
        ap (list_any (λ q. same_name next (signed_name grown q))) grown-is
        ∙ list_any-append (λ q. same_name next (signed_name grown q)) parts (part ∷ [])
        ∙ or_right (list_any (λ q. same_name next (signed_name grown q)) parts) (list_any (λ q. same_name next (signed_name grown q)) (part ∷ []))
        (or_left (same_name next next) false (same_name-refl next)),
  )

  positive-is-name : IsNameOf grown (positive_of next.name)
  positive-is-name = (next-below, λ negative. absurd (true≢false negative))

  -- ---- the definitions

  abbrev component : Line
  component = line_of (Component next.name) (under_names (affirmed part) (negative_of next.name ∷ []))

  abbrev opposite_line : Line
  opposite_line = line_of (Opposite next.name) (under_names part (positive_of next.name ∷ []))

  abbrev lines_of : Bool → Bool → List Line
  lines_of there positive = (if there then [] else component ∷ []) ++ (if positive then [] else opposite_line ∷ [])

  next-is : (b : Bool) → next.positive ≡ b → next ≡ record { positive = b; name = next.name }
  next-is b sign = λ j. record { positive = sign j; name = next.name }

  itself : (k : ℕ) → (k == k) ≡ true
  itself k = eq-eqb k k refl

  component-first : (rest : List Line) → definition_of (component ∷ rest) (positive_of next.name) ≡ 0
  component-first rest = ap (λ b. cond (not b) (1 + definition_of rest (positive_of next.name)) 0) (itself next.name)

  opposite-first : (rest : List Line) → definition_of (opposite_line ∷ rest) (negative_of next.name) ≡ 0
  opposite-first rest = ap (λ b. cond (not b) (1 + definition_of rest (negative_of next.name)) 0) (itself next.name)

  by-component : (n : NameLit) → introduces n (Component next.name) ≡ true → IsNameOf grown n
  by-component n does = subst (IsNameOf grown) (sym (of-component n next.name does)) positive-is-name

  by-opposite : (n : NameLit) → next.positive ≡ false → introduces n (Opposite next.name) ≡ true → IsNameOf grown n
  by-opposite n negative does = subst (IsNameOf grown) (next-is false negative ∙ sym (of-opposite n next.name does)) next-is-name

  or-nothing : (b : Bool) → (b || false) ≡ b
  or-nothing true = refl
  or-nothing false = refl

  -- the component line of a fresh name is the next one
  first-at : is_named ≡ false → (rest : List Line) → definition_of (lines ++ component ∷ rest) (positive_of (name_count parts)) ≡ length lines
  first-at fresh rest =
      place-after (λ (l : Line). introduces (positive_of (name_count parts)) l.step) lines (component ∷ rest) (name-not-introduced fresh)
      ∙ ap (λ k. length lines + definition_of (component ∷ rest) (positive_of k)) (sym (fresh-name fresh).0)
      ∙ ap (λ k. length lines + k) (component-first rest) ∙ (let e : length lines + 0 ≡ length lines = omega arith in e)

  -- ---- what is kept after it

  module _ (w : SplitView) (parts_are : w.parts ≡ grown) (propositional_is : w.propositional ≡ v.propositional)
      (numbers_are : w.propositional_lines ≡ v.propositional_lines) (model_is : w.model ≡ v.model) (modelled_is : w.modelled ≡ v.modelled) where
    built :
        (more : List Line) (number : ℕ)
        → w.component_lines ≡ component_lines grown (lines ++ more)
        → w.definition_lines ≡ v.definition_lines ++ number ∷ [] → number ≡ definition_of (lines ++ more) next
        → All (λ n. n < length (lines ++ more)) w.component_lines → number < length (lines ++ more)
        → ((n : NameLit) → is_introduced n more ≡ true → IsNameOf grown n)
        → AreSplitsOf w grown (lines ++ more) propositional model modelled
    built more number components definitions at components_below below told = record {
      parts = parts_are;
      component_lines = components;
      definition_lines = definitions ∙ ap (λ n. v.definition_lines ++ n ∷ []) at ∙ sym (definitions-grow more);
      propositional = propositional_is ∙ is.propositional;
      propositional_lines = numbers_are ∙ is.propositional_lines;
      model = model_is ∙ is.model;
      modelled = modelled_is ∙ is.modelled;
      components = components_below;
      definitions =
          subst (All (λ n. n < length (lines ++ more))) (sym definitions)
          (All-push (λ n. n < length (lines ++ more)) v.definition_lines number
          (All-weaker (λ n. n < length lines) (λ n. n < length (lines ++ more)) (λ n less. let long = length-append lines more in omega (arith, less, long))
          v.definition_lines is.definitions) below);
      known =
          λ n some.
          ⊎_elim (λ before. name-stays-known n (is.known n before)) (told n)
          (or_cases (is_introduced n lines) (is_introduced n more) (sym (list_any-append (λ (l : Line). introduces n l.step) lines more) ∙ some));
    }

    -- the number of a positive name's line
    at-name : (more : List Line) → w.component_lines ≡ component_lines grown (lines ++ more) → next.positive ≡ true
        → get_or w.component_lines next.name 0 ≡ definition_of (lines ++ more) next
    at-name more components positive =
        ap (λ ns. get_or ns next.name 0) components
        ∙ get-of-range (λ k. definition_of (lines ++ more) (positive_of k)) 0 (name_count grown) next.name next-below
        ∙ ap (λ k. definition_of (lines ++ more) (positive_of k)) (let e : 0 + next.name ≡ next.name = omega arith in e)
        ∙ ap (definition_of (lines ++ more)) (sym (next-is true positive))

    many : (more : List Line) → w.component_lines ≡ component_lines grown (lines ++ more) → next.name < length w.component_lines
    many more components =
        let long : length w.component_lines ≡ name_count grown =
        ap length components ∙ length-map (range_with_len 0 (name_count grown)) (λ k. definition_of (lines ++ more) (positive_of k)) ∙ range-long 0 (name_count grown) in
        omega (arith, long, next-below)

    -- by whether it was named, and by its sign
    by-kinds :
        (there positive : Bool) (number : ℕ) → is_named ≡ there → next.positive ≡ positive
        → w.component_lines ≡ (if not there then v.component_lines ++ length lines ∷ [] else v.component_lines)
        → w.definition_lines ≡ v.definition_lines ++ number ∷ []
        → number ≡ (if positive then get_or w.component_lines next.name 0 else length lines + (if there then 0 else 1))
        → AreSplitsOf w grown (lines ++ lines_of there positive) propositional model modelled
    by-kinds true true number there positive components definitions is_number =
        let all : w.component_lines ≡ component_lines grown (lines ++ []) = components ∙ sym (components-known [] there) in
        let below : All (λ n. n < length (lines ++ [])) w.component_lines =
        subst (All (λ n. n < length (lines ++ []))) (sym components)
        (All-weaker (λ n. n < length lines) (λ n. n < length (lines ++ [])) (λ n less. let long = length-append lines [] in omega (arith, less, long)) v.component_lines is.components) in
        built [] number all definitions (is_number ∙ at-name [] all positive) below
        (subst (λ n. n < length (lines ++ [])) (sym is_number) (below next.name 0 (many [] all)))
        (λ n some. absurd (true≢false (sym some)))
    by-kinds true false number there negative components definitions is_number =
        let more : List Line = opposite_line ∷ [] in
        let all : w.component_lines ≡ component_lines grown (lines ++ more) = components ∙ sym (components-known more there) in
        let long : length (lines ++ more) ≡ length lines + 1 = length-append lines more in
        built more number all definitions
        (is_number ∙ ap (λ k. length lines + k) (sym (ap (definition_of more) (next-is false negative) ∙ opposite-first []))
        ∙ sym (place-after (λ (l : Line). introduces next l.step) lines more (not-introduced negative)))
        (subst (All (λ n. n < length (lines ++ more))) (sym components)
        (All-weaker (λ n. n < length lines) (λ n. n < length (lines ++ more)) (λ n less. omega (arith, less, long)) v.component_lines is.components))
        (omega (arith, is_number, long))
        (λ n some. by-opposite n negative (sym (or-nothing (introduces n (Opposite next.name))) ∙ some))
    by-kinds false true number fresh positive components definitions is_number =
        let more : List Line = component ∷ [] in
        let long : length (lines ++ more) ≡ length lines + 1 = length-append lines more in
        let all : w.component_lines ≡ component_lines grown (lines ++ more) = components ∙ ap (λ k. v.component_lines ++ k ∷ []) (sym (first-at fresh [])) ∙ sym (components-fresh more fresh) in
        let below : All (λ n. n < length (lines ++ more)) w.component_lines =
        subst (All (λ n. n < length (lines ++ more))) (sym components)
        (All-push (λ n. n < length (lines ++ more)) v.component_lines (length lines)
        (All-weaker (λ n. n < length lines) (λ n. n < length (lines ++ more)) (λ n less. omega (arith, less, long)) v.component_lines is.components) (omega (arith, long))) in
        built more number all definitions (is_number ∙ at-name more all positive) below
        (subst (λ n. n < length (lines ++ more)) (sym is_number) (below next.name 0 (many more all)))
        (λ n some. by-component n (sym (or-nothing (introduces n (Component next.name))) ∙ some))
    by-kinds false false number fresh negative components definitions is_number =
        let more : List Line = component ∷ opposite_line ∷ [] in
        let long : length (lines ++ more) ≡ length lines + 2 = length-append lines more in
        let all : w.component_lines ≡ component_lines grown (lines ++ more) =
        components ∙ ap (λ k. v.component_lines ++ k ∷ []) (sym (first-at fresh (opposite_line ∷ []))) ∙ sym (components-fresh more fresh) in
        built more number all definitions
        (is_number
        ∙ ap (λ k. length lines + (1 + k)) (sym (opposite-first []))
        ∙ ap (λ k. length lines + definition_of more k) (sym (next-is false negative))
        ∙ sym (place-after (λ (l : Line). introduces next l.step) lines more (not-introduced negative)))
        (subst (All (λ n. n < length (lines ++ more))) (sym components)
        (All-push (λ n. n < length (lines ++ more)) v.component_lines (length lines)
        (All-weaker (λ n. n < length lines) (λ n. n < length (lines ++ more)) (λ n less. omega (arith, less, long)) v.component_lines is.components) (omega (arith, long))))
        (omega (arith, is_number, long))
        (λ n some.
        ⊎_elim (by-component n) (λ later. by-opposite n negative (sym (or-nothing (introduces n (Opposite next.name))) ∙ later))
        (or_cases (introduces n (Component next.name)) (introduces n (Opposite next.name) || false) some))

-- ---- what the code asks

-- the new part's tag
pub same-tag : (cs : List (List TreeLiteral)) (c : List TreeLiteral) → tag_of (with_part cs c) c ≡ tag_of cs c
same-tag cs c = by (has_part c cs) refl
  where
    by : (b : Bool) → has_part c cs ≡ b → tag_of (if b then cs else cs ++ c ∷ []) c ≡ tag_of cs c
    by true there = refl
    by false new = next-name cs c new ∙ tag-new c cs new

pub tag-within : (cs : List (List TreeLiteral)) (c : List TreeLiteral) → tag_of cs c < length (with_part cs c)
tag-within cs c = subst (λ n. n < length (with_part cs c)) (same-tag cs c) (tag-below (with_part cs c) c (met-there cs c))

-- and the part that stands there
pub at-its-tag : (cs : List (List TreeLiteral)) (c : List TreeLiteral) → slice_index_or (with_part cs c) (tag_of cs c) [] ≡ c
at-its-tag cs c = ap (λ n. slice_index_or (with_part cs c) n []) (sym (same-tag cs c)) ∙ at-tag (with_part cs c) c (met-there cs c)

-- whether it is new, and its signed name
pub is-new : (b n : Bool) → n ≡ not b → n ≡ true → b ≡ false
is-new false n said told = refl
is-new true n said told = absurd (true≢false (sym told ∙ said))

pub signed-is :
    (old now parts : List (List TreeLiteral)) (part : List TreeLiteral) (tag : ℕ) (signed : NameLit)
    → old ≡ parts → now ≡ with_part old part → tag ≡ tag_of old part → signed ≡ signed_name now (slice_index_or now tag [])
    → signed ≡ signed_name (with_part parts part) part
signed-is old now parts part tag signed same added tagged named_so =
    named_so
    ∙ ap₂ (λ (cs : List (List TreeLiteral)) (n : ℕ). signed_name cs (slice_index_or cs n []))
    (added ∙ ap (λ cs. with_part cs part) same) (tagged ∙ ap (λ cs. tag_of cs part) same)
    ∙ ap (signed_name (with_part parts part)) (at-its-tag parts part)

-- the component line of its name is kept
pub name-listed :
    (v : SplitView) (steps : List Step) (r : PoolRecord) (part : List TreeLiteral) (listed : List ℕ) (line : ℕ)
    → AreStepsAndSplitsOf v steps r → has_part part r.parts ≡ false
    → let n = signed_name (with_part r.parts part) part in
    listed ≡ (if n.name == name_count r.parts then v.component_lines ++ line ∷ [] else v.component_lines)
    → n.name < length listed
name-listed v steps r part listed line is new listed_is = by is_named refl
  where
    next : NameLit
    next = signed_name (with_part r.parts part) part

    is_named : Bool
    is_named = has_part (affirmed part) (named r.parts)

    many : length v.component_lines ≡ name_count r.parts
    many =
        ap length is.splits.component_lines ∙ length-map (range_with_len 0 (name_count r.parts)) (λ k. definition_of r.lines (positive_of k))
        ∙ range-long 0 (name_count r.parts)

    now : (b : Bool) → is_named ≡ b → listed ≡ (if not b then v.component_lines ++ line ∷ [] else v.component_lines)
    now b is_b =
        listed_is
        ∙ ap (λ c. if c then v.component_lines ++ line ∷ [] else v.component_lines)
        (is-next v r.parts r.lines r.propositional r.model r.modelled is.splits part new ∙ ap not is_b)

    by : (b : Bool) → is_named ≡ b → next.name < length listed
    by true there =
        let below = (known-name v r.parts r.lines r.propositional r.model r.modelled is.splits part new there).0 in
        let long = ap length (now true there) in
        omega (arith, below, long, many)
    by false fresh =
        let last = (fresh-name v r.parts r.lines r.propositional r.model r.modelled is.splits part new fresh).0 in
        let long : length listed ≡ length v.component_lines + 1 = ap length (now false fresh) ∙ length-append v.component_lines (line ∷ []) in
        omega (arith, last, long, many)

-- ---- the record

-- the steps of its definitions
definition-steps :
    (there positive : Bool) (component opposite_line : Line)
    → map (λ (l : Line). l.step) ((if there then [] else component ∷ []) ++ (if positive then [] else opposite_line ∷ []))
    ≡ (if there then [] else component.step ∷ []) ++ (if positive then [] else opposite_line.step ∷ [])
definition-steps true true c o = refl
definition-steps true false c o = refl
definition-steps false true c o = refl
definition-steps false false c o = refl

pub defined-new :
    (v w : SplitView) (steps middle after : List Step) (r : PoolRecord) (part : List TreeLiteral) (number : ℕ)
    → AreStepsAndSplitsOf v steps r → has_part part r.parts ≡ false → w.parts ≡ with_part r.parts part
    → let n = signed_name (with_part r.parts part) part in let is_next = n.name == name_count r.parts in
    w.component_lines ≡ (if is_next then v.component_lines ++ length steps ∷ [] else v.component_lines)
    → middle ≡ (if is_next then steps ++ Component n.name ∷ [] else steps)
    → number ≡ (if n.positive then get_or w.component_lines n.name 0 else length middle)
    → after ≡ (if n.positive then middle else middle ++ Opposite n.name ∷ [])
    → w.definition_lines ≡ v.definition_lines ++ number ∷ []
    → w.propositional ≡ v.propositional → w.propositional_lines ≡ v.propositional_lines → w.model ≡ v.model → w.modelled ≡ v.modelled
    → AreStepsAndSplitsOf w after (with_tag r part)
defined-new v w steps middle after r part number is new parts components middle_is number_is after_is numbers_of propositional numbers model modelled =
    subst (AreStepsAndSplitsOf w after) (sym (cond-false (has_part part r.parts) r grown_record new)) (by is_named next.positive refl refl)
  where
    grown : List (List TreeLiteral)
    grown = with_part r.parts part

    next : NameLit
    next = signed_name grown part

    is_named : Bool
    is_named = has_part (affirmed part) (named r.parts)

    grown_record : PoolRecord
    grown_record = record r { parts = grown; lines = r.lines ++ definitions r.parts part next }

    component : Line
    component = line_of (Component next.name) (under_names (affirmed part) (negative_of next.name ∷ []))

    opposite_line : Line
    opposite_line = line_of (Opposite next.name) (under_names part (positive_of next.name ∷ []))

    asked : (next.name == name_count r.parts) ≡ not is_named
    asked = is-next v r.parts r.lines r.propositional r.model r.modelled is.splits part new

    long : length steps ≡ length r.lines
    long = ap length is.steps ∙ length-map r.lines (λ (l : Line). l.step)

    by :
        (there positive : Bool) → is_named ≡ there → next.positive ≡ positive
        → AreStepsAndSplitsOf w after (record r { parts = grown; lines = r.lines ++ ((if is_named then [] else component ∷ []) ++ (if next.positive then [] else opposite_line ∷ [])) })
    by there positive is_there sign =
        subst (λ (ls : List Line). AreStepsAndSplitsOf w after (record r { parts = grown; lines = r.lines ++ ls }))
        (ap₂ (λ (a b : Bool). (if a then [] else component ∷ []) ++ (if b then [] else opposite_line ∷ [])) (sym is_there) (sym sign))
        (record {
          steps =
              after_now
              ∙ steps-split there positive
              ∙ ap (λ ss. steps ++ ss) (sym (definition-steps there positive component opposite_line))
              ∙ ap (λ ss. ss ++ map (λ (l : Line). l.step) ((if there then [] else component ∷ []) ++ (if positive then [] else opposite_line ∷ []))) is.steps
              ∙ sym (map-append (λ (l : Line). l.step) r.lines ((if there then [] else component ∷ []) ++ (if positive then [] else opposite_line ∷ [])));
          splits =
              by-kinds v r.parts r.lines r.propositional r.model r.modelled is.splits part new w parts propositional numbers model modelled
              there positive number is_there sign
              (components ∙ ap₂ (λ (b : Bool) (n : ℕ). if b then v.component_lines ++ n ∷ [] else v.component_lines) (asked ∙ ap not is_there) long)
              numbers_of
              (number_is ∙ ap₂ (λ (b : Bool) (n : ℕ). if b then get_or w.component_lines next.name 0 else n) sign (middle-long there (middle_now there)));
        })
      where
        middle_now : (b : Bool) → middle ≡ (if not there then steps ++ Component next.name ∷ [] else steps)
        middle_now b = middle_is ∙ ap (λ c. if c then steps ++ Component next.name ∷ [] else steps) (asked ∙ ap not is_there)

        after_now : after ≡ (if positive then (if not there then steps ++ Component next.name ∷ [] else steps) else (if not there then steps ++ Component next.name ∷ [] else steps) ++ Opposite next.name ∷ [])
        after_now =
            after_is
            ∙ ap₂ (λ (b : Bool) (ss : List Step). if b then ss else ss ++ Opposite next.name ∷ []) sign (middle_now there)

        steps-split :
            (a b : Bool)
            → (if b then (if not a then steps ++ Component next.name ∷ [] else steps) else (if not a then steps ++ Component next.name ∷ [] else steps) ++ Opposite next.name ∷ [])
            ≡ steps ++ ((if a then [] else Component next.name ∷ []) ++ (if b then [] else Opposite next.name ∷ []))
        steps-split true true = sym (append-nil steps)
        steps-split true false = refl
        steps-split false true = refl
        steps-split false false = append_assoc steps (Component next.name ∷ []) (Opposite next.name ∷ [])

        middle-long : (a : Bool) → middle ≡ (if not a then steps ++ Component next.name ∷ [] else steps) → length middle ≡ length r.lines + (if a then 0 else 1)
        middle-long true e = ap length e ∙ (let l = long in omega (arith, l))
        middle-long false e = ap length e ∙ length-append steps (Component next.name ∷ []) ∙ (let l = long in omega (arith, l))
