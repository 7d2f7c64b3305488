-- What is kept of splitting, when lines come that introduce no name that is kept.
use Rattle.std.proofs.Common.{◌≡◌, ℕ, suc, ◌+◌, ◌<◌, Bool, true, false, not, ◌||◌, List, [], ◌∷◌, ◌++◌, map, length, refl, ap, ap₂, sym, ◌∙◌, subst, arith}
use Rattle.std.specs.Prelude.{cond, All}
use Rattle.std.specs.List.{list_all, list_any, position_or_len, range_with_len}
use Rattle.std.proofs.lemmas.Bool.{and_parts, true≢false}
use Rattle.std.proofs.lemmas.List.{length-append, map-append}
use Rattle.std.proofs.lemmas.List.Folds.{list_any-append}
use Rattle.std.proofs.lemmas.List.Elements.{All-nil, All-head, All-tail, All-weaker}
use Rattle.plain_types.specs.declared.sequence.NameLit.{NameLit}
use Rattle.plain_types.specs.Names.{positive_of}
use Rattle.fol_base.specs.Clause.{TreeLiteral}
use Rattle.kernel_steps.specs.Lines.{is_plain_step}
use Rattle.kernel_steps.specs.declared.step.Step.{Step}
use Rattle.kernel_steps.specs.declared.step.Step.TheVariants.{Input, Negate, Clausify, Para, Refl, Factor, Merge, Component, Opposite, Split, Chain}
use Rattle.kernel_steps.specs.declared.step.Line.{Line}
use Rattle.bank_clause.specs.Clause.{AreAssertions}
use Rattle.split_parts.specs.SignedNames.{signed_name}
use Rattle.pool_history.specs.Tags.{name_count}
use Rattle.pool_history.specs.Record.{PoolRecord, Registered, PropositionalClause}
use Rattle.pool_history.specs.Lines.{introduces, definition_of, line_number, with_parents, pool_line}
use Rattle.pool_core.specs.Splits.{SplitView, AreSplitsOf, HasTags, is_introduced}

-- ---- places

-- a place that is found stays when more comes
pub place-stays : {X : Type 0} (p : X → Bool) (xs ys : List X) → position_or_len p xs < length xs → position_or_len p (xs ++ ys) ≡ position_or_len p xs
place-stays p [] ys found = absurd (omega (arith, found))
place-stays p (x ∷ xs) ys found = by (p x) found (place-stays p xs ys)
  where
    by :
        (b : Bool) → cond (not b) (1 + position_or_len p xs) 0 < suc (length xs)
        → (position_or_len p xs < length xs → position_or_len p (xs ++ ys) ≡ position_or_len p xs)
        → cond (not b) (1 + position_or_len p (xs ++ ys)) 0 ≡ cond (not b) (1 + position_or_len p xs) 0
    by true found rest = refl
    by false found rest = ap (λ k. 1 + k) (rest (omega (arith, found)))

-- it depends on the steps alone
place-by-steps : (n : NameLit) (lines : List Line) → definition_of lines n ≡ position_or_len (introduces n) (map (λ (l : Line). l.step) lines)
place-by-steps n [] = refl
place-by-steps n (l ∷ ls) = ap (λ k. cond (not (introduces n l.step)) (1 + k) 0) (place-by-steps n ls)

same-definition : (n : NameLit) (lines others : List Line) → map (λ (l : Line). l.step) lines ≡ map (λ (l : Line). l.step) others → definition_of lines n ≡ definition_of others n
same-definition n lines others same = place-by-steps n lines ∙ ap (position_or_len (introduces n)) same ∙ sym (place-by-steps n others)

false-right : (b : Bool) → (b || false) ≡ b
false-right true = refl
false-right false = refl

-- lists of numbers of lines
module _ {X : Type 0} (f g : X → ℕ) (bound : ℕ) (alike : (x : X) → f x < bound → g x ≡ f x) where
  map-within : (xs : List X) → All (λ n. n < bound) (map f xs) → map g xs ≡ map f xs
  map-within [] below = refl
  map-within (x ∷ xs) below =
      ap₂ (λ (n : ℕ) (ns : List ℕ). n ∷ ns) (alike x (All-head (λ n. n < bound) (f x) (map f xs) below))
      (map-within xs (All-tail (λ n. n < bound) (f x) (map f xs) below))

-- ---- nothing is split

pub none-split :
    (v : SplitView)
    → v.parts ≡ [] → v.component_lines ≡ [] → v.definition_lines ≡ [] → v.propositional ≡ [] → v.propositional_lines ≡ [] → v.model ≡ [] → v.modelled ≡ 0
    → AreSplitsOf v [] [] [] [] 0
none-split v parts components definitions propositional numbers model modelled = record {
  parts = parts;
  component_lines = components;
  definition_lines = definitions;
  propositional = propositional;
  propositional_lines = numbers;
  model = model;
  modelled = modelled;
  components = subst (All (λ n. n < 0)) (sym components) (All-nil (λ n. n < 0));
  definitions = subst (All (λ n. n < 0)) (sym definitions) (All-nil (λ n. n < 0));
  known = λ n some. absurd (true≢false (sym some));
}

-- ---- more lines

module _ (v : SplitView) (parts : List (List TreeLiteral)) (lines : List Line) (propositional : List PropositionalClause) (model : List Bool) (modelled : ℕ) where
  pub splits-longer : (more : List Line) → ((n : NameLit) → is_introduced n more ≡ false) → AreSplitsOf v parts lines propositional model modelled → AreSplitsOf v parts (lines ++ more) propositional model modelled
  splits-longer more bare is = record {
    parts = is.parts;
    component_lines =
        is.component_lines
        ∙ sym (map-within (λ k. definition_of lines (positive_of k)) (λ k. definition_of (lines ++ more) (positive_of k)) (length lines)
        (λ k below. stays (positive_of k) below) (range_with_len 0 (name_count parts)) (subst (All (λ n. n < length lines)) is.component_lines is.components));
    definition_lines =
        is.definition_lines
        ∙ sym (map-within (λ part. definition_of lines (signed_name parts part)) (λ part. definition_of (lines ++ more) (signed_name parts part)) (length lines)
        (λ part below. stays (signed_name parts part) below) parts (subst (All (λ n. n < length lines)) is.definition_lines is.definitions));
    propositional = is.propositional;
    propositional_lines = is.propositional_lines;
    model = is.model;
    modelled = is.modelled;
    components = All-weaker (λ n. n < length lines) (λ n. n < length (lines ++ more)) further v.component_lines is.components;
    definitions = All-weaker (λ n. n < length lines) (λ n. n < length (lines ++ more)) further v.definition_lines is.definitions;
    known =
        λ n some.
        is.known n
        (sym (false-right (is_introduced n lines))
        ∙ ap (λ b. is_introduced n lines || b) (sym (bare n))
        ∙ sym (list_any-append (λ (l : Line). introduces n l.step) lines more) ∙ some);
  }
    where
      stays : (n : NameLit) → definition_of lines n < length lines → definition_of (lines ++ more) n ≡ definition_of lines n
      stays n below = place-stays (λ (l : Line). introduces n l.step) lines more below

      further : (n : ℕ) → n < length lines → n < length (lines ++ more)
      further n below = let long = length-append lines more in omega (arith, below, long)

  -- the same steps under other clauses
  pub splits-relined :
      (others : List Line) → map (λ (l : Line). l.step) others ≡ map (λ (l : Line). l.step) lines
      → AreSplitsOf v parts lines propositional model modelled → AreSplitsOf v parts others propositional model modelled
  splits-relined others same is = record {
    parts = is.parts;
    component_lines = is.component_lines ∙ alike (λ k. positive_of k) (range_with_len 0 (name_count parts));
    definition_lines = is.definition_lines ∙ alike (signed_name parts) parts;
    propositional = is.propositional;
    propositional_lines = is.propositional_lines;
    model = is.model;
    modelled = is.modelled;
    components = subst (λ (k : ℕ). All (λ n. n < k) v.component_lines) (sym long) is.components;
    definitions = subst (λ (k : ℕ). All (λ n. n < k) v.definition_lines) (sym long) is.definitions;
    known = λ n some. is.known n (by-steps n lines ∙ ap (list_any (introduces n)) (sym same) ∙ sym (by-steps n others) ∙ some);
  }
    where
      by-steps : (n : NameLit) (ls : List Line) → is_introduced n ls ≡ list_any (introduces n) (map (λ (l : Line). l.step) ls)
      by-steps n [] = refl
      by-steps n (l ∷ ls) = ap (λ b. introduces n l.step || b) (by-steps n ls)

      count : (ls : List Line) → length (map (λ (l : Line). l.step) ls) ≡ length ls
      count [] = refl
      count (l ∷ ls) = ap suc (count ls)

      long : length others ≡ length lines
      long = sym (count others) ∙ ap length same ∙ count lines

      alike : {X : Type 0} (name : X → NameLit) (xs : List X) → map (λ x. definition_of lines (name x)) xs ≡ map (λ x. definition_of others (name x)) xs
      alike name [] = refl
      alike name (x ∷ xs) = ap₂ (λ (n : ℕ) (ns : List ℕ). n ∷ ns) (same-definition (name x) lines others (sym same)) (alike name xs)

-- ---- one more clause over names

pub one-more-clause :
    (v : SplitView) (parts : List (List TreeLiteral)) (lines : List Line) (clauses : List PropositionalClause) (model : List Bool) (modelled : ℕ)
    (c : PropositionalClause) (all : List (List NameLit)) (numbers : List ℕ)
    → all ≡ v.propositional ++ c.names ∷ [] → numbers ≡ v.propositional_lines ++ c.line ∷ []
    → AreSplitsOf v parts lines clauses model modelled
    → AreSplitsOf (record v { propositional = all; propositional_lines = numbers }) parts lines (clauses ++ c ∷ []) model modelled
one-more-clause v parts lines clauses model modelled c all numbers more further is = record {
  parts = is.parts;
  component_lines = is.component_lines;
  definition_lines = is.definition_lines;
  propositional =
      more ∙ ap (λ (ms : List (List NameLit)). ms ++ c.names ∷ []) is.propositional
      ∙ sym (map-append (λ (d : PropositionalClause). d.names) clauses (c ∷ []));
  propositional_lines =
      further ∙ ap (λ (ns : List ℕ). ns ++ c.line ∷ []) is.propositional_lines ∙ sym (map-append (λ (d : PropositionalClause). d.line) clauses (c ∷ []));
  model = is.model;
  modelled = is.modelled;
  components = is.components;
  definitions = is.definitions;
  known = is.known;
}

-- ---- assertions

-- a clause without names has no tags
pub no-tags : (count : ℕ) (x : Registered) → x.clause.names ≡ [] → HasTags count x
no-tags count x none =
    subst (λ (ns : List NameLit). AreAssertions ns × All (λ (n : NameLit). n.name < count) ns) (sym none)
    (record { negative = All-nil (λ (n : NameLit). n.positive ≡ false); rise = λ k within. absurd (omega (arith, within)) }, All-nil (λ (n : NameLit). n.name < count))

-- ---- the lines of a batch

-- a plain step introduces no name, whatever its parents
plain-introduces : (number : ℕ → ℕ) (n : NameLit) (step : Step) → is_plain_step step ≡ true → introduces n (with_parents number step) ≡ false
plain-introduces number n (Clausify i) plain = refl
plain-introduces number n (Para a b j s l z place first second) plain = refl
plain-introduces number n (Refl a l bind) plain = refl
plain-introduces number n (Factor a j s l z bind) plain = refl
plain-introduces number n (Merge a j l bind) plain = refl
plain-introduces number n (Input place) plain = absurd (true≢false (sym plain))
plain-introduces number n (Negate place) plain = absurd (true≢false (sym plain))
plain-introduces number n (Component name) plain = absurd (true≢false (sym plain))
plain-introduces number n (Opposite name) plain = absurd (true≢false (sym plain))
plain-introduces number n (Split parent definitions parts) plain = absurd (true≢false (sym plain))
plain-introduces number n (Chain numbers pivots) plain = absurd (true≢false (sym plain))

pub none-introduced : (r : PoolRecord) (lines : List Line) → list_all (λ (l : Line). is_plain_step l.step) lines ≡ true → (n : NameLit) → is_introduced n (map (pool_line r) lines) ≡ false
none-introduced r [] plain n = refl
none-introduced r (l ∷ ls) plain n =
    let both = and_parts (is_plain_step l.step) (list_all (λ (m : Line). is_plain_step m.step) ls) plain in
    ap₂ (λ a b. a || b) (plain-introduces (line_number r.registered (length r.lines)) n l.step both.0) (none-introduced r ls both.1 n)
