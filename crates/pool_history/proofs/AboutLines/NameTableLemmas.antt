-- Which names the lines of a pool introduce: those of the parts that were met, each by the line of its definition.
use Rattle.std.proofs.Common.{◌≡◌, ℕ, suc, ◌+◌, ◌<◌, ◌≤◌, Bool, true, false, not, ◌||◌, ◌==◌, List, [], ◌∷◌, ◌++◌, map, length, append-nil, refl, ap, sym, ◌∙◌, ⊎_elim, arith}
use Rattle.std.specs.Prelude.{Option, None, Some, cond, slice_get, slice_index_or, if◌then◌else◌}
use Rattle.std.specs.List.{list_any, range_with_len, cons_option}
use Rattle.std.proofs.lemmas.Bool.{true≢false, and_parts, or_left, or_cases, eqb-true}
use Rattle.std.proofs.lemmas.List.Elements.{filter_map-append}
use Rattle.std.proofs.lemmas.List.Folds.{list_any-append}
use Rattle.std.proofs.lemmas.Option.{get_or_from_slice_get}
use Rattle.plain_types.specs.declared.sequence.NameLit.{NameLit}
use Rattle.plain_types.specs.Names.{opposite, positive_of, negative_of}
use Rattle.fol_base.specs.Clause.{TreeLiteral, TreeClause}
use Rattle.fol_base.specs.Literal.{clause_of}
use Rattle.kernel_steps.specs.Derivation.{is_component_of, component_clause, complement, under_names, introduces_name}
use Rattle.kernel_steps.specs.declared.step.Step.{Step}
use Rattle.kernel_steps.specs.declared.step.Step.TheVariants.{Input, Negate, Clausify, Para, Refl, Factor, Merge, Component, Opposite, Split, Chain}
use Rattle.kernel_steps.specs.declared.step.Line.{Line}
use Rattle.kernel_steps.proofs.AboutSplits.SplitTables.{eqb-comm}
use Rattle.split_parts.specs.Tags.{has_part, tag_of}
use Rattle.split_parts.specs.SignedNames.{is_ground_negative, affirmed, named, signed_name}
use Rattle.split_parts.proofs.AboutTags.TagLemmas.{parts-same}
use Rattle.split_parts.proofs.AboutTags.TagLawLemmas.{stands-at}
use Rattle.split_parts.proofs.AboutTags.SignedLemmas.{named-there, complements-back}
use Rattle.pool_history.specs.Lines.{introduces, definition_of}
use Rattle.pool_history.specs.Derived.{component_name, component_names}
use Rattle.pool_history.proofs.AboutLines.JoinedLemmas.{get-cases, BehindAt}

-- ---- what introduces a name

pub same-component : (k : ℕ) (step : Step) → is_component_of k step ≡ introduces (positive_of k) step
same-component k (Component n) = eqb-comm n k
same-component k (Opposite n) = refl
same-component k (Input place) = refl
same-component k (Negate place) = refl
same-component k (Clausify i) = refl
same-component k (Para n m j s l z place first second) = refl
same-component k (Refl n l bind) = refl
same-component k (Factor n j s l z bind) = refl
same-component k (Merge n j l bind) = refl
same-component k (Split parent definitions parts) = refl
same-component k (Chain numbers pivots) = refl

pub introduces-some : (m : NameLit) (step : Step) → introduces m step ≡ true → introduces_name step ≡ true
introduces-some m (Component n) h = refl
introduces-some m (Opposite n) h = refl
introduces-some m _ h = absurd (true≢false (sym h))

pub of-component : (m : NameLit) (k : ℕ) → introduces m (Component k) ≡ true → m ≡ positive_of k
of-component m k h =
    let parts = and_parts m.positive (m.name == k) h in
    let name : m.name ≡ k = eqb-true m.name k parts.1 in
    (λ j. record { positive = parts.0 j; name = name j })

pub of-opposite : (m : NameLit) (k : ℕ) → introduces m (Opposite k) ≡ true → m ≡ negative_of k
of-opposite m k h =
    let parts = and_parts (not m.positive) (m.name == k) h in
    let name : m.name ≡ k = eqb-true m.name k parts.1 in
    let sign : m.positive ≡ false = negative m.positive parts.0 in
    (λ j. record { positive = sign j; name = name j })
  where
    negative : (b : Bool) → not b ≡ true → b ≡ false
    negative true h = absurd (true≢false (sym h))
    negative false h = refl

-- ---- the lines of a list that introduce a name

abbrev pub introduced_in : List Line → NameLit → Bool
introduced_in lines m = list_any (λ (l : Line). introduces m l.step) lines

-- none does
none-introduced :
    (k : ℕ) (lines : List Line)
    → ((n : ℕ) (line : Line) → slice_get lines n ≡ Some line → introduces (positive_of k) line.step ≡ true → ⊥)
    → component_clause k lines ≡ None
none-introduced k [] none = refl
none-introduced k (l ∷ ls) none =
    by (is_component_of k l.step) refl (none-introduced k ls (λ n line there is. none (suc n) line there is))
  where
    by :
        (b : Bool) → is_component_of k l.step ≡ b → component_clause k ls ≡ None
        → (if b then Some (clause_of l.clause) else component_clause k ls) ≡ None
    by true is rest = absurd (none 0 l refl (sym (same-component k l.step) ∙ is))
    by false is rest = rest

-- all that do have one clause
some-introduced :
    (k : ℕ) (c : TreeClause) (lines : List Line)
    → ((n : ℕ) (line : Line) → slice_get lines n ≡ Some line → introduces (positive_of k) line.step ≡ true → clause_of line.clause ≡ c)
    → introduced_in lines (positive_of k) ≡ true → component_clause k lines ≡ Some c
some-introduced k c [] each some = absurd (true≢false (sym some))
some-introduced k c (l ∷ ls) each some =
    by (is_component_of k l.step) refl (some-introduced k c ls (λ n line there is. each (suc n) line there is))
  where
    by :
        (b : Bool) → is_component_of k l.step ≡ b → (introduced_in ls (positive_of k) ≡ true → component_clause k ls ≡ Some c)
        → (if b then Some (clause_of l.clause) else component_clause k ls) ≡ Some c
    by true is rest = ap Some (each 0 l refl (sym (same-component k l.step) ∙ is))
    by false is rest =
        rest
        (⊎_elim
        (λ (here : introduces (positive_of k) l.step ≡ true). absurd (true≢false (sym here ∙ sym (same-component k l.step) ∙ is)))
        (λ later. later) (or_cases (introduces (positive_of k) l.step) (introduced_in ls (positive_of k)) some))

-- the first one that does
pub record FirstAt (lines : List Line) (m : NameLit) : Type 0 where
  pub line : Line
  pub there : slice_get lines (definition_of lines m) ≡ Some line
  pub does : introduces m line.step ≡ true

pub first-introduced : (lines : List Line) (m : NameLit) → introduced_in lines m ≡ true → FirstAt lines m
first-introduced [] m some = absurd (true≢false (sym some))
first-introduced (l ∷ ls) m some = by (introduces m l.step) refl some (first-introduced ls m)
  where
    by :
        (b : Bool) → introduces m l.step ≡ b → (b || introduced_in ls m) ≡ true → (introduced_in ls m ≡ true → FirstAt ls m)
        → FirstAt (l ∷ ls) m
    by true is some rest = record {
      line = l;
      there = ap (λ b. slice_get (l ∷ ls) (cond (not b) (1 + definition_of ls m) 0)) is;
      does = is;
    }
    by false is some rest =
        let later = rest some in
        let place : 1 + definition_of ls m ≡ suc (definition_of ls m) = omega arith in
        record {
          line = later.line;
          there =
              ap (λ b. slice_get (l ∷ ls) (cond (not b) (1 + definition_of ls m) 0)) is ∙ ap (slice_get (l ∷ ls)) place ∙ later.there;
          does = later.does;
        }

-- ---- definitions

-- the literals for which a signed name stands
abbrev pub named_literals : List (List TreeLiteral) → NameLit → List TreeLiteral
named_literals parts m =
    if m.positive then slice_index_or (named parts) m.name [] else map complement (slice_index_or (named parts) m.name [])

abbrev pub definition : List (List TreeLiteral) → NameLit → TreeClause
definition parts m = under_names (named_literals parts m) (opposite m ∷ [])

pub at-tag : (cs : List (List TreeLiteral)) (c : List TreeLiteral) → has_part c cs ≡ true → slice_index_or cs (tag_of cs c) [] ≡ c
at-tag cs c there =
    get_or_from_slice_get cs (tag_of cs c) c [] (ap (λ ds. slice_get ds (tag_of cs c)) (parts-same c cs there) ∙ stands-at cs c)

-- of a part's signed name they are the part's
pub of-part : (parts : List (List TreeLiteral)) (part : List TreeLiteral) → has_part part parts ≡ true → named_literals parts (signed_name parts part) ≡ part
of-part parts part there =
    ap (λ ls. if not (is_ground_negative part) then ls else map complement ls) (at-tag (named parts) (affirmed part) (named-there parts part there))
    ∙ by (is_ground_negative part)
  where
    by : (g : Bool) → (if not g then (if g then map complement part else part) else map complement (if g then map complement part else part)) ≡ part
    by true = complements-back part
    by false = refl

-- ---- the table of names

-- Each line that introduces a signed name has the literals for which it stands, under its opposite; each name has a component line.
pub record AreTold (parts : List (List TreeLiteral)) (lines : List Line) : Type 0 where
  pub told :
      (m : NameLit) (n : ℕ) (line : Line) → slice_get lines n ≡ Some line → introduces m line.step ≡ true
      → (m.name < length (named parts)) × (clause_of line.clause ≡ definition parts m)
  pub components : (k : ℕ) → k < length (named parts) → introduced_in lines (positive_of k) ≡ true

-- and the signed name of each part is introduced
pub record AreNamed (parts : List (List TreeLiteral)) (lines : List Line) : Type 0 where
  pub table : AreTold parts lines
  pub signed : (part : List TreeLiteral) → has_part part parts ≡ true → introduced_in lines (signed_name parts part) ≡ true
  -- in the order of the names
  pub rise : component_names lines ≡ range_with_len 0 (length (named parts))

pub component-told : (parts : List (List TreeLiteral)) (lines : List Line) (k : ℕ) → AreTold parts lines → k < length (named parts) → component_clause k lines ≡ Some (definition parts (positive_of k))
component-told parts lines k is within =
    some-introduced k (definition parts (positive_of k)) lines (λ n line there does. (is.told (positive_of k) n line there does).1) (is.components k within)

pub component-free : (parts : List (List TreeLiteral)) (lines : List Line) (k : ℕ) → AreTold parts lines → length (named parts) ≤ k → component_clause k lines ≡ None
component-free parts lines k is past =
    none-introduced k lines
    (λ n line there does. let below : k < length (named parts) = (is.told (positive_of k) n line there does).0 in absurd (omega (arith, below, past)))

-- the line that introduces the signed name of a part
pub record IsDefined (parts : List (List TreeLiteral)) (lines : List Line) (part : List TreeLiteral) : Type 0 where
  pub line : Line
  pub there : slice_get lines (definition_of lines (signed_name parts part)) ≡ Some line
  pub introduces_one : introduces_name line.step ≡ true
  pub gives : clause_of line.clause ≡ under_names part (opposite (signed_name parts part) ∷ [])

pub part-defined :
    (parts : List (List TreeLiteral)) (lines : List Line) (part : List TreeLiteral)
    → AreNamed parts lines → has_part part parts ≡ true → IsDefined parts lines part
part-defined parts lines part is there =
    let first = first-introduced lines (signed_name parts part) (is.signed part there) in
    record {
      line = first.line;
      there = first.there;
      introduces_one = introduces-some (signed_name parts part) first.line.step first.does;
      gives =
          ((is.table).told (signed_name parts part) (definition_of lines (signed_name parts part)) first.line first.there first.does).1
          ∙ ap (λ ls. under_names ls (opposite (signed_name parts part) ∷ [])) (of-part parts part there);
    }

-- ---- lines that introduce nothing

pub told-joined :
    (parts : List (List TreeLiteral)) (lines more : List Line)
    → ((m : NameLit) (n : ℕ) (line : Line) → slice_get more n ≡ Some line → introduces m line.step ≡ true
    → (m.name < length (named parts)) × (clause_of line.clause ≡ definition parts m))
    → AreTold parts lines → AreTold parts (lines ++ more)
told-joined parts lines more each is = record {
  told =
      λ m n line there does.
      ⊎_elim (λ before. is.told m n line before does) (λ (at : BehindAt lines more n line). each m at.place line at.there does)
      (get-cases lines more n line there);
  components =
      λ k within.
      list_any-append (λ (l : Line). introduces (positive_of k) l.step) lines more
      ∙ or_left (introduced_in lines (positive_of k)) (introduced_in more (positive_of k)) (is.components k within);
}

no-component : (step : Step) → introduces_name step ≡ false → component_name step ≡ None
no-component (Component n) h = absurd (true≢false h)
no-component (Opposite n) h = refl
no-component (Input place) h = refl
no-component (Negate place) h = refl
no-component (Clausify i) h = refl
no-component (Para n m j s l z place first second) h = refl
no-component (Refl n l bind) h = refl
no-component (Factor n j s l z bind) h = refl
no-component (Merge n j l bind) h = refl
no-component (Split parent definitions parts) h = refl
no-component (Chain numbers pivots) h = refl

no-components :
    (more : List Line) → ((n : ℕ) (line : Line) → slice_get more n ≡ Some line → introduces_name line.step ≡ false) → component_names more ≡ []
no-components [] none = refl
no-components (l ∷ ls) none =
    ap (λ (o : Option ℕ). cons_option o (component_names ls)) (no-component l.step (none 0 l refl))
    ∙ no-components ls (λ n line there. none (suc n) line there)

pub named-joined :
    (parts : List (List TreeLiteral)) (lines more : List Line)
    → ((n : ℕ) (line : Line) → slice_get more n ≡ Some line → introduces_name line.step ≡ false) → AreNamed parts lines → AreNamed parts (lines ++ more)
named-joined parts lines more none is = record {
  table =
      told-joined parts lines more
      (λ m n line there does. absurd (true≢false (sym (introduces-some m line.step does) ∙ none n line there))) is.table;
  signed =
      λ part there.
      list_any-append (λ (l : Line). introduces (signed_name parts part) l.step) lines more
      ∙ or_left (introduced_in lines (signed_name parts part)) (introduced_in more (signed_name parts part)) (is.signed part there);
  rise =
      filter_map-append (λ (l : Line). component_name l.step) lines more
      ∙ ap (λ ns. component_names lines ++ ns) (no-components more none) ∙ append-nil (component_names lines) ∙ is.rise;
}
