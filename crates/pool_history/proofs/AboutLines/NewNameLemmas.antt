-- A part that is met for the first time: the lines that define its signed name.
use Rattle.std.proofs.Common.{◌≡◌, ℕ, zero, suc, ◌+◌, ◌<◌, ◌≤◌, Bool, true, false, not, ◌&&◌, ◌||◌, ◌==◌, List, [], ◌∷◌, ◌++◌, map, length, append-nil, append_assoc, refl, ap, sym, ◌∙◌, subst, ⊎_elim, arith}
use Rattle.std.specs.Prelude.{Some, slice_get, slice_index_or, if◌then◌else◌}
use Rattle.std.specs.List.{range_with_len}
use Rattle.std.proofs.lemmas.Bool.{true≢false, and_parts, or_left, or_right, or_cases, cond-true, cond-false, cases_Bool, cases_lt, eq-eqb}
use Rattle.std.proofs.lemmas.List.{length-append, get_or_append_left}
use Rattle.std.proofs.lemmas.List.Elements.{filter_map-append}
use Rattle.std.proofs.lemmas.List.Folds.{list_any-append}
use Rattle.std.proofs.lemmas.Option.{none-some, same_Some}
use Rattle.plain_types.specs.declared.sequence.NameLit.{NameLit}
use Rattle.plain_types.specs.Names.{opposite, positive_of, negative_of}
use Rattle.fol_base.specs.Clause.{TreeLiteral, TreeClause, literals_eq}
use Rattle.fol_base.specs.Ground.{is_ground_literal}
use Rattle.fol_base.specs.Literal.{clause_of}
use Rattle.kernel_steps.specs.Derivation.{complement, under_names, IsComponent, IsOpposite}
use Rattle.kernel_steps.specs.FromTrees.{line_of}
use Rattle.kernel_steps.specs.declared.step.Step.TheVariants.{Component, Opposite}
use Rattle.kernel_steps.specs.declared.step.Line.{Line}
use Rattle.kernel_steps.proofs.AboutSplits.SplitTests.{literals_eq-says}
use Rattle.split_parts.specs.Tags.{has_part, with_part, tag_of}
use Rattle.split_parts.specs.SignedNames.{is_ground_negative, affirmed, named, signed_name}
use Rattle.split_parts.proofs.AboutTags.TagLawLemmas.{met-there}
use Rattle.split_parts.proofs.AboutTags.SignedLemmas.{named-end, named-there, tag-below, next-name, complements-back}
use Rattle.split_parts.proofs.AboutTags.SignedLawLemmas.{signed_names_stay}
use Rattle.pool_history.specs.Lines.{introduces}
use Rattle.pool_history.specs.Derived.{component_name, component_names}
use Rattle.pool_history.proofs.AboutLines.JoinedLemmas.{get-cases, BehindAt}
use Rattle.pool_history.proofs.AboutLines.WrittenLemmas.{clause-written}
use Rattle.pool_history.proofs.AboutLines.NameTableLemmas.{introduced_in, of-component, of-opposite, named_literals, definition, of-part, at-tag, AreTold, AreNamed, component-told, component-free, told-joined}

-- ---- a ground negative literal

record GroundNegative (part : List TreeLiteral) : Type 0 where
  literal : TreeLiteral
  is_one : part ≡ literal ∷ []
  negative : not literal.positive ≡ true
  ground : is_ground_literal literal ≡ true

ground-negative : (part : List TreeLiteral) → is_ground_negative part ≡ true → GroundNegative part
ground-negative [] h = absurd (true≢false (sym h))
ground-negative (l ∷ []) h =
    let both = and_parts (not l.positive) (is_ground_literal l) h in
    record { literal = l; is_one = refl; negative = both.0; ground = both.1 }
ground-negative (l ∷ k ∷ ls) h = absurd (true≢false (sym h))

pub affirmed-some : (part : List TreeLiteral) → (length part ≡ 0 → ⊥) → length (affirmed part) ≡ 0 → ⊥
affirmed-some part some none = some (by (is_ground_negative part) none)
  where
    lengths : (ls : List TreeLiteral) → length (map complement ls) ≡ length ls
    lengths [] = refl
    lengths (l ∷ ls) = ap suc (lengths ls)

    by : (g : Bool) → length (if g then map complement part else part) ≡ 0 → length part ≡ 0
    by true h = sym (lengths part) ∙ h
    by false h = h

range-end : (first n : ℕ) → range_with_len first n ++ (first + n) ∷ [] ≡ range_with_len first (suc n)
range-end first zero = ap (λ k. k ∷ []) (let same : first + zero ≡ first = omega arith in same)
range-end first (suc n) =
    let same : first + suc n ≡ first + 1 + n = omega arith in
    ap (λ ks. first ∷ ks) (ap (λ k. range_with_len (first + 1) n ++ k ∷ []) same ∙ range-end (first + 1) n)

-- ---- the new part

module _
    (parts : List (List TreeLiteral)) (lines : List Line) (is : AreNamed parts lines) (part : List TreeLiteral)
    (new : has_part part parts ≡ false) where
  abbrev pub grown : List (List TreeLiteral)
  grown = with_part parts part

  abbrev pub next : NameLit
  next = signed_name grown part

  abbrev pub component_defined : TreeClause
  component_defined = under_names (affirmed part) (negative_of next.name ∷ [])

  abbrev pub opposite_defined : TreeClause
  opposite_defined = under_names part (positive_of next.name ∷ [])

  abbrev pub component_lines : List Line
  component_lines = if has_part (affirmed part) (named parts) then [] else line_of (Component next.name) component_defined ∷ []

  abbrev pub opposite_lines : List Line
  opposite_lines = if next.positive then [] else line_of (Opposite next.name) opposite_defined ∷ []

  named-is : named grown ≡ with_part (named parts) (affirmed part)
  named-is = ap named (cond-false (has_part part parts) parts (parts ++ part ∷ []) new) ∙ named-end parts part

  body-there : has_part (affirmed part) (named grown) ≡ true
  body-there = named-there grown part (met-there parts part)

  next-below : next.name < length (named grown)
  next-below = tag-below (named grown) (affirmed part) body-there

  -- what was named stays
  count-grows : length (named parts) ≤ length (named grown)
  count-grows = subst (λ cs. length (named parts) ≤ length cs) (sym named-is) (by (has_part (affirmed part) (named parts)))
    where
      by : (b : Bool) → length (named parts) ≤ length (if b then named parts else named parts ++ affirmed part ∷ [])
      by true = omega arith
      by false =
          let count : length (named parts ++ affirmed part ∷ []) ≡ length (named parts) + 1 = length-append (named parts) (affirmed part ∷ []) in
          omega (arith, count)

  literals-stay : (m : NameLit) → m.name < length (named parts) → named_literals grown m ≡ named_literals parts m
  literals-stay m within =
      ap (λ (ls : List TreeLiteral). if m.positive then ls else map complement ls)
      (ap (λ cs. slice_index_or cs m.name []) named-is ∙ by (has_part (affirmed part) (named parts)))
    where
      by : (b : Bool) → slice_index_or (if b then named parts else named parts ++ affirmed part ∷ []) m.name [] ≡ slice_index_or (named parts) m.name []
      by true = refl
      by false = get_or_append_left (named parts) (affirmed part ∷ []) [] m.name within

  definition-stays : (m : NameLit) → m.name < length (named parts) → definition parts m ≡ definition grown m
  definition-stays m within = ap (λ ls. under_names ls (opposite m ∷ [])) (sym (literals-stay m within))

  -- the name of a part that wasn't named
  next-last : has_part (affirmed part) (named parts) ≡ false → next.name ≡ length (named parts)
  next-last fresh =
      ap (λ cs. tag_of cs (affirmed part)) (named-is ∙ cond-false (has_part (affirmed part) (named parts)) (named parts) (named parts ++ affirmed part ∷ []) fresh)
      ∙ next-name (named parts) (affirmed part) fresh

  one-more : has_part (affirmed part) (named parts) ≡ false → length (named grown) ≡ length (named parts) + 1
  one-more fresh =
      ap length (named-is ∙ cond-false (has_part (affirmed part) (named parts)) (named parts) (named parts ++ affirmed part ∷ []) fresh)
      ∙ length-append (named parts) (affirmed part ∷ [])

  no-more : has_part (affirmed part) (named parts) ≡ true → length (named grown) ≡ length (named parts)
  no-more known =
      ap length (named-is ∙ cond-true (has_part (affirmed part) (named parts)) (named parts) (named parts ++ affirmed part ∷ []) known)

  component-is : component_defined ≡ definition grown (positive_of next.name)
  component-is = ap (λ ls. under_names ls (negative_of next.name ∷ [])) (sym (at-tag (named grown) (affirmed part) body-there))

  opposite-is : next.positive ≡ false → opposite_defined ≡ definition grown (negative_of next.name)
  opposite-is negative =
      ap (λ ls. under_names ls (positive_of next.name ∷ []))
      (sym (of-part grown part (met-there parts part))
      ∙ ap (λ (b : Bool). let ls : List TreeLiteral = slice_index_or (named grown) next.name [] in if b then ls else map complement ls) negative)

  -- ---- the table, after the component line and after the opposite line

  abbrev TellsOf : NameLit → TreeClause → Type 0
  TellsOf m c = (m.name < length (named grown)) × (c ≡ definition grown m)

  component-tells : (m : NameLit) (n : ℕ) (line : Line) → slice_get component_lines n ≡ Some line → introduces m line.step ≡ true → TellsOf m (clause_of line.clause)
  component-tells m n line there does = by (has_part (affirmed part) (named parts)) n there
    where
      it : Line
      it = line_of (Component next.name) component_defined

      here : introduces m it.step ≡ true → TellsOf m (clause_of it.clause)
      here does =
          subst (λ k. TellsOf k (clause_of it.clause)) (sym (of-component m next.name does)) (next-below, clause-written component_defined ∙ component-is)

      by : (b : Bool) (n : ℕ) → slice_get (if b then [] else it ∷ []) n ≡ Some line → TellsOf m (clause_of line.clause)
      by true n there = absurd (none-some line there)
      by false zero there =
          let same : it ≡ line = same_Some it line there in
          subst (λ (l : Line). introduces m l.step ≡ true → TellsOf m (clause_of l.clause)) same here does
      by false (suc n) there = absurd (none-some line there)

  opposite-tells : (m : NameLit) (n : ℕ) (line : Line) → slice_get opposite_lines n ≡ Some line → introduces m line.step ≡ true → TellsOf m (clause_of line.clause)
  opposite-tells m n line there does = by next.positive refl n there
    where
      it : Line
      it = line_of (Opposite next.name) opposite_defined

      here : next.positive ≡ false → introduces m it.step ≡ true → TellsOf m (clause_of it.clause)
      here negative does =
          subst (λ k. TellsOf k (clause_of it.clause)) (sym (of-opposite m next.name does)) (next-below, clause-written opposite_defined ∙ opposite-is negative)

      by : (b : Bool) → next.positive ≡ b → (n : ℕ) → slice_get (if b then [] else it ∷ []) n ≡ Some line → TellsOf m (clause_of line.clause)
      by true sign n there = absurd (none-some line there)
      by false sign zero there =
          let same : it ≡ line = same_Some it line there in
          subst (λ (l : Line). introduces m l.step ≡ true → TellsOf m (clause_of l.clause)) same (here sign) does
      by false sign (suc n) there = absurd (none-some line there)

  pub component-table : AreTold grown (lines ++ component_lines)
  component-table = record {
    told =
        λ m n line there does.
        ⊎_elim
        (λ (before : slice_get lines n ≡ Some line).
        let old = (is.table).told m n line before does in
        let below : m.name < length (named parts) = old.0 in
        (omega (arith, below, count-grows), old.1 ∙ definition-stays m below))
        (λ (at : BehindAt lines component_lines n line). component-tells m at.place line at.there does)
        (get-cases lines component_lines n line there);
    components =
        λ k within.
        list_any-append (λ (l : Line). introduces (positive_of k) l.step) lines component_lines
        ∙ ⊎_elim
        (λ (old : k < length (named parts)).
        or_left (introduced_in lines (positive_of k)) (introduced_in component_lines (positive_of k)) ((is.table).components k old))
        (λ (past : length (named parts) ≤ k).
        or_right (introduced_in lines (positive_of k)) (introduced_in component_lines (positive_of k)) (last k within past))
        (cases_lt k (length (named parts)));
  }
    where
      last : (k : ℕ) → k < length (named grown) → length (named parts) ≤ k → introduced_in component_lines (positive_of k) ≡ true
      last k within past =
          ⊎_elim
          (λ (known : has_part (affirmed part) (named parts) ≡ true). let same = no-more known in absurd (omega (arith, same, within, past)))
          (λ (fresh : has_part (affirmed part) (named parts) ≡ false).
          let more = one-more fresh in
          let name = next-last fresh in
          let same : k ≡ next.name = omega (arith, more, name, within, past) in
          subst (λ b. introduced_in (if b then [] else line_of (Component next.name) component_defined ∷ []) (positive_of k) ≡ true) (sym fresh)
          (or_left (k == next.name) false (eq-eqb k next.name same)))
          (cases_Bool (has_part (affirmed part) (named parts)))

  pub new-table : AreTold grown ((lines ++ component_lines) ++ opposite_lines)
  new-table = told-joined grown (lines ++ component_lines) opposite_lines opposite-tells component-table

  pub new-named : AreNamed grown (lines ++ (component_lines ++ opposite_lines))
  new-named = subst (AreNamed grown) (append_assoc lines component_lines opposite_lines) (record { table = new-table; signed = signed; rise = rise })
    where
      all : List Line
      all = (lines ++ component_lines) ++ opposite_lines

      next-in-range : has_part (affirmed part) (named parts) ≡ false → range_with_len 0 (length (named parts)) ++ next.name ∷ [] ≡ range_with_len 0 (length (named grown))
      next-in-range fresh =
          let count : suc (length (named parts)) ≡ length (named grown) = (let more = one-more fresh in omega (arith, more)) in
          let name : next.name ≡ 0 + length (named parts) = (let last = next-last fresh in omega (arith, last)) in
          ap (λ n. range_with_len 0 (length (named parts)) ++ n ∷ []) name ∙ range-end 0 (length (named parts)) ∙ ap (range_with_len 0) count

      after-component : (b : Bool) → has_part (affirmed part) (named parts) ≡ b
          → range_with_len 0 (length (named parts)) ++ component_names (if b then [] else line_of (Component next.name) component_defined ∷ [])
          ≡ range_with_len 0 (length (named grown))
      after-component true known = append-nil (range_with_len 0 (length (named parts))) ∙ ap (range_with_len 0) (sym (no-more known))
      after-component false fresh = next-in-range fresh

      no-opposite : (b : Bool) → component_names (if b then [] else line_of (Opposite next.name) opposite_defined ∷ []) ≡ []
      no-opposite true = refl
      no-opposite false = refl

      rise : component_names all ≡ range_with_len 0 (length (named grown))
      rise =
          filter_map-append (λ (l : Line). component_name l.step) (lines ++ component_lines) opposite_lines
          ∙ ap (λ ns. component_names (lines ++ component_lines) ++ ns) (no-opposite next.positive)
          ∙ append-nil (component_names (lines ++ component_lines))
          ∙ filter_map-append (λ (l : Line). component_name l.step) lines component_lines
          ∙ ap (λ ns. ns ++ component_names component_lines) is.rise
          ∙ after-component (has_part (affirmed part) (named parts)) refl

      in-all : (m : NameLit) → introduced_in lines m ≡ true → introduced_in all m ≡ true
      in-all m there =
          list_any-append (λ (l : Line). introduces m l.step) (lines ++ component_lines) opposite_lines
          ∙ or_left (introduced_in (lines ++ component_lines) m) (introduced_in opposite_lines m)
          (list_any-append (λ (l : Line). introduces m l.step) lines component_lines
          ∙ or_left (introduced_in lines m) (introduced_in component_lines m) there)

      own : introduced_in all next ≡ true
      own = by next.positive refl
        where
          by : (b : Bool) → next.positive ≡ b → introduced_in all next ≡ true
          by true sign =
              let same : positive_of next.name ≡ next = (λ j. record { positive = sym sign j; name = next.name }) in
              subst (λ m. introduced_in all m ≡ true) same (new-table.components next.name next-below)
          by false sign =
              list_any-append (λ (l : Line). introduces next l.step) (lines ++ component_lines) opposite_lines
              ∙ or_right (introduced_in (lines ++ component_lines) next) (introduced_in opposite_lines next)
              (subst (λ b. introduced_in (if b then [] else line_of (Opposite next.name) opposite_defined ∷ []) next ≡ true) (sym sign)
              (or_left (not next.positive && (next.name == next.name)) false
              (ap (λ b. not b && (next.name == next.name)) sign ∙ eq-eqb next.name next.name refl)))

      signed : (p : List TreeLiteral) → has_part p grown ≡ true → introduced_in all (signed_name grown p) ≡ true
      signed p there =
          ⊎_elim
          (λ (old : has_part p parts ≡ true).
          subst (λ m. introduced_in all m ≡ true) (sym (signed_names_stay parts p part old)) (in-all (signed_name parts p) (is.signed p old)))
          (λ (one : (literals_eq p part || false) ≡ true).
          let here : literals_eq p part ≡ true = ⊎_elim (λ h. h) (λ (none : false ≡ true). absurd (true≢false (sym none))) (or_cases (literals_eq p part) false one) in
          subst (λ (q : List TreeLiteral). introduced_in all (signed_name grown q) ≡ true) (sym (literals_eq-says p part here)) own)
          (or_cases (has_part p parts) (literals_eq p part || false)
          (sym (list_any-append (literals_eq p) parts (part ∷ [])) ∙ ap (has_part p) (sym (cond-false (has_part part parts) parts (parts ++ part ∷ []) new)) ∙ there))

  -- ---- the new lines as kernel steps

  pub component-comes : has_part (affirmed part) (named parts) ≡ false → (length part ≡ 0 → ⊥) → IsComponent next.name lines component_defined
  component-comes fresh some = record {
    is_new = (let name = next-last fresh in component-free parts lines next.name is.table (omega (arith, name)));
    some_literal = affirmed-some part some;
    one_name = refl;
  }

  pub opposite-comes : next.positive ≡ false → IsOpposite next.name (lines ++ component_lines) opposite_defined
  opposite-comes negative =
      let one = ground-negative part (sign (is_ground_negative part) negative) in
      record {
        component = definition grown (positive_of next.name);
        introduced = component-told grown (lines ++ component_lines) next.name component-table next-below;
        literal = complement one.literal;
        one_literal =
            at-tag (named grown) (affirmed part) body-there
            ∙ cond-true (is_ground_negative part) (map complement part) part (sign (is_ground_negative part) negative)
            ∙ ap (map complement) one.is_one;
        positive = one.negative;
        ground = one.ground;
        complemented = one.is_one ∙ sym (complements-back (one.literal ∷ []));
        one_name = refl;
      }
    where
      sign : (g : Bool) → not g ≡ false → g ≡ true
      sign true h = refl
      sign false h = absurd (true≢false h)
