-- A clause that falls into parts keeps what a record keeps of its lines: the parts get their tags, the split line gives the propositional clause,
-- and the parts are registered by the lines of their definitions.
use Rattle.std.proofs.Common.{◌≡◌, ℕ, zero, suc, ◌<◌, Bool, true, false, ◌==◌, List, [], ◌∷◌, ◌++◌, map, length, refl, ap, ap₂, sym, ◌∙◌, subst, arith}
use Rattle.std.specs.Prelude.{Option, None, Some, nat_lt, slice_get, option_map, option_and_then, flat_map, fold}
use Rattle.std.specs.List.{AllByRecursion}
use Rattle.std.proofs.lemmas.Bool.{true≢false, and_parts, and_from, eqb-true, or_left, cond-true, not_from_false, ne_eqb, lt-ltb}
use Rattle.std.proofs.lemmas.List.Elements.{All-nil, All-cons}
use Rattle.std.proofs.lemmas.List.Folds.{list_any-append}
use Rattle.std.proofs.lemmas.Option.{none-some, same_Some}
use Rattle.plain_types.specs.declared.sequence.NameLit.{NameLit}
use Rattle.plain_types.specs.Names.{opposite, negative_of}
use Rattle.plain_types.proofs.NameLemmas.{opposite-opposite}
use Rattle.fol_base.specs.Clause.{TreeLiteral, TreeClause, literals_eq}
use Rattle.fol_base.specs.Literal.{clause_of}
use Rattle.fol_base.specs.WellFormed.{SymbolUse}
use Rattle.kernel_steps.specs.Names.{sorted_names}
use Rattle.kernel_steps.specs.Parents.{Parent, all_there}
use Rattle.kernel_steps.specs.Conclusion.{verdict, concludes, verdict_of, clause_with, split_from}
use Rattle.kernel_steps.specs.Derivation.{under_names, introduces_name, is_clause_step, line_parents}
use Rattle.kernel_steps.specs.FromTrees.{line_of}
use Rattle.kernel_steps.specs.Split.{has_all_below, share_out, is_split, are_defined, literals_at, canonical_literals}
use Rattle.kernel_steps.specs.declared.step.Step.TheVariants.{Split}
use Rattle.kernel_steps.specs.declared.step.Line.{Line}
use Rattle.kernel_steps.proofs.AboutNames.NameRanks.{sorted_names-sorted}
use Rattle.split_parts.specs.PartKeys.{literals_eq-refl}
use Rattle.split_parts.specs.Tags.{has_part, with_part, tag_of}
use Rattle.split_parts.specs.SignedNames.{signed_name}
use Rattle.split_parts.proofs.AboutParts.SplitLemmas.{components-split}
use Rattle.split_parts.proofs.AboutTags.TagLemmas.{parts-same}
use Rattle.split_parts.proofs.AboutTags.TagLawLemmas.{met-there}
use Rattle.split_parts.proofs.AboutTags.SignedLemmas.{tag-below}
use Rattle.pool_history.specs.Components.{components_of, parts_of}
use Rattle.pool_history.specs.Tags.{name_count, line_names}
use Rattle.pool_history.specs.Record.{PoolRecord, has_living}
use Rattle.pool_history.specs.Lines.{with_lines, last_number, definition_of}
use Rattle.pool_history.specs.Registering.{with_new_part, with_tag, with_part_clause, with_split, split_up, registered_by}
use Rattle.pool_history.specs.Wholeness.{IsWhole}
use Rattle.pool_history.specs.Derived.{IsPoolLine}
use Rattle.pool_history.proofs.AboutRecords.FrameLemmas.{by-if}
use Rattle.pool_history.proofs.AboutRecords.ItemLemmas.{all-at}
use Rattle.pool_history.proofs.AboutLines.JoinedLemmas.{by-test}
use Rattle.pool_history.proofs.AboutLines.FinestLemmas.{computed-finest}
use Rattle.pool_history.proofs.AboutLines.AssertionLemmas.{assertions-from, below-from}
use Rattle.pool_history.proofs.AboutLines.NameBoundLemmas.{signed-below, line-names-below, split-names-below}
use Rattle.pool_history.proofs.AboutLines.WrittenLemmas.{clause-written, written-line}
use Rattle.pool_history.proofs.AboutLines.NameTableLemmas.{AreNamed, IsDefined, at-tag, part-defined}
use Rattle.pool_history.proofs.AboutLines.PartLemmas.{IsPart}
use Rattle.pool_history.proofs.AboutLines.PoolLineLemmas.{parent-there, HasLine, Sound, lines-sound, registered-sound, propositional-sound}
use Rattle.pool_history.proofs.AboutLines.SplitLineLemmas.{line-goes-on, whole-grown, line-grown, new-part-sound}

-- a part that is there stays there
has-stays : (parts : List (List TreeLiteral)) (part q : List TreeLiteral) → has_part q parts ≡ true → has_part q (with_part parts part) ≡ true
has-stays parts part q there =
    by-if (λ cs. has_part q cs ≡ true) (has_part part parts) parts (parts ++ part ∷ []) there
    (list_any-append (literals_eq q) parts (part ∷ []) ∙ or_left (has_part q parts) (has_part q (part ∷ [])) there)

abbrev pub AreThere : List (List TreeLiteral) → List (List TreeLiteral) → Type 0
AreThere parts ps = AllByRecursion (λ p. has_part p parts ≡ true) ps

-- a clause with a literal has a component
some-component : (ls : List TreeLiteral) → (length ls ≡ 0 → ⊥) → components_of ls ≡ [] → ⊥
some-component ls some none =
    let shared : share_out (length ls) [] ≡ true = ap (share_out (length ls)) (sym none) ∙ (computed-finest ls).shared_out in
    some (sym (eqb-true 0 (length ls) (and_parts (0 == length ls) (has_all_below (length ls) []) shared).0))

-- a part that gets its tag is among the parts, and stays there
pub tag-parts : (r : PoolRecord) (part : List TreeLiteral) → (with_tag r part).parts ≡ with_part r.parts part
tag-parts r part =
    by-test (λ (s : PoolRecord). s.parts ≡ with_part r.parts part) (has_part part r.parts) r (with_new_part part (with_part r.parts part) r)
    (λ known. parts-same part r.parts known) (λ new. refl)

tags-keep : (ps : List (List TreeLiteral)) (r : PoolRecord) (q : List TreeLiteral) → has_part q r.parts ≡ true → has_part q (fold with_tag r ps).parts ≡ true
tags-keep [] r q there = there
tags-keep (p ∷ ps) r q there =
    tags-keep ps (with_tag r p) q (ap (has_part q) (tag-parts r p) ∙ has-stays r.parts p q there)

pub tags-there : (ps : List (List TreeLiteral)) (r : PoolRecord) → AreThere (fold with_tag r ps).parts ps
tags-there [] r = tt
tags-there (p ∷ ps) r =
    (tags-keep ps (with_tag r p) p (ap (has_part p) (tag-parts r p) ∙ met-there r.parts p), tags-there ps (with_tag r p))

-- ---- the step of a split

module _ (lines : List Line) (parts : List (List TreeLiteral)) (is : AreNamed parts lines)
    (clauses : (n : ℕ) (line : Line) → slice_get lines n ≡ Some line → is_clause_step line.step ≡ true) where
  -- the definition of a part, as a parent
  abbrev defining : List TreeLiteral → Parent
  defining p = record { clause = under_names p (opposite (signed_name parts p) ∷ []); introduces = true }

  definition-there : (p : List TreeLiteral) → has_part p parts ≡ true → line_parents lines (definition_of lines (signed_name parts p)) ≡ Some (defining p)
  definition-there p there =
      let at = part-defined parts lines p is there in
      let make : TreeClause → Bool → Option Parent = λ c b. Some (record { clause = c; introduces = b }) in
      parent-there lines (definition_of lines (signed_name parts p)) at.line at.there (clauses (definition_of lines (signed_name parts p)) at.line at.there)
      ∙ ap₂ make at.gives at.introduces_one

  definitions-there :
      (ps : List (List TreeLiteral)) → AreThere parts ps
      → all_there (map (line_parents lines) (map (definition_of lines) (map (signed_name parts) ps))) ≡ Some (map defining ps)
  definitions-there [] there = refl
  definitions-there (p ∷ ps) there =
      ap₂ (λ (o : Option Parent) (os : Option (List Parent)). option_and_then (λ x. option_map (λ xs. x ∷ xs) os) o)
      (definition-there p there.0) (definitions-there ps there.1)

  names-back : (ps : List (List TreeLiteral)) → map opposite (flat_map (λ (d : Parent). d.clause.names) (map defining ps)) ≡ map (signed_name parts) ps
  names-back [] = refl
  names-back (p ∷ ps) = ap₂ (λ n ns. n ∷ ns) (opposite-opposite (signed_name parts p)) (names-back ps)

  all-defined :
      (ls : List TreeLiteral) (kss : List (List ℕ))
      → are_defined (map Some (map defining (map (λ ks. canonical_literals (literals_at ls ks)) kss))) (map (literals_at ls) kss) ≡ true
  all-defined ls [] = refl
  all-defined ls (ks ∷ kss) =
      and_from (literals_eq (canonical_literals (literals_at ls ks)) (canonical_literals (literals_at ls ks)))
      (are_defined (map Some (map defining (map (λ js. canonical_literals (literals_at ls js)) kss))) (map (literals_at ls) kss))
      (literals_eq-refl (canonical_literals (literals_at ls ks))) (all-defined ls kss)

  split-concludes :
      (n : ℕ) (line : Line) (ls : List TreeLiteral) (ns : List NameLit)
      → slice_get lines n ≡ Some line → clause_of line.clause ≡ under_names ls ns → (length ls ≡ 0 → ⊥) → AreThere parts (parts_of ls)
      → verdict (Split n (map (definition_of lines) (map (signed_name parts) (parts_of ls))) (components_of ls)) (line_parents lines)
      ≡ concludes (under_names [] (sorted_names (ns ++ map (signed_name parts) (parts_of ls))))
  split-concludes n line ls ns at gives some there =
      let ps : List (List TreeLiteral) = parts_of ls in
      let ds : List Parent = map defining ps in
      let comps : List (List ℕ) = components_of ls in
      let make : TreeClause → Parent = λ c. record { clause = c; introduces = introduces_name line.step } in
      let made : TreeClause = clause_with (ns ++ map opposite (flat_map (λ (d : Parent). d.clause.names) ds)) [] in
      let can : is_split ls ds comps ≡ true =
      components-split ls (map Some ds) comps (not_from_false (length ls == 0) (ne_eqb (length ls) 0 some)) (computed-finest ls) (all-defined ls comps) in
      ap₂ (λ (o : Option Parent) (os : Option (List Parent)). verdict_of (option_and_then (λ p. option_and_then (λ qs. split_from p qs comps) os) o))
      (parent-there lines n line at (clauses n line at) ∙ ap (λ c. Some (make c)) gives) (definitions-there ps there)
      ∙ ap verdict_of (cond-true (is_split ls ds comps) (Some made) None can)
      ∙ ap (λ ms. concludes (clause_with (ns ++ ms) [])) (names-back ps)

-- ---- records

module _ (usage : SymbolUse) (inputs : List TreeClause) where
  -- a clause that is to fall into parts, with the number of its line
  record Splits (c : TreeClause) (n : ℕ) (r : PoolRecord) : Type 0 where
    sound : Sound usage inputs r
    is_open : r.ended ≡ None
    whole : IsWhole usage (length r.parts) c
    line : HasLine usage inputs r.parts r.lines (record { clause = c; line = n })

  tag-splits : (c : TreeClause) (n : ℕ) (r : PoolRecord) (part : List TreeLiteral) → IsPart usage inputs part → Splits c n r → Splits c n (with_tag r part)
  tag-splits c n r part part_is is =
      by-test (Splits c n) (has_part part r.parts) r (with_new_part part (with_part r.parts part) r) (λ known. is)
      (λ new. record {
        sound = new-part-sound usage inputs r is.sound part new part_is is.is_open;
        is_open = is.is_open;
        whole = whole-grown usage inputs r is.sound part new part_is c is.whole;
        line = line-grown usage inputs r is.sound part new part_is (record { clause = c; line = n }) is.whole is.line;
      })

  tags-split :
      (c : TreeClause) (n : ℕ) (ps : List (List TreeLiteral)) (r : PoolRecord) → AllByRecursion (IsPart usage inputs) ps → Splits c n r
      → Splits c n (fold with_tag r ps)
  tags-split c n [] r all is = is
  tags-split c n (p ∷ ps) r all is = tags-split c n ps (with_tag r p) all.1 (tag-splits c n r p all.0 is)

  -- ---- the split line, and the propositional clause

  module _ (c : TreeClause) (n : ℕ) (r : PoolRecord) (is : Splits c n r) (some : length c.literals ≡ 0 → ⊥) (there : AreThere r.parts (parts_of c.literals)) where
    abbrev signed_names : List NameLit
    signed_names = map (signed_name r.parts) (parts_of c.literals)

    abbrev split_names : List NameLit
    split_names = sorted_names (line_names r.parts c.names ++ signed_names)

    abbrev split_clause : TreeClause
    split_clause = under_names [] split_names

    clause-lines : (k : ℕ) (line : Line) → slice_get r.lines k ≡ Some line → is_clause_step line.step ≡ true
    clause-lines k line at = (all-at (IsPoolLine usage) r.lines k line is.sound.made.each at).step

    split-sound : (numbers : List ℕ) → numbers ≡ map (definition_of r.lines) signed_names → Sound usage inputs (with_split (Split n numbers (components_of c.literals)) split_names r)
    split-sound numbers same =
        let line : Line = line_of (Split n numbers (components_of c.literals)) split_clause in
        propositional-sound usage inputs (with_lines r (line ∷ [])) split_names
        (lines-sound usage inputs r (line ∷ []) is.is_open is.sound
        (line-goes-on usage inputs r.lines (Split n numbers (components_of c.literals)) split_clause
        (subst (λ ms. verdict (Split n ms (components_of c.literals)) (line_parents r.lines) ≡ concludes split_clause) (sym same)
        (split-concludes r.lines r.parts is.sound.named clause-lines n is.line.line c.literals (line_names r.parts c.names) is.line.there is.line.gives some there))
        (written-line usage (Split n numbers (components_of c.literals)) split_clause refl refl refl
        (sorted_names-sorted (line_names r.parts c.names ++ signed_names)) refl (omega arith))
        refl (λ test truth pass. refl))
        (alone line refl))
        (some-part (components_of c.literals) there (some-component c.literals some))
        (split-names-below (name_count r.parts) (line_names r.parts c.names) signed_names
        (line-names-below r.parts c.names (below-from (length r.parts) c.names is.whole.asserts.negative is.whole.met))
        (signed-below r.parts (parts_of c.literals) there))
        (record { last = line; ends = record { before = r.lines; ends = refl }; gives = clause-written split_clause })
      where
        some-part :
            (kss : List (List ℕ)) → AreThere r.parts (map (λ ks. canonical_literals (literals_at c.literals ks)) kss) → (kss ≡ [] → ⊥) → r.parts ≡ [] → ⊥
        some-part [] there some none = some refl
        some-part (ks ∷ kss) there some none =
            true≢false (sym there.0 ∙ ap (has_part (canonical_literals (literals_at c.literals ks))) none)

        alone : (line : Line) → introduces_name line.step ≡ false → (k : ℕ) (l : Line) → slice_get (line ∷ []) k ≡ Some l → introduces_name l.step ≡ false
        alone line none zero l at = subst (λ (m : Line). introduces_name m.step ≡ false) (same_Some line l at) none
        alone line none (suc k) l at = absurd (none-some l at)

  -- ---- the parts are registered

  part-registered :
      (r : PoolRecord) (part : List TreeLiteral) → Sound usage inputs r → IsPart usage inputs part → has_part part r.parts ≡ true
      → Sound usage inputs (with_part_clause r part)
  part-registered r part sound is there =
      by-if (Sound usage inputs) (has_living r c) r (registered_by (definition_of r.lines (signed_name r.parts part)) c r) sound
      (registered-sound usage inputs r (definition_of r.lines (signed_name r.parts part)) c sound whole
      (record {
        line = at.line;
        there = at.there;
        gives =
            at.gives
            ∙ ap (λ (q : List TreeLiteral). under_names part (opposite (signed_name r.parts q) ∷ [])) (sym (at-tag r.parts part there));
      }))
    where
      tag : ℕ
      tag = tag_of r.parts part

      c : TreeClause
      c = under_names part (negative_of (tag_of r.parts part) ∷ [])

      below : tag_of r.parts part < length r.parts
      below = tag-below r.parts part there

      at : IsDefined r.parts r.lines part
      at = part-defined r.parts r.lines part sound.named there

      whole : IsWhole usage (length r.parts) c
      whole = record {
        canonical = is.canonical;
        asserts =
            assertions-from (length r.parts) (negative_of (tag_of r.parts part) ∷ [])
            (and_from (nat_lt (tag_of r.parts part) (length r.parts)) true (lt-ltb (tag_of r.parts part) (length r.parts) below) refl) refl;
        met = All-cons (λ m. m.name < length r.parts) (negative_of (tag_of r.parts part)) [] below (All-nil (λ m. m.name < length r.parts));
        small = is.small;
        formed = is.formed;
      }

  part-clause-parts : (r : PoolRecord) (part : List TreeLiteral) → (with_part_clause r part).parts ≡ r.parts
  part-clause-parts r part =
      let c : TreeClause = under_names part (negative_of (tag_of r.parts part) ∷ []) in
      by-if (λ (s : PoolRecord). s.parts ≡ r.parts) (has_living r c) r (registered_by (definition_of r.lines (signed_name r.parts part)) c r) refl refl

  parts-registered :
      (ps : List (List TreeLiteral)) (r : PoolRecord) → Sound usage inputs r → AllByRecursion (IsPart usage inputs) ps → AreThere r.parts ps
      → Sound usage inputs (fold with_part_clause r ps)
  parts-registered [] r sound all there = sound
  parts-registered (p ∷ ps) r sound all there =
      parts-registered ps (with_part_clause r p) (part-registered r p sound all.0 there.0) all.1
      (subst (λ cs. AreThere cs ps) (sym (part-clause-parts r p)) there.1)

  -- a clause of which the parts are parts falls into them
  pub split_up-sound :
      (c : TreeClause) (r : PoolRecord)
      → r.ended ≡ None → Sound usage inputs r → IsWhole usage (length r.parts) c
      → HasLine usage inputs r.parts r.lines (record { clause = c; line = last_number r })
      → (length c.literals ≡ 0 → ⊥) → AllByRecursion (IsPart usage inputs) (parts_of c.literals) → Sound usage inputs (split_up c r)
  split_up-sound c r is_open sound whole line some all =
      let ps : List (List TreeLiteral) = parts_of c.literals in
      let s : PoolRecord = fold with_tag r ps in
      let is : Splits c (last_number r) s =
      tags-split c (last_number r) ps r all (record { sound = sound; is_open = is_open; whole = whole; line = line }) in
      let there : AreThere s.parts ps = tags-there ps r in
      parts-registered ps _ (split-sound c (last_number r) s is some there (map (definition_of s.lines) (map (signed_name s.parts) ps)) refl) all there
