-- The parts of a clause get their tags, one after another; and the line of a split.
use Rattle.std.proofs.Common.{◌≡◌, ℕ, ◌-◌, Bool, true, false, ◌||◌, List, [], ◌∷◌, ◌++◌, map, length, refl, ap, ap₂, sym, ◌∙◌, subst, arith, append_assoc}
use Rattle.std.specs.Prelude.{fold, if◌then◌else◌, All}
use Rattle.std.proofs.lemmas.Bool.{true≢false, or_left}
use Rattle.std.proofs.lemmas.List.{length-append, length-map, map-append}
use Rattle.std.proofs.lemmas.List.Elements.{All-head, All-tail, All-push, All-weaker}
use Rattle.std.proofs.lemmas.List.Folds.{list_any-append}
use Rattle.plain_types.specs.declared.sequence.NameLit.{NameLit}
use Rattle.fol_base.specs.Clause.{TreeLiteral, literals_eq}
use Rattle.kernel_steps.specs.FromTrees.{line_of}
use Rattle.kernel_steps.specs.Derivation.{introduces_name, under_names}
use Rattle.kernel_steps.specs.declared.step.Step.{Step}
use Rattle.kernel_steps.specs.declared.step.Line.{Line}
use Rattle.split_parts.specs.PartKeys.{key_part}
use Rattle.split_parts.specs.Tags.{has_part, with_part, tag_of}
use Rattle.split_parts.specs.declared.key.PartKey.{PartKey}
use Rattle.split_parts.proofs.AboutTags.TagLawLemmas.{met-there, tags-stay}
use Rattle.pool_history.specs.Record.{PoolRecord, PropositionalClause}
use Rattle.pool_history.specs.Lines.{introduces}
use Rattle.pool_history.specs.Registering.{with_split, with_tag}
use Rattle.pool_history.proofs.AboutLines.NameTableLemmas.{introduces-some}
use Rattle.pool_core.specs.Splits.{SplitView, AreSplitsOf, AreStepsAndSplitsOf}
use Rattle.pool_core.proofs.AboutSplits.SplitsLemmas.{splits-longer}

-- ---- tags

-- a part that is there stays there
has-more : (parts : List (List TreeLiteral)) (part q : List TreeLiteral) → has_part q parts ≡ true → has_part q (with_part parts part) ≡ true
has-more parts part q there = by (has_part part parts)
  where
    by : (b : Bool) → has_part q (if b then parts else parts ++ part ∷ []) ≡ true
    by true = there
    by false = list_any-append (literals_eq q) parts (part ∷ []) ∙ or_left (has_part q parts) (has_part q (part ∷ [])) there

abbrev pub tags_in : List (List TreeLiteral) → List PartKey → List ℕ
tags_in parts keys = map (λ part. tag_of parts (key_part part)) keys

-- they stay when another part is met
tags-kept : (parts : List (List TreeLiteral)) (part : List TreeLiteral) (keys : List PartKey) → All (λ k. has_part (key_part k) parts ≡ true) keys
    → tags_in (with_part parts part) keys ≡ tags_in parts keys
tags-kept parts part [] there = refl
tags-kept parts part (k ∷ ks) there =
    ap₂ (λ (n : ℕ) (ns : List ℕ). n ∷ ns) (tags-stay parts (key_part k) part (All-head (λ k. has_part (key_part k) parts ≡ true) k ks there))
    (tags-kept parts part ks (All-tail (λ k. has_part (key_part k) parts ≡ true) k ks there))

-- The parts that are left lead from what is kept now to the end; the others have their tags.
pub record AreDefinedSoFar
    (before : SplitView) (steps_before : List Step) (tags_before : List ℕ) (parts : List PartKey)
    (now : SplitView) (steps : List Step) (noted : List ℕ) (rest : List PartKey) : Type 0 where
  pub came :
      (r : PoolRecord) → AreStepsAndSplitsOf before steps_before r
      → (s : PoolRecord) × AreStepsAndSplitsOf now steps s × (fold with_tag s (map key_part rest) ≡ fold with_tag r (map key_part parts))
  pub done : List PartKey
  pub whole : parts ≡ done ++ rest
  pub there : All (λ k. has_part (key_part k) now.parts ≡ true) done
  pub tags : noted ≡ tags_before ++ tags_in now.parts done

module _ (before : SplitView) (steps_before : List Step) (tags_before : List ℕ) (parts : List PartKey) where
  pub one-defined :
      (now next : SplitView) (steps after : List Step) (tags more : List ℕ) (part : PartKey) (rest : List PartKey) (tag : ℕ)
      → ((r : PoolRecord) → AreStepsAndSplitsOf now steps r → AreStepsAndSplitsOf next after (with_tag r (key_part part)))
      → next.parts ≡ with_part now.parts (key_part part) → tag ≡ tag_of next.parts (key_part part) → more ≡ tags ++ tag ∷ []
      → AreDefinedSoFar before steps_before tags_before parts now steps tags (part ∷ rest)
      → AreDefinedSoFar before steps_before tags_before parts next after more rest
  one-defined now next steps after tags more part rest tag defined added is_tag further so_far = record {
    came = λ r is. let was = so_far.came r is in (with_tag was.0 (key_part part), defined was.0 was.1, was.2);
    done = so_far.done ++ part ∷ [];
    whole = so_far.whole ∙ sym (append_assoc so_far.done (part ∷ []) rest);
    there =
        All-push (λ (k : PartKey). has_part (key_part k) next.parts ≡ true) so_far.done part
        (All-weaker (λ (k : PartKey). has_part (key_part k) now.parts ≡ true) (λ (k : PartKey). has_part (key_part k) next.parts ≡ true)
        (λ k h. ap (has_part (key_part k)) added ∙ has-more now.parts (key_part part) (key_part k) h) so_far.done so_far.there)
        (ap (has_part (key_part part)) added ∙ met-there now.parts (key_part part));
    tags =
        further ∙ ap₂ (λ (ns : List ℕ) (n : ℕ). ns ++ n ∷ []) so_far.tags is_tag
        ∙ append_assoc tags_before (tags_in now.parts so_far.done) (tag_of next.parts (key_part part) ∷ [])
        ∙ ap (λ (ns : List ℕ). tags_before ++ (ns ++ tag_of next.parts (key_part part) ∷ []))
        (sym (ap (λ ps. tags_in ps so_far.done) added ∙ tags-kept now.parts (key_part part) so_far.done so_far.there))
        ∙ ap (λ ns. tags_before ++ ns) (sym (map-append (λ (k : PartKey). tag_of next.parts (key_part k)) so_far.done (part ∷ [])));
  }

-- ---- the split line

not-introducing : (n : NameLit) (step : Step) → introduces_name step ≡ false → introduces n step ≡ false
not-introducing n step none = by (introduces n step) refl
  where
    by : (b : Bool) → introduces n step ≡ b → b ≡ false
    by false does = refl
    by true does = absurd (true≢false (sym (introduces-some n step does) ∙ none))

pub split-added :
    (v w : SplitView) (steps after : List Step) (r : PoolRecord) (step : Step) (names : List NameLit) (line : ℕ)
    → AreStepsAndSplitsOf v steps r → introduces_name step ≡ false → after ≡ steps ++ step ∷ [] → line ≡ length steps
    → ((parts : List (List TreeLiteral)) (lines : List Line) (clauses : List PropositionalClause) (model : List Bool) (modelled : ℕ)
    → AreSplitsOf v parts lines clauses model modelled → AreSplitsOf w parts lines (clauses ++ record { names = names; line = line } ∷ []) model modelled)
    → AreStepsAndSplitsOf w after (with_split step names r)
split-added v w steps after r step names line is plain further number added =
    let it : Line = line_of step (under_names [] names) in
    let long = length-append r.lines (it ∷ []) in
    let many : length steps ≡ length r.lines = ap length is.steps ∙ length-map r.lines (λ (l : Line). l.step) in
    let last : line ≡ length (r.lines ++ it ∷ []) - 1 = omega (arith, long, many, number) in
    record {
      steps =
          further ∙ ap (λ (ss : List Step). ss ++ step ∷ []) is.steps
          ∙ sym (map-append (λ (l : Line). l.step) r.lines (it ∷ []));
      splits =
          subst (λ (n : ℕ). AreSplitsOf w r.parts (r.lines ++ it ∷ []) (r.propositional ++ record { names = names; line = n } ∷ []) r.model r.modelled) last
          (added r.parts (r.lines ++ it ∷ []) r.propositional r.model r.modelled
          (splits-longer v r.parts r.lines r.propositional r.model r.modelled (it ∷ []) (λ n. ap (λ b. b || false) (not-introducing n step plain)) is.splits));
    }
