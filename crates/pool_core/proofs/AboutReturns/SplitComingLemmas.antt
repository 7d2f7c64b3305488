-- A result that comes as a clause over names, or in parts; and a part that is registered under its tag.
use Rattle.std.proofs.Common.{◌≡◌, ℕ, zero, suc, ◌-◌, ◌<◌, Bool, true, false, ◌||◌, List, [], ◌∷◌, ◌++◌, map, length, get_or, refl, ap, ap₂, sym, ◌∙◌, subst, arith}
use Rattle.std.specs.Prelude.{None, fold, All, if◌then◌else◌}
use Rattle.std.specs.List.{list_all}
use Rattle.std.proofs.lemmas.Bool.{cond-true, cond-false}
use Rattle.std.proofs.lemmas.List.{length-map}
use Rattle.std.proofs.lemmas.List.Elements.{All-nil, All-cons, All-head, All-tail, All-weaker}
use Rattle.std.proofs.lemmas.List.Folds.{list_any-append}
use Rattle.plain_types.specs.declared.sequence.NameLit.{NameLit}
use Rattle.plain_types.specs.Names.{same_name, has_name, negative_of, opposite}
use Rattle.fol_base.specs.Clause.{TreeLiteral, TreeClause}
use Rattle.fol_base.specs.Subsumption.{assertions}
use Rattle.kernel_steps.specs.Derivation.{under_names}
use Rattle.kernel_steps.specs.FromTrees.{line_of}
use Rattle.kernel_steps.specs.Lines.{is_plain_step}
use Rattle.kernel_steps.specs.Names.{sorted_names}
use Rattle.kernel_steps.specs.declared.step.Step.{Step}
use Rattle.kernel_steps.specs.declared.step.Step.TheVariants.{Split}
use Rattle.kernel_steps.specs.declared.step.Line.{Line}
use Rattle.kernel_steps.proofs.AboutNames.NameTruth.{has_name-sorted_names}
use Rattle.kernel_steps.proofs.AboutNames.NameRanks.{sorted_names-same}
use Rattle.split_parts.specs.PartKeys.{key_part}
use Rattle.split_parts.specs.SignedNames.{signed_name}
use Rattle.split_parts.specs.Tags.{has_part, tag_of}
use Rattle.split_parts.specs.declared.key.PartKey.{PartKey}
use Rattle.split_parts.proofs.AboutTags.SignedLemmas.{tag-below}
use Rattle.term_bank.specs.declared.bank.Bank.{Bank}
use Rattle.term_bank.specs.declared.table.Table.{Table}
use Rattle.bank_clause.specs.Clause.{clause_at}
use Rattle.bank_clause.specs.Parts.{ClauseParts}
use Rattle.pool_history.specs.Components.{components_of, parts_of}
use Rattle.pool_history.specs.Counting.{result_comes}
use Rattle.pool_history.specs.Lines.{with_parents, line_number, pool_line, with_lines, last_number, definition_of}
use Rattle.pool_history.specs.Record.{PoolRecord, PropositionalClause, has_living}
use Rattle.pool_history.specs.Registering.{registered_by, with_part_clause, with_split, with_tag}
use Rattle.pool_history.specs.Tags.{line_names, name_of_tag}
use Rattle.pool_history.proofs.AboutLines.NameTableLemmas.{at-tag}
use Rattle.pool_history.proofs.AboutLines.SplitSoundLemmas.{tags-there}
use Rattle.pool_core.specs.Parted.{AreMet, IsUnasserted}
use Rattle.pool_core.specs.Placing.{AreAsserted, IsComing, LeadTo}
use Rattle.pool_core.specs.Splits.{SplitView, AreSplitsOf, AreStepsAndSplitsOf, definition_lines, split_view}
use Rattle.pool_core.specs.Started.{registered_at}
use Rattle.pool_core.specs.State.{IsProofStateOf}
use Rattle.pool_core.specs.declared.form.AssertedTags.{AssertedTags}
use Rattle.pool_core.specs.declared.form.Form.TheVariants.{Contradiction, Parts}
use Rattle.pool_core.specs.declared.form.SplitClause.{SplitClause}
use Rattle.pool_core.specs.declared.parts.InternedPart.{InternedPart}
use Rattle.pool_core.specs.declared.pool.ProofState.{ProofState}
use Rattle.pool_core.proofs.AboutBeginnings.StartLemmas.{steps-of}
use Rattle.pool_core.proofs.AboutReturns.ComingLemmas.{steps-placed}
use Rattle.pool_core.proofs.AboutReturns.FormLemmas.{result-contradiction, result-split}
use Rattle.pool_core.proofs.AboutReturns.GrownLemmas.{parts-same, tags-grow, tags-only, grown-state}
use Rattle.pool_core.proofs.AboutSplits.HandedLemmas.{split-some}
use Rattle.pool_core.proofs.AboutSplits.PartedLemmas.{parts-counted, parts-keyed}
use Rattle.pool_core.proofs.AboutSplits.SplitsLemmas.{none-introduced, splits-longer}

-- ---- lists

map-both : {X Y Z : Type 0} (f : X → Y) (g : Y → Z) (xs : List X) → map (λ x. g (f x)) xs ≡ map g (map f xs)
map-both f g [] = refl
map-both {X} {Y} {Z} f g (x ∷ xs) = ap (λ (zs : List Z). g (f x) ∷ zs) (map-both f g xs)

get-of-map : {X : Type 0} (f : X → ℕ) (xs : List X) (n : ℕ) (d : X) → n < length xs → get_or (map f xs) n 0 ≡ f (get_or xs n d)
get-of-map f [] n d below = absurd (omega (arith, below))
get-of-map f (x ∷ xs) zero d below = refl
get-of-map f (x ∷ xs) (suc n) d below = get-of-map f xs n d (omega (arith, below))

-- names that were sorted before others came
sorted-before : (ns ms : List NameLit) → sorted_names (ns ++ ms) ≡ sorted_names (sorted_names ns ++ ms)
sorted-before ns ms =
    sorted_names-same (ns ++ ms) (sorted_names ns ++ ms) (λ k.
    list_any-append (same_name k) ns ms
    ∙ ap (λ b. b || has_name k ms) (sym (has_name-sorted_names k ns))
    ∙ sym (list_any-append (same_name k) (sorted_names ns) ms))

-- ---- parts by their tags

module _ (parts : List (List TreeLiteral)) where
  met-names : (lss : List (List TreeLiteral)) → AreMet parts lss → map (name_of_tag parts) (map (tag_of parts) lss) ≡ map (signed_name parts) lss
  met-names [] met = refl
  met-names (ls ∷ lss) met =
      ap₂ (λ (n : NameLit) (ns : List NameLit). n ∷ ns) (ap (signed_name parts) (at-tag parts ls met.0)) (met-names lss met.1)

  pub met-definition :
      (lines : List Line) (ls : List TreeLiteral) → has_part ls parts ≡ true
      → get_or (definition_lines parts lines) (tag_of parts ls) 0 ≡ definition_of lines (signed_name parts ls)
  met-definition lines ls there =
      get-of-map (λ part. definition_of lines (signed_name parts part)) parts (tag_of parts ls) [] (tag-below parts ls there)
      ∙ ap (λ part. definition_of lines (signed_name parts part)) (at-tag parts ls there)

  met-definitions :
      (lines : List Line) (lss : List (List TreeLiteral)) → AreMet parts lss
      → map (λ tag. get_or (definition_lines parts lines) tag 0) (map (tag_of parts) lss) ≡ map (definition_of lines) (map (signed_name parts) lss)
  met-definitions lines [] met = refl
  met-definitions lines (ls ∷ lss) met = ap₂ (λ (n : ℕ) (ns : List ℕ). n ∷ ns) (met-definition lines ls met.0) (met-definitions lines lss met.1)

  pub met-below : (lss : List (List TreeLiteral)) → AreMet parts lss → All (λ tag. tag < length parts) (map (tag_of parts) lss)
  met-below [] met = All-nil (λ tag. tag < length parts)
  met-below (ls ∷ lss) met =
      All-cons (λ tag. tag < length parts) (tag_of parts ls) (map (tag_of parts) lss) (tag-below parts ls met.0) (met-below lss met.1)

-- the tags of assertions
pub asserted-below : (count : ℕ) (ns : List NameLit) → All (λ (n : NameLit). n.name < count) ns → All (λ tag. tag < count) (assertions ns)
asserted-below count [] met = All-nil (λ tag. tag < count)
asserted-below count (n ∷ ns) met =
    by n.positive (All-head (λ (m : NameLit). m.name < count) n ns met) (asserted-below count ns (All-tail (λ (m : NameLit). m.name < count) n ns met))
  where
    by : (b : Bool) → n.name < count → All (λ tag. tag < count) (assertions ns) → All (λ tag. tag < count) (if b then assertions ns else (n.name ∷ assertions ns))
    by true here rest = rest
    by false here rest = All-cons (λ tag. tag < count) n.name (assertions ns) here rest

pub asserted-within :
    (bank : Bank) (table : Table) (s : ProofState) (r : PoolRecord) (count : ℕ) (lines : List Line) (c : TreeClause) (more : ℕ) (x : AssertedTags)
    → count ≡ length r.parts → LeadTo count lines c → AreAsserted c more x → IsProofStateOf bank table s r
    → All (λ tag. tag < length s.splits.parts.parts) x.tags.items
asserted-within bank table s r count lines c more x same lead asserted is =
    subst (λ (cs : List (List TreeLiteral)). All (λ tag. tag < length cs) x.tags.items) (sym is.splits.parts)
    (subst (λ (ts : List ℕ). All (λ tag. tag < length r.parts) ts) (sym asserted.tags)
    (subst (λ k. All (λ tag. tag < k) (assertions c.names)) same (asserted-below count c.names lead.met)))

-- ---- lines that were put among a pool's

-- the steps after those of a batch's lines
abbrev pub placed_steps : ProofState → List Line → List Step
placed_steps s lines =
    s.steps.items ++ map (λ (l : Line). with_parents (line_number (map registered_at s.register.clauses) (length s.steps.items)) l.step) lines

module _ (bank : Bank) (table : Table) (s : ProofState) (r : PoolRecord) (lines : List Line) (is : IsProofStateOf bank table s r) where
  abbrev placed : List Line
  placed = map (pool_line r) lines

  pub placed-told :
      (after : List Step) → list_all (λ (l : Line). is_plain_step l.step) lines ≡ true → after ≡ placed_steps s lines
      → AreStepsAndSplitsOf (split_view s.splits) after (with_lines r placed)
  placed-told after plain after_is = record {
    steps = after_is ∙ steps-placed s bank table r lines is;
    splits = splits-longer (split_view s.splits) r.parts r.lines r.propositional r.model r.modelled placed (none-introduced r lines plain) is.splits;
  }

  pub placed-last : (after : List Step) (line : ℕ) → after ≡ placed_steps s lines → line ≡ length after - 1 → line ≡ length (r.lines ++ placed) - 1
  placed-last after line after_is line_is =
      line_is ∙ ap (λ n. n - 1) (ap length (after_is ∙ steps-placed s bank table r lines is) ∙ steps-of (r.lines ++ placed))

-- ---- a clause over names

pub contradiction-came :
    (bank : Bank) (table : Table) (split : Bool) (s t : ProofState) (r : PoolRecord) (lines : List Line) (x : AssertedTags)
    (after : List Step) (names sorted : List NameLit) (line : ℕ)
    → r.ended ≡ None → IsComing bank table split s lines (Contradiction x) r → after ≡ placed_steps s lines
    → names ≡ x.names.items ++ map (λ tag. opposite (name_of_tag s.splits.parts.parts tag)) x.tags.items → sorted ≡ sorted_names names
    → line ≡ length after - 1
    → ((parts : List (List TreeLiteral)) (lines : List Line) (clauses : List PropositionalClause) (model : List Bool) (modelled : ℕ)
    → AreSplitsOf (split_view s.splits) parts lines clauses model modelled
    → AreSplitsOf (split_view t.splits) parts lines (clauses ++ record { names = sorted; line = line } ∷ []) model modelled)
    → t.steps.items ≡ after → t.register.clauses ≡ s.register.clauses → t.queue.pairs ≡ s.queue.pairs → t.ended ≡ s.ended
    → t.asserting.entries ≡ s.asserting.entries
    → IsProofStateOf bank table t (result_comes split r lines)
contradiction-came bank table split s t r lines x after names sorted line is_open coming after_is names_are sorted_are line_is added steps register queue ended asserting =
    subst (IsProofStateOf bank table t) (sym (result-contradiction split r lines c is_open coming.lead.led coming.form.empty coming.form.asserts))
    (grown-state bank table s t r r.parts (r.lines ++ map (pool_line r) lines) (r.propositional ++ record { names = line_names r.parts c.names; line = number } ∷ [])
    register queue ended asserting (parts-same r.parts r.parts refl)
    (record { steps = steps ∙ told.steps; splits = with_clause })
    coming.state)
  where
    c : TreeClause
    c = coming.clause

    number : ℕ
    number = length (r.lines ++ map (pool_line r) lines) - 1

    told : AreStepsAndSplitsOf (split_view s.splits) after (with_lines r (map (pool_line r) lines))
    told = placed-told bank table s r lines coming.state after coming.lead.plain after_is

    sorted_so : sorted ≡ line_names r.parts c.names
    sorted_so =
        sorted_are
        ∙ ap sorted_names
        (names_are
        ∙ ap₂ (λ (ns : List NameLit) (tags : List ℕ). ns ++ map (λ tag. opposite (name_of_tag s.splits.parts.parts tag)) tags) coming.form.tags.names coming.form.tags.tags
        ∙ ap (λ (parts : List (List TreeLiteral)). map (λ tag. opposite (name_of_tag parts tag)) (assertions c.names)) coming.state.splits.parts)

    with_clause :
        AreSplitsOf (split_view t.splits) r.parts (r.lines ++ map (pool_line r) lines)
        (r.propositional ++ record { names = line_names r.parts c.names; line = number } ∷ []) r.model r.modelled
    with_clause =
        subst (λ (p : PropositionalClause). AreSplitsOf (split_view t.splits) r.parts (r.lines ++ map (pool_line r) lines) (r.propositional ++ p ∷ []) r.model r.modelled)
        (ap₂ (λ (ns : List NameLit) (k : ℕ). let p : PropositionalClause = record { names = ns; line = k } in p) sorted_so
        (placed-last bank table s r lines coming.state after line after_is line_is))
        (added r.parts (r.lines ++ map (pool_line r) lines) r.propositional r.model r.modelled told.splits)

-- ---- a clause that falls into parts

module _ (bank : Bank) (table : Table) (split : Bool) (s : ProofState) (r : PoolRecord) (lines : List Line) (x : SplitClause)
    (is_open : r.ended ≡ None) (coming : IsComing bank table split s lines (Parts x) r) (after : List Step) (after_is : after ≡ placed_steps s lines) where
  abbrev c : TreeClause
  c = coming.clause

  abbrev pub parts_now : List (List TreeLiteral)
  parts_now = parts_of c.literals

  -- with its lines, and with the tags of its parts
  abbrev lined : PoolRecord
  lined = with_lines r (map (pool_line r) lines)

  abbrev pub tagged : PoolRecord
  tagged = fold with_tag lined parts_now

  abbrev signed : List NameLit
  signed = map (signed_name tagged.parts) parts_now

  abbrev split_step : Step
  split_step = Split (last_number lined) (map (definition_of tagged.lines) signed) (components_of c.literals)

  abbrev split_names : List NameLit
  split_names = sorted_names (line_names tagged.parts c.names ++ signed)

  -- with its split line
  abbrev pub split_record : PoolRecord
  split_record = with_split split_step split_names tagged

  pub split-comes-as : result_comes split r lines ≡ fold with_part_clause split_record parts_now
  split-comes-as = result-split split r lines c is_open coming.lead.led (split-some split c.literals coming.form.splits) coming.form.splits

  pub split-lined : AreStepsAndSplitsOf (split_view s.splits) after lined
  split-lined = placed-told bank table s r lines coming.state after coming.lead.plain after_is

  pub split-met : AreMet tagged.parts parts_now
  split-met = tags-there parts_now lined

  -- as many keys and clauses as parts
  pub split-counts : (length x.parts.keys.items ≡ length parts_now) × (length x.parts.clauses.items ≡ length parts_now)
  split-counts = parts-counted bank table parts_now x.parts.keys.items x.parts.clauses.items coming.form.parts

  keyed : map key_part x.parts.keys.items ≡ parts_now
  keyed = parts-keyed bank table parts_now x.parts.keys.items x.parts.clauses.items coming.form.parts

  module _ (v : SplitView) (steps : List Step)
      (defined : (q : PoolRecord) → AreStepsAndSplitsOf (split_view s.splits) after q → AreStepsAndSplitsOf v steps (fold with_tag q (map key_part x.parts.keys.items))) where
    pub split-tagged : AreStepsAndSplitsOf v steps tagged
    split-tagged = subst (λ lss. AreStepsAndSplitsOf v steps (fold with_tag lined lss)) keyed (defined lined split-lined)

    parts-are : v.parts ≡ tagged.parts
    parts-are = split-tagged.splits.parts

    -- the asserted tags are of parts, and so are those of the parts themselves
    pub split-asserted : All (λ tag. tag < length v.parts) x.asserted.tags.items
    split-asserted =
        subst (λ (cs : List (List TreeLiteral)). All (λ tag. tag < length cs) x.asserted.tags.items) (sym parts-are)
        (subst (λ (ts : List ℕ). All (λ tag. tag < length tagged.parts) ts) (sym coming.form.asserted.tags)
        (All-weaker (λ tag. tag < length r.parts) (λ tag. tag < length tagged.parts)
        (λ tag below. let longer = (tags-grow parts_now lined).longer in omega (arith, below, longer)) (assertions c.names)
        (asserted-below (length r.parts) c.names coming.lead.met)))

    pub split-within : (tags : List ℕ) → tags ≡ map (tag_of tagged.parts) parts_now → All (λ tag. tag < length v.parts) tags
    split-within tags tags_are =
        subst (λ (cs : List (List TreeLiteral)). All (λ tag. tag < length cs) tags) (sym parts-are)
        (subst (λ (ts : List ℕ). All (λ tag. tag < length tagged.parts) ts) (sym tags_are) (met-below tagged.parts parts_now split-met))

    pub split-told : length v.definition_lines ≡ length v.parts
    split-told =
        ap length split-tagged.splits.definition_lines ∙ length-map tagged.parts (λ part. definition_of tagged.lines (signed_name tagged.parts part))
        ∙ ap length (sym parts-are)

    pub split-tags :
        (tags : List ℕ) → tags ≡ x.parts.tags.items ++ map (λ (k : PartKey). tag_of v.parts (key_part k)) x.parts.keys.items
        → tags ≡ map (tag_of tagged.parts) parts_now
    split-tags tags tags_are =
        tags_are ∙ ap (λ (ns : List ℕ). ns ++ map (λ (k : PartKey). tag_of v.parts (key_part k)) x.parts.keys.items) coming.form.no_tags
        ∙ map-both key_part (tag_of v.parts) x.parts.keys.items
        ∙ ap₂ (λ (cs : List (List TreeLiteral)) (lss : List (List TreeLiteral)). map (tag_of cs) lss) parts-are keyed

    module _ (tags definitions : List ℕ) (first all sorted : List NameLit) (tags_are : tags ≡ map (tag_of tagged.parts) parts_now)
        (first_are : first ≡ x.asserted.names.items ++ map (λ tag. opposite (name_of_tag v.parts tag)) x.asserted.tags.items)
        (all_are : all ≡ first ++ map (name_of_tag v.parts) tags) (sorted_are : sorted ≡ sorted_names all)
        (definitions_are : definitions ≡ x.definitions.items ++ map (λ tag. get_or v.definition_lines tag 0) tags) where
      split-sorted : sorted ≡ split_names
      split-sorted =
          sorted_are
          ∙ ap sorted_names
          (all_are
          ∙ ap₂ (λ (ns ms : List NameLit). ns ++ ms)
          (first_are
          ∙ ap₂ (λ (ns : List NameLit) (ts : List ℕ). ns ++ map (λ tag. opposite (name_of_tag v.parts tag)) ts) coming.form.asserted.names coming.form.asserted.tags
          ∙ ap (λ (cs : List (List TreeLiteral)). map (λ tag. opposite (name_of_tag cs tag)) (assertions c.names)) parts-are)
          (ap₂ (λ (cs : List (List TreeLiteral)) (ts : List ℕ). map (name_of_tag cs) ts) parts-are tags_are ∙ met-names tagged.parts parts_now split-met))
          ∙ sorted-before (map (λ tag. opposite (name_of_tag tagged.parts tag)) (assertions c.names)) signed

      split-definitions : definitions ≡ map (definition_of tagged.lines) signed
      split-definitions =
          definitions_are
          ∙ ap (λ (ns : List ℕ). ns ++ map (λ tag. get_or v.definition_lines tag 0) tags) coming.form.definitions
          ∙ ap₂ (λ (ds ts : List ℕ). map (λ tag. get_or ds tag 0) ts) split-tagged.splits.definition_lines tags_are
          ∙ met-definitions tagged.parts tagged.lines parts_now split-met

      pub split-state :
          (t : ProofState) (parent : ℕ) → parent ≡ length after - 1
          → ((q : PoolRecord) → AreStepsAndSplitsOf v steps q → AreStepsAndSplitsOf (split_view t.splits) t.steps.items (with_split (Split parent definitions x.places) sorted q))
          → t.register.clauses ≡ s.register.clauses → t.queue.pairs ≡ s.queue.pairs → t.ended ≡ s.ended → t.asserting.entries ≡ s.asserting.entries
          → IsProofStateOf bank table t split_record
      split-state t parent parent_is added register queue ended asserting =
          subst (IsProofStateOf bank table t) (sym same)
          (grown-state bank table s t r tagged.parts (tagged.lines ++ line_of split_step (under_names [] split_names) ∷ [])
          (r.propositional ++ record { names = split_names; line = length (tagged.lines ++ line_of split_step (under_names [] split_names) ∷ []) - 1 } ∷ [])
          register queue ended asserting (tags-grow parts_now lined)
          (subst (AreStepsAndSplitsOf (split_view t.splits) t.steps.items) same told)
          coming.state)
        where
          step_is : Split parent definitions x.places ≡ split_step
          step_is =
              ap₂ (λ (n : ℕ) (ds : List ℕ). Split n ds x.places) (placed-last bank table s r lines coming.state after parent after_is parent_is) split-definitions
              ∙ ap (λ (kss : List (List ℕ)). Split (last_number lined) (map (definition_of tagged.lines) signed) kss) coming.form.places

          told : AreStepsAndSplitsOf (split_view t.splits) t.steps.items split_record
          told =
              subst (AreStepsAndSplitsOf (split_view t.splits) t.steps.items)
              (ap₂ (λ (step : Step) (ns : List NameLit). with_split step ns tagged) step_is split-sorted) (added tagged split-tagged)

          same : split_record ≡ with_split split_step split_names (record lined { parts = tagged.parts; lines = tagged.lines })
          same = ap (with_split split_step split_names) (tags-only parts_now lined)

-- ---- a part that is registered

module _ (bank : Bank) (table : Table) (s : ProofState) (r : PoolRecord) (ls : List TreeLiteral) (x : InternedPart) (tag : ℕ)
    (is : IsProofStateOf bank table s r) (part : IsUnasserted bank table ls x) (tagged : tag ≡ tag_of r.parts ls) (there : has_part ls r.parts ≡ true) where
  abbrev pub part_clause : TreeClause
  part_clause = under_names ls (negative_of (tag_of r.parts ls) ∷ [])

  pub part-clause : (made : ClauseParts) → made ≡ record { literals = x.clause.literals; names = tag ∷ [] } → clause_at made ≡ part_clause
  part-clause made made_is =
      ap (λ (m : ClauseParts). clause_at m) made_is ∙ ap₂ (λ (ms : List TreeLiteral) (n : ℕ). under_names ms (negative_of n ∷ [])) part.same tagged

  pub part-within : tag < length s.splits.parts.parts
  part-within =
      subst (λ n. n < length s.splits.parts.parts) (sym tagged)
      (subst (λ (cs : List (List TreeLiteral)). tag_of r.parts ls < length cs) (sym is.splits.parts) (tag-below r.parts ls there))

  pub definition-within : tag < length s.splits.definition_lines.items
  definition-within =
      let long : length s.splits.definition_lines.items ≡ length r.parts =
      ap length is.splits.definition_lines ∙ length-map r.parts (λ q. definition_of r.lines (signed_name r.parts q)) in
      let same : length s.splits.parts.parts ≡ length r.parts = ap length is.splits.parts in
      let below = part-within in
      omega (arith, long, same, below)

  pub part-line : (line : ℕ) → line ≡ get_or s.splits.definition_lines.items tag 0 → line ≡ definition_of r.lines (signed_name r.parts ls)
  part-line line line_is =
      line_is ∙ ap₂ (λ (ds : List ℕ) (n : ℕ). get_or ds n 0) is.splits.definition_lines tagged ∙ met-definition r.parts r.lines ls there

  pub part-again : has_living r part_clause ≡ true → with_part_clause r ls ≡ r
  part-again living =
      cond-true (has_living r part_clause) r (registered_by (definition_of r.lines (signed_name r.parts ls)) part_clause r) living

  pub part-new : has_living r part_clause ≡ false → with_part_clause r ls ≡ registered_by (definition_of r.lines (signed_name r.parts ls)) part_clause r
  part-new new = cond-false (has_living r part_clause) r (registered_by (definition_of r.lines (signed_name r.parts ls)) part_clause r) new
