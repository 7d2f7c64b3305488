-- The canonical form of a component is one component: so no clause that is registered is to be split.
use Rattle.std.proofs.Common.{◌≡◌, ℕ, ◌<◌, Bool, true, false, ◌&&◌, ◌==◌, List, [], ◌∷◌, ◌++◌, map, length, refl, ap, ap₂, sym, ◌∙◌, subst, ⊎_elim, arith}
use Rattle.std.specs.Prelude.{Option, None, Some, nat_lt, slice_get, slice_index_or, option_map, flat_map, fold, All, if◌then◌else◌}
use Rattle.std.specs.List.{list_any, range_with_len, cons_option, AllByRecursion}
use Rattle.std.proofs.lemmas.Bool.{true≢false, or_left, or_right, or_cases, eq-eqb, eqb-true}
use Rattle.std.proofs.lemmas.List.{length-map}
use Rattle.std.proofs.lemmas.List.Elements.{All-nil, All-push, recursion_from_All}
use Rattle.std.proofs.lemmas.Option.{slice_get-map, slice_get_within, get_or_from_slice_get}
use Rattle.fol_base.specs.Clause.{TreeLiteral, TreeClause, clause_variables, literal_variables, literal_instance}
use Rattle.fol_base.specs.Canonical.{distinct, renaming}
use Rattle.fol_base.proofs.AboutCanonical.CanonicalLemmas.{number_in, literals_variables-renamed}
use Rattle.plain_types.specs.Names.{negative_of}
use Rattle.kernel_steps.specs.Derivation.{under_names}
use Rattle.kernel_steps.specs.Split.{has_number, share_out, literals_at, share_variable, canonical_literals}
use Rattle.kernel_steps.specs.declared.step.Line.{Line}
use Rattle.split_parts.specs.Components.{IsComponents}
use Rattle.split_parts.specs.Tags.{with_part, has_part, tag_of}
use Rattle.split_parts.specs.SignedNames.{signed_name}
use Rattle.split_parts.proofs.AboutParts.UniqueLemmas.{components-unique}
use Rattle.split_parts.proofs.AboutParts.WholeLemmas.{components-whole}
use Rattle.pool_history.specs.Components.{components_of, parts_of, is_to_split}
use Rattle.pool_history.specs.Record.{PoolRecord, Registered, has_living}
use Rattle.pool_history.specs.Wholeness.{RegisteredAreOnePart}
use Rattle.plain_types.specs.declared.sequence.NameLit.{NameLit}
use Rattle.kernel_steps.specs.Names.{sorted_names}
use Rattle.kernel_steps.specs.declared.step.Step.TheVariants.{Split}
use Rattle.pool_history.specs.Tags.{line_names}
use Rattle.pool_history.specs.Lines.{with_lines, last_number, definition_of}
use Rattle.pool_history.specs.Registering.{registered_by, registered_last, with_new_part, with_tag, with_part_clause, with_split, split_up, with_propositional, has_none, with_refutation, empty_comes, comes}
use Rattle.pool_history.proofs.AboutRecords.FrameLemmas.{by-if}
use Rattle.pool_history.proofs.AboutRecords.WalkLemmas.{replay-holds}
use Rattle.pool_history.proofs.AboutLines.JoinedLemmas.{by-test, all-from}
use Rattle.pool_history.proofs.AboutLines.FinestLemmas.{computed-finest}

-- ---- literals whose variables are numbered anew

renamed-at : (order : List ℕ) (ls : List TreeLiteral) (ks : List ℕ) → literals_at (map (literal_instance (renaming order)) ls) ks ≡ map (literal_instance (renaming order)) (literals_at ls ks)
renamed-at order ls [] = refl
renamed-at order ls (k ∷ ks) =
    ap (λ (o : Option TreeLiteral). cons_option o (literals_at (map (literal_instance (renaming order)) ls) ks)) (slice_get-map (literal_instance (renaming order)) ls k)
    ∙ by (slice_get ls k) (renamed-at order ls ks)
  where
    by :
        (o : Option TreeLiteral)
        → literals_at (map (literal_instance (renaming order)) ls) ks ≡ map (literal_instance (renaming order)) (literals_at ls ks)
        → cons_option (option_map (literal_instance (renaming order)) o) (literals_at (map (literal_instance (renaming order)) ls) ks)
        ≡ map (literal_instance (renaming order)) (cons_option o (literals_at ls ks))
    by None rest = rest
    by (Some l) rest = ap (λ ms. literal_instance (renaming order) l ∷ ms) rest

-- numbers that are shared are shared after a change of numbers
has-mapped : (f : ℕ → ℕ) (v : ℕ) (vs : List ℕ) → has_number v vs ≡ true → has_number (f v) (map f vs) ≡ true
has-mapped f v [] there = absurd (true≢false (sym there))
has-mapped f v (w ∷ vs) there =
    ⊎_elim (λ (here : (v == w) ≡ true). or_left (f v == f w) (has_number (f v) (map f vs)) (eq-eqb (f v) (f w) (ap f (eqb-true v w here))))
    (λ later. or_right (f v == f w) (has_number (f v) (map f vs)) (has-mapped f v vs later)) (or_cases (v == w) (has_number v vs) there)

shared-mapped : (f : ℕ → ℕ) (vs ws : List ℕ) → list_any (λ v. has_number v ws) vs ≡ true → list_any (λ v. has_number v (map f ws)) (map f vs) ≡ true
shared-mapped f [] ws some = absurd (true≢false (sym some))
shared-mapped f (v ∷ vs) ws some =
    ⊎_elim (λ here. or_left (has_number (f v) (map f ws)) (list_any (λ w. has_number w (map f ws)) (map f vs)) (has-mapped f v ws here))
    (λ later. or_right (has_number (f v) (map f ws)) (list_any (λ w. has_number w (map f ws)) (map f vs)) (shared-mapped f vs ws later))
    (or_cases (has_number v ws) (list_any (λ w. has_number w ws) vs) some)

share-renamed :
    (order : List ℕ) (ls ms : List TreeLiteral) → share_variable ls ms ≡ true
    → share_variable (map (literal_instance (renaming order)) ls) (map (literal_instance (renaming order)) ms) ≡ true
share-renamed order ls ms some =
    ap₂ (λ vs ws. list_any (λ v. has_number v ws) vs) (literals_variables-renamed order ls) (literals_variables-renamed order ms)
    ∙ shared-mapped (number_in order) (flat_map literal_variables ls) (flat_map literal_variables ms) some

-- ---- a part is one component

module _ (ls : List TreeLiteral) (a : ℕ) (within : a < length (components_of ls)) where
  abbrev own : List TreeLiteral
  own = literals_at ls (slice_index_or (components_of ls) a [])

  abbrev all_places : List ℕ
  all_places = range_with_len 0 (length (slice_index_or (components_of ls) a []))

  abbrev order : List ℕ
  order = distinct (clause_variables (under_names own []))

  one-component : IsComponents (canonical_literals own) (all_places ∷ [])
  one-component =
      let whole = components-whole ls (components_of ls) a (computed-finest ls) within in
      record {
        are_parts = whole.are_parts;
        shared_out = ap (λ n. share_out n (all_places ∷ [])) (length-map own (literal_instance (renaming order))) ∙ whole.shared_out;
        apart = refl;
        in_order = whole.in_order;
        whole =
            λ f follows.
            whole.whole f
            (λ i j share.
            follows i j
            (ap₂ share_variable (renamed-at order own (i ∷ [])) (renamed-at order own (j ∷ []))
            ∙ share-renamed order (literals_at own (i ∷ [])) (literals_at own (j ∷ [])) share));
      }

  pub part-is-one : nat_lt 1 (length (components_of (canonical_literals own))) ≡ false
  part-is-one =
      ap (λ (kss : List (List ℕ)). nat_lt 1 (length kss))
      (components-unique (canonical_literals own) (components_of (canonical_literals own)) (all_places ∷ [])
      (computed-finest (canonical_literals own)) one-component)

-- ---- registered clauses

abbrev IsOne : List TreeLiteral → Type 0
IsOne ls = nat_lt 1 (length (components_of ls)) ≡ false

parts-are-one : (ls : List TreeLiteral) → AllByRecursion IsOne (parts_of ls)
parts-are-one ls =
    mapped (components_of ls)
    (recursion_from_All (λ ks. IsOne (canonical_literals (literals_at ls ks))) (components_of ls)
    (all-from (λ ks. IsOne (canonical_literals (literals_at ls ks))) (components_of ls)
    (λ a ks there.
    subst (λ js. IsOne (canonical_literals (literals_at ls js))) (get_or_from_slice_get (components_of ls) a ks [] there)
    (part-is-one ls a (slice_get_within (components_of ls) a ks there)))))
  where
    mapped : (kss : List (List ℕ)) → AllByRecursion (λ ks. IsOne (canonical_literals (literals_at ls ks))) kss → AllByRecursion IsOne (map (λ ks. canonical_literals (literals_at ls ks)) kss)
    mapped [] all = tt
    mapped (ks ∷ kss) all = (all.0, mapped kss all.1)

module _ (split : Bool) where
  abbrev StaysWhole : Registered → Type 0
  StaysWhole x = is_to_split split x.clause.literals ≡ false

  abbrev AllStay : PoolRecord → Type 0
  AllStay r = All StaysWhole r.registered

  one-stays : (ls : List TreeLiteral) → IsOne ls → is_to_split split ls ≡ false
  one-stays ls one = by split
    where
      by : (b : Bool) → (b && nat_lt 1 (length (components_of ls))) ≡ false
      by true = one
      by false = refl

  registered-stay : (line : ℕ) (c : TreeClause) (r : PoolRecord) → is_to_split split c.literals ≡ false → AllStay r → AllStay (registered_by line c r)
  registered-stay line c r stays all = All-push StaysWhole r.registered (record { clause = c; line = line }) all stays

  tags-stay : (ps : List (List TreeLiteral)) (r : PoolRecord) → AllStay r → AllStay (fold with_tag r ps)
  tags-stay [] r all = all
  tags-stay (p ∷ ps) r all =
      tags-stay ps (with_tag r p) (by-if AllStay (has_part p r.parts) r (with_new_part p (with_part r.parts p) r) all all)

  parts-stay : (ps : List (List TreeLiteral)) (r : PoolRecord) → AllByRecursion IsOne ps → AllStay r → AllStay (fold with_part_clause r ps)
  parts-stay [] r ones all = all
  parts-stay (p ∷ ps) r ones all =
      let line : ℕ = definition_of r.lines (signed_name r.parts p) in
      let c : TreeClause = under_names p (negative_of (tag_of r.parts p) ∷ []) in
      parts-stay ps (with_part_clause r p) ones.1
      (by-if AllStay (has_living r c) r (registered_by line c r) all (registered-stay line c r (one-stays p ones.0) all))

  comes-stay : (lines : List Line) (c : TreeClause) (r : PoolRecord) → AllStay r → AllStay (comes split lines c r)
  comes-stay lines c r all =
      let s : PoolRecord = with_lines r lines in
      by-test AllStay (has_none c.literals) (empty_comes c s)
      (if is_to_split split c.literals then split_up c s else (if has_living r c then r else registered_last c s))
      (λ none.
      by-if AllStay (has_none c.names) (with_refutation (registered_last c s)) (with_propositional (line_names r.parts c.names) s)
      (registered-stay (last_number s) c s (one-stays c.literals (ap (λ ls. nat_lt 1 (length (components_of ls))) (none-there c.literals none))) all) all)
      (λ some.
      by-test AllStay (is_to_split split c.literals) (split_up c s) (if has_living r c then r else registered_last c s)
      (λ splits. parts-stay (parts_of c.literals) (put (fold with_tag s (parts_of c.literals))) (parts-are-one c.literals) (tags-stay (parts_of c.literals) s all))
      (λ stays. by-if AllStay (has_living r c) r (registered_last c s) all (registered-stay (last_number s) c s stays all)))
    where
      put : PoolRecord → PoolRecord
      put t =
          let names : List NameLit = map (signed_name t.parts) (parts_of c.literals) in
          with_split (Split (last_number (with_lines r lines)) (map (definition_of t.lines) names) (components_of c.literals)) (sorted_names (line_names t.parts c.names ++ names)) t

      none-there : (ls : List TreeLiteral) → has_none ls ≡ true → ls ≡ []
      none-there [] h = refl
      none-there (l ∷ ls) h = let none : length (l ∷ ls) ≡ 0 = eqb-true (length (l ∷ ls)) 0 h in absurd (omega (arith, none))

pub registered_are_one_part : RegisteredAreOnePart
registered_are_one_part origin history =
    replay-holds origin.options (λ (parts : List (List TreeLiteral)) (registered : List Registered). All (StaysWhole origin.options.split) registered)
    (comes-stay origin.options.split) origin history refl (All-nil (StaysWhole origin.options.split))
