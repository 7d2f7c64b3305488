-- What registering changes of a record, and what it keeps.
use Rattle.std.proofs.Common.{◌≡◌, ℕ, suc, Bool, true, false, ◌⊎◌, List, [], ◌∷◌, ◌++◌, map, append-nil, append_assoc, refl, ap, sym, ◌∙◌, inl, inr, ⊎_elim}
use Rattle.std.specs.Prelude.{Option, None, Some, is_none, fold, if◌then◌else◌}
use Rattle.plain_types.specs.declared.sequence.NameLit.{NameLit}
use Rattle.plain_types.specs.Names.{negative_of}
use Rattle.fol_base.specs.Clause.{TreeLiteral, TreeClause}
use Rattle.kernel_steps.specs.declared.step.Step.TheVariants.{Clausify}
use Rattle.kernel_steps.specs.declared.step.Line.{Line}
use Rattle.kernel_steps.specs.Derivation.{under_names}
use Rattle.kernel_steps.specs.FromTrees.{line_of}
use Rattle.split_parts.specs.Tags.{has_part, tag_of}
use Rattle.split_parts.specs.SignedNames.{signed_name}
use Rattle.pool_history.specs.Components.{parts_of, is_to_split}
use Rattle.pool_history.specs.Record.{PoolRecord, Registered, PropositionalClause, has_living}
use Rattle.pool_history.specs.Lines.{with_lines, last_number, definition_of, result_of, pool_line}
use Rattle.pool_history.specs.Registering.{registered_by, registered_unless_living, with_propositional, with_tag, with_part_clause, with_split, split_named, split_up, has_none, with_refutation, empty_comes, comes, unless_ended, with_inputs}
use Rattle.pool_history.specs.Counting.{comes_by, result_comes}
use Rattle.pool_history.specs.declared.outcome.Outcome.TheVariants.{Refuted}

-- what holds of both holds of either
pub by-if : {X : Type 0} (P : X → Type 0) (b : Bool) (x y : X) → P x → P y → P (if b then x else y)
by-if P true x y h k = h
by-if P false x y h k = k

-- Registering adds parts, registered clauses, propositional clauses and lines, and may refute; all else stays.
pub record Registers (r r' : PoolRecord) : Type 0 where
  pub same :
      r'
      ≡ record r {
        parts = r'.parts;
        registered = r'.registered;
        propositional = r'.propositional;
        lines = r'.lines;
        ended = r'.ended;
      }
  pub more : (cs : List Registered) × (r'.registered ≡ r.registered ++ cs)
  pub more_names : (ps : List PropositionalClause) × (r'.propositional ≡ r.propositional ++ ps)
  pub ends : (r'.ended ≡ r.ended) ⊎ (r'.ended ≡ Some Refuted)

pub unchanged : (r : PoolRecord) → Registers r r
unchanged r = record { same = refl; more = ([], sym (append-nil r.registered)); more_names = ([], sym (append-nil r.propositional)); ends = inl refl }

pub registers-then : (r s t : PoolRecord) → Registers r s → Registers s t → Registers r t
registers-then r s t first second = record {
  same =
      second.same
      ∙ ap
      (λ (u : PoolRecord). record u {
        parts = t.parts;
        registered = t.registered;
        propositional = t.propositional;
        lines = t.lines;
        ended = t.ended;
      }) first.same;
  more = (
    first.more.0 ++ second.more.0,
    second.more.1 ∙ ap (λ cs. cs ++ second.more.0) first.more.1 ∙ append_assoc r.registered first.more.0 second.more.0,
  );
  more_names = (
    first.more_names.0 ++ second.more_names.0,
    second.more_names.1 ∙ ap (λ ps. ps ++ second.more_names.0) first.more_names.1 ∙ append_assoc r.propositional first.more_names.0 second.more_names.0,
  );
  ends =
      ⊎_elim
      (λ kept. ⊎_elim (λ before. inl (kept ∙ before)) (λ refuted. inr (kept ∙ refuted)) first.ends)
      (λ refuted. inr refuted)
      second.ends;
}

fold-registers :
    {A : Type 0} (f : PoolRecord → A → PoolRecord) → ((r : PoolRecord) (a : A) → Registers r (f r a))
    → (xs : List A) (r : PoolRecord) → Registers r (fold f r xs)
fold-registers f each [] r = unchanged r
fold-registers f each (x ∷ xs) r = registers-then r (f r x) (fold f (f r x) xs) (each r x) (fold-registers f each xs (f r x))

with_lines-registers : (r : PoolRecord) (lines : List Line) → Registers r (with_lines r lines)
with_lines-registers r lines = record { same = refl; more = ([], sym (append-nil r.registered)); more_names = ([], sym (append-nil r.propositional)); ends = inl refl }

registered_by-registers : (line : ℕ) (c : TreeClause) (r : PoolRecord) → Registers r (registered_by line c r)
registered_by-registers line c r = record { same = refl; more = (record { clause = c; line = line } ∷ [], refl); more_names = ([], sym (append-nil r.propositional)); ends = inl refl }

with_propositional-registers : (names : List NameLit) (r : PoolRecord) → Registers r (with_propositional names r)
with_propositional-registers names r = record {
  same = refl;
  more = ([], sym (append-nil r.registered));
  more_names = (record { names = names; line = last_number r } ∷ [], refl);
  ends = inl refl;
}

with_tag-registers : (r : PoolRecord) (part : List TreeLiteral) → Registers r (with_tag r part)
with_tag-registers r part =
    by-if (Registers r) (has_part part r.parts) r _ (unchanged r)
    (record { same = refl; more = ([], sym (append-nil r.registered)); more_names = ([], sym (append-nil r.propositional)); ends = inl refl })

with_part_clause-registers : (r : PoolRecord) (part : List TreeLiteral) → Registers r (with_part_clause r part)
with_part_clause-registers r part =
    unless_living (definition_of r.lines (signed_name r.parts part)) (under_names part (negative_of (tag_of r.parts part) ∷ [])) r
  where
    unless_living : (line : ℕ) (c : TreeClause) (r : PoolRecord) → Registers r (registered_unless_living line c r)
    unless_living line c r = by-if (Registers r) (has_living r c) r (registered_by line c r) (unchanged r) (registered_by-registers line c r)

split_up-registers : (c : TreeClause) (r : PoolRecord) → Registers r (split_up c r)
split_up-registers c r =
    registers-then r (fold with_tag r (parts_of c.literals)) (split_up c r)
    (fold-registers with_tag with_tag-registers (parts_of c.literals) r)
    (split_named-registers c (last_number r) (parts_of c.literals) (fold with_tag r (parts_of c.literals)))
  where
    split_named-registers : (c : TreeClause) (line : ℕ) (parts : List (List TreeLiteral)) (s : PoolRecord) → Registers s (split_named c line parts s)
    split_named-registers c line parts s =
        registers-then s (with_split _ _ s) (split_named c line parts s)
        (registers-then s (with_lines s _) (with_split _ _ s) (with_lines-registers s _) (with_propositional-registers _ (with_lines s _)))
        (fold-registers with_part_clause with_part_clause-registers parts (with_split _ _ s))

refuted-registers : (r t : PoolRecord) → Registers r t → Registers r (with_refutation t)
refuted-registers r t is = record {
  same = ap with_refutation is.same;
  more = is.more;
  more_names = is.more_names;
  ends = inr refl;
}

pub comes-registers : (split : Bool) (lines : List Line) (c : TreeClause) (r : PoolRecord) → Registers r (comes split lines c r)
comes-registers split lines c r =
    by-if (Registers r) (has_none c.literals) (empty_comes c (with_lines r lines)) _
    (empty-registers (with_lines r lines) (with_lines-registers r lines))
    (by-if (Registers r) (is_to_split split c.literals) (split_up c (with_lines r lines)) _
    (registers-then r (with_lines r lines) (split_up c (with_lines r lines)) (with_lines-registers r lines) (split_up-registers c (with_lines r lines)))
    (by-if (Registers r) (has_living r c) r _ (unchanged r) (registered (with_lines r lines) (with_lines-registers r lines))))
  where
    registered : (s : PoolRecord) → Registers r s → Registers r (registered_by (last_number s) c s)
    registered s to_s = registers-then r s (registered_by (last_number s) c s) to_s (registered_by-registers (last_number s) c s)

    empty-registers : (s : PoolRecord) → Registers r s → Registers r (empty_comes c s)
    empty-registers s to_s =
        by-if (Registers r) (has_none c.names) (with_refutation (registered_by (last_number s) c s)) _
        (refuted-registers r (registered_by (last_number s) c s) (registered s to_s))
        (registers-then r s (with_propositional _ s) to_s (with_propositional-registers _ s))

pub unless_ended-registers :
    (change : PoolRecord → PoolRecord) (r : PoolRecord) → Registers r (change r) → Registers r (unless_ended change r)
unless_ended-registers change r changed = by-if (Registers r) (is_none r.ended) (change r) r changed (unchanged r)

pub inputs-register : (split : Bool) (i : ℕ) (cs : List TreeClause) (r : PoolRecord) → Registers r (with_inputs split i cs r)
inputs-register split i [] r = unchanged r
inputs-register split i (c ∷ cs) r =
    let lines : List Line = line_of (Clausify i) c ∷ [] in
    registers-then r (unless_ended (comes split lines c) r) _
    (unless_ended-registers (comes split lines c) r (comes-registers split lines c r))
    (inputs-register split (suc i) cs (unless_ended (comes split lines c) r))

pub comes_by-registers :
    (split : Bool) (lines : List Line) (o : Option TreeClause) (r : PoolRecord) → Registers r (comes_by split lines o r)
comes_by-registers split lines None r = unchanged r
comes_by-registers split lines (Some c) r = comes-registers split (map (pool_line r) lines) c r

pub result-registers : (split : Bool) (r : PoolRecord) (lines : List Line) → Registers r (result_comes split r lines)
result-registers split r lines =
    unless_ended-registers (comes_by split lines (result_of lines)) r (comes_by-registers split lines (result_of lines) r)

pub results-register : (split : Bool) (results : List (List Line)) (r : PoolRecord) → Registers r (fold (result_comes split) r results)
results-register split results r = fold-registers (result_comes split) (result-registers split) results r
