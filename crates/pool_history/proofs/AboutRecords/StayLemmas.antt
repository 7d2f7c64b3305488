-- Registered clauses, deaths, parts and lines are only added.
use Rattle.std.proofs.Common.{◌≡◌, ℕ, Bool, List, [], ◌∷◌, ◌++◌, map, append-nil, refl, sym, subst}
use Rattle.std.specs.Prelude.{Option, fold, if◌then◌else◌}
use Rattle.plain_types.specs.declared.sequence.NameLit.{NameLit}
use Rattle.plain_types.specs.Names.{negative_of}
use Rattle.fol_base.specs.Clause.{TreeLiteral, TreeClause}
use Rattle.kernel_steps.specs.Names.{sorted_names}
use Rattle.kernel_steps.specs.Derivation.{under_names}
use Rattle.kernel_steps.specs.FromTrees.{line_of}
use Rattle.kernel_steps.specs.declared.step.Step.{Step}
use Rattle.kernel_steps.specs.declared.step.Step.TheVariants.{Split}
use Rattle.kernel_steps.specs.declared.step.Line.{Line}
use Rattle.split_parts.specs.Tags.{has_part, with_part, tag_of}
use Rattle.split_parts.specs.SignedNames.{signed_name}
use Rattle.pool_history.specs.Components.{components_of, parts_of, is_to_split}
use Rattle.pool_history.specs.Tags.{line_names}
use Rattle.pool_history.specs.Record.{PoolRecord, Registered, Death, has_living}
use Rattle.pool_history.specs.Lines.{with_lines, last_number, definition_of}
use Rattle.pool_history.specs.Registering.{registered_by, registered_last, with_propositional, definitions, with_new_part, with_tag, with_part_clause, with_split, split_up, has_none, with_refutation, empty_comes, comes}
use Rattle.pool_history.specs.Replay.{start, replay}
use Rattle.pool_history.specs.Wholeness.{ClausesStay}
use Rattle.pool_history.specs.declared.outcome.Outcome.{Outcome}
use Rattle.pool_history.proofs.AboutClaims.HistoryLemmas.{later_of, later-append}
use Rattle.pool_history.proofs.AboutRecords.EndWalkLemmas.{history-keeps}
use Rattle.pool_history.proofs.AboutRecords.FrameLemmas.{by-if}
use Rattle.pool_history.proofs.AboutRecords.GrowthLemmas.{more-then}
use Rattle.pool_history.proofs.AboutRecords.NewsLemmas.{history-both}

-- the parts and the lines of a record are the first ones of another
abbrev MoreParts : PoolRecord → PoolRecord → Type 0
MoreParts r s = (more : List (List TreeLiteral)) × (s.parts ≡ r.parts ++ more)

abbrev MoreLines : PoolRecord → PoolRecord → Type 0
MoreLines r s = (more : List Line) × (s.lines ≡ r.lines ++ more)

abbrev More : PoolRecord → PoolRecord → Type 0
More r s = MoreParts r s × MoreLines r s

more-all : (r : PoolRecord) → More r r
more-all r = (([], sym (append-nil r.parts)), ([], sym (append-nil r.lines)))

-- lines that are put last
put-last : (r s : PoolRecord) (lines : List Line) → More r s → More r (with_lines s lines)
put-last r s lines more = (more.0, more-then r.lines s.lines (s.lines ++ lines) more.1 (lines, refl))

tags-more : (r : PoolRecord) (ps : List (List TreeLiteral)) (s : PoolRecord) → More r s → More r (fold with_tag s ps)
tags-more r [] s more = more
tags-more r (p ∷ ps) s more =
    tags-more r ps (with_tag s p)
    (by-if (More r) (has_part p s.parts) s (with_new_part p (with_part s.parts p) s) more (longer, (put-last r s (definitions s.parts p (signed_name (with_part s.parts p) p)) more).1))
  where
    longer : MoreParts r (with_new_part p (with_part s.parts p) s)
    longer =
        by-if (λ (qs : List (List TreeLiteral)). (ws : List (List TreeLiteral)) × (qs ≡ r.parts ++ ws)) (has_part p s.parts) s.parts (s.parts ++ p ∷ [])
        more.0 (more-then r.parts s.parts (s.parts ++ p ∷ []) more.0 (p ∷ [], refl))

parts-more : (r : PoolRecord) (ps : List (List TreeLiteral)) (s : PoolRecord) → More r s → More r (fold with_part_clause s ps)
parts-more r [] s more = more
parts-more r (p ∷ ps) s more =
    let line : ℕ = definition_of s.lines (signed_name s.parts p) in
    let c : TreeClause = under_names p (negative_of (tag_of s.parts p) ∷ []) in
    parts-more r ps (with_part_clause s p) (by-if (More r) (has_living s c) s (registered_by line c s) more more)

split-more : (r : PoolRecord) (c : TreeClause) (s : PoolRecord) → More r s → More r (split_up c s)
split-more r c s more = parts-more r (parts_of c.literals) (with_split step names t) (put-last r t (line_of step (under_names [] names) ∷ []) (tags-more r (parts_of c.literals) s more))
  where
    t : PoolRecord
    t = fold with_tag s (parts_of c.literals)

    signed : List NameLit
    signed = map (signed_name t.parts) (parts_of c.literals)

    step : Step
    step = Split (last_number s) (map (definition_of t.lines) signed) (components_of c.literals)

    names : List NameLit
    names = sorted_names (line_names t.parts c.names ++ signed)

comes-more : (split : Bool) (lines : List Line) (c : TreeClause) (r : PoolRecord) → More r (comes split lines c r)
comes-more split lines c r =
    by-if (More r) (has_none c.literals) (empty_comes c s)
    (if is_to_split split c.literals then split_up c s else (if has_living r c then r else registered_last c s))
    (by-if (More r) (has_none c.names) (with_refutation (registered_last c s)) (with_propositional (line_names r.parts c.names) s) put put)
    (by-if (More r) (is_to_split split c.literals) (split_up c s) (if has_living r c then r else registered_last c s) (split-more r c s put)
    (by-if (More r) (has_living r c) r (registered_last c s) (more-all r) put))
  where
    s : PoolRecord
    s = with_lines r lines

    put : More r (with_lines r lines)
    put = put-last r r lines (more-all r)

pub clauses_stay : ClausesStay
clauses_stay origin history later =
    subst
    (λ (t : PoolRecord).
    ((more : List Registered) × (t.registered ≡ r.registered ++ more)) × ((more : List Death) × (t.deaths ≡ r.deaths ++ more)) × MoreParts r t × MoreLines r t)
    (sym (later-append origin.options history later (start origin))) (both.1, both.0, more.0, more.1)
  where
    r : PoolRecord
    r = replay origin history

    s : PoolRecord
    s = later_of origin.options (replay origin history) later

    both : ((ds : List Death) × (s.deaths ≡ r.deaths ++ ds)) × ((cs : List Registered) × (s.registered ≡ r.registered ++ cs))
    both = history-both origin.options later (replay origin history)

    more : More r s
    more =
        history-keeps origin.options
        (λ (parts : List (List TreeLiteral)) (registered : List Registered) (lines : List Line) (deaths : List Death) (ended : Option Outcome).
        ((ps : List (List TreeLiteral)) × (parts ≡ r.parts ++ ps)) × ((ls : List Line) × (lines ≡ r.lines ++ ls)))
        (λ lines c t is_open kept.
        let u : PoolRecord = comes origin.options.split lines c t in
        let one = comes-more origin.options.split lines c t in
        (more-then r.parts t.parts u.parts kept.0 one.0, more-then r.lines t.lines u.lines kept.1 one.1))
        (λ count t is_open kept. kept) (λ d t kept. kept)
        (λ lines t kept. (kept.0, more-then r.lines t.lines (t.lines ++ lines) kept.1 (lines, refl)))
        later (replay origin history) (more-all r)
