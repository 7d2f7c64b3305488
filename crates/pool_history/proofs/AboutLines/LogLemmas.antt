-- The chains of a log, step by step.
use Rattle.std.proofs.Common.{◌≡◌, ℕ, zero, suc, Bool, true, ◌&&◌, cond, List, [], ◌∷◌, ◌++◌, map, take, drop, Some, None, ap, sym, ◌∙◌, arith}
use Rattle.std.specs.Prelude.{slice_get}
use Rattle.std.proofs.lemmas.Bool.{cond-true}
use Rattle.std.proofs.lemmas.List.{append_assoc, take-append-drop}
use Rattle.std.proofs.lemmas.Option.{option_and_then_some, cond_some, same_Some}
use Rattle.plain_types.specs.declared.sequence.NameLit.{NameLit}
use Rattle.plain_types.specs.Names.{has_name, opposite, can_resolve, resolvent}
use Rattle.kernel_steps.specs.Names.{sorted_names, chained_from}
use Rattle.kernel_steps.proofs.AboutNames.NameTruth.{has_name-sorted_names}
use Rattle.kernel_steps.proofs.AboutNames.NameRanks.{sorted_names-same}
use Rattle.sat_core.specs.declared.answer.Link.{Link}
use Rattle.sat_core.specs.Clause.{PropClause}
use Rattle.sat_core.specs.Resolution.{link_clause, links_clause}
use Rattle.sat_core.specs.State.{clause_at, SameLiterals}
use Rattle.sat_core.specs.Trimming.{chain_at}
use Rattle.sat_core.proofs.AboutConflicts.LogLemmas.{same_resolvent}
use Rattle.sat_core.proofs.AboutAnswers.TrimLemmas.{made_at, made_length, ends_empty-last}
use Rattle.pool_history.specs.Chains.{pivots_of, StandFor, ChainsAreSteps, LogsAreSteps, LogsEndInSteps}

-- the links of a chain, from sorted names on
links_are_steps :
    (known : List PropClause) (names : ℕ → List NameLit) (c made : PropClause) (links : List Link)
    → StandFor names known → links_clause known c links ≡ Some made
    → chained_from (sorted_names c) (map (λ (l : Link). l.pivot) links) (map names (map (λ (l : Link). l.number) links)) ≡ Some (sorted_names made)
links_are_steps known names c made [] stand h = ap (λ (d : PropClause). Some (sorted_names d)) (same_Some c made h)
links_are_steps known names c made (l ∷ links) stand h =
    option_and_then_some (λ (x : PropClause). links_clause known x links) (link_clause known c l) made h
    (λ x first rest.
    option_and_then_some (λ (d : PropClause). cond (can_resolve l.pivot c d) (Some (resolvent l.pivot c d)) None) (slice_get known l.number) x first
    (λ d at kept.
    let parts = cond_some (can_resolve l.pivot c d) (resolvent l.pivot c d) x kept in
    let others : SameLiterals (names l.number) d = stand l.number d at in
    let can : can_resolve l.pivot (sorted_names c) (names l.number) ≡ true =
    ap (λ (b : Bool). b && has_name (opposite l.pivot) (names l.number)) (has_name-sorted_names l.pivot c)
    ∙ ap (λ (b : Bool). has_name l.pivot c && b) (others (opposite l.pivot)) ∙ parts.0 in
    let next : sorted_names (resolvent l.pivot (sorted_names c) (names l.number)) ≡ sorted_names x =
    sorted_names-same (resolvent l.pivot (sorted_names c) (names l.number)) x
    (λ k. same_resolvent l.pivot (sorted_names c) c (names l.number) d (λ n. has_name-sorted_names n c) others k ∙ ap (has_name k) parts.1) in
    cond-true (can_resolve l.pivot (sorted_names c) (names l.number))
    (chained_from (sorted_names (resolvent l.pivot (sorted_names c) (names l.number))) (map (λ (l : Link). l.pivot) links) (map names (map (λ (l : Link). l.number) links))) None can
    ∙ ap (λ (ns : List NameLit). chained_from ns (map (λ (l : Link). l.pivot) links) (map names (map (λ (l : Link). l.number) links))) next
    ∙ links_are_steps known names x made links stand rest))

pub chains_are_steps : ChainsAreSteps
chains_are_steps known chain made names h stand =
    option_and_then_some (λ (c : PropClause). links_clause known c chain.links) (slice_get known chain.start) made h
    (λ c at rest.
    ap (λ (ns : List NameLit). chained_from ns (pivots_of chain) (map names (map (λ (l : Link). l.number) chain.links)))
    (sorted_names-same (names chain.start) c (stand chain.start c at))
    ∙ links_are_steps known names c made chain.links stand rest)

slice_get_longer : (xs ys : List PropClause) (n : ℕ) (d : PropClause) → slice_get xs n ≡ Some d → slice_get (xs ++ ys) n ≡ Some d
slice_get_longer [] ys n d h = cc
slice_get_longer (x ∷ xs) ys zero d h = h
slice_get_longer (x ∷ xs) ys (suc n) d h = slice_get_longer xs ys n d h

pub logs_are_steps : LogsAreSteps
logs_are_steps clauses made log names i h stand within =
    chains_are_steps (clauses ++ take i made) (chain_at log i) (clause_at made i) names (made_at clauses made log i h within)
    (λ n c at. stand n c (ap (λ (cs : List PropClause). slice_get cs n) (sym whole) ∙ slice_get_longer (clauses ++ take i made) (drop i made) n c at))
  where
    whole : (clauses ++ take i made) ++ drop i made ≡ clauses ++ made
    whole = append_assoc clauses (take i made) (drop i made) ∙ ap (λ (cs : List PropClause). clauses ++ cs) (take-append-drop i made)

pub logs_end_in_steps : LogsEndInSteps
logs_end_in_steps clauses log right names i stand last =
    let end = ends_empty-last right.made right.empty in
    let n = made_length clauses right.made log right.lawful in
    let m = end.1 in
    let same : i ≡ end.0 = omega (arith, last, n, m) in
    logs_are_steps clauses right.made log names i right.lawful stand (omega (arith, last))
    ∙ ap (λ (j : ℕ). Some (sorted_names (clause_at right.made j))) same
    ∙ ap (λ (c : PropClause). Some (sorted_names c)) end.2
