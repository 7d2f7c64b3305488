-- A step on literals whose parents get other numbers and other names: it concludes the same literals, with the names changed likewise. This is so
-- where the change of names agrees with sorting and joining them.
use Rattle.std.proofs.Common.{◌≡◌, ℕ, true, ◌&&◌, List, ◌++◌, ap, ap₂, sym, ◌∙◌}
use Rattle.std.specs.Prelude.{Option, Some, option_map}
use Rattle.std.proofs.lemmas.Bool.{true≢false, and_from}
use Rattle.plain_types.specs.declared.sequence.NameLit.{NameLit}
use Rattle.fol_base.specs.Tree.{Tree}
use Rattle.fol_base.specs.Clause.{TreeLiteral, TreeClause}
use Rattle.fol_base.specs.Rules.{superposed, resolved, factored, merged}
use Rattle.kernel_steps.specs.Names.{sorted_names, are_sorted}
use Rattle.kernel_steps.specs.Parents.{Parent, Parents}
use Rattle.kernel_steps.specs.Conclusion.{binds, bound_literals, verdict, concludes, verdict_if, clause_with, by_one, by_two}
use Rattle.kernel_steps.specs.Derivation.{line_parents, ComesBy}
use Rattle.kernel_steps.specs.Lines.{is_on_literals}
use Rattle.kernel_steps.specs.declared.step.Step.{Step}
use Rattle.kernel_steps.specs.declared.step.Step.TheVariants.{Input, Negate, Clausify, Para, Refl, Factor, Merge, Component, Opposite, Split, Chain}
use Rattle.kernel_steps.specs.declared.step.Line.{Line}
use Rattle.kernel_steps.proofs.AboutCalls.VerdictParts.{by_one-parts, by_two-parts}
use Rattle.kernel_steps.proofs.AboutNames.NameRanks.{sorted_names-sorted}
use Rattle.pool_history.specs.Lines.{with_parents}

-- a clause with its names changed
abbrev pub renamed_by : (List NameLit → List NameLit) → TreeClause → TreeClause
renamed_by f c = record c { names = f c.names }

-- the parents have the clauses that others have under the first numbers, with their names changed
abbrev pub AreMapped : (List NameLit → List NameLit) → (ℕ → ℕ) → Parents → Parents → Type 0
AreMapped f number ps qs =
    (n : ℕ) (p : Parent) → ps n ≡ Some p → (q : Parent) × (qs (number n) ≡ Some q) × (q.clause ≡ renamed_by f p.clause)

-- a change of names agrees with sorting, and with joining
pub record KeepsSorting (f : List NameLit → List NameLit) : Type 0 where
  pub one : (ns : List NameLit) → f (sorted_names ns) ≡ sorted_names (f ns)
  pub joined : (ns ms : List NameLit) → f (sorted_names (ns ++ ms)) ≡ sorted_names (f ns ++ f ms)

module _
    (f : List NameLit → List NameLit) (keeps : KeepsSorting f) (number : ℕ → ℕ) (ps qs : Parents) (mapped : AreMapped f number ps qs) where
  one-mapped :
      (n : ℕ) (bind : List Tree) (rule : List TreeLiteral → Option (List TreeLiteral)) (c : TreeClause)
      → by_one (ps n) bind rule ≡ concludes c → by_one (qs (number n)) bind rule ≡ concludes (renamed_by f c)
  one-mapped n bind rule c h =
      let p = by_one-parts (ps n) bind rule c h in
      let q = mapped n p.source p.there in
      let names : List NameLit = f p.source.clause.names in
      ap (λ o. by_one o bind rule) q.1
      ∙ ap (λ (d : TreeClause). verdict_if (binds bind d) (option_map (clause_with d.names) (rule (bound_literals bind d)))) q.2
      ∙ ap₂ (λ b o. verdict_if b (option_map (clause_with names) o)) p.bound p.made
      ∙ ap (λ ns. concludes (record { literals = p.literals; names = ns })) (sym (keeps.one p.source.clause.names))
      ∙ ap (λ d. concludes (renamed_by f d)) p.gives

  two-mapped :
      (n m : ℕ) (first second : List Tree) (rule : List TreeLiteral → List TreeLiteral → Option (List TreeLiteral)) (c : TreeClause)
      → by_two (ps n) first (ps m) second rule ≡ concludes c
      → by_two (qs (number n)) first (qs (number m)) second rule ≡ concludes (renamed_by f c)
  two-mapped n m first second rule c h =
      let p = by_two-parts (ps n) first (ps m) second rule c h in
      let source = mapped n p.source p.first_there in
      let target = mapped m p.target p.second_there in
      let names : List NameLit = f p.source.clause.names ++ f p.target.clause.names in
      ap₂ (λ o u. by_two o first u second rule) source.1 target.1
      ∙ ap₂ (λ (d e : TreeClause). verdict_if (binds first d && binds second e) (option_map (clause_with (d.names ++ e.names)) (rule (bound_literals first d) (bound_literals second e)))) source.2 target.2
      ∙ ap₂ (λ b o. verdict_if b (option_map (clause_with names) o))
      (and_from (binds first p.source.clause) (binds second p.target.clause) p.first_bound p.second_bound) p.made
      ∙ ap (λ ns. concludes (record { literals = p.literals; names = ns })) (sym (keeps.joined p.source.clause.names p.target.clause.names))
      ∙ ap (λ d. concludes (renamed_by f d)) p.gives

pub comes-mapped :
    (inputs : List TreeClause) (f : List NameLit → List NameLit) (number : ℕ → ℕ) (ps : Parents) (earlier : List Line) (step : Step) (c : TreeClause)
    → KeepsSorting f → AreMapped f number ps (line_parents earlier) → is_on_literals step ≡ true
    → verdict step ps ≡ concludes c → ComesBy (with_parents number step) inputs earlier (renamed_by f c)
comes-mapped inputs f number ps earlier (Para n m j s k z place first second) c keeps mapped kind h =
    two-mapped f keeps number ps (line_parents earlier) mapped n m first second (λ ls ks. superposed ls j s ks k z place) c h
comes-mapped inputs f number ps earlier (Refl n k bind) c keeps mapped kind h =
    one-mapped f keeps number ps (line_parents earlier) mapped n bind (λ ls. resolved ls k) c h
comes-mapped inputs f number ps earlier (Factor n j s k z bind) c keeps mapped kind h =
    one-mapped f keeps number ps (line_parents earlier) mapped n bind (λ ls. factored ls j s k z) c h
comes-mapped inputs f number ps earlier (Merge n j k bind) c keeps mapped kind h =
    one-mapped f keeps number ps (line_parents earlier) mapped n bind (λ ls. merged ls j k) c h
comes-mapped inputs f number ps earlier (Input place) c keeps mapped kind h = absurd (true≢false (sym kind))
comes-mapped inputs f number ps earlier (Negate place) c keeps mapped kind h = absurd (true≢false (sym kind))
comes-mapped inputs f number ps earlier (Clausify i) c keeps mapped kind h = absurd (true≢false (sym kind))
comes-mapped inputs f number ps earlier (Component name) c keeps mapped kind h = absurd (true≢false (sym kind))
comes-mapped inputs f number ps earlier (Opposite name) c keeps mapped kind h = absurd (true≢false (sym kind))
comes-mapped inputs f number ps earlier (Split parent definitions parts) c keeps mapped kind h = absurd (true≢false (sym kind))
comes-mapped inputs f number ps earlier (Chain numbers pivots) c keeps mapped kind h = absurd (true≢false (sym kind))

-- ---- the names of what a step on literals concludes: sorted

one-sorted :
    (o : Option Parent) (bind : List Tree) (rule : List TreeLiteral → Option (List TreeLiteral)) (c : TreeClause)
    → by_one o bind rule ≡ concludes c → are_sorted c.names ≡ true
one-sorted o bind rule c h =
    let p = by_one-parts o bind rule c h in
    ap (λ (d : TreeClause). are_sorted d.names) (sym p.gives) ∙ sorted_names-sorted p.source.clause.names

pub conclusion-sorted : (step : Step) (ps : Parents) (c : TreeClause) → is_on_literals step ≡ true → verdict step ps ≡ concludes c → are_sorted c.names ≡ true
conclusion-sorted (Para n m j s k z place first second) ps c kind h =
    let p = by_two-parts (ps n) first (ps m) second (λ ls ks. superposed ls j s ks k z place) c h in
    ap (λ (d : TreeClause). are_sorted d.names) (sym p.gives) ∙ sorted_names-sorted (p.source.clause.names ++ p.target.clause.names)
conclusion-sorted (Refl n k bind) ps c kind h = one-sorted (ps n) bind (λ ls. resolved ls k) c h
conclusion-sorted (Factor n j s k z bind) ps c kind h = one-sorted (ps n) bind (λ ls. factored ls j s k z) c h
conclusion-sorted (Merge n j k bind) ps c kind h = one-sorted (ps n) bind (λ ls. merged ls j k) c h
conclusion-sorted (Input place) ps c kind h = absurd (true≢false (sym kind))
conclusion-sorted (Negate place) ps c kind h = absurd (true≢false (sym kind))
conclusion-sorted (Clausify i) ps c kind h = absurd (true≢false (sym kind))
conclusion-sorted (Component name) ps c kind h = absurd (true≢false (sym kind))
conclusion-sorted (Opposite name) ps c kind h = absurd (true≢false (sym kind))
conclusion-sorted (Split parent definitions parts) ps c kind h = absurd (true≢false (sym kind))
conclusion-sorted (Chain numbers pivots) ps c kind h = absurd (true≢false (sym kind))
