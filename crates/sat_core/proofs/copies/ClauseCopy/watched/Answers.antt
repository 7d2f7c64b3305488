use Rattle.std.proofs.Common.{ℕ, [], ◌∷◌, ◌++◌, get_or, ap, inl, inr, ◌∙◌, arith}
use Rattle.std.proofs.lemmas.List.{get_or_default, take_all}
use Rattle.plain_types.specs.declared.sequence.NameLit.{NameLit}
use Rattle.plain_types.specs.Names.{has_name}
use Rattle.sat_core.proofs.AboutConflicts.AnalysisLemmas.{no_literal, has_name_at}
use Rattle.sat_core.proofs.AboutTrails.CopyLemmas.{same_front, front_more, front_skips}
use Rattle.sat_core.specs.Clause.{PropClause}
use Rattle.sat_core.proofs.copies.ClauseCopy.watched.Goals as goal
use Rattle.sat_core.proofs.copies.ClauseCopy.watched.Goals.{then-index-first+then-index-second+in_ok-push-3, else-index-first, else-index-first-via-then-index-first+else-index-second, else-index-first-via-else-index-first}

pub loop-index-preserved : goal.loop-index-preserved
loop-index-preserved c =
    let xs = c.args.literals.now in
    let i = c.loop-index.index in
    let f = get_or xs c.args.pair.first no_literal in
    let s = get_or xs c.args.pair.second no_literal in
    let x = get_or xs i no_literal in
    let within = c.loop-index-test.true in
    let read = get_or_default xs i no_literal _ within in
    elim c.if-index-first.branch [
      | then-index-first+then-index-second+in_ok-push-3 w ↦ rw w.copy-is
          (front_more _ _ xs i f s x within read
          (w.in_ok-push-3.ensures.items ∙ ap (λ (k : NameLit). c.loop-index.copy.items ++ k ∷ []) w.of-then-index-second.ensures) c.loop-index.invariant)
      | else-index-first w ↦ rw w.copy-is (elim w.else-index-first.branch [
        | else-index-first-via-then-index-first+else-index-second w' ↦
            front_skips _ xs i f s x within read (inr (ap (λ (n : ℕ). get_or xs n no_literal) (omega (arith, w'.if-index-second.false)))) c.loop-index.invariant
        | else-index-first-via-else-index-first w' ↦
            front_skips _ xs i f s x within read (inl (ap (λ (n : ℕ). get_or xs n no_literal) (omega (arith, w'.if-index-first.false)))) c.loop-index.invariant
      ])
    ]

pub returns : goal.returns
returns c l =
    let xs = c.args.literals.now in
    let f = get_or xs c.args.pair.first no_literal in
    let s = get_or xs c.args.pair.second no_literal in
    c.loop-index.invariant l
    ∙ ap (λ (ys : PropClause). has_name l (f ∷ s ∷ ys)) (take_all c.loop-index.index xs (omega (arith, c.loop-index-test.false)))
    ∙ same_front f s xs (has_name_at xs c.args.pair.first c.requires.first) (has_name_at xs c.args.pair.second c.requires.second) l
