use Rattle.std.proofs.Common.{length, ap, ◌∙◌, arith}
use Rattle.std.proofs.lemmas.List.Sorted.{IsPermutation-swap}
use Rattle.plain_types.specs.Names.{has_name}
use Rattle.sat_core.specs.Clause.{PropClause}
use Rattle.sat_core.proofs.AboutTrails.CopyLemmas.{same_moved}
use Rattle.sat_core.proofs.copies.ClauseCopy.look.Goals as goal

pub returns-clause-same : goal.returns-clause-same
returns-clause-same c l =
    let n = c.put_second.ensures.count in
    let m = ap (λ (xs : PropClause). length xs) c.self-2.view_is in
    let k = ap (λ (xs : PropClause). length xs) c.self.view_is in
    same_moved _ _ (IsPermutation-swap _ _ 1 c.in-Some.index (omega (arith, n, m, k, c.if-len-lt2.false, c.len.ensures)) (omega (arith, c.in-Some.ensures.some)) c.swap.ensures.items) l
    ∙ ap (has_name l) c.self-2.view_is ∙ c.put_second.ensures.same l
