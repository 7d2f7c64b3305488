use Rattle.std.proofs.Common.{true, false, sym, arith}
use Rattle.std.proofs.lemmas.Bool.{lt-ltb, le-ltb}
use Rattle.skolem.specs.Outline.{named_outline}
use Rattle.skolem.proofs.AboutFormulas.OutlineLemmas.{by-tests}
use Rattle.list_lemmas.proofs.Results.{ok-then}
use Rattle.skolem.proofs.outline.product.Goals as goal

pub returns-then-first-second : goal.returns-then-first-second
returns-then-first-second c =
    ok-then c.pairs-then-first-second.result _ _
    (λ o h t u p q.
    by-tests c.args.first c.args.second o t u c.args.began true true (sym c.if-not-is_large.ensures) (lt-ltb _ _ c.if-first-second.true) p q
    (h t (named_outline c.args.began u) p (c.in_ok-name.ensures u q))) c.pairs-then-first-second.ensures

pub returns : goal.returns
returns c =
    ok-then c.pairs-2.result _ _
    (λ o h t u p q.
    by-tests c.args.first c.args.second o t u c.args.began true false (sym c.if-not-is_large.ensures) (le-ltb _ _ (omega (arith, c.if-first-second.false))) p q
    (h (named_outline c.args.began t) u (c.in_ok-name-2.ensures t p) q)) c.pairs-2.ensures
