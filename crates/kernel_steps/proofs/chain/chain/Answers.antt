use Rattle.std.proofs.Common.{map, ap, sym, ◌∙◌}
use Rattle.std.specs.Prelude.{option_map}
use Rattle.std.proofs.lemmas.List.{length-map}
use Rattle.kernel_steps.specs.Conclusion.{names_at, clause_of_names, verdict_of}
use Rattle.kernel_steps.proofs.AboutCalls.ChainLemmas.{no_chain}
use Rattle.kernel_steps.proofs.chain.chain.Goals as goal

pub returns-then-numbers-pivots : goal.returns-then-numbers-pivots
returns-then-numbers-pivots g c =
    let look = names_at (g.P.LendsParents.meaning c.args.parents.now) in
    ap (λ o. verdict_of (option_map clause_of_names o))
    (no_chain (map look c.args.numbers.now) c.args.pivots.now (λ e. c.if-numbers-pivots.true (sym (length-map c.args.numbers.now look) ∙ e)))
