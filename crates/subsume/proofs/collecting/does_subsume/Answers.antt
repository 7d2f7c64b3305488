use Rattle.std.proofs.Common.{◌++◌, sym, ◌∙◌, ap}
use Rattle.std.proofs.lemmas.Bool.{true≢false}
use Rattle.std.proofs.lemmas.Result.{IfOk-weaker}
use Rattle.bank_clause.specs.Clause.{clause_at}
use Rattle.subsume.proofs.AboutSearch.SubsumingLemmas.{asserted}
use Rattle.subsume.proofs.AboutSearch.SearchLemmas.{entry-unsubsumed}
use Rattle.subsume.proofs.collecting.does_subsume.Goals as goal

pub returns-then-not-are_at_most : goal.returns-then-not-are_at_most
returns-then-not-are_at_most c = λ usage wf all. (
  λ e. absurd (true≢false (sym e)),
  λ s. absurd (entry-unsubsumed c.args.by.now c.args.features.now.values c.args.entry.now usage c.are_at_most.result c.requires.features c.requires.entry c.are_at_most.ensures c.if-not-are_at_most.true s),
)

pub returns : goal.returns
returns c =
    IfOk-weaker c.is_subsumed.result _ _
    (λ answer h. λ usage wf all.
    let both = h usage (clause_at c.args.entry.now.member.clause)
    (record {
      literals = c.in_ok-lent_literals.ensures ∙ c.lend-lender.ensures;
      assertions = c.in_ok-extend_from_slice.ensures.items ∙ ap (λ xs. xs ++ c.names.result.now) c.new-assertions.ensures.items ∙ c.names.ensures.names ∙ sym (asserted c.args.entry.now.member.clause.names);
    })
    (record { first = wf; second = all }) in (
      λ e. record { other = c.if-by-entry.false; subsumed = both.0 e },
      λ s. both.1 s.subsumed,
    ))
    c.is_subsumed.ensures
