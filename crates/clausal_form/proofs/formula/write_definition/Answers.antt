use Rattle.std.proofs.Common.{refl}
use Rattle.clausal_form.proofs.AboutForms.ResultLemmas.{ok-then}
use Rattle.clausal_form.proofs.AboutWriting.WritingLemmas.{definition-written, definition-placed}
use Rattle.clausal_form.proofs.formula.write_definition.Goals as goal

pub returns-clause-clauses : goal.returns-clause-clauses
returns-clause-clauses c =
    ok-then c.write_matrix.result
    (λ _ h. definition-written _ _ _ _ _ _ _ _ c.new.ensures.items c.in_ok-push.ensures.items refl c.new-2.ensures.items h) c.write_matrix.ensures.clauses

pub returns-clause-origins : goal.returns-clause-origins
returns-clause-origins c =
    ok-then c.write_matrix.result
    (λ _ h. definition-placed c.args.place c.args.definition.now.negated _ _ _ _ c.new-2.ensures.items h) c.write_matrix.ensures.origins
