use Rattle.std.proofs.Common.{ap, map, ◌++◌, ◌∙◌}
use Rattle.fol_base.specs.Literal.{clause_of}
use Rattle.signature.specs.Clausal.{canonical_literals}
use Rattle.skolem.specs.Shape.{matrix_tree}
use Rattle.clausal_form.specs.Agenda.{placed}
use Rattle.clausal_form.specs.Formula.{definitions_clauses}
use Rattle.clausal_form.specs.Written.{written}
use Rattle.clausal_form.proofs.AboutForms.ResultLemmas.{ok-then}
use Rattle.clausal_form.proofs.AboutWriting.WritingLemmas.{matrix-clauses, matrix-places, both-written}
use Rattle.clausal_form.proofs.formula.write_formula.Goals as goal

pub returns-clause-clauses : goal.returns-clause-clauses
returns-clause-clauses c =
    ok-then c.write_definitions.result
    (λ _ h. both-written canonical_literals _ _ _ _ _ (matrix-clauses _ _ _ _ _ c.new.ensures.items c.new-2.ensures.items c.in_ok-write_matrix.ensures.clauses) h
    ∙ ap (λ ds. map clause_of c.args.output.now.clauses.items ++ map canonical_literals (written (matrix_tree c.args.named.now.matrix) ++ definitions_clauses ds))
    c.as_slice.ensures.value)
    c.write_definitions.ensures.clauses

pub returns-clause-origins : goal.returns-clause-origins
returns-clause-origins c =
    ok-then c.write_definitions.result
    (λ _ h. both-written (placed c.args.place) _ _ _ _ _ (matrix-places c.args.place _ _ _ _ c.new-2.ensures.items c.in_ok-write_matrix.ensures.origins) h
    ∙ ap (λ ds. c.args.output.now.origins.items ++ map (placed c.args.place) (written (matrix_tree c.args.named.now.matrix) ++ definitions_clauses ds))
    c.as_slice.ensures.value)
    c.write_definitions.ensures.origins
