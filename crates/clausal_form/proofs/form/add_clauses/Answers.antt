use Rattle.std.proofs.Common.{ℕ, ◌+◌, Vec, Global, length, refl, ap, sym, subst, ◌∙◌}
use Rattle.std.specs.Prelude.{List, map, ◌++◌, Some, None}
use Rattle.fol_base.specs.Literal.{clause_of}
use Rattle.signature.specs.Clausal.{Literals, canonical_literals}
use Rattle.skolem.specs.Shape.{matrix_tree}
use Rattle.clausal_form.specs.Agenda.{placed}
use Rattle.clausal_form.specs.Formula.{form_by_itself, IsMatrixOrCause, Passes}
use Rattle.clausal_form.specs.Naming.{defining_clauses}
use Rattle.clausal_form.specs.Written.{written}
use Rattle.clausal_form.proofs.AboutWriting.StepLemmas.{IsNamed, named-formula, cause-so, fault-so, counted-so}
use Rattle.clausal_form.specs.declared.fault.FormCause.TheVariants.{TooHeavy}
use Rattle.clausal_form.proofs.AboutCounts.PassingLemmas.{end-passes}
use Rattle.clausal_form.proofs.AboutCounts.EndLemmas.{end-over}
use Rattle.clausal_form.proofs.AboutCounts.RefusalLemmas.{refusal-so}
use Rattle.clausal_form.proofs.form.add_clauses.Goals as goal

pub returns-in-Err-clause-refused : goal.returns-in-Err-clause-refused
returns-in-Err-clause-refused c n prefix m h k =
    refusal-so n c.args.annotated.now m c.args.form.now.counted c.in-Err.cause c.refused.result
    (cause-so n c.args.annotated.now prefix m c.args.form.now c.args.form.now.counted c.in-Err.cause h k c.requires.expands
    (subst (IsMatrixOrCause c.args.form.now.signature c.args.annotated.now) c.in-Err.is c.in_ok-made.ensures)) c.refused.ensures

pub returns-in-Err-TooHeavy-clause-refused : goal.returns-in-Err-TooHeavy-clause-refused
returns-in-Err-TooHeavy-clause-refused c n prefix m h k =
    refusal-so n c.args.annotated.now m c.args.form.now.counted TooHeavy c.refused-in-Err-TooHeavy.result
    (cause-so n c.args.annotated.now prefix m c.args.form.now c.args.form.now.counted TooHeavy h k c.requires.expands
    (subst (Passes TooHeavy) (subst (IsMatrixOrCause c.args.form.now.signature c.args.annotated.now) c.in-Ok.is c.in_ok-made.ensures).0
    (end-passes (matrix_tree c.in-Ok.made.matrix) c.new-naming.result c.new-naming.ensures.definitions (end-over c.in-Err-TooHeavy.field-0 _ c.in-Err-TooHeavy.field-0-is c.in-Err-TooHeavy.ensures.ended))))
    c.refused-in-Err-TooHeavy.ensures

pub returns-in-Err-counted_with-clause-refused : goal.returns-in-Err-counted_with-clause-refused
returns-in-Err-counted_with-clause-refused c n prefix m h k =
    refusal-so n c.args.annotated.now m c.args.form.now.counted c.in-Err-counted_with.cause c.refused-in-Err-counted_with.result
    (fault-so n c.args.annotated.now m _ _ _ c.in-Ok-named_matrix.part.measure c.named_matrix.new.naming.measure c.in_ok-measure.measure
    (written (matrix_tree c.in-Ok-named_matrix.part.matrix)) (defining_clauses c.named_matrix.new.naming)
    c.args.form.now.counted c.in_ok-skolem.skolem c.args.form.now.next (Some c.in-Err-counted_with.cause)
    (named-formula n c.args.annotated.now prefix m c.args.form.now _ c.new-naming.result c.named_matrix.new.naming _ _ h k (subst (IsMatrixOrCause c.args.form.now.signature c.args.annotated.now) c.in-Ok.is c.in_ok-made.ensures).0
    (c.new-naming.ensures.arities ∙ ap (λ (v : Vec ℕ Global). v.items) c.replace-so_far.ensures.value) c.new-naming.ensures.first
    c.new-naming.ensures.definitions c.in-Ok-named_matrix.ensures.work)
    refl c.in-Ok-named_matrix.ensures.work.measured c.in-Ok-named_matrix.ensures.work.defining c.in_ok-measure.ensures
    h.next (c.in_ok-skolem.ensures ∙ ap (λ xs. c.args.form.now.next + length xs) (c.as_slice.ensures.value ∙ (subst (IsMatrixOrCause c.args.form.now.signature c.args.annotated.now) c.in-Ok.is c.in_ok-made.ensures).1)) c.requires.expands c.in-Err-counted_with.ensures.beyond)
    c.refused-in-Err-counted_with.ensures

pub returns-in_ok-write_formula-in-Ok-counted_with-clause-added : goal.returns-in_ok-write_formula-in-Ok-counted_with-clause-added
returns-in_ok-write_formula-in-Ok-counted_with-clause-added c n prefix m h k =
    let part : List Literals = written (matrix_tree c.in-Ok-named_matrix.part.matrix) in
    let defining : List Literals = defining_clauses c.named_matrix.new.naming in
    let named : IsNamed n c.args.annotated.now m (part ++ defining)
    (form_by_itself c.args.form.now.signature c.args.annotated.now).made.skolem_arities c.named_matrix.new.naming.arities.items =
    named-formula n c.args.annotated.now prefix m c.args.form.now _ c.new-naming.result c.named_matrix.new.naming _ _ h k (subst (IsMatrixOrCause c.args.form.now.signature c.args.annotated.now) c.in-Ok.is c.in_ok-made.ensures).0
    (c.new-naming.ensures.arities ∙ ap (λ (v : Vec ℕ Global). v.items) c.replace-so_far.ensures.value) c.new-naming.ensures.first
    c.new-naming.ensures.definitions c.in-Ok-named_matrix.ensures.work in
    record {
      skolem = named.skolem_made;
      naming = named.naming_made;
      clauses =
          c.in_ok-write_formula-in-Ok-counted_with.ensures.clauses
          ∙ ap (λ cs. map clause_of c.args.form.now.output.clauses.items ++ map canonical_literals cs) (sym named.clauses);
      origins =
          c.in_ok-write_formula-in-Ok-counted_with.ensures.origins
          ∙ ap (λ cs. c.args.form.now.output.origins.items ++ map (placed c.args.place) cs) (sym named.clauses);
      counted =
          counted-so n c.args.annotated.now m _ _ _ c.in-Ok-named_matrix.part.measure c.named_matrix.new.naming.measure c.in_ok-measure.measure part defining
          c.args.form.now.counted c.in_ok-skolem.skolem _ named refl c.in-Ok-named_matrix.ensures.work.measured c.in-Ok-named_matrix.ensures.work.defining
          c.in_ok-measure.ensures c.in-Ok-counted_with.ensures.within c.in-Ok-counted_with.ensures.total;
      within =
          fault-so n c.args.annotated.now m _ _ _ c.in-Ok-named_matrix.part.measure c.named_matrix.new.naming.measure c.in_ok-measure.measure part defining
          c.args.form.now.counted c.in_ok-skolem.skolem c.args.form.now.next None
          named refl c.in-Ok-named_matrix.ensures.work.measured c.in-Ok-named_matrix.ensures.work.defining c.in_ok-measure.ensures
          h.next (c.in_ok-skolem.ensures ∙ ap (λ xs. c.args.form.now.next + length xs) (c.as_slice.ensures.value ∙ (subst (IsMatrixOrCause c.args.form.now.signature c.args.annotated.now) c.in-Ok.is c.in_ok-made.ensures).1))
          c.requires.expands c.in-Ok-counted_with.ensures.within;
    }
