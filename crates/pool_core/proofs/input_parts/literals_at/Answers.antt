use Rattle.std.proofs.Common.{◌∷◌, [], ◌++◌, map, ap, ◌∙◌}
use Rattle.std.proofs.lemmas.List.{map-append}
use Rattle.fol_base.specs.Literal.{literal_of}
use Rattle.kernel_steps.proofs.AboutSplits.SplitLoops.{literals_at-read, literals_at-missing}
use Rattle.pool_core.proofs.input_parts.literals_at.Goals.{then-index-literals+in_ok-copy+in_ok-push, else-index-literals}
use Rattle.pool_core.proofs.input_parts.literals_at.Goals as goal

pub loop-place-preserved : goal.loop-place-preserved
loop-place-preserved c =
    let xs = c.args.literals.now in
    let places = c.args.places.now in
    let i = c.loop-place.place-index in
    let part = map literal_of c.loop-place.part.items in
    elim c.if-index-literals.branch [
      | then-index-literals+in_ok-copy+in_ok-push w ↦
          literals_at-read xs places i w.index-literals-index.result part (map literal_of c.if-index-literals.part.items) c.loop-place-test.true
          w.if-index-literals.true w.index-literals-index.is c.loop-place.invariant
          (ap (λ v. map literal_of v.items) w.part-is
          ∙ ap (map literal_of) w.in_ok-push.ensures.items
          ∙ map-append literal_of c.loop-place.part.items (w.in_ok-copy.field-0 ∷ [])
          ∙ ap (λ l. part ++ l ∷ []) w.in_ok-copy.ensures)
      | else-index-literals w ↦
          ap (λ v. map literal_of v.items) w.part-is
          ∙ literals_at-missing xs places i part c.loop-place-test.true w.if-index-literals.false c.loop-place.invariant
    ]
