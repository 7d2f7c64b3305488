use Rattle.std.proofs.Common.{length, set, inl, inr, refl, ap, ◌∙◌, arith}
use Rattle.unifier.specs.Classes.{schema}
use Rattle.unifier.specs.declared.classes.Classes.{Classes}
use Rattle.unifier.proofs.AboutClasses.ClassLemmas.{linked, read, set-itself}
use Rattle.unifier.proofs.classes.Classes.link.Goals as goal
use Rattle.unifier.proofs.classes.Classes.link.Goals.{then-is_variable, else-is_variable}

pub returns : goal.returns
returns c =
    let old : Classes = c.args.self.now in
    elim c.if-is_variable.branch [
      | then-is_variable w ↦
          linked (length c.args.cells.now) old _ c.args.low c.args.high w.index.result.now c.requires.classes c.requires.order c.requires.inside c.requires.smallest
          (ap (λ (s : Classes). set s.parents.items c.args.high c.args.low) w.self-is)
          (ap (λ (s : Classes). s.schemas.items) w.self-is)
          (inr (read old.schemas.items c.args.high w.index.result.now (omega (arith, c.requires.classes.schemas, c.requires.inside)) w.index.ensures))
      | else-is_variable w ↦
          linked (length c.args.cells.now) old _ c.args.low c.args.high (schema old c.args.low) c.requires.classes c.requires.order c.requires.inside c.requires.smallest
          (ap (λ (s : Classes). set s.parents.items c.args.high c.args.low) w.self-is)
          (ap (λ (s : Classes). s.schemas.items) w.self-is ∙ set-itself old.schemas.items c.args.low)
          (inl refl)
    ]
