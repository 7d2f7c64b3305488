use Rattle.std.proofs.Common.{length, refl, sym, subst, arith}
use Rattle.unifier.specs.Joining.{IsMerged}
use Rattle.unifier.specs.declared.classes.Classes.{Classes}
use Rattle.unifier.proofs.AboutClasses.ClassLemmas.{read}
use Rattle.unifier.proofs.AboutClasses.JoiningLemmas.{AreFound, found-by, same-class, classes-merged}
use Rattle.unifier.proofs.classes.Classes.merge.Goals as goal
use Rattle.unifier.proofs.classes.Classes.merge.Goals.{then-first_root-second_root-2, else-first_root-second_root-2}

pub returns-then-first_root-second_root : goal.returns-then-first_root-second_root
returns-then-first_root-second_root c =
    same-class c.args.cells.now c.args.self.now c.shorten-second_root.new.self c.args.first c.args.second _ _
    (found-by (length c.args.cells.now) _ _ c.args.self.now c.shorten-first_root.new.self c.shorten-second_root.new.self c.args.first c.args.second _ _
    c.requires.classes refl refl c.requires.first c.requires.second c.shorten-first_root.ensures c.shorten-second_root.ensures)
    c.if-first_root-second_root.true

pub offset_bounds-cells-first_schema : goal.offset_bounds-cells-first_schema
offset_bounds-cells-first_schema c =
    let mid : Classes = c.shorten-second_root.new.self in
    let found : AreFound (length c.args.cells.now) c.args.self.now mid c.args.first c.args.second c.shorten-first_root.result c.shorten-second_root.result =
    found-by (length c.args.cells.now) _ _ c.args.self.now c.shorten-first_root.new.self mid c.args.first c.args.second _ _
    c.requires.classes refl refl c.requires.first c.requires.second c.shorten-first_root.ensures c.shorten-second_root.ensures in
    record {
      fits =
          omega (
            arith,
            read mid.schemas.items c.shorten-first_root.result c.index-first_schema.result.now
                (omega (arith, found.classes.schemas, found.one_inside)) c.index-first_schema.ensures,
            found.classes.inside c.shorten-first_root.result found.one_inside,
            c.well_formed,
          );
    }

pub returns : goal.returns
returns c =
    let mid : Classes = c.shorten-second_root.new.self in
    let found : AreFound (length c.args.cells.now) c.args.self.now mid c.args.first c.args.second c.shorten-first_root.result c.shorten-second_root.result =
    found-by (length c.args.cells.now) _ _ c.args.self.now c.shorten-first_root.new.self mid c.args.first c.args.second _ _
    c.requires.classes refl refl c.requires.first c.requires.second c.shorten-first_root.ensures c.shorten-second_root.ensures in
    let first_is =
    read mid.schemas.items c.shorten-first_root.result c.index-first_schema.result.now
    (omega (arith, found.classes.schemas, found.one_inside)) c.index-first_schema.ensures in
    let second_is =
    read mid.schemas.items c.shorten-second_root.result c.index-second_schema.result.now
    (omega (arith, found.classes.schemas, found.other_inside)) c.index-second_schema.ensures in
    let P : Classes → Type 0 = λ new. IsMerged c.args.cells.now c.args.self.now new c.args.first c.args.second c.relation.result in
    elim c.if-first_root-second_root-2.branch [
      | then-first_root-second_root-2 w ↦
          subst P (sym w.self-is)
          (classes-merged c.args.cells.now c.args.self.now mid w.link.new.self c.args.first c.args.second _ _ _ _ _ _ c.relation.result c.requires.parts found
          first_is second_is c.relation.ensures w.link.ensures (λ f same. same) (λ f same. same))
      | else-first_root-second_root-2 w ↦
          subst P (sym w.self-is)
          (classes-merged c.args.cells.now c.args.self.now mid w.link-else-first_root-second_root-2.new.self c.args.first c.args.second _ _ _ _ _ _ c.relation.result c.requires.parts found
          first_is second_is c.relation.ensures w.link-else-first_root-second_root-2.ensures (λ f same. sym same) (λ f same. sym same))
    ]
