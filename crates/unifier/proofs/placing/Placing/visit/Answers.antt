use Rattle.std.proofs.Common.{◌≡◌, None, Vec, Global, refl, ap, sym, ◌∙◌, arith}
use Rattle.unifier.specs.declared.cells.Cell.{Cell}
use Rattle.unifier.specs.Placing.{place}
use Rattle.unifier.specs.Classes.{parent, schema}
use Rattle.unifier.proofs.AboutClasses.ClassLemmas.{read}
use Rattle.unifier.proofs.AboutLayouts.PlacingLemmas.{NextPlace, place-read, read-some, read-none, visit-from, placing-next, visit-placed}
use Rattle.unifier.proofs.placing.Placing.visit.Goals as goal

pub returns-then-is_some-clause-done : goal.returns-then-is_some-clause-done
returns-then-is_some-clause-done c = (
  refl,
  λ _.
      read-some c.args.self.now c.args.cell _
      (place-read c.args.self.now c.args.cell _ (omega (arith, c.requires.inside, c.requires.placing.places)) c.index-2.ensures)
      (sym c.is_some.ensures ∙ c.if-is_some.true),
)

pub returns-in_ok-push-in-Some-clause-placing : goal.returns-in_ok-push-in-Some-clause-placing
returns-in_ok-push-in-Some-clause-placing c =
    let smallest : parent c.args.classes.now c.args.cell ≡ c.args.cell =
    sym (read c.args.classes.now.parents.items c.args.cell c.index.result.now (omega (arith, c.requires.classes.parents, c.requires.inside)) c.index.ensures)
    ∙ c.if-index-cell.false in
    let none : place c.args.self.now c.args.cell ≡ None =
    read-none c.args.self.now c.args.cell _
    (place-read c.args.self.now c.args.cell _ (omega (arith, c.requires.inside, c.requires.placing.places)) c.index-2.ensures)
    (sym c.is_some.ensures ∙ c.if-is_some.false) in
    let schema_is : c.index-schema.result.now ≡ schema c.args.classes.now c.args.cell =
    read c.args.classes.now.schemas.items c.args.cell c.index-schema.result.now (omega (arith, c.requires.classes.schemas, c.requires.inside)) c.index-schema.ensures in
    let next : NextPlace c.args.cells.now c.args.classes.now c.args.self.now c.set_place.new.self c.args.cell c.in-Some.node =
    visit-from c.args.cells.now c.args.classes.now c.args.self.now c.set_place.new.self c.args.cell c.index-schema.result.now c.len-place.result _ c.in-Some.node
    c.requires.classes c.requires.parts c.requires.placing c.requires.inside smallest none schema_is refl c.in-Some.ensures
    (omega (arith, c.len-place.ensures, c.args.self.now.cells.ok.0))
    (ap (λ (v : Vec Cell Global). v.items) c.set_place.ensures.cells ∙ c.in_ok-push-in-Some.ensures.items)
    c.set_place.ensures.places in
    placing-next c.args.cells.now c.args.classes.now c.args.self.now c.set_place.new.self c.args.cell c.in-Some.node next

pub returns-in_ok-push-in-Some-clause-done : goal.returns-in_ok-push-in-Some-clause-done
returns-in_ok-push-in-Some-clause-done c =
    let smallest : parent c.args.classes.now c.args.cell ≡ c.args.cell =
    sym (read c.args.classes.now.parents.items c.args.cell c.index.result.now (omega (arith, c.requires.classes.parents, c.requires.inside)) c.index.ensures)
    ∙ c.if-index-cell.false in
    let none : place c.args.self.now c.args.cell ≡ None =
    read-none c.args.self.now c.args.cell _
    (place-read c.args.self.now c.args.cell _ (omega (arith, c.requires.inside, c.requires.placing.places)) c.index-2.ensures)
    (sym c.is_some.ensures ∙ c.if-is_some.false) in
    let schema_is : c.index-schema.result.now ≡ schema c.args.classes.now c.args.cell =
    read c.args.classes.now.schemas.items c.args.cell c.index-schema.result.now (omega (arith, c.requires.classes.schemas, c.requires.inside)) c.index-schema.ensures in
    let next : NextPlace c.args.cells.now c.args.classes.now c.args.self.now c.set_place.new.self c.args.cell c.in-Some.node =
    visit-from c.args.cells.now c.args.classes.now c.args.self.now c.set_place.new.self c.args.cell c.index-schema.result.now c.len-place.result _ c.in-Some.node
    c.requires.classes c.requires.parts c.requires.placing c.requires.inside smallest none schema_is refl c.in-Some.ensures
    (omega (arith, c.len-place.ensures, c.args.self.now.cells.ok.0))
    (ap (λ (v : Vec Cell Global). v.items) c.set_place.ensures.cells ∙ c.in_ok-push-in-Some.ensures.items)
    c.set_place.ensures.places in
    visit-placed c.args.cells.now c.args.classes.now c.args.self.now c.set_place.new.self c.args.cell c.in-Some.node next
