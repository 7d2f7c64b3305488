use Rattle.std.proofs.Common.{Ok, Err, sym, rules}
use Rattle.std.proofs.lemmas.List.Sorted.{answers_always}
use Rattle.unifier.specs.declared.layout.Place.{Place}
use Rattle.unifier.proofs.AboutLayouts.PlaceLemmas.{halved}
use Rattle.unifier.proofs.layout.find_place.Goals as goal

pub returns-in-Ok : goal.returns-in-Ok
returns-in-Ok c =
    sym
    (halved c.args.places.now c.requires c.args.code (Ok c.in-Ok.at) c.in-Ok.ensures.bound
    (c.in-Ok.ensures.position (λ (p : Place). p.code) (answers_always _ _ _ (λ f a r g called. search rules))) _)

pub returns-in-Err : goal.returns-in-Err
returns-in-Err c =
    sym
    (halved c.args.places.now c.requires c.args.code (Err c.in-Err.field-0) c.in-Err.ensures.bound
    (c.in-Err.ensures.position (λ (p : Place). p.code) (answers_always _ _ _ (λ f a r g called. search rules))))
