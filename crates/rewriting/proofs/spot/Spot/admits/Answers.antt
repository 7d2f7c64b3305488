use Rattle.std.proofs.Common.{◌<◌, ap, sym, ◌∙◌, subst, arith, Bor}
use Rattle.std.specs.Prelude.{Option, IfSome, option_map}
use Rattle.fol_base.specs.Tree.{tree_size, variable}
use Rattle.fol_base.specs.Instance.{instance}
use Rattle.fol_base.specs.Order.{tree_greater}
use Rattle.fol_base.specs.Term.{tree_of}
use Rattle.fol_base.specs.declared.term.Term.{Term}
use Rattle.fol_base.specs.declared.limits.TheConstants.{SIZE_LIMIT}
use Rattle.kbo_order.specs.declared.limits.TheConstants.{COMPARED_SIZE_LIMIT}
use Rattle.kbo_order.proofs.AboutReading.ReadingLemmas.{instance-itself}
use Rattle.unifier.specs.Matching.{by_pairs}
use Rattle.rewriting.specs.Redex.{is_within}
use Rattle.rewriting.proofs.spot.Spot.admits.Goals as goal

pub greater_under-requires-clause-left_size : goal.greater_under-requires-clause-left_size
greater_under-requires-clause-left_size c =
    let t = tree_of c.in-Some.limit.now in
    let P : Option (Bor Term) → Type 0 = λ o. IfSome (option_map (λ (b : Bor Term). tree_of b.now) o) (λ u. tree_size u < SIZE_LIMIT) in
    let fits : tree_size t < SIZE_LIMIT = subst P c.in-Some.is c.requires.limit in
    let small : tree_size (instance variable t) < COMPARED_SIZE_LIMIT = omega (arith, ap tree_size (instance-itself t), fits) in
    small

pub returns-in-Some : goal.returns-in-Some
returns-in-Some c =
    let new = instance (by_pairs c.args.terms.now) (tree_of c.args.new.now) in
    c.greater_under.ensures
    ∙ ap (λ t. tree_greater t new) (instance-itself (tree_of c.in-Some.limit.now))
    ∙ ap (λ (o : Option (Bor Term)). is_within (option_map (λ (b : Bor Term). tree_of b.now) o) new) (sym c.in-Some.is)
