use Rattle.std.proofs.Common.{◌≡◌, ◌-◌, ◌++◌, map, append-nil, refl, ap, sym, arith, ◌∙◌}
use Rattle.fol_base.specs.Literal.{clause_of}
use Rattle.herbrand_list.specs.GroundList.{instances_below}
use Rattle.herbrand_list.specs.Answer.{nameless}
use Rattle.herbrand_list.specs.Worked.{constant_tree, listed}
use Rattle.herbrand_list.proofs.AboutListing.ListLemmas.{listed-line}
use Rattle.herbrand_list.proofs.listing.instances.Goals as goal

pub loop-number-preserved : goal.loop-number-preserved
loop-number-preserved c =
    listed-line (constant_tree c.args.constant) c.args.lines.now (listed c.args.demands.now) (c.loop-number.number - 1) c.loop-number.number
    (map clause_of c.loop-number.list) (map clause_of c.push_line.new.list) _ (omega (arith, c.loop-number-test.true)) refl c.in_ok-push_line.ensures
    c.loop-number.invariant

pub returns : goal.returns
returns c =
    let done : c.loop-number.number ≡ 0 = omega (arith, c.loop-number-test.false) in
    sym (append-nil (map clause_of c.loop-number.list))
    ∙ ap
    (λ n. map clause_of c.loop-number.list ++ map nameless (instances_below (constant_tree c.args.constant) c.args.lines.now (listed c.args.demands.now) n))
    (sym done)
    ∙ c.loop-number.invariant
