use Rattle.std.proofs.Common.{◌<◌, ◌++◌, List, map, length, ap, sym, arith, ◌∙◌}
use Rattle.std.proofs.lemmas.List.{take_all}
use Rattle.fol_base.specs.Tree.{Tree}
use Rattle.fol_base.specs.Ground.{literals_instance}
use Rattle.fol_base.specs.Term.{tree_of}
use Rattle.fol_base.specs.Literal.{literal_of, clause_of}
use Rattle.herbrand_list.specs.Demands.{put_in, terms_for}
use Rattle.herbrand_list.specs.GroundList.{demanded_instance}
use Rattle.herbrand_list.specs.Answer.{nameless}
use Rattle.herbrand_list.specs.Worked.{constant_tree, listed, row_at}
use Rattle.herbrand_list.proofs.AboutListing.ArrivalLemmas.{terms-of-row, row-length}
use Rattle.herbrand_list.proofs.AboutListing.ListLemmas.{literals-read, instance-pushed}
use Rattle.herbrand_list.proofs.listing.push_instances.Goals as goal

pub loop-index-preserved : goal.loop-index-preserved
loop-index-preserved c =
    let constant = constant_tree c.args.constant in
    let lines = c.args.lines.now in
    let n = c.args.number in
    let i = c.loop-index.index in
    let demands = listed c.args.demands.now in
    let long = row-length constant lines demands _ _ _ n c.requires.listed c.requires.there in
    let low : i < length (terms_for n demands) = omega (arith, c.loop-index-test.true, c.count-index-end.ensures, long) in
    let inside : i < length (row_at c.args.demands.now.by_line.items n) = omega (arith, c.loop-index-test.true, c.count-index-end.ensures) in
    let read =
    ap (map literal_of) c.as_slice-literals.ensures
    ∙ sym (literals-read lines n c.index-lines-number.result c.requires.there) in
    instance-pushed constant lines n (terms_for n demands) i c.args.list.now c.loop-index.list c.push.new.self c.in_ok-put_literals.field-0
    (map tree_of c.terms_of.result.now) low c.loop-index.invariant c.in_ok-push.ensures.ok
    (c.in_ok-put_literals.ensures ∙ ap (λ ls. nameless (literals_instance (put_in constant (map tree_of c.terms_of.result.now)) ls)) read)
    (c.terms_of.ensures ∙ sym (terms-of-row constant lines demands _ _ _ n i c.requires.listed c.requires.there inside))

pub returns : goal.returns
returns c =
    let constant = constant_tree c.args.constant in
    let lines = c.args.lines.now in
    let n = c.args.number in
    let demands = listed c.args.demands.now in
    let long = row-length constant lines demands _ _ _ n c.requires.listed c.requires.there in
    c.loop-index.invariant
    ∙ ap (λ (ts : List (List Tree)). map clause_of c.args.list.now ++ map nameless (map (demanded_instance constant lines n) ts))
    (take_all c.loop-index.index (terms_for n demands) (omega (arith, c.loop-index-test.false, c.count-index-end.ensures, long)))
