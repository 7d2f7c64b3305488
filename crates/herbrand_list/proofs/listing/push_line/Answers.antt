use Rattle.std.proofs.Common.{map, ap, sym, ◌∙◌}
use Rattle.fol_base.specs.Literal.{clause_of}
use Rattle.list_lemmas.proofs.Results.{ok-then}
use Rattle.herbrand_list.specs.GroundList.{is_clausify}
use Rattle.herbrand_list.specs.Worked.{constant_tree, listed}
use Rattle.herbrand_list.proofs.AboutListing.ListLemmas.{step-read, line-all, line-none}
use Rattle.herbrand_list.proofs.listing.push_line.Goals as goal

pub returns-then-not-is_clausify : goal.returns-then-not-is_clausify
returns-then-not-is_clausify c =
    line-none (constant_tree c.args.constant) c.args.lines.now (listed c.args.demands.now) c.args.number (map clause_of c.args.list.now)
    (ap is_clausify (step-read c.args.lines.now c.args.number c.index-lines-number.result c.requires.there)
    ∙ sym c.is_clausify.ensures ∙ c.if-not-is_clausify.true)

pub returns : goal.returns
returns c =
    ok-then c.push_instances.result _ _
    (λ x made.
    line-all (constant_tree c.args.constant) c.args.lines.now (listed c.args.demands.now) c.args.number (map clause_of c.args.list.now) _
    (ap is_clausify (step-read c.args.lines.now c.args.number c.index-lines-number.result c.requires.there)
    ∙ sym c.is_clausify.ensures ∙ c.if-not-is_clausify.false)
    made)
    c.push_instances.ensures
