use Rattle.std.proofs.Common.{◌≡◌, map, length, ap, sym, ◌∙◌, subst, arith}
use Rattle.std.proofs.lemmas.List.{length-map}
use Rattle.fol_base.specs.Literal.{clause_of, literal_of}
use Rattle.unit_cutting.proofs.AboutLeaving.DroppingLemmas.{NoneBefore, none-equal}
use Rattle.unit_cutting.proofs.dropping.find_equal.Goals as goal

pub returns : goal.returns
returns c =
    let ls = c.args.clause.now.literals in
    let end : c.loop-goes.goes ≡ length c.as_slice-literals.result.now = omega arith in
    let many : c.loop-goes.goes ≡ length (map literal_of ls) = end ∙ ap length c.as_slice-literals.ensures ∙ sym (length-map ls literal_of) in
    none-equal (clause_of c.args.clause.now) (subst (λ n. NoneBefore (clause_of c.args.clause.now) n) many c.loop-goes.invariant)
