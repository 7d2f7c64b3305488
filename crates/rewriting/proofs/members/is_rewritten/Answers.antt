use Rattle.std.proofs.Common.{List, ap, arith}
use Rattle.std.specs.Prelude.{sum_by}
use Rattle.fol_base.specs.Clause.{TreeLiteral, literal_size}
use Rattle.rewriting.proofs.AboutRedexes.RewritableLemmas.{answer-is}
use Rattle.rewriting.proofs.members.is_rewritten.Goals as goal

pub find-requires-clause-size : goal.find-requires-clause-size
find-requires-clause-size c =
    let same = ap (λ (ls : List TreeLiteral). sum_by literal_size ls) c.lend-literals.ensures in
    omega (arith, same, c.size.ensures.size, c.size.ensures.limit)

pub returns : goal.returns
returns c = λ usage of_unit of_member.
    answer-is usage c.args.units.now c.args.unit.now c.args.member.now c.names.result.now c.lend-literals.result c.in_ok-found.found c.is_some.result
    c.requires.alone c.names.ensures.names c.lend-literals.ensures c.in_ok-found.ensures.found c.is_some.ensures of_unit of_member

pub find-requires-clause-remembers : goal.find-requires-clause-remembers
find-requires-clause-remembers c = c.new-normal.ensures _
