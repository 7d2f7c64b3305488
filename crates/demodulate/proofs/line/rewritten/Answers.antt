use Rattle.std.proofs.Common.{map, ap, sym, ◌∙◌, refl}
use Rattle.std.specs.Option.{option_map}
use Rattle.fol_base.specs.Literal.{literal_of, clause_of}
use Rattle.bank_clause.specs.Clause.{clause_at}
use Rattle.demodulate.proofs.AboutSteps.CallLemmas.{gives-some, becomes}
use Rattle.demodulate.proofs.line.rewritten.Goals as goal

pub unreachable-requires : goal.unreachable-requires
unreachable-requires c =
    gives-some (clause_at c.args.unit.now) (clause_of c.args.clause.now) c.args.found.now c.requires.found
    c.lend-equation.result (clause_of c.args.clause.now).literals c.args.own.now c.args.found.now.literal
    c.lend-equation.ensures refl c.requires.own refl
    (sym (ap (option_map (map literal_of)) c.in-None.is) ∙ c.in_ok-para.ensures)

pub returns : goal.returns
returns c =
    becomes (clause_at c.args.unit.now) (clause_of c.args.clause.now) c.args.found.now c.requires.found
    c.lend-equation.result (clause_of c.args.clause.now).literals c.args.own.now c.args.found.now.literal
    c.lend-equation.ensures refl c.requires.own refl
    (clause_of (record { literals = c.in-Some.literals; names = c.in_ok-copy-in-Some.field-0 }))
    (sym (ap (option_map (map literal_of)) c.in-Some.is) ∙ c.in_ok-para.ensures)
    c.in_ok-copy-in-Some.ensures
