use Rattle.std.proofs.Common.{map, take, length, ap, ◌∙◌}
use Rattle.std.specs.Prelude.{nat_lt}
use Rattle.tptp_tree.specs.Shape.{formula_of}
use Rattle.tptp_source.specs.Shape.{tree_of}
use Rattle.clausal_form.specs.DerivationClause.{ordinary_literals}
use Rattle.tstp_lines.proofs.AboutReadings.PartLemmas.{parts-clause, parts-bindings, parts-new, parts-front}
use Rattle.tstp_lines.proofs.numbers.LineNumbers.parts.Goals as goal

pub returns-clause-clause : goal.returns-clause-clause
returns-clause-clause c =
    parts-clause c.args.self.now c.clause.new.self c.bindings.new.self c.args.names.now (formula_of c.args.formula.now)
    (map tree_of c.args.items.now) _ c.requires.begun c.in_ok-clause.ensures.met c.in_ok-bindings.ensures.met c.in_ok-clause.ensures.clause

pub returns-clause-bindings : goal.returns-clause-bindings
returns-clause-bindings c =
    parts-bindings c.args.self.now c.clause.new.self c.bindings.new.self c.args.names.now (formula_of c.args.formula.now)
    (map tree_of c.args.items.now) _ c.requires.begun c.in_ok-clause.ensures.met c.in_ok-bindings.ensures.met
    c.in_ok-bindings.ensures.bindings

pub returns-clause-new_symbol : goal.returns-clause-new_symbol
returns-clause-new_symbol c =
    ap (λ i. nat_lt i c.len.result) c.len-known.ensures.value
    ∙ ap (nat_lt (length c.args.self.now.symbols)) c.len.ensures.value
    ∙ parts-new c.args.self.now c.clause.new.self c.bindings.new.self (ordinary_literals c.args.names.now (formula_of c.args.formula.now))
    (map tree_of c.args.items.now) c.in_ok-clause.ensures.met c.in_ok-bindings.ensures.met

pub returns-clause-symbols : goal.returns-clause-symbols
returns-clause-symbols c =
    c.truncate.ensures
    ∙ ap (λ i. take i c.bindings.new.self.symbols) c.len-known.ensures.value
    ∙ parts-front c.args.self.now c.clause.new.self c.bindings.new.self (ordinary_literals c.args.names.now (formula_of c.args.formula.now))
    (map tree_of c.args.items.now) c.in_ok-clause.ensures.met c.in_ok-bindings.ensures.met
