use Rattle.std.proofs.Common.{◌≡◌, ◌∷◌, ◌++◌, [], List, map, take, sym, ap, ◌∙◌, subst, arith}
use Rattle.fol_base.specs.Clause.{TreeLiteral}
use Rattle.std.specs.List.{All}
use Rattle.fol_base.specs.Literal.{literal_of}
use Rattle.fol_base.proofs.ListLemmas.{map-take_more_item}
use Rattle.term_bank.specs.Literal.{AreLiteralsOf, literals_at}
use Rattle.term_bank.specs.declared.bank.Bank.{Bank}
use Rattle.term_bank.specs.declared.table.Table.{Table}
use Rattle.term_bank.specs.declared.literal.BankLit.{BankLit}
use Rattle.bank_clause.specs.Clause.{IsKnown}
use Rattle.bank_clause.proofs.SidesLemmas.{interned-literal, interned-part, interned-whole, literals-push, on-err}
use Rattle.bank_clause.proofs.interning.intern_literals.Goals as goal

pub loop-literal-preserved : goal.loop-literal-preserved
loop-literal-preserved g c =
    let bank : Bank = c.args.bank.now in
    let table : Table = c.intern_literal.new.table in
    let before : List BankLit = c.loop-literal.made.items in
    let l : BankLit = c.in_ok-intern_literal.field-0 in
    let made : List TreeLiteral = map literal_of (take c.loop-literal.literal-index c.args.literals.now) in
    let pushed : c.push.new.self.items ≡ before ++ l ∷ [] = c.in_ok-push.ensures.ok in
    let all :
    AreLiteralsOf bank (before ++ l ∷ [])
    × (literals_at (before ++ l ∷ []) ≡ made ++ literal_of c.literal-item.result ∷ [])
    × All (IsKnown table) (before ++ l ∷ []) =
    literals-push _ c.loop-literal.table table bank before l made (literal_of c.literal-item.result)
    c.in_ok-intern_literal.ensures.interned
    c.loop-literal.invariant.0 c.loop-literal.invariant.1 c.loop-literal.invariant.2
    c.in_ok-intern_literal.ensures.references c.in_ok-intern_literal.ensures.same c.in_ok-intern_literal.ensures.known in (
      subst (AreLiteralsOf bank) (sym pushed) all.0,
      ap literals_at pushed ∙ all.1
          ∙ sym (map-take_more_item literal_of c.args.literals.now c.loop-literal.literal-index c.literal-item.result (omega (arith, c.loop-literal-test.true)) c.literal-item.is),
      subst (λ ls. All (IsKnown table) ls) (sym pushed) all.2,
      c.intern_literal.ensures.table,
      interned-literal c.args.literals.now c.loop-literal.literal-index c.literal-item.result _ _ _
          (omega (arith, c.loop-literal-test.true)) c.literal-item.is c.loop-literal.invariant.4 c.in_ok-intern_literal.ensures.interned,
    )

pub returns-in_err-intern_literal-clause-interned_first : goal.returns-in_err-intern_literal-clause-interned_first
returns-in_err-intern_literal-clause-interned_first g c =
    on-err c.from_residual-in_err-intern_literal.result
    (interned-part c.args.literals.now c.loop-literal.literal-index c.literal-item.result _ _ _
    (omega (arith, c.loop-literal-test.true)) c.literal-item.is c.loop-literal.invariant.4 c.in_err-intern_literal.ensures.interned_first)

pub returns-in_err-push-clause-interned_first : goal.returns-in_err-push-clause-interned_first
returns-in_err-push-clause-interned_first g c =
    on-err c.from_residual-in_err-push.result
    (interned-part c.args.literals.now c.loop-literal.literal-index c.literal-item.result _ _ _
    (omega (arith, c.loop-literal-test.true)) c.literal-item.is c.loop-literal.invariant.4
    (interned-whole _ _ _ c.in_ok-intern_literal.ensures.interned))
