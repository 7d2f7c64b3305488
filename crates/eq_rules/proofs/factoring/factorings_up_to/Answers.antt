use Rattle.std.proofs.Common.{◌≡◌, ◌*◌, None, List, length, ◌+◌, true, inl, inr, ⊎_elim, arith, ap, sym, ◌∙◌, subst}
use Rattle.std.proofs.lemmas.Bool.{true≢false}
use Rattle.std.proofs.lemmas.List.{length-map}
use Rattle.fol_base.specs.Selection.{chosen}
use Rattle.literal_selection.specs.Mode.{mode_of}
use Rattle.term_bank.specs.Literal.{literal_at}
use Rattle.term_bank.specs.declared.literal.BankLit.{BankLit}
use Rattle.bank_clause.specs.Clause.{clause_at}
use Rattle.eq_rules.specs.Inferences.{AreInferences, AreSomeInferences, alone, is_enough, is_factoring}
use Rattle.eq_rules.specs.declared.inference.Inference.{Inference}
use Rattle.eq_rules.proofs.AboutFactoring.FactorAnswers.{none_there}
use Rattle.eq_rules.proofs.AboutFactoring.FactoringLists.{factorings-end, factorings-some}
use Rattle.eq_rules.proofs.factoring.factorings_up_to.Goals as goal

pub loop-number-preserved : goal.loop-number-preserved
loop-number-preserved c =
    let m = c.args.given.now in
    let none : chosen (mode_of c.args.mode) (clause_at m.clause).literals ≡ None =
    sym c.choice_of.ensures ∙ none_there c.choice_of.result (sym c.is_some.ensures ∙ c.if-is_some.false) in
    ⊎_elim (λ all. all)
    (λ few. absurd (true≢false (sym few.1 ∙ ap (is_enough c.args.most) (sym (c.len.ensures ∙ c.factor_side.new.found.ok.0)) ∙ sym c.is_enough.ensures ∙ c.if-is_enough.false)))
    (c.in_ok-factor_side.ensures (mode_of c.args.mode) none c.loop-number.invariant)

pub returns-then-is_enough : goal.returns-then-is_enough
returns-then-is_enough c =
    let mode = mode_of c.args.mode in
    let m = c.args.given.now in
    let es = c.factor_side.new.found.items in
    let none : chosen mode (clause_at m.clause).literals ≡ None =
    sym c.choice_of.ensures ∙ none_there c.choice_of.result (sym c.is_some.ensures ∙ c.if-is_some.false) in
    inr (
      subst (λ (xs : List Inference). is_enough c.args.most (length xs) ≡ true) (sym c.from_vec-then-is_enough.ensures)
          (ap (is_enough c.args.most) (sym (c.len.ensures ∙ c.factor_side.new.found.ok.0)) ∙ sym c.is_enough.ensures ∙ c.if-is_enough.true),
      λ usage used.
          subst (λ (xs : List Inference). AreSomeInferences usage.is_predicate mode (alone m) is_factoring xs) (sym c.from_vec-then-is_enough.ensures)
          (⊎_elim (λ all. factorings-some usage.is_predicate mode m (c.loop-number.number + 1) 0 es (all usage used))
          (λ few. factorings-some usage.is_predicate mode m c.loop-number.number few.0 es (few.2 usage used))
          (c.in_ok-factor_side.ensures mode none c.loop-number.invariant)),
    )

pub returns : goal.returns
returns c = inl (λ usage used.
    let p = usage.is_predicate in
    let mode = mode_of c.args.mode in
    let m = c.args.given.now in
    let read : length c.literals.result.now ≡ length m.clause.literals = ap (λ (ls : List BankLit). length ls) c.literals.ensures.literals in
    let many : c.loop-number.number ≡ 2 * length (clause_at m.clause).literals =
    omega (arith, read, length-map m.clause.literals literal_at, c.loop-number-test.false, c.loop-number.auto.number-end) in
    subst (λ (es : List Inference). AreInferences p mode (alone m) is_factoring es) (sym c.from_vec-2.ensures)
    (factorings-end p mode m c.loop-number.number c.loop-number.found.items many (c.loop-number.invariant usage used)))
