use Rattle.std.proofs.Common.{◌≡◌, ◌++◌, List, length, ap, ◌∙◌, arith}
use Rattle.std.specs.Prelude.{flat_map}
use Rattle.std.proofs.lemmas.List.{length-map}
use Rattle.term_bank.specs.Literal.{literal_at}
use Rattle.term_bank.specs.declared.literal.BankLit.{BankLit}
use Rattle.bank_clause.specs.Clause.{clause_at}
use Rattle.superpose.specs.Sites.{all_sides, entered_places}
use Rattle.eq_rules.specs.declared.concluding.LiteralSide.{LiteralSide}
use Rattle.superpose.proofs.AboutSites.SiteLemmas.{enters_more}
use Rattle.superpose.proofs.sites.enter_sites.Goals as goal

pub loop-literal-preserved : goal.loop-literal-preserved
loop-literal-preserved c mode choice_is =
    let ls = (clause_at c.args.member.now.clause).literals in
    enters_more mode ls c.loop-literal.literal c.loop-literal.into.items c.push_entered.new.into.items c.push_entered-in-loop-literal.new.into.items
    (c.loop-literal.invariant mode choice_is)
    (c.in_ok-push_entered.ensures mode choice_is
    ∙ ap (λ (s : LiteralSide). c.loop-literal.into.items ++ entered_places mode ls s) c.left_of.ensures)
    (c.in_ok-push_entered-2.ensures mode choice_is
    ∙ ap (λ (s : LiteralSide). c.push_entered.new.into.items ++ entered_places mode ls s) c.right_of.ensures)

pub returns : goal.returns
returns c mode choice_is =
    let m = c.args.member.now in
    let ls = (clause_at m.clause).literals in
    let read : length c.literals-count.result.now ≡ length m.clause.literals = ap (λ (xs : List BankLit). length xs) c.literals-count.ensures.literals in
    let many : c.loop-literal.literal ≡ length ls =
    omega (arith, read, length-map m.clause.literals literal_at, c.loop-literal-test.false, c.loop-literal.auto.literal-end) in
    c.loop-literal.invariant mode choice_is ∙ ap (λ n. flat_map (entered_places mode ls) (all_sides n)) many
