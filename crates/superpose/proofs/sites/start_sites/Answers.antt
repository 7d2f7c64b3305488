use Rattle.std.proofs.Common.{◌≡◌, ◌++◌, ◌∷◌, [], List, length, ap, sym, ◌∙◌, arith}
use Rattle.std.specs.Prelude.{filter}
use Rattle.std.specs.Option.{is_some}
use Rattle.std.proofs.lemmas.List.{length-map}
use Rattle.term_bank.specs.Literal.{literal_at}
use Rattle.term_bank.specs.declared.literal.BankLit.{BankLit}
use Rattle.bank_clause.specs.Clause.{clause_at}
use Rattle.superpose.specs.Sites.{all_sides, can_start}
use Rattle.eq_rules.specs.declared.concluding.LiteralSide.{LiteralSide}
use Rattle.superpose.proofs.AboutSites.SiteLemmas.{no_starts, starts_more}
use Rattle.list_lemmas.proofs.Results.{not-some}
use Rattle.superpose.proofs.sites.start_sites.Goals as goal

pub returns-then-is_some : goal.returns-then-is_some
returns-then-is_some c mode choice_is =
    let ls = (clause_at c.args.member.now.clause).literals in
    c.new-from.ensures.items
    ∙ sym (no_starts mode ls (ap is_some (sym choice_is) ∙ sym c.if-is_some.ensures) (all_sides (length ls)))

pub loop-literal-preserved : goal.loop-literal-preserved
loop-literal-preserved c mode none =
    let ls = (clause_at c.args.member.now.clause).literals in
    starts_more mode ls c.loop-literal.literal c.loop-literal.from.items c.push_start.new.from.items c.push_start-in-loop-literal.new.from.items
    (c.loop-literal.invariant mode none)
    (c.in_ok-push_start.ensures mode none
    ∙ ap (λ (s : LiteralSide). c.loop-literal.from.items ++ filter (can_start mode ls) (s ∷ [])) c.left_of.ensures)
    (c.in_ok-push_start-2.ensures mode none
    ∙ ap (λ (s : LiteralSide). c.push_start.new.from.items ++ filter (can_start mode ls) (s ∷ [])) c.right_of.ensures)

pub returns : goal.returns
returns c mode choice_is =
    let m = c.args.member.now in
    let ls = (clause_at m.clause).literals in
    let read : length c.literals-count.result.now ≡ length m.clause.literals = ap (λ (xs : List BankLit). length xs) c.literals-count.ensures.literals in
    let many : c.loop-literal.literal ≡ length ls =
    omega (arith, read, length-map m.clause.literals literal_at, c.loop-literal-test.false, c.loop-literal.auto.literal-end) in
    c.loop-literal.invariant mode (sym choice_is ∙ not-some c.args.choice (sym c.if-is_some.ensures))
    ∙ ap (λ n. filter (can_start mode ls) (all_sides n)) many
