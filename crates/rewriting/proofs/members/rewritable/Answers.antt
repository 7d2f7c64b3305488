use Rattle.std.proofs.Common.{ℕ, List, [], eqb, sym, ◌∙◌, subst, take, arith}
use Rattle.std.proofs.lemmas.List.{take_all}
use Rattle.std.proofs.lemmas.List.Filters.{dedup_is}
use Rattle.fol_base.proofs.ListLemmas.{take_more_item}
use Rattle.bank_clause.specs.declared.member.Member.{Member}
use Rattle.rewriting.specs.Rewritable.{IsRewrittenBy}
use Rattle.bank_clause.specs.Members.{AreNumbersOf}
use Rattle.rewriting.proofs.AboutRedexes.RewritableLemmas.{AreListed, one-told, member-formed, numbers-rising}
use Rattle.rewriting.proofs.members.rewritable.Goals as goal

pub loop-member-init : goal.loop-member-init
loop-member-init c = λ usage of_unit of_members.
    subst (λ (ns : List ℕ). AreListed (IsRewrittenBy usage.is_predicate c.args.unit.now) [] ns) (sym c.new-found.ensures.items) tt

pub loop-member-preserved : goal.loop-member-preserved
loop-member-preserved c = λ usage of_unit of_members.
    let read = c.as_slice-member-items.result.now in
    let i = c.loop-member.member-index in
    let m = c.member-item.result in
    let P = IsRewrittenBy usage.is_predicate c.args.unit.now in
    subst (λ (ms : List Member). AreListed P ms c.push_where.new.numbers.items) (sym (take_more_item read i m c.loop-member-test.true c.member-item.is))
    (one-told P (take i read) c.loop-member.found.items c.push_where.new.numbers.items m c.in_ok-rewritten.rewritten
    (c.loop-member.invariant usage of_unit of_members)
    (c.in_ok-rewritten.ensures usage of_unit (member-formed usage c.args.clauses.now read i m c.as_slice-member-items.ensures c.loop-member-test.true c.member-item.is of_members))
    c.in_ok-push_where.ensures)

pub returns : goal.returns
returns c = λ usage of_unit of_members.
    let read = c.as_slice-member-items.result.now in
    let P = IsRewrittenBy usage.is_predicate c.args.unit.now in
    subst (λ (ns : List ℕ). AreNumbersOf P c.args.clauses.now ns) (sym c.from_vec.ensures)
    (numbers-rising P c.args.clauses.now c.loop-member.found.items c.sort_unstable.new.self.items c.dedup.new.self.items
    (subst (λ (ms : List Member). AreListed P ms c.loop-member.found.items)
    (take_all c.loop-member.member-index read (omega arith) ∙ c.as_slice-member-items.ensures)
    (c.loop-member.invariant usage of_unit of_members))
    c.sort_unstable.ensures.permutation c.sort_unstable.ensures.sorted (dedup_is eqb _ _ c.dedup.ensures.filtered))
