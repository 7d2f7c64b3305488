use Rattle.std.proofs.Common.{◌≡◌, ◌+◌, ◌++◌, List, map, length, add-one, refl, ap, sym, ◌∙◌, subst, arith}
use Rattle.std.specs.Prelude.{Option, Some, All}
use Rattle.fol_base.specs.Clause.{TreeClause}
use Rattle.bank_clause.specs.Clause.{clause_at, IsClauseOf}
use Rattle.bank_clause.specs.declared.clause.BankClause.{BankClause}
use Rattle.pool_core.specs.CountedList.{keys_in}
use Rattle.pool_history.specs.Answers.{IsChangeOf}
use Rattle.pool_history.specs.Claiming.{next_given}
use Rattle.pool_history.specs.News.{TreeChange, change_of, first_told}
use Rattle.pool_history.specs.Record.{PoolRecord}
use Rattle.pool_history.specs.Replay.{replay}
use Rattle.pool_core.specs.State.{IsStateOf}
use Rattle.pool_history.specs.View.{PoolView}
use Rattle.pool_core.proofs.AboutClaims.ClaimLemmas.{given-registered}
use Rattle.pool_core.proofs.AboutClaims.StateLemmas.{clause-there, one-of-bank, record_of}
use Rattle.pool_core.proofs.pool.Pool.ticket.Goals as goal

pub get-requires : goal.get-requires
get-requires c =
    given-registered c.self.inside c.args.number c.self.invariant
    (ap (λ (v : PoolView). next_given (replay v.origin v.history)) c.self.view_is ∙ c.requires.next)

pub returns-clause-next : goal.returns-clause-next
returns-clause-next c =
    let r : PoolRecord = replay c.args.self.now.origin c.args.self.now.history in
    let is : IsStateOf c.self.inside r = subst (λ (v : PoolView). IsStateOf c.self.inside (replay v.origin v.history)) c.self.view_is c.self.invariant.state in
    let counted : length r.counted ≡ length (keys_in c.self.inside.counted) = sym (ap length is.counted) in
    let options : c.args.self.now.origin.options.inferences ≡ c.self.inside.options.inferences = ap (λ (v : PoolView). v.origin.options.inferences) (sym c.self.view_is) in
    record {
      job = c.in_ok-one_more.ensures ∙ ap (λ k. k + 1) is.last_job ∙ add-one r.jobs;
      same = refl;
      position = c.in_ok-position.ensures.position;
      clause =
          clause-there c.self.inside r c.args.number c.get.result.now is c.get.ensures
          ∙ ap (λ (d : BankClause). let o : Option TreeClause = Some (clause_at d) in o) (sym c.in_ok-clause.ensures ∙ sym c.clause.view_is);
      news =
          ap (map change_of) c.news-2.view_is ∙ c.in_ok-position.ensures.news
          ∙ ap (λ (cs : List TreeChange). cs ++ first_told r c.args.number) c.in_ok-news.ensures.told;
      left = omega (arith, counted, options);
      as_of = c.in_ok-one_more-2.ensures ∙ ap (λ k. k + 1) c.len.ensures ∙ ap (λ (v : PoolView). length v.history + 1) c.self.view_is;
    }

pub returns-clause-of_bank : goal.returns-clause-of_bank
returns-clause-of_bank c = record {
  given =
      subst (IsClauseOf c.args.self.now.bank) (sym c.clause.view_is)
      (subst (λ (v : PoolView). IsClauseOf v.bank c.in_ok-clause.clause) c.self.view_is
      (one-of-bank c.self.inside (record_of c.self.inside) c.args.number c.get.result.now c.in_ok-clause.clause c.self.invariant.state c.get.ensures
      c.in_ok-clause.ensures));
  told =
      subst (All (IsChangeOf c.args.self.now.bank)) (sym c.news-2.view_is)
      (c.in_ok-position.ensures.of_bank c.in_ok-news.ensures.of_bank);
}
