use Rattle.std.proofs.Common.{◌≡◌, ◌+◌, length, refl, ap, sym, ◌∙◌, subst, arith}
use Rattle.std.specs.Prelude.{Option, Some}
use Rattle.fol_base.specs.Clause.{TreeClause}
use Rattle.bank_clause.specs.Clause.{clause_at, IsClauseOf}
use Rattle.bank_clause.specs.declared.clause.BankClause.{BankClause}
use Rattle.pool_history.specs.Record.{PoolRecord, clauses_of, position_of, given_job}
use Rattle.pool_history.specs.Replay.{replay}
use Rattle.pool_core.specs.State.{IsStateOf}
use Rattle.pool_history.specs.View.{PoolView}
use Rattle.pool_core.proofs.AboutClaims.ClaimLemmas.{told-before}
use Rattle.pool_core.proofs.AboutReturns.ReturnLemmas.{out-below, out-placed}
use Rattle.pool_core.proofs.AboutClaims.StateLemmas.{record_of, registered-count, clause-there, one-of-bank}
use Rattle.pool_core.proofs.pool.Pool.ticket_again.Goals as goal

pub get-registration-requires : goal.get-registration-requires
get-registration-requires c =
    let found : given_job (record_of c.self.inside) c.args.job ≡ Some c.requires.out.given =
    ap (λ (v : PoolView). given_job (replay v.origin v.history) c.args.job) c.self.view_is ∙ c.requires.out.out in
    let below = out-below c.self.inside c.args.job c.requires.out.given c.self.invariant found in
    let count = registered-count c.self.inside (record_of c.self.inside) c.self.invariant.state in
    omega (arith, below, count, c.requires.out.says.0)

pub unreachable-requires : goal.unreachable-requires
unreachable-requires c =
    let found : given_job (record_of c.self.inside) c.args.job ≡ Some c.requires.out.given =
    ap (λ (v : PoolView). given_job (replay v.origin v.history) c.args.job) c.self.view_is ∙ c.requires.out.out in
    out-placed c.self.inside c.args.job c.args.out.number c.requires.out.given c.get-registration.result.now c.self.invariant found c.requires.out.says.0
    c.get-registration.ensures c.in_default.is

pub returns-clause-again : goal.returns-clause-again
returns-clause-again c =
    let r : PoolRecord = replay c.args.self.now.origin c.args.self.now.history in
    let is : IsStateOf c.self.inside r = subst (λ (v : PoolView). IsStateOf c.self.inside (replay v.origin v.history)) c.self.view_is c.self.invariant.state in
    record {
      given = c.requires.out.given;
      out = c.requires.out.out;
      says = record {
        same = refl;
        number = sym c.requires.out.says.0;
        position =
            (told-before c.self.inside r c.args.out.number c.in-Some.position c.get-registration.result.now is c.get-registration.ensures c.in-Some.is).1
            ∙ ap (position_of r) (sym c.requires.out.says.0);
        clause =
            ap (clauses_of r) c.requires.out.says.0
            ∙ clause-there c.self.inside r c.args.out.number c.get-registration.result.now is c.get-registration.ensures
            ∙ ap (λ (d : BankClause). let o : Option TreeClause = Some (clause_at d) in o) (sym c.in_ok-clause.ensures);
        news = c.in_ok-news.ensures.told;
        left = sym c.requires.out.says.1;
        as_of = c.in_ok-as_of.ensures ∙ ap (λ k. k + 1) c.len.ensures ∙ ap (λ (v : PoolView). length v.history + 1) c.self.view_is;
      };
    }

pub returns-clause-of_bank : goal.returns-clause-of_bank
returns-clause-of_bank c = record {
  given =
      subst (λ (v : PoolView). IsClauseOf v.bank c.in_ok-clause.clause) c.self.view_is
      (one-of-bank c.self.inside (record_of c.self.inside) c.args.out.number c.get-registration.result.now c.in_ok-clause.clause c.self.invariant.state
      c.get-registration.ensures c.in_ok-clause.ensures);
  told = c.in_ok-news.ensures.of_bank;
}
