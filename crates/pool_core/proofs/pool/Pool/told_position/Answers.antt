use Rattle.std.proofs.Common.{ℕ, ◌≡◌, ◌++◌, [], ◌∷◌, map, length, append-nil, ap, sym, ◌∙◌, subst, arith}
use Rattle.std.specs.Prelude.{All}
use Rattle.std.proofs.lemmas.List.{map-append}
use Rattle.std.proofs.lemmas.List.Elements.{All-push}
use Rattle.bank_clause.specs.Clause.{clause_at, IsClauseOf}
use Rattle.bank_clause.specs.declared.clause.BankClause.{BankClause}
use Rattle.pool_history.specs.Answers.{IsChangeOf}
use Rattle.pool_history.specs.Claiming.{next_given}
use Rattle.pool_history.specs.News.{TreeChange, change_of, first_told}
use Rattle.pool_history.specs.Record.{PoolRecord, position_of}
use Rattle.pool_history.specs.Replay.{replay}
use Rattle.pool_history.specs.View.{PoolView}
use Rattle.pool_history.specs.declared.ticket.Change.TheVariants.{Activated}
use Rattle.pool_core.proofs.AboutClaims.ClaimLemmas.{given-registered, told-before, told-now}
use Rattle.pool_core.proofs.AboutClaims.FitLemmas.{positions-fit}
use Rattle.pool_core.proofs.AboutClaims.StateLemmas.{record_of, one-of-bank}
use Rattle.pool_core.proofs.pool.Pool.told_position.Goals as goal

pub get-registration-requires : goal.get-registration-requires
get-registration-requires c =
    given-registered c.self.inside c.args.number c.self.invariant
    (ap (λ (v : PoolView). next_given (replay v.origin v.history)) c.self.view_is ∙ c.requires)

pub returns-in-Some-clause-news : goal.returns-in-Some-clause-news
returns-in-Some-clause-news c =
    let r : PoolRecord = record_of c.self.inside in
    sym (append-nil (map change_of c.args.news.now))
    ∙ ap (λ cs. map change_of c.args.news.now ++ cs)
    (sym (told-before c.self.inside r c.args.number c.in-Some.position c.get-registration.result.now c.self.invariant.state c.get-registration.ensures c.in-Some.is).0
    ∙ ap (λ (v : PoolView). first_told (replay v.origin v.history) c.args.number) c.self.view_is)

pub returns-in-Some-clause-position : goal.returns-in-Some-clause-position
returns-in-Some-clause-position c =
    let r : PoolRecord = record_of c.self.inside in
    (told-before c.self.inside r c.args.number c.in-Some.position c.get-registration.result.now c.self.invariant.state c.get-registration.ensures c.in-Some.is).1
    ∙ ap (λ (v : PoolView). position_of (replay v.origin v.history) c.args.number) c.self.view_is

pub returns-in_ok-push-in-None-clause-position : goal.returns-in_ok-push-in-None-clause-position
returns-in_ok-push-in-None-clause-position c =
    let r : PoolRecord = record_of c.self.inside in
    let len : c.len-position.result ≡ length c.self.inside.positions.items = omega (arith, c.self.inside.positions.ok.0) in
    len
    ∙ (told-now c.self.inside r c.args.number c.get-registration.result.now c.self.invariant.state c.get-registration.ensures c.in-None.is).1
    ∙ ap (λ (v : PoolView). position_of (replay v.origin v.history) c.args.number) c.self.view_is

pub returns-in_ok-push-in-None-clause-news : goal.returns-in_ok-push-in-None-clause-news
returns-in_ok-push-in-None-clause-news c =
    let r : PoolRecord = record_of c.self.inside in
    ap (map change_of) c.in_ok-push-in-None.ensures.ok
    ∙ map-append change_of c.args.news.now (Activated (record { number = c.args.number; clause = c.in_ok-clause-in-None.clause }) ∷ [])
    ∙ ap (λ (d : BankClause). map change_of c.args.news.now ++ TreeChange.activated c.args.number (clause_at d) ∷ []) c.in_ok-clause-in-None.ensures
    ∙ ap (λ cs. map change_of c.args.news.now ++ cs)
    (sym (told-now c.self.inside r c.args.number c.get-registration.result.now c.self.invariant.state c.get-registration.ensures c.in-None.is).0
    ∙ ap (λ (v : PoolView). first_told (replay v.origin v.history) c.args.number) c.self.view_is)

pub returns-in-Some-clause-of_bank : goal.returns-in-Some-clause-of_bank
returns-in-Some-clause-of_bank c = λ all. all

pub returns-in_ok-push-in-None-clause-of_bank : goal.returns-in_ok-push-in-None-clause-of_bank
returns-in_ok-push-in-None-clause-of_bank c = λ all.
    let bank : ℕ = c.args.self.now.bank in
    subst (All (IsChangeOf bank)) (sym c.in_ok-push-in-None.ensures.ok)
    (All-push (IsChangeOf bank) c.args.news.now (Activated (record { number = c.args.number; clause = c.in_ok-clause-in-None.clause })) all
    (subst (λ (v : PoolView). IsClauseOf v.bank c.in_ok-clause-in-None.clause) c.self.view_is
    (one-of-bank c.self.inside (record_of c.self.inside) c.args.number c.get-registration.result.now c.in_ok-clause-in-None.clause
    c.self.invariant.state c.get-registration.ensures c.in_ok-clause-in-None.ensures)))

pub overflow_cast-position : goal.overflow_cast-position
overflow_cast-position c =
    let few = positions-fit c.self.inside c.self.invariant in
    let len : c.len-position.result ≡ length c.self.inside.positions.items = omega (arith, c.self.inside.positions.ok.0) in
    omega (arith, few, len)
