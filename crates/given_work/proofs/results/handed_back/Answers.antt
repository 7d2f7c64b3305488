use Rattle.std.proofs.Common.{◌≡◌, ◌∷◌, [], List, map, ap, ap₂, sym, ◌∙◌, arith}
use Rattle.std.proofs.lemmas.Result.{IfOk-weaker}
use Rattle.fol_base.specs.Literal.{clause_of, literal_of}
use Rattle.fol_base.specs.declared.clause.Clause.{Clause}
use Rattle.pool_history.specs.Reduction.{handed_back}
use Rattle.given_work.specs.Results.{parts_at}
use Rattle.given_work.proofs.AboutBatches.ResultLemmas.{handed-parts, single-whole}
use Rattle.given_work.proofs.results.handed_back.Goals as goal

pub returns-then-len-lt2-2 : goal.returns-then-len-lt2-2
returns-then-len-lt2-2 c =
    let d = clause_of c.args.clause in
    let is = single-whole d c.args.split c.in_ok-parts.parts c.in_ok-parts.ensures (omega (arith, c.len-2.ensures, c.if-len-lt2-2.true)) in
    IfOk-weaker c.one_clause-then-len-lt2-2.result (λ (clauses : List Clause). map clause_of clauses ≡ d ∷ [])
    (λ clauses. map clause_of clauses ≡ handed_back c.args.split d) (λ clauses one. one ∙ sym is) c.one_clause-then-len-lt2-2.ensures

pub returns : goal.returns
returns c =
    let d = clause_of c.args.clause in
    let is =
    handed-parts d c.args.split c.in_ok-parts.parts c.if-not-split.false c.in_ok-parts.ensures
    (omega (arith, c.len-2.ensures, c.if-len-lt2-2.false)) in
    let same = ap₂ parts_at (ap (map literal_of) c.as_slice.ensures) c.as_slice-2.ensures in
    IfOk-weaker c.parts_of.result (λ (clauses : List Clause). map clause_of clauses ≡ parts_at (map literal_of c.as_slice.result.now) c.as_slice-2.result.now)
    (λ clauses. map clause_of clauses ≡ handed_back c.args.split d) (λ clauses given. given ∙ same ∙ is) c.parts_of.ensures
