use Rattle.std.proofs.Common.{◌≡◌, Global, map, ap, ap₂, sym, ◌∙◌, subst, arith}
use Rattle.std.specs.declared.vec.Vec.{Vec}
use Rattle.std.proofs.lemmas.Result.{IfOk-weaker}
use Rattle.fol_base.specs.Literal.{clause_of, literal_of}
use Rattle.fol_base.specs.declared.clause.Clause.{Clause}
use Rattle.pool_core.specs.Parted.{parts_at}
use Rattle.pool_core.specs.Placing.{AreHandedIn}
use Rattle.pool_core.proofs.AboutSplits.HandedLemmas.{parts-given, single-none}
use Rattle.pool_core.proofs.input_parts.input_parts.Goals as goal

pub returns-then-len-lt2-2 : goal.returns-then-len-lt2-2
returns-then-len-lt2-2 c =
    subst (AreHandedIn c.args.split (clause_of c.args.input.now)) (sym c.new-then-len-lt2-2.ensures.items)
    (single-none (clause_of c.args.input.now) c.args.split c.in_ok-parts.parts c.in_ok-parts.ensures (omega (arith, c.len-2.ensures, c.if-len-lt2-2.true)))

pub returns : goal.returns
returns c =
    let d = clause_of c.args.input.now in
    let same = ap₂ parts_at (ap (map literal_of) c.as_slice.ensures) c.as_slice-2.ensures in
    IfOk-weaker c.parts_at.result (λ (clauses : Vec Clause Global). map clause_of clauses.items ≡ parts_at (map literal_of c.as_slice.result.now) c.as_slice-2.result.now)
    (λ clauses. AreHandedIn c.args.split d clauses.items)
    (λ clauses given.
    parts-given d c.args.split c.in_ok-parts.parts clauses.items c.if-not-split.false c.in_ok-parts.ensures (omega (arith, c.len-2.ensures, c.if-len-lt2-2.false))
    (given ∙ same))
    c.parts_at.ensures
