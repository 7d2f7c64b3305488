use Rattle.std.proofs.Common.{◌+◌, ◌++◌, ◌∷◌, [], ap, sym, subst, ◌∙◌, arith}
use Rattle.tptp_reader.specs.Bound.{IsCounted}
use Rattle.tptp_reader.proofs.AboutReads.BoundLemmas.{counted-short, counted-push}
use Rattle.tptp_reader.proofs.bound.Bound.push.Goals as goal

pub invariant_of-self-then-len-lt-SCANNED : goal.invariant_of-self-then-len-lt-SCANNED
invariant_of-self-then-len-lt-SCANNED c =
    counted-short c.self.inside.names.items c.push.new.self.items c.self.inside.behind (omega (arith, c.len.ensures, c.if-len-lt-SCANNED.true))
    (omega (arith, c.len.ensures, c.if-len-lt-SCANNED.true, c.in_ok-push.ensures.len)) c.self.invariant

pub invariant_of-self-2 : goal.invariant_of-self-2
invariant_of-self-2 c =
    let names = c.self.inside.names.items in
    let grown = c.push_reserved.ensures.items ∙ ap (λ ns. ns ++ c.args.name ∷ []) c.in_ok-reserve.ensures.items in
    subst (λ ns. IsCounted ns c.insert.new.self) (sym grown)
    (counted-push names c.args.name c.self.inside.behind c.insert.new.self (c.count_of-count.result + 1) (omega (arith, c.len.ensures, c.if-len-lt-SCANNED.false))
    c.self.invariant (ap (λ n. n + 1) c.count_of-count.ensures) c.in_ok-insert.ensures.updates)
