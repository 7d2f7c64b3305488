use Rattle.std.proofs.Common.{◌≡◌, ◌∷◌, ◌++◌, List, length, ap, sym, ◌∙◌, subst, arith}
use Rattle.std.specs.Prelude.{IsPermutation}
use Rattle.std.proofs.lemmas.List.{length-map}
use Rattle.std.proofs.lemmas.Result.{IfOk-weaker}
use Rattle.term_bank.specs.Literal.{literal_at}
use Rattle.bank_clause.specs.declared.member.Member.{Member}
use Rattle.subsume.specs.Longer.{HasOne, IsLonger}
use Rattle.subsume.proofs.AboutTree.EditLemmas.{all-inserted, inserted-high, inserted-low}
use Rattle.subsume.proofs.parted.PartedMembers.insert.Goals as goal

pub invariant_of-self : goal.invariant_of-self
invariant_of-self c =
    let one : HasOne c.args.entry.member =
    length-map c.args.entry.member.clause.literals literal_at ∙ ap length (sym c.literals.ensures.literals) ∙ c.if-literals-eq1.true in
    record {
      units =
          all-inserted HasOne c.insert.result c.args.entry.member c.self.inside.units.0 c.insert.new.self.0 c.insert.ensures.ok c.insert.ensures.err one
          c.self.invariant.units;
      longer = c.self.invariant.longer;
    }

pub returns-then-literals-eq1-clause-ok : goal.returns-then-literals-eq1-clause-ok
returns-then-literals-eq1-clause-ok c =
    IfOk-weaker c.insert.result _ _
    (λ done h.
    subst (λ (ms : List Member). IsPermutation (c.args.entry.member ∷ ms) (c.insert.new.self.0 ++ c.self.inside.longer.0)) c.self.view_is
    (inserted-low c.args.entry.member c.self.inside.units.0 c.self.inside.longer.0 c.insert.new.self.0 h))
    c.insert.ensures.ok

pub invariant_of-self-else-literals-eq1 : goal.invariant_of-self-else-literals-eq1
invariant_of-self-else-literals-eq1 c =
    let several : IsLonger c.args.entry.member =
    λ one.
    omega (
      arith,
      ap length c.literals.ensures.literals ∙ sym (length-map c.args.entry.member.clause.literals literal_at) ∙ one,
      c.if-literals-eq1.false,
    ) in
    record {
      units = c.self.invariant.units;
      longer =
          all-inserted IsLonger c.insert-else-literals-eq1.result c.args.entry.member c.self.inside.longer.0 c.insert-else-literals-eq1.new.self.0
          c.insert-else-literals-eq1.ensures.ok c.insert-else-literals-eq1.ensures.err several c.self.invariant.longer;
    }

pub returns-else-literals-eq1-clause-ok : goal.returns-else-literals-eq1-clause-ok
returns-else-literals-eq1-clause-ok c =
    IfOk-weaker c.insert-else-literals-eq1.result _ _
    (λ done h.
    subst (λ (ms : List Member). IsPermutation (c.args.entry.member ∷ ms) (c.self.inside.units.0 ++ c.insert-else-literals-eq1.new.self.0)) c.self.view_is
    (inserted-high c.args.entry.member c.self.inside.units.0 c.self.inside.longer.0 c.insert-else-literals-eq1.new.self.0 h))
    c.insert-else-literals-eq1.ensures.ok
