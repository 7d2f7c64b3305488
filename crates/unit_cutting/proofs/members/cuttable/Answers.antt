use Rattle.std.proofs.Common.{◌≡◌, Bool, true, false, ℕ, List, [], ◌∷◌, ◌++◌, eqb, refl, ap, sym, ◌∙◌, subst, take, arith}
use Rattle.std.specs.Prelude.{if◌then◌else◌}
use Rattle.std.proofs.lemmas.Bool.{cond-true, cond-false}
use Rattle.std.proofs.lemmas.List.{take_all}
use Rattle.std.proofs.lemmas.List.Filters.{dedup_is}
use Rattle.fol_base.proofs.ListLemmas.{take_more_item}
use Rattle.bank_clause.specs.declared.member.Member.{Member}
use Rattle.bank_clause.specs.Members.{AreNumbersOf}
use Rattle.rewriting.proofs.AboutRedexes.RewritableLemmas.{AreListed, member-formed, numbers-rising, one-told}
use Rattle.unit_cutting.specs.Cuttable.{IsCutBy}
use Rattle.unit_cutting.proofs.members.cuttable.Goals as goal
use Rattle.unit_cutting.proofs.members.cuttable.Goals.{then-branch+in_ok-push, else-branch}

-- a number is put at the end, or none is
pushed : (b : Bool) (old new : List ℕ) (x n : ℕ) → b ≡ true → new ≡ old ++ x ∷ [] → x ≡ n → new ≡ (if b then old ++ n ∷ [] else old)
pushed b old new x n held is same = is ∙ ap (λ k. old ++ k ∷ []) same ∙ sym (cond-true b (old ++ n ∷ []) old held)

stayed : (b : Bool) (old new : List ℕ) (n : ℕ) → b ≡ false → new ≡ old → new ≡ (if b then old ++ n ∷ [] else old)
stayed b old new n refused is = is ∙ sym (cond-false b (old ++ n ∷ []) old refused)

pub loop-member-init : goal.loop-member-init
loop-member-init c = λ usage of_unit of_members.
    subst (λ (ns : List ℕ). AreListed (IsCutBy usage.is_predicate c.args.unit.now) [] ns) (sym c.new-found.ensures.items) tt

pub loop-member-preserved : goal.loop-member-preserved
loop-member-preserved c = λ usage of_unit of_members.
    let read = c.as_slice-member-items.result.now in
    let i = c.loop-member.member-index in
    let m = c.member-item.result in
    let old = c.loop-member.found.items in
    let P = IsCutBy usage.is_predicate c.args.unit.now in
    subst (λ (ms : List Member). AreListed P ms c.if-branch.found.items) (sym (take_more_item read i m c.loop-member-test.true c.member-item.is))
    (one-told P (take i read) old c.if-branch.found.items m c.in_ok-is_cut.field-0
    (c.loop-member.invariant usage of_unit of_members)
    (c.in_ok-is_cut.ensures usage of_unit (member-formed usage c.args.clauses.now read i m c.as_slice-member-items.ensures c.loop-member-test.true c.member-item.is of_members))
    (elim c.if-branch.branch [
      | then-branch+in_ok-push w ↦
          pushed c.in_ok-is_cut.field-0 old c.if-branch.found.items w.from.result m.number w.if-branch.true (rw w.found-is w.in_ok-push.ensures.items)
          w.from.ensures
      | else-branch w ↦ stayed c.in_ok-is_cut.field-0 old c.if-branch.found.items m.number w.if-branch.false (rw w.found-is refl)
    ]))

pub returns : goal.returns
returns c = λ usage of_unit of_members.
    let read = c.as_slice-member-items.result.now in
    let P = IsCutBy usage.is_predicate c.args.unit.now in
    subst (λ (ns : List ℕ). AreNumbersOf P c.args.clauses.now ns) (sym c.from_vec.ensures)
    (numbers-rising P c.args.clauses.now c.loop-member.found.items c.sort_unstable.new.self.items c.dedup.new.self.items
    (subst (λ (ms : List Member). AreListed P ms c.loop-member.found.items)
    (take_all c.loop-member.member-index read (omega arith) ∙ c.as_slice-member-items.ensures)
    (c.loop-member.invariant usage of_unit of_members))
    c.sort_unstable.ensures.permutation c.sort_unstable.ensures.sorted (dedup_is eqb _ _ c.dedup.ensures.filtered))
