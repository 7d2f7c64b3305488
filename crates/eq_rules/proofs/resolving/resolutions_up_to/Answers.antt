use Rattle.std.proofs.Common.{◌≡◌, ◌+◌, List, length, true, inl, inr, arith, ap, sym, ◌∙◌, subst}
use Rattle.std.proofs.lemmas.List.{length-map}
use Rattle.literal_selection.specs.Mode.{mode_of}
use Rattle.kernel_steps.specs.declared.key.Key.TheVariants.{Refl}
use Rattle.term_bank.specs.Literal.{literal_at}
use Rattle.term_bank.specs.declared.literal.BankLit.{BankLit}
use Rattle.bank_clause.specs.Clause.{clause_at}
use Rattle.eq_rules.specs.Inferences.{AreInferences, AreSomeInferences, alone, is_enough, is_resolution}
use Rattle.eq_rules.specs.Trying.{IsTried}
use Rattle.eq_rules.specs.declared.inference.Inference.{Inference}
use Rattle.eq_rules.proofs.AboutResolution.ResolutionLists.{resolves_below, resolutions-skip, resolutions-push, resolutions-end, resolutions-some}
use Rattle.eq_rules.proofs.resolving.resolutions_up_to.Goals as goal
use Rattle.eq_rules.proofs.resolving.resolutions_up_to.Goals.{in-Some+in_ok-push, in_default}

pub loop-index-preserved : goal.loop-index-preserved
loop-index-preserved c usage used =
    let p = usage.is_predicate in
    let mode = mode_of c.args.mode in
    let m = c.args.given.now in
    let n = c.loop-index.index in
    let tried = c.in_ok-result.ensures mode c.choice_of-choice.ensures usage used in
    elim c.match-branch-2.branch [
      | in-Some+in_ok-push w ↦
          subst (λ (es : List Inference). AreInferences p mode (alone m) (resolves_below (n + 1)) es)
          (sym (ap (λ v. v.items) w.found-is ∙ w.in_ok-push.ensures.items))
          (resolutions-push p mode m n c.loop-index.found.items w.in-Some.result (c.loop-index.invariant usage used)
          (subst (λ o. IsTried p mode (alone m) (Refl m.number n) o) w.in-Some.is tried))
      | in_default w ↦
          subst (λ (es : List Inference). AreInferences p mode (alone m) (resolves_below (n + 1)) es)
          (sym (ap (λ v. v.items) w.found-is))
          (resolutions-skip p mode m n c.loop-index.found.items (c.loop-index.invariant usage used)
          (subst (λ o. IsTried p mode (alone m) (Refl m.number n) o) w.in_default.is tried))
    ]

pub returns-then-is_enough : goal.returns-then-is_enough
returns-then-is_enough c =
    let mode = mode_of c.args.mode in
    let m = c.args.given.now in
    inr (
      subst (λ (xs : List Inference). is_enough c.args.most (length xs) ≡ true) (sym c.from_vec.ensures)
          (ap (is_enough c.args.most) (sym (c.len.ensures ∙ c.loop-index.found.ok.0)) ∙ sym c.is_enough.ensures ∙ c.if-is_enough.true),
      λ usage used.
          subst (λ (xs : List Inference). AreSomeInferences usage.is_predicate mode (alone m) is_resolution xs) (sym c.from_vec.ensures)
          (resolutions-some usage.is_predicate mode m c.loop-index.index c.loop-index.found.items (c.loop-index.invariant usage used)),
    )

pub returns : goal.returns
returns c = inl (λ usage used.
    let p = usage.is_predicate in
    let mode = mode_of c.args.mode in
    let m = c.args.given.now in
    let n = c.loop-index.index in
    let read : length c.literals-count.result.now ≡ length m.clause.literals = ap (λ (ls : List BankLit). length ls) c.literals-count.ensures.literals in
    let many : n ≡ length (clause_at m.clause).literals =
    omega (arith, read, length-map m.clause.literals literal_at, c.loop-index-test.false, c.loop-index.auto.index-end) in
    subst (λ (es : List Inference). AreInferences p mode (alone m) is_resolution es)
    (sym c.from_vec-2.ensures)
    (resolutions-end p mode m n c.loop-index.found.items many (c.loop-index.invariant usage used)))
