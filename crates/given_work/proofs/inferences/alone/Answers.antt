use Rattle.std.proofs.Common.{◌≡◌, ◌++◌, List, length, ap, ap₂, sym, ◌∙◌, subst}
use Rattle.eq_rules.specs.Inferences.{is_enough}
use Rattle.eq_rules.specs.declared.inference.Inference.{Inference}
use Rattle.superpose.specs.Pairing.{AddsSuperpositionsUpTo}
use Rattle.literal_selection.specs.Mode.{mode_of}
use Rattle.given_work.specs.Meeting.{AreAloneUpTo}
use Rattle.given_work.proofs.AboutMeeting.InferenceLemmas.{alone-up_to, factored-enough, resolved-enough}
use Rattle.given_work.proofs.inferences.alone.Goals as goal

pub returns-then-is_enough : goal.returns-then-is_enough
returns-then-is_enough c =
    let m = c.args.given.now.member.now in
    let sel = c.args.given.now.sites.now.mode in
    let resolved : List Inference = c.in_ok-resolved.resolved in
    subst (λ (xs : List Inference). AreAloneUpTo c.args.most sel m xs) (sym c.into_vec-found.ensures)
    (resolved-enough c.args.most sel m resolved c.in_ok-resolved.ensures
    (ap (λ (xs : List Inference). is_enough c.args.most (length xs)) (sym c.into_vec-found.ensures)
    ∙ ap (is_enough c.args.most) (sym (c.len.ensures ∙ c.into_vec-found.result.ok.0)) ∙ sym c.is_enough.ensures ∙ c.if-is_enough.true))

pub returns-then-is_enough-2 : goal.returns-then-is_enough-2
returns-then-is_enough-2 c =
    let m = c.args.given.now.member.now in
    let sel = c.args.given.now.sites.now.mode in
    let resolved : List Inference = c.in_ok-resolved.resolved in
    let factored : List Inference = c.in_ok-factored.factored in
    let both : c.append.new.self.items ≡ resolved ++ factored =
    c.in_ok-append.ensures.items ∙ ap₂ (λ (xs ys : List Inference). xs ++ ys) c.into_vec-found.ensures c.into_vec-others.ensures in
    subst (λ (xs : List Inference). AreAloneUpTo c.args.most sel m xs) (sym both)
    (factored-enough c.args.most sel m resolved factored c.in_ok-resolved.ensures c.in_ok-factored.ensures
    (ap (λ (xs : List Inference). is_enough c.args.most (length xs)) (sym both)
    ∙ ap (is_enough c.args.most) (sym (c.len-2.ensures ∙ c.append.new.self.ok.0)) ∙ sym c.is_enough-2.ensures ∙ c.if-is_enough-2.true))

pub returns : goal.returns
returns c =
    let m = c.args.given.now.member.now in
    let sel = c.args.given.now.sites.now.mode in
    let resolved : List Inference = c.in_ok-resolved.resolved in
    let factored : List Inference = c.in_ok-factored.factored in
    let both : c.append.new.self.items ≡ resolved ++ factored =
    c.in_ok-append.ensures.items ∙ ap₂ (λ (xs ys : List Inference). xs ++ ys) c.into_vec-found.ensures c.into_vec-others.ensures in
    alone-up_to c.args.most sel m resolved factored c.superpositions_up_to.new.found.items c.in_ok-resolved.ensures
    (ap (λ (xs : List Inference). is_enough c.args.most (length xs)) (sym c.into_vec-found.ensures)
    ∙ ap (is_enough c.args.most) (sym (c.len.ensures ∙ c.into_vec-found.result.ok.0)) ∙ sym c.is_enough.ensures ∙ c.if-is_enough.false)
    c.in_ok-factored.ensures
    (ap (λ (xs : List Inference). is_enough c.args.most (length xs)) (sym both)
    ∙ ap (is_enough c.args.most) (sym (c.len-2.ensures ∙ c.append.new.self.ok.0)) ∙ sym c.is_enough-2.ensures ∙ c.if-is_enough-2.false)
    (subst (λ (xs : List Inference). AddsSuperpositionsUpTo c.args.most (mode_of sel) m m xs c.superpositions_up_to.new.found.items) both
    c.in_ok-superpositions_up_to.ensures.added)
