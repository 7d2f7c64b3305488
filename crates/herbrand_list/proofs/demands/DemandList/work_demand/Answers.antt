use Rattle.std.proofs.Common.{◌≡◌, ◌<◌, [], List, get_or, ap₂, sym, subst, ◌∙◌}
use Rattle.std.specs.Prelude.{IfOk, IfErr, fold}
use Rattle.list_lemmas.proofs.Results.{err-passed}
use Rattle.herbrand_list.specs.declared.fault.TheConstants.{MOST_WEIGHT}
use Rattle.herbrand_list.specs.Demands.{Demand, demanded_by, with_demand, terms_for, step_at}
use Rattle.herbrand_list.specs.Worked.{constant_tree, listed, weight_of, SaysLarge, OneIsLarge}
use Rattle.herbrand_list.proofs.AboutListing.ArrivalLemmas.{terms-of-row}
use Rattle.herbrand_list.proofs.AboutListing.ListLemmas.{step-read}
use Rattle.herbrand_list.proofs.AboutListing.FaultLemmas.{says-then, one-large}
use Rattle.herbrand_list.proofs.demands.DemandList.work_demand.Goals as goal

pub returns-in_err-parents-clause-large : goal.returns-in_err-parents-clause-large
returns-in_err-parents-clause-large c =
    let constant = constant_tree c.args.constant in
    let lines = c.args.lines.now in
    let n = c.args.number in
    let before = listed c.args.self.now in
    let is =
    ap₂ (demanded_by constant) (sym (step-read lines n c.index-lines-number.result c.requires.there))
    (c.terms_of.ensures ∙ sym (terms-of-row constant lines before _ _ _ n c.args.index c.requires.listed c.requires.there c.requires.demanded)) in
    err-passed _ _ _ c.from_residual.ensures.1
    (says-then _ (MOST_WEIGHT < weight_of constant lines (fold with_demand before (demanded_by constant (step_at lines n) (get_or (terms_for n before) c.args.index [])))) _
    (λ one. one-large constant lines before _ (subst (OneIsLarge constant lines) is one)) c.in_err-parents.ensures.large)

pub returns-clause-demands : goal.returns-clause-demands
returns-clause-demands c =
    let constant = constant_tree c.args.constant in
    let lines = c.args.lines.now in
    let n = c.args.number in
    let before = listed c.args.self.now in
    let is =
    c.in_ok-parents.ensures.made
    ∙ ap₂ (demanded_by constant) (sym (step-read lines n c.index-lines-number.result c.requires.there))
    (c.terms_of.ensures ∙ sym (terms-of-row constant lines before _ _ _ n c.args.index c.requires.listed c.requires.there c.requires.demanded)) in
    subst (λ (ds : List Demand). IfOk c.add_all.result (λ _. listed c.add_all.new.self ≡ fold with_demand before ds)) is c.add_all.ensures.demands

pub returns-clause-large : goal.returns-clause-large
returns-clause-large c =
    let constant = constant_tree c.args.constant in
    let lines = c.args.lines.now in
    let n = c.args.number in
    let before = listed c.args.self.now in
    let is =
    c.in_ok-parents.ensures.made
    ∙ ap₂ (demanded_by constant) (sym (step-read lines n c.index-lines-number.result c.requires.there))
    (c.terms_of.ensures ∙ sym (terms-of-row constant lines before _ _ _ n c.args.index c.requires.listed c.requires.there c.requires.demanded)) in
    subst (λ (ds : List Demand). IfErr c.add_all.result (SaysLarge (weight_of constant lines (fold with_demand before ds)))) is c.add_all.ensures.large
