use Rattle.std.proofs.Common.{List, map, ap, sym, subst, arith, ◌∷◌, [], ◌∙◌}
use Rattle.std.proofs.lemmas.List.{map-append, length-map}
use Rattle.list_lemmas.proofs.Results.{err-passed}
use Rattle.congruence.specs.Keys.{with_key, place_of_key}
use Rattle.herbrand_list.specs.Demands.{Demand, put_in}
use Rattle.herbrand_list.specs.Worked.{constant_tree, stopped_size, listed, demand_of, demand_key, AreListed}
use Rattle.herbrand_list.proofs.AboutListing.ArrivalLemmas.{arrives-again, arrives-set}
use Rattle.herbrand_list.proofs.AboutListing.SizeLemmas.{sizes-put}
use Rattle.herbrand_list.proofs.AboutListing.FaultLemmas.{arrives-heavy}
use Rattle.herbrand_list.proofs.demands.DemandList.add.Goals as goal

pub returns-then-known-len-clause-listed : goal.returns-then-known-len-clause-listed
returns-then-known-len-clause-listed c =
    let d = demand_of c.args.demand in
    let key = c.in_ok-key.ensures ∙ ap (λ ts. demand_key (record { line = d.line; terms = ts })) c.as_slice.ensures in
    (arrives-again (constant_tree c.args.constant) c.args.lines.now (listed c.args.self.now) c.args.self.now.keys c.args.self.now.by_line.items _
    c.args.self.now.weight c.in_ok-known.known d c.requires (c.in_ok-known.ensures.place ∙ ap (place_of_key c.args.self.now.keys) key)
    (c.in_ok-known.ensures.keys ∙ ap (with_key c.args.self.now.keys) key)
    (omega (arith, c.if-known-len.true, c.len.ensures, length-map c.args.self.now.demands demand_of))).0

pub returns-then-known-len-clause-demands : goal.returns-then-known-len-clause-demands
returns-then-known-len-clause-demands c =
    let d = demand_of c.args.demand in
    let key = c.in_ok-key.ensures ∙ ap (λ ts. demand_key (record { line = d.line; terms = ts })) c.as_slice.ensures in
    (arrives-again (constant_tree c.args.constant) c.args.lines.now (listed c.args.self.now) c.args.self.now.keys c.args.self.now.by_line.items _
    c.args.self.now.weight c.in_ok-known.known d c.requires (c.in_ok-known.ensures.place ∙ ap (place_of_key c.args.self.now.keys) key)
    (c.in_ok-known.ensures.keys ∙ ap (with_key c.args.self.now.keys) key)
    (omega (arith, c.if-known-len.true, c.len.ensures, length-map c.args.self.now.demands demand_of))).1

pub returns-in_err-weight-clause-large : goal.returns-in_err-weight-clause-large
returns-in_err-weight-clause-large c =
    let constant = constant_tree c.args.constant in
    let lines = c.args.lines.now in
    let list = c.args.self.now in
    let d = demand_of c.args.demand in
    let key = c.in_ok-key.ensures ∙ ap (λ ts. demand_key (record { line = d.line; terms = ts })) c.as_slice.ensures in
    let sizes = c.in_ok-sizes.ensures ∙ ap (map stopped_size) c.as_slice-2.ensures in
    let size = c.size_of_line-size.ensures (put_in constant d.terms) (sizes-put c.args.constant d.terms c.as_slice-3.result.now (c.as_slice-3.ensures.value ∙ sizes)) in
    err-passed _ _ _ c.from_residual-in_err-weight.ensures.1
    (arrives-heavy constant lines (listed list) list.keys list.by_line.items list.weight c.size_of_line-size.result c.in_ok-known.known d _ c.requires
    (c.in_ok-known.ensures.place ∙ ap (place_of_key list.keys) key)
    (omega (arith, c.if-known-len.false, c.len.ensures, length-map list.demands demand_of)) size c.in_err-weight.ensures.large)

pub returns-clause-listed : goal.returns-clause-listed
returns-clause-listed c =
    let constant = constant_tree c.args.constant in
    let lines = c.args.lines.now in
    let list = c.args.self.now in
    let d = demand_of c.args.demand in
    let key = c.in_ok-key.ensures ∙ ap (λ ts. demand_key (record { line = d.line; terms = ts })) c.as_slice.ensures in
    let sizes = c.in_ok-sizes.ensures ∙ ap (map stopped_size) c.as_slice-2.ensures in
    let size = c.size_of_line-size.ensures (put_in constant d.terms) (sizes-put c.args.constant d.terms c.as_slice-3.result.now (c.as_slice-3.ensures.value ∙ sizes)) in
    let all = ap (map demand_of) c.in_ok-push.ensures.ok ∙ map-append demand_of list.demands (c.args.demand ∷ []) in
    let arrived =
    arrives-set constant lines (listed list) list.keys list.by_line.items _ _ list.weight _ c.size_of_line-size.result c.in_ok-known.known d c.requires
    (c.in_ok-known.ensures.place ∙ ap (place_of_key list.keys) key) (c.in_ok-known.ensures.keys ∙ ap (with_key list.keys) key)
    (omega (arith, c.if-known-len.false, c.len.ensures, length-map list.demands demand_of)) size c.in_ok-weight.ensures.more
    c.in_ok-weight.ensures.light c.in_ok-push_at.ensures in
    subst (λ (ds : List Demand). AreListed constant lines ds c.meet.new.self c.push_at.new.lists.items c.in_ok-weight.weight) (sym all) arrived.0

pub returns-clause-demands : goal.returns-clause-demands
returns-clause-demands c =
    let constant = constant_tree c.args.constant in
    let lines = c.args.lines.now in
    let list = c.args.self.now in
    let d = demand_of c.args.demand in
    let key = c.in_ok-key.ensures ∙ ap (λ ts. demand_key (record { line = d.line; terms = ts })) c.as_slice.ensures in
    let sizes = c.in_ok-sizes.ensures ∙ ap (map stopped_size) c.as_slice-2.ensures in
    let size = c.size_of_line-size.ensures (put_in constant d.terms) (sizes-put c.args.constant d.terms c.as_slice-3.result.now (c.as_slice-3.ensures.value ∙ sizes)) in
    let all = ap (map demand_of) c.in_ok-push.ensures.ok ∙ map-append demand_of list.demands (c.args.demand ∷ []) in
    let arrived =
    arrives-set constant lines (listed list) list.keys list.by_line.items _ _ list.weight _ c.size_of_line-size.result c.in_ok-known.known d c.requires
    (c.in_ok-known.ensures.place ∙ ap (place_of_key list.keys) key) (c.in_ok-known.ensures.keys ∙ ap (with_key list.keys) key)
    (omega (arith, c.if-known-len.false, c.len.ensures, length-map list.demands demand_of)) size c.in_ok-weight.ensures.more
    c.in_ok-weight.ensures.light c.in_ok-push_at.ensures in
    all ∙ arrived.1
