use Rattle.std.proofs.Common.{◌≡◌, ℕ, ◌<◌, ◌∷◌, List, length, get_or, sym, ap, ap₂, ◌∙◌, [], arith}
use Rattle.std.specs.List.{between}
use Rattle.std.proofs.lemmas.List.{get_or_default}
use Rattle.sat_core.proofs.AboutConflicts.EndLemmas.{cut-count, cut-at, ends-rise, end-within}
use Rattle.sat_core.proofs.lists.Lists.get.Goals as goal

pub start_of-start-requires : goal.start_of-start-requires
start_of-start-requires g c =
    let count = sym (cut-count c.self.inside.items.items 0 c.self.inside.ends.items) ∙ ap length c.self.view_is in
    omega (arith, count, c.requires)

pub index-requires : goal.index-requires
index-requires g c =
    let count = sym (cut-count c.self.inside.items.items 0 c.self.inside.ends.items) ∙ ap length c.self.view_is in
    omega (arith, count, c.requires, c.self.inside.ends.ok.0)

pub part-requires-clause-rise : goal.part-requires-clause-rise
part-requires-clause-rise g c =
    let ends : List ℕ = c.self.inside.ends.items in
    let below : c.args.number < length ends =
    let count = sym (cut-count c.self.inside.items.items 0 ends) ∙ ap length c.self.view_is in omega (arith, count, c.requires) in
    let end : c.index.result.now ≡ get_or ends c.args.number 0 = c.index.ensures ∙ get_or_default ends c.args.number c.index.result.now 0 below in
    let start : c.start_of-start.result ≡ get_or (0 ∷ ends) c.args.number 0 =
    c.start_of-start.ensures ∙ ap (λ es. get_or (0 ∷ es) c.args.number 0) c.as_slice.ensures.value in
    let rise = ends-rise 0 ends (length c.self.inside.items.items) c.args.number c.self.invariant.0 below in
    omega (arith, rise, start, end)

pub part-requires-clause-within : goal.part-requires-clause-within
part-requires-clause-within g c =
    let ends : List ℕ = c.self.inside.ends.items in
    let below : c.args.number < length ends =
    let count = sym (cut-count c.self.inside.items.items 0 ends) ∙ ap length c.self.view_is in omega (arith, count, c.requires) in
    let end : c.index.result.now ≡ get_or ends c.args.number 0 = c.index.ensures ∙ get_or_default ends c.args.number c.index.result.now 0 below in
    let within = end-within 0 ends (length c.self.inside.items.items) c.args.number c.self.invariant.0 below in
    let all = ap length c.as_slice-2.ensures.value in
    omega (arith, within, end, all)

pub returns : goal.returns
returns g c =
    let ends : List ℕ = c.self.inside.ends.items in
    let below : c.args.number < length ends =
    let count = sym (cut-count c.self.inside.items.items 0 ends) ∙ ap length c.self.view_is in omega (arith, count, c.requires) in
    let end : c.index.result.now ≡ get_or ends c.args.number 0 = c.index.ensures ∙ get_or_default ends c.args.number c.index.result.now 0 below in
    let start : c.start_of-start.result ≡ get_or (0 ∷ ends) c.args.number 0 =
    c.start_of-start.ensures ∙ ap (λ es. get_or (0 ∷ es) c.args.number 0) c.as_slice.ensures.value in
    c.part.ensures
    ∙ ap (between c.start_of-start.result c.index.result.now) c.as_slice-2.ensures.value
    ∙ ap₂ (λ s e. between s e c.self.inside.items.items) start end
    ∙ sym (cut-at c.self.inside.items.items 0 ends c.args.number below)
    ∙ ap (λ ls. get_or ls c.args.number []) c.self.view_is
