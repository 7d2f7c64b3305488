use Rattle.std.proofs.Common.{ap, sym, subst, ◌∙◌, ◌++◌, ◌∷◌, [], length, cond, Some}
use Rattle.std.specs.Map.{lookup}
use Rattle.skolem.specs.declared.name.VariableName.{VariableName}
use Rattle.skolem.specs.declared.bindings.Entry.{Entry}
use Rattle.skolem.specs.Name.{same_name}
use Rattle.fol_base.specs.Tree.{tree_variables}
use Rattle.skolem.specs.BoundTerm.{bound_tree}
use Rattle.skolem.specs.Bindings.{place_in, HasVariables, Covers}
use Rattle.skolem.proofs.AboutBindings.BindingsLemmas.{chained-push}
use Rattle.list_lemmas.proofs.Results.{when-ok}
use Rattle.skolem.proofs.bindings.Bindings.push_noted.Goals as goal

pub invariant_of-self-2 : goal.invariant_of-self-2
invariant_of-self-2 c =
    let e : Entry = record { binding = record { name = c.in_ok-copy-2.field-0; term = c.args.term }; hidden = c.place_of-hidden.result; alike = c.args.alike; covers = c.args.covers } in
    let key : VariableName = record { text = c.in_ok-copy.field-0 } in
    chained-push c.self.inside.entries.items _ c.self.inside.innermost.entries _ key e (length c.as_slice-place.result.now)
    c.self.invariant (c.in_ok-copy.ensures ∙ sym c.in_ok-copy-2.ensures)
    (c.place_of-hidden.ensures ∙ ap (place_in c.self.inside.innermost.entries) (sym c.in_ok-copy-2.ensures))
    (subst (λ bs. HasVariables bs c.args.alike (tree_variables (bound_tree c.args.term))) (sym c.self.view_is) c.requires.alike)
    (subst (λ bs. Covers bs c.args.covers (tree_variables (bound_tree c.args.term))) (sym c.self.view_is) c.requires.covers)
    (c.push_reserved.ensures.items ∙ ap (λ es. es ++ e ∷ []) c.in_ok-reserve.ensures.items)
    (ap length c.as_slice-place.ensures.value)
    (λ q. (when-ok c.insert.result c.unwrap.result _ c.unwrap.ensures c.insert.ensures.updates).0 q
    ∙ ap (λ es. cond (same_name key q) (Some (length c.as_slice-place.result.now)) (lookup (same_name q) es)) c.in_ok-reserve-2.ensures.entries)
