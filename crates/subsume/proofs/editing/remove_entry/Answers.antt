use Rattle.std.proofs.Common.{◌≡◌, ◌∷◌, Some, sym, subst}
use Rattle.std.specs.Prelude.{IsPermutation}
use Rattle.std.proofs.lemmas.List.Sorted.{IsPermutation-swap_remove}
use Rattle.bank_clause.specs.declared.member.Member.{Member}
use Rattle.subsume.specs.Editing.{HasNoNumber, IsPlaceOf}
use Rattle.subsume.specs.Tree.{members_of}
use Rattle.subsume.proofs.AboutTree.EditLemmas.{all-members, entry-taken}
use Rattle.subsume.proofs.editing.remove_entry.Goals as goal

pub returns-in-None-clause-absent : goal.returns-in-None-clause-absent
returns-in-None-clause-absent c = λ e.
    subst (λ es. HasNoNumber c.args.number (members_of es)) c.as_slice.ensures.value
    (all-members (λ (m : Member). m.number ≡ c.args.number → ⊥) c.as_slice.result.now c.in-None.ensures)

pub returns-in-Some-clause-removed : goal.returns-in-Some-clause-removed
returns-in-Some-clause-removed c = λ e.
    let es = c.args.entries.now.items in
    let place = subst (λ xs. IsPlaceOf c.args.number xs (Some c.in-Some.at)) c.as_slice.ensures.value c.in-Some.ensures in
    entry-taken es c.swap_remove.new.self.items c.in-Some.at c.args.number c.swap_remove.result place.0 c.swap_remove.ensures.value place.1
    (subst (λ xs. IsPermutation es (c.swap_remove.result ∷ xs)) (sym c.swap_remove.ensures.items)
    (IsPermutation-swap_remove es c.in-Some.at c.swap_remove.result place.0 c.swap_remove.ensures.value))
