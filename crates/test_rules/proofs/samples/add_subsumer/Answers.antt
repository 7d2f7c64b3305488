use Rattle.std.proofs.Common.{◌≡◌, ℕ, Bool, true, false, List, ◌∷◌, refl, sym, subst}
use Rattle.std.specs.Prelude.{All, IsTrue}
use Rattle.std.proofs.lemmas.List.Elements.{All-tail}
use Rattle.std.proofs.lemmas.List.Sorted.{All-permutation}
use Rattle.bank_clause.specs.Clause.{IsMemberOf}
use Rattle.bank_clause.specs.declared.member.Member.{Member}
use Rattle.subsume.specs.Editing.{IsNumbered}
use Rattle.subsume.proofs.AboutTree.EditLemmas.{all-inserted}
use Rattle.test_rules.proofs.samples.add_subsumer.Goals as goal

-- what a removal leaves, where it takes one out or none
all-left :
    (P : Member → Type 0) (r : Bool) (number : ℕ) (old new : List Member)
    → (IsTrue r → IsNumbered number old new) → (r ≡ false → new ≡ old) → All P old → All P new
all-left P true number old new gone same all =
    let g = gone refl in All-tail P g.member new (All-permutation P old (g.member ∷ new) g.gone all)
all-left P false number old new gone same all = subst (All P) (sym (same refl)) all

pub returns : goal.returns
returns g c =
    all-inserted (IsMemberOf c.args.bank.now) c.insert.result c.args.member.now c.remove.new.self c.insert.new.self c.insert.ensures.ok c.insert.ensures.err c.requires.of_bank
    (all-left (IsMemberOf c.args.bank.now) c.remove.result c.args.member.now.number c.args.subsumers.now c.remove.new.self c.remove.ensures.removed c.remove.ensures.unchanged c.requires.subsumers)
