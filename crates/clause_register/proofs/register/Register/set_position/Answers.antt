use Rattle.std.proofs.Common.{◌≡◌, ◌<◌, List, length, refl, ap, ap₂, sym, ◌∙◌, subst, arith}
use Rattle.std.specs.Prelude.{Some, slice_get}
use Rattle.std.proofs.Math.ListN.{set}
use Rattle.std.proofs.lemmas.List.{length-set}
use Rattle.std.proofs.lemmas.Option.{get_or_from_slice_get, slice_get_read}
use Rattle.clause_register.specs.Register.{at_position}
use Rattle.clause_register.specs.RegisterCode.{Registrations}
use Rattle.clause_register.specs.Chained.{IsChained}
use Rattle.clause_register.specs.declared.register.Registration.{Registration}
use Rattle.clause_register.proofs.RegisterLemmas.{only-as-before}
use Rattle.clause_register.proofs.LookUpLemmas.{hashes-set}
use Rattle.clause_register.proofs.register.Register.set_position.Goals as goal

pub invariant_of-self : goal.invariant_of-self
invariant_of-self c =
    let ss : List Registration = c.self.inside.registrations.items in
    let s : Registration = c.index_mut.result.now in
    let below : c.args.number < length ss = subst (λ (v : Registrations). c.args.number < length v.clauses) (sym c.self.view_is) c.requires in
    let there : slice_get ss c.args.number ≡ Some s = slice_get_read ss (length ss) c.args.number s refl below c.index_mut.ensures.value in
    record {
      chained = subst (IsChained c.self.inside.chains) (hashes-set ss c.args.number s ((at_position c.args.position) s) there refl) c.self.invariant.chained;
      only = only-as-before ss c.args.number s ((at_position c.args.position) s) there refl refl c.self.invariant.only;
      few = let same = length-set ss c.args.number ((at_position c.args.position) s) in let few = c.self.invariant.few in omega (arith, same, few);
    }

pub returns-clause-clauses : goal.returns-clause-clauses
returns-clause-clauses c = λ s there.
    let clauses : c.self.inside.registrations.items ≡ c.args.self.now.clauses = ap (λ (v : Registrations). v.clauses) c.self.view_is in
    ap₂ (λ (ss : List Registration) (z : Registration). set ss c.args.number ((at_position c.args.position) z)) clauses
    (c.index_mut.ensures.value
    ∙ get_or_from_slice_get c.self.inside.registrations.items c.args.number s c.index_mut.result.now (ap (λ ss. slice_get ss c.args.number) clauses ∙ there))
