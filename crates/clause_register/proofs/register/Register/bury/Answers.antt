use Rattle.std.proofs.Common.{◌≡◌, ℕ, true, List, refl, ap, ap₂, sym, ◌∙◌, subst, arith}
use Rattle.std.specs.Prelude.{Some, is_none, slice_get}
use Rattle.std.proofs.Math.ListN.{set}
use Rattle.std.proofs.lemmas.List.{length-set}
use Rattle.std.proofs.lemmas.Option.{get_or_from_slice_get}
use Rattle.clause_register.specs.Register.{dead_in}
use Rattle.clause_register.specs.Chained.{IsChained}
use Rattle.clause_register.specs.RegisterLiving.{IsOnlyCopy}
use Rattle.clause_register.specs.RegisterCode.{Registrations}
use Rattle.clause_register.specs.declared.register.Registration.{Registration}
use Rattle.clause_register.proofs.RegisterLemmas.{only-after-burial}
use Rattle.clause_register.proofs.LookUpLemmas.{hashes-set}
use Rattle.clause_register.proofs.register.Register.bury.Goals as goal

pub invariant_of-self : goal.invariant_of-self
invariant_of-self c =
    let ss : List Registration = c.self.inside.registrations.items in
    let n : ℕ = c.args.number in
    let s : Registration = (c.requires.living).0 in
    let there : slice_get ss n ≡ Some s = ap (λ (v : Registrations). slice_get v.clauses n) c.self.view_is ∙ (c.requires.living).1 in
    let alive : is_none s.death ≡ true = (c.requires.living).2 in
    let written : c.index_mut.result.now ≡ s = c.index_mut.ensures.value ∙ get_or_from_slice_get ss n s c.index_mut.result.now there in
    let now : set ss n (dead_in c.args.event s) ≡ set ss n (dead_in c.args.event c.index_mut.result.now) =
    ap (λ (z : Registration). set ss n (dead_in c.args.event z)) (sym written) in
    record {
      chained =
          subst (IsChained c.self.inside.chains) (hashes-set ss n c.index_mut.result.now (dead_in c.args.event c.index_mut.result.now) (there ∙ ap Some (sym written)) refl)
          c.self.invariant.chained;
      only = subst IsOnlyCopy now (only-after-burial ss n s (dead_in c.args.event s) there alive refl c.self.invariant.only);
      few = let same = length-set ss n (dead_in c.args.event c.index_mut.result.now) in let few = c.self.invariant.few in omega (arith, same, few);
    }

pub returns-clause-clauses : goal.returns-clause-clauses
returns-clause-clauses c = λ s there.
    let clauses : c.self.inside.registrations.items ≡ c.args.self.now.clauses = ap (λ (v : Registrations). v.clauses) c.self.view_is in
    ap₂ (λ (ss : List Registration) (z : Registration). set ss c.args.number (dead_in c.args.event z)) clauses
    (c.index_mut.ensures.value
    ∙ get_or_from_slice_get c.self.inside.registrations.items c.args.number s c.index_mut.result.now (ap (λ ss. slice_get ss c.args.number) clauses ∙ there))
