use Rattle.std.proofs.Common.{◌≡◌, ◌+◌, ◌∷◌, [], ◌++◌, length, refl, sym, ap, subst, ◌∙◌, arith}
use Rattle.std.specs.Prelude.{ℕ, None, false, List, position}
use Rattle.bank_clause.specs.ClauseHash.{clause_hash}
use Rattle.clause_register.specs.Register.{is_living_copy}
use Rattle.clause_register.specs.RegisterCode.{Registrations}
use Rattle.clause_register.specs.Chained.{IsChained}
use Rattle.clause_register.specs.RegisterLiving.{IsOnlyCopy, hashes}
use Rattle.clause_register.specs.declared.register.Registration.{Registration}
use Rattle.std.proofs.lemmas.List.{length-append, map-append}
use Rattle.clause_register.proofs.RegisterLemmas.{only-with-new}
use Rattle.clause_register.proofs.ChainLemmas.{chain-push}
use Rattle.clause_register.proofs.register.Register.push.Goals as goal

pub invariant_of-self : goal.invariant_of-self
invariant_of-self c =
    let ss : List Registration = c.self.inside.registrations.items in
    let s : Registration = record { clause = c.args.clause; line = c.args.line; position = None; death = None; is_active = false } in
    let none : position (is_living_copy c.args.clause) ss ≡ None = ap (λ (v : Registrations). position (is_living_copy c.args.clause) v.clauses) c.self.view_is ∙ c.requires.new in
    let all : hashes ss ++ c.args.hash ∷ [] ≡ hashes c.push_reserved.new.self.items =
    ap (λ (k : ℕ). hashes ss ++ k ∷ []) c.requires.hash ∙ sym (map-append (λ (z : Registration). clause_hash z.clause) ss (s ∷ [])) ∙ ap hashes (sym c.push_reserved.ensures.items) in
    record {
      chained =
          subst (IsChained c.push.new.self) all
          (chain-push c.self.inside.chains c.push.new.self (hashes ss) c.args.hash c.self.invariant.chained c.push.ensures.older c.push.ensures.newest);
      only = subst IsOnlyCopy (sym c.push_reserved.ensures.items) (only-with-new ss s refl none c.self.invariant.only);
      few =
          let more : length c.push_reserved.new.self.items ≡ length ss + 1 = ap length c.push_reserved.ensures.items ∙ length-append ss (s ∷ []) in
          let room = ap (λ (v : Registrations). v.spare) c.self.view_is in
          let some = c.requires.room in
          omega (arith, more, room, some, c.self.inside.registrations.ok.0);
    }
