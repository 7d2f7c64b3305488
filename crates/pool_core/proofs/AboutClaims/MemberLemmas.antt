-- The members of a pool, number by number.
use Rattle.std.proofs.Common.{◌≡◌, ℕ, ◌+◌, Bool, true, false, ◌&&◌, List, [], ◌∷◌, ◌++◌, map, add-one, append-nil, refl, ap, ap₂, sym, ◌∙◌, subst, arith}
use Rattle.std.specs.Prelude.{Some, cond, filter, slice_get}
use Rattle.std.specs.List.{range_with_len}
use Rattle.std.proofs.lemmas.List.{map-append}
use Rattle.std.proofs.lemmas.List.Elements.{All-nil, All-push}
use Rattle.fol_base.specs.Clause.{TreeClause}
use Rattle.bank_clause.specs.Clause.{clause_at, IsClauseOf, IsMemberOf, AreMembersOf}
use Rattle.bank_clause.specs.declared.member.Member.{Member}
use Rattle.pool_history.specs.Record.{PoolRecord, clause_numbered, lives, is_awake}
use Rattle.pool_core.specs.State.{IsStateOf}
use Rattle.clause_register.specs.declared.register.Registration.{Registration}
use Rattle.pool_core.specs.declared.pool.Pool.TheInside.{Inside}
use Rattle.pool_history.proofs.AboutRecords.EditLemmas.{filter-more}
use Rattle.pool_core.proofs.AboutClaims.StateLemmas.{one-of-bank, clause-there}
use Rattle.pool_history.proofs.AboutRecords.ItemLemmas.{clause-numbered}

-- the members among the first numbers
abbrev pub first_members : PoolRecord → ℕ → List ℕ
first_members r n = filter (λ k. lives r k && is_awake r k) (range_with_len 0 n)

pub members-more : (r : PoolRecord) (n : ℕ) (b : Bool) → (lives r n && is_awake r n) ≡ b → first_members r (n + 1) ≡ first_members r n ++ cond b (n ∷ []) []
members-more r n b is =
    ap (λ k. first_members r k) (add-one n)
    ∙ filter-more (λ k. lives r k && is_awake r k) 0 n
    ∙ ap (λ k. first_members r n ++ cond (lives r k && is_awake r k) (k ∷ []) []) (let e : 0 + n ≡ n = omega arith in e)
    ∙ ap (λ c. first_members r n ++ cond c (n ∷ []) []) is

-- what has been collected
pub record AreMembersUpTo (bank : ℕ) (r : PoolRecord) (n : ℕ) (members : List Member) : Type 0 where
  pub numbers : map (λ (m : Member). m.number) members ≡ first_members r n
  pub clauses : map (λ (m : Member). clause_at m.clause) members ≡ map (clause_numbered r) (first_members r n)
  pub of_bank : AreMembersOf bank members

pub no-members : (bank : ℕ) (r : PoolRecord) → AreMembersUpTo bank r 0 []
no-members bank r = record { numbers = refl; clauses = refl; of_bank = All-nil (IsMemberOf bank) }

-- a living clause that is awake is one more
pub one-member :
    (a : Inside) (bank : ℕ) (r : PoolRecord) (n : ℕ) (s : Registration) (m : Member) (members more : List Member)
    → bank ≡ a.table.bank → IsStateOf a r → slice_get a.proof.register.clauses n ≡ Some s → (lives r n && is_awake r n) ≡ true → m.number ≡ n → m.clause ≡ s.clause
    → more ≡ members ++ m ∷ [] → AreMembersUpTo bank r n members → AreMembersUpTo bank r (n + 1) more
one-member a bank r n s m members more same_bank is there alive number clause one so_far = record {
  numbers =
      ap (map (λ (m : Member). m.number)) one ∙ map-append (λ (m : Member). m.number) members (m ∷ [])
      ∙ ap₂ (λ (ns : List ℕ) (k : ℕ). ns ++ k ∷ []) so_far.numbers number ∙ sym longer;
  clauses =
      ap (map (λ (m : Member). clause_at m.clause)) one ∙ map-append (λ (m : Member). clause_at m.clause) members (m ∷ [])
      ∙ ap₂ (λ (cs : List TreeClause) (c : TreeClause). cs ++ c ∷ []) so_far.clauses
      (ap clause_at clause ∙ sym (clause-numbered r n (clause_at s.clause) (clause-there a r n s is there)))
      ∙ sym (map-append (clause_numbered r) (first_members r n) (n ∷ []))
      ∙ ap (map (clause_numbered r)) (sym longer);
  of_bank =
      subst (AreMembersOf bank) (sym one)
      (All-push (IsMemberOf bank) members m so_far.of_bank
      (subst (λ b. IsClauseOf b m.clause) (sym same_bank) (one-of-bank a r n s m.clause is there clause)));
}
  where
    longer : first_members r (n + 1) ≡ first_members r n ++ n ∷ []
    longer = members-more r n true alive

-- a dead one and one that sleeps are none
pub no-member :
    (bank : ℕ) (r : PoolRecord) (n : ℕ) (members : List Member)
    → (lives r n && is_awake r n) ≡ false → AreMembersUpTo bank r n members → AreMembersUpTo bank r (n + 1) members
no-member bank r n members other so_far = record {
  numbers = so_far.numbers ∙ sym same;
  clauses = so_far.clauses ∙ ap (map (clause_numbered r)) (sym same);
  of_bank = so_far.of_bank;
}
  where
    same : first_members r (n + 1) ≡ first_members r n
    same = members-more r n false other ∙ append-nil (first_members r n)
