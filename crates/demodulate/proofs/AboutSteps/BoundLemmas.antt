-- A bound of the symbols of a clause and of members.
use Rattle.std.proofs.Common.{◌≡◌, ℕ, ◌+◌, ◌≤◌, max, Bool, true, false, ◌==◌, nat_lt, List, [], ◌∷◌, refl, ap, sym, ◌∙◌, ⊎_elim, arith}
use Rattle.std.specs.Prelude.{Option, None, Some, option_map, if◌then◌else◌}
use Rattle.std.specs.List.{list_all}
use Rattle.std.proofs.lemmas.Bool.{and_from, cases_Bool, cond-true, cond-false, lt-ltb}
use Rattle.std.proofs.lemmas.Option.{none-some, same_Some}
use Rattle.fol_base.specs.Tree.{Tree, variable, application, Trees, no_trees, tree_then}
use Rattle.fol_base.specs.Clause.{TreeLiteral, TreeClause}
use Rattle.kernel_steps.specs.Symbols.{symbols_pass, all_symbols_pass, literal_symbols_pass, clause_symbols_pass}
use Rattle.bank_clause.specs.Clause.{clause_at}
use Rattle.bank_clause.specs.declared.clause.BankClause.{BankClause}
use Rattle.bank_clause.specs.declared.member.Member.{Member}
use Rattle.rewriting.specs.Units.{clause_numbered, is_kept}
use Rattle.demodulate.specs.Normal.{kept, HaveSymbolsBelow}

abbrev mutual
  pub tree_bound : Tree → ℕ
  tree_bound (variable v) = 0
  tree_bound (application f ts) = max (f + 1) (trees_bound ts)

  pub trees_bound : Trees → ℕ
  trees_bound no_trees = 0
  trees_bound (tree_then t ts) = max (tree_bound t) (trees_bound ts)

abbrev pub literals_bound : List TreeLiteral → ℕ
literals_bound [] = 0
literals_bound (l ∷ ls) = max (max (tree_bound l.left) (tree_bound l.right)) (literals_bound ls)

abbrev pub members_bound : List Member → ℕ
members_bound [] = 0
members_bound (m ∷ ms) = max (literals_bound (clause_at m.clause).literals) (members_bound ms)

-- above each symbol of a clause and of the members
abbrev pub bound_for : TreeClause → List Member → ℕ
bound_for c ms = 1 + max (literals_bound c.literals) (members_bound ms)

abbrev pub Below : ℕ → ℕ → ℕ → Bool
Below bound f arity = nat_lt f bound

mutual
  tree-below : (b : ℕ) (t : Tree) → tree_bound t ≤ b → symbols_pass (Below b) t ≡ true
  tree-below b (variable v) h = refl
  tree-below b (application f ts) h =
      and_from (nat_lt f b) (all_symbols_pass (Below b) ts) (lt-ltb f b (omega (arith, h))) (trees-below b ts (omega (arith, h)))

  trees-below : (b : ℕ) (ts : Trees) → trees_bound ts ≤ b → all_symbols_pass (Below b) ts ≡ true
  trees-below b no_trees h = refl
  trees-below b (tree_then t ts) h =
      and_from (symbols_pass (Below b) t) (all_symbols_pass (Below b) ts) (tree-below b t (omega (arith, h))) (trees-below b ts (omega (arith, h)))

pub literals-below : (b : ℕ) (ls : List TreeLiteral) → literals_bound ls ≤ b → list_all (literal_symbols_pass (Below b)) ls ≡ true
literals-below b [] h = refl
literals-below b (l ∷ ls) h =
    and_from (literal_symbols_pass (Below b) l) (list_all (literal_symbols_pass (Below b)) ls)
    (and_from (symbols_pass (Below b) l.left) (symbols_pass (Below b) l.right)
    (tree-below b l.left (omega (arith, h))) (tree-below b l.right (omega (arith, h))))
    (literals-below b ls (omega (arith, h)))

pub clause-below : (c : TreeClause) (ms : List Member) → clause_symbols_pass (Below (bound_for c ms)) c ≡ true
clause-below c ms = literals-below (bound_for c ms) c.literals (omega arith)

member-bound :
    (n : ℕ) (ms : List Member) (c : BankClause) → clause_numbered n ms ≡ Some c → literals_bound (clause_at c).literals ≤ members_bound ms
member-bound n [] c h = absurd (none-some c h)
member-bound n (m ∷ ms) c h =
    ⊎_elim
    (λ yes.
    let same : m.clause ≡ c = same_Some m.clause c (sym (cond-true (n == m.number) (Some m.clause) (clause_numbered n ms) yes) ∙ h) in
    let bound : literals_bound (clause_at m.clause).literals ≡ literals_bound (clause_at c).literals =
    ap (λ (d : BankClause). literals_bound (clause_at d).literals) same in
    omega (arith, bound))
    (λ no_it.
    let rest = member-bound n ms c (sym (cond-false (n == m.number) (Some m.clause) (clause_numbered n ms) no_it) ∙ h) in
    omega (arith, rest))
    (cases_Bool (n == m.number))

-- the member behind a clause that is kept
pub kept-there :
    (ms : List Member) (out : Option ℕ) (n : ℕ) (d : TreeClause)
    → kept ms out n ≡ Some d → (is_kept out n ≡ true) × ((c : BankClause) × (clause_numbered n ms ≡ Some c) × (clause_at c ≡ d))
kept-there ms out n d h = from (clause_numbered n ms) (is_kept out n) refl refl h
  where
    from :
        (o : Option BankClause) (k : Bool) → clause_numbered n ms ≡ o → is_kept out n ≡ k → (if k then option_map clause_at o else None) ≡ Some d
        → (is_kept out n ≡ true) × ((c : BankClause) × (clause_numbered n ms ≡ Some c) × (clause_at c ≡ d))
    from None true is may e = absurd (none-some d e)
    from None false is may e = absurd (none-some d e)
    from (Some c) true is may e = (may, (c, is, same_Some (clause_at c) d e))
    from (Some c) false is may e = absurd (none-some d e)

pub members-below : (c : TreeClause) (ms : List Member) (out : Option ℕ) → HaveSymbolsBelow (bound_for c ms) (kept ms out)
members-below c ms out n d h =
    let found = (kept-there ms out n d h).1 in
    let within = member-bound n ms found.0 found.1 in
    let same : literals_bound (clause_at found.0).literals ≡ literals_bound d.literals =
    ap (λ (k : TreeClause). literals_bound k.literals) found.2 in
    literals-below (bound_for c ms) d.literals (omega (arith, within, same))
