-- What an index learns, as changes of trees tell it.
use Rattle.std.proofs.Common.{◌≡◌, ℕ, Bool, true, false, not, ◌==◌, List, [], ◌∷◌, map, refl, ap, sym, ◌∙◌, subst}
use Rattle.std.specs.Prelude.{Some, cond, filter, All}
use Rattle.std.proofs.lemmas.Bool.{or_parts, eqb-false}
use Rattle.std.proofs.lemmas.List.{map-append}
use Rattle.std.proofs.lemmas.List.Elements.{All-nil, All-cons, All-head, All-tail, All-push}
use Rattle.kernel_steps.specs.Split.{has_number}
use Rattle.bank_clause.specs.Clause.{clause_at}
use Rattle.bank_clause.specs.declared.member.Member.{Member}
use Rattle.subsume.specs.Members.{numbers_of}
use Rattle.subsume.specs.Editing.{HasNoNumber}
use Rattle.pool_history.specs.Record.{PoolRecord, clauses_of}
use Rattle.pool_history.specs.News.{TreeChange, activated, died, change_of}
use Rattle.pool_history.specs.declared.ticket.Change.{Change}
use Rattle.pool_history.specs.declared.ticket.Change.TheVariants.{Activated, Died}
use Rattle.given_work.specs.Learning.{learns, learned, IsNew, AreNews}
use Rattle.given_work.proofs.AboutLearning.ToldLemmas.{told_by, told_all, IsNewNumber, AreNewNumbers}

-- ---- numbers

numbers-filter : (n : ℕ) (ms : List Member) → numbers_of (filter (λ (m : Member). not (m.number == n)) ms) ≡ filter (λ k. not (k == n)) (numbers_of ms)
numbers-filter n [] = refl
numbers-filter n (m ∷ ms) = by (not (m.number == n)) (numbers-filter n ms)
  where
    by :
        (b : Bool) → numbers_of (filter (λ (k : Member). not (k.number == n)) ms) ≡ filter (λ k. not (k == n)) (numbers_of ms)
        → numbers_of (cond b (m ∷ filter (λ (k : Member). not (k.number == n)) ms) (filter (λ (k : Member). not (k.number == n)) ms))
        ≡ cond b (m.number ∷ filter (λ k. not (k == n)) (numbers_of ms)) (filter (λ k. not (k == n)) (numbers_of ms))
    by true rest = ap (λ ns. m.number ∷ ns) rest
    by false rest = rest

numbers-learns : (ms : List Member) (c : Change) → numbers_of (learns ms c) ≡ told_by (numbers_of ms) (change_of c)
numbers-learns ms (Activated m) = map-append (λ (k : Member). k.number) ms (m ∷ [])
numbers-learns ms (Died n) = numbers-filter n ms

pub numbers-learned : (ms : List Member) (cs : List Change) → numbers_of (learned ms cs) ≡ told_all (numbers_of ms) (map change_of cs)
numbers-learned ms [] = refl
numbers-learned ms (c ∷ cs) = numbers-learned (learns ms c) cs ∙ ap (λ ns. told_all ns (map change_of cs)) (numbers-learns ms c)

-- ---- new clauses

no-number : (n : ℕ) (ms : List Member) → has_number n (numbers_of ms) ≡ false → HasNoNumber n ms
no-number n [] none = All-nil (λ (m : Member). m.number ≡ n → ⊥)
no-number n (m ∷ ms) none =
    let parts = or_parts (n == m.number) (has_number n (numbers_of ms)) none in
    All-cons (λ (k : Member). k.number ≡ n → ⊥) m ms (λ same. eqb-false n m.number parts.0 (sym same)) (no-number n ms parts.1)

pub news-new : (cs : List Change) (ms : List Member) → AreNewNumbers (numbers_of ms) (map change_of cs) → AreNews ms cs
news-new [] ms new = tt
news-new (c ∷ cs) ms new = (by c new.0, news-new cs (learns ms c) (subst (λ ns. AreNewNumbers ns (map change_of cs)) (sym (numbers-learns ms c)) new.1))
  where
    by : (d : Change) → IsNewNumber (numbers_of ms) (change_of d) → IsNew ms d
    by (Activated m) none = no-number m.number ms none
    by (Died n) none = tt

-- ---- clauses

module _ (r : PoolRecord) where
  -- the clause is the registered one of its number
  abbrev pub IsRegistered : Member → Type 0
  IsRegistered m = clauses_of r m.number ≡ Some (clause_at m.clause)

  abbrev pub TellsRegistered : TreeChange → Type 0
  TellsRegistered (activated n c) = clauses_of r n ≡ Some c
  TellsRegistered (died n) = Unit {0}

  kept-registered : (p : Member → Bool) (ms : List Member) → All IsRegistered ms → All IsRegistered (filter p ms)
  kept-registered p [] all = all
  kept-registered p (m ∷ ms) all = by (p m) (kept-registered p ms (All-tail IsRegistered m ms all))
    where
      by : (b : Bool) → All IsRegistered (filter p ms) → All IsRegistered (cond b (m ∷ filter p ms) (filter p ms))
      by true rest = All-cons IsRegistered m (filter p ms) (All-head IsRegistered m ms all) rest
      by false rest = rest

  learns-registered : (ms : List Member) (c : Change) → All IsRegistered ms → TellsRegistered (change_of c) → All IsRegistered (learns ms c)
  learns-registered ms (Activated m) all tells = All-push IsRegistered ms m all tells
  learns-registered ms (Died n) all tells = kept-registered (λ (m : Member). not (m.number == n)) ms all

  pub learned-registered : (cs : List Change) (ms : List Member) → All IsRegistered ms → All TellsRegistered (map change_of cs) → All IsRegistered (learned ms cs)
  learned-registered [] ms all tells = all
  learned-registered (c ∷ cs) ms all tells =
      learned-registered cs (learns ms c)
      (learns-registered ms c all (All-head TellsRegistered (change_of c) (map change_of cs) tells))
      (All-tail TellsRegistered (change_of c) (map change_of cs) tells)
