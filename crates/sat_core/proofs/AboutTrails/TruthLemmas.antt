-- Resolution keeps truth, so what is derived by a right log is true wherever the clauses are.
use Rattle.std.proofs.Common.{◌≡◌, ℕ, zero, suc, Bool, true, false, not, ◌||◌, cond, List, [], ◌∷◌, ◌++◌, refl, ap, sym, ◌∙◌, inl, inr, Option, Some, None}
use mathlib.Core.Bool.{beq}
use Rattle.std.specs.Prelude.{IsTrue, slice_get}
use Rattle.std.specs.Option.{option_map}
use Rattle.std.proofs.lemmas.Bool.{cases_Bool, or_left, or_right, and_parts, and_from, false_from_ne_true, both_ways}
use Rattle.std.proofs.lemmas.List.Folds.{list_any-append, list_all-append}
use Rattle.std.proofs.lemmas.Option.{option_and_then_some, cond_some, same_Some}
use Rattle.plain_types.specs.declared.sequence.NameLit.{NameLit}
use Rattle.plain_types.specs.Names.{same_name, opposite, without, can_resolve, resolvent}
use Rattle.plain_types.proofs.NameLemmas.{same_name-true}
use Rattle.sat_core.specs.declared.answer.Link.{Link}
use Rattle.sat_core.specs.declared.answer.Chain.{Chain}
use Rattle.sat_core.specs.Clause.{PropClause, Valuation, literal_true, clause_true, clauses_true, valuation_of}
use Rattle.sat_core.specs.Resolution.{link_clause, links_clause, chain_clause, log_clauses, ends_empty}
use Rattle.sat_core.specs.Answer.{RightLogsRefute, AnswersExclude}

literal_true-opposite : (v : Valuation) (p : NameLit) → literal_true v (opposite p) ≡ not (literal_true v p)
literal_true-opposite v p = turned (v p.name) p.positive
  where
    turned : (a b : Bool) → beq a (not b) ≡ not (beq a b)
    turned true true = refl
    turned true false = refl
    turned false true = refl
    turned false false = refl

-- a true clause has a true literal besides a false one
clause_true-without :
    (v : Valuation) (p : NameLit) (c : PropClause)
    → literal_true v p ≡ false → IsTrue (clause_true v c) → IsTrue (clause_true v (without p c))
clause_true-without v p [] h t = t
clause_true-without v p (l ∷ c) h t =
    elim (cases_Bool (same_name p l)) [
      | inl e ↦ ap (λ b. clause_true v (cond (not b) (l ∷ without p c) (without p c))) e
          ∙ clause_true-without v p c h (later (literal_true v l) (clause_true v c) t (sym (ap (literal_true v) (same_name-true p l e)) ∙ h))
      | inr e ↦ ap (λ b. clause_true v (cond (not b) (l ∷ without p c) (without p c))) e
          ∙ either (literal_true v l) (clause_true v c) (clause_true v (without p c)) t (clause_true-without v p c h)
    ]
  where
    later : (a b : Bool) → (a || b) ≡ true → a ≡ false → b ≡ true
    later true b e f = cc
    later false b e f = e

    either : (a b d : Bool) → (a || b) ≡ true → (b ≡ true → d ≡ true) → (a || d) ≡ true
    either true b d e f = refl
    either false b d e f = f e

pub clause_true-resolvent :
    (v : Valuation) (p : NameLit) (c d : PropClause)
    → IsTrue (clause_true v c) → IsTrue (clause_true v d) → IsTrue (clause_true v (resolvent p c d))
clause_true-resolvent v p c d t u =
    list_any-append (literal_true v) (without p c) (without (opposite p) d)
    ∙ elim (cases_Bool (literal_true v p)) [
      | inl e ↦ or_right (clause_true v (without p c)) (clause_true v (without (opposite p) d))
          (clause_true-without v (opposite p) d (literal_true-opposite v p ∙ ap not e) u)
      | inr e ↦ or_left (clause_true v (without p c)) (clause_true v (without (opposite p) d)) (clause_true-without v p c e t)
    ]

clauses_true-at :
    (v : Valuation) (cs : List PropClause) (n : ℕ) (c : PropClause)
    → IsTrue (clauses_true v cs) → slice_get cs n ≡ Some c → IsTrue (clause_true v c)
clauses_true-at v [] n c t e = cc
clauses_true-at v (d ∷ ds) zero c t e = ap (clause_true v) (sym (same_Some d c e)) ∙ (and_parts (clause_true v d) (clauses_true v ds) t).0
clauses_true-at v (d ∷ ds) (suc n) c t e = clauses_true-at v ds n c (and_parts (clause_true v d) (clauses_true v ds) t).1 e

clause_true-link :
    (v : Valuation) (known : List PropClause) (c e : PropClause) (link : Link)
    → IsTrue (clauses_true v known) → IsTrue (clause_true v c) → link_clause known c link ≡ Some e → IsTrue (clause_true v e)
clause_true-link v known c e link k t h =
    option_and_then_some
    (λ (d : PropClause). cond (can_resolve link.pivot c d) (Some (resolvent link.pivot c d)) None) (slice_get known link.number) e h
    (λ d at made.
    let parts = cond_some (can_resolve link.pivot c d) (resolvent link.pivot c d) e made in
    ap (clause_true v) (sym parts.1)
    ∙ clause_true-resolvent v link.pivot c d t (clauses_true-at v known link.number d k at))

clause_true-links :
    (v : Valuation) (known : List PropClause) (c e : PropClause) (links : List Link)
    → IsTrue (clauses_true v known) → IsTrue (clause_true v c) → links_clause known c links ≡ Some e → IsTrue (clause_true v e)
clause_true-links v known c e [] k t h = ap (clause_true v) (sym (same_Some c e h)) ∙ t
clause_true-links v known c e (link ∷ links) k t h =
    option_and_then_some (λ (d : PropClause). links_clause known d links) (link_clause known c link) e h
    (λ d made rest. clause_true-links v known d e links k (clause_true-link v known c d link k t made) rest)

clause_true-chain :
    (v : Valuation) (known : List PropClause) (e : PropClause) (chain : Chain)
    → IsTrue (clauses_true v known) → chain_clause known chain ≡ Some e → IsTrue (clause_true v e)
clause_true-chain v known e chain k h =
    option_and_then_some (λ (c : PropClause). links_clause known c chain.links) (slice_get known chain.start) e h
    (λ c at made. clause_true-links v known c e chain.links k (clauses_true-at v known chain.start c k at) made)

clauses_true-log :
    (v : Valuation) (known made : List PropClause) (log : List Chain)
    → IsTrue (clauses_true v known) → log_clauses known log ≡ Some made → IsTrue (clauses_true v made)
clauses_true-log v known made [] k h = ap (clauses_true v) (sym (same_Some [] made h))
clauses_true-log v known made (chain ∷ log) k h =
    option_and_then_some
    (λ (c : PropClause). option_map (λ (more : List PropClause). c ∷ more) (log_clauses (known ++ c ∷ []) log)) (chain_clause known chain) made h
    (λ c first rest.
    let here : IsTrue (clause_true v c) = clause_true-chain v known c chain k first in
    let grown : IsTrue (clauses_true v (known ++ c ∷ [])) =
    list_all-append (clause_true v) known (c ∷ [])
    ∙ and_from (clauses_true v known) (clauses_true v (c ∷ [])) k (and_from (clause_true v c) true here refl) in
    after c here (log_clauses (known ++ c ∷ []) log) (λ more e. clauses_true-log v (known ++ c ∷ []) more log grown e) rest)
  where
    after :
        (c : PropClause) → IsTrue (clause_true v c) → (o : Option (List PropClause))
        → ((more : List PropClause) → o ≡ Some more → IsTrue (clauses_true v more))
        → option_map (λ (more : List PropClause). c ∷ more) o ≡ Some made → IsTrue (clauses_true v made)
    after c t None f e = cc
    after c t (Some more) f e =
        ap (clauses_true v) (sym (same_Some (c ∷ more) made e))
        ∙ and_from (clause_true v c) (clauses_true v more) t (f more refl)

-- a list that ends in the empty clause is not true
ends_empty-false : (v : Valuation) (cs : List PropClause) → IsTrue (ends_empty cs) → IsTrue (clauses_true v cs) → ⊥
ends_empty-false v [] e t = cc
ends_empty-false v ([] ∷ []) e t = cc
ends_empty-false v ((l ∷ ls) ∷ []) e t = cc
ends_empty-false v (c ∷ d ∷ ds) e t = ends_empty-false v (d ∷ ds) e (and_parts (clause_true v c) (clauses_true v (d ∷ ds)) t).1

pub right_logs_refute : RightLogsRefute
right_logs_refute clauses log right v =
    false_from_ne_true (clauses_true v clauses)
    (λ t. ends_empty-false v right.made right.empty (clauses_true-log v clauses right.made log t right.lawful))

pub answers_exclude : AnswersExclude
answers_exclude names clauses truths log model right =
    both_ways (clauses_true (valuation_of truths) clauses) (right_logs_refute clauses log right (valuation_of truths)) model.makes_true
