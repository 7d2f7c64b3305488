-- Worked returns that aren't right, each for one reason.
use Rattle.std.proofs.Common.{◌≡◌, ℕ, Bool, true, false, not, ◌||◌, ◌==◌, ◌≤◌, List, [], ◌∷◌, ◌++◌, length, take, None, Some, refl, ap, ap₂, sym, ◌∙◌, subst, ⊎_elim, inl, inr, arith, lit<}
use Rattle.std.specs.Prelude.{Option, slice_get, IsTrue}
use Rattle.std.specs.List.{list_any, list_all, cons_option}
use Rattle.std.proofs.lemmas.Bool.{true≢false, and_parts, and_from, ne_eqb}
use Rattle.std.proofs.lemmas.Option.{none-some, same_Some}
use Rattle.fol_base.specs.Tree.{tree_eq}
use Rattle.fol_base.specs.Clause.{TreeLiteral, TreeClause, clause_instance}
use Rattle.fol_base.specs.Ground.{literals_instance}
use Rattle.fol_base.specs.Instance.{instance}
use Rattle.fol_base.specs.Rules.{disequation}
use Rattle.fol_base.specs.Selection.{select_negative}
use Rattle.fol_base.specs.Subsumption.{Subsumes, is_among}
use Rattle.fol_base.specs.Examples.{x, a, b, c, f, p, equation, clause, all_a, is_predicate}
use Rattle.fol_base.proofs.AboutClauses.RuleLemmas.{resolved-parts, merged-parts}
use Rattle.fol_base.proofs.WorkedExamples.TestLemmas.{list_all-joined}
use Rattle.kernel_steps.specs.Examples.{not_p, not_true, opposites}
use Rattle.kernel_steps.specs.Inference.{CutsBy, DropsTrivial, NamedResolution, IsIrreducible, is_tautology}
use Rattle.kernel_steps.specs.Moves.{Move, AreMoves, IsMove, end_of_moves, units_of}
use Rattle.kernel_steps.specs.Sized.{SizedResolution, is_large}
use Rattle.kernel_steps.specs.declared.key.Key.TheVariants as key
use Rattle.laws_calculus.specs.Lifting.{IsMember}
use Rattle.pool_history.specs.Record.{PoolRecord, GivenJob, clauses_of, given_job}
use Rattle.pool_history.specs.Reduction.{Lookup, handed_back}
use Rattle.pool_history.specs.Batches.{is_told_beside}
use Rattle.pool_history.specs.Lawful.{IsGivenOut, IsLawful}
use Rattle.pool_history.specs.Replay.{start}
use Rattle.laws_pool_examples.specs.Examples.{pool_of, three, rewrites, rewrites_history, rewritten_to_itself, left_uncut, cut_halfway, subsuming, left_subsumed, growing, growing_history, half_step, towering, towering_goes, connected, cut_apart, unequal, partners, entry, at_roots, return, removal}
use Rattle.pool_history.specs.declared.batch.Fate.TheVariants.{Dropped, Heavy}
use Rattle.pool_history.specs.declared.batch.Redundancy.TheVariants.{Tautology, Subsumed}
use Rattle.pool_history.specs.declared.batch.Work.TheVariants as work
use Rattle.pool_history.specs.declared.event.Event.TheVariants as event
use Rattle.pool_history.proofs.AboutCounting.DeathLemmas.{among-pass}
use Rattle.pool_history.proofs.AboutCounting.JustifiedLemmas.{removal-others}

-- what is said of the job that is out
pub said_of : (r : PoolRecord) (job : ℕ) (Says : GivenJob → Type 0) (j : GivenJob) → given_job r job ≡ Some j → IsGivenOut r job Says → Says j
said_of r job Says j out is = subst Says (sym (same_Some j is.given (sym out ∙ is.out))) is.says

-- a job that may count 100
abbrev job_on : ℕ → ℕ → List ℕ → ℕ → GivenJob
job_on job number told as_of = record { job = job; number = number; told = told; as_of = as_of; left = 100 }

-- ---- a clause that a unit cuts, and one that leaves what it subsumes

abbrev second_job : GivenJob
second_job = job_on 2 1 (0 ∷ 1 ∷ []) 3

abbrev opposite : Lookup
opposite = clauses_of (start (pool_of opposites))

pub cutting : CutsBy is_predicate (clause (p a ∷ [])) (clause (not_p a ∷ [])) (clause [])
cutting = record {
  unit_literal = p a;
  is_unit = refl;
  j = 0;
  literal = not_p a;
  literal_there = refl;
  no_truths = refl;
  matcher = all_a;
  function_terms = λ v. refl;
  matches = refl;
  asserted = refl;
  gives = refl;
  names = refl;
}

pub stays_uncut : IsLawful is_predicate (pool_of opposites) left_uncut → ⊥
stays_uncut h =
    let given = (said_of _ 2 _ second_job refl h.1.1.1.0).2.given_irreducible in
    let irreducible : IsIrreducible is_predicate (IsMember (is_told_beside second_job 1) opposite) (clause (not_p a ∷ [])) =
    subst (IsIrreducible is_predicate (IsMember (is_told_beside second_job 1) opposite)) (sym (same_Some (clause (not_p a ∷ [])) given.clause given.there)) given.infers in
    irreducible.no_step (clause []) (inr (inr (inr (record { clause = clause (p a ∷ []); holds = (0, refl); does = cutting }))))

-- p(X0) subsumes p(a)
pub subsumption : Subsumes is_predicate (clause (p (x 0) ∷ [])) (clause (p a ∷ []))
subsumption = record { matcher = all_a; function_terms = λ v. refl; places = 0 ∷ []; different = refl; mapped = refl; asserted = refl }

pub left_there : IsLawful is_predicate subsuming left_subsumed → ⊥
left_there h =
    ⊎_elim
    (λ few. let none : 100 ≤ 0 = few in absurd (omega (arith, none)))
    (λ all. true≢false (sym (all.1 0 (clause (p (x 0) ∷ [])) (clause (p a ∷ [])) refl refl (inl subsumption))))
    (said_of _ 2 _ second_job refl h.1.1.1.0).2.whole

-- ---- results that can be reduced further

pub gone_reducible : IsLawful is_predicate (pool_of opposites) cut_halfway → ⊥
gone_reducible h =
    let right = (said_of _ 2 _ second_job refl h.1.1.1.0).2 in
    (right.irreducible (clause (not_true ∷ [])) refl).no_step (clause []) (inl (record { i = 0; gives = refl; names = refl }))

pub kept_reducible :
    IsLawful is_predicate (growing 100) (take 3 growing_history ++ return 2 (work.Met (half_step ∷ []) []) ∷ []) → ⊥
kept_reducible h =
    let right = (said_of _ 2 _ second_job refl h.1.1.1.0).2.right_entries 0 half_step (lit< tt) in
    let is : clause (not_true ∷ p (f a) ∷ []) ≡ right.result = same_Some (clause (not_true ∷ p (f a) ∷ [])) right.result right.reduced.led in
    right.irreducible.no_step (clause (p (f a) ∷ []))
    (inl (subst (λ (d : TreeClause). DropsTrivial d (clause (p (f a) ∷ []))) is (record { i = 0; gives = refl; names = refl })))

-- ---- X0 != a, which resolves to the empty clause

abbrev literal : TreeLiteral
literal = disequation (x 0) a

abbrev first_job : GivenJob
first_job = job_on 1 0 (0 ∷ []) 1

-- the conclusion has no literals
nothing_left : (d : TreeClause) → NamedResolution select_negative (clause (literal ∷ [])) 0 d → [] ≡ d.literals
nothing_left d n = (resolved-parts (literals_instance n.unifier (literal ∷ [])) 0 d.literals n.concludes).gives

-- the unifier puts a for X0
puts_a : (d : TreeClause) (n : NamedResolution select_negative (clause (literal ∷ [])) 0 d) → n.unifier 0 ≡ a
puts_a d n =
    let is : literal ≡ n.literal = same_Some literal n.literal n.literal_there in
    ap (λ (l : TreeLiteral). instance n.unifier l.left) is ∙ n.most_general.unifies ∙ ap (λ (l : TreeLiteral). instance n.unifier l.right) (sym is)

not_large : (d : TreeClause) → SizedResolution select_negative (clause (literal ∷ [])) 0 d true → ⊥
not_large d s =
    let premise : is_large (clause_instance s.named.unifier (clause (literal ∷ []))) ≡ false =
    ap (λ t. is_large (clause (disequation t a ∷ []))) (puts_a d s.named) in
    let conclusion : is_large d ≡ false = ap (λ ls. is_large (clause ls)) (sym (nothing_left d s.named)) in
    true≢false (sym s.size ∙ ap₂ ◌||◌ premise conclusion)

pub small_heavy : IsLawful is_predicate unequal (event.Claim 1 ∷ return 1 (work.Met (entry (key.Refl 0 0) Heavy ∷ []) []) ∷ []) → ⊥
small_heavy h =
    let right = (said_of _ 1 _ first_job refl h.1.0).2.right_entries 0 (entry (key.Refl 0 0) Heavy) (lit< tt) in
    let one = right.1 in
    not_large right.0
    (subst (λ (d : TreeClause). SizedResolution select_negative d 0 right.0 true) (sym (same_Some (clause (literal ∷ [])) one.clause one.there)) one.infers)

-- no move leads from a clause without literals, and it is no tautology
module _ (clauses : Lookup) where
  no_move : (d e : TreeClause) (by : Option ℕ) → [] ≡ d.literals → IsMove is_predicate clauses d by e → ⊥
  no_move d e None empty move =
      ⊎_elim
      (λ drops.
      let parts = resolved-parts d.literals drops.i e.literals drops.gives in
      none-some parts.literal (ap (λ ls. slice_get ls drops.i) empty ∙ parts.literal_there))
      (λ merges.
      let parts = merged-parts d.literals merges.stays merges.goes e.literals merges.gives in
      none-some parts.literal_i (ap (λ ls. slice_get ls merges.stays) empty ∙ parts.i_there))
      move
  no_move d e (Some n) empty move =
      ⊎_elim
      (λ rewrites. none-some rewrites.literal (ap (λ ls. slice_get ls rewrites.j) empty ∙ rewrites.literal_there))
      (λ cuts. none-some cuts.literal (ap (λ ls. slice_get ls cuts.j) empty ∙ cuts.literal_there))
      move.infers

  never_tautology :
      (d : TreeClause) (moves : List Move)
      → [] ≡ d.literals → AreMoves is_predicate clauses d moves → IsTrue (is_tautology (end_of_moves d moves)) → ⊥
  never_tautology d [] empty moved is =
      true≢false (sym is ∙ ap (λ ls. is_tautology (clause ls)) (sym empty))
  never_tautology d (m ∷ ms) empty moved is = no_move d moved.0.result m.by empty moved.0.step

pub no_tautology :
    IsLawful is_predicate unequal (event.Claim 1 ∷ return 1 (work.Met (entry (key.Refl 0 0) (Dropped Tautology) ∷ []) []) ∷ []) → ⊥
no_tautology h =
    let right = (said_of _ 1 _ first_job refl h.1.0).2.right_entries 0 (entry (key.Refl 0 0) (Dropped Tautology)) (lit< tt) in
    let one =
    subst (λ (d : TreeClause). SizedResolution select_negative d 0 right.conclusion false)
    (sym (same_Some (clause (literal ∷ [])) right.inferred.clause right.inferred.there)) right.inferred.infers in
    never_tautology _ right.conclusion right.moves (nothing_left right.conclusion one.named) right.moved right.redundant

pub subsumed_by_untold :
    IsLawful is_predicate partners (event.Claim 1 ∷ return 1 (work.Met (entry (at_roots 0 0) (Dropped (Subsumed 1)) ∷ []) []) ∷ []) → ⊥
subsumed_by_untold h =
    let right = (said_of _ 1 _ first_job refl h.1.0).2.right_entries 0 (entry (at_roots 0 0) (Dropped (Subsumed 1))) (lit< tt) in
    none-some right.redundant.clause right.redundant.there

-- ---- justifiers

pub justifies_itself :
    IsLawful is_predicate (pool_of (clause (p (x 0) ∷ []) ∷ clause (p a ∷ []) ∷ []))
    (event.Claim 1 ∷ event.Claim 2 ∷ return 2 (work.Gone (removal 1 (0 ∷ 1 ∷ []) (Dropped (Subsumed 0)))) ∷ []) → ⊥
justifies_itself h =
    let is = h.1.1.0.says.2 in
    true≢false (sym (removal-others is_predicate _ _ h.1.1.0.given 1 (0 ∷ 1 ∷ []) (Dropped (Subsumed 0)) is.right))

-- the number of a clause of two literals is not among the units
module _ (clauses : Lookup) (n : ℕ) (l m : TreeLiteral) (ls : List TreeLiteral) (there : clauses n ≡ Some (clause (l ∷ m ∷ ls))) where
  no_unit : (k : TreeLiteral) (d : TreeClause) → clauses n ≡ Some d → d.literals ≡ k ∷ [] → ⊥
  no_unit k d is one =
      none-some m (sym (ap (λ ks. slice_get ks 1) one) ∙ ap (λ (e : TreeClause). slice_get e.literals 1) (sym (same_Some (clause (l ∷ m ∷ ls)) d (sym there ∙ is))))

  never_unit : (d : TreeClause) (moves : List Move) → AreMoves is_predicate clauses d moves → list_all (λ k. not (k == n)) (units_of moves) ≡ true
  never_unit d [] moved = refl
  never_unit d (move ∷ moves) moved = by move.by moved.0.result moved.0.step (never_unit move.gives moves moved.1)
    where
      differs : (k : ℕ) → (k ≡ n → ⊥) → not (k == n) ≡ true
      differs k apart = ap not (ne_eqb k n apart)

      by :
          (o : Option ℕ) (e : TreeClause) → IsMove is_predicate clauses d o e → list_all (λ k. not (k == n)) (units_of moves) ≡ true
          → list_all (λ k. not (k == n)) (cons_option o (units_of moves)) ≡ true
      by None e step rest = rest
      by (Some k) e step rest =
          and_from (not (k == n)) (list_all (λ i. not (i == n)) (units_of moves))
          (differs k (λ same.
          ⊎_elim
          (λ rewrites. no_unit rewrites.equation step.clause (ap clauses (sym same) ∙ step.there) rewrites.is_unit)
          (λ cuts. no_unit cuts.unit_literal step.clause (ap clauses (sym same) ∙ step.there) cuts.is_unit)
          step.infers))
          rest

pub superfluous_justifier : IsLawful is_predicate towering (towering_goes (0 ∷ 1 ∷ [])) → ⊥
superfluous_justifier h =
    let right = (said_of _ 3 _ (job_on 3 2 (0 ∷ 1 ∷ 2 ∷ []) 3) refl h.1.1.1.0).2.right in
    let others = never_unit _ 1 _ _ _ refl right.clause right.moves right.moved in
    true≢false
    (sym
    (among-pass (λ k. not (k == 1)) (0 ∷ 1 ∷ []) (units_of right.moves ++ 0 ∷ [])
    (and_parts (is_among (0 ∷ 1 ∷ []) (units_of right.moves ++ 0 ∷ [])) (is_among (units_of right.moves ++ 0 ∷ []) (0 ∷ 1 ∷ [])) right.justified).0
    (list_all-joined (λ k. not (k == 1)) (units_of right.moves) (0 ∷ []) others refl)))

-- ---- results and inferences of others

pub other_result :
    IsLawful is_predicate rewrites (take 2 rewrites_history ++ return 2 (work.Gone rewritten_to_itself) ∷ []) → ⊥
other_result h =
    let right = (said_of _ 2 _ (job_on 2 1 (0 ∷ 1 ∷ []) 2) refl h.1.1.0).2.right in
    let led : clause (equation b c ∷ []) ≡ right.result = same_Some (clause (equation b c ∷ [])) right.result right.reduced.led in
    let one : clause (equation (f a) c ∷ []) ∷ [] ≡ clause (equation b c ∷ []) ∷ [] = right.given ∙ ap (handed_back true) (sym led) in
    true≢false (ap (λ (cs : List TreeClause). starts_with_f_of_a cs) one)
  where
    starts_with_f_of_a : List TreeClause → Bool
    starts_with_f_of_a cs = list_any (λ (d : TreeClause). list_any (λ (l : TreeLiteral). tree_eq l.left (f a)) d.literals) cs

-- what the lines of a clause that is cut lead to
abbrev cut_clause : TreeClause
cut_clause = clause (p (x 0) ∷ equation (f (x 1)) a ∷ [])

pub whole_result : IsLawful is_predicate connected (cut_apart (cut_clause ∷ [])) → ⊥
whole_result h =
    let right = (said_of _ 2 _ (job_on 2 1 (0 ∷ 1 ∷ []) 2) refl h.1.1.0).2.right in
    let led : cut_clause ≡ right.result = same_Some cut_clause right.result right.reduced.led in
    let same : ◌≡◌ {A = ℕ} 1 2 = ap (λ (cs : List TreeClause). length cs) (right.given ∙ ap (handed_back true) (sym led)) in
    absurd (omega (arith, same))

pub others_met :
    IsLawful is_predicate three (event.Claim 1 ∷ return 1 (work.Met (entry (at_roots 0 1) (Dropped Tautology) ∷ []) []) ∷ []) → ⊥
others_met h = true≢false (sym (said_of _ 1 _ (job_on 1 2 (2 ∷ []) 1) refl h.1.0).2.keys_met)

pub removes_itself :
    IsLawful is_predicate three (event.Claim 1 ∷ return 1 (work.Met [] (removal 2 [] (Dropped Tautology) ∷ [])) ∷ []) → ⊥
removes_itself h = true≢false (sym (said_of _ 1 _ (job_on 1 2 (2 ∷ []) 1) refl h.1.0).2.others_removed)

pub subsumed_by_itself :
    IsLawful is_predicate subsuming (take 3 left_subsumed ++ return 2 (work.Met [] (removal 0 (1 ∷ []) (Dropped (Subsumed 0)) ∷ [])) ∷ []) → ⊥
subsumed_by_itself h =
    let right = (said_of _ 2 _ second_job refl h.1.1.1.0).2.right_removals 0 (removal 0 (1 ∷ []) (Dropped (Subsumed 0))) (lit< tt) in
    none-some right.redundant.clause right.redundant.there
