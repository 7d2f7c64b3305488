use Rattle.std.proofs.Common.{◌≡◌, ℕ, true, Option, None, Some, List, ap, ap₂, sym, ◌∙◌, subst}
use Rattle.std.specs.Prelude.{slice_get, IfSome}
use Rattle.std.proofs.lemmas.Option.{same_Some}
use Rattle.fol_base.specs.Tree.{Tree, VariablesBelow}
use Rattle.fol_base.specs.Clause.{TreeLiteral, clause_variables}
use Rattle.fol_base.specs.Canonical.{bound_of}
use Rattle.fol_base.specs.Lent.{lent_of}
use Rattle.fol_base.specs.Place.{subterm}
use Rattle.fol_base.specs.Sides.{side_of}
use Rattle.fol_base.specs.Term.{tree_of}
use Rattle.bank_clause.specs.Clause.{clause_at}
use Rattle.unifier.specs.Bindings.{IsUnified}
use Rattle.unifier.specs.Renaming.{fits}
use Rattle.unifier.specs.SolvedForm.{SolvedForm}
use Rattle.eq_rules.proofs.AboutConclusions.PremiseLemmas.{literal-below}
use Rattle.eq_rules.proofs.AboutConclusions.SideLemmas.{side-below}
use Rattle.superpose.specs.Superposing.{are_alike}
use Rattle.superpose.proofs.AboutSteps.TermsLemmas.{subterm-below}
use Rattle.superpose.proofs.AboutSteps.SizeLemmas.{unlike_none, apart_none}
use Rattle.superpose.proofs.superposing.superposition_at.Goals as goal

pub unreachable-requires : goal.unreachable-requires
unreachable-requires c =
    let m = c.args.first.now.member.now in
    let n = c.args.second.now.member.now in
    let s = c.args.from in
    let t = c.args.into.now in
    let starts = c.requires.starts in
    let enters = c.requires.enters in
    let l_is : lent_of c.literal-equation.result ≡ starts.literal =
    same_Some (lent_of c.literal-equation.result) starts.literal
    (sym c.literal-equation.ensures ∙ ap (λ (ls : List TreeLiteral). slice_get ls s.literal) c.lend-first_literals.ensures ∙ starts.there) in
    let m_is : lent_of c.literal-target.result ≡ enters.literal =
    same_Some (lent_of c.literal-target.result) enters.literal
    (sym c.literal-target.ensures ∙ ap (λ (ls : List TreeLiteral). slice_get ls t.at.literal) c.lend-second_literals.ensures ∙ enters.there) in
    let none : None ≡ Some enters.old =
    c.in_default.ensures ∙ ap (subterm t.place) (c.side.ensures ∙ ap (side_of t.at.side) m_is) ∙ enters.old_there in
    absurd (cc (none))

pub returns-then-not-are_alike : goal.returns-then-not-are_alike
returns-then-not-are_alike c mode sites =
    let m = c.args.first.now.member.now in
    let n = c.args.second.now.member.now in
    let s = c.args.from in
    let t = c.args.into.now in
    let starts = c.requires.starts in
    let enters = c.requires.enters in
    let l_is : lent_of c.literal-equation.result ≡ starts.literal =
    same_Some (lent_of c.literal-equation.result) starts.literal
    (sym c.literal-equation.ensures ∙ ap (λ (ls : List TreeLiteral). slice_get ls s.literal) c.lend-first_literals.ensures ∙ starts.there) in
    let m_is : lent_of c.literal-target.result ≡ enters.literal =
    same_Some (lent_of c.literal-target.result) enters.literal
    (sym c.literal-target.ensures ∙ ap (λ (ls : List TreeLiteral). slice_get ls t.at.literal) c.lend-second_literals.ensures ∙ enters.there) in
    let old_is : tree_of c.in-Some.old.now ≡ enters.old =
    same_Some (tree_of c.in-Some.old.now) enters.old
    (c.in-Some.ensures ∙ ap (subterm t.place) (c.side.ensures ∙ ap (side_of t.at.side) m_is) ∙ enters.old_there) in
    let alike : are_alike s t starts.literal enters.literal enters.old ≡ are_alike s t (lent_of c.literal-equation.result) (lent_of c.literal-target.result) (tree_of c.in-Some.old.now) =
    ap₂ (λ (l k : TreeLiteral). are_alike s t l k enters.old) (sym l_is) (sym m_is)
    ∙ ap (are_alike s t (lent_of c.literal-equation.result) (lent_of c.literal-target.result)) (sym old_is) in
    unlike_none m n s t starts enters mode (alike ∙ sym c.if-not-are_alike.ensures)

pub returns-in-None : goal.returns-in-None
returns-in-None c mode sites =
    let m = c.args.first.now.member.now in
    let n = c.args.second.now.member.now in
    let s = c.args.from in
    let t = c.args.into.now in
    let starts = c.requires.starts in
    let enters = c.requires.enters in
    let l_is : lent_of c.literal-equation.result ≡ starts.literal =
    same_Some (lent_of c.literal-equation.result) starts.literal
    (sym c.literal-equation.ensures ∙ ap (λ (ls : List TreeLiteral). slice_get ls s.literal) c.lend-first_literals.ensures ∙ starts.there) in
    let m_is : lent_of c.literal-target.result ≡ enters.literal =
    same_Some (lent_of c.literal-target.result) enters.literal
    (sym c.literal-target.ensures ∙ ap (λ (ls : List TreeLiteral). slice_get ls t.at.literal) c.lend-second_literals.ensures ∙ enters.there) in
    let old_is : tree_of c.in-Some.old.now ≡ enters.old =
    same_Some (tree_of c.in-Some.old.now) enters.old
    (c.in-Some.ensures ∙ ap (subterm t.place) (c.side.ensures ∙ ap (side_of t.at.side) m_is) ∙ enters.old_there) in
    let side_is : tree_of c.side-2.result.now ≡ side_of s.side starts.literal = c.side-2.ensures ∙ ap (side_of s.side) l_is in
    apart_none m n s t starts enters mode
    (subst (λ (u : Tree). IsUnified true (side_of s.side starts.literal) u None) old_is
    (subst (λ (u : Tree). IsUnified true u (tree_of c.in-Some.old.now) None) side_is
    (subst (λ (o : Option SolvedForm). IsUnified true (tree_of c.side-2.result.now) (tree_of c.in-Some.old.now) o) c.in-None.is c.in_ok-unify.ensures.unified)))

pub superposition_by-requires-clause-unified : goal.superposition_by-requires-clause-unified
superposition_by-requires-clause-unified c =
    let m = c.args.first.now.member.now in
    let n = c.args.second.now.member.now in
    let s = c.args.from in
    let t = c.args.into.now in
    let starts = c.requires.starts in
    let enters = c.requires.enters in
    let l_is : lent_of c.literal-equation.result ≡ starts.literal =
    same_Some (lent_of c.literal-equation.result) starts.literal
    (sym c.literal-equation.ensures ∙ ap (λ (ls : List TreeLiteral). slice_get ls s.literal) c.lend-first_literals.ensures ∙ starts.there) in
    let m_is : lent_of c.literal-target.result ≡ enters.literal =
    same_Some (lent_of c.literal-target.result) enters.literal
    (sym c.literal-target.ensures ∙ ap (λ (ls : List TreeLiteral). slice_get ls t.at.literal) c.lend-second_literals.ensures ∙ enters.there) in
    let old_is : tree_of c.in-Some.old.now ≡ enters.old =
    same_Some (tree_of c.in-Some.old.now) enters.old
    (c.in-Some.ensures ∙ ap (subterm t.place) (c.side.ensures ∙ ap (side_of t.at.side) m_is) ∙ enters.old_there) in
    let side_is : tree_of c.side-2.result.now ≡ side_of s.side starts.literal = c.side-2.ensures ∙ ap (side_of s.side) l_is in
    let alike : are_alike s t starts.literal enters.literal enters.old ≡ are_alike s t (lent_of c.literal-equation.result) (lent_of c.literal-target.result) (tree_of c.in-Some.old.now) =
    ap₂ (λ (l k : TreeLiteral). are_alike s t l k enters.old) (sym l_is) (sym m_is)
    ∙ ap (are_alike s t (lent_of c.literal-equation.result) (lent_of c.literal-target.result)) (sym old_is) in
    let first = clause_at m.clause in
    let second = clause_at n.clause in
    let first_bound : ℕ = bound_of (clause_variables first) in
    let second_bound : ℕ = bound_of (clause_variables second) in
    let s_below : VariablesBelow first_bound (tree_of c.side-2.result.now) =
    subst (λ (u : Tree). VariablesBelow first_bound u) (sym side_is)
    (side-below first_bound s.side starts.literal (literal-below first s.literal starts.literal starts.there)) in
    let old_below : VariablesBelow second_bound (tree_of c.in-Some.old.now) =
    subst (λ (u : Tree). VariablesBelow second_bound u) (sym old_is)
    (subterm-below second_bound t.place (side_of t.at.side enters.literal) enters.old enters.old_there
    (side-below second_bound t.at.side enters.literal (literal-below second t.at.literal enters.literal enters.there))) in
    record {
      starts = starts;
      enters = enters;
      alike = alike ∙ sym c.if-not-are_alike.ensures;
      unified =
          subst (λ (u : Tree). IsUnified true (side_of s.side starts.literal) u (Some c.in-Some-2.unifier)) old_is
          (subst (λ (u : Tree). IsUnified true u (tree_of c.in-Some.old.now) (Some c.in-Some-2.unifier)) side_is
          (subst (λ (o : Option SolvedForm). IsUnified true (tree_of c.side-2.result.now) (tree_of c.in-Some.old.now) o) c.in-Some-2.is c.in_ok-unify.ensures.unified));
      counted =
          subst (λ (o : Option SolvedForm). IfSome o (λ b. fits b first_bound second_bound ≡ true)) c.in-Some-2.is
          (c.in_ok-unify.ensures.fits first_bound second_bound s_below old_below);
    }
