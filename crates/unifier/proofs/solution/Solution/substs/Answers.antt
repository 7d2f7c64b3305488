use Rattle.std.proofs.Common.{List, ℕ, length, slice_index, ap, sym, ◌∙◌, subst, arith}
use Rattle.fol_base.specs.declared.clause.Side.TheVariants.{Left, Right}
use Rattle.unifier.specs.Solution.{solved_form}
use Rattle.unifier.specs.Renaming.{HasNames, side_terms}
use Rattle.unifier.proofs.AboutLayouts.UndoLemmas.{are-renamed}
use Rattle.unifier.proofs.AboutLayouts.RankLemmas.{has-names, code-inside}
use Rattle.unifier.proofs.solution.Solution.substs.Goals as goal

pub side-requires-clause-names : goal.side-requires-clause-names
side-requires-clause-names c =
    subst (HasNames c.args.self.now) (ap length (sym c.as_slice.ensures.value))
    (has-names c.args.self.now c.args.left_vars c.args.right_vars _ c.requires.fits c.in_ok-names.ensures)

pub side-requires-clause-all : goal.side-requires-clause-all
side-requires-clause-all c v less =
    omega (arith, ap length c.as_slice.ensures.value, c.in_ok-names.ensures.many, code-inside c.args.self.now.apart c.args.left_vars c.args.right_vars Left v less)

pub side-requires-2-clause-names : goal.side-requires-2-clause-names
side-requires-2-clause-names c =
    subst (HasNames c.args.self.now) (ap length (sym c.as_slice-2.ensures.value))
    (has-names c.args.self.now c.args.left_vars c.args.right_vars _ c.requires.fits c.in_ok-names.ensures)

pub side-requires-2-clause-all : goal.side-requires-2-clause-all
side-requires-2-clause-all c v less =
    omega (arith, ap length c.as_slice-2.ensures.value, c.in_ok-names.ensures.many, code-inside c.args.self.now.apart c.args.left_vars c.args.right_vars Right v less)

pub returns : goal.returns
returns c =
    are-renamed c.args.self.now c.args.left_vars c.args.right_vars c.in_ok-names.names.items _ _ c.args.self.now.in_order c.requires.fits c.in_ok-names.ensures
    (c.in_ok-left.ensures ∙ ap (λ (xs : List ℕ). side_terms (solved_form c.args.self.now) (slice_index xs) Left c.args.left_vars) c.as_slice.ensures.value)
    (c.in_ok-right.ensures ∙ ap (λ (xs : List ℕ). side_terms (solved_form c.args.self.now) (slice_index xs) Right c.args.right_vars) c.as_slice-2.ensures.value)
