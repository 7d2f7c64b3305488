use Rattle.std.proofs.Common.{List, ℕ, refl, subst}
use Rattle.std.proofs.lemmas.Bool.{lt-ltb}
use Rattle.sat_core.specs.Clause.{valuation_of}
use Rattle.congruence.specs.Models.{AreReasons}
use Rattle.congruence.proofs.AboutModels.ReasonLemmas.{conflict-told}
use Rattle.congruence.proofs.conflict.conflict.Goals as goal

pub returns-then-branch : goal.returns-then-branch
returns-then-branch c =
    conflict-told c.args.nodes.now c.args.atoms.now (valuation_of c.args.truths.now) c.args.name c.in_ok-few.few.items
    c.as_slice-then-branch.result.now c.clause_of.result
    (subst (λ (ns : List ℕ). AreReasons c.args.nodes.now c.args.atoms.now (valuation_of c.args.truths.now) c.args.name ns) c.as_slice-2.ensures.value
    (c.in_ok-are_reasons.ensures c.if-branch.true))
    (lt-ltb _ _ c.requires.below) c.requires.is_false c.as_slice-then-branch.ensures.value c.clause_of.ensures

pub returns : goal.returns
returns c =
    conflict-told c.args.nodes.now c.args.atoms.now (valuation_of c.args.truths.now) c.args.name c.args.names.now c.args.names.now
    c.clause_of-else-branch.result
    c.requires.reasons (lt-ltb _ _ c.requires.below) c.requires.is_false refl c.clause_of-else-branch.ensures
