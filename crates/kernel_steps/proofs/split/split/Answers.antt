use Rattle.std.proofs.Common.{List, ◌++◌, map, ap, ap₂, sym, ◌∙◌}
use Rattle.plain_types.specs.declared.sequence.NameLit.{NameLit}
use Rattle.fol_base.specs.Clause.{TreeLiteral}
use Rattle.fol_base.specs.Literal.{literal_of}
use Rattle.kernel_steps.specs.Names.{sorted_names}
use Rattle.kernel_steps.specs.Parents.{parent_of}
use Rattle.kernel_steps.specs.Split.{can_split, opposites}
use Rattle.kernel_steps.specs.Conclusion.{verdict_of, concludes}
use Rattle.kernel_steps.proofs.AboutSplits.SplitLemmas.{split-made, split-none}
use Rattle.kernel_steps.proofs.split.split.Goals as goal

pub returns-then-not-branch : goal.returns-then-not-branch
returns-then-not-branch g c =
    let os = map (g.P.LendsParents.meaning c.args.parents.now) c.args.definitions.now in
    ap verdict_of
    (split-none (parent_of c.args.parent) os c.args.parts.now
    (ap (λ ls. can_split (map literal_of ls) os c.args.parts.now) (sym c.as_slice-literals.ensures)
    ∙ sym c.in_ok-can_split.ensures
    ∙ c.if-not-branch.true))

pub returns : goal.returns
returns g c =
    let os = map (g.P.LendsParents.meaning c.args.parents.now) c.args.definitions.now in
    let p = parent_of c.args.parent in
    ap verdict_of
    (split-made p os c.args.parts.now
    (ap (λ ls. can_split (map literal_of ls) os c.args.parts.now) (sym c.as_slice-literals.ensures)
    ∙ sym c.in_ok-can_split.ensures
    ∙ c.if-not-branch.false))
    ∙ ap₂ (λ (ls : List TreeLiteral) (ns : List NameLit). concludes (record { literals = ls; names = ns }))
    (sym (ap (map literal_of) c.new.ensures))
    (ap (λ ns. sorted_names (ns ++ opposites os)) (sym c.as_slice.ensures) ∙ sym c.in_ok-names.ensures ∙ sym c.from_vec.ensures)
