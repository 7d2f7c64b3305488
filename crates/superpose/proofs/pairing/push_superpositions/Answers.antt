use Rattle.std.proofs.Common.{◌≡◌, ◌<◌, List, length, take, false, ap, sym, ◌∙◌, subst, inl, arith}
use Rattle.std.proofs.lemmas.List.{take_all}
use Rattle.kernel_steps.specs.declared.key.Key.{Key}
use Rattle.literal_selection.specs.Mode.{mode_of}
use Rattle.eq_rules.specs.Inferences.{is_enough}
use Rattle.superpose.specs.Pairing.{TriesUpTo, keys_from}
use Rattle.superpose.proofs.AboutSites.TriedLemmas.{adds-nothing, adds-next, adds-all, all-keys, begins-again, begins-self, sides-enough, tried-whole}
use Rattle.superpose.proofs.pairing.push_superpositions.Goals as goal

pub loop-from-init : goal.loop-from-init
loop-from-init c = (
  adds-nothing (mode_of c.args.first.now.sites.now.mode) c.args.first.now.member.now c.args.second.now.member.now c.args.found.now.items,
  begins-self c.args.found.now.items,
)

pub loop-from-preserved : goal.loop-from-preserved
loop-from-preserved c =
    let first = c.args.first.now in
    let second = c.args.second.now in
    let froms = first.sites.now.from.items in
    let now = c.superpositions_from.new.found.items in
    let few : is_enough c.args.most (length now) ≡ false =
    ap (is_enough c.args.most) (sym (c.len.ensures ∙ c.superpositions_from.new.found.ok.0)) ∙ sym c.is_enough.ensures ∙ c.if-is_enough.false in
    let less : c.loop-from.from < length froms = omega (arith, c.loop-from-test.true, c.len-from-end.ensures, first.sites.now.from.ok.0) in (
      adds-next (mode_of first.sites.now.mode) first.member.now second.member.now froms second.sites.now.into.items c.loop-from.from
          c.args.found.now.items c.loop-from.found.items now less c.loop-from.invariant.0
          (λ s at.
          tried-whole c.args.most (mode_of first.sites.now.mode) first.member.now second.member.now
          (keys_from first.member.now.number s second.member.now.number second.sites.now.into.items) c.loop-from.found.items now few
          (c.in_ok-superpositions_from.ensures.tried s at)),
      begins-again c.args.found.now.items c.loop-from.found.items now c.loop-from.invariant.1 c.superpositions_from.ensures.begins,
    )

pub returns-then-is_enough-clause-tried : goal.returns-then-is_enough-clause-tried
returns-then-is_enough-clause-tried c =
    let first = c.args.first.now in
    let second = c.args.second.now in
    let froms = first.sites.now.from.items in
    let now = c.superpositions_from.new.found.items in
    let less : c.loop-from.from < length froms = omega (arith, c.loop-from-test.true, c.len-from-end.ensures, first.sites.now.from.ok.0) in
    subst (λ (keys : List Key). TriesUpTo c.args.most (mode_of first.sites.now.mode) first.member.now second.member.now keys c.args.found.now.items now)
    (all-keys first.member.now second.member.now first.sites.now second.sites.now c.requires.first_sites c.requires.second_sites c.requires.same_mode)
    (sides-enough c.args.most (mode_of first.sites.now.mode) first.member.now second.member.now froms second.sites.now.into.items c.loop-from.from
    c.args.found.now.items c.loop-from.found.items now less c.loop-from.invariant.0 c.in_ok-superpositions_from.ensures.tried
    (ap (is_enough c.args.most) (sym (c.len.ensures ∙ c.superpositions_from.new.found.ok.0)) ∙ sym c.is_enough.ensures ∙ c.if-is_enough.true))

pub returns-then-is_enough-clause-begins : goal.returns-then-is_enough-clause-begins
returns-then-is_enough-clause-begins c =
    begins-again c.args.found.now.items c.loop-from.found.items c.superpositions_from.new.found.items c.loop-from.invariant.1
    c.superpositions_from.ensures.begins

pub returns-clause-tried : goal.returns-clause-tried
returns-clause-tried c =
    let first = c.args.first.now in
    let second = c.args.second.now in
    let froms = first.sites.now.from.items in
    let all : take c.loop-from.from froms ≡ froms =
    take_all c.loop-from.from froms (omega (arith, c.loop-from-test.false, c.len-from-end.ensures, first.sites.now.from.ok.0)) in
    inl
    (adds-all first.member.now second.member.now first.sites.now second.sites.now c.requires.first_sites c.requires.second_sites c.requires.same_mode
    (take c.loop-from.from froms) c.args.found.now.items c.loop-from.found.items all c.loop-from.invariant.0)
