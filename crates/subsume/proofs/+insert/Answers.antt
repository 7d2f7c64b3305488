use Rattle.std.proofs.Common.{◌≤◌, ◌<◌, ◌∷◌, sym, subst, arith}
use Rattle.std.specs.Prelude.{IsPermutation}
use Rattle.std.proofs.lemmas.Result.{IfOk-weaker}
use Rattle.std.proofs.lemmas.List.Sorted.{IsPermutation-trans}
use Rattle.bank_clause.specs.declared.member.Member.{Member}
use Rattle.subsume.specs.Tree.{IsBoundedBy, member_feature, members_of, content}
use Rattle.subsume.proofs.AboutTree.EditLemmas.{all-inserted, bound-entry, bound-raised, inserted-low, inserted-high, entry-pushed}
use Rattle.subsume.proofs.+insert.Goals as goal

pub editing::insert_beside-returns-then-value-division-clause-sound : goal.editing::insert_beside-returns-then-value-division-clause-sound
editing::insert_beside-returns-then-value-division-clause-sound t c =
    let D = c.args.division.now in
    let here : member_feature D.positive D.measure c.args.entry.member ≤ D.most =
    omega (arith, c.requires.entry D.positive D.measure c.requires.sound.inside, c.value.ensures, c.if-value-division.true) in
    record {
      inside = c.requires.sound.inside;
      low =
          all-inserted (λ (m : Member). member_feature D.positive D.measure m ≤ D.most) c.insert.result c.args.entry.member D.low.0 c.insert.new.self.0
          c.insert.ensures.ok c.insert.ensures.err here c.requires.sound.low;
      high = c.requires.sound.high;
      bound = c.requires.sound.bound;
    }

pub editing::insert_beside-returns-then-value-division-clause-ok : goal.editing::insert_beside-returns-then-value-division-clause-ok
editing::insert_beside-returns-then-value-division-clause-ok t c =
    IfOk-weaker c.insert.result _ _
    (λ done h. inserted-low c.args.entry.member c.args.division.now.low.0 c.args.division.now.high.0 c.insert.new.self.0 h) c.insert.ensures.ok

pub editing::insert_beside-returns-else-value-division-clause-sound : goal.editing::insert_beside-returns-else-value-division-clause-sound
editing::insert_beside-returns-else-value-division-clause-sound t c =
    let D = c.args.division.now in
    let here : D.most < member_feature D.positive D.measure c.args.entry.member =
    omega (arith, c.requires.entry D.positive D.measure c.requires.sound.inside, c.value.ensures, c.if-value-division.false) in
    record {
      inside = c.requires.sound.inside;
      low = c.requires.sound.low;
      high =
          all-inserted (λ (m : Member). D.most < member_feature D.positive D.measure m) c.insert-else-value-division.result c.args.entry.member D.high.0
          c.insert-else-value-division.new.self.0 c.insert-else-value-division.ensures.ok c.insert-else-value-division.ensures.err here c.requires.sound.high;
      bound =
          all-inserted (IsBoundedBy c.raise.new.self.values) c.insert-else-value-division.result c.args.entry.member D.high.0
          c.insert-else-value-division.new.self.0 c.insert-else-value-division.ensures.ok c.insert-else-value-division.ensures.err
          (bound-entry D.bound.values c.raise.new.self.values c.args.entry c.raise.ensures c.requires.entry)
          (bound-raised D.bound.values c.args.entry.features.values c.raise.new.self.values D.high.0 c.raise.ensures c.requires.sound.bound);
    }

pub editing::insert_beside-returns-else-value-division-clause-ok : goal.editing::insert_beside-returns-else-value-division-clause-ok
editing::insert_beside-returns-else-value-division-clause-ok t c =
    IfOk-weaker c.insert-else-value-division.result _ _
    (λ done h. inserted-high c.args.entry.member c.args.division.now.low.0 c.args.division.now.high.0 c.insert-else-value-division.new.self.0 h)
    c.insert-else-value-division.ensures.ok

pub editing::insert_into-returns-then-not-may_divide-clause-ok : goal.editing::insert_into-returns-then-not-may_divide-clause-ok
editing::insert_into-returns-then-not-may_divide-clause-ok t c =
    subst (λ n. IsPermutation (c.args.entry.member ∷ (content n).0) (members_of c.push.new.self.items)) (sym c.in-Leaf.is)
    (entry-pushed c.in-Leaf.entries.items c.push.new.self.items c.args.entry c.in_ok-push-in-Leaf.ensures.items)

pub editing::insert_into-returns-else-not-may_divide-clause-ok : goal.editing::insert_into-returns-else-not-may_divide-clause-ok
editing::insert_into-returns-else-not-may_divide-clause-ok t c =
    let pushed : IsPermutation (c.args.entry.member ∷ (content c.args.node.now).0) (members_of c.push.new.self.items) =
    subst (λ n. IsPermutation (c.args.entry.member ∷ (content n).0) (members_of c.push.new.self.items)) (sym c.in-Leaf.is)
    (entry-pushed c.in-Leaf.entries.items c.push.new.self.items c.args.entry c.in_ok-push-in-Leaf.ensures.items) in
    IsPermutation-trans (c.args.entry.member ∷ (content c.args.node.now).0) (members_of c.push.new.self.items) (content c.divided.result).0 pushed
    (subst (λ v. IsPermutation (members_of v.items) (content c.divided.result).0) c.replace-full.ensures.value c.divided.ensures.members)
