use Rattle.std.proofs.Common.{◌≡◌, ◌++◌, ◌∷◌, [], if◌then◌else◌, ap, ap₂, ◌∙◌, arith}
use Rattle.std.specs.Prelude.{is_ok}
use Rattle.sat_core.specs.Ends.{cut_out}
use Rattle.sat_core.specs.ClauseBuffer.{ClauseBuffer}
use Rattle.sat_core.proofs.AboutConflicts.EndLemmas.{cut-push, cut-longer}
use Rattle.sat_core.proofs.buffer.PropClauseBuffer.push_reserved.Goals as goal

pub invariant_of-self : goal.invariant_of-self
invariant_of-self c =
    let items : c.extend_from_slice.new.self.items ≡ c.self.inside.items.items ++ c.args.clause.now =
    c.extend_from_slice.ensures.items
    ∙ ap (λ r. if is_ok r then c.self.inside.items.items ++ c.args.clause.now else c.self.inside.items.items) c.unwrap.ensures in
    let room = ap (λ (b : ClauseBuffer). b.spare_items) c.self.view_is in
    cut-longer c.self.inside.items.items c.args.clause.now c.extend_from_slice.new.self.items c.self.inside.ends.items c.push_reserved.new.self.items _
    c.self.invariant items c.push_reserved.ensures.items (omega (arith, c.len.ensures))
    (omega (arith, c.len.ensures, room, c.requires.literals, c.self.inside.items.ok.0, c.self.invariant.1))

pub returns-clause-more : goal.returns-clause-more
returns-clause-more c =
    let items : c.extend_from_slice.new.self.items ≡ c.self.inside.items.items ++ c.args.clause.now =
    c.extend_from_slice.ensures.items
    ∙ ap (λ r. if is_ok r then c.self.inside.items.items ++ c.args.clause.now else c.self.inside.items.items) c.unwrap.ensures in
    ap₂ cut_out items c.push_reserved.ensures.items
    ∙ cut-push c.self.inside.items.items c.args.clause.now 0 c.self.inside.ends.items _ c.self.invariant.0 (omega (arith, c.len.ensures))
    ∙ ap (λ (b : ClauseBuffer). b.lists ++ c.args.clause.now ∷ []) c.self.view_is
