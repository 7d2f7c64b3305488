use Rattle.std.proofs.Common.{◌≡◌, ◌∙◌, ◌-◌, ◌<◌, ◌≤◌, ℕ, List, get_or, take, ap, subst, arith}
use Rattle.tptp_problem.proofs.AboutFiles.NameLemmas.{folder-boundary, folder-is}
use Rattle.tptp_problem.proofs.name.folder_of.Goals as goal

pub range-requires-clause-end_boundary : goal.range-requires-clause-end_boundary
range-requires-clause-end_boundary c =
    let slash =
    subst (λ (bs : List ℕ). 0 < c.loop-at.end → get_or bs (c.loop-at.end - 1) 0 ≡ 47) c.as_bytes-bytes.ensures.value c.loop-at.invariant.slash in
    folder-boundary c.args.path.now c.loop-at.end c.utf8.path (omega arith) slash

pub returns : goal.returns
returns c =
    let slash =
    subst (λ (bs : List ℕ). 0 < c.loop-at.end → get_or bs (c.loop-at.end - 1) 0 ≡ 47) c.as_bytes-bytes.ensures.value c.loop-at.invariant.slash in
    let none =
    subst (λ (bs : List ℕ). (k : ℕ) → c.loop-at.end ≤ k → k < c.loop-at.at → get_or bs k 0 ≡ 47 → ⊥) c.as_bytes-bytes.ensures.value
    c.loop-at.invariant.none in
    let is = folder-is c.args.path.now c.loop-at.end (omega arith) slash (λ k h g. none k h (omega arith)) in
    let far : c.loop-at.end - 0 ≡ c.loop-at.end = omega arith in
    c.range.ensures.value ∙ ap (λ n. take n c.args.path.now) far ∙ is
