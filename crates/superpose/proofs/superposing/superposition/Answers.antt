use Rattle.std.proofs.Common.{◌≡◌, Some, length, ap, refl, sym, ◌∙◌, subst}
use Rattle.std.specs.Prelude.{slice_get}
use Rattle.std.proofs.lemmas.Option.{slice_get_read, same_Some}
use Rattle.std.proofs.lemmas.Result.{IfOk-weaker}
use Rattle.fol_base.specs.Selection.{SelectionMode, chosen}
use Rattle.literal_selection.specs.Mode.{mode_of}
use Rattle.bank_clause.specs.Clause.{clause_at}
use Rattle.superpose.specs.Sites.{can_enter}
use Rattle.superpose.specs.Superposing.{AreSites, IsSuperposition}
use Rattle.eq_rules.specs.declared.concluding.LiteralSide.{LiteralSide}
use Rattle.superpose.specs.declared.sites.LiteralPlace.{LiteralPlace}
use Rattle.superpose.proofs.AboutSites.SitesThere.{start_at, enter_at, start_there}
use Rattle.superpose.proofs.superposing.superposition.Goals as goal

pub superposition_at-requires-clause-starts : goal.superposition_at-requires-clause-starts
superposition_at-requires-clause-starts c =
    let first = c.args.first.now in
    let second = c.args.second.now in
    let froms = first.sites.now.from.items in
    let intos = second.sites.now.into.items in
    let s = c.index-start.result.now in
    let t = c.index-target.result.now in
    let s_at : slice_get froms c.args.from ≡ Some s = slice_get_read froms (length froms) c.args.from s refl c.requires.from_inside c.index-start.ensures in
    let t_at : slice_get intos c.args.into ≡ Some t = slice_get_read intos (length intos) c.args.into t refl c.requires.into_inside c.index-target.ensures in
    start_there (mode_of first.sites.now.mode) (clause_at first.member.now.clause).literals s
    (start_at (clause_at first.member.now.clause) first.sites.now c.requires.first_sites c.args.from s s_at)

pub superposition_at-requires-clause-enters : goal.superposition_at-requires-clause-enters
superposition_at-requires-clause-enters c =
    let first = c.args.first.now in
    let second = c.args.second.now in
    let froms = first.sites.now.from.items in
    let intos = second.sites.now.into.items in
    let s = c.index-start.result.now in
    let t = c.index-target.result.now in
    let s_at : slice_get froms c.args.from ≡ Some s = slice_get_read froms (length froms) c.args.from s refl c.requires.from_inside c.index-start.ensures in
    let t_at : slice_get intos c.args.into ≡ Some t = slice_get_read intos (length intos) c.args.into t refl c.requires.into_inside c.index-target.ensures in
    (enter_at (clause_at second.member.now.clause) second.sites.now c.requires.second_sites c.args.into t t_at).1

pub returns : goal.returns
returns c =
    let first = c.args.first.now in
    let second = c.args.second.now in
    let froms = first.sites.now.from.items in
    let intos = second.sites.now.into.items in
    let s = c.index-start.result.now in
    let t = c.index-target.result.now in
    let s_at : slice_get froms c.args.from ≡ Some s = slice_get_read froms (length froms) c.args.from s refl c.requires.from_inside c.index-start.ensures in
    let t_at : slice_get intos c.args.into ≡ Some t = slice_get_read intos (length intos) c.args.into t refl c.requires.into_inside c.index-target.ensures in
    let mode = mode_of first.sites.now.mode in
    let same : mode_of second.sites.now.mode ≡ mode = ap mode_of (sym c.requires.same_mode) in
    let sites : AreSites mode (clause_at first.member.now.clause) s (clause_at second.member.now.clause) t second.sites.now.choice = record {
      starts = start_at (clause_at first.member.now.clause) first.sites.now c.requires.first_sites c.args.from s s_at;
      enters =
          ap (λ k. can_enter k (clause_at second.member.now.clause).literals t.at) (sym same)
          ∙ (enter_at (clause_at second.member.now.clause) second.sites.now c.requires.second_sites c.args.into t t_at).0;
      choice_is = c.requires.second_sites.choice ∙ ap (λ k. chosen k (clause_at second.member.now.clause).literals) same;
    } in
    IfOk-weaker c.superposition_at.result
    (λ made. (k : SelectionMode) → AreSites k (clause_at first.member.now.clause) s (clause_at second.member.now.clause) t second.sites.now.choice
    → IsSuperposition k first.member.now s second.member.now t made)
    (λ made. (z : LiteralSide) (u : LiteralPlace) → slice_get froms c.args.from ≡ Some z → slice_get intos c.args.into ≡ Some u
    → IsSuperposition mode first.member.now z second.member.now u made)
    (λ made tried z u z_at u_at.
    subst (λ (y : LiteralPlace). IsSuperposition mode first.member.now z second.member.now y made) (same_Some t u (sym t_at ∙ u_at))
    (subst (λ (y : LiteralSide). IsSuperposition mode first.member.now y second.member.now t made) (same_Some s z (sym s_at ∙ z_at))
    (tried mode sites)))
    c.superposition_at.ensures
