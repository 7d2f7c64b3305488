use Rattle.std.proofs.Common.{◌≡◌, ◌++◌, Some, List, [], map, ap, sym, ◌∙◌}
use Rattle.std.specs.Prelude.{slice_get}
use Rattle.std.proofs.lemmas.Result.{IfOk-weaker}
use Rattle.fol_base.specs.Clause.{TreeLiteral}
use Rattle.fol_base.specs.Selection.{SelectionMode, chosen}
use Rattle.fol_base.specs.Lent.{lent_of}
use Rattle.bank_clause.specs.Clause.{clause_at}
use Rattle.superpose.specs.Sites.{literal_enters, below_path, entered_places, open_places}
use Rattle.superpose.proofs.AboutSites.SiteLemmas.{places_entered, places_left_out}
use Rattle.superpose.proofs.sites.push_entered.Goals as goal

pub returns-then-not-can_enter : goal.returns-then-not-can_enter
returns-then-not-can_enter c mode choice_is =
    let ls = (clause_at c.args.member.now.clause).literals in
    let at = c.args.at in
    places_left_out mode ls at c.args.into.now.items
    (ap (λ o. literal_enters ls o at (slice_get ls at.literal)) (sym choice_is) ∙ sym c.if-not-can_enter.ensures)

pub returns : goal.returns
returns c =
    let ls = (clause_at c.args.member.now.clause).literals in
    let at = c.args.at in
    let before = c.args.into.now.items in
    let now = c.push_open_places.new.into.items in
    let l = lent_of c.literal.result in
    let there : slice_get ls at.literal ≡ Some l =
    ap (λ (ks : List TreeLiteral). slice_get ks at.literal) (sym c.lend-literals.ensures) ∙ c.literal.ensures in
    IfOk-weaker c.push_open_places.result
    (λ _. now ≡ before ++ map (below_path at []) (open_places at.side l))
    (λ _. (mode : SelectionMode) → c.args.choice ≡ chosen mode ls → now ≡ before ++ entered_places mode ls at)
    (λ _ found mode choice_is.
    found
    ∙ places_entered mode ls at l before there
    (ap (λ o. literal_enters ls o at (slice_get ls at.literal)) (sym choice_is) ∙ sym c.if-not-can_enter.ensures))
    c.push_open_places.ensures
