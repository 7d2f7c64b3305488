use Rattle.std.proofs.Common.{◌+◌, ◌-◌, ◌<◌, ◌^◌, suc, List, length, map, ap, sym, ◌∙◌}
use Rattle.std.specs.Prelude.{option_map, slice_get}
use Rattle.std.proofs.lemmas.Option.{slice_get-map, slice_get-get_or}
use Rattle.sat_core.specs.declared.answer.Link.{Link}
use Rattle.pool_history.specs.Chains.{cited}
use Rattle.pool_history.proofs.AboutRecords.ItemLemmas.{all-at}
use Rattle.pool_core.proofs.chain_lines.step_of.Goals as goal

pub line_cited-requires-in-loop-link : goal.line_cited-requires-in-loop-link
line_cited-requires-in-loop-link c =
    all-at (λ n. c.args.first + (n - length c.args.handed.now) < 2 ^ 64) (cited c.args.chain.now) (suc c.loop-link.link-index) _ c.requires.fits
    (ap (λ (ls : List Link). slice_get (map (λ (l : Link). l.number) ls) c.loop-link.link-index) (sym c.as_slice-links.ensures)
    ∙ slice_get-map (λ (l : Link). l.number) c.as_slice-links.result.now c.loop-link.link-index
    ∙ ap (option_map (λ (l : Link). l.number)) (slice_get-get_or c.as_slice-links.result.now c.loop-link.link-index _ c.loop-link-test.true))
