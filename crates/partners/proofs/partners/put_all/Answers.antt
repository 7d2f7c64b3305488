use Rattle.partners.proofs.IndexLemmas.{all-others, others-then}
use Rattle.partners.proofs.partners.put_all.Goals as goal

pub returns-in-Ok-clause-starts_kept : goal.returns-in-Ok-clause-starts_kept
returns-in-Ok-clause-starts_kept c = all-others c.args.number c.args.starts.now c.put_both.new.starts c.put_both.ensures.starts_kept

pub returns-in-Ok-clause-places_kept : goal.returns-in-Ok-clause-places_kept
returns-in-Ok-clause-places_kept c = all-others c.args.number c.args.places.now c.put_both.new.places c.put_both.ensures.places_kept

pub returns-in-Err-clause-starts_kept : goal.returns-in-Err-clause-starts_kept
returns-in-Err-clause-starts_kept c =
    others-then c.args.number c.args.starts.now c.put_both.new.starts c.take_all.new.starts
    (all-others c.args.number c.args.starts.now c.put_both.new.starts c.put_both.ensures.starts_kept) c.take_all.ensures.starts_kept

pub returns-in-Err-clause-places_kept : goal.returns-in-Err-clause-places_kept
returns-in-Err-clause-places_kept c =
    others-then c.args.number c.args.places.now c.put_both.new.places c.take_all.new.places
    (all-others c.args.number c.args.places.now c.put_both.new.places c.put_both.ensures.places_kept) c.take_all.ensures.places_kept
