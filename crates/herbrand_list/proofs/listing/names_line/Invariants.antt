use Rattle.herbrand_list.proofs.AboutListing.ListLemmas.{NoneBefore}
use Rattle.herbrand_list.proofs.listing.names_line.Given as goal

abbrev pub invariant-loop-index : goal.invariant-loop-index
invariant-loop-index l = NoneBefore l.lines l.index
