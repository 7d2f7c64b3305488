use Rattle.std.proofs.Common.{ℕ, ◌≡◌, ◌+◌, List, nat_eq, false, get_or, take, ap, sym, ◌∙◌, subst, if◌then◌else◌}
use Rattle.std.specs.HashMap.{get, hash_map_len}
use Rattle.std.specs.Map.{lookup}
use Rattle.std.specs.Option.{is_some}
use Rattle.std.proofs.lemmas.List.{take_all}
use Rattle.fol_base.specs.Canonical.{distinct, place_of}
use Rattle.kernel_steps.proofs.AboutSplits.SplitTables.{HasPlaces, places-old, places-new}
use Rattle.kernel_steps.proofs.split.first_places.Goals.{then-not-contains_key+in_ok-insert, else-not-contains_key}
use Rattle.kernel_steps.proofs.split.first_places.Goals as goal

pub loop-number-init : goal.loop-number-init
loop-number-init c = record {
  count = c.new-places.ensures.len;
  each = λ n. ap (lookup (nat_eq n)) c.new-places.ensures.empty;
}

pub loop-number-preserved : goal.loop-number-preserved
loop-number-preserved c =
    let ks : List ℕ = c.args.numbers.now in
    let i : ℕ = c.loop-number.number-index in
    let places = c.loop-number.places in
    elim c.if-not-contains_key.branch [
      | then-not-contains_key+in_ok-insert w ↦
          let absent : is_some (get nat_eq places (get_or ks i 0)) ≡ false = sym c.contains_key.ensures ∙ w.if-not-contains_key.true in
          subst (HasPlaces (take (i + 1) ks)) (sym w.places-is)
          (places-new ks i places c.loop-number-test.true c.loop-number.invariant w.insert.new.self w.len-next.result absent w.len-next.ensures.len
          (w.in_ok-insert.ensures.len
          ∙ ap (λ b. hash_map_len places + (if b then 0 else 1)) (ap is_some w.in_ok-insert.ensures.old ∙ absent))
          w.in_ok-insert.ensures.updates)
      | else-not-contains_key w ↦
          subst (HasPlaces (take (i + 1) ks)) (sym w.places-is)
          (places-old ks i places c.loop-number-test.true c.loop-number.invariant (sym c.contains_key.ensures ∙ w.if-not-contains_key.false))
    ]

pub returns : goal.returns
returns c = λ n.
    c.loop-number.invariant.each n
    ∙ ap (λ (ks : List ℕ). place_of n (distinct ks)) (take_all c.loop-number.number-index c.args.numbers.now c.loop-number-test.false)
