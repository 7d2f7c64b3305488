use Rattle.std.proofs.Common.{◌≡◌, ℕ, ◌<◌, ◌+◌, ◌++◌, ◌∷◌, [], List, length, drop, ap, sym, ◌∙◌, arith, subst}
use Rattle.std.specs.Prelude.{slice_index, slice_index_or, slice_set}
use Rattle.std.proofs.lemmas.List.{length_push, length-set, get_or_default, take-append-le, take_all}
use Rattle.split_parts.specs.Forest.{IsGrouped}
use Rattle.split_parts.proofs.AboutParts.GroupLemmas.{grouped-root, grouped-more, slots-within}
use Rattle.split_parts.proofs.parts.grouped.Goals.{then-root-place+in_ok-push+in_ok-from_slice+in_ok-push-2, else-root-place+in_ok-push-3+in_ok-add_place}
use Rattle.split_parts.proofs.parts.grouped.Goals as goal

pub loop-place-preserved : goal.loop-place-preserved
loop-place-preserved c =
    let k : ℕ = c.loop-place.place in
    let links : List ℕ = c.args.links.now in
    let slots : List ℕ = c.loop-place.slots.items in
    let parts : List (List ℕ) = c.loop-place.parts.items in
    let more_slots : List ℕ = c.if-root-place.slots.items in
    let more_parts : List (List ℕ) = c.if-root-place.parts.items in
    let inside : k < length links = omega arith in
    elim c.if-root-place.branch [
      | then-root-place+in_ok-push+in_ok-from_slice+in_ok-push-2 w ↦
          let count : w.len.result ≡ length parts = omega (arith, c.loop-place.parts.ok.0) in
          let slots_is : more_slots ≡ slots ++ length parts ∷ [] =
          ap (λ v. v.items) w.slots-is ∙ w.in_ok-push.ensures.items ∙ ap (λ n. slots ++ n ∷ []) count in
          let parts_is : more_parts ≡ parts ++ (k ∷ []) ∷ [] =
          ap (λ v. v.items) w.parts-is ∙ w.in_ok-push-2.ensures.items ∙ ap (λ part. parts ++ part ∷ []) w.in_ok-from_slice.ensures in
          record {
            len = ap length slots_is ∙ length_push slots (length parts) ∙ ap (λ n. n + 1) c.loop-place.invariant.len;
            within = λ j h.
                subst (λ s. slice_index s j < length more_parts) (sym slots_is)
                (slots-within slots (length parts) k (length parts) (length more_parts) c.loop-place.invariant.len c.loop-place.invariant.within
                (omega (arith, ap length parts_is, length_push parts (k ∷ [])))
                (omega (arith, ap length parts_is, length_push parts (k ∷ []))) j h);
            grouped = λ colour is.
                subst (λ s. IsGrouped colour (k + 1) s more_parts) (sym slots_is)
                (subst (IsGrouped colour (k + 1) (slots ++ length parts ∷ [])) (sym parts_is)
                (grouped-root colour k slots parts (c.loop-place.invariant.grouped colour is) c.loop-place.invariant.len (is.roots k inside w.if-root-place.true)));
          }
      | else-root-place+in_ok-push-3+in_ok-add_place w ↦
          let root : ℕ = slice_index links k in
          let slot : ℕ = w.index-slot.result.now in
          let lower : root < k = omega (arith, c.requires k inside, w.if-root-place.false) in
          let slot_is : slot ≡ slice_index slots root =
          w.index-slot.ensures ∙ get_or_default slots root slot 0 (omega (arith, lower, c.loop-place.invariant.len)) in
          let slots_is : more_slots ≡ slots ++ slot ∷ [] = ap (λ v. v.items) w.slots-is ∙ w.in_ok-push-3.ensures.items in
          let parts_is : more_parts ≡ slice_set parts slot (slice_index_or parts slot [] ++ k ∷ []) =
          ap (λ v. v.items) w.parts-is
          ∙ take-append-le c.loop-place.parts.len w.add_place.new.parts (drop (length w.add_place.new.parts) parts) (omega arith)
          ∙ take_all c.loop-place.parts.len w.add_place.new.parts (omega arith)
          ∙ w.in_ok-add_place.ensures
          ∙ ap (λ (ps : List (List ℕ)). slice_set ps slot (slice_index_or ps slot [] ++ k ∷ [])) w.deref_mut.ensures.value in
          let len_is : length more_parts ≡ length parts = ap length parts_is ∙ length-set parts slot (slice_index_or parts slot [] ++ k ∷ []) in
          record {
            len = ap length slots_is ∙ length_push slots slot ∙ ap (λ n. n + 1) c.loop-place.invariant.len;
            within = λ j h.
                subst (λ s. slice_index s j < length more_parts) (sym slots_is)
                (slots-within slots slot k (length parts) (length more_parts) c.loop-place.invariant.len c.loop-place.invariant.within
                (omega (arith, len_is)) (omega (arith, len_is, slot_is, c.loop-place.invariant.within root lower)) j h);
            grouped = λ colour is.
                subst (λ s. IsGrouped colour (k + 1) s more_parts) (sym slots_is)
                (subst (IsGrouped colour (k + 1) (slots ++ slot ∷ [])) (sym parts_is)
                (grouped-more colour k slots parts (c.loop-place.invariant.grouped colour is) c.loop-place.invariant.len root slot lower
                (is.follows k inside) slot_is));
          }
    ]
