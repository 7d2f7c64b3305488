-- What the work of a batch keeps: the counted list grows, and a pool that is open after it was open before.
use Rattle.std.proofs.Common.{◌≡◌, ℕ, List, [], ◌∷◌, ◌++◌, length, append-nil, refl, ap, sym, ◌∙◌, subst, inl, inr, ◌⊎◌, ⊎_elim}
use Rattle.std.specs.Prelude.{Option, None, Some, nat_le, fold, find}
use Rattle.kernel_steps.specs.declared.key.Key.{Key}
use Rattle.kernel_steps.specs.declared.key.Key.TheVariants.{Replaced}
use Rattle.kernel_steps.specs.declared.step.Line.{Line}
use Rattle.pool_history.specs.Record.{PoolRecord}
use Rattle.pool_history.specs.Counting.{refutes, spends, counts, result_comes, keys_of, lines_of_entries}
use Rattle.pool_history.specs.Returning.{dies, replaced, removed, takes_effect, proposed, becomes_active, sets_aside, worked}
use Rattle.pool_history.specs.declared.options.Options.{Options}
use Rattle.pool_history.specs.declared.outcome.Outcome.{Outcome}
use Rattle.pool_history.specs.declared.outcome.Outcome.TheVariants.{Refuted, Spent}
use Rattle.pool_history.specs.declared.batch.Entry.{Entry}
use Rattle.pool_history.specs.declared.batch.Fate.{Fate}
use Rattle.pool_history.specs.declared.batch.Fate.TheVariants.{Kept, Dropped, Heavy}
use Rattle.pool_history.specs.declared.batch.Removal.{Removal}
use Rattle.pool_history.specs.declared.batch.Work.TheVariants.{Met}
use Rattle.pool_history.proofs.AboutRecords.FrameLemmas.{Registers, by-if, result-registers, results-register}
use Rattle.pool_history.proofs.AboutRecords.GrowthLemmas.{more-then}
use Rattle.laws_saturation.proofs.AboutCarried.ArrivalLemmas.{not-open}

-- refuted or spent
abbrev pub IsFixed : Option Outcome → Type 0
IsFixed ended = (ended ≡ Some Refuted) ⊎ ((count : ℕ) × (ended ≡ Some (Spent count)))

pub record Tallies (r s : PoolRecord) : Type 0 where
  pub counted : (ks : List Key) × (s.counted ≡ r.counted ++ ks)
  pub ends : (s.ended ≡ r.ended) ⊎ IsFixed s.ended

pub tallies-all : (r : PoolRecord) → Tallies r r
tallies-all r = record { counted = ([], sym (append-nil r.counted)); ends = inl refl }

pub tallies-then : (r s t : PoolRecord) → Tallies r s → Tallies s t → Tallies r t
tallies-then r s t first second = record {
  counted = more-then r.counted s.counted t.counted first.counted second.counted;
  ends =
      ⊎_elim
      (λ (kept : t.ended ≡ s.ended).
      ⊎_elim (λ (before : s.ended ≡ r.ended). inl (kept ∙ before)) (λ (fixed : IsFixed s.ended). inr (subst IsFixed (sym kept) fixed)) first.ends)
      (λ (fixed : IsFixed t.ended). inr fixed)
      second.ends;
}

-- what is open after was open before
pub open-before : (r s : PoolRecord) → Tallies r s → s.ended ≡ None → r.ended ≡ None
open-before r s so_far is_open =
    ⊎_elim (λ (kept : s.ended ≡ r.ended). sym kept ∙ is_open)
    (λ (fixed : IsFixed s.ended).
    absurd
    (⊎_elim (λ (refuted : s.ended ≡ Some Refuted). not-open s.ended Refuted refuted is_open)
    (λ (spent : (count : ℕ) × (s.ended ≡ Some (Spent count))). not-open s.ended (Spent spent.0) spent.1 is_open) fixed))
    so_far.ends

pub registers-tallies : (r s : PoolRecord) → Registers r s → Tallies r s
registers-tallies r s is = record {
  counted = ([], ap (λ (t : PoolRecord). t.counted) is.same ∙ sym (append-nil r.counted));
  ends = ⊎_elim (λ (kept : s.ended ≡ r.ended). inl kept) (λ (refuted : s.ended ≡ Some Refuted). inr (inl refuted)) is.ends;
}

with_keys-tallies : (keys : List Key) (r : PoolRecord) → Tallies r (record r { counted = r.counted ++ keys })
with_keys-tallies keys r = record { counted = (keys, refl); ends = inl refl }

module _ (options : Options) where
  spends-tallies : (o : Option (List Line)) (r : PoolRecord) → Tallies r (spends options.split o r)
  spends-tallies None r = record { counted = ([], sym (append-nil r.counted)); ends = inr (inr (length r.counted, refl)) }
  spends-tallies (Some lines) r = registers-tallies r (result_comes options.split r lines) (result-registers options.split r lines)

  -- from the moment on in which the keys are counted
  pub counts-tallies : (keys : List Key) (results : List (List Line)) (r : PoolRecord) → Tallies (record r { counted = r.counted ++ keys }) (counts options keys results r)
  counts-tallies keys results r =
      let s : PoolRecord = record r { counted = r.counted ++ keys } in
      by-if (Tallies s) (nat_le options.inferences (length s.counted)) (spends options.split (find refutes results) s) (fold (result_comes options.split) s results)
      (spends-tallies (find refutes results) s)
      (registers-tallies s (fold (result_comes options.split) s results) (results-register options.split results s))

  replaced-tallies : (victim : ℕ) (fate : Fate) (r : PoolRecord) → Tallies r (replaced options victim fate r)
  replaced-tallies victim (Kept lines results) r =
      tallies-then r (record r { counted = r.counted ++ Replaced victim ∷ [] }) (replaced options victim (Kept lines results) r)
      (with_keys-tallies (Replaced victim ∷ []) r) (counts-tallies (Replaced victim ∷ []) (lines ∷ []) r)
  replaced-tallies victim (Dropped redundancy) r = tallies-all r
  replaced-tallies victim Heavy r = tallies-all r

  pub removed-tallies : (m : Removal) (r : PoolRecord) → Tallies r (removed options m r)
  removed-tallies m r =
      let dead : PoolRecord = dies m.victim m.justifiers r in
      tallies-then r dead (removed options m r) (record { counted = ([], sym (append-nil r.counted)); ends = inl refl }) (replaced-tallies m.victim m.fate dead)

  pub proposed-tallies : (ms : List Removal) (r : PoolRecord) → Tallies r (fold (proposed options) r ms)
  proposed-tallies [] r = tallies-all r
  proposed-tallies (m ∷ ms) r =
      tallies-then r (proposed options r m) (fold (proposed options) (proposed options r m) ms)
      (by-if (Tallies r) (takes_effect r m) (removed options m r) r (removed-tallies m r) (tallies-all r))
      (proposed-tallies ms (proposed options r m))

  -- a meeting, from the moment on in which the keys of its entries are counted
  pub met-tallies :
      (n : ℕ) (entries : List Entry) (removals : List Removal) (r : PoolRecord)
      → Tallies (record r { counted = r.counted ++ keys_of entries }) (worked options n (Met entries removals) r)
  met-tallies n entries removals r =
      let s : PoolRecord = sets_aside entries (becomes_active n r) in
      let counted : PoolRecord = counts options (keys_of entries) (lines_of_entries entries) s in
      let later : Tallies (record s { counted = s.counted ++ keys_of entries }) (fold (proposed options) counted removals) =
      tallies-then (record s { counted = s.counted ++ keys_of entries }) counted (fold (proposed options) counted removals)
      (counts-tallies (keys_of entries) (lines_of_entries entries) s) (proposed-tallies removals counted) in
      record { counted = later.counted; ends = later.ends }
