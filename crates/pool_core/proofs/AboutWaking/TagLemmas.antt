-- A walk down the chain of a tag looks at each clause that asserts it.
use Rattle.std.proofs.Common.{◌≡◌, ℕ, zero, suc, ◌+◌, ◌<◌, ◌≤◌, Bool, true, false, ◌==◌, List, [], ◌∷◌, length, get_or, refl, ap, sym, ◌∙◌, subst, inl, inr, ◌⊎◌, ⊎_elim, arith}
use Rattle.std.specs.Prelude.{Some, slice_get}
use Rattle.std.proofs.lemmas.Bool.{true≢false, eq-eqb, cond-true, cond-false, cases_eq, cases_lt}
use Rattle.std.proofs.lemmas.Option.{none-some, same_Some, slice_get_within}
use Rattle.pool_history.specs.Record.{PoolRecord, is_awake}
use Rattle.pool_core.specs.Asserting.{tags_in}
use Rattle.clause_register.specs.Chained.{newest_below}
use Rattle.pool_core.specs.Waking.{AreLookedAt, AssertsNoFlip, AssertsNoneFrom, flips, looked_at}
use Rattle.pool_core.specs.declared.pool.ProofState.{ProofState}
use Rattle.pool_core.specs.declared.tag_index.Assertion.{Assertion}
use Rattle.clause_register.proofs.ChainLemmas.{newest-under, newest-key, newest-last}

-- the tag of a place
pub tag-at : (entries : List Assertion) (place : ℕ) (a : Assertion) → slice_get entries place ≡ Some a → get_or (tags_in entries) place 0 ≡ a.tag
tag-at [] place a there = absurd (none-some a there)
tag-at (b ∷ entries) zero a there = ap (λ (x : Assertion). x.tag) (same_Some b a there)
tag-at (b ∷ entries) (suc place) a there = tag-at entries place a there

-- one more than the newest place of the tag below some place
abbrev pub IsLink : ℕ → List Assertion → ℕ → Type 0
IsLink tag entries next = (end : ℕ) × (end ≤ length entries) × (next ≡ newest_below tag (tags_in entries) end)

-- no assertion of the tag is between a link and the end below which it is the newest
unlinked :
    (tag : ℕ) (entries : List Assertion) (end place : ℕ) (a : Assertion)
    → newest_below tag (tags_in entries) end ≤ place → place < end → slice_get entries place ≡ Some a → a.tag ≡ tag → ⊥
unlinked tag entries end place a above below there same =
    true≢false
    (sym (eq-eqb (get_or (tags_in entries) place 0) tag (tag-at entries place a there ∙ same))
    ∙ newest-last tag (tags_in entries) end place above below)

module _ (r : PoolRecord) (entries : List Assertion) (tag : ℕ) where
  -- at first none was looked at
  pub looks-begin : (awake : ℕ → Bool) (next : ℕ) → next ≡ newest_below tag (tags_in entries) (length entries) → AreLookedAt r awake awake (AssertsNoneFrom next entries tag)
  looks-begin awake next is k = inr (
    refl,
    λ place a above there same number.
        unlinked tag entries (length entries) place a (let e = is in omega (arith, e, above)) (slice_get_within entries place a there) there same,
  )

  pub link-begin : (next : ℕ) → next ≡ newest_below tag (tags_in entries) (length entries) → IsLink tag entries next
  link-begin next is = (length entries, omega arith, is)

  -- a link is of the tag, and no higher than there are places
  pub link-within : (next : ℕ) → IsLink tag entries next → next ≤ length entries
  link-within next is = let under = newest-under tag (tags_in entries) is.0 in let within = is.1 in let same = is.2 in omega (arith, under, within, same)

  pub link-tag : (place : ℕ) → IsLink tag entries (suc place) → get_or (tags_in entries) place 0 ≡ tag
  link-tag place is = newest-key tag (tags_in entries) is.0 place (sym is.2)

  -- the next one
  pub link-on :
      (place next : ℕ) → IsLink tag entries (suc place) → place < length entries → next ≡ newest_below (get_or (tags_in entries) place 0) (tags_in entries) place
      → IsLink tag entries next
  link-on place next is below older =
      (place, omega (arith, below), older ∙ ap (λ t. newest_below t (tags_in entries) place) (link-tag place is))

  pub link-falls :
      (place next : ℕ) → next ≡ newest_below (get_or (tags_in entries) place 0) (tags_in entries) place → next ≤ place
  link-falls place next older =
      let under = newest-under (get_or (tags_in entries) place 0) (tags_in entries) place in omega (arith, under, older)

  -- one more was looked at
  pub looks-on :
      (before now : ℕ → Bool) (place next n : ℕ) (a : Assertion)
      → IsLink tag entries (suc place) → slice_get entries place ≡ Some a → n ≡ a.number
      → next ≡ newest_below (get_or (tags_in entries) place 0) (tags_in entries) place
      → AreLookedAt r before now (AssertsNoneFrom (suc place) entries tag)
      → AreLookedAt r before (looked_at r n now) (AssertsNoneFrom next entries tag)
  looks-on before now place next n a is there number older looked k = by (k == n) refl (looked k)
    where
      on : next ≡ newest_below tag (tags_in entries) place
      on = older ∙ ap (λ t. newest_below t (tags_in entries) place) (link-tag place is)

      none :
          (k == n) ≡ false → AssertsNoneFrom (suc place) entries tag k → AssertsNoneFrom next entries tag k
      none other later at b above here same here_number = ⊎_elim
          (λ (e : at ≡ place).
          let one : a ≡ b = same_Some a b (sym there ∙ ap (slice_get entries) (sym e) ∙ here) in
          true≢false (sym (eq-eqb k n (sym here_number ∙ ap (λ (x : Assertion). x.number) (sym one) ∙ sym number)) ∙ other))
          (λ (ne : at ≡ place → ⊥). ⊎_elim
          (λ (below : at < place). unlinked tag entries place at b (let e = on in omega (arith, e, above)) below here same)
          (λ (past : place ≤ at). later at b (omega (arith, ne, past)) here same here_number)
          (cases_lt at place))
          (cases_eq at place)

      by :
          (b : Bool) → (k == n) ≡ b → (now k ≡ is_awake r k) ⊎ ((now k ≡ before k) × AssertsNoneFrom (suc place) entries tag k)
          → (looked_at r n now k ≡ is_awake r k) ⊎ ((looked_at r n now k ≡ before k) × AssertsNoneFrom next entries tag k)
      by true same was = inl (cond-true (k == n) (is_awake r k) (now k) same)
      by false other (inl seen) = inl (cond-false (k == n) (is_awake r k) (now k) other ∙ seen)
      by false other (inr unseen) = inr (cond-false (k == n) (is_awake r k) (now k) other ∙ unseen.0, none other unseen.1)

  pub looks-end :
      (before now : ℕ → Bool) (next : ℕ) → next ≤ 0 → AreLookedAt r before now (AssertsNoneFrom next entries tag) → AreLookedAt r before now (AssertsNoneFrom 0 entries tag)
  looks-end before now next done looked =
      subst (λ k. AreLookedAt r before now (AssertsNoneFrom k entries tag)) (let e : next ≡ 0 = omega (arith, done) in e) looked

-- ---- tags, one after another

module _ (r : PoolRecord) (was : List Bool) (s : ProofState) where
  pub flips-begin : (awake : ℕ → Bool) → AreLookedAt r awake awake (AssertsNoFlip 0 was s)
  flips-begin awake k = inr (refl, λ tag below. absurd (omega (arith, below)))

  -- the clauses of one more tag were looked at
  pub flips-on :
      (before now later : ℕ → Bool) (tag : ℕ)
      → AreLookedAt r before now (AssertsNoFlip tag was s) → AreLookedAt r now later (AssertsNoneFrom 0 s.asserting.entries tag)
      → AreLookedAt r before later (AssertsNoFlip (tag + 1) was s)
  flips-on before now later tag looked more k = by (more k) (looked k)
    where
      both :
          AssertsNoFlip tag was s k → AssertsNoneFrom 0 s.asserting.entries tag k → AssertsNoFlip (tag + 1) was s k
      both earlier here t below flipped = ⊎_elim
          (λ (e : t ≡ tag). subst (λ u. AssertsNoneFrom 0 s.asserting.entries u k) (sym e) here)
          (λ (ne : t ≡ tag → ⊥). earlier t (omega (arith, below, ne)) flipped)
          (cases_eq t tag)

      by :
          (later k ≡ is_awake r k) ⊎ ((later k ≡ now k) × AssertsNoneFrom 0 s.asserting.entries tag k)
          → (now k ≡ is_awake r k) ⊎ ((now k ≡ before k) × AssertsNoFlip tag was s k)
          → (later k ≡ is_awake r k) ⊎ ((later k ≡ before k) × AssertsNoFlip (tag + 1) was s k)
      by (inl seen) old = inl seen
      by (inr unseen) (inl seen) = inl (unseen.0 ∙ seen)
      by (inr unseen) (inr earlier) = inr (unseen.0 ∙ earlier.0, both earlier.1 unseen.1)

  -- a tag whose name doesn't flip needs no look
  pub flips-past :
      (before now : ℕ → Bool) (tag : ℕ)
      → flips was s.splits.model s.splits.parts.parts tag ≡ false → AreLookedAt r before now (AssertsNoFlip tag was s)
      → AreLookedAt r before now (AssertsNoFlip (tag + 1) was s)
  flips-past before now tag stays looked k = by (looked k)
    where
      by :
          (now k ≡ is_awake r k) ⊎ ((now k ≡ before k) × AssertsNoFlip tag was s k)
          → (now k ≡ is_awake r k) ⊎ ((now k ≡ before k) × AssertsNoFlip (tag + 1) was s k)
      by (inl seen) = inl seen
      by (inr earlier) = inr (
        earlier.0,
        λ t below flipped. ⊎_elim
            (λ (e : t ≡ tag). absurd (true≢false (sym flipped ∙ ap (flips was s.splits.model s.splits.parts.parts) e ∙ stays)))
            (λ (ne : t ≡ tag → ⊥). earlier.1 t (omega (arith, below, ne)) flipped)
            (cases_eq t tag),
      )
