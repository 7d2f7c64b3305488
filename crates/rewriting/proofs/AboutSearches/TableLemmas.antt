-- The table of terms without a redex: what its changes keep.
use Rattle.std.proofs.Common.{◌≡◌, ℕ, zero, suc, List, [], ◌∷◌, ◌++◌, refl, ap, sym, ◌∙◌, subst, ◌⊎◌, inl, inr, ⊎_elim, Bool, true, false}
use Rattle.std.specs.Prelude.{Option, None, Some, is_some, slice_get, slice_set, if◌then◌else◌}
use Rattle.std.proofs.lemmas.Bool.{true≢false}
use Rattle.std.proofs.lemmas.Option.{none-some, same_Some}
use Rattle.fol_base.specs.Tree.{Tree}
use Rattle.fol_base.specs.Term.{tree_of}
use Rattle.fol_base.specs.Clause.{TreeClause}
use Rattle.fol_base.specs.declared.term.Term.{Term}
use Rattle.rewriting.specs.Redex.{inner, IsNormal}
use Rattle.rewriting.specs.NormalTerms.{IsRemembered, RemembersNormal}
use Rattle.rewriting.specs.declared.normal_terms.NormalTerms.{NormalTerms}

pub kept-places :
    (clauses : ℕ → Option TreeClause) (old new : NormalTerms) → new.places ≡ old.places → RemembersNormal clauses old → RemembersNormal clauses new
kept-places clauses old new same normal t at =
    normal t
    (record {
      place = at.place;
      term = at.term;
      there = ap (λ (ps : List (Option Term)). slice_get ps at.place) (sym (ap (λ v. v.items) same)) ∙ at.there;
      same = at.same;
    })

-- a place more, with nothing
pub none-more : (ps : List (Option Term)) (i : ℕ) (x : Term) → slice_get (ps ++ None ∷ []) i ≡ Some (Some x) → slice_get ps i ≡ Some (Some x)
none-more [] zero x h = absurd (none-some x (same_Some None (Some x) h))
none-more [] (suc i) x h = absurd (none-some (Some x) h)
none-more (p ∷ ps) zero x h = h
none-more (p ∷ ps) (suc i) x h = none-more ps i x h

-- a term put at a place, or one that was there
pub put-at :
    (ps : List (Option Term)) (n : ℕ) (new : Term) (i : ℕ) (x : Term)
    → slice_get (slice_set ps n (Some new)) i ≡ Some (Some x) → (x ≡ new) ⊎ (slice_get ps i ≡ Some (Some x))
put-at [] n new i x h = inr h
put-at (p ∷ ps) zero new zero x h = inl (sym (same_Some new x (same_Some (Some new) (Some x) h)))
put-at (p ∷ ps) zero new (suc i) x h = inr h
put-at (p ∷ ps) (suc n) new zero x h = inr h
put-at (p ∷ ps) (suc n) new (suc i) x h = put-at ps n new i x h

pub put-remembers :
    (clauses : ℕ → Option TreeClause) (old new : NormalTerms) (n : ℕ) (copy : Term) (t : Tree)
    → new.places.items ≡ slice_set old.places.items n (Some copy) → tree_of copy ≡ t
    → RemembersNormal clauses old → IsNormal clauses inner t → RemembersNormal clauses new
put-remembers clauses old new n copy t set is normal here u at =
    ⊎_elim
    (λ (same : at.term ≡ copy). subst (λ v. IsNormal clauses inner v) (sym is ∙ ap tree_of (sym same) ∙ at.same) here)
    (λ before. normal u (record { place = at.place; term = at.term; there = before; same = at.same }))
    (put-at old.places.items n copy at.place at.term (ap (λ (ps : List (Option Term)). slice_get ps at.place) (sym set) ∙ at.there))

pub remembered-same : (old new : NormalTerms) → new.places.items ≡ old.places.items → (t : Tree) → IsRemembered new t → IsRemembered old t
remembered-same old new same t at = record {
  place = at.place;
  term = at.term;
  there = ap (λ (ps : List (Option Term)). slice_get ps at.place) (sym same) ∙ at.there;
  same = at.same;
}

-- a push of nothing, or none
pub remembered-pushed :
    (old new : NormalTerms) (pushed : Bool)
    → new.places.items ≡ (if pushed then old.places.items ++ None ∷ [] else old.places.items)
    → (t : Tree) → IsRemembered new t → IsRemembered old t
remembered-pushed old new true is t at = record {
  place = at.place;
  term = at.term;
  there = none-more old.places.items at.place at.term (ap (λ (ps : List (Option Term)). slice_get ps at.place) (sym is) ∙ at.there);
  same = at.same;
}
remembered-pushed old new false is t at = remembered-same old new is t at

pub none-there : {X : Type 0} (o : Option X) (some : Bool) → some ≡ is_some o → some ≡ false → o ≡ None
none-there None some is held = refl
none-there (Some x) some is held = absurd (true≢false (sym is ∙ held))
