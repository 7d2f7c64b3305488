-- Steps of the joining of classes.
use Rattle.std.proofs.Common.{◌≡◌, ℕ, ◌+◌, ◌<◌, ◌≤◌, min, max, Bool, true, ◌==◌, nat_eq, List, length, get_or, Some, None, refl, ap, sym, ◌∙◌, ⊎_elim, arith}
use Rattle.std.specs.Prelude.{slice_index, slice_set}
use Rattle.std.specs.HashMap.{get, Updates}
use Rattle.std.proofs.lemmas.Bool.{eqb-true, eq-eqb, ne_eqb, cond-true, cond-false, cond_both, cases_eq, cases_lt, cases_Bool, true≢false}
use Rattle.std.proofs.lemmas.List.{take_all, length-set, get_or-set_same, get_or-set_other}
use Rattle.std.proofs.lemmas.Option.{same_Some, none-some}
use Rattle.fol_base.specs.Clause.{TreeLiteral}
use Rattle.kernel_steps.specs.Split.{has_number}
use Rattle.split_parts.specs.Forest.{IsColouring, IsJoined, IsLinked, Table, merged, variables_at}
use Rattle.split_parts.proofs.AboutParts.PlaceLemmas.{has-taken, has-at, follows-variable, variables_at-within}

-- ---- merged colours

merged-high : (a b c : ℕ) → c ≡ max a b → merged a b c ≡ min a b
merged-high a b c e = cond-true (c == max a b) (min a b) c (eq-eqb c (max a b) e)

merged-other : (a b c : ℕ) → (c ≡ max a b → ⊥) → merged a b c ≡ c
merged-other a b c other = cond-false (c == max a b) (min a b) c (ne_eqb c (max a b) other)

merged-low : (a b c : ℕ) → c ≡ min a b → merged a b c ≡ min a b
merged-low a b c e = ⊎_elim (λ high. merged-high a b c high) (λ other. merged-other a b c other ∙ e) (cases_eq c (max a b))

merged-first : (a b : ℕ) → merged a b a ≡ min a b
merged-first a b =
    ⊎_elim
    (λ (h : a < b). merged-low a b a (omega (arith, h)))
    (λ (h : b ≤ a). merged-high a b a (omega (arith, h)))
    (cases_lt a b)

merged-second : (a b : ℕ) → merged a b b ≡ min a b
merged-second a b =
    ⊎_elim
    (λ (h : a < b). merged-high a b b (omega (arith, h)))
    (λ (h : b ≤ a). merged-low a b b (omega (arith, h)))
    (cases_lt a b)

min-max : (f : ℕ → Bool) (a b : ℕ) → f a ≡ f b → f (min a b) ≡ f (max a b)
min-max f a b e =
    ⊎_elim
    (λ (h : a < b). let low : min a b ≡ a = omega (arith, h) in let high : max a b ≡ b = omega (arith, h) in ap f low ∙ e ∙ ap f (sym high))
    (λ (h : b ≤ a). let low : min a b ≡ b = omega (arith, h) in let high : max a b ≡ a = omega (arith, h) in ap f low ∙ sym e ∙ ap f (sym high))
    (cases_lt a b)

-- the root of one class is linked to the lower root of the other
pub linked-roots :
    (links : List ℕ) (high low : ℕ) (colour : ℕ → ℕ) (a b : ℕ)
    → IsColouring colour links → colour high ≡ high → colour low ≡ low → high < length links → high ≡ max a b → low ≡ min a b
    → IsColouring (λ j. merged a b (colour j)) (slice_set links high low)
linked-roots links high low colour a b is high_root low_root within highest lowest =
    record {
      follows = λ j h.
          ⊎_elim
          (λ e.
          ap (λ k. merged a b (colour k)) (at_high j e)
          ∙ merged-low a b (colour low) (low_root ∙ lowest)
          ∙ sym (merged-high a b (colour j) (ap colour e ∙ high_root ∙ highest)))
          (λ other.
          ap (λ k. merged a b (colour k)) (get_or-set_other links high j low 0 other)
          ∙ ap (merged a b) (is.follows j (omega (arith, h, length-set links high low))))
          (cases_eq j high);
      roots = λ j h own.
          ⊎_elim
          (λ e. merged-high a b (colour j) (ap colour e ∙ high_root ∙ highest) ∙ sym lowest ∙ sym (at_high j e) ∙ own)
          (λ other.
          let same : colour j ≡ j =
          is.roots j (omega (arith, h, length-set links high low)) (sym (get_or-set_other links high j low 0 other) ∙ own) in
          ap (merged a b) same ∙ merged-other a b j (λ e. other (e ∙ sym highest)))
          (cases_eq j high);
    }
  where
    at_high : (j : ℕ) → j ≡ high → slice_index (slice_set links high low) j ≡ low
    at_high j e = ap (slice_index (slice_set links high low)) e ∙ get_or-set_same links high low 0 within

-- ---- the literals one after another

-- nothing was met
pub joined-first :
    (ls : List TreeLiteral) (links : List ℕ) (table : Table)
    → ((j : ℕ) → j < length links → slice_index links j ≡ j) → ((v : ℕ) → get nat_eq table v ≡ None) → IsJoined ls 0 0 links table
joined-first ls links table own empty =
    record {
      colour = λ j. j;
      colouring = record { follows = own; roots = λ j h e. refl };
      keeps = λ f follows j. refl;
      firsts = λ v i e. absurd (none-some i (sym (empty v) ∙ e));
      met = λ v j h. absurd (omega (arith, h));
      here = λ v h. absurd (true≢false (sym h));
    }

module _ (ls : List TreeLiteral) (place t : ℕ) (links : List ℕ) (table : Table) (is : IsJoined ls place t links table) (v : ℕ) (within : t < length (variables_at ls place)) (read : v ≡ get_or (variables_at ls place) t 0) where
  in-literal : has_number v (variables_at ls place) ≡ true
  in-literal = ap (λ w. has_number w (variables_at ls place)) read ∙ has-at (variables_at ls place) t within

  -- a variable that was met
  pub joined-again :
      (first : ℕ) (more : List ℕ)
      → length more ≡ length links → get nat_eq table v ≡ Some first
      → IsColouring (λ j. merged (is.colour first) (is.colour place) (is.colour j)) more → IsJoined ls place (t + 1) more table
  joined-again first more len found colouring =
      let a : ℕ = is.colour first in
      let b : ℕ = is.colour place in
      record {
        colour = λ j. merged a b (is.colour j);
        colouring = colouring;
        keeps = λ f follows j.
            let alike : f a ≡ f b =
            is.keeps f follows first ∙ follows-variable ls f v first place follows (is.firsts v first found).1 in-literal ∙ sym (is.keeps f follows place) in
            cond_both (is.colour j == max a b) (min a b) (is.colour j) (λ c. f c ≡ f j)
            (λ e. min-max f a b alike ∙ ap f (sym (eqb-true (is.colour j) (max a b) e)) ∙ is.keeps f follows j)
            (λ e. is.keeps f follows j);
        firsts = λ w i e. let there = is.firsts w i e in (omega (arith, there.0, len), there.1);
        met = λ w j h there. let old = is.met w j h there in (old.0, (old.1.0, ap (merged a b) old.1.1));
        here = λ w h.
            ⊎_elim
            (λ before. let old = is.here w before in (old.0, (old.1.0, ap (merged a b) old.1.1)))
            (λ e. (first, (ap (get nat_eq table) (e ∙ sym read) ∙ found, merged-first a b ∙ sym (merged-second a b))))
            (has-taken w (variables_at ls place) t within h);
      }

  -- a new one
  pub joined-new :
      (more : Table)
      → place < length links → get nat_eq table v ≡ None → Updates nat_eq table more v (Some place) → IsJoined ls place (t + 1) links more
  joined-new more inside new updates =
      record {
        colour = is.colour;
        colouring = is.colouring;
        keeps = is.keeps;
        firsts = λ w i e.
            ⊎_elim
            (λ same.
            let at : place ≡ i = same_Some place i (sym (cond-true (v == w) (Some place) (get nat_eq table w) same) ∙ sym (updates.0 w) ∙ e) in
            let its : has_number w (variables_at ls i) ≡ true =
            ap (λ k. has_number w (variables_at ls k)) (sym at) ∙ ap (λ u. has_number u (variables_at ls place)) (sym (eqb-true v w same)) ∙ in-literal in
            (omega (arith, at, inside), its))
            (λ other. is.firsts w i (sym (cond-false (v == w) (Some place) (get nat_eq table w) other) ∙ sym (updates.0 w) ∙ e))
            (cases_Bool (v == w));
        met = λ w j h there. let old = is.met w j h there in (old.0, (still w old.0 old.1.0, old.1.1));
        here = λ w h.
            ⊎_elim
            (λ before. let old = is.here w before in (old.0, (still w old.0 old.1.0, old.1.1)))
            (λ e. (place, (updates.0 w ∙ cond-true (v == w) (Some place) (get nat_eq table w) (eq-eqb v w (read ∙ sym e)), refl)))
            (has-taken w (variables_at ls place) t within h);
      }
    where
      still : (w i : ℕ) → get nat_eq table w ≡ Some i → get nat_eq more w ≡ Some i
      still w i e =
          ⊎_elim
          (λ same. absurd (none-some i (sym (ap (get nat_eq table) (sym (eqb-true v w same)) ∙ new) ∙ e)))
          (λ other. updates.0 w ∙ cond-false (v == w) (Some place) (get nat_eq table w) other ∙ e)
          (cases_Bool (v == w))

-- the literal's variables were all met
pub joined-next :
    (ls : List TreeLiteral) (place t : ℕ) (links : List ℕ) (table : Table)
    → IsJoined ls place t links table → length (variables_at ls place) ≤ t → IsJoined ls (place + 1) 0 links table
joined-next ls place t links table is end =
    record {
      colour = is.colour;
      colouring = is.colouring;
      keeps = is.keeps;
      firsts = is.firsts;
      met = λ w j h there.
          ⊎_elim
          (λ below. is.met w j below there)
          (λ (past : place ≤ j).
          let same : j ≡ place = omega (arith, past, h) in
          let its : has_number w (variables_at ls place) ≡ true = ap (λ k. has_number w (variables_at ls k)) (sym same) ∙ there in
          let old = is.here w (ap (has_number w) (take_all t (variables_at ls place) end) ∙ its) in
          (old.0, (old.1.0, old.1.1 ∙ ap is.colour (sym same))))
          (cases_lt j place);
      here = λ w h. absurd (true≢false (sym h));
    }

-- all literals were met
pub joined-all :
    (ls : List TreeLiteral) (place : ℕ) (links : List ℕ) (table : Table)
    → IsJoined ls place 0 links table → length ls ≤ place → IsLinked ls links
joined-all ls place links table is end =
    record {
      colour = is.colour;
      colouring = is.colouring;
      keeps = is.keeps;
      connects = λ v i j one other.
          let first = is.met v i (below v i one) one in
          let second = is.met v j (below v j other) other in
          sym first.1.1
          ∙ ap is.colour (same_Some first.0 second.0 (sym first.1.0 ∙ second.1.0))
          ∙ second.1.1;
    }
  where
    below : (v i : ℕ) → has_number v (variables_at ls i) ≡ true → i < place
    below v i h = omega (arith, variables_at-within ls v i h, end)
