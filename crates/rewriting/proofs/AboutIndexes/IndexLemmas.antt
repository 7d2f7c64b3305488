-- Entries of the index of sides.
use Rattle.std.proofs.Common.{◌≡◌, ℕ, true, false, Bool, List, [], ◌∷◌, refl, ap, sym, ◌∙◌, subst, inl, inr, ◌⊎◌, ⊎_elim, arith}
use Rattle.std.specs.Prelude.{if◌then◌else◌}
use Rattle.std.proofs.lemmas.Bool.{true≢false}
use Rattle.fol_base.specs.Tree.{Tree}
use Rattle.fol_base.specs.declared.clause.Side.{Side}
use Rattle.fol_base.specs.declared.clause.Side.TheVariants.{Left, Right}
use Rattle.disc_tree.specs.Entries.{IsIn, IsWith, numbers_where}
use Rattle.disc_tree.proofs.AboutChanges.EditLemmas.{is_in-append}
use Rattle.bank_clause.specs.Clause.{side_number}
use Rattle.rewriting.specs.Index.{KeepsOthers}
use Rattle.disc_tree.proofs.AboutPaths.PrefixLemmas.{in-left, in-right}

-- what was there is there with one more
pub in-more : {X : Type 0} (x y : X) (fewer more : List X) → IsWith x fewer more → IsIn y fewer → IsIn y more
in-more x y fewer more w h =
    subst (IsIn y) (sym w.with_it)
    (⊎_elim
    (λ front. in-left y w.front (x ∷ w.back) front)
    (λ back. in-right y w.front (x ∷ w.back) (inr back))
    (is_in-append y w.front w.back (subst (IsIn y) w.without h)))

-- and what is another one without it
pub in-fewer : {X : Type 0} (x y : X) (fewer more : List X) → IsWith x fewer more → IsIn y more → (y ≡ x → ⊥) → IsIn y fewer
in-fewer x y fewer more w h other =
    subst (IsIn y) (sym w.without)
    (⊎_elim
    (λ front. in-left y w.front w.back front)
    (λ back. ⊎_elim (λ e. absurd (other e)) (λ later. in-right y w.front w.back later) back)
    (is_in-append y w.front (x ∷ w.back) (subst (IsIn y) w.with_it h)))

-- the number of a side tells the unit and the side
pub side_number-unit : (n m : ℕ) (s z : Side) → side_number n s ≡ side_number m z → n ≡ m
side_number-unit n m Left Left h = omega arith
side_number-unit n m Left Right h = absurd (omega arith)
side_number-unit n m Right Left h = absurd (omega arith)
side_number-unit n m Right Right h = omega arith

pub side_number-side : (n m : ℕ) (s z : Side) → side_number n s ≡ side_number m z → s ≡ z
side_number-side n m Left Left h = refl
side_number-side n m Left Right h = absurd (omega arith)
side_number-side n m Right Left h = absurd (omega arith)
side_number-side n m Right Right h = refl

-- an entry taken away, or none
pub taken-keeps :
    (number : ℕ) (z : Side) (u : Tree) (k : ℕ) (removed : Bool) (old new : List (Tree × ℕ))
    → k ≡ side_number number z
    → (removed ≡ true → IsWith (u, k) new old) → (removed ≡ false → new ≡ old)
    → KeepsOthers number old new
taken-keeps number z u k true old new is with_it same t n s other there =
    in-fewer (u, k) (t, side_number n s) new old (with_it refl) there
    (λ e. other (side_number-unit n number s z (ap (λ (p : Tree × ℕ). p.1) e ∙ is)))
taken-keeps number z u k false old new is with_it same t n s other there = subst (IsIn (t, side_number n s)) (sym (same refl)) there

found-first :
    (test : Tree → Bool) (e : Tree × ℕ) (es : List (Tree × ℕ)) (t : Tree) (k : ℕ) (b : Bool)
    → test e.0 ≡ b → ((t, k) ≡ e) ⊎ IsIn (t, k) es → test t ≡ true → (IsIn (t, k) es → IsIn k (numbers_where test es))
    → IsIn k (if test e.0 then e.1 ∷ numbers_where test es else numbers_where test es)
found-first test e es t k true is h pass below =
    rw is (⊎_elim (λ same. inl (ap (λ (p : Tree × ℕ). p.1) same)) (λ later. inr (below later)) h)
found-first test e es t k false is h pass below =
    rw is
    (⊎_elim
    (λ same. absurd (true≢false (sym pass ∙ ap (λ (p : Tree × ℕ). test p.0) same ∙ is)))
    (λ later. below later)
    h)

-- the number of each entry that passes the test is among those found
pub in-found : (test : Tree → Bool) (es : List (Tree × ℕ)) (t : Tree) (k : ℕ) → IsIn (t, k) es → test t ≡ true → IsIn k (numbers_where test es)
in-found test [] t k h pass = absurd h
in-found test (e ∷ es) t k h pass =
    found-first test e es t k (test e.0) refl h pass (λ later. in-found test es t k later pass)
