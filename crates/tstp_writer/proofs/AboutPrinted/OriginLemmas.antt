-- Each clause of a form comes from one of the problem's formulas.
use Rattle.std.proofs.Common.{◌≡◌, ℕ, zero, suc, ◌+◌, ◌<◌, ◌≤◌, List, [], ◌∷◌, ◌++◌, map, length, Some, refl, ap, sym, ◌∙◌, arith}
use Rattle.std.specs.Prelude.{slice_get, unwrap_or}
use Rattle.std.proofs.lemmas.Option.{none-some}
use Rattle.fol_base.specs.Clause.{TreeClause}
use Rattle.tptp_tree.specs.declared.problem.Annotated.{Annotated}
use Rattle.signature.specs.Clausal.{SymbolNumbers, Made, Worked, annotated_clauses, canonical_literals, formed}
use Rattle.signature.specs.Form.{symbol_numbers, nothing_made, clausal_form}
use Rattle.tstp_writer.specs.LineTrees.{script_of, origin}

-- the list has a number there, which is less than a bound
pub record IsBelow (os : List ℕ) (i bound : ℕ) : Type 0 where
  pub origin : ℕ
  pub there : slice_get os i ≡ Some origin
  pub below : origin < bound

-- in front of other clauses there are those of one formula
in-front :
    {W C : Type 0} (make : W → C) (place bound : ℕ) (ws : List W) (cs : List C) (os : List ℕ) (i : ℕ) (c : C)
    → place < bound → ((j : ℕ) (d : C) → slice_get cs j ≡ Some d → IsBelow os j bound)
    → slice_get (map make ws ++ cs) i ≡ Some c → IsBelow (map (λ w. place) ws ++ os) i bound
in-front make place bound [] cs os i c low rest at = rest i c at
in-front make place bound (w ∷ ws) cs os zero c low rest at = record { origin = place; there = refl; below = low }
in-front make place bound (w ∷ ws) cs os (suc i) c low rest at =
    let later = in-front make place bound ws cs os i c low rest at in
    record { origin = later.origin; there = later.there; below = later.below }

formed-origin :
    (n : SymbolNumbers) (place bound : ℕ) (fs : List Annotated) (m : Made) (i : ℕ) (c : TreeClause)
    → place + length fs ≤ bound → slice_get (formed n place fs m).clauses i ≡ Some c → IsBelow (formed n place fs m).origins i bound
formed-origin n place bound [] m i c low at = absurd (none-some c at)
formed-origin n place bound (a ∷ fs) m i c low at =
    let w : Worked = annotated_clauses n a m in
    in-front canonical_literals place bound w.clauses (formed n (place + 1) fs w.made).clauses (formed n (place + 1) fs w.made).origins i c
    (omega (arith, low))
    (λ j d d_at. formed-origin n (place + 1) bound fs w.made j d (omega (arith, low)) d_at) at

pub form-origin :
    (problem : List Annotated) (i : ℕ) (c : TreeClause)
    → slice_get (clausal_form problem).clauses i ≡ Some c → IsBelow (clausal_form problem).origins i (length problem)
form-origin problem i c at = formed-origin (symbol_numbers problem) 0 (length problem) problem nothing_made i c (omega arith) at

pub origin-there :
    (problem : List Annotated) (file : List ℕ) (i : ℕ) (c : TreeClause) → slice_get (clausal_form problem).clauses i ≡ Some c
    → slice_get (clausal_form problem).origins i ≡ Some (origin (script_of file problem) i)
origin-there problem file i c at =
    let found : IsBelow (clausal_form problem).origins i (length problem) = form-origin problem i c at in
    found.there ∙ ap Some (sym (ap (λ o. unwrap_or o 0) found.there))
