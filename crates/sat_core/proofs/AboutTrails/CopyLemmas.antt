-- Copies of clauses, as sets of literals.
use Rattle.std.proofs.Common.{◌≡◌, ℕ, ◌+◌, ◌<◌, ◌≤◌, Bool, true, false, ◌||◌, List, [], ◌∷◌, ◌++◌, length, get_or, set, take, refl, ap, sym, ◌∙◌, subst, arith, ◌⊎◌, inl, inr, ⊎_elim}
use Rattle.std.specs.Prelude.{IsTrue}
use Rattle.std.specs.List.Sorted.{IsPermutation}
use Rattle.std.proofs.lemmas.Bool.{cases_eq, cases_lt, or_right}
use Rattle.std.proofs.lemmas.List.{length-set, length_push, get_or-set_same, get_or-set_other, get_or_push, get_or_append_left, get_or_past, take_more}
use Rattle.std.proofs.lemmas.List.Sorted.{list_any-IsPermutation}
use Rattle.plain_types.specs.declared.sequence.NameLit.{NameLit}
use Rattle.plain_types.specs.Names.{same_name, has_name}
use Rattle.plain_types.proofs.NameLemmas.{same_name-true, has_name-append}
use Rattle.sat_core.specs.declared.trail.Slot.{Slot}
use Rattle.sat_core.specs.Clause.{PropClause}
use Rattle.sat_core.specs.State.{SameLiterals, SameClauses, clause_at}
use Rattle.sat_core.specs.Copies.{IsAlone, IsAloneAt}
use Rattle.sat_core.proofs.AboutConflicts.AnalysisLemmas.{has_name_more}

pub same_moved : (xs ys : PropClause) → IsPermutation xs ys → SameLiterals ys xs
same_moved xs ys h l = sym (list_any-IsPermutation (same_name l) xs ys h)

alone_same : (slots : List Slot) (c d : PropClause) (l : NameLit) → SameLiterals c d → IsAlone slots c l → IsAlone slots d l
alone_same slots c d l same alone = record {
  member = sym (same l) ∙ alone.member;
  others = λ k h o. alone.others k (same k ∙ h) o;
}

pub alone_at : (slots : List Slot) (cs ds : List PropClause) (n : ℕ) (l : NameLit) → SameClauses cs ds → IsAloneAt slots cs n l → IsAloneAt slots ds n l
alone_at slots cs ds n l same alone = record {
  within = let w = alone.within in let c = same.same_count in omega (arith, w, c);
  alone = alone_same slots (clause_at cs n) (clause_at ds n) l (same.same_literals n) alone.alone;
}

-- ---- lists of copies

pub same_clauses_then : (bs cs ds : List PropClause) → SameClauses bs cs → SameClauses cs ds → SameClauses bs ds
same_clauses_then bs cs ds first second = record {
  same_count = first.same_count ∙ second.same_count;
  same_literals = λ n l. first.same_literals n l ∙ second.same_literals n l;
}

pub same_clauses_of : (cs ds : List PropClause) → cs ≡ ds → SameClauses cs ds
same_clauses_of cs ds e = record { same_count = ap length e; same_literals = λ n l. ap (λ (es : List PropClause). has_name l (clause_at es n)) e }

pub same_changed : (cs : List PropClause) (n : ℕ) (c : PropClause) → n < length cs → SameLiterals c (clause_at cs n) → SameClauses (set cs n c) cs
same_changed cs n c within same = record {
  same_count = length-set cs n c;
  same_literals = λ m l. elim (cases_eq m n) [
    | inl e ↦ ap (λ (i : ℕ). has_name l (clause_at (set cs n c) i)) e ∙ ap (has_name l) (get_or-set_same cs n c [] within) ∙ same l
        ∙ ap (λ (i : ℕ). has_name l (clause_at cs i)) (sym e)
    | inr e ↦ ap (has_name l) (get_or-set_other cs n m c [] e)
  ];
}

far : (a n b : ℕ) → a ≤ n → (n ≡ a → ⊥) → b ≡ a + 1 → b ≤ n
far a n b h apart e = ⊎_elim (λ (w : a < n). omega (arith, w, e)) (λ (w : n ≤ a). absurd (apart (omega (arith, h, w)))) (cases_lt a n)

-- one more clause and its copy
pub same_more :
    (cs ds : List PropClause) (c d : PropClause) → SameClauses cs ds → SameLiterals c d → SameClauses (cs ++ c ∷ []) (ds ++ d ∷ [])
same_more cs ds c d same here = record {
  same_count = length_push cs c ∙ ap (λ (n : ℕ). n + 1) same.same_count ∙ sym (length_push ds d);
  same_literals = λ n l. at n l (cases_lt n (length cs));
}
  where
    at : (n : ℕ) (l : NameLit) → (n < length cs) ⊎ (length cs ≤ n) → has_name l (clause_at (cs ++ c ∷ []) n) ≡ has_name l (clause_at (ds ++ d ∷ []) n)
    at n l (inl h) =
        ap (has_name l) (get_or_append_left cs (c ∷ []) [] n h) ∙ same.same_literals n l
        ∙ ap (has_name l) (sym (get_or_append_left ds (d ∷ []) [] n (let e = same.same_count in omega (arith, e, h))))
    at n l (inr h) = last (cases_eq n (length cs))
      where
        last : (n ≡ length cs) ⊎ (n ≡ length cs → ⊥) → has_name l (clause_at (cs ++ c ∷ []) n) ≡ has_name l (clause_at (ds ++ d ∷ []) n)
        last (inl e) =
            ap (has_name l) (get_or_push cs c [] n (sym e)) ∙ here l
            ∙ ap (has_name l) (sym (get_or_push ds d [] n (sym (e ∙ same.same_count))))
        last (inr e) =
            ap (has_name l) (get_or_past (cs ++ c ∷ []) n [] (let m = length_push cs c in far (length cs) n (length (cs ++ c ∷ [])) h e m))
            ∙ ap (has_name l) (sym (get_or_past (ds ++ d ∷ []) n [] (let m = length_push ds d in let k = same.same_count in far (length cs) n (length (ds ++ d ∷ [])) h e (m ∙ ap (λ (i : ℕ). i + 1) (sym k)))))

-- ---- a copy with two literals in front

absorbed : (a b : Bool) → (a ≡ true → b ≡ true) → (a || b) ≡ b
absorbed true b h = sym (h refl)
absorbed false b h = refl

pub same_front : (f s : NameLit) (xs : PropClause) → IsTrue (has_name f xs) → IsTrue (has_name s xs) → SameLiterals (f ∷ s ∷ xs) xs
same_front f s xs hf hs l =
    absorbed (same_name l f) (same_name l s || has_name l xs)
    (λ e. or_right (same_name l s) (has_name l xs) (ap (λ (k : NameLit). has_name k xs) (same_name-true l f e) ∙ hf))
    ∙ absorbed (same_name l s) (has_name l xs) (λ e. ap (λ (k : NameLit). has_name k xs) (same_name-true l s e) ∙ hs)

-- the next literal is added
pub front_more :
    (ys zs xs : PropClause) (i : ℕ) (f s x : NameLit)
    → i < length xs → x ≡ get_or xs i x → zs ≡ ys ++ x ∷ [] → SameLiterals ys (f ∷ s ∷ take i xs) → SameLiterals zs (f ∷ s ∷ take (i + 1) xs)
front_more ys zs xs i f s x h e more same l =
    ap (has_name l) more ∙ has_name-append l ys (x ∷ []) ∙ ap (λ (b : Bool). b || has_name l (x ∷ [])) (same l)
    ∙ joined (same_name l f) (same_name l s) (has_name l (take i xs)) (same_name l x)
    ∙ ap (λ (b : Bool). same_name l f || (same_name l s || b)) (sym (has_name_more xs i x l h e))
  where
    joined : (a b t x : Bool) → ((a || (b || t)) || (x || false)) ≡ (a || (b || (t || x)))
    joined true b t x = refl
    joined false true t x = refl
    joined false false true x = refl
    joined false false false true = refl
    joined false false false false = refl

-- or it is one of those in front
pub front_skips :
    (ys xs : PropClause) (i : ℕ) (f s x : NameLit)
    → i < length xs → x ≡ get_or xs i x → (x ≡ f) ⊎ (x ≡ s) → SameLiterals ys (f ∷ s ∷ take i xs) → SameLiterals ys (f ∷ s ∷ take (i + 1) xs)
front_skips ys xs i f s x h e one same l =
    same l
    ∙ joined (same_name l f) (same_name l s) (has_name l (take i xs)) (same_name l x)
    (⊎_elim (λ (q : x ≡ f). inl (ap (same_name l) q)) (λ (q : x ≡ s). inr (ap (same_name l) q)) one)
    ∙ ap (λ (b : Bool). same_name l f || (same_name l s || b)) (sym (has_name_more xs i x l h e))
  where
    joined : (a b t x : Bool) → (x ≡ a) ⊎ (x ≡ b) → (a || (b || t)) ≡ (a || (b || (t || x)))
    joined true b t x h = refl
    joined false true t x h = refl
    joined false false true x h = refl
    joined false false false true (inl h) = cc
    joined false false false true (inr h) = cc
    joined false false false false h = refl

-- ---- the copies of the clauses so far

pub copies_grown :
    (bs cs ds es : List PropClause) (c d : PropClause)
    → SameClauses cs ds → SameClauses bs (cs ++ c ∷ []) → c ≡ d → es ≡ ds ++ d ∷ [] → SameClauses bs es
copies_grown bs cs ds es c d old new same more =
    same_clauses_then bs (cs ++ c ∷ []) es new
    (subst (λ (xs : List PropClause). SameClauses (cs ++ c ∷ []) xs) (sym more) (same_more cs ds c d old (λ l. ap (has_name l) same)))

pub copies_next :
    (bs cs xs : List PropClause) (i : ℕ) (c : PropClause)
    → i < length xs → c ≡ clause_at xs i → SameClauses cs (take i xs) → SameClauses bs (cs ++ c ∷ []) → SameClauses bs (take (i + 1) xs)
copies_next bs cs xs i c h e old new = copies_grown bs cs (take i xs) (take (i + 1) xs) c (clause_at xs i) old new e (take_more xs i [] h)
