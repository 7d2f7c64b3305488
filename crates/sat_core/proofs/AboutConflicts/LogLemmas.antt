-- Chains over clauses that are the same as sets, and logs that grow by a chain.
use Rattle.std.proofs.Common.{◌≡◌, ℕ, zero, suc, ◌+◌, ◌<◌, ◌≤◌, Bool, true, not, ◌&&◌, ◌||◌, cond, List, [], ◌∷◌, ◌++◌, length, Option, Some, None, refl, ap, sym, ◌∙◌, arith, ◌⊎◌, inl, inr, ⊎_elim}
use Rattle.std.specs.Prelude.{slice_get, option_and_then}
use Rattle.std.specs.Option.{option_map}
use Rattle.std.proofs.lemmas.Bool.{cases_lt, cond-true}
use Rattle.std.proofs.lemmas.List.{append_assoc, append-nil, length_push, get_or_append_left, get_or_push, get_or_past}
use Rattle.std.proofs.lemmas.Option.{option_and_then_some, cond_some, same_Some, slice_get_within, slice_get-get_or, get_or_from_slice_get}
use Rattle.plain_types.specs.declared.sequence.NameLit.{NameLit}
use Rattle.plain_types.specs.Names.{same_name, has_name, opposite, can_resolve, resolvent}
use Rattle.plain_types.proofs.NameLemmas.{has_name-resolvent, no_names}
use Rattle.sat_core.specs.declared.answer.Link.{Link}
use Rattle.sat_core.specs.declared.answer.Chain.{Chain}
use Rattle.sat_core.specs.Clause.{PropClause}
use Rattle.sat_core.specs.Resolution.{link_clause, links_clause, chain_clause, log_clauses, ends_empty}
use Rattle.sat_core.specs.Answer.{IsRightLog}
use Rattle.sat_core.specs.State.{clause_at, SameLiterals, SameClauses, AreDerived, Derives}

-- what a link makes where it is a resolution with that clause
pub link_clause_at :
    (known : List PropClause) (c d : PropClause) (link : Link)
    → slice_get known link.number ≡ Some d → can_resolve link.pivot c d ≡ true → link_clause known c link ≡ Some (resolvent link.pivot c d)
link_clause_at known c d link at can =
    ap (λ (o : Option PropClause). option_and_then (λ (d : PropClause). cond (can_resolve link.pivot c d) (Some (resolvent link.pivot c d)) None) o) at
    ∙ cond-true (can_resolve link.pivot c d) (Some (resolvent link.pivot c d)) None can

pub same_resolvent :
    (p : NameLit) (c c' d d' : PropClause) → SameLiterals c c' → SameLiterals d d' → SameLiterals (resolvent p c d) (resolvent p c' d')
same_resolvent p c c' d d' h k l =
    has_name-resolvent p l c d
    ∙ ap (λ (b : Bool). (b && not (same_name p l)) || (has_name l d && not (same_name (opposite p) l))) (h l)
    ∙ ap (λ (b : Bool). (has_name l c' && not (same_name p l)) || (b && not (same_name (opposite p) l))) (k l)
    ∙ sym (has_name-resolvent p l c' d')

same_link :
    (cs ds : List PropClause) (c d e : PropClause) (link : Link)
    → SameClauses cs ds → SameLiterals c d → link_clause cs c link ≡ Some e
    → (f : PropClause) × (link_clause ds d link ≡ Some f) × SameLiterals e f
same_link cs ds c d e link same h made =
    option_and_then_some
    (λ (x : PropClause). cond (can_resolve link.pivot c x) (Some (resolvent link.pivot c x)) None) (slice_get cs link.number) e made
    (λ x at kept.
    let parts = cond_some (can_resolve link.pivot c x) (resolvent link.pivot c x) e kept in
    let within : link.number < length ds = let w = slice_get_within cs link.number x at in omega (arith, w, same.same_count) in
    let y = clause_at ds link.number in
    let xy : SameLiterals x y = λ l. ap (has_name l) (sym (get_or_from_slice_get cs link.number x [] at)) ∙ same.same_literals link.number l in
    let can : can_resolve link.pivot d y ≡ true =
    ap (λ (b : Bool). b && has_name (opposite link.pivot) y) (sym (h link.pivot))
    ∙ ap (λ (b : Bool). has_name link.pivot c && b) (sym (xy (opposite link.pivot))) ∙ parts.0 in (
      resolvent link.pivot d y,
      link_clause_at ds d y link (slice_get-get_or ds link.number [] within) can,
      λ l. ap (has_name l) (sym parts.1) ∙ same_resolvent link.pivot c d x y h xy l,
    ))

same_links :
    (cs ds : List PropClause) (c d e : PropClause) (links : List Link)
    → SameClauses cs ds → SameLiterals c d → links_clause cs c links ≡ Some e
    → (f : PropClause) × (links_clause ds d links ≡ Some f) × SameLiterals e f
same_links cs ds c d e [] same h made = (d, refl, λ l. ap (has_name l) (sym (same_Some c e made)) ∙ h l)
same_links cs ds c d e (link ∷ links) same h made =
    option_and_then_some (λ (x : PropClause). links_clause cs x links) (link_clause cs c link) e made
    (λ x first rest.
    let step = same_link cs ds c d x link same h first in
    let end = same_links cs ds x step.0 e links same step.2 rest in
    (end.0, ap (λ (o : Option PropClause). option_and_then (λ (x : PropClause). links_clause ds x links) o) step.1 ∙ end.1, end.2))

pub same_chain :
    (cs ds : List PropClause) (chain : Chain) (clause : PropClause) → SameClauses cs ds → Derives cs chain clause → Derives ds chain clause
same_chain cs ds chain clause same derives =
    option_and_then_some (λ (x : PropClause). links_clause cs x chain.links) (slice_get cs chain.start) derives.made derives.lawful
    (λ x at made.
    let within : chain.start < length ds = let w = slice_get_within cs chain.start x at in omega (arith, w, same.same_count) in
    let y = clause_at ds chain.start in
    let xy : SameLiterals x y = λ l. ap (has_name l) (sym (get_or_from_slice_get cs chain.start x [] at)) ∙ same.same_literals chain.start l in
    let end = same_links cs ds x y derives.made chain.links same xy made in
    record {
      made = end.0;
      lawful = ap (λ (o : Option PropClause). option_and_then (λ (x : PropClause). links_clause ds x chain.links) o)
          (slice_get-get_or ds chain.start [] within) ∙ end.1;
      same = λ l. derives.same l ∙ end.2 l;
    })

-- ---- one more chain

pub log_clauses_push :
    (known made : List PropClause) (log : List Chain) (chain : Chain) (c : PropClause)
    → log_clauses known log ≡ Some made → chain_clause (known ++ made) chain ≡ Some c
    → log_clauses known (log ++ chain ∷ []) ≡ Some (made ++ c ∷ [])
log_clauses_push known made [] chain c h k =
    let none : made ≡ [] = sym (same_Some [] made h) in
    let here : chain_clause known chain ≡ Some c =
    ap (λ (cs : List PropClause). chain_clause cs chain) (sym (ap (λ (cs : List PropClause). known ++ cs) none ∙ append-nil known)) ∙ k in
    ap (λ (o : Option PropClause). option_and_then
    (λ (c : PropClause). option_map (λ (more : List PropClause). c ∷ more) (log_clauses (known ++ c ∷ []) [])) o) here
    ∙ ap (λ (cs : List PropClause). Some (cs ++ c ∷ [])) (sym none)
log_clauses_push known made (first ∷ log) chain c h k =
    option_and_then_some
    (λ (d : PropClause). option_map (λ (more : List PropClause). d ∷ more) (log_clauses (known ++ d ∷ []) log)) (chain_clause known first) made h
    (λ d at rest.
    after d at (log_clauses (known ++ d ∷ []) log) (λ more e split.
    log_clauses_push (known ++ d ∷ []) more log chain c e
    (ap (λ (cs : List PropClause). chain_clause cs chain) (append_assoc known (d ∷ []) more ∙ ap (λ (cs : List PropClause). known ++ cs) split) ∙ k)) rest)
  where
    after :
        (d : PropClause) → chain_clause known first ≡ Some d → (o : Option (List PropClause))
        → ((more : List PropClause) → o ≡ Some more → d ∷ more ≡ made
        → log_clauses (known ++ d ∷ []) (log ++ chain ∷ []) ≡ Some (more ++ c ∷ []))
        → option_map (λ (more : List PropClause). d ∷ more) o ≡ Some made
        → log_clauses known (first ∷ log ++ chain ∷ []) ≡ Some (made ++ c ∷ [])
    after d at None f e = cc
    after d at (Some more) f e =
        let split = same_Some (d ∷ more) made e in
        ap (λ (o : Option PropClause). option_and_then
        (λ (d : PropClause). option_map (λ (more : List PropClause). d ∷ more) (log_clauses (known ++ d ∷ []) (log ++ chain ∷ []))) o) at
        ∙ ap (λ (o : Option (List PropClause)). option_map (λ (more : List PropClause). d ∷ more) o) (f more refl split)
        ∙ ap (λ (cs : List PropClause). Some (cs ++ c ∷ [])) split

same_clauses_push :
    (cs ds : List PropClause) (c d : PropClause) → SameClauses cs ds → SameLiterals c d → SameClauses (cs ++ c ∷ []) (ds ++ d ∷ [])
same_clauses_push cs ds c d same h = record {
  same_count = length_push cs c ∙ ap (λ (n : ℕ). n + 1) same.same_count ∙ sym (length_push ds d);
  same_literals = λ n l. at n l (cases_lt n (length cs));
}
  where
    last : (n : ℕ) (l : NameLit) → (length cs ≡ n) ⊎ (length cs < n) → has_name l (clause_at (cs ++ c ∷ []) n) ≡ has_name l (clause_at (ds ++ d ∷ []) n)
    last n l (inl e) =
        ap (has_name l) (get_or_push cs c [] n e) ∙ h l ∙ sym (ap (has_name l) (get_or_push ds d [] n (sym same.same_count ∙ e)))
    last n l (inr e) =
        ap (has_name l) (get_or_past (cs ++ c ∷ []) n [] (omega (arith, length_push cs c)))
        ∙ sym (ap (has_name l) (get_or_past (ds ++ d ∷ []) n [] (omega (arith, length_push ds d, same.same_count))))

    at : (n : ℕ) (l : NameLit) → (n < length cs) ⊎ (length cs ≤ n) → has_name l (clause_at (cs ++ c ∷ []) n) ≡ has_name l (clause_at (ds ++ d ∷ []) n)
    at n l (inl e) =
        ap (has_name l) (get_or_append_left cs (c ∷ []) [] n e) ∙ same.same_literals n l
        ∙ sym (ap (has_name l) (get_or_append_left ds (d ∷ []) [] n (omega (arith, same.same_count))))
    at n l (inr e) = last n l (⊎_elim (λ (x : length cs < n). inr x) (λ (x : n ≤ length cs). inl (omega arith)) (cases_lt (length cs) n))

-- clauses that are the same as sets, behind the same ones
same_clauses_behind : (cs ds es : List PropClause) → SameClauses ds es → SameClauses (cs ++ ds) (cs ++ es)
same_clauses_behind cs ds es same = record { same_count = counts cs; same_literals = λ n l. at cs n l }
  where
    counts : (cs : List PropClause) → length (cs ++ ds) ≡ length (cs ++ es)
    counts [] = same.same_count
    counts (c ∷ cs) = ap suc (counts cs)

    at : (cs : List PropClause) (n : ℕ) (l : NameLit) → has_name l (clause_at (cs ++ ds) n) ≡ has_name l (clause_at (cs ++ es) n)
    at [] n l = same.same_literals n l
    at (c ∷ cs) zero l = refl
    at (c ∷ cs) (suc n) l = at cs n l

pub learned :
    (inputs clauses : List PropClause) (log : List Chain) (chain : Chain) (clause : PropClause)
    → AreDerived inputs clauses log → Derives (inputs ++ clauses) chain clause → AreDerived inputs (clauses ++ clause ∷ []) (log ++ chain ∷ [])
learned inputs clauses log chain clause are derives =
    let over : Derives (inputs ++ are.made) chain clause =
    same_chain (inputs ++ clauses) (inputs ++ are.made) chain clause (same_clauses_behind inputs clauses are.made are.same) derives in
    record {
      made = are.made ++ over.made ∷ [];
      lawful = log_clauses_push inputs are.made log chain over.made are.lawful over.lawful;
      same = same_clauses_push clauses are.made clause over.made are.same over.same;
    }

-- ---- the end

pub ends_empty_push : (cs : List PropClause) → ends_empty (cs ++ [] ∷ []) ≡ true
ends_empty_push [] = refl
ends_empty_push ([] ∷ []) = refl
ends_empty_push ((l ∷ ls) ∷ []) = refl
ends_empty_push (c ∷ d ∷ ds) = ends_empty_push (d ∷ ds)

ends_empty_at : (cs : List PropClause) (n : ℕ) → length cs ≡ n + 1 → clause_at cs n ≡ [] → ends_empty cs ≡ true
ends_empty_at [] n h e = absurd (omega (arith, h))
ends_empty_at (c ∷ []) zero h e = ap (λ (c : PropClause). ends_empty (c ∷ [])) e
ends_empty_at (c ∷ []) (suc n) h e = absurd (omega (arith, h))
ends_empty_at (c ∷ d ∷ ds) zero h e = absurd (omega (arith, h))
ends_empty_at (c ∷ d ∷ ds) (suc n) h e = ends_empty_at (d ∷ ds) n (omega (arith, h)) e

-- learned clauses of which the last is empty have a right log
pub right_log :
    (inputs clauses : List PropClause) (log : List Chain) → AreDerived inputs (clauses ++ [] ∷ []) log → IsRightLog inputs log
right_log inputs clauses log are =
    let empty : clause_at are.made (length clauses) ≡ [] =
    no_names (clause_at are.made (length clauses))
    (λ l. sym (are.same.same_literals (length clauses) l) ∙ ap (has_name l) (get_or_push clauses [] [] (length clauses) refl)) in
    record {
      made = are.made;
      lawful = are.lawful;
      empty = ends_empty_at are.made (length clauses) (sym are.same.same_count ∙ length_push clauses []) empty;
    }
