-- What contracts see of an index of assertions: which clause asserts which tag, in the order of registration, and how many more assertions it
-- takes without new memory.
use Rattle.std.specs.Prelude.{ℕ, suc, List, [], ◌∷◌, ◌++◌, map}
use Rattle.fol_base.specs.Subsumption.{assertions}
use Rattle.pool_history.specs.Record.{Registered}
use Rattle.pool_core.specs.declared.tag_index.Assertion.{Assertion}

pub record Assertions : Type 0 where
  pub entries : List Assertion
  pub spare : ℕ

abbrev pub asserted_by : ℕ → ℕ → Assertion
asserted_by number tag = record { tag = tag; number = number }

-- the tags, in order
abbrev pub tags_in : List Assertion → List ℕ
tags_in entries = map (λ (a : Assertion). a.tag) entries

-- the assertions of registered clauses, which have the numbers from n on
abbrev pub assertions_from : ℕ → List Registered → List Assertion
assertions_from n [] = []
assertions_from n (c ∷ cs) = map (asserted_by n) (assertions c.clause.names) ++ assertions_from (suc n) cs
