-- What an index of assertions is seen as. There is a place for each further assertion in the list and in the chains.
use Rattle.std.specs.Prelude.{◌-◌, ◌<◌, ◌^◌, min, All, vec_len, vec_capacity}
use Rattle.indexmap.specs.IndexMap.{spare}
use Rattle.pool_core.specs.Asserting.{Assertions, tags_in}
use Rattle.clause_register.specs.Chained.{IsChained}
use Rattle.pool_core.specs.declared.tag_index.Assertion.{Assertion}
use Rattle.pool_core.specs.declared.tag_index.TagIndex.TheInside.{Inside}

abbrev pub index_of : Inside → Assertions
index_of a = record {
  entries = a.entries.items;
  spare =
      min (vec_capacity a.entries - vec_len a.entries)
      (min (vec_capacity a.chains.older - vec_len a.chains.older) (spare a.chains.newest));
}

-- the places are chained by the tags, which have 32 bits
pub record IsTagIndex (a : Inside) : Type 0 where
  pub chained : IsChained a.chains (tags_in a.entries.items)
  pub fit : All (λ (e : Assertion). e.tag < 2 ^ 32) a.entries.items
