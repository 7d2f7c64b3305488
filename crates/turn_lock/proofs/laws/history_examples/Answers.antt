use Rattle.turn_lock.proofs.Rows as rows
use Rattle.turn_lock.proofs.laws.history_examples.Goals as goal

pub returns-clause-owns_both_added : goal.returns-clause-owns_both_added
returns-clause-owns_both_added c = rows.owns_both_added

pub returns-clause-owns_one_added : goal.returns-clause-owns_one_added
returns-clause-owns_one_added c = rows.owns_one_added

pub returns-clause-owns_an_old : goal.returns-clause-owns_an_old
returns-clause-owns_an_old c = rows.owns_an_old

pub returns-clause-owns_one_beyond : goal.returns-clause-owns_one_beyond
returns-clause-owns_one_beyond c = rows.owns_one_beyond

pub returns-clause-owns_one_twice : goal.returns-clause-owns_one_twice
returns-clause-owns_one_twice c = rows.owns_one_twice

pub returns-clause-begins_otherwise : goal.returns-clause-begins_otherwise
returns-clause-begins_otherwise c = rows.begins_otherwise

pub returns-clause-apart : goal.returns-clause-apart
returns-clause-apart c = rows.apart

pub returns-clause-not_apart : goal.returns-clause-not_apart
returns-clause-not_apart c = rows.not_apart

pub returns-clause-keys_owned : goal.returns-clause-keys_owned
returns-clause-keys_owned c = rows.keys_owned

pub returns-clause-keys_not_owned : goal.returns-clause-keys_not_owned
returns-clause-keys_not_owned c = rows.keys_not_owned

pub returns-clause-keys_apart : goal.returns-clause-keys_apart
returns-clause-keys_apart c = rows.keys_apart

pub returns-clause-keys_not_apart : goal.returns-clause-keys_not_apart
returns-clause-keys_not_apart c = rows.keys_not_apart

pub returns-clause-adds_own_keys : goal.returns-clause-adds_own_keys
returns-clause-adds_own_keys c = rows.adds_own_keys

pub returns-clause-adds_others_key : goal.returns-clause-adds_others_key
returns-clause-adds_others_key c = rows.adds_others_key
