-- The levels of brackets in printed general terms.
pub use Rattle.tptp_source.specs.Levels.{general_levels, general_arguments_levels, all_general_levels}
