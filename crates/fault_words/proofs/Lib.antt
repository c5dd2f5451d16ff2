pub mod Common
mod CauseLemmas
pub mod FormLemmas
mod RuleLocations
mod TomlLines
pub mod Lemmas
mod Examples
