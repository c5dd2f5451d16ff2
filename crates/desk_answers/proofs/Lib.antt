pub mod Common
pub mod Lists
pub mod ListTexts
pub mod Walk
mod Values
pub mod Readings
pub mod LawLemmas
mod MemberLemmas
