pub mod Common
pub mod DigitLemmas
pub mod EndLaws
pub mod EndLemmas
pub mod HeadLemmas
pub mod StepLemmas
