pub mod RunLemmas
pub mod FrontLemmas
pub mod ScanLemmas
pub mod ImageLemmas
pub mod ChoiceLemmas
pub mod CountLemmas
pub mod TellingLemmas
