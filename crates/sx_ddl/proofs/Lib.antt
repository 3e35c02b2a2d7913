pub mod ItemLemmas
pub mod LexedLemmas
pub mod NameLemmas
pub mod OptionLemmas
pub mod PieceLemmas
pub mod SetLemmas
pub mod ShapeLemmas
pub mod WalkLemmas
