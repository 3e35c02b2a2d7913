pub mod FieldLemmas
pub mod HeadLemmas
pub mod CellLemmas
pub mod FaultLemmas
pub mod OutsideLemmas
pub mod NeedLemmas
