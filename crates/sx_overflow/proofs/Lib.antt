pub mod CellRanges
pub mod ChainSteps
pub mod Pieces
pub mod WholeLemmas
pub mod Lengths
pub mod LocalPayload
