pub mod SignedRows
pub mod Going
pub mod Walking
pub mod Combining
pub mod Theorems
pub mod Listing
pub mod Answering
pub mod Examples
