pub mod Fields
pub mod WholeLine
pub mod OneNumber
pub mod ReadBack
pub mod Enough
pub mod Examples
pub mod RefusalLines
pub mod AskedLayouts
