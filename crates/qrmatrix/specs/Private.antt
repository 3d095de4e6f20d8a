-- How a symbol is kept and drawn (ISO/IEC 18004, 7.7 to 7.10), as contracts of this crate and of what `qr_reading` takes
-- from it see it. No contract of what is drawn or read rests on these definitions.
pub mod Counting
pub mod RowBits
pub mod Placing
pub mod FunctionRows
pub mod Squares
pub mod PenaltyParts
pub mod MaskOrder
pub mod Drawing
pub mod Narrow
