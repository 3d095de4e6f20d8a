pub mod PatternReadingLaws
pub mod SymbolReadingLaws
pub mod WalkedBitLaws
