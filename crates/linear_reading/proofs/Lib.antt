mod Examples
mod GroupReadingLaws
mod SymbolDataLaws
mod FoundLaws
mod ValueStepLaws
