pub mod ComputedLaws
pub mod EscapeLaws
pub mod FirstBadLaws
pub mod HeldLaws
pub mod KeptLaws
pub mod LinesLaws
pub mod UnitLaws
