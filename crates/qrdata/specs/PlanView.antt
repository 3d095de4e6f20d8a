-- A plan as clauses see it: what is chosen for a symbol (ISO/IEC 18004, 7.4.1).
-- Why: `PlanView`: what `choose` returns and `codewords` takes.
use Rattle.std.specs.Prelude.{◌≡◌, ◌≤◌, ◌<◌, ℕ, List, Some, None, length}
use Rattle.labelcore.specs.declared.level.Level.{Level}
use Rattle.qrdata.specs.declared.mode.Segment.{Segment}
use Rattle.qrdata.specs.Codewords.{symbol_codewords}
use Rattle.qrdata.specs.Fewest.{NoneFits, chosen_segments, chosen_version}
use Rattle.qrdata.specs.Reading.{IsCorrected, IsGuarded, data_in}
use Rattle.qrdata.specs.Segments.{IsSegmentation, cost, segments_bits}
use Rattle.qrdata.specs.Versions.{capacity, total_codewords}

-- the version, the level and the segments of a symbol
pub record PlanView : Type 0 where
  pub version : ℕ
  pub level : Level
  pub segments : List Segment

-- the plan with these three parts
abbrev pub plan_view : ℕ → Level → List Segment → PlanView
plan_view version level segments = record { version = version; level = level; segments = segments }

-- the segments cut the data, and fit the data codewords
pub record HasFittingSegments (plan : PlanView) (bytes : List ℕ) : Type 0 where
  pub cut : IsSegmentation plan.version plan.segments bytes
  pub fits : cost plan.version plan.segments ≤ capacity plan.version plan.level

-- The plan of the data at a level: its version is the smallest from the lowest one in which some segments of the data
-- fit, and in it no segments have fewer bits.
pub record IsBestPlan (lowest : ℕ) (level : Level) (bytes : List ℕ) (plan : PlanView) : Type 0 where
  pub version : chosen_version lowest level bytes ≡ Some plan.version
  pub same_level : plan.level ≡ level
  pub segments : plan.segments ≡ chosen_segments plan.version bytes
  pub cut : IsSegmentation plan.version plan.segments bytes
  pub fits : cost plan.version plan.segments ≤ capacity plan.version plan.level
  pub bits : length (segments_bits plan.version plan.segments bytes) ≡ cost plan.version plan.segments
  pub fewest : (others : List Segment) → IsSegmentation plan.version others bytes
      → cost plan.version plan.segments ≤ cost plan.version others
  pub smallest : (v : ℕ) → lowest ≤ v → v < plan.version → NoneFits v level bytes

-- no segments of the data fit a version from the lowest one to 10
pub record FitsNowhere (lowest : ℕ) (level : Level) (bytes : List ℕ) : Type 0 where
  pub version : chosen_version lowest level bytes ≡ None
  pub nowhere : (v : ℕ) → lowest ≤ v → v ≤ 10 → NoneFits v level bytes

-- The codewords of the symbol of a plan and its data: they are those of the standard, as many as the version has, they read back as
-- the data, and with wrong codewords in each block, up to its error correction codewords, as the data or as nothing; up
-- to half of these, whoever corrects them finds the data.
pub record AreSymbolCodewords (plan : PlanView) (bytes codewords : List ℕ) : Type 0 where
  pub value : codewords ≡ symbol_codewords plan.version plan.level plan.segments bytes
  pub count : length codewords ≡ total_codewords plan.version
  pub read : data_in plan.version plan.level codewords ≡ Some bytes
  pub guarded : IsGuarded plan.version plan.level codewords bytes
  pub corrected : IsCorrected plan.version plan.level codewords bytes
