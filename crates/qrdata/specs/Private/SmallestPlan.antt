-- The plan of the smallest version in a range (ISO/IEC 18004, 7.4.1).
use Rattle.std.specs.Prelude.{◌≡◌, ℕ, ◌<◌, ◌≤◌, List, ◌∷◌, length, drop, IsTrue}
use Rattle.std.specs.Char.{is_ascii_digit}
use Rattle.std.specs.List.{list_all}
use Rattle.labelcore.specs.declared.level.Level.{Level}
use Rattle.qrdata.specs.declared.mode.Mode.{Mode}
use Rattle.qrdata.specs.declared.mode.Segment.{Segment}
use Rattle.qrdata.specs.declared.plan.TheConstants.{MAX_SEGMENTS}
use Rattle.qrdata.specs.declared.firsts.Firsts.{Firsts}
use Rattle.qrdata.specs.declared.firsts.TheConstants.{MAX_BYTES}
use Rattle.qrdata.specs.Fewest.{chosen_segments}
use Rattle.qrdata.specs.PlanView.{PlanView}
use Rattle.qrdata.specs.Private.Firsts.{first_at}
use Rattle.qrdata.specs.Segments.{cost, count_width}
use Rattle.qrdata.specs.Versions.{IsVersion, capacity}

-- a character count has the same bits in two versions, whatever the mode
abbrev pub SameWidths : ℕ → ℕ → Type 0
SameWidths v w = (mode : Mode) → count_width v mode ≡ count_width w mode

-- the best segments of the bytes do not fit in a version
abbrev pub DoNotFit : ℕ → Level → List ℕ → Type 0
DoNotFit version level bytes = capacity version level < cost version (chosen_segments version bytes)

-- the plan has the smallest version in a range in which the best segments of the bytes fit, and it has these segments
pub record IsSmallestPlan (lowest highest : ℕ) (level : Level) (bytes : List ℕ) (plan : PlanView) : Type 0 where
  pub from : lowest ≤ plan.version
  pub to : plan.version ≤ highest
  pub same_level : plan.level ≡ level
  pub same_segments : plan.segments ≡ chosen_segments plan.version bytes
  pub fits : cost plan.version (chosen_segments plan.version bytes) ≤ capacity plan.version level
  pub smallest : (v : ℕ) → lowest ≤ v → v < plan.version → DoNotFit v level bytes

-- in no version of a range do the best segments of the bytes fit
abbrev pub NoPlan : (lowest highest : ℕ) → Level → List ℕ → Type 0
NoPlan lowest highest level bytes = (v : ℕ) → lowest ≤ v → v ≤ highest → DoNotFit v level bytes

-- no version from the lowest one to that before `end` has this many data bits
abbrev pub HaveNoRoom : (lowest end : ℕ) → Level → (bits : ℕ) → Type 0
HaveNoRoom lowest end level bits = (v : ℕ) → lowest ≤ v → v < end → capacity v level < bits

-- the version is the smallest one of a range that has this many data bits
pub record HasRoom (lowest highest : ℕ) (level : Level) (bits version : ℕ) : Type 0 where
  pub from : lowest ≤ version
  pub to : version ≤ highest
  pub known : IsVersion version
  pub fits : bits ≤ capacity version level
  pub smallest : HaveNoRoom lowest version level bits

-- where the best segments of a rest have at most `limit` bits, the table names the first of them
abbrev pub NamesBest : (version : ℕ) (bytes : List ℕ) (limit : ℕ) → Firsts → Type 0
NamesBest version bytes limit firsts =
    (k : ℕ) → k < length bytes → cost version (chosen_segments version (drop k bytes)) ≤ limit
    → first_at firsts k ∷ chosen_segments version (drop (first_at firsts k).len (drop k bytes))
    ≡ chosen_segments version (drop k bytes)

-- a table that names the best first segments of the rests of the bytes
pub record IsTable (version : ℕ) (bytes : List ℕ) (limit : ℕ) (firsts : Firsts) : Type 0 where
  pub few : length bytes ≤ MAX_BYTES
  pub named : NamesBest version bytes limit firsts

-- the segments have `bits` bits, these fit the version, and there is room for the segments in a plan
pub record FitsBits (version : ℕ) (level : Level) (bits : ℕ) (segments : List Segment) : Type 0 where
  pub value : bits ≡ cost version segments
  pub fits : bits ≤ capacity version level
  pub short : length segments ≤ MAX_SEGMENTS

-- the bytes are this many digits
pub record AreDigits (len : ℕ) (bytes : List ℕ) : Type 0 where
  pub size : length bytes ≡ len
  pub digits : IsTrue (list_all is_ascii_digit bytes)
