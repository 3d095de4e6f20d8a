-- What is computed of the format and version information.
use Rattle.std.proofs.Common.{◌≡◌, ℕ, ◌<◌, ◌≤◌, List, refl, arith, Bool, true, Some}
use Rattle.std.specs.Prelude.{◌/◌, ◌%◌, ◌^◌, ◌==◌, bit_xor, if◌then◌else◌, map, reverse, Option, None, Some}
use Rattle.std.specs.List.{range_with_len}
use Rattle.gf256.specs.BinaryPolynomial.{binary_remainder}
use Rattle.labelcore.specs.declared.level.Level.{Level}
use Rattle.qrmatrix.specs.Functions.{Role, Format, Version, role}
use Rattle.labelcore.specs.declared.level.Level.TheVariants.{L, M, Q, H}
use Rattle.qrdata.specs.Bits.{number_of}
use Rattle.qrdata.specs.Versions.{side_of}
use Rattle.qrmatrix.specs.Bits.{bit}
use Rattle.qrmatrix.specs.Information.{format_information, version_information}
use Rattle.qrmatrix.specs.Modules.{is_inside}
use Rattle.qrmatrix.specs.Reading.{format_copy_1, format_copy_2, version_copy_1, version_copy_2}
use Rattle.qrmatrix.specs.Reading.{level_of}
use Rattle.labelcore.proofs.Laws.ComputedLaws.{by_version, same_at}

-- the number of the bits of a number
abbrev pub respelled : ℕ → ℕ → ℕ
respelled count information = number_of (reverse (map (bit information) (range_with_len 0 count)))

-- format information as the number of its bits, and the level and the mask that it is read as
pub record FormatReading : Type 0 where
  pub number : ℕ
  pub read : Option (Level × ℕ)

abbrev pub format_reading : Level → ℕ → FormatReading
format_reading level mask =
    let information = format_information level mask in
    let unmasked = bit_xor information 0x5412 in
    record {
      number = respelled 15 information;
      read = if binary_remainder 10 0x537 5 unmasked == 0
          then Some (level_of (unmasked / 2 ^ 13), unmasked / 2 ^ 10 % 8) else None;
    }

abbrev pub format_wanted : Level → ℕ → FormatReading
format_wanted level mask = record { number = format_information level mask; read = Some (level, mask) }

read_at : (level : Level) → map (format_reading level) (range_with_len 0 8)
    ≡ map (format_wanted level) (range_with_len 0 8) → (mask : ℕ) → mask < 8
    → format_reading level mask ≡ format_wanted level mask
read_at level e mask h =
    same_at 0 8 (format_reading level) (format_wanted level) e mask (omega arith) h

pub format_read : (level : Level) (mask : ℕ) → mask < 8
    → format_reading level mask ≡ format_wanted level mask
unfolding format_information binary_remainder number_of
format_read L mask h = read_at L refl mask h
format_read M mask h = read_at M refl mask h
format_read Q mask h = read_at Q refl mask h
format_read H mask h = read_at H refl mask h

-- version information as the number of its bits, its remainder by the generator, and the version that it has
pub record VersionReading : Type 0 where
  pub number : ℕ
  pub remainder : ℕ
  pub version : ℕ

abbrev pub version_reading : ℕ → VersionReading
version_reading v =
    let information = version_information v in
    record {
      number = respelled 18 information;
      remainder = binary_remainder 12 0x1F25 6 information;
      version = information / 2 ^ 12;
    }

abbrev pub version_wanted : ℕ → VersionReading
version_wanted v = record { number = version_information v; remainder = 0; version = v }

pub version_read : (v : ℕ) → 7 ≤ v → v ≤ 10 → version_reading v ≡ version_wanted v
unfolding version_information binary_remainder number_of
version_read v l h = same_at 7 4 version_reading version_wanted refl v l (omega arith)

-- the roles at a list of places, and of each place whether it is in the square
abbrev pub Roles : Type 0
Roles = List (Option Role × Bool)

abbrev pub roles_at : ℕ → List (ℕ × ℕ) → Roles
roles_at v places = map (λ (p : ℕ × ℕ). (role v p.0 p.1, is_inside (side_of v) p.0 p.1)) places

-- the roles of so many bits, all of them in the square
abbrev pub roles_of : (ℕ → Role) → ℕ → Roles
roles_of kind count = map (λ i. (Some (kind i), true)) (range_with_len 0 count)

-- the roles at both copies of the format information or of the version information
pub record Copies : Type 0 where
  pub first : Roles
  pub second : Roles

abbrev pub format_roles : ℕ → Copies
format_roles v = record { first = roles_at v format_copy_1; second = roles_at v (format_copy_2 (side_of v)) }

abbrev pub version_roles : ℕ → Copies
version_roles v =
    record { first = roles_at v (version_copy_1 (side_of v)); second = roles_at v (version_copy_2 (side_of v)) }

abbrev pub twice : Roles → Copies
twice roles = record { first = roles; second = roles }

pub format_copies : (v : ℕ) → 1 ≤ v → v ≤ 10 → format_roles v ≡ twice (roles_of Format 15)
unfolding role
format_copies = by_version format_roles (λ v. twice (roles_of Format 15)) refl

pub version_copies : (v : ℕ) → 7 ≤ v → v ≤ 10 → version_roles v ≡ twice (roles_of Version 18)
unfolding role
version_copies v l h = same_at 7 4 version_roles (λ v. twice (roles_of Version 18)) refl v l (omega arith)
