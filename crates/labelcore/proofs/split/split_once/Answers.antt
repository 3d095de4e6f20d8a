use Rattle.std.proofs.Common.{◌==◌, ◌+◌, ◌<◌, ◌∙◌, ℕ, ap, arith, drop, length, length-drop, subst, sym, take}
use Rattle.std.specs.List.{position_or_len}
use Rattle.std.proofs.lemmas.List.{drop_all, take_all, take_rest}
use Rattle.std.proofs.lemmas.List.Splits.{slice_split_first}
use Rattle.labelcore.proofs.PositionLaws.{list_any-absent, list_any-found, place_found, position-none}
use Rattle.labelcore.proofs.PositionLaws.{slice_split-absent}
use Rattle.labelcore.proofs.split.split_once.Goals as goal

pub returns-in_err-index : goal.returns-in_err-index
returns-in_err-index c =
    let bytes = c.args.bytes.now in
    let p = λ (b : ℕ). b == c.args.at in
    let absent = position-none p bytes c.in_err-index.ensures in
    rw c.from_residual.ensures (record {
      found = sym (list_any-absent p bytes absent);
      before = tt;
      after = tt;
      shorter = tt;
      all_before = take_all (position_or_len p bytes) bytes absent;
      none_after = drop_all (position_or_len p bytes + 1) bytes (omega arith);
      parts = slice_split-absent p bytes absent;
    })

pub returns : goal.returns
returns c =
    let bytes = c.args.bytes.now in
    let p = λ (b : ℕ). b == c.args.at in
    let i = c.in_ok-index.index in
    let place = place_found p bytes i c.in_ok-index.ensures in
    let found = subst (λ (n : ℕ). n < length bytes) place.0 place.1 in
    record {
      found = sym (list_any-found p bytes found);
      before = ap (λ (n : ℕ). take n bytes) place.0;
      after = take_rest bytes (i + 1) ∙ ap (λ (n : ℕ). drop (n + 1) bytes) place.0;
      shorter = omega (arith, ap length (take_rest bytes (i + 1)), length-drop (i + 1) bytes, place.1);
      all_before = tt;
      none_after = tt;
      parts = rw (take_rest bytes (i + 1), place.0) (slice_split_first p bytes 0 found);
    }
