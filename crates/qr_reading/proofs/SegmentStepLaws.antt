-- Segments are read one after another: what one gives, and what is read after it.
use Rattle.std.proofs.Common.{◌≡◌, ℕ, zero, suc, ◌-◌, ◌<◌, List, [], ◌++◌, Bool, true, false, refl, sym, ap}
use Rattle.std.proofs.Common.{append_assoc, ◌∙◌}
use Rattle.std.proofs.Common.{arith}
use Rattle.std.proofs.lemmas.Iterator.Adapters.{option_map_id}
use Rattle.std.proofs.lemmas.List.{append-nil}
use Rattle.std.proofs.lemmas.Option.{none-some, same_Some}
use Rattle.std.specs.Prelude.{None, Option, Some}
use Rattle.qr_reading.specs.Private.ReadSoFar.{after, with_rest}
use Rattle.qrdata.specs.Reading.{is_end, segment_at, segments_at}
use Rattle.labelcore.specs.Steps.{◌>>=◌}

none_after : (before : List ℕ) (found : Option (List ℕ × List Bool)) → None ≡ after before found → found ≡ None
unfolding after
none_after before None none = refl
none_after before (Some first) none = absurd (none-some _ none)

others_after : (before first : List ℕ) (others : Option (List ℕ))
    → with_rest (before ++ first) others ≡ with_rest before (others >>= λ others. Some (first ++ others))
unfolding with_rest
others_after before first None = refl
others_after before first (Some others) = ap Some (append_assoc before first others)

-- what is read later, after a segment that was found
joined : (before bytes : List ℕ) (rest : List Bool) (later : List Bool → Option (List ℕ))
    (found : Option (List ℕ × List Bool)) → Some (bytes, rest) ≡ after before found
    → with_rest bytes (later rest)
    ≡ with_rest before (found >>= λ first. later first.1 >>= λ others. Some (first.0 ++ others))
unfolding after
joined before bytes rest later None is = absurd (none-some _ (sym is))
joined before bytes rest later (Some first) is =
    ap (λ (next : List ℕ × List Bool). with_rest next.0 (later next.1)) (same_Some _ _ is)
    ∙ others_after before first.0 (later first.1)

module _ (version : ℕ) (before : List ℕ) (bits : List Bool) where
  -- where a segment is wrong, nothing is read
  pub no_segment : (most : ℕ) → is_end bits ≡ false → None ≡ after before (segment_at version bits)
      → with_rest before (segments_at version most bits) ≡ None
  unfolding segments_at with_rest
  no_segment zero more found = rw more refl
  no_segment (suc most) more found = rw (more, none_after before (segment_at version bits) found) refl

  -- a segment, and those after it
  pub one_segment : (most : ℕ) (bytes : List ℕ) (rest : List Bool) → 0 < most → is_end bits ≡ false
      → Some (bytes, rest) ≡ after before (segment_at version bits)
      → with_rest bytes (segments_at version (most - 1) rest) ≡ with_rest before (segments_at version most bits)
  unfolding segments_at
  one_segment zero bytes rest some more found = absurd (omega arith)
  one_segment (suc most) bytes rest some more found =
      let less : suc most - 1 ≡ most = omega arith in
      rw (less, more) (joined before bytes rest (segments_at version most) (segment_at version bits) found)

  -- at the end all is read
  pub all_segments : (most : ℕ) → is_end bits ≡ true → with_rest before (segments_at version most bits) ≡ Some before
  unfolding segments_at with_rest
  all_segments zero end = rw end (ap Some (append-nil before))
  all_segments (suc most) end = rw end (ap Some (append-nil before))

pub nothing_read : (before : List ℕ) (found : Option (List ℕ)) → before ≡ [] → with_rest before found ≡ found
unfolding with_rest
nothing_read before found none = rw none (option_map_id found)
