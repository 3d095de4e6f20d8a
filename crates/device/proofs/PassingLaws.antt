-- Lemmas on a text that is written piece by piece.
use Rattle.std.proofs.Common.{◌≡◌, List, ℕ, [], ◌++◌, ◌+◌, ◌-◌, ◌≤◌, length, take, drop, append_assoc, ◌∙◌, ap, sym}
use Rattle.std.proofs.Common.{subst}
use Rattle.std.proofs.Common.{arith, length-drop, length-take, Bool, true, ◌==◌}
use Rattle.std.proofs.lemmas.Bool.Decides.{nat_tests}
use Rattle.std.specs.Prelude.{slice_range}
use borrow.Rule.Slice.PartMut.{put_mid}
use Rattle.std.proofs.lemmas.Slice.{between_is, take-put_mid}
use Rattle.std.proofs.lemmas.List.{take_all, take-append-drop, drop-drop, drop-append-le, append-nil, length-append}
use Rattle.std.proofs.Math.Seq.{drop-append_seam, drop-append-add}
use Rattle.device.specs.Passing.{PassesOn}

-- a list whose length is tested as 0 is empty
pub is_nil : (xs : List ℕ) (b : Bool) → b ≡ (length xs == 0) → b ≡ true → length xs ≡ 0
is_nil xs b e t = grind (arith, nat_tests)

-- the front grows by n bytes of the rest, as `&rest[n..]` is the rest after it
pub cut_more : (text front rest : List ℕ) (n : ℕ) → text ≡ front ++ rest
    → text ≡ (front ++ take n rest) ++ take (length rest - n) (drop n rest)
cut_more text front rest n e =
    rw (take_all (length rest - n) (drop n rest) (omega (arith, length-drop n rest)))
    (e ∙ (ap (λ (xs : List ℕ). front ++ xs) (sym (take-append-drop n rest))
    ∙ sym (append_assoc front (take n rest) (drop n rest))))

-- the front grows by n of the bytes that are buffered from s to e
pub cut_buffered : (text front bytes : List ℕ) (s e n : ℕ) → text ≡ front ++ slice_range bytes s e
    → text ≡ (front ++ take n (slice_range bytes s e)) ++ slice_range bytes (s + n) e
cut_buffered text front bytes s e n h =
    let buffered = slice_range bytes s e in
    let after : drop n buffered ≡ slice_range bytes (s + n) e = ap (drop n) (between_is bytes s e)
    ∙ (drop-drop n s (take e bytes) ∙ sym (between_is bytes (s + n) e)) in
    h ∙ (ap (λ (xs : List ℕ). front ++ xs) (sym (take-append-drop n buffered))
    ∙ (sym (append_assoc front (take n buffered) (drop n buffered))
    ∙ ap (λ (xs : List ℕ). (front ++ take n buffered) ++ xs) after))

-- more bytes after those that are buffered from s to e
pub buffered_more : (bytes more : List ℕ) (s e n : ℕ) → s ≤ e → e ≤ length bytes → n ≡ length more
    → slice_range (put_mid e n bytes more) s (e + n) ≡ slice_range bytes s e ++ more
buffered_more bytes more s e n low high size =
    between_is (put_mid e n bytes more) s (e + n)
    ∙ (ap (drop s) (take-put_mid e n bytes more (e + n) (omega arith) high)
    ∙ (drop-append-le s (take e bytes) more (omega (arith, length-take e bytes))
    ∙ ap (λ (xs : List ℕ). xs ++ more) (sym (between_is bytes s e))))

-- what was passed on, and more that is buffered
-- `write` of Buffered, the only caller, has three buffers: as it got it, with room made, and with `more` in it
pub PassesOn-more : {S : Type 0} (took : S → S → List ℕ → Type 0) (s t : S) (old mid new more : List ℕ)
    → PassesOn took s t old mid [] → new ≡ mid ++ more → PassesOn took s t old new more
PassesOn-more took s t old mid new more h e = record {
  sent = h.sent;
  taken = h.taken;
  cut =
      ap (λ (xs : List ℕ). xs ++ more) (sym (append-nil old) ∙ h.cut)
      ∙ (append_assoc h.sent mid more ∙ ap (λ (xs : List ℕ). h.sent ++ xs) (sym e));
}

-- nothing is buffered from a place to itself
pub slice_range-none : (bytes : List ℕ) (s e : ℕ) → s ≡ e → slice_range bytes s e ≡ []
slice_range-none bytes s e same = let none : e - s ≡ 0 = omega arith in ap (λ (n : ℕ). take n (drop s bytes)) none

-- where nothing is buffered, all was passed on
pub PassesOn-all : {S : Type 0} (took : S → S → List ℕ → Type 0) (s t : S) (old new more : List ℕ) → new ≡ []
    → PassesOn took s t old new more → took s t (old ++ more)
PassesOn-all took s t old new more none h =
    subst (took s t) (sym (h.cut ∙ (ap (λ (xs : List ℕ). h.sent ++ xs) none ∙ append-nil h.sent))) h.taken

-- two equal texts have the same end of n bytes, where the second part of one is n bytes and that of the other has them
pub same_end : (front last sent held : List ℕ) → front ++ last ≡ sent ++ held → length last ≤ length held
    → drop (length held - length last) held ≡ last
same_end front last sent held e few =
    let whole : length front + length last ≡ length sent + length held =
    sym (length-append front last) ∙ (ap length e ∙ length-append sent held) in
    let places : length front ≡ length sent + (length held - length last) = omega (arith, whole, few) in
    sym (drop-append-add sent held (length held - length last))
    ∙ (ap (λ (n : ℕ). drop n (sent ++ held)) (sym places)
    ∙ (ap (drop (length front)) (sym e) ∙ drop-append_seam front last))

-- the last n of the bytes that are buffered from s to e
pub end_of_buffered : (bytes : List ℕ) (s e n : ℕ) → s + n ≤ e → e ≤ length bytes
    → slice_range bytes (e - n) e ≡ drop (length (slice_range bytes s e) - n) (slice_range bytes s e)
end_of_buffered bytes s e n low high =
    let size : length (slice_range bytes s e) ≡ e - s =
    ap length (between_is bytes s e) ∙ omega (arith, length-drop s (take e bytes), length-take e bytes) in
    let place : s + (length (slice_range bytes s e) - n) ≡ e - n = omega (arith, size, low) in
    between_is bytes (e - n) e
    ∙ (ap (λ (k : ℕ). drop k (take e bytes)) (sym place)
    ∙ (sym (drop-drop (length (slice_range bytes s e) - n) s (take e bytes))
    ∙ ap (drop (length (slice_range bytes s e) - n)) (sym (between_is bytes s e))))

-- the last bytes that were taken, buffered once more
pub PassesOn-repeated : {S : Type 0} (took : S → S → List ℕ → Type 0) (before s : S) (old front last : List ℕ)
    (bytes room : List ℕ) (start end n : ℕ) → took s s [] → start + n ≤ end → end + n ≤ length bytes
    → room ≡ put_mid end n bytes (slice_range bytes (end - n) end) → length last ≡ n
    → PassesOn took before s old (slice_range bytes start end) (front ++ last)
    → PassesOn took s s (slice_range bytes start end) (slice_range room start (end + n)) last
PassesOn-repeated took before s old front last bytes room start end n none low high put size h =
    let held = slice_range bytes start end in
    let held_size : length held ≡ end - start =
    ap length (between_is bytes start end) ∙ omega (arith, length-drop start (take end bytes), length-take end bytes) in
    let same : slice_range bytes (end - n) end ≡ last =
    end_of_buffered bytes start end n low (omega (arith, high))
    ∙ (ap (λ (k : ℕ). drop (length held - k) held) (sym size)
    ∙ same_end (old ++ front) last h.sent held (append_assoc old front last ∙ h.cut)
    (omega (arith, size, held_size, low))) in
    record {
      sent = [];
      taken = none;
      cut =
          ap (λ (xs : List ℕ). held ++ xs) (sym same)
          ∙ sym (ap (λ (xs : List ℕ). slice_range xs start (end + n)) put ∙ buffered_more bytes
          (slice_range bytes (end - n) end) start end n (omega (arith, low)) (omega (arith, high))
          (sym (ap length same ∙ size)));
    }
